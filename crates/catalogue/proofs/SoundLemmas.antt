-- Lines of which nothing is reported are sound, and so is the one that is found.
use Rattle.std.proofs.Common.{◌≡◌, refl, ℕ, ◌+◌, Bool, true, false, cond, arith, ltb-true, List, []}
use Rattle.std.proofs.Common.{◌∷◌, ◌++◌, Option, None, Some, Result, Ok, Err, codes, inl, inr, map}
use Rattle.std.proofs.Common.{subst, length, length-append}
use Rattle.std.proofs.lemmas.{Bool.Decides.nat_tests, List.Elements.All-cons, List.Elements.All-nil}
use Rattle.std.specs.{List.All, Option.option_or, Str.bytes_eq}
use Rattle.interpolator.specs.Faults.{Fault, fault, fault_place}
use Rattle.interpolator.specs.FaultTexts.{answer_text}
use Rattle.catalogue.specs.Declarations.{Declared, nothing, these, broken, has}
use Rattle.catalogue.specs.Files.{Line, Page, lines_of}
use Rattle.catalogue.specs.Formats.{format_of, line_of_spot, spot_in, report_of_place, written_of}
use Rattle.catalogue.specs.Keys.{IsNew, report_of_key, with_key}
use Rattle.catalogue.specs.Lines.{declared_of, has_message, head_of, is_passed_over, key_of}
use Rattle.catalogue.specs.Lines.{key_with, opens}
use Rattle.catalogue.specs.Sought.{Known, found_among, found_by, found_in, line_for, sought}
use Rattle.catalogue.specs.Sound.{AreSound, IsSound, IsSoundFile, IsSoundFormat, IsSoundOver}
use Rattle.catalogue.specs.FileReports.{report_of_faults, report_of_file, report_of_files}
use Rattle.catalogue.specs.FileReports.{report_of_format}
use Rattle.catalogue.specs.FileReports.{report_of_line, report_of_lines, report_of_message}
use Rattle.catalogue.specs.FileReports.{report_of_more}
use Rattle.catalogue.specs.FileReports.{report_of_rule, report_of_wrong, what_goes_on}
use Rattle.catalogue.specs.FileReports.{what_is_declared}
use Rattle.catalogue.specs.FileReports.{what_is_written}
use Rattle.catalogue.specs.{Examples.faults_of, Forms.Chosen, Forms.first_given}
use Rattle.catalogue.specs.{Reports.reported_at}
use Rattle.catalogue.specs.{Rules.rule_in, Rules.wrong_in, declared.entries.Object.Object}
use Rattle.folds.specs.Lines.{goes_on}
use Rattle.words.specs.Words.{is_equals}
use Rattle.catalogue.proofs.FirstLemmas.{given_holds}

-- something is reported
reported_some : (line : Line) (place : ℕ) (what : List ℕ) → length (reported_at line place what) ≡ 0 → ⊥
reported_some line place what e = absurd (grind (arith, length-append))

newline_some : (text : List ℕ) → length (text ++ codes "\n") ≡ 0 → ⊥
newline_some text e = absurd (grind (arith, length-append))

either_some : (b : Bool) (one other : List ℕ) → (length one ≡ 0 → ⊥) → (length other ≡ 0 → ⊥)
    → length (cond b one other) ≡ 0 → ⊥
either_some true one other this that e = this e
either_some false one other this that e = that e

pub placed_some : (line : Line) (format : List ℕ) (place : ℕ) (what : List ℕ)
    → length (report_of_place line format (Some place) what) ≡ 0 → ⊥
placed_some line format place what e =
    either_some (bytes_eq (written_of line) format) _ _ (newline_some _) (reported_some _ _ what) e

-- nothing is reported only if there is no fault
clean_faults : (line : Line) (format : List ℕ) (fs : List Fault)
    → length (report_of_faults line format (map fault fs)) ≡ 0 → fs ≡ []
clean_faults line format [] e = refl
clean_faults line format (f ∷ fs) e =
    let one = placed_some line format (fault_place f) (answer_text (fault f)) in
    absurd (one (grind (arith, length-append)))

-- nor is a backslash wrong
clean_format : (line : Line) (declared : Declared) (format : Result (List ℕ) ℕ)
    → ((text : List ℕ) → faults_of declared text ≡ [] → IsSoundOver declared text)
    → length (report_of_format line declared format) ≡ 0 → IsSoundFormat declared format
clean_format line declared (Ok text) over e = over text (clean_faults line text _ e)
clean_format line declared (Err place) over e =
    absurd (reported_some (line_of_spot line (spot_in line place)) _ what_is_written e)

-- nor is anything broken
clean_message : (line : Line) (declared : Declared) (format : Result (List ℕ) ℕ)
    → length (report_of_message line declared format) ≡ 0 → IsSoundFormat declared format
clean_message line nothing format e = clean_format line nothing format (λ text h. h) e
clean_message line (these declared) format e =
    clean_format line (these declared) format (λ text h. h) e
clean_message line (broken place) format e = absurd (reported_some line place what_is_declared e)

-- nothing is reported of a key only if it is new
clean_key : (line : Line) (head key : List ℕ) (keys : List (ℕ × List ℕ))
    → length (report_of_key line head key keys) ≡ 0 → IsNew keys key
clean_key line head key keys e = grind (arith, nat_tests, length-append)

-- nor of a rule only if it is whole, and comes first
clean_wrong : (line : Line) (o : Option (ℕ × List ℕ)) → length (report_of_wrong line o) ≡ 0
    → o ≡ None
clean_wrong line None e = refl
clean_wrong line (Some wrong) e = absurd (grind (arith, length-append))

clean_rule : (keys : List (ℕ × List ℕ)) (line : Line) (rule : List ℕ)
    → length (report_of_rule keys line rule) ≡ 0 → (keys ≡ []) × (wrong_in rule ≡ None)
clean_rule [] line rule e = (refl, clean_wrong line (wrong_in rule) e)
clean_rule (key ∷ keys) line rule e = grind (arith, nat_tests, length-append)

-- nor of a line that goes on only if a message may go on there
clean_more : (is_open : Bool) (line : Line) → length (report_of_more is_open line) ≡ 0
    → goes_on line.text ≡ true → is_open ≡ true
clean_more true line e goes = refl
clean_more false line e goes = absurd (reported_some line _ what_goes_on (rw goes at e))

-- two parts are empty if they are together
parts_empty : (one two : List ℕ) → length (one ++ two) ≡ 0 → (length one ≡ 0) × (length two ≡ 0)
parts_empty one two e =
    let both : length one + length two ≡ 0 = simp length-append at e in
    (omega (arith, both), omega (arith, both))

-- nor of a line only if it is sound
clean_line : (keys : List (ℕ × List ℕ)) (is_open : Bool) (line : Line) (passed : Bool)
    (ruled : Option (List ℕ)) (cut : Bool) → is_passed_over line.text ≡ passed
    → rule_in line.text ≡ ruled → has is_equals line.text ≡ cut
    → length (report_of_line keys is_open line) ≡ 0 → IsSound keys is_open line
clean_line keys is_open line true ruled cut p r h e =
    inl (p, clean_more is_open line (rw p at e))
clean_line keys is_open line false (Some rule) cut p r h e =
    let both = clean_rule keys line rule (rw (p, r) at e) in
    inr (inl (record { rule = rule; ruled = r; first = both.0; whole = both.1 }))
clean_line keys is_open line false None true p r h e =
    let of_key = report_of_key line (head_of line.text) (key_of line.text) keys in
    let of_message = report_of_message line (declared_of line.text) (format_of line) in
    let empty = parts_empty of_key of_message (rw (p, r, h) at e) in
    inr (inr (
      ltb-true _ _ h,
      clean_key line (head_of line.text) (key_of line.text) keys empty.0,
      clean_message line (declared_of line.text) (format_of line) empty.1,
    ))
clean_line keys is_open line false None false p r h e =
    absurd (reported_some line 0 (codes "no `=`") (rw (p, r, h) at e))

-- nor of lines
clean_lines : (keys : List (ℕ × List ℕ)) (is_open : Bool) (ls : List Line)
    → length (report_of_lines keys is_open ls) ≡ 0 → AreSound keys is_open ls
clean_lines keys is_open [] e = tt
clean_lines keys is_open (one ∷ rest) e =
    let more = with_key keys one.number (key_with one.text) in
    let empty = parts_empty (report_of_line keys is_open one)
    (report_of_lines more (opens is_open one.text) rest) e in (
      clean_line keys is_open one _ _ _ refl refl refl empty.0,
      clean_lines more (opens is_open one.text) rest empty.1,
    )

-- nor of files
pub clean_files : (pages : List Page) → length (report_of_files pages) ≡ 0 → All IsSoundFile pages
clean_files [] e = All-nil IsSoundFile
clean_files (page ∷ pages) e =
    let empty = parts_empty (report_of_file page) (report_of_files pages) e in
    All-cons IsSoundFile page pages (clean_lines [] false (lines_of page) empty.0)
    (clean_files pages empty.1)

-- what is found is sound over what it declares
abbrev IsSoundFound : Known → Type 0
IsSoundFound known = IsSoundOver known.declared known.format

-- the format of a line is, if the line is sound and has a message
sound_format : (line : Line) (keys : List (ℕ × List ℕ)) (is_open : Bool) (format : List ℕ)
    → has_message line.text ≡ true → format_of line ≡ Ok format → IsSound keys is_open line
    → IsSoundOver (declared_of line.text) format
sound_format line keys is_open format message is (inl skip) =
    absurd (grind (arith, skip.0, message))
sound_format line keys is_open format message is (inr (inl r)) =
    absurd (grind (arith, r.ruled, message))
sound_format line keys is_open format message is (inr (inr s)) =
    subst (IsSoundFormat (declared_of line.text)) is s.2

-- what is found on a test is sound if that is
by_test : (b : Bool) (one : Option Known) (known : Known) → cond b one None ≡ Some known
    → (b ≡ true → one ≡ Some known → IsSoundFound known) → IsSoundFound known
by_test true one known e this = this refl e
by_test false one known e this = absurd (cc)

is_it : (one known : Known) → Some one ≡ Some known → IsSoundFound one → IsSoundFound known
is_it one known e sound = let same : one ≡ known = cc in subst IsSoundFound same sound

-- what is found of a format is, if the format is
by_format : (line : Line) (key : List ℕ) (declared : Declared) (format : Result (List ℕ) ℕ)
    (wanted : Chosen) (known : Known)
    → found_by line key declared format wanted ≡ Some known
    → ((text : List ℕ) → format ≡ Ok text → IsSoundOver declared text) → IsSoundFound known
by_format line key declared (Err place) wanted known e sound = absurd (cc)
by_format line key declared (Ok text) wanted known e sound =
    by_test (bytes_eq key wanted.0) _ known e (λ same this. is_it _ known this (sound text refl))

-- so is a line that is found
sound_found : (wanted : Chosen) (line : Line) (keys : List (ℕ × List ℕ))
    (is_open : Bool) (known : Known) → IsSound keys is_open line
    → line_for wanted line ≡ Some known → IsSoundFound known
sound_found wanted line keys is_open known sound e =
    by_test (has_message line.text) (found_by line (key_of line.text) (declared_of line.text)
    (format_of line) wanted) known e
    (λ message found. by_format line (key_of line.text) (declared_of line.text) (format_of line)
    wanted known found (λ text is. sound_format line keys is_open text message is sound))

-- what is given first, or else later, is sound if both are
by_first : (one rest : Option Known) (known : Known) → option_or one rest ≡ Some known
    → (one ≡ Some known → IsSoundFound known) → (rest ≡ Some known → IsSoundFound known)
    → IsSoundFound known
by_first None rest known e here next = next e
by_first (Some one) rest known e here next = here e

sound_lines : (wanted : Chosen) (keys : List (ℕ × List ℕ)) (is_open : Bool)
    (ls : List Line) (known : Known) → AreSound keys is_open ls
    → first_given (line_for wanted) ls ≡ Some known → IsSoundFound known
sound_lines wanted keys is_open [] known sound e = absurd (cc)
sound_lines wanted keys is_open (one ∷ rest) known sound e =
    by_first (line_for wanted one) (first_given (line_for wanted) rest) known e
    (sound_found wanted one keys is_open known sound.0)
    (sound_lines wanted (with_key keys one.number (key_with one.text)) (opens is_open one.text)
    rest known sound.1)

pub sound_among : (objects : List Object) (key : List ℕ) (pages : List Page) (known : Known)
    → All IsSoundFile pages → found_among objects key pages ≡ Some known
    → IsSoundOver known.declared known.format
sound_among objects key pages known sound e = given_holds (found_in objects key) IsSoundFile
    IsSoundFound (λ page one. sound_lines (sought objects key page.1) [] false
    (lines_of page) one) pages known sound e
