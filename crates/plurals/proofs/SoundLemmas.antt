-- What is read is written so.
use Rattle.std.proofs.Common.{◌≡◌, ◌≤◌, ◌<◌, ◌∙◌, ℕ, arith, refl, sym, List, [], ◌∷◌, ◌++◌, Result}
use Rattle.std.proofs.Common.{Ok, Err, append_assoc, append-nil, cond, false, true, Bool, nat_lt}
use Rattle.std.proofs.lemmas.Bool.Decides.{nat_tests}
use Rattle.std.specs.Prelude.{⊤}
use Rattle.plurals.specs.Readings.{Frame, State, asking, bracketed, choosing, close_from, closed}
use Rattle.plurals.specs.Readings.{ended, finish, grip, halved, has, joining, negating, opened}
use Rattle.plurals.specs.Readings.{step, wants}
use Rattle.plurals.specs.Tokens.{Word, bang, between, close_bracket, colon, modulo, name, number}
use Rattle.plurals.specs.Tokens.{equal_to, open_bracket, question, unequal_to, ◌>>=◌}
use Rattle.plurals.specs.Trees.{IsBound, Tree, alike, grouped, level, named, counted, reduced}
use Rattle.plurals.specs.Trees.{spelling, strength, unlike}
use Rattle.plurals.specs.declared.fault.Problem.{Problem}
use Rattle.plurals.proofs.SpellingLemmas.{runs, strength_bounds, wanted}

-- the words of what waits
abbrev words_of_frame : Frame → List Word
words_of_frame negating = bang ∷ []
words_of_frame opened = open_bracket ∷ []
words_of_frame (joining a operator) = spelling a ++ (between operator ∷ [])
words_of_frame (asking a) = spelling a ++ (question ∷ [])
words_of_frame (choosing a b) = spelling a ++ (question ∷ (spelling b ++ (colon ∷ [])))

abbrev behind : List Frame → List Word
behind [] = []
behind (frame ∷ below) = behind below ++ words_of_frame frame

-- the words that were read
abbrev pub taken : State → List Word
taken (wants stack) = behind stack
taken (has stack last) = behind stack ++ spelling last

-- what waits is bound, and binds tightly enough for what it is the last part of
abbrev IsFit : Frame → List Frame → Type 0
IsFit negating below = ⊤
IsFit opened below = ⊤
IsFit (joining a operator) below =
    IsBound a × (strength operator ≤ level a) × (wanted below ≤ strength operator)
IsFit (asking a) below = IsBound a × (2 ≤ level a) × (wanted below ≤ 1)
IsFit (choosing a b) below = IsBound a × (2 ≤ level a) × IsBound b × (wanted below ≤ 1)

abbrev AreFit : List Frame → Type 0
AreFit [] = ⊤
AreFit (frame ∷ below) = IsFit frame below × AreFit below

abbrev pub IsSound : State → Type 0
IsSound (wants stack) = AreFit stack
IsSound (has stack last) =
    AreFit stack × IsBound last × (wanted stack ≤ level last) × (6 ≤ level last)

-- how tightly the last that waits binds
abbrev top : List Frame → ℕ
top [] = 0
top (frame ∷ below) = grip frame

-- what is there once something is closed, of the same words
record Closes (least : ℕ) (words : List Word) (r : List Frame × Tree) : Type 0 where
  fits : AreFit r.0
  bound : IsBound r.1
  fitting : wanted r.0 ≤ level r.1
  tight : least ≤ level r.1
  loose : top r.0 < least
  same : behind r.0 ++ spelling r.1 ≡ words

wanted_bound : (stack : List Frame) → wanted stack ≤ 7
wanted_bound [] = omega arith
wanted_bound (negating ∷ below) = omega arith
wanted_bound (opened ∷ below) = omega arith
wanted_bound (joining a operator ∷ below) = let b = strength_bounds operator in omega (arith, b.1)
wanted_bound (asking a ∷ below) = omega arith
wanted_bound (choosing a b ∷ below) = omega arith

-- what the last that waits makes of an expression is bound
made : (frame : Frame) (below : List Frame) (a : Tree) → IsFit frame below → IsBound a
    → wanted (frame ∷ below) ≤ level a → 0 < grip frame
    → IsBound (closed frame a) × (wanted below ≤ level (closed frame a))
    × (level (closed frame a) ≡ grip frame)
made negating below a fit bound tight some = ((bound, tight), wanted_bound below, refl)
made opened below a fit bound tight some = absurd (omega (arith, some))
made (joining b operator) below a fit bound tight some =
    ((fit.0, fit.1, bound, omega (arith, tight)), fit.2, refl)
made (asking b) below a fit bound tight some = absurd (omega (arith, some))
made (choosing b c) below a fit bound tight some =
    ((fit.0, fit.1, fit.2, bound), fit.3, refl)

-- and has the same words
same_words : (frame : Frame) (before : List Word) (a : Tree) → 0 < grip frame
    → before ++ spelling (closed frame a) ≡ (before ++ words_of_frame frame) ++ spelling a
same_words negating before a some = grind (arith, append_assoc)
same_words opened before a some = absurd (omega (arith, some))
same_words (joining b operator) before a some = grind (arith, append_assoc)
same_words (asking b) before a some = absurd (omega (arith, some))
same_words (choosing b c) before a some = grind (arith, append_assoc)

-- by whether what waits binds less tightly
closes_by : (is : Bool) (least : ℕ) (frame : Frame) (below : List Frame) (a : Tree)
    → nat_lt (grip frame) least ≡ is → AreFit (frame ∷ below) → IsBound a
    → wanted (frame ∷ below) ≤ level a → least ≤ level a
    → (least ≤ grip frame → Closes least (behind (frame ∷ below) ++ spelling a)
    (close_from least below (closed frame a)))
    → Closes least (behind (frame ∷ below) ++ spelling a)
    (cond is (frame ∷ below, a) (close_from least below (closed frame a)))
closes_by true least frame below a e fits bound fitting tight next = record {
  fits = fits;
  bound = bound;
  fitting = fitting;
  tight = tight;
  loose = grind (arith, nat_tests, e);
  same = refl;
}
closes_by false least frame below a e fits bound fitting tight next =
    next (grind (arith, nat_tests, e))

closes : (least : ℕ) (stack : List Frame) (a : Tree) → 1 ≤ least → AreFit stack → IsBound a
    → wanted stack ≤ level a → least ≤ level a
    → Closes least (behind stack ++ spelling a) (close_from least stack a)
closes least [] a low fits bound fitting tight = record {
  fits = tt;
  bound = bound;
  fitting = fitting;
  tight = tight;
  loose = low;
  same = refl;
}
closes least (frame ∷ below) a low fits bound fitting tight =
    closes_by (nat_lt (grip frame) least) least frame below a refl fits bound fitting tight (λ high.
    let m = made frame below a fits.0 bound fitting (omega (arith, high, low)) in
    rw (← same_words frame (behind below) a (omega (arith, high, low)))
    (closes least below (closed frame a) low fits.1 m.0 m.1 (omega (arith, high, m.2))))

-- what binds less tightly than 2 wants no more than 1
loose_wanted : (stack : List Frame) → top stack < 2 → wanted stack ≤ 1
loose_wanted [] loose = omega arith
loose_wanted (negating ∷ below) loose = absurd (omega (arith, loose))
loose_wanted (opened ∷ below) loose = omega arith
loose_wanted (joining a operator ∷ below) loose =
    let b = strength_bounds operator in absurd (omega (arith, loose, b.0))
loose_wanted (asking a ∷ below) loose = omega arith
loose_wanted (choosing a b ∷ below) loose = omega arith

below_wanted : (stack : List Frame) (least : ℕ) → top stack < least → least ≤ 6
    → wanted stack ≤ least
below_wanted [] least loose low = loose
below_wanted (negating ∷ below) least loose low = absurd (omega (arith, loose, low))
below_wanted (opened ∷ below) least loose low = loose
below_wanted (joining a operator ∷ below) least loose low = omega (arith, loose)
below_wanted (asking a ∷ below) least loose low = loose
below_wanted (choosing a b ∷ below) least loose low = omega (arith, loose)

-- a state is sound, and of these words
pub record Reads (words : List Word) (state : State) : Type 0 where
  pub sound : IsSound state
  pub same : taken state ≡ words

-- after a bracket, a `:` and the end
by_bracket : (words : List Word) (stack : List Frame) (a : Tree) (next : State)
    → Closes 1 words (stack, a) → bracketed stack a ≡ Ok next
    → Reads (words ++ (close_bracket ∷ [])) next
by_bracket words [] a next c e = absurd (cc)
by_bracket words (negating ∷ below) a next c e = absurd (cc)
by_bracket words (opened ∷ below) a next c e =
    let is : has below (grouped a) ≡ next = cc in
    rw (← is) (record {
      sound = (c.fits.1, c.bound, wanted_bound below, omega arith);
      same = rw (← c.same) (grind (arith, append_assoc));
    })
by_bracket words (joining b operator ∷ below) a next c e = absurd (cc)
by_bracket words (asking b ∷ below) a next c e = absurd (cc)
by_bracket words (choosing b d ∷ below) a next c e = absurd (cc)

by_colon : (words : List Word) (stack : List Frame) (a : Tree) (next : State)
    → Closes 1 words (stack, a) → halved stack a ≡ Ok next → Reads (words ++ (colon ∷ [])) next
by_colon words [] a next c e = absurd (cc)
by_colon words (negating ∷ below) a next c e = absurd (cc)
by_colon words (opened ∷ below) a next c e = absurd (cc)
by_colon words (joining b operator ∷ below) a next c e = absurd (cc)
by_colon words (asking b ∷ below) a next c e =
    let is : wants (choosing b a ∷ below) ≡ next = cc in
    rw (← is) (record {
      sound = ((c.fits.0.0, c.fits.0.1, c.bound, c.fits.0.2), c.fits.1);
      same = rw (← c.same) (grind (arith, append_assoc));
    })
by_colon words (choosing b d ∷ below) a next c e = absurd (cc)

by_end : (words : List Word) (stack : List Frame) (a tree : Tree) → Closes 1 words (stack, a)
    → ended (stack, a) ≡ Ok tree → (words ≡ spelling tree) × IsBound tree
by_end words [] a tree c e =
    let is : a ≡ tree = cc in rw (← is) (sym c.same, c.bound)
by_end words (frame ∷ below) a tree c e = absurd (cc)

module _ (stack : List Frame) (a : Tree) (sound : IsSound (has stack a)) where
  at_least : (least : ℕ) → 1 ≤ least → least ≤ 6
      → Closes least (behind stack ++ spelling a) (close_from least stack a)
  at_least least low high =
      closes least stack a low sound.0 sound.1 sound.2 (omega (arith, sound.3, high))

  after_operand : (word : Word) (next : State) → step (has stack a) word ≡ Ok next
      → Reads (taken (has stack a) ++ (word ∷ [])) next
  after_operand (name text) next e = absurd (cc)
  after_operand (number n) next e = absurd (cc)
  after_operand (equal_to tested text) next e = absurd (cc)
  after_operand (unequal_to tested text) next e = absurd (cc)
  after_operand bang next e = absurd (cc)
  after_operand open_bracket next e = absurd (cc)
  after_operand (modulo n) next e =
      let c = at_least 6 (omega arith) (omega arith) in
      let r = close_from 6 stack a in
      let is : has r.0 (reduced r.1 n) ≡ next = cc in
      rw (← is) (record {
        sound = (c.fits, (c.bound, c.tight), below_wanted r.0 6 c.loose (omega arith), omega arith);
        same = rw (← c.same) (grind (arith, append_assoc));
      })
  after_operand (between operator) next e =
      let b = strength_bounds operator in
      let c = at_least (strength operator) (omega (arith, b.0)) (omega (arith, b.1)) in
      let r = close_from (strength operator) stack a in
      let is : wants (joining r.1 operator ∷ r.0) ≡ next = cc in
      rw (← is) (record {
        sound = (
          (
            c.bound,
            c.tight,
            below_wanted r.0 (strength operator) c.loose
                (omega (arith, b.1)),
          ),
          c.fits,
        );
        same = rw (← c.same) (grind (arith, append_assoc));
      })
  after_operand question next e =
      let c = at_least 2 (omega arith) (omega arith) in
      let r = close_from 2 stack a in
      let is : wants (asking r.1 ∷ r.0) ≡ next = cc in
      rw (← is) (record {
        sound = ((c.bound, c.tight, loose_wanted r.0 c.loose), c.fits);
        same = rw (← c.same) (grind (arith, append_assoc));
      })
  after_operand colon next e =
      let r = close_from 1 stack a in
      by_colon (taken (has stack a)) r.0 r.1 next (at_least 1 (omega arith) (omega arith)) e
  after_operand close_bracket next e =
      let r = close_from 1 stack a in
      by_bracket (taken (has stack a)) r.0 r.1 next (at_least 1 (omega arith) (omega arith)) e

  pub at_end : (tree : Tree) → finish (has stack a) ≡ Ok tree
      → (taken (has stack a) ≡ spelling tree) × IsBound tree
  at_end tree e =
      let r = close_from 1 stack a in
      by_end (taken (has stack a)) r.0 r.1 tree (at_least 1 (omega arith) (omega arith)) e

-- after one more word
one_word : (state : State) (word : Word) (next : State) → IsSound state
    → step state word ≡ Ok next → Reads (taken state ++ (word ∷ [])) next
one_word (has stack a) word next sound e = after_operand stack a sound word next e
one_word (wants stack) (name text) next sound e =
    let is : has stack (named text) ≡ next = cc in
    rw (← is) (record { sound = (sound, tt, wanted_bound stack, omega arith); same = refl })
one_word (wants stack) (number n) next sound e =
    let is : has stack (counted n) ≡ next = cc in
    rw (← is) (record { sound = (sound, tt, wanted_bound stack, omega arith); same = refl })
one_word (wants stack) (equal_to tested text) next sound e =
    let is : has stack (alike tested text) ≡ next = cc in
    rw (← is) (record { sound = (sound, tt, wanted_bound stack, omega arith); same = refl })
one_word (wants stack) (unequal_to tested text) next sound e =
    let is : has stack (unlike tested text) ≡ next = cc in
    rw (← is) (record { sound = (sound, tt, wanted_bound stack, omega arith); same = refl })
one_word (wants stack) bang next sound e =
    let is : wants (negating ∷ stack) ≡ next = cc in
    rw (← is) (record { sound = (tt, sound); same = refl })
one_word (wants stack) open_bracket next sound e =
    let is : wants (opened ∷ stack) ≡ next = cc in
    rw (← is) (record { sound = (tt, sound); same = refl })
one_word (wants stack) (modulo n) next sound e = absurd (cc)
one_word (wants stack) (between operator) next sound e = absurd (cc)
one_word (wants stack) question next sound e = absurd (cc)
one_word (wants stack) colon next sound e = absurd (cc)
one_word (wants stack) close_bracket next sound e = absurd (cc)

-- after one more word and the rest
by_step : (words : List Word) (state : State) (word : Word) (end : State)
    (stepped : Result State Problem) → step state word ≡ stepped → IsSound state
    → stepped >>= (λ next. runs next words) ≡ Ok end
    → ((next : State) → IsSound next → runs next words ≡ Ok end
    → Reads (taken next ++ words) end) → Reads (taken state ++ (word ∷ words)) end
by_step words state word end (Err problem) s sound e rest = absurd (cc)
by_step words state word end (Ok next) s sound e rest =
    let one = one_word state word next sound s in
    let more = rest next one.sound e in
    record {
      sound = more.sound;
      same = more.same ∙ (rw one.same (append_assoc (taken state) (word ∷ []) words));
    }

-- after all words
pub all_words : (words : List Word) (state end : State) → IsSound state
    → runs state words ≡ Ok end → Reads (taken state ++ words) end
all_words [] state end sound e = let is : state ≡ end = cc in
    rw (← is) (record { sound = sound; same = sym (append-nil (taken state)) })
all_words (word ∷ words) state end sound e =
    by_step words state word end (step state word) refl sound e
    (λ next fits rest. all_words words next end fits rest)

pub written : (state : State) (tree : Tree) → IsSound state → finish state ≡ Ok tree
    → (taken state ≡ spelling tree) × IsBound tree
written (wants stack) tree sound e = absurd (cc)
written (has stack a) tree sound e = at_end stack a sound tree e
