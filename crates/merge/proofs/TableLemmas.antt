-- What comes after the header of a table, one after the other.
use Rattle.std.proofs.Common.{◌≡◌, ◌∙◌, refl, ap, ℕ, ◌+◌, Bool, true, false, List, [], ◌∷◌, ◌++◌}
use Rattle.std.proofs.Common.{append-nil, append_assoc, sym, inl, inr, Option, None, Some, Result}
use Rattle.std.proofs.Common.{Ok, Err}
use Rattle.std.specs.Option.{option_map}
use Rattle.merge.specs.Letters.{IsLetter, MergesFrom, PutsIf, WritesEntry, WritesRows}
use Rattle.merge.specs.Table.{AreFaults, AreFaultsBy, HasTrouble, IsReportedOf, IsTrouble, Joins}
use Rattle.merge.specs.Table.{broken, repeats, with_line}
use Rattle.merge.specs.declared.{columns.Kind.Kind, templates.Letters.Letters}
use Rattle.merge.specs.declared.{table.LineFault.LineFault, table.Trouble.Trouble}
use Rattle.merge.specs.declared.{table.Trouble.TheVariants.NotNumber, templates.Fault.Fault}
use Rattle.merge.specs.Values.{IsMisfit}
use Rattle.merge.specs.declared.templates.Fault.TheVariants as why
use Rattle.records.specs.Tables.{AreEntries, At, Entry, Gives}
use Rattle.records.specs.declared.{fault.Fault.Fault as BrokenAt, separator.Separator.Separator}

-- the part of one more
pub join_more : {A : Type 0} (Part : Entry → List A → Type 0) (rows : List Entry) (row : Entry)
    (whole part : List A) → Joins Part rows whole → Part row part
    → Joins Part (rows ++ (row ∷ [])) (whole ++ part)
join_more Part [] row whole part so_far one = (part, [], one, refl, rw (so_far, append-nil part) refl)
join_more Part (x ∷ more) row whole part (first, rest, has, so_far, all) one = (
  first,
  rest ++ part,
  has,
  join_more Part more row rest part so_far one,
  rw (all, append_assoc) refl,
)

-- what was read from one place on, as far as another
pub record HasRead (separator : Separator) (from to : At) (rows : List Entry) : Type 0 where
  pub goes_on : (more : List Entry) → AreEntries separator more to
      → AreEntries separator (rows ++ more) from

pub none_read : (separator : Separator) (from : At) → HasRead separator from from []
none_read separator from = record { goes_on = λ more are. are }

pub one_read : (separator : Separator) (from to next : At) (rows : List Entry) (row : Entry)
    → HasRead separator from to rows → Gives separator row to next
    → HasRead separator from next (rows ++ (row ∷ []))
one_read separator from to next rows row so_far gives = record {
  goes_on = λ more are.
      rw (append_assoc rows (row ∷ []) more) (so_far.goes_on (row ∷ more) (next, gives, are));
}

pub all_read : (separator : Separator) (from to : At) (rows : List Entry)
    → HasRead separator from to rows → to.text ≡ [] → AreEntries separator rows from
all_read separator from to rows so_far end = rw (append-nil rows) at (so_far.goes_on [] end)

-- what is written of no rows
pub no_rows : (letters : Letters) (names : List (List ℕ)) (kinds : List Kind) (writes : Bool)
    (text : List ℕ) → WritesRows letters names kinds writes [] text text (repeats names)
no_rows letters names kinds writes text = record {
  faults = ([], refl, sym (append-nil (repeats names)));
  puts = λ _ _. ([], refl, sym (append-nil text));
  keeps = λ _. refl;
}

split_nil : {A : Type 0} (xs ys : List A) → xs ++ ys ≡ [] → (xs ≡ []) × (ys ≡ [])
split_nil [] ys e = (refl, e)
split_nil (x ∷ xs) ys e = absurd (cc)

-- and of one more
pub rows_more : (letters : Letters) (names : List (List ℕ)) (kinds : List Kind) (writes : Bool)
    (rows : List Entry) (row : Entry) (found new : List LineFault) (old text new_text : List ℕ)
    → WritesRows letters names kinds writes rows old text found
    → WritesEntry letters kinds writes row found new text new_text
    → WritesRows letters names kinds writes (rows ++ (row ∷ [])) old new_text new
rows_more letters names kinds writes rows row found new old text new_text so_far one = record {
  faults = (
    so_far.faults.0 ++ one.reported,
    join_more (IsReportedOf kinds) rows row so_far.faults.0 one.reported so_far.faults.1 one.is,
    one.found ∙ (ap (λ l. l ++ one.reported) so_far.faults.2
        ∙ append_assoc (repeats names) so_far.faults.0 one.reported),
  );
  puts = λ on none.
      let both = split_nil found one.reported (sym one.found ∙ none) in
      let first = so_far.puts on both.0 in
      let letter = one.puts on none in (
        first.0 ++ letter.0,
        join_more (IsLetter letters kinds) rows row first.0 letter.0 first.1 letter.1,
        letter.2 ∙ (ap (λ l. l ++ letter.0) first.2 ∙ append_assoc old first.0 letter.0),
      );
  keeps = λ off. one.keeps off ∙ so_far.keeps off;
}

module _ (letters : Letters) (kinds : List Kind) (asked : Bool) (old new : List LineFault)
    (text new_text : List ℕ) where
  -- a record whose letter was written, or what is wrong with it told
  pub record_written : (writes : Bool) (line : ℕ) (fields : List (List ℕ))
      (trouble : Option Trouble) → HasTrouble kinds fields trouble
      → PutsIf letters kinds writes fields text new_text trouble
      → new ≡ old ++ with_line line trouble → (asked ≡ true → old ≡ [] → writes ≡ true)
      → (asked ≡ false → writes ≡ false)
      → WritesEntry letters kinds asked (Ok (line, fields)) old new text new_text
  record_written true line fields None has puts found on off = record {
    reported = [];
    is = (None, has, refl);
    found = found;
    puts = λ _ _. (puts.0, (has, puts.1), puts.2);
    keeps = λ no. let both = off no in absurd (cc);
  }
  record_written false line fields None has puts found on off = record {
    reported = [];
    is = (None, has, refl);
    found = found;
    puts = λ yes none. let no = on yes (split_nil old [] (sym found ∙ none)).0 in absurd (cc);
    keeps = λ _. puts;
  }
  record_written writes line fields (Some trouble) has puts found on off = record {
    reported = with_line line (Some trouble);
    is = (Some trouble, has, refl);
    found = found;
    puts = λ _ none. let no = (split_nil old _ (sym found ∙ none)).1 in absurd (cc);
    keeps = λ _. puts;
  }

  -- a fault that was told
  pub fault_written : (fault : BrokenAt) → new ≡ old ++ broken fault → new_text ≡ text
      → WritesEntry letters kinds asked (Err fault) old new text new_text
  fault_written fault found same = record {
    reported = broken fault;
    is = refl;
    found = found;
    puts = λ _ none. let no = (split_nil old _ (sym found ∙ none)).1 in absurd (cc);
    keeps = λ _. same;
  }

-- rows have one list of faults
misfit_once : (number : ℕ) (ks : List Kind) (fs : List (List ℕ)) (a b : Option ℕ)
    → IsMisfit number ks fs a → IsMisfit number ks fs b → a ≡ b
misfit_once number [] [] a b p q = p ∙ sym q
misfit_once number (k ∷ ks) (f ∷ fs) a b (inl p) (inl q) =
    misfit_once (number + 1) ks fs a b p.1 q.1
misfit_once number (k ∷ ks) (f ∷ fs) a b (inl p) (inr q) = absurd (q.0 p.0)
misfit_once number (k ∷ ks) (f ∷ fs) a b (inr p) (inl q) = absurd (p.0 q.0)
misfit_once number (k ∷ ks) (f ∷ fs) a b (inr p) (inr q) = p.1 ∙ sym q.1
misfit_once number _ _ a b p q = absurd p

trouble_once : (ks : List Kind) (fs : List (List ℕ)) (shape a b : Option Trouble)
    → IsTrouble ks fs shape a → IsTrouble ks fs shape b → a ≡ b
trouble_once ks fs (Some trouble) a b p q = p ∙ sym q
trouble_once ks fs None a b p q =
    p.2 ∙ (ap (option_map NotNumber) (misfit_once 1 ks fs p.0 q.0 p.1 q.1) ∙ sym q.2)

reported_once : (ks : List Kind) (row : Entry) (a b : List LineFault) → IsReportedOf ks row a
    → IsReportedOf ks row b → a ≡ b
reported_once ks (Ok (line, fields)) a b p q =
    p.2 ∙ (ap (with_line line) (trouble_once ks fields _ p.0 q.0 p.1 q.1) ∙ sym q.2)
reported_once ks (Err fault) a b p q = p ∙ sym q

rows_once : (ks : List Kind) (rows : List Entry) (a b : List LineFault) → AreFaults ks rows a
    → AreFaults ks rows b → a ≡ b
rows_once ks [] a b p q = p ∙ sym q
rows_once ks (row ∷ rows) a b (part, rest, is, more, all) (other, others, has, so, whole) =
    rw (all, whole, reported_once ks row part other is has, rows_once ks rows rest others more so) refl

pub faults_once : (names : List (List ℕ)) (ks : List Kind) (rows : List Entry)
    (a b : List LineFault) → AreFaultsBy names ks rows a → AreFaultsBy names ks rows b → a ≡ b
faults_once names ks rows a b p q =
    p.2 ∙ (ap (λ l. repeats names ++ l) (rows_once ks rows p.0 q.0 p.1 q.1) ∙ sym q.2)

-- after a first look that found no faults, all letters are written
pub settled : (separator : Separator) (letters : Letters) (names : List (List ℕ))
    (kinds : List Kind) (partial : Bool) (from : At) (rows : List Entry) (old mid new : List ℕ)
    → ((entries others : List Entry) → AreEntries separator entries from
    → AreEntries separator others from → entries ≡ others)
    → AreEntries separator rows from → AreFaultsBy names kinds rows [] → mid ≡ old
    → (result : Result (Unit {0}) Fault)
    → MergesFrom separator letters names kinds true from mid new result
    → MergesFrom separator letters names kinds partial from old new result
settled separator letters names kinds partial from rows old mid new once are clean same (Ok _) h = (
  h.0,
  h.1,
  h.2,
  h.3,
  h.4,
  h.5 ∙ ap (λ l. l ++ h.3) same,
)
settled separator letters names kinds partial from rows old mid new once are clean same
    (Err (why.Table reported)) (others, have, faults, some, kept) =
    absurd (some (faults_once names kinds rows reported.items []
    (rw (once others rows have are) at faults) clean))
settled separator letters names kinds partial from rows old mid new once are clean same
    (Err why.Stopped) h = tt
settled separator letters names kinds partial from rows old mid new once are clean same
    (Err (why.Template errors)) h = absurd h
settled separator letters names kinds partial from rows old mid new once are clean same
    (Err (why.Other errors)) h = absurd h
settled separator letters names kinds partial from rows old mid new once are clean same
    (Err why.NoColumn) h = absurd h
settled separator letters names kinds partial from rows old mid new once are clean same
    (Err (why.Unfit found)) h = absurd h
settled separator letters names kinds partial from rows old mid new once are clean same
    (Err (why.OtherUnfit found)) h = absurd h
