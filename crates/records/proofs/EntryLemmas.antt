-- The entries of a table, one after the other.
use Rattle.std.proofs.Common.{◌≡◌, ◌∙◌, List, [], ◌∷◌, ◌++◌, ap, append-nil, append_assoc, map, Err}
use Rattle.std.proofs.Common.{Ok, refl, sym}
use Rattle.std.proofs.lemmas.List.{map-append}
use Rattle.records.specs.Tables.{AreEntries, AreOf, At, Entry, Gives, as_read, faults_in}
use Rattle.records.specs.Tables.{records_in}
use Rattle.records.specs.{declared.fault.Fault.Fault, declared.separator.Separator.Separator}
use Rattle.records.specs.declared.table.Record.{Record}

-- what was read from one place on, as far as another
pub record HasRead (separator : Separator) (from to : At) (entries : List Entry) : Type 0 where
  pub goes_on : (more : List Entry) → AreEntries separator more to
      → AreEntries separator (entries ++ more) from

pub none_read : (separator : Separator) (from : At) → HasRead separator from from []
none_read separator from = record { goes_on = λ more are. are }

pub one_read : (separator : Separator) (from to next : At) (entries : List Entry) (entry : Entry)
    → HasRead separator from to entries → Gives separator entry to next
    → HasRead separator from next (entries ++ (entry ∷ []))
one_read separator from to next entries entry so_far gives = record {
  goes_on = λ more are. rw (append_assoc entries (entry ∷ []) more)
      (so_far.goes_on (entry ∷ more) (next, gives, are));
}

pub all_read : (separator : Separator) (from to : At) (entries : List Entry)
    → HasRead separator from to entries → to.text ≡ [] → AreEntries separator entries from
all_read separator from to entries so_far end = rw (append-nil entries) at (so_far.goes_on [] end)

-- ---- what is kept of them

records-append : (entries others : List Entry)
    → records_in (entries ++ others) ≡ records_in entries ++ records_in others
records-append [] others = refl
records-append (Ok read ∷ entries) others = ap (λ l. read ∷ l) (records-append entries others)
records-append (Err fault ∷ entries) others = records-append entries others

faults-append : (entries others : List Entry)
    → faults_in (entries ++ others) ≡ faults_in entries ++ faults_in others
faults-append [] others = refl
faults-append (Ok read ∷ entries) others = faults-append entries others
faults-append (Err fault ∷ entries) others = ap (λ l. fault ∷ l) (faults-append entries others)

module _ (entries : List Entry) (old new : List Record) (faults : List Fault)
    (so_far : AreOf entries old faults) where
  pub record_kept : (kept : Record) → new ≡ old ++ (kept ∷ [])
      → AreOf (entries ++ (Ok (as_read kept) ∷ [])) new faults
  record_kept kept e = record {
    same_records = ap (map as_read) e ∙ (map-append as_read old (kept ∷ [])
        ∙ (ap (λ l. l ++ (as_read kept ∷ [])) so_far.same_records
        ∙ sym (records-append entries (Ok (as_read kept) ∷ []))));
    same_faults = so_far.same_faults
        ∙ (sym (append-nil (faults_in entries))
        ∙ sym (faults-append entries (Ok (as_read kept) ∷ [])));
  }

  pub fault_kept : (fault : Fault) (all : List Fault) → all ≡ faults ++ (fault ∷ [])
      → AreOf (entries ++ (Err fault ∷ [])) old all
  fault_kept fault all e = record {
    same_records = so_far.same_records
        ∙ (sym (append-nil (records_in entries))
        ∙ sym (records-append entries (Err fault ∷ [])));
    same_faults = e ∙ (ap (λ l. l ++ (fault ∷ [])) so_far.same_faults
        ∙ sym (faults-append entries (Err fault ∷ [])));
  }
