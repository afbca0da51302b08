-- Tokens are one list of entries, or have one fault.
use Rattle.std.proofs.Common.{◌≡◌, ℕ, true, List, [], ◌∙◌, refl, sym, ap, Result, Ok, Err}
use Rattle.po.proofs.OnceLemmas.{IsOnly, IsStuck, read_once}
use Rattle.po.specs.Entries.{BreaksEntries, Entry, HasEntries, ReadsEntry, entry_at}
use Rattle.po.specs.Sections.{after_front, fault_at}
use Rattle.po.specs.declared.{fault.Fault.Fault, fault.Problem.TheVariants.Key, token.Placed.Placed}

-- what was read, or else something of the kind
abbrev read_in : Entry × List Placed → Result (Entry × List Placed) Fault → Entry × List Placed
read_in other (Ok read) = read
read_in other (Err fault) = other

only_entry : (end : ℕ) → IsOnly (ReadsEntry end)
only_entry end placed entry rest other tail e f =
    let same : Ok (entry, rest) ≡ Ok (other, tail) = sym e ∙ f in (
      ap (λ read. (read_in (entry, rest) read).0) same,
      ap (λ read. (read_in (entry, rest) read).1) same,
    )

not_both_results : (read : Result (Entry × List Placed) Fault) (one : Entry × List Placed)
    (fault : Fault) → read ≡ Ok one → read ≡ Err fault → ⊥
not_both_results read one fault e f = absurd (cc)

no_entry : (end : ℕ) (placed : List Placed) → after_front true placed ≡ []
    → entry_at end placed ≡ Err (fault_at end Key [])
no_entry end placed none = rw none refl

stuck_at_end : (end : ℕ) (placed : List Placed) → after_front true placed ≡ []
    → IsStuck (ReadsEntry end) placed
stuck_at_end end placed none entry rest e =
    not_both_results (entry_at end placed) (entry, rest) (fault_at end Key []) e
    (no_entry end placed none)

stuck_at_fault : (end : ℕ) (placed : List Placed) (fault : Fault)
    → entry_at end placed ≡ Err fault → IsStuck (ReadsEntry end) placed
stuck_at_fault end placed fault f entry rest e =
    not_both_results (entry_at end placed) (entry, rest) fault e f

pub entries_once : (end : ℕ) (placed : List Placed) (entries others : List Entry)
    → HasEntries end placed entries → HasEntries end placed others → entries ≡ others
entries_once end placed entries others (last, reads, none) (tail, also, nothing) =
    let all = read_once (ReadsEntry end) (only_entry end) placed entries others last tail reads also
    (stuck_at_end end last none) (stuck_at_end end tail nothing) in
    all.0

pub never_both : (end : ℕ) (placed : List Placed) (entries : List Entry) (fault : Fault)
    → HasEntries end placed entries → BreaksEntries end placed fault → ⊥
never_both end placed entries fault (last, reads, none) (others, tail, also, some, breaks) =
    let all = read_once (ReadsEntry end) (only_entry end) placed entries others last tail reads also
    (stuck_at_end end last none) (stuck_at_fault end tail fault breaks) in
    some (rw (← all.1) none)
