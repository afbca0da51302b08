-- The messages of a file, by its tokens.
use Rattle.std.specs.Prelude.{◌≡◌, ◌≢◌, ⊤, ℕ, Bool, true, false, ◌==◌, List, [], ◌∷◌, ◌++◌, codes}
use Rattle.std.specs.Prelude.{if◌then◌else◌, length, map, Result, Ok, Err}
use Rattle.std.specs.{Borrow.Bor, declared.vec.Vec.Vec}
use Rattle.po.specs.Sections.{after_front, fault_at, front, is_fuzzy, optional, section}
use Rattle.po.specs.declared.fault.ReadError.TheVariants.{Broken, NoMemory}
use Rattle.po.specs.{Steps.Leads, declared.entry.Entry.Entry as Lent, declared.fault.Fault.Fault}
use Rattle.po.specs.{declared.fault.Problem.TheVariants.Key, declared.fault.ReadError.ReadError}
use Rattle.po.specs.declared.token.Placed.{Placed}

-- a message, by the strings of its parts
pub record Entry : Type 0 where
  pub fuzzy : Bool
  pub context : List Placed
  pub id : List Placed
  pub plural : List Placed
  pub texts : List (List Placed)

-- what goes on after what was read, and stops at a fault
infixl 10 ◌>>=◌
abbrev pub ◌>>=◌ : {A B E : Type 0} → Result A E → (A → Result B E) → Result B E
(Ok x) >>= next = next x
(Err e) >>= next = Err e

-- the strings of forms, and the tokens after them
abbrev pub Forms : Type 0
Forms = List (List Placed) × List Placed

-- the keywords of forms
abbrev pub form_keys : List (List ℕ)
form_keys = codes "msgstr[0]" ∷ codes "msgstr[1]" ∷ codes "msgstr[2]" ∷ codes "msgstr[3]"
    ∷ codes "msgstr[4]" ∷ codes "msgstr[5]" ∷ codes "msgstr[6]" ∷ codes "msgstr[7]"
    ∷ codes "msgstr[8]" ∷ codes "msgstr[9]" ∷ []

-- forms, and others before them
abbrev pub with_forms : List (List Placed) → Result Forms Fault → Result Forms Fault
with_forms before read = read >>= λ forms. Ok (before ++ forms.0, forms.1)

-- the strings behind these keywords, as far as they come one after the other
abbrev pub forms_by : (end : ℕ) → (keys : List (List ℕ)) → List Placed → Result Forms Fault
forms_by end [] placed = Ok ([], placed)
forms_by end (key ∷ keys) placed = optional end key placed >>= λ taken.
    if length taken.0 == 0 then Ok ([], taken.1)
    else with_forms (taken.0 ∷ []) (forms_by end keys taken.1)

-- the translation of a message: of one without a plural `msgstr`, of another one or more forms
abbrev pub one_form : (end : ℕ) → List Placed → Result Forms Fault
one_form end placed = section end (codes "msgstr") placed >>= λ taken. Ok (taken.0 ∷ [], taken.1)

abbrev pub some_forms : (end : ℕ) → List Placed → Result Forms Fault
some_forms end placed = forms_by end form_keys placed >>= λ forms.
    if length forms.0 == 0 then Err (fault_at end Key placed) else Ok forms

abbrev pub texts : (end : ℕ) → (plural : List Placed) → List Placed → Result Forms Fault
texts end plural placed = if length plural == 0 then one_form end placed else some_forms end placed

-- the message behind the comments with which tokens begin, and the tokens after it
abbrev pub entry_at : (end : ℕ) → List Placed → Result (Entry × List Placed) Fault
entry_at end placed =
    optional end (codes "msgctxt") (after_front true placed) >>= λ context.
    section end (codes "msgid") context.1 >>= λ id.
    optional end (codes "msgid_plural") id.1 >>= λ plural.
    texts end plural.0 plural.1 >>= λ forms.
    Ok (
      record {
        fuzzy = is_fuzzy false (front true placed);
        context = context.0;
        id = id.0;
        plural = plural.0;
        texts = forms.0;
      },
      forms.1,
    )

-- tokens begin with a message, and go on with a rest
abbrev pub ReadsEntry : (end : ℕ) → (placed : List Placed) → Entry → (rest : List Placed) → Type 0
ReadsEntry end placed entry rest = entry_at end placed ≡ Ok (entry, rest)

-- tokens are these messages, and comments at the end
abbrev pub HasEntries : (end : ℕ) → List Placed → List Entry → Type 0
HasEntries end placed entries = (last : List Placed)
    × Leads (ReadsEntry end) placed entries last × (after_front true last ≡ [])

-- tokens are some messages, and then neither one nor the end
abbrev pub BreaksEntries : (end : ℕ) → List Placed → Fault → Type 0
BreaksEntries end placed fault = (entries : List Entry) × (last : List Placed)
    × Leads (ReadsEntry end) placed entries last × (after_front true last ≢ [])
    × (entry_at end last ≡ Err fault)

-- borrows aside
abbrev pub lists_of : List (Bor (List Placed)) → List (List Placed)
lists_of lists = map (λ one. one.now) lists

abbrev pub as_forms : {Z : Type 0} → Vec (Bor (List Placed)) Z × Bor (List Placed) → Forms
as_forms forms = (lists_of forms.0.items, forms.1.now)

abbrev pub as_entry : Lent → Entry
as_entry entry = record {
  fuzzy = entry.is_fuzzy;
  context = entry.context.now;
  id = entry.id.now;
  plural = entry.plural.now;
  texts = lists_of entry.texts.items;
}

abbrev pub as_read : Lent × Bor (List Placed) → Entry × List Placed
as_read read = (as_entry read.0, read.1.now)

-- what a function returned, as it is seen, is what reading gives, unless memory ran out
abbrev pub Gives : {X Y : Type 0} → (X → Y) → Result X ReadError → Result Y Fault → Type 0
Gives view (Ok x) read = read ≡ Ok (view x)
Gives view (Err (Broken fault)) read = read ≡ Err fault
Gives view (Err NoMemory) read = ⊤

-- what a reader answers of the tokens of a file
abbrev pub ReadsEntries : (end : ℕ) → List Placed → {Z : Type 0} → Result (Vec Lent Z) ReadError
    → Type 0
ReadsEntries end placed (Ok entries) = HasEntries end placed (map as_entry entries.items)
ReadsEntries end placed (Err (Broken fault)) = BreaksEntries end placed fault
ReadsEntries end placed (Err NoMemory) = ⊤
