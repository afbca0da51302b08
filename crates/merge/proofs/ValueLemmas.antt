-- The views of the fields of a line, one after the other.
use Rattle.std.proofs.Common.{◌≡◌, refl, inl, inr, ℕ, ◌+◌, ◌<◌, ◌≤◌, List, [], ◌∷◌, ◌++◌, length}
use Rattle.std.proofs.Common.{map, drop, get_or, append-nil, append_assoc, Option, None, Some}
use Rattle.std.proofs.lemmas.List.{drop_all, drop_more}
use Rattle.interpolator.specs.declared.View.{View}
use Rattle.merge.specs.{Columns.kinds_in, Values.AreShown, Values.Fits, Values.IsMisfit}
use Rattle.merge.specs.{Values.Shows, declared.columns.Column.Column, declared.columns.Kind.Kind}
use Rattle.merge.specs.declared.columns.Kind.TheVariants as kinds
use Rattle.records.specs.{Spellings.text_of, declared.field.Field.Field}

-- a field whose view there is is what its column wants
shown_fits : (kind : Kind) (field : List ℕ) (view : View) → Shows kind field view → Fits kind field
shown_fits kinds.Text field view h = tt
shown_fits kinds.Number field view h = (h.0, h.1)
shown_fits kinds.Float field view h = (h.0, h.1)

-- if there are all views, no field is a misfit
pub none_misfits : (number : ℕ) (ks : List Kind) (fs : List (List ℕ)) (vs : List View)
    → AreShown ks fs vs → IsMisfit number ks fs None
none_misfits number [] [] [] h = refl
none_misfits number (k ∷ ks) (f ∷ fs) (v ∷ vs) h =
    inl (shown_fits k f v h.0, none_misfits (number + 1) ks fs vs h.1)
none_misfits number _ _ _ h = absurd h

module _ (columns : List Column) (fields : List Field) where
  -- the fields before a place have these views: what is said of the fields from there on is said of
  -- all
  pub record AreShownTo (at : ℕ) (views : List View) : Type 0 where
    pub shown : (more : List View)
        → AreShown (kinds_in (drop at columns)) (map text_of (drop at fields)) more
        → AreShown (kinds_in columns) (map text_of fields) (views ++ more)
    pub misfit : (found : Option ℕ) → IsMisfit (at + 1) (kinds_in (drop at columns))
        (map text_of (drop at fields)) found
        → IsMisfit 1 (kinds_in columns) (map text_of fields) found

  -- all fields have views
  pub all_shown : (at : ℕ) (views : List View) → length columns ≤ at → length fields ≤ at
      → AreShownTo at views → AreShown (kinds_in columns) (map text_of fields) views
  all_shown at views columns_end fields_end so_far =
      rw append-nil at (so_far.shown []
      (rw (drop_all at columns columns_end, drop_all at fields fields_end) tt))

  module _ (at : ℕ) (column : Column) (field : Field) (some_columns : at < length columns)
      (some_fields : at < length fields) (here : field ≡ get_or fields at field)
      (views : List View) (so_far : AreShownTo at views) where
    -- the view of one more field
    pub shown_more : (view : View)
        → Shows (get_or columns at column).kind (text_of field) view
        → AreShownTo (at + 1) (views ++ (view ∷ []))
    shown_more view one = record {
      shown = λ more h. rw append_assoc (so_far.shown (view ∷ more)
          (rw (drop_more columns at column, drop_more fields at field, ← here) (one, h)));
      misfit = λ found h. so_far.misfit found
          (rw (drop_more columns at column, drop_more fields at field, ← here)
          (inl (shown_fits _ _ view one, h)));
    }

    -- the next field is the first misfit
    pub misfit_here : ¬ Fits (get_or columns at column).kind (text_of field)
        → IsMisfit 1 (kinds_in columns) (map text_of fields) (Some (at + 1))
    misfit_here none = so_far.misfit (Some (at + 1))
        (rw (drop_more columns at column, drop_more fields at field, ← here) (inr (none, refl)))
