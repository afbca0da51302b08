-- What a writer leaves of a text whose characters have places.
use Rattle.interpolator_render.proofs.LayoutLemmas.{appends_none}
use Rattle.std.proofs.Common.{◌≡◌, refl, ◌∙◌, ℕ, ◌+◌, ◌<◌, List, [], ◌∷◌, ◌++◌, length, None, Some}
use Rattle.std.proofs.Common.{inl, inr, arith, Err}
use Rattle.std.proofs.lemmas.List.{map-append}
use Rattle.std.specs.Char.{len_utf8}
use Rattle.interpolator_render.specs.declared.{view.Trait.Trait, view.RenderFault.RenderFault}
use Rattle.interpolator_render.specs.declared.view.RenderFault.TheVariants as render_faults
use Rattle.interpolator_render.specs.Texts.{ViewText, Renders}
use Rattle.interpolator_render.specs.Writers.{Written, Appends, AppendsBeginning, Refuses, GoesOver}
use Rattle.interpolator_render.specs.Writers.{byte_count, first_size}
use Rattle.interpolator_syntax.specs.Places.{Placed, text_of, placed_at, placed_from, size}
use Rattle.interpolator_syntax.specs.Faults.{fault, fmt}
use Rattle.interpolator_eval.specs.Meaning.Meanings.{text_alone, view_means}
use Rattle.interpolator_eval.specs.Meaning.Outcomes.{Outcome}
use Rattle.interpolator_syntax.proofs.{LocalityLemmas.size-append, CharacterLemmas.length-encodes}

text_of-placed_at : (p : ℕ) (cs : List ℕ) → text_of (placed_at p cs) ≡ cs
text_of-placed_at p [] = refl
text_of-placed_at p (c ∷ cs) = grind (arith, text_of-placed_at p cs)

text_of-placed_from : (p : ℕ) (cs : List ℕ) → text_of (placed_from p cs) ≡ cs
text_of-placed_from p [] = refl
text_of-placed_from p (c ∷ cs) = grind (arith, text_of-placed_from (p + len_utf8 c) cs)

pub placed_from-append : (p : ℕ) (xs ys : List ℕ)
    → placed_from p (xs ++ ys) ≡ placed_from p xs ++ placed_from (p + size xs) ys
placed_from-append p [] ys = grind arith
placed_from-append p (c ∷ cs) ys = grind (arith, placed_from-append (p + len_utf8 c) cs ys)

-- a writer refused a text whose characters are each at the end of those before it
module _ (placed : List ℕ → Placed) (own : (cs : List ℕ) → text_of (placed cs) ≡ cs)
    (end : List ℕ → ℕ)
    (split : (front : List ℕ) (c : ℕ) (rest : List ℕ)
    → (back : Placed) × (placed (front ++ (c ∷ rest)) ≡ placed front ++ ((c, end front) ∷ back)))
    (cs : List ℕ) (old new : Written) (h : AppendsBeginning old cs new) where
  refused_before : (rest : List ℕ) → cs ≡ h.beginning ++ rest → 0 < length rest
      → GoesOver old.origin.bound old.refused (byte_count new.text + first_size rest)
      → Outcome (text_alone (placed cs)) old new (Some (fault (fmt (end h.beginning))))
  refused_before [] e n o = absurd (omega arith)
  refused_before (c ∷ rest) e n o =
      inr (inl (record {
        front = placed h.beginning;
        c = c;
        place = end h.beginning;
        back = (split h.beginning c rest).0;
        split = rw e (split h.beginning c rest).1;
        appended = rw (own h.beginning) h.appended;
        flag = h.flag_set;
        none_after_refusal = rw (own h.beginning) h.none_after_refusal;
        same_origin = h.same_origin;
        over = o;
        reported = refl;
      }))

  refused : Outcome (text_alone (placed cs)) old new (Some (fault (fmt (end h.beginning))))
  refused = refused_before h.rest h.parts h.not_whole h.over

-- a text whose characters are all at one place was written whole, or refused
pub wrote_at : (p : ℕ) (cs : List ℕ) (old new : Written) → Appends old cs new
    → Outcome (text_alone (placed_at p cs)) old new None
wrote_at p cs old new h = grind (arith, text_of-placed_at)

pub refused_at : (p : ℕ) (cs : List ℕ) (old new : Written) → AppendsBeginning old cs new
    → Outcome (text_alone (placed_at p cs)) old new (Some (fault (fmt p)))
refused_at p =
    refused (placed_at p) (text_of-placed_at p) (λ xs. p)
    (λ front c rest. (placed_at p rest, map-append (λ c. (c, p)) front (c ∷ rest)))

-- a text whose characters are one after the other was written whole, or refused
pub wrote_from : (p : ℕ) (cs : List ℕ) (old new : Written) → Appends old cs new
    → Outcome (text_alone (placed_from p cs)) old new None
wrote_from p cs old new h = grind (arith, text_of-placed_from)

pub refused_from :
    (p : ℕ) (cs : List ℕ) (taken : ℕ) (old new : Written) → Refuses old cs taken new
    → Outcome (text_alone (placed_from p cs)) old new (Some (fault (fmt (p + taken))))
refused_from p cs taken old new h =
    rw (h.counted ∙ length-encodes h.part.beginning)
    (refused (placed_from p) (text_of-placed_from p) (λ xs. p + size xs)
    (λ front c rest. (_, placed_from-append p front (c ∷ rest))) cs old new h.part)

-- a writer takes less of a refused text than all of it
pub taken_fits :
    (cs : List ℕ) (taken : ℕ) (old new : Written) → Refuses old cs taken new → taken < size cs + 1
taken_fits cs taken old new h = grind (arith, size-append, length-encodes)

-- a view was refused
pub view_refused : (t : Trait) (p : ℕ) (m : ViewText) (old new : Written)
    → Renders m old (Err render_faults.Refused) new
    → Outcome (view_means t p m) old new (Some (fault (fmt p)))
view_refused t p m old new h = grind (arith, refused_at)

-- or it failed, or was refused: it had a text under its trait
pub view_failed : (t : Trait) (p : ℕ) (m : ViewText) (old new : Written) (f : RenderFault)
    → ¬ (f ≡ render_faults.NotImplemented) → Renders m old (Err f) new
    → Outcome (view_means t p m) old new (Some (fault (fmt p)))
view_failed t p m old new f had h = grind (arith, view_refused, appends_none)
