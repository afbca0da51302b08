-- What is passed on, escaped, and what that says of the text that was to be written.
use Rattle.std.proofs.Common.{◌≡◌, ℕ, ◌<◌, Bool, true, false, List, [], ◌∷◌, ◌++◌, length, Result}
use Rattle.std.proofs.Common.{Ok, Err, refl, sym, ap, ◌∙◌, arith, append_assoc, append-nil}
use Rattle.std.proofs.Common.{length-append, take, drop, flat_map, inr, take-append-drop}
use Rattle.std.proofs.{lemmas.List.length-drop, lemmas.Grind.flat_map-append}
use Rattle.interpolator_render.specs.Writers.{Written, Appends, AppendsBeginning}
use Rattle.interpolator_render.specs.Texts.{ViewText, has_text, view_text, Renders}
use Rattle.interpolator_render.specs.declared.view.RenderFault.{RenderFault}
use Rattle.interpolator_render.specs.declared.view.RenderFault.TheVariants.{Refused}
use Rattle.interpolator_render.specs.{declared.view.Trait.Trait, declared.view.Spec.Spec}
use Rattle.interpolator_render.specs.{declared.view.Trait.TheVariants.Display, Views.some_text}
use Rattle.interpolator_syntax.specs.SpecTexts.{plain_spec}
use Rattle.interpolator_render.proofs.LayoutLemmas.{first_size-append}
use Rattle.interpolator_render.proofs.RenderingLemmas.{plain_text as displayed_plainly}
use Rattle.interpolator_render.proofs.WrittenLemmas.{may_refuse}
use Rattle.interpolator_escapes.specs.Wholes.{escaped_text}
use Rattle.interpolator_escapes.specs.Passing.{HasWhole, HasFront, LacksEnd, NextGoesOver, got_of}
use Rattle.interpolator_escapes.specs.Passing.{or_refused}

-- all that is known of a writer to which a text was passed on
pub record PassedOn (start text : List ℕ) (below : Written) : Type 0 where
  pub whole : HasWhole start text below
  pub front : HasFront start text below
  pub lacks : LacksEnd start text below
  pub over : NextGoesOver start text below

-- a writer that refused has got a proper beginning of the text, and of any that begins with it
pub passed_part : (start text more : List ℕ) (old below : Written) → PassedOn start text below
    → below.refused ≡ true → start ≡ old.text → old.refused ≡ false → below.origin ≡ old.origin
    → AppendsBeginning old (text ++ more) below
passed_part start text more old below passed set same clear origin =
    let n = got_of start below in
    let lacks : n < length text = passed.lacks set in
    record {
      beginning = take n text;
      rest = drop n text ++ more;
      parts = ap (λ t. t ++ more) (sym (take-append-drop n text))
          ∙ append_assoc (take n text) (drop n text) more;
      not_whole = omega (arith, length-append {A = ℕ}, length-drop n text, lacks);
      appended = rw (← same) (passed.front set);
      flag_set = set;
      none_after_refusal = λ before. absurd (grind arith);
      same_origin = origin;
      over = rw (
        clear,
        ← origin,
        first_size-append (drop n text) more (omega (arith, length-drop n text, lacks)),
      )
          (passed.over set);
    }

-- a writer that has not refused has got the text
pub passed_all : (start text : List ℕ) (old below : Written) → PassedOn start text below
    → below.refused ≡ false → start ≡ old.text → old.refused ≡ false → below.origin ≡ old.origin
    → Appends old text below
passed_all start text old below passed unset same clear origin = record {
  appended = rw (← same) (passed.whole unset);
  same_flag = unset ∙ sym clear;
  same_origin = origin;
  only_empty = λ before. absurd (grind arith);
}

-- what renders a view keeps the writer's origin
pub renders_keep : (text : ViewText) (old new : Written) (answer : Result (Unit {0}) RenderFault)
    → Renders text old answer new → new.origin ≡ old.origin
renders_keep text old new answer p = grind arith

-- a writer that got nothing is as it was
pub passed_nothing : (start : List ℕ) (old below : Written) → PassedOn start [] below
    → start ≡ old.text → old.refused ≡ false → below.origin ≡ old.origin → below ≡ old
passed_nothing start old below passed same clear origin = at below.refused refl
  where
    at : (r : Bool) → below.refused ≡ r → below ≡ old
    at true set = absurd (omega (arith, passed.lacks set))
    at false unset =
        let text = passed.whole unset ∙ append-nil start ∙ same in grind (arith, text, unset)

module _ (escape : ℕ → List ℕ) (t : Trait) (spec : Spec) where
  -- a view's text, escaped
  abbrev Escaped : ViewText → Written → Result (Unit {0}) RenderFault → Written → Type 0
  Escaped text old answer new =
      Renders (view_text (escaped_text escape text) t spec) old answer new

  module _ (old below fresh made : Written) (clear : old.refused ≡ false)
      (passed : PassedOn old.text (flat_map escape made.text) below)
      (after : made.refused ≡ true → below.refused ≡ true)
      (nothing : fresh.text ≡ []) (origin : below.origin ≡ old.origin) where
    -- the text was taken: it was written, or a part of it was refused
    taken_all : (cs : List ℕ) (x : Unit {0}) → Appends fresh cs made
        → Escaped (has_text cs) old (or_refused (Ok x) below.refused) below
    unfolding view_text
    taken_all cs x wrote = at below.refused refl
      where
        same : made.text ≡ cs
        same = rw nothing at wrote.appended

        at : (r : Bool) → below.refused ≡ r
            → Renders (has_text (flat_map escape cs)) old (or_refused (Ok x) r) below
        at true set =
            rw (append-nil (flat_map escape cs)) at (passed_part old.text (flat_map escape cs) []
            old below (rw same at passed) set refl clear origin)
        at false unset =
            passed_all old.text (flat_map escape cs) old below (rw same at passed) unset refl clear
            origin

    -- a beginning of it was taken: the writer below had refused a part of that
    taken_part : (cs : List ℕ) → AppendsBeginning fresh cs made
        → Escaped (has_text cs) old (Err Refused) below
    unfolding view_text
    taken_part cs wrote =
        let same : made.text ≡ wrote.beginning = rw nothing at wrote.appended in
        rw (wrote.parts, flat_map-append escape wrote.beginning wrote.rest)
        (passed_part old.text (flat_map escape wrote.beginning) (flat_map escape wrote.rest) old
        below (rw same at passed) (after wrote.flag_set) refl clear origin)

    -- nothing was taken
    taken_nothing : made ≡ fresh → below ≡ old
    taken_nothing same =
        let none : made.text ≡ [] = ap (λ w. w.text) same ∙ nothing in
        passed_nothing old.text old below (rw none at passed) refl clear origin

    pub taken : (text : ViewText) (answer : Result (Unit {0}) RenderFault)
        → Renders text fresh answer made
        → Escaped text old (or_refused answer below.refused) below
    unfolding view_text
    taken text answer p = grind (arith, taken_all, taken_part, taken_nothing)

  -- a writer that had refused takes only the empty text
  module _ (some : (c : ℕ) → 0 < length (escape c)) (old new : Written)
      (set : old.refused ≡ true) where
    some_escaped : (cs : List ℕ) → 0 < length cs → 0 < length (flat_map escape cs)
    some_escaped [] none = absurd (omega arith)
    some_escaped (c ∷ cs) h = omega (arith, length-append (escape c) (flat_map escape cs), some c)

    refused_all : (cs : List ℕ) (x : Unit {0}) → Appends old cs new
        → Appends old (flat_map escape cs) new
    refused_all cs x p = let none = p.only_empty set in rw (none) (rw none at p)

    refused_part : (cs : List ℕ) → AppendsBeginning old cs new
        → AppendsBeginning old (flat_map escape cs) new
    refused_part cs p =
        let none = p.none_after_refusal set in
        let all : cs ≡ p.rest = rw none at p.parts in record {
          beginning = [];
          rest = flat_map escape cs;
          parts = refl;
          not_whole = some_escaped cs (rw all p.not_whole);
          appended = rw none at p.appended;
          flag_set = p.flag_set;
          none_after_refusal = λ _. refl;
          same_origin = p.same_origin;
          over = may_refuse old.origin.bound old.refused _ (inr set);
        }

    pub refused_before : (text : ViewText) (answer : Result (Unit {0}) RenderFault)
        → Renders text old answer new → Escaped text old answer new
    unfolding view_text
    refused_before text answer p = grind (arith, refused_all, refused_part)

-- a text that is displayed plainly, escaped
pub plain_escaped : (escape : ℕ → List ℕ) (cs : List ℕ)
    → view_text (escaped_text escape (view_text (some_text cs) Display plain_spec)) Display
    plain_spec ≡ has_text (flat_map escape cs)
unfolding view_text
plain_escaped escape cs =
    ap (λ text. view_text (escaped_text escape text) Display plain_spec) (displayed_plainly cs)
