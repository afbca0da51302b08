-- What a writer that escapes has taken, and what the writer below has got.
use Rattle.std.proofs.Common.{◌≡◌, ℕ, ◌<◌, List, [], ◌∷◌, length, Result, refl, sym, ap, arith, ◌∙◌}
use Rattle.std.proofs.Common.{true, false, nat_lt, ◌==◌, ◌||◌, zero, suc, Option, Some, None}
use Rattle.std.proofs.lemmas.Bool.Decides.{nat_tests}
use Rattle.interpolator_render.specs.Writers.{Written, Origin, Layer}
use Rattle.interpolator_render.specs.Texts.{ViewText, Renders, view_text}
use Rattle.interpolator_render.specs.declared.view.RenderFault.{RenderFault}
use Rattle.interpolator_render.specs.{declared.view.Trait.Trait, declared.view.Spec.Spec}
use Rattle.interpolator_escapes.specs.Escapes.{escape_of, escaped, line_escape, json_escape}
use Rattle.interpolator_escapes.specs.Escapes.{is_control}
use Rattle.interpolator_escapes.specs.declared.escape.Escape.TheVariants.{Line, Html, Csv, Json}
use Rattle.interpolator_escapes.specs.declared.escape.Escape.TheVariants.{Shell}
use Rattle.interpolator_escapes.specs.declared.{escape.Escape.Escape, escaping.Escaping.Escaping}
use Rattle.interpolator_escapes.specs.{Wholes.escaped_text, Passing.layers, Passing.or_refused}
use Rattle.interpolator_escapes.specs.{EscapingWriters.escaping_written, Rooms.way_of}
use Rattle.interpolator_escapes.proofs.KeepLemmas.{choose}
use Rattle.interpolator_escapes.proofs.PassingLemmas.{PassedOn, renders_keep, taken}

-- no escape is empty
abbrev HasSome : List ℕ → Type 0
HasSome cs = 0 < length cs

line_some : (c : ℕ) → HasSome (line_escape c)
line_some c =
    choose HasSome (c == 92) _ _ (λ e. omega arith)
    (λ n. choose HasSome (c == 10) _ _ (λ e. omega arith)
    (λ n. choose HasSome (c == 13) _ _ (λ e. omega arith)
    (λ n. choose HasSome (c == 9) _ _ (λ e. omega arith)
    (λ n. choose HasSome (is_control c) _ _
    (λ e. choose HasSome (nat_lt c 256) _ _ (λ e. omega arith) (λ n. omega arith))
    (λ n. omega arith)))))

json_some : (c : ℕ) → HasSome (json_escape c)
json_some c =
    choose HasSome (c == 92) _ _ (λ e. omega arith)
    (λ n. choose HasSome (c == 34) _ _ (λ e. omega arith)
    (λ n. choose HasSome (c == 10) _ _ (λ e. omega arith)
    (λ n. choose HasSome (c == 13) _ _ (λ e. omega arith)
    (λ n. choose HasSome (c == 9) _ _ (λ e. omega arith)
    (λ n. choose HasSome (nat_lt c 32 || (c == 60)) _ _ (λ e. omega arith) (λ n. omega arith))))))

pub escape_some : (escape : Escape) (c : ℕ) → 0 < length (escape_of escape c)
escape_some Line c = line_some c
escape_some Html c = grind (arith, nat_tests)
escape_some Csv c = grind (arith, nat_tests)
escape_some Json c = json_some c
escape_some Shell c = grind (arith, nat_tests)

-- the escape of this number
abbrev of_way : ℕ → Escape
of_way zero = Line
of_way (suc zero) = Html
of_way (suc (suc zero)) = Csv
of_way (suc (suc (suc zero))) = Json
of_way (suc (suc (suc (suc n)))) = Shell

of_way_of : (escape : Escape) → of_way (way_of escape) ≡ escape
of_way_of Line = refl
of_way_of Html = refl
of_way_of Csv = refl
of_way_of Json = refl
of_way_of Shell = refl

same_escape : (a b : Escape) → way_of a ≡ way_of b → a ≡ b
same_escape a b same = sym (of_way_of a) ∙ ap of_way same ∙ of_way_of b

-- the first layer, and the others
abbrev nearest : List Layer → Layer
nearest [] = record { name = 0; way = 0; bound = None; below = None }
nearest (x ∷ xs) = x

abbrev others : List Layer → List Layer
others [] = []
others (x ∷ xs) = xs

-- the text at first
abbrev begun : Option (List ℕ) → List ℕ
begun None = []
begun (Some cs) = cs

-- layers fix the reference, the way and the origin
module _ (n m v w : ℕ) (a b : Origin) (same : layers n v a ≡ layers m w b) where
  pub same_name : n ≡ m
  same_name = ap (λ xs. (nearest xs).name) same

  pub same_way : v ≡ w
  same_way = ap (λ xs. (nearest xs).way) same

  pub same_below : a ≡ b
  same_below =
      let bound : a.bound ≡ b.bound = ap (λ xs. (nearest xs).bound) same in
      let below : a.below ≡ b.below = ap (λ xs. (nearest xs).below) same in
      let through : a.through ≡ b.through = ap others same in grind (arith, bound, below, through)

module _ {W : Type 0} {g : _} (written : W → Written) (first last : Escaping W g) where
  abbrev Renders_through : ViewText → Result (Unit {0}) RenderFault → Type 0
  Renders_through text answer =
      Renders text (escaping_written written first) answer (escaping_written written last)

  -- it is still over the same writer
  pub through_same : (text : ViewText) (answer : Result (Unit {0}) RenderFault)
      → Renders_through text answer → last.out.ghost_name ≡ first.out.ghost_name
  through_same text answer p =
      same_name _ _ _ _ _ _ (ap (λ o. o.through) (renders_keep text _ _ answer p))

  -- and it has got the text, escaped, or a proper beginning of it
  pub through_escaped : (text : ViewText) (answer : Result (Unit {0}) RenderFault) (t : Trait)
      (spec : Spec)
      → PassedOn last.taken.start (escaped last.escape last.taken.text) (written last.out.now)
      → (last.refused ≡ true → (written last.out.now).refused ≡ true)
      → first.taken.text ≡ [] → first.taken.start ≡ (written first.out.now).text
      → (written first.out.now).refused ≡ false → Renders_through text answer
      → Renders (view_text (escaped_text (escape_of first.escape) text) t spec)
      (written first.out.now) (or_refused answer (written last.out.now).refused)
      (written last.out.now)
  through_escaped text answer t spec passed after nothing start clear p =
      let kept = renders_keep text _ _ answer p in
      let through = ap (λ o. o.through) kept in
      let origin = same_below _ _ _ _ _ _ through in
      let escape : last.escape ≡ first.escape =
      same_escape last.escape first.escape (same_way _ _ _ _ _ _ through) in
      let same : last.taken.start ≡ (written first.out.now).text =
      ap (λ (o : Origin). begun o.below) kept ∙ start in
      taken (escape_of first.escape) t spec (written first.out.now) (written last.out.now)
      (escaping_written written first) (escaping_written written last) clear
      (rw (same, escape) at passed) after nothing origin text answer p
