-- An argument is its parts, one after the other, and the reverse.
use Rattle.std.proofs.Common.{◌≡◌, ℕ, IsFalse, List, [], ◌∷◌, arith, refl, ◌∙◌, sym, subst, Result}
use Rattle.std.proofs.Common.{Ok, Err, Option, inl, inr, eqb-true}
use Rattle.interpolator_syntax.specs.Places.{At, after, strip}
use Rattle.interpolator_syntax.specs.Classes.{front_of, in_class, close_brace, colon}
use Rattle.interpolator_syntax.specs.Readers.{on, give}
use Rattle.interpolator_syntax.specs.SpecTexts.{Request, spec_after}
use Rattle.interpolator_syntax.specs.Arguments.{Argument, argument, asked_by, asked_at, argument_at}
use Rattle.interpolator_syntax.specs.ArgumentGrammar.{IsNamed, Asks, AsksNothing, request_in}
use Rattle.interpolator_syntax.specs.ArgumentGrammar.{IsArgument, IsNoArgument}
use Rattle.interpolator_syntax.specs.declared.class.Class.TheVariants.{WhiteSpace, Name}
use Rattle.interpolator_syntax.specs.{Faults.Fault, Grammar.NotFirst, GrammarParts.Lies}
use Rattle.interpolator_syntax.proofs.LongestLemmas.{at_same, front_longest, longest_front}
use Rattle.interpolator_syntax.proofs.GrammarPartLemmas.{ok_pair, Stripped, stripped}
use Rattle.interpolator_syntax.proofs.{FrontLemmas.front_after, GrammarSpecLemmas.law_spec}
use Rattle.interpolator_syntax.proofs.LocalLemmas.{still}

-- ---- the name

module _ (a : At) where
  abbrev name_from : At
  name_from = after (in_class WhiteSpace) a

  abbrev name_end : At
  name_end = after (in_class Name) name_from

  abbrev name_read : List ℕ
  name_read = front_of (in_class Name) name_from.text

  named_is : IsNamed a name_read name_from.place name_end
  named_is =
      let white = front_longest (in_class WhiteSpace) a.text in
      let named = front_longest (in_class Name) name_from.text in
      grind (arith, front_after (in_class Name) name_from.text, white, named)

-- the request after a name, with that name
abbrev named_so : (start : ℕ) → (name : List ℕ) → (p : ℕ) → (b : At) → Result (Argument × At) Fault
named_so start name p b = on (asked_at start b) (λ x. give (argument name p x))

name_found :
    (a : At) (name : List ℕ) (p : ℕ) (b : At) → IsNamed a name p b
    → argument_at a ≡ named_so a.place name p b
unfolding argument_at
name_found a name p b h = grind (arith, longest_front)

-- ---- after the name

-- what is returned after a name is there
abbrev Reported : (start : ℕ) → (b : At) → Result (Request × At) Fault → Type 0
Reported start b (Ok w) = Asks start b w.0 w.1
Reported start b (Err f) = AsksNothing start b f

-- the text ends where a name does, if neither `:` nor `}` ends the name
name_ends :
    (cs : List ℕ) → ((c : ℕ) (more : List ℕ) → cs ≡ c ∷ more → IsFalse (in_class Name c))
    → NotFirst close_brace cs → NotFirst colon cs → cs ≡ []
name_ends [] stops no_close no_colon = refl
name_ends (c ∷ cs) stops no_close no_colon =
    grind (arith, eqb-true, stops c cs refl, no_close cs, no_colon cs)

module _ (start : ℕ) (b : At) where
  asked_reported :
      ((c : ℕ) (more : List ℕ) → b.text ≡ c ∷ more → IsFalse (in_class Name c)) → (x y : Option At)
      → Stripped close_brace b x → Stripped colon b y → Reported start b (asked_by start b x y)
  asked_reported stops x y h k =
      grind (arith, name_ends b.text stops, (law_spec (still start)).agrees.says)

  after_colon : (m : At) → Lies b (colon ∷ []) m → asked_at start b ≡ spec_after start m
  after_colon m h = grind (arith, at_same)

  only_reported : (o : Result (Request × At) Fault) → Reported start b o → asked_at start b ≡ o
  only_reported (Ok w) (inl s) = rw s.0.1 (ok_pair (sym s.1) (at_same refl (sym s.0.1) ∙ sym s.2))
  only_reported (Ok w) (inr s) =
      rw (after_colon s.0 s.1) ((law_spec (still start)).agrees.only s.0 w.1 w.0 s.2)
  only_reported (Err f) (inl s) = rw (s.0, s.1) refl
  only_reported (Err f) (inr s) =
      rw (after_colon s.0 s.1) ((law_spec (still start)).agrees.only_not s.0 f s.2)

-- ---- the whole argument

module _ (a : At) where
  what_is_reported : Reported a.place (name_end a) (asked_at a.place (name_end a))
  what_is_reported =
      let n = name_end a in
      asked_reported a.place n (named_is a).named.stops (strip close_brace n) (strip colon n)
      (stripped close_brace n) (stripped colon n)

  -- the result at a is an argument there, or why there is none
  abbrev ArgumentSays : Result (Argument × At) Fault → Type 0
  ArgumentSays (Ok w) = IsArgument a w.0 w.1
  ArgumentSays (Err f) = IsNoArgument a f

  reported_says : (o : Result (Request × At) Fault) → Reported a.place (name_end a) o
      → ArgumentSays (on o (λ y. give (argument (name_read a) (name_from a).place y)))
  reported_says (Ok w) t = record { after = name_end a; named = named_is a; asks = t }
  reported_says (Err f) t = record {
    name = name_read a;
    name_place = (name_from a).place;
    after = name_end a;
    named = named_is a;
    refused = t;
  }

  argument_says : ArgumentSays (argument_at a)
  argument_says =
      rw (name_found a (name_read a) (name_from a).place (name_end a) (named_is a))
      (reported_says (asked_at a.place (name_end a)) what_is_reported)

pub argument_is : (a q : At) (x : Argument) → argument_at a ≡ Ok (x, q) → IsArgument a x q
argument_is a q x e = subst (ArgumentSays a) e (argument_says a)

pub only_argument : (a q : At) (x : Argument) → IsArgument a x q → argument_at a ≡ Ok (x, q)
only_argument a q x h =
    let reported = only_reported a.place h.after (Ok (request_in x, q)) h.asks in
    rw (name_found a x.name x.name_place h.after h.named, reported) refl

pub broken_is : (a : At) (f : Fault) → argument_at a ≡ Err f → IsNoArgument a f
broken_is a f e = subst (ArgumentSays a) e (argument_says a)

pub only_broken : (a : At) (f : Fault) → IsNoArgument a f → argument_at a ≡ Err f
only_broken a f h =
    let reported = only_reported a.place h.after (Err f) h.refused in
    rw (name_found a h.name h.name_place h.after h.named, reported) refl
