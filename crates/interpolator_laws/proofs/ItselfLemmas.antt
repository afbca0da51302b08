-- Each context resembles itself.
use Rattle.std.proofs.Common.{arith, ◌≡◌, ℕ, List, [], ◌∷◌, Option, None, All, inl, inr}
use Rattle.std.proofs.lemmas.List.Elements.{All-cons, All-nil}
use Rattle.interpolator_render.specs.{Views.Shown, declared.view.Spec.Spec}
use Rattle.interpolator_render.specs.declared.view.Trait.{Trait}
use Rattle.interpolator_syntax.specs.Places.{At}
use Rattle.interpolator_eval.specs.Meaning.Environments.{Environment, environment}
use Rattle.interpolator_eval.specs.Meaning.Resembling.{Resembles, ResemblesOn, ResemblesSome}
use Rattle.interpolator_eval.specs.Slots.{Slots, SlotsList, bare, listed, no_slots, slots_and}
use Rattle.interpolator_eval.specs.Slots.{slots_listed}
use Rattle.interpolator_eval.specs.{Meaning.AskedNames.asked_names, Meaning.Meanings.means}
use Rattle.interpolator_pieces.specs.NodeSamples.{faults_over}
use Rattle.interpolator_laws.proofs.ResembleLemmas.{no_fault}

module _ {X : Type 0} (shows : X → Trait → Spec → Shown) where
  mutual
    -- a tree resembles itself
    itself : (t : Slots X) → Resembles shows shows t t
    itself (bare filled) = grind arith
    itself (listed filled ts) = (λ t. grind arith, each_some ts ts (λ item h. h))

    -- each of these trees resembles one of all
    each_some : (ts all : SlotsList X)
        → ((item : Slots X) → ResemblesSome shows shows item ts
        → ResemblesSome shows shows item all)
        → All (λ item. ResemblesSome shows shows item all) (slots_listed ts)
    each_some no_slots all lift = All-nil (λ item. ResemblesSome shows shows item all)
    each_some (slots_and t ts) all lift =
        All-cons (λ item. ResemblesSome shows shows item all) t (slots_listed ts)
        (lift t (inl (itself t)))
        (each_some ts all (λ item h. lift item (inr h)))

  pub resembles_itself : (e : Environment X) (names : List (List ℕ))
      → ResemblesOn shows shows e e names
  resembles_itself e [] = tt
  resembles_itself e (name ∷ names) = grind (arith, itself, resembles_itself e names)

  -- so a format without a fault against some values means none with them
  pub no_fault_itself : (finds : List ℕ → Option (Slots X)) (a : At)
      → faults_over shows finds a ≡ [] → (means shows (environment finds) a).fault ≡ None
  no_fault_itself finds a sound =
      no_fault shows shows finds (environment finds) a sound
      (resembles_itself (environment finds) (asked_names a))
