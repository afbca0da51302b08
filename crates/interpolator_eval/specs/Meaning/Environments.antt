-- What names mean while a format is written.
use Rattle.std.specs.Prelude.{ℕ, List, [], ◌∷◌, Option, None, Some, Bool, false, ◌||◌}
use Rattle.std.specs.Prelude.{if◌then◌else◌}
use Rattle.std.specs.Str.{bytes_eq}
use Rattle.interpolator_eval.specs.Slots.{Slots}

-- a context, at most one inner value, and at most one list of the names that may be looked up in
-- the context
pub record Environment (X : Type 0) : Type 0 where
  pub finds : List ℕ → Option (Slots X)
  pub inner : Option (Slots X)
  pub names : Option (List (List ℕ))

-- a name is one of these
abbrev pub is_among : List ℕ → List (List ℕ) → Bool
is_among name [] = false
is_among name (x ∷ xs) = bytes_eq name x || is_among name xs

-- those of the names that are in the list `own`, or all of them if there is no list
abbrev pub names_among : Option (List (List ℕ)) → List (List ℕ) → List (List ℕ)
names_among None names = names
names_among (Some own) [] = []
names_among (Some own) (name ∷ names) =
    if is_among name own then name ∷ names_among (Some own) names else names_among (Some own) names

module _ {X : Type 0} where
  -- what the context finds, and nothing for a name outside the list
  abbrev pub within : Option (List (List ℕ)) → (List ℕ → Option (Slots X)) → List ℕ → Option (Slots X)
  within None finds name = finds name
  within (Some names) finds name = if is_among name names then finds name else None

  -- the inner value at the empty name, if there is one
  abbrev pub inner_or : Option (Slots X) → (List ℕ → Option (Slots X)) → List ℕ → Option (Slots X)
  inner_or (Some t) gives [] = Some t
  inner_or (Some t) gives (c ∷ cs) = gives (c ∷ cs)
  inner_or None gives name = gives name

  -- what the environment has under a name
  abbrev pub slots_under : Environment X → List ℕ → Option (Slots X)
  slots_under e name = inner_or e.inner (within e.names e.finds) name

  -- a context alone
  abbrev pub environment : (List ℕ → Option (Slots X)) → Environment X
  environment finds = record { finds = finds; inner = None; names = None }

  -- an environment with this inner value
  abbrev pub bind : Environment X → Slots X → Environment X
  bind e t = record { finds = e.finds; inner = Some t; names = e.names }

  -- an environment cut to these names: no other name is looked up in the context
  abbrev pub cut : Environment X → List (List ℕ) → Environment X
  cut e names = record { finds = e.finds; inner = e.inner; names = Some (names_among e.names names) }
