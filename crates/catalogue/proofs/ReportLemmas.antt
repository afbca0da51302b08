-- What is reported of things, one after the other.
use Rattle.std.proofs.Common.{◌≡◌, refl, sym, ℕ, ◌+◌, ◌<◌, ◌≤◌, List, [], ◌∷◌, ◌++◌}
use Rattle.std.proofs.Common.{append_assoc, get_or, length, map, subst, take}
use Rattle.std.proofs.lemmas.List.{append-nil, map_more, take_all}
use Rattle.catalogue.specs.Reported.{Each}

-- and of one more
each_more : {A : Type 0} (tells : A → List ℕ → Type 0) (xs : List A) (x : A)
    (reported more : List ℕ) → Each tells xs reported → tells x more
    → Each tells (xs ++ (x ∷ [])) (reported ++ more)
each_more tells [] x reported more none one = (more, [], one, refl, rw none (sym (append-nil more)))
each_more tells (y ∷ ys) x reported more so_far one = (
  so_far.0,
  so_far.1 ++ more,
  so_far.2,
  each_more tells ys x so_far.1 more so_far.3 one,
  rw so_far.4 (append_assoc so_far.0 so_far.1 more),
)

pub each_next : {A B : Type 0} (view : A → B) (tells : B → List ℕ → Type 0) (xs : List A)
    (i : ℕ) (x : A) (reported more new : List ℕ) → i < length xs
    → x ≡ get_or xs i x → Each tells (map view (take i xs)) reported → tells (view x) more
    → new ≡ reported ++ more → Each tells (map view (take (i + 1) xs)) new
each_next view tells xs i x reported more new within here so_far one pushed =
    rw (map_more view xs i x within, pushed)
    (each_more tells (map view (take i xs)) (view (get_or xs i x)) reported more so_far
    (subst (λ y. tells (view y) more) here one))

-- and of all, at the end
pub each_last : {A B : Type 0} (view : A → B) (tells : B → List ℕ → Type 0) (xs : List A)
    (i : ℕ) (reported : List ℕ) → length xs ≤ i → Each tells (map view (take i xs)) reported
    → Each tells (map view xs) reported
each_last view tells xs i reported past so_far =
    subst (λ ys. Each tells (map view ys) reported) (take_all i xs past) so_far
