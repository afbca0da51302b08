-- What holds of things if nothing is told of them, one after the other.
use Rattle.std.proofs.Common.{◌≡◌, arith, ℕ, ◌+◌, ◌<◌, List, ◌++◌, get_or, length}
use Rattle.std.proofs.Common.{length-append, take}
use Rattle.std.proofs.lemmas.List.Elements.{All-more}
use Rattle.std.specs.List.{All}

-- it holds of one more
pub placed_more : {A : Type 0} (P : A → Type 0) (xs : List A) (i : ℕ) (d : A)
    (reported more new : List ℕ) → i < length xs → (length reported ≡ 0 → All P (take i xs))
    → (length more ≡ 0 → P (get_or xs i d)) → new ≡ reported ++ more → length new ≡ 0
    → All P (take (i + 1) xs)
placed_more P xs i d reported more new within so_far one pushed empty =
    let both = length-append reported more in
    let none : length (reported ++ more) ≡ 0 = rw pushed at empty in
    All-more P xs i d within (so_far (omega (arith, both, none))) (one (omega (arith, both, none)))
