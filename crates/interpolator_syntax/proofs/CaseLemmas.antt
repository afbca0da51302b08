-- Options, results, lists by their first item, and values that a test chooses.
use Rattle.std.proofs.Common.{◌≡◌, None, Some, Result, Ok, Err, List, ◌∷◌}

pub none_some : {A : Type 0} {x : A} → None ≡ Some x → ⊥
none_some e = cc

pub some_same : {A : Type 0} {x y : A} → Some x ≡ Some y → x ≡ y
some_same e = cc

pub err_ok : {A B : Type 0} {d : B} {x : A} → ◌≡◌ {A = Result A B} (Err d) (Ok x) → ⊥
err_ok e = cc

pub head_same : {A : Type 0} {x y : A} {xs ys : List A} → x ∷ xs ≡ y ∷ ys → x ≡ y
head_same e = cc

pub tail_same : {A : Type 0} {x y : A} {xs ys : List A} → x ∷ xs ≡ y ∷ ys → xs ≡ ys
tail_same e = cc
