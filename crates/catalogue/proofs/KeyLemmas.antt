-- The numbers of keys that a map has, once one more is put in.
use Rattle.std.proofs.Common.{◌≡◌, ℕ, ◌+◌, List, cond, None, Some, arith}
use Rattle.std.specs.HashMap.{HashMap, get_by, hash_map_len}
use Rattle.std.specs.{Borrow.Bor, Str.bytes_eq}
use Rattle.catalogue.specs.{Keys.Remembers, Keys.with_key, Reports.lent}

pub remembers_new : {S : Type 0} (seen : List (ℕ × List ℕ)) (number : ℕ) (key : List ℕ)
    (old new : HashMap (Bor (List ℕ)) ℕ S) → Remembers seen old
    → get_by (λ one. bytes_eq key one.now) old ≡ None
    → ((q : Bor (List ℕ)) → get_by (λ one. bytes_eq q.now one.now) new
    ≡ cond (bytes_eq key q.now) (Some number) (get_by (λ one. bytes_eq q.now one.now) old))
    → hash_map_len new ≡ hash_map_len old + 1 → Remembers (with_key seen number (Some key)) new
remembers_new seen number key old new so_far none puts one_more = record {
  finds = λ k. grind (arith, puts (lent k), so_far.finds k, so_far.finds key, none);
  count = grind (arith, so_far.finds key, so_far.count, none, one_more);
}
