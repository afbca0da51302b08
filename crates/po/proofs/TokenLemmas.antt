-- The tokens of a file, one by one.
use Rattle.std.proofs.Common.{◌≡◌, ℕ, List, length, Err}
use Rattle.po.specs.Tokens.{ReadsNext, ReadsSpot, ReadsTokens, Spot}
use Rattle.po.specs.declared.fault.ReadError.TheVariants.{Broken, NoMemory}
use Rattle.po.specs.{Steps.Leads, declared.fault.ReadError.ReadError}

-- no token follows some others, for this reason
pub broken_after : (Z : Type 0) (text : List ℕ) (spots : List Spot) (last : List ℕ) (end : ℕ)
    (error : ReadError) → end ≡ length text → Leads (ReadsSpot (length text)) text spots last
    → ReadsNext end last (Err error) → ReadsTokens text {Z = Z} (Err error)
broken_after Z text spots last end (Broken fault) e read breaks =
    (spots, last, read, rw e at breaks)
broken_after Z text spots last end NoMemory e read breaks = tt
