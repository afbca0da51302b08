-- The bytes of a name are those of its characters.
use Rattle.std.proofs.lemmas.Str.{encodes-chars}

-- a key is compared by its bytes, and looked up by its characters
pub ruleset name_bytes = (encodes-chars)
