-- A fingerprint of one byte: the low byte of the hash of the level and the payload.
use Rattle.std.specs.Prelude.{ℕ, ◌%◌, List, [], ◌∷◌, slice_index}
use Rattle.std.proofs.Common.{lit<}
use Rattle.std.proofs.lemmas.Nat.{mod_below}
use Rattle.keys.specs.Hashing.{fnv1a}
use Rattle.one_byte.specs.declared.byte.OneByte.{OneByte}

abbrev pub low_bytes : OneByte → List ℕ
low_bytes b = b.value ∷ []

abbrev pub low_numbered : ℕ → OneByte
low_numbered n = record { value = n % 256; fits = mod_below n 256 (lit< tt) }

abbrev pub low_of : List ℕ → OneByte
low_of bs = low_numbered (slice_index bs 0)

abbrev pub low_naming : ℕ → List ℕ → OneByte
low_naming level payload = low_numbered (fnv1a (level ∷ payload))
