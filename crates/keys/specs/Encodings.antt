-- The bytes of each kind of key, and the key that some bytes are.
use Rattle.std.specs.Prelude.{ℕ, ◌%◌, ◌^◌, List, [], ◌∷◌, slice_index}
use Rattle.std.proofs.Common.{lit<}
use Rattle.std.proofs.lemmas.Nat.{mod_below}
use Rattle.keys.specs.Octets.{little, number}
use Rattle.keys.specs.Hashing.{fnv1a}
use Rattle.keys.specs.declared.pair.Pair.{Pair}
use Rattle.keys.specs.declared.fnv.Fnv.{Fnv}

-- the number from home: the hash of a seed byte and then the key's bytes
abbrev pub home_number : ℕ → List ℕ → ℕ
home_number seed bytes = fnv1a (seed ∷ bytes)

-- a pair is its level byte, then its container byte
abbrev pub pair_bytes : Pair → List ℕ
pair_bytes p = p.level ∷ p.container ∷ []

abbrev pub pair_of : List ℕ → Pair
pair_of bs = record {
  level = slice_index bs 0 % 256;
  container = slice_index bs 1 % 256;
  fits = (mod_below (slice_index bs 0) 256 (lit< tt), mod_below (slice_index bs 1) 256 (lit< tt));
}

-- a fingerprint is its number in eight bytes, lowest first
abbrev pub fnv_bytes : Fnv → List ℕ
fnv_bytes f = little 8 f.number

abbrev pub fnv_numbered : ℕ → Fnv
fnv_numbered n = record { number = n % 2 ^ 64; fits = mod_below n (2 ^ 64) (lit< tt) }

abbrev pub fnv_of : List ℕ → Fnv
fnv_of bs = fnv_numbered (number bs)

-- the fingerprint of a level and a payload: the hash of the level byte and then the payload
abbrev pub fnv_naming : ℕ → List ℕ → Fnv
fnv_naming level payload = fnv_numbered (fnv1a (level ∷ payload))
