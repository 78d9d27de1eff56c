-- The shape of a strip and of a node, where fingerprints have w bytes.
use Rattle.std.specs.Prelude.{◌≡◌, ℕ, zero, suc, ◌*◌, ◌%◌, ◌≤◌, Bool, ◌&&◌, ◌==◌, nat_le}

-- a strip stands at level 0 and has 1 to 1,024 bytes; a node stands at levels 1 to 6 and lists 1 to 64 children
pub data Shape (w : ℕ) : ℕ → ℕ → Type 0 where
  strip : {bytes : ℕ} → 1 ≤ bytes → bytes ≤ 1024 → Shape w 0 bytes
  node : {level bytes : ℕ} → 1 ≤ level → level ≤ 6 → (children : ℕ) → 1 ≤ children → children ≤ 64 → bytes ≡ children * w → Shape w level bytes

-- the same as a test of the level and the payload's length
abbrev pub shaped : ℕ → ℕ → ℕ → Bool
shaped w zero bytes = nat_le 1 bytes && nat_le bytes 1024
shaped w (suc below) bytes = nat_le (suc below) 6 && (nat_le w bytes && (nat_le bytes (64 * w) && bytes % w == 0))
