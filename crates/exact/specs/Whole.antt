-- A whole use of an exact table: what it covers after a list of keys was learned, and says after a list was marked.
use Rattle.std.specs.Prelude.{◌≡◌, ℕ, true, false, ◌&&◌, List, take}
use Rattle.slots.specs.Tables.{Sound, listed}
use Rattle.exact.specs.Exact.{held_by, exact_meaning}
use Rattle.exact.specs.declared.table.ExactTable.{ExactTable}

-- started, and the keys learned in order as far as there was space: it covers exactly these
pub record Taught {K : Type 0} (bytes : K → List ℕ) (s : ExactTable K) (keys : List K) (t : ExactTable K) : Type 0 where
  pub capacity : (exact_meaning bytes).capacity t ≡ (exact_meaning bytes).capacity s
  pub sealed : t.intake.sealed ≡ false
  pub sound : Sound bytes (held_by t)
  pub exact : (x : K) → (exact_meaning bytes).covers t x ≡ listed bytes (take ((exact_meaning bytes).capacity s) keys) x

-- sealed, and the keys marked: it says yes to exactly those of them that it covers
pub record Marked {K : Type 0} (bytes : K → List ℕ) (s : ExactTable K) (keys : List K) (t : ExactTable K) : Type 0 where
  pub capacity : (exact_meaning bytes).capacity t ≡ (exact_meaning bytes).capacity s
  pub sealed : t.intake.sealed ≡ true
  pub same : held_by t ≡ held_by s
  pub exact : (x : K) → (exact_meaning bytes).says t x ≡ (listed bytes keys x && (exact_meaning bytes).covers s x)
