-- What an intake's count begins within.
use Rattle.std.specs.Prelude.{ℕ, ◌≤◌}
use Rattle.std.proofs.Common.{arith}

-- nothing learned is within any capacity
pub none_within : (capacity : ℕ) → 0 ≤ capacity
none_within capacity = omega arith
