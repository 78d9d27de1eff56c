-- How long a tape is, and when its bytes and its number of containers are in order.
use Rattle.std.specs.Prelude.{◌≡◌, ℕ, ◌+◌, ◌*◌, ◌<◌, ◌≤◌, Bool, ◌&&◌, List, length, nat_le}
use Rattle.std.specs.List.{AllByRecursion}
use Rattle.records.specs.Limits.{Fits}
use Rattle.tape.specs.Log.{Logged, log_of, log_size, gathered}

-- what the records of one container take at most, where fingerprints have w bytes
abbrev pub container_size : ℕ → ℕ
container_size w = 63 * (w + 4) + 7168

-- the length of a tape of n containers
abbrev pub tape_size : ℕ → ℕ → ℕ
tape_size w n = 16 + n * container_size w

-- a tape has 2 to 32 containers
abbrev pub countable : ℕ → Bool
countable n = nat_le 2 n && nat_le n 32

-- what is true of a tape at all times: n containers, k entries in the first `used` bytes
pub record Good (w n k used : ℕ) (bs : List ℕ) : Type 0 where
  pub narrow : w ≤ 20
  pub few : n ≤ 32
  pub long : length bs ≡ tape_size w n
  pub logged : Logged w k bs
  pub front : log_size w (log_of w k bs) ≡ used
  pub within : AllByRecursion (λ e. e.container < n) (log_of w k bs)
  pub fits : AllByRecursion Fits (gathered n (log_of w k bs))
