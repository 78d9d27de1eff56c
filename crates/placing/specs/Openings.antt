-- Which containers are free, how many are, and which is the next on the way round.
use Rattle.std.specs.Prelude.{◌≡◌, ℕ, ◌+◌, ◌-◌, ◌<◌, ◌≤◌, cond, [], length, count_by, find, Option, nat_lt}
use Rattle.std.specs.List.{range_with_len}
use Rattle.std.specs.Option.{option_or}
use Rattle.records.specs.Records.{Contents}
use Rattle.devices.specs.Questions.{records_of, unused, is_free}

-- how many containers are free
abbrev pub free_count : Contents → ℕ
free_count cs = count_by unused cs

-- the first free container from a to before b
abbrev pub free_in : Contents → ℕ → ℕ → Option ℕ
free_in cs a b = find (is_free cs) (range_with_len a (b - a))

-- the way round begins behind the one opened last, or at the first where that is none of the n
abbrev pub behind : ℕ → ℕ → ℕ
behind last n = cond (nat_lt last n) (last + 1) 0

-- the next free container, up to the last one and then from the first on to where the way began
abbrev pub next_free : Contents → ℕ → Option ℕ
next_free cs last = option_or (free_in cs (behind last (length cs)) (length cs)) (free_in cs 0 (behind last (length cs)))

-- a container that is there and has no records
pub record Free (cs : Contents) (c : ℕ) : Type 0 where
  pub here : c < length cs
  pub none : records_of cs c ≡ []

-- k comes before c on the way round from behind last: both on the way up, k there and c on the second way up, which begins at 0, or both on that
pub data Before (last k c : ℕ) : Type 0 where
  up : last < k → k < c → Before last k c
  across : last < k → c ≤ last → Before last k c
  round : k < c → c ≤ last → Before last k c
