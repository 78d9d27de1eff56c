-- A list of bytes after a write into its middle.
use Rattle.std.specs.Prelude.{ℕ, ◌+◌, List, ◌++◌, length, take, drop}

-- ys in the place of what stood from `at` on
abbrev pub written : ℕ → List ℕ → List ℕ → List ℕ
written at ys xs = take at xs ++ (ys ++ drop (at + length ys) xs)
