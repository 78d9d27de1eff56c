-- Lists of bytes: when they are bytes, when two are the same, and numbers written in them lowest byte first.
use Rattle.std.specs.Prelude.{ℕ, zero, suc, ◌+◌, ◌*◌, ◌/◌, ◌%◌, ◌<◌, Bool, true, false, ◌&&◌, List, [], ◌∷◌, ◌==◌}
use Rattle.std.specs.List.{AllByRecursion}

-- every number of the list is a byte
abbrev pub Bytes : List ℕ → Type 0
Bytes bs = AllByRecursion (λ b. b < 256) bs

-- whether two lists have the same bytes at the same places
abbrev pub same_bytes : List ℕ → List ℕ → Bool
same_bytes [] [] = true
same_bytes [] (y ∷ ys) = false
same_bytes (x ∷ xs) [] = false
same_bytes (x ∷ xs) (y ∷ ys) = x == y && same_bytes xs ys

-- the w low bytes of a number, lowest first
abbrev pub little : ℕ → ℕ → List ℕ
little zero n = []
little (suc w) n = (n % 256) ∷ little w (n / 256)

-- the number that bytes write, lowest first
abbrev pub number : List ℕ → ℕ
number [] = 0
number (b ∷ bs) = b + 256 * number bs
