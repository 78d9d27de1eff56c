-- Bits in a list of bytes, the lowest of a byte first, and the four that a key has.
use Rattle.std.specs.Prelude.{ℕ, zero, suc, ◌*◌, ◌/◌, ◌%◌, ◌^◌, min, Bool, true, cond, ◌&&◌, ◌||◌, List, ◌++◌, length, drop, replicate, ◌==◌, bit_or, slice_index, slice_set}
use Rattle.keys.specs.Encodings.{home_number}

-- bit p is bit p mod 8 of byte p div 8
abbrev pub is_set : List ℕ → ℕ → Bool
is_set bs p = slice_index bs (p / 8) / 2 ^ (p % 8) % 2 == 1

abbrev pub with_bit : List ℕ → ℕ → List ℕ
with_bit bs p = slice_set bs (p / 8) (bit_or (slice_index bs (p / 8)) (2 ^ (p % 8)))

-- the bits f 0 to f (n - 1)
abbrev pub all_set : (ℕ → ℕ) → ℕ → List ℕ → Bool
all_set f zero bs = true
all_set f (suc n) bs = all_set f n bs && is_set bs (f n)

abbrev pub with_bits : (ℕ → ℕ) → ℕ → List ℕ → List ℕ
with_bits f zero bs = bs
with_bits f (suc n) bs = with_bit (with_bits f n bs) (f n)

-- how many of the bytes serve: the first 65,536
unfoldable pub used : List ℕ → ℕ
used bs = min (length bs) 65536

-- the place of a key's bit under a seed, over L bytes
unfoldable pub place : List ℕ → ℕ → ℕ → ℕ
place key L seed = home_number seed key % (8 * L)

-- whether a key's four bits are set; over no bytes, yes
abbrev pub all_four : List ℕ → List ℕ → Bool
all_four key bs = used bs == 0 || all_set (place key (used bs)) 4 bs

-- the bytes with a key's four bits set; over no bytes, nothing is
abbrev pub with_four : List ℕ → List ℕ → List ℕ
with_four key bs = cond (used bs == 0) bs (with_bits (place key (used bs)) 4 bs)

-- zero where they serve, and beyond that as they were
abbrev pub cleared : List ℕ → List ℕ
cleared bs = replicate (used bs) 0 ++ drop (used bs) bs
