-- FNV-1a of 64 bits, as published by Fowler, Noll and Vo.
use Rattle.std.specs.Prelude.{ℕ, ◌*◌, ◌%◌, ◌^◌, List, bit_xor}
use Rattle.std.specs.List.{fold}

-- one byte more: xored in, then the product modulo 2 ^ 64
abbrev pub mixed : ℕ → ℕ → ℕ
mixed sum byte = (bit_xor sum byte * 0x100000001b3) % 2 ^ 64

-- all bytes, first to last
abbrev pub mixed_all : ℕ → List ℕ → ℕ
mixed_all sum bs = fold mixed sum bs

-- the hash of some bytes
abbrev pub fnv1a : List ℕ → ℕ
fnv1a bs = mixed_all 0xcbf29ce484222325 bs
