-- The Bloom filter as a live set, and what its calls do to its bytes.
use Rattle.std.specs.Prelude.{◌≡◌, ℕ, true, false, not, ◌||◌, List, drop, vec_items, ◌≢◌}
use Rattle.std.proofs.lemmas.Bool.{or_left, not_from_false}
use Rattle.live.specs.Meaning.{Meaning}
use Rattle.bloom.specs.Bits.{used, all_four, with_four, cleared}
use Rattle.bloom.specs.declared.filter.BloomFilter.{BloomFilter}

abbrev pub bits_of : BloomFilter → List ℕ
bits_of t = vec_items t.bytes

-- it covers every key, and after sealing says yes to those whose four bits are set
abbrev pub filter_meaning : {K : Type 0} → (K → List ℕ) → Meaning BloomFilter K
filter_meaning bytes = record {
  count = λ t. t.intake.count;
  capacity = λ t. 2016;
  sealed = λ t. t.intake.sealed;
  covers = λ t k. true;
  says = λ t k. not t.intake.sealed || all_four (bytes k) (bits_of t);
  unsealed = λ t k e. or_left (not t.intake.sealed) _ (not_from_false t.intake.sealed e);
}

-- just made over these bytes
pub record FilterMade (bytes : List ℕ) (t : BloomFilter) : Type 0 where
  pub bits : bits_of t ≡ bytes
  pub count : t.intake.count ≡ 0
  pub sealed : t.intake.sealed ≡ false

-- sealing zeroes the bytes that serve, so that over any byte it says no to all
pub record FilterSeal (s t : BloomFilter) : Type 0 where
  pub bits : bits_of t ≡ cleared (bits_of s)
  pub none : (used (bits_of s) ≢ 0) → (key : List ℕ) → all_four key (bits_of t) ≡ false

-- a mark sets the key's four bits, if the filter is sealed, and nothing beyond the bytes that serve
pub record FilterMark (key : List ℕ) (s t : BloomFilter) : Type 0 where
  pub early : s.intake.sealed ≡ false → bits_of t ≡ bits_of s
  pub bits : s.intake.sealed ≡ true → bits_of t ≡ with_four key (bits_of s)
  pub beyond : drop (used (bits_of s)) (bits_of t) ≡ drop (used (bits_of s)) (bits_of s)
