-- What sealing and marking do to a filter, from what they do to its bytes.
use Rattle.std.proofs.Common.{◌≡◌, ℕ, true, not, ◌||◌, List, drop, sym, refl, ap, ◌∙◌}
use Rattle.live.specs.Meaning.{Noted}
use Rattle.bloom.specs.Bits.{used, all_four, with_four, cleared}
use Rattle.bloom.specs.Filter.{bits_of, filter_meaning, FilterSeal, FilterMark}
use Rattle.bloom.specs.declared.filter.BloomFilter.{BloomFilter}
use Rattle.bloom.proofs.Places.{cleared_none, mark_beyond, say_stays, say_yes}

pub sealing : (s t : BloomFilter) (bs ws : List ℕ) → bs ≡ bits_of s → bits_of t ≡ ws → ws ≡ cleared bs → FilterSeal s t
sealing s t bs ws v e h =
    let is : bits_of t ≡ cleared (bits_of s) = e ∙ h ∙ ap cleared v in
    record { bits = is; none = λ some key. ap (all_four key) is ∙ cleared_none key (bits_of s) some }

module _ {K : Type 0} (b : K → List ℕ) (s t : BloomFilter) (k : K) (bs ws : List ℕ) (v : bs ≡ bits_of s) (e : bits_of t ≡ ws) (h : ws ≡ with_four (b k) bs) where
  is : bits_of t ≡ with_four (b k) (bits_of s)
  is = e ∙ h ∙ ap (with_four (b k)) v

  pub marking : t.intake ≡ s.intake → s.intake.sealed ≡ true → Noted (filter_meaning b) s k t
  marking intake sealed =
      let same : t.intake.sealed ≡ s.intake.sealed = ap (λ n. n.sealed) intake in
      let says : (x : K) → (filter_meaning b).says t x ≡ all_four (b x) (with_four (b k) (bits_of s)) =
      λ x. ap (λ c. not c || all_four (b x) (bits_of t)) (same ∙ sealed) ∙ ap (all_four (b x)) is in
      record {
        early = λ f. cc;
        count = ap (λ n. n.count) intake;
        capacity = refl;
        sealed = same;
        remain = λ x m. m;
        yeses = λ x m. says x ∙ say_stays (b k) (b x) (bits_of s) (sym (ap (λ c. not c || all_four (b x) (bits_of s)) sealed) ∙ m);
        noted = λ m. says k ∙ say_yes (b k) (bits_of s);
      }

  pub marked : s.intake.sealed ≡ true → FilterMark (b k) s t
  marked sealed = record {
    early = λ f. cc;
    bits = λ _. is;
    beyond = ap (drop (used (bits_of s))) is ∙ mark_beyond (b k) (bits_of s);
  }
