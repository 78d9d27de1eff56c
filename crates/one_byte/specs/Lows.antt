-- A byte is the fingerprint of its own value.
use Rattle.std.specs.Prelude.{◌≡◌, ℕ, ◌%◌, ◌<◌, ◌≤◌, cond, List, [], ◌∷◌, length, take, Some, None, nat_le, slice_index}
use Rattle.std.proofs.Common.{sym, ap, ◌∙◌, mod-eq_of_lt, arith}
use mathlib.Core.HLevel.{is_prop→PathP}
use Rattle.std.proofs.Math.Bridge.{le_prop}
use Rattle.std.proofs.lemmas.Bool.{le-leb}
use Rattle.one_byte.specs.Low.{low_numbered, low_of}
use Rattle.one_byte.specs.declared.byte.OneByte.{OneByte}

low_path : (p q : OneByte) → p.value ≡ q.value → p ≡ q
low_path p q e = λ i. record { value = e i; fits = is_prop→PathP (λ i. e i < 256) (λ i. le_prop) p.fits q.fits i }

pub low_numbered_lem : (b : OneByte) (n : ℕ) → b.value ≡ n % 256 → b ≡ low_numbered n
low_numbered_lem b n e = low_path b (low_numbered n) e

pub low_value : (b : OneByte) → low_numbered b.value ≡ b
low_value b = low_path (low_numbered b.value) b (mod-eq_of_lt b.fits)

pub low_read : (xs : List ℕ) (b : OneByte) → 1 ≤ length xs → b.value ≡ slice_index xs 0 → Some b ≡ cond (nat_le 1 (length xs)) (Some (low_of (take 1 xs))) None
low_read [] b h e = absurd (omega arith)
low_read (x ∷ xs) b h e =
    ap Some (sym (low_value b) ∙ ap low_numbered e)
    ∙ sym (ap (λ c. cond c (Some (low_numbered x)) None) (le-leb 1 (length (x ∷ xs)) h))
