-- What is read off the front of some bytes is the key of these bytes.
use Rattle.std.specs.Prelude.{◌≡◌, ℕ, ◌+◌, ◌*◌, ◌%◌, ◌^◌, ◌<◌, ◌≤◌, Bool, cond, List, [], ◌∷◌, ◌++◌, length, take, drop, Some, None, nat_le, slice_index}
use Rattle.std.proofs.Common.{sym, ap, ◌∙◌, mod-eq_of_lt, arith}
use mathlib.Core.HLevel.{×_prop, is_prop→PathP}
use Rattle.std.proofs.Math.Bridge.{le_prop}
use Rattle.std.proofs.lemmas.List.{take_at}
use Rattle.std.proofs.lemmas.Bool.{le-leb}
use Rattle.keys.specs.Octets.{number}
use Rattle.keys.specs.Encodings.{pair_of, fnv_of, fnv_numbered}
use Rattle.keys.specs.declared.pair.Pair.{Pair}
use Rattle.keys.specs.declared.fnv.Fnv.{Fnv}

-- two pairs of equal numbers are one, and so are two fingerprints: the ghost field has one proof at most
pub pair_path : (p q : Pair) → p.level ≡ q.level → p.container ≡ q.container → p ≡ q
pair_path p q e f = λ i. record {
  level = e i;
  container = f i;
  fits = is_prop→PathP (λ i. (e i < 256) × (f i < 256)) (λ i. ×_prop le_prop le_prop) p.fits q.fits i;
}

pub fnv_path : (p q : Fnv) → p.number ≡ q.number → p ≡ q
fnv_path p q e = λ i. record {
  number = e i;
  fits = is_prop→PathP (λ i. e i < 2 ^ 64) (λ i. le_prop) p.fits q.fits i;
}

-- a fingerprint is the one of its own number
pub fnv_numbered_lem : (f : Fnv) (n : ℕ) → f.number ≡ n → f ≡ fnv_numbered n
fnv_numbered_lem f n e = fnv_path f (fnv_numbered n) (sym (mod-eq_of_lt f.fits) ∙ ap (λ m. m % 2 ^ 64) e)

enough : {X : Type 0} (xs : List ℕ) (w : ℕ) (v : X) → w ≤ length xs → Some v ≡ cond (nat_le w (length xs)) (Some v) None
enough xs w v h = sym (ap (λ c. cond c (Some v) None) (le-leb w (length xs) h))

pub pair_read : (xs : List ℕ) (p : Pair) → 2 ≤ length xs → p.level ≡ slice_index xs 0 → p.container ≡ slice_index xs 1 → Some p ≡ cond (nat_le 2 (length xs)) (Some (pair_of (take 2 xs))) None
pair_read [] p h e f = absurd (omega arith)
pair_read (x ∷ []) p h e f = absurd (omega arith)
pair_read (x ∷ y ∷ zs) p h e f =
    ap Some (pair_path p (pair_of (x ∷ y ∷ [])) (sym (mod-eq_of_lt p.fits.0) ∙ ap (λ n. n % 256) e) (sym (mod-eq_of_lt p.fits.1) ∙ ap (λ n. n % 256) f))
    ∙ enough (x ∷ y ∷ zs) 2 (pair_of (x ∷ y ∷ [])) h

-- eight bytes as a number, as `from_le_bytes` writes it
abbrev eight_of : List ℕ → ℕ
eight_of xs = slice_index xs 0 + slice_index xs 1 * 256 + slice_index xs 2 * 65536 + slice_index xs 3 * 16777216 + slice_index xs 4 * 4294967296 + slice_index xs 5 * 1099511627776 + slice_index xs 6 * 281474976710656 + slice_index xs 7 * 72057594037927936

eight : (xs : List ℕ) → 8 ≤ length xs → number (take 8 xs) ≡ eight_of xs
eight [] h = absurd (omega arith)
eight (a ∷ []) h = absurd (omega arith)
eight (a ∷ b ∷ []) h = absurd (omega arith)
eight (a ∷ b ∷ c ∷ []) h = absurd (omega arith)
eight (a ∷ b ∷ c ∷ d ∷ []) h = absurd (omega arith)
eight (a ∷ b ∷ c ∷ d ∷ e ∷ []) h = absurd (omega arith)
eight (a ∷ b ∷ c ∷ d ∷ e ∷ f ∷ []) h = absurd (omega arith)
eight (a ∷ b ∷ c ∷ d ∷ e ∷ f ∷ g ∷ []) h = absurd (omega arith)
eight (a ∷ b ∷ c ∷ d ∷ e ∷ f ∷ g ∷ h' ∷ zs) h = omega arith

pub fnv_read : (xs : List ℕ) (f : Fnv) → 8 ≤ length xs → f.number ≡ eight_of xs → Some f ≡ cond (nat_le 8 (length xs)) (Some (fnv_of (take 8 xs))) None
fnv_read xs f h e = ap Some (fnv_numbered_lem f (number (take 8 xs)) (e ∙ sym (eight xs h))) ∙ enough xs 8 (fnv_of (take 8 xs)) h

-- a key that fits stands at the front of what it was written to
pub front-written : (w : ℕ) (fits : Bool) (bytes to after : List ℕ) → length bytes ≡ w → w ≤ length to → fits ≡ nat_le w (length to) → after ≡ cond fits (bytes ++ drop w to) to → take w after ≡ bytes
front-written w fits bytes to after long space e a =
    ap (take w) (a ∙ ap (λ b. cond b (bytes ++ drop w to) to) (e ∙ le-leb w (length to) space)) ∙ take_at bytes (drop w to) w long
