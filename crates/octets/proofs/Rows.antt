-- How a comparison along two rows goes on, step by step.
use Rattle.std.proofs.Common.{◌≡◌, ℕ, ◌+◌, ◌<◌, ◌≤◌, Bool, true, false, ◌&&◌, eqb, List, [], length, get_or, drop, ap, ◌∙◌, ⊎_elim}
use Rattle.std.proofs.lemmas.List.{at_drop_all, drop_more}
use Rattle.std.proofs.lemmas.Bool.{cases_Bool}
use Rattle.keys.specs.Little.{same_equal}
use Rattle.keys.specs.Octets.{same_bytes}

pub same_step : (xs ys : List ℕ) (i : ℕ) (b : Bool) → i < length xs → i < length ys → eqb (get_or xs i 0) (get_or ys i 0) ≡ b → same_bytes (drop i xs) (drop i ys) ≡ (b && same_bytes (drop (i + 1) xs) (drop (i + 1) ys))
same_step xs ys i b hx hy e = (λ k. same_bytes (drop_more xs i 0 hx k) (drop_more ys i 0 hy k)) ∙ ap (λ t. t && same_bytes (drop (i + 1) xs) (drop (i + 1) ys)) e

pub same_all : (xs ys : List ℕ) (i : ℕ) → length xs ≤ i → length ys ≤ i → same_bytes (drop i xs) (drop i ys) ≡ true
same_all xs ys i hx hy = at_drop_all (λ zs. same_bytes zs (drop i ys)) xs i hx ∙ at_drop_all (λ zs. same_bytes [] zs) ys i hy

-- rows of two lengths are not the same
pub same_lengths : (xs ys : List ℕ) → (length xs ≡ length ys → ⊥) → same_bytes xs ys ≡ false
same_lengths xs ys h = ⊎_elim (λ e. absurd (h (ap length (same_equal xs ys e)))) (λ e. e) (cases_Bool (same_bytes xs ys))
