-- Up to the first two bytes that differ, or to the end of the shorter row, two rows are the same.
use Rattle.std.proofs.Common.{◌≡◌, ℕ, suc, ◌+◌, Bool, cond, not, eqb, List, [], ◌∷◌, length, take, Some, None, sym, refl, ap, ◌∙◌, ⊎_elim, subst, arith}
use Rattle.std.specs.List.{position, position_or_len, zip}
use Rattle.std.specs.Option.{unwrap_or}
use Rattle.std.proofs.lemmas.List.Sums.{prefix_len-le-length}
use Rattle.std.proofs.lemmas.Bool.{cases_Bool, cases_lt, lt-ltb, le-ltb, eqb-true}

-- two bytes differ
abbrev pub differ : ℕ × ℕ → Bool
differ p = not (eqb p.0 p.1)

-- the end where nothing passes
pub place_or_end : {X : Type 0} (p : X → Bool) (xs : List X) (end : ℕ) → length xs ≡ end → unwrap_or (position p xs) end ≡ position_or_len p xs
place_or_end p xs end e =
    let n = position_or_len p xs in
    ⊎_elim
    (λ h. ap (λ b. unwrap_or (cond b (Some n) None) end) (lt-ltb n (length xs) h))
    (λ h. ap (λ b. unwrap_or (cond b (Some n) None) end) (le-ltb n (length xs) h) ∙ (let w = prefix_len-le-length (λ x. not (p x)) xs in omega arith))
    (cases_lt n (length xs))

pub same_before : (xs ys : List ℕ) → take (position_or_len differ (zip xs ys)) xs ≡ take (position_or_len differ (zip xs ys)) ys
same_before [] ys = refl
same_before (x ∷ xs) [] = refl
same_before (x ∷ xs) (y ∷ ys) =
    let n = position_or_len differ (zip xs ys) in
    let more : suc n ≡ 1 + n = omega arith in
    let place : Bool → ℕ = λ b. cond (not (not b)) (1 + n) 0 in
    let P : Bool → Type 0 = λ b. take (place b) (x ∷ xs) ≡ take (place b) (y ∷ ys) in
    ⊎_elim
    (λ e. subst P (sym e) (subst (λ k. take k (x ∷ xs) ≡ take k (y ∷ ys)) more (λ i. eqb-true x y e i ∷ same_before xs ys i)))
    (λ e. subst P (sym e) refl)
    (cases_Bool (eqb x y))
