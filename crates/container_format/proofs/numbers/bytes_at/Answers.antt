use Rattle.std.proofs.Common.{◌≡◌, ℕ, zero, suc, ◌≤◌, List, [], ◌∷◌, ◌++◌, length, take, drop, replicate, min, sym, refl, ap, ◌∙◌, arith}
use Rattle.std.proofs.lemmas.List.{take-replicate}
use Rattle.container_format.proofs.numbers.bytes_at.Goals as goal

-- zeros behind what there is
filled : (n k m : ℕ) (xs : List ℕ) → k ≡ min (length xs) n → n ≤ m → take k xs ++ drop k (replicate n 0) ≡ take n (xs ++ replicate m 0)
filled zero zero m xs e h = refl
filled (suc n) zero m [] e h = sym (take-replicate (suc n) m 0 h)
filled (suc n) zero m (x ∷ xs) e h = absurd (omega arith)
filled zero (suc k) m xs e h = absurd (omega arith)
filled (suc n) (suc k) m [] e h = absurd (omega arith)
filled (suc n) (suc k) m (x ∷ xs) e h = ap (λ ys. x ∷ ys) (filled n k m xs (omega arith) (omega arith))

pub returns : goal.returns
returns g c = (λ i. c.copy_from_slice.ensures.after i ++ drop c.min-end.result (replicate g.row.N 0)) ∙ filled g.row.N c.min-end.result g.row.N c.tail-rest.result.now c.min-end.ensures (omega arith) ∙ ap (λ xs. take g.row.N (xs ++ replicate g.row.N 0)) c.tail-rest.ensures
