-- The test of a shape says yes to exactly the strips and nodes.
use Rattle.std.proofs.Common.{◌≡◌, ℕ, zero, suc, ◌*◌, ◌/◌, ◌%◌, ◌≤◌, true, leb, ap, ◌∙◌, subst, mul-le-mul_right, le_of_mul-le-mul_right, arith}
use native.Mathlib.Nat.{mul-mod_left}
use Rattle.std.proofs.lemmas.Nat.{div-add-mod'}
use Rattle.std.proofs.lemmas.Bool.{and_parts, and_from, leb-true, le-leb, eqb-true, eq-eqb}
use Rattle.records.specs.Shapes.{Shape, strip, node, shaped}

-- the quotient of a multiple of w between w and 64 w lies between 1 and 64
pub children_few : (w n q : ℕ) → 1 ≤ w → n ≡ q * w → w ≤ n → n ≤ 64 * w → (1 ≤ q) × (q ≤ 64)
children_few w n zero h e lo hi = absurd (omega arith)
children_few w n (suc q) h e lo hi =
    let k : suc q * w ≤ 64 * w = (let P : ℕ → Type 0 = λ m. m ≤ 64 * w in subst P e hi) in
    (omega arith, le_of_mul-le-mul_right k h)

pub shape_from : (w level bytes : ℕ) → 1 ≤ w → shaped w level bytes ≡ true → Shape w level bytes
shape_from w zero bytes h e = let p = and_parts _ _ e in strip (leb-true 1 bytes p.0) (leb-true bytes 1024 p.1)
shape_from w (suc l) bytes h e =
    let p = and_parts (leb (suc l) 6) _ e in
    let q = and_parts (leb w bytes) _ p.1 in
    let r = and_parts (leb bytes (64 * w)) _ q.1 in
    let z : bytes % w ≡ 0 = eqb-true (bytes % w) 0 r.1 in
    let d : bytes ≡ bytes / w * w = (let t = div-add-mod' bytes w in omega arith) in
    let few = children_few w bytes (bytes / w) h d (leb-true w bytes q.0) (leb-true bytes (64 * w) r.0) in
    node (omega arith) (leb-true (suc l) 6 p.0) (bytes / w) few.0 few.1 d

pub shaped_from : (w level bytes : ℕ) → 1 ≤ w → Shape w level bytes → shaped w level bytes ≡ true
shaped_from w level bytes h (strip lo hi) = and_from _ _ (le-leb 1 bytes lo) (le-leb bytes 1024 hi)
shaped_from w zero bytes h (node lo hi k some few e) = absurd (omega arith)
shaped_from w (suc l) bytes h (node lo hi k some few e) =
    let a : 1 * w ≤ k * w = mul-le-mul_right w some in
    let b : k * w ≤ 64 * w = mul-le-mul_right w few in
    let z : bytes % w ≡ 0 = ap (λ n. n % w) e ∙ mul-mod_left k w in
    and_from _ _ (le-leb (suc l) 6 hi) (and_from _ _ (le-leb w bytes (omega arith)) (and_from _ _ (le-leb bytes (64 * w) (omega arith)) (eq-eqb (bytes % w) 0 z)))
