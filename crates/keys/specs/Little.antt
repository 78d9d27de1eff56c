-- Numbers in bytes and back, and the test that two lists have the same bytes.
use Rattle.std.specs.Prelude.{◌≡◌, ℕ, zero, suc, ◌+◌, ◌*◌, ◌/◌, ◌%◌, ◌^◌, ◌<◌, ◌≤◌, true, List, [], ◌∷◌, length, take, ◌==◌, eqb, refl}
use Rattle.std.proofs.Common.{sym, ap, ◌∙◌, ⊎_elim, pow-suc, arith}
use Rattle.std.proofs.ByRecursion.{All-take}
use Rattle.std.proofs.lemmas.List.{length-take-le}
use Rattle.std.proofs.lemmas.Bool.{and_parts, cases_Bool, eqb-true, eq-eqb}
use Rattle.std.proofs.lemmas.Bool.Decides.{eqb_tells}
use Rattle.keys.specs.Octets.{same_bytes, Bytes, little, number}

pub length-little : (w n : ℕ) → length (little w n) ≡ w
length-little zero n = refl
length-little (suc w) n = ap suc (length-little w (n / 256))

pub bytes-little : (w n : ℕ) → Bytes (little w n)
bytes-little zero n = tt
bytes-little (suc w) n = (omega arith, bytes-little w (n / 256))

-- a number below 256 ^ w is read back
pub number-little : (w n : ℕ) → n < 256 ^ w → number (little w n) ≡ n
number-little zero n h = omega arith
number-little (suc w) n h =
    let p = pow-suc 256 w in
    let q : n / 256 < 256 ^ w = omega arith in
    omega (arith, number-little w (n / 256) q)

pub little-number : (bs : List ℕ) → Bytes bs → little (length bs) (number bs) ≡ bs
little-number [] h = refl
little-number (b ∷ bs) h =
    let d : (b + 256 * number bs) / 256 ≡ number bs = omega (arith, h.0) in
    let m : (b + 256 * number bs) % 256 ≡ b = omega (arith, h.0) in
    let t = little-number bs h.1 in
    cc

pub number_below : (bs : List ℕ) → Bytes bs → number bs < 256 ^ length bs
number_below [] h = omega arith
number_below (b ∷ bs) h =
    let p = pow-suc 256 (length bs) in
    let t = number_below bs h.1 in
    omega (arith, h.0)

-- the first w bytes taken as a number, and written again
pub little-take : (w : ℕ) (bs : List ℕ) → w ≤ length bs → Bytes bs → little w (number (take w bs)) ≡ take w bs
little-take w bs long h =
    ap (λ k. little k (number (take w bs))) (sym (length-take-le w bs long)) ∙ little-number (take w bs) (All-take (λ b. b < 256) w bs h)

pub same_self : (xs : List ℕ) → same_bytes xs xs ≡ true
same_self [] = refl
same_self (x ∷ xs) = rw (eq-eqb x x refl, same_self xs)

pub same_equal : (xs ys : List ℕ) → same_bytes xs ys ≡ true → xs ≡ ys
same_equal [] [] e = refl
same_equal [] (y ∷ ys) e = cc
same_equal (x ∷ xs) [] e = cc
same_equal (x ∷ xs) (y ∷ ys) e =
    let both = and_parts (x == y) (same_bytes xs ys) e in
    let head : x ≡ y = eqb-true x y both.0 in
    let rest : xs ≡ ys = same_equal xs ys both.1 in
    cc

-- two numbers below 256 ^ w are equal exactly when their w bytes are the same
pub same-little : (w m n : ℕ) → m < 256 ^ w → n < 256 ^ w → eqb m n ≡ same_bytes (little w m) (little w n)
same-little w m n h k =
    let back : same_bytes (little w m) (little w n) ≡ true → m ≡ n =
    λ e. sym (number-little w m h) ∙ ap number (same_equal (little w m) (little w n) e) ∙ number-little w n k in
    ⊎_elim
    (λ p. p.0 ∙ sym (same_self (little w m)) ∙ ap (λ x. same_bytes (little w m) (little w x)) p.1)
    (λ p. ⊎_elim (λ e. absurd (p.1 (back e))) (λ e. p.0 ∙ sym e) (cases_Bool (same_bytes (little w m) (little w n))))
    (eqb_tells m n)

-- from the law that the bytes give the key back: equal bytes, equal keys
pub equal_keys : {K : Type 0} (bytes : K → List ℕ) (key : List ℕ → K) → ((k : K) → key (bytes k) ≡ k) → (x y : K) → bytes x ≡ bytes y → x ≡ y
equal_keys bytes key back x y e = sym (back x) ∙ ap key e ∙ back y
