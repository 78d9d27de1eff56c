-- A cursor gives the strips in order.
use Rattle.std.proofs.Common.{◌≡◌, ℕ, zero, suc, ◌+◌, ◌*◌, ◌/◌, ◌%◌, ◌<◌, true, false, cond, eqb, List, [], ◌∷◌, ◌++◌, length, take, drop, Some, None, Option, sym, refl, ap, ◌∙◌, ap₂, inl, inr, ⊎_elim, add-mul, arith}
use native.Mathlib.Nat.{zero-div, zero-mod}
use Rattle.std.specs.List.{slice_get, flat_map}
use Rattle.std.proofs.lemmas.Nat.{div-mul-add, mod-mul-add, mul-add-lt}
use Rattle.std.proofs.lemmas.List.{drop_all}
use Rattle.std.proofs.lemmas.Option.{slice_get_past, slice_get_within}
use Rattle.std.proofs.lemmas.Bool.{eq-eqb, ne_eqb, cases_eq, cond-true, cond-false}
use Rattle.trees.specs.Holding.{In, if_some}
use Rattle.trees.specs.Cursor.{span, strips, seek, next, rest, Fit, InTree}

pub span_pos : (n : ℕ) → 0 < span n
span_pos zero = omega arith
span_pos (suc n) = omega (arith, span_pos n)

pub nth_drop : {X : Type 0} (xs : List X) (i : ℕ) (x : X) → slice_get xs i ≡ Some x → drop i xs ≡ x ∷ drop (suc i) xs
nth_drop [] i x e = absurd (let z : ◌≡◌ {A = ℕ} 0 1 = cc in omega arith)
nth_drop (y ∷ xs) zero x e = let s : y ≡ x = cc in ap (λ v. v ∷ xs) s
nth_drop (y ∷ xs) (suc i) x e = nth_drop xs i x e

pub nth_in : {X : Type 0} (xs : List X) (i : ℕ) (x : X) → slice_get xs i ≡ Some x → In x xs
nth_in [] i x e = absurd (let z : ◌≡◌ {A = ℕ} 0 1 = cc in omega arith)
nth_in (y ∷ xs) zero x e = inl (let s : x ≡ y = cc in s)
nth_in (y ∷ xs) (suc i) x e = inr (nth_in xs i x e)

pub nth_there : {X : Type 0} (xs : List X) (i : ℕ) → i < length xs → (x : X) × (slice_get xs i ≡ Some x)
nth_there [] i h = absurd (omega arith)
nth_there (y ∷ xs) zero h = (y, refl)
nth_there (y ∷ xs) (suc i) h = nth_there xs i (omega arith)

pub nth_take : {X : Type 0} (xs : List X) (i : ℕ) (x : X) → slice_get xs i ≡ Some x → take (suc i) xs ≡ take i xs ++ (x ∷ [])
nth_take [] i x e = absurd (let z : ◌≡◌ {A = ℕ} 0 1 = cc in omega arith)
nth_take (y ∷ xs) zero x e = let s : y ≡ x = cc in ap (λ z. z ∷ []) s
nth_take (y ∷ xs) (suc i) x e = ap (λ z. y ∷ z) (nth_take xs i x e)

module _ {P : Type 0} (kids : P → List P) where
  -- at the start all strips are left
  pub rest_start : (n : ℕ) (p : P) → rest kids n p 0 ≡ strips kids n p
  rest_start zero p = refl
  rest_start (suc n) p =
      ap₂ (λ i a. if_some [] (λ q. rest kids n q a) (slice_get (kids p) i) ++ flat_map (strips kids n) (drop (suc i) (kids p))) (zero-div (span n)) (zero-mod (span n))
      ∙ go (λ q. rest_start n q) (kids p)
    where
      go : ((q : P) → rest kids n q 0 ≡ strips kids n q) → (qs : List P) → if_some [] (λ q. rest kids n q 0) (slice_get qs 0) ++ flat_map (strips kids n) (drop 1 qs) ≡ flat_map (strips kids n) qs
      go h [] = refl
      go h (q ∷ qs) = ap (λ z. z ++ flat_map (strips kids n) qs) (h q)

  -- what is at i * span n + a
  rest_at : (n : ℕ) (p : P) (i a : ℕ) → a < span n → rest kids (suc n) p (i * span n + a) ≡ if_some [] (λ q. rest kids n q a) (slice_get (kids p) i) ++ flat_map (strips kids n) (drop (suc i) (kids p))
  rest_at n p i a h = ap₂ (λ j b. if_some [] (λ q. rest kids n q b) (slice_get (kids p) j) ++ flat_map (strips kids n) (drop (suc j) (kids p))) (div-mul-add i (span n) a h) (mod-mul-add i (span n) a h)

  seek-at : (n : ℕ) (p : P) (i a : ℕ) → a < span n → seek kids (suc n) p (i * span n + a) ≡ if_some None (λ q. seek kids n q a) (slice_get (kids p) i)
  seek-at n p i a h = ap₂ (λ j b. if_some None (λ q. seek kids n q b) (slice_get (kids p) j)) (div-mul-add i (span n) a h) (mod-mul-add i (span n) a h)

  -- at the end none is left
  pub rest_end : (n : ℕ) (p : P) → Fit kids n p → rest kids n p (span n) ≡ []
  rest_end zero p f = refl
  rest_end (suc n) p f =
      ap (rest kids (suc n) p) (omega arith)
      ∙ rest_at n p 64 0 (span_pos n)
      ∙ ap₂ (λ o qs. if_some [] (λ q. rest kids n q 0) o ++ flat_map (strips kids n) qs) (slice_get_past (kids p) 64 f.1) (drop_all 65 (kids p) (omega (arith, f.1)))

  pub seek_end : (n : ℕ) (p : P) → Fit kids n p → seek kids n p (span n) ≡ None
  seek_end zero p f = refl
  seek_end (suc n) p f =
      ap (seek kids (suc n) p) (omega arith)
      ∙ seek-at n p 64 0 (span_pos n)
      ∙ ap (if_some None (λ q. seek kids n q 0)) (slice_get_past (kids p) 64 f.1)

  -- the start is a position of the tree
  pub seek_start : (n : ℕ) (p : P) → Fit kids n p → (q : P) × (seek kids n p 0 ≡ Some q)
  seek_start zero p f = (p, refl)
  seek_start (suc n) p f =
      let c = nth_there (kids p) 0 f.0 in
      let s = seek_start n c.0 (f.2 c.0 (nth_in (kids p) 0 c.0 c.1)) in
      (s.0, ap₂ (λ i a. if_some None (λ q. seek kids n q a) (slice_get (kids p) i)) (zero-div (span n)) (zero-mod (span n)) ∙ ap (if_some None (λ q. seek kids n q 0)) c.1 ∙ s.1)

  -- from the child at i, come to b in it: what is left at y
  land : (n : ℕ) (p : P) (i : ℕ) (c : P) (b : ℕ) → Fit kids (suc n) p → slice_get (kids p) i ≡ Some c → InTree kids n c b → (y : ℕ) → y ≡ cond (eqb (i * span n + b) (length (kids p) * span n)) (span (suc n)) (i * span n + b) → (rest kids (suc n) p y ≡ rest kids n c b ++ flat_map (strips kids n) (drop (suc i) (kids p))) × InTree kids (suc n) p y
  land n p i c b f hc inside y is =
      let lt : i < length (kids p) = slice_get_within (kids p) i c hc in
      let pos = span_pos n in
      let x : ℕ = i * span n + b in
      let full : ℕ = length (kids p) * span n in
      ⊎_elim
      (λ (e : b ≡ span n). ⊎_elim
      (λ (l : suc i ≡ length (kids p)).
      let here : x ≡ full = ap (λ z. i * span n + z) e ∙ omega (arith, add-mul i 1 (span n)) ∙ ap (λ z. z * span n) l in
      let to : y ≡ span (suc n) = is ∙ cond-true (eqb x full) (span (suc n)) x (eq-eqb x full here) in (
        ap (rest kids (suc n) p) to ∙ rest_end (suc n) p f
            ∙ sym (ap₂ (λ u v. u ++ flat_map (strips kids n) v) (ap (rest kids n c) e ∙ rest_end n c (f.2 c (nth_in (kids p) i c hc))) (drop_all (suc i) (kids p) (omega arith))),
        inl to,
      ))
      (λ (l : suc i ≡ length (kids p) → ⊥).
      let more : suc i < length (kids p) = omega arith in
      let c' = nth_there (kids p) (suc i) more in
      let at : x ≡ suc i * span n + 0 = ap (λ z. i * span n + z) e ∙ omega (arith, add-mul i 1 (span n)) in
      let under = mul-add-lt (suc i) (span n) 0 (length (kids p)) more pos in
      let space = mul-add-lt (suc i) (span n) 0 64 (omega (arith, f.1)) pos in
      let to : y ≡ suc i * span n + 0 = is ∙ cond-false (eqb x full) (span (suc n)) x (ne_eqb x full (λ z. omega arith)) ∙ at in
      let s = seek_start n c'.0 (f.2 c'.0 (nth_in (kids p) (suc i) c'.0 c'.1)) in (
        ap (rest kids (suc n) p) to ∙ rest_at n p (suc i) 0 pos
            ∙ ap (λ o. if_some [] (λ z. rest kids n z 0) o ++ flat_map (strips kids n) (drop (suc (suc i)) (kids p))) c'.1
            ∙ ap (λ z. z ++ flat_map (strips kids n) (drop (suc (suc i)) (kids p))) (rest_start n c'.0)
            ∙ sym (ap₂ (λ u v. u ++ flat_map (strips kids n) v) (ap (rest kids n c) e ∙ rest_end n c (f.2 c (nth_in (kids p) i c hc))) (nth_drop (kids p) (suc i) c'.0 c'.1)),
        inr (omega arith, (s.0, ap (seek kids (suc n) p) to ∙ seek-at n p (suc i) 0 pos ∙ ap (if_some None (λ z. seek kids n z 0)) c'.1 ∙ s.1)),
      ))
      (cases_eq (suc i) (length (kids p))))
      (λ (r : (b < span n) × ((z : P) × (seek kids n c b ≡ Some z))).
      let below = r.0 in
      let under = mul-add-lt i (span n) b (length (kids p)) lt below in
      let space = mul-add-lt i (span n) b 64 (omega (arith, f.1)) below in
      let to : y ≡ x = is ∙ cond-false (eqb x full) (span (suc n)) x (ne_eqb x full (λ z. omega arith)) in (
        ap (rest kids (suc n) p) to ∙ rest_at n p i b below ∙ ap (λ o. if_some [] (λ z. rest kids n z b) o ++ flat_map (strips kids n) (drop (suc i) (kids p))) hc,
        inr (omega arith, (r.1.0, ap (seek kids (suc n) p) to ∙ seek-at n p i b below ∙ ap (if_some None (λ z. seek kids n z b)) hc ∙ r.1.1)),
      ))
      inside

  -- a strip is given, and the rest is left at the next position
  pub step : (n : ℕ) (p : P) (at : ℕ) (q : P) → Fit kids n p → seek kids n p at ≡ Some q → (rest kids n p at ≡ q ∷ rest kids n p (next kids n p at)) × InTree kids n p (next kids n p at)
  step zero p at q f e =
      elim (eqb at 0) as (λ b. cond b (Some p) None ≡ Some q → (cond b (p ∷ []) [] ≡ q ∷ []) × InTree kids zero p 1) [
        | true ↦ λ h. (let s : p ≡ q = cc in ap (λ x. x ∷ []) s, inl refl)
        | false ↦ λ h. absurd (let z : ◌≡◌ {A = ℕ} 0 1 = cc in omega arith)
      ] e
  step (suc n) p at q f e = go (slice_get (kids p) (at / span n)) refl e (λ c. step n c (at % span n) q)
    where
      go : (o : Option P) → slice_get (kids p) (at / span n) ≡ o → if_some None (λ c. seek kids n c (at % span n)) o ≡ Some q → ((c : P) → Fit kids n c → seek kids n c (at % span n) ≡ Some q → (rest kids n c (at % span n) ≡ q ∷ rest kids n c (next kids n c (at % span n))) × InTree kids n c (next kids n c (at % span n))) → (rest kids (suc n) p at ≡ q ∷ rest kids (suc n) p (next kids (suc n) p at)) × InTree kids (suc n) p (next kids (suc n) p at)
      go None hc h ih = absurd (let z : ◌≡◌ {A = ℕ} 0 1 = cc in omega arith)
      go (Some c) hc h ih =
          let s = ih c (f.2 c (nth_in (kids p) (at / span n) c hc)) h in
          let y = next kids (suc n) p at in
          let l = land n p (at / span n) c (next kids n c (at % span n)) f hc s.1 y
          (ap (if_some (span (suc n)) (λ z. cond (eqb ((at / span n) * span n + next kids n z (at % span n)) (length (kids p) * span n)) (span (suc n)) ((at / span n) * span n + next kids n z (at % span n)))) hc) in (
            ap (λ o. if_some [] (λ z. rest kids n z (at % span n)) o ++ flat_map (strips kids n) (drop (suc (at / span n)) (kids p))) hc
                ∙ ap (λ z. z ++ flat_map (strips kids n) (drop (suc (at / span n)) (kids p))) s.0
                ∙ ap (λ z. q ∷ z) (sym l.0),
            l.1,
          )
