-- Ranks: how many strips stand before a position.
use Rattle.std.proofs.Common.{◌≡◌, ℕ, zero, suc, ◌+◌, ◌/◌, ◌%◌, ◌<◌, ◌≤◌, true, false, cond, eqb, List, [], ◌∷◌, ◌++◌, length, take, drop, Some, None, Option, sym, refl, ap, ◌∙◌, ap₂, arith}
use Rattle.std.specs.List.{slice_get, flat_map}
use Rattle.std.proofs.lemmas.List.{append-nil, append_assoc, append_cancel_right, length_push, length-append, drop_all, take_all, take-append-drop}
use Rattle.std.proofs.lemmas.Grind.{flat_map-append}
use Rattle.trees.specs.Holding.{if_some}
use Rattle.trees.specs.Cursor.{span, strips, seek, next, before, rest, rank, Fit, InTree}
use Rattle.trees.proofs.Steps.{nth_drop, rest_start, rest_end, step}

pub nth_past : {X : Type 0} (xs : List X) (i : ℕ) → slice_get xs i ≡ None → length xs ≤ i
nth_past [] i e = omega arith
nth_past (y ∷ xs) zero e = absurd (let z : ◌≡◌ {A = ℕ} 0 1 = cc in omega arith)
nth_past (y ∷ xs) (suc i) e = omega (arith, nth_past xs i e)

pub nth_middle : {X : Type 0} (xs : List X) (y : X) (ys : List X) → slice_get (xs ++ (y ∷ ys)) (length xs) ≡ Some y
nth_middle [] y ys = refl
nth_middle (x ∷ xs) y ys = nth_middle xs y ys

module _ {P : Type 0} (kids : P → List P) where
  -- the strips before a position and from it on are all strips
  pub split : (n : ℕ) (p : P) (at : ℕ) → before kids n p at ++ rest kids n p at ≡ strips kids n p
  split zero p at = elim (eqb at 0) as (λ b. cond b [] (p ∷ []) ++ cond b (p ∷ []) [] ≡ p ∷ []) [ true ↦ refl | false ↦ refl ]
  split (suc n) p at = go (slice_get (kids p) (at / span n)) refl (λ c. split n c (at % span n))
    where
      go : (o : Option P) → slice_get (kids p) (at / span n) ≡ o → ((c : P) → before kids n c (at % span n) ++ rest kids n c (at % span n) ≡ strips kids n c) → (flat_map (strips kids n) (take (at / span n) (kids p)) ++ if_some [] (λ c. before kids n c (at % span n)) (slice_get (kids p) (at / span n))) ++ (if_some [] (λ c. rest kids n c (at % span n)) (slice_get (kids p) (at / span n)) ++ flat_map (strips kids n) (drop (suc (at / span n)) (kids p))) ≡ flat_map (strips kids n) (kids p)
      go None e ih =
          let i = at / span n in
          let past = nth_past (kids p) i e in
          ap (λ o. (flat_map (strips kids n) (take i (kids p)) ++ if_some [] (λ c. before kids n c (at % span n)) o) ++ (if_some [] (λ c. rest kids n c (at % span n)) o ++ flat_map (strips kids n) (drop (suc i) (kids p)))) e
          ∙ ap₂ (λ u v. (flat_map (strips kids n) u ++ []) ++ flat_map (strips kids n) v) (take_all i (kids p) past) (drop_all (suc i) (kids p) (omega arith))
          ∙ append-nil (flat_map (strips kids n) (kids p) ++ []) ∙ append-nil (flat_map (strips kids n) (kids p))
      go (Some c) e ih =
          let i = at / span n in
          let T : List P = flat_map (strips kids n) (take i (kids p)) in
          let D : List P = flat_map (strips kids n) (drop (suc i) (kids p)) in
          let B : List P = before kids n c (at % span n) in
          let R : List P = rest kids n c (at % span n) in
          ap (λ o. (T ++ if_some [] (λ z. before kids n z (at % span n)) o) ++ (if_some [] (λ z. rest kids n z (at % span n)) o ++ D)) e
          ∙ append_assoc T B (R ++ D)
          ∙ ap (λ z. T ++ z) (sym (append_assoc B R D) ∙ ap (λ z. z ++ D) (ih c) ∙ ap (flat_map (strips kids n)) (sym (nth_drop (kids p) i c e)))
          ∙ sym (flat_map-append (strips kids n) (take i (kids p)) (drop i (kids p)))
          ∙ ap (flat_map (strips kids n)) (take-append-drop i (kids p))

  module _ (n : ℕ) (p : P) (f : Fit kids n p) where
    pub rank_start : rank kids n p 0 ≡ 0
    rank_start =
        let e = ap length (split n p 0) in
        omega (arith, length-append (before kids n p 0) (rest kids n p 0), e, ap length (rest_start kids n p))

    pub rank_end : rank kids n p (span n) ≡ length (strips kids n p)
    rank_end =
        let e = ap length (split n p (span n)) in
        omega (arith, length-append (before kids n p (span n)) (rest kids n p (span n)), e, ap length (rest_end kids n p f))

    module _ (at : ℕ) (q : P) (e : seek kids n p at ≡ Some q) where
      pub before-next : before kids n p (next kids n p at) ≡ before kids n p at ++ (q ∷ [])
      before-next =
          let r = rest kids n p (next kids n p at) in
          append_cancel_right (before kids n p (next kids n p at)) (before kids n p at ++ (q ∷ [])) r
          (split n p (next kids n p at) ∙ sym (split n p at) ∙ ap (λ z. before kids n p at ++ z) (step kids n p at q f e).0 ∙ sym (append_assoc (before kids n p at) (q ∷ []) r))

      pub rank-next : rank kids n p (next kids n p at) ≡ rank kids n p at + 1
      rank-next = ap length before-next ∙ length_push (before kids n p at) q

      pub rank_reads : slice_get (strips kids n p) (rank kids n p at) ≡ Some q
      rank_reads =
          ap (λ z. slice_get z (rank kids n p at)) (sym (split n p at) ∙ ap (λ z. before kids n p at ++ z) (step kids n p at q f e).0)
          ∙ nth_middle (before kids n p at) q (rest kids n p (next kids n p at))

      pub next_in_tree : InTree kids n p (next kids n p at)
      next_in_tree = (step kids n p at q f e).1

      pub rank_below : rank kids n p at < length (strips kids n p)
      rank_below =
          let a = ap length (split n p at) in
          omega (arith, length-append (before kids n p at) (rest kids n p at), a, ap length (step kids n p at q f e).0)
