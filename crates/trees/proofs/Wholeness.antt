-- Wholeness as it is computed, and as it is meant.
use Rattle.std.proofs.Common.{◌≡◌, ℕ, zero, suc, ◌≤◌, Bool, true, leb, ◌↔◌, List, [], ◌∷◌, Some, None, Option, sym, refl, ap, ◌∙◌, subst, inl, inr, ⊎_elim, arith}
use Rattle.std.proofs.lemmas.Bool.{and_parts, and_from, eqb-true, eq-eqb, leb-true, le-leb}
use Rattle.records.specs.Records.{Rec, Contents}
use Rattle.trees.specs.Holding.{In, record_of}
use Rattle.trees.specs.Trees.{cut, Reaches, Whole, level_of, payload_of, children, stands, every, whole_at, is_whole}
use Rattle.trees.specs.Trees.Reaches.{itself, onward}

every_in : {X : Type 0} (test : X → Bool) (xs : List X) (x : X) → every test xs ≡ true → In x xs → test x ≡ true
every_in test [] x h i = elim i [ ]
every_in test (y ∷ xs) x h i =
    let b = and_parts (test y) (every test xs) h in
    ⊎_elim (λ e. ap test e ∙ b.0) (λ j. every_in test xs x b.1 j) i

in_every : {X : Type 0} (test : X → Bool) (xs : List X) → ((x : X) → In x xs → test x ≡ true) → every test xs ≡ true
in_every test [] h = refl
in_every test (y ∷ xs) h = and_from (test y) (every test xs) (h y (inl refl)) (in_every test xs (λ x i. h x (inr i)))

stands_at : (o : Option Rec) (n : ℕ) → stands o n ≡ true → (r : Rec) × (o ≡ Some r) × (r.level ≡ n)
stands_at None n e = absurd (let z : ◌≡◌ {A = ℕ} 0 1 = cc in omega arith)
stands_at (Some r) n e = (r, refl, eqb-true r.level n e)

module _ (w : ℕ) (cs : Contents) where
  whole_stands : (n : ℕ) (p : List ℕ) → whole_at w cs n p ≡ true → (r : Rec) × (record_of cs p ≡ Some r) × (r.level ≡ n)
  whole_stands zero p h = stands_at (record_of cs p) zero h
  whole_stands (suc n) p h = stands_at (record_of cs p) (suc n) (and_parts (stands (record_of cs p) (suc n)) (every (whole_at w cs n) (children w cs p)) h).0

  -- a child of a tree that is whole at its level
  whole_child : (p : List ℕ) (r : Rec) (m : ℕ) → record_of cs p ≡ Some r → r.level ≡ m → whole_at w cs m p ≡ true → 1 ≤ m → (q : List ℕ) → In q (cut w r.payload) → (n : ℕ) × (suc n ≡ m) × (whole_at w cs n q ≡ true)
  whole_child p r zero e l h pos q i = absurd (omega arith)
  whole_child p r (suc n) e l h pos q i =
      (n, refl, every_in (whole_at w cs n) (children w cs p) q (and_parts (stands (record_of cs p) (suc n)) (every (whole_at w cs n) (children w cs p)) h).1 (subst (λ (o : Option Rec). In q (cut w (payload_of o))) (sym e) i))

  -- what is reached is whole at its level
  reached_whole : (root : List ℕ) (n : ℕ) → whole_at w cs n root ≡ true → (p : List ℕ) → Reaches w cs root p → (m : ℕ) × (whole_at w cs m p ≡ true)
  reached_whole root n h _ itself = (n, h)
  reached_whole root n h q (onward {p} g r e l i) =
      let whole = reached_whole root n h p g in
      let s = whole_stands whole.0 p whole.1 in
      let same : s.0.level ≡ r.level = ap level_of (sym s.1 ∙ e) in
      let c = whole_child p r whole.0 e (sym same ∙ s.2) whole.1 (omega (arith, s.2)) q i in
      (c.0, c.2)

  meant : (root : List ℕ) → is_whole w cs root ≡ true → Whole w cs root
  meant root h =
      let n : ℕ = level_of (record_of cs root) in
      let b = and_parts (leb 1 n) (whole_at w cs n root) h in
      let t = whole_stands n root b.1 in
      record {
        top = (t.0, t.1, omega (arith, leb-true 1 n b.0, t.2));
        below = λ p q r g e l i.
            let whole = reached_whole root n b.1 p g in
            let s = whole_stands whole.0 p whole.1 in
            let same : s.0.level ≡ r.level = ap level_of (sym s.1 ∙ e) in
            let c = whole_child p r whole.0 e (sym same ∙ s.2) whole.1 (omega (arith, s.2)) q i in
            let d = whole_stands c.0 q c.2 in
            (d.0, d.1, omega (arith, d.2, c.1, s.2));
      }

  computed_at : (root : List ℕ) → Whole w cs root → (n : ℕ) (p : List ℕ) (r : Rec) → Reaches w cs root p → record_of cs p ≡ Some r → r.level ≡ n → whole_at w cs n p ≡ true
  computed_at root whole zero p r g e l = ap (λ o. stands o zero) e ∙ eq-eqb r.level zero l
  computed_at root whole (suc n) p r g e l =
      and_from (stands (record_of cs p) (suc n)) (every (whole_at w cs n) (children w cs p)) (ap (λ o. stands o (suc n)) e ∙ eq-eqb r.level (suc n) l)
      (in_every (whole_at w cs n) (children w cs p) (λ q i.
      let j : In q (cut w r.payload) = subst (λ (o : Option Rec). In q (cut w (payload_of o))) e i in
      let c = whole.below p q r g e (omega arith) j in
      computed_at root whole n q c.0 (onward g r e (omega arith) j) c.1 (omega (arith, c.2))))

  pub whole_computed : (root : List ℕ) → (is_whole w cs root ≡ true) ↔ Whole w cs root
  whole_computed root = (
    meant root,
    λ whole.
        let t = whole.top in
        let n : ℕ = level_of (record_of cs root) in
        let l : t.0.level ≡ n = sym (ap level_of t.1) in
        and_from (leb 1 n) (whole_at w cs n root) (le-leb 1 n (omega (arith, t.2))) (computed_at root whole n root t.0 itself t.1 l),
  )
