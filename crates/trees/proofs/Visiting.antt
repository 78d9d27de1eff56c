-- The visits are the pairs of a level and a container that holds it, each once and in order.
use Rattle.std.proofs.Common.{◌≡◌, ℕ, zero, suc, ◌+◌, ◌≤◌, Bool, true, false, cond, ◌↔◌, List, [], ◌∷◌, ◌++◌, get_or, sym, refl, ap, ◌∙◌, subst, inl, inr, ⊎_elim, arith}
use Rattle.std.specs.List.{flat_map}
use Rattle.std.proofs.lemmas.Bool.{cases_eq}
use Rattle.records.specs.Records.{Contents}
use Rattle.trees.specs.Holding.{In}
use Rattle.trees.specs.Visits.{holds_level, holders, visits, Later, InOrder}
use Rattle.trees.proofs.Finding.{in_left, in_right, in_either}
use Rattle.trees.proofs.Marks.{levels}

-- x is a pair of level n and a container from c on that holds it
abbrev Holder : ℕ → ℕ → Contents → ℕ × ℕ → Type 0
Holder n c cs x = (x.0 ≡ n) × ((j : ℕ) × (x.1 ≡ c + j) × (holds_level n (get_or cs j []) ≡ true))

holder : (n c : ℕ) (cs : Contents) (x : ℕ × ℕ) → In x (holders n c cs) → Holder n c cs x
holder n c [] x i = elim i [ ]
holder n c (b ∷ cs) x i =
    let later : In x (holders n (suc c) cs) → Holder n c (b ∷ cs) x = λ j. let h = holder n (suc c) cs x j in (h.0, (suc h.1.0, omega (arith, h.1.1), h.1.2)) in
    elim (holds_level n b) as (λ t. holds_level n b ≡ t → In x (cond t ((n, c) ∷ holders n (suc c) cs) (holders n (suc c) cs)) → Holder n c (b ∷ cs) x) [
      | true ↦ λ t h. ⊎_elim (λ (e : x ≡ (n, c)). let d : x.1 ≡ c = ap (λ z. z.1) e in (ap (λ z. z.0) e, (0, omega arith, t))) later h
      | false ↦ λ t h. later h
    ] refl i

holds : (n c : ℕ) (cs : Contents) (j m : ℕ) → m ≡ c + j → holds_level n (get_or cs j []) ≡ true → In (n, m) (holders n c cs)
holds n c [] j m e h = absurd (let z : ◌≡◌ {A = ℕ} 0 1 = cc in omega arith)
holds n c (b ∷ cs) zero m e h =
    let d : m ≡ c = omega arith in
    subst (λ (t : Bool). In (n, m) (cond t ((n, c) ∷ holders n (suc c) cs) (holders n (suc c) cs))) (sym h) (inl (ap (λ z. (n, z)) d))
holds n c (b ∷ cs) (suc j) m e h =
    let i = holds n (suc c) cs j m (omega arith) h in
    elim (holds_level n b) as (λ t. In (n, m) (cond t ((n, c) ∷ holders n (suc c) cs) (holders n (suc c) cs))) [ true ↦ inr i | false ↦ i ]

holders_order : (n c : ℕ) (cs : Contents) → InOrder (holders n c cs)
holders_order n c [] = tt
holders_order n c (b ∷ cs) =
    elim (holds_level n b) as (λ t. InOrder (cond t ((n, c) ∷ holders n (suc c) cs) (holders n (suc c) cs))) [
      | true ↦ ((λ y i. let h = holder n (suc c) cs y i in inr (h.0, omega (arith, h.1.1))), holders_order n (suc c) cs)
      | false ↦ holders_order n (suc c) cs
    ]

order_append : (xs ys : List (ℕ × ℕ)) → InOrder xs → InOrder ys → ((x y : ℕ × ℕ) → In x xs → In y ys → Later x y) → InOrder (xs ++ ys)
order_append [] ys a b h = b
order_append (x ∷ xs) ys a b h =
    ((λ y i. ⊎_elim (λ j. a.0 y j) (λ j. h x y (inl refl) j) (in_either y xs ys i)), order_append xs ys a.1 b (λ z y i j. h z y (inr i) j))

module _ (cs : Contents) where
  at-levels : (n : ℕ) (x : ℕ × ℕ) → In x (flat_map (λ l. holders l 0 cs) (levels n)) → (1 ≤ x.0) × (x.0 ≤ n) × (holds_level x.0 (get_or cs x.1 []) ≡ true)
  at-levels zero x i = elim i [ ]
  at-levels (suc n) x i =
      ⊎_elim
      (λ j.
      let h = holder (suc n) 0 cs x j in
      let d : h.1.0 ≡ x.1 = omega (arith, h.1.1) in
      (omega (arith, h.0), omega (arith, h.0), ap (λ z. holds_level z (get_or cs x.1 [])) h.0 ∙ ap (λ z. holds_level (suc n) (get_or cs z [])) (sym d) ∙ h.1.2))
      (λ j. let h = at-levels n x j in (h.0, omega (arith, h.1), h.2))
      (in_either x (holders (suc n) 0 cs) (flat_map (λ l. holders l 0 cs) (levels n)) i)

  of_levels : (n l c : ℕ) → 1 ≤ l → l ≤ n → holds_level l (get_or cs c []) ≡ true → In (l, c) (flat_map (λ z. holders z 0 cs) (levels n))
  of_levels zero l c a b h = absurd (omega arith)
  of_levels (suc n) l c a b h =
      ⊎_elim
      (λ (e : l ≡ suc n). in_left (l, c) (holders (suc n) 0 cs) (flat_map (λ z. holders z 0 cs) (levels n)) (subst (λ (z : ℕ). In (l, c) (holders z 0 cs)) e (holds l 0 cs c c (omega arith) h)))
      (λ (e : l ≡ suc n → ⊥). in_right (l, c) (holders (suc n) 0 cs) (flat_map (λ z. holders z 0 cs) (levels n)) (of_levels n l c a (omega arith) h))
      (cases_eq l (suc n))

  levels_order : (n : ℕ) → InOrder (flat_map (λ l. holders l 0 cs) (levels n))
  levels_order zero = tt
  levels_order (suc n) =
      order_append (holders (suc n) 0 cs) (flat_map (λ l. holders l 0 cs) (levels n)) (holders_order (suc n) 0 cs) (levels_order n)
      (λ x y i j. inl (omega (arith, (holder (suc n) 0 cs x i).0, (at-levels n y j).1)))

  pub visits_are : InOrder (visits cs) × ((l c : ℕ) → In (l, c) (visits cs) ↔ ((1 ≤ l) × (l ≤ 6) × (holds_level l (get_or cs c []) ≡ true)))
  visits_are = (levels_order 6, λ l c. ((λ i. at-levels 6 (l, c) i), (λ h. of_levels 6 l c h.0 h.1 h.2)))
