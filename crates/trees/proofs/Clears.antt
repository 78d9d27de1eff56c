-- What a clear keeps and loses.
use Rattle.std.proofs.Common.{◌≡◌, ℕ, zero, suc, ◌+◌, ◌<◌, Bool, true, false, cond, ◌⊎◌, List, [], ◌∷◌, ◌++◌, map, length, get_or, set, sum_by, sym, refl, ap, ◌∙◌, subst, inl, inr, ⊎_elim, arith}
use Rattle.std.proofs.lemmas.List.Sums.{sum_by-cons, sum_by-append}
use Rattle.std.proofs.lemmas.List.{get_or-set_same, get_or-set_other}
use Rattle.std.proofs.lemmas.Bool.{cases_eq, both_ways}
use Rattle.keys.specs.Octets.{same_bytes}
use Rattle.keys.specs.Little.{same_equal}
use Rattle.devices.specs.Changes.{appended}
use Rattle.records.specs.Records.{Rec, Contents}
use Rattle.trees.specs.Holding.{In, all, record_of, Single}
use Rattle.trees.specs.Trees.{Reaches, Whole, text}
use Rattle.trees.specs.Chains.{Chain}
use Rattle.trees.specs.Marking.{Reached}
use Rattle.trees.specs.Clearing.{spared, doomed, Placed, Cleared}
use Rattle.trees.proofs.Finding.{in_left, in_right, in_all, container_of, first_in, in_first, reached_stored}
use Rattle.trees.proofs.Survive.{text_survives, reached-before}

-- weights of all records
weigh_set : (f : Rec → ℕ) (cs : Contents) (d : ℕ) (b : List Rec) → d < length cs → sum_by f (all (set cs d b)) + sum_by f (get_or cs d []) ≡ sum_by f (all cs) + sum_by f b
weigh_set f [] d b h = absurd (omega arith)
weigh_set f (x ∷ cs) zero b h = omega (arith, sum_by-append f b (all cs), sum_by-append f x (all cs))
weigh_set f (x ∷ cs) (suc d) b h =
    omega (arith, sum_by-append f x (all (set cs d b)), sum_by-append f x (all cs), weigh_set f cs d b (omega arith))

weigh_erased : (f : Rec → ℕ) (cs : Contents) (c : ℕ) → sum_by f (all (set cs c [])) + sum_by f (get_or cs c []) ≡ sum_by f (all cs)
weigh_erased f [] c = refl
weigh_erased f (x ∷ cs) zero = omega (arith, sum_by-append f x (all cs))
weigh_erased f (x ∷ cs) (suc c) =
    omega (arith, sum_by-append f x (all (set cs c [])), sum_by-append f x (all cs), weigh_erased f cs c)

weigh_verdict : {X : Type 0} (f : X → ℕ) (vs : List Bool) (rs : List X) → sum_by f (spared vs rs) + sum_by f (doomed vs rs) ≡ sum_by f rs
weigh_verdict f [] rs = omega arith
weigh_verdict f (v ∷ vs) [] = refl
weigh_verdict f (true ∷ vs) (r ∷ rs) = omega (arith, sum_by-cons f r (spared vs rs), sum_by-cons f r rs, weigh_verdict f vs rs)
weigh_verdict f (false ∷ vs) (r ∷ rs) = omega (arith, sum_by-cons f r (doomed vs rs), sum_by-cons f r rs, weigh_verdict f vs rs)

in_verdict : {X : Type 0} (x : X) (vs : List Bool) (rs : List X) → In x rs → In x (spared vs rs) ⊎ In x (doomed vs rs)
in_verdict x [] rs h = inr h
in_verdict x (v ∷ vs) [] h = elim h [ ]
in_verdict x (true ∷ vs) (r ∷ rs) h = ⊎_elim (λ e. inl (inl e)) (λ i. ⊎_elim (λ a. inl (inr a)) (λ b. inr b) (in_verdict x vs rs i)) h
in_verdict x (false ∷ vs) (r ∷ rs) h = ⊎_elim (λ e. inr (inl e)) (λ i. ⊎_elim (λ a. inl a) (λ b. inr (inr b)) (in_verdict x vs rs i)) h

module _ (c : ℕ) where
  -- one record placed
  pub placed_weighs : (f : Rec → ℕ) (cs : Contents) (r : Rec) (cs' : Contents) → Placed c cs r cs' → sum_by f (all cs') ≡ sum_by f (all cs) + f r
  placed_weighs f cs r cs' h =
      let d = h.0 in
      let b = get_or cs d [] in
      ap (λ x. sum_by f (all x)) h.3
      ∙ omega (arith, weigh_set f cs d (b ++ (r ∷ [])) h.1, sum_by-append f b (r ∷ []), sum_by-cons f r [])

  placed_apart : (cs : Contents) (r : Rec) (cs' : Contents) → Placed c cs r cs' → get_or cs' c [] ≡ get_or cs c []
  placed_apart cs r cs' h = ap (λ x. get_or x c []) h.3 ∙ get_or-set_other cs h.0 c _ [] (λ e. h.2 (sym e))

  pub placed_keeps : (cs : Contents) (r : Rec) (cs' : Contents) → Placed c cs r cs' → (x : Rec) (e : ℕ) → In x (get_or cs e []) → In x (get_or cs' e [])
  placed_keeps cs r cs' h x e i =
      let d = h.0 in
      subst (λ (z : Contents). In x (get_or z e [])) (sym h.3)
      (⊎_elim
      (λ (s : e ≡ d). subst (λ (n : ℕ). In x (get_or (appended cs d r) n [])) (sym s)
      (subst (λ (z : List Rec). In x z) (sym (get_or-set_same cs d (get_or cs d [] ++ (r ∷ [])) [] h.1))
      (in_left x (get_or cs d []) (r ∷ []) (subst (λ (n : ℕ). In x (get_or cs n [])) s i))))
      (λ n. subst (λ (z : List Rec). In x z) (sym (get_or-set_other cs d e (get_or cs d [] ++ (r ∷ [])) [] n)) i)
      (cases_eq e d))

  pub placed_arrives : (cs : Contents) (r : Rec) (cs' : Contents) → Placed c cs r cs' → (d : ℕ) × (d ≡ c → ⊥) × In r (get_or cs' d [])
  placed_arrives cs r cs' h =
      let d = h.0 in (
        d,
        h.2,
        subst (λ (z : Contents). In r (get_or z d [])) (sym h.3)
            (subst (λ (z : List Rec). In r z) (sym (get_or-set_same cs d (get_or cs d [] ++ (r ∷ [])) [] h.1))
            (in_right r (get_or cs d []) (r ∷ []) (inl refl))),
      )

  -- all of them
  moved_weighs : (f : Rec → ℕ) (rs : List Rec) (cs m : Contents) → Chain (Placed c) cs rs m → sum_by f (all m) ≡ sum_by f (all cs) + sum_by f rs
  moved_weighs f [] cs m h = ap (λ x. sum_by f (all x)) h ∙ omega arith
  moved_weighs f (r ∷ rs) cs m h =
      omega (arith, moved_weighs f rs h.0 m h.2, placed_weighs f cs r h.0 h.1, sum_by-cons f r rs)

  moved_apart : (rs : List Rec) (cs m : Contents) → Chain (Placed c) cs rs m → get_or m c [] ≡ get_or cs c []
  moved_apart [] cs m h = ap (λ x. get_or x c []) h
  moved_apart (r ∷ rs) cs m h = moved_apart rs h.0 m h.2 ∙ placed_apart cs r h.0 h.1

  moved_keeps : (rs : List Rec) (cs m : Contents) → Chain (Placed c) cs rs m → (x : Rec) (e : ℕ) → In x (get_or cs e []) → In x (get_or m e [])
  moved_keeps [] cs m h x e i = subst (λ (z : Contents). In x (get_or z e [])) (sym h) i
  moved_keeps (r ∷ rs) cs m h x e i = moved_keeps rs h.0 m h.2 x e (placed_keeps cs r h.0 h.1 x e i)

  moved_arrives : (rs : List Rec) (cs m : Contents) → Chain (Placed c) cs rs m → (x : Rec) → In x rs → (d : ℕ) × (d ≡ c → ⊥) × In x (get_or m d [])
  moved_arrives [] cs m h x i = elim i [ ]
  moved_arrives (r ∷ rs) cs m h x i =
      ⊎_elim
      (λ (e : x ≡ r).
      let a = placed_arrives cs r h.0 h.1 in
      (a.0, a.1, moved_keeps rs h.0 m h.2 x a.0 (subst (λ (y : Rec). In y (get_or h.0 a.0 [])) (sym e) a.2)))
      (λ j. moved_arrives rs h.0 m h.2 x j) i

  module _ (cs : Contents) (vs : List Bool) (cs' : Contents) (h : Cleared cs c vs cs') where
    -- exactly the records with verdict no are lost, whatever is counted
    pub cleared_weighs : (f : Rec → ℕ) → sum_by f (all cs) ≡ sum_by f (all cs') + sum_by f (doomed vs (get_or cs c []))
    cleared_weighs f =
        let a : sum_by f (all cs') ≡ sum_by f (all (set h.0 c [])) = ap (λ x. sum_by f (all x)) h.2 in
        let b : sum_by f (get_or h.0 c []) ≡ sum_by f (get_or cs c []) = ap (λ x. sum_by f x) (moved_apart (spared vs (get_or cs c [])) cs h.0 h.1) in
        omega (arith, weigh_erased f h.0 c, moved_weighs f (spared vs (get_or cs c [])) cs h.0 h.1, weigh_verdict f vs (get_or cs c []))

    pub cleared_single : Single cs → Single cs'
    cleared_single single p = omega (arith, single p, cleared_weighs (λ r. cond (same_bytes r.fingerprint p) 1 0))

    -- a record with no verdict no still stands
    pub cleared_keeps : (r : Rec) → In r (all cs) → (In r (doomed vs (get_or cs c [])) → ⊥) → In r (all cs')
    cleared_keeps r i safe =
        let elsewhere : (e : ℕ) → (e ≡ c → ⊥) → In r (get_or h.0 e []) → In r (all cs') = λ e n j.
        in_all r cs' e (subst (λ (z : Contents). In r (get_or z e [])) (sym h.2) (subst (λ (z : List Rec). In r z) (sym (get_or-set_other h.0 c e [] [] n)) j)) in
        let b = container_of r cs i in
        ⊎_elim
        (λ (s : b.0 ≡ c). ⊎_elim
        (λ y. let a = moved_arrives (spared vs (get_or cs c [])) cs h.0 h.1 r y in elsewhere a.0 a.1 a.2)
        (λ y. absurd (safe y))
        (in_verdict r vs (get_or cs c []) (subst (λ (n : ℕ). In r (get_or cs n [])) s b.1)))
        (λ n. elsewhere b.0 n (moved_keeps (spared vs (get_or cs c [])) cs h.0 h.1 r b.0 b.1))
        (cases_eq b.0 c)

    module _ (w : ℕ) (single : Single cs) (root : List ℕ) (whole : Whole w cs root) (safe : (r : Rec) → In r (doomed vs (get_or cs c [])) → Reaches w cs root r.fingerprint → ⊥) where
      -- where no reached record has verdict no, each reached fingerprint has the record that it had
      pub cleared_agrees : (p : List ℕ) → Reaches w cs root p → record_of cs' p ≡ record_of cs p
      cleared_agrees p g =
          let s = reached_stored w cs root whole p g in
          let r = s.0 in
          let f = first_in p r (all cs) s.1 in
          let is : r.fingerprint ≡ p = same_equal r.fingerprint p f.1 in
          in_first p r (all cs') (cleared_keeps r f.0 (λ d. safe r d (subst (λ (q : List ℕ). Reaches w cs root q) (sym is) g))) f.1 (cleared_single single p)
          ∙ sym s.1

      -- so the tree keeps its text
      pub cleared-text : Whole w cs' root × (text w cs' root ≡ text w cs root)
      cleared-text = text_survives w cs cs' root cleared_agrees whole

doomed_no : {X : Type 0} (v : X → Bool) (rs : List X) (x : X) → In x (doomed (map v rs) rs) → v x ≡ false
doomed_no v [] x h = elim h [ ]
doomed_no v (r ∷ rs) x h =
    elim (v r) as (λ b. v r ≡ b → In x (cond b (doomed (map v rs) rs) (r ∷ doomed (map v rs) rs)) → v x ≡ false) [
      | true ↦ λ e i. doomed_no v rs x i
      | false ↦ λ e i. ⊎_elim (λ s. ap v s ∙ e) (λ j. doomed_no v rs x j) i
    ] refl h

module _ (w : ℕ) (vote : List ℕ → Bool) (cs cs' : Contents) (c : ℕ) (roots : List (List ℕ)) (single : Single cs) (whole : (root : List ℕ) → In root roots → Whole w cs root) (votes : (p : List ℕ) → Reached w cs roots p → vote p ≡ true) (h : Cleared cs c (map (λ r. vote r.fingerprint) (get_or cs c [])) cs') where
  marked_agrees : (root : List ℕ) → In root roots → (p : List ℕ) → Reaches w cs root p → record_of cs' p ≡ record_of cs p
  marked_agrees root i =
      cleared_agrees c cs (map (λ r. vote r.fingerprint) (get_or cs c [])) cs' h w single root (whole root i)
      (λ r d g. both_ways (vote r.fingerprint) (doomed_no (λ x. vote x.fingerprint) (get_or cs c []) r d) (votes r.fingerprint (root, i, g)))

  pub clear_marked : Single cs' × ((root : List ℕ) → In root roots → Whole w cs' root × (text w cs' root ≡ text w cs root)) × ((p : List ℕ) → Reached w cs' roots p → vote p ≡ true)
  clear_marked = (
    cleared_single c cs (map (λ r. vote r.fingerprint) (get_or cs c [])) cs' h single,
    λ root i. text_survives w cs cs' root (marked_agrees root i) (whole root i),
    λ p g. votes p (g.0, g.1, reached-before w cs cs' g.0 (marked_agrees g.0 g.1) p g.2),
  )
