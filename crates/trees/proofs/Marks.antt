-- After the pass the set says yes to each reached fingerprint; an exact set to no other.
use Rattle.std.proofs.Common.{◌≡◌, ℕ, zero, suc, ◌<◌, ◌≤◌, Bool, true, false, ◌&&◌, eqb, List, [], ◌∷◌, Some, sym, refl, ap, ◌∙◌, subst, inl, inr, ⊎_elim, arith}
use Rattle.std.proofs.lemmas.Bool.{eqb-true, eq-eqb, cases_lt, and_parts}
use Rattle.keys.specs.Little.{same_equal}
use Rattle.records.specs.Records.{Rec, Contents}
use Rattle.trees.specs.Holding.{In, all, record_of, Single}
use Rattle.trees.specs.Trees.{cut, Reaches, Whole, level_of}
use Rattle.trees.specs.Trees.Reaches.{itself, onward}
use Rattle.trees.specs.Chains.{Chain}
use Rattle.trees.specs.Marking.{Meaning, Noted, Exactly, Either, Seen, Visited, Leveled, Marked, Reached}
use Rattle.trees.proofs.Finding.{in_left, in_right, in_either, first_in, record_of_in, reached_stored}

-- what each step keeps, the chain keeps
pub chain_keeps : {S X : Type 0} (R : S → X → S → Type 0) (I : S → Type 0) (xs : List X) → ((u : S) (x : X) (v : S) → In x xs → R u x v → I u → I v) → (u after : S) → Chain R u xs after → I u → I after
chain_keeps R I [] keep u after h i = subst I (sym h) i
chain_keeps R I (x ∷ xs) keep u after h i =
    chain_keeps R I xs (λ a y b j. keep a y b (inr j)) h.0 after h.2 (keep u x h.0 (inl refl) h.1 i)

-- what the step at x brings about, the chain brings about
pub chain_meets : {S X : Type 0} (R : S → X → S → Type 0) (A B : S → Type 0) → ((u : S) (x : X) (v : S) → R u x v → A u → A v) → ((u : S) (x : X) (v : S) → R u x v → B u → B v) → (x : X) → ((u v : S) → R u x v → A u → B v) → (xs : List X) → In x xs → (u after : S) → Chain R u xs after → A u → B after
chain_meets R A B keepA keepB x brings [] i u after h a = elim i [ ]
chain_meets {X} R A B keepA keepB x brings (y ∷ xs) i u after h a =
    ⊎_elim
    (λ (e : x ≡ y). chain_keeps R B xs (λ p z q j. keepB p z q) h.0 after h.2 (brings u h.0 (subst (λ (z : X). R u z h.0) (sym e) h.1) a))
    (λ j. chain_meets R A B keepA keepB x brings xs j h.0 after h.2 (keepA u y h.0 h.1 a)) i

container_with : (r : Rec) (cs : Contents) → In r (all cs) → (b : List Rec) × In b cs × In r b
container_with r [] h = elim h [ ]
container_with r (b ∷ cs) h =
    ⊎_elim (λ i. (b, inl refl, i)) (λ i. let c = container_with r cs i in (c.0, inr c.1, c.2)) (in_either r b (all cs) h)

in_container : (r : Rec) (b : List Rec) (cs : Contents) → In b cs → In r b → In r (all cs)
in_container r b [] i j = elim i [ ]
in_container r b (x ∷ cs) i j =
    ⊎_elim
    (λ (e : b ≡ x). in_left r x (all cs) (subst (λ (z : List Rec). In r z) e j))
    (λ n. in_right r x (all cs) (in_container r b cs n j)) i

abbrev pub levels : ℕ → List ℕ
levels zero = []
levels (suc n) = suc n ∷ levels n

module _ {S : Type 0} (w : ℕ) (says : S → List ℕ → Bool) (Mark : S → List ℕ → S → Type 0) where
  module _ (I : S → Type 0) (keep : (u : S) (p : List ℕ) (v : S) → Mark u p v → I u → I v) where
    keep_seen : (n : ℕ) (u : S) (r : Rec) (v : S) → Seen w says Mark n u r v → I u → I v
    keep_seen n u r v h i =
        elim (eqb r.level n && says u r.fingerprint) as (λ t. Either t (Chain Mark u (cut w r.payload) v) (v ≡ u) → I v) [
          | true ↦ λ c. chain_keeps Mark I (cut w r.payload) (λ a x b j. keep a x b) u v c i
          | false ↦ λ e. subst I (sym e) i
        ] h

    keep_visited : (n : ℕ) (u : S) (b : List Rec) (v : S) → Visited w says Mark n u b v → I u → I v
    keep_visited n u b v h i = chain_keeps (Seen w says Mark n) I b (λ a x c j. keep_seen n a x c) u v h i

    pub keep_leveled : (cs : Contents) (u : S) (n : ℕ) (v : S) → Leveled w says Mark cs u n v → I u → I v
    keep_leveled cs u n v h i = chain_keeps (Visited w says Mark n) I cs (λ a x c j. keep_visited n a x c) u v h i

module _ {S : Type 0} (w : ℕ) (m : Meaning S) (Mark : S → List ℕ → S → Type 0) (noted : (u : S) (p : List ℕ) (v : S) → Mark u p v → Noted m u p v) (cs : Contents) where
  -- each stored fingerprint is covered
  abbrev pub Covered : S → Type 0
  Covered u = (r : Rec) → In r (all cs) → m.covers u r.fingerprint ≡ true

  pub keep_covered : (u : S) (p : List ℕ) (v : S) → Mark u p v → Covered u → Covered v
  keep_covered u p v h c r i = (noted u p v h).covers r.fingerprint ∙ c r i

  pub keep_yes : (x : List ℕ) (u : S) (p : List ℕ) (v : S) → Mark u p v → m.says u x ≡ true → m.says v x ≡ true
  keep_yes x u p v h y = (noted u p v h).yeses x y

  -- a stored record of level n with a yes: each stored child of it has a yes after the level
  pub child_yes : (n : ℕ) (r c : Rec) → In r (all cs) → r.level ≡ n → In c (all cs) → In c.fingerprint (cut w r.payload) → (u v : S) → Leveled w m.says Mark cs u n v → Covered u → m.says u r.fingerprint ≡ true → m.says v c.fingerprint ≡ true
  child_yes n r c i l j q u v h cov y =
      let A : S → Type 0 = λ s. Covered s × (m.says s r.fingerprint ≡ true) in
      let B : S → Type 0 = λ s. m.says s c.fingerprint ≡ true in
      let keepA : (s : S) (p : List ℕ) (t : S) → Mark s p t → A s → A t = λ s p t g a. (keep_covered s p t g a.0, keep_yes r.fingerprint s p t g a.1) in
      let keepB : (s : S) (p : List ℕ) (t : S) → Mark s p t → B s → B t = λ s p t g. keep_yes c.fingerprint s p t g in
      let found = container_with r cs i in
      chain_meets (Visited w m.says Mark n) A B (keep_visited w m.says Mark A keepA n) (keep_visited w m.says Mark B keepB n) found.0
      (λ s t g. chain_meets (Seen w m.says Mark n) A B (keep_seen w m.says Mark A keepA n) (keep_seen w m.says Mark B keepB n) r
      (λ a b f z.
      let yes-here : (eqb r.level n && m.says a r.fingerprint) ≡ true = rw (eq-eqb r.level n l, z.1) refl in
      let marks : Chain Mark a (cut w r.payload) b = subst (λ (o : Bool). Either o (Chain Mark a (cut w r.payload) b) (b ≡ a)) yes-here f in
      chain_meets Mark Covered B keep_covered keepB c.fingerprint (λ s' t' after d. (noted s' c.fingerprint t' after).gets (d c j)) (cut w r.payload) q a b marks z.0)
      found.0 found.2 s t g)
      cs found.1 u v h (cov, y)

  module _ (roots : List (List ℕ)) (whole : (root : List ℕ) → In root roots → Whole w cs root) where
    -- the roots have a yes, and so has each reached record from level n up
    record Down (n : ℕ) (u : S) : Type 0 where
      covered : Covered u
      tops : (root : List ℕ) → In root roots → m.says u root ≡ true
      from : (root p : List ℕ) (r : Rec) → In root roots → Reaches w cs root p → record_of cs p ≡ Some r → n ≤ r.level → m.says u p ≡ true

    -- one level down
    down : (n : ℕ) (u v : S) → Leveled w m.says Mark cs u (suc n) v → Down (suc n) u → Down n v
    down n u v h d =
        let keeps : (p : List ℕ) → m.says u p ≡ true → m.says v p ≡ true = λ p. keep_leveled w m.says Mark (λ s. m.says s p ≡ true) (keep_yes p) cs u (suc n) v h in
        record {
          covered = keep_leveled w m.says Mark Covered keep_covered cs u (suc n) v h d.covered;
          tops = λ root i. keeps root (d.tops root i);
          from = λ root p r i g e l. go root i p r g e l;
        }
      where
        go : (root : List ℕ) → In root roots → (p : List ℕ) (r : Rec) → Reaches w cs root p → record_of cs p ≡ Some r → n ≤ r.level → m.says v p ≡ true
        go root i _ r itself e l = keep_leveled w m.says Mark (λ s. m.says s root ≡ true) (keep_yes root) cs u (suc n) v h (d.tops root i)
        go root i q r (onward {p} g r' e' l' j) e l =
            let c = (whole root i).below p q r' g e' l' j in
            let same : c.0.level ≡ r.level = ap level_of (sym c.1 ∙ e) in
            let a = first_in p r' (all cs) e' in
            let b = first_in q r (all cs) e in
            let is-p : r'.fingerprint ≡ p = same_equal r'.fingerprint p a.1 in
            let is-q : r.fingerprint ≡ q = same_equal r.fingerprint q b.1 in
            ⊎_elim
            (λ (s : n < r.level). keep_leveled w m.says Mark (λ s. m.says s q ≡ true) (keep_yes q) cs u (suc n) v h (d.from root q r i (onward g r' e' l' j) e (omega arith)))
            (λ (s : r.level ≤ n).
            subst (λ (x : List ℕ). m.says v x ≡ true) is-q
            (child_yes (suc n) r' r a.0 (omega (arith, c.2)) b.0 (subst (λ (x : List ℕ). In x (cut w r'.payload)) (sym is-q) j) u v h d.covered
            (subst (λ (x : List ℕ). m.says u x ≡ true) (sym is-p) (d.from root p r' i g e' (omega (arith, c.2))))))
            (cases_lt n r.level)

    downs : (n : ℕ) (u after : S) → Chain (Leveled w m.says Mark cs) u (levels n) after → Down n u → Down 0 after
    downs zero u after h d = subst (Down 0) (sym h) d
    downs (suc n) u after h d = downs n h.0 after h.2 (down n u h.0 h.1 d)

    -- any live set: yes to each reached fingerprint
    pub marked-reached : ((r : Rec) → In r (all cs) → r.level ≤ 6) → (u after : S) → Marked w m.says Mark cs roots u after → Covered u → (p : List ℕ) → Reached w cs roots p → m.says after p ≡ true
    marked-reached low u after h cov p g =
        let v = h.0 in
        let tops : (root : List ℕ) → In root roots → m.says v root ≡ true = λ root i.
        let t = (whole root i).top in
        let f = first_in root t.0 (all cs) t.1 in
        chain_meets Mark Covered (λ s. m.says s root ≡ true) keep_covered (keep_yes root) root
        (λ a b n c. (noted a root b n).gets (subst (λ (x : List ℕ). m.covers a x ≡ true) (same_equal t.0.fingerprint root f.1) (c t.0 f.0)))
        roots i u v h.1 cov in
        let start : Down 6 v = record {
          covered = chain_keeps Mark Covered roots (λ a x b j. keep_covered a x b) u v h.1 cov;
          tops = tops;
          from = λ root q r i f e l. go tops root i q r f e l;
        } in
        let s = reached_stored w cs g.0 (whole g.0 g.1) p g.2 in
        (downs 6 v after h.2 start).from g.0 p s.0 g.1 g.2 s.1 (omega arith)
      where
        go : ((root : List ℕ) → In root roots → m.says h.0 root ≡ true) → (root : List ℕ) → In root roots → (q : List ℕ) (r : Rec) → Reaches w cs root q → record_of cs q ≡ Some r → 6 ≤ r.level → m.says h.0 q ≡ true
        go tops root i _ r itself e l = tops root i
        go tops root i q r (onward {p} g r' e' l' j) e l =
            let c = (whole root i).below p q r' g e' l' j in
            let same : c.0.level ≡ r.level = ap level_of (sym c.1 ∙ e) in
            absurd (omega (arith, c.2, low r' (first_in p r' (all cs) e').0))

module _ {S : Type 0} (w : ℕ) (m : Meaning S) (Mark : S → List ℕ → S → Type 0) (exactly : (u : S) (p : List ℕ) (v : S) → Mark u p v → Exactly m u p v) (cs : Contents) (single : Single cs) (roots : List (List ℕ)) where
  -- yes to reached fingerprints only
  abbrev Only : S → Type 0
  Only u = (p : List ℕ) → m.says u p ≡ true → Reached w cs roots p

  mark_only : (u : S) (p : List ℕ) (v : S) → Reached w cs roots p → Mark u p v → Only u → Only v
  mark_only u p v g h o x y = ⊎_elim (λ z. o x z) (λ (e : x ≡ p). subst (λ (q : List ℕ). Reached w cs roots q) (sym e) g) ((exactly u p v h).alone x y)

  seen_only : (n : ℕ) → 1 ≤ n → (u : S) (r : Rec) (v : S) → In r (all cs) → Seen w m.says Mark n u r v → Only u → Only v
  seen_only n pos u r v i h o =
      elim (eqb r.level n && m.says u r.fingerprint) as (λ t. (eqb r.level n && m.says u r.fingerprint) ≡ t → Either t (Chain Mark u (cut w r.payload) v) (v ≡ u) → Only v) [
        | true ↦ λ e c.
            let both = and_parts (eqb r.level n) (m.says u r.fingerprint) e in
            let l : 1 ≤ r.level = omega (arith, eqb-true r.level n both.0) in
            let g = o r.fingerprint both.1 in
            chain_keeps Mark Only (cut w r.payload)
            (λ a x b j. mark_only a x b (g.0, g.1, onward g.2 r (record_of_in cs single r i) l j)) u v c o
        | false ↦ λ e s. subst Only (sym s) o
      ] refl h

  leveled_only : (n : ℕ) → 1 ≤ n → (u v : S) → Leveled w m.says Mark cs u n v → Only u → Only v
  leveled_only n pos u v h o =
      chain_keeps (Visited w m.says Mark n) Only cs
      (λ a b c i. chain_keeps (Seen w m.says Mark n) Only b (λ s r t j. seen_only n pos s r t (in_container r b cs i j)) a c) u v h o

  swept_only : (n : ℕ) (u after : S) → Chain (Leveled w m.says Mark cs) u (levels n) after → Only u → Only after
  swept_only zero u after h o = subst Only (sym h) o
  swept_only (suc n) u after h o = swept_only n h.0 after h.2 (leveled_only (suc n) (omega arith) u h.0 h.1 o)

  -- a set that says yes to nothing but what was marked: yes to reached fingerprints only
  pub marked_only : (u after : S) → ((p : List ℕ) → m.says u p ≡ false) → Marked w m.says Mark cs roots u after → (p : List ℕ) → m.says after p ≡ true → Reached w cs roots p
  marked_only u after none h =
      swept_only 6 h.0 after h.2
      (chain_keeps Mark Only roots (λ a x b i. mark_only a x b (x, i, itself)) u h.0 h.1
      (λ p y. absurd (let z : ◌≡◌ {A = Bool} true false = sym y ∙ none p in let c : ◌≡◌ {A = ℕ} 0 1 = cc in omega arith)))
