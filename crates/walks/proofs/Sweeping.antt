-- What each step of an examination brings about.
use Rattle.std.proofs.Common.{◌≡◌, ℕ, suc, ◌+◌, ◌-◌, ◌<◌, ◌≤◌, Bool, true, false, ◌||◌, ◌⊎◌, List, [], ◌∷◌, ◌++◌, length, Some, Option, sym, refl, ap, ◌∙◌, subst, inl, inr, ⊎_elim, arith}
use Rattle.std.proofs.lemmas.List.{length-set}
use Rattle.std.proofs.lemmas.Bool.{both_ways, cases_lt}
use Rattle.keys.specs.Octets.{same_bytes}
use Rattle.keys.specs.Little.{same_self, same_equal}
use Rattle.records.specs.Records.{Rec, Contents}
use Rattle.records.specs.declared.refusal.Place.{Place}
use Rattle.slots.specs.Tables.{holds, filled, others_only, placed, grown, Sound, Emptied, Inserted}
use Rattle.slots.specs.Walks.{probed, is_found, is_full}
use Rattle.slots.specs.declared.probe.Probe.{Probe}
use Rattle.slots.specs.declared.probe.Probe.TheVariants.{Found, Free, Full}
use Rattle.slots.proofs.Walking.{met_is, others_filled, full_is}
use Rattle.trees.specs.Holding.{In, all, record_of}
use Rattle.trees.specs.Trees.{cut, Reaches, StoredUnder, StoredNode, Whole, level_of}
use Rattle.trees.specs.Trees.Reaches.{itself, onward}
use Rattle.trees.proofs.Finding.{in_either}
use Rattle.walks.specs.Findings.{Faulty}
use Rattle.walks.specs.Sweeps.{Admitted, Counted, Sweep, Parent}
use Rattle.walks.proofs.Counting.{distinct_few}

module _ {K : Type 0} (bytes : K → List ℕ) where
  length-placed : (p : Probe) (k : K) (xs : List (Option K)) → length (placed p k xs) ≡ length xs
  length-placed (Found i) k xs = refl
  length-placed (Free i) k xs = length-set xs i (Some k)
  length-placed Full k xs = refl

  -- one key more
  module _ (k : K) (xs : List (Option K)) (p : Probe) (ys : List (Option K)) (h : Inserted bytes k xs p ys) (space : is_full p ≡ false) (sound : Sound bytes xs) where
    holds_more : (x : K) → holds bytes xs x ≡ true → holds bytes ys x ≡ true
    holds_more x e = h.exact sound space x ∙ ap (λ b. same_bytes (bytes k) (bytes x) || b) e ∙ or_true (same_bytes (bytes k) (bytes x))
      where
        or_true : (b : Bool) → (b || true) ≡ true
        or_true true = refl
        or_true false = refl

    holds_new : (x : K) → bytes x ≡ bytes k → holds bytes ys x ≡ true
    holds_new x e = h.exact sound space x ∙ ap (λ b. b || holds bytes xs x) (ap (same_bytes (bytes k)) e ∙ same_self (bytes k))

    holds-before : (x : K) → holds bytes ys x ≡ true → (bytes x ≡ bytes k) ⊎ (holds bytes xs x ≡ true)
    holds-before x e =
        elim (same_bytes (bytes k) (bytes x)) as (λ b. same_bytes (bytes k) (bytes x) ≡ b → (b || holds bytes xs x) ≡ true → (bytes x ≡ bytes k) ⊎ (holds bytes xs x ≡ true)) [
          | true ↦ λ s o. inl (sym (same_equal (bytes k) (bytes x) s))
          | false ↦ λ s o. inr o
        ] refl (sym (h.exact sound space x) ∙ e)

    admitted_more : (cs : Contents) (n : ℕ) (children : List (List ℕ)) → Admitted bytes cs n children xs → Admitted bytes cs n children ys
    admitted_more cs n children a q i = let b = a q i in (b.0, λ x e. holds_more x (b.1 x e))

    -- it is counted once
    counted_more : (cs : Contents) → ((r : Rec) × (record_of cs (bytes k) ≡ Some r)) → Counted bytes cs xs → Counted bytes cs ys
    counted_more cs stored c = go p refl
      where
        go : (o : Probe) → p ≡ o → Counted bytes cs ys
        go (Found i) e = record {
          fingerprints = c.fingerprints;
          distinct = c.distinct;
          many = c.many ∙ sym (let n = h.count in let g : grown p ≡ 0 = ap grown e in let s : filled ys ≡ filled xs = omega arith in s);
          held = λ x i. holds_more x (c.held x i);
          stored = c.stored;
        }
        go (Free i) e = record {
          fingerprints = bytes k ∷ c.fingerprints;
          distinct = (
            λ i. both_ways (holds bytes xs k) (sym (met_is bytes k xs sound) ∙ ap is_found (sym h.answer ∙ e)) (c.held k i),
            c.distinct,
          );
          many = (let n = h.count in let g : grown p ≡ 1 = ap grown e in let s : suc (length c.fingerprints) ≡ filled ys = omega (arith, c.many) in s);
          held = λ x. ⊎_elim (λ e. holds_new x e) (λ i. holds_more x (c.held x i));
          stored = λ f. ⊎_elim
              (λ (e : f ≡ bytes k). subst (λ (g : List ℕ). (r : Rec) × (record_of cs g ≡ Some r)) (sym e) stored)
              (λ i. c.stored f i);
        }
        go Full e = absurd (both_ways (is_full p) space (ap is_full e))

  -- a table that takes no more has fewer slots than there are records
  full_short : (cs : Contents) (k : K) (xs : List (Option K)) → Sound bytes xs → Counted bytes cs xs → ((r : Rec) × (record_of cs (bytes k) ≡ Some r)) → others_only bytes k xs ≡ true → length xs < length (all cs)
  full_short cs k xs sound c stored others =
      let absent : holds bytes xs k ≡ false = sym (met_is bytes k xs sound) ∙ not_found (probed bytes k xs) (full_is bytes k xs ∙ others) in
      let few = distinct_few (bytes k ∷ c.fingerprints) (all cs) ((λ i. both_ways (holds bytes xs k) absent (c.held k i)), c.distinct)
      (λ f. ⊎_elim (λ (e : f ≡ bytes k). subst (λ (g : List ℕ). (r : Rec) × (record_of cs g ≡ Some r)) (sym e) stored) (λ i. c.stored f i)) in
      omega (arith, c.many, others_filled bytes k xs others)
    where
      not_found : (p : Probe) → is_full p ≡ true → is_found p ≡ false
      not_found (Found i) e = cc
      not_found (Free i) e = refl
      not_found Full e = refl

  module _ (w : ℕ) (cs : Contents) (root : List ℕ) (slots n : ℕ) where
    -- a child of a held node goes into the table
    pub sweep_insert : (done : List (List ℕ)) (xs : List (Option K)) → Sweep bytes w cs root slots n done xs → 1 ≤ n → (x : Place) (p : K) (r : Rec) → Parent bytes cs x n xs p r → (k : K) → In (bytes k) (cut w r.payload) → StoredUnder cs n (bytes k) → (o : Probe) (ys : List (Option K)) → Inserted bytes k xs o ys → is_full o ≡ false → Sweep bytes w cs root slots n done ys × Parent bytes cs x n ys p r
    sweep_insert done xs s pos x p r f k i under o ys h space =
        let more = holds_more k xs o ys h space s.sound in
        let cases = holds-before k xs o ys h space s.sound in
        let keeps = admitted_more k xs o ys h space s.sound cs in
        let low : (z : K) (y : Rec) → bytes z ≡ bytes k → record_of cs (bytes z) ≡ Some y → y.level + 1 ≡ n = λ z y e g.
        (let same : under.0.level ≡ y.level = ap level_of (sym under.1 ∙ ap (record_of cs) (sym e) ∙ g) in omega (arith, under.2)) in (
          record {
            long = ap length h.after ∙ length-placed o k xs ∙ s.long;
            sound = h.sound s.sound;
            counted = counted_more k xs o ys h space s.sound cs (under.0, under.1) s.counted;
            top = s.top;
            start = λ z e. more z (s.start z e);
            reached = λ z y. ⊎_elim
                (λ (e : bytes z ≡ bytes k). onward (s.reached p f.held) r f.is (omega (arith, f.level)) (subst (λ (q : List ℕ). In q (cut w r.payload)) (sym e) i))
                (λ y. s.reached z y) (cases z y);
            above = λ z y g e l. ⊎_elim
                (λ (same : bytes z ≡ bytes k). absurd (omega (arith, low z y same e)))
                (λ g. keeps y.level (cut w y.payload) (s.above z y g e l)) (cases z g);
            here = λ z y g j e l. ⊎_elim
                (λ (same : bytes z ≡ bytes k). absurd (omega (arith, low z y same e)))
                (λ g. keeps n (cut w y.payload) (s.here z y g j e l)) (cases z g);
          },
          record { held = more p f.held; place = f.place; is = f.is; level = f.level },
        )

    -- what was admitted stays so, and the child is admitted too
    pub admitted_insert : (done : List (List ℕ)) (xs : List (Option K)) → Sweep bytes w cs root slots n done xs → (k : K) → StoredUnder cs n (bytes k) → (o : Probe) (ys : List (Option K)) → Inserted bytes k xs o ys → is_full o ≡ false → (children : List (List ℕ)) → Admitted bytes cs n children xs → Admitted bytes cs n (children ++ (bytes k ∷ [])) ys
    admitted_insert done xs s k under o ys h space children a q i =
        ⊎_elim
        (λ j. admitted_more k xs o ys h space s.sound cs n children a q j)
        (⊎_elim
        (λ (e : q ≡ bytes k). (subst (StoredUnder cs n) (sym e) under, λ z d. holds_new k xs o ys h space s.sound z (d ∙ e)))
        (λ j. elim j [ ]))
        (in_either q children (bytes k ∷ []) i)

    pub sweep_full : (done : List (List ℕ)) (xs : List (Option K)) → Sweep bytes w cs root slots n done xs → (k : K) → StoredUnder cs n (bytes k) → others_only bytes k xs ≡ true → StoredNode cs root × (slots < length (all cs))
    sweep_full done xs s k under others = (s.top, (let f = full_short cs k xs s.sound s.counted (under.0, under.1) others in omega (arith, s.long)))

    -- a child that is not stored just below
    pub sweep_fault : (done : List (List ℕ)) (xs : List (Option K)) → Sweep bytes w cs root slots n done xs → 1 ≤ n → (x : Place) (p : K) (r : Rec) → Parent bytes cs x n xs p r → (q : List ℕ) → In q (cut w r.payload) → (StoredUnder cs n q → ⊥) → Faulty w cs root x
    sweep_fault done xs s pos x p r f q i lacks = record {
      node = bytes p;
      parent = r;
      child = q;
      reached = s.reached p f.held;
      place = sym f.place;
      is = f.is;
      above = omega (arith, f.level);
      lists = i;
      missing = λ u. lacks (subst (λ (m : ℕ). StoredUnder cs m q) f.level u);
    }

    -- less is done
    pub sweep_less : (done done' : List (List ℕ)) (xs : List (Option K)) → ((f : List ℕ) → In f done' → In f done) → Sweep bytes w cs root slots n done xs → Sweep bytes w cs root slots n done' xs
    sweep_less done done' xs less s = record {
      long = s.long;
      sound = s.sound;
      counted = s.counted;
      top = s.top;
      start = s.start;
      reached = s.reached;
      above = s.above;
      here = λ k r g i e l. s.here k r g (less (bytes k) i) e l;
    }

    -- one node more is done: its children are admitted if it is held at this level
    pub sweep_done : (done : List (List ℕ)) (xs : List (Option K)) (p : K) → Sweep bytes w cs root slots n done xs → ((r : Rec) → holds bytes xs p ≡ true → record_of cs (bytes p) ≡ Some r → r.level ≡ n → Admitted bytes cs n (cut w r.payload) xs) → ((x y : K) → bytes x ≡ bytes y → x ≡ y) → Sweep bytes w cs root slots n (bytes p ∷ done) xs
    sweep_done done xs p s fine equal = record {
      long = s.long;
      sound = s.sound;
      counted = s.counted;
      top = s.top;
      start = s.start;
      reached = s.reached;
      above = s.above;
      here = λ k r g i e l. ⊎_elim
          (λ (same : bytes k ≡ bytes p).
          let is : k ≡ p = equal k p same in
          fine r (ap (holds bytes xs) (sym is) ∙ g) (ap (record_of cs) (sym same) ∙ e) l)
          (λ j. s.here k r g j e l) i;
    }

    -- the level is done once all stored fingerprints are
    pub sweep_down : (done : List (List ℕ)) (xs : List (Option K)) → 1 ≤ n → ((f : List ℕ) (r : Rec) → record_of cs f ≡ Some r → In f done) → Sweep bytes w cs root slots n done xs → Sweep bytes w cs root slots (n - 1) [] xs
    sweep_down done xs pos every s = record {
      long = s.long;
      sound = s.sound;
      counted = s.counted;
      top = s.top;
      start = s.start;
      reached = s.reached;
      above = λ k r g e l. ⊎_elim
          (λ (lt : n < r.level). s.above k r g e lt)
          (λ (le : r.level ≤ n).
          let is : r.level ≡ n = omega arith in
          subst (λ (m : ℕ). Admitted bytes cs m (cut w r.payload) xs) (sym is) (s.here k r g (every (bytes k) r e) e is))
          (cases_lt n r.level);
      here = λ k r g i e l. elim i [ ];
    }

  -- at level 0 the tree is whole
  pub sweep_whole : (key : List ℕ → K) (w : ℕ) (cs : Contents) (root : List ℕ) (slots : ℕ) (xs : List (Option K)) → ((q : List ℕ) → Reaches w cs root q → bytes (key q) ≡ q) → Sweep bytes w cs root slots 0 [] xs → Whole w cs root
  sweep_whole key w cs root slots xs typed s = record {
    top = s.top;
    below = λ p q r g e l i. (s.above (key p) r (all_held p g) (ap (record_of cs) (typed p g) ∙ e) (omega arith) q i).0;
  }
    where
      all_held : (p : List ℕ) → Reaches w cs root p → holds bytes xs (key p) ≡ true
      all_held _ itself = s.start (key root) (typed root itself)
      all_held q (onward {p} g r e l i) = (s.above (key p) r (all_held p g) (ap (record_of cs) (typed p g) ∙ e) (omega arith) q i).1 (key q) (typed q (onward g r e l i))

  -- the root alone is held
  pub sweep_start : (w : ℕ) (cs : Contents) (k : K) (r : Rec) (xs : List (Option K)) → Emptied bytes xs → record_of cs (bytes k) ≡ Some r → 1 ≤ r.level → (o : Probe) (ys : List (Option K)) → Inserted bytes k xs o ys → is_full o ≡ false → Sweep bytes w cs (bytes k) (length xs) r.level [] ys
  sweep_start w cs k r xs e is pos o ys h space =
      let only : (z : K) → holds bytes ys z ≡ true → bytes z ≡ bytes k = λ z g. ⊎_elim (λ x. x) (λ x. absurd (both_ways (holds bytes xs z) (e.exact z) x)) (holds-before k xs o ys h space e.sound z g) in
      record {
        long = ap length h.after ∙ length-placed o k xs;
        sound = h.sound e.sound;
        counted = counted_more k xs o ys h space e.sound cs (r, is) (none_counted cs xs e.none);
        top = (r, is, pos);
        start = λ z same. holds_new k xs o ys h space e.sound z same;
        reached = λ z g. subst (Reaches w cs (bytes k)) (sym (only z g)) itself;
        above = λ z y g f l. absurd (let same : r.level ≡ y.level = ap level_of (sym is ∙ ap (record_of cs) (sym (only z g)) ∙ f) in omega arith);
        here = λ z y g i f l. elim i [ ];
      }
    where
      none_counted : (cs : Contents) (xs : List (Option K)) → filled xs ≡ 0 → Counted bytes cs xs
      none_counted cs xs none = record { fingerprints = []; distinct = tt; many = sym none; held = λ z i. elim i [ ]; stored = λ f i. elim i [ ] }

  -- not even the root finds a slot
  pub start_full : (cs : Contents) (k : K) (r : Rec) (xs : List (Option K)) → Emptied bytes xs → record_of cs (bytes k) ≡ Some r → others_only bytes k xs ≡ true → length xs < length (all cs)
  start_full cs k r xs e is others =
      full_short cs k xs e.sound (record { fingerprints = []; distinct = tt; many = sym e.none; held = λ z i. elim i [ ]; stored = λ f i. elim i [ ] }) (r, is) others
