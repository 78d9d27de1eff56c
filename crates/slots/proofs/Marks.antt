-- Marks on the keys of slots: taken off, and one more.
use Rattle.std.proofs.Common.{◌≡◌, ℕ, zero, suc, ◌<◌, Bool, true, false, ◌&&◌, ◌||◌, ◌⊎◌, List, [], ◌∷◌, length, get_or, set, Some, None, Option, sym, refl, ap, ◌∙◌, subst, inl, inr}
use Rattle.std.proofs.lemmas.List.{get_or-set_same, get_or-set_other}
use Rattle.std.proofs.Math.Bool.{or-true, or-false, and-false}
use Rattle.std.proofs.lemmas.Bool.{cases_eq}
use Rattle.keys.specs.Octets.{same_bytes}
use Rattle.keys.specs.Little.{same_self, same_equal}
use Rattle.slots.specs.declared.slot.Slot.{Slot}
use Rattle.slots.specs.declared.slot.Slot.TheVariants.{Empty, Plain, Marked}
use Rattle.slots.specs.declared.probe.Probe.{Probe}
use Rattle.slots.specs.declared.probe.Probe.TheVariants.{Found, Free, Full}
use Rattle.slots.specs.Walks.{keys_of, probed, reached, is_found, Within}
use Rattle.slots.specs.Marks.{is_marked, unmarked, noted, mark_at, NoMarks, OneMark}
use Rattle.slots.proofs.Walking.{held_at, walk_within}
use Rattle.slots.proofs.Cells.{keys_mark}

module _ {K : Type 0} where
  unmarked_keys : (xs : List (Slot K)) → keys_of (unmarked xs) ≡ keys_of xs
  unmarked_keys [] = refl
  unmarked_keys (Empty ∷ xs) = ap (λ ks. None ∷ ks) (unmarked_keys xs)
  unmarked_keys (Plain k ∷ xs) = ap (λ ks. Some k ∷ ks) (unmarked_keys xs)
  unmarked_keys (Marked k ∷ xs) = ap (λ ks. Some k ∷ ks) (unmarked_keys xs)

  unmarked-at : (xs : List (Slot K)) (i : ℕ) → is_marked (get_or (unmarked xs) i Empty) ≡ false
  unmarked-at [] i = refl
  unmarked-at (Empty ∷ xs) zero = refl
  unmarked-at (Plain k ∷ xs) zero = refl
  unmarked-at (Marked k ∷ xs) zero = refl
  unmarked-at (x ∷ xs) (suc i) = unmarked-at xs i

  unmarked_by : (p : Probe) (xs : List (Slot K)) → mark_at p (unmarked xs) ≡ false
  unmarked_by (Found i) xs = unmarked-at xs i
  unmarked_by (Free i) xs = refl
  unmarked_by Full xs = refl

  pub no_marks : (b : K → List ℕ) (xs : List (Slot K)) → NoMarks b xs (unmarked xs)
  no_marks b xs = record { same = unmarked_keys xs; none = λ x. unmarked_by (probed b x (keys_of (unmarked xs))) xs }

  -- whether the walk to x ended at a mark, after k was marked where its walk ended
  module _ (b : K → List ℕ) (inj : (x y : K) → b x ≡ b y → x ≡ y) (xs : List (Slot K)) where
    held-key : (k : K) (i : ℕ) → Found i ≡ probed b k (keys_of xs) → (d : Option K) → get_or (keys_of xs) i d ≡ Some k
    held-key k i e d =
        let (x, lt, get, agree) = held_at b k i (keys_of xs) e in
        get d ∙ ap Some (inj x k (same_equal (b x) (b k) agree))

    -- two walks that end at one place are of one key, and at two places of two
    same_place : (k x : K) (i j : ℕ) → Found i ≡ probed b k (keys_of xs) → Found j ≡ probed b x (keys_of xs) → j ≡ i → same_bytes (b k) (b x) ≡ true
    same_place k x i j e f at =
        let one : get_or (keys_of xs) i None ≡ Some k = held-key k i e None in
        let two : get_or (keys_of xs) j None ≡ Some x = held-key x j f None in
        let eq : k ≡ x = cc in
        subst (λ (y : K). same_bytes (b k) (b y) ≡ true) eq (same_self (b k))

    other_place : (k x : K) (i j : ℕ) (s : Bool) → Found i ≡ probed b k (keys_of xs) → Found j ≡ probed b x (keys_of xs) → (j ≡ i → ⊥) → s ≡ same_bytes (b k) (b x) → s ≡ false
    other_place k x i j true e f n t =
        let eq : k ≡ x = inj k x (same_equal (b k) (b x) (sym t)) in
        absurd (n (let g : Found i ≡ Found j = e ∙ ap (λ y. probed b y (keys_of xs)) eq ∙ sym f in cc))
    other_place k x i j false e f n t = refl

    both_found : (k x : K) (i j : ℕ) → Found i ≡ probed b k (keys_of xs) → Found j ≡ probed b x (keys_of xs) → i < length xs → (j ≡ i) ⊎ (j ≡ i → ⊥) → is_marked (get_or (set xs i (Marked k)) j Empty) ≡ (is_marked (get_or xs j Empty) || (same_bytes (b k) (b x) && true))
    both_found k x i j e f lt (inl at) =
        ap (λ q. is_marked (get_or (set xs i (Marked k)) q Empty)) at ∙ ap is_marked (get_or-set_same xs i (Marked k) Empty lt)
        ∙ sym (or-true (is_marked (get_or xs j Empty))) ∙ ap (λ s. is_marked (get_or xs j Empty) || (s && true)) (sym (same_place k x i j e f at))
    both_found k x i j e f lt (inr n) =
        ap is_marked (get_or-set_other xs i j (Marked k) Empty n) ∙ sym (or-false (is_marked (get_or xs j Empty)))
        ∙ ap (λ s. is_marked (get_or xs j Empty) || (s && true)) (sym (other_place k x i j (same_bytes (b k) (b x)) e f n refl))

    -- a key whose walk does not meet it is not the one that was marked
    not_met : (k x : K) (q : Probe) (s : Bool) → q ≡ probed b x (keys_of xs) → is_found q ≡ false → s ≡ same_bytes (b k) (b x) → (s && reached b (keys_of xs) k) ≡ false
    not_met k x q true e f t =
        let eq : k ≡ x = inj k x (same_equal (b k) (b x) (sym t)) in
        ap (λ y. reached b (keys_of xs) y) eq ∙ ap is_found (sym e) ∙ f
    not_met k x q false e f t = refl

    one_by : (k x : K) (p q : Probe) → p ≡ probed b k (keys_of xs) → q ≡ probed b x (keys_of xs) → Within p (length xs) → mark_at q (noted p k xs) ≡ (mark_at q xs || (same_bytes (b k) (b x) && is_found p))
    one_by k x (Found i) (Found j) e f lt = both_found k x i j e f lt (cases_eq j i)
    one_by k x (Found i) (Free j) e f lt = sym (ap (λ m. same_bytes (b k) (b x) && m) (ap is_found e) ∙ not_met k x (Free j) (same_bytes (b k) (b x)) f refl refl)
    one_by k x (Found i) Full e f lt = sym (ap (λ m. same_bytes (b k) (b x) && m) (ap is_found e) ∙ not_met k x Full (same_bytes (b k) (b x)) f refl refl)
    one_by k x (Free i) q e f lt = sym (ap (λ m. mark_at q xs || m) (and-false (same_bytes (b k) (b x))) ∙ or-false (mark_at q xs))
    one_by k x Full q e f lt = sym (ap (λ m. mark_at q xs || m) (and-false (same_bytes (b k) (b x))) ∙ or-false (mark_at q xs))

    noted_keys : (k : K) (p : Probe) → p ≡ probed b k (keys_of xs) → keys_of (noted p k xs) ≡ keys_of xs
    noted_keys k (Found i) e = keys_mark xs i k (held-key k i e None)
    noted_keys k (Free i) e = refl
    noted_keys k Full e = refl

    pub one_mark : (k : K) (p : Probe) → p ≡ probed b k (keys_of xs) → OneMark b k xs (noted p k xs)
    one_mark k p e =
        let lt = walk_within b k xs p e in
        record {
          same = noted_keys k p e;
          exact = λ x.
              ap (λ ks. mark_at (probed b x ks) (noted p k xs)) (noted_keys k p e)
              ∙ one_by k x p (probed b x (keys_of xs)) e refl lt
              ∙ ap (λ r. mark_at (probed b x (keys_of xs)) xs || (same_bytes (b k) (b x) && is_found r)) e;
        }
