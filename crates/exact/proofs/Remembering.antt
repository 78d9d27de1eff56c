-- The turns of learning a list of keys and of marking one, in an exact table.
use Rattle.std.proofs.Common.{◌≡◌, ℕ, ◌+◌, ◌<◌, ◌≤◌, min, Bool, true, false, ◌&&◌, ◌||◌, eqb, List, [], ◌∷◌, ◌++◌, length, get_or, take, sym, refl, ap, ◌∙◌, arith}
use Rattle.std.proofs.lemmas.List.{take_more, take_all, get_or-take, length-take}
use Rattle.std.proofs.lemmas.Bool.{not-true, not-false, eqb-true, eqb-false, or_parts}
use Rattle.keys.specs.Octets.{same_bytes}
use Rattle.keys.specs.Little.{same_equal}
use Rattle.slots.specs.Walks.{reached}
use Rattle.slots.specs.Tables.{Sound, listed}
use Rattle.live.specs.Meaning.{Started, Learned, Sealed, Noted}
use Rattle.exact.specs.Exact.{held_by, exact_meaning, ExactStart, ExactLearn, ExactSeal, ExactMark}
use Rattle.exact.specs.Whole.{Taught, Marked}
use Rattle.exact.specs.declared.table.ExactTable.{ExactTable}
use Rattle.slots.proofs.Walking.{or_swap}

-- after i of the keys, in a table of n slots
pub record Teaching {K : Type 0} (b : K → List ℕ) (n : ℕ) (ks : List K) (i : ℕ) (t : ExactTable K) : Type 0 where
  pub capacity : (exact_meaning b).capacity t ≡ n
  pub sealed : t.intake.sealed ≡ false
  pub sound : Sound b (held_by t)
  pub count : t.intake.count ≡ min i n
  pub exact : (x : K) → (exact_meaning b).covers t x ≡ listed b (take i (take n ks)) x

-- after i of the keys, in a table that was s when it was sealed
pub record MarkingOn {K : Type 0} (b : K → List ℕ) (s : ExactTable K) (ks : List K) (i : ℕ) (t : ExactTable K) : Type 0 where
  pub capacity : (exact_meaning b).capacity t ≡ (exact_meaning b).capacity s
  pub sealed : t.intake.sealed ≡ true
  pub same : held_by t ≡ held_by s
  pub exact : (x : K) → (exact_meaning b).says t x ≡ (listed b (take i ks) x && (exact_meaning b).covers s x)

-- a mark on one key more, which is x or is not
mark_more : (s l c d : Bool) → (s ≡ true → d ≡ c) → ((l && c) || (s && d)) ≡ ((s || l) && c)
mark_more true true true d e = refl
mark_more true true false d e = e refl
mark_more true false c d e = e refl
mark_more false true true d e = refl
mark_more false true false d e = refl
mark_more false false c d e = refl

module _ {K : Type 0} (b : K → List ℕ) where
  listed_push : (ks : List K) (k x : K) → listed b (ks ++ k ∷ []) x ≡ (same_bytes (b k) (b x) || listed b ks x)
  listed_push [] k x = refl
  listed_push (y ∷ ks) k x = ap (λ m. same_bytes (b y) (b x) || m) (listed_push ks k x) ∙ or_swap (same_bytes (b y) (b x)) (same_bytes (b k) (b x)) (listed b ks x)

  listed_more : (ks : List K) (i : ℕ) (k x : K) → i < length ks → k ≡ get_or ks i k → listed b (take (i + 1) ks) x ≡ (same_bytes (b k) (b x) || listed b (take i ks) x)
  listed_more ks i k x lt e =
      ap (λ ys. listed b ys x) (take_more ks i k lt ∙ ap (λ y. take i ks ++ y ∷ []) (sym e)) ∙ listed_push (take i ks) k x

module _ {K : Type 0} (b : K → List ℕ) where
  pub teach_none : (s t : ExactTable K) (ks : List K) → Started (exact_meaning b) s t → ExactStart b t → Teaching b ((exact_meaning b).capacity t) ks 0 t
  teach_none s t ks e own = record { capacity = refl; sealed = e.sealed; sound = own.sound; count = e.count ∙ omega arith; exact = own.none }

  pub teach_more : (n : ℕ) (ks : List K) (i : ℕ) (k : K) (r : Bool) (s t : ExactTable K) → i < length ks → k ≡ get_or ks i k → Learned (exact_meaning b) s k r t → ExactLearn b s k r t → Teaching b n ks i s → Teaching b n ks (i + 1) t
  teach_more n ks i k true s t lt at e own h =
      let some = or_parts s.intake.sealed (eqb s.intake.count ((exact_meaning b).capacity s)) (not-true _ (sym e.answer)) in
      let differs = eqb-false s.intake.count ((exact_meaning b).capacity s) some.1 in
      let space : i < n = omega (arith, h.count, h.capacity, differs) in
      let lt' : i < length (take n ks) = omega (arith, length-take n ks) in
      let at' : k ≡ get_or (take n ks) i k = at ∙ sym (get_or-take n ks i k space) in
      record {
        capacity = e.capacity ∙ h.capacity;
        sealed = e.sealed refl;
        sound = own.sound h.sound;
        count = omega (arith, e.count refl, h.count);
        exact = λ x. own.exact h.sound refl x ∙ ap (λ m. same_bytes (b k) (b x) || m) (h.exact x) ∙ sym (listed_more b (take n ks) i k x lt' at');
      }
  teach_more n ks i k false s t lt at e own h =
      let same = e.refused refl in
      let full = rw h.sealed at (not-false _ (sym e.answer)) in
      let all = eqb-true s.intake.count ((exact_meaning b).capacity s) full in
      let past : n ≤ i = omega (arith, h.count, h.capacity) in
      let short : length (take n ks) ≤ i = omega (arith, length-take n ks) in
      let short' : length (take n ks) ≤ i + 1 = omega arith in
      record {
        capacity = e.capacity ∙ h.capacity;
        sealed = same.sealed ∙ h.sealed;
        sound = own.sound h.sound;
        count = omega (arith, same.count, h.count);
        exact = λ x. same.covers x ∙ h.exact x ∙ ap (λ ys. listed b ys x) (take_all i (take n ks) short ∙ sym (take_all (i + 1) (take n ks) short'));
      }

  pub teach_all : (s t : ExactTable K) (n : ℕ) (ks : List K) (i : ℕ) → n ≡ (exact_meaning b).capacity s → length ks ≤ i → Teaching b n ks i t → Taught b s ks t
  teach_all s t n ks i e end h =
      let short : length (take n ks) ≤ i = omega (arith, length-take n ks) in
      record {
        capacity = h.capacity ∙ e;
        sealed = h.sealed;
        sound = h.sound;
        exact = λ x. h.exact x ∙ ap (λ ys. listed b ys x) (take_all i (take n ks) short ∙ ap (λ m. take m ks) e);
      }

  pub mark_none : (s t : ExactTable K) (ks : List K) → Sealed (exact_meaning b) s t → ExactSeal b s t → MarkingOn b t ks 0 t
  mark_none s t ks e own = record { capacity = refl; sealed = e.sealed; same = refl; exact = own.none }

  pub mark_turn : ((x y : K) → b x ≡ b y → x ≡ y) → (s u : ExactTable K) (ks : List K) (i : ℕ) (k : K) (t : ExactTable K) → i < length ks → k ≡ get_or ks i k → Noted (exact_meaning b) u k t → ExactMark b u k t → MarkingOn b s ks i u → MarkingOn b s ks (i + 1) t
  mark_turn inj s u ks i k t lt at e own h = record {
    capacity = e.capacity ∙ h.capacity;
    sealed = e.sealed ∙ h.sealed;
    same = own.keys ∙ h.same;
    exact = λ x.
        own.exact h.sealed x
        ∙ ap (λ m. m || (same_bytes (b k) (b x) && (exact_meaning b).covers u k)) (h.exact x)
        ∙ ap (λ ys. (listed b (take i ks) x && (exact_meaning b).covers s x) || (same_bytes (b k) (b x) && reached b ys k)) h.same
        ∙ mark_more (same_bytes (b k) (b x)) (listed b (take i ks) x) ((exact_meaning b).covers s x) ((exact_meaning b).covers s k) (λ q. ap (λ y. reached b (held_by s) y) (inj k x (same_equal (b k) (b x) q)))
        ∙ ap (λ m. m && (exact_meaning b).covers s x) (sym (listed_more b ks i k x lt at));
  }

  pub mark_end : (s u t : ExactTable K) (ks : List K) (i : ℕ) → Sealed (exact_meaning b) s u → ExactSeal b s u → length ks ≤ i → MarkingOn b u ks i t → Marked b s ks t
  mark_end s u t ks i e own end h = record {
    capacity = h.capacity ∙ e.capacity;
    sealed = h.sealed;
    same = h.same ∙ own.keys;
    exact = λ x.
        h.exact x ∙ ap (λ ys. listed b ys x && (exact_meaning b).covers u x) (take_all i ks end)
        ∙ ap (λ ys. listed b ks x && reached b ys x) own.keys;
  }
