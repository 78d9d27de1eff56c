-- Walks along slots: what they meet, what an insert leaves, and why a sound table stays sound.
use Rattle.std.specs.Option.{MatchOption, unwrap_or}
use Rattle.std.proofs.Common.{◌≡◌, add-zero, ℕ, zero, suc, ◌+◌, ◌-◌, ◌<◌, ◌≤◌, Bool, true, false, cond, not, ◌&&◌, ◌||◌, eqb, ◌⊎◌, List, [], ◌∷◌, ◌++◌, length, get_or, take, drop, set, replicate, Some, None, Option, sym, refl, ap, ◌∙◌, subst, inl, inr, le_of_lt, mod-lt, arith, length-drop, take-append-drop, length-take}
use lib.Seq.{take-set-lt}
use Rattle.std.proofs.Math.Bool.{and_assoc, and_comm, or_assoc, or_comm}
use Rattle.std.proofs.lemmas.Bool.{cases_lt, eqb-true, and_parts, or_cases, or_right}
use Rattle.keys.specs.Little.{same_self, same_equal}
use Rattle.std.proofs.lemmas.List.{set-append_left, set-append_right, drop-set-lt, drop-set-add, take-set-le, length-set, get_or_append_left, get_or-append_right, get_or-drop, get_or-take, drop_all, take_all, nil_from_length}
use Rattle.keys.specs.Octets.{same_bytes}
use Rattle.slots.specs.declared.slot.Slot.{Slot}
use Rattle.slots.specs.Walks.{key_of, keys_of, stop, find, or_else, find_from, home_of, probed, is_found, is_full, Within, reached, looked}
use Rattle.slots.specs.Tables.{slot_is, holds, filled, is_other, others_only, path, met, Sound, Emptied, put, placed, Inserted, listed, MadeBy}
use Rattle.slots.specs.declared.slot.Slot.TheVariants.{Empty}
use Rattle.slots.specs.declared.probe.Probe.{Probe}
use Rattle.slots.specs.declared.probe.Probe.TheVariants.{Found, Free, Full}
use Rattle.slots.proofs.Cells.{keys_length, keys_put, empty_filled}

pub or_swap : (s t h : Bool) → (s || (t || h)) ≡ (t || (s || h))
or_swap true true h = refl
or_swap true false h = refl
or_swap false t h = refl

-- a walk that ended somewhere does not go on
pub or_first : (p q : Probe) → (p ≡ Full → ⊥) → p ≡ or_else p q
or_first (Found i) q n = refl
or_first (Free i) q n = refl
or_first Full q n = absurd (n refl)

module _ {K : Type 0} (b : K → List ℕ) where
  -- the first slot of a part at which a walk stops, if there is one
  abbrev pub FirstStop : K → ℕ → List (Slot K) → Option Probe → Type 0
  FirstStop k f slots r =
      MatchOption r ((n : ℕ) → n < length slots → stop b k (f + n) (key_of (get_or slots n Empty)) ≡ None)
      (λ p. (i : ℕ) × (i < length slots) × (stop b k (f + i) (key_of (get_or slots i Empty)) ≡ Some p) × ((n : ℕ) → n < i → stop b k (f + n) (key_of (get_or slots n Empty)) ≡ None))

  -- a scan ends at the slot where it stops, and goes on past any other
  ends_by : (s : Bool) (f : ℕ) (p q : Probe) → cond s (Some (Found f)) None ≡ Some p → cond s (Found f) q ≡ p
  ends_by true f p q e = cc
  ends_by false f p q e = cc

  ends : (k : K) (f : ℕ) (o : Option K) (xs : List (Option K)) (p : Probe) → stop b k f o ≡ Some p → find b k f (o ∷ xs) ≡ p
  ends k f None xs p e = cc
  ends k f (Some x) xs p e = ends_by (same_bytes (b x) (b k)) f p (find b k (f + 1) xs) e

  goes_by : (s : Bool) (f : ℕ) (q : Probe) → cond s (Some (Found f)) None ≡ None → cond s (Found f) q ≡ q
  goes_by true f q e = cc
  goes_by false f q e = refl

  goes : (k : K) (f : ℕ) (o : Option K) (xs : List (Option K)) → stop b k f o ≡ None → find b k f (o ∷ xs) ≡ find b k (f + 1) xs
  goes k f None xs e = cc
  goes k f (Some x) xs e = goes_by (same_bytes (b x) (b k)) f (find b k (f + 1) xs) e

  at_first : (k : K) (f : ℕ) (o : Option K) (r : Option Probe) → stop b k (f + 0) o ≡ r → stop b k f o ≡ r
  at_first k f o r e = ap (λ n. stop b k n o) (sym (add-zero f)) ∙ e

  at_next : (k : K) (f n : ℕ) (o : Option K) (r : Option Probe) → stop b k (f + suc n) o ≡ r → stop b k (f + 1 + n) o ≡ r
  at_next k f n o r e = let same : f + 1 + n ≡ f + suc n = omega arith in ap (λ m. stop b k m o) same ∙ e

  pub first_found : (k : K) (f : ℕ) (slots : List (Slot K)) (r : Option Probe) → FirstStop k f slots r → unwrap_or r Full ≡ find b k f (keys_of slots)
  first_found k f [] None h = refl
  first_found k f [] (Some p) (i, lt, here, before) = absurd (omega arith)
  first_found k f (s ∷ slots) None h =
      first_found k (f + 1) slots None (λ n lt. at_next k f n _ None (h (suc n) (omega arith)))
      ∙ sym (goes k f (key_of s) (keys_of slots) (at_first k f (key_of s) None (h 0 (omega arith))))
  first_found k f (s ∷ slots) (Some p) (zero, lt, here, before) = sym (ends k f (key_of s) (keys_of slots) p (at_first k f (key_of s) (Some p) here))
  first_found k f (s ∷ slots) (Some p) (suc i, lt, here, before) =
      first_found k (f + 1) slots (Some p) (i, omega arith, at_next k f i _ (Some p) here, λ n below. at_next k f n _ None (before (suc n) (omega arith)))
      ∙ sym (goes k f (key_of s) (keys_of slots) (at_first k f (key_of s) None (before 0 (omega arith))))

  -- what a scan in two parts finds is what the walk along both meets
  cond_found : (s : Bool) (i : ℕ) (p : Probe) (m : Bool) → is_found p ≡ m → is_found (cond s (Found i) p) ≡ (s || m)
  cond_found true i p m e = refl
  cond_found false i p m e = e

  cond_or : (s : Bool) (i : ℕ) (p q : Probe) → or_else (cond s (Found i) p) q ≡ cond s (Found i) (or_else p q)
  cond_or true i p q = refl
  cond_or false i p q = refl

  found_met : (k : K) (i : ℕ) (xs : List (Option K)) → is_found (find b k i xs) ≡ met b k xs
  found_met k i [] = refl
  found_met k i (None ∷ xs) = refl
  found_met k i (Some x ∷ xs) = cond_found (same_bytes (b x) (b k)) i _ _ (found_met k (i + 1) xs)

  found_met_2 : (k : K) (i j : ℕ) (xs ys : List (Option K)) → is_found (or_else (find b k i xs) (find b k j ys)) ≡ met b k (xs ++ ys)
  found_met_2 k i j [] ys = found_met k j ys
  found_met_2 k i j (None ∷ xs) ys = refl
  found_met_2 k i j (Some x ∷ xs) ys =
      ap is_found (cond_or (same_bytes (b x) (b k)) i (find b k (i + 1) xs) (find b k j ys))
      ∙ cond_found (same_bytes (b x) (b k)) i _ _ (found_met_2 k (i + 1) j xs ys)

  -- a walk meets only what is held
  or_mono : (s m n : Bool) → (m ≡ true → n ≡ true) → (s || m) ≡ true → (s || n) ≡ true
  or_mono true m n f e = refl
  or_mono false m n f e = f e

  met_holds : (k : K) (xs : List (Option K)) → met b k xs ≡ true → holds b xs k ≡ true
  met_holds k [] e = e
  met_holds k (None ∷ xs) e = cc
  met_holds k (Some x ∷ xs) e = or_mono (same_bytes (b x) (b k)) (met b k xs) (holds b xs k) (met_holds k xs) e

  -- an empty slot that is filled breaks no walk
  met-set : (k x : K) (xs : List (Option K)) (q : ℕ) → get_or xs q (Some k) ≡ None → met b x xs ≡ true → met b x (set xs q (Some k)) ≡ true
  met-set k x [] q n e = e
  met-set k x (None ∷ xs) q n e = cc
  met-set k x (Some y ∷ xs) zero n e = cc
  met-set k x (Some y ∷ xs) (suc q) n e = or_mono (same_bytes (b y) (b x)) (met b x xs) (met b x (set xs q (Some k))) (met-set k x xs q n) e

  -- exactly the one key more
  holds-set : (k x : K) (xs : List (Option K)) (q : ℕ) → q < length xs → get_or xs q (Some k) ≡ None → holds b (set xs q (Some k)) x ≡ (same_bytes (b k) (b x) || holds b xs x)
  holds-set k x [] q h n = absurd (omega arith)
  holds-set k x (None ∷ xs) zero h n = refl
  holds-set k x (Some y ∷ xs) zero h n = cc
  holds-set k x (s ∷ xs) (suc q) h n =
      ap (λ m. slot_is b x s || m) (holds-set k x xs q (omega arith) n) ∙ or_swap (slot_is b x s) (same_bytes (b k) (b x)) (holds b xs x)

  filled-set : (k : K) (xs : List (Option K)) (q : ℕ) → q < length xs → get_or xs q (Some k) ≡ None → filled (set xs q (Some k)) ≡ 1 + filled xs
  filled-set k [] q h n = absurd (omega arith)
  filled-set k (None ∷ xs) zero h n = refl
  filled-set k (Some y ∷ xs) zero h n = cc
  filled-set k (None ∷ xs) (suc q) h n = filled-set k xs q (omega arith) n
  filled-set k (Some y ∷ xs) (suc q) h n = ap (λ m. 1 + m) (filled-set k xs q (omega arith) n)

  -- an empty slot at the end of a walk
  abbrev FreeAt : K → ℕ → ℕ → List (Option K) → Type 0
  FreeAt k i j xs = (q : ℕ) × (j ≡ i + q) × (q < length xs) × (get_or xs q (Some k) ≡ None) × (met b k (set xs q (Some k)) ≡ true)

  free_more : (k x : K) (i j : ℕ) (xs : List (Option K)) (s : Bool) → (find b k (i + 1) xs ≡ Free j → FreeAt k (i + 1) j xs) → s ≡ same_bytes (b x) (b k) → cond s (Found i) (find b k (i + 1) xs) ≡ Free j → FreeAt k i j (Some x ∷ xs)
  free_more k x i j xs true f t e = cc
  free_more k x i j xs false f t e =
      let (q, at, lt, none, walk) = f e in
      (suc q, omega arith, omega arith, none, or_right (same_bytes (b x) (b k)) (met b k (set xs q (Some k))) walk)

  free_at : (k : K) (i j : ℕ) (xs : List (Option K)) → find b k i xs ≡ Free j → FreeAt k i j xs
  free_at k i j [] e = cc
  free_at k i j (None ∷ xs) e =
      let same : i ≡ j = cc in
      (0, omega arith, omega arith, refl, ap (λ s. s || met b k xs) (same_self (b k)))
  free_at k i j (Some x ∷ xs) e = free_more k x i j xs (same_bytes (b x) (b k)) (free_at k (i + 1) j xs) refl e

  -- a walk ends nowhere exactly when every slot is taken by another key
  cond_full : (s : Bool) (i : ℕ) (p : Probe) (m : Bool) → is_full p ≡ m → is_full (cond s (Found i) p) ≡ (not s && m)
  cond_full true i p m e = refl
  cond_full false i p m e = e

  full_row : (k : K) (i : ℕ) (xs : List (Option K)) → is_full (find b k i xs) ≡ others_only b k xs
  full_row k i [] = refl
  full_row k i (None ∷ xs) = refl
  full_row k i (Some x ∷ xs) = cond_full (same_bytes (b x) (b k)) i _ _ (full_row k (i + 1) xs)

  full_or : (p q : Probe) → is_full (or_else p q) ≡ (is_full p && is_full q)
  full_or (Found i) q = refl
  full_or (Free i) q = refl
  full_or Full q = refl

  others_append : (k : K) (xs ys : List (Option K)) → others_only b k (xs ++ ys) ≡ (others_only b k xs && others_only b k ys)
  others_append k [] ys = refl
  others_append k (s ∷ xs) ys = ap (λ m. is_other b k s && m) (others_append k xs ys) ∙ sym (and_assoc (is_other b k s) (others_only b k xs) (others_only b k ys))

  pub full_is : (k : K) (xs : List (Option K)) → is_full (probed b k xs) ≡ others_only b k xs
  full_is k xs =
      let h = home_of b k (length xs) in
      full_or (find b k h (drop h xs)) (find b k 0 (take h xs))
      ∙ ap (λ m. m && is_full (find b k 0 (take h xs))) (full_row k h (drop h xs))
      ∙ ap (λ m. others_only b k (drop h xs) && m) (full_row k 0 (take h xs))
      ∙ and_comm (others_only b k (drop h xs)) (others_only b k (take h xs))
      ∙ sym (others_append k (take h xs) (drop h xs))
      ∙ ap (others_only b k) (take-append-drop h xs)

  pub others_filled : (k : K) (xs : List (Option K)) → others_only b k xs ≡ true → filled xs ≡ length xs
  others_filled k [] e = refl
  others_filled k (None ∷ xs) e = cc
  others_filled k (Some x ∷ xs) e = let r = others_filled k xs (and_parts (is_other b k (Some x)) (others_only b k xs) e).1 in omega arith

  pub filled-append : (xs ys : List (Option K)) → filled (xs ++ ys) ≡ filled xs + filled ys
  filled-append [] ys = omega arith
  filled-append (None ∷ xs) ys = filled-append xs ys
  filled-append (Some x ∷ xs) ys = let r = filled-append xs ys in omega arith

  pub filled_le : (xs : List (Option K)) → filled xs ≤ length xs
  filled_le [] = omega arith
  filled_le (None ∷ xs) = let r = filled_le xs in omega arith
  filled_le (Some x ∷ xs) = let r = filled_le xs in omega arith

  met-append : (k : K) (xs ys : List (Option K)) → met b k xs ≡ true → met b k (xs ++ ys) ≡ true
  met-append k [] ys e = cc
  met-append k (None ∷ xs) ys e = cc
  met-append k (Some x ∷ xs) ys e = or_mono (same_bytes (b x) (b k)) (met b k xs) (met b k (xs ++ ys)) (met-append k xs ys) e

  pass_more : (k x : K) (i : ℕ) (xs ys : List (Option K)) (s : Bool) → (find b k (i + 1) xs ≡ Full → met b k (xs ++ ys) ≡ true) → cond s (Found i) (find b k (i + 1) xs) ≡ Full → (s || met b k (xs ++ ys)) ≡ true
  pass_more k x i xs ys true f e = refl
  pass_more k x i xs ys false f e = f e

  met_past : (k : K) (i : ℕ) (xs ys : List (Option K)) → find b k i xs ≡ Full → met b k ys ≡ true → met b k (xs ++ ys) ≡ true
  met_past k i [] ys f e = e
  met_past k i (None ∷ xs) ys f e = cc
  met_past k i (Some x ∷ xs) ys f e = pass_more k x i xs ys (same_bytes (b x) (b k)) (λ g. met_past k (i + 1) xs ys g e) f

  -- a write at a place is a write somewhere on the path
  path_low : (h j : ℕ) (xs : List (Option K)) (v : Option K) → j < h → h ≤ length xs → path h (set xs j v) ≡ set (path h xs) ((length xs - h) + j) v
  path_low h j xs v lt le =
      let n : length (drop h xs) ≡ length xs - h = length-drop h xs in
      let past : length xs - h ≤ (length xs - h) + j = omega arith in
      let back : ((length xs - h) + j) - (length xs - h) ≡ j = omega arith in
      ap (λ p. p ++ take h (set xs j v)) (drop-set-lt h xs j v lt)
      ∙ ap (λ p. drop h xs ++ p) (take-set-lt h xs j v lt)
      ∙ sym (set-append_right (drop h xs) (take h xs) (length xs - h) ((length xs - h) + j) v n past ∙ ap (λ p. drop h xs ++ set (take h xs) p v) back)

  path_high : (h j : ℕ) (xs : List (Option K)) (v : Option K) → h + j < length xs → path h (set xs (h + j) v) ≡ set (path h xs) j v
  path_high h j xs v lt =
      let within : j < length (drop h xs) = rw (length-drop h xs) (omega arith) in
      let far : h ≤ h + j = omega arith in
      ap (λ p. p ++ take h (set xs (h + j) v)) (drop-set-add h xs j v)
      ∙ ap (λ p. set (drop h xs) j v ++ p) (take-set-le h xs (h + j) v far)
      ∙ sym (set-append_left (drop h xs) (take h xs) j v within)

  split_low : (h j : ℕ) (xs : List (Option K)) (v : Option K) → j < h → path h (set xs j v) ≡ drop h xs ++ set (take h xs) j v
  split_low h j xs v lt =
      ap (λ p. p ++ take h (set xs j v)) (drop-set-lt h xs j v lt)
      ∙ ap (λ p. drop h xs ++ p) (take-set-lt h xs j v lt)

  split_high : (h j : ℕ) (xs : List (Option K)) (v : Option K) → path h (set xs (h + j) v) ≡ set (drop h xs) j v ++ take h xs
  split_high h j xs v =
      let far : h ≤ h + j = omega arith in
      ap (λ p. p ++ take h (set xs (h + j) v)) (drop-set-add h xs j v)
      ∙ ap (λ p. set (drop h xs) j v ++ p) (take-set-le h xs (h + j) v far)

  abbrev Gap : K → ℕ → ℕ → List (Option K) → Type 0
  Gap k h j xs = (j < length xs) × (get_or xs j (Some k) ≡ None) × (met b k (path h (set xs j (Some k))) ≡ true)

  gap : (k : K) (h j : ℕ) (xs : List (Option K)) (p : Probe) → h ≤ length xs → p ≡ find b k h (drop h xs) → or_else p (find b k 0 (take h xs)) ≡ Free j → Gap k h j xs
  gap k h j xs (Found i) le e f = cc
  gap k h j xs (Free i) le e f =
      let e' : find b k h (drop h xs) ≡ Free j = sym e ∙ f in
      let (q, at, lt, none, walk) = free_at k h j (drop h xs) e' in
      let lt' : q < length xs - h = rw (length-drop h xs) at lt in
      let there : get_or xs (h + q) (Some k) ≡ None = sym (get_or-drop h xs q (Some k)) ∙ none in
      let goes : met b k (path h (set xs (h + q) (Some k))) ≡ true = rw (split_high h q xs (Some k)) (met-append k (set (drop h xs) q (Some k)) (take h xs) walk) in
      (omega arith, rw at there, rw at goes)
  gap k h j xs Full le e f =
      let (q, at, lt, none, walk) = free_at k 0 j (take h xs) f in
      let same : j ≡ q = omega arith in
      let low : q < h = omega (arith, length-take h xs) in
      let there : get_or xs q (Some k) ≡ None = sym (get_or-take h xs q (Some k) low) ∙ none in
      let goes : met b k (path h (set xs q (Some k))) ≡ true = rw (split_low h q xs (Some k) low) (met_past k h (drop h xs) (set (take h xs) q (Some k)) (sym e) walk) in
      (omega arith, rw same there, rw same goes)

  gap_at : (k : K) (h j : ℕ) (xs : List (Option K)) → h ≤ length xs → find_from b k h xs ≡ Free j → Gap k h j xs
  gap_at k h j xs le e = gap k h j xs (find b k h (drop h xs)) le refl e

  -- a filled gap breaks no walk
  keeps : (k x : K) (h j : ℕ) (xs : List (Option K)) → h ≤ length xs → j < length xs → get_or xs j (Some k) ≡ None → met b x (path h xs) ≡ true → (j < h) ⊎ (h ≤ j) → met b x (path h (set xs j (Some k))) ≡ true
  keeps k x h j xs le lt none e (inl low) =
      let n : length (drop h xs) ≡ length xs - h = length-drop h xs in
      let past : length xs - h ≤ (length xs - h) + j = omega arith in
      let back : ((length xs - h) + j) - (length xs - h) ≡ j = omega arith in
      let there : get_or (path h xs) ((length xs - h) + j) (Some k) ≡ None =
      get_or-append_right (drop h xs) (take h xs) (length xs - h) _ (Some k) n past ∙ ap (λ p. get_or (take h xs) p (Some k)) back ∙ get_or-take h xs j (Some k) low ∙ none in
      rw (path_low h j xs (Some k) low le) (met-set k x (path h xs) _ there e)
  keeps k x h j xs le lt none e (inr high) =
      let at : h + (j - h) ≡ j = omega arith in
      let within : j - h < length (drop h xs) = rw (length-drop h xs) (omega arith) in
      let there : get_or (path h xs) (j - h) (Some k) ≡ None =
      get_or_append_left (drop h xs) (take h xs) (Some k) (j - h) within ∙ get_or-drop h xs (j - h) (Some k) ∙ ap (λ p. get_or xs p (Some k)) at ∙ none in
      let far : h + (j - h) < length xs = omega arith in
      let goes : met b x (path h (set xs (h + (j - h)) (Some k))) ≡ true = rw (path_high h (j - h) xs (Some k) far) (met-set k x (path h xs) (j - h) there e) in
      rw at at goes

  -- one key more, and still each is met from its home
  case_or : {P : Type 0} → (s m : Bool) → (s ≡ true → P) → (m ≡ true → P) → (s || m) ≡ true → P
  case_or true m f g e = f refl
  case_or false m f g e = g e

  sound_set : ((x y : K) → b x ≡ b y → x ≡ y) → (k : K) (xs : List (Option K)) (j : ℕ) → 0 < length xs → Sound b xs → probed b k xs ≡ Free j → Sound b (set xs j (Some k))
  sound_set inj k xs j pos sound f x held =
      let n = length xs in
      let home : (y : K) → home_of b y n ≤ n = λ y. le_of_lt (mod-lt _ pos) in
      let (lt, none, walk) = gap_at k (home_of b k n) j xs (home k) f in
      let either : (same_bytes (b k) (b x) || holds b xs x) ≡ true = sym (holds-set k x xs j lt none) ∙ held in
      let goes : met b x (path (home_of b x n) (set xs j (Some k))) ≡ true =
      case_or (same_bytes (b k) (b x)) (holds b xs x)
      (λ s. subst (λ (y : K). met b y (path (home_of b y n) (set xs j (Some k))) ≡ true) (inj k x (same_equal (b k) (b x) s)) walk)
      (λ h. keeps k x (home_of b x n) j xs (home x) lt none (sound x h) (cases_lt j (home_of b x n)))
      either in
      subst (λ (m : ℕ). met b x (path (home_of b x m) (set xs j (Some k))) ≡ true) (sym (length-set xs j (Some k))) goes

  home_le : (k : K) (xs : List (Option K)) → 0 < length xs → home_of b k (length xs) ≤ length xs
  home_le k xs pos = le_of_lt (mod-lt _ pos)

  -- the slot where a walk meets its key
  abbrev pub HeldAt : K → ℕ → List (Option K) → Type 0
  HeldAt k q xs = (x : K) × (q < length xs) × ((d : Option K) → get_or xs q d ≡ Some x) × (same_bytes (b x) (b k) ≡ true)

  abbrev FoundAt : K → ℕ → ℕ → List (Option K) → Type 0
  FoundAt k i j xs = (q : ℕ) × (j ≡ i + q) × HeldAt k q xs

  found_more : (k x : K) (i j : ℕ) (xs : List (Option K)) (s : Bool) → (find b k (i + 1) xs ≡ Found j → FoundAt k (i + 1) j xs) → same_bytes (b x) (b k) ≡ s → cond s (Found i) (find b k (i + 1) xs) ≡ Found j → FoundAt k i j (Some x ∷ xs)
  found_more k x i j xs true f t e =
      let same : i ≡ j = cc in
      (0, omega arith, (x, omega arith, λ d. refl, t))
  found_more k x i j xs false f t e =
      let (q, at, (y, lt, get, agree)) = f e in
      (suc q, omega arith, (y, omega arith, λ d. get d, agree))

  found_at : (k : K) (i j : ℕ) (xs : List (Option K)) → find b k i xs ≡ Found j → FoundAt k i j xs
  found_at k i j [] e = cc
  found_at k i j (None ∷ xs) e = cc
  found_at k i j (Some x ∷ xs) e = found_more k x i j xs (same_bytes (b x) (b k)) (found_at k (i + 1) j xs) refl e

  held : (k : K) (h j : ℕ) (xs : List (Option K)) (p : Probe) → h ≤ length xs → p ≡ find b k h (drop h xs) → or_else p (find b k 0 (take h xs)) ≡ Found j → HeldAt k j xs
  held k h j xs (Found i) le e f =
      let (q, at, (x, lt, get, agree)) = found_at k h j (drop h xs) (sym e ∙ f) in
      let lt' : q < length xs - h = rw (length-drop h xs) at lt in
      (x, omega arith, λ d. ap (λ p. get_or xs p d) at ∙ sym (get_or-drop h xs q d) ∙ get d, agree)
  held k h j xs (Free i) le e f = cc
  held k h j xs Full le e f =
      let (q, at, (x, lt, get, agree)) = found_at k 0 j (take h xs) f in
      let same : j ≡ q = omega arith in
      let low : q < h = omega (arith, length-take h xs) in
      (x, omega (arith, length-take h xs), λ d. ap (λ p. get_or xs p d) same ∙ sym (get_or-take h xs q d low) ∙ get d, agree)

  held_in : (k : K) (j : ℕ) (xs : List (Option K)) → 0 < length xs → Found j ≡ probed b k xs → HeldAt k j xs
  held_in k j xs pos e =
      let h = home_of b k (length xs) in
      held k h j xs (find b k h (drop h xs)) (home_le k xs pos) refl (sym e)

  pub place_below : (k : K) (xs : List (Option K)) (r : Probe) → 0 < length xs → r ≡ probed b k xs → Within r (length xs)
  place_below k xs (Found i) pos e = (held_in k i xs pos e).1
  place_below k xs (Free i) pos e = (gap_at k (home_of b k (length xs)) i xs (home_le k xs pos) (sym e)).0
  place_below k xs Full pos e = tt

  -- a lookup's answer
  both_ways : (m n : Bool) → (m ≡ true → n ≡ true) → (n ≡ true → m ≡ true) → m ≡ n
  both_ways true n f g = sym (f refl)
  both_ways false true f g = g refl
  both_ways false false f g = refl

  holds-append : (k : K) (xs ys : List (Option K)) → holds b (xs ++ ys) k ≡ (holds b xs k || holds b ys k)
  holds-append k [] ys = refl
  holds-append k (s ∷ xs) ys = ap (λ m. slot_is b k s || m) (holds-append k xs ys) ∙ sym (or_assoc (slot_is b k s) (holds b xs k) (holds b ys k))

  holds-path : (k : K) (h : ℕ) (xs : List (Option K)) → holds b (path h xs) k ≡ holds b xs k
  holds-path k h xs =
      holds-append k (drop h xs) (take h xs) ∙ or_comm (holds b (drop h xs) k) (holds b (take h xs) k)
      ∙ sym (holds-append k (take h xs) (drop h xs)) ∙ ap (λ ys. holds b ys k) (take-append-drop h xs)

  filled-path : (h : ℕ) (xs : List (Option K)) → filled (drop h xs) + filled (take h xs) ≡ filled xs
  filled-path h xs = let e = sym (filled-append (take h xs) (drop h xs)) ∙ ap filled (take-append-drop h xs) in omega arith

  length-path : (h : ℕ) (xs : List (Option K)) → length (drop h xs) + length (take h xs) ≡ length xs
  length-path h xs = omega (arith, length-drop h xs, length-take h xs)

  pub met_is : (k : K) (xs : List (Option K)) → Sound b xs → is_found (probed b k xs) ≡ holds b xs k
  met_is k xs sound =
      let h = home_of b k (length xs) in
      let e : is_found (probed b k xs) ≡ met b k (path h xs) = found_met_2 k h 0 (drop h xs) (take h xs) in
      e ∙ both_ways (met b k (path h xs)) (holds b xs k) (λ m. sym (holds-path k h xs) ∙ met_holds k (path h xs) m) (sound k)

  none_held : (k : K) (xs : List (Option K)) → filled xs ≡ 0 → holds b xs k ≡ false
  none_held k [] e = refl
  none_held k (None ∷ xs) e = none_held k xs e
  none_held k (Some x ∷ xs) e = absurd (omega arith)

  found_held : (k : K) (xs : List (Option K)) (i : ℕ) → Sound b xs → Found i ≡ probed b k xs → holds b xs k ≡ true
  found_held k xs i sound e = sym (met_is k xs sound) ∙ ap is_found (sym e)

  -- a key that is held already: nothing more
  held_same : ((x y : K) → b x ≡ b y → x ≡ y) → (k x : K) (xs : List (Option K)) (s : Bool) → s ≡ same_bytes (b k) (b x) → holds b xs k ≡ true → holds b xs x ≡ (s || holds b xs x)
  held_same inj k x xs true e h = subst (λ (y : K). holds b xs y ≡ true) (inj k x (same_equal (b k) (b x) (sym e))) h
  held_same inj k x xs false e h = refl

  -- a walk from home, by the path
  reached-met : (k : K) (xs : List (Option K)) → reached b xs k ≡ met b k (path (home_of b k (length xs)) xs)
  reached-met k xs = let h = home_of b k (length xs) in found_met_2 k h 0 (drop h xs) (take h xs)

  reached-set : (k x : K) (xs : List (Option K)) (j : ℕ) → met b x (path (home_of b x (length xs)) (set xs j (Some k))) ≡ true → reached b (set xs j (Some k)) x ≡ true
  reached-set k x xs j e =
      reached-met x (set xs j (Some k))
      ∙ subst (λ (m : ℕ). met b x (path (home_of b x m) (set xs j (Some k))) ≡ true) (sym (length-set xs j (Some k))) e

  -- a table without slots has no place for a walk to end at
  probed_none : (k : K) (xs : List (Option K)) → length xs ≡ 0 → Full ≡ probed b k xs
  probed_none k xs n =
      let h = home_of b k (length xs) in
      let none : length xs ≤ h = omega arith in
      let e : find b k h (drop h xs) ≡ Full = ap (find b k h) (drop_all h xs none) in
      let f : find b k 0 (take h xs) ≡ Full = ap (find b k 0) (take_all h xs none ∙ nil_from_length xs n) in
      sym f ∙ ap (λ p. or_else p (find b k 0 (take h xs))) (sym e)

  slots_by : (k : K) (xs : List (Option K)) (r : Probe) → is_full r ≡ false → r ≡ probed b k xs → (0 < length xs) ⊎ (length xs ≤ 0) → 0 < length xs
  slots_by k xs r n e (inl pos) = pos
  slots_by k xs r n e (inr none) = let f = ap is_full (e ∙ sym (probed_none k xs (omega arith))) in cc

  some_slots : (k : K) (xs : List (Option K)) (r : Probe) → is_full r ≡ false → r ≡ probed b k xs → 0 < length xs
  some_slots k xs r n e = slots_by k xs r n e (cases_lt 0 (length xs))

  pub held_at : (k : K) (j : ℕ) (xs : List (Option K)) → Found j ≡ probed b k xs → HeldAt k j xs
  held_at k j xs e = held_in k j xs (some_slots k xs (Found j) refl e) e

  inserted_free : ((x y : K) → b x ≡ b y → x ≡ y) → (k : K) (xs : List (Option K)) (i : ℕ) → 0 < length xs → Free i ≡ probed b k xs → Inserted b k xs (Free i) (set xs i (Some k))
  inserted_free inj k xs i pos e =
      let (lt, none, walk) = gap_at k (home_of b k (length xs)) i xs (home_le k xs pos) (sym e) in
      record {
        answer = e;
        after = refl;
        full = ap is_full e ∙ full_is k xs;
        count = omega (arith, filled-set k xs i lt none);
        added = λ f. reached-set k k xs i walk;
        keeps = λ x m. reached-set k x xs i (keeps k x (home_of b x (length xs)) i xs (home_le x xs pos) lt none (sym (reached-met x xs) ∙ m) (cases_lt i (home_of b x (length xs))));
        sound = λ s. sound_set inj k xs i pos s (sym e);
        exact = λ s f x. holds-set k x xs i lt none;
      }

  inserted : ((x y : K) → b x ≡ b y → x ≡ y) → (k : K) (xs : List (Option K)) (r : Probe) → r ≡ probed b k xs → Inserted b k xs r (placed r k xs)
  inserted inj k xs (Found i) e = record {
    answer = e;
    after = refl;
    full = ap is_full e ∙ full_is k xs;
    count = omega arith;
    added = λ f. ap is_found (sym e);
    keeps = λ x m. m;
    sound = λ s. s;
    exact = λ s f x. held_same inj k x xs (same_bytes (b k) (b x)) refl (found_held k xs i s e);
  }
  inserted inj k xs (Free i) e = inserted_free inj k xs i (some_slots k xs (Free i) refl e) e
  inserted inj k xs Full e = record {
    answer = e;
    after = refl;
    full = ap is_full e ∙ full_is k xs;
    count = omega arith;
    added = λ f. cc;
    keeps = λ x m. m;
    sound = λ s. s;
    exact = λ s f x. cc;
  }

  pub inserted_slots : ((x y : K) → b x ≡ b y → x ≡ y) → (k : K) (slots : List (Slot K)) (r : Probe) → r ≡ probed b k (keys_of slots) → Inserted b k (keys_of slots) r (keys_of (put r k slots))
  inserted_slots inj k slots r e = subst (λ (ys : List (Option K)). Inserted b k (keys_of slots) r ys) (sym (keys_put r k slots)) (inserted inj k (keys_of slots) r e)

  within : (k : K) (xs : List (Option K)) (r : Probe) → r ≡ probed b k xs → (0 < length xs) ⊎ (length xs ≤ 0) → Within r (length xs)
  within k xs r e (inl pos) = place_below k xs r pos e
  within k xs r e (inr none) = subst (λ (p : Probe). Within p (length xs)) (probed_none k xs (omega arith) ∙ sym e) tt

  pub walk_within : (k : K) (slots : List (Slot K)) (r : Probe) → r ≡ probed b k (keys_of slots) → Within r (length slots)
  walk_within k slots r e = rw keys_length at (within k (keys_of slots) r e (cases_lt 0 (length (keys_of slots))))

  -- no key, no walk that meets one
  or_false : (m n : Bool) → (m ≡ true → n ≡ true) → n ≡ false → m ≡ false
  or_false true n f e = let t = f refl in cc
  or_false false n f e = refl

  pub none_reached : (k : K) (xs : List (Option K)) → filled xs ≡ 0 → reached b xs k ≡ false
  none_reached k xs e =
      let h = home_of b k (length xs) in
      or_false (reached b xs k) (holds b xs k) (λ m. sym (holds-path k h xs) ∙ met_holds k (path h xs) (sym (reached-met k xs) ∙ m)) (none_held k xs e)

  -- without keys, a table is sound
  pub emptied : (xs : List (Option K)) → filled xs ≡ 0 → Emptied b xs
  emptied xs e = record { none = e; sound = λ k h. let f = none_held k xs e in cc; exact = λ x. none_held x xs e }

  pub emptied_all : (slots : List (Slot K)) (n : ℕ) → slots ≡ replicate n Empty → Emptied b (keys_of slots)
  emptied_all slots n e = emptied (keys_of slots) (ap (λ ys. filled (keys_of ys)) e ∙ empty_filled K n)

  -- a lookup that is told of no fewer keys than there are
  nothing_filled : (count : ℕ) (xs : List (Option K)) → (eqb (length xs) 0 || eqb count 0) ≡ true → filled xs ≤ count → filled xs ≡ 0
  nothing_filled count xs e h = by (or_cases (eqb (length xs) 0) (eqb count 0) e)
    where
      by : (eqb (length xs) 0 ≡ true) ⊎ (eqb count 0 ≡ true) → filled xs ≡ 0
      by (inl f) = omega (arith, filled_le xs, eqb-true (length xs) 0 f)
      by (inr f) = omega (arith, eqb-true count 0 f)

  pub looked_reached : (k : K) (count : ℕ) (xs : List (Option K)) → filled xs ≤ count → looked b count xs k ≡ reached b xs k
  looked_reached k count xs h = by (eqb (length xs) 0 || eqb count 0) refl
    where
      by : (none : Bool) → (eqb (length xs) 0 || eqb count 0) ≡ none → cond none false (reached b xs k) ≡ reached b xs k
      by true e = sym (none_reached k xs (nothing_filled count xs e h))
      by false e = refl

  -- what inserts made is sound, and holds the keys inserted
  made_sound : (ks : List K) (xs : List (Option K)) → MadeBy b ks xs → Sound b xs
  made_sound [] xs e = (emptied xs e).sound
  made_sound (k ∷ ks) xs (before, r, made, put, ok) = put.sound (made_sound ks before made)

  made_holds : (ks : List K) (xs : List (Option K)) → MadeBy b ks xs → (x : K) → holds b xs x ≡ listed b ks x
  made_holds [] xs e x = none_held x xs e
  made_holds (k ∷ ks) xs (before, r, made, put, ok) x =
      put.exact (made_sound ks before made) ok x ∙ ap (λ m. same_bytes (b k) (b x) || m) (made_holds ks before made x)

  pub made_reached : (ks : List K) (xs : List (Option K)) → MadeBy b ks xs → (x : K) → reached b xs x ≡ listed b ks x
  made_reached ks xs made x = met_is x xs (made_sound ks xs made) ∙ made_holds ks xs made x
