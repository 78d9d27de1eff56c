-- Tables of slots: what one holds, when it is sound, and what emptying it and inserting a key do.
use Rattle.std.specs.Prelude.{◌≡◌, ℕ, ◌+◌, Bool, true, false, not, ◌&&◌, ◌||◌, List, [], ◌∷◌, ◌++◌, length, take, drop, Some, None, Option, slice_set}
use Rattle.keys.specs.Octets.{same_bytes}
use Rattle.slots.specs.declared.slot.Slot.{Slot}
use Rattle.slots.specs.declared.slot.Slot.TheVariants.{Plain}
use Rattle.slots.specs.declared.probe.Probe.{Probe}
use Rattle.slots.specs.declared.probe.Probe.TheVariants.{Found, Free, Full}
use Rattle.slots.specs.Walks.{home_of, probed, reached, is_full}

abbrev pub slot_is : {K : Type 0} → (K → List ℕ) → K → Option K → Bool
slot_is bytes k None = false
slot_is bytes k (Some x) = same_bytes (bytes x) (bytes k)

-- whether some slot holds the key, on its walk or off it
abbrev pub holds : {K : Type 0} → (K → List ℕ) → List (Option K) → K → Bool
holds bytes [] k = false
holds bytes (s ∷ xs) k = slot_is bytes k s || holds bytes xs k

-- how many slots hold a key
abbrev pub filled : {K : Type 0} → List (Option K) → ℕ
filled [] = 0
filled (None ∷ xs) = filled xs
filled (Some x ∷ xs) = 1 + filled xs

abbrev pub is_other : {K : Type 0} → (K → List ℕ) → K → Option K → Bool
is_other bytes k None = false
is_other bytes k (Some x) = not (same_bytes (bytes x) (bytes k))

-- whether every slot is taken by another key
abbrev pub others_only : {K : Type 0} → (K → List ℕ) → K → List (Option K) → Bool
others_only bytes k [] = true
others_only bytes k (s ∷ xs) = is_other bytes k s && others_only bytes k xs

-- the slots from place h upward, and round to 0
abbrev pub path : {K : Type 0} → ℕ → List (Option K) → List (Option K)
path h xs = drop h xs ++ take h xs

-- whether the key stands on a path before its first empty slot
abbrev pub met : {K : Type 0} → (K → List ℕ) → K → List (Option K) → Bool
met bytes k [] = false
met bytes k (None ∷ xs) = false
met bytes k (Some x ∷ xs) = same_bytes (bytes x) (bytes k) || met bytes k xs

-- each key that is held is met on the path from its home
abbrev pub Sound : {K : Type 0} → (K → List ℕ) → List (Option K) → Type 0
Sound {K} bytes xs = (k : K) → holds bytes xs k ≡ true → met bytes k (path (home_of bytes k (length xs)) xs) ≡ true

-- an empty table: it is sound, and holds nothing
pub record Emptied {K : Type 0} (bytes : K → List ℕ) (xs : List (Option K)) : Type 0 where
  pub none : filled xs ≡ 0
  pub sound : Sound bytes xs
  pub exact : (x : K) → holds bytes xs x ≡ false

-- the slots after the key went where its walk ended, with their marks ..
abbrev pub put : {K : Type 0} → Probe → K → List (Slot K) → List (Slot K)
put (Found i) k slots = slots
put (Free i) k slots = slice_set slots i (Plain k)
put Full k slots = slots

-- .. and their keys alone
abbrev pub placed : {K : Type 0} → Probe → K → List (Option K) → List (Option K)
placed (Found i) k xs = xs
placed (Free i) k xs = slice_set xs i (Some k)
placed Full k xs = xs

-- how many keys more a walk's end lets in
abbrev pub grown : Probe → ℕ
grown (Found i) = 0
grown (Free i) = 1
grown Full = 0

-- what inserting k into the table xs answers, r, and leaves, ys
pub record Inserted {K : Type 0} (bytes : K → List ℕ) (k : K) (xs : List (Option K)) (r : Probe) (ys : List (Option K)) : Type 0 where
  pub answer : r ≡ probed bytes k xs
  pub after : ys ≡ placed r k xs
  -- it fails exactly when every slot is taken by another key
  pub full : is_full r ≡ others_only bytes k xs
  pub count : filled ys ≡ filled xs + grown r
  -- in any table: the key's walk now meets it, and no walk is broken
  pub added : is_full r ≡ false → reached bytes ys k ≡ true
  pub keeps : (x : K) → reached bytes xs x ≡ true → reached bytes ys x ≡ true
  -- a sound table stays sound, and holds exactly the one key more
  pub sound : Sound bytes xs → Sound bytes ys
  pub exact : Sound bytes xs → is_full r ≡ false → (x : K) → holds bytes ys x ≡ (same_bytes (bytes k) (bytes x) || holds bytes xs x)

-- whether a key is one of a list
abbrev pub listed : {K : Type 0} → (K → List ℕ) → List K → K → Bool
listed bytes [] x = false
listed bytes (k ∷ ks) x = same_bytes (bytes k) (bytes x) || listed bytes ks x

-- the table was emptied, and then the keys were inserted, the first of the list last; none of them was refused
abbrev pub MadeBy : {K : Type 0} → (K → List ℕ) → List K → List (Option K) → Type 0
MadeBy bytes [] xs = filled xs ≡ 0
MadeBy {K} bytes (k ∷ ks) xs =
    (before : List (Option K)) × (r : Probe) × MadeBy bytes ks before × Inserted bytes k before r xs × (is_full r ≡ false)
