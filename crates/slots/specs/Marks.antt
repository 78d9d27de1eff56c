-- Marks on the keys of a table: which keys have one, and what marking a key and taking all marks off do.
use Rattle.std.specs.Prelude.{◌≡◌, ℕ, Bool, true, false, ◌&&◌, ◌||◌, List, map, slice_index_or, slice_set}
use Rattle.keys.specs.Octets.{same_bytes}
use Rattle.slots.specs.declared.slot.Slot.{Slot}
use Rattle.slots.specs.declared.slot.Slot.TheVariants.{Empty, Plain, Marked}
use Rattle.slots.specs.declared.probe.Probe.{Probe}
use Rattle.slots.specs.declared.probe.Probe.TheVariants.{Found, Free, Full}
use Rattle.slots.specs.Walks.{keys_of, probed, reached}

abbrev pub is_marked : {K : Type 0} → Slot K → Bool
is_marked Empty = false
is_marked (Plain k) = false
is_marked (Marked k) = true

-- a slot without its mark
abbrev pub plain : {K : Type 0} → Slot K → Slot K
plain Empty = Empty
plain (Plain k) = Plain k
plain (Marked k) = Plain k

abbrev pub unmarked : {K : Type 0} → List (Slot K) → List (Slot K)
unmarked slots = map plain slots

-- the slots after k was marked where its walk met it
abbrev pub noted : {K : Type 0} → Probe → K → List (Slot K) → List (Slot K)
noted (Found i) k slots = slice_set slots i (Marked k)
noted (Free i) k slots = slots
noted Full k slots = slots

-- whether a walk ended at a mark
abbrev pub mark_at : {K : Type 0} → Probe → List (Slot K) → Bool
mark_at (Found i) slots = is_marked (slice_index_or slots i Empty)
mark_at (Free i) slots = false
mark_at Full slots = false

-- whether the walk of a key meets it, marked
abbrev pub marked : {K : Type 0} → (K → List ℕ) → List (Slot K) → K → Bool
marked bytes slots k = mark_at (probed bytes k (keys_of slots)) slots

-- the same keys, and no mark
pub record NoMarks {K : Type 0} (bytes : K → List ℕ) (xs ys : List (Slot K)) : Type 0 where
  pub same : keys_of ys ≡ keys_of xs
  pub none : (x : K) → marked bytes ys x ≡ false

-- the same keys, and exactly one mark more, on k if its walk meets it
pub record OneMark {K : Type 0} (bytes : K → List ℕ) (k : K) (xs ys : List (Slot K)) : Type 0 where
  pub same : keys_of ys ≡ keys_of xs
  pub exact : (x : K) → marked bytes ys x ≡ (marked bytes xs x || (same_bytes (bytes k) (bytes x) && reached bytes (keys_of xs) k))
