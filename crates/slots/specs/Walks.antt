-- Walks along slots: the keys in slots, where the walk of a key ends, and what a lookup answers.
use Rattle.std.specs.Prelude.{ℕ, ◌+◌, ◌%◌, ◌<◌, Bool, true, false, cond, ◌||◌, List, [], ◌∷◌, map, length, take, drop, Some, None, Option, ◌==◌}
use Rattle.keys.specs.Encodings.{home_number}
use Rattle.keys.specs.Octets.{same_bytes}
use Rattle.slots.specs.declared.slot.Slot.{Slot}
use Rattle.slots.specs.declared.slot.Slot.TheVariants.{Empty, Plain, Marked}
use Rattle.slots.specs.declared.probe.Probe.{Probe}
use Rattle.slots.specs.declared.probe.Probe.TheVariants.{Found, Free, Full}

-- the key in a slot, marked or not
abbrev pub key_of : {K : Type 0} → Slot K → Option K
key_of Empty = None
key_of (Plain k) = Some k
key_of (Marked k) = Some k

abbrev pub keys_of : {K : Type 0} → List (Slot K) → List (Option K)
keys_of slots = map key_of slots

-- along a row whose first slot has the place i, up to the key or an empty slot
abbrev pub find : {K : Type 0} → (K → List ℕ) → K → ℕ → List (Option K) → Probe
find bytes k i [] = Full
find bytes k i (None ∷ xs) = Free i
find bytes k i (Some x ∷ xs) = cond (same_bytes (bytes x) (bytes k)) (Found i) (find bytes k (i + 1) xs)

-- where a walk stops at what a slot holds, if it does
abbrev pub stop : {K : Type 0} → (K → List ℕ) → K → ℕ → Option K → Option Probe
stop bytes k i None = Some (Free i)
stop bytes k i (Some x) = cond (same_bytes (bytes x) (bytes k)) (Some (Found i)) None

-- a walk that ended nowhere goes on
abbrev pub or_else : Probe → Probe → Probe
or_else (Found i) q = Found i
or_else (Free i) q = Free i
or_else Full q = q

-- from place h upward, and round to 0
abbrev pub find_from : {K : Type 0} → (K → List ℕ) → K → ℕ → List (Option K) → Probe
find_from bytes k h xs = or_else (find bytes k h (drop h xs)) (find bytes k 0 (take h xs))

-- where the walk of a key begins, among n slots
abbrev pub home_of : {K : Type 0} → (K → List ℕ) → K → ℕ → ℕ
home_of bytes k n = home_number 0 (bytes k) % n

-- where the walk of a key ends
abbrev pub probed : {K : Type 0} → (K → List ℕ) → K → List (Option K) → Probe
probed bytes k xs = find_from bytes k (home_of bytes k (length xs)) xs

abbrev pub is_found : Probe → Bool
is_found (Found i) = true
is_found (Free i) = false
is_found Full = false

abbrev pub is_full : Probe → Bool
is_full (Found i) = false
is_full (Free i) = false
is_full Full = true

-- the place, if there is one, is below n
abbrev pub Within : Probe → ℕ → Type 0
Within (Found i) n = i < n
Within (Free i) n = i < n
Within Full n = Unit {0}

-- whether the walk of a key meets it
abbrev pub reached : {K : Type 0} → (K → List ℕ) → List (Option K) → K → Bool
reached bytes xs k = is_found (probed bytes k xs)

-- what a lookup answers in a table that is told to hold `count` keys
abbrev pub looked : {K : Type 0} → (K → List ℕ) → ℕ → List (Option K) → K → Bool
looked bytes count xs k = cond (length xs == 0 || count == 0) false (reached bytes xs k)
