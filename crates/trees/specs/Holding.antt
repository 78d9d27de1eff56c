-- What all containers together hold: their records, the first record of a fingerprint, how many pass a test, which are lost.
use Rattle.std.specs.Prelude.{◌≡◌, ℕ, ◌+◌, ◌≤◌, Bool, cond, ◌&&◌, ◌⊎◌, List, [], ◌∷◌, Some, None, count_by, Option, ◌==◌, slice_index_or}
use Rattle.std.specs.List.{slice_get, flat_map}
use Rattle.keys.specs.Octets.{same_bytes}
use Rattle.records.specs.Records.{Rec, Contents}
use Rattle.records.specs.declared.refusal.Place.{Place}

-- x is an element of the list
abbrev pub In : {X : Type 0} → X → List X → Type 0
In x [] = ⊥
In x (y ∷ ys) = (x ≡ y) ⊎ In x ys

-- f of what there is, or d if there is nothing
abbrev pub if_some : {X Y : Type 0} → Y → (X → Y) → Option X → Y
if_some d f None = d
if_some d f (Some x) = f x

-- all records, in rising container and record order
abbrev pub all : Contents → List Rec
all cs = flat_map (λ rs. rs) cs

-- the first record of a fingerprint in a list
abbrev pub first : List ℕ → List Rec → Option Rec
first p [] = None
first p (r ∷ rs) = cond (same_bytes r.fingerprint p) (Some r) (first p rs)

abbrev pub record_of : Contents → List ℕ → Option Rec
record_of cs p = first p (all cs)

-- the record at a place, if there is one
abbrev pub standing : Contents → Place → Option Rec
standing cs x = slice_get (slice_index_or cs x.container []) x.index

-- how many of all records pass a test
abbrev pub held : (Rec → Bool) → Contents → ℕ
held test cs = count_by test (all cs)

-- no two records have equal fingerprints
abbrev pub Single : Contents → Type 0
Single cs = (p : List ℕ) → held (λ r. same_bytes r.fingerprint p) cs ≤ 1

abbrev pub same_rec : Rec → Rec → Bool
same_rec x y = x.level == y.level && (same_bytes x.fingerprint y.fingerprint && same_bytes x.payload y.payload)

-- all containers together hold the record once less
abbrev pub Lost : Rec → Contents → Contents → Type 0
Lost r cs cs' = held (same_rec r) cs ≡ held (same_rec r) cs' + 1
