-- Where an examination stands that goes down the levels, with the nodes to visit in a table of keys.
use Rattle.std.specs.Prelude.{◌≡◌, ℕ, ◌<◌, true, false, ◌⊎◌, List, [], ◌∷◌, length, Some, Ok, Err, Option, Result}
use Rattle.records.specs.Records.{Rec, Contents, first_place}
use Rattle.records.specs.declared.refusal.Place.{Place}
use Rattle.slots.specs.Tables.{holds, filled, others_only, Sound, Inserted}
use Rattle.slots.specs.Walks.{is_full}
use Rattle.slots.specs.declared.probe.Probe.{Probe}
use Rattle.trees.specs.Holding.{In, record_of}
use Rattle.trees.specs.Trees.{cut, Reaches, StoredUnder, StoredNode}
use Rattle.walks.specs.Findings.{Passed}
use Rattle.walks.specs.declared.flaw.Flaw.{Flaw}
use Rattle.walks.specs.declared.flaw.Flaw.TheVariants.{Broken, TableFull}

-- no element stands twice
abbrev pub Distinct : {X : Type 0} → List X → Type 0
Distinct [] = Unit {0}
Distinct (x ∷ xs) = (In x xs → ⊥) × Distinct xs

module _ {K : Type 0} (bytes : K → List ℕ) where
  -- each child of these is stored at the level just below n, and held
  abbrev pub Admitted : Contents → ℕ → List (List ℕ) → List (Option K) → Type 0
  Admitted cs n children xs = (q : List ℕ) → In q children → StoredUnder cs n q × ((k : K) → bytes k ≡ q → holds bytes xs k ≡ true)

  -- the keys held are some stored fingerprints, none of them twice
  pub record Counted (cs : Contents) (xs : List (Option K)) : Type 0 where
    pub fingerprints : List (List ℕ)
    pub distinct : Distinct fingerprints
    pub many : length fingerprints ≡ filled xs
    pub held : (k : K) → In (bytes k) fingerprints → holds bytes xs k ≡ true
    pub stored : (f : List ℕ) → In f fingerprints → (r : Rec) × (record_of cs f ≡ Some r)

  -- the levels above n are done, and of level n the nodes in the list: their children are stored and held. What is held is reached
  pub record Sweep (w : ℕ) (cs : Contents) (root : List ℕ) (slots n : ℕ) (done : List (List ℕ)) (xs : List (Option K)) : Type 0 where
    pub long : length xs ≡ slots
    pub sound : Sound bytes xs
    pub counted : Counted cs xs
    pub top : StoredNode cs root
    pub start : (k : K) → bytes k ≡ root → holds bytes xs k ≡ true
    pub reached : (k : K) → holds bytes xs k ≡ true → Reaches w cs root (bytes k)
    pub above : (k : K) (r : Rec) → holds bytes xs k ≡ true → record_of cs (bytes k) ≡ Some r → n < r.level → Admitted cs r.level (cut w r.payload) xs
    pub here : (k : K) (r : Rec) → holds bytes xs k ≡ true → In (bytes k) done → record_of cs (bytes k) ≡ Some r → r.level ≡ n → Admitted cs n (cut w r.payload) xs

  -- a node of level n that is held, with its first place and its record
  pub record Parent (cs : Contents) (x : Place) (n : ℕ) (xs : List (Option K)) (p : K) (r : Rec) : Type 0 where
    pub held : holds bytes xs p ≡ true
    pub place : Some x ≡ first_place cs (bytes p)
    pub is : record_of cs (bytes p) ≡ Some r
    pub level : r.level ≡ n

  -- a key goes into the table where it is not held yet, or else every slot is taken by another
  abbrev pub Enters : K → List (Option K) → List (Option K) → Result (Unit {0}) Flaw → Type 0
  Enters k xs ys (Ok u) = (p : Probe) × Inserted bytes k xs p ys × (is_full p ≡ false)
  Enters k xs ys (Err e) = (e ≡ TableFull) × (others_only bytes k xs ≡ true)

  -- a child of the node at a place is entered, or else what is wrong with it
  abbrev pub Admits : Contents → Place → ℕ → K → List (Option K) → List (Option K) → Result (Unit {0}) Flaw → Type 0
  Admits cs x n k xs ys (Ok u) = StoredUnder cs n (bytes k) × ((p : Probe) × Inserted bytes k xs p ys × (is_full p ≡ false))
  Admits cs x n k xs ys (Err e) = ((e ≡ Broken x) × (StoredUnder cs n (bytes k) → ⊥)) ⊎ ((e ≡ TableFull) × StoredUnder cs n (bytes k) × (others_only bytes k xs ≡ true))

  -- all children that a payload lists, of the node at a place that has this payload, are admitted
  abbrev pub AdmitsAll : ℕ → Contents → Place → ℕ → List ℕ → List (Option K) → List (Option K) → Result (Unit {0}) Flaw → Type 0
  AdmitsAll w cs x n payload xs ys o =
      (root : List ℕ) (slots : ℕ) (done : List (List ℕ)) (p : K) (r : Rec) → Sweep w cs root slots n done xs → Parent cs x n xs p r → r.payload ≡ payload →
      Passed w cs root slots (Sweep w cs root slots n done ys × Admitted cs n (cut w payload) ys) o

  -- an examination that stands at n and done with the table xs comes to m and done' with ys
  abbrev pub Moves : ℕ → Contents → ℕ → List (List ℕ) → List (Option K) → ℕ → List (List ℕ) → List (Option K) → Result (Unit {0}) Flaw → Type 0
  Moves w cs n done xs m done' ys o =
      (root : List ℕ) (slots : ℕ) → Sweep w cs root slots n done xs → Passed w cs root slots (Sweep w cs root slots m done' ys) o
