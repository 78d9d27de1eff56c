-- Marking with a live set: the roots first, then the levels from 6 down to 1.
use Rattle.std.specs.Prelude.{◌≡◌, ℕ, Bool, true, false, ◌&&◌, ◌⊎◌, List, [], ◌∷◌, ◌==◌}
use Rattle.records.specs.Records.{Rec, Contents}
use Rattle.trees.specs.Holding.{In}
use Rattle.trees.specs.Trees.{cut, Reaches}
use Rattle.trees.specs.Chains.{Chain}

-- which fingerprints a set covers, and which it says yes to
pub record Meaning (S : Type 0) : Type 0 where
  pub covers : S → List ℕ → Bool
  pub says : S → List ℕ → Bool

-- p is marked: covered fingerprints and earlier yeses remain, and a covered p gets a yes
pub record Noted {S : Type 0} (m : Meaning S) (u : S) (p : List ℕ) (v : S) : Type 0 where
  pub covers : (x : List ℕ) → m.covers v x ≡ m.covers u x
  pub yeses : (x : List ℕ) → m.says u x ≡ true → m.says v x ≡ true
  pub gets : m.covers u p ≡ true → m.says v p ≡ true

-- p is marked, and no other fingerprint gets a yes by it
pub record Exactly {S : Type 0} (m : Meaning S) (u : S) (p : List ℕ) (v : S) : Type 0 where
  pub noted : Noted m u p v
  pub alone : (x : List ℕ) → m.says v x ≡ true → (m.says u x ≡ true) ⊎ (x ≡ p)

-- the first if the test is true, else the second
abbrev pub Either : Bool → Type 0 → Type 0 → Type 0
Either true A B = A
Either false A B = B

-- Mark u p v: from u, marking p can give v
module _ {S : Type 0} (w : ℕ) (says : S → List ℕ → Bool) (Mark : S → List ℕ → S → Type 0) where
  -- the children of a record of level n with a yes are marked; at any other the set stays
  abbrev pub Seen : ℕ → S → Rec → S → Type 0
  Seen n u r v = Either (r.level == n && says u r.fingerprint) (Chain Mark u (cut w r.payload) v) (v ≡ u)

  -- one container, for one level
  abbrev pub Visited : ℕ → S → List Rec → S → Type 0
  Visited n u b v = Chain (Seen n) u b v

  -- the containers in rising order, for one level
  abbrev pub Leveled : Contents → S → ℕ → S → Type 0
  Leveled cs u n v = Chain (Visited n) u cs v

  -- from level 6 down to 1
  abbrev pub Swept : Contents → S → S → Type 0
  Swept cs u v = Chain (Leveled cs) u (6 ∷ 5 ∷ 4 ∷ 3 ∷ 2 ∷ 1 ∷ []) v

  -- the roots are marked, then the levels are swept
  abbrev pub Marked : Contents → List (List ℕ) → S → S → Type 0
  Marked cs roots u after = (v : S) × Chain Mark u roots v × Swept cs v after

-- p is reached from one of the roots
abbrev pub Reached : ℕ → Contents → List (List ℕ) → List ℕ → Type 0
Reached w cs roots p = (root : List ℕ) × In root roots × Reaches w cs root p
