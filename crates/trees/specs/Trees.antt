-- Trees, where fingerprints have w bytes: the children of a node, what a root reaches, whole trees, and their texts.
use Rattle.std.specs.Prelude.{◌≡◌, ℕ, zero, suc, ◌+◌, ◌/◌, ◌≤◌, Bool, true, false, ◌&&◌, List, [], ◌∷◌, length, take, drop, Some, None, Option, ◌==◌, nat_le}
use Rattle.std.specs.List.{flat_map}
use Rattle.records.specs.Records.{Rec, Contents}
use Rattle.records.specs.Shapes.{Shape}
use Rattle.trees.specs.Holding.{In, all, record_of}

-- the first n pieces of w bytes
abbrev pub pieces : ℕ → ℕ → List ℕ → List (List ℕ)
pieces zero w bytes = []
pieces (suc n) w bytes = take w bytes ∷ pieces n w (drop w bytes)

-- a payload cut into pieces of w bytes, first to last; what is left behind the last whole piece is no piece
abbrev pub cut : ℕ → List ℕ → List (List ℕ)
cut w payload = pieces (length payload / w) w payload

-- a root reaches itself, and a reached node reaches its children
pub data Reaches (w : ℕ) (cs : Contents) (root : List ℕ) : List ℕ → Type 0 where
  itself : Reaches w cs root root
  onward : {p : List ℕ} {q : List ℕ} → Reaches w cs root p → (r : Rec) → record_of cs p ≡ Some r → 1 ≤ r.level → In q (cut w r.payload) → Reaches w cs root q

-- the fingerprint is stored at the level just below another
abbrev pub StoredUnder : Contents → ℕ → List ℕ → Type 0
StoredUnder cs level q = (c : Rec) × (record_of cs q ≡ Some c) × (c.level + 1 ≡ level)

-- the fingerprint is that of a stored node
abbrev pub StoredNode : Contents → List ℕ → Type 0
StoredNode cs p = (r : Rec) × (record_of cs p ≡ Some r) × (1 ≤ r.level)

-- the root is a stored node, and each child of a reached node is stored at the level just below
pub record Whole (w : ℕ) (cs : Contents) (root : List ℕ) : Type 0 where
  pub top : StoredNode cs root
  pub below : (p q : List ℕ) (r : Rec) → Reaches w cs root p → record_of cs p ≡ Some r → 1 ≤ r.level → In q (cut w r.payload) → StoredUnder cs r.level q

abbrev pub level_of : Option Rec → ℕ
level_of None = 0
level_of (Some r) = r.level

abbrev pub payload_of : Option Rec → List ℕ
payload_of None = []
payload_of (Some r) = r.payload

module _ (w : ℕ) (cs : Contents) where
  abbrev pub children : List ℕ → List (List ℕ)
  children p = cut w (payload_of (record_of cs p))

  -- the text at a level: a strip's is its payload alone, a node's joins its children's in order
  abbrev pub text_at : ℕ → List ℕ → List (List ℕ)
  text_at zero p = payload_of (record_of cs p) ∷ []
  text_at (suc n) p = flat_map (text_at n) (children p)

  abbrev pub text : List ℕ → List (List ℕ)
  text p = text_at (level_of (record_of cs p)) p

-- each record has the shape of a strip or of a node
abbrev pub Shaped : ℕ → Contents → Type 0
Shaped w cs = (r : Rec) → In r (all cs) → Shape w r.level (length r.payload)

-- whether there is a record, of level n
abbrev pub stands : Option Rec → ℕ → Bool
stands None n = false
stands (Some r) n = r.level == n

abbrev pub every : {X : Type 0} → (X → Bool) → List X → Bool
every test [] = true
every test (x ∷ xs) = test x && every test xs

-- wholeness, computed level by level
module _ (w : ℕ) (cs : Contents) where
  abbrev pub whole_at : ℕ → List ℕ → Bool
  whole_at zero p = stands (record_of cs p) zero
  whole_at (suc n) p = stands (record_of cs p) (suc n) && every (whole_at n) (children w cs p)

  abbrev pub is_whole : List ℕ → Bool
  is_whole root = nat_le 1 (level_of (record_of cs root)) && whole_at (level_of (record_of cs root)) root
