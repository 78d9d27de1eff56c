-- Clearing a container: the survivors are placed elsewhere, and the rest is lost.
use Rattle.std.specs.Prelude.{◌≡◌, ℕ, ◌+◌, ◌*◌, ◌<◌, Bool, cond, List, [], ◌∷◌, map, length, ◌≢◌, slice_index_or, slice_set}
use Rattle.devices.specs.Changes.{appended}
use Rattle.records.specs.Records.{Rec, Contents}
use Rattle.trees.specs.Chains.{Chain}

-- the records with verdict yes
abbrev pub spared : {X : Type 0} → List Bool → List X → List X
spared [] rs = []
spared (v ∷ vs) [] = []
spared (v ∷ vs) (r ∷ rs) = cond v (r ∷ spared vs rs) (spared vs rs)

-- the records with verdict no
abbrev pub doomed : {X : Type 0} → List Bool → List X → List X
doomed [] rs = rs
doomed (v ∷ vs) [] = []
doomed (v ∷ vs) (r ∷ rs) = cond v (doomed vs rs) (r ∷ doomed vs rs)

-- the record is appended to some container other than c
abbrev pub Placed : ℕ → Contents → Rec → Contents → Type 0
Placed c cs r cs' = (d : ℕ) × (d < length cs) × (d ≢ c) × (cs' ≡ appended cs d r)

-- the survivors of c are placed elsewhere in order, then c is erased
abbrev pub Cleared : Contents → ℕ → List Bool → Contents → Type 0
Cleared cs c vs cs' = (m : Contents) × Chain (Placed c) cs (spared vs (slice_index_or cs c [])) m × (cs' ≡ slice_set m c [])

-- containers are cleared one after another, a record's verdict being the vote on its fingerprint
abbrev pub ClearedBy : (List ℕ → Bool) → Contents → List ℕ → Contents → Type 0
ClearedBy vote cs order cs' = Chain (λ a c b. Cleared a c (map (λ r. vote r.fingerprint) (slice_index_or a c [])) b) cs order cs'

-- verdicts as one number: bit i for record i
abbrev pub mask_of : List Bool → ℕ
mask_of [] = 0
mask_of (v ∷ vs) = mask_of vs * 2 + cond v 1 0
