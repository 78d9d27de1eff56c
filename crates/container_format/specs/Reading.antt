-- The records that the bytes of a container file read as.
use Rattle.std.specs.Prelude.{◌≡◌, ℕ, zero, suc, ◌+◌, ◌≤◌, List, [], ◌∷◌, length, take, drop, slice_index, slice_index_or}
use Rattle.keys.specs.Octets.{number}
use Rattle.records.specs.Records.{Rec, Contents}
use Rattle.container_format.specs.Layout.{body_at, container_size}

-- the payload length that the entry at the front of es names
abbrev pub length_in : ℕ → List ℕ → ℕ
length_in w es = number (take 2 (drop (w + 2) es))

-- the record of the entry at the front of es, whose payload lies at the front of bs
abbrev pub read_record : ℕ → List ℕ → List ℕ → Rec
read_record w es bs = record { level = slice_index es w; fingerprint = take w es; payload = take (length_in w es) bs }

-- the first k records of the entries es and the body bs
abbrev pub read_records : ℕ → ℕ → List ℕ → List ℕ → List Rec
read_records w zero es bs = []
read_records w (suc k) es bs = read_record w es bs ∷ read_records w k (drop (w + 8) es) (drop (length_in w es) bs)

-- the records of a container
unfoldable pub read_container : ℕ → List ℕ → List Rec
read_container w s = read_records w (number (take 2 s)) (drop 16 s) (drop (body_at w) s)

-- the records of n containers
abbrev pub read_file : ℕ → ℕ → List ℕ → Contents
read_file w zero bs = []
read_file w (suc n) bs = read_container w (take (container_size w) bs) ∷ read_file w n (drop (container_size w) bs)

-- the entry of the record r begins at byte `at`, in a container whose body begins at byte `body`
pub record EntryOf (w : ℕ) (bs : List ℕ) (at body : ℕ) (r : Rec) : Type 0 where
  pub inside : at + (w + 8) ≤ length bs
  pub level : slice_index_or bs (at + w) 0 ≡ r.level
  pub fingerprint : take w (drop at bs) ≡ r.fingerprint
  pub long : number (take 2 (drop (at + (w + 2)) bs)) ≡ length r.payload
  pub payload : take (length r.payload) (drop (body + number (take 4 (drop (at + (w + 4)) bs))) bs) ≡ r.payload
  pub within : body + number (take 4 (drop (at + (w + 4)) bs)) + length r.payload ≤ length bs
