-- The bytes of a container file, from the records that its containers hold. Fingerprints have w bytes.
use Rattle.std.specs.Prelude.{ℕ, ◌+◌, ◌-◌, ◌*◌, List, [], ◌∷◌, ◌++◌, length, replicate}
use Rattle.keys.specs.Octets.{little}
use Rattle.records.specs.Records.{Rec, Contents}

-- where the body begins: behind a header of 16 bytes and 63 entries
abbrev pub body_at : ℕ → ℕ
body_at w = 16 + 63 * (w + 8)

-- how many bytes a container takes, full or free
abbrev pub container_size : ℕ → ℕ
container_size w = 16 + 63 * (w + 8) + 7168

-- an entry: the fingerprint, the level, a zero byte, the payload's length and its offset in the body
abbrev pub entry : ℕ → Rec → List ℕ
entry off r = r.fingerprint ++ (r.level ∷ 0 ∷ (little 2 (length r.payload) ++ little 4 off))

-- the entries of some records, the first of whose payloads lies at `off`
abbrev pub entries : ℕ → List Rec → List ℕ
entries off [] = []
entries off (r ∷ rs) = entry off r ++ entries (off + length r.payload) rs

-- the payloads, one behind the other
abbrev pub payloads : List Rec → List ℕ
payloads [] = []
payloads (r ∷ rs) = r.payload ++ payloads rs

-- a container: its header (record count, payload bytes, 12 zero bytes), its entries, its body; what is not used is zero
unfoldable pub container_bytes : ℕ → List Rec → List ℕ
container_bytes w rs =
    little 2 (length rs) ++ (little 2 (length (payloads rs)) ++ (replicate 12 0
    ++ (entries 0 rs ++ (replicate ((63 - length rs) * (w + 8)) 0
    ++ (payloads rs ++ replicate (7168 - length (payloads rs)) 0)))))

-- a file: the containers, one behind the other
abbrev pub file : ℕ → Contents → List ℕ
file w [] = []
file w (rs ∷ cs) = container_bytes w rs ++ file w cs
