-- What the check of a file finds out, byte by byte and as a whole.
use Rattle.std.specs.Prelude.{◌≡◌, ℕ, zero, suc, ◌+◌, ◌*◌, ◌≤◌, ◌⊎◌, List, length, take, drop, Ok, Err, Result, ◌≢◌, slice_index_or}
use Rattle.std.specs.List.{AllByRecursion}
use Rattle.keys.specs.Octets.{Bytes, number}
use Rattle.records.specs.Limits.{Stored, Limits}
use Rattle.records.specs.Records.{Contents}
use Rattle.records.specs.Refusals.{Numbered}
use Rattle.records.specs.declared.refusal.Refusal.{Refusal}
use Rattle.container_format.specs.Layout.{body_at, container_size, file}
use Rattle.container_format.specs.Reading.{length_in, read_file}

-- bytes that are the file of the n containers that they read as, and of no other list
pub record IsFile (w n : ℕ) (bs : List ℕ) : Type 0 where
  pub count : length (read_file w n bs) ≡ n
  pub limits : Limits w (read_file w n bs)
  pub bytes : bs ≡ file w (read_file w n bs)
  pub only : (cs : Contents) → Limits w cs → bs ≡ file w cs → cs ≡ read_file w n bs

-- bytes that are no file of any list of containers
abbrev pub NoFile : ℕ → List ℕ → Type 0
NoFile w bs = (cs : Contents) → Limits w cs → bs ≢ file w cs

-- the length is that of no 2 to 32 containers
abbrev pub NoCount : ℕ → ℕ → Type 0
NoCount w len = (n : ℕ) → 2 ≤ n → n ≤ 32 → len ≢ n * container_size w

-- the length is right for n containers
pub record Count (w len n : ℕ) : Type 0 where
  pub some : 2 ≤ n
  pub few : n ≤ 32
  pub length : len ≡ n * container_size w

-- what the check answers: n for the file of n containers, refusal 1 where the length is no number's, else refusal 2
abbrev pub Checked : ℕ → List ℕ → Result ℕ Refusal → Type 0
Checked w bs (Ok n) = IsFile w n bs
Checked w bs (Err e) = NoFile w bs × ((Numbered 1 e × NoCount w (length bs)) ⊎ (Numbered 2 e × ((n : ℕ) × Count w (length bs) n)))

-- all bytes are zero
abbrev pub Zeros : List ℕ → Type 0
Zeros bs = AllByRecursion (λ b. b ≡ 0) bs

-- the entry at the front of es is in order, where its payload is to lie at `off`
pub record EntryOk (w off : ℕ) (es : List ℕ) : Type 0 where
  pub level : slice_index_or es w 0 ≤ 6
  pub gap : slice_index_or es (w + 1) 0 ≡ 0
  pub some : 1 ≤ length_in w es
  pub few : length_in w es ≤ 1280
  pub offset : number (take 4 (drop (w + 4) es)) ≡ off
  pub space : off + length_in w es ≤ 7168

-- k entries are in order, the first payload lying at `off`; behind them entries and body are zero, and `used` bytes are in use
abbrev pub EntriesOk : ℕ → ℕ → ℕ → ℕ → List ℕ → List ℕ → Type 0
EntriesOk w used zero off es bs = (off ≡ used) × Zeros es × Zeros bs
EntriesOk w used (suc k) off es bs = EntryOk w off es × EntriesOk w used k (off + length_in w es) (drop (w + 8) es) (drop (length_in w es) bs)

-- a container's header is in order
pub record HeaderOk (s : List ℕ) : Type 0 where
  pub count : number (take 2 s) ≤ 63
  pub zeros : Zeros (take 12 (drop 4 s))

-- a container's bytes are in order
pub record ContainerOk (w : ℕ) (s : List ℕ) : Type 0 where
  pub header : HeaderOk s
  pub entries : EntriesOk w (number (take 2 (drop 2 s))) (number (take 2 s)) 0 (take (63 * (w + 8)) (drop 16 s)) (drop (body_at w) s)

-- n containers, one behind the other, are in order
abbrev pub ContainersOk : ℕ → ℕ → List ℕ → Type 0
ContainersOk w zero bs = Unit {0}
ContainersOk w (suc n) bs = ContainerOk w (take (container_size w) bs) × ContainersOk w n (drop (container_size w) bs)

-- n containers that may be worked on: their bytes are the file of what they read as, or n is 0 and the bytes are any
pub record Intact (w n : ℕ) (bs : List ℕ) : Type 0 where
  pub few : n ≤ 32
  pub narrow : w ≤ 20
  pub long : n * container_size w ≤ length bs
  pub exact : 1 ≤ n → (2 ≤ n) × (length bs ≡ n * container_size w)
  pub bytes : take (n * container_size w) bs ≡ file w (read_file w n bs)
  pub each : AllByRecursion (Stored w) (read_file w n bs)

-- bytes that follow the layout, entry by entry, and read as the list cs
pub record FileOf (w : ℕ) (cs : Contents) (bs : List ℕ) : Type 0 where
  pub octets : Bytes bs
  pub count : Count w (length bs) (length cs)
  pub order : ContainersOk w (length cs) bs
  pub reads : read_file w (length cs) bs ≡ cs

-- every list within the limits has exactly one container file, and it reads back to that list
abbrev pub OneFile : ℕ → Type 0
OneFile w = (cs : Contents) → Limits w cs → FileOf w cs (file w cs) × ((bs : List ℕ) → FileOf w cs bs → bs ≡ file w cs)
