-- What a container file holds.
use Rattle.std.specs.Prelude.{◌≡◌, ℕ, ◌+◌, ◌-◌, ◌*◌, ◌<◌, ◌≤◌, cond, [], length, take, drop, replicate, Some, None, Ok, Err, vec_items, Option, Result, Vec, ◌==◌}
use Rattle.std.specs.declared.alloc.Global.{Global}
use Rattle.std.specs.declared.ops.Range.{Range}
use Rattle.records.specs.Records.{Contents, payload_bytes}
use Rattle.records.specs.Refusals.{untold}
use Rattle.records.specs.declared.refusal.Cause.TheVariants.{Size}
use Rattle.records.specs.declared.refusal.Place.{Place}
use Rattle.records.specs.declared.refusal.Refusal.{Refusal}
use Rattle.devices.specs.Questions.{records_of, record_at}
use Rattle.container_format.specs.Checking.{Count}
use Rattle.container_format.specs.Layout.{body_at, container_size}
use Rattle.container_format.specs.Reading.{read_file, EntryOf}
use Rattle.container_file.specs.declared.file.ContainerFile.{ContainerFile}
use Rattle.container_file.specs.declared.header.Header.{Header}

-- the records that the bytes read as
abbrev pub read_as : {F : Type 0} → ContainerFile F → Contents
read_as s = read_file s.width s.count (vec_items s.bytes)

-- what the file holds for a kind of w bytes. A file is only ever made at its kind's width, but its type cannot say so: at another it would hold nothing
abbrev pub contents_of : {F : Type 0} → ℕ → ContainerFile F → Contents
contents_of w s = cond (s.width == w) (read_as s) []

-- an answer with what its reference points to
abbrev pub answered : {X Y E : Type 0} → (X → Y) → Result X E → Result Y E
answered f (Ok x) = Ok (f x)
answered f (Err e) = Err e

-- the container that a header is of is there, and what the header says of it is so
pub record Headed {F : Type 0} (w : ℕ) (s : ContainerFile F) (h : Header) : Type 0 where
  pub width : s.width ≡ w
  pub container : h.container < s.count
  pub there : h.container < length (contents_of w s)
  pub base : h.base ≡ h.container * container_size w
  pub small : h.base ≤ 300000
  pub inside : h.base + container_size w ≤ length (vec_items s.bytes)
  pub records : h.records ≡ length (records_of (contents_of w s) h.container)
  pub few : h.records ≤ 63
  pub used : h.used ≡ payload_bytes (records_of (contents_of w s) h.container)
  pub bound : h.used ≤ 7168

-- the header of the container c, if the file has such a container
abbrev pub Found : {F : Type 0} → ℕ → ContainerFile F → ℕ → Option Header → Type 0
Found w s c None = length (contents_of w s) ≤ c
Found w s c (Some h) = (h.container ≡ c) × Headed w s h

-- the file has a record at the place p, and its entry begins at byte `at`
pub record EntryAt {F : Type 0} (w : ℕ) (s : ContainerFile F) (p : Place) (at : ℕ) : Type 0 where
  pub width : s.width ≡ w
  pub container : p.container < s.count
  pub index : p.index < length (records_of (contents_of w s) p.container)
  pub entry : EntryOf w (vec_items s.bytes) at (p.container * container_size w + body_at w) (record_at (contents_of w s) p)

-- where the entry of a place begins, if the file has such a record
abbrev pub Entered : {F : Type 0} → ℕ → ContainerFile F → Place → Option ℕ → Type 0
Entered w s p None = length (records_of (contents_of w s) p.container) ≤ p.index
Entered w s p (Some at) = EntryAt w s p at

-- the payload of the record at the place p is the part of `len` bytes from byte `from`
pub record SpanOf {F : Type 0} (w : ℕ) (s : ContainerFile F) (p : Place) (from len : ℕ) : Type 0 where
  pub index : p.index < length (records_of (contents_of w s) p.container)
  pub inside : from + len ≤ length (vec_items s.bytes)
  pub long : len ≡ length (record_at (contents_of w s) p).payload
  pub part : take len (drop from (vec_items s.bytes)) ≡ (record_at (contents_of w s) p).payload

abbrev pub Spanned : {F : Type 0} → ℕ → ContainerFile F → Place → Option (Range ℕ) → Type 0
Spanned w s p None = length (records_of (contents_of w s) p.container) ≤ p.index
Spanned w s p (Some x) = (x.start ≤ x.end) × SpanOf w s p x.start (x.end - x.start)

-- laying out n free containers: refused where n or the length is wrong, and then the bytes come back as they were
abbrev pub LaidOut : {F : Type 0} → ℕ → ℕ → Vec ℕ Global → Result (ContainerFile F) (Refusal × Vec ℕ Global) → Type 0
LaidOut w n bytes (Ok s) = Count w (length (vec_items bytes)) n × (contents_of w s ≡ replicate n []) × (vec_items s.bytes ≡ replicate (length (vec_items bytes)) 0)
LaidOut w n bytes (Err x) = (x.0 ≡ untold Size) × (x.1 ≡ bytes) × (Count w (length (vec_items bytes)) n → ⊥)
