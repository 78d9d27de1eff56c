-- Records, what containers hold, and the first place of a fingerprint.
use Rattle.std.specs.Prelude.{ℕ, suc, ◌+◌, cond, List, [], ◌∷◌, length, Some, None, Option}
use Rattle.keys.specs.Octets.{same_bytes}
use Rattle.records.specs.declared.record.Record.{Record}
use Rattle.records.specs.declared.refusal.Place.{Place}

-- a strip (level 0) or a node (levels 1 to 6): its level, the bytes of its fingerprint, its payload
pub record Rec : Type 0 where
  pub level : ℕ
  pub fingerprint : List ℕ
  pub payload : List ℕ

-- a record as calls pass it, by the bytes of its fingerprint
abbrev pub rec_of : {F : Type 0} → (F → List ℕ) → Record F → Rec
rec_of bytes r = record { level = r.level; fingerprint = bytes r.fingerprint; payload = r.payload.now }

-- what stands past the end of a list of records
abbrev pub no_record : Rec
no_record = record { level = 0; fingerprint = []; payload = [] }

-- for each container its records, first to last
abbrev pub Contents : Type 0
Contents = List (List Rec)

-- the payload bytes of some records
abbrev pub payload_bytes : List Rec → ℕ
payload_bytes [] = 0
payload_bytes (r ∷ rs) = length r.payload + payload_bytes rs

-- the first place of a fingerprint among the records rs, the first of which stands at index i of container c; `later` where they lack it
abbrev pub place_among : List ℕ → ℕ → ℕ → List Rec → Option Place → Option Place
place_among f c i [] later = later
place_among f c i (r ∷ rs) later = cond (same_bytes r.fingerprint f) (Some (record { container = c; index = i })) (place_among f c (suc i) rs later)

abbrev pub place_from : List ℕ → ℕ → Contents → Option Place
place_from f c [] = None
place_from f c (rs ∷ cs) = place_among f c 0 rs (place_from f (suc c) cs)

-- the first place of a fingerprint in rising container and record order, if any
abbrev pub first_place : Contents → List ℕ → Option Place
first_place cs f = place_from f 0 cs
