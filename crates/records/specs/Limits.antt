-- How much a record and a container may hold, and how many containers there may be.
use Rattle.std.specs.Prelude.{◌≡◌, ℕ, ◌≤◌, List, length}
use Rattle.std.specs.List.{AllByRecursion}
use Rattle.keys.specs.Octets.{Bytes}
use Rattle.records.specs.Records.{Rec, Contents, payload_bytes}

-- a record of fingerprints of w bytes: its parts are bytes, and the fingerprint is as wide as its kind
pub record Typed (w : ℕ) (r : Rec) : Type 0 where
  pub wide : length r.fingerprint ≡ w
  pub fingerprint : Bytes r.fingerprint
  pub payload : Bytes r.payload

-- a record that may be stored: level 0 to 6, a payload of 1 to 1,280 bytes
pub record Storable (w : ℕ) (r : Rec) : Type 0 where
  pub typed : Typed w r
  pub level : r.level ≤ 6
  pub some : 1 ≤ length r.payload
  pub few : length r.payload ≤ 1280

-- a container takes at most 63 records and 7,168 payload bytes
pub record Fits (rs : List Rec) : Type 0 where
  pub count : length rs ≤ 63
  pub bytes : payload_bytes rs ≤ 7168

-- a container of records that may be stored
pub record Stored (w : ℕ) (rs : List Rec) : Type 0 where
  pub fits : Fits rs
  pub each : AllByRecursion (Storable w) rs

-- what a container file may hold: 2 to 32 such containers
pub record Limits (w : ℕ) (cs : Contents) : Type 0 where
  pub some : 2 ≤ length cs
  pub few : length cs ≤ 32
  pub each : AllByRecursion (Stored w) cs
