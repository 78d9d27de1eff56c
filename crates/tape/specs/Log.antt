-- A log: entries one behind the other in bytes, the log that bytes read as, and which container has which records.
use Rattle.std.specs.Prelude.{◌≡◌, ℕ, zero, suc, ◌+◌, ◌≤◌, cond, not, List, [], ◌∷◌, ◌++◌, map, length, take, drop, filter, ◌==◌, slice_index}
use Rattle.std.specs.List.{range_with_len, AllByRecursion}
use Rattle.keys.specs.Octets.{little, number}
use Rattle.records.specs.Limits.{Typed}
use Rattle.records.specs.Records.{Rec, Contents, no_record}

-- a record and the container it is in
pub record Entry : Type 0 where
  pub container : ℕ
  pub stored : Rec

abbrev pub no_entry : Entry
no_entry = record { container = 0; stored = no_record }

-- an entry's bytes before others: container, level, length in two bytes, fingerprint, payload
abbrev pub laid_before : Entry → List ℕ → List ℕ
laid_before e rest = e.container ∷ e.stored.level ∷ (little 2 (length e.stored.payload) ++ (e.stored.fingerprint ++ (e.stored.payload ++ rest)))

-- all entries' bytes before others
abbrev pub log_before : List Entry → List ℕ → List ℕ
log_before [] rest = rest
log_before (e ∷ es) rest = laid_before e (log_before es rest)

-- how many bytes an entry takes where fingerprints have w, and how many a log
abbrev pub entry_size : ℕ → Entry → ℕ
entry_size w e = w + 4 + length e.stored.payload

abbrev pub log_size : ℕ → List Entry → ℕ
log_size w [] = 0
log_size w (e ∷ es) = entry_size w e + log_size w es

-- the payload's length that the entry at the front of some bytes tells
abbrev pub length_at : List ℕ → ℕ
length_at bs = number (take 2 (drop 2 bs))

-- the entry at the front of some bytes
abbrev pub entry_of : ℕ → List ℕ → Entry
entry_of w bs = record {
  container = slice_index bs 0;
  stored = record { level = slice_index bs 1; fingerprint = take w (drop 4 bs); payload = take (length_at bs) (drop w (drop 4 bs)) };
}

-- the first k entries
abbrev pub log_of : ℕ → ℕ → List ℕ → List Entry
log_of w zero bs = []
log_of w (suc k) bs = entry_of w bs ∷ log_of w k (drop (length_at bs) (drop w (drop 4 bs)))

-- an entry that is read as it was written
pub record Sound (w : ℕ) (e : Entry) : Type 0 where
  pub typed : Typed w e.stored
  pub few : length e.stored.payload ≤ 1280

-- k entries stand at the front of some bytes
pub record Logged (w k : ℕ) (bs : List ℕ) : Type 0 where
  pub space : log_size w (log_of w k bs) ≤ length bs
  pub whole : log_before (log_of w k bs) (drop (log_size w (log_of w k bs)) bs) ≡ bs
  pub each : AllByRecursion (Sound w) (log_of w k bs)

-- the records of a container, in the order of their arrival
abbrev pub records_in : ℕ → List Entry → List Rec
records_in c [] = []
records_in c (e ∷ es) = cond (e.container == c) (e.stored ∷ records_in c es) (records_in c es)

-- the log with no entry of a container
abbrev pub without : ℕ → List Entry → List Entry
without c es = filter (λ e. not (e.container == c)) es

-- what n containers hold
abbrev pub gathered : ℕ → List Entry → Contents
gathered n es = map (λ c. records_in c es) (range_with_len 0 n)
