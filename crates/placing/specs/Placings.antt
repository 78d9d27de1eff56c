-- Where a new record goes, as an equation and as a rule.
use Rattle.std.specs.Prelude.{◌≡◌, ℕ, ◌+◌, ◌<◌, ◌≤◌, Bool, cond, ◌&&◌, length, Some, None, Option, option_map, nat_le, nat_lt}
use Rattle.std.specs.Option.{option_or}
use Rattle.records.specs.Records.{Contents, payload_bytes}
use Rattle.devices.specs.Questions.{records_of}
use Rattle.placing.specs.Openings.{free_count, next_free, Free, Before}
use Rattle.placing.specs.declared.choosing.Choice.{Choice}
use Rattle.placing.specs.declared.choosing.Choice.TheVariants.{Stays, Opens}
use Rattle.placing.specs.declared.filling.Filling.{Filling}

-- whether a container is there and takes a record of len payload bytes
abbrev pub has_space : Contents → ℕ → ℕ → Bool
has_space cs c len = nat_lt c (length cs) && (nat_lt (length (records_of cs c)) 63 && nat_le (payload_bytes (records_of cs c) + len) 7168)

-- the open container, if that takes the record
abbrev pub staying : Contents → Option ℕ → ℕ → Option Choice
staying cs None len = None
staying cs (Some c) len = cond (has_space cs c len) (Some (Stays c)) None

-- the next free container is opened, if more than spare are free
abbrev pub opening : Contents → ℕ → ℕ → Option Choice
opening cs last spare = cond (nat_le (free_count cs) spare) None (option_map Opens (next_free cs last))

-- the open container if that takes the record, else the next free one
abbrev pub chosen : Contents → Filling → ℕ → ℕ → Option Choice
chosen cs f spare len = option_or (staying cs f.current len) (opening cs f.last spare)

-- a container that is there and takes a record of len payload bytes
pub record Space (cs : Contents) (c len : ℕ) : Type 0 where
  pub here : c < length cs
  pub count : length (records_of cs c) < 63
  pub bytes : payload_bytes (records_of cs c) + len ≤ 7168

-- the open container, if any, does not take it
abbrev pub Full : Contents → Option ℕ → ℕ → Type 0
Full cs o len = (c : ℕ) → o ≡ Some c → Space cs c len → ⊥

-- c is the open container, and takes the record
pub record Stayed (cs : Contents) (o : Option ℕ) (len c : ℕ) : Type 0 where
  pub opened : o ≡ Some c
  pub space : Space cs c len

-- c is opened: more than spare are free, and c is the first of them on the way round
pub record Opened (cs : Contents) (f : Filling) (spare len c : ℕ) : Type 0 where
  pub full : Full cs f.current len
  pub many : spare < free_count cs
  pub free : Free cs c
  pub first : (k : ℕ) → Before f.last k c → Free cs k → ⊥

-- nothing takes the record: at most spare are free, so none may be opened
pub record Nowhere (cs : Contents) (o : Option ℕ) (spare len : ℕ) : Type 0 where
  pub full : Full cs o len
  pub few : free_count cs ≤ spare

-- what a choice says of the containers
abbrev pub Rule : Contents → Filling → ℕ → ℕ → Option Choice → Type 0
Rule cs f spare len None = Nowhere cs f.current spare len
Rule cs f spare len (Some (Stays c)) = Stayed cs f.current len c
Rule cs f spare len (Some (Opens c)) = Opened cs f spare len c
