-- Whether a record is stored already, or its fingerprint with another level or other bytes.
use Rattle.std.specs.Prelude.{ℕ, cond, ◌&&◌, List, Some, None, Option, ◌==◌}
use Rattle.keys.specs.Octets.{same_bytes}
use Rattle.records.specs.Records.{Rec, Contents}
use Rattle.trees.specs.Holding.{record_of}
use Rattle.presence.specs.declared.present.Presence.{Presence}
use Rattle.presence.specs.declared.present.Presence.TheVariants.{Absent, Same, Other}

-- what the record that there may be says of a level and a payload
abbrev pub present_as : ℕ → List ℕ → Option Rec → Presence
present_as level payload None = Absent
present_as level payload (Some x) = cond (x.level == level && same_bytes x.payload payload) Same Other

-- the first record of its fingerprint says it of a record
abbrev pub presence_of : Contents → Rec → Presence
presence_of cs r = present_as r.level r.payload (record_of cs r.fingerprint)
