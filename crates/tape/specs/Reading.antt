-- An entry that was read off a log.
use Rattle.std.specs.Prelude.{ℕ, List}
use Rattle.records.specs.Records.{rec_of}
use Rattle.tape.specs.Log as log
use Rattle.tape.specs.declared.entry.Entry.{Entry}

abbrev pub entry_by : {F : Type 0} → (F → List ℕ) → Entry F → log.Entry
entry_by bytes e = record { container = e.container; stored = rec_of bytes e.stored }
