use Rattle.std.proofs.Common.{◌≡◌, ◌+◌, ◌*◌, ◌≤◌, drop}
use Rattle.catalogue.specs.Sheets.{kept_all, readings_out}
use Rattle.catalogue.proofs.upkeep.readings_in.Given as goal

-- what is counted, and what is left to count, are all; each entry adds at most 255
abbrev pub invariant-loop-entry : goal.invariant-loop-entry
invariant-loop-entry g l =
    (l.out + readings_out (kept_all g.F.Key.bytes (drop l.entry-index l.entries)) ≡ readings_out (kept_all g.F.Key.bytes l.entries))
    × (l.out ≤ 255 * l.entry-index)
