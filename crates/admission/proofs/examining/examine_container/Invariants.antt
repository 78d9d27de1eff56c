use Rattle.std.proofs.Common.{◌≡◌, drop, Option}
use Rattle.records.specs.Records.{Rec}
use Rattle.records.specs.declared.refusal.Cause.{Cause}
use Rattle.records.specs.declared.refusal.Place.{Place}
use Rattle.devices.specs.Questions.{records_of}
use Rattle.admission.specs.Admission.{Judges, refused_among}
use Rattle.admission.proofs.examining.examine_container.Given as goal

-- from this index on the search finds what it finds from the first
abbrev pub invariant-loop-index : goal.invariant-loop-index
invariant-loop-index g l =
    let cs = g.D.Device.contents l.device in
    let rs = records_of cs l.container in
    (judge : Place → Rec → Option Cause) → Judges judge cs (goal.F-post g l.test) → refused_among judge l.container l.index (drop l.index rs) ≡ refused_among judge l.container 0 rs
