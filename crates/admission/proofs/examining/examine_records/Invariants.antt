use Rattle.std.proofs.Common.{◌≡◌, drop, Option}
use Rattle.records.specs.Records.{Rec}
use Rattle.records.specs.declared.refusal.Cause.{Cause}
use Rattle.records.specs.declared.refusal.Place.{Place}
use Rattle.admission.specs.Admission.{Judges, refused_from}
use Rattle.admission.proofs.examining.examine_records.Given as goal

-- from this container on the search finds what it finds from the first
abbrev pub invariant-loop-container : goal.invariant-loop-container
invariant-loop-container g l =
    let cs = g.D.Device.contents l.device in
    (judge : Place → Rec → Option Cause) → Judges judge cs (goal.F-post g l.test) → refused_from judge l.container (drop l.container cs) ≡ refused_from judge 0 cs
