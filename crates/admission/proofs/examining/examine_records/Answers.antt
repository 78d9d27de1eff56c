use Rattle.std.proofs.Common.{◌<◌, length, sym, ◌∙◌, arith}
use Rattle.admission.proofs.Searching.{none_refused, from_more}
use Rattle.admission.proofs.examining.examine_records.Goals as goal

pub loop-container-preserved : goal.loop-container-preserved
loop-container-preserved g c = λ judge judges.
    let cs = g.D.Device.contents c.args.device.now in
    let k = c.loop-container.container in
    let inside : k < length cs = (let n = c.count-container-end.ensures in let t = c.loop-container-test.true in omega arith) in
    sym (from_more judge k cs inside (none_refused _ (c.in_ok-examine_container.ensures judge judges))) ∙ c.loop-container.invariant judge judges
