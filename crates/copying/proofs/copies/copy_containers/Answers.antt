use Rattle.std.proofs.Common.{sym, ap, ◌∙◌, arith}
use Rattle.devices.specs.Questions.{records_of}
use Rattle.copying.specs.Copies.{with_more}
use Rattle.copying.proofs.Stacking.{stacked_none, stacked_one}
use Rattle.copying.proofs.copies.copy_containers.Goals as goal

pub loop-container-init : goal.loop-container-init
loop-container-init g c = sym (stacked_none (g.Y.Device.contents c.args.to.now))

pub loop-container-preserved : goal.loop-container-preserved
loop-container-preserved g c =
    let cs = g.X.Device.contents c.args.from.now in
    let ds = g.Y.Device.contents c.args.to.now in
    let k = c.loop-container.container in
    c.in_ok-copy_container.ensures ∙ ap (λ xs. with_more xs k (records_of cs k)) c.loop-container.invariant ∙ stacked_one ds cs k (let n = c.count-container-end.ensures in let t = c.loop-container-test.true in omega arith)
