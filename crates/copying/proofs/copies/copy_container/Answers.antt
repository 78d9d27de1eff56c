use Rattle.std.proofs.Common.{arith}
use Rattle.devices.proofs.Asking.{same_ok, records_told}
use Rattle.devices.specs.Questions.{records_of}
use Rattle.copying.proofs.Stacking.{copied_one}
use Rattle.copying.proofs.copies.copy_container.Goals as goal

pub loop-index-preserved : goal.loop-index-preserved
loop-index-preserved g c =
    let cs = g.X.Device.contents c.args.from.now in
    let n = same_ok _ _ _ c.in_ok-records.ensures (records_told cs c.args.container c.requires) in
    copied_one (g.Y.Device.contents c.args.to.now) (g.Y.Device.contents c.loop-index.to) (g.Y.Device.contents c.copy_record.new.to) c.args.container c.loop-index.index (records_of cs c.args.container) c.loop-index.invariant (let t = c.loop-index-test.true in omega arith) c.in_ok-copy_record.ensures.answer c.copy_record.ensures.after
