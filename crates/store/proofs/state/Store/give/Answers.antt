use Rattle.std.proofs.Common.{length, ◌∙◌}
use Rattle.trees.specs.Holding.{standing}
use Rattle.trees.specs.Trees.{payload_of}
use Rattle.store.specs.Model.{model}
use Rattle.store.proofs.Giving.{stands_answer, stands-filled, given_strip, short_buffer}
use Rattle.store.proofs.state.Store.give.Goals as goal

pub returns-in-Ok : goal.returns-in-Ok
returns-in-Ok g c =
    let s = model g.D.Device g.D.Kind.Key.bytes c.args.self.now in
    let cs = g.D.Device.contents c.args.self.now.device in
    let x = c.args.place in
    let space = length c.args.buffer.now in
    let strip = payload_of (standing cs x) in
    let h = c.in-Ok.ensures in
    record {
      answer = given_strip g.D.Kind.Key.WIDE s c.args.token space strip c.in-Ok.len c.moved_on.result (h.answer ∙ stands_answer cs x c.requires space) c.moved_on.ensures;
      buffer = h.buffer ∙ stands-filled cs x c.requires c.args.buffer.now;
    }

pub returns-in-Err : goal.returns-in-Err
returns-in-Err g c =
    let s = model g.D.Device g.D.Kind.Key.bytes c.args.self.now in
    let cs = g.D.Device.contents c.args.self.now.device in
    let x = c.args.place in
    let space = length c.args.buffer.now in
    let strip = payload_of (standing cs x) in
    let h = c.in-Err.ensures in
    record {
      answer = short_buffer g.D.Kind.Key.WIDE s c.args.token space strip c.in-Err.refusal (h.answer ∙ stands_answer cs x c.requires space);
      buffer = h.buffer ∙ stands-filled cs x c.requires c.args.buffer.now;
    }
