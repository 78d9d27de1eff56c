use Rattle.std.proofs.Common.{length, vec_items, sym, ap, ◌∙◌}
use Rattle.tape.specs.Log.{log_of}
use Rattle.tape.specs.Gathering.{length-gathered}
use Rattle.tape.specs.Holding.{held_same}
use Rattle.tape.proofs.tape.Tape.seen.Goals as goal

pub returns-then-self-WIDE : goal.returns-then-self-WIDE
returns-then-self-WIDE g c =
    let t = c.args.self.now in
    let bs = vec_items t.bytes in
    sym (ap length (held_same g.F.Key.WIDE t.width t.containers t.entries bs (c.if-self-WIDE.true ∙ c.WIDE.ensures)) ∙ length-gathered t.containers (log_of t.width t.entries bs))
