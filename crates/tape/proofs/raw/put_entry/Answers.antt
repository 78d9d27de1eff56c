use Rattle.std.proofs.Common.{◌+◌, ap}
use Rattle.tape.proofs.Entries.{entry-written}
use Rattle.tape.proofs.raw.put_entry.Goals as goal

pub returns-clause-after : goal.returns-clause-after
returns-clause-after g c =
    entry-written g.F.Key.WIDE _ _ _ _ _ _ _ (g.met.F.Key.long c.args.added.fingerprint) (ap (λ w. w + 4) c.WIDE.ensures) c.requires.space c.put_head.ensures c.write.ensures.fits c.write.ensures.after c.put_front.ensures.after
