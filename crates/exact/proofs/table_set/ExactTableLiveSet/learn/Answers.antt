use Rattle.std.proofs.Common.{arith}
use Rattle.std.proofs.lemmas.Grind.{common_steps}
use Rattle.exact.proofs.Steps.{learned, learned_alone}
use Rattle.exact.proofs.table_set.ExactTableLiveSet.learn.Goals as goal

pub returns-clause-effect : goal.returns-clause-effect
returns-clause-effect g c =
    let i = c.learn.ensures in
    learned g.K.Key.bytes _ _ c.args.key c.insert.result _ _ c.deref_mut.ensures.value (grind (arith, common_steps)) c.insert.ensures.meaning c.learn.result c.if-not-learn.false i.answer i.count i.capacity i.sealed

pub returns-clause-own : goal.returns-clause-own
returns-clause-own g c =
    learned_alone g.K.Key.bytes _ _ c.args.key c.insert.result _ _ c.deref_mut.ensures.value (grind (arith, common_steps)) c.insert.ensures.meaning c.learn.result c.if-not-learn.false c.learn.ensures.answer
