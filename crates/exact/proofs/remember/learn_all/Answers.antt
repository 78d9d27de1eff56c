use Rattle.exact.proofs.Remembering.{teach_none, teach_more, teach_all}
use Rattle.exact.proofs.remember.learn_all.Goals as goal

pub loop-key-init : goal.loop-key-init
loop-key-init g c = teach_none g.K.Key.bytes _ _ _ c.start.ensures.effect c.start.ensures.own

pub loop-key-preserved : goal.loop-key-preserved
loop-key-preserved g c =
    teach_more g.K.Key.bytes _ _ _ _ _ _ _ c.loop-key-test.true c.key-item.is c.learn.ensures.effect c.learn.ensures.own c.loop-key.invariant

pub returns : goal.returns
returns g c = teach_all g.K.Key.bytes _ _ _ _ _ c.start.ensures.effect.capacity c.loop-key-test.false c.loop-key.invariant
