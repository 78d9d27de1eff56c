use Rattle.keys.specs.Little.{equal_keys}
use Rattle.exact.proofs.Remembering.{mark_none, mark_turn, mark_end}
use Rattle.exact.proofs.remember.mark_all.Goals as goal

pub loop-key-init : goal.loop-key-init
loop-key-init g c = mark_none g.K.Key.bytes _ _ _ c.seal.ensures.effect c.seal.ensures.own

pub loop-key-preserved : goal.loop-key-preserved
loop-key-preserved g c =
    let k = g.K.Key in
    let inj = equal_keys k.bytes k.key g.met.K.Key.back in
    mark_turn k.bytes inj _ _ _ _ _ _ c.loop-key-test.true c.key-item.is c.mark.ensures.effect c.mark.ensures.own c.loop-key.invariant

pub returns : goal.returns
returns g c = mark_end g.K.Key.bytes _ _ _ _ _ c.seal.ensures.effect c.seal.ensures.own c.loop-key-test.false c.loop-key.invariant
