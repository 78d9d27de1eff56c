use Rattle.std.proofs.Common.{refl}
use Rattle.tape.proofs.Tapes.{logged_seen, swept, refill}
use Rattle.tape.proofs.device.TapeDevice.erase.Goals as goal

pub sweep-left-requires : goal.sweep-left-requires
sweep-left-requires g c =
    logged_seen _ _ _ _ _ _ _ c.args.self.now.good refl c.deref_mut.ensures.value

pub invariant_of-self : goal.invariant_of-self
invariant_of-self g c =
    let t = c.args.self.now in
    let kept = c.sweep-left.auto.bytes in
    let s = c.sweep-left.ensures in
    let done = swept g.F.Key.WIDE _ _ _ _ c.args.container _ _ _ _ _ _ t.good c.deref_mut.ensures.value kept (refill t.bytes _ _ c.deref_mut.ensures.value kept) (record { entries = s.entries; size = s.used; after = s.after }) in
    record { good = ∣ done.0 ∣₁ }

pub returns-clause-after : goal.returns-clause-after
returns-clause-after g c =
    let t = c.args.self.now in
    let kept = c.sweep-left.auto.bytes in
    let s = c.sweep-left.ensures in
    (swept g.F.Key.WIDE _ _ _ _ c.args.container _ _ _ _ _ _ t.good c.deref_mut.ensures.value kept (refill t.bytes _ _ c.deref_mut.ensures.value kept) (record { entries = s.entries; size = s.used; after = s.after })).1
