use Rattle.std.proofs.Common.{◌≡◌, ◌+◌, ◌≤◌, length, vec_items, ap, arith}
use Rattle.std.specs.Vec.{with_items}
use Rattle.records.specs.Limits.{Typed}
use Rattle.records.specs.Records.{rec_of}
use Rattle.devices.specs.Changes.{appended}
use Rattle.tape.specs.Log.{Entry}
use Rattle.tape.specs.Meaning.{held_at, held_by}
use Rattle.tape.specs.Sizes.{Good}
use Rattle.tape.proofs.Tapes.{push_small, push_space, push_few, pushed, refill}
use Rattle.tape.proofs.tape.Tape.push.Given as given
use Rattle.tape.proofs.tape.Tape.push.Goals as goal
use Rattle.tape.proofs.tape.Tape.push.Goals.{After-deref_mut, After-WIDE}

abbrev entry : (g : given.Over) → goal.After-deref_mut g → Entry
entry g c = record { container = c.args.container; stored = rec_of g.F.Key.bytes c.args.added }

space : (g : given.Over) (c : goal.After-deref_mut g) → c.args.self.now.used + (g.F.Key.WIDE + 4 + length c.args.added.payload.now) ≤ length (vec_items c.args.self.now.bytes)
space g c = push_space _ _ _ _ _ _ c.args.self.now.good (entry g c) c.requires.here c.requires.one c.requires.all

pub overflow_cast-container : goal.overflow_cast-container
overflow_cast-container g c = let small = push_small _ _ _ _ _ _ c.args.self.now.good (entry g c) c.requires.here c.requires.one c.requires.all in omega arith

pub add_entry-requires : goal.add_entry-requires
add_entry-requires g c =
    let r = space g c in
    let l = ap length c.deref_mut.ensures.value in
    record { space = omega arith; short = c.requires.short }

pub overflow_add-self : goal.overflow_add-self
overflow_add-self g c =
    let d = (goal.at.overflow_add-self g c).After-deref_mut in
    let t = c.args.self.now in
    let few = push_few _ _ _ _ _ _ t.good (entry g d) c.requires.here c.requires.one c.requires.all in
    let l = t.bytes.ok in
    let s = t.bytes.small in
    omega arith

pub overflow_add-self-4 : goal.overflow_add-self-4
overflow_add-self-4 g c =
    let r = space g (goal.at.invariant_of-self g c).After-deref_mut in
    let w = c.WIDE.ensures in
    let l = c.args.self.now.bytes.ok in
    let s = c.args.self.now.bytes.small in
    omega arith

done : (g : given.Over) (c : goal.After-WIDE g) → let t = c.args.self.now in let bs = vec_items (with_items t.bytes c.add_entry.new.bytes) in
    Good t.width t.containers (t.entries + 1) (t.used + (c.WIDE.result + 4 + length c.args.added.payload.now)) bs
    × (held_at g.F.Key.WIDE t.width t.containers (t.entries + 1) bs ≡ appended (held_by g.F.Key.WIDE t) c.args.container (entry g (goal.at.invariant_of-self g c).After-deref_mut).stored)
done g c =
    let d = (goal.at.invariant_of-self g c).After-deref_mut in
    let t = c.args.self.now in
    let kept = c.add_entry.auto.bytes in
    let typed : Typed g.F.Key.WIDE (rec_of g.F.Key.bytes c.args.added) = record { wide = g.met.F.Key.long c.args.added.fingerprint; fingerprint = g.met.F.Key.octets c.args.added.fingerprint; payload = c.add_entry.ensures.octets } in
    pushed _ _ _ _ _ _ t.good (entry g d) c.requires.here c.requires.one c.requires.all (record { typed = typed; few = c.requires.short }) _ _ _ _ (ap (λ w. t.used + (w + 4 + length c.args.added.payload.now)) c.WIDE.ensures) c.deref_mut.ensures.value kept (refill t.bytes _ _ c.deref_mut.ensures.value kept) c.add_entry.ensures.after

pub invariant_of-self : goal.invariant_of-self
invariant_of-self g c = record { good = ∣ (done g c).0 ∣₁ }

pub returns : goal.returns
returns g c = (done g (goal.at.returns g c).After-WIDE).1
