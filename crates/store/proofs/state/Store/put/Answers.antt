use Rattle.std.proofs.Common.{true, false, [], ◌∷◌, Err, sym, refl, ap}
use Rattle.records.specs.Records.{rec_of}
use Rattle.records.specs.Refusals.{untold}
use Rattle.presence.specs.Presences.{presence_of}
use Rattle.presence.specs.declared.present.Presence.TheVariants.{Absent, Same, Other}
use Rattle.store.specs.Model.{model}
use Rattle.store.specs.Refusing.{shut, busy}
use Rattle.store.proofs.NewRecords.{put_told, put_left}
use Rattle.store.proofs.Testing.{stopped_change}
use Rattle.store.proofs.state.Store.put.Goals as goal

pub returns-in_err-check_idle-clause-after : goal.returns-in_err-check_idle-clause-after
returns-in_err-check_idle-clause-after g c =
    let s = model g.D.Device g.D.Kind.Key.bytes c.args.self.now in
    stopped_change untold (shut s ∷ busy s ∷ []) tt c.in_err-check_idle.field-0.0 s _ c.in_err-check_idle.ensures

pub returns-then-not-fits : goal.returns-then-not-fits
returns-then-not-fits g c =
    let s = model g.D.Device g.D.Kind.Key.bytes c.args.self.now in
    let r = rec_of g.D.Kind.Key.bytes c.args.added in
    let idle = c.in_ok-check_idle.ensures in
    record {
      answer = put_told s c.args.fits r idle false (presence_of s.contents r) (sym c.if-not-fits.true) refl c.args.added.fingerprint _ (ap Err c.from.ensures);
      after = put_left s c.args.fits r idle false (presence_of s.contents r) (sym c.if-not-fits.true) refl _ refl;
    }

pub returns-in-Absent : goal.returns-in-Absent
returns-in-Absent g c =
    let s = model g.D.Device g.D.Kind.Key.bytes c.args.self.now in
    let r = rec_of g.D.Kind.Key.bytes c.args.added in
    let idle = c.in_ok-check_idle.ensures in
    record {
      answer = put_told s c.args.fits r idle true Absent (sym c.if-not-fits.false) c.in-Absent.ensures c.args.added.fingerprint _ c.put_new.ensures.answer;
      after = put_left s c.args.fits r idle true Absent (sym c.if-not-fits.false) c.in-Absent.ensures _ c.put_new.ensures.after;
    }

pub returns-in-Same : goal.returns-in-Same
returns-in-Same g c =
    let s = model g.D.Device g.D.Kind.Key.bytes c.args.self.now in
    let r = rec_of g.D.Kind.Key.bytes c.args.added in
    let idle = c.in_ok-check_idle.ensures in
    record {
      answer = put_told s c.args.fits r idle true Same (sym c.if-not-fits.false) c.in-Same.ensures c.args.added.fingerprint _ refl;
      after = put_left s c.args.fits r idle true Same (sym c.if-not-fits.false) c.in-Same.ensures _ refl;
    }

pub returns-in-Other : goal.returns-in-Other
returns-in-Other g c =
    let s = model g.D.Device g.D.Kind.Key.bytes c.args.self.now in
    let r = rec_of g.D.Kind.Key.bytes c.args.added in
    let idle = c.in_ok-check_idle.ensures in
    record {
      answer = put_told s c.args.fits r idle true Other (sym c.if-not-fits.false) c.in-Other.ensures c.args.added.fingerprint _ (ap Err c.from-in-Other.ensures);
      after = put_left s c.args.fits r idle true Other (sym c.if-not-fits.false) c.in-Other.ensures _ refl;
    }
