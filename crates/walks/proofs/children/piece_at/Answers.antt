use Rattle.std.proofs.Common.{◌≡◌, ◌+◌, ◌*◌, ◌<◌, length, drop, sym, ◌∙◌, ap, arith}
use Rattle.std.proofs.lemmas.List.{take_rest}
use Rattle.walks.proofs.Told.{piece_none, piece_read}
use Rattle.walks.proofs.children.piece_at.Goals as goal

pub returns-in_err-start : goal.returns-in_err-start
returns-in_err-start g c =
    let e = c.WIDE.ensures in
    let h : c.args.index * c.WIDE.result < 18446744073709551616 → ⊥ = c.in_err-start.ensures in
    let past : length c.args.payload.now < c.args.index * g.F.Key.WIDE + g.F.Key.WIDE = rw (sym e) (omega arith) in
    c.from_residual.ensures ∙ piece_none g.F.Key.key g.F.Key.WIDE g.met.F.Fingerprint.some c.args.payload.now c.args.index past

pub returns-in_err-get : goal.returns-in_err-get
returns-in_err-get g c =
    let e = c.WIDE.ensures in
    let l = c.in_err-get.ensures.lookup in
    let past : length c.args.payload.now < c.args.index * g.F.Key.WIDE + g.F.Key.WIDE = rw (sym e) (omega (arith, c.in_ok-start.ensures)) in
    c.from_residual-in_err-get.ensures ∙ piece_none g.F.Key.key g.F.Key.WIDE g.met.F.Fingerprint.some c.args.payload.now c.args.index past

pub returns : goal.returns
returns g c =
    let e = c.WIDE.ensures in
    let l = c.in_ok-get.ensures.lookup in
    let start : c.in_ok-start.start ≡ c.args.index * g.F.Key.WIDE = c.in_ok-start.ensures.1 ∙ ap (λ n. c.args.index * n) e in
    piece_read g.F.Key.key g.F.Key.WIDE g.met.F.Fingerprint.some c.args.payload.now c.args.index c.in_ok-get.field-0.now
    (l.0.2 ∙ take_rest c.args.payload.now c.in_ok-start.start ∙ ap (λ n. drop n c.args.payload.now) start) (omega arith) c.read.result c.read.ensures
