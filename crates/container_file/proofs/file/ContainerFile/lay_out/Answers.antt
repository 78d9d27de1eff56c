use Rattle.std.proofs.Common.{◌≡◌, ◌-◌, length, vec_items, replicate, ap, ◌∙◌, subst}
use Rattle.container_format.specs.Checking.{Count}
use Rattle.container_format.specs.Writing.{written}
use Rattle.container_file.proofs.Laying.{Laid, laid, overwritten}
use Rattle.container_file.proofs.file.ContainerFile.lay_out.Given as given
use Rattle.container_file.proofs.file.ContainerFile.lay_out.Goals as goal
use Rattle.container_file.proofs.file.ContainerFile.lay_out.Goals.{After-zero, at-returns}

counted : (g : given.Over) (c : goal.After-zero g) → Count g.F.Key.WIDE (length (vec_items c.args.bytes)) c.args.count
counted g c = subst (λ n. Count g.F.Key.WIDE n c.args.count) (c.len.ensures ∙ c.args.bytes.ok.0) (c.if-not-has_length.ensures.yes tt)

zeroed : (g : given.Over) (c : goal.After-zero g) → Laid g.F.Key.WIDE c.args.count (vec_items c.args.bytes) (vec_items c.zero.new.bytes)
zeroed g c =
    let bs = vec_items c.args.bytes in
    let l : c.len-end.result ≡ length bs = c.len-end.ensures ∙ c.args.bytes.ok.0 in
    laid g.F.Key.WIDE c.args.count bs (vec_items c.zero.new.bytes) g.met.F.Key.narrow (counted g c) (c.zero.ensures ∙ ap (λ k. written 0 (replicate (k - 0) 0) bs) l ∙ overwritten bs)

pub of-requires : goal.of-requires
of-requires g c = (zeroed g c).intact

pub returns : goal.returns
returns g c =
    let at = (goal.at-returns g c).After-zero in
    let z = zeroed g at in
    (counted g at, c.of.ensures.holds ∙ z.free, ap vec_items c.of.ensures.bytes ∙ z.zeros)
