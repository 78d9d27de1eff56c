use Rattle.std.proofs.Common.{◌/◌, ◌<◌, length, arith}
use Rattle.std.proofs.ByRecursion.{All-from_get_or}
use Rattle.keys.specs.Octets.{Bytes}
use Rattle.container_format.proofs.One.{one_file}
use Rattle.container_format.proofs.Whole.{is_file, no_count, size_refused, layout_refused}
use Rattle.container_format.proofs.acceptance.check.Goals as goal

pub returns-then-not-has_length : goal.returns-then-not-has_length
returns-then-not-has_length g c =
    let w = g.F.Key.WIDE in
    let bs = c.args.bytes.now in
    record {
      answer = size_refused w bs c.from.result c.from.ensures (no_count w c.container_size.result (length bs) c.container_size.ensures (λ count. c.if-not-has_length.ensures.no count));
      one = one_file w;
    }

pub returns-then-not-containers_in_order : goal.returns-then-not-containers_in_order
returns-then-not-containers_in_order g c =
    let w = g.F.Key.WIDE in
    let bs = c.args.bytes.now in
    record {
      answer = layout_refused w (length bs / c.container_size.result) bs c.from-then-not-containers_in_order.result c.from-then-not-containers_in_order.ensures (c.if-not-has_length.ensures.yes tt) c.if-not-containers_in_order.ensures.no;
      one = one_file w;
    }

pub returns : goal.returns
returns g c =
    let w = g.F.Key.WIDE in
    let bs = c.args.bytes.now in
    let b : Bytes bs = All-from_get_or (λ x. x < 256) bs 0 (λ i h. let f = c.type_inv.bytes i in omega arith) in
    record {
      answer = is_file w (length bs / c.container_size.result) bs b (c.if-not-has_length.ensures.yes tt) (c.if-not-containers_in_order.ensures.yes tt);
      one = one_file w;
    }
