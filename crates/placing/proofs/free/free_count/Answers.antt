use Rattle.std.proofs.Common.{ℕ, Bool, count_by, ap, ◌∙◌, arith, rules}
use Rattle.std.specs.List.{range_with_len}
use Rattle.std.proofs.lemmas.Iterator.{YieldsList-from_range}
use Rattle.std.proofs.lemmas.Iterator.Consumers.{YieldsList-from_filter, count_from_yields_List}
use Rattle.std.proofs.lemmas.List.Sums.{length-filter}
use Rattle.devices.specs.Questions.{is_free}
use Rattle.placing.proofs.Counts.{counted_by_number}
use Rattle.placing.proofs.free.free_count.Goals as goal
use borrow.Author.Tests.{tests}

pub returns : goal.returns
returns g c =
    let cs = g.D.Device.contents c.args.device.now in
    let free : ℕ → Bool = is_free cs in
    let n = c.count.result in
    count_from_yields_List c.filter.result _ c.count-2.ensures.ran (YieldsList-from_filter _ free (YieldsList-from_range 0 n n (cc) (omega arith)) c.filter.ensures.closure (λ x b q k. search (rules, tests)))
    ∙ length-filter free (range_with_len 0 n)
    ∙ ap (λ k. count_by free (range_with_len 0 k)) c.count.ensures
    ∙ counted_by_number cs
