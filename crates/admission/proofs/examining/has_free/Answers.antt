use Rattle.std.proofs.Common.{ℕ, Bool, ap, ◌∙◌, arith, rules}
use Rattle.std.specs.List.{list_any, range_with_len}
use Rattle.std.proofs.lemmas.Iterator.{YieldsList-from_range}
use Rattle.std.proofs.lemmas.Iterator.Search.{any_from_yields_List}
use Rattle.devices.specs.Questions.{is_free}
use Rattle.admission.proofs.Searching.{some_free_by_number}
use Rattle.admission.proofs.examining.has_free.Goals as goal
use borrow.Author.Tests.{tests}

pub returns : goal.returns
returns g c =
    let cs = g.D.Device.contents c.args.device.now in
    let free : ℕ → Bool = is_free cs in
    let n = c.count.result in
    any_from_yields_List free _ _ c.any.result c.any.ensures.ran (YieldsList-from_range 0 n n (cc) (omega arith)) (λ x b q k. search (rules, tests))
    ∙ ap (λ k. list_any free (range_with_len 0 k)) c.count.ensures
    ∙ some_free_by_number cs
