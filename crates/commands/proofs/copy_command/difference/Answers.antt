use Rattle.std.proofs.Common.{take, ap, ◌∙◌, sym, rules}
use Rattle.std.specs.List.{zip}
use Rattle.std.specs.Option.{unwrap_or}
use Rattle.std.proofs.lemmas.Slice.Zip.{length-zip}
use Rattle.commands.proofs.Differing.{differ, place_or_end, same_before}
use Rattle.commands.proofs.copy_command.difference.Goals as goal

pub returns : goal.returns
returns c =
    let xs = c.args.first.now in
    let ys = c.args.second.now in
    let end = c.min-shorter.result in
    let e = c.unwrap_or.ensures ∙ ap (λ o. unwrap_or o end) c.unequal_at.ensures ∙ place_or_end differ (zip xs ys) end (length-zip xs ys ∙ sym c.min-shorter.ensures) in
    (ap (λ n. take n xs) e ∙ same_before xs ys ∙ sym (ap (λ n. take n ys) e), search rules)
