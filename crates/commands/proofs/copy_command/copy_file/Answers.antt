use Rattle.std.proofs.Common.{◌≡◌, ℕ, [], length, replicate, sym, ap, ◌∙◌}
use Rattle.records.specs.Records.{Contents}
use Rattle.container_file.specs.Meaning.{contents_of}
use Rattle.tape.specs.Meaning.{held_by}
use Rattle.copying.specs.Copies.{stacked}
use Rattle.copying.proofs.Fresh.{stacked_free}
use Rattle.commands.proofs.copy_command.copy_file.Goals as goal

-- what was stacked on as many free containers is what was copied
onto_free : (cs ds es : Contents) (n : ℕ) → n ≡ length cs → ds ≡ replicate n [] → es ≡ stacked ds cs → es ≡ cs
onto_free cs ds es n l d e = e ∙ ap (λ x. stacked x cs) (d ∙ ap (λ k. replicate k []) l) ∙ stacked_free cs

pub returns : goal.returns
returns g c =
    let w = g.F.Key.WIDE in
    let cs = contents_of w c.args.file.now in
    let n = c.count-count.ensures in
    let tape : held_by w c.copy_all.new.to ≡ cs = onto_free cs _ _ _ n c.in_ok-between.ensures c.in_ok-copy_all.ensures.moved in
    onto_free (held_by w c.copy_all.new.to) _ _ _ (n ∙ ap length (sym tape)) c.in_ok-copy.ensures c.in_ok-copy_all-2.ensures.moved ∙ tape
