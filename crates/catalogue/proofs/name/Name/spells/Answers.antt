use Rattle.std.proofs.Common.{◌≡◌, ap, ◌∙◌, rules}
use Rattle.keys.specs.Octets.{same_bytes}
use Rattle.catalogue.proofs.name.Name.spells.Goals as goal

pub returns : goal.returns
returns c =
    let e : c.eq.result ≡ same_bytes c.as_bytes.result.now c.args.bytes.now = search rules in
    e ∙ ap (λ xs. same_bytes xs c.args.bytes.now) (c.as_bytes.ensures.value ∙ c.as_str.ensures.value)
