use Rattle.std.proofs.Common.{◌≡◌, ℕ, List, Ok, arith}
use Rattle.std.proofs.lemmas.Grind.{common_steps}
use Rattle.admission.specs.Admission.{admission_answer}
use Rattle.admission.proofs.Soundness.{admitted}
use Rattle.admission.proofs.examining.examine_device.Goals as goal

pub returns-clause-sound : goal.returns-clause-sound
returns-clause-sound g c =
    let w = g.D.Kind.Key.WIDE in
    let name : ℕ → List ℕ → List ℕ = λ l p. g.D.Kind.Key.bytes (g.D.Kind.Fingerprint.naming l p) in
    let cs = g.D.Device.contents c.args.device.now in
    let a : Ok tt ≡ admission_answer w name cs = grind (arith, common_steps) in
    λ _. admitted w name cs g.met.D.Kind.Fingerprint.some a
