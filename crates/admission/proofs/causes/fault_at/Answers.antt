use Rattle.std.proofs.Common.{◌≡◌, ℕ, ◌<◌, cond, List, ◌++◌, length, take, drop, replicate, is_ok, Ok, refl, sym, ap, ◌∙◌, arith}
use Rattle.std.proofs.lemmas.Grind.{common_steps}
use Rattle.std.proofs.lemmas.List.{take_at}
use Rattle.records.specs.Records.{Rec}
use Rattle.devices.proofs.Holding.{answer_there}
use Rattle.devices.specs.Questions.{records_of, record_at}
use Rattle.admission.specs.Causes.{fault_of}
use Rattle.devices.proofs.Asking.{payload_told, same_ok, name_told}
use Rattle.admission.proofs.causes.fault_at.Goals as goal

pub returns-in_err-len : goal.returns-in_err-len
returns-in_err-len g c =
    let cs = g.D.Device.contents c.args.device.now in
    let here : c.args.place.index < length (records_of cs c.args.place.container) = grind (arith, common_steps) in
    let told = payload_told g.D.Kind.Key.WIDE cs c.args.place (g.met.D.Device.held c.args.device.now) here in
    absurd (let e = c.in_err-len.ensures.answer ∙ told in grind arith)

pub returns : goal.returns
returns g c =
    let w = g.D.Kind.Key.WIDE in
    let cs = g.D.Device.contents c.args.device.now in
    let p = c.args.place in
    let r = record_at cs p in
    let held = g.met.D.Device.held c.args.device.now in
    let here : p.index < length (records_of cs p.container) = grind (arith, common_steps) in
    let level : c.in_ok-level.level ≡ r.level = same_ok _ _ _ c.in_ok-level.ensures (answer_there (λ x. x.level) cs p here) in
    let name : g.D.Kind.Key.bytes c.in_ok-fingerprint.fingerprint ≡ r.fingerprint = name_told g.D.Kind.Key.bytes g.D.Kind.Key.key w g.met.D.Kind.Key.any cs p held here _ c.in_ok-fingerprint.ensures in
    let told = payload_told w cs p held here in
    let len : c.in_ok-len.len ≡ length r.payload = same_ok _ _ _ c.in_ok-len.ensures.answer told in
    let filled : c.payload.new.to ≡ r.payload ++ drop (length r.payload) (replicate 7168 0) =
    c.payload.ensures.buffer ∙ ap (λ a. cond (is_ok a) (r.payload ++ drop (length r.payload) (replicate 7168 0)) (replicate 7168 0)) told
    in
    let payload : take c.in_ok-len.len c.payload.new.to ≡ r.payload = (λ i. take (len i) (filled i)) ∙ take_at r.payload _ _ refl in
    let same : ◌≡◌ {A = Rec} (record { level = c.in_ok-level.level; fingerprint = g.D.Kind.Key.bytes c.in_ok-fingerprint.fingerprint; payload = take c.in_ok-len.len c.payload.new.to }) r =
    λ i. record { level = level i; fingerprint = name i; payload = payload i }
    in
    let right : ℕ → List ℕ → List ℕ = λ l p. g.D.Kind.Key.bytes (g.D.Kind.Fingerprint.naming l p) in
    ap Ok (c.fault.ensures ∙ ap (fault_of w right) same) ∙ sym (answer_there (fault_of w right) cs p here)
