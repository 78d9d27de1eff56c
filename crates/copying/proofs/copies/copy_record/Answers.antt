use Rattle.std.proofs.Common.{◌≡◌, ℕ, cond, ◌++◌, length, take, drop, replicate, is_ok, refl, ap, ◌∙◌, arith}
use Rattle.std.proofs.lemmas.List.{take_at}
use Rattle.records.specs.Records.{Rec}
use Rattle.devices.proofs.Asking.{same_ok, payload_told, name_told}
use Rattle.devices.proofs.Holding.{answer_there}
use Rattle.devices.specs.Changes.{append_answer, append_after}
use Rattle.devices.specs.Questions.{record_at}
use Rattle.copying.proofs.copies.copy_record.Goals as goal

pub returns-in_err-len : goal.returns-in_err-len
returns-in_err-len g c =
    let cs = g.X.Device.contents c.args.from.now in
    let told = payload_told g.X.Kind.Key.WIDE cs c.args.place (g.met.X.Device.held c.args.from.now) c.requires in
    let here = c.in_err-len.ensures.answer in
    absurd (let z : ◌≡◌ {A = ℕ} 0 1 = cc in omega arith)

pub returns : goal.returns
returns g c =
    let w = g.X.Kind.Key.WIDE in
    let cs = g.X.Device.contents c.args.from.now in
    let ds = g.Y.Device.contents c.args.to.now in
    let p = c.args.place in
    let r = record_at cs p in
    let held = g.met.X.Device.held c.args.from.now in
    let level : c.in_ok-level.level ≡ r.level = same_ok _ _ _ c.in_ok-level.ensures (answer_there (λ x. x.level) cs p c.requires) in
    let name : g.X.Kind.Key.bytes c.in_ok-fingerprint.fingerprint ≡ r.fingerprint = name_told g.X.Kind.Key.bytes g.X.Kind.Key.key w g.met.X.Kind.Key.any cs p held c.requires c.in_ok-fingerprint.fingerprint c.in_ok-fingerprint.ensures in
    let told = payload_told w cs p held c.requires in
    let len : c.in_ok-len.len ≡ length r.payload = same_ok _ _ _ c.in_ok-len.ensures.answer told in
    let filled : c.payload.new.to ≡ r.payload ++ drop (length r.payload) (replicate 7168 0) =
    c.payload.ensures.buffer ∙ ap (λ a. cond (is_ok a) (r.payload ++ drop (length r.payload) (replicate 7168 0)) (replicate 7168 0)) told
    in
    let payload : take c.in_ok-len.len c.payload.new.to ≡ r.payload = (λ i. take (len i) (filled i)) ∙ take_at r.payload _ _ refl in
    let same : ◌≡◌ {A = Rec} (record { level = c.in_ok-level.level; fingerprint = g.X.Kind.Key.bytes c.in_ok-fingerprint.fingerprint; payload = take c.in_ok-len.len c.payload.new.to }) r =
    λ i. record { level = level i; fingerprint = name i; payload = payload i }
    in
    record { answer = c.append.ensures.answer ∙ ap (append_answer ds p.container) same; after = c.append.ensures.after ∙ ap (append_after ds p.container) same }
