-- What an idle store answers and keeps, by the shape of a record and by what is stored of it.
use Rattle.std.proofs.Common.{◌≡◌, Bool, cond, not, ◌&&◌, [], ◌∷◌, Ok, Err, Result, is_none, ◌∙◌}
use Rattle.records.specs.Records.{Rec}
use Rattle.records.specs.Refusals.{untold}
use Rattle.records.specs.declared.refusal.Cause.TheVariants.{Shape, Collision, StoreFull}
use Rattle.records.specs.declared.refusal.Refusal.{Refusal}
use Rattle.presence.specs.Presences.{presence_of}
use Rattle.presence.specs.declared.present.Presence.{Presence}
use Rattle.store.specs.States.{State}
use Rattle.store.specs.Refusing.{tested, shut, busy}
use Rattle.store.specs.Putting.{is_absent, is_other, put_choice, settled_by, put_answer, after_put}
use Rattle.store.specs.declared.tokens.Stored.{Stored}
use Rattle.store.proofs.Testing.{passed, passed_change}

module _ (s : State) (fits : Bool) (r : Rec) (idle : Ok tt ≡ tested (shut s ∷ busy s ∷ [])) where
  abbrev pub answer_by : {F : Type 0} → F → Bool → Presence → Result (Stored F) Refusal
  answer_by fingerprint b p =
      cond (not b) (Err (untold Shape)) (cond (is_other p) (Err (untold Collision)) (cond (is_absent p && is_none (put_choice s r)) (Err (untold StoreFull))
      (Ok (record { fingerprint = fingerprint; is_new = is_absent p }))))

  abbrev pub after_by : Bool → Presence → State
  after_by b p =
      cond (not b) s (cond (is_other p) s (cond (is_absent p && is_none (put_choice s r)) s (cond (is_absent p) (settled_by s r) s)))

  module _ (b : Bool) (p : Presence) (f : b ≡ fits) (e : p ≡ presence_of s.contents r) where
    pub put_told : {F : Type 0} (fingerprint : F) (answer : Result (Stored F) Refusal) → answer ≡ answer_by fingerprint b p → answer ≡ put_answer s fits r fingerprint
    put_told fingerprint answer a =
        a ∙ (λ i. answer_by fingerprint (f i) (e i)) ∙ passed untold (shut s ∷ busy s ∷ []) tt tt (answer_by fingerprint fits (presence_of s.contents r)) idle

    pub put_left : (t : State) → t ≡ after_by b p → t ≡ after_put s fits r
    put_left t a =
        a ∙ (λ i. after_by (f i) (e i)) ∙ passed_change untold (shut s ∷ busy s ∷ []) tt tt s (after_by fits (presence_of s.contents r)) idle
