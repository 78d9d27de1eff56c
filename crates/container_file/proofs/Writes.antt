-- The four writes of the code are the three that append a record.
use Rattle.std.proofs.Common.{◌≡◌, ℕ, ◌+◌, ◌*◌, ◌<◌, ◌≤◌, List, [], ◌∷◌, ◌++◌, length, get_or, set, sym, refl, ap, ◌∙◌, subst, arith}
use Rattle.keys.specs.Octets.{little}
use Rattle.records.specs.Limits.{Storable}
use Rattle.records.specs.Records.{Rec}
use Rattle.container_format.specs.Layout.{payloads, entry, body_at, container_size}
use Rattle.container_format.specs.Reading.{read_file}
use Rattle.container_format.specs.Checking.{Intact}
use Rattle.container_format.specs.Writing.{written}
use Rattle.container_format.proofs.Files.{intact_space, row_all}
use Rattle.container_file.proofs.Appending.{intact_append, written_twice, length-written}

-- what the code knows before it writes a record
pub record Known (w n c base at count used : ℕ) (bs : List ℕ) (r : Rec) (tail head : List ℕ) : Type 0 where
  pub good : Intact w n bs
  pub here : c < n
  pub based : base ≡ c * container_size w
  pub counted : count ≡ length (get_or (read_file w n bs) c [])
  pub summed : used ≡ length (payloads (get_or (read_file w n bs) c []))
  pub one : count < 63
  pub space : used + length r.payload ≤ 7168
  pub new : Storable w r
  pub placed : at ≡ base + (16 + count * (w + 8))
  pub tailed : tail ≡ r.level ∷ 0 ∷ (little 2 (length r.payload) ++ little 4 used)
  pub headed : head ≡ little 2 (count + 1) ++ little 2 (used + length r.payload)

-- the payload, the fingerprint, the rest of the entry and the header, written one after the other, append a record
pub intact_four : (w n c base at count used : ℕ) (bs : List ℕ) (r : Rec) (tail head : List ℕ) → Known w n c base at count used bs r tail head →
    (b1 b2 b3 b4 : List ℕ) → b1 ≡ written (base + (body_at w + used)) r.payload bs → b2 ≡ written at r.fingerprint b1 → b3 ≡ written (at + w) tail b2 → b4 ≡ written base head b3 →
    Intact w n b4 × (read_file w n b4 ≡ set (read_file w n bs) c (get_or (read_file w n bs) c [] ++ r ∷ []))
intact_four w n c base at count used bs r tail head h b1 b2 b3 b4 w1 w2 w3 w4 =
    let rs = get_or (read_file w n bs) c [] in
    let name = r.fingerprint in
    let pay = r.payload in
    let new = h.new in
    let wide = new.typed.wide in
    let u = length (payloads rs) in
    let eu = h.summed in
    let ek = h.counted in
    let eb = h.based in
    let k1 = h.one in
    let space = h.space in
    let gr = intact_space w n c bs h.good h.here in
    let br : base + container_size w ≤ length bs = (let P : ℕ → Type 0 = λ x. x + container_size w ≤ length bs in subst P (sym eb) gr) in
    let rows = row_all count (w + 8) k1 in
    let pl = h.placed in
    let l1 : length b1 ≡ length bs = ap length w1 ∙ length-written (base + (body_at w + used)) pay bs (omega arith) in
    let lt : length tail ≡ 8 = ap length h.tailed in
    let e2 : at + w ≡ at + length name = ap (λ x. at + x) (sym wide) in
    let two : b3 ≡ written at (name ++ tail) b1 = w3 ∙ ap (written (at + w) tail) w2 ∙ written_twice at (at + w) name tail b1 e2 (omega arith) in
    let ent : name ++ tail ≡ entry u r = ap (λ y. name ++ y) (h.tailed ∙ ap (λ x. r.level ∷ 0 ∷ (little 2 (length pay) ++ little 4 x)) eu) in
    let hd : head ≡ little 2 (length rs + 1) ++ little 2 (u + length pay) = h.headed ∙ (λ i. little 2 (ek i + 1) ++ little 2 (eu i + length pay)) in
    let a1 : base + (body_at w + used) ≡ c * container_size w + (body_at w + u) = (λ i. eb i + (body_at w + eu i)) in
    let a2 : at ≡ c * container_size w + (16 + length rs * (w + 8)) = pl ∙ (λ i. eb i + (16 + ek i * (w + 8))) in
    let P : ℕ → Type 0 = λ x. x < 63 in
    let Q : ℕ → Type 0 = λ x. x + length pay ≤ 7168 in
    intact_append w n c _ _ bs b1 b3 b4 pay (name ++ tail) head r h.good h.here new (subst P ek k1) (subst Q eu space) a1 a2 refl ent hd w1 two (w4 ∙ ap (λ x. written x head b3) eb)
