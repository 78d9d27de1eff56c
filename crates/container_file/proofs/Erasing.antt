-- A container of zero bytes is free.
use Rattle.std.proofs.Common.{◌≡◌, ℕ, ◌+◌, ◌*◌, ◌<◌, List, [], ◌++◌, length, get_or, set, replicate, sym, ap, ◌∙◌, subst, arith}
use Rattle.std.proofs.lemmas.List.{replicate-append-replicate}
use Rattle.records.specs.Limits.{Stored}
use Rattle.container_format.specs.Layout.{container_size, container_bytes}
use Rattle.container_format.specs.Reading.{read_file}
use Rattle.container_format.specs.Checking.{Intact}
use Rattle.container_format.specs.Writing.{written}
use Rattle.container_format.proofs.Round.{length_container}
use Rattle.container_format.proofs.Files.{around}
use Rattle.container_file.proofs.Appending.{written_at}

pub stored_none : (w : ℕ) → Stored w []
stored_none w = record { fits = record { count = omega arith; bytes = omega arith }; each = tt }

-- 4 bytes for two numbers, 12 that are always zero, the entries, the body
pub zero_container : (w : ℕ) → container_bytes w [] ≡ replicate (container_size w) 0
unfolding container_bytes
zero_container w =
    ap (λ y. replicate 16 0 ++ y) (replicate-append-replicate (63 * (w + 8)) 7168 0)
    ∙ replicate-append-replicate 16 (63 * (w + 8) + 7168) 0
    ∙ (let e : 16 + (63 * (w + 8) + 7168) ≡ container_size w = omega arith in ap (λ n. replicate n 0) e)

pub intact_erase : (w n c base size : ℕ) (bs after : List ℕ) → Intact w n bs → c < n → base ≡ c * container_size w → size ≡ container_size w → after ≡ written base (replicate size 0) bs → Intact w n after × (read_file w n after ≡ set (read_file w n bs) c [])
intact_erase w n c base size bs after g h b z is =
    let a = around w n c bs g h in
    let rs = get_or (read_file w n bs) c [] in
    let zeros = zero_container w in
    let l : length (container_bytes w rs) ≡ length (container_bytes w []) = length_container w rs a.stored ∙ sym (length_container w [] (stored_none w)) in
    let x : after ≡ a.before ++ (container_bytes w [] ++ a.behind) =
    is ∙ (λ i. written (b i) ((ap (λ k. replicate k 0) z ∙ sym zeros) i) (a.is i)) ∙ written_at (c * container_size w) a.before (container_bytes w rs) a.behind (container_bytes w []) a.at l
    in
    let P : List ℕ → Type 0 = λ y. Intact w n y × (read_file w n y ≡ set (read_file w n bs) c []) in
    subst P (sym x) (a.other [] (stored_none w))
