-- A file of zero bytes has free containers, and a file's bytes are those of what it holds.
use Rattle.std.proofs.Common.{◌≡◌, ℕ, zero, suc, ◌+◌, ◌-◌, ◌*◌, ◌≤◌, List, [], ◌++◌, length, take, replicate, vec_items, sym, refl, ap, ◌∙◌, subst, suc-mul, add_comm, zero-mul, arith}
use Rattle.std.proofs.lemmas.List.{length-replicate, replicate-append-replicate, append-nil, drop_all, take_all}
use Rattle.std.specs.List.{AllByRecursion}
use Rattle.records.specs.Limits.{Stored, Limits}
use Rattle.records.specs.Records.{Rec}
use Rattle.container_format.specs.Layout.{container_size, file}
use Rattle.container_format.specs.Reading.{read_file}
use Rattle.container_format.specs.Checking.{Intact, Count}
use Rattle.container_format.specs.Writing.{written}
use Rattle.container_format.proofs.Files.{intact_made, reads_behind, length-read_file}
use Rattle.container_file.specs.Meaning.{contents_of}
use Rattle.container_file.specs.declared.file.ContainerFile.{ContainerFile}
use Rattle.container_file.proofs.Erasing.{zero_container, stored_none}
use Rattle.container_file.specs.Held.{held_here, held_same, intact}

free_stored : (w n : ℕ) → AllByRecursion (Stored w) (replicate n [])
free_stored w zero = tt
free_stored w (suc n) = (stored_none w, free_stored w n)

zero_file : (w n : ℕ) → file w (replicate n []) ≡ replicate (n * container_size w) 0
zero_file w zero = ap (λ k. replicate k 0) (sym (zero-mul (container_size w)))
zero_file w (suc n) =
    let S = container_size w in
    let e : S + n * S ≡ suc n * S = add_comm S (n * S) ∙ sym (suc-mul n S) in
    (λ i. zero_container w i ++ zero_file w n i) ∙ replicate-append-replicate S (n * S) 0 ∙ ap (λ k. replicate k 0) e

-- a write over all bytes leaves what was written
pub overwritten : (bs : List ℕ) → written 0 (replicate (length bs - 0) 0) bs ≡ replicate (length bs) 0
overwritten bs =
    let L = length bs in
    let z : L - 0 ≡ L = omega arith in
    let past : L ≤ 0 + length (replicate {A = ℕ} L 0) = (let t = length-replicate {A = ℕ} L 0 in omega arith) in
    ap (λ k. written 0 (replicate k 0) bs) z ∙ ap (λ y. replicate L 0 ++ y) (drop_all _ bs past) ∙ append-nil (replicate L 0)

pub record Laid (w n : ℕ) (bs after : List ℕ) : Type 0 where
  pub zeros : after ≡ replicate (length bs) 0
  pub intact : Intact w n after
  pub free : read_file w n after ≡ replicate n []

pub laid : (w n : ℕ) (bs after : List ℕ) → w ≤ 20 → Count w (length bs) n → after ≡ replicate (length bs) 0 → Laid w n bs after
laid w n bs after narrow count zeros =
    let free : List (List Rec) = replicate n [] in
    let same : file w free ++ [] ≡ after = append-nil (file w free) ∙ zero_file w n ∙ ap (λ k. replicate k 0) (sym count.length) ∙ sym zeros in
    let l : length free ≡ n = length-replicate {A = List Rec} n [] in
    record {
      zeros = zeros;
      intact = subst (Intact w n) same (intact_made w n free [] (free_stored w n) l count.few narrow (λ _. (count.some, refl)));
      free = ap (read_file w n) (sym same) ∙ ap (λ k. read_file w k (file w free ++ [])) (sym l) ∙ reads_behind w free [] (free_stored w n);
    }

-- the bytes of a file that holds containers are the file of what it holds
pub whole_bytes : {F : Type 0} (w : ℕ) (s : ContainerFile F) → 1 ≤ length (contents_of w s) → Limits w (contents_of w s) × (vec_items s.bytes ≡ file w (contents_of w s))
whole_bytes w s h =
    let here = held_here w s 0 (omega arith) in
    let bs = vec_items s.bytes in
    let good = subst (λ v. Intact v s.count bs) here.0 (intact w s) in
    let exact = good.exact here.1 in
    let same : contents_of w s ≡ read_file w s.count bs = held_same w s here.0 ∙ ap (λ v. read_file v s.count bs) here.0 in
    let l = length-read_file w s.count bs in
    let few = good.few in
    let all : take (s.count * container_size w) bs ≡ bs = take_all _ bs (let t = exact.1 in omega arith) in
    subst (λ cs. Limits w cs × (bs ≡ file w cs)) (sym same) (record { some = (let t = exact.0 in omega arith); few = omega arith; each = good.each }, sym all ∙ good.bytes)
