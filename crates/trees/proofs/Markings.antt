-- Clears one after another under one marking.
use Rattle.std.proofs.Common.{◌≡◌, ℕ, ◌≤◌, Bool, true, List, [], map, get_or, refl, ◌∙◌}
use Rattle.records.specs.Records.{Rec, Contents}
use Rattle.trees.specs.Holding.{In, all, Single}
use Rattle.trees.specs.Trees.{Whole, text}
use Rattle.trees.specs.Clearing.{Cleared, ClearedBy}
use Rattle.trees.specs.Marking.{Meaning, Noted, Marked, Reached}
use Rattle.trees.proofs.Clears.{clear_marked}
use Rattle.trees.proofs.Marks.{chain_keeps, marked-reached}

module _ (w : ℕ) (vote : List ℕ → Bool) (roots : List (List ℕ)) (cs : Contents) where
  record Fine (s : Contents) : Type 0 where
    single : Single s
    whole : (root : List ℕ) → In root roots → Whole w s root
    same : (root : List ℕ) → In root roots → text w s root ≡ text w cs root
    votes : (p : List ℕ) → Reached w s roots p → vote p ≡ true

  fine : (a : Contents) (c : ℕ) (b : Contents) → Cleared a c (map (λ r. vote r.fingerprint) (get_or a c [])) b → Fine a → Fine b
  fine a c b h f =
      let s = clear_marked w vote a b c roots f.single f.whole f.votes h in
      record {
        single = s.0;
        whole = λ root i. (s.1 root i).0;
        same = λ root i. (s.1 root i).1 ∙ f.same root i;
        votes = s.2;
      }

  pub clears_keep : (order : List ℕ) (cs' : Contents) → Single cs → ((root : List ℕ) → In root roots → Whole w cs root) → ((p : List ℕ) → Reached w cs roots p → vote p ≡ true) → ClearedBy vote cs order cs' → (root : List ℕ) → In root roots → Whole w cs' root × (text w cs' root ≡ text w cs root)
  clears_keep order cs' single whole votes h root i =
      let f = chain_keeps (λ a c b. Cleared a c (map (λ r. vote r.fingerprint) (get_or a c [])) b) Fine order (λ a c b j. fine a c b) cs cs' h (record { single = single; whole = whole; same = λ x j. refl; votes = votes }) in
      (f.whole root i, f.same root i)

-- mark, then clear as one likes: the roots' texts stay
module _ {S : Type 0} (w : ℕ) (m : Meaning S) (roots : List (List ℕ)) (cs : Contents) where
  pub cleaning_keeps : Single cs → ((r : Rec) → In r (all cs) → r.level ≤ 6) → ((root : List ℕ) → In root roots → Whole w cs root) → (u after : S) → ((r : Rec) → In r (all cs) → m.covers u r.fingerprint ≡ true) → Marked w m.says (Noted m) cs roots u after → (order : List ℕ) (cs' : Contents) → ClearedBy (m.says after) cs order cs' → (root : List ℕ) → In root roots → Whole w cs' root × (text w cs' root ≡ text w cs root)
  cleaning_keeps single low whole u after cov h order cs' c =
      clears_keep w (m.says after) roots cs order cs' single whole (λ p g. marked-reached w m (Noted m) (λ a x b n. n) cs roots whole low u after h cov p g) c
