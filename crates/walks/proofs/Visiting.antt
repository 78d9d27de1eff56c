-- From what a device tells of a node to a step of an examination.
use Rattle.std.proofs.Common.{◌≡◌, ℕ, suc, ◌+◌, ◌-◌, ◌/◌, ◌<◌, ◌≤◌, Bool, true, false, cond, eqb, leb, List, [], ◌∷◌, ◌++◌, map, length, take, drop, is_some, IsErrAnd, Some, None, Ok, Err, Option, Result, MatchResult, sym, refl, ap, ap₂, ◌∙◌, subst, inl, inr, ⊎_elim, add-one, arith, length-append, append_assoc}
use Rattle.std.proofs.Math.Nat.{add-div_left, div-eq_of_lt}
use Rattle.std.proofs.Math.Seq.{drop-append_seam}
use Rattle.std.specs.Bool.{then_some}
use Rattle.std.specs.List.{flat_map, AllByRecursion}
use Rattle.std.proofs.lemmas.List.{take_at, take_all, take_more, append-nil, map-append}
use Rattle.std.proofs.lemmas.Grind.{flat_map-append}
use Rattle.std.proofs.lemmas.Bool.{le-leb, eq-eqb, eqb-true, both_ways}
use Rattle.keys.specs.Octets.{Bytes}
use Rattle.keys.specs.Little.{same_equal, equal_keys}
use Rattle.records.specs.Limits.{Typed}
use Rattle.records.specs.Records.{Rec, Contents, first_place}
use Rattle.records.specs.declared.refusal.Place.{Place}
use Rattle.records.specs.declared.refusal.Refusal.{Refusal}
use Rattle.devices.specs.Questions.{Held, records_of, of_record}
use Rattle.trees.specs.Holding.{In, all, record_of, standing}
use Rattle.trees.specs.Trees.{cut, pieces, Reaches, StoredUnder, StoredNode, stands, level_of, payload_of, Whole}
use Rattle.trees.specs.Trees.Reaches.{itself, onward}
use Rattle.slots.specs.Tables.{holds, filled, others_only, Sound}
use Rattle.slots.proofs.Walking.{filled_le}
use Rattle.trees.proofs.Finding.{first_in, in_left, in_right, in_either}
use Rattle.trees.proofs.Pieces.{cut_typed}
use Rattle.trees.proofs.Steps.{nth_take}
use Rattle.walks.specs.Findings.{Flawed, Passed, Tells}
use Rattle.walks.specs.Sweeps.{Admits, Admitted, Parent, Sweep}
use Rattle.walks.specs.declared.flaw.Flaw.{Flaw}
use Rattle.walks.specs.declared.flaw.Flaw.TheVariants.{NoRoot, Broken, TableFull}
use Rattle.walks.proofs.Grounds.{Ground}
use Rattle.walks.proofs.Told.{answer, answered, told, typed_at}
use Rattle.walks.proofs.Down.{record_there}
use Rattle.walks.proofs.Sweeping.{sweep_insert, admitted_insert, sweep_full, sweep_fault, sweep_less, sweep_done, sweep_down}

-- the place of a fingerprint that is stored at level n
abbrev place_at : Contents → List ℕ → ℕ → Option Place
place_at cs p n = cond (stands (record_of cs p) n) (first_place cs p) None

module _ (cs : Contents) (p : List ℕ) (n : ℕ) where
  -- a test is true of level n alone, and of no refusal
  abbrev pub LevelIs : Bool → Result ℕ Refusal → Type 0
  LevelIs b (Ok l) = b ≡ eqb l n
  LevelIs b (Err e) = b ≡ false

  pub level_is : (o : Result ℕ Refusal) (b : Bool) (Gives : ℕ → Type 0) → MatchResult o Gives (λ e. b ≡ false) → ((l : ℕ) → Gives l → b ≡ eqb l n) → LevelIs b o
  level_is (Ok l) b Gives h f = f l h
  level_is (Err e) b Gives h f = h

  -- the first place is left where its record is told to have the level
  pub place_told : (x : Place) → Some x ≡ first_place cs p → (b : Bool) (o : Result ℕ Refusal) → o ≡ of_record (λ r. r.level) cs x → LevelIs b o → then_some b x ≡ place_at cs p n
  place_told x e b o told is =
      let stood : b ≡ stands (record_of cs p) n = level (standing cs x) (subst (LevelIs b) (told ∙ answered cs x (λ r. r.level)) is) ∙ ap (λ o. stands o n) (record_there cs p (Some x) e) in
      keep b ∙ ap₂ (λ s o. cond s o None) stood e
    where
      level : (o : Option Rec) → LevelIs b (answer (λ r. r.level) o) → b ≡ stands o n
      level None h = h
      level (Some r) h = h

      keep : (b : Bool) → then_some b x ≡ cond b (Some x) None
      keep true = refl
      keep false = refl

  pub place_none : None ≡ first_place cs p → None ≡ place_at cs p n
  place_none e = ap (λ o. cond (stands o n) (first_place cs p) None) (record_there cs p None e)

  -- what such a place tells, and what none does
  pub found_there : (x : Place) → Some x ≡ place_at cs p n → (Some x ≡ first_place cs p) × ((r : Rec) × (record_of cs p ≡ Some r) × (r.level ≡ n))
  found_there x h = go (record_of cs p) refl h
    where
      go : (o : Option Rec) → record_of cs p ≡ o → Some x ≡ cond (stands o n) (first_place cs p) None → (Some x ≡ first_place cs p) × ((r : Rec) × (record_of cs p ≡ Some r) × (r.level ≡ n))
      go None s h = absurd (let z : ◌≡◌ {A = ℕ} 0 1 = cc in omega arith)
      go (Some r) s h =
          elim (eqb r.level n) as (λ b. eqb r.level n ≡ b → Some x ≡ cond b (first_place cs p) None → (Some x ≡ first_place cs p) × ((r : Rec) × (record_of cs p ≡ Some r) × (r.level ≡ n))) [
            | true ↦ λ t h. (h, (r, s, eqb-true r.level n t))
            | false ↦ λ t h. absurd (let z : ◌≡◌ {A = ℕ} 0 1 = cc in omega arith)
          ] refl h

  pub found_none : None ≡ place_at cs p n → (r : Rec) → record_of cs p ≡ Some r → r.level ≡ n → ⊥
  found_none h r s l =
      let stood : stands (record_of cs p) n ≡ true = ap (λ o. stands o n) s ∙ eq-eqb r.level n l in
      let none : None ≡ first_place cs p = h ∙ ap (λ b. cond b (first_place cs p) None) stood in
      let gone : None ≡ record_of cs p = record_there cs p None none in
      let z : ◌≡◌ {A = ℕ} 0 1 = cc in omega arith

-- the same, of a child at the level below n
module _ (cs : Contents) (q : List ℕ) (n : ℕ) (o : Option Place) (at : o ≡ place_at cs q (n - 1)) where
  pub child_under : 1 ≤ n → is_some o ≡ true → StoredUnder cs n q
  child_under pos some = go o refl
    where
      go : (p : Option Place) → o ≡ p → StoredUnder cs n q
      go None e = absurd (let z : ◌≡◌ {A = ℕ} 0 1 = cc in omega arith)
      go (Some x) e = let f = (found_there cs q (n - 1) x (sym e ∙ at)).1 in (f.0, f.1, omega (arith, f.2))

  pub child_lacks : is_some o ≡ false → StoredUnder cs n q → ⊥
  child_lacks none u = go o refl
    where
      go : (p : Option Place) → o ≡ p → ⊥
      go None e = found_none cs q (n - 1) (sym e ∙ at) u.0 u.1 (omega (arith, u.2))
      go (Some x) e = let z : ◌≡◌ {A = ℕ} 0 1 = cc in omega arith

-- every record of a device is typed, so what is reached from a key is a key's bytes
all_in : {X : Type 0} (P : X → Type 0) (xss : List (List X)) (x : X) → AllByRecursion (AllByRecursion P) xss → In x (flat_map (λ xs. xs) xss) → P x
all_in P [] x h i = elim i [ ]
all_in {X} P (xs ∷ xss) x h i = ⊎_elim (λ j. one xs h.0 j) (λ j. all_in P xss x h.1 j) (in_either x xs (flat_map (λ xs. xs) xss) i)
  where
    one : (ys : List X) → AllByRecursion P ys → In x ys → P x
    one [] h i = elim i [ ]
    one (y ∷ ys) h i = ⊎_elim (λ (e : x ≡ y). subst P (sym e) h.0) (λ j. one ys h.1 j) i

pub typed_record : (w : ℕ) (cs : Contents) → Held w cs → (p : List ℕ) (r : Rec) → record_of cs p ≡ Some r → Typed w r
typed_record w cs held p r e = all_in (Typed w) cs r held.typed (first_in p r (all cs) e).0

pub reached_typed : {K : Type 0} (on : Ground K) (k : K) (q : List ℕ) → Reaches on.w on.cs (on.bytes k) q → on.bytes (on.key q) ≡ q
reached_typed on k _ itself = ap on.bytes (on.back k)
reached_typed on k q (onward {p} g r e l i) =
    let c = cut_typed on.w r.payload q (typed_record on.w on.cs on.held p r e).payload i in
    on.any q c.0 c.1

-- an examination's answers, passed on
pub passed_err : (w : ℕ) (cs : Contents) (root : List ℕ) (slots : ℕ) (Fine : Type 0) (o : Result (Unit {0}) Flaw) (e : Flaw) → IsErrAnd o (λ y. y ≡ e) → Flawed w cs root slots e → Passed w cs root slots Fine o
passed_err w cs root slots Fine (Ok u) e h t = elim h [ ]
passed_err w cs root slots Fine (Err y) e h t = subst (Flawed w cs root slots) (sym h) t

pub passed_map : (w : ℕ) (cs : Contents) (root : List ℕ) (slots : ℕ) (Fine Fine' : Type 0) (o : Result (Unit {0}) Flaw) → (Fine → Fine') → Passed w cs root slots Fine o → Passed w cs root slots Fine' o
passed_map w cs root slots Fine Fine' (Ok u) f p = f p
passed_map w cs root slots Fine Fine' (Err e) f p = p

-- the first piece off the front of some bytes, and none where too few are left
cut_more : (w : ℕ) (piece rest : List ℕ) → 1 ≤ w → length piece ≡ w → cut w (piece ++ rest) ≡ piece ∷ cut w rest
cut_more w piece rest some e =
    let many : length (piece ++ rest) / w ≡ suc (length rest / w) =
    ap (λ n. n / w) (length-append piece rest ∙ ap (λ k. k + length rest) e) ∙ add-div_left (length rest) {k = w} (omega arith) ∙ add-one (length rest / w) in
    ap (λ n. pieces n w (piece ++ rest)) many
    ∙ ap₂ (λ q qs. q ∷ pieces (length rest / w) w qs) (take_at piece rest w e) (ap (λ k. drop k (piece ++ rest)) (sym e) ∙ drop-append_seam piece rest)

cut_less : (w : ℕ) (rest : List ℕ) → length rest < w → cut w rest ≡ []
cut_less w rest few = ap (λ n. pieces n w rest) (div-eq_of_lt few)

-- how far a node's children are entered: those before the bytes that are left are admitted
pub record Going {K : Type 0} (bytes : K → List ℕ) (w : ℕ) (cs : Contents) (root : List ℕ) (slots n : ℕ) (done : List (List ℕ)) (x : Place) (p : K) (r : Rec) (payload rest : List ℕ) (xs : List (Option K)) : Type 0 where
  pub sweep : Sweep bytes w cs root slots n done xs
  pub parent : Parent bytes cs x n xs p r
  pub before : List (List ℕ)
  pub cuts : cut w payload ≡ before ++ cut w rest
  pub admitted : Admitted bytes cs n before xs

module _ {K : Type 0} (on : Ground K) (root : List ℕ) (slots n : ℕ) where
  abbrev bytes : K → List ℕ
  bytes = on.bytes

  abbrev key : List ℕ → K
  key = on.key

  abbrev w : ℕ
  w = on.w

  abbrev cs : Contents
  cs = on.cs

  -- the children of a payload, one after another
  module _ (some : 1 ≤ w) (pos : 1 ≤ n) (x : Place) (done : List (List ℕ)) (p : K) (r : Rec) (payload : List ℕ) (is : r.payload ≡ payload) where
    pub going_start : (rest : List ℕ) → rest ≡ payload → (xs : List (Option K)) → Sweep bytes w cs root slots n done xs → Parent bytes cs x n xs p r → Going bytes w cs root slots n done x p r payload rest xs
    going_start rest all xs s f = record { sweep = s; parent = f; before = []; cuts = ap (cut w) (sym all); admitted = λ q i. elim i [ ] }

    module _ (rest piece rest' : List ℕ) (cuts : rest ≡ piece ++ rest') (wide : length piece ≡ w) where
      whole_piece : cond (leb w (length piece)) (Some (key (take w piece))) None ≡ Some (key piece)
      whole_piece =
          ap (λ b. cond b (Some (key (take w piece))) None) (le-leb w (length piece) (omega arith))
          ∙ ap (λ q. Some (key q)) (take_all w piece (omega arith))

      -- a piece is read
      pub no_child : None ≡ cond (leb w (length piece)) (Some (key (take w piece))) None → ⊥
      no_child h = let t = whole_piece in let z : ◌≡◌ {A = ℕ} 0 1 = cc in omega arith

      module _ (child : K) (read : Some child ≡ cond (leb w (length piece)) (Some (key (take w piece))) None) (xs : List (Option K)) (g : Going bytes w cs root slots n done x p r payload rest xs) where
        more : cut w payload ≡ g.before ++ (piece ∷ cut w rest')
        more = g.cuts ∙ ap (λ qs. g.before ++ qs) (ap (cut w) cuts ∙ cut_more w piece rest' some wide)

        listed : In piece (cut w payload)
        listed = subst (λ (qs : List (List ℕ)). In piece qs) (sym more) (in_right piece g.before (piece ∷ cut w rest') (inl refl))

        child_is : bytes child ≡ piece
        child_is =
            let t = whole_piece in
            let k : child ≡ key piece = cc in
            let c = cut_typed w payload piece (subst Bytes is (typed_record w cs on.held (bytes p) r g.parent.is).payload) listed in
            ap bytes k ∙ on.any piece c.0 c.1

        in_payload : In (bytes child) (cut w r.payload)
        in_payload = subst (λ (qs : List (List ℕ)). In (bytes child) qs) (ap (cut w) (sym is)) (subst (λ (q : List ℕ). In q (cut w payload)) (sym child_is) listed)

        pub child_told : (ys : List (Option K)) (e : Flaw) → Admits bytes cs x n child xs ys (Err e) → Flawed w cs root slots e
        child_told ys e =
            ⊎_elim
            (λ (a : (e ≡ Broken x) × (StoredUnder cs n (bytes child) → ⊥)). subst (Flawed w cs root slots) (sym a.0) (sweep_fault bytes w cs root slots n done xs g.sweep pos x p r g.parent (bytes child) in_payload a.1))
            (λ (a : (e ≡ TableFull) × StoredUnder cs n (bytes child) × (others_only bytes child xs ≡ true)). subst (Flawed w cs root slots) (sym a.0) (sweep_full bytes w cs root slots n done xs g.sweep child a.1 a.2))

        pub child_in : (u : Unit {0}) (ys : List (Option K)) → Admits bytes cs x n child xs ys (Ok u) → Going bytes w cs root slots n done x p r payload rest' ys
        child_in u ys a =
            let t = sweep_insert bytes w cs root slots n done xs g.sweep pos x p r g.parent child in_payload a.0 a.1.0 ys a.1.1 a.1.2 in
            record {
              sweep = t.0;
              parent = t.1;
              before = g.before ++ (bytes child ∷ []);
              cuts = more ∙ ap (λ q. g.before ++ (q ∷ cut w rest')) (sym child_is) ∙ sym (append_assoc g.before (bytes child ∷ []) (cut w rest'));
              admitted = admitted_insert bytes w cs root slots n done xs g.sweep child a.0 a.1.0 ys a.1.1 a.1.2 g.before g.admitted;
            }

    pub going_end : (rest : List ℕ) (xs : List (Option K)) → length rest < w → Going bytes w cs root slots n done x p r payload rest xs → Sweep bytes w cs root slots n done xs × Admitted bytes cs n (cut w payload) xs
    going_end rest xs few g =
        (g.sweep, subst (λ (qs : List (List ℕ)). Admitted bytes cs n qs xs) (sym (g.cuts ∙ ap (λ qs. g.before ++ qs) (cut_less w rest few) ∙ append-nil g.before)) g.admitted)

  -- the payload of the record at a node's place
  pub node_payload : (x : Place) (p : K) (r : Rec) (xs : List (Option K)) → Parent bytes cs x n xs p r → payload_of (standing cs x) ≡ r.payload
  node_payload x p r xs f = ap payload_of (record_there cs (bytes p) (Some x) f.place ∙ f.is)

  module _ (done : List (List ℕ)) (p : K) where
    -- a node that is not held, or not stored at the level, is done
    pub node_absent : (xs : List (Option K)) (count : ℕ) → length xs ≡ count → (Sound bytes xs → filled xs ≤ count → false ≡ holds bytes xs p) → Sweep bytes w cs root slots n done xs → Sweep bytes w cs root slots n (bytes p ∷ done) xs
    node_absent xs count long none s =
        sweep_done bytes w cs root slots n done xs p s
        (λ r g e l. absurd (both_ways (holds bytes xs p) (sym (none s.sound (let h = filled_le bytes xs in omega arith))) g)) (equal_keys bytes key on.back)

    pub node_elsewhere : (xs : List (Option K)) → None ≡ place_at cs (bytes p) n → Sweep bytes w cs root slots n done xs → Sweep bytes w cs root slots n (bytes p ∷ done) xs
    node_elsewhere xs none s =
        sweep_done bytes w cs root slots n done xs p s (λ r g e l. absurd (found_none cs (bytes p) n none r e l)) (equal_keys bytes key on.back)

    -- a node that is held, and stored at the level
    module _ (xs : List (Option K)) (count : ℕ) (long : length xs ≡ count) (met : Sound bytes xs → filled xs ≤ count → true ≡ holds bytes xs p) (s : Sweep bytes w cs root slots n done xs) (x : Place) (at : Some x ≡ place_at cs (bytes p) n) where
      pub node_found : (r : Rec) × Parent bytes cs x n xs p r
      node_found =
          let t = found_there cs (bytes p) n x at in
          (t.1.0, record { held = sym (met s.sound (let h = filled_le bytes xs in omega arith)); place = t.0; is = t.1.1; level = t.1.2 })

      pub node_done : (ys : List (Option K)) → Sweep bytes w cs root slots n done ys × Admitted bytes cs n (cut w (payload_of (standing cs x))) ys → Sweep bytes w cs root slots n (bytes p ∷ done) ys
      node_done ys a =
          sweep_done bytes w cs root slots n done ys p a.0
          (λ r g e l. subst (λ (o : Option Rec). Admitted bytes cs n (cut w (payload_of o)) ys) (record_there cs (bytes p) (Some x) node_found.1.place ∙ e) a.1) (equal_keys bytes key on.back)

  -- one node more of a container
  pub node_more : (c i : ℕ) (node : K) → Ok node ≡ of_record (λ r. key r.fingerprint) cs (record { container = c; index = i }) → (done : List (List ℕ)) (ys : List (Option K)) → Sweep bytes w cs root slots n (bytes node ∷ (map (λ r. r.fingerprint) (take i (records_of cs c)) ++ done)) ys → Sweep bytes w cs root slots n (map (λ r. r.fingerprint) (take (i + 1) (records_of cs c)) ++ done) ys
  node_more c i node e done ys s =
      let x : Place = record { container = c; index = i } in
      let t = told cs x (λ r. key r.fingerprint) node e in
      let typed = typed_at cs x w on.held t.0 t.1 in
      let is : bytes node ≡ t.0.fingerprint = ap bytes t.2 ∙ on.any t.0.fingerprint typed.wide typed.fingerprint in
      let more : map (λ r. r.fingerprint) (take (i + 1) (records_of cs c)) ≡ map (λ r. r.fingerprint) (take i (records_of cs c)) ++ (bytes node ∷ []) =
      ap (λ k. map (λ r. r.fingerprint) (take k (records_of cs c))) (add-one i)
      ∙ ap (map (λ r. r.fingerprint)) (nth_take (records_of cs c) i t.0 t.1)
      ∙ map-append (λ r. r.fingerprint) (take i (records_of cs c)) (t.0 ∷ [])
      ∙ ap (λ f. map (λ r. r.fingerprint) (take i (records_of cs c)) ++ (f ∷ [])) (sym is) in
      sweep_less bytes w cs root slots n (bytes node ∷ (map (λ r. r.fingerprint) (take i (records_of cs c)) ++ done)) (map (λ r. r.fingerprint) (take (i + 1) (records_of cs c)) ++ done) ys
      (λ f j. ⊎_elim
      (λ k. ⊎_elim (λ a. inr (in_left f (map (λ r. r.fingerprint) (take i (records_of cs c))) done a)) (⊎_elim (λ a. inl a) (λ a. elim a [ ])) (in_either f (map (λ r. r.fingerprint) (take i (records_of cs c))) (bytes node ∷ []) (subst (λ (fs : List (List ℕ)). In f fs) more k)))
      (λ k. inr (in_right f (map (λ r. r.fingerprint) (take i (records_of cs c))) done k))
      (in_either f (map (λ r. r.fingerprint) (take (i + 1) (records_of cs c))) done j)) s

  -- one container more of a level
  pub container_more : (c : ℕ) → c < length cs → (ys : List (Option K)) → Sweep bytes w cs root slots n (map (λ r. r.fingerprint) (records_of cs c) ++ map (λ r. r.fingerprint) (all (take c cs))) ys → Sweep bytes w cs root slots n (map (λ r. r.fingerprint) (all (take (c + 1) cs))) ys
  container_more c lt ys s =
      let old : List (List ℕ) = map (λ r. r.fingerprint) (all (take c cs)) in
      let new : List (List ℕ) = map (λ r. r.fingerprint) (records_of cs c) in
      let more : map (λ r. r.fingerprint) (all (take (c + 1) cs)) ≡ old ++ new =
      ap (λ rss. map (λ r. r.fingerprint) (all rss)) (take_more cs c [] lt)
      ∙ ap (map (λ r. r.fingerprint)) (flat_map-append (λ rs. rs) (take c cs) (records_of cs c ∷ []) ∙ ap (λ rs. all (take c cs) ++ rs) (append-nil (records_of cs c)))
      ∙ map-append (λ r. r.fingerprint) (all (take c cs)) (records_of cs c) in
      sweep_less bytes w cs root slots n (new ++ old) (map (λ r. r.fingerprint) (all (take (c + 1) cs))) ys
      (λ f j. ⊎_elim (λ k. in_right f new old k) (λ k. in_left f new old k) (in_either f old new (subst (λ (fs : List (List ℕ)). In f fs) more j))) s

  pub level_done : (c : ℕ) → length cs ≤ c → 1 ≤ n → (ys : List (Option K)) → Sweep bytes w cs root slots n (map (λ r. r.fingerprint) (all (take c cs))) ys → Sweep bytes w cs root slots (n - 1) [] ys
  level_done c le pos ys s =
      sweep_down bytes w cs root slots n (map (λ r. r.fingerprint) (all (take c cs))) ys pos
      (λ f r e.
      let a = first_in f r (all cs) e in
      subst (λ (g : List ℕ). In g (map (λ r. r.fingerprint) (all (take c cs)))) (same_equal r.fingerprint f a.1)
      (subst (λ (rss : Contents). In r.fingerprint (map (λ r. r.fingerprint) (all rss))) (sym (take_all c cs le)) (in_map r (all cs) a.0))) s
    where
      in_map : (r : Rec) (rs : List Rec) → In r rs → In r.fingerprint (map (λ r. r.fingerprint) rs)
      in_map r [] i = elim i [ ]
      in_map r (y ∷ rs) i = ⊎_elim (λ e. inl (ap (λ z. z.fingerprint) e)) (λ j. inr (in_map r rs j)) i

-- a level that is not 0 is that of a stored node
pub node_stored : (cs : Contents) (p : List ℕ) (level : ℕ) → level ≡ level_of (record_of cs p) → (level ≡ 0 → ⊥) → (r : Rec) × (record_of cs p ≡ Some r) × (1 ≤ r.level) × (r.level ≡ level)
node_stored cs p level e pos = go (record_of cs p) refl
  where
    go : (o : Option Rec) → record_of cs p ≡ o → (r : Rec) × (record_of cs p ≡ Some r) × (1 ≤ r.level) × (r.level ≡ level)
    go None s = absurd (pos (e ∙ ap level_of s))
    go (Some r) s = let is : r.level ≡ level = sym (e ∙ ap level_of s) in (r, s, omega arith, is)

-- a tree with no stored root has that flaw alone
pub absent_is : (w : ℕ) (held : Contents) (root : List ℕ) (slots : ℕ) (o : Result (Unit {0}) Flaw) → Tells w held root slots o → (StoredNode held root → ⊥) → o ≡ Err NoRoot
absent_is w held root slots (Ok u) t none = absurd (none t.top)
absent_is w held root slots (Err NoRoot) t none = refl
absent_is w held root slots (Err (Broken x)) t none = absurd (go t.node t.parent t.reached t.is t.above)
  where
    go : (p : List ℕ) (r : Rec) → Reaches w held root p → record_of held p ≡ Some r → 1 ≤ r.level → ⊥
    go _ r itself e l = none (r, e, l)
    go q r (onward {p} g y e l i) f m = go p y g e l
absent_is w held root slots (Err TableFull) t none = absurd (none t.0)

-- a whole tree has none
pub whole_is : (w : ℕ) (held : Contents) (root : List ℕ) (slots : ℕ) (o : Result (Unit {0}) Flaw) → Tells w held root slots o → length (all held) ≤ slots → Whole w held root → o ≡ Ok tt
whole_is w held root slots (Ok u) t space whole = refl
whole_is w held root slots (Err NoRoot) t space whole = absurd (t whole.top)
whole_is w held root slots (Err (Broken x)) t space whole = absurd (t.missing (whole.below t.node t.child t.parent t.reached t.is t.above t.lists))
whole_is w held root slots (Err TableFull) t space whole = absurd (omega (arith, t.1))
