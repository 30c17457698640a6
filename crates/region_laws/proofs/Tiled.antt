-- All tiles in turn give what one fold over all points gives.
use Rattle.std.proofs.Common.{◌≡◌, ℕ, Bool, true, false, ◌&&◌, cond, List, [], ◌∷◌, fold, filter, Option, Some, None, refl, ap, sym, ◌∙◌}
use Rattle.std.specs.Prelude.{option_and_then, if◌then◌else◌}
use Rattle.std.proofs.lemmas.List.Folds.{fold_stays}
use Rattle.mlir_meaning.specs.declared.values.Grid.{Grid}
use Rattle.mlir_meaning.specs.Grids.{points, at, lies_in, same_point, settled, InBox, IsFull, Each}
use Rattle.mlir_meaning.specs.Structured.{fold_points, generic_element}
use Rattle.mlir_meaning.proofs.Cells.{same_point-true, same_point-refl}
use Rattle.mlir_meaning.proofs.Grids.{each_point, each_more, settled_same}
use Rattle.point_laws.specs.Folds.{Swaps}
use Rattle.point_laws.specs.Tiles.{tile_box, tile_of, tile_offsets, tile_sizes}
use Rattle.region_laws.specs.Regions.{cell, start_step, in_turn, Windows, WritesApart, AddsRegions}
use Rattle.point_laws.proofs.Lists.{filter-same, filter-turn, each-filter, each-passes, each-and, fold-same}
use Rattle.point_laws.proofs.Groups.{InOne, fold_groups, fold_one_group, filter_const}
use Rattle.point_laws.proofs.Windows.{point_once}
use Rattle.point_laws.proofs.Ragged.{in_tile, each_in_one, lies_in_tile, tile_of_in}
use Rattle.region_laws.proofs.Steps.{grid, IsPointwise, in_turn_is, start_is}
use Rattle.point_laws.proofs.Folds.{fold_from}

fold_idle : {A Q : Type 0} (qs : List Q) (a : A) → fold (λ a (_ : Q). a) a qs ≡ a
fold_idle [] a = refl
fold_idle (q ∷ qs) a = fold_idle qs a

-- what passes a test makes it F, and the rest keeps it
fold_if : {Q : Type 0} (t : Q → Bool) (F : Option ℕ) (qs : List Q) (o : Option ℕ) →
    fold (λ o q. option_and_then (λ a. if t q then F else Some a) o) o qs ≡ fold (λ o (_ : Q). option_and_then (λ (_ : ℕ). F) o) o (filter t qs)
fold_if t F [] o = refl
fold_if {Q} t F (q ∷ qs) o = one (t q) (λ o. fold_if t F qs o)
  where
    keep : (o : Option ℕ) → option_and_then (λ a. Some a) o ≡ o
    keep None = refl
    keep (Some a) = refl

    one : (b : Bool) → ((o : Option ℕ) → fold (λ o q. option_and_then (λ a. if t q then F else Some a) o) o qs ≡ fold (λ o (_ : Q). option_and_then (λ (_ : ℕ). F) o) o (filter t qs)) →
        fold (λ o q. option_and_then (λ a. if t q then F else Some a) o) (option_and_then (λ a. if b then F else Some a) o) qs
        ≡ fold (λ o (_ : Q). option_and_then (λ (_ : ℕ). F) o) o (cond b (q ∷ filter t qs) (filter t qs))
    one true rest = rest (option_and_then (λ (_ : ℕ). F) o)
    one false rest = ap (λ x. fold (λ o q. option_and_then (λ a. if t q then F else Some a) o) x qs) (keep o) ∙ rest o

-- the points that write one element
abbrev hits : (List ℕ → List ℕ) → List ℕ → List ℕ → List (List ℕ)
hits out box e = filter (λ p. same_point (out p) e) (points box)

module _ (out : List ℕ → List ℕ) (step : ℕ → List ℕ → Option ℕ) (box ts : List ℕ) where
  abbrev pub then_step : Option ℕ → List ℕ → Option ℕ
  then_step o p = option_and_then (λ a. step a p) o

  abbrev tiles : List (List ℕ)
  tiles = points (tile_box box ts)

  abbrev member : List ℕ → List ℕ → Bool
  member = in_tile box ts

  -- those of a tile among them
  hits_of : (q : List ℕ) → InBox (tile_box box ts) q → (e : List ℕ) →
      filter (λ p. same_point (out p) e && lies_in (tile_offsets box ts q) (tile_sizes box ts q) p) (points box) ≡ filter (member q) (hits out box e)
  hits_of q b e =
      filter-same (λ p. same_point (out p) e && lies_in (tile_offsets box ts q) (tile_sizes box ts q) p) (λ p. same_point (out p) e && member q p) (points box)
      (each_more (InBox box) (λ p. (same_point (out p) e && lies_in (tile_offsets box ts q) (tile_sizes box ts q) p) ≡ (same_point (out p) e && member q p))
      (λ p c. ap (λ x. same_point (out p) e && x) (lies_in_tile box ts p q c b)) (points box) (each_point box))
      ∙ filter-turn (λ p. same_point (out p) e) (member q) (points box)

  abbrev tile_cells : List ℕ → List ℕ → ℕ → Option ℕ
  tile_cells q = cell out step box (lies_in (tile_offsets box ts q) (tile_sizes box ts q))

  -- CARRIED TILES: each adds the points of its region to the tensor so far
  module _ (es : List ℕ) (one : List ℕ → Grid → Option Grid) (adds : AddsRegions out step box es ts one) where
    -- where the groups' folds are the fold
    carried_by : ((e : List ℕ) (a : ℕ) → fold (λ o q. fold then_step o (filter (member q) (hits out box e))) (Some a) tiles ≡ fold then_step (Some a) (hits out box e)) →
        (cs : List ℕ) → IsFull (grid es cs) → in_turn one tiles (grid es cs) ≡ settled es (generic_element out step box (grid es cs))
    carried_by groups cs full =
        let g : Grid = grid es cs in
        in_turn_is es tile_cells one tiles (each_more (InBox (tile_box box ts)) (IsPointwise es tile_cells one) adds tiles (each_point (tile_box box ts))) cs full
        ∙ settled_same es _ _
        (λ e b. fold-same (λ o q. option_and_then (tile_cells q e) o) (λ o q. fold then_step o (filter (member q) (hits out box e))) tiles
        (each_more (InBox (tile_box box ts)) (λ q. (o : Option ℕ) → option_and_then (tile_cells q e) o ≡ fold then_step o (filter (member q) (hits out box e)))
        (λ q c o. (λ j. option_and_then (fold_points step (hits_of q c e j)) o) ∙ sym (fold_from (λ p a. step a p) (filter (member q) (hits out box e)) o)) tiles (each_point (tile_box box ts)))
        (Some (at g e)) ∙ groups e (at g e))

    -- tiles of any dimensions, where the terms may change places
    pub carried_swaps : Swaps then_step → (cs : List ℕ) → IsFull (grid es cs) → in_turn one tiles (grid es cs) ≡ settled es (generic_element out step box (grid es cs))
    carried_swaps swaps = carried_by
        (λ e a. fold_groups then_step swaps member tiles (hits out box e) (each-filter (InOne member tiles) (λ p. same_point (out p) e) (points box) (each_in_one box ts)) (Some a))

  -- where a point is written tells its tile
  module _ (oo on : List ℕ → List ℕ) (apart : WritesApart out box ts oo on) where
    same_tile : (p x : List ℕ) → InBox box p → InBox box x → out p ≡ out x → tile_of p ts ≡ tile_of x ts
    same_tile p x b c e =
        let q : List ℕ = tile_of x ts in
        let h : InBox (tile_box box ts) q = tile_of_in box ts x c in
        same_point-true (tile_of p ts) q (sym (apart q p h b) ∙ ap (lies_in (oo q) (on q)) e ∙ apart q x h c ∙ same_point-refl q)

    abbrev Hit : List ℕ → List ℕ → Type 0
    Hit e p = InBox box p × (same_point (out p) e ≡ true)

    each_hit : (e : List ℕ) → Each (Hit e) (hits out box e)
    each_hit e = each-and (InBox box) (λ p. same_point (out p) e ≡ true) (hits out box e) (each-filter (InBox box) (λ p. same_point (out p) e) (points box) (each_point box)) (each-passes (λ p. same_point (out p) e) (points box))

    -- the points that write one element are all in one tile
    all_in : (e x : List ℕ) → Hit e x → (xs : List (List ℕ)) → Each (Hit e) xs → (q : List ℕ) → Each (λ p. member q p ≡ same_point (tile_of x ts) q) xs
    all_in e x h xs hs q =
        each_more (Hit e) (λ p. member q p ≡ same_point (tile_of x ts) q)
        (λ p k. ap (λ n. same_point n q) (same_tile p x k.0 h.0 (same_point-true (out p) e k.1 ∙ sym (same_point-true (out x) e h.1)))) xs hs

    one_group : (e : List ℕ) (xs : List (List ℕ)) → Each (Hit e) xs → (o : Option ℕ) → fold (λ o q. fold then_step o (filter (member q) xs)) o tiles ≡ fold then_step o xs
    one_group e [] h o = fold_idle tiles o
    one_group e (x ∷ xs) h o =
        fold_one_group then_step member (same_point (tile_of x ts)) tiles (x ∷ xs) (all_in e x h.0 (x ∷ xs) h) (tile_of x ts) (point_once (tile_box box ts) (tile_of x ts) (tile_of_in box ts x h.0.0)) o

    -- tiles of parallel dimensions alone, in every case
    pub carried_apart : (es : List ℕ) (one : List ℕ → Grid → Option Grid) → AddsRegions out step box es ts one →
        (cs : List ℕ) → IsFull (grid es cs) → in_turn one tiles (grid es cs) ≡ settled es (generic_element out step box (grid es cs))
    carried_apart es one adds = carried_by es one adds (λ e a. one_group e (hits out box e) (each_hit e) (Some a))

    -- STARTED TILES: each begins from the start
    abbrev start_cells : Grid → List ℕ → List ℕ → ℕ → Option ℕ
    start_cells start q e a = if lies_in (oo q) (on q) e then tile_cells q e (at start e) else Some a

    either_some : (b : Bool) (a : ℕ) → (if b then Some a else Some a) ≡ Some a
    either_some true a = refl
    either_some false a = refl

    started_at : (e : List ℕ) (a : ℕ) (xs : List (List ℕ)) → Each (Hit e) xs →
        ((q : List ℕ) → InBox (tile_box box ts) q → filter (λ p. same_point (out p) e && lies_in (tile_offsets box ts q) (tile_sizes box ts q) p) (points box) ≡ filter (member q) xs) →
        fold (λ o q. option_and_then (λ b. if lies_in (oo q) (on q) e then tile_cells q e a else Some b) o) (Some a) tiles ≡ fold then_step (Some a) xs
    started_at e a [] h are =
        fold-same (λ o q. option_and_then (λ b. if lies_in (oo q) (on q) e then tile_cells q e a else Some b) o) (λ o q. option_and_then (λ b. if lies_in (oo q) (on q) e then Some a else Some b) o) tiles
        (each_more (InBox (tile_box box ts)) _ (λ q c o. λ j. option_and_then (λ b. if lies_in (oo q) (on q) e then fold_points step (are q c j) a else Some b) o) tiles (each_point (tile_box box ts))) (Some a)
        ∙ fold_stays (λ o q. option_and_then (λ b. if lies_in (oo q) (on q) e then Some a else Some b) o) (Some a) (λ q. either_some (lies_in (oo q) (on q) e) a) tiles
    started_at e a (x ∷ xs) h are =
        let k : List ℕ = tile_of x ts in
        let F : Option ℕ = fold then_step (Some a) (x ∷ xs) in
        fold-same (λ o q. option_and_then (λ b. if lies_in (oo q) (on q) e then tile_cells q e a else Some b) o) (λ o q. option_and_then (λ b. if same_point k q then F else Some b) o) tiles
        (each_more (InBox (tile_box box ts)) _
        (λ q c o. (λ j. option_and_then (λ b. if (ap (lies_in (oo q) (on q)) (sym (same_point-true (out x) e h.0.1)) ∙ apart q x c h.0.0) j
        then fold_points step ((are q c ∙ filter-same (member q) (λ _. same_point k q) (x ∷ xs) (all_in e x h.0 (x ∷ xs) h q) ∙ filter_const (same_point k q) (x ∷ xs)) j) a else Some b) o) ∙ chosen (same_point k q) o)
        tiles (each_point (tile_box box ts))) (Some a)
        ∙ fold_if (same_point k) F tiles (Some a)
        ∙ ap (fold (λ o (_ : List ℕ). option_and_then (λ (_ : ℕ). F) o) (Some a)) (point_once (tile_box box ts) k (tile_of_in box ts x h.0.0))
      where
        chosen : (t : Bool) (o : Option ℕ) → option_and_then (λ b. if t then fold_points step (cond t (x ∷ xs) []) a else Some b) o ≡ option_and_then (λ b. if t then fold then_step (Some a) (x ∷ xs) else Some b) o
        chosen true o = refl
        chosen false o = refl

    pub started_apart : (inner : List ℕ → List ℕ) (es : List ℕ) → Windows out inner box es ts oo on → (cs : List ℕ) → IsFull (grid es cs) →
        in_turn (λ q. start_step inner step (tile_offsets box ts q) (tile_sizes box ts q) (oo q) (on q) (grid es cs)) tiles (grid es cs) ≡ settled es (generic_element out step box (grid es cs))
    started_apart inner es windows cs full =
        let g : Grid = grid es cs in
        let one : List ℕ → Grid → Option Grid = λ q. start_step inner step (tile_offsets box ts q) (tile_sizes box ts q) (oo q) (on q) g in
        in_turn_is es (start_cells g) one tiles
        (each_more (InBox (tile_box box ts)) (IsPointwise es (start_cells g) one)
        (λ q b cs. start_is out inner step box es (tile_offsets box ts q) (tile_sizes box ts q) (oo q) (on q) (windows q b) g cs) tiles (each_point (tile_box box ts)))
        cs full
        ∙ settled_same es _ _ (λ e b. started_at e (at g e) (hits out box e) (each_hit e) (λ q c. hits_of q c e))
