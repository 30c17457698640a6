-- What a packed operand has at a packed point, and what the new operation knows of its operands.
use Rattle.std.proofs.Common.{◌≡◌, ℕ, zero, suc, ◌+◌, ◌≤◌, ◌==◌, Bool, true, false, List, [], ◌∷◌, ◌++◌, length, get_or, Option, Some, None, inl, inr, ⊎_elim, refl, ap, sym, ◌∙◌, subst, arith}
use Rattle.std.specs.Prelude.{if◌then◌else◌}
use Rattle.std.specs.List.{list_any}
use Rattle.std.specs.Option.{option_map_or}
use Rattle.std.proofs.lemmas.Bool.{false≢true, cases_Bool, eq-eqb}
use Rattle.std.proofs.lemmas.List.{length-map}
use Rattle.std.proofs.lemmas.Option.{none-some, same_Some}
use Rattle.affine_maps.specs.Shape.{MapShape}
use Rattle.affine_maps.specs.Map.{dimension}
use Rattle.affine_maps.specs.declared.map.Expr.{Expr}
use Rattle.payload_laws.specs.Laws.{AgreesWith}
use Rattle.mlir_meaning.specs.declared.values.Grid.{Grid}
use Rattle.mlir_meaning.specs.declared.values.Datum.{Datum}
use Rattle.mlir_meaning.specs.declared.values.Datum.TheVariants.{Number, Bits, Cells}
use Rattle.mlir_meaning.specs.Grids.{at, is_inside, InBox, Each}
use Rattle.mlir_meaning.specs.Moves.{pack_of}
use Rattle.mlir_meaning.specs.Points.{map_point, dimension_of, selects}
use Rattle.mlir_meaning.specs.States.{grid_of, element}
use Rattle.mlir_meaning.specs.Structured.{axis_extent, operand_extent, elements}
use Rattle.mlir_meaning.proofs.Grids.{each-append, inside_true, outside_false}
use Rattle.region_laws.specs.Operands.{IsPlain, ReadsAxes, AxesFit, AllFit, IsThere, Operand, maps_in, olds, news}
use Rattle.region_laws.proofs.Extents.{reads_inside}
use Rattle.move_laws.specs.Packs.{outer_box, inner_box, packed_box, merged, cut_axes, cut_sizes, packed_before, axis_tile, axis_tiles, axis_place, with_inner, inner_axes, packed_map, packed_maps, IsPacked, StaysAxis, AxesPack, PacksOperand, zeros_of}
use Rattle.region_laws.proofs.Lone.{selected_some}
use Rattle.move_laws.proofs.Merged.{in_append, outer_length, at-packed, packed_extents}
use Rattle.move_laws.proofs.PackedAxes.{places, coords, new_box, places_merged, coords_in, front_places, new_places, reads_outer, reads_inner, reads_append, reads_length, plain_outer, plain_inner, past_reads}
use Rattle.move_laws.proofs.PadLaw.{there_first}

-- WHERE NOTHING IS PACKED
no_list : {A : Type 0} (x : ℕ) (xs : List ℕ) → x ∷ xs ≡ [] → A
no_list x xs e = let l : suc (length xs) ≡ 0 = ap length e in absurd (omega (arith, l))

outer_same : (es ts : List ℕ) → cut_sizes ts ≡ [] → outer_box es ts ≡ es
outer_same [] ts h = refl
outer_same (e ∷ es) [] h = ap (λ l. e ∷ l) (outer_same es [] refl)
outer_same (e ∷ es) (zero ∷ ts) h = ap (λ l. e ∷ l) (outer_same es ts h)
outer_same (e ∷ es) (suc t ∷ ts) h = no_list (suc t) (cut_sizes ts) h

inner_none : (es ts : List ℕ) → cut_sizes ts ≡ [] → inner_box es ts ≡ []
inner_none [] ts h = refl
inner_none (e ∷ es) [] h = inner_none es [] refl
inner_none (e ∷ es) (zero ∷ ts) h = inner_none es ts h
inner_none (e ∷ es) (suc t ∷ ts) h = no_list (suc t) (cut_sizes ts) h

pub merged_same : (o is ts : List ℕ) → cut_sizes ts ≡ [] → merged o is ts ≡ o
merged_same [] is ts h = refl
merged_same (x ∷ o) is [] h = ap (λ l. x ∷ l) (merged_same o is [] refl)
merged_same (x ∷ o) is (zero ∷ ts) h = ap (λ l. x ∷ l) (merged_same o is ts h)
merged_same (x ∷ o) is (suc t ∷ ts) h = no_list (suc t) (cut_sizes ts) h

append_none : {A : Type 0} (xs : List A) → xs ++ [] ≡ xs
append_none [] = refl
append_none (x ∷ xs) = ap (λ l. x ∷ l) (append_none xs)

pub packed_same : (es ts : List ℕ) → cut_sizes ts ≡ [] → packed_box es ts ≡ es
packed_same es ts h = (λ j. outer_same es ts h j ++ inner_none es ts h j) ∙ append_none es

-- ONE OPERAND
pub record PackedGrid (sizes : List ℕ) (width : ℕ) (g : Grid) (x' : Datum) : Type 0 where
  pub grid : Grid
  pub is : x' ≡ Cells width grid
  pub extents : grid.extents ≡ packed_box g.extents sizes
  pub reads : (o is : List ℕ) → InBox (outer_box g.extents sizes) o → InBox (inner_box g.extents sizes) is →
      at grid (o ++ is) ≡ (if is_inside g.extents (merged o is sizes) then at g (merged o is sizes) else 0)

pub packed_grid : (ts : List ℕ) (m : MapShape) (width : ℕ) (g : Grid) (x' : Datum) → length m.results ≡ length g.extents → IsPacked ts m (Cells width g) x' → PackedGrid (axis_tiles ts m.results) width g x'
packed_grid ts m width g x' l (inl e) =
    let sizes : List ℕ = axis_tiles ts m.results in
    let long : length sizes ≡ length g.extents = length-map m.results (axis_tile ts) ∙ l in
    record { grid = pack_of g (packed_box g.extents sizes) (cut_axes sizes) (cut_sizes sizes) 0; is = e; extents = packed_extents g sizes long 0; reads = at-packed g sizes long 0 }
packed_grid ts m width g x' l (inr e) =
    let sizes : List ℕ = axis_tiles ts m.results in
    record {
      grid = g;
      is = e.0;
      extents = sym (packed_same g.extents sizes e.1);
      reads = λ o is h k.
          let none : is ≡ [] = empty is (subst (λ b. InBox b is) (inner_none g.extents sizes e.1) k) in
          let there : InBox g.extents o = subst (λ b. InBox b o) (outer_same g.extents sizes e.1) h in
          (λ j. at g (o ++ none j)) ∙ ap (at g) (append_none o) ∙ (λ j. if sym (inside_true g.extents o there) j then at g o else 0)
          ∙ (λ j. if is_inside g.extents (sym (merged_same o is sizes e.1) j) then at g (sym (merged_same o is sizes e.1) j) else 0);
    }
  where
    empty : (is : List ℕ) → InBox [] is → is ≡ []
    empty [] h = refl
    empty (i ∷ is) h = absurd h

module _ (box ts : List ℕ) (long : length ts ≡ length box) where
  -- a packed operand at a packed point
  module _ (o is : List ℕ) (ho : InBox (outer_box box ts) o) (hi : InBox (inner_box box ts) is) where
    pub outer_place : (es : List Expr) (xs : List ℕ) → Each (IsPlain (length box)) es → Each (StaysAxis ts) es → ReadsAxes box es xs → InBox (outer_box xs (axis_tiles ts es)) (places box ts long es o)
    outer_place es xs plain stays reads =
        subst (InBox (outer_box xs (axis_tiles ts es))) (front_places box ts long o is ho hi es plain)
        (reads_inside (new_box box ts long) es (outer_box xs (axis_tiles ts es)) (plain_outer box ts long es plain) (reads_outer box ts long es xs plain stays reads) (o ++ is)
        (in_append (outer_box box ts) (inner_box box ts) o is ho hi))

    abbrev whole : List ℕ
    whole = merged o is ts

    at_packed : (m : MapShape) (width : ℕ) (g : Grid) (x' : Datum) → AxesPack box ts m (Cells width g) → IsPacked ts m (Cells width g) x' →
        element x' (map_point (packed_map ts m) (o ++ is)) ≡ (if is_inside g.extents (map_point m whole) then at g (map_point m whole) else 0)
    at_packed m width g x' h k =
        let n : PackedGrid (axis_tiles ts m.results) width g x' = packed_grid ts m width g x' (reads_length box m.results g.extents h.2) k in
        let same : merged (places box ts long m.results o) (coords box ts long m.results is) (axis_tiles ts m.results) ≡ map_point m whole = sym (places_merged box ts long o is ho hi m.results h.0 h.1) in
        (λ j. element (n.is j) (new_places box ts long o is ho hi m.results h.0 j))
        ∙ n.reads (places box ts long m.results o) (coords box ts long m.results is) (outer_place m.results g.extents h.0 h.1 h.2)
        (coords_in box ts long o is ho hi m.results g.extents (reads_length box m.results g.extents h.2) h.0)
        ∙ (λ j. if is_inside g.extents (same j) then at g (same j) else 0)

    agree_at : (m : MapShape) (x x' : Datum) → AxesPack box ts m x → IsPacked ts m x x' → InBox box whole → element x' (map_point (packed_map ts m) (o ++ is)) ≡ element x (map_point m whole)
    agree_at m (Number n) x' h k b = ap (λ d. element d (map_point (packed_map ts m) (o ++ is))) k
    agree_at m (Bits n) x' h k b = ap (λ d. element d (map_point (packed_map ts m) (o ++ is))) k
    agree_at m (Cells width g) x' h k b =
        at_packed m width g x' h k ∙ (λ j. if inside_true g.extents (map_point m whole) (reads_inside box m.results g.extents h.0 h.2 whole b) j then at g (map_point m whole) else 0)

    pub agree_all : (os : List Operand) (m m' : MapShape) → Each (PacksOperand box ts) os → InBox box whole →
        elements (news os) (packed_maps ts os ++ m' ∷ []) (o ++ is) ≡ elements (olds os) (maps_in os ++ m ∷ []) whole
    agree_all [] m m' h b = refl
    agree_all (p ∷ os) m m' h b = λ j. agree_at p.axes p.old p.new h.0.0 h.0.1 b j ∷ agree_all os m m' h.1 b j

    value_past : (m : MapShape) (x x' : Datum) (d : ℕ) → AxesPack box ts m x → IsPacked ts m x x' → get_or box d 0 ≤ get_or whole d 0 → list_any (selects d) m.results ≡ true →
        element x' (map_point (packed_map ts m) (o ++ is)) ≡ 0
    value_past m (Number n) x' d h k l t = absurd (false≢true (ap (list_any (selects d)) (sym h) ∙ t))
    value_past m (Bits n) x' d h k l t = absurd (false≢true (ap (list_any (selects d)) (sym h) ∙ t))
    value_past m (Cells width g) x' d h k l t =
        at_packed m width g x' h k ∙ (λ j. if outside_false g.extents (map_point m whole) (past_reads box m.results g.extents whole d h.2 l t) j then at g (map_point m whole) else 0)

    pub zeros_agree : (os : List Operand) (m : MapShape) (d : ℕ) → Each (PacksOperand box ts) os → get_or box d 0 ≤ get_or whole d 0 →
        AgreesWith (zeros_of d os) (elements (news os) (packed_maps ts os ++ m ∷ []) (o ++ is))
    zeros_agree [] m d h l k v e = absurd (none-some (Some v) e)
    zeros_agree (p ∷ os) m d h l zero v e = by (list_any (selects d) p.axes.results) refl (same_Some _ _ e)
      where
        by : (t : Bool) → list_any (selects d) p.axes.results ≡ t → (if t then Some 0 else None) ≡ Some v → element p.new (map_point (packed_map ts p.axes) (o ++ is)) ≡ v
        by true t e = value_past p.axes p.old p.new d h.0.0 h.0.1 l t ∙ same_Some 0 v e
        by false t e = absurd (none-some v e)
    zeros_agree (p ∷ os) m d h l (suc k) v e = zeros_agree os m d h.1 l k v e

  -- WHAT THE NEW OPERATION KNOWS
  fit_old : (m : MapShape) (x : Datum) → AxesPack box ts m x → AxesFit box m x
  fit_old m (Number n) h = tt
  fit_old m (Bits n) h = tt
  fit_old m (Cells width g) h = (h.0, h.2)

  fit_new : (m : MapShape) (x x' : Datum) → AxesPack box ts m x → IsPacked ts m x x' → AxesFit (new_box box ts long) (packed_map ts m) x'
  fit_new m (Number n) x' h k = subst (AxesFit (new_box box ts long) (packed_map ts m)) (sym k) tt
  fit_new m (Bits n) x' h k = subst (AxesFit (new_box box ts long) (packed_map ts m)) (sym k) tt
  fit_new m (Cells width g) x' h k =
      let n : PackedGrid (axis_tiles ts m.results) width g x' = packed_grid ts m width g x' (reads_length box m.results g.extents h.2) k in
      subst (AxesFit (new_box box ts long) (packed_map ts m)) (sym n.is) (
        each-append (IsPlain (length (new_box box ts long))) m.results (inner_axes (length ts) ts m.results) (plain_outer box ts long m.results h.0) (plain_inner box ts long m.results h.0),
        subst (ReadsAxes (new_box box ts long) (packed_map ts m).results) (sym n.extents)
            (reads_append (new_box box ts long) m.results (inner_axes (length ts) ts m.results) (outer_box g.extents (axis_tiles ts m.results)) (inner_box g.extents (axis_tiles ts m.results))
            (reads_outer box ts long m.results g.extents h.0 h.1 h.2) (reads_inner box ts long m.results g.extents h.0 h.2)),
      )

  pub all_old : (os : List Operand) → Each (PacksOperand box ts) os → AllFit box (maps_in os) (olds os)
  all_old [] h = tt
  all_old (o ∷ os) h = (fit_old o.axes o.old h.0.0, all_old os h.1)

  pub all_new : (os : List Operand) → Each (PacksOperand box ts) os → AllFit (new_box box ts long) (packed_maps ts os) (news os)
  all_new [] h = tt
  all_new (o ∷ os) h = (fit_new o.axes o.old o.new h.0.0 h.0.1, all_new os h.1)

-- A DIMENSION THAT IS ALONE SOMEWHERE
there_front : (d : ℕ) (es fs : List Expr) (xs ys zs : List ℕ) → length xs ≡ length ys → IsThere (axis_extent d es xs) → IsThere (axis_extent d (es ++ fs) (ys ++ zs))
there_front d [] fs xs ys zs l h = absurd h
there_front d (e ∷ es) fs [] ys zs l h = absurd h
there_front d (e ∷ es) fs (x ∷ xs) [] zs l h = absurd (omega arith)
there_front d (e ∷ es) fs (x ∷ xs) (y ∷ ys) zs l h = by (selects d e) (there_front d es fs xs ys zs (omega arith)) h
  where
    by : (b : Bool) → (IsThere (axis_extent d es xs) → IsThere (axis_extent d (es ++ fs) (ys ++ zs))) → IsThere (if b then Some x else axis_extent d es xs) → IsThere (if b then Some y else axis_extent d (es ++ fs) (ys ++ zs))
    by true rest h = tt
    by false rest h = rest h

there_back : (d : ℕ) (es fs : List Expr) (ys zs : List ℕ) → length es ≡ length ys → IsThere (axis_extent d fs zs) → IsThere (axis_extent d (es ++ fs) (ys ++ zs))
there_back d [] fs [] zs l h = h
there_back d [] fs (y ∷ ys) zs l h = absurd (omega arith)
there_back d (e ∷ es) fs [] zs l h = absurd (omega arith)
there_back d (e ∷ es) fs (y ∷ ys) zs l h = by (selects d e) (there_back d es fs ys zs (omega arith) h)
  where
    by : (b : Bool) → IsThere (axis_extent d (es ++ fs) (ys ++ zs)) → IsThere (if b then Some y else axis_extent d (es ++ fs) (ys ++ zs))
    by true rest = tt
    by false rest = rest

-- an axis of dimension d has an inner axis, where d is packed
there_inner : (n : ℕ) (ts : List ℕ) (d t : ℕ) → get_or ts d 0 ≡ suc t → (es : List Expr) (xs : List ℕ) → IsThere (axis_extent d es xs) →
    IsThere (axis_extent (n + packed_before ts d) (inner_axes n ts es) (inner_box xs (axis_tiles ts es)))
there_inner n ts d t c [] xs h = absurd h
there_inner n ts d t c (e ∷ es) [] h = absurd h
there_inner n ts d t c (e ∷ es) (x ∷ xs) h =
    ⊎_elim
    (λ s. let lone : dimension_of e ≡ Some d = selected_some (dimension_of e) d s in here (axis_tile ts e) (ap (λ q. option_map_or (λ k. get_or ts k 0) q 0) lone ∙ c) (ap (λ q. option_map_or (packed_before ts) q 0) lone))
    (λ f. later (axis_tile ts e) (there_inner n ts d t c es xs (subst (λ b. IsThere (if b then Some x else axis_extent d es xs)) f h))) (cases_Bool (selects d e))
  where
    here : (s : ℕ) → s ≡ suc t → axis_place ts e ≡ packed_before ts d →
        IsThere (axis_extent (n + packed_before ts d) (with_inner s (dimension (n + axis_place ts e)) (inner_axes n ts es)) (inner_box (x ∷ xs) (s ∷ axis_tiles ts es)))
    here zero q p = absurd (omega (arith, q))
    here (suc s) q p =
        let found : ((n + axis_place ts e) == (n + packed_before ts d)) ≡ true = eq-eqb (n + axis_place ts e) (n + packed_before ts d) (ap (λ k. n + k) p) in
        subst (λ b. IsThere (if b then Some (suc s) else axis_extent (n + packed_before ts d) (inner_axes n ts es) (inner_box xs (axis_tiles ts es)))) (sym found) tt

    later : (s : ℕ) → IsThere (axis_extent (n + packed_before ts d) (inner_axes n ts es) (inner_box xs (axis_tiles ts es))) →
        IsThere (axis_extent (n + packed_before ts d) (with_inner s (dimension (n + axis_place ts e)) (inner_axes n ts es)) (inner_box (x ∷ xs) (s ∷ axis_tiles ts es)))
    later zero r = r
    later (suc s) r = by (selects (n + packed_before ts d) (dimension (n + axis_place ts e)))
      where
        by : (b : Bool) → IsThere (if b then Some (suc s) else axis_extent (n + packed_before ts d) (inner_axes n ts es) (inner_box xs (axis_tiles ts es)))
        by true = tt
        by false = r

module _ (box ts : List ℕ) (long : length ts ≡ length box) where
  packed_outer : (d : ℕ) (m : MapShape) (x x' : Datum) → AxesPack box ts m x → IsPacked ts m x x' → IsThere (axis_extent d m.results (grid_of x).extents) →
      IsThere (axis_extent d (packed_map ts m).results (grid_of x').extents)
  packed_outer d m (Number n) x' h k t = absurd (none (ap (λ es. axis_extent d es []) h) t)
    where
      none : {o : Option ℕ} → o ≡ None → IsThere o → ⊥
      none e t = subst IsThere e t
  packed_outer d m (Bits n) x' h k t = absurd (none (ap (λ es. axis_extent d es []) h) t)
    where
      none : {o : Option ℕ} → o ≡ None → IsThere o → ⊥
      none e t = subst IsThere e t
  packed_outer d m (Cells width g) x' h k t =
      let n : PackedGrid (axis_tiles ts m.results) width g x' = packed_grid ts m width g x' (reads_length box m.results g.extents h.2) k in
      subst (λ y. IsThere (axis_extent d (packed_map ts m).results (grid_of y).extents)) (sym n.is)
      (subst (λ xs. IsThere (axis_extent d (packed_map ts m).results xs)) (sym n.extents)
      (there_front d m.results (inner_axes (length ts) ts m.results) g.extents (outer_box g.extents (axis_tiles ts m.results)) (inner_box g.extents (axis_tiles ts m.results)) (sym (outer_length g.extents (axis_tiles ts m.results))) t))

  packed_inner : (d t : ℕ) → get_or ts d 0 ≡ suc t → (m : MapShape) (x x' : Datum) → AxesPack box ts m x → IsPacked ts m x x' → IsThere (axis_extent d m.results (grid_of x).extents) →
      IsThere (axis_extent (length ts + packed_before ts d) (packed_map ts m).results (grid_of x').extents)
  packed_inner d s c m (Number n) x' h k t = absurd (none (ap (λ es. axis_extent d es []) h) t)
    where
      none : {o : Option ℕ} → o ≡ None → IsThere o → ⊥
      none e t = subst IsThere e t
  packed_inner d s c m (Bits n) x' h k t = absurd (none (ap (λ es. axis_extent d es []) h) t)
    where
      none : {o : Option ℕ} → o ≡ None → IsThere o → ⊥
      none e t = subst IsThere e t
  packed_inner d s c m (Cells width g) x' h k t =
      let n : PackedGrid (axis_tiles ts m.results) width g x' = packed_grid ts m width g x' (reads_length box m.results g.extents h.2) k in
      subst (λ y. IsThere (axis_extent (length ts + packed_before ts d) (packed_map ts m).results (grid_of y).extents)) (sym n.is)
      (subst (λ xs. IsThere (axis_extent (length ts + packed_before ts d) (packed_map ts m).results xs)) (sym n.extents)
      (there_back (length ts + packed_before ts d) m.results (inner_axes (length ts) ts m.results) (outer_box g.extents (axis_tiles ts m.results)) (inner_box g.extents (axis_tiles ts m.results))
      (reads_length box m.results g.extents h.2 ∙ sym (outer_length g.extents (axis_tiles ts m.results))) (there_inner (length ts) ts d s c m.results g.extents t)))

  pub there_outer : (d : ℕ) (os : List Operand) (m : MapShape) (x x' : Datum) → Each (PacksOperand box ts) os → AxesPack box ts m x → IsPacked ts m x x' →
      IsThere (operand_extent d (maps_in os ++ m ∷ []) (olds os ++ x ∷ [])) → IsThere (operand_extent d (packed_maps ts os ++ packed_map ts m ∷ []) (news os ++ x' ∷ []))
  there_outer d [] m x x' h a k = there_first _ _ _ _ (packed_outer d m x x' a k) (λ t. t)
  there_outer d (o ∷ os) m x x' h a k = there_first _ _ _ _ (packed_outer d o.axes o.old o.new h.0.0 h.0.1) (there_outer d os m x x' h.1 a k)

  pub there_inners : (d t : ℕ) → get_or ts d 0 ≡ suc t → (os : List Operand) (m : MapShape) (x x' : Datum) → Each (PacksOperand box ts) os → AxesPack box ts m x → IsPacked ts m x x' →
      IsThere (operand_extent d (maps_in os ++ m ∷ []) (olds os ++ x ∷ [])) → IsThere (operand_extent (length ts + packed_before ts d) (packed_maps ts os ++ packed_map ts m ∷ []) (news os ++ x' ∷ []))
  there_inners d t c [] m x x' h a k = there_first _ _ _ _ (packed_inner d t c m x x' a k) (λ t. t)
  there_inners d t c (o ∷ os) m x x' h a k = there_first _ _ _ _ (packed_inner d t c o.axes o.old o.new h.0.0 h.0.1) (there_inners d t c os m x x' h.1 a k)
