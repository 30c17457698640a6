-- The generic over padded operands, sliced back, is the generic.
use Rattle.std.proofs.Common.{◌≡◌, ℕ, suc, ◌+◌, ◌-◌, ◌<◌, ◌^◌, Bool, true, false, List, [], ◌∷◌, ◌++◌, map, filter, length, get_or, Option, Some, None, ◌⊎◌, inl, inr, ⊎_elim, refl, ap, sym, ◌∙◌, subst, arith}
use Rattle.std.specs.Prelude.{option_map, if◌then◌else◌, ⊤}
use Rattle.std.proofs.lemmas.Bool.{cases_Bool}
use Rattle.std.proofs.lemmas.Option.{none-some, same_Some}
use Rattle.affine_maps.specs.Shape.{MapShape}
use Rattle.affine_maps.specs.Map.{dimension}
use Rattle.affine_maps.specs.declared.map.Expr.{Expr}
use Rattle.payload_ops.specs.Combine.{joined}
use Rattle.payload_laws.specs.Combiners.{value_after}
use Rattle.mlir_base.specs.Types.{bits_of}
use Rattle.payload_ops.specs.Shape.{PayloadShape}
use Rattle.payload_ops.specs.Values.{Given, payload_value}
use Rattle.payload_laws.proofs.Combiners.{joins_term}
use Rattle.payload_laws.proofs.Joined.{joined_below}
use Rattle.payload_laws.proofs.KnownValues.{keeps_output}
use Rattle.payload_laws.proofs.Traps.{never_traps}
use Rattle.mlir_ir.specs.Count.{first}
use Rattle.mlir_meaning.specs.declared.values.Grid.{Grid}
use Rattle.mlir_meaning.specs.declared.values.Datum.{Datum}
use Rattle.mlir_meaning.specs.declared.values.Datum.TheVariants.{Number, Bits, Cells}
use Rattle.mlir_meaning.specs.Grids.{points, at, settled, plus, is_inside, same_point, InBox, Each}
use Rattle.mlir_meaning.specs.Moves.{slice_of}
use Rattle.mlir_meaning.specs.Points.{selects, has, select_map}
use Rattle.mlir_meaning.specs.States.{grid_of}
use Rattle.mlir_meaning.specs.Structured.{fold_points, axis_extent, operand_extent, generic_step, generic_element, generic_result, elements}
use Rattle.mlir_meaning.proofs.Cells.{same_point-true}
use Rattle.mlir_meaning.proofs.Grids.{settled_same, settled_some, inside_true, inside_in}
use Rattle.mlir_meaning.proofs.Settled.{HasCells, HasTrap, view}
use Rattle.region_laws.specs.Operands.{IsThere, IsTyped, maps_of, Operand, maps_in, olds, news}
use Rattle.point_laws.specs.Boxes.{picks, Grows, zeros}
use Rattle.region_laws.proofs.Extents.{typed_by}
use Rattle.region_laws.proofs.Inner.{generic_is}
use Rattle.move_laws.specs.Pads.{highs, IsPadded, PadsOperand, Pads, pads_of, OutputGrows, Absorbs, unpadded}
use Rattle.point_laws.specs.Folds.{CannotTrap}
use Rattle.point_laws.proofs.Inside.{grow_in, grow_length, plus-zeros, element_inside, grow_get, Leaves, leaves_at, never_none}
use Rattle.point_laws.proofs.Tables.{picked_below}
use Rattle.move_laws.proofs.Padded.{Grown, grown, all_old, all_new, agree_all, pads_agree}
use Rattle.point_laws.specs.Folds.{AgreesInside}

-- A DIMENSION THAT IS ALONE SOMEWHERE STAYS SO
pub plus_length : (xs ys : List ℕ) → length (plus xs ys) ≡ length xs
plus_length [] ys = refl
plus_length (x ∷ xs) [] = refl
plus_length (x ∷ xs) (y ∷ ys) = ap suc (plus_length xs ys)

pub there_axes : (d : ℕ) (es : List Expr) (xs ys : List ℕ) → length xs ≡ length ys → IsThere (axis_extent d es xs) → IsThere (axis_extent d es ys)
there_axes d [] xs ys l h = absurd h
there_axes d (e ∷ es) [] ys l h = absurd h
there_axes d (e ∷ es) (x ∷ xs) [] l h = absurd (omega arith)
there_axes d (e ∷ es) (x ∷ xs) (y ∷ ys) l h = by (selects d e) (there_axes d es xs ys (omega arith)) h
  where
    by : (b : Bool) → (IsThere (axis_extent d es xs) → IsThere (axis_extent d es ys)) → IsThere (if b then Some x else axis_extent d es xs) → IsThere (if b then Some y else axis_extent d es ys)
    by true rest h = tt
    by false rest h = rest h

pub there_first : (a b a' b' : Option ℕ) → (IsThere a → IsThere a') → (IsThere b → IsThere b') → IsThere (first a b) → IsThere (first a' b')
there_first (Some x) b (Some y) b' h k t = tt
there_first (Some x) b None b' h k t = absurd (h tt)
there_first None b (Some y) b' h k t = tt
there_first None b None b' h k t = k t

module _ (box box' : List ℕ) (grows : Grows box box') where
  there_operand : (d : ℕ) (m : MapShape) (v : ℕ) (x x' : Datum) → IsPadded box box' m v x x' → IsThere (axis_extent d m.results (grid_of x).extents) → IsThere (axis_extent d m.results (grid_of x').extents)
  there_operand d m v (Number n) x' k h = subst (λ y. IsThere (axis_extent d m.results (grid_of y).extents)) (sym k) h
  there_operand d m v (Bits n) x' k h = subst (λ y. IsThere (axis_extent d m.results (grid_of y).extents)) (sym k) h
  there_operand d m v (Cells width g) x' k h =
      let n : Grown box box' grows m v width g x' = grown box box' grows m v width g x' k in
      subst (λ y. IsThere (axis_extent d m.results (grid_of y).extents)) (sym n.is)
      (there_axes d m.results g.extents n.grid.extents (sym (ap length n.extents ∙ plus_length g.extents (highs box box' m.results))) h)

  there_all : (d : ℕ) (os : List Operand) (m : MapShape) (v : ℕ) (x x' : Datum) → Each (PadsOperand box box') os → IsPadded box box' m v x x' →
      IsThere (operand_extent d (maps_in os ++ m ∷ []) (olds os ++ x ∷ [])) → IsThere (operand_extent d (maps_in os ++ m ∷ []) (news os ++ x' ∷ []))
  there_all d [] m v x x' h k = there_first _ _ _ _ (there_operand d m v x x' k) (λ t. t)
  there_all d (o ∷ os) m v x x' h k = there_first _ _ _ _ (there_operand d o.axes o.value o.old o.new h.0.1) (there_all d os m v x x' h.1 k)

  -- the output's extents grow to those of the new box
  picked_grow : (ds : List ℕ) → plus (picks ds box) (highs box box' (map dimension ds)) ≡ picks ds box'
  picked_grow [] = refl
  picked_grow (d ∷ ds) = let e : get_or box d 0 + (get_or box' d 0 - get_or box d 0) ≡ get_or box' d 0 = omega (arith, grow_get box box' d grows) in λ j. e j ∷ picked_grow ds j

module _ (box box' : List ℕ) (os : List Operand) (ds : List ℕ) (width value : ℕ) (g g' : Grid) (P : Pads box box' os ds width value g g') (captured : List ℕ) (payload : PayloadShape) where
  abbrev old_step : ℕ → List ℕ → Option ℕ
  old_step = generic_step (maps_of (maps_in os) box ds) (olds os) captured payload

  abbrev new_step : ℕ → List ℕ → Option ℕ
  new_step = generic_step (maps_of (maps_in os) box' ds) (news os) captured payload

  -- THE OUTPUT
  out_grown : Grown box box' P.grows (select_map (length box) ds) value width g (Cells width g')
  out_grown = grown box box' P.grows (select_map (length box) ds) value width g (Cells width g') P.output

  out_is : g' ≡ out_grown.grid
  out_is = ap grid_of out_grown.is

  pub out_extents : g'.extents ≡ picks ds box'
  out_extents = (λ j. (out_is j).extents) ∙ out_grown.extents ∙ (λ j. plus (P.extents j) (highs box box' (map dimension ds))) ∙ picked_grow box box' P.grows ds

  out_in : (e : List ℕ) → InBox g.extents e → InBox g'.extents e
  out_in e b = subst (λ es. InBox es e) (sym out_extents) (grow_in (picks ds box) (picks ds box') e (all ds) (subst (λ es. InBox es e) P.extents b))
    where
      all : (ds : List ℕ) → Grows (picks ds box) (picks ds box')
      all [] = tt
      all (d ∷ ds) = (grow_get box box' d P.grows, all ds)

  out_reads : (e : List ℕ) → InBox g.extents e → at g' e ≡ at g e
  out_reads e b =
      let within : InBox (plus g.extents (highs box box' (map dimension ds))) e = subst (λ es. InBox es e) ((λ j. (out_is j).extents) ∙ out_grown.extents) (out_in e b) in
      (λ j. at (out_is j) e) ∙ out_grown.reads e within ∙ (λ j. if inside_true g.extents e b j then at g e else value)

  -- TYPES
  old_typed : IsTyped box (maps_in os) ds (olds os) width g
  old_typed = typed_by box (maps_in os) ds (olds os) width g (record { inputs = all_old box box' P.grows os P.inputs; selects = P.selects; extents = P.extents; alone = P.alone })

  new_typed : IsTyped box' (maps_in os) ds (news os) width g'
  new_typed = typed_by box' (maps_in os) ds (news os) width g' (record {
    inputs = all_new box box' P.grows os P.inputs;
    selects = subst (λ n. Each (λ d. d < n) ds) (sym (grow_length box box' P.grows)) P.selects;
    extents = out_extents;
    alone = λ d l. subst (λ n. IsThere (operand_extent d (maps_in os ++ select_map n ds ∷ []) (news os ++ Cells width g' ∷ []))) (sym (grow_length box box' P.grows))
        (there_all box box' P.grows d os (select_map (length box) ds) value (Cells width g) (Cells width g') P.inputs P.output (P.alone d (omega (arith, l, grow_length box box' P.grows))));
  })

  -- STEPS
  same_step : (p : List ℕ) → InBox box p → (a : ℕ) → new_step a p ≡ old_step a p
  same_step p b a = ap (λ vs. payload_value payload (record { point = p; outer = captured; ins = vs; out = a }))
      (agree_all box box' P.grows os (select_map (length box) ds) (select_map (length box') ds) p P.inputs b)

  -- where a new point writes an old element, another dimension left the box
  other_leaves : (e p : List ℕ) → InBox g.extents e → InBox box' p → same_point (picks ds p) e ≡ true → is_inside box p ≡ false →
      (l : Leaves box box' p) × (has ds l.d ≡ true → ⊥)
  other_leaves e p i b s f =
      let l : Leaves box box' p = leaves_at box box' p P.grows b f in
      let picked : InBox (picks ds box) (picks ds p) = subst (InBox (picks ds box)) (sym (same_point-true (picks ds p) e s)) (subst (λ es. InBox es e) P.extents i) in
      (l, λ t. absurd (omega (arith, picked_below ds box p l.d picked t, l.past)))

  meets_outputs : OutputGrows box box' ds → (e p : List ℕ) → InBox g.extents e → InBox box' p → same_point (picks ds p) e ≡ true → AgreesInside (λ _. ⊤) old_step new_step (is_inside box) p
  meets_outputs o e p i b s = (
    (λ t a _. (same_step p (inside_in' t) a, λ b _. tt)),
    (λ f a _. let w = other_leaves e p i b s f in absurd (w.1 (o w.0.d w.0.is (omega (arith, w.0.past, w.0.within))))),
  )
    where
      inside_in' : is_inside box p ≡ true → InBox box p
      inside_in' t = inside_in box p t

  meets_absorbs : CannotTrap payload → Absorbs box box' os ds payload g → (e p : List ℕ) → InBox g.extents e → InBox box' p → same_point (picks ds p) e ≡ true →
      AgreesInside (λ a. a < 2 ^ bits_of payload.out) old_step new_step (is_inside box) p
  meets_absorbs c o e p i b s = (
    (λ t a _. (same_step p (inside_in box p t) a, λ v k. joins a v k)),
    (λ f a l. let w = other_leaves e p i b s f in
        ⊎_elim (λ t. absurd (w.1 t))
        (λ n. keeps_output payload (pads_of w.0.d os) c.is c.never (o.neutral w.0.d w.0.is (omega (arith, w.0.past, w.0.within)) n)
        (record { point = p; outer = captured; ins = elements (news os) (maps_of (maps_in os) box' ds) p; out = a })
        (pads_agree box box' P.grows os (select_map (length box') ds) p w.0.d P.inputs b w.0.past) l)
        (cases_Bool (has ds w.0.d))),
  )
    where
      joined_lt : (o' : Option ℕ) (a v : ℕ) → option_map (joined o.combines.combiner (bits_of payload.out) a) o' ≡ Some v → v < 2 ^ bits_of payload.out
      joined_lt None a v k = absurd (none-some v k)
      joined_lt (Some t) a v k = subst (λ n. n < 2 ^ bits_of payload.out) (same_Some _ v k) (joined_below o.combines.combiner (bits_of payload.out) a t)

      joins : (a v : ℕ) → old_step a p ≡ Some v → v < 2 ^ bits_of payload.out
      joins a v k =
          let given : Given = record { point = p; outer = captured; ins = elements (olds os) (maps_of (maps_in os) box ds) p; out = a } in
          joined_lt (value_after payload given o.combines.term) a v (sym (joins_term payload o.combines.combiner o.combines.term o.combines.is o.combines.found given) ∙ k)

  -- ONE ELEMENT
  pub cell_kept : CannotTrap payload → OutputGrows box box' ds ⊎ Absorbs box box' os ds payload g → (e : List ℕ) → InBox g.extents e →
      generic_element (picks ds) new_step box' g' e ≡ generic_element (picks ds) old_step box g e
  cell_kept c (inl o) e i =
      element_inside (λ _. ⊤) old_step new_step (picks ds) box box' e P.grows (λ p b s. meets_outputs o e p i b s) (at g' e) tt
      ∙ ap (fold_points old_step (filter (λ p. same_point (picks ds p) e) (points box))) (out_reads e i)
  cell_kept c (inr o) e i =
      element_inside (λ a. a < 2 ^ bits_of payload.out) old_step new_step (picks ds) box box' e P.grows (λ p b s. meets_absorbs c o e p i b s) (at g' e)
      (subst (λ a. a < 2 ^ bits_of payload.out) (sym (out_reads e i)) (o.below e i))
      ∙ ap (fold_points old_step (filter (λ p. same_point (picks ds p) e) (points box))) (out_reads e i)

  -- THE WHOLE
  abbrev maps : List MapShape
  maps = maps_of (maps_in os) box ds

  abbrev new_cells : List ℕ → Option ℕ
  new_cells = generic_element (picks ds) new_step box' g'

  abbrev old_cells : List ℕ → Option ℕ
  old_cells = generic_element (picks ds) old_step box g

  new_is : generic_result maps (length box) (news os) (Cells width g') captured payload ≡ option_map (Cells width) (settled g'.extents new_cells)
  new_is =
      let long : length box ≡ length box' = sym (grow_length box box' P.grows) in
      (λ j. generic_result (maps_in os ++ select_map (long j) ds ∷ []) (long j) (news os) (Cells width g') captured payload)
      ∙ generic_is box' (maps_in os) ds (news os) width captured payload g' new_typed

  pub pad_kept : CannotTrap payload → OutputGrows box box' ds ⊎ Absorbs box box' os ds payload g →
      option_map (unpadded g.extents) (generic_result maps (length box) (news os) (Cells width g') captured payload) ≡ generic_result maps (length box) (olds os) (Cells width g) captured payload
  unfolding slice_of
  pad_kept c o =
      ap (option_map (unpadded g.extents)) new_is
      ∙ ⊎_elim
      (λ (s : HasCells g'.extents new_cells).
      let r : Grid = record { extents = g'.extents; cells = s.cells } in
      ap (λ x. option_map (unpadded g.extents) (option_map (Cells width) x)) s.settles
      ∙ ap (option_map (Cells width)) (sym (settled_some g.extents old_cells (λ e. at r (plus e (zeros g.extents)))
      (λ e i. sym (cell_kept c o e i) ∙ s.reads e (out_in e i) ∙ (λ j. Some (at r (sym (plus-zeros g.extents e) j)))))))
      (λ (s : HasTrap g'.extents new_cells). absurd (never_none new_step (λ a p. never_traps payload c.is c.never (record { point = p; outer = captured; ins = elements (news os) (maps_of (maps_in os) box' ds) p; out = a }))
      (filter (λ p. same_point (picks ds p) s.point) (points box')) (at g' s.point) s.missing))
      (view g'.extents new_cells)
      ∙ sym (generic_is box (maps_in os) ds (olds os) width captured payload g old_typed)

  -- where the output isn't padded
  pub inputs_pad_kept : CannotTrap payload → OutputGrows box box' ds ⊎ Absorbs box box' os ds payload g → g'.extents ≡ g.extents →
      generic_result maps (length box) (news os) (Cells width g') captured payload ≡ generic_result maps (length box) (olds os) (Cells width g) captured payload
  inputs_pad_kept c o same =
      new_is ∙ ap (option_map (Cells width)) ((λ j. settled (same j) new_cells) ∙ settled_same g.extents new_cells old_cells (λ e i. cell_kept c o e i))
      ∙ sym (generic_is box (maps_in os) ds (olds os) width captured payload g old_typed)
