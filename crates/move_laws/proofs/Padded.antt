-- A generic over padded operands agrees with the generic on the old box.
use Rattle.std.proofs.Common.{◌≡◌, ℕ, zero, suc, ◌+◌, ◌-◌, ◌*◌, ◌<◌, ◌≤◌, ℤ, pos, Bool, true, false, ◌||◌, List, [], ◌∷◌, ◌++◌, map, length, get_or, Option, Some, None, inl, inr, ⊎_elim, refl, ap, sym, ◌∙◌, subst, arith}
use Rattle.std.specs.Prelude.{if◌then◌else◌}
use Rattle.std.specs.List.{list_any}
use Rattle.std.specs.Option.{option_map_or}
use Rattle.std.proofs.lemmas.Bool.{false≢true, cases_Bool}
use Rattle.std.proofs.lemmas.Option.{none-some, same_Some}
use Rattle.affine_maps.specs.Shape.{MapShape}
use Rattle.affine_maps.specs.Value.{value_at}
use Rattle.affine_maps.specs.declared.map.Expr.{Expr}
use Rattle.payload_laws.specs.Laws.{AgreesWith}
use Rattle.mlir_meaning.specs.declared.values.Grid.{Grid}
use Rattle.mlir_meaning.specs.declared.values.Datum.{Datum}
use Rattle.mlir_meaning.specs.declared.values.Datum.TheVariants.{Number, Bits, Cells}
use Rattle.mlir_meaning.specs.Grids.{at, plus, is_inside, InBox, Each}
use Rattle.mlir_meaning.specs.Moves.{pad_of}
use Rattle.mlir_meaning.specs.Points.{to_nat, map_point, dimension_of, selects}
use Rattle.mlir_meaning.specs.States.{element}
use Rattle.mlir_meaning.specs.Structured.{elements}
use Rattle.mlir_meaning.proofs.Grids.{at-tabulate, inside_true, outside_false}
use Rattle.region_laws.specs.Operands.{reach, IsPlain, ReadsBy, ReadsAxes, AxesFit, AllFit, Operand, maps_in, olds, news}
use Rattle.point_laws.specs.Boxes.{NoPoints, Grows}
use Rattle.region_laws.proofs.Extents.{reads_inside}
use Rattle.move_laws.specs.Pads.{highs, IsPadded, PadsBy, PadsAxes, AxesPad, PadsOperand, pads_of}
use Rattle.point_laws.proofs.Inside.{grow_in, grow_length, plus-zeros, grow_get}
use Rattle.region_laws.proofs.Lone.{lone_value, selected_some}

-- PADDED GRIDS
pub at-pad : (g : Grid) (hs : List ℕ) (v : ℕ) (q : List ℕ) → InBox (plus g.extents hs) q → at (pad_of g hs v) q ≡ (if is_inside g.extents q then at g q else v)
unfolding pad_of
at-pad g hs v q b = at-tabulate (plus g.extents hs) q (λ p. if is_inside g.extents p then at g p else v) b

pub pad-extents : (g : Grid) (hs : List ℕ) (v : ℕ) → (pad_of g hs v).extents ≡ plus g.extents hs
unfolding pad_of
pad-extents g hs v = refl

module _ (box box' : List ℕ) (grows : Grows box box') where
  -- AXES
  reach_same : (terms : List (ℕ × ℤ)) → Each (λ (t : ℕ × ℤ). get_or box' t.0 0 ≡ get_or box t.0 0) terms → reach terms box' ≡ reach terms box
  reach_same [] h = refl
  reach_same (t ∷ terms) h = λ j. to_nat t.1 * (h.0 j - 1) + reach_same terms h.1 j

  old_by : (e : Expr) (x : ℕ) (o : Option ℕ) → PadsBy box box' e x o → ReadsBy box e x o
  old_by e x (Some d) h = h
  old_by e x None h = ⊎_elim (λ l. inl l) (λ (l : NoPoints box'). inr (l.0, omega (arith, grow_length box box' grows, l.1), omega (arith, grow_get box box' l.0 grows, l.2))) h.1

  new_by : (e : Expr) (x : ℕ) (o : Option ℕ) → PadsBy box box' e x o → ReadsBy box' e (x + option_map_or (λ d. get_or box' d 0 - get_or box d 0) o 0) o
  new_by e x (Some d) h = (omega (arith, grow_length box box' grows, h.0), omega (arith, h.1, grow_get box box' d grows))
  new_by e x None h = ⊎_elim (λ (l : to_nat e.constant + reach e.terms box < x). inl (omega (arith, reach_same e.terms h.0))) (λ l. inr l) h.1

  pub old_axes : (es : List Expr) (xs : List ℕ) → PadsAxes box box' es xs → ReadsAxes box es xs
  old_axes [] [] h = tt
  old_axes (e ∷ es) (x ∷ xs) h = (old_by e x (dimension_of e) h.0, old_axes es xs h.1)
  old_axes [] (x ∷ xs) h = absurd h
  old_axes (e ∷ es) [] h = absurd h

  pub new_axes : (es : List Expr) (xs : List ℕ) → PadsAxes box box' es xs → ReadsAxes box' es (plus xs (highs box box' es))
  new_axes [] [] h = tt
  new_axes (e ∷ es) (x ∷ xs) h = (new_by e x (dimension_of e) h.0, new_axes es xs h.1)
  new_axes [] (x ∷ xs) h = absurd h
  new_axes (e ∷ es) [] h = absurd h

  plain_new : (es : List Expr) → Each (IsPlain (length box)) es → Each (IsPlain (length box')) es
  plain_new es h = subst (λ n. Each (IsPlain n) es) (sym (grow_length box box' grows)) h

  -- what leaves the box in a dimension leaves each operand that has it
  past_axes : (es : List Expr) (xs p : List ℕ) (d : ℕ) → PadsAxes box box' es xs → get_or box d 0 ≤ get_or p d 0 → list_any (selects d) es ≡ true →
      InBox xs (map to_nat (map (λ e. value_at e (map pos p)) es)) → ⊥
  past_axes [] [] p d h l t b = false≢true t
  past_axes (e ∷ es) (x ∷ xs) p d h l t b =
      ⊎_elim (λ s. let is_d = selected_some (dimension_of e) d s in
      let k : (d < length box) × (x ≡ get_or box d 0) = subst (PadsBy box box' e x) is_d h.0 in absurd (omega (arith, b.0, k.1, l, lone_value e d p is_d)))
      (λ f. past_axes es xs p d h.1 l ((λ j. sym f j || list_any (selects d) es) ∙ t) b.1) (cases_Bool (selects d e))
  past_axes [] (x ∷ xs) p d h l t b = absurd h
  past_axes (e ∷ es) [] p d h l t b = absurd h

  -- OPERANDS
  pub record Grown (m : MapShape) (v width : ℕ) (g : Grid) (x' : Datum) : Type 0 where
    pub grid : Grid
    pub is : x' ≡ Cells width grid
    pub extents : grid.extents ≡ plus g.extents (highs box box' m.results)
    pub reads : (q : List ℕ) → InBox (plus g.extents (highs box box' m.results)) q → at grid q ≡ (if is_inside g.extents q then at g q else v)

  pub grown : (m : MapShape) (v width : ℕ) (g : Grid) (x' : Datum) → IsPadded box box' m v (Cells width g) x' → Grown m v width g x'
  grown m v width g x' (inl e) = record { grid = pad_of g (highs box box' m.results) v; is = e; extents = pad-extents g (highs box box' m.results) v; reads = at-pad g (highs box box' m.results) v }
  grown m v width g x' (inr e) =
      let same : plus g.extents (highs box box' m.results) ≡ g.extents = ap (plus g.extents) e.1 ∙ plus-zeros g.extents g.extents in
      record { grid = g; is = e.0; extents = sym same; reads = λ q b. λ j. if sym (inside_true g.extents q (subst (λ es. InBox es q) same b)) j then at g q else v }

  fit_old : (m : MapShape) (x : Datum) → AxesPad box box' m x → AxesFit box m x
  fit_old m (Number n) h = tt
  fit_old m (Bits n) h = tt
  fit_old m (Cells width g) h = (h.0, old_axes m.results g.extents h.1)

  fit_new : (m : MapShape) (v : ℕ) (x x' : Datum) → AxesPad box box' m x → IsPadded box box' m v x x' → AxesFit box' m x'
  fit_new m v (Number n) x' h k = subst (AxesFit box' m) (sym k) tt
  fit_new m v (Bits n) x' h k = subst (AxesFit box' m) (sym k) tt
  fit_new m v (Cells width g) x' h k =
      let n : Grown m v width g x' = grown m v width g x' k in
      subst (AxesFit box' m) (sym n.is) (plain_new m.results h.0, subst (ReadsAxes box' m.results) (sym n.extents) (new_axes m.results g.extents h.1))

  pub all_old : (os : List Operand) → Each (PadsOperand box box') os → AllFit box (maps_in os) (olds os)
  all_old [] h = tt
  all_old (o ∷ os) h = (fit_old o.axes o.old h.0.0, all_old os h.1)

  pub all_new : (os : List Operand) → Each (PadsOperand box box') os → AllFit box' (maps_in os) (news os)
  all_new [] h = tt
  all_new (o ∷ os) h = (fit_new o.axes o.value o.old o.new h.0.0 h.0.1, all_new os h.1)

  -- on the old box
  agree_at : (m : MapShape) (v : ℕ) (x x' : Datum) (p : List ℕ) → AxesPad box box' m x → IsPadded box box' m v x x' → InBox box p → element x' (map_point m p) ≡ element x (map_point m p)
  agree_at m v (Number n) x' p h k b = ap (λ d. element d (map_point m p)) k
  agree_at m v (Bits n) x' p h k b = ap (λ d. element d (map_point m p)) k
  agree_at m v (Cells width g) x' p h k b =
      let n : Grown m v width g x' = grown m v width g x' k in
      let inside : InBox g.extents (map_point m p) = reads_inside box m.results g.extents h.0 (old_axes m.results g.extents h.1) p b in
      let within : InBox (plus g.extents (highs box box' m.results)) (map_point m p) =
      reads_inside box' m.results (plus g.extents (highs box box' m.results)) (plain_new m.results h.0) (new_axes m.results g.extents h.1) p (grow_in box box' p grows b) in
      ap (λ d. element d (map_point m p)) n.is ∙ n.reads (map_point m p) within ∙ (λ j. if inside_true g.extents (map_point m p) inside j then at g (map_point m p) else v)

  pub agree_all : (os : List Operand) (m m' : MapShape) (p : List ℕ) → Each (PadsOperand box box') os → InBox box p →
      elements (news os) (maps_in os ++ m' ∷ []) p ≡ elements (olds os) (maps_in os ++ m ∷ []) p
  agree_all [] m m' p h b = refl
  agree_all (o ∷ os) m m' p h b = λ j. agree_at o.axes o.value o.old o.new p h.0.0 h.0.1 b j ∷ agree_all os m m' p h.1 b j

  -- past it
  value_past : (m : MapShape) (v : ℕ) (x x' : Datum) (p : List ℕ) (d : ℕ) → AxesPad box box' m x → IsPadded box box' m v x x' → InBox box' p → get_or box d 0 ≤ get_or p d 0 →
      list_any (selects d) m.results ≡ true → element x' (map_point m p) ≡ v
  value_past m v (Number n) x' p d h k b l t = absurd (false≢true (ap (list_any (selects d)) (sym h) ∙ t))
  value_past m v (Bits n) x' p d h k b l t = absurd (false≢true (ap (list_any (selects d)) (sym h) ∙ t))
  value_past m v (Cells width g) x' p d h k b l t =
      let n : Grown m v width g x' = grown m v width g x' k in
      let within : InBox (plus g.extents (highs box box' m.results)) (map_point m p) =
      reads_inside box' m.results (plus g.extents (highs box box' m.results)) (plain_new m.results h.0) (new_axes m.results g.extents h.1) p b in
      ap (λ d. element d (map_point m p)) n.is ∙ n.reads (map_point m p) within
      ∙ (λ j. if outside_false g.extents (map_point m p) (past_axes m.results g.extents p d h.1 l t) j then at g (map_point m p) else v)

  pub pads_agree : (os : List Operand) (m : MapShape) (p : List ℕ) (d : ℕ) → Each (PadsOperand box box') os → InBox box' p → get_or box d 0 ≤ get_or p d 0 →
      AgreesWith (pads_of d os) (elements (news os) (maps_in os ++ m ∷ []) p)
  pads_agree [] m p d h b l k v e = absurd (none-some (Some v) e)
  pads_agree (o ∷ os) m p d h b l zero v e = by (list_any (selects d) o.axes.results) refl (same_Some _ _ e)
    where
      by : (t : Bool) → list_any (selects d) o.axes.results ≡ t → (if t then Some o.value else None) ≡ Some v → element o.new (map_point o.axes p) ≡ v
      by true t e = value_past o.axes o.value o.old o.new p d h.0.0 h.0.1 b l t ∙ same_Some o.value v e
      by false t e = absurd (none-some v e)
  pads_agree (o ∷ os) m p d h b l (suc k) v e = pads_agree os m p d h.1 b l k v e
