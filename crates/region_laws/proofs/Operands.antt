-- The tile of an operand has at a point what the operand has at the point moved by the offsets.
use Rattle.std.proofs.Common.{◌≡◌, ℕ, ◌+◌, ◌-◌, ◌*◌, ◌<◌, ◌≤◌, ℤ, pos, ◌+ℤ◌, ◌*ℤ◌, Bool, true, false, List, [], ◌∷◌, ◌++◌, map, length, get_or, refl, ap, sym, ◌∙◌, subst, arith}
use Rattle.std.specs.Prelude.{if◌then◌else◌}
use Rattle.std.proofs.Math.Nat.{mul-add, mul-le-mul_left}
use Rattle.std.proofs.lemmas.Bool.{or_parts}
use Rattle.affine_maps.specs.Shape.{MapShape}
use Rattle.affine_maps.specs.Value.{value_at, weighted_sum, coordinate}
use Rattle.affine_maps.specs.declared.map.Expr.{Expr}
use Rattle.mlir_meaning.specs.declared.values.Datum.{Datum}
use Rattle.mlir_meaning.specs.declared.values.Datum.TheVariants.{Number, Bits, Cells}
use Rattle.mlir_meaning.specs.Grids.{at, plus, InBox, Each}
use Rattle.mlir_meaning.specs.Moves.{slice_of}
use Rattle.mlir_meaning.specs.Points.{to_nat, map_point}
use Rattle.mlir_meaning.specs.States.{element}
use Rattle.mlir_meaning.specs.Structured.{elements}
use Rattle.mlir_meaning.proofs.Regions.{moved_in, at-slice}
use Rattle.point_laws.specs.Tiles.{Cut}
use Rattle.region_laws.specs.Operands.{names_cut, reach, axis_inner, offsets_of, sizes_of, inner_map, inner_maps, is_sliced, operand_tile, operand_tiles, ArePlain, IsPlain, IsRead, AreRead, IsTile}
use Rattle.point_laws.proofs.Tables.{get_or-pos, get_or-plus, get_or-in, fits_length}

-- VALUES OF EXPRESSIONS
abbrev pub weight : List (ℕ × ℤ) → List ℕ → ℕ
weight [] p = 0
weight (t ∷ terms) p = to_nat t.1 * get_or p t.0 0 + weight terms p

sum_are : (dims : ℕ) (terms : List (ℕ × ℤ)) (p : List ℕ) → ArePlain dims terms → weighted_sum terms (coordinate (map pos p)) ≡ pos (weight terms p)
sum_are dims [] p h = refl
sum_are dims (t ∷ terms) p h = λ j. (h.0.0 j *ℤ get_or-pos p t.0 j) +ℤ sum_are dims terms p h.1 j

pub value_is : (dims : ℕ) (e : Expr) (p : List ℕ) → IsPlain dims e → to_nat (value_at e (map pos p)) ≡ to_nat e.constant + weight e.terms p
value_is dims e p h = λ j. to_nat (h.0 j +ℤ sum_are dims e.terms p h.1 j)

pub weight_le : (ns : List ℕ) (terms : List (ℕ × ℤ)) (p : List ℕ) → ArePlain (length ns) terms → InBox ns p → weight terms p ≤ reach terms ns
weight_le ns [] p h b = omega arith
weight_le ns (t ∷ terms) p h b =
    let l : get_or p t.0 0 < get_or ns t.0 0 = get_or-in ns p t.0 b h.0.1 in
    let m : to_nat t.1 * get_or p t.0 0 ≤ to_nat t.1 * (get_or ns t.0 0 - 1) = mul-le-mul_left (to_nat t.1) (omega arith) in
    omega (arith, weight_le ns terms p h.1 b)

module _ (cut : ℕ → Bool) (box os ns : List ℕ) (c : Cut cut box os ns) where
  plain_in : (terms : List (ℕ × ℤ)) → ArePlain (length box) terms → ArePlain (length ns) terms
  plain_in terms h = subst (λ n. ArePlain n terms) (sym (fits_length box os ns c.fits)) h

  weight-plus : (terms : List (ℕ × ℤ)) (p : List ℕ) → InBox ns p → weight terms (plus p os) ≡ weight terms p + weight terms os
  weight-plus [] p b = refl
  weight-plus (t ∷ terms) p b =
      omega (arith, weight-plus terms p b, ap (λ x. to_nat t.1 * x) (get_or-plus box os ns p t.0 c.fits b), mul-add (to_nat t.1) (get_or p t.0 0) (get_or os t.0 0))

  -- what names no dimension that is cut doesn't move
  weight_still : (terms : List (ℕ × ℤ)) → names_cut cut terms ≡ false → weight terms os ≡ 0
  weight_still [] h = refl
  weight_still (t ∷ terms) h =
      let both : (cut t.0 ≡ false) × (names_cut cut terms ≡ false) = or_parts (cut t.0) (names_cut cut terms) h in
      let z : get_or os t.0 0 ≡ 0 = (c.still t.0 both.0).0 in
      let product : to_nat t.1 * get_or os t.0 0 ≡ to_nat t.1 * 0 = ap (λ x. to_nat t.1 * x) z in
      omega (arith, weight_still terms both.1)

  -- ONE AXIS
  abbrev inner_at : Bool → Expr → List ℕ → ℕ
  inner_at b e p = to_nat (value_at (record { constant = if b then pos 0 else e.constant; terms = e.terms }) (map pos p))

  axis : (e : Expr) (x : ℕ) (p : List ℕ) → IsPlain (length box) e → InBox ns p → to_nat (value_at e (map pos (plus p os))) < x → (b : Bool) → names_cut cut e.terms ≡ b →
      (inner_at b e p < (if b then reach e.terms ns + 1 else x)) × (inner_at b e p + (if b then to_nat (value_at e (map pos os)) else 0) ≡ to_nat (value_at e (map pos (plus p os))))
  axis e x p h b l true n =
      let inner : inner_at true e p ≡ 0 + weight e.terms p = value_is (length box) (record { constant = pos 0; terms = e.terms }) p (refl, h.1) in (
        omega (arith, inner, weight_le ns e.terms p (plain_in e.terms h.1) b),
        omega (arith, inner, value_is (length box) e os h, value_is (length box) e (plus p os) h, weight-plus e.terms p b),
      )
  axis e x p h b l false n =
      let same : inner_at false e p + 0 ≡ to_nat (value_at e (map pos (plus p os))) =
      omega (arith, value_is (length box) e p h, value_is (length box) e (plus p os) h, weight-plus e.terms p b, weight_still e.terms n) in
      (omega (arith, same, l), same)

  -- ALL AXES
  abbrev pub places : List Expr → List ℕ → List ℕ
  places es p = map to_nat (map (λ e. value_at e (map pos p)) es)

  pub record Reads (es : List Expr) (xs p : List ℕ) : Type 0 where
    pub inside : InBox (sizes_of cut ns es xs) (places (map (axis_inner cut) es) p)
    pub moves : places es (plus p os) ≡ plus (places (map (axis_inner cut) es) p) (offsets_of cut os es)

  pub reads_are : (es : List Expr) (xs p : List ℕ) → Each (IsPlain (length box)) es → InBox ns p → InBox xs (places es (plus p os)) → Reads es xs p
  reads_are [] [] p h b i = record { inside = tt; moves = refl }
  reads_are (e ∷ es) (x ∷ xs) p h b i =
      let rest : Reads es xs p = reads_are es xs p h.1 b i.1 in
      let one = axis e x p h.0 b i.0 (names_cut cut e.terms) refl in
      record { inside = (one.0, rest.inside); moves = λ j. sym one.1 j ∷ rest.moves j }
  reads_are [] (x ∷ xs) p h b i = absurd i
  reads_are (e ∷ es) [] p h b i = absurd i

  unsliced : (es : List Expr) (xs p : List ℕ) → Each (IsPlain (length box)) es → InBox ns p → InBox xs (places es (plus p os)) → is_sliced cut es ≡ false →
      places (map (axis_inner cut) es) p ≡ places es (plus p os)
  unsliced [] [] p h b i s = refl
  unsliced (e ∷ es) (x ∷ xs) p h b i s =
      let both : (names_cut cut e.terms ≡ false) × (is_sliced cut es ≡ false) = or_parts (names_cut cut e.terms) (is_sliced cut es) s in
      let one = axis e x p h.0 b i.0 false both.0 in
      let first : inner_at (names_cut cut e.terms) e p ≡ to_nat (value_at e (map pos (plus p os))) = ap (λ k. inner_at k e p) both.0 ∙ omega (arith, one.1) in
      λ j. first j ∷ unsliced es xs p h.1 b i.1 both.1 j
  unsliced [] (x ∷ xs) p h b i s = absurd i
  unsliced (e ∷ es) [] p h b i s = absurd i

  -- OPERANDS
  pub operand_is : (m : MapShape) (x : Datum) → IsRead box m x → IsTile os ns m x (inner_map cut m) (operand_tile cut os ns m x)
  operand_is m (Number n) h p b = refl
  operand_is m (Bits n) h p b = refl
  operand_is m (Cells width g) h p b = by (is_sliced cut m.results) refl
    where
      by : (s : Bool) → is_sliced cut m.results ≡ s →
          element (if s then Cells width (slice_of g (offsets_of cut os m.results) (sizes_of cut ns m.results g.extents)) else Cells width g) (map_point (inner_map cut m) p) ≡ at g (map_point m (plus p os))
      by true s =
          let r : Reads m.results g.extents p = reads_are m.results g.extents p h.0 b (h.1 (plus p os) (moved_in box os ns p c.fits b).inside) in
          at-slice g (offsets_of cut os m.results) (sizes_of cut ns m.results g.extents) (map_point (inner_map cut m) p) r.inside ∙ ap (at g) (sym r.moves)
      by false s = ap (at g) (unsliced m.results g.extents p h.0 b (h.1 (plus p os) (moved_in box os ns p c.fits b).inside) s)

  -- the elements of the tiles; a further map is the output's
  pub elements_are : (ms : List MapShape) (xs : List Datum) (m m' : MapShape) (p : List ℕ) → AreRead box ms xs → InBox ns p →
      elements (operand_tiles cut os ns ms xs) (inner_maps cut ms ++ m' ∷ []) p ≡ elements xs (ms ++ m ∷ []) (plus p os)
  elements_are [] [] m m' p h b = refl
  elements_are (n ∷ ms) (x ∷ xs) m m' p h b = λ j. operand_is n x h.0 p b j ∷ elements_are ms xs m m' p h.1 b j
  elements_are [] (x ∷ xs) m m' p h b = absurd h
  elements_are (n ∷ ms) [] m m' p h b = absurd h
