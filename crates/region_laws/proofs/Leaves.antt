-- The end of the innermost body: the tiled operation, and what becomes of its result.
use Rattle.std.proofs.Common.{◌≡◌, ℕ, ◌+◌, ◌-◌, ◌*◌, ◌<◌, ◌≤◌, ◌==◌, min, nat_lt, not, cond, ⊎_elim, pos, negsuc, ◌+ℤ◌, ◌*ℤ◌, false, true, List, [], ◌∷◌, Option, Some, None, refl, ap, ◌∙◌, arith, add-mul}
use Rattle.std.specs.Prelude.{option_map}
use Rattle.std.specs.Int.{int_min}
use Rattle.std.proofs.Math.Nat.{mul-le-mul_right}
use Rattle.std.proofs.lemmas.Bool.{eq-eqb, cases_lt}
use Rattle.std.proofs.lemmas.Int.{ints, clamps}
use Rattle.affine_maps.specs.Shape.{MapShape}
use Rattle.mlir_ir.specs.declared.tree.Op.{Op}
use Rattle.mlir_ir.specs.declared.tree.OpId.{OpId}
use Rattle.mlir_ir.specs.declared.tree.OpKind.{OpKind, InsertSlice, ParallelInsert}
use Rattle.mlir_ir.specs.declared.tree.Ty.{Ty}
use Rattle.mlir_ir.specs.declared.tree.ValueId.{ValueId}
use Rattle.mlir_ir.specs.declared.tree.Idx.{Idx}
use Rattle.mlir_meaning.specs.Loops.{insertions_of, output_of, insertion_noted}
use Rattle.mlir_meaning.specs.Meaning.{kind_meaning, run, places_in, least_result}
use Rattle.mlir_meaning.specs.Moves.{insert_into}
use Rattle.mlir_meaning.specs.States.{State, Ends, made, then_goes, set, grid_of, width_of}
use Rattle.mlir_meaning.specs.declared.values.Grid.{Grid}
use Rattle.mlir_meaning.specs.declared.values.Datum.{Datum}
use Rattle.mlir_meaning.specs.declared.values.Datum.TheVariants.{Cells}
use Rattle.point_laws.specs.Tiles.{tile_count}
use Rattle.region_laws.specs.Nests.{ended, noted, yield_of}
use Rattle.point_laws.proofs.Ragged.{tile_begins}
use Rattle.mlir_meaning.proofs.States.{set_same, set_other}

module _ (s : State) (width : ℕ) (made_tile : Option Grid) (id : OpId) (kind : OpKind) (q : ValueId) (tq : Ty) (makes : kind_meaning kind ((q, tq) ∷ []) s ≡ made ((q, tq) ∷ []) s (option_map (Cells width) made_tile)) where
  abbrev tiled_op : Op
  tiled_op = record { id = id; results = (q, tq) ∷ []; kind = kind }

  -- its insertion and the yield
  pub inserts_tile : (g : Grid) (id' id'' : OpId) (z dest : ValueId) (tz : Ty) (offsets sizes : List Idx) (oo : List ℕ) →
      s.values dest.0 ≡ Cells width g → (dest.0 == q.0) ≡ false → ((d : Datum) → places_in (set s.values q.0 d) offsets ≡ oo) →
      run (tiled_op ∷ record { id = id'; results = (z, tz) ∷ []; kind = InsertSlice q dest offsets sizes } ∷ yield_of id'' z ∷ []) s ≡ ended (Cells width) (option_map (λ t. insert_into t oo g) made_tile)
  unfolding kind_meaning run
  inserts_tile g id' id'' z dest tz offsets sizes oo at_dest new at_offsets =
      ap (λ o. then_goes o (run (record { id = id'; results = (z, tz) ∷ []; kind = InsertSlice q dest offsets sizes } ∷ yield_of id'' z ∷ []))) makes ∙ last made_tile
    where
      last : (o : Option Grid) → then_goes (made ((q, tq) ∷ []) s (option_map (Cells width) o)) (run (record { id = id'; results = (z, tz) ∷ []; kind = InsertSlice q dest offsets sizes } ∷ yield_of id'' z ∷ []))
          ≡ ended (Cells width) (option_map (λ t. insert_into t oo g) o)
      last None = refl
      last (Some t) =
          let e : ℕ → Datum = set s.values q.0 (Cells width t) in
          let u : State = record { values = e; shared = s.shared; inserts = s.inserts } in
          let dest_is : e dest.0 ≡ Cells width g = set_other s.values q.0 dest.0 (Cells width t) new ∙ at_dest in
          (λ j. then_goes (made ((z, tz) ∷ []) u (Some (Cells (width_of (dest_is j)) (insert_into (grid_of (set_same s.values q.0 (Cells width t) j)) (at_offsets (Cells width t) j) (grid_of (dest_is j))))))
          (run (yield_of id'' z ∷ [])))
          ∙ (λ j. Ends (set_same e z.0 (Cells width (insert_into t oo g)) j ∷ []))

  -- the yield alone, where the output isn't sliced
  pub yields_tile : (id' : OpId) → run (tiled_op ∷ yield_of id' q ∷ []) s ≡ ended (Cells width) made_tile
  unfolding kind_meaning run
  yields_tile id' = ap (λ o. then_goes o (run (yield_of id' q ∷ []))) makes ∙ last made_tile
    where
      last : (o : Option Grid) → then_goes (made ((q, tq) ∷ []) s (option_map (Cells width) o)) (run (yield_of id' q ∷ [])) ≡ ended (Cells width) o
      last None = refl
      last (Some t) = λ j. Ends (set_same s.values q.0 (Cells width t) j ∷ [])

  -- the insertion of a `scf.forall`
  pub notes_tile : (id' : OpId) (dest : ValueId) (offsets sizes : List Idx) (oo : List ℕ) → s.shared ≡ dest ∷ [] → s.inserts ≡ [] → ((d : Datum) → places_in (set s.values q.0 d) offsets ≡ oo) →
      insertions_of (run (tiled_op ∷ record { id = id'; results = []; kind = ParallelInsert q dest offsets sizes } ∷ []) s) ≡ noted oo made_tile
  unfolding kind_meaning run
  notes_tile id' dest offsets sizes oo shares none at_offsets =
      ap (λ o. insertions_of (then_goes o (run (record { id = id'; results = []; kind = ParallelInsert q dest offsets sizes } ∷ [])))) makes ∙ last made_tile
    where
      last : (o : Option Grid) → insertions_of (then_goes (made ((q, tq) ∷ []) s (option_map (Cells width) o)) (run (record { id = id'; results = []; kind = ParallelInsert q dest offsets sizes } ∷ []))) ≡ noted oo o
      last None = refl
      last (Some t) =
          let u : State = record { values = set s.values q.0 (Cells width t); shared = s.shared; inserts = s.inserts } in
          let is_dest : (dest.0 == dest.0) ≡ true = eq-eqb dest.0 dest.0 refl in
          let first : output_of u dest ≡ Some 0 =
          (λ j. output_of (record { values = u.values; shared = shares j; inserts = u.inserts }) dest)
          ∙ (λ j. cond (nat_lt (cond (not (is_dest j)) 1 0) 1) (Some (cond (not (is_dest j)) 1 0)) None) in
          λ j. insertions_of (then_goes
          (insertion_noted (first j) (grid_of (set_same s.values q.0 (Cells width t) j)) (at_offsets (Cells width t) j) (record { values = u.values; shared = s.shared; inserts = none j })) (run []))

-- THE SIZE OF A TILE
-- where it is computed, from an extent that is a number, and from one that is a value
abbrev fixed_map : ℕ → ℕ → MapShape
fixed_map extent size = record { dims = 1; results = record { constant = pos extent; terms = (0, negsuc 0) ∷ [] } ∷ record { constant = pos size; terms = [] } ∷ [] }

abbrev value_map : ℕ → MapShape
value_map size = record { dims = 2; results = record { constant = pos 0; terms = (0, negsuc 0) ∷ (1, pos 1) ∷ [] } ∷ record { constant = pos size; terms = [] } ∷ [] }

lesser : (a b : ℕ) → int_min (pos a) (pos b) ≡ pos (min a b)
lesser a b = omega (arith, ints, clamps)

pub size_fixed : (extent size o : ℕ) → o ≤ extent → least_result (fixed_map extent size) (pos o ∷ []) ≡ pos (min (extent - o) size)
size_fixed extent size o h =
    let rest : pos extent +ℤ ((negsuc 0 *ℤ pos o) +ℤ pos 0) ≡ pos (extent - o) = omega (arith, ints) in
    let itself : pos size +ℤ pos 0 ≡ pos size = omega (arith, ints) in
    (λ j. int_min (rest j) (itself j)) ∙ lesser (extent - o) size

pub size_value : (extent size o : ℕ) → o ≤ extent → least_result (value_map size) (pos o ∷ pos extent ∷ []) ≡ pos (min (extent - o) size)
size_value extent size o h =
    let rest : pos 0 +ℤ ((negsuc 0 *ℤ pos o) +ℤ ((pos 1 *ℤ pos extent) +ℤ pos 0)) ≡ pos (extent - o) = omega (arith, ints) in
    let itself : pos size +ℤ pos 0 ≡ pos size = omega (arith, ints) in
    (λ j. int_min (rest j) (itself j)) ∙ lesser (extent - o) size

-- where the size divides the extent, it is the size itself
pub size_divides : (count size k : ℕ) → 0 < size → k < tile_count (count * size) size → min (count * size - k * size) size ≡ size
size_divides count size k h l =
    let begins : k * size < count * size = tile_begins (count * size) size k h l in
    let less : k < count = ⊎_elim (λ c. c) (λ c. absurd (omega (arith, mul-le-mul_right {m = count} {n = k} size c))) (cases_lt k count) in
    omega (arith, mul-le-mul_right {m = k + 1} {n = count} size (omega arith), add-mul k 1 size)
