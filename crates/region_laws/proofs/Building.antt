-- Operations before the tiled operation, one after another, and the slices of its operands.
use Rattle.std.proofs.Common.{◌≡◌, ℕ, ◌==◌, ◌||◌, ℤ, Bool, true, false, List, [], ◌∷◌, ◌++◌, Option, Some, None, refl, ap, sym, ◌∙◌, append_assoc}
use Rattle.std.specs.Prelude.{if◌then◌else◌}
use Rattle.std.proofs.lemmas.Bool.{eq-eqb}
use Rattle.affine_maps.specs.Shape.{MapShape}
use Rattle.mlir_ir.specs.declared.tree.Op.{Op}
use Rattle.mlir_ir.specs.declared.tree.OpId.{OpId}
use Rattle.mlir_ir.specs.declared.tree.OpKind.{OpKind, Least, Apply, ExtractSlice}
use Rattle.mlir_ir.specs.declared.tree.Ty.{Ty}
use Rattle.mlir_ir.specs.declared.tree.ValueId.{ValueId}
use Rattle.mlir_meaning.specs.Meaning.{kind_meaning, run, values_in, numbers_in, places_in, least_result}
use Rattle.mlir_meaning.specs.Moves.{slice_of}
use Rattle.mlir_meaning.specs.States.{State, Goes, Fails, defines, then_goes, is_index, grid_of, width_of}
use Rattle.mlir_meaning.specs.declared.answer.Fault.TheVariants.{Stuck}
use Rattle.mlir_meaning.specs.declared.values.Grid.{Grid}
use Rattle.mlir_meaning.specs.declared.values.Datum.{Datum}
use Rattle.mlir_meaning.specs.declared.values.Datum.TheVariants.{Number, Bits, Cells}
use Rattle.region_laws.specs.Nests.{Knows, with_value}
use Rattle.region_laws.specs.Operands.{offsets_of, sizes_of, operand_tile, operand_tiles}
use Rattle.region_laws.specs.Bodies.{Builds, after, Slice, slice_op, slice_ops, slice_names, IsSliceOf, grown, IsNewSlice, AreSlicesOf}
use Rattle.point_laws.proofs.Lists.{or_right}
use Rattle.mlir_meaning.proofs.States.{set_same, set_other, apart}

-- ONE AFTER ANOTHER
pub builds_none : (N : ℕ → Bool) (s : State) → Builds N s [] s
builds_none N s = record { runs = λ rest. refl; knows = λ v h. refl; shared = refl; inserts = refl }

pub builds_then : (N M : ℕ → Bool) (s t u : State) (xs ys : List Op) → ((v : ℕ) → N v ≡ true → M v ≡ true) → Builds N s xs t → Builds M t ys u → Builds N s (xs ++ ys) u
builds_then N M s t u xs ys more a b = record {
  runs = λ rest. ap (λ l. run l s) (append_assoc xs ys rest) ∙ a.runs (ys ++ rest) ∙ b.runs rest;
  knows = λ v h. b.knows v (more v h) ∙ a.knows v h;
  shared = b.shared ∙ a.shared;
  inserts = b.inserts ∙ a.inserts;
}

-- one operation with a new result
pub builds_one : (N : ℕ → Bool) (s : State) (id : OpId) (v : ValueId) (ty : Ty) (kind : OpKind) (d : Datum) → N v.0 ≡ false → kind_meaning kind ((v, ty) ∷ []) s ≡ Goes (after s v d) →
    Builds N s (record { id = id; results = (v, ty) ∷ []; kind = kind } ∷ []) (after s v d)
unfolding run
builds_one N s id v ty kind d new is = record {
  runs = λ rest. ap (λ o. then_goes o (run rest)) is;
  knows = λ w h. set_other s.values v.0 w d (apart N v.0 w new h);
  shared = refl;
  inserts = refl;
}

-- the size of a tile, or an offset: an `affine.min` or an `affine.apply` within the range of an index
indexed_is : (s : State) (v : ValueId) (ty : Ty) (kind : OpKind) (m : MapShape) (args : List ValueId) (numbers : List ℤ) (n : ℤ) → numbers_in s.values args ≡ numbers → least_result m numbers ≡ n → is_index n ≡ true →
    (if is_index (least_result m (numbers_in s.values args)) then defines ((v, ty) ∷ []) s (Number (least_result m (numbers_in s.values args)) ∷ []) else Fails Stuck) ≡ Goes (after s v (Number n))
indexed_is s v ty kind m args numbers n are is small =
    let whole : least_result m (numbers_in s.values args) ≡ n = ap (least_result m) are ∙ is in
    (λ j. if is_index (whole j) then defines ((v, ty) ∷ []) s (Number (whole j) ∷ []) else Fails Stuck)
    ∙ (λ j. if small j then Goes (after s v (Number n)) else Fails Stuck)

pub builds_least : (N : ℕ → Bool) (s : State) (id : OpId) (v : ValueId) (ty : Ty) (m : MapShape) (args : List ValueId) (numbers : List ℤ) (n : ℤ) → N v.0 ≡ false →
    numbers_in s.values args ≡ numbers → least_result m numbers ≡ n → is_index n ≡ true → Builds N s (record { id = id; results = (v, ty) ∷ []; kind = Least m args } ∷ []) (after s v (Number n))
unfolding kind_meaning
builds_least N s id v ty m args numbers n new are is small = builds_one N s id v ty (Least m args) (Number n) new (indexed_is s v ty (Least m args) m args numbers n are is small)

pub builds_apply : (N : ℕ → Bool) (s : State) (id : OpId) (v : ValueId) (ty : Ty) (m : MapShape) (args : List ValueId) (numbers : List ℤ) (n : ℤ) → N v.0 ≡ false →
    numbers_in s.values args ≡ numbers → least_result m numbers ≡ n → is_index n ≡ true → Builds N s (record { id = id; results = (v, ty) ∷ []; kind = Apply m args } ∷ []) (after s v (Number n))
unfolding kind_meaning
builds_apply N s id v ty m args numbers n new are is small = builds_one N s id v ty (Apply m args) (Number n) new (indexed_is s v ty (Apply m args) m args numbers n are is small)

-- SLICES
pub builds_slice : (N : ℕ → Bool) (s : State) (source : ValueId) (c : Slice) (width : ℕ) (g : Grid) (os ns : List ℕ) → N c.result.0 ≡ false →
    s.values source.0 ≡ Cells width g → places_in s.values c.offsets ≡ os → places_in s.values c.sizes ≡ ns → Builds N s (slice_op source c ∷ []) (after s c.result (Cells width (slice_of g os ns)))
unfolding kind_meaning
builds_slice N s source c width g os ns new is at_offsets at_sizes =
    builds_one N s c.id c.result c.ty (ExtractSlice source c.offsets c.sizes) (Cells width (slice_of g os ns)) new
    (λ j. Goes (after s c.result (Cells (width_of (is j)) (slice_of (grid_of (is j)) (at_offsets j) (at_sizes j)))))

-- the operands' slices, of which the values are the operands' tiles
pub record BuildsTiles (seen : ℕ → Bool) (u : State) (tiles : List Datum) (fs : List (ValueId × Option Slice)) : Type 0 where
  pub state : State
  pub builds : Builds seen u (slice_ops fs) state
  pub tiled : values_in state.values (slice_names fs) ≡ tiles

module _ (N : ℕ → Bool) (s : State) (cut : ℕ → Bool) (os ns : List ℕ) where
  slice_first : (seen : ℕ → Bool) (m : MapShape) (x : Datum) (v : ValueId) (o : Option Slice) (ts : List Datum) (fs : List (ValueId × Option Slice)) → ((w : ℕ) → N w ≡ true → seen w ≡ true) →
      N v.0 ≡ true → s.values v.0 ≡ x → IsSliceOf N s cut os ns m x o → IsNewSlice seen o → (u : State) → Knows N s u →
      (((w : ℕ) → N w ≡ true → grown seen o w ≡ true) → (t : State) → Knows N s t → BuildsTiles (grown seen o) t ts fs) → BuildsTiles seen u (operand_tile cut os ns m x ∷ ts) ((v, o) ∷ fs)
  slice_first seen m (Cells width g) v None ts fs more there is unsliced new u knows rest =
      let r : BuildsTiles seen u ts fs = rest more u knows in
      record {
        state = r.state;
        builds = r.builds;
        tiled = λ j. ((r.builds.knows v.0 (more v.0 there) ∙ knows v.0 there ∙ is) ∙ (λ i. if sym unsliced i then Cells width (slice_of g (offsets_of cut os m.results) (sizes_of cut ns m.results g.extents)) else Cells width g)) j ∷ r.tiled j;
      }
  slice_first seen m (Cells width g) v (Some c) ts fs more there is sl new u knows rest =
      let d : Datum = Cells width (slice_of g (offsets_of cut os m.results) (sizes_of cut ns m.results g.extents)) in
      let t : State = after u c.result d in
      let first : Builds seen u (slice_op v c ∷ []) t = builds_slice seen u v c width g (offsets_of cut os m.results) (sizes_of cut ns m.results g.extents) new (knows v.0 there ∙ is) (sl.1 u knows) (sl.2 u knows) in
      let r : BuildsTiles (with_value seen c.result) t ts fs = rest (λ w h. or_right (w == c.result.0) (seen w) (more w h)) t (λ w h. first.knows w (more w h) ∙ knows w h) in
      record {
        state = r.state;
        builds = builds_then seen (with_value seen c.result) u t r.state (slice_op v c ∷ []) (slice_ops fs) (λ w h. or_right (w == c.result.0) (seen w) h) first r.builds;
        tiled = λ j. ((r.builds.knows c.result.0 (λ i. eq-eqb c.result.0 c.result.0 refl i || seen c.result.0) ∙ set_same u.values c.result.0 d)
            ∙ (λ i. if sym sl.0 i then d else Cells width g)) j ∷ r.tiled j;
      }
  slice_first seen m (Number n) v None ts fs more there is unsliced new u knows rest =
      let r : BuildsTiles seen u ts fs = rest more u knows in
      record { state = r.state; builds = r.builds; tiled = λ j. (r.builds.knows v.0 (more v.0 there) ∙ knows v.0 there ∙ is) j ∷ r.tiled j }
  slice_first seen m (Bits n) v None ts fs more there is unsliced new u knows rest =
      let r : BuildsTiles seen u ts fs = rest more u knows in
      record { state = r.state; builds = r.builds; tiled = λ j. (r.builds.knows v.0 (more v.0 there) ∙ knows v.0 there ∙ is) j ∷ r.tiled j }
  slice_first seen m (Number n) v (Some c) ts fs more there is sl new u knows rest = absurd sl
  slice_first seen m (Bits n) v (Some c) ts fs more there is sl new u knows rest = absurd sl

  pub builds_tiles : (seen : ℕ → Bool) (ms : List MapShape) (xs : List Datum) (fs : List (ValueId × Option Slice)) → ((w : ℕ) → N w ≡ true → seen w ≡ true) → AreSlicesOf N s cut os ns seen ms xs fs →
      (u : State) → Knows N s u → BuildsTiles seen u (operand_tiles cut os ns ms xs) fs
  builds_tiles seen [] [] [] more h u knows = record { state = u; builds = builds_none seen u; tiled = refl }
  builds_tiles seen (m ∷ ms) (x ∷ xs) (f ∷ fs) more h u knows =
      slice_first seen m x f.0 f.1 (operand_tiles cut os ns ms xs) fs more h.0 h.1 h.2 h.3 u knows (λ more' t k. builds_tiles (grown seen f.1) ms xs fs more' h.4 t k)
  builds_tiles seen [] (x ∷ xs) fs more h u knows = absurd h
  builds_tiles seen [] [] (f ∷ fs) more h u knows = absurd h
  builds_tiles seen (m ∷ ms) [] fs more h u knows = absurd h
  builds_tiles seen (m ∷ ms) (x ∷ xs) [] more h u knows = absurd h
