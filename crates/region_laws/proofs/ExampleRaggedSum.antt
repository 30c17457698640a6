-- One instance: out[i] += a[i, j] over 5 by 3 in tiles of 2 by 2, with all its operations, by two loops.
use Rattle.std.proofs.Common.{◌≡◌, ℕ, zero, suc, ◌+◌, ◌-◌, ◌*◌, ◌<◌, ◌≤◌, ◌==◌, min, nat_lt, pos, negsuc, ◌^◌, Bool, true, List, [], ◌∷◌, ◌++◌, map, Option, Some, if◌then◌else◌, inr, refl, sym, ◌∙◌, arith}
use Rattle.std.proofs.lemmas.Bool.{le-leb}
use Rattle.affine_maps.specs.Shape.{MapShape}
use Rattle.payload_ops.specs.Bits.{on_values}
use Rattle.payload_ops.specs.Shape.{PayloadShape}
use Rattle.payload_ops.specs.Values.{op_value}
use Rattle.payload_ops.specs.declared.kinds.BinOp.TheVariants.{Addi}
use Rattle.payload_ops.specs.declared.kinds.Combiner.TheVariants.{Add}
use Rattle.mlir_base.specs.declared.types.ElemTy.TheVariants.{Int, Index}
use Rattle.payload_ops.specs.declared.step.Arg.TheVariants.{Input, Out, Step}
use Rattle.payload_ops.specs.declared.step.StepOp.TheVariants.{Binary}
use Rattle.mlir_ir.specs.declared.tree.Op.{Op}
use Rattle.mlir_ir.specs.declared.tree.OpKind.{InsertSlice, Least}
use Rattle.mlir_ir.specs.declared.tree.Iter.{Iter}
use Rattle.mlir_ir.specs.declared.tree.Iter.TheVariants.{Parallel, Reduction}
use Rattle.mlir_ir.specs.declared.tree.Extent.TheVariants.{Fixed}
use Rattle.mlir_ir.specs.declared.tree.Ty.{Ty}
use Rattle.mlir_ir.specs.declared.tree.Ty.TheVariants.{Scalar, Tensor}
use Rattle.mlir_ir.specs.declared.tree.ValueId.{ValueId}
use Rattle.mlir_ir.specs.declared.tree.Idx.TheVariants.{Value}
use Rattle.mlir_meaning.specs.Grids.{points, InBox}
use Rattle.mlir_meaning.specs.Meaning.{kind_meaning, run}
use Rattle.mlir_meaning.specs.Points.{to_nat, select_map}
use Rattle.mlir_meaning.specs.States.{State, made, number_of, is_index}
use Rattle.mlir_meaning.specs.Structured.{generic_result, generic_step, operand_extent}
use Rattle.mlir_meaning.specs.declared.values.Grid.{Grid}
use Rattle.mlir_meaning.specs.declared.values.Datum.TheVariants.{Number, Cells}
use Rattle.point_laws.specs.Tiles.{counts, cut_dims, tile_box, tile_offsets, tile_sizes, is_cut}
use Rattle.region_laws.specs.Operands.{maps_of, IsThere}
use Rattle.region_laws.specs.Nests.{Level, Knows, InTurn, ended, yield_of}
use Rattle.region_laws.specs.TileLoops.{nest_op, sliced_tile}
use Rattle.region_laws.specs.Bodies.{Builds, after, Slice, slice_op, slice_ops, tiled_kind}
use Rattle.region_laws.proofs.Building.{builds_least, builds_then}
use Rattle.region_laws.proofs.Leaves.{size_fixed}
use Rattle.point_laws.proofs.Cuts.{tile_cut}
use Rattle.region_laws.proofs.Outputs.{output_offsets, output_sizes}
use Rattle.point_laws.proofs.Ragged.{tile_begins}
use Rattle.region_laws.proofs.Stays.{still_is}
use Rattle.region_laws.proofs.TileLoops.{sliced_adds}
use Rattle.region_laws.proofs.Stated.{typed_instance, does_tile, tile_for}
use Rattle.region_laws.specs.Instances.{Instance, IsTypedInstance, result_of}
use Rattle.region_laws.specs.Bodies.{TileBody, Names}

abbrev a : Grid
a = record { extents = 5 ∷ 3 ∷ []; cells = 1 ∷ 2 ∷ 3 ∷ 4 ∷ 5 ∷ 6 ∷ 7 ∷ 8 ∷ 9 ∷ 10 ∷ 11 ∷ 12 ∷ 13 ∷ 14 ∷ 15 ∷ [] }

abbrev out : Grid
out = record { extents = 5 ∷ []; cells = 10 ∷ 20 ∷ 30 ∷ 40 ∷ 50 ∷ [] }

abbrev v : ℕ → ValueId
v n = record { 0 = n }

-- %0 and %1 are the tensors, and %2 to %5 the numbers 0, 5, 3 and 2
abbrev u : State
u = record {
  values = λ n. if n == 0 then Cells 32 a else if n == 1 then Cells 32 out else if n == 2 then Number (pos 0) else if n == 3 then Number (pos 5) else if n == 4 then Number (pos 3) else Number (pos 2);
  shared = [];
  inserts = [];
}

abbrev N : ℕ → Bool
N n = nat_lt n 10

abbrev box : List ℕ
box = 5 ∷ 3 ∷ []

abbrev ts : List ℕ
ts = 2 ∷ 2 ∷ []

abbrev ds : List ℕ
ds = 0 ∷ []

abbrev ms : List MapShape
ms = select_map 2 (0 ∷ 1 ∷ []) ∷ []

abbrev add : PayloadShape
add = record { ins = Int 32 ∷ []; out = Int 32; steps = record { ty = Int 32; op = Binary Addi (Input 0) Out } ∷ []; yielded = Step 0 }

abbrev its : List Iter
its = Parallel ∷ Reduction ∷ []

abbrev t5 : Ty
t5 = Tensor (Fixed 5 ∷ []) 32

abbrev outer : Level
outer = record { id = record { 0 = 10 }; result = v 10; var = v 11; upper = v 3; step = v 5; arg = v 12; end = record { 0 = 90 } }

abbrev deep : Level
deep = record { id = record { 0 = 13 }; result = v 13; var = v 14; upper = v 4; step = v 5; arg = v 15; end = record { 0 = 91 } }

abbrev fixed : ℕ → ℕ → MapShape
fixed e t = record { dims = 1; results = record { constant = pos e; terms = (0, negsuc 0) ∷ [] } ∷ record { constant = pos t; terms = [] } ∷ [] }

abbrev size_op : ℕ → ℕ → ℕ → Op
size_op n e var = record { id = record { 0 = n }; results = (v n, Scalar Index) ∷ []; kind = Least (fixed e 2) (v var ∷ []) }

abbrev slice_a : Slice
slice_a = record { id = record { 0 = 18 }; result = v 18; ty = t5; offsets = Value (v 11) ∷ Value (v 14) ∷ []; sizes = Value (v 16) ∷ Value (v 17) ∷ [] }

abbrev slice_out : Slice
slice_out = record { id = record { 0 = 19 }; result = v 19; ty = t5; offsets = Value (v 11) ∷ []; sizes = Value (v 16) ∷ [] }

abbrev body : List Op
body =
    (size_op 16 5 11 ∷ size_op 17 3 14 ∷ [])
    ++ (slice_ops ((v 0, Some slice_a) ∷ [])
    ++ (slice_op (v 15) slice_out ∷ record { id = record { 0 = 20 }; results = (v 20, t5) ∷ []; kind = tiled_kind box (is_cut ts) ms ds its ((v 0, Some slice_a) ∷ []) (v 19) [] add }
    ∷ record { id = record { 0 = 21 }; results = (v 21, t5) ∷ []; kind = InsertSlice (v 20) (v 15) slice_out.offsets slice_out.sizes } ∷ yield_of (record { 0 = 22 }) (v 21) ∷ []))

abbrev step : ℕ → List ℕ → Option ℕ
step = generic_step (maps_of ms box ds) (Cells 32 a ∷ []) [] add

lt : (m n : ℕ) → m < m + (n + 1)
lt m n = omega arith

abbrev sums : Instance
sums = record { box = box; maps = ms; ds = ds; ins = Cells 32 a ∷ []; width = 32; out = out; captured = []; payload = add }

abbrev tile_body : TileBody
tile_body = record {
  inputs = (v 0, Some slice_a) ∷ [];
  iterators = its;
  kind = λ o. tiled_kind box (is_cut ts) ms ds its ((v 0, Some slice_a) ∷ []) o [] add;
  names = [];
  captured = [];
  payload = add;
}

abbrev made_names : Names
made_names = record { id = record { 0 = 20 }; result = v 20; ty = t5; insertion = record { 0 = 21 }; inserted = v 21; inserted_ty = t5; end = record { 0 = 22 } }

typed : IsTypedInstance sums
typed = typed_instance sums (record {
  inputs = ((((refl, ((refl, lt 0 1), tt)), ((refl, ((refl, lt 1 0), tt)), tt)), ((lt 0 1, refl), ((lt 1 0, refl), tt))), tt);
  selects = (lt 0 1, tt);
  extents = refl;
  alone = alone;
})
  where
    alone : (d : ℕ) → d < 2 → IsThere (operand_extent d (maps_of ms box ds) (Cells 32 a ∷ Cells 32 out ∷ []))
    alone zero l = tt
    alone (suc zero) l = tt
    alone (suc (suc d)) l = absurd (omega arith)

-- what is known behind the sizes
abbrev M : ℕ → Bool
M n = nat_lt n 18

module _ (k1 k2 : ℕ) (s : State) (cells : List ℕ) (b : InBox (counts (cut_dims box ts)) (k1 ∷ k2 ∷ [])) (knows : Knows N u s) (turn : InTurn (cut_dims box ts) (outer ∷ deep ∷ []) (k1 ∷ k2 ∷ []) s)
    (at_arg : s.values 15 ≡ Cells 32 (record { extents = 5 ∷ []; cells = cells })) where
  abbrev q : List ℕ
  q = k1 ∷ k2 ∷ []

  abbrev n1 : ℕ
  n1 = min (5 - k1 * 2) 2

  abbrev n2 : ℕ
  n2 = min (3 - k2 * 2) 2

  abbrev s1 : State
  s1 = after s (v 16) (Number (pos n1))

  abbrev t : State
  t = after s1 (v 17) (Number (pos n2))

  two : 0 < 2
  two = omega arith

  small : (n : ℕ) → n ≤ 2 → is_index (pos n) ≡ true
  small n h = le-leb n (2 ^ 62) (omega arith)

  sizes : Builds N s (size_op 16 5 11 ∷ size_op 17 3 14 ∷ []) t
  sizes =
      builds_then N N s s1 t (size_op 16 5 11 ∷ []) (size_op 17 3 14 ∷ []) (λ w h. h)
      (builds_least N s (record { 0 = 16 }) (v 16) (Scalar Index) (fixed 5 2) (v 11 ∷ []) (pos (k1 * 2) ∷ []) (pos n1) refl (λ j. number_of (turn.0 j) ∷ [])
      (size_fixed 5 2 (k1 * 2) (omega (arith, tile_begins 5 2 k1 two b.0))) (small n1 (omega arith)))
      (builds_least N s1 (record { 0 = 17 }) (v 17) (Scalar Index) (fixed 3 2) (v 14 ∷ []) (pos (k2 * 2) ∷ []) (pos n2) refl (λ j. number_of (turn.1.0 j) ∷ [])
      (size_fixed 3 2 (k2 * 2) (omega (arith, tile_begins 3 2 k2 two b.1.0))) (small n2 (omega arith)))

  body_runs : run body s ≡ ended (Cells 32) (sliced_tile step box ts ds q (record { extents = 5 ∷ []; cells = cells }))
  body_runs =
      let c = tile_cut box ts q b in
      sizes.runs _
      ∙ does_tile sums (is_cut ts) (tile_offsets box ts q) (tile_sizes box ts q) M t tile_body (record {
        typed = typed;
        rank = refl;
        within = c;
        body = record {
          slices = (
            refl,
            knows 0 refl,
            (
              refl,
              (λ w k. (λ j. to_nat (number_of ((k 11 refl ∙ turn.0) j)) ∷ to_nat (number_of ((k 14 refl ∙ turn.1.0) j)) ∷ []) ∙ sym (output_offsets (is_cut ts) box (tile_offsets box ts q) (tile_sizes box ts q) c (0 ∷ 1 ∷ []))),
              (λ w k. (λ j. to_nat (number_of (k 16 refl j)) ∷ to_nat (number_of (k 17 refl j)) ∷ []) ∙ sym (output_sizes (is_cut ts) box (tile_offsets box ts q) (tile_sizes box ts q) c (0 ∷ 1 ∷ []) (lt 0 1, (lt 1 0, tt)))),
            ),
            refl,
            tt,
          );
          captures = λ w k. refl;
          moves = still_is add box (tile_offsets box ts q) (tile_sizes box ts q) [] c.fits (tt, tt);
        };
        means = λ w rs o x e f h. refl;
      })
      (v 15) (record { extents = 5 ∷ []; cells = cells }) slice_out (record {
        known = refl;
        holds = at_arg;
        slice = record {
          offsets = λ w k. λ j. to_nat (number_of ((k 11 refl ∙ turn.0) j)) ∷ [];
          sizes = λ w k. λ j. to_nat (number_of (k 16 refl j)) ∷ [];
          new = refl;
          other = ((λ e. absurd (omega arith)), tt);
        };
      })
      made_names refl

runs : (q : List ℕ) (s : State) (cells : List ℕ) → InBox (counts (cut_dims box ts)) q → Knows N u s → InTurn (cut_dims box ts) (outer ∷ deep ∷ []) q s → s.values 15 ≡ Cells 32 (record { extents = 5 ∷ []; cells = cells }) →
    run body s ≡ ended (Cells 32) (sliced_tile step box ts ds q (record { extents = 5 ∷ []; cells = cells }))
runs (k1 ∷ k2 ∷ []) s cells b knows turn at_arg = body_runs k1 k2 s cells b knows turn at_arg
runs [] s cells b knows turn at_arg = absurd b
runs (k ∷ []) s cells b knows turn at_arg = absurd b.1
runs (k ∷ l ∷ m ∷ q) s cells b knows turn at_arg = absurd b.1.1

pub summed_rows : kind_meaning (nest_op (v 2) t5 outer (deep ∷ []) body (v 1)).kind ((v 10, t5) ∷ []) u
    ≡ made ((v 10, t5) ∷ []) u (result_of sums)
summed_rows =
    tile_for sums ts typed refl (sliced_tile step box ts ds) (sliced_adds step box ts ds (lt 0 1, tt)) N u (v 2) t5 outer (deep ∷ []) (v 1) body
    (record { low = (refl, refl); bounds = (lt 0 1, (refl, refl), (refl, refl), (lt 0 1, (refl, refl), (refl, refl), tt)); new = (refl, refl, (refl, refl, tt)); runs = runs; start = refl })
    (inr (record { is = refl; combiner = Add; term = Input 0; found = refl }))

-- both are these numbers
pub rows_are : result_of sums ≡ Some (Cells 32 (record { extents = 5 ∷ []; cells = 16 ∷ 35 ∷ 54 ∷ 73 ∷ 92 ∷ [] }))
unfolding generic_result op_value on_values
rows_are = refl

-- tables of tiles: ragged, with sizes past the extents, with extents of 0, and whole where there is no size
tiles_ragged : map {B = List ℕ × List ℕ} (λ q. (tile_offsets box ts q, tile_sizes box ts q)) (points (tile_box box ts))
    ≡ (0 ∷ 0 ∷ [], 2 ∷ 2 ∷ []) ∷ (0 ∷ 2 ∷ [], 2 ∷ 1 ∷ []) ∷ (2 ∷ 0 ∷ [], 2 ∷ 2 ∷ []) ∷ (2 ∷ 2 ∷ [], 2 ∷ 1 ∷ []) ∷ (4 ∷ 0 ∷ [], 1 ∷ 2 ∷ []) ∷ (4 ∷ 2 ∷ [], 1 ∷ 1 ∷ []) ∷ []
tiles_ragged = refl

tiles_past : map {B = List ℕ × List ℕ} (λ q. (tile_offsets box (9 ∷ []) q, tile_sizes box (9 ∷ []) q)) (points (tile_box box (9 ∷ []))) ≡ (0 ∷ 0 ∷ [], 5 ∷ 3 ∷ []) ∷ []
tiles_past = refl

tiles_none : points (tile_box (0 ∷ 3 ∷ []) (2 ∷ 2 ∷ [])) ≡ []
tiles_none = refl
