-- One instance: out[i] += a[i + j] * b[j] over 4 by 3 in tiles of 2 by 3, by a `scf.forall`; a is sliced through `d0 + d1`, and b is used whole.
use Rattle.std.proofs.Common.{◌≡◌, ℕ, zero, suc, ◌+◌, ◌-◌, ◌*◌, ◌<◌, ◌==◌, min, nat_lt, pos, Bool, List, [], ◌∷◌, ◌++◌, Option, Some, None, if◌then◌else◌, inl, refl, sym, ◌∙◌, arith}
use Rattle.std.proofs.lemmas.Bool.{false≢true}
use Rattle.affine_maps.specs.Shape.{MapShape}
use Rattle.affine_maps.specs.declared.map.Expr.{Expr}
use Rattle.payload_ops.specs.Shape.{PayloadShape}
use Rattle.payload_ops.specs.declared.kinds.BinOp.TheVariants.{Addi, Muli}
use Rattle.mlir_base.specs.declared.types.ElemTy.TheVariants.{Int}
use Rattle.payload_ops.specs.declared.step.Arg.TheVariants.{Input, Out, Step}
use Rattle.payload_ops.specs.declared.step.StepOp.TheVariants.{Binary}
use Rattle.mlir_ir.specs.declared.tree.Op.{Op}
use Rattle.mlir_ir.specs.declared.tree.OpKind.{Forall, ParallelInsert}
use Rattle.mlir_ir.specs.declared.tree.Iter.{Iter}
use Rattle.mlir_ir.specs.declared.tree.Iter.TheVariants.{Parallel, Reduction}
use Rattle.mlir_ir.specs.declared.tree.Extent.TheVariants.{Fixed}
use Rattle.mlir_ir.specs.declared.tree.Ty.{Ty}
use Rattle.mlir_ir.specs.declared.tree.Ty.TheVariants.{Tensor}
use Rattle.mlir_ir.specs.declared.tree.ValueId.{ValueId}
use Rattle.mlir_ir.specs.declared.tree.Idx.TheVariants.{Literal, Value}
use Rattle.mlir_meaning.specs.Grids.{InBox}
use Rattle.mlir_meaning.specs.Loops.{ForallHead, forall_state, insertions_of}
use Rattle.mlir_meaning.specs.Meaning.{kind_meaning, run}
use Rattle.mlir_meaning.specs.Points.{to_nat, select_map}
use Rattle.mlir_meaning.specs.States.{State, made, number_of}
use Rattle.mlir_meaning.specs.Structured.{generic_step, operand_extent}
use Rattle.mlir_meaning.specs.declared.values.Grid.{Grid}
use Rattle.mlir_meaning.specs.declared.values.Datum.TheVariants.{Cells}
use Rattle.point_laws.specs.Tiles.{counts, cut_dims, tile_offsets, tile_sizes, is_cut}
use Rattle.point_laws.specs.Boxes.{picks}
use Rattle.region_laws.specs.Operands.{maps_of, IsThere, CutsOutput}
use Rattle.region_laws.specs.Nests.{TileLoop, Begins, noted}
use Rattle.region_laws.specs.TileLoops.{started_tile}
use Rattle.region_laws.specs.Bodies.{Slice, slice_op, slice_ops, tiled_kind}
use Rattle.region_laws.proofs.Foralls.{begins}
use Rattle.region_laws.proofs.Leaves.{size_divides}
use Rattle.point_laws.proofs.Cuts.{tile_cut}
use Rattle.region_laws.proofs.Stays.{still_is}
use Rattle.region_laws.proofs.Stated.{typed_instance, notes_one, tile_forall_is}
use Rattle.region_laws.specs.Instances.{Instance, IsTypedInstance, result_of}
use Rattle.region_laws.specs.Bodies.{TileBody, Names}

abbrev pub a : Grid
a = record { extents = 6 ∷ []; cells = 1 ∷ 2 ∷ 3 ∷ 4 ∷ 5 ∷ 6 ∷ [] }

abbrev pub b : Grid
b = record { extents = 3 ∷ []; cells = 7 ∷ 8 ∷ 9 ∷ [] }

abbrev pub out : Grid
out = record { extents = 4 ∷ []; cells = 10 ∷ 20 ∷ 30 ∷ 40 ∷ [] }

abbrev pub v : ℕ → ValueId
v n = record { 0 = n }

abbrev pub u : State
u = record { values = λ n. if n == 0 then Cells 32 a else if n == 1 then Cells 32 b else Cells 32 out; shared = []; inserts = [] }

abbrev pub N : ℕ → Bool
N n = nat_lt n 10

abbrev pub box : List ℕ
box = 4 ∷ 3 ∷ []

abbrev pub ts : List ℕ
ts = 2 ∷ 0 ∷ []

abbrev pub ds : List ℕ
ds = 0 ∷ []

abbrev sum : Expr
sum = record { constant = pos 0; terms = (0, pos 1) ∷ (1, pos 1) ∷ [] }

abbrev pub ms : List MapShape
ms = record { dims = 2; results = sum ∷ [] } ∷ select_map 2 (1 ∷ []) ∷ []

abbrev pub multiply_add : PayloadShape
multiply_add = record {
  ins = Int 32 ∷ Int 32 ∷ [];
  out = Int 32;
  steps = record { ty = Int 32; op = Binary Muli (Input 0) (Input 1) } ∷ record { ty = Int 32; op = Binary Addi Out (Step 0) } ∷ [];
  yielded = Step 1;
}

abbrev pub its : List Iter
its = Parallel ∷ Reduction ∷ []

abbrev pub t4 : Ty
t4 = Tensor (Fixed 4 ∷ []) 32

abbrev head : ForallHead
head = record { vars = v 11 ∷ []; lower = Literal (pos 0) ∷ []; upper = Literal (pos 4) ∷ []; step = Literal (pos 2) ∷ []; shared = (v 12, t4, v 2) ∷ [] }

abbrev pub slice_a : Slice
slice_a = record { id = record { 0 = 18 }; result = v 18; ty = t4; offsets = Value (v 11) ∷ []; sizes = Literal (pos 4) ∷ [] }

abbrev pub slice_out : Slice
slice_out = record { id = record { 0 = 19 }; result = v 19; ty = t4; offsets = Value (v 11) ∷ []; sizes = Literal (pos 2) ∷ [] }

abbrev pub inputs : List (ValueId × Option Slice)
inputs = (v 0, Some slice_a) ∷ (v 1, None) ∷ []

abbrev body : List Op
body =
    slice_ops inputs
    ++ (slice_op (v 12) slice_out ∷ record { id = record { 0 = 20 }; results = (v 20, t4) ∷ []; kind = tiled_kind box (is_cut ts) ms ds its inputs (v 19) [] multiply_add }
    ∷ record { id = record { 0 = 21 }; results = []; kind = ParallelInsert (v 20) (v 12) slice_out.offsets slice_out.sizes } ∷ [])

abbrev pub step : ℕ → List ℕ → Option ℕ
step = generic_step (maps_of ms box ds) (Cells 32 a ∷ Cells 32 b ∷ []) [] multiply_add

lt : (m n : ℕ) → m < m + (n + 1)
lt m n = omega arith

abbrev pub window : Instance
window = record { box = box; maps = ms; ds = ds; ins = Cells 32 a ∷ Cells 32 b ∷ []; width = 32; out = out; captured = []; payload = multiply_add }

abbrev pub tile_body : TileBody
tile_body = record {
  inputs = inputs;
  iterators = its;
  kind = λ o. tiled_kind box (is_cut ts) ms ds its inputs o [] multiply_add;
  names = [];
  captured = [];
  payload = multiply_add;
}

abbrev pub made_names : Names
made_names = record { id = record { 0 = 20 }; result = v 20; ty = t4; insertion = record { 0 = 21 }; inserted = v 20; inserted_ty = t4; end = record { 0 = 21 } }

pub typed : IsTypedInstance window
typed = typed_instance window (record {
  inputs = ((((refl, ((refl, lt 0 1), ((refl, lt 1 0), tt))), tt), (inl (lt 5 0), tt)), ((((refl, ((refl, lt 1 0), tt)), tt), ((lt 1 0, refl), tt)), tt));
  selects = (lt 0 1, tt);
  extents = refl;
  alone = alone;
})
  where
    alone : (d : ℕ) → d < 2 → IsThere (operand_extent d (maps_of ms box ds) (Cells 32 a ∷ Cells 32 b ∷ Cells 32 out ∷ []))
    alone zero l = tt
    alone (suc zero) l = tt
    alone (suc (suc d)) l = absurd (omega arith)

pub cuts : CutsOutput (is_cut ts) box ds
cuts zero l h = refl
cuts (suc zero) l h = absurd (false≢true h)
cuts (suc (suc d)) l h = absurd (omega arith)

loop : TileLoop (cut_dims box ts) u head
loop = record { lower = refl; upper = refl; step = refl }

-- what is known in the body
abbrev pub M : ℕ → Bool
M n = nat_lt n 13

notes : (q : List ℕ) → InBox (counts (cut_dims box ts)) q → insertions_of (run body (forall_state u head q)) ≡ noted (picks ds (tile_offsets box ts q)) (started_tile step box ts ds out q)
notes [] h = absurd h
notes (k ∷ l ∷ q) h = absurd h.1
notes (k ∷ []) h =
    let s : State = forall_state u head (k ∷ []) in
    let begin : Begins N u (cut_dims box ts) (v 11 ∷ []) (v 12) (Cells 32 out) (k ∷ []) s = begins N u (cut_dims box ts) (v 11 ∷ []) head.lower head.upper head.step (v 12) (v 2) t4 (k ∷ []) loop refl (refl, tt) in
    let two : min (4 - k * 2) 2 ≡ 2 = size_divides 2 2 k (omega arith) h.0 in
    let at_offset : k * 2 ≡ 0 + (1 * (k * 2) + (1 * 0 + 0)) = omega arith in
    notes_one window (is_cut ts) (tile_offsets box ts (k ∷ [])) (tile_sizes box ts (k ∷ [])) M s tile_body (record {
      typed = typed;
      rank = refl;
      within = tile_cut box ts (k ∷ []) h;
      body = record {
        slices = (
          refl,
          begin.knows 0 refl,
          (refl, (λ w e. (λ j. to_nat (number_of ((e 11 refl ∙ begin.vars.0) j)) ∷ []) ∙ (λ j. at_offset j ∷ [])), (λ w e. λ j. ((1 * (sym two j - 1) + (1 * (3 - 1) + 0)) + 1) ∷ [])),
          refl,
          (refl, begin.knows 1 refl, refl, tt, tt),
        );
        captures = λ w e. refl;
        moves = still_is multiply_add box (tile_offsets box ts (k ∷ [])) (tile_sizes box ts (k ∷ [])) [] (tile_cut box ts (k ∷ []) h).fits (tt, (tt, tt));
      };
      means = λ w rs o x e f h. refl;
    })
    (v 12) out slice_out (record {
      known = refl;
      holds = begin.start;
      slice = record {
        offsets = λ w e. λ j. to_nat (number_of ((e 11 refl ∙ begin.vars.0) j)) ∷ [];
        sizes = λ w e. λ j. sym two j ∷ [];
        new = refl;
        other = ((λ e. absurd (omega arith)), ((λ e. absurd (omega arith)), tt));
      };
    })
    made_names refl begin.shared begin.inserts

pub convolved : kind_meaning (Forall (v 11 ∷ []) (Literal (pos 0) ∷ []) (Literal (pos 4) ∷ []) (Literal (pos 2) ∷ []) ((v 12, t4, v 2) ∷ []) body) ((v 10, t4) ∷ []) u
    ≡ made ((v 10, t4) ∷ []) u (result_of window)
convolved =
    tile_forall_is window ts typed refl cuts u (v 11 ∷ []) head.lower head.upper head.step (v 12) (v 2) t4 body ((v 10, t4) ∷ []) loop refl notes
