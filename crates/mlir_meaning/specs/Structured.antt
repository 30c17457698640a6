-- Structured operations: `linalg.generic`, and the named operations as the generics that they are (Linalg manual).
use Rattle.std.specs.Prelude.{ℕ, ◌==◌, nat_lt, List, [], ◌∷◌, ◌++◌, map, fold, filter, length, replicate, Option, Some, None, option_map, option_and_then, unwrap_or, if◌then◌else◌, slice_index_or}
use Rattle.affine_maps.specs.Shape.{MapShape}
use Rattle.affine_maps.specs.Map.{identity_of}
use Rattle.affine_maps.specs.declared.map.Expr.{Expr}
use Rattle.payload_ops.specs.Shape.{PayloadShape}
use Rattle.payload_ops.specs.Values.{payload_value}
use Rattle.mlir_base.specs.declared.types.ElemTy.TheVariants.{Int}
use Rattle.payload_ops.specs.declared.kinds.BinOp.TheVariants.{Addi, Muli, Andi, Ori}
use Rattle.payload_ops.specs.declared.step.Arg.{Arg}
use Rattle.payload_ops.specs.declared.step.Arg.TheVariants.{Input, Out, Step}
use Rattle.payload_ops.specs.declared.step.StepOp.{StepOp}
use Rattle.payload_ops.specs.declared.step.StepOp.TheVariants.{Binary, SignExtend}
use Rattle.payload_ops.specs.declared.step.PayloadStep.{PayloadStep}
use Rattle.mlir_ir.specs.Count.{first}
use Rattle.mlir_ir.specs.declared.tree.Iter.{Iter}
use Rattle.mlir_ir.specs.declared.tree.OpKind.{OpKind, Generic}
use Rattle.mlir_ir.specs.declared.tree.ValueId.{ValueId}
use Rattle.mlir_ir.specs.declared.tree.Iter.TheVariants.{Parallel, Reduction}
use Rattle.mlir_meaning.specs.Grids.{Grid, points, at, settled, same_point, count_up}
use Rattle.mlir_meaning.specs.Points.{map_point, selects, kept, place_of, select_map}
use Rattle.mlir_meaning.specs.States.{Datum, Cells, grid_of, width_of, element}

-- THE BOX: the extent of a dimension is that of an axis that it alone selects
abbrev pub axis_extent : ℕ → List Expr → List ℕ → Option ℕ
axis_extent d (e ∷ es) (x ∷ xs) = if selects d e then Some x else axis_extent d es xs
axis_extent d _ _ = None

abbrev pub operand_extent : ℕ → List MapShape → List Datum → Option ℕ
operand_extent d (m ∷ ms) (x ∷ xs) = first (axis_extent d m.results (grid_of x).extents) (operand_extent d ms xs)
operand_extent d _ _ = None

abbrev pub generic_box : List MapShape → ℕ → List Datum → List ℕ
generic_box maps dims operands = map (λ d. unwrap_or (operand_extent d maps operands) 0) (count_up 0 dims)

-- THE FOLD
-- the element of each input at a point
abbrev pub elements : List Datum → List MapShape → List ℕ → List ℕ
elements (x ∷ xs) (m ∷ ms) p = element x (map_point m p) ∷ elements xs ms p
elements _ _ p = []

-- the output's element after one point, from the element before it
abbrev pub generic_step : List MapShape → List Datum → List ℕ → PayloadShape → ℕ → List ℕ → Option ℕ
generic_step maps ins captured payload out p =
    payload_value payload (record { point = p; outer = captured; ins = elements ins maps p; out = out })

-- from an element, through points in order; None is the trap of one of them
abbrev pub fold_points : (ℕ → List ℕ → Option ℕ) → List (List ℕ) → ℕ → Option ℕ
fold_points step ps a = fold (λ o p. option_and_then (λ b. step b p) o) (Some a) ps

-- the element at e: the fold over the points that the output's map takes to e, in lexicographic order
abbrev pub generic_element : (List ℕ → List ℕ) → (ℕ → List ℕ → Option ℕ) → List ℕ → Grid → List ℕ → Option ℕ
generic_element out_point step box out e = fold_points step (filter (λ p. same_point (out_point p) e) (points box)) (at out e)

-- the map of the output stands after those of the inputs
abbrev pub output_map : List MapShape → List Datum → MapShape
output_map maps ins = slice_index_or maps (length ins) (record { dims = 0; results = [] })

-- the result over so many dimensions, and None for the trap (Linalg manual, "linalg.generic"): an index without points keeps its element
unfoldable pub generic_result : List MapShape → ℕ → List Datum → Datum → List ℕ → PayloadShape → Option Datum
generic_result maps dims ins out captured payload =
    let box = generic_box maps dims (ins ++ out ∷ []) in
    let step = generic_step maps ins captured payload in
    option_map (Cells (width_of out)) (settled (grid_of out).extents (generic_element (map_point (output_map maps ins)) step box (grid_of out)))

-- THE NAMED OPERATIONS
-- the maps, the iterators and the payload of a generic
pub record Form : Type 0 where
  pub maps : List MapShape
  pub iterators : List Iter
  pub payload : PayloadShape

-- the generic of this form
abbrev pub generic_of : Form → List ValueId → ValueId → OpKind
generic_of f ins outs = Generic f.maps f.iterators ins outs [] f.payload

abbrev pub form_result : Form → List Datum → Datum → Option Datum
form_result f ins out = generic_result f.maps (length f.iterators) ins out [] f.payload

-- a payload of one input, of the output's width, that yields it
abbrev pub copying : ℕ → PayloadShape
copying width = record { ins = Int width ∷ []; out = Int width; steps = []; yielded = Input 0 }

-- the scalar at each point (Linalg manual, "linalg.fill")
unfoldable pub fill_form : ℕ → ℕ → Form
fill_form width rank = record {
  maps = select_map rank [] ∷ identity_of rank ∷ [];
  iterators = replicate rank Parallel;
  payload = copying width;
}

-- axis k of the output is axis `order[k]` of the input (Linalg manual, "linalg.transpose")
unfoldable pub transpose_form : ℕ → List ℕ → Form
transpose_form width order =
    let rank = length order in
    record {
      maps = select_map rank (map (λ axis. place_of axis 0 order) (count_up 0 rank)) ∷ identity_of rank ∷ [];
      iterators = replicate rank Parallel;
      payload = copying width;
    }

-- the axes in `added` are those that the input hasn't (Linalg manual, "linalg.broadcast")
unfoldable pub broadcast_form : ℕ → ℕ → List ℕ → Form
broadcast_form width rank added = record {
  maps = select_map rank (kept added 0 (count_up 0 rank)) ∷ identity_of rank ∷ [];
  iterators = replicate rank Parallel;
  payload = copying width;
}

abbrev pub step_of : ℕ → StepOp → PayloadStep
step_of width op = record { ty = Int width; op = op }

-- the output's element plus the product of inputs of `narrow` bits, sign-extended where they are narrower; for i1 `or` and `and`
abbrev pub multiply_add_steps : ℕ → ℕ → List PayloadStep
multiply_add_steps narrow width =
    if width == 1 then step_of 1 (Binary Andi (Input 0) (Input 1)) ∷ step_of 1 (Binary Ori Out (Step 0)) ∷ []
    else if nat_lt narrow width then
    step_of width (SignExtend (Input 0)) ∷ step_of width (SignExtend (Input 1)) ∷ step_of width (Binary Muli (Step 0) (Step 1))
    ∷ step_of width (Binary Addi Out (Step 2)) ∷ []
    else step_of width (Binary Muli (Input 0) (Input 1)) ∷ step_of width (Binary Addi Out (Step 0)) ∷ []

-- the last step is yielded
abbrev pub last_step : List PayloadStep → Arg
last_step [] = Out
last_step (s ∷ rest) = Step (length rest)

abbrev pub multiply_add : ℕ → ℕ → PayloadShape
multiply_add narrow width =
    let steps = multiply_add_steps narrow width in
    record { ins = Int narrow ∷ Int narrow ∷ []; out = Int width; steps = steps; yielded = last_step steps }

-- over (d0, d1, d2), (d0, d2) times (d2, d1) into (d0, d1) (Linalg manual, "linalg.matmul")
unfoldable pub matmul_form : ℕ → ℕ → Form
matmul_form narrow width = record {
  maps = select_map 3 (0 ∷ 2 ∷ []) ∷ select_map 3 (2 ∷ 1 ∷ []) ∷ select_map 3 (0 ∷ 1 ∷ []) ∷ [];
  iterators = Parallel ∷ Parallel ∷ Reduction ∷ [];
  payload = multiply_add narrow width;
}

-- the same with one more leading parallel dimension (Linalg manual, "linalg.batch_matmul")
unfoldable pub batch_matmul_form : ℕ → ℕ → Form
batch_matmul_form narrow width = record {
  maps = select_map 4 (0 ∷ 1 ∷ 3 ∷ []) ∷ select_map 4 (0 ∷ 3 ∷ 2 ∷ []) ∷ select_map 4 (0 ∷ 1 ∷ 2 ∷ []) ∷ [];
  iterators = Parallel ∷ Parallel ∷ Parallel ∷ Reduction ∷ [];
  payload = multiply_add narrow width;
}

abbrev pub rank_of : Datum → ℕ
rank_of d = length (grid_of d).extents

abbrev pub fill_result : Datum → Datum → Option Datum
fill_result value out = form_result (fill_form (width_of out) (rank_of out)) (value ∷ []) out

abbrev pub matmul_result : Datum → Datum → Datum → Option Datum
matmul_result a b out = form_result (matmul_form (width_of a) (width_of out)) (a ∷ b ∷ []) out

abbrev pub batch_matmul_result : Datum → Datum → Datum → Option Datum
batch_matmul_result a b out = form_result (batch_matmul_form (width_of a) (width_of out)) (a ∷ b ∷ []) out

abbrev pub transpose_result : List ℕ → Datum → Datum → Option Datum
transpose_result order source out = form_result (transpose_form (width_of out) order) (source ∷ []) out

abbrev pub broadcast_result : List ℕ → Datum → Datum → Option Datum
broadcast_result added source out = form_result (broadcast_form (width_of out) (rank_of out) added) (source ∷ []) out
