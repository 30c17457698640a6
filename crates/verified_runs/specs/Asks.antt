-- What an operation asks of the state in which it runs, so that it reads nothing outside its operands: elements of
-- the widths that it
-- takes, one cell for each point, and each element that a map selects inside its operand (Linalg, "Structured
-- operations").
use Rattle.std.specs.Prelude.{◌≡◌, ℕ, ◌<◌, ◌^◌, true, is_some, slice_index, List, [], ◌∷◌, ◌++◌, length, ⊤}
use Rattle.affine_maps.specs.Shape.{MapShape}
use Rattle.affine_maps.specs.declared.map.Expr.{Expr}
use Rattle.mlir_base.specs.declared.types.ElemTy.{ElemTy}
use Rattle.mlir_base.specs.declared.types.ElemTy.TheVariants.{Int}
use Rattle.payload_ops.specs.Shape.{PayloadShape}
use Rattle.mlir_ir.specs.declared.tree.OpKind.{OpKind, Generic, Fill, Matmul, BatchMatmul, Transpose, Broadcast}
use Rattle.mlir_meaning.specs.Grids.{InBox}
use Rattle.mlir_meaning.specs.Points.{map_point, selects}
use Rattle.mlir_meaning.specs.States.{State, width_of, grid_of}
use Rattle.mlir_meaning.specs.Structured.{Form, operand_extent, generic_box, rank_of, fill_form, matmul_form, batch_matmul_form, transpose_form, broadcast_form}
use Rattle.mlir_meaning.specs.Meaning.{values_in}
use Rattle.mlir_meaning.specs.declared.values.Datum.{Datum}
use Rattle.mlir_meaning.specs.declared.values.Datum.TheVariants.{Bits, Cells}
use Rattle.verified_runs.specs.Typed.{AreCells}

-- a scalar of the type, or a tensor of such elements with one cell for each point
abbrev pub HasElements : ElemTy → Datum → Type 0
HasElements (Int w) (Bits b) = b < 2 ^ w
HasElements (Int w) (Cells v g) = (v ≡ w) × AreCells w g
HasElements _ _ = ⊥

-- of each of the types, one
abbrev pub HaveElements : List ElemTy → List Datum → Type 0
HaveElements [] [] = ⊤
HaveElements (e ∷ es) (d ∷ ds) = HasElements e d × HaveElements es ds
HaveElements _ _ = ⊥

-- the map takes each point of the box into the operand; a scalar has one element
abbrev pub ReadsInside : List ℕ → MapShape → Datum → Type 0
ReadsInside box m (Cells w g) = (p : List ℕ) → InBox box p → InBox g.extents (map_point m p)
ReadsInside box m _ = ⊤

-- each operand by its own map
abbrev pub ReadInside : List ℕ → List MapShape → List Datum → Type 0
ReadInside box [] [] = ⊤
ReadInside box (m ∷ ms) (d ∷ ds) = ReadsInside box m d × ReadInside box ms ds
ReadInside box _ _ = ⊥

-- each axis that dimension d alone selects has this extent
abbrev pub AxesHave : ℕ → ℕ → List Expr → List ℕ → Type 0
AxesHave d n (e ∷ es) (x ∷ xs) = (selects d e ≡ true → x ≡ n) × AxesHave d n es xs
AxesHave d n _ _ = ⊤

abbrev pub AllHave : ℕ → ℕ → List MapShape → List Datum → Type 0
AllHave d n (m ∷ ms) (x ∷ xs) = AxesHave d n m.results (grid_of x).extents × AllHave d n ms xs
AllHave d n _ _ = ⊤

-- the box of a generic is the sizes of its axes: each dimension is alone in some axis, and all such axes have its
-- extent in the box
pub record HasBox (maps : List MapShape) (dims : ℕ) (operands : List Datum) : Type 0 where
  pub agrees : (d : ℕ) → d < dims → AllHave d (slice_index (generic_box maps dims operands) d) maps operands
  pub selected : (d : ℕ) → d < dims → is_some (operand_extent d maps operands) ≡ true

-- what a generic asks of its operands, the output last
pub record AsksOperands (maps : List MapShape) (dims : ℕ) (payload : PayloadShape) (ins : List Datum) (out : Datum) : Type 0 where
  pub inputs : HaveElements payload.ins ins
  pub output : HasElements payload.out out
  pub inside : ReadInside (generic_box maps dims (ins ++ out ∷ [])) maps (ins ++ out ∷ [])
  pub box : HasBox maps dims (ins ++ out ∷ [])

abbrev pub AsksForm : Form → List Datum → Datum → Type 0
AsksForm f ins out = AsksOperands f.maps (length f.iterators) f.payload ins out

-- one case a kind; the other kinds that are built read no element
abbrev pub Asks : OpKind → State → Type 0
Asks (Generic maps iterators ins outs captured payload) s = AsksOperands maps (length iterators) payload (values_in s.values ins) (s.values outs.0)
Asks (Fill value outs) s =
    let out = s.values outs.0 in AsksForm (fill_form (width_of out) (rank_of out)) (s.values value.0 ∷ []) out
Asks (Matmul a b outs) s =
    AsksForm (matmul_form (width_of (s.values a.0)) (width_of (s.values outs.0))) (s.values a.0 ∷ s.values b.0 ∷ []) (s.values outs.0)
Asks (BatchMatmul a b outs) s =
    AsksForm (batch_matmul_form (width_of (s.values a.0)) (width_of (s.values outs.0))) (s.values a.0 ∷ s.values b.0 ∷ []) (s.values outs.0)
Asks (Transpose source outs order) s = AsksForm (transpose_form (width_of (s.values outs.0)) order) (s.values source.0 ∷ []) (s.values outs.0)
Asks (Broadcast source outs dims) s =
    let out = s.values outs.0 in AsksForm (broadcast_form (width_of out) (rank_of out) dims) (s.values source.0 ∷ []) out
Asks kind s = ⊤
