-- The tree with other numbers for its operations, for the values that it uses, and for those that it defines.
use Rattle.std.specs.Prelude.{ℕ, List, map, Option, Some, None}
use Rattle.mlir_ir.specs.Shape.{FuncShape}
use Rattle.mlir_ir.specs.declared.tree.Op.{Op}
use Rattle.mlir_ir.specs.declared.tree.OpId.{OpId}
use Rattle.mlir_ir.specs.declared.tree.Ty.{Ty}
use Rattle.mlir_ir.specs.declared.tree.ValueId.{ValueId}
use Rattle.mlir_ir.specs.declared.tree.Idx.{Idx}
use Rattle.mlir_ir.specs.declared.tree.Idx.TheVariants.{Literal, Value}
use Rattle.mlir_ir.specs.declared.tree.OpKind.{OpKind, Constant, Apply, Least, Empty, ExtractSlice, InsertSlice, Pad, Generic, Fill, Matmul, BatchMatmul, Transpose, Broadcast, Pack, Unpack, For', Forall', Yield, ParallelInsert, CreateMask, TransferRead, TransferWrite, Elementwise, MultiReduction, Return, Row_of-Op, end_of-Op, more_of-Op}
use Rattle.mlir_meaning.specs.Contexts.{Context, Here, InFor, InForall}

module _ (f : ℕ → ℕ) where
  abbrev pub value : ValueId → ValueId
  value v = record { 0 = f v.0 }

  abbrev pub values : List ValueId → List ValueId
  values = map value

  abbrev pub index : Idx → Idx
  index (Literal n) = Literal n
  index (Value v) = Value (value v)

  abbrev pub indices : List Idx → List Idx
  indices = map index

  abbrev pub optional : Option ValueId → Option ValueId
  optional None = None
  optional (Some v) = Some (value v)

-- `ids` for operations, `uses` for operands, `defs` for what is defined. The destination of an insertion of a `scf.forall` names an
-- output that the loop defines.
module _ (ids uses defs : ℕ → ℕ) where
  abbrev pub op_id : OpId → OpId
  op_id o = record { 0 = ids o.0 }

  abbrev pub defined : List (ValueId × Ty) → List (ValueId × Ty)
  defined = map (λ r. (value defs r.0, r.1))

  abbrev pub arguments_renamed : List (ValueId × Ty × ValueId) → List (ValueId × Ty × ValueId)
  arguments_renamed = map (λ c. (value defs c.0, c.1, value uses c.2))

  unfoldable mutual
    pub renamed : OpKind → OpKind
    renamed (Constant cells) = Constant cells
    renamed (Apply m args) = Apply m (values uses args)
    renamed (Least m args) = Least m (values uses args)
    renamed (Empty sizes) = Empty (values uses sizes)
    renamed (ExtractSlice source offsets sizes) = ExtractSlice (value uses source) (indices uses offsets) (indices uses sizes)
    renamed (InsertSlice source dest offsets sizes) =
        InsertSlice (value uses source) (value uses dest) (indices uses offsets) (indices uses sizes)
    renamed (Pad source high padding) = Pad (value uses source) (indices uses high) (value uses padding)
    renamed (Generic maps iterators ins outs captured payload) =
        Generic maps iterators (values uses ins) (value uses outs) (values uses captured) payload
    renamed (Fill v outs) = Fill (value uses v) (value uses outs)
    renamed (Matmul a b outs) = Matmul (value uses a) (value uses b) (value uses outs)
    renamed (BatchMatmul a b outs) = BatchMatmul (value uses a) (value uses b) (value uses outs)
    renamed (Transpose source outs order) = Transpose (value uses source) (value uses outs) order
    renamed (Broadcast source outs dims) = Broadcast (value uses source) (value uses outs) dims
    renamed (Pack source dest padding dims tiles) = Pack (value uses source) (value uses dest) (optional uses padding) dims tiles
    renamed (Unpack source dest dims tiles) = Unpack (value uses source) (value uses dest) dims tiles
    renamed (For' var lower upper step carried shape row) =
        For' (value defs var) (value uses lower) (value uses upper) (value uses step) (arguments_renamed carried) shape (renamed_row row)
    renamed (Forall' vars lower upper step shared shape row) =
        Forall' (values defs vars) (indices uses lower) (indices uses upper) (indices uses step) (arguments_renamed shared) shape (renamed_row row)
    renamed (Yield vs) = Yield (values uses vs)
    renamed (ParallelInsert source dest offsets sizes) =
        ParallelInsert (value uses source) (value defs dest) (indices uses offsets) (indices uses sizes)
    renamed (CreateMask sizes) = CreateMask (values uses sizes)
    renamed (TransferRead source offsets padding mask m) =
        TransferRead (value uses source) (values uses offsets) (value uses padding) (optional uses mask) m
    renamed (TransferWrite v dest offsets mask m) = TransferWrite (value uses v) (value uses dest) (values uses offsets) (optional uses mask) m
    renamed (Elementwise op args) = Elementwise op (values uses args)
    renamed (MultiReduction kind source acc dims) = MultiReduction kind (value uses source) (value uses acc) dims
    renamed (Return vs) = Return (values uses vs)

    pub renamed_row : {n : _} → Row_of-Op n → Row_of-Op n
    renamed_row end_of-Op = end_of-Op
    renamed_row (more_of-Op id results kind rest) = more_of-Op (op_id id) (defined results) (renamed kind) (renamed_row rest)

  abbrev pub renamed_op : Op → Op
  renamed_op o = record { id = op_id o.id; results = defined o.results; kind = renamed o.kind }

  abbrev pub renamed_ops : List Op → List Op
  renamed_ops = map renamed_op

-- a function with other numbers for its operations and its values
abbrev pub renamed_func : (ℕ → ℕ) → (ℕ → ℕ) → FuncShape → FuncShape
renamed_func ids f func = record {
  name = func.name;
  params = defined ids f f func.params;
  results = func.results;
  body = renamed_ops ids f f func.body;
}

-- operations with their uses renamed, and nothing else
abbrev pub reused_ops : (ℕ → ℕ) → List Op → List Op
reused_ops f = renamed_ops (λ n. n) f (λ n. n)

-- a place whose later uses in its own body are renamed
abbrev pub reused_after : (ℕ → ℕ) → Context → Context
reused_after f (Here before after) = Here before (reused_ops f after)
reused_after f (InFor before l inner after) = InFor before l (reused_after f inner) after
reused_after f (InForall before l inner after) = InForall before l (reused_after f inner) after
