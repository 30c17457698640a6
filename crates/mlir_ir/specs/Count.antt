-- The operations of a tree, their operands, and looking one up. A loop holds its body as a row of operations;
-- `proofs/Trees.antt` gives each definition on the body as a list.
use Rattle.std.specs.Prelude.{ℕ, ◌+◌, List, [], ◌∷◌, ◌++◌, map, Option, Some, None, if◌then◌else◌, ◌==◌, count_by, sum_by, option_to_list}
use Rattle.mlir_ir.specs.Shape.{FuncShape}
use Rattle.mlir_ir.specs.declared.tree.Op.{Op}
use Rattle.mlir_ir.specs.declared.tree.ValueId.{ValueId}
use Rattle.mlir_ir.specs.declared.tree.OpId.{OpId}
use Rattle.mlir_ir.specs.declared.tree.Idx.{Idx}
use Rattle.mlir_ir.specs.declared.tree.Idx.TheVariants.{Literal, Value}
use Rattle.mlir_ir.specs.declared.tree.OpKind.{OpKind, Constant, Apply, Least, Empty, ExtractSlice, InsertSlice, Pad, Generic, Fill, Matmul, BatchMatmul, Transpose, Broadcast, Pack, Unpack, For', Forall', Yield, ParallelInsert, CreateMask, TransferRead, TransferWrite, Elementwise, MultiReduction, Return, Row_of-Op, end_of-Op, more_of-Op}

abbrev mutual
  -- the operations inside an operation of this kind
  pub count_inside : OpKind → ℕ
  count_inside (For' v l u s c shape row) = count_row row
  count_inside (Forall' v l u s c shape row) = count_row row
  count_inside _ = 0

  pub count_row : {n : _} → Row_of-Op n → ℕ
  count_row end_of-Op = 0
  count_row (more_of-Op id results kind rest) = (1 + count_inside kind) + count_row rest

-- the operations of a body, with those inside them
abbrev pub ops_count : List Op → ℕ
ops_count = sum_by (λ o. 1 + count_inside o.kind)

-- the operations of a module's functions
abbrev pub module_count : List FuncShape → ℕ
module_count = sum_by (λ f. ops_count f.body)

-- the values in a list of numbers and values
abbrev pub idx_values : List Idx → List ValueId
idx_values [] = []
idx_values (Literal n ∷ is) = idx_values is
idx_values (Value v ∷ is) = v ∷ idx_values is

-- the operand places of an operation itself, in the order of its fields
abbrev pub operands : OpKind → List ValueId
operands (Constant value) = []
operands (Apply map args) = args
operands (Least map args) = args
operands (Empty sizes) = sizes
operands (ExtractSlice source offsets sizes) = source ∷ idx_values offsets ++ idx_values sizes
operands (InsertSlice source dest offsets sizes) = source ∷ dest ∷ idx_values offsets ++ idx_values sizes
operands (Pad source high value) = source ∷ idx_values high ++ value ∷ []
operands (Generic maps iterators ins outs captured payload) = ins ++ outs ∷ captured
operands (Fill value outs) = value ∷ outs ∷ []
operands (Matmul a b outs) = a ∷ b ∷ outs ∷ []
operands (BatchMatmul a b outs) = a ∷ b ∷ outs ∷ []
operands (Transpose source outs order) = source ∷ outs ∷ []
operands (Broadcast source outs dims) = source ∷ outs ∷ []
operands (Pack source dest value dims tiles) = source ∷ dest ∷ option_to_list value
operands (Unpack source dest dims tiles) = source ∷ dest ∷ []
operands (For' v l u s carried shape row) = l ∷ u ∷ s ∷ map (λ c. c.2) carried
operands (Forall' v l u s shared shape row) = idx_values l ++ idx_values u ++ idx_values s ++ map (λ c. c.2) shared
operands (Yield values) = values
operands (ParallelInsert source dest offsets sizes) = source ∷ dest ∷ idx_values offsets ++ idx_values sizes
operands (CreateMask sizes) = sizes
operands (TransferRead source offsets pad mask map) = source ∷ offsets ++ pad ∷ option_to_list mask
operands (TransferWrite value dest offsets mask map) = value ∷ dest ∷ offsets ++ option_to_list mask
operands (Elementwise op args) = args
operands (MultiReduction kind source acc dims) = source ∷ acc ∷ []
operands (Return values) = values

-- how often a list names v
abbrev pub names : ValueId → List ValueId → ℕ
names v = count_by (λ (w : ValueId). w.0 == v.0)

abbrev mutual
  -- the operand places that name v, in an operation of this kind and inside it
  pub uses_kind : ValueId → OpKind → ℕ
  uses_kind v (For' i l u s c shape row) = names v (operands (For' i l u s c shape row)) + uses_row v row
  uses_kind v (Forall' i l u s c shape row) = names v (operands (Forall' i l u s c shape row)) + uses_row v row
  uses_kind v kind = names v (operands kind)

  pub uses_row : {n : _} → ValueId → Row_of-Op n → ℕ
  uses_row v end_of-Op = 0
  uses_row v (more_of-Op id results kind rest) = uses_kind v kind + uses_row v rest

-- the first answer
abbrev pub first : {A : Type 0} → Option A → Option A → Option A
first (Some a) _ = Some a
first None b = b

abbrev mutual
  -- the first operation of that number inside an operation of this kind, in tree order
  pub find_inside : OpId → OpKind → Option Op
  find_inside i (For' v l u s c shape row) = find_row i row
  find_inside i (Forall' v l u s c shape row) = find_row i row
  find_inside i _ = None

  pub find_row : {n : _} → OpId → Row_of-Op n → Option Op
  find_row i end_of-Op = None
  find_row i (more_of-Op id results kind rest) =
      if id.0 == i.0 then Some (record { id = id; results = results; kind = kind }) else first (find_inside i kind) (find_row i rest)

-- the first in a body, where an operation comes before those inside it
abbrev pub find_op : OpId → List Op → Option Op
find_op i [] = None
find_op i (o ∷ os) = if o.id.0 == i.0 then Some o else first (find_inside i o.kind) (find_op i os)

-- the first in a module's functions
abbrev pub find_in : OpId → List FuncShape → Option Op
find_in i [] = None
find_in i (f ∷ fs) = first (find_op i f.body) (find_in i fs)

-- the uses in a body, with those inside its operations
abbrev pub uses_op : ValueId → List Op → ℕ
uses_op v = sum_by (λ o. uses_kind v o.kind)

-- the uses in a module's functions
abbrev pub uses_in : ValueId → List FuncShape → ℕ
uses_in v = sum_by (λ f. uses_op v f.body)
