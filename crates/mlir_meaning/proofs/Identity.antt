-- The tree with the same numbers is the tree itself.
use Rattle.std.proofs.Common.{◌≡◌, ℕ, List, [], ◌∷◌, Option, Some, None, refl}
use Rattle.mlir_ir.specs.declared.tree.Op.{Op}
use Rattle.mlir_ir.specs.declared.tree.Ty.{Ty}
use Rattle.mlir_ir.specs.declared.tree.ValueId.{ValueId}
use Rattle.mlir_ir.specs.declared.tree.Idx.{Idx}
use Rattle.mlir_ir.specs.declared.tree.Idx.TheVariants.{Literal, Value}
use Rattle.mlir_ir.specs.declared.tree.OpKind.{OpKind, Constant, Apply, Least, Empty, ExtractSlice, InsertSlice, Pad, Generic, Fill, Matmul, BatchMatmul, Transpose, Broadcast, Pack, Unpack, For', Forall', Yield, ParallelInsert, CreateMask, TransferRead, TransferWrite, Elementwise, MultiReduction, Return, Row_of-Op, end_of-Op, more_of-Op}
use Rattle.mlir_meaning.specs.Renaming.{values, indices, optional, defined, arguments_renamed, renamed, renamed_row, renamed_ops}

abbrev pub same : ℕ → ℕ
same n = n

pub values-id : (vs : List ValueId) → values same vs ≡ vs
values-id [] = refl
values-id (v ∷ vs) = λ j. v ∷ values-id vs j

pub indices-id : (is : List Idx) → indices same is ≡ is
indices-id [] = refl
indices-id (Literal n ∷ is) = λ j. Literal n ∷ indices-id is j
indices-id (Value v ∷ is) = λ j. Value v ∷ indices-id is j

optional-id : (v : Option ValueId) → optional same v ≡ v
optional-id None = refl
optional-id (Some v) = refl

pub defined-id : (rs : List (ValueId × Ty)) → defined same same same rs ≡ rs
defined-id [] = refl
defined-id (r ∷ rs) = λ j. r ∷ defined-id rs j

pub arguments-id : (c : List (ValueId × Ty × ValueId)) → arguments_renamed same same same c ≡ c
arguments-id [] = refl
arguments-id (c ∷ cs) = λ j. c ∷ arguments-id cs j

mutual
  unfolding renamed

  pub renamed-id : (kind : OpKind) → renamed same same same kind ≡ kind
  renamed-id (Constant cells) = refl
  renamed-id (Apply m args) = λ j. Apply m (values-id args j)
  renamed-id (Least m args) = λ j. Least m (values-id args j)
  renamed-id (Empty sizes) = λ j. Empty (values-id sizes j)
  renamed-id (ExtractSlice source offsets sizes) = λ j. ExtractSlice source (indices-id offsets j) (indices-id sizes j)
  renamed-id (InsertSlice source dest offsets sizes) = λ j. InsertSlice source dest (indices-id offsets j) (indices-id sizes j)
  renamed-id (Pad source high padding) = λ j. Pad source (indices-id high j) padding
  renamed-id (Generic maps iterators ins outs captured payload) = λ j. Generic maps iterators (values-id ins j) outs (values-id captured j) payload
  renamed-id (Fill v outs) = refl
  renamed-id (Matmul a b outs) = refl
  renamed-id (BatchMatmul a b outs) = refl
  renamed-id (Transpose source outs order) = refl
  renamed-id (Broadcast source outs dims) = refl
  renamed-id (Pack source dest padding dims tiles) = λ j. Pack source dest (optional-id padding j) dims tiles
  renamed-id (Unpack source dest dims tiles) = refl
  renamed-id (For' var lower upper step carried shape row) = λ j. For' var lower upper step (arguments-id carried j) shape (row-id row j)
  renamed-id (Forall' vars lower upper step shared shape row) =
      λ j. Forall' (values-id vars j) (indices-id lower j) (indices-id upper j) (indices-id step j) (arguments-id shared j) shape (row-id row j)
  renamed-id (Yield vs) = λ j. Yield (values-id vs j)
  renamed-id (ParallelInsert source dest offsets sizes) = λ j. ParallelInsert source dest (indices-id offsets j) (indices-id sizes j)
  renamed-id (CreateMask sizes) = λ j. CreateMask (values-id sizes j)
  renamed-id (TransferRead source offsets padding mask m) = λ j. TransferRead source (values-id offsets j) padding (optional-id mask j) m
  renamed-id (TransferWrite v dest offsets mask m) = λ j. TransferWrite v dest (values-id offsets j) (optional-id mask j) m
  renamed-id (Elementwise op args) = λ j. Elementwise op (values-id args j)
  renamed-id (MultiReduction kind source acc dims) = refl
  renamed-id (Return vs) = λ j. Return (values-id vs j)

  pub row-id : {n : _} (row : Row_of-Op n) → renamed_row same same same row ≡ row
  row-id end_of-Op = refl
  row-id (more_of-Op id rs kind rest) = λ j. more_of-Op id (defined-id rs j) (renamed-id kind j) (row-id rest j)

pub ops-id : (os : List Op) → renamed_ops same same same os ≡ os
ops-id [] = refl
ops-id (o ∷ os) = λ j. record { id = o.id; results = defined-id o.results j; kind = renamed-id o.kind j } ∷ ops-id os j
