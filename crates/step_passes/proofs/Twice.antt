-- Uses that are renamed twice are renamed once.
use Rattle.std.proofs.Common.{◌≡◌, ℕ, List, [], ◌∷◌, Option, Some, None, refl}
use Rattle.mlir_ir.specs.declared.tree.Ty.{Ty}
use Rattle.mlir_ir.specs.declared.tree.ValueId.{ValueId}
use Rattle.mlir_ir.specs.declared.tree.Idx.{Idx}
use Rattle.mlir_ir.specs.declared.tree.Idx.TheVariants.{Literal, Value}
use Rattle.mlir_ir.specs.declared.tree.OpKind.{OpKind, Constant, Apply, Least, Empty, ExtractSlice, InsertSlice, Pad, Generic, Fill, Matmul, BatchMatmul, Transpose, Broadcast, Pack, Unpack, For', Forall', Yield, ParallelInsert, CreateMask, TransferRead, TransferWrite, Elementwise, MultiReduction, Return, Row_of-Op, end_of-Op, more_of-Op}
use Rattle.mlir_meaning.specs.Renaming.{value, values, indices, optional, defined, arguments_renamed, renamed, renamed_row}

module _ (a b : ℕ → ℕ) where
  abbrev both : ℕ → ℕ
  both n = a (b n)

  abbrev same : ℕ → ℕ
  same n = n

  values_twice : (vs : List ValueId) → values a (values b vs) ≡ values both vs
  values_twice [] = refl
  values_twice (v ∷ vs) = λ j. value both v ∷ values_twice vs j

  vars_twice : (vs : List ValueId) → values same (values same vs) ≡ values same vs
  vars_twice [] = refl
  vars_twice (v ∷ vs) = λ j. v ∷ vars_twice vs j

  indices_twice : (is : List Idx) → indices a (indices b is) ≡ indices both is
  indices_twice [] = refl
  indices_twice (Literal n ∷ is) = λ j. Literal n ∷ indices_twice is j
  indices_twice (Value v ∷ is) = λ j. Value (value both v) ∷ indices_twice is j

  optional_twice : (v : Option ValueId) → optional a (optional b v) ≡ optional both v
  optional_twice None = refl
  optional_twice (Some v) = refl

  pub defined_twice : (rs : List (ValueId × Ty)) → defined same a same (defined same b same rs) ≡ defined same both same rs
  defined_twice [] = refl
  defined_twice (r ∷ rs) = λ j. r ∷ defined_twice rs j

  arguments_twice : (c : List (ValueId × Ty × ValueId)) → arguments_renamed same a same (arguments_renamed same b same c) ≡ arguments_renamed same both same c
  arguments_twice [] = refl
  arguments_twice (c ∷ cs) = λ j. (c.0, c.1, value both c.2) ∷ arguments_twice cs j

  abbrev once : ValueId → ValueId
  once = value both

  mutual
    unfolding renamed

    pub renamed_twice : (kind : OpKind) → renamed same a same (renamed same b same kind) ≡ renamed same both same kind
    renamed_twice (Constant cells) = refl
    renamed_twice (Apply m args) = λ j. Apply m (values_twice args j)
    renamed_twice (Least m args) = λ j. Least m (values_twice args j)
    renamed_twice (Empty sizes) = λ j. Empty (values_twice sizes j)
    renamed_twice (ExtractSlice source offsets sizes) = λ j. ExtractSlice (once source) (indices_twice offsets j) (indices_twice sizes j)
    renamed_twice (InsertSlice source dest offsets sizes) = λ j. InsertSlice (once source) (once dest) (indices_twice offsets j) (indices_twice sizes j)
    renamed_twice (Pad source high padding) = λ j. Pad (once source) (indices_twice high j) (once padding)
    renamed_twice (Generic maps iterators ins outs captured payload) = λ j. Generic maps iterators (values_twice ins j) (once outs) (values_twice captured j) payload
    renamed_twice (Fill v outs) = refl
    renamed_twice (Matmul x y outs) = refl
    renamed_twice (BatchMatmul x y outs) = refl
    renamed_twice (Transpose source outs order) = refl
    renamed_twice (Broadcast source outs dims) = refl
    renamed_twice (Pack source dest padding dims tiles) = λ j. Pack (once source) (once dest) (optional_twice padding j) dims tiles
    renamed_twice (Unpack source dest dims tiles) = refl
    renamed_twice (For' var lower upper step carried shape row) = λ j. For' var (once lower) (once upper) (once step) (arguments_twice carried j) shape (row_twice row j)
    renamed_twice (Forall' vars lower upper step shared shape row) =
        λ j. Forall' (vars_twice vars j) (indices_twice lower j) (indices_twice upper j) (indices_twice step j) (arguments_twice shared j) shape (row_twice row j)
    renamed_twice (Yield vs) = λ j. Yield (values_twice vs j)
    renamed_twice (ParallelInsert source dest offsets sizes) = λ j. ParallelInsert (once source) dest (indices_twice offsets j) (indices_twice sizes j)
    renamed_twice (CreateMask sizes) = λ j. CreateMask (values_twice sizes j)
    renamed_twice (TransferRead source offsets padding mask m) = λ j. TransferRead (once source) (values_twice offsets j) (once padding) (optional_twice mask j) m
    renamed_twice (TransferWrite v dest offsets mask m) = λ j. TransferWrite (once v) (once dest) (values_twice offsets j) (optional_twice mask j) m
    renamed_twice (Elementwise op args) = λ j. Elementwise op (values_twice args j)
    renamed_twice (MultiReduction kind source acc dims) = refl
    renamed_twice (Return vs) = λ j. Return (values_twice vs j)

    pub row_twice : {n : _} (row : Row_of-Op n) → renamed_row same a same (renamed_row same b same row) ≡ renamed_row same both same row
    row_twice end_of-Op = refl
    row_twice (more_of-Op id rs kind rest) = λ j. more_of-Op id (defined_twice rs j) (renamed_twice kind j) (row_twice rest j)
