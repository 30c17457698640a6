-- A module with the numbers of its canonical text: operations and values in the order in which it defines them, through all functions.
use Rattle.std.specs.Prelude.{ℕ, suc, ◌+◌, List, [], ◌∷◌, map, length, unwrap_or}
use Rattle.mlir_ir.specs.declared.tree.Ty.{Ty}
use Rattle.mlir_ir.specs.declared.tree.ValueId.{ValueId}
use Rattle.mlir_ir.specs.declared.tree.OpKind.{OpKind}
use Rattle.mlir_ir.specs.declared.tree.OpKind.TheVariants as kinds
use Rattle.mlir_ir.specs.declared.tree.Op.{Op}
use Rattle.mlir_ir.specs.declared.tree.Module.{Module}
use Rattle.mlir_ir.specs.Shape.{FuncShape}
use Rattle.mlir_print.specs.Names.{Names, Row, spot}
use Rattle.mlir_print.specs.Operations.{next}
use Rattle.mlir_print.specs.Canonical.{names_in, after_ops}

-- a value's number, where those of its function begin at `base`; one that isn't defined has that of the first
abbrev pub number_in : ℕ → List Row → ValueId → ValueId
number_in base rows v = record { 0 = unwrap_or (spot base rows v.0) base }

-- of the kinds that today's grammar has; the others stay as they are
abbrev pub kind_renumbered : (ValueId → ValueId) → OpKind → OpKind
kind_renumbered f (kinds.Empty sizes) = kinds.Empty (map f sizes)
kind_renumbered f (kinds.Generic maps its ins out captured p) = kinds.Generic maps its (map f ins) (f out) (map f captured) p
kind_renumbered f (kinds.Fill v out) = kinds.Fill (f v) (f out)
kind_renumbered f (kinds.Matmul a b out) = kinds.Matmul (f a) (f b) (f out)
kind_renumbered f (kinds.BatchMatmul a b out) = kinds.BatchMatmul (f a) (f b) (f out)
kind_renumbered f (kinds.Transpose a out order) = kinds.Transpose (f a) (f out) order
kind_renumbered f (kinds.Broadcast a out dims) = kinds.Broadcast (f a) (f out) dims
kind_renumbered f (kinds.Return vs) = kinds.Return (map f vs)
kind_renumbered f k = k

-- from v on
abbrev pub results_renumbered : ℕ → List (ValueId × Ty) → List (ValueId × Ty)
results_renumbered v [] = []
results_renumbered v (r ∷ rs) = (record { 0 = v }, r.1) ∷ results_renumbered (suc v) rs

abbrev pub op_renumbered : ℕ → ℕ → Names → Op → Op
op_renumbered base k n o = record { id = record { 0 = k }; results = results_renumbered (length n.rows + base) o.results; kind = kind_renumbered (number_in base n.rows) o.kind }

abbrev pub ops_renumbered : ℕ → ℕ → Names → List Op → List Op
ops_renumbered base k n [] = []
ops_renumbered base k n (o ∷ os) = op_renumbered base k n o ∷ ops_renumbered base (suc k) (next n o) os

abbrev pub func_renumbered : ℕ → ℕ → FuncShape → FuncShape
func_renumbered base k f = record { name = f.name; params = results_renumbered base f.params; results = f.results; body = ops_renumbered base k (names_in f) f.body }

abbrev pub values_in : FuncShape → ℕ
values_in f = length (after_ops (names_in f) f.body).rows

abbrev pub funcs_renumbered : ℕ → ℕ → List FuncShape → List FuncShape
funcs_renumbered base k [] = []
funcs_renumbered base k (f ∷ fs) = func_renumbered base k f ∷ funcs_renumbered (base + values_in f) (k + length f.body) fs

abbrev pub renumbered : Module → Module
renumbered m = record { funcs = funcs_renumbered 0 0 m.funcs }
