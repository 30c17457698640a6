-- An edit at a place: new operations stand for the one that is there, and later uses of its results are renamed.
use Rattle.std.specs.Prelude.{◌<◌, ℕ, zero, suc, List, [], ◌∷◌, length, Some, IfSome, slice_get}
use Rattle.mlir_ir.specs.Shape.{FuncShape}
use Rattle.mlir_ir.specs.declared.tree.Module.{Module}
use Rattle.mlir_ir.specs.declared.tree.Op.{Op}
use Rattle.verified_runs.specs.Edits.{Edit, placed}
use Rattle.mlir_edits.specs.declared.place.Place.{Place}

-- at position k of a body
abbrev pub replaced : ℕ → Edit → List Op → List Op
replaced k e [] = []
replaced zero e (o ∷ os) = placed (Some e) o os
replaced (suc k) e (o ∷ os) = o ∷ replaced k e os

abbrev pub replaced_func : ℕ → Edit → FuncShape → FuncShape
replaced_func k e f = record { name = f.name; params = f.params; results = f.results; body = replaced k e f.body }

-- at position k of function n
abbrev pub replaced_among : ℕ → ℕ → Edit → List FuncShape → List FuncShape
replaced_among n k e [] = []
replaced_among zero k e (f ∷ fs) = replaced_func k e f ∷ fs
replaced_among (suc n) k e (f ∷ fs) = f ∷ replaced_among n k e fs

abbrev pub replaced_at : Place → Edit → Module → Module
replaced_at p e m = record { funcs = replaced_among p.func p.op e m.funcs }

-- the body at the place isn't empty after the edit
abbrev pub leaves_body : Place → Edit → List FuncShape → Type 0
leaves_body p e fs = IfSome (slice_get fs p.func) (λ f. 0 < length (replaced p.op e f.body))
