-- V1: numbers of values and operations are unique, and each use is of a value in scope.
use Rattle.std.specs.Prelude.{ℕ, ◌&&◌, ◌||◌, not, is_some, Bool, false, List, [], ◌∷◌, ◌++◌, map}
use Rattle.std.specs.List.{flat_map, list_all}
use Rattle.affine_maps.specs.Permutation.{is_among}
use Rattle.mlir_ir.specs.Shape.{FuncShape}
use Rattle.mlir_ir.specs.Count.{operands}
use Rattle.mlir_ir.specs.declared.tree.Op.{Op}
use Rattle.mlir_ir.specs.declared.tree.OpKind.{OpKind, For', Forall'}
use Rattle.mlir_ir.specs.declared.tree.Ty.{Ty}
use Rattle.mlir_ir.specs.declared.tree.ValueId.{ValueId}
use Rattle.mlir_verify.specs.Place.{Place, Types, is_first, type_of}

-- whether a number is known before, or stands twice
abbrev pub redefines : List ℕ → List ℕ → Bool
redefines [] known = false
redefines (n ∷ ns) known = is_among n known || redefines ns (known ++ n ∷ [])

abbrev pub numbers : List (ValueId × Ty) → List ℕ
numbers = map (λ d. (d.0).0)

-- the arguments of an operation's body, which it defines
abbrev pub arguments : OpKind → List ℕ
arguments (For' var l u s carried shape row) = var.0 ∷ map (λ c. (c.0).0) carried
arguments (Forall' vars l u s shared shape row) = map (λ v. v.0) vars ++ map (λ c. (c.0).0) shared
arguments _ = []

abbrev pub defined_by : Op → List ℕ
defined_by o = numbers o.results ++ arguments o.kind

-- the values that functions define
abbrev pub defined_in : List FuncShape → List ℕ
defined_in = flat_map (λ f. numbers f.params ++ flat_map defined_by f.body)

abbrev pub defined_at : List FuncShape → FuncShape → List Op → List ℕ
defined_at before f earlier = (defined_in before ++ numbers f.params) ++ flat_map defined_by earlier

abbrev pub ids : List Op → List ℕ
ids = map (λ o. o.id.0)

-- the operations that stand before
abbrev pub ids_at : List FuncShape → List Op → List ℕ
ids_at before earlier = flat_map (λ f. ids f.body) before ++ ids earlier

abbrev pub in_scope : Types → List ValueId → Bool
in_scope t = list_all (λ v. is_some (t v.0))

-- a parameter is defined by its function, and stands at the function's first operation
abbrev pub repeats_params : List FuncShape → FuncShape → Bool
repeats_params before f = redefines (numbers f.params) (defined_in before)

-- an operation that repeats a number, or uses a value out of scope; `values` and `ops` are the numbers before
abbrev pub breaks_own_names : Types → Op → List ℕ → List ℕ → Bool
breaks_own_names t o values ops = is_among o.id.0 ops || (not (in_scope t (operands o.kind)) || redefines (defined_by o) values)

unfoldable pub breaks_names : Place → Bool
breaks_names p =
    (is_first p && repeats_params p.before p.func) || breaks_own_names (type_of p) p.op (defined_at p.before p.func p.earlier) (ids_at p.before p.earlier)
