-- Where an operation of a module stands, and the types of the values in scope there (LangRef, "Value scoping").
use Rattle.std.specs.Prelude.{ℕ, ◌==◌, Bool, true, false, List, [], ◌∷◌, ◌++◌, Option, Some, None, if◌then◌else◌}
use Rattle.std.specs.List.{flat_map}
use Rattle.mlir_ir.specs.Shape.{FuncShape}
use Rattle.mlir_ir.specs.Count.{first}
use Rattle.mlir_ir.specs.declared.tree.Op.{Op}
use Rattle.mlir_ir.specs.declared.tree.Module.{Module}
use Rattle.mlir_ir.specs.declared.tree.Ty.{Ty}
use Rattle.mlir_ir.specs.declared.tree.ValueId.{ValueId}

-- an operation with what stands before it in tree order, and the rest of its body
pub record Place : Type 0 where
  pub before : List FuncShape
  pub func : FuncShape
  pub earlier : List Op
  pub op : Op
  pub later : List Op

abbrev pub place_at : List FuncShape → FuncShape → List Op → Op → List Op → Place
place_at before f earlier o later = record { before = before; func = f; earlier = earlier; op = o; later = later }

-- the places of the last operations of a function's body
abbrev pub places_of : List Op → List Op → List FuncShape → FuncShape → List Place
places_of [] earlier before f = []
places_of (o ∷ os) earlier before f = place_at before f earlier o os ∷ places_of os (earlier ++ o ∷ []) before f

abbrev pub places_from : List FuncShape → List FuncShape → List Place
places_from [] before = []
places_from (f ∷ fs) before = places_of f.body [] before f ++ places_from fs (before ++ f ∷ [])

-- the places of a module in tree order; the inside of a loop isn't entered, since no loop is built
abbrev pub places : Module → List Place
places m = places_from m.funcs []

abbrev pub is_empty : {A : Type 0} → List A → Bool
is_empty [] = true
is_empty (x ∷ xs) = false

abbrev pub is_first : Place → Bool
is_first p = is_empty p.earlier

abbrev pub is_last : Place → Bool
is_last p = is_empty p.later

-- the types of the values in scope, by their numbers
abbrev pub Types : Type 0
Types = ℕ → Option Ty

-- the type that a value has among these definitions; a number that two of them have breaks the rule on numbers
abbrev pub type_among : List (ValueId × Ty) → Types
type_among [] v = None
type_among (d ∷ ds) v = first (type_among ds v) (if (d.0).0 == v then Some d.1 else None)

-- the definitions that the operations of a body may use: the parameters, and the results of operations before
abbrev pub scope_at : FuncShape → List Op → List (ValueId × Ty)
scope_at f earlier = f.params ++ flat_map (λ o. o.results) earlier

abbrev pub type_of : Place → Types
type_of p = type_among (scope_at p.func p.earlier)
