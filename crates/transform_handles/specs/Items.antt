-- The functions and operations of a module, each with what it stands inside, and those that a step matches
-- (Transform manual, "transform.structured.match"; here strictly inside the targets).
use Rattle.std.specs.Prelude.{ℕ, ◌+◌, ◌&&◌, Bool, true, List, [], ◌∷◌, ◌++◌, map, filter}
use Rattle.std.specs.List.{list_any}
use Rattle.mlir_ir.specs.Shape.{FuncShape}
use Rattle.mlir_ir.specs.declared.tree.Op.{Op}
use Rattle.mlir_ir.specs.declared.tree.OpId.{OpId}
use Rattle.mlir_ir.specs.declared.tree.OpKind.{OpKind, For', Forall', Row_of-Op, end_of-Op, more_of-Op}
use Rattle.transform_handles.specs.declared.target.Target.{Target}
use Rattle.transform_handles.specs.declared.target.Target.TheVariants.{Root, Function, Operation}
use Rattle.transform_handles.specs.Names.{name_of, function_name, is_named}
use Rattle.transform_handles.specs.Targets.{is_one_of}

-- `around` is what it stands inside, the innermost first
pub record Item : Type 0 where
  pub target : Target
  pub name : List ℕ
  pub around : List Target

abbrev pub operation : OpId → OpKind → List Target → Item
operation i kind around = record { target = Operation i; name = name_of kind; around = around }

abbrev mutual
  -- the operations inside an operation of this kind, in tree order
  pub items_inside : OpKind → List Target → List Item
  items_inside (For' v l u s c shape row) around = items_row row around
  items_inside (Forall' v l u s c shape row) around = items_row row around
  items_inside _ around = []

  pub items_row : {n : _} → Row_of-Op n → List Target → List Item
  items_row end_of-Op around = []
  items_row (more_of-Op id results kind rest) around =
      (operation id kind around ∷ items_inside kind (Operation id ∷ around)) ++ items_row rest around

-- an operation, and then those inside it
abbrev pub tree_of : Op → List Target → List Item
tree_of o around = operation o.id o.kind around ∷ items_inside o.kind (Operation o.id ∷ around)

abbrev pub items_of : List Op → List Target → List Item
items_of [] around = []
items_of (o ∷ os) around = tree_of o around ++ items_of os around

abbrev pub function : ℕ → Item
function k = record { target = Function k; name = function_name; around = Root ∷ [] }

abbrev pub function_tree : ℕ → FuncShape → List Item
function_tree k f = function k ∷ items_of f.body (Function k ∷ Root ∷ [])

-- the functions from number k on, each before its operations
abbrev pub items_from : ℕ → List FuncShape → List Item
items_from k [] = []
items_from k (f ∷ fs) = function_tree k f ++ items_from (k + 1) fs

-- a target is around it, and its name is looked for
abbrev pub is_listed : (List ℕ → Bool) → (Target → Bool) → Item → Bool
is_listed names targets x = list_any targets x.around && names x.name

abbrev pub picked : (Item → Bool) → List Item → List Target
picked p xs = map (λ x. x.target) (filter p xs)

-- what has one of the names and stands strictly inside a target, each once, in tree order
unfoldable pub matched : List (List ℕ) → List Target → List FuncShape → List Target
matched names ts fs = picked (is_listed (is_named names) (λ t. is_one_of t ts)) (items_from 0 fs)

-- all that stands strictly inside a target
unfoldable pub inside : List Target → List FuncShape → List Target
inside ts fs = picked (is_listed (λ _. true) (λ t. is_one_of t ts)) (items_from 0 fs)
