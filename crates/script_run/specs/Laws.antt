-- What every function of a module keeps through a script.
use Rattle.std.specs.Prelude.{◌≡◌, List, [], ◌∷◌, Ok, ⊤}
use Rattle.mlir_ir.specs.Shape.{FuncShape, TensorShape}
use Rattle.mlir_ir.specs.declared.tree.Module.{Module}
use Rattle.mlir_meaning.specs.Meaning.{meaning}
use Rattle.mlir_verify.specs.Rules.{IsVerified}
use Rattle.verified_runs.specs.Typed.{AreOf, types_of}
use Rattle.script_read.specs.declared.script.Script.{Script}
use Rattle.script_run.specs.Scripts.{run}

-- the second function has the name and the types of the first, and gives what it gives on all inputs of these types
pub record IsSameFunction (f g : FuncShape) : Type 0 where
  pub name : g.name ≡ f.name
  pub params : g.params ≡ f.params
  pub results : g.results ≡ f.results
  pub means : (inputs : List TensorShape) → AreOf (types_of f.params) inputs → meaning g inputs ≡ meaning f inputs

-- one by one
abbrev pub AreSameFunctions : List FuncShape → List FuncShape → Type 0
AreSameFunctions [] [] = ⊤
AreSameFunctions (f ∷ fs) (g ∷ gs) = IsSameFunction f g × AreSameFunctions fs gs
AreSameFunctions _ _ = ⊥

-- a verified module's script gives a verified module with the same functions
abbrev pub RunKeepsMeaning : Type 0
RunKeepsMeaning = (s : Script) (m n : Module) → IsVerified m → run s m ≡ Ok n → IsVerified n × AreSameFunctions m.funcs n.funcs
