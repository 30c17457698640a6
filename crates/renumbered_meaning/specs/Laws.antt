-- The law of functions under the numbers of their text. It is the contract of a function in `src/laws.rt`.
use Rattle.std.specs.Prelude.{◌≡◌, List, [], ◌∷◌, ⊤}
use Rattle.mlir_file.specs.declared.file.File.{File}
use Rattle.mlir_ir.specs.Shape.{FuncShape, TensorShape}
use Rattle.mlir_meaning.specs.Meaning.{meaning}
use Rattle.mlir_roundtrip.specs.Numbered.{renumbered}
use Rattle.mlir_roundtrip.specs.Printable.{IsPrintable}
use Rattle.mlir_verify.specs.Rules.{IsVerified}
use Rattle.verified_runs.specs.Typed.{AreOf, types_of}

-- The second function has the name and the types of the first, and gives what it gives on all inputs of these types: exactly
-- its tensors, or its trap. Its values may have other numbers.
pub record MeansTheSame (f g : FuncShape) : Type 0 where
  pub name : g.name ≡ f.name
  pub params : types_of g.params ≡ types_of f.params
  pub results : g.results ≡ f.results
  pub means : (inputs : List TensorShape) → AreOf (types_of f.params) inputs → meaning g inputs ≡ meaning f inputs

-- one by one
abbrev pub MeanTheSame : List FuncShape → List FuncShape → Type 0
MeanTheSame [] [] = ⊤
MeanTheSame (f ∷ fs) (g ∷ gs) = MeansTheSame f g × MeanTheSame fs gs
MeanTheSame _ _ = ⊥

abbrev pub RenumberedMeans : Type 0
RenumberedMeans = (f : File) → IsPrintable f → IsVerified f.module → MeanTheSame f.module.funcs (renumbered f).module.funcs
