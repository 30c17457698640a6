-- The data of a payload.
use Rattle.std.specs.Prelude.{List}
use Rattle.mlir_base.specs.declared.types.ElemTy.{ElemTy}
use Rattle.payload_ops.specs.declared.step.Arg.{Arg}
use Rattle.payload_ops.specs.declared.step.PayloadStep.{PayloadStep}

pub record PayloadShape : Type 0 where
  pub ins : List ElemTy
  pub out : ElemTy
  pub steps : List PayloadStep
  pub yielded : Arg
