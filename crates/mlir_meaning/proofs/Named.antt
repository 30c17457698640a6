-- The named operations mean what their generics mean.
use Rattle.std.proofs.Common.{refl}
use Rattle.mlir_meaning.specs.Laws.{FillIsGeneric, MatmulIsGeneric, BatchMatmulIsGeneric, TransposeIsGeneric, BroadcastIsGeneric}
use Rattle.mlir_meaning.specs.Meaning.{kind_meaning}

pub fill_is : FillIsGeneric
unfolding kind_meaning
fill_is value outs rs s = refl

pub matmul_is : MatmulIsGeneric
unfolding kind_meaning
matmul_is a b outs rs s = refl

pub batch_matmul_is : BatchMatmulIsGeneric
unfolding kind_meaning
batch_matmul_is a b outs rs s = refl

pub transpose_is : TransposeIsGeneric
unfolding kind_meaning
transpose_is source outs order rs s = refl

pub broadcast_is : BroadcastIsGeneric
unfolding kind_meaning
broadcast_is source outs added rs s = refl
