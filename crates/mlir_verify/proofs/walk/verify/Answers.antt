use Rattle.mlir_verify.proofs.Checking.{verify_fails, verify_passes}
use Rattle.mlir_verify.proofs.walk.verify.Goals as goal

pub from_verified-requires : goal.from_verified-requires
from_verified-requires c = verify_passes c.args.m c.as_slice.result.now c.as_slice.ensures c.in-Ok.ensures

pub returns-in-Err : goal.returns-in-Err
returns-in-Err c = verify_fails c.in-Err.e c.args.m c.as_slice.result.now c.as_slice.ensures c.in-Err.ensures
