use Rattle.mlir_verify.proofs.Checking.{enter_fails}
use Rattle.mlir_verify.proofs.walk.check_func.Goals as goal

pub returns-in-Err : goal.returns-in-Err
returns-in-Err c = λ before s.
    enter_fails c.in-Err.e c.enter_func.new.seen c.enter_func.new.seen c.enter_func.new.scope before c.args.func.now (c.in-Err.ensures before s c.new-scope.ensures.types c.new-scope.ensures.constants)
