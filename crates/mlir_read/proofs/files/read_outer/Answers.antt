use Rattle.std.proofs.Common.{◌≡◌, List, Ok, subst, rules}
use Rattle.mlir_syntax.specs.declared.tree.files.Function.{Function}
use Rattle.mlir_lex.specs.Chain.{behind_these, Fails}
use Rattle.mlir_read.specs.Resolve.{functions_of, behind_functions}
use Rattle.mlir_read.proofs.Items.{adds_more, joined_fails}
use Rattle.mlir_read.proofs.files.read_outer.Goals as goal

pub returns-in-Ok-clause-value : goal.returns-in-Ok-clause-value
returns-in-Ok-clause-value c =
    let e : c.as_slice.result.now ≡ c.args.enclosed.now.functions = search rules in
    adds_more c.read_behind_functions.result (functions_of c.args.scope.now c.args.enclosed.now.functions) (behind_functions c.args.enclosed.now) c.read_functions.new.scope c.read_behind_functions.new.scope c.args.found.now c.read_functions.new.found c.read_behind_functions.new.found
    (subst (λ (fs : List Function). behind_these c.args.found.now (functions_of c.args.scope.now fs) ≡ Ok (c.read_functions.new.scope, c.read_functions.new.found)) e c.in-Ok.ensures.value) c.read_behind_functions.ensures.value

pub returns-in-Err-clause-value : goal.returns-in-Err-clause-value
returns-in-Err-clause-value c =
    let e : c.as_slice.result.now ≡ c.args.enclosed.now.functions = search rules in
    joined_fails c.in-Err.error (functions_of c.args.scope.now c.args.enclosed.now.functions) (behind_functions c.args.enclosed.now)
    (subst (λ (fs : List Function). Fails c.in-Err.error (functions_of c.args.scope.now fs)) e c.in-Err.ensures.value)
