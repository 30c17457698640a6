use Rattle.std.proofs.Common.{Option, subst}
use Rattle.std.specs.Prelude.{ℕ}
use Rattle.std.specs.BTreeSet.{BTreeSet}
use Rattle.mlir_verify.specs.Scope.{types_in}
use Rattle.mlir_verify.specs.Stages.{FitsOperands}
use Rattle.mlir_verify.proofs.Generics.{generic_misfits, box_fits}
use Rattle.mlir_verify.proofs.structured.broken_generic.Goals as goal

pub returns-in-Ok-None : goal.returns-in-Ok-None
returns-in-Ok-None c =
    let t = types_in c.args.scope.now in
    let f = subst (λ (x : Option (BTreeSet ℕ)). FitsOperands x t c.args.maps.now c.args.iterators.now c.args.ins.now c.args.outs) c.in-Ok-None.field-0-is c.in-Ok-None.ensures in
    generic_misfits t c.args.results.now c.args.maps.now c.args.iterators.now c.args.ins.now c.args.outs f

pub returns-in-Ok-Some : goal.returns-in-Ok-Some
returns-in-Ok-Some c =
    let t = types_in c.args.scope.now in
    let f = subst (λ (x : Option (BTreeSet ℕ)). FitsOperands x t c.args.maps.now c.args.iterators.now c.args.ins.now c.args.outs) c.in-Ok-Some.field-0-is c.in-Ok-Some.ensures in
    box_fits c.broken_box.result t c.args.results.now c.args.maps.now c.args.iterators.now c.args.ins.now c.args.outs c.in-Ok-Some.output f c.broken_box.ensures
