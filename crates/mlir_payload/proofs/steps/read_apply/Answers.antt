use Rattle.std.proofs.Common.{◌≡◌, true, List, length, Some, subst, sym, ap, ◌∙◌}
use Rattle.payload_ops.specs.declared.step.Arg.{Arg}
use Rattle.affine_maps.specs.declared.map.Expr.{Expr}
use Rattle.affine_maps.specs.Map.{terms_fit}
use Rattle.mlir_payload.specs.Steps.{only}
use Rattle.mlir_payload.proofs.Applied.{apply_counted, not_told, applied_fits, terms_are}
use Rattle.mlir_payload.proofs.steps.read_apply.Goals as goal

pub linear-requires : goal.linear-requires
linear-requires c =
    let m = c.in_ok-map.map in
    let e = c.in-Some.value.now in
    let a = c.args.apply.now in
    let arguments = c.in_ok-arguments.arguments in
    let results : c.as_slice.result.now ≡ m.results = c.as_slice.ensures ∙ c.results.ensures.value in
    let one : only m.results ≡ Some e = sym (ap (λ (es : List Expr). only es) results) ∙ sym c.in-Some.ensures in
    let fits = not_told c.stop_of-stop.result c.fits_operands-fits.result c.use_start-at.result _ _ c.in_ok-fault_of_map.ensures c.in_ok-fault_at_stop.ensures in
    let count = apply_counted c.args.outer.now c.args.inside.now a (c.read_apply_arguments.new.inside, arguments) c.in_ok-arguments.ensures.value in
    let over = applied_fits m e a arguments c.results.ensures.kept one (sym c.fits_operands-fits.ensures ∙ fits) count in
    subst (λ (xs : List Arg). terms_fit (length xs) e.terms 0 ≡ true) (sym c.as_slice-2.ensures) (terms_are (length arguments) e over).1
