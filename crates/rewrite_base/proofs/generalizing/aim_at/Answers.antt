use Rattle.std.proofs.Common.{◌≡◌, ◌∙◌, ap, sym, subst}
use Rattle.mlir_ir.specs.declared.tree.Module.{Module}
use Rattle.mlir_ir.specs.declared.tree.Op.{Op}
use Rattle.mlir_ir.specs.Count.{find_in}
use Rattle.mlir_verify.specs.Place.{type_among}
use Rattle.mlir_verify.specs.Rules.{IsVerified}
use Rattle.verified_runs.specs.Forms.{is_generic, structured_of}
use Rattle.std.specs.Prelude.{slice_get}
use Rattle.rewrite_base.specs.Shapes.{Shapes}
use Rattle.mlir_edits.specs.Places.{place_of, op_at, scope_before}
use Rattle.mlir_edits.proofs.Found.{found_nowhere, place_is_there}
use Rattle.rewrite_base.proofs.Absent.{is_there_or, not_absent}
use Rattle.rewrite_base.proofs.Aimed.{stays_generic, wrong_generic, becomes_generic, generalized_there, generic_fits}
use Rattle.rewrite_base.proofs.generalizing.aim_at.Goals as goal

pub unreachable-requires : goal.unreachable-requires
unreachable-requires c =
    let m = c.args.c.now in
    let v = subst IsVerified c.module.ensures.same c.module.ensures.verified in
    let looked = ap (λ (m : Module). place_of c.args.op m.funcs) (sym c.module.ensures.same) ∙ sym c.place_of.ensures in
    is_there_or (find_in c.args.op m.funcs) (found_nowhere m c.args.op v (looked ∙ c.in_default.is)) c.requires

pub unreachable-requires-in_default-target_at : goal.unreachable-requires-in_default-target_at
unreachable-requires-in_default-target_at c =
    let m = c.args.c.now in
    let v = subst IsVerified c.module.ensures.same c.module.ensures.verified in
    let looked = ap (λ (m : Module). place_of c.args.op m.funcs) (sym c.module.ensures.same) ∙ sym c.place_of.ensures in
    let p = c.in-Some.place in
    let placed = looked ∙ c.in-Some.is in
    let at = ap (λ (m : Module). op_at p m.funcs) (sym c.module-2.ensures.same) in
    let there = place_is_there m c.args.op p placed in
    not_absent (op_at p m.funcs) there.0 (c.in_default-target_at.ensures.op ∙ sym at) there.1

pub unreachable-requires-in-Ok-Unfit : goal.unreachable-requires-in-Ok-Unfit
unreachable-requires-in-Ok-Unfit c =
    let m = c.args.c.now in
    let v = subst IsVerified c.module.ensures.same c.module.ensures.verified in
    let looked = ap (λ (m : Module). place_of c.args.op m.funcs) (sym c.module.ensures.same) ∙ sym c.place_of.ensures in
    let p = c.in-Some.place in
    let placed = looked ∙ c.in-Some.is in
    let at = ap (λ (m : Module). op_at p m.funcs) (sym c.module-2.ensures.same) in
    let f = c.in-Some-target_at.target.func.now in
    let o = c.in-Some-target_at.target.op.now in
    let in_func = ap (λ (m : Module). slice_get m.funcs p.func) (sym c.module-2.ensures.same) ∙ c.in-Some-target_at.ensures.func in
    let there = at ∙ sym c.in-Some-target_at.ensures.op in
    generic_fits m v c.args.op p f o placed in_func there (subst (Shapes (is_generic o.kind) (structured_of (type_among (scope_before f p.op)) o.kind)) c.in-Ok-Unfit.field-0-is c.in-Ok-Unfit.ensures)

pub returns-in-Ok-Stays-clause-aims : goal.returns-in-Ok-Stays-clause-aims
returns-in-Ok-Stays-clause-aims c =
    let m = c.args.c.now in
    let v = subst IsVerified c.module.ensures.same c.module.ensures.verified in
    let looked = ap (λ (m : Module). place_of c.args.op m.funcs) (sym c.module.ensures.same) ∙ sym c.place_of.ensures in
    let p = c.in-Some.place in
    let placed = looked ∙ c.in-Some.is in
    let at = ap (λ (m : Module). op_at p m.funcs) (sym c.module-2.ensures.same) in
    let f = c.in-Some-target_at.target.func.now in
    let o = c.in-Some-target_at.target.op.now in
    let in_func = ap (λ (m : Module). slice_get m.funcs p.func) (sym c.module-2.ensures.same) ∙ c.in-Some-target_at.ensures.func in
    let there = at ∙ sym c.in-Some-target_at.ensures.op in
    stays_generic m v c.args.op p f o placed in_func there (subst (Shapes (is_generic o.kind) (structured_of (type_among (scope_before f p.op)) o.kind)) c.in-Ok-Stays.field-0-is c.in-Ok-Stays.ensures)

pub returns-in-Ok-Wrong-clause-aims : goal.returns-in-Ok-Wrong-clause-aims
returns-in-Ok-Wrong-clause-aims c =
    let m = c.args.c.now in
    let v = subst IsVerified c.module.ensures.same c.module.ensures.verified in
    let looked = ap (λ (m : Module). place_of c.args.op m.funcs) (sym c.module.ensures.same) ∙ sym c.place_of.ensures in
    let p = c.in-Some.place in
    let placed = looked ∙ c.in-Some.is in
    let at = ap (λ (m : Module). op_at p m.funcs) (sym c.module-2.ensures.same) in
    let f = c.in-Some-target_at.target.func.now in
    let o = c.in-Some-target_at.target.op.now in
    let in_func = ap (λ (m : Module). slice_get m.funcs p.func) (sym c.module-2.ensures.same) ∙ c.in-Some-target_at.ensures.func in
    let there = at ∙ sym c.in-Some-target_at.ensures.op in
    wrong_generic m v c.args.op p f o placed in_func there (subst (Shapes (is_generic o.kind) (structured_of (type_among (scope_before f p.op)) o.kind)) c.in-Ok-Wrong.field-0-is c.in-Ok-Wrong.ensures)

pub returns-in-Ok-Becomes-clause-aims : goal.returns-in-Ok-Becomes-clause-aims
returns-in-Ok-Becomes-clause-aims c =
    let m = c.args.c.now in
    let v = subst IsVerified c.module.ensures.same c.module.ensures.verified in
    let looked = ap (λ (m : Module). place_of c.args.op m.funcs) (sym c.module.ensures.same) ∙ sym c.place_of.ensures in
    let p = c.in-Some.place in
    let placed = looked ∙ c.in-Some.is in
    let at = ap (λ (m : Module). op_at p m.funcs) (sym c.module-2.ensures.same) in
    let f = c.in-Some-target_at.target.func.now in
    let o = c.in-Some-target_at.target.op.now in
    let in_func = ap (λ (m : Module). slice_get m.funcs p.func) (sym c.module-2.ensures.same) ∙ c.in-Some-target_at.ensures.func in
    let there = at ∙ sym c.in-Some-target_at.ensures.op in
    becomes_generic m v c.args.op p f o placed in_func there c.in-Ok-Becomes.kind (subst (Shapes (is_generic o.kind) (structured_of (type_among (scope_before f p.op)) o.kind)) c.in-Ok-Becomes.field-0-is c.in-Ok-Becomes.ensures)

pub returns-in-Ok-Becomes-clause-verifies : goal.returns-in-Ok-Becomes-clause-verifies
returns-in-Ok-Becomes-clause-verifies c =
    let m = c.args.c.now in
    let v = subst IsVerified c.module.ensures.same c.module.ensures.verified in
    let looked = ap (λ (m : Module). place_of c.args.op m.funcs) (sym c.module.ensures.same) ∙ sym c.place_of.ensures in
    let p = c.in-Some.place in
    let placed = looked ∙ c.in-Some.is in
    let at = ap (λ (m : Module). op_at p m.funcs) (sym c.module-2.ensures.same) in
    let f = c.in-Some-target_at.target.func.now in
    let o = c.in-Some-target_at.target.op.now in
    let in_func = ap (λ (m : Module). slice_get m.funcs p.func) (sym c.module-2.ensures.same) ∙ c.in-Some-target_at.ensures.func in
    let there = at ∙ sym c.in-Some-target_at.ensures.op in
    generalized_there m v c.args.op p f o placed in_func there c.in-Ok-Becomes.kind (subst (Shapes (is_generic o.kind) (structured_of (type_among (scope_before f p.op)) o.kind)) c.in-Ok-Becomes.field-0-is c.in-Ok-Becomes.ensures)
