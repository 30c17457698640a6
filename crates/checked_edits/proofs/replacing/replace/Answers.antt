use Rattle.std.proofs.Common.{◌≡◌, true, Option, IsSome, refl, sym, subst, ◌∙◌}
use Rattle.std.specs.List.{list_all}
use Rattle.mlir_ir.specs.Count.{find_in}
use Rattle.mlir_ir.specs.declared.tree.Module.{Module}
use Rattle.mlir_ir.specs.declared.tree.Op.{Op}
use Rattle.mlir_verify.specs.Rules.{has_body}
use Rattle.mlir_edits.proofs.Found.{found_nowhere, place_is_there}
use Rattle.checked_edits.specs.Replacing.{edit_of, KeepsRules, Replaces}
use Rattle.checked_edits.proofs.Placed.{replaced_there, leaves}
use Rattle.checked_edits.proofs.replacing.replace.Goals as goal

pub unreachable-requires : goal.unreachable-requires
unreachable-requires c =
    let no = found_nowhere c.into_module-m.result c.args.op c.into_module-m.ensures.verified (sym c.place_of.ensures ∙ c.in_default.is) in
    let there = subst (λ (n : Module). IsSome (find_in c.args.op n.funcs)) (sym c.into_module-m.ensures.same) c.requires.there in
    absurd (let z = subst (λ (o : Option Op). IsSome o) no there in cc)

pub replace_at-requires-clause-there : goal.replace_at-requires-clause-there
replace_at-requires-clause-there c =
    let there = place_is_there c.into_module-m.result c.args.op c.in-Some.place (sym c.place_of.ensures ∙ c.in-Some.is) in
    subst (λ (o : Option Op). IsSome o) (sym there.1) refl

pub replace_at-requires-clause-left : goal.replace_at-requires-clause-left
replace_at-requires-clause-left c =
    let m = c.into_module-m.result in
    let is = replaced_there m c.args.c c.args.op c.in-Some.place c.args.new_ops c.args.values c.as_slice.result.now
    c.into_module-m.ensures.verified c.into_module-m.ensures.same
    c.as_slice.ensures (sym c.place_of.ensures ∙ c.in-Some.is) in
    leaves m c.in-Some.place (edit_of c.args.new_ops c.as_slice.result.now) (subst (λ (n : Module). list_all has_body n.funcs
    ≡ true) is c.requires.keeps.1)

pub within_limits-requires : goal.within_limits-requires
within_limits-requires c =
    let is = replaced_there c.into_module-m.result c.args.c c.args.op c.in-Some.place c.args.new_ops c.args.values c.as_slice.result.now
    c.into_module-m.ensures.verified
    c.into_module-m.ensures.same c.as_slice.ensures (sym c.place_of.ensures ∙ c.in-Some.is) in
    subst KeepsRules (is ∙ sym c.in-Ok.ensures) c.requires.keeps

pub returns-in-Ok : goal.returns-in-Ok
returns-in-Ok c =
    let is = replaced_there c.into_module-m.result c.args.c c.args.op c.in-Some.place c.args.new_ops c.args.values c.as_slice.result.now
    c.into_module-m.ensures.verified
    c.into_module-m.ensures.same c.as_slice.ensures (sym c.place_of.ensures ∙ c.in-Some.is) in
    subst (λ (n : Module). Replaces n c.within_limits.result) (c.in-Ok.ensures ∙ sym is) c.within_limits.ensures
