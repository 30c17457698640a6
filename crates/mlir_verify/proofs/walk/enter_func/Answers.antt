use Rattle.std.proofs.Common.{◌≡◌, ◌<◌, Bool, true, List, length, get_or, Some, Ok, ap, sym, ◌∙◌, subst, refl}
use Rattle.mlir_ir.specs.Shape.{FuncShape}
use Rattle.mlir_ir.specs.Count.{first}
use Rattle.mlir_ir.specs.declared.tree.Op.{Op}
use Rattle.mlir_ir.specs.declared.tree.Ty.{Ty}
use Rattle.mlir_ir.specs.declared.tree.ValueId.{ValueId}
use Rattle.mlir_verify.specs.declared.rule.Rule.TheVariants.{V1}
use Rattle.mlir_verify.specs.Place.{type_among}
use Rattle.mlir_verify.specs.Names.{defined_in, numbers, redefines}
use Rattle.mlir_verify.specs.Scope.{Adds, types_in}
use Rattle.mlir_verify.proofs.Checking.{params_fail, func_stands}
use Rattle.mlir_verify.proofs.walk.enter_func.Goals as goal

pub returns-in-Ok-false : goal.returns-in-Ok-false
returns-in-Ok-false c = λ before s n k.
    let f = c.args.func.now in
    let b : c.as_slice-in-Ok-false.result.now ≡ f.body = c.as_slice-in-Ok-false.ensures ∙ ap (λ (x : FuncShape). x.body) c.func.view_is in
    let ps : c.as_slice.result.now ≡ f.params = c.as_slice.ensures ∙ ap (λ (x : FuncShape). x.params) c.func.view_is in
    let a0 = subst (λ (b : Bool). Adds (Ok b) c.add_definitions.new.set (numbers c.as_slice.result.now) (defined_in before)) c.in-Ok-false.field-0-test (c.in-Ok-false.ensures (defined_in before) s.values) in
    let r : redefines (numbers f.params) (defined_in before) ≡ true = ap (λ (x : List (ValueId × Ty)). redefines (numbers x) (defined_in before)) (sym ps) ∙ a0 in
    let o = c.index-as_slice-0.result in
    let e : o ≡ get_or f.body 0 o = c.index-as_slice-0.is ∙ ap (λ (x : List Op). get_or x 0 o) b in
    let l : 0 < length f.body = subst (λ (x : FuncShape). 0 < length x.body) c.func.view_is c.func.invariant in
    params_fail f.body o before f l e r ∙ ap (λ (x : Op). Some (V1, x.id)) (c.index-as_slice-0.is)

pub returns-in-Ok : goal.returns-in-Ok
returns-in-Ok c = λ before s n k.
    let f = c.args.func.now in
    let ps : c.as_slice.result.now ≡ f.params = c.as_slice.ensures ∙ ap (λ (x : FuncShape). x.params) c.func.view_is in
    let ps2 : c.as_slice-2.result.now ≡ f.params = c.as_slice-2.ensures ∙ ap (λ (x : FuncShape). x.params) c.func.view_is in
    let a0 = subst (λ (b : Bool). Adds (Ok b) c.add_definitions.new.set (numbers c.as_slice.result.now) (defined_in before)) c.in-Ok-true.field-0-test (c.in-Ok-true.ensures (defined_in before) s.values) in
    let a = subst (λ (x : List (ValueId × Ty)). Adds (Ok true) c.add_definitions.new.set (numbers x) (defined_in before)) ps a0 in
    func_stands (record { values = c.add_definitions.new.set; ops = c.args.seen.now.ops }) c.args.scope.now c.bind.new.self before f c.args.seen.now.ops s.ops refl a.1 a.0 n
    (λ v. c.in-Ok.ensures.types v ∙ ap (λ (x : List (ValueId × Ty)). first (type_among x v) (types_in c.args.scope.now v)) ps2) k c.bind.ensures.constants
