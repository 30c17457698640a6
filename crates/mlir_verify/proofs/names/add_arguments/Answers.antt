use Rattle.std.proofs.Common.{ℕ, Bool, true, List, [], ◌∷◌, ◌++◌, map, ap, sym, ◌∙◌, subst, Ok}
use Rattle.mlir_ir.specs.declared.tree.ValueId.{ValueId}
use Rattle.mlir_ir.specs.declared.tree.Ty.{Ty}
use Rattle.mlir_verify.specs.Names.{arguments, redefines}
use Rattle.mlir_verify.specs.Scope.{Adds}
use Rattle.mlir_verify.proofs.Adding.{adds_then, front_repeats}
use Rattle.mlir_verify.proofs.names.add_arguments.Goals as goal

abbrev carried_numbers : List (ValueId × Ty × ValueId) → List ℕ
carried_numbers cs = map (λ x. (x.0).0) cs

pub returns-in-Ok-true : goal.returns-in-Ok-true
returns-in-Ok-true c = λ known h.
    let one : List ℕ = c.in-For.var.0 ∷ [] in
    let a = subst (λ (b : Bool). Adds (Ok b) c.add.new.set one known) c.in-Ok-true.field-0-test (c.in-Ok-true.ensures known h) in
    let b = subst (λ (x : List (ValueId × Ty × ValueId)). Adds c.add_carried.result c.add_carried.new.set (carried_numbers x) (known ++ one)) c.as_slice.ensures (c.add_carried.ensures (known ++ one) a.1) in
    subst (λ (x : List ℕ). Adds c.add_carried.result c.add_carried.new.set x known) (sym (ap arguments c.in-For.is))
    (adds_then c.add_carried.result c.add.new.set c.add_carried.new.set one (carried_numbers c.in-For.carried) known a b)

pub returns-in-Ok-false : goal.returns-in-Ok-false
returns-in-Ok-false c = λ known h.
    let one : List ℕ = c.in-For.var.0 ∷ [] in
    let a = subst (λ (b : Bool). Adds (Ok b) c.add.new.set one known) c.in-Ok-false.field-0-test (c.in-Ok-false.ensures known h) in
    ap (λ x. redefines x known) (ap arguments c.in-For.is) ∙ front_repeats one (carried_numbers c.in-For.carried) known a

abbrev value_numbers : List ValueId → List ℕ
value_numbers vs = map (λ v. v.0) vs

pub returns-in-Ok-true-add_values : goal.returns-in-Ok-true-add_values
returns-in-Ok-true-add_values c = λ known h.
    let front : List ℕ = value_numbers c.in-Forall.vars in
    let a0 = subst (λ (b : Bool). Adds (Ok b) c.add_values.new.set (value_numbers c.as_slice-in-Forall.result.now) known) c.in-Ok-true-add_values.field-0-test (c.in-Ok-true-add_values.ensures known h) in
    let a = subst (λ (x : List ℕ). Adds (Ok true) c.add_values.new.set x known) (ap value_numbers c.as_slice-in-Forall.ensures) a0 in
    let r = c.add_carried-in-Ok-true-add_values.result in
    let s = c.add_carried-in-Ok-true-add_values.new.set in
    let b = subst (λ (x : List (ValueId × Ty × ValueId)). Adds r s (carried_numbers x) (known ++ front)) c.as_slice-in-Ok-true-add_values.ensures (c.add_carried-in-Ok-true-add_values.ensures (known ++ front) a.1) in
    subst (λ (x : List ℕ). Adds r s x known) (sym (ap arguments c.in-Forall.is))
    (adds_then r c.add_values.new.set s front (carried_numbers c.in-Forall.shared) known a b)

pub returns-in-Ok-false-add_values : goal.returns-in-Ok-false-add_values
returns-in-Ok-false-add_values c = λ known h.
    let a0 = subst (λ (b : Bool). Adds (Ok b) c.add_values.new.set (value_numbers c.as_slice-in-Forall.result.now) known) c.in-Ok-false-add_values.field-0-test (c.in-Ok-false-add_values.ensures known h) in
    ap (λ x. redefines x known) (ap arguments c.in-Forall.is)
    ∙ front_repeats (value_numbers c.in-Forall.vars) (carried_numbers c.in-Forall.shared) known (ap (λ x. redefines (value_numbers x) known) (sym c.as_slice-in-Forall.ensures) ∙ a0)
