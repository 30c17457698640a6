-- Maps on the operands of affine.apply: the operands are as many as the map's dimensions, so that each term has an argument.
use Rattle.std.proofs.Common.{◌≡◌, ◌<◌, ℕ, ℤ, ◌+◌, zero, suc, Bool, true, ◌&&◌, List, [], ◌∷◌, ◌++◌, length, Option, Some, None, Ok, sym, ap, subst, ◌∙◌, arith, nat_lt, nat_le, get_or, length-append}
use Rattle.std.specs.List.{list_all}
use Rattle.std.proofs.lemmas.Bool.{and_parts, eqb-true, ltb-true}
use Rattle.mlir_base.specs.Numbers.{is_in_range, is_coefficient}
use Rattle.payload_ops.specs.declared.step.Arg.{Arg}
use Rattle.affine_maps.specs.declared.map.Expr.{Expr}
use Rattle.affine_maps.specs.Shape.{MapShape}
use Rattle.affine_maps.specs.Map.{terms_fit, expr_fits, IsMap}
use Rattle.mlir_syntax.specs.declared.tree.steps.ApplyOperand.{ApplyOperand}
use Rattle.mlir_syntax.specs.declared.tree.steps.ApplyStep.{ApplyStep}
use Rattle.mlir_lex.specs.declared.fault.Fault.TheVariants.{Unsupported, Syntax}
use Rattle.mlir_lex.specs.Chain.{thread}
use Rattle.mlir_payload.specs.declared.inside.Inside.{Inside}
use Rattle.mlir_scope.specs.Names.{Entry}
use Rattle.mlir_payload.specs.Steps.{symbol_operands, fits_operands, only, fault_of_map, fault_at_stop, index_argument, apply_arguments}
use Rattle.mlir_scope.proofs.Keeps.{then_ok, ok_same, demand_ok}

indices_counted : (outer : List Entry) (os : List ApplyOperand) (s : Inside) (r : Inside × List Arg) → thread (index_argument outer) s os ≡ Ok r → length r.1 ≡ length os
indices_counted outer [] s r g = sym (ap (λ (x : Inside × List Arg). length x.1) (ok_same (s, []) r g))
indices_counted outer (o ∷ os) s r g =
    let x = then_ok (index_argument outer s o) _ r g in
    let y = then_ok (thread (index_argument outer) x.0.0 os) _ r x.2 in
    sym (ap (λ (z : Inside × List Arg). length z.1) (ok_same (y.0.0, x.0.1 ∷ y.0.1) r y.2)) ∙ ap suc (indices_counted outer os x.0.0 y.0 y.1)

pub apply_counted : (outer : List Entry) (s : Inside) (a : ApplyStep) (r : Inside × List Arg) → apply_arguments outer s a ≡ Ok r → length r.1 ≡ length a.operands + length (symbol_operands a.symbols)
apply_counted outer s a r g =
    let x = then_ok (thread (index_argument outer) s a.operands) _ r g in
    let y = then_ok (thread (index_argument outer) x.0.0 (symbol_operands a.symbols)) _ r x.2 in
    let first = indices_counted outer a.operands s x.0 x.1 in
    let more = indices_counted outer (symbol_operands a.symbols) x.0.0 y.0 y.1 in
    let all = ap (λ (z : Inside × List Arg). length z.1) (ok_same (y.0.0, x.0.1 ++ y.0.1) r y.2) in
    omega (arith, first, more, all, length-append x.0.1 y.0.1)

-- a number of operands that isn't told is right
pub not_told : (stop : Option ℕ) (fits : Bool) (at : ℕ) (u v : Unit {0}) → fault_of_map stop fits at ≡ Ok u → fault_at_stop stop fits ≡ Ok v → fits ≡ true
not_told None fits at u v h k = demand_ok fits (Unsupported at) u h
not_told (Some p) fits at u v h k = demand_ok fits (Syntax p) v k

only_fits : (dims : ℕ) (es : List Expr) (e : Expr) → list_all (expr_fits dims) es ≡ true → only es ≡ Some e → expr_fits dims e ≡ true
only_fits dims [] e h k = absurd (cc k)
only_fits dims (x ∷ []) e h k =
    let same : x ≡ e = cc k in
    subst (λ y. expr_fits dims y ≡ true) same (and_parts (expr_fits dims x) (list_all (expr_fits dims) []) h).0
only_fits dims (x ∷ y ∷ es) e h k = absurd (cc k)

-- the result of a map that has one, on as many arguments as the map has dimensions
pub applied_fits : (m : MapShape) (e : Expr) (a : ApplyStep) (arguments : List Arg) → IsMap m → only m.results ≡ Some e → fits_operands m a ≡ true → length arguments ≡ length a.operands + length (symbol_operands a.symbols) → expr_fits (length arguments) e ≡ true
applied_fits m e a arguments is one fits count =
    let n : m.dims ≡ length arguments = eqb-true m.dims (length a.operands + length (symbol_operands a.symbols)) fits ∙ sym count in
    subst (λ k. expr_fits k e ≡ true) n (only_fits m.dims m.results e is one)

pub terms_are : (dims : ℕ) (e : Expr) → expr_fits dims e ≡ true → (is_in_range e.constant ≡ true) × (terms_fit dims e.terms 0 ≡ true)
terms_are dims e h = and_parts (is_in_range e.constant) (terms_fit dims e.terms 0) h

pub record FirstTerm (dims low : ℕ) (t : ℕ × ℤ) (ts : List (ℕ × ℤ)) : Type 0 where
  pub below : t.0 < dims
  pub coefficient : is_coefficient t.1 ≡ true
  pub others : terms_fit dims ts (t.0 + 1) ≡ true

pub first_term : (dims low : ℕ) (t : ℕ × ℤ) (ts : List (ℕ × ℤ)) → terms_fit dims (t ∷ ts) low ≡ true → FirstTerm dims low t ts
first_term dims low t ts h =
    let p = and_parts (nat_le low t.0 && nat_lt t.0 dims && is_coefficient t.1) (terms_fit dims ts (t.0 + 1)) h in
    let q = and_parts (nat_le low t.0 && nat_lt t.0 dims) (is_coefficient t.1) p.0 in
    let r = and_parts (nat_le low t.0) (nat_lt t.0 dims) q.0 in
    record { below = ltb-true t.0 dims r.1; coefficient = q.1; others = p.1 }

-- each term has an argument
pub below_at : (dims low : ℕ) (ts : List (ℕ × ℤ)) (i : ℕ) (d : ℕ × ℤ) → terms_fit dims ts low ≡ true → i < length ts → (get_or ts i d).0 < dims
below_at dims low [] i d h l = absurd (omega (arith, l))
below_at dims low (t ∷ ts) zero d h l = (first_term dims low t ts h).below
below_at dims low (t ∷ ts) (suc i) d h l = below_at dims (t.0 + 1) ts i d (first_term dims low t ts h).others (omega (arith, l))
