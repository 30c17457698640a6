-- Uses, operation by operation.
use Rattle.std.proofs.Common.{◌≡◌, ℕ, zero, suc, ◌+◌, ◌<◌, cond, ◌==◌, List, [], ◌∷◌, ◌++◌, drop, length, get_or, refl, ap, sym, ◌∙◌, arith}
use Rattle.std.specs.Prelude.{Result, Ok, Err, OnOk}
use Rattle.std.proofs.lemmas.List.Sums.{sum_by-cons}
use Rattle.mlir_ir.specs.Count.{names, operands, uses_kind, uses_op}
use Rattle.mlir_ir.specs.declared.tree.Op.{Op}
use Rattle.mlir_ir.specs.declared.tree.Idx.{Idx}
use Rattle.mlir_ir.specs.declared.tree.OpKind.{OpKind, For, For', Forall, Forall', items-the_row-Op, items_shown-the_row-Op-0, roll-out-OpKind}
use Rattle.mlir_ir.specs.declared.tree.OpKind as kinds
use Rattle.mlir_ir.specs.declared.tree.Ty.{Ty}
use Rattle.mlir_ir.specs.declared.tree.ValueId.{ValueId}
use Rattle.mlir_ir.proofs.Trees.{names-append}

opened : {A : Type 0} (xs : List A) (i : ℕ) (x : A) → i < length xs → x ≡ get_or xs i x → drop i xs ≡ x ∷ drop (suc i) xs
opened [] i x l e = absurd (omega (arith, l))
opened (y ∷ xs) zero x l e = λ j. sym e j ∷ xs
opened (y ∷ xs) (suc i) x l e = opened xs i x (omega (arith, l)) e

pub uses_at : (v : ValueId) (os : List Op) (i : ℕ) (o : Op) → i < length os → o ≡ get_or os i o → uses_op v (drop i os) ≡ uses_kind v o.kind + uses_op v (drop (i + 1) os)
uses_at v os i o l e =
    let z : suc i ≡ i + 1 = omega arith in
    ap (uses_op v) (opened os i o l e) ∙ sum_by-cons (λ (o : Op). uses_kind v o.kind) o (drop (suc i) os) ∙ (λ j. uses_kind v o.kind + uses_op v (drop (z j) os))

pub names_at : (v : ValueId) (vs : List ValueId) (i : ℕ) (w : ValueId) → i < length vs → w ≡ get_or vs i w → names v (drop i vs) ≡ cond (w.0 == v.0) 1 0 + names v (drop (i + 1) vs)
names_at v vs i w l e =
    let z : suc i ≡ i + 1 = omega arith in
    ap (names v) (opened vs i w l e) ∙ sum_by-cons (λ (w : ValueId). cond (w.0 == v.0) 1 0) w (drop (suc i) vs) ∙ (λ j. cond (w.0 == v.0) 1 0 + names v (drop (z j) vs))

pub own_names : (v : ValueId) (old new own : List ValueId) → new ≡ old ++ own → names v new ≡ names v old + names v own
own_names v old new own e = ap (names v) e ∙ names-append v old own

pub on_ok : {A E : Type 0} (r : Result A E) (P Q : Type 0) → (P → Q) → OnOk r P → OnOk r Q
on_ok (Ok a) P Q f h = f h
on_ok (Err e) P Q f h = h

-- an operation with no body
pub flat_uses : (v : ValueId) (kind : OpKind) →
    ((i l u s : ValueId) (c : List (ValueId × Ty × ValueId)) (body : List Op) → kind ≡ For i l u s c body → ⊥) →
    ((vs : List ValueId) (l u s : List Idx) (c : List (ValueId × Ty × ValueId)) (body : List Op) → kind ≡ Forall vs l u s c body → ⊥) →
    uses_kind v kind ≡ names v (operands kind)
unfolding kinds.roll-OpKind denote.Hole.Carrier.roll kinds.out-OpKind denote.Hole.Carrier.out
flat_uses v (For' i l u s c shape row) h k =
    absurd (h i l u s c (items-the_row-Op _ row) (sym (ap (λ (body : List Op). For i l u s c body) (sym (items_shown-the_row-Op-0 shape row)) ∙ roll-out-OpKind (For' i l u s c shape row))))
flat_uses v (Forall' vs l u s c shape row) h k =
    absurd (k vs l u s c (items-the_row-Op _ row) (sym (ap (λ (body : List Op). Forall vs l u s c body) (sym (items_shown-the_row-Op-0 shape row)) ∙ roll-out-OpKind (Forall' vs l u s c shape row))))
flat_uses v kind h k = refl
