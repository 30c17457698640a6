-- A body with the fused generic in the consumer's place, without the producer.
use Rattle.std.proofs.Common.{◌≡◌, ℕ, zero, suc, ◌+◌, ◌<◌, List, [], ◌∷◌, ◌++◌, length, get_or, refl, ap, sym, ◌∙◌, arith, length-append, append_assoc}
use Rattle.std.specs.Prelude.{insert, remove}
use Rattle.mlir_ir.specs.declared.tree.Op.{Op}
use Rattle.mlir_ir.specs.declared.tree.OpKind.{OpKind}
use Rattle.fuse_elementwise.specs.Turns.{with_kind, fused_body}

pub put_there : (os : List Op) (k : ℕ) (kind : OpKind) (o new : Op) → k < length os → o ≡ get_or os k o → new ≡ record { id = o.id; results = o.results; kind = kind } →
    insert (remove os k) k new ≡ with_kind k kind os
put_there [] k kind o new l e q = absurd (omega (arith, l))
put_there (x ∷ os) zero kind o new l e q = λ j. (q ∙ (λ i. record { id = (e i).id; results = (e i).results; kind = kind })) j ∷ os
put_there (x ∷ os) (suc k) kind o new l e q = ap (λ l. x ∷ l) (put_there os k kind o new (omega (arith, l)) e q)

pub kind_long : (k : ℕ) (kind : OpKind) (os : List Op) → length (with_kind k kind os) ≡ length os
kind_long k kind [] = refl
kind_long zero kind (o ∷ os) = refl
kind_long (suc k) kind (o ∷ os) = ap suc (kind_long k kind os)

removed_long : {A : Type 0} (xs : List A) (k : ℕ) → k < length xs → suc (length (remove xs k)) ≡ length xs
removed_long [] k l = absurd (omega (arith, l))
removed_long (x ∷ xs) zero l = refl
removed_long (x ∷ xs) (suc k) l = ap suc (removed_long xs k (omega (arith, l)))

pub body_there : (p c : ℕ) (kind : OpKind) (os body : List Op) → p < c → c < length os → body ≡ fused_body p c kind os → 0 < length body
body_there p c kind os body l m e =
    let long = kind_long c kind os in
    let left = removed_long (with_kind c kind os) p (omega (arith, l, m, long)) in
    let same : length body ≡ length (fused_body p c kind os) = ap length e in
    omega (arith, l, m, long, left, same)

kind_behind : (front : List Op) (kind : OpKind) (o : Op) (after : List Op) → with_kind (length front) kind (front ++ (o ∷ after)) ≡ front ++ (record { id = o.id; results = o.results; kind = kind } ∷ after)
kind_behind [] kind o after = refl
kind_behind (x ∷ front) kind o after = ap (λ l. x ∷ l) (kind_behind front kind o after)

removed_behind : (front : List Op) (o : Op) (after : List Op) → remove (front ++ (o ∷ after)) (length front) ≡ front ++ after
removed_behind [] o after = refl
removed_behind (x ∷ front) o after = ap (λ l. x ∷ l) (removed_behind front o after)

-- of a producer and a consumer among others
pub fused_body_is : (before mid after : List Op) (po co : Op) (kind : OpKind) (os : List Op) → os ≡ before ++ (po ∷ (mid ++ (co ∷ after))) →
    fused_body (length before) (length before + suc (length mid)) kind os ≡ before ++ (mid ++ (record { id = co.id; results = co.results; kind = kind } ∷ after))
fused_body_is before mid after po co kind os e =
    let front = before ++ (po ∷ mid) in
    let new : Op = record { id = co.id; results = co.results; kind = kind } in
    let long : length before + suc (length mid) ≡ length front = sym (length-append before (po ∷ mid)) in
    (λ j. remove (with_kind (long j) kind ((e ∙ sym (append_assoc before (po ∷ mid) (co ∷ after))) j)) (length before))
    ∙ ap (λ (l : List Op). remove l (length before)) (kind_behind front kind co after ∙ append_assoc before (po ∷ mid) (new ∷ after))
    ∙ removed_behind before po (mid ++ (new ∷ after))
