-- The steps of a payload fit one after the other.
use Rattle.std.proofs.Common.{◌≡◌, Bool, true, false, List, [], ◌∷◌, ◌++◌, refl, ap, append_assoc, sym, ◌∙◌}
use Rattle.std.proofs.lemmas.List.{append-nil}
use Rattle.std.specs.Prelude.{◌&&◌}
use Rattle.payload_ops.specs.Payload.{arg_type, op_fits, steps_fit}
use Rattle.mlir_base.specs.declared.types.ElemTy.{ElemTy}
use Rattle.payload_ops.specs.declared.step.PayloadStep.{PayloadStep}

and_assoc : (a b c : Bool) → a && (b && c) ≡ (a && b) && c
and_assoc true b c = refl
and_assoc false b c = refl

-- a list of steps fits where its front does, and its rest after that front
pub steps_fit-append : (ins : List ElemTy) (out : ElemTy) (xs ys earlier : List PayloadStep) →
    steps_fit ins out (xs ++ ys) earlier ≡ steps_fit ins out xs earlier && steps_fit ins out ys (earlier ++ xs)
steps_fit-append ins out [] ys earlier = ap (λ e. steps_fit ins out ys e) (sym (append-nil earlier))
steps_fit-append ins out (x ∷ xs) ys earlier =
    let fits = op_fits (arg_type ins out earlier) x.ty x.op in
    ap (λ b. fits && b) (steps_fit-append ins out xs ys (earlier ++ x ∷ []) ∙ ap (λ e. steps_fit ins out xs (earlier ++ x ∷ []) && steps_fit ins out ys e) (append_assoc earlier (x ∷ []) xs))
    ∙ and_assoc fits (steps_fit ins out xs (earlier ++ x ∷ [])) (steps_fit ins out ys (earlier ++ x ∷ xs))
