-- Handles in a row.
use Rattle.std.proofs.Common.{◌≡◌, ◌<◌, ℕ, suc, ◌+◌, ◌-◌, List, [], ◌∷◌, ◌++◌, refl, sym, ap, ◌∙◌, arith, append_assoc}
use Rattle.script_read.specs.declared.script.HandleId.{HandleId}
use Rattle.script_read.specs.Scope.{handle_id}
use Rattle.script_read.specs.Resolve.{ids}

pub ids_more : (n end : ℕ) → n < end → ids n (end - n) ≡ handle_id n ∷ ids (n + 1) (end - (n + 1))
ids_more n end h =
    let e : end - n ≡ suc (end - (n + 1)) = omega arith in
    let k : suc n ≡ n + 1 = omega arith in
    ap (ids n) e ∙ ap (λ m. handle_id n ∷ ids m (end - (n + 1))) k

pub ids_onto : (found : List HandleId) (n end : ℕ) (all : List HandleId) → n < end → found ++ ids n (end - n) ≡ all → (found ++ handle_id n ∷ []) ++ ids (n + 1) (end - (n + 1)) ≡ all
ids_onto found n end all h e =
    append_assoc found (handle_id n ∷ []) (ids (n + 1) (end - (n + 1))) ∙ ap (λ (x : List HandleId). found ++ x) (sym (ids_more n end h)) ∙ e
