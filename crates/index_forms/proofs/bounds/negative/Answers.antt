use Rattle.std.proofs.Common.{rules, ◌≡◌, ap, sym, ◌∙◌, subst, IsTrue, get_or, drop, ℕ, ℤ, pos, negsuc, ◌-ℤ◌, ◌*ℤ◌, w64, FitsSigned, to_z, of_z, arith, ◌+◌, ◌∷◌, ◌++◌, [], add-one, append_assoc}
use Rattle.std.proofs.lemmas.Int.{ints, to_z-of_z}
use Rattle.std.proofs.Math.Seq.{drop-cons}
use Rattle.index_forms.specs.Forms.{scaled}
use Rattle.index_forms.specs.Limit.{in_limit, all_in}
use Rattle.index_forms.proofs.Ints.{and_right, limit_low, limit_high}
use Rattle.index_forms.proofs.Limits.{Terms, all_in_at}
use Rattle.index_forms.proofs.bounds.negative.Goals as goal

abbrev zero_at : ℕ × ℤ
zero_at = (0, pos 0)

turn_fits : (z y : ℤ) → y ≡ z → IsTrue (in_limit z) → FitsSigned w64 (pos 0 -ℤ y)
turn_fits z y e h = let l = limit_low z h in let k = limit_high z h in omega (arith, ints)

turn_is : (z y : ℤ) → y ≡ z → IsTrue (in_limit z) → to_z w64 (of_z w64 (pos 0 -ℤ y)) ≡ negsuc 0 *ℤ z
turn_is z y e h = let f = turn_fits z y e h in let l = limit_low z h in let k = limit_high z h in omega (arith, ints)

pub overflow_sub-t : goal.overflow_sub-t
overflow_sub-t c =
    let f : FitsSigned w64 (get_or c.as_slice-t-items.result.now c.loop-t.t-index zero_at).1 = search rules in
    let a : IsTrue (all_in c.as_slice-t-items.result.now) = subst (λ (x : Terms). IsTrue (all_in x)) (sym c.as_slice-t-items.ensures) (and_right (in_limit c.args.f.now.constant) (all_in c.args.f.now.terms) c.requires) in
    turn_fits (get_or c.as_slice-t-items.result.now c.loop-t.t-index zero_at).1 _ (to_z-of_z w64 _ f) (all_in_at c.as_slice-t-items.result.now c.loop-t.t-index zero_at a (omega arith))

pub loop-t-preserved : goal.loop-t-preserved
loop-t-preserved c =
    let f : FitsSigned w64 (get_or c.as_slice-t-items.result.now c.loop-t.t-index zero_at).1 = search rules in
    let a : IsTrue (all_in c.as_slice-t-items.result.now) = subst (λ (x : Terms). IsTrue (all_in x)) (sym c.as_slice-t-items.ensures) (and_right (in_limit c.args.f.now.constant) (all_in c.args.f.now.terms) c.requires) in
    let t = get_or c.as_slice-t-items.result.now c.loop-t.t-index zero_at in
    let q = turn_is t.1 _ (to_z-of_z w64 _ f) (all_in_at c.as_slice-t-items.result.now c.loop-t.t-index zero_at a (omega arith)) in
    let o : drop c.loop-t.t-index c.as_slice-t-items.result.now ≡ t ∷ drop (c.loop-t.t-index + 1) c.as_slice-t-items.result.now = rw add-one (drop-cons c.as_slice-t-items.result.now c.loop-t.t-index zero_at (omega arith)) in
    let rest = scaled (negsuc 0) (drop (c.loop-t.t-index + 1) c.as_slice-t-items.result.now) in
    ap (λ (x : Terms). x ++ rest) (c.in_ok-push.ensures.ok ∙ ap (λ (z : ℤ). c.loop-t.terms ++ (t.0, z) ∷ []) q)
    ∙ append_assoc c.loop-t.terms ((t.0, negsuc 0 *ℤ t.1) ∷ []) rest
    ∙ ap (λ (x : Terms). c.loop-t.terms ++ scaled (negsuc 0) x) (sym o) ∙ c.loop-t.invariant
