use Rattle.std.proofs.Common.{rules, ◌≤◌, ◌*ℤ◌, unsigned_abs, IsTrue, ℤ, pos, FitsSigned, w64, get_or, subst, sym, arith}
use Rattle.std.proofs.lemmas.Int.{to_z-of_z, fits_signed_from_abs}
use Rattle.std.proofs.lemmas.Bool.Decides.{nat_tests}
use Rattle.mlir_base.specs.Numbers.{is_in_range}
use Rattle.affine_maps.specs.Value.{is_coordinate}
use Rattle.affine_maps.proofs.Integers.{product_abs, range_abs}
use Rattle.affine_maps.proofs.Listed.{all_at}
use Rattle.affine_maps.proofs.value.term_value.Goals as goal

small : (a b : ℤ) → IsTrue (is_in_range a) → IsTrue (is_coordinate b) → unsigned_abs (a *ℤ b) ≤ 2251799813685248
small a b h k = let m : unsigned_abs b ≤ 1048576 = grind (arith, nat_tests) in let e = product_abs a b 2147483648 1048576 (range_abs a h) m in omega arith

pub overflow_mul-result : goal.overflow_mul-result
overflow_mul-result c =
    let a : FitsSigned w64 c.args.term.1 = search rules in
    let b : FitsSigned w64 (get_or c.args.point.now c.args.term.0 (pos 0)) = search rules in
    let s = small c.args.term.1 (get_or c.args.point.now c.args.term.0 (pos 0)) c.requires.coefficient (all_at is_coordinate c.args.point.now c.args.term.0 (pos 0) c.requires.near c.requires.dimension) in
    rw (to_z-of_z w64 c.args.term.1 a, to_z-of_z w64 (get_or c.args.point.now c.args.term.0 (pos 0)) b) (fits_signed_from_abs w64 _ (omega arith))

pub returns-clause-value : goal.returns-clause-value
returns-clause-value c =
    let a : FitsSigned w64 c.args.term.1 = search rules in
    let b : FitsSigned w64 (get_or c.args.point.now c.args.term.0 (pos 0)) = search rules in
    let s = small c.args.term.1 (get_or c.args.point.now c.args.term.0 (pos 0)) c.requires.coefficient (all_at is_coordinate c.args.point.now c.args.term.0 (pos 0) c.requires.near c.requires.dimension) in
    let f : FitsSigned w64 (c.args.term.1 *ℤ get_or c.args.point.now c.args.term.0 (pos 0)) = fits_signed_from_abs w64 _ (omega arith) in
    rw (to_z-of_z w64 c.args.term.1 a, to_z-of_z w64 (get_or c.args.point.now c.args.term.0 (pos 0)) b) (to_z-of_z w64 _ f)

pub returns-clause-small : goal.returns-clause-small
returns-clause-small c =
    let a : FitsSigned w64 c.args.term.1 = search rules in
    let b : FitsSigned w64 (get_or c.args.point.now c.args.term.0 (pos 0)) = search rules in
    let s = small c.args.term.1 (get_or c.args.point.now c.args.term.0 (pos 0)) c.requires.coefficient (all_at is_coordinate c.args.point.now c.args.term.0 (pos 0) c.requires.near c.requires.dimension) in
    let f : FitsSigned w64 (c.args.term.1 *ℤ get_or c.args.point.now c.args.term.0 (pos 0)) = fits_signed_from_abs w64 _ (omega arith) in
    rw (to_z-of_z w64 c.args.term.1 a, to_z-of_z w64 (get_or c.args.point.now c.args.term.0 (pos 0)) b) (subst (λ (x : ℤ). unsigned_abs x ≤ 2251799813685248) (sym (to_z-of_z w64 _ f)) s)
