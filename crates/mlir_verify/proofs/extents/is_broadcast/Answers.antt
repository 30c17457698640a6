use Rattle.std.proofs.Common.{◌≡◌, ◌+◌, ◌<◌, ℕ, List, true, length, get_or, drop, ap, sym, ◌∙◌}
use Rattle.affine_maps.specs.Permutation.{is_among}
use Rattle.affine_maps.proofs.Listed.{any_default}
use Rattle.mlir_ir.specs.declared.tree.Extent.{Extent}
use Rattle.mlir_ir.specs.declared.tree.Extent.TheVariants.{Fixed}
use Rattle.mlir_verify.specs.Extents.{are_same_extents}
use Rattle.mlir_verify.proofs.Broadcasts.{extents_from, named_is_left_out}
use Rattle.mlir_verify.proofs.Walks.{opened}
use Rattle.mlir_verify.proofs.extents.is_broadcast.Goals as goal

left_out : (named : List ℕ) (k : ℕ) (xs : List Extent) → k < length xs → is_among k named ≡ true → extents_from named (k + 1) (drop (k + 1) xs) ≡ extents_from named k (drop k xs)
left_out named k xs h e =
    let x = get_or xs k (Fixed 0) in
    sym (ap (extents_from named k) (opened xs k x h (any_default xs k (Fixed 0) x h)) ∙ named_is_left_out named k x (drop (k + 1) xs) e)

pub loop-k-preserved-then-is_added : goal.loop-k-preserved-then-is_added
loop-k-preserved-then-is_added c =
    ap (λ (l : List Extent). are_same_extents l c.loop-k.left.now) (left_out c.args.added.now c.loop-k.k c.args.out.now c.loop-k-test.true (sym c.is_added.ensures ∙ c.if-is_added.true))
    ∙ c.loop-k.invariant
