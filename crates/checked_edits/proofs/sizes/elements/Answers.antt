use Rattle.std.proofs.Common.{◌≡◌, ◌*◌, ◌+◌, ◌≤◌, ◌<◌, ℕ, List, length, get_or, min, drop, arith, ap, sym, ◌∙◌}
use Rattle.std.proofs.Math.Nat.{mul_assoc}
use Rattle.std.proofs.lemmas.List.{drop_all}
use Rattle.affine_maps.proofs.Listed.{any_default}
use Rattle.mlir_ir.specs.declared.tree.Extent.{Extent}
use Rattle.mlir_ir.specs.declared.tree.Extent.TheVariants.{Fixed}
use Rattle.mlir_verify.specs.Tensors.{size_of, elements}
use Rattle.mlir_verify.proofs.Elements.{stopped}
use Rattle.mlir_verify.proofs.Walks.{opened}
use Rattle.checked_edits.proofs.sizes.elements.Goals as goal

next : (xs : List Extent) (i s all new most : ℕ) → i < length xs → s ≡ size_of (get_or xs i (Fixed 0)) → new ≡ min (all * s) most →
    min (new * elements (drop (i + 1) xs)) most ≡ min (all * elements (drop i xs)) most
next xs i s all new most h f g =
    let x = get_or xs i (Fixed 0) in
    let rest = elements (drop (i + 1) xs) in
    ap (λ n. min (n * rest) most) g ∙ stopped (all * s) rest most ∙ ap (λ n. min n most) (mul_assoc all s rest)
    ∙ ap (λ n. min (all * (n * rest)) most) f ∙ sym (ap (λ l. min (all * elements l) most)
    (opened xs i x h (any_default xs i (Fixed 0) x h)))

pub loop-x-preserved : goal.loop-x-preserved
loop-x-preserved c = record {
  value = next c.args.extents.now c.loop-x.x-index c.size_of.result c.loop-x.all c.saturating_mul-all.result 18446744073709551615
      c.loop-x-test.true c.size_of.ensures c.saturating_mul-all.ensures
      ∙ c.loop-x.invariant.value;
  fits = omega arith;
}

ended : (n most : ℕ) → n ≤ most → n ≡ min (n * 1) most
ended n most h = omega arith

pub returns : goal.returns
returns c =
    let d = ap (λ (l : List Extent). min (c.loop-x.all * elements l) 18446744073709551615) (drop_all c.loop-x.x-index c.args.extents.now
    c.loop-x-test.false) in
    ended c.loop-x.all 18446744073709551615 c.loop-x.invariant.fits ∙ sym d ∙ c.loop-x.invariant.value
