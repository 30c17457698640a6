-- Whether the fused generic fits, part by part.
use Rattle.std.proofs.Common.{◌≡◌, ℕ, zero, suc, ◌+◌, ◌<◌, ◌==◌, ◌&&◌, Bool, true, false, not, List, [], ◌∷◌, ◌++◌, length, refl, sym, ◌∙◌, arith, eq-eqb, length-append}
use Rattle.std.specs.Prelude.{nat_le, is_some}
use Rattle.std.specs.List.{list_all, enumerate_from}
use Rattle.affine_maps.specs.Shape.{MapShape}
use Rattle.mlir_ir.specs.declared.tree.Iter.{Iter}
use Rattle.mlir_meaning.specs.Grids.{Each}
use Rattle.mlir_verify.specs.Extents.{axes_agree}
use Rattle.mlir_verify.specs.Maps.{breaks_maps, cover_dimensions, extent_of}
use Rattle.mlir_verify.specs.Place.{Types}
use Rattle.verified_runs.specs.Forms.{Structured}
use Rattle.payload_forms.specs.Joined.{spliced}
use Rattle.fuse_laws.specs.Fused.{pulled}
use Rattle.pair_laws.specs.FuseAll.{fits}
use Rattle.pair_laws.specs.Pairs.{fused_op}
use Rattle.fuse_forms.proofs.Composed.{dims_there}
use Rattle.fuse_elementwise.specs.Fitting.{AreFused, fused_axes, own_axes, has_own_axes, has_few_steps}

listed : (n : ℕ) (ms : List MapShape) → Each (λ (i : MapShape). n ≡ i.dims) ms → list_all (λ (i : MapShape). n == i.dims) ms ≡ true
listed n [] h = refl
listed n (m ∷ ms) h = λ j. eq-eqb n m.dims h.0 j && listed n ms h.1 j

pub dims_listed : (ds : List ℕ) (m inner : MapShape) (ms : List MapShape) → inner ≡ pulled ds m → Each (λ (i : MapShape). length ds ≡ i.dims) ms →
    list_all (λ (i : MapShape). length inner.results == i.dims) ms ≡ true
dims_listed ds m inner ms e h = listed (length inner.results) ms (dims_there ds m inner ms e h)

pub spliced_count : {A : Type 0} (k : ℕ) (ys xs : List A) → k < length xs → suc (length (spliced k ys xs)) ≡ length ys + length xs
spliced_count k ys [] l = absurd (omega (arith, l))
spliced_count zero ys (x ∷ xs) l = omega (arith, length-append ys xs)
spliced_count (suc k) ys (x ∷ xs) l = let r = spliced_count k ys xs (omega (arith, l)) in omega (arith, r)

grouped : (a b c : Bool) → not (not (true && a)) && (b && c) ≡ (a && b) && c
grouped true b c = refl
grouped false b c = refl

module _ (t : Types) (p c : Structured) (k : ℕ) (m : MapShape) (ds : List ℕ) (h : AreFused t p c k m ds) where
  abbrev inner : MapShape
  inner = pulled ds m

  pub fits_by : has_own_axes t p c k inner && (nat_le (length p.ins + length c.ins) 64 && has_few_steps p c k inner.results) ≡ fits t c (fused_op p c k m ds)
  unfolding breaks_maps cover_dimensions
  fits_by =
      let cover = list_all (λ (i : ℕ × Iter). is_some (extent_of (fused_axes t p c k inner) i.0)) (enumerate_from 0 c.iterators) in
      let agree = axes_agree (own_axes t c ++ fused_axes t p c k inner) in
      let few = has_few_steps p c k inner.results in
      sym ((λ j. not (not (h.operands j && cover)) && (agree && (nat_le (spliced_count k p.ins c.ins h.counted.operand j) 64 && few)))
      ∙ grouped cover agree (nat_le (length p.ins + length c.ins) 64 && few))
