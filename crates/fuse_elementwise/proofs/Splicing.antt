-- The axes of the fused generic, operand by operand.
use Rattle.std.proofs.Common.{◌≡◌, ℕ, zero, suc, ◌+◌, ◌<◌, List, [], ◌∷◌, ◌++◌, map, take, drop, length, refl, ap, sym, ◌∙◌, arith, append_assoc}
use Rattle.std.specs.List.{flat_map, zip}
use Rattle.std.proofs.lemmas.Grind.{flat_map-append}
use Rattle.std.proofs.lemmas.List.{length-map}
use Rattle.affine_maps.specs.Compose.{composed}
use Rattle.affine_maps.specs.Shape.{MapShape}
use Rattle.mlir_ir.specs.declared.tree.ValueId.{ValueId}
use Rattle.mlir_verify.specs.Maps.{Axis, operand_axes, output_axes, output_map}
use Rattle.mlir_verify.specs.Place.{Types}
use Rattle.payload_forms.specs.Joined.{spliced}
use Rattle.verified_runs.specs.Forms.{Structured}
use Rattle.tile_bridge.specs.Instances.{input_maps}
use Rattle.tile_bridge.proofs.Fitting.{Split, split}
use Rattle.pair_laws.proofs.Boxes.{last_map}
use Rattle.pair_laws.proofs.Pairing.{spliced-append}
use Rattle.pair_laws.proofs.Premises.{input_count}
use Rattle.fuse_elementwise.specs.Fitting.{AreCounted, fused_axes}

zip_behind : {A B : Type 0} (ins : List A) (ys : List B) (ms : List A) (vs : List B) → length ins ≡ length ys → zip (ins ++ ms) (ys ++ vs) ≡ zip ins ys ++ zip ms vs
zip_behind [] [] ms vs l = refl
zip_behind [] (y ∷ ys) ms vs l = absurd (omega (arith, l))
zip_behind (a ∷ ins) [] ms vs l = absurd (omega (arith, l))
zip_behind (a ∷ ins) (y ∷ ys) ms vs l = ap (λ z. (a, y) ∷ z) (zip_behind ins ys ms vs (omega (arith, l)))

-- what stands before an entry, in its place, and behind it
pub zip_spliced : {A B : Type 0} (k : ℕ) (ins ms : List A) (ys vs : List B) → length ins ≡ length ys → k < length ms → k < length vs →
    zip (spliced k ins ms) (spliced k ys vs) ≡ zip (take k ms) (take k vs) ++ (zip ins ys ++ zip (drop (suc k) ms) (drop (suc k) vs))
zip_spliced k ins [] ys vs l m v = absurd (omega (arith, m))
zip_spliced k ins (x ∷ ms) ys [] l m v = absurd (omega (arith, v))
zip_spliced zero ins (x ∷ ms) ys (w ∷ vs) l m v = zip_behind ins ys ms vs l
zip_spliced (suc k) ins (x ∷ ms) ys (w ∷ vs) l m v = ap (λ z. (x, w) ∷ z) (zip_spliced k ins ms ys vs l (omega (arith, m)) (omega (arith, v)))

zip_mapped : {A B C D : Type 0} (h : B × C → List D) (f : A → B) (xs : List A) (ys : List C) → flat_map h (zip (map f xs) ys) ≡ flat_map (λ (x : A × C). h (f x.0, x.1)) (zip xs ys)
zip_mapped h f [] ys = refl
zip_mapped h f (x ∷ xs) [] = refl
zip_mapped h f (x ∷ xs) (y ∷ ys) = ap (λ l. h (f x, y) ++ l) (zip_mapped h f xs ys)

-- the output's map stays the last
pub output_stays : (k n : ℕ) (ins ms : List MapShape) → k < n → length ms ≡ suc n → output_map (spliced k ins ms) ≡ output_map ms
output_stays k n ins ms l e =
    let s : Split ms n = split ms n e in
    ap (λ l. output_map (spliced k ins l)) s.is
    ∙ ap output_map (spliced-append k ins s.front (s.last ∷ []) (omega (arith, l, s.counted)))
    ∙ last_map (spliced k ins s.front) s.last ∙ sym s.output

module _ (t : Types) (p c : Structured) (k : ℕ) (inner : MapShape) (counted : AreCounted p c k) where
  abbrev pub one : MapShape × ValueId → List Axis
  one x = operand_axes x.0 (t (x.1).0)

  abbrev pub two : MapShape × ValueId → List Axis
  two x = operand_axes (composed x.0 inner) (t (x.1).0)

  abbrev pub before : List Axis
  before = flat_map one (zip (take k c.maps) (take k c.ins))

  abbrev pub within : List Axis
  within = flat_map two (zip (input_maps p) p.ins)

  abbrev pub behind : List Axis
  behind = flat_map one (zip (drop (k + 1) c.maps) (drop (k + 1) c.ins))

  abbrev pub output : List Axis
  output = output_axes (output_map c.maps) (t c.outs.0)

  abbrev moved : List MapShape
  moved = map (λ (i : MapShape). composed i inner) (input_maps p)

  fused_are : fused_axes t p c k inner ≡ (before ++ (within ++ behind)) ++ output
  fused_are =
      let all = zip_spliced k moved c.maps p.ins c.ins (length-map (input_maps p) (λ (i : MapShape). composed i inner) ∙ input_count p counted.producer)
      (omega (arith, counted.operand, counted.consumer)) counted.operand in
      let inside = zip (take k c.maps) (take k c.ins) in
      let last = zip (drop (suc k) c.maps) (drop (suc k) c.ins) in
      let next : suc k ≡ k + 1 = omega arith in
      let rest : flat_map one last ≡ behind = λ j. flat_map one (zip (drop (next j) c.maps) (drop (next j) c.ins)) in
      (λ j. flat_map one (all j) ++ output_axes (output_stays k (length c.ins) moved c.maps counted.operand counted.consumer j) (t c.outs.0))
      ∙ ap (λ l. l ++ output) (flat_map-append one inside (zip moved p.ins ++ last)
      ∙ ap (λ l. before ++ l) (flat_map-append one (zip moved p.ins) last ∙ (λ j. flat_map one (zip moved p.ins) ++ rest j) ∙ ap (λ l. l ++ behind) (zip_mapped one (λ (i : MapShape). composed i inner) (input_maps p) p.ins)))

  -- ins they are added one after the other
  pub added : (old a b d e : List Axis) → a ≡ old ++ before → b ≡ a ++ within → d ≡ b ++ behind → e ≡ d ++ output → e ≡ old ++ fused_axes t p c k inner
  added old a b d e f g h i =
      i ∙ ap (λ l. l ++ output) (h ∙ ap (λ l. l ++ behind) (g ∙ ap (λ l. l ++ within) f))
      ∙ ap (λ l. l ++ output) (append_assoc (old ++ before) within behind ∙ append_assoc old before (within ++ behind))
      ∙ append_assoc old (before ++ (within ++ behind)) output
      ∙ ap (λ l. old ++ l) (sym fused_are)
