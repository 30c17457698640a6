-- The maps of the fused generic fit their operands.
use Rattle.std.proofs.Common.{◌≡◌, ℕ, zero, suc, ◌<◌, ◌==◌, ◌&&◌, Bool, true, List, [], ◌∷◌, ◌++◌, map, take, drop, length, refl, ap, sym, ◌∙◌, arith, eqb-true, eq-eqb}
use Rattle.std.specs.List.{list_all, zip}
use Rattle.std.proofs.lemmas.Bool.{and_parts}
use Rattle.std.proofs.lemmas.List.{length-map}
use Rattle.std.proofs.lemmas.List.Folds.{list_all-append}
use Rattle.affine_maps.specs.Compose.{composed, composed_expr}
use Rattle.affine_maps.specs.Shape.{MapShape}
use Rattle.affine_maps.specs.Permutation.{is_projected_permutation}
use Rattle.mlir_ir.specs.declared.tree.ValueId.{ValueId}
use Rattle.mlir_meaning.specs.Grids.{Each}
use Rattle.mlir_verify.specs.Maps.{fits_operand, fit_operands, is_not_negative, on_output}
use Rattle.mlir_verify.specs.Place.{Types}
use Rattle.mlir_verify.specs.Tensors.{extents_of}
use Rattle.payload_forms.specs.Joined.{spliced}
use Rattle.verified_runs.specs.Forms.{Structured}
use Rattle.tile_bridge.specs.Instances.{input_maps}
use Rattle.pair_laws.proofs.Premises.{input_count}
use Rattle.fuse_forms.specs.Forms.{fused_maps}
use Rattle.fuse_elementwise.specs.Fitting.{AreCounted}
use Rattle.fuse_elementwise.proofs.Signs.{composed_not_negative}
use Rattle.fuse_elementwise.proofs.Splicing.{zip_spliced, output_stays}

abbrev Fit : ℕ → Types → ValueId × MapShape → Bool
Fit n t x = fits_operand n x.1 (t (x.0).0)

-- LISTS OF TWO
all_taken : {A B : Type 0} (P : A × B → Bool) (k : ℕ) (xs : List A) (ys : List B) → list_all P (zip xs ys) ≡ true → list_all P (zip (take k xs) (take k ys)) ≡ true
all_taken P zero xs ys h = refl
all_taken P (suc k) [] ys h = refl
all_taken P (suc k) (x ∷ xs) [] h = refl
all_taken P (suc k) (x ∷ xs) (y ∷ ys) h = let parts = and_parts (P (x, y)) _ h in λ j. parts.0 j && all_taken P k xs ys parts.1 j

none_right : {A B : Type 0} (P : A × B → Bool) (xs : List A) → list_all P (zip xs []) ≡ true
none_right P [] = refl
none_right P (x ∷ xs) = refl

all_left : {A B : Type 0} (P : A × B → Bool) (k : ℕ) (xs : List A) (ys : List B) → list_all P (zip xs ys) ≡ true → list_all P (zip (drop k xs) (drop k ys)) ≡ true
all_left P zero xs ys h = h
all_left P (suc k) [] ys h = refl
all_left P (suc k) (x ∷ xs) [] h = none_right P (drop k xs)
all_left P (suc k) (x ∷ xs) (y ∷ ys) h = all_left P k xs ys (and_parts (P (x, y)) _ h).1

all_spliced : {A B : Type 0} (P : A × B → Bool) (k : ℕ) (xs vs : List A) (ys ms : List B) → length xs ≡ length ys → k < length vs → k < length ms →
    list_all P (zip xs ys) ≡ true → list_all P (zip vs ms) ≡ true → list_all P (zip (spliced k xs vs) (spliced k ys ms)) ≡ true
all_spliced P k xs vs ys ms l m n h q =
    ap (list_all P) (zip_spliced k xs vs ys ms l m n)
    ∙ list_all-append P (zip (take k vs) (take k ms)) (zip xs ys ++ zip (drop (suc k) vs) (drop (suc k) ms))
    ∙ (λ j. all_taken P k vs ms q j && (list_all-append P (zip xs ys) (zip (drop (suc k) vs) (drop (suc k) ms)) ∙ (λ i. h i && all_left P (suc k) vs ms q i)) j)

-- THE PRODUCER'S MAPS
module _ (n old : ℕ) (t before : Types) (inner : MapShape) (dims : inner.dims ≡ n) (plain : list_all is_not_negative inner.results ≡ true) where
  one_moved : (v : ValueId) (m : MapShape) → t v.0 ≡ before v.0 → fits_operand old m (before v.0) ≡ true → fits_operand n (composed m inner) (t v.0) ≡ true
  one_moved v m e h =
      let parts = and_parts (m.dims == old && length m.results == length (extents_of (before v.0))) (list_all is_not_negative m.results) h in
      let long = eqb-true (length m.results) (length (extents_of (before v.0))) (and_parts (m.dims == old) _ parts.0).1 in
      λ j. (eq-eqb inner.dims n dims j && eq-eqb (length (map (composed_expr inner.dims inner.results) m.results)) (length (extents_of (t v.0)))
      (length-map m.results (composed_expr inner.dims inner.results) ∙ long ∙ ap (λ o. length (extents_of o)) (sym e)) j)
      && composed_not_negative inner.dims inner.results plain m.results parts.1 j

  pub all_moved : (vs : List ValueId) (ms : List MapShape) → Each (λ (v : ValueId). t v.0 ≡ before v.0) vs → list_all (Fit old before) (zip vs ms) ≡ true →
      list_all (Fit n t) (zip vs (map (λ (m : MapShape). composed m inner) (take (length vs) ms))) ≡ true
  all_moved [] ms e h = refl
  all_moved (v ∷ vs) [] e h = refl
  all_moved (v ∷ vs) (m ∷ ms) e h =
      let parts = and_parts (Fit old before (v, m)) _ h in λ j. one_moved v m e.0 parts.0 j && all_moved vs ms e.1 parts.1 j

-- THE FUSED GENERIC
module _ (t before : Types) (p c : Structured) (k : ℕ) (inner : MapShape) (counted : AreCounted p c k) (dims : inner.dims ≡ length c.iterators)
    (plain : list_all is_not_negative inner.results ≡ true) (same : Each (λ (v : ValueId). t v.0 ≡ before v.0) p.ins) where
  pub operands_fit : fit_operands before p.maps p.iterators p.ins p.outs ≡ true → fit_operands t c.maps c.iterators c.ins c.outs ≡ true →
      fit_operands t (fused_maps p c k inner) c.iterators (spliced k p.ins c.ins) c.outs ≡ true
  unfolding fit_operands
  operands_fit h q =
      let n = length c.iterators in
      let moved = map (λ (m : MapShape). composed m inner) (input_maps p) in
      let inputs = (and_parts (list_all (Fit (length p.iterators) before) (zip p.ins p.maps)) _ h).0 in
      let own = and_parts (list_all (Fit n t) (zip c.ins c.maps)) _ q in
      let long : length p.ins ≡ length moved = sym (length-map (input_maps p) (λ (m : MapShape). composed m inner) ∙ input_count p counted.producer) in
      let all = all_spliced (Fit n t) k p.ins c.ins moved c.maps long counted.operand (omega (arith, counted.operand, counted.consumer))
      (all_moved n (length p.iterators) t before inner dims plain p.ins p.maps same inputs) own.0 in
      λ j. all j
      && ((λ i. on_output (output_stays k (length c.ins) moved c.maps counted.operand counted.consumer i) (λ m. fits_operand n m (t c.outs.0) && is_projected_permutation m)) ∙ own.1) j
