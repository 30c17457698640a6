-- The generic that a named operation is passes the rules V2 and V5 to V8 where the operation does.
use Rattle.std.proofs.Common.{◌≡◌, ℕ, suc, ◌+◌, ◌<◌, ◌≤◌, ◌==◌, ◌||◌, ◌&&◌, Bool, true, false, List, [], ◌∷◌, ◌++◌, map, length, replicate, append-nil, Option, Some, None, refl, ap, sym, subst, ◌∙◌, arith, eq-eqb, eqb-true, ltb-true, zero-add}
use Rattle.std.specs.Prelude.{nat_lt, nat_le, not, is_some, slice_get, if◌then◌else◌}
use Rattle.std.specs.List.{list_all, zip, filter_map, enumerate_from}
use Rattle.std.proofs.lemmas.Bool.{and_parts, and_from}
use Rattle.std.proofs.lemmas.Bool.Decides.{nat_tests}
use Rattle.std.proofs.lemmas.List.{length-map, length-replicate}
use Rattle.std.proofs.lemmas.Option.{same_Some, slice_get_within}
use Rattle.affine_maps.specs.Shape.{MapShape}
use Rattle.affine_maps.specs.Map.{map_fits, dimension, identity_of}
use Rattle.affine_maps.specs.Permutation.{is_among, repeats, is_projected_permutation}
use Rattle.payload_ops.specs.Payload.{payload_fits}
use Rattle.payload_ops.specs.Shape.{PayloadShape}
use Rattle.mlir_base.specs.declared.types.ElemTy.TheVariants.{Int, Index}
use Rattle.payload_ops.specs.declared.kinds.BinOp.TheVariants.{Addi, Muli, Andi, Ori}
use Rattle.payload_ops.specs.declared.step.Arg.TheVariants.{Input, Out, Step}
use Rattle.payload_ops.specs.declared.step.PayloadStep.{PayloadStep}
use Rattle.payload_ops.specs.declared.step.StepOp.TheVariants.{Binary, SignExtend}
use Rattle.mlir_ir.specs.declared.tree.Extent.{Extent}
use Rattle.mlir_ir.specs.declared.tree.Iter.{Iter}
use Rattle.mlir_ir.specs.declared.tree.Iter.TheVariants.{Parallel, Reduction}
use Rattle.mlir_ir.specs.declared.tree.Ty.{Ty}
use Rattle.mlir_ir.specs.declared.tree.Ty.TheVariants.{Scalar, Tensor, Vector}
use Rattle.mlir_ir.specs.declared.tree.ValueId.{ValueId}
use Rattle.mlir_ir.specs.declared.tree.OpKind.{OpKind, Generic, Fill, Matmul, BatchMatmul, Transpose, Broadcast}
use Rattle.mlir_meaning.specs.Grids.{count_up, Each}
use Rattle.mlir_meaning.specs.Points.{select_map, kept, place_of}
use Rattle.mlir_meaning.specs.Structured.{copying, step_of, last_step, multiply_add, fill_form, transpose_form, broadcast_form, matmul_form, batch_matmul_form}
use Rattle.mlir_verify.specs.Place.{Types}
use Rattle.mlir_verify.specs.Constants.{Constants}
use Rattle.mlir_verify.specs.Tensors.{is_fixed, extents_of, rank_of, has_elements, is_alike, are_as_wide, result_type}
use Rattle.mlir_verify.specs.Named.{is_element, is_at_most_as_wide, are_axes}
use Rattle.mlir_verify.specs.Types.{names_present, is_input, is_typed}
use Rattle.mlir_verify.specs.Maps.{Axis, axis, axes, extent_of, is_not_negative, fits_operand, fit_operands, cover_dimensions, breaks_maps, match_output, breaks_iterators}
use Rattle.mlir_verify.specs.Extents.{is_same_extent, has_extent, are_same_extents, has_extents_of, is_product, is_batch_product, is_transposed, is_broadcast, axes_agree, keeps_extents, breaks_extents}
use Rattle.mlir_verify.specs.Windows.{has_no_points, operand_stays_in, inputs_stay_in, breaks_windows}
use Rattle.mlir_verify.proofs.Broadcasts.{extents_from, named_is_left_out, other_is_kept, same_first}
use Rattle.verified_runs.specs.Forms.{Structured, kind_of, width_in, structured_of, is_generic}
use Rattle.verified_runs.proofs.Orders.{has_each}
use Rattle.verified_runs.proofs.Selecting.{selected_axes, same_is, same_left, has_is, same_fixed, count_length, counted_dimensions, selecting_is_map, identity_is_map, none_negative, identity_permutes, identity_parallel, Right, axes_fit, axes_cover, right_below, all_stay}

or_true : (a b : Bool) → b ≡ true → (a || b) ≡ true
or_true true b e = refl
or_true false b e = e

-- TYPES
-- what a generic's rules on types ask of an input and of the output
record Copies (o p : Option Ty) (constant : Bool) : Type 0 where
  input : is_input o constant (Int (width_in p)) ≡ true
  output : has_elements p (Int (width_in p)) ≡ true

fill_copies : (o p : Option Ty) (constant : Bool) → (is_element o p && constant) ≡ true → Copies o p constant × (extents_of o ≡ [])
fill_copies (Some (Scalar (Int v))) (Some (Tensor es w)) k h = (record { input = h; output = eq-eqb w w refl }, refl)
fill_copies (Some (Scalar (Int v))) (Some (Scalar e)) k h = absurd cc
fill_copies (Some (Scalar (Int v))) (Some (Vector es w)) k h = absurd cc
fill_copies (Some (Scalar (Int v))) None k h = absurd cc
fill_copies (Some (Scalar Index)) p k h = absurd cc
fill_copies (Some (Tensor es v)) p k h = absurd cc
fill_copies (Some (Vector es v)) p k h = absurd cc
fill_copies None p k h = absurd cc

wide_copies : (o p : Option Ty) (constant : Bool) → are_as_wide o p ≡ true → Copies o p constant
wide_copies (Some (Tensor xs v)) (Some (Tensor ys w)) k h = record { input = h; output = eq-eqb w w refl }
wide_copies (Some (Tensor xs v)) (Some (Scalar e)) k h = absurd cc
wide_copies (Some (Tensor xs v)) (Some (Vector ys w)) k h = absurd cc
wide_copies (Some (Tensor xs v)) None k h = absurd cc
wide_copies (Some (Scalar e)) p k h = absurd cc
wide_copies (Some (Vector xs v)) p k h = absurd cc
wide_copies None p k h = absurd cc

alike_wide : (o p : Option Ty) → is_alike o p ≡ true → (are_as_wide o p ≡ true) × (rank_of o ≡ rank_of p)
alike_wide (Some (Tensor xs v)) (Some (Tensor ys w)) h = let both = and_parts (v == w) _ h in (both.0, eqb-true (length xs) (length ys) both.1)
alike_wide (Some (Tensor xs v)) (Some (Scalar e)) h = absurd cc
alike_wide (Some (Tensor xs v)) (Some (Vector ys w)) h = absurd cc
alike_wide (Some (Tensor xs v)) None h = absurd cc
alike_wide (Some (Scalar e)) p h = absurd cc
alike_wide (Some (Vector xs v)) p h = absurd cc
alike_wide None p h = absurd cc

copying_fits : (w : ℕ) → payload_fits (copying w) ≡ true
copying_fits w = eq-eqb w w refl

-- THE AXES OF A TRANSPOSE
each_mapped : (P : Axis → Type 0) (f : ℕ → ℕ) (a : ℕ) (xs : List Extent) → ((d : ℕ) (x : Extent) → slice_get xs d ≡ Some x → P (f (a + d), x)) → Each P (zip (map f (count_up a (length xs))) xs)
each_mapped P f a [] h = tt
each_mapped P f a (x ∷ xs) h = (
  subst (λ k. P (f k, x)) (let e : a + 0 ≡ a = omega arith in e) (h 0 x refl),
  each_mapped P f (a + 1) xs (λ d z q. subst (λ k. P (f k, z)) (let e : a + suc d ≡ a + 1 + d = omega arith in e) (h (suc d) z q)),
)

-- the output's axis at the place of k is the source's axis k
at_place : (order : List ℕ) (xs ys : List Extent) (k p : ℕ) → is_transposed order xs ys ≡ true → length order ≡ length ys → is_among k order ≡ true →
    (j : ℕ) × (place_of k p order ≡ p + j) × (slice_get ys j ≡ slice_get xs k)
at_place [] xs ys k p h l a = absurd cc
at_place (n ∷ order) xs [] k p h l a = absurd (omega arith)
at_place (n ∷ order) xs (y ∷ ys) k p h l a =
    let both : (has_extent (slice_get xs n) y ≡ true) × (is_transposed order xs ys ≡ true) = and_parts (has_extent (slice_get xs n) y) _ h in
    by_test (n == k) refl both.0 (λ c. at_place order xs ys k (p + 1) both.1 (omega arith) c) a where
      by_test : (b : Bool) → (n == k) ≡ b → has_extent (slice_get xs n) y ≡ true →
          (is_among k order ≡ true → (j : ℕ) × (place_of k (p + 1) order ≡ p + 1 + j) × (slice_get ys j ≡ slice_get xs k)) → (b || is_among k order) ≡ true →
          (j : ℕ) × ((if b then p else place_of k (p + 1) order) ≡ p + j) × (slice_get (y ∷ ys) j ≡ slice_get xs k)
      by_test true e here later c = (0, omega arith, sym (has_is (slice_get xs n) y here) ∙ ap (slice_get xs) (eqb-true n k e))
      by_test false e here later c =
          let r = later c in
          (suc r.0, (let q = r.1 in omega (arith, q)), r.2)

-- THE AXES OF A BROADCAST
module _ (ys : List Extent) (fixed : list_all is_fixed ys ≡ true) where
  broadcast_right : (named : List ℕ) (a : ℕ) (zs xs : List Extent) → are_same_extents (extents_from named a zs) xs ≡ true →
      ((d : ℕ) (z : Extent) → slice_get zs d ≡ Some z → slice_get ys (a + d) ≡ Some z) →
      Each (Right ys fixed) (zip (kept named a (count_up a (length zs))) xs) × (length (kept named a (count_up a (length zs))) ≡ length xs)
  broadcast_right named a [] [] h k = (tt, refl)
  broadcast_right named a [] (x ∷ xs) h k = absurd (let e = eqb-true 0 (length (x ∷ xs)) (and_parts (0 == length (x ∷ xs)) _ h).0 in omega (arith, e))
  broadcast_right named a (z ∷ zs) xs h k =
      by_test (is_among a named) refl (λ xs same. broadcast_right named (a + 1) zs xs same (λ d x e. ap (slice_get ys) (let q : a + 1 + d ≡ a + suc d = omega arith in q) ∙ k (suc d) x e)) where
        there : ((xs : List Extent) → are_same_extents (extents_from named (a + 1) zs) xs ≡ true → Each (Right ys fixed) (zip (kept named (a + 1) (count_up (a + 1) (length zs))) xs) × (length (kept named (a + 1) (count_up (a + 1) (length zs))) ≡ length xs)) → (xs : List Extent) → are_same_extents (z ∷ extents_from named (a + 1) zs) xs ≡ true → Each (Right ys fixed) (zip (a ∷ kept named (a + 1) (count_up (a + 1) (length zs))) xs) × (length (a ∷ kept named (a + 1) (count_up (a + 1) (length zs))) ≡ length xs)
        there later [] h = absurd (let e = eqb-true (length (z ∷ extents_from named (a + 1) zs)) 0 (and_parts (length (z ∷ extents_from named (a + 1) zs) == 0) _ h).0 in omega (arith, e))
        there later (x ∷ xs) h =
            let both = and_parts (is_same_extent z x) _ (sym (same_first z x (extents_from named (a + 1) zs) xs) ∙ h) in
            let more = later xs both.1 in
            ((ap (slice_get ys) (let q : a ≡ a + 0 = omega arith in q) ∙ k 0 z refl ∙ ap Some (same_is z x both.0), more.0), ap suc more.1)

        by_test : (b : Bool) → is_among a named ≡ b →
            ((xs : List Extent) → are_same_extents (extents_from named (a + 1) zs) xs ≡ true → Each (Right ys fixed) (zip (kept named (a + 1) (count_up (a + 1) (length zs))) xs) × (length (kept named (a + 1) (count_up (a + 1) (length zs))) ≡ length xs)) →
            Each (Right ys fixed) (zip (if b then kept named (a + 1) (count_up (a + 1) (length zs)) else a ∷ kept named (a + 1) (count_up (a + 1) (length zs))) xs) × (length (if b then kept named (a + 1) (count_up (a + 1) (length zs)) else a ∷ kept named (a + 1) (count_up (a + 1) (length zs))) ≡ length xs)
        by_test true e later = later xs (ap (λ es. are_same_extents es xs) (sym (named_is_left_out named a z zs e)) ∙ h)
        by_test false e later = there later xs (ap (λ es. are_same_extents es xs) (sym (other_is_kept named a z zs e)) ∙ h)

-- PRODUCTS
product_payload : (narrow width : ℕ) → 0 < narrow → narrow ≤ width → payload_fits (multiply_add narrow width) ≡ true
product_payload narrow width some small = by_tests (width == 1) (nat_lt narrow width) refl refl where
  own : (width == width) ≡ true
  own = eq-eqb width width refl

  by_tests : (b c : Bool) → (width == 1) ≡ b → nat_lt narrow width ≡ c →
      let steps : List PayloadStep =
      if b then step_of 1 (Binary Andi (Input 0) (Input 1)) ∷ step_of 1 (Binary Ori Out (Step 0)) ∷ []
      else if c then
      step_of width (SignExtend (Input 0)) ∷ step_of width (SignExtend (Input 1)) ∷ step_of width (Binary Muli (Step 0) (Step 1)) ∷ step_of width (Binary Addi Out (Step 2)) ∷ []
      else step_of width (Binary Muli (Input 0) (Input 1)) ∷ step_of width (Binary Addi Out (Step 0)) ∷ [] in
      payload_fits (record { ins = Int narrow ∷ Int narrow ∷ []; out = Int width; steps = steps; yielded = last_step steps }) ≡ true
  by_tests true c e l =
      let w : width ≡ 1 = eqb-true width 1 e in
      let one : (narrow == 1) ≡ true = eq-eqb narrow 1 (omega (arith, w, some, small)) in
      let back : (1 == width) ≡ true = eq-eqb 1 width (sym w) in
      λ j. ((one j && one j) && ((e j && true) && true)) && back j
  by_tests false true e l = λ j. (l j && (l j && ((own j && own j) && ((own j && own j) && true)))) && own j
  by_tests false false e l =
      let at : (narrow == width) ≡ true = eq-eqb narrow width (let m : width ≤ narrow = grind (arith, nat_tests) in omega (arith, m, small)) in
      λ j. ((at j && at j) && ((own j && own j) && true)) && own j

product_names : (dims captured narrow width : ℕ) → list_all (λ s. names_present dims captured s.op) (multiply_add narrow width).steps ≡ true
product_names dims captured narrow width = by_tests (width == 1) (nat_lt narrow width) where
  by_tests : (b c : Bool) → list_all (λ (s : PayloadStep). names_present dims captured s.op) (
      if b then step_of 1 (Binary Andi (Input 0) (Input 1)) ∷ step_of 1 (Binary Ori Out (Step 0)) ∷ []
      else if c then
      step_of width (SignExtend (Input 0)) ∷ step_of width (SignExtend (Input 1)) ∷ step_of width (Binary Muli (Step 0) (Step 1)) ∷ step_of width (Binary Addi Out (Step 2)) ∷ []
      else step_of width (Binary Muli (Input 0) (Input 1)) ∷ step_of width (Binary Addi Out (Step 0)) ∷ []) ≡ true
  by_tests true c = refl
  by_tests false true = refl
  by_tests false false = refl

record ProductTypes (a b o : Option Ty) (c d : Bool) : Type 0 where
  first_input : is_input a c (Int (width_in a)) ≡ true
  second_input : is_input b d (Int (width_in a)) ≡ true
  output : has_elements o (Int (width_in o)) ≡ true
  some : 0 < width_in a
  small : width_in a ≤ width_in o

product_types : (a b o : Option Ty) (c d : Bool) → (are_as_wide a b && is_at_most_as_wide b o) ≡ true → ProductTypes a b o c d
product_types (Some (Tensor xs u)) (Some (Tensor ys v)) (Some (Tensor zs w)) c d h =
    let both = and_parts (u == v) (nat_lt 0 v && nat_le v w) h in
    let bounds = and_parts (nat_lt 0 v) (nat_le v w) both.1 in
    let e : u ≡ v = eqb-true u v both.0 in
    let l : 0 < v = ltb-true 0 v bounds.0 in
    let m : v ≤ w = below v w bounds.1 in
    record {
      first_input = eq-eqb u u refl;
      second_input = eq-eqb v u (sym e);
      output = eq-eqb w w refl;
      some = omega (arith, e, l);
      small = omega (arith, e, m);
    } where
      below : (v w : ℕ) → nat_le v w ≡ true → v ≤ w
      below v w h = grind (arith, nat_tests)
product_types (Some (Tensor xs u)) (Some (Tensor ys v)) (Some (Scalar e)) c d h = absurd (let q = (and_parts (u == v) false h).1 in cc)
product_types (Some (Tensor xs u)) (Some (Tensor ys v)) (Some (Vector zs w)) c d h = absurd (let q = (and_parts (u == v) false h).1 in cc)
product_types (Some (Tensor xs u)) (Some (Tensor ys v)) None c d h = absurd (let q = (and_parts (u == v) false h).1 in cc)
product_types (Some (Tensor xs u)) (Some (Scalar e)) o c d h = absurd cc
product_types (Some (Tensor xs u)) (Some (Vector ys v)) o c d h = absurd cc
product_types (Some (Tensor xs u)) None o c d h = absurd cc
product_types (Some (Scalar e)) b o c d h = absurd cc
product_types (Some (Vector xs u)) b o c d h = absurd cc
product_types None b o c d h = absurd cc

-- the axes that maps to these dimensions select
abbrev selected : List ℕ → List Extent → List Axis
selected ds xs = filter_map axis (zip (map dimension ds) xs)

abbrev is_selecting : ℕ → ℕ → List ℕ → List Extent → Bool
is_selecting dims n ds xs = (n == dims && length (map dimension ds) == length xs) && list_all is_not_negative (map dimension ds)

abbrev product_maps : ℕ → List ℕ → List ℕ → List ℕ → List MapShape
product_maps n us bs cs = select_map n us ∷ select_map n bs ∷ select_map n cs ∷ []

abbrev product_axes : List ℕ → List ℕ → List ℕ → List Extent → List Extent → List Extent → List Axis
product_axes us bs cs A B C = (selected us A ++ (selected bs B ++ [])) ++ selected cs C

record ProductFits (kinds : List Iter) (n : ℕ) (us bs cs : List ℕ) (A B C : List Extent) : Type 0 where
  first_fits : is_selecting (length kinds) n us A ≡ true
  second_fits : is_selecting (length kinds) n bs B ≡ true
  output_fits : is_selecting (length kinds) n cs C ≡ true
  cover : list_all (λ i. is_some (extent_of (product_axes us bs cs A B C) i.0)) (enumerate_from 0 kinds) ≡ true
  agree : axes_agree (product_axes us bs cs A B C) ≡ true

same_through : (x y z : Extent) → is_same_extent x z ≡ true → is_same_extent y z ≡ true → is_same_extent x y ≡ true
same_through x y z h k = subst (λ w. is_same_extent x w ≡ true) (same_is x z h ∙ sym (same_is y z k)) (same_left x z h)

matmul_fits : (A B C : List Extent) → is_product A B C ≡ true → ProductFits (Parallel ∷ Parallel ∷ Reduction ∷ []) 3 (0 ∷ 2 ∷ []) (2 ∷ 1 ∷ []) (0 ∷ 1 ∷ []) A B C
matmul_fits (am ∷ ak ∷ []) (bk ∷ bn ∷ []) (m ∷ n ∷ []) h =
    let rows = and_parts (is_same_extent am m) _ h in
    let inner = and_parts (is_same_extent ak bk) _ rows.1 in
    record {
      first_fits = refl;
      second_fits = refl;
      output_fits = refl;
      cover = refl;
      agree = λ j. same_left am m rows.0 j && (same_left ak bk inner.0 j && (inner.0 j && (same_left bn n inner.1 j && (rows.0 j && (inner.1 j && true)))));
    }
matmul_fits [] B C h = absurd cc
matmul_fits (am ∷ []) B C h = absurd cc
matmul_fits (am ∷ ak ∷ a ∷ A) B C h = absurd cc
matmul_fits (am ∷ ak ∷ []) [] C h = absurd cc
matmul_fits (am ∷ ak ∷ []) (bk ∷ []) C h = absurd cc
matmul_fits (am ∷ ak ∷ []) (bk ∷ bn ∷ b ∷ B) C h = absurd cc
matmul_fits (am ∷ ak ∷ []) (bk ∷ bn ∷ []) [] h = absurd cc
matmul_fits (am ∷ ak ∷ []) (bk ∷ bn ∷ []) (m ∷ []) h = absurd cc
matmul_fits (am ∷ ak ∷ []) (bk ∷ bn ∷ []) (m ∷ n ∷ c ∷ C) h = absurd cc

batch_fits : (x y z : Extent) (A B C : List Extent) → is_same_extent x z ≡ true → is_same_extent y z ≡ true → is_product A B C ≡ true →
    ProductFits (Parallel ∷ Parallel ∷ Parallel ∷ Reduction ∷ []) 4 (0 ∷ 1 ∷ 3 ∷ []) (0 ∷ 3 ∷ 2 ∷ []) (0 ∷ 1 ∷ 2 ∷ []) (x ∷ A) (y ∷ B) (z ∷ C)
batch_fits x y z (am ∷ ak ∷ []) (bk ∷ bn ∷ []) (m ∷ n ∷ []) xz yz h =
    let rows = and_parts (is_same_extent am m) _ h in
    let inner = and_parts (is_same_extent ak bk) _ rows.1 in
    record {
      first_fits = refl;
      second_fits = refl;
      output_fits = refl;
      cover = refl;
      agree = λ j.
          same_left x z xz j && (same_left am m rows.0 j && (same_left ak bk inner.0 j && (same_through x y z xz yz j && (inner.0 j && (same_left bn n inner.1 j
          && (xz j && (rows.0 j && (inner.1 j && true))))))));
    }
batch_fits x y z [] B C xz yz h = absurd cc
batch_fits x y z (am ∷ []) B C xz yz h = absurd cc
batch_fits x y z (am ∷ ak ∷ a ∷ A) B C xz yz h = absurd cc
batch_fits x y z (am ∷ ak ∷ []) [] C xz yz h = absurd cc
batch_fits x y z (am ∷ ak ∷ []) (bk ∷ []) C xz yz h = absurd cc
batch_fits x y z (am ∷ ak ∷ []) (bk ∷ bn ∷ b ∷ B) C xz yz h = absurd cc
batch_fits x y z (am ∷ ak ∷ []) (bk ∷ bn ∷ []) [] xz yz h = absurd cc
batch_fits x y z (am ∷ ak ∷ []) (bk ∷ bn ∷ []) (m ∷ []) xz yz h = absurd cc
batch_fits x y z (am ∷ ak ∷ []) (bk ∷ bn ∷ []) (m ∷ n ∷ c ∷ C) xz yz h = absurd cc

batch_matmul_fits : (A B C : List Extent) → is_batch_product A B C ≡ true → ProductFits (Parallel ∷ Parallel ∷ Parallel ∷ Reduction ∷ []) 4 (0 ∷ 1 ∷ 3 ∷ []) (0 ∷ 3 ∷ 2 ∷ []) (0 ∷ 1 ∷ 2 ∷ []) A B C
batch_matmul_fits (x ∷ A) (y ∷ B) (z ∷ C) h =
    let outer = and_parts (is_same_extent x z) _ h in
    let both = and_parts (is_same_extent y z) _ outer.1 in
    batch_fits x y z A B C outer.0 both.0 both.1
batch_matmul_fits [] B C h = absurd cc
batch_matmul_fits (x ∷ A) [] C h = absurd cc
batch_matmul_fits (x ∷ A) (y ∷ B) [] h = absurd cc

-- THE RULES
module _ (t : Types) (c : Constants) (wanted : List Ty) (rs : List (ValueId × Ty)) where
  -- none of V2 and V5 to V8 fails
  pub record KeepsRules (kind : OpKind) : Type 0 where
    pub typed : is_typed t c wanted rs kind ≡ true
    pub maps : breaks_maps t kind ≡ false
    pub iterators : breaks_iterators kind ≡ false
    pub extents : breaks_extents t wanted rs kind ≡ false
    pub windows : breaks_windows t kind ≡ false

  -- one input, of which the map selects dimensions
  abbrev copy_kind : ℕ → List ℕ → ValueId → ValueId → ℕ → OpKind
  copy_kind w ds source outs n = Generic (select_map n ds ∷ identity_of n ∷ []) (replicate n Parallel) (source ∷ []) outs [] (copying w)

  module _ (w : ℕ) (ds : List ℕ) (source outs : ValueId) (input : is_input (t source.0) (c source.0) (Int w) ≡ true) (output : has_elements (t outs.0) (Int w) ≡ true)
      (result : is_alike (t outs.0) (result_type rs) ≡ true) (same : has_extents_of (t outs.0) (result_type rs) ≡ true)
      (long : length ds ≡ length (extents_of (t source.0)))
      (right : Each (Right (extents_of (t outs.0)) (same_fixed (extents_of (t outs.0)) (extents_of (result_type rs)) same)) (zip ds (extents_of (t source.0)))) where
    abbrev xs : List Extent
    xs = extents_of (t source.0)

    abbrev ys : List Extent
    ys = extents_of (t outs.0)

    abbrev n : ℕ
    n = length ys

    abbrev maps : List MapShape
    maps = select_map n ds ∷ identity_of n ∷ []

    fixed : list_all is_fixed ys ≡ true
    fixed = same_fixed ys (extents_of (result_type rs)) same

    axes_are : axes t maps (source ∷ []) outs ≡ zip ds xs ++ zip (count_up 0 n) ys
    axes_are =
        (λ j. append-nil (selected_axes ds xs j) j ++ (ap (λ es. filter_map axis (zip es ys)) (counted_dimensions n) ∙ selected_axes (count_up 0 n) ys) j)

    copy_typed : is_typed t c wanted rs (copy_kind w ds source outs n) ≡ true
    unfolding is_typed
    copy_typed =
        and_from _ _ (and_from _ _ (and_from _ _ refl (and_from _ _ refl (and_from _ _ (selecting_is_map n ds (right_below ys fixed ds xs long right)) (and_from _ _ (identity_is_map n) refl))))
        (and_from _ _ (and_from _ _ refl (and_from _ _ input refl)) (and_from _ _ output (and_from _ _ refl (copying_fits w))))) result

    dims_are : (n == length (replicate n Parallel)) ≡ true
    dims_are = eq-eqb n _ (sym (length-replicate n Parallel))

    copy_maps : breaks_maps t (copy_kind w ds source outs n) ≡ false
    unfolding breaks_maps fit_operands cover_dimensions
    copy_maps =
        let first_fits : fits_operand (length (replicate n Parallel)) (select_map n ds) (t source.0) ≡ true =
        and_from _ _ (and_from _ _ dims_are (eq-eqb _ _ (length-map ds dimension ∙ long))) (none_negative ds) in
        let output_fits : fits_operand (length (replicate n Parallel)) (identity_of n) (t outs.0) ≡ true =
        and_from _ _ (and_from _ _ dims_are (eq-eqb _ _ (ap length (counted_dimensions n) ∙ length-map (count_up 0 n) dimension ∙ count_length 0 n)))
        (ap (list_all is_not_negative) (counted_dimensions n) ∙ none_negative (count_up 0 n)) in
        let cover : cover_dimensions t maps (replicate n Parallel) (source ∷ []) outs ≡ true =
        ap (λ all. list_all (λ i. is_some (extent_of all i.0)) (enumerate_from 0 (replicate n Parallel))) axes_are ∙ axes_cover ys fixed (zip ds xs) right in
        λ j. not (((first_fits j && true) && (output_fits j && identity_permutes n j)) && cover j)

    copy_iterators : breaks_iterators (copy_kind w ds source outs n) ≡ false
    unfolding breaks_iterators match_output
    copy_iterators = λ j. not (identity_parallel n j)

    copy_extents : breaks_extents t wanted rs (copy_kind w ds source outs n) ≡ false
    unfolding breaks_extents keeps_extents
    copy_extents = λ j. not ((ap axes_agree axes_are ∙ axes_fit ys fixed (zip ds xs) right) j && same j)

    copy_windows : breaks_windows t (copy_kind w ds source outs n) ≡ false
    unfolding breaks_windows inputs_stay_in
    copy_windows =
        let extents = extent_of (axes t maps (source ∷ []) outs) in
        λ j. not (or_true (has_no_points extents (replicate n Parallel)) (list_all (λ (x : MapShape × ValueId). operand_stays_in extents x.0 (t (x.1).0)) (zip maps (source ∷ [])))
        (and_from _ _ (all_stay extents ds xs) refl) j)

    copy_passes : KeepsRules (copy_kind w ds source outs n)
    copy_passes = record { typed = copy_typed; maps = copy_maps; iterators = copy_iterators; extents = copy_extents; windows = copy_windows }

  -- two inputs and the output, of which the maps select dimensions
  module _ (kinds : List Iter) (n : ℕ) (us bs cs : List ℕ) (x y outs : ValueId) (types : ProductTypes (t x.0) (t y.0) (t outs.0) (c x.0) (c y.0))
      (result : is_alike (t outs.0) (result_type rs) ≡ true) (same : has_extents_of (t outs.0) (result_type rs) ≡ true)
      (fits : ProductFits kinds n us bs cs (extents_of (t x.0)) (extents_of (t y.0)) (extents_of (t outs.0)))
      (made : list_all map_fits (product_maps n us bs cs) ≡ true) (permutes : is_projected_permutation (select_map n cs) ≡ true)
      (iterate : match_output (product_maps n us bs cs) kinds ≡ true) where
    abbrev payload : PayloadShape
    payload = multiply_add (width_in (t x.0)) (width_in (t outs.0))

    abbrev product_kind : OpKind
    product_kind = Generic (product_maps n us bs cs) kinds (x ∷ y ∷ []) outs [] payload

    product_typed : is_typed t c wanted rs product_kind ≡ true
    unfolding is_typed
    product_typed =
        and_from _ _ (and_from _ _ (and_from _ _ refl (and_from _ _ refl made))
        (and_from _ _ (and_from _ _ refl (and_from _ _ types.first_input (and_from _ _ types.second_input refl)))
        (and_from _ _ types.output (and_from _ _ (product_names (length kinds) 0 (width_in (t x.0)) (width_in (t outs.0))) (product_payload (width_in (t x.0)) (width_in (t outs.0)) types.some types.small))))) result

    product_maps_pass : breaks_maps t product_kind ≡ false
    unfolding breaks_maps fit_operands cover_dimensions
    product_maps_pass = λ j. not (((fits.first_fits j && (fits.second_fits j && true)) && (fits.output_fits j && permutes j)) && fits.cover j)

    product_iterators : breaks_iterators product_kind ≡ false
    unfolding breaks_iterators
    product_iterators = λ j. not (iterate j)

    product_extents : breaks_extents t wanted rs product_kind ≡ false
    unfolding breaks_extents keeps_extents
    product_extents = λ j. not (fits.agree j && same j)

    product_windows : breaks_windows t product_kind ≡ false
    unfolding breaks_windows inputs_stay_in
    product_windows =
        let extents = extent_of (axes t (product_maps n us bs cs) (x ∷ y ∷ []) outs) in
        λ j. not (or_true (has_no_points extents kinds) (list_all (λ (x : MapShape × ValueId). operand_stays_in extents x.0 (t (x.1).0)) (zip (product_maps n us bs cs) (x ∷ y ∷ [])))
        (and_from _ _ (all_stay extents us (extents_of (t x.0))) (and_from _ _ (all_stay extents bs (extents_of (t y.0))) refl)) j)

    product_passes : KeepsRules product_kind
    product_passes = record { typed = product_typed; maps = product_maps_pass; iterators = product_iterators; extents = product_extents; windows = product_windows }

  -- each named operation
  fill_passes : (value outs : ValueId) → (is_element (t value.0) (t outs.0) && c value.0) ≡ true → is_alike (t outs.0) (result_type rs) ≡ true →
      has_extents_of (t outs.0) (result_type rs) ≡ true → KeepsRules (copy_kind (width_in (t outs.0)) [] value outs (rank_of (t outs.0)))
  fill_passes value outs h result same =
      let types = fill_copies (t value.0) (t outs.0) (c value.0) h in
      copy_passes (width_in (t outs.0)) [] value outs types.0.input types.0.output result same (ap length (sym types.1)) tt

  broadcast_passes : (source outs : ValueId) (dims : List ℕ) → are_as_wide (t source.0) (t outs.0) ≡ true → is_broadcast dims (extents_of (t source.0)) (extents_of (t outs.0)) ≡ true →
      is_alike (t outs.0) (result_type rs) ≡ true → has_extents_of (t outs.0) (result_type rs) ≡ true →
      KeepsRules (copy_kind (width_in (t outs.0)) (kept dims 0 (count_up 0 (rank_of (t outs.0)))) source outs (rank_of (t outs.0)))
  broadcast_passes source outs dims wide is result same =
      let types = wide_copies (t source.0) (t outs.0) (c source.0) wide in
      let ys = extents_of (t outs.0) in
      let fixed = same_fixed ys (extents_of (result_type rs)) same in
      let right = broadcast_right ys fixed dims 0 ys (extents_of (t source.0)) is (λ d z e. ap (slice_get ys) (zero-add d) ∙ e) in
      copy_passes (width_in (t outs.0)) (kept dims 0 (count_up 0 (rank_of (t outs.0)))) source outs types.input types.output result same right.1 right.0

  transpose_passes : (source outs : ValueId) (order : List ℕ) → is_alike (t source.0) (t outs.0) ≡ true →
      (length order == rank_of (t outs.0) && are_axes order (rank_of (t outs.0))) ≡ true →
      is_transposed order (extents_of (t source.0)) (extents_of (t outs.0)) ≡ true →
      is_alike (t outs.0) (result_type rs) ≡ true → has_extents_of (t outs.0) (result_type rs) ≡ true →
      KeepsRules (copy_kind (width_in (t outs.0)) (map (λ axis. place_of axis 0 order) (count_up 0 (length order))) source outs (length order))
  transpose_passes source outs order alike ordered is result same =
      let wide = alike_wide (t source.0) (t outs.0) alike in
      let types = wide_copies (t source.0) (t outs.0) (c source.0) wide.0 in
      let ys = extents_of (t outs.0) in
      let xs = extents_of (t source.0) in
      let fixed = same_fixed ys (extents_of (result_type rs)) same in
      let both = and_parts (length order == rank_of (t outs.0)) _ ordered in
      let long : length order ≡ length ys = eqb-true (length order) (length ys) both.0 in
      let axes = and_parts (list_all (λ n. nat_lt n (length ys)) order) (not (repeats order)) both.1 in
      let place : ℕ → ℕ = λ axis. place_of axis 0 order in
      let counted : length xs ≡ length order = wide.1 ∙ sym long in
      let there : (k : ℕ) → k < length xs → is_among k order ≡ true =
      λ k l. has_each (length ys) order axes.0 (not_true (repeats order) axes.1) long k (omega (arith, l, wide.1)) in
      let all : Each (Right ys fixed) (zip (map place (count_up 0 (length xs))) xs) =
      each_mapped (Right ys fixed) place 0 xs (λ d x e.
      let r = at_place order xs ys d 0 is long (there d (slice_get_within xs d x e)) in
      ap (λ k. slice_get ys (place k)) (zero-add d) ∙ ap (slice_get ys) (r.1 ∙ zero-add r.0) ∙ r.2 ∙ e) in
      let right : Each (Right ys fixed) (zip (map place (count_up 0 (length order))) xs) = subst (λ n. Each (Right ys fixed) (zip (map place (count_up 0 n)) xs)) counted all in
      let size : length (map place (count_up 0 (length order))) ≡ length xs = length-map (count_up 0 (length order)) place ∙ count_length 0 (length order) ∙ sym counted in
      subst (λ n. KeepsRules (copy_kind (width_in (t outs.0)) (map place (count_up 0 (length order))) source outs n)) (sym long)
      (copy_passes (width_in (t outs.0)) (map place (count_up 0 (length order))) source outs types.input types.output result same size right)
    where
      not_true : (b : Bool) → not b ≡ true → b ≡ false
      not_true true h = absurd cc
      not_true false h = refl

  -- a named operation's generic, with results like its own
  pub named_passes : (qs : List (ValueId × Ty)) (kind : OpKind) (g : Structured) → result_type qs ≡ result_type rs → is_typed t c wanted qs kind ≡ true → keeps_extents t wanted qs kind ≡ true →
      structured_of t kind ≡ Some g → is_generic kind ≡ false → KeepsRules (kind_of g)
  unfolding is_typed keeps_extents match_output structured_of fill_form transpose_form broadcast_form matmul_form batch_matmul_form
  named_passes qs (Fill value outs) g e typed extents is named =
      let both = and_parts _ _ typed in
      subst (λ g. KeepsRules (kind_of g)) (same_Some _ g is) (fill_passes value outs both.0 (likes outs both.1) (sized outs extents))
    where
      likes : (outs : ValueId) → is_alike (t outs.0) (result_type qs) ≡ true → is_alike (t outs.0) (result_type rs) ≡ true
      likes outs h = ap (is_alike (t outs.0)) (sym e) ∙ h

      sized : (outs : ValueId) → has_extents_of (t outs.0) (result_type qs) ≡ true → has_extents_of (t outs.0) (result_type rs) ≡ true
      sized outs h = ap (has_extents_of (t outs.0)) (sym e) ∙ h
  named_passes qs (Matmul x y outs) g e typed extents is named =
      let both = and_parts _ _ typed in
      let shapes = and_parts _ _ extents in
      subst (λ g. KeepsRules (kind_of g)) (same_Some _ g is)
      (product_passes (Parallel ∷ Parallel ∷ Reduction ∷ []) 3 (0 ∷ 2 ∷ []) (2 ∷ 1 ∷ []) (0 ∷ 1 ∷ []) x y outs
      (product_types (t x.0) (t y.0) (t outs.0) (c x.0) (c y.0) (and_parts _ _ both.0).0)
      (ap (is_alike (t outs.0)) (sym e) ∙ both.1) (ap (has_extents_of (t outs.0)) (sym e) ∙ shapes.1) (matmul_fits _ _ _ shapes.0) refl refl selects)
    where
      selects : match_output (product_maps 3 (0 ∷ 2 ∷ []) (2 ∷ 1 ∷ []) (0 ∷ 1 ∷ [])) (Parallel ∷ Parallel ∷ Reduction ∷ []) ≡ true
      selects = refl
  named_passes qs (BatchMatmul x y outs) g e typed extents is named =
      let both = and_parts _ _ typed in
      let shapes = and_parts _ _ extents in
      subst (λ g. KeepsRules (kind_of g)) (same_Some _ g is)
      (product_passes (Parallel ∷ Parallel ∷ Parallel ∷ Reduction ∷ []) 4 (0 ∷ 1 ∷ 3 ∷ []) (0 ∷ 3 ∷ 2 ∷ []) (0 ∷ 1 ∷ 2 ∷ []) x y outs
      (product_types (t x.0) (t y.0) (t outs.0) (c x.0) (c y.0) (and_parts _ _ both.0).0)
      (ap (is_alike (t outs.0)) (sym e) ∙ both.1) (ap (has_extents_of (t outs.0)) (sym e) ∙ shapes.1) (batch_matmul_fits _ _ _ shapes.0) refl refl selects)
    where
      selects : match_output (product_maps 4 (0 ∷ 1 ∷ 3 ∷ []) (0 ∷ 3 ∷ 2 ∷ []) (0 ∷ 1 ∷ 2 ∷ [])) (Parallel ∷ Parallel ∷ Parallel ∷ Reduction ∷ []) ≡ true
      selects = refl
  named_passes qs (Transpose source outs order) g e typed extents is named =
      let both = and_parts _ _ typed in
      let shapes = and_parts _ _ extents in
      let types = and_parts (is_alike (t source.0) (t outs.0)) _ both.0 in
      subst (λ g. KeepsRules (kind_of g)) (same_Some _ g is)
      (transpose_passes source outs order types.0 types.1 shapes.0 (ap (is_alike (t outs.0)) (sym e) ∙ both.1) (ap (has_extents_of (t outs.0)) (sym e) ∙ shapes.1))
  named_passes qs (Broadcast source outs dims) g e typed extents is named =
      let both = and_parts _ _ typed in
      let shapes = and_parts _ _ extents in
      subst (λ g. KeepsRules (kind_of g)) (same_Some _ g is)
      (broadcast_passes source outs dims (and_parts _ _ both.0).0 shapes.0 (ap (is_alike (t outs.0)) (sym e) ∙ both.1) (ap (has_extents_of (t outs.0)) (sym e) ∙ shapes.1))
  named_passes qs (Generic maps iterators ins outs captured payload) g e typed extents is named = absurd cc
  named_passes qs kind g e typed extents is named = absurd cc
