-- A generic that passes is printable, where its result, its payload's steps and the number of its inputs are within the limits.
use Rattle.std.proofs.Common.{◌≡◌, ℕ, suc, ◌<◌, ◌≤◌, ◌==◌, ◌&&◌, Bool, true, List, [], ◌∷◌, ◌++◌, map, length, Option, Some, None, refl, ap, sym, ◌∙◌, arith, eqb-true, leb-true}
use Rattle.std.specs.Prelude.{is_some, nat_le}
use Rattle.std.specs.List.{AllByRecursion, list_all, zip}
use Rattle.std.proofs.lemmas.Bool.{and_parts}
use Rattle.affine_maps.specs.Map.{map_fits}
use Rattle.affine_maps.specs.Shape.{MapShape}
use Rattle.mlir_base.specs.declared.types.ElemTy.{ElemTy}
use Rattle.mlir_base.specs.declared.types.ElemTy.TheVariants.{Int, Index}
use Rattle.mlir_ir.specs.Count.{operands}
use Rattle.mlir_ir.specs.declared.tree.Extent.{Extent}
use Rattle.mlir_ir.specs.declared.tree.Ty.{Ty}
use Rattle.mlir_ir.specs.declared.tree.Ty.TheVariants.{Scalar, Tensor, Vector}
use Rattle.mlir_ir.specs.declared.tree.ValueId.{ValueId}
use Rattle.payload_ops.specs.Payload.{payload_fits}
use Rattle.mlir_verify.specs.Constants.{Constants}
use Rattle.mlir_verify.specs.Names.{in_scope}
use Rattle.mlir_verify.specs.Place.{Types, type_among, is_empty}
use Rattle.mlir_verify.specs.Tensors.{has_elements, is_alike, result_type}
use Rattle.mlir_verify.specs.Types.{names_present, is_input, is_typed_payload, is_typed}
use Rattle.verified_runs.specs.Forms.{Structured, kind_of}
use Rattle.verified_runs.specs.Passes.{Scope}
use Rattle.mlir_print.specs.Names.{Row}
use Rattle.mlir_scope.specs.Types.{elem_of}
use Rattle.mlir_roundtrip.specs.Maps.{ArePrintableMaps}
use Rattle.mlir_roundtrip.specs.Printable.{IsTensorType, IsDefined, elem_in, IsPrintableStep, IsPrintableGeneric}
use Rattle.printable_steps.proofs.Types.{Agree, row_typed, defined_by_type, tensor_by_type}

-- what the text asks of a generic beside what the verifier does
pub record PrintsFew (g : Structured) : Type 0 where
  pub few : length g.ins < 64
  pub steps : AllByRecursion IsPrintableStep g.payload.steps
  pub few_steps : length g.payload.steps ≤ 1024

all_maps : (maps : List MapShape) → list_all map_fits maps ≡ true → ArePrintableMaps maps
all_maps [] h = tt
all_maps (m ∷ maps) h = let both = and_parts (map_fits m) _ h in (both.0, all_maps maps both.1)

-- an input has elements of its payload's type
input_elem : (o : Option Ty) (c : Bool) (x : ElemTy) → is_input o c x ≡ true → (T : Ty) × (o ≡ Some T) × (elem_of T ≡ x)
input_elem (Some (Tensor es v)) c (Int w) h = (Tensor es v, refl, ap Int (eqb-true v w h))
input_elem (Some (Scalar (Int v))) c (Int w) h = (Scalar (Int v), refl, ap Int (eqb-true v w (and_parts (v == w) c h).0))
input_elem (Some (Scalar Index)) c x h = absurd cc
input_elem (Some (Tensor es v)) c Index h = absurd cc
input_elem (Some (Scalar (Int v))) c Index h = absurd cc
input_elem (Some (Vector es v)) c x h = absurd cc
input_elem None c x h = absurd cc

-- and so has the output, which is a tensor
output_elem : (o : Option Ty) (x : ElemTy) → has_elements o x ≡ true → (es : List Extent) × (w : ℕ) × (o ≡ Some (Tensor es w)) × (Int w ≡ x)
output_elem (Some (Tensor es v)) (Int w) h = (es, v, refl, ap Int (eqb-true v w h))
output_elem (Some (Tensor es v)) Index h = absurd cc
output_elem (Some (Scalar e)) x h = absurd cc
output_elem (Some (Vector es v)) x h = absurd cc
output_elem None x h = absurd cc

none_left : {X : Type 0} (xs : List X) → is_empty xs ≡ true → xs ≡ []
none_left [] h = refl
none_left (x ∷ xs) h = absurd cc

module _ (rows : List Row) (scope : Scope) (agree : Agree rows scope) (c : Constants) where
  abbrev t : Types
  t = type_among scope

  inputs_typed : (ins : List ValueId) (xs : List ElemTy) → length ins ≡ length xs → list_all (λ (x : ValueId × ElemTy). is_input (t (x.0).0) (c (x.0).0) x.1) (zip ins xs) ≡ true → xs ≡ map (elem_in rows) ins
  inputs_typed [] [] l h = refl
  inputs_typed [] (x ∷ xs) l h = absurd (omega (arith, l))
  inputs_typed (v ∷ ins) [] l h = absurd (omega (arith, l))
  inputs_typed (v ∷ ins) (x ∷ xs) l h =
      let both = and_parts (is_input (t v.0) (c v.0) x) _ h in
      let found = input_elem (t v.0) (c v.0) x both.0 in
      λ j. (sym found.2 ∙ sym (ap elem_of (row_typed rows v found.0 (agree v.0 ∙ found.1)))) j ∷ inputs_typed ins xs (omega (arith, l)) both.1 j

  known_type : (o : Option Ty) → is_some o ≡ true → (T : Ty) × (o ≡ Some T)
  known_type None h = absurd cc
  known_type (Some T) h = (T, refl)

  inputs_defined : (ins rest : List ValueId) → in_scope t (ins ++ rest) ≡ true → AllByRecursion (IsDefined rows) ins
  inputs_defined [] rest h = tt
  inputs_defined (v ∷ ins) rest h =
      let both = and_parts (is_some (t v.0)) _ h in
      let found = known_type (t v.0) both.0 in
      (defined_by_type rows v found.0 (agree v.0 ∙ found.1), inputs_defined ins rest both.1)

  pub generic_prints : (wanted : List Ty) (rs : Scope) (ty : Ty) (g : Structured) → is_typed t c wanted rs (kind_of g) ≡ true → in_scope t (operands (kind_of g)) ≡ true → IsTensorType ty →
      nat_le (length g.iterators) 12 ≡ true → PrintsFew g → IsPrintableGeneric rows ty g.maps g.iterators g.ins g.outs g.captured g.payload
  unfolding is_typed
  generic_prints wanted rs ty g typed known result its prints =
      let both = and_parts _ (is_alike (t g.outs.0) (result_type rs)) typed in
      let generic = and_parts (length g.maps == suc (length g.ins) && (is_empty g.captured && list_all map_fits g.maps)) (is_typed_payload t c (length g.iterators) g.ins g.outs g.captured g.payload) both.0 in
      let front = and_parts (length g.maps == suc (length g.ins)) (is_empty g.captured && list_all map_fits g.maps) generic.0 in
      let rest = and_parts (is_empty g.captured) (list_all map_fits g.maps) front.1 in
      let payload = and_parts (length g.ins == length g.payload.ins && list_all (λ (x : ValueId × ElemTy). is_input (t (x.0).0) (c (x.0).0) x.1) (zip g.ins g.payload.ins)) _ generic.1 in
      let inputs = and_parts (length g.ins == length g.payload.ins) (list_all (λ (x : ValueId × ElemTy). is_input (t (x.0).0) (c (x.0).0) x.1) (zip g.ins g.payload.ins)) payload.0 in
      let output = and_parts (has_elements (t g.outs.0) g.payload.out) _ payload.1 in
      let steps = and_parts (list_all (λ s. names_present (length g.iterators) (length g.captured) s.op) g.payload.steps) (payload_fits g.payload) output.1 in
      let out = output_elem (t g.outs.0) g.payload.out output.0 in
      let typed_out = agree g.outs.0 ∙ out.2 in
      record {
        result = result;
        maps_printable = all_maps g.maps rest.1;
        few_iterators = leb-true (length g.iterators) 12 its;
        not_captured = none_left g.captured rest.0;
        few = prints.few;
        ins_defined = inputs_defined g.ins (g.outs ∷ g.captured) known;
        output = tensor_by_type rows g.outs out.0 out.1 typed_out;
        ins_typed = inputs_typed g.ins g.payload.ins (eqb-true (length g.ins) (length g.payload.ins) inputs.0) inputs.1;
        out_typed = sym out.3 ∙ sym (ap elem_of (row_typed rows g.outs (Tensor out.0 out.1) typed_out));
        payload = steps.1;
        steps = prints.steps;
        few_steps = prints.few_steps;
      }
