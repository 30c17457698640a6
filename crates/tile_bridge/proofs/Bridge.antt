-- A generic operation at which no rule fails is an instance in each typed state.
use Rattle.std.proofs.Common.{◌≡◌, ℕ, suc, ◌+◌, ◌-◌, ◌<◌, ◌^◌, ◌==◌, not, Bool, true, false, List, [], ◌∷◌, ◌++◌, length, get_or, Option, Some, None, refl, ap, sym, subst, ◌∙◌, arith, eqb-true}
use Rattle.std.specs.Prelude.{zip, ⊤}
use Rattle.std.specs.List.{list_all}
use Rattle.std.proofs.lemmas.Bool.{and_parts}
use Rattle.std.proofs.lemmas.List.{length-map}
use Rattle.affine_maps.specs.Shape.{MapShape}
use Rattle.affine_maps.specs.Map.{IsMap, map_fits}
use Rattle.mlir_base.specs.Types.{bits_of}
use Rattle.payload_ops.specs.Values.{is_supplied}
use Rattle.payload_ops.specs.declared.step.PayloadStep.{PayloadStep}
use Rattle.payload_ops.specs.declared.step.StepOp.{StepOp}
use Rattle.payload_ops.specs.declared.step.StepOp.TheVariants as S
use Rattle.mlir_base.specs.declared.types.ElemTy.{ElemTy}
use Rattle.mlir_base.specs.declared.types.ElemTy.TheVariants.{Int, Index}
use Rattle.mlir_ir.specs.declared.tree.Iter.{Iter}
use Rattle.mlir_ir.specs.declared.tree.Iter.TheVariants.{Parallel, Reduction}
use Rattle.mlir_ir.specs.declared.tree.Ty.{Ty}
use Rattle.mlir_ir.specs.declared.tree.Ty.TheVariants.{Scalar, Tensor, Vector}
use Rattle.mlir_ir.specs.declared.tree.ValueId.{ValueId}
use Rattle.mlir_meaning.specs.Grids.{IsFull, Each}
use Rattle.mlir_meaning.specs.Meaning.{values_in, captured_in, scalar_in}
use Rattle.mlir_meaning.specs.Points.{has}
use Rattle.mlir_meaning.specs.States.{State, made, grid_of, width_of}
use Rattle.mlir_meaning.specs.Structured.{generic_result, operand_extent}
use Rattle.mlir_meaning.specs.declared.values.Datum.{Datum}
use Rattle.mlir_meaning.specs.declared.values.Datum.TheVariants.{Number, Bits, Cells}
use Rattle.mlir_meaning.proofs.States.{generic_runs}
use Rattle.mlir_verify.specs.Constants.{Constants}
use Rattle.mlir_verify.specs.Place.{Types}
use Rattle.mlir_verify.specs.Tensors.{extents_of, has_elements}
use Rattle.mlir_verify.specs.Types.{names_present, is_input, is_typed}
use Rattle.mlir_verify.specs.Maps.{breaks_maps, breaks_iterators, fit_operands, cover_dimensions, match_output, is_iterator, output_map, output_dimensions}
use Rattle.mlir_verify.specs.Extents.{breaks_extents, keeps_extents}
use Rattle.mlir_verify.specs.Windows.{breaks_windows, inputs_stay_in}
use Rattle.verified_runs.specs.Forms.{Structured, kind_of}
use Rattle.verified_runs.specs.Typed.{AreTyped, HoldsIn, IsSized}
use Rattle.tile_bridge.specs.Instances.{IsInstance, instance_of, is_parallel, HasExtents}
use Rattle.tile_bridge.proofs.Fitting.{Passes, enumerated, inputs_fit, out_once, out_ds, out_below, out_extents, maps_are, all_there, box_rank, front_is}
use Rattle.region_laws.specs.Operands.{AllFit, IsThere}
use Rattle.point_laws.specs.Boxes.{picks}
use Rattle.affine_maps.specs.Permutation.{repeats}
use Rattle.verified_runs.proofs.Asked.{inputs_have}

not_true : (b : Bool) → not b ≡ false → b ≡ true
not_true true e = refl
not_true false e = absurd cc

-- WHAT OPERANDS HOLD
-- a tensor or a scalar has the extents of its type
abbrev IsOperand : Option Ty → Type 0
IsOperand (Some (Tensor es w)) = ⊤
IsOperand (Some (Scalar e)) = ⊤
IsOperand _ = ⊥

input_is : (o : Option Ty) (constant : Bool) (e : ElemTy) → is_input o constant e ≡ true → IsOperand o
input_is (Some (Tensor es w)) c e h = tt
input_is (Some (Scalar x)) c e h = tt
input_is (Some (Vector es w)) c e h = absurd cc
input_is None c e h = absurd cc

holds_extents : (o : Option Ty) (d : Datum) → IsOperand o → HoldsIn o d → IsSized (extents_of o) (grid_of d).extents
holds_extents (Some (Tensor es w)) (Cells v g) i h = h.1
holds_extents (Some (Tensor es w)) (Number n) i h = absurd h
holds_extents (Some (Tensor es w)) (Bits b) i h = absurd h
holds_extents (Some (Scalar (Int w))) (Bits b) i h = tt
holds_extents (Some (Scalar (Int w))) (Number n) i h = absurd h
holds_extents (Some (Scalar (Int w))) (Cells v g) i h = absurd h
holds_extents (Some (Scalar Index)) (Number n) i h = tt
holds_extents (Some (Scalar Index)) (Bits b) i h = absurd h
holds_extents (Some (Scalar Index)) (Cells v g) i h = absurd h
holds_extents (Some (Vector es w)) d i h = absurd i
holds_extents None d i h = absurd i

-- the output is a tensor of the payload's output
pub record IsOutput (o : Option Ty) (d : Datum) (e : ElemTy) : Type 0 where
  operand : IsOperand o
  cells : d ≡ Cells (width_of d) (grid_of d)
  width : width_of d ≡ bits_of e
  full : IsFull (grid_of d)
  below : Each (λ c. c < 2 ^ bits_of e) (grid_of d).cells

output_is : (o : Option Ty) (d : Datum) (e : ElemTy) → has_elements o e ≡ true → HoldsIn o d → IsOutput o d e
output_is (Some (Tensor es w)) (Cells v g) (Int b) h k =
    let same : w ≡ b = eqb-true w b h in
    record { operand = tt; cells = refl; width = k.0 ∙ same; full = k.2.0; below = subst (λ n. Each (λ c. c < 2 ^ n) g.cells) same k.2.1 }
output_is (Some (Tensor es w)) (Number n) (Int b) h k = absurd k
output_is (Some (Tensor es w)) (Bits n) (Int b) h k = absurd k
output_is (Some (Tensor es w)) d Index h k = absurd cc
output_is (Some (Scalar x)) d e h k = absurd cc
output_is (Some (Vector es w)) d e h k = absurd cc
output_is None d e h k = absurd cc

module _ (t : Types) (c : Constants) (u : State) (typed : AreTyped t u) where
  inputs_sized : (ins : List ValueId) (es : List ElemTy) → length ins ≡ length es → list_all (λ (x : ValueId × ElemTy). is_input (t (x.0).0) (c (x.0).0) x.1) (zip ins es) ≡ true → Each (HasExtents t u) ins
  inputs_sized [] es l h = tt
  inputs_sized (v ∷ ins) [] l h = absurd (omega arith)
  inputs_sized (v ∷ ins) (e ∷ es) l h =
      let parts = and_parts (is_input (t v.0) (c v.0) e) _ h in
      (holds_extents (t v.0) (u.values v.0) (input_is (t v.0) (c v.0) e parts.0) (typed v.0), inputs_sized ins es (omega arith) parts.1)

element_is : (o : Option Ty) (e : ElemTy) → has_elements o e ≡ true → (w : ℕ) × (e ≡ Int w)
element_is (Some (Tensor es v)) (Int b) h = (b, refl)
element_is (Some (Tensor es v)) Index h = absurd cc
element_is (Some (Scalar x)) e h = absurd cc
element_is (Some (Vector es w)) e h = absurd cc
element_is None e h = absurd cc

-- what the steps name is there
present_is : (dims caps : ℕ) (op : StepOp) → is_supplied dims caps op ≡ names_present dims caps op
present_is dims caps (S.Const n) = refl
present_is dims caps (S.Index d) = refl
present_is dims caps (S.Captured k) = refl
present_is dims caps (S.Linear c ts) = refl
present_is dims caps (S.Binary op a b) = refl
present_is dims caps (S.Compare c a b) = refl
present_is dims caps (S.Select c a b) = refl
present_is dims caps (S.SignExtend a) = refl
present_is dims caps (S.ZeroExtend a) = refl
present_is dims caps (S.Truncate a) = refl
present_is dims caps (S.IndexCast a) = refl

all_supplied : (dims caps : ℕ) (ss : List PayloadStep) → list_all (λ (s : PayloadStep). names_present dims caps s.op) ss ≡ true → Each (λ (s : PayloadStep). is_supplied dims caps s.op ≡ true) ss
all_supplied dims caps [] h = tt
all_supplied dims caps (s ∷ ss) h = let parts = and_parts (names_present dims caps s.op) _ h in (present_is dims caps s.op ∙ parts.0, all_supplied dims caps ss parts.1)

maps_each : (ms : List MapShape) → list_all map_fits ms ≡ true → Each IsMap ms
maps_each [] h = tt
maps_each (m ∷ ms) h = let parts = and_parts (map_fits m) _ h in (parts.0, maps_each ms parts.1)

parallel_is : (i : Iter) (b : Bool) → is_iterator i b ≡ true → is_parallel i ≡ b
parallel_is Parallel b h = sym h
parallel_is Reduction true h = absurd cc
parallel_is Reduction false h = refl

-- WHERE NO RULE FAILS
module _ (t : Types) (c : Constants) (wanted : List Ty) (rs : List (ValueId × Ty)) (g : Structured) (u : State) (typed : AreTyped t u)
    (types : is_typed t c wanted rs (kind_of g) ≡ true) (maps : breaks_maps t (kind_of g) ≡ false) (iterators : breaks_iterators (kind_of g) ≡ false)
    (extents : breaks_extents t wanted rs (kind_of g) ≡ false) (windows : breaks_windows t (kind_of g) ≡ false) where
  pub output_there : IsOutput (t g.outs.0) (u.values g.outs.0) g.payload.out
  unfolding is_typed
  output_there =
      let parts = and_parts _ _ (and_parts _ _ types).0 in
      let payload = and_parts _ _ parts.1 in output_is (t g.outs.0) (u.values g.outs.0) g.payload.out (and_parts (has_elements (t g.outs.0) g.payload.out) _ payload.1).0 (typed g.outs.0)

  -- what the rules say, and what the operands have
  pub passes_there : Passes t u g.maps g.iterators g.ins g.outs
  unfolding is_typed breaks_maps breaks_extents breaks_windows fit_operands cover_dimensions keeps_extents inputs_stay_in
  passes_there =
      let parts = and_parts _ _ (and_parts _ _ types).0 in
      let front = and_parts (length g.maps == suc (length g.ins)) _ parts.0 in
      let operands = and_parts (length g.ins == length g.payload.ins) _ (and_parts _ _ parts.1).0 in
      let made_maps = and_parts _ _ front.1 in
      let fit = and_parts _ _ (not_true _ maps) in
      let fits = and_parts _ _ fit.0 in
      let axes = and_parts _ _ (not_true _ extents) in
      record {
        counted = eqb-true (length g.maps) (suc (length g.ins)) front.0;
        made = maps_each g.maps made_maps.1;
        inputs = fits.0;
        output = fits.1;
        covers = fit.1;
        agree = axes.0;
        windows = not_true _ windows;
        sized = inputs_sized t c u typed g.ins g.payload.ins (eqb-true (length g.ins) (length g.payload.ins) operands.0) operands.1;
        out_sized = holds_extents (t g.outs.0) (u.values g.outs.0) output_there.operand (typed g.outs.0);
      }

  parallel_there : (d : ℕ) → d < length g.iterators → is_parallel (get_or g.iterators d Parallel) ≡ has (output_dimensions (output_map g.maps)) d
  unfolding breaks_iterators match_output
  parallel_there d l =
      let z : 0 + d ≡ d = omega arith in
      parallel_is (get_or g.iterators d Parallel) (has (output_dimensions (output_map g.maps)) d)
      (sym (ap (λ k. is_iterator (get_or g.iterators d Parallel) (has (output_dimensions (output_map g.maps)) k)) z)
      ∙ enumerated g.iterators 0 (λ (i : ℕ × Iter). is_iterator i.1 (has (output_dimensions (output_map g.maps)) i.0)) (not_true _ iterators) d l)

  pub is_instance : IsInstance g u
  unfolding is_typed
  is_instance =
      let parts = and_parts _ _ (and_parts _ _ types).0 in
      let payload = and_parts _ _ parts.1 in
      let operands = and_parts (length g.ins == length g.payload.ins) _ payload.0 in
      let rest = and_parts (has_elements (t g.outs.0) g.payload.out) _ payload.1 in
      let steps = and_parts _ _ rest.1 in
      let p = passes_there in
      let out = output_there in
      let same = maps_are t u g.maps g.iterators g.ins g.outs p in
      let ds_is = out_ds t u g.maps g.iterators g.ins g.outs p in
      record {
        fits = record {
          inputs = subst (λ ms. AllFit (instance_of g u).box ms (values_in u.values g.ins)) (sym (front_is t u g.maps g.iterators g.ins g.outs p)) (inputs_fit t u g.maps g.iterators g.ins g.outs p);
          selects = subst (λ ds. Each (λ d. d < length (instance_of g u).box) ds) (sym ds_is) (out_below t u g.maps g.iterators g.ins g.outs p);
          extents = out_extents t u g.maps g.iterators g.ins g.outs p ∙ (λ j. picks (sym ds_is j) (instance_of g u).box);
          alone = λ d l. subst (λ x. IsThere x) (λ j. operand_extent d (same j) (values_in u.values g.ins ++ out.cells j ∷ [])) (all_there t u g.maps g.iterators g.ins g.outs p d l);
        };
        rank = box_rank t u g.maps g.iterators g.ins g.outs p;
        maps = same;
        output = out.cells;
        means = λ rs.
            generic_runs u rs g.maps g.iterators g.ins g.outs g.captured g.payload (values_in u.values g.ins) (Cells (width_of (u.values g.outs.0)) (grid_of (u.values g.outs.0)))
            (captured_in u.values g.captured) refl out.cells refl
            ∙ (λ j. made rs u (generic_result (same j) (box_rank t u g.maps g.iterators g.ins g.outs p j) (values_in u.values g.ins)
            (Cells (width_of (u.values g.outs.0)) (grid_of (u.values g.outs.0))) (captured_in u.values g.captured) g.payload));
        inputs = inputs_have t c u.values typed g.ins g.payload.ins (eqb-true (length g.ins) (length g.payload.ins) operands.0) operands.1;
        full = out.full;
        width = out.width;
        below = out.below;
        payload = steps.1;
        element = element_is (t g.outs.0) g.payload.out rest.0;
        supplied = subst (λ (n : ℕ). Each (λ (s : PayloadStep). is_supplied n (length (captured_in u.values g.captured)) s.op ≡ true) g.payload.steps) (box_rank t u g.maps g.iterators g.ins g.outs p)
            (subst (λ (n : ℕ). Each (λ (s : PayloadStep). is_supplied (length g.iterators) n s.op ≡ true) g.payload.steps) (sym (length-map g.captured (scalar_in u.values))) (all_supplied (length g.iterators) (length g.captured) g.payload.steps steps.0));
        once = ap repeats ds_is ∙ out_once t u g.maps g.iterators g.ins g.outs p;
        parallel = parallel_there;
      }
