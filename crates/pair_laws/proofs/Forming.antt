-- The fused operation gives the same with its captured values at their first uses.
use Rattle.std.proofs.Common.{◌≡◌, ℕ, ◌+◌, ◌<◌, ◌&&◌, not, Bool, true, false, ℤ, List, [], ◌∷◌, ◌++◌, map, length, get_or, Option, ⊎_elim, refl, ap, sym, subst, ◌∙◌, append_assoc, ltb-true}
use Rattle.std.specs.Prelude.{option_map, nat_lt, if◌then◌else◌}
use Rattle.std.proofs.lemmas.Bool.{cases_Bool}
use Rattle.std.proofs.lemmas.List.{get_or-map}
use Rattle.std.proofs.lemmas.Option.{same_Some}
use Rattle.affine_maps.specs.Shape.{MapShape}
use Rattle.affine_maps.specs.declared.map.Expr.{Expr}
use Rattle.payload_ops.specs.Payload.{IsPayload}
use Rattle.payload_ops.specs.Shape.{PayloadShape}
use Rattle.payload_ops.specs.Values.{payload_value}
use Rattle.mlir_base.specs.declared.types.ElemTy.{ElemTy}
use Rattle.mlir_base.specs.declared.types.ElemTy.TheVariants.{Int, Index as IndexType}
use Rattle.payload_ops.specs.declared.step.Arg.{Arg}
use Rattle.payload_ops.specs.declared.step.Arg.TheVariants.{Input, Out, Step}
use Rattle.payload_ops.specs.declared.step.PayloadStep.{PayloadStep}
use Rattle.payload_ops.specs.declared.step.StepOp.{StepOp}
use Rattle.payload_ops.specs.declared.step.StepOp.TheVariants.{Const, Index, Captured, Linear, Binary, Compare, Select, SignExtend, ZeroExtend, Truncate, IndexCast}
use Rattle.mlir_ir.specs.declared.tree.ValueId.{ValueId}
use Rattle.mlir_meaning.specs.Grids.{count_up, settled, Each}
use Rattle.mlir_meaning.specs.Meaning.{values_in, captured_in, scalar_in}
use Rattle.mlir_meaning.specs.Points.{map_point}
use Rattle.mlir_meaning.specs.States.{State, grid_of, width_of}
use Rattle.mlir_meaning.specs.declared.values.Datum.{Datum}
use Rattle.mlir_meaning.specs.declared.values.Datum.TheVariants.{Cells}
use Rattle.mlir_meaning.specs.Structured.{generic_box, elements, generic_element, generic_result, output_map}
use Rattle.mlir_meaning.proofs.Grids.{each-append}
use Rattle.affine_maps.specs.Permutation.{is_among}
use Rattle.verified_runs.specs.Forms.{Structured}
use Rattle.payload_forms.specs.Moved.{args_of, index_step, linear_step, own_index, captured_step, block, blocks, width}
use Rattle.payload_forms.specs.Joined.{numbered_terms, applied, producer_index, expr_at, Joint, front, producer_to, producer_steps, consumer_base, consumer_to, consumer_steps}
use Rattle.fuse_laws.specs.Joined.{Fit}
use Rattle.payload_forms.specs.Captured.{news_of, news, named, used, in_front}
use Rattle.region_laws.specs.Captured.{IsBehind, IsNotCaptured}
use Rattle.pair_laws.specs.Pairs.{captured_of, joint_of, raw_op, joined_rest, used_of, value_at_place, fused_op, result_in}
use Rattle.pair_laws.specs.Laws.{FusedFits}
use Rattle.region_laws.proofs.Behind.{AreFree, blocks_free, behind_yield}
use Rattle.fuse_laws.proofs.Joining.{joined_fits}
use Rattle.region_laws.proofs.Placing.{placed_gives}

-- NO CAPTURED VALUE BEHIND THE FRONT
applied_free : (e : Expr) (n : ℕ) → AreFree (applied e n)
applied_free e n = each-append (λ (s : PayloadStep). IsNotCaptured s.op) (map (λ (t : ℕ × ℤ). index_step t.0) e.terms) (linear_step e.constant (numbered_terms n e.terms) ∷ []) (indexes e.terms) (tt, tt) where
  indexes : (ts : List (ℕ × ℤ)) → AreFree (map (λ (t : ℕ × ℤ). index_step t.0) ts)
  indexes [] = tt
  indexes (t ∷ ts) = (tt, indexes ts)

rest_free : (j : Joint) (p c : PayloadShape) → AreFree (joined_rest j p c)
rest_free j p c = each-append (λ (s : PayloadStep). IsNotCaptured s.op) (producer_steps j p c) (consumer_steps j p c)
    (blocks_free (producer_index j.exprs) (λ d n. applied_free (expr_at j.exprs d) n) (producer_to j p c) (length (front j p c)) p.steps)
    (blocks_free own_index (λ d n. (tt, tt)) (consumer_to j p c) (consumer_base j p c) c.steps)

-- the captured values that are used are such
news_below : (c : ℕ) (args : List Arg) (seen : List ℕ) → Each (λ k. k < c) (news c seen args)
news_below c [] seen = tt
news_below c (a ∷ args) seen = each-append (λ k. k < c) (news_of c seen a) (news c (seen ++ news_of c seen a) args) (first a) (news_below c args (seen ++ news_of c seen a)) where
  first : (b : Arg) → Each (λ k. k < c) (news_of c seen b)
  first (Input i) = tt
  first Out = tt
  first (Step i) = by (nat_lt i c) (is_among i seen) refl where
    by : (l m : Bool) → nat_lt i c ≡ l → Each (λ k. k < c) (if l && not m then i ∷ [] else [])
    by true true q = tt
    by true false q = (ltb-true i c q, tt)
    by false m q = tt

pub used_below : (c : ℕ) (ss : List PayloadStep) (seen : List ℕ) → Each (λ k. k < c) seen → Each (λ k. k < c) (used c seen ss)
used_below c [] seen h = h
used_below c (s ∷ ss) seen h = used_below c ss (seen ++ named c seen s) (each-append (λ k. k < c) seen (named c seen s) h (news_below c (args_of s.op) seen))

chosen : (u : State) (vs : List ValueId) (is : List ℕ) → Each (λ k. k < length vs) is →
    captured_in u.values (map (value_at_place vs) is) ≡ map (λ k. get_or (captured_in u.values vs) k 0) is
chosen u vs [] h = refl
chosen u vs (i ∷ is) h = λ j. sym (get_or-map (scalar_in u.values) vs i (record { 0 = 0 }) 0 h.0) j ∷ chosen u vs is h.1 j

-- GENERICS OF EQUAL PAYLOADS
result_alike : (maps : List MapShape) (dims : ℕ) (ins : List Datum) (out : Datum) (outer outer' : List ℕ) (p p' : PayloadShape) →
    ((point is : List ℕ) (o : ℕ) → payload_value p' (record { point = point; outer = outer'; ins = is; out = o }) ≡ payload_value p (record { point = point; outer = outer; ins = is; out = o })) →
    generic_result maps dims ins out outer' p' ≡ generic_result maps dims ins out outer p
unfolding generic_result
result_alike maps dims ins out outer outer' p p' h =
    λ j. option_map (Cells (width_of out)) (settled (grid_of out).extents (generic_element (map_point (output_map maps ins)) (λ a x. h x (elements ins maps x) a j) (generic_box maps dims (ins ++ out ∷ [])) (grid_of out)))

module _ (p c : Structured) (k : ℕ) (m : MapShape) (ds : List ℕ) (dims caps width others w : ℕ) (u : State)
    (f : Fit (joint_of p c k m ds) dims caps width others p.payload c.payload) (out_is : c.payload.out ≡ Int w) where
  abbrev raw : Structured
  raw = raw_op p c k m ds

  abbrev new : Structured
  new = fused_op p c k m ds

  abbrev j : Joint
  j = joint_of p c k m ds

  abbrev all : List ValueId
  all = captured_of p c

  abbrev whole : PayloadShape
  whole = in_front (length all) raw.payload.ins raw.payload.out (joined_rest j p.payload c.payload) raw.payload.yielded

  same : raw.payload ≡ whole
  same = λ i. record { ins = raw.payload.ins; out = raw.payload.out; steps = append_assoc (front j p.payload c.payload) (producer_steps j p.payload c.payload) (consumer_steps j p.payload c.payload) i; yielded = raw.payload.yielded }

  good : IsPayload whole
  good = subst IsPayload same (joined_fits j dims caps width others p.payload c.payload f)

  below : Each (λ i. i < length all) (used_of p c k m ds)
  below = used_below (length all) (joined_rest j p.payload c.payload) [] tt

  pub fits_here : IsPayload new.payload
  fits_here = (placed_gives (length all) raw.payload.ins raw.payload.out (joined_rest j p.payload c.payload) raw.payload.yielded good (rest_free j p.payload c.payload)
      (behind_yield (length all) raw.payload.ins raw.payload.out (joined_rest j p.payload c.payload) w out_is raw.payload.yielded good) [] [] [] 0).0

  pub fused_same : result_in new u ≡ result_in raw u
  fused_same =
      (λ i. generic_result raw.maps (length raw.iterators) (values_in u.values raw.ins) (u.values raw.outs.0) (chosen u all (used_of p c k m ds) below i) new.payload)
      ∙ result_alike raw.maps (length raw.iterators) (values_in u.values raw.ins) (u.values raw.outs.0) (captured_in u.values all)
      (map (λ k. get_or (captured_in u.values all) k 0) (used_of p c k m ds)) whole new.payload
      (λ point is o. (placed_gives (length all) raw.payload.ins raw.payload.out (joined_rest j p.payload c.payload) raw.payload.yielded good (rest_free j p.payload c.payload)
      (behind_yield (length all) raw.payload.ins raw.payload.out (joined_rest j p.payload c.payload) w out_is raw.payload.yielded good) point (captured_in u.values all) is o).1)
      ∙ (λ i. generic_result raw.maps (length raw.iterators) (values_in u.values raw.ins) (u.values raw.outs.0) (captured_in u.values all) (sym same i))

pub fused_fits : FusedFits
fused_fits p c k m ds dims caps width others w f out_is =
    fits_here p c k m ds dims caps width others w (record { values = λ n. Cells 0 (record { extents = []; cells = [] }); shared = []; inserts = [] }) f out_is
