-- The function with a pair fused passes the verifier.
use Rattle.std.proofs.Common.{◌≡◌, ℕ, zero, suc, ◌<◌, ◌==◌, ◌&&◌, Bool, true, List, [], ◌∷◌, ◌++◌, length, Option, Some, None, refl, ap, sym, subst, ◌∙◌, arith, length-append}
use Rattle.std.specs.Prelude.{is_some, zip}
use Rattle.std.specs.List.{list_all}
use Rattle.std.proofs.lemmas.Bool.{and_parts}
use Rattle.std.proofs.lemmas.List.{length-map}
use Rattle.mlir_base.specs.Types.{bits_of}
use Rattle.mlir_base.specs.declared.types.ElemTy.{ElemTy}
use Rattle.mlir_base.specs.declared.types.ElemTy.TheVariants.{Int, Index}
use Rattle.payload_ops.specs.Payload.{IsPayload}
use Rattle.mlir_ir.specs.Count.{uses_op}
use Rattle.mlir_ir.specs.Shape.{FuncShape}
use Rattle.mlir_ir.specs.declared.tree.Op.{Op}
use Rattle.mlir_ir.specs.declared.tree.Ty.{Ty}
use Rattle.mlir_ir.specs.declared.tree.Ty.TheVariants.{Scalar, Tensor, Vector}
use Rattle.mlir_ir.specs.declared.tree.ValueId.{ValueId}
use Rattle.mlir_meaning.specs.Grids.{Each}
use Rattle.mlir_meaning.specs.Laws.{all_but}
use Rattle.mlir_meaning.specs.Meaning.{captured_in, scalar_in}
use Rattle.mlir_meaning.specs.Names.{ReadsOnly, OpsReadOnly}
use Rattle.mlir_meaning.proofs.Grids.{each-append}
use Rattle.mlir_meaning.proofs.Through.{each_left, each_right}
use Rattle.mlir_verify.specs.Built.{is_built}
use Rattle.mlir_verify.specs.Constants.{Constants}
use Rattle.mlir_verify.specs.Ends.{is_return}
use Rattle.mlir_verify.specs.Names.{in_scope}
use Rattle.mlir_verify.specs.Place.{Types, is_empty}
use Rattle.mlir_verify.specs.Types.{is_input}
use Rattle.verified_runs.specs.Forms.{Structured, kind_of}
use Rattle.verified_runs.specs.Passes.{Scope, OpPasses, BodyPasses, FuncPasses, scope_after}
use Rattle.payload_forms.specs.Joined.{spliced}
use Rattle.fuse_laws.specs.Joined.{Fit}
use Rattle.fuse_laws.specs.Fused.{joint}
use Rattle.fuse_laws.proofs.Fusing.{spliced_length}
use Rattle.tile_bridge.specs.Instances.{input_maps}
use Rattle.pair_laws.specs.Pairs.{captured_of, place_in, fused_op}
use Rattle.pair_laws.specs.FuseAll.{Pair, fused_of, has_small_maps}
use Rattle.pair_laws.specs.Laws.{FusedPairPasses}
use Rattle.pair_laws.proofs.Forming.{fused_fits}
use Rattle.pair_laws.proofs.Found.{IsFound, pair_found}
use Rattle.pair_laws.proofs.Frame.{Drops, appended, drops_nothing, drops_one, drops_more, op_kept, body_kept, end_changed}
use Rattle.pair_laws.proofs.Inside as inside
use Rattle.pair_laws.proofs.Inside.{maps_pass, maps_split, maps_small, iterators_pass, extents_pass, windows_pass}
use Rattle.pair_laws.proofs.Premises as premises
use Rattle.pair_laws.proofs.Premises.{each_spliced, each_with, later, t0, t2, tail, p_op, c_op, p_types, c_types, p_same, ds_are, m_map, map_dims, counts}
use Rattle.pair_laws.proofs.Present.{all_of, each_of, none_fused, steps_present}
use Rattle.pair_laws.proofs.Rules.{IsTypedGeneric, typed_whole, int_out}
use Rattle.pair_laws.proofs.Uses.{unused_front, unused_rest}

-- INPUTS
-- an operand that may be a constant may be one
input_more : (o : Option Ty) (b : Bool) (e : ElemTy) → is_input o b e ≡ true → is_input o true e ≡ true
input_more (Some (Tensor xs v)) b (Int w) h = h
input_more (Some (Tensor xs v)) b Index h = absurd cc
input_more (Some (Scalar (Int v))) b (Int w) h = λ j. (and_parts (v == w) b h).0 j && true
input_more (Some (Scalar (Int v))) b Index h = absurd cc
input_more (Some (Scalar Index)) b e h = absurd cc
input_more (Some (Vector xs v)) b e h = absurd cc
input_more None b e h = absurd cc

abbrev Taken : Types → ValueId × ElemTy → Bool
Taken t x = is_input (t (x.0).0) true x.1

inputs_more : (s t : Types) (c : Constants) (vs : List ValueId) (es : List ElemTy) → Each (λ (v : ValueId). t v.0 ≡ s v.0) vs →
    list_all (λ (x : ValueId × ElemTy). is_input (s (x.0).0) (c (x.0).0) x.1) (zip vs es) ≡ true → list_all (Taken t) (zip vs es) ≡ true
inputs_more s t c [] es k h = refl
inputs_more s t c (v ∷ vs) [] k h = refl
inputs_more s t c (v ∷ vs) (e ∷ es) k h =
    let parts = and_parts (is_input (s v.0) (c v.0) e) _ h in
    λ j. ((λ i. is_input (k.0 i) true e) ∙ input_more (s v.0) (c v.0) e parts.0) j && inputs_more s t c vs es k.1 parts.1 j

each_same : (t : Types) (vs : List ValueId) → Each (λ (v : ValueId). t v.0 ≡ t v.0) vs
each_same t [] = tt
each_same t (v ∷ vs) = (refl, each_same t vs)

taken_append : (P : ValueId × ElemTy → Bool) (ys vs : List ValueId) (ds es : List ElemTy) → length ys ≡ length ds → list_all P (zip ys ds) ≡ true → list_all P (zip vs es) ≡ true → list_all P (zip (ys ++ vs) (ds ++ es)) ≡ true
taken_append P [] vs [] es l h k = k
taken_append P (y ∷ ys) vs (d ∷ ds) es l h k = let parts = and_parts (P (y, d)) _ h in λ j. parts.0 j && taken_append P ys vs ds es (omega arith) parts.1 k j
taken_append P [] vs (d ∷ ds) es l h k = absurd (omega arith)
taken_append P (y ∷ ys) vs [] es l h k = absurd (omega arith)

taken_spliced : (P : ValueId × ElemTy → Bool) (k : ℕ) (ys vs : List ValueId) (ds es : List ElemTy) → length ys ≡ length ds → length vs ≡ length es → list_all P (zip ys ds) ≡ true → list_all P (zip vs es) ≡ true →
    list_all P (zip (spliced k ys vs) (spliced k ds es)) ≡ true
taken_spliced P k ys [] ds [] l m h j = refl
taken_spliced P k ys [] ds (e ∷ es) l m h j = absurd (omega arith)
taken_spliced P k ys (v ∷ vs) ds [] l m h j = absurd (omega arith)
taken_spliced P zero ys (v ∷ vs) ds (e ∷ es) l m h j = taken_append P ys vs ds es l h (and_parts (P (v, e)) _ j).1
taken_spliced P (suc k) ys (v ∷ vs) ds (e ∷ es) l m h j = let parts = and_parts (P (v, e)) _ j in λ i. parts.0 i && taken_spliced P k ys vs ds es l (omega arith) h parts.1 i

-- THE OPERATION
module _ (f : FuncShape) (x : Pair) (passes : FuncPasses f) (i : IsFound f.params f.body x) (small : has_small_maps (fused_of x) ≡ true) where
  abbrev t : Types
  t = t2 f x passes i

  abbrev ds : List ℕ
  ds = premises.D f x passes i

  abbrev new : Structured
  new = fused_op x.p x.c x.k x.m ds

  abbrev pt : IsTypedGeneric (t0 f x passes i) (p_op f x passes i).constants x.producer.results x.p
  pt = p_types f x passes i

  abbrev ct : IsTypedGeneric t (c_op f x passes i).constants x.consumer.results x.c
  ct = c_types f x passes i

  p_ins_same : Each (λ (v : ValueId). t v.0 ≡ t0 f x passes i v.0) x.p.ins
  p_ins_same = each_left (λ (v : ValueId). t v.0 ≡ t0 f x passes i v.0) x.p.ins (x.p.outs ∷ x.p.captured) (p_same f x passes i)

  none : new.captured ≡ []
  none = none_fused x.p x.c pt.none_captured ct.none_captured x.k x.m ds

  payload_there : IsPayload new.payload
  payload_there =
      let u = inside.u f x passes i small in
      let typed = inside.typed f x passes i small in
      let all = captured_of x.p x.c in
      fused_fits x.p x.c x.k x.m ds (length (inside.p_box f x passes i small)) (length (captured_in u.values x.p.captured)) (length (inside.box f x passes i small)) (length (captured_in u.values x.c.captured))
      (bits_of x.c.payload.out)
      (subst (λ n. Fit (joint x.k ds x.m n (place_in all x.p.captured) (place_in all x.c.captured)) (length (inside.p_box f x passes i small)) (length (captured_in u.values x.p.captured)) (length (inside.box f x passes i small))
      (length (captured_in u.values x.c.captured)) x.p.payload x.c.payload) (length-map all (scalar_in u.values)) (premises.fit f x passes i u typed))
      (int_out (t x.c.outs.0) x.c.payload.out ct.output)

  new_types : IsTypedGeneric t (λ v. true) x.consumer.results new
  new_types = record {
    counted = (let l = length-append (spliced x.k (premises.moved_maps f x passes i) (input_maps x.c)) ((inside.s f x passes i small).last ∷ []) in omega (arith, ap length (maps_split f x passes i small), l, counts f x passes i));
    none_captured = ap is_empty none;
    maps = maps_small f x passes i small;
    arity = spliced_length x.k x.p.ins x.p.payload.ins x.c.ins x.c.payload.ins pt.arity ct.arity;
    inputs = taken_spliced (Taken t) x.k x.p.ins x.c.ins x.p.payload.ins x.c.payload.ins pt.arity ct.arity
        (inputs_more (t0 f x passes i) t (p_op f x passes i).constants x.p.ins x.p.payload.ins p_ins_same pt.inputs)
        (inputs_more t t (c_op f x passes i).constants x.c.ins x.c.payload.ins (each_same t x.c.ins) ct.inputs);
    output = ct.output;
    steps = steps_present x.p x.c x.k x.m ds pt.none_captured ct.none_captured (m_map f x passes i) (map_dims f x passes i) pt.steps ct.steps;
    payload = payload_there;
    gives = ct.gives;
  }

  abbrev Known : ValueId → Type 0
  Known v = is_some (t v.0) ≡ true

  known_there : in_scope t (new.ins ++ (new.outs ∷ new.captured)) ≡ true
  known_there =
      let ps = each_of (λ (v : ValueId). is_some (t0 f x passes i v.0)) (x.p.ins ++ (x.p.outs ∷ x.p.captured)) (p_op f x passes i).known in
      let cs = each_of (λ (v : ValueId). is_some (t v.0)) (x.c.ins ++ (x.c.outs ∷ x.c.captured)) (c_op f x passes i).known in
      let p_ins = each_with (λ (v : ValueId). is_some (t0 f x passes i v.0) ≡ true) (λ (v : ValueId). t v.0 ≡ t0 f x passes i v.0) Known (λ v h e. ap is_some e ∙ h) x.p.ins
      (each_left (λ (v : ValueId). is_some (t0 f x passes i v.0) ≡ true) x.p.ins (x.p.outs ∷ x.p.captured) ps) p_ins_same in
      all_of (λ (v : ValueId). is_some (t v.0)) (new.ins ++ (new.outs ∷ new.captured))
      (each-append Known new.ins (new.outs ∷ new.captured) (each_spliced Known x.k x.p.ins x.c.ins p_ins (each_left Known x.c.ins (x.c.outs ∷ x.c.captured) cs))
      ((each_right Known x.c.ins (x.c.outs ∷ x.c.captured) cs).0, subst (Each Known) (sym none) tt))

  new_passes : OpPasses (later f x passes i) f.results (record { id = x.consumer.id; results = x.consumer.results; kind = kind_of new })
  unfolding is_built
  new_passes = record {
    constants = λ v. true;
    news = (c_op f x passes i).news;
    known = known_there;
    built = (c_op f x passes i).built;
    typed = typed_whole t (λ v. true) f.results x.consumer.results new new_types;
    maps = maps_pass f x passes i small;
    iterators = iterators_pass f x passes i small;
    extents = extents_pass f x passes i small;
    windows = windows_pass f x passes i small;
  }

  -- THE FUNCTION
  abbrev new_op : Op
  new_op = record { id = x.consumer.id; results = x.consumer.results; kind = kind_of new }

  abbrev scope : Scope
  scope = scope_after f.params x.before

  one : uses_op i.result (x.before ++ (x.producer ∷ (x.mid ++ (x.consumer ∷ x.after)))) ≡ 1
  one = ap (uses_op i.result) (sym i.is) ∙ i.one_use

  front_unused : OpsReadOnly (all_but i.result) x.before
  front_unused = unused_front i.result x.p x.c x.k x.m ds i.operand x.before x.mid x.after x.producer x.consumer i.p_kind i.c_kind one

  rest_unused : OpsReadOnly (all_but i.result) (x.mid ++ (new_op ∷ x.after))
  rest_unused = unused_rest i.result x.p x.c x.k x.m ds i.operand x.before x.mid x.after x.producer x.consumer i.p_kind i.c_kind one

  some_more : {A : Type 0} (a : A) (as' : List A) → 0 < length (a ∷ as')
  some_more a as' = omega arith

  body_there : BodyPasses f.params f.results (x.before ++ (x.mid ++ (new_op ∷ x.after)))
  body_there =
      let own : Op → Type 0 = λ o. ReadsOnly (all_but i.result) o.kind in
      let mid_unused : OpsReadOnly (all_but i.result) x.mid = each_left own x.mid (new_op ∷ x.after) rest_unused in
      let last_unused : OpsReadOnly (all_but i.result) (new_op ∷ x.after) = each_right own x.mid (new_op ∷ x.after) rest_unused in
      end_changed i.result f.results x.before (x.producer ∷ (x.mid ++ (x.consumer ∷ x.after))) (x.mid ++ (new_op ∷ x.after)) f.params f.params (drops_nothing i.result f.params)
      (subst (BodyPasses f.params f.results) i.is passes.body) front_unused (some_more x.producer (x.mid ++ (x.consumer ∷ x.after)))
      (appended x.mid (new_op ∷ x.after) (some_more new_op x.after))
      (λ d h.
      end_changed i.result f.results x.mid (x.consumer ∷ x.after) (new_op ∷ x.after) (scope ++ x.producer.results) scope
      (subst (λ (rs : List (ValueId × Ty)). Drops i.result (scope ++ rs) scope) (sym i.defines_it) (drops_one i.result i.ty scope)) h.2 mid_unused (some_more x.consumer x.after) (some_more new_op x.after)
      (λ e k. (
        op_kept i.result f.results (later f x passes i) (scope_after scope x.mid) new_op e new_passes last_unused.0,
        ap is_return (sym i.c_kind) ∙ k.1,
        body_kept i.result f.results x.after (later f x passes i ++ x.consumer.results) (scope_after scope x.mid ++ x.consumer.results)
            (drops_more i.result (later f x passes i) (scope_after scope x.mid) x.consumer.results e) k.2 last_unused.1,
      )))

  pub func_passes : FuncPasses (record { name = f.name; params = f.params; results = f.results; body = x.before ++ (x.mid ++ (new_op ∷ x.after)) })
  func_passes = record {
    ends = appended x.before (x.mid ++ (new_op ∷ x.after)) (appended x.mid (new_op ∷ x.after) (some_more new_op x.after));
    signature = passes.signature;
    body = body_there;
  }

pub fused_passes : FusedPairPasses
fused_passes f x passes found small =
    let i = pair_found f x found in
    subst (λ (ds : List ℕ). FuncPasses (record {
      name = f.name;
      params = f.params;
      results = f.results;
      body = x.before ++ (x.mid ++ (record { id = x.consumer.id; results = x.consumer.results; kind = kind_of (fused_op x.p x.c x.k x.m ds) } ∷ x.after));
    })) (ds_are f x passes i) (func_passes f x passes i small)
