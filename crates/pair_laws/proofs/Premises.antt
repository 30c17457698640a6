-- What a function that passes the verifier gives of its first pair, in each typed state.
use Rattle.std.proofs.Common.{◌≡◌, ℕ, zero, suc, ◌+◌, ◌<◌, ◌==◌, ◌&&◌, Bool, true, false, ℤ, List, [], ◌∷◌, ◌++◌, map, length, get_or, Some, None, refl, ap, sym, subst, ◌∙◌, arith, eq-eqb, eqb-true}
use Rattle.std.specs.Prelude.{not, zip, slice_get, take, nat_le, nat_lt, if◌then◌else◌}
use Rattle.std.specs.List.{list_all}
use Rattle.std.proofs.lemmas.Bool.{and_parts}
use Rattle.std.proofs.lemmas.List.{length-map}
use Rattle.std.proofs.lemmas.Option.{same_Some, none-some, slice_get_within}
use Rattle.affine_maps.specs.Shape.{MapShape}
use Rattle.affine_maps.specs.Compose.{composed, result_at}
use Rattle.affine_maps.specs.Map.{IsMap, map_fits, expr_fits, terms_fit}
use Rattle.affine_maps.specs.Permutation.{is_among}
use Rattle.affine_maps.specs.declared.map.Expr.{Expr}
use Rattle.mlir_base.specs.Numbers.{is_in_range, is_coefficient}
use Rattle.mlir_base.specs.declared.types.ElemTy.TheVariants.{Int}
use Rattle.payload_ops.specs.Values.{is_supplied}
use Rattle.payload_ops.specs.declared.step.PayloadStep.{PayloadStep}
use Rattle.mlir_ir.specs.Count.{first}
use Rattle.mlir_ir.specs.Shape.{FuncShape}
use Rattle.mlir_ir.specs.declared.tree.Extent.TheVariants.{Fixed}
use Rattle.mlir_ir.specs.declared.tree.OpKind.{OpKind}
use Rattle.mlir_ir.specs.declared.tree.Ty.{Ty}
use Rattle.mlir_ir.specs.declared.tree.ValueId.{ValueId}
use Rattle.mlir_meaning.specs.Grids.{Each, count_up}
use Rattle.mlir_meaning.specs.Meaning.{values_in, captured_in, scalar_in}
use Rattle.mlir_meaning.specs.Points.{select_map}
use Rattle.mlir_meaning.specs.States.{State, grid_of}
use Rattle.mlir_meaning.specs.declared.values.Datum.{Datum}
use Rattle.mlir_meaning.proofs.Grids.{each-append, each_more}
use Rattle.mlir_meaning.proofs.Through.{each_left}
use Rattle.mlir_verify.specs.Maps.{output_map, output_dimensions, axes, extent_of, fits_operand, fit_operands, breaks_maps}
use Rattle.mlir_verify.specs.Names.{numbers}
use Rattle.mlir_verify.specs.Place.{Types, type_among}
use Rattle.mlir_verify.specs.Tensors.{extents_of, is_alike, result_type}
use Rattle.mlir_verify.specs.Types.{names_present}
use Rattle.mlir_verify.proofs.Standing.{type_among-append}
use Rattle.verified_runs.specs.Forms.{Structured, kind_of}
use Rattle.verified_runs.specs.Passes.{Scope, OpPasses, BodyPasses, FuncPasses, scope_after}
use Rattle.verified_runs.specs.Typed.{AreTyped, IsSized}
use Rattle.verified_runs.proofs.Runs.{rest_passes}
use Rattle.verified_runs.proofs.Steps.{added}
use Rattle.point_laws.specs.Orders.{is_order, turned}
use Rattle.region_laws.specs.Operands.{HasBox}
use Rattle.region_laws.proofs.Stated.{typed_instance}
use Rattle.payload_forms.specs.Joined.{spliced, expr_at}
use Rattle.fuse_laws.specs.Joined.{AreSmall, Fit}
use Rattle.fuse_laws.specs.Fused.{pulled, joint}
use Rattle.fuse_laws.proofs.Fusing.{spliced_length}
use Rattle.tile_bridge.specs.Instances.{HasExtents, IsInstance, instance_of, input_maps, is_parallel}
use Rattle.tile_bridge.proofs.Bridge.{passes_there, is_instance}
use Rattle.tile_bridge.proofs.Fitting.{Passes, Split, split, values_front}
use Rattle.tile_bridge.proofs.Fitting as fitting
use Rattle.pair_laws.specs.Pairs.{captured_of, place_in, fused_op, Produces, Pairs}
use Rattle.pair_laws.specs.FuseAll.{avoids_out, fits, Pair}
use Rattle.pair_laws.proofs.Boxes.{fits_keeps_box}
use Rattle.pair_laws.proofs.Capturing.{captured_meet}
use Rattle.pair_laws.proofs.Found.{IsFound, some_if}
use Rattle.pair_laws.proofs.Names.{each_known}
use Rattle.pair_laws.proofs.Pairing.{spliced-map, spliced-append}
use Rattle.pair_laws.proofs.Rules.{IsTypedGeneric, typed_parts, input_is_out, int_out, steps_supplied, payload_apart}
use Rattle.pair_laws.proofs.Scopes.{scope_after-append, type_kept, typed_before}
use Rattle.pair_laws.proofs.Stated.{instances_produce}

-- LISTS
pub each_with : {A : Type 0} (P Q R : A → Type 0) → ((x : A) → P x → Q x → R x) → (xs : List A) → Each P xs → Each Q xs → Each R xs
each_with P Q R f [] h k = tt
each_with P Q R f (x ∷ xs) h k = (f x h.0 k.0, each_with P Q R f xs h.1 k.1)

pub each_spliced : {A : Type 0} (P : A → Type 0) (k : ℕ) (ys xs : List A) → Each P ys → Each P xs → Each P (spliced k ys xs)
each_spliced P k ys [] h j = tt
each_spliced P zero ys (x ∷ xs) h j = each-append P ys xs h j.1
each_spliced P (suc k) ys (x ∷ xs) h j = (j.0, each_spliced P k ys xs h j.1)

pub input_count : (g : Structured) → length g.maps ≡ suc (length g.ins) → length (input_maps g) ≡ length g.ins
input_count g l = let s = split g.maps (length g.ins) l in ap length s.taken ∙ s.counted

map_at : (ms : List MapShape) (n k : ℕ) (m : MapShape) → list_all map_fits ms ≡ true → slice_get (take n ms) k ≡ Some m → IsMap m
map_at [] zero k m h e = absurd (none-some m e)
map_at [] (suc n) k m h e = absurd (none-some m e)
map_at (x ∷ ms) zero k m h e = absurd (none-some m e)
map_at (x ∷ ms) (suc n) zero m h e = ap map_fits (sym (same_Some x m e)) ∙ (and_parts (map_fits x) _ h).0
map_at (x ∷ ms) (suc n) (suc k) m h e = map_at ms n k m (and_parts (map_fits x) _ h).1 e

-- NUMBERS OF A MAP
pub result_fits : (dims : ℕ) (es : List Expr) (k : ℕ) → list_all (expr_fits dims) es ≡ true → expr_fits dims (result_at es k) ≡ true
result_fits dims [] k h = refl
result_fits dims (e ∷ es) zero h = (and_parts (expr_fits dims e) _ h).0
result_fits dims (e ∷ es) (suc k) h = result_fits dims es k (and_parts (expr_fits dims e) _ h).1

picked_fit : (dims : ℕ) (es : List Expr) (at : ℕ → ℕ) (ds : List ℕ) → list_all (expr_fits dims) es ≡ true → list_all (expr_fits dims) (map (λ d. result_at es (at d)) ds) ≡ true
picked_fit dims es at [] h = refl
picked_fit dims es at (d ∷ ds) h = λ j. result_fits dims es (at d) h j && picked_fit dims es at ds h j

pub pulled_map : (ds : List ℕ) (m : MapShape) → IsMap m → IsMap (pulled ds m)
pulled_map ds m h = picked_fit m.dims m.results (turned ds) (count_up 0 (length ds)) h

small_terms : (dims : ℕ) (ts : List (ℕ × ℤ)) (low : ℕ) → terms_fit dims ts low ≡ true → list_all (λ (t : ℕ × ℤ). is_coefficient t.1) ts ≡ true
small_terms dims [] low h = refl
small_terms dims (t ∷ ts) low h =
    let rest = and_parts (nat_le low t.0 && nat_lt t.0 dims && is_coefficient t.1) (terms_fit dims ts (t.0 + 1)) h in
    λ j. (and_parts (nat_le low t.0 && nat_lt t.0 dims) (is_coefficient t.1) rest.0).1 j && small_terms dims ts (t.0 + 1) rest.1 j

small_expr : (dims : ℕ) (e : Expr) → expr_fits dims e ≡ true → AreSmall e
small_expr dims e h = let parts = and_parts (is_in_range e.constant) _ h in (parts.0, small_terms dims e.terms 0 parts.1)

pub small_at : (ds : List ℕ) (m : MapShape) → IsMap m → (d : ℕ) → AreSmall (expr_at (pulled ds m).results d)
small_at ds m h d = small_expr m.dims (expr_at (pulled ds m).results d) (result_fits m.dims (pulled ds m).results d (pulled_map ds m h))

-- THE PAIR
module _ (f : FuncShape) (x : Pair) (passes : FuncPasses f) (i : IsFound f.params f.body x) where
  -- the definitions in scope at the producer and at the consumer
  abbrev pub scope : Scope
  scope = scope_after f.params x.before

  abbrev pub later : Scope
  later = scope_after scope (x.producer ∷ x.mid)

  abbrev pub t0 : Types
  t0 = type_among scope

  abbrev pub t2 : Types
  t2 = type_among later

  pub tail : BodyPasses scope f.results (x.producer ∷ (x.mid ++ (x.consumer ∷ x.after)))
  tail = rest_passes f.results x.before (x.producer ∷ (x.mid ++ (x.consumer ∷ x.after))) f.params (subst (BodyPasses f.params f.results) i.is passes.body)

  pub p_op : OpPasses scope f.results (record { id = x.producer.id; results = x.producer.results; kind = kind_of x.p })
  p_op = subst (λ (kind : OpKind). OpPasses scope f.results (record { id = x.producer.id; results = x.producer.results; kind = kind })) i.p_kind tail.0

  pub c_op : OpPasses later f.results (record { id = x.consumer.id; results = x.consumer.results; kind = kind_of x.c })
  c_op = subst (λ (kind : OpKind). OpPasses later f.results (record { id = x.consumer.id; results = x.consumer.results; kind = kind })) i.c_kind
      (rest_passes f.results (x.producer ∷ x.mid) (x.consumer ∷ x.after) scope tail).0

  pub p_types : IsTypedGeneric t0 p_op.constants x.producer.results x.p
  p_types = typed_parts t0 p_op.constants f.results x.producer.results x.p p_op.typed

  pub c_types : IsTypedGeneric t2 c_op.constants x.consumer.results x.c
  c_types = typed_parts t2 c_op.constants f.results x.consumer.results x.c c_op.typed

  pub p_known : Each (λ (v : ValueId). is_among v.0 (numbers scope) ≡ true) (x.p.ins ++ (x.p.outs ∷ x.p.captured))
  p_known = each_known scope (x.p.ins ++ (x.p.outs ∷ x.p.captured)) p_op.known

  pub p_same : Each (λ (v : ValueId). t2 v.0 ≡ t0 v.0) (x.p.ins ++ (x.p.outs ∷ x.p.captured))
  p_same = each_more (λ (v : ValueId). is_among v.0 (numbers scope) ≡ true) (λ (v : ValueId). t2 v.0 ≡ t0 v.0)
      (λ v h. type_kept f.results (x.producer ∷ x.mid) (x.consumer ∷ x.after) scope v.0 tail h) (x.p.ins ++ (x.p.outs ∷ x.p.captured)) p_known

  pub result_there : is_among i.result.0 (numbers (scope ++ x.producer.results)) ≡ true
  result_there = (subst (Each (λ (r : ValueId × Ty). is_among (r.0).0 (numbers (scope ++ x.producer.results)) ≡ true)) i.defines_it (added scope x.producer.results)).0

  pub result_typed : t2 i.result.0 ≡ Some i.ty
  result_typed =
      type_kept f.results x.mid (x.consumer ∷ x.after) (scope ++ x.producer.results) i.result.0 tail.2 result_there
      ∙ (λ j. type_among (scope ++ i.defines_it j) i.result.0) ∙ type_among-append scope ((i.result, i.ty) ∷ []) i.result.0
      ∙ (λ j. first (if eq-eqb i.result.0 i.result.0 refl j then Some i.ty else None) (type_among scope i.result.0))

  -- the dimensions that the producer's output map takes
  abbrev pub D : List ℕ
  D = output_dimensions (output_map x.p.maps)

  produced : (list_all is_parallel x.p.iterators && (avoids_out x.p.payload && is_order D (length x.p.iterators)) ≡ true) × (D ≡ x.ds)
  produced = some_if (list_all is_parallel x.p.iterators && (avoids_out x.p.payload && is_order D (length x.p.iterators))) D x.ds i.producing

  pub ds_are : D ≡ x.ds
  ds_are = produced.1

  rest_tests : (avoids_out x.p.payload ≡ true) × (is_order D (length x.p.iterators) ≡ true)
  rest_tests = and_parts (avoids_out x.p.payload) _ (and_parts (list_all is_parallel x.p.iterators) _ produced.0).1

  pub ordered : is_order D (length x.p.iterators) ≡ true
  ordered = rest_tests.1

  pub m_map : IsMap x.m
  m_map = map_at x.c.maps (length x.c.ins) x.k x.m c_types.maps i.map_there

  pub fit_there : fits t2 x.c (fused_op x.p x.c x.k x.m D) ≡ true
  fit_there = (λ j. fits (type_among (sym (scope_after-append f.params x.before (x.producer ∷ x.mid)) j)) x.c (fused_op x.p x.c x.k x.m (ds_are j))) ∙ i.fitting

  m_in_all : (ms : List MapShape) (n k : ℕ) (m : MapShape) → slice_get (take n ms) k ≡ Some m → slice_get ms k ≡ Some m
  m_in_all [] zero k m e = absurd (none-some m e)
  m_in_all [] (suc n) k m e = absurd (none-some m e)
  m_in_all (y ∷ ms) zero k m e = absurd (none-some m e)
  m_in_all (y ∷ ms) (suc n) zero m e = e
  m_in_all (y ∷ ms) (suc n) (suc k) m e = m_in_all ms n k m e

  dims_at : (n : ℕ) (vs : List ValueId) (ms : List MapShape) (k : ℕ) (v : ValueId) (m : MapShape) → list_all (λ (y : ValueId × MapShape). fits_operand n y.1 (t2 (y.0).0)) (zip vs ms) ≡ true →
      slice_get vs k ≡ Some v → slice_get ms k ≡ Some m → m.dims ≡ n
  dims_at n [] ms zero v m h e q = absurd (none-some v e)
  dims_at n [] ms (suc k) v m h e q = absurd (none-some v e)
  dims_at n (y ∷ vs) [] zero v m h e q = absurd (none-some m q)
  dims_at n (y ∷ vs) [] (suc k) v m h e q = absurd (none-some m q)
  dims_at n (y ∷ vs) (z ∷ ms) zero v m h e q =
      let own = (and_parts (fits_operand n z (t2 y.0)) _ h).0 in
      let shape = (and_parts (z.dims == n && length z.results == length (extents_of (t2 y.0))) _ own).0 in
      ap (λ (k : MapShape). k.dims) (sym (same_Some z m q)) ∙ eqb-true z.dims n (and_parts (z.dims == n) _ shape).0
  dims_at n (y ∷ vs) (z ∷ ms) (suc k) v m h e q = dims_at n vs ms k v m (and_parts (fits_operand n z (t2 y.0)) _ h).1 e q

  -- the operand's map has the consumer's dimensions
  pub map_dims : x.m.dims ≡ length x.c.iterators
  unfolding breaks_maps fit_operands
  map_dims =
      dims_at (length x.c.iterators) x.c.ins x.c.maps x.k i.result x.m (and_parts _ _ (and_parts _ _ (not_true _ c_op.maps)).0).0 i.operand (m_in_all x.c.maps (length x.c.ins) x.k x.m i.map_there)
    where
      not_true : (b : Bool) → not b ≡ false → b ≡ true
      not_true true e = refl
      not_true false e = absurd cc

  abbrev pub moved_maps : List MapShape
  moved_maps = map (λ i. composed i (pulled D x.m)) (input_maps x.p)

  pub within : x.k < length (input_maps x.c)
  within = slice_get_within (input_maps x.c) x.k x.m i.map_there

  pub counts : length (spliced x.k moved_maps (input_maps x.c)) ≡ length (spliced x.k x.p.ins x.c.ins)
  counts = spliced_length x.k moved_maps x.p.ins (input_maps x.c) x.c.ins
      (length-map (input_maps x.p) (λ i. composed i (pulled D x.m)) ∙ input_count x.p p_types.counted) (input_count x.c c_types.counted)

  pub output_elements : slice_get x.c.payload.ins x.k ≡ Some x.p.payload.out
  output_elements =
      input_is_out t2 t0 c_op.constants x.c.ins x.c.payload.ins x.k i.result x.p.outs i.ty x.p.payload.out c_types.arity c_types.inputs i.operand result_typed p_types.output
      (subst (λ (rs : List (ValueId × Ty)). is_alike (t0 x.p.outs.0) (result_type rs) ≡ true) i.defines_it p_types.gives)

  -- AT THE PRODUCER
  module _ (u : State) (typed : AreTyped t0 u) where
    pub p_rules : Passes t0 u x.p.maps x.p.iterators x.p.ins x.p.outs
    p_rules = passes_there t0 p_op.constants f.results x.producer.results x.p u typed p_op.typed p_op.maps p_op.iterators p_op.extents p_op.windows

    pub p_instance : IsInstance x.p u
    p_instance = is_instance t0 p_op.constants f.results x.producer.results x.p u typed p_op.typed p_op.maps p_op.iterators p_op.extents p_op.windows

    pub p_order : is_order D (length (instance_of x.p u).box) ≡ true
    p_order = ap (is_order D) (sym p_instance.rank) ∙ ordered

    pub produces_there : Produces x.p x.ds u
    produces_there = subst (λ (ds : List ℕ). Produces x.p ds u) ds_are (instances_produce x.p u p_instance p_order)

  -- AT THE CONSUMER
  module _ (u : State) (typed : AreTyped t2 u) where
    pub typed_p : AreTyped t0 u
    typed_p = typed_before f.results (x.producer ∷ x.mid) (x.consumer ∷ x.after) scope u tail typed

    abbrev pub pi : IsInstance x.p u
    pi = p_instance u typed_p

    pub ci : IsInstance x.c u
    ci = is_instance t2 c_op.constants f.results x.consumer.results x.c u typed c_op.typed c_op.maps c_op.iterators c_op.extents c_op.windows

    cr : Passes t2 u x.c.maps x.c.iterators x.c.ins x.c.outs
    cr = passes_there t2 c_op.constants f.results x.consumer.results x.c u typed c_op.typed c_op.maps c_op.iterators c_op.extents c_op.windows

    abbrev p_box : List ℕ
    p_box = (instance_of x.p u).box

    abbrev pub c_box : List ℕ
    c_box = (instance_of x.c u).box

    abbrev c_ds : List ℕ
    c_ds = (instance_of x.c u).ds

    abbrev pub new : Structured
    new = fused_op x.p x.c x.k x.m D

    abbrev all : List ValueId
    all = captured_of x.p x.c

    pub maps_are : new.maps ≡ spliced x.k moved_maps (input_maps x.c) ++ select_map (length c_box) c_ds ∷ []
    maps_are = ap (spliced x.k moved_maps) ci.maps ∙ spliced-append x.k moved_maps (input_maps x.c) (select_map (length c_box) c_ds ∷ []) within

    p_sized : Each (HasExtents t2 u) x.p.ins
    p_sized = each_with (HasExtents t0 u) (λ (v : ValueId). t2 v.0 ≡ t0 v.0) (HasExtents t2 u) (λ v h e. subst (λ o. IsSized (extents_of o) (grid_of (u.values v.0)).extents) (sym e) h) x.p.ins
        (p_rules u typed_p).sized (each_left (λ (v : ValueId). t2 v.0 ≡ t0 v.0) x.p.ins (x.p.outs ∷ x.p.captured) p_same)

    pub sized : Each (HasExtents t2 u) (new.ins ++ new.outs ∷ [])
    sized = each-append (HasExtents t2 u) new.ins (new.outs ∷ []) (each_spliced (HasExtents t2 u) x.k x.p.ins x.c.ins p_sized cr.sized) (cr.out_sized, tt)

    pub known : (d : ℕ) → d < length c_box → extent_of (axes t2 x.c.maps x.c.ins x.c.outs) d ≡ Some (Fixed (get_or c_box d 0))
    known = fitting.known t2 u x.c.maps x.c.iterators x.c.ins x.c.outs cr

    own_box : HasBox c_box new.maps (values_in u.values (new.ins ++ new.outs ∷ []))
    own_box = fits_keeps_box t2 u x.c new (spliced x.k moved_maps (input_maps x.c)) (select_map (length c_box) c_ds) c_box maps_are counts ci.rank sized known fit_there

    operands_are : values_in u.values (new.ins ++ new.outs ∷ []) ≡ spliced x.k (values_in u.values x.p.ins) (values_in u.values x.c.ins) ++ u.values x.c.outs.0 ∷ []
    operands_are = values_front u.values new.ins new.outs ∙ (λ j. spliced-map (λ (v : ValueId). u.values v.0) x.k x.p.ins x.c.ins j ++ u.values x.c.outs.0 ∷ [])

    captures : (vs : List ValueId) → length (captured_in u.values vs) ≡ length vs
    captures vs = length-map vs (scalar_in u.values)

    supplied : (g : Structured) (box : List ℕ) → length g.iterators ≡ length box → list_all (λ (s : PayloadStep). names_present (length g.iterators) (length g.captured) s.op) g.payload.steps ≡ true →
        Each (λ (s : PayloadStep). is_supplied (length box) (length (captured_in u.values g.captured)) s.op ≡ true) g.payload.steps
    supplied g box rank h =
        subst (λ (z : ℕ × ℕ). Each (λ (s : PayloadStep). is_supplied z.0 z.1 s.op ≡ true) g.payload.steps) (λ j. (rank j, sym (captures g.captured) j))
        (steps_supplied (length g.iterators) (length g.captured) g.payload.steps h)

    pub fit : Fit (joint x.k D x.m (length (captured_in u.values all)) (place_in all x.p.captured) (place_in all x.c.captured)) (length p_box) (length (captured_in u.values x.p.captured)) (length c_box)
        (length (captured_in u.values x.c.captured)) x.p.payload x.c.payload
    fit =
        let meet = captured_meet x.p x.c u in
        record {
          producer_fits = p_types.payload;
          consumer_fits = c_types.payload;
          input = output_elements;
          apart = payload_apart x.p.payload rest_tests.0;
          small = λ d l. small_at D x.m m_map d;
          producer_supplied = supplied x.p p_box pi.rank p_types.steps;
          consumer_supplied = supplied x.c c_box ci.rank c_types.steps;
          of_producer = λ k l. (let q = meet.of_producer k (omega (arith, l, captures x.p.captured)) in omega (arith, q, captures all));
          of_consumer = λ k l. (let q = meet.of_consumer k (omega (arith, l, captures x.c.captured)) in omega (arith, q, captures all));
        }

    pairs_by_map : Pairs x.p x.c x.k x.m D u
    pairs_by_map =
        let meet = captured_meet x.p x.c u in
        record {
          p_box = p_box;
          c_box = c_box;
          c_ds = c_ds;
          p_placed = record { maps = pi.maps; dims = pi.rank; out = pi.output };
          c_placed = record { maps = ci.maps; dims = ci.rank; out = ci.output };
          elem = int_out (t2 x.c.outs.0) x.c.payload.out c_types.output ∙ ap (λ w. Int w) (sym ci.width);
          fuses = record {
            producer = typed_instance (instance_of x.p u) pi.fits;
            consumer = typed_instance (instance_of x.c u) ci.fits;
            order = p_order u typed_p;
            map_there = i.map_there;
            is_map = m_map;
            fit = fit;
            producer_outer = λ k l. meet.producer_outer k (omega (arith, l, captures x.p.captured));
            consumer_outer = λ k l. meet.consumer_outer k (omega (arith, l, captures x.c.captured));
            producer_ins = sym p_types.arity ∙ sym (length-map x.p.ins (λ (v : ValueId). u.values v.0));
            consumer_ins = sym c_types.arity ∙ sym (length-map x.c.ins (λ (v : ValueId). u.values v.0));
            box = subst (λ (z : List MapShape × List Datum). HasBox c_box z.0 z.1)
                (λ j. (maps_are j, (operands_are ∙ (λ j. spliced x.k (values_in u.values x.p.ins) (values_in u.values x.c.ins) ++ ci.output j ∷ [])) j)) own_box;
          };
        }

    pub pairs_there : Pairs x.p x.c x.k x.m x.ds u
    pairs_there = subst (λ (ds : List ℕ). Pairs x.p x.c x.k x.m ds u) ds_are pairs_by_map
