-- A printable function that passes is printable after its first pair is fused, and after all are.
use Rattle.std.proofs.Common.{◌≡◌, ℕ, zero, suc, ◌<◌, ◌≤◌, ◌==◌, ◌&&◌, true, false, List, [], ◌∷◌, ◌++◌, length, length-append, Option, Some, None, Ok, refl, ap, sym, subst, ◌∙◌, arith, le-leb, leb-true}
use Rattle.std.specs.Prelude.{nat_le}
use Rattle.std.specs.List.{list_all, zip}
use Rattle.std.proofs.lemmas.Bool.{and_parts}
use Rattle.affine_maps.specs.Map.{map_fits}
use Rattle.payload_ops.specs.Payload.{payload_fits}
use Rattle.mlir_base.specs.declared.types.ElemTy.{ElemTy}
use Rattle.mlir_ir.specs.Count.{uses_op}
use Rattle.mlir_ir.specs.Shape.{FuncShape}
use Rattle.mlir_ir.specs.declared.tree.Op.{Op}
use Rattle.mlir_ir.specs.declared.tree.OpKind.{OpKind}
use Rattle.mlir_ir.specs.declared.tree.Ty.{Ty}
use Rattle.mlir_ir.specs.declared.tree.ValueId.{ValueId}
use Rattle.mlir_meaning.specs.Laws.{all_but}
use Rattle.mlir_meaning.specs.Names.{ReadsOnly, OpsReadOnly}
use Rattle.mlir_meaning.proofs.Through.{each_left, each_right}
use Rattle.mlir_verify.specs.Constants.{Constants}
use Rattle.mlir_verify.specs.Extents.{axes_agree}
use Rattle.mlir_verify.specs.Maps.{axes}
use Rattle.mlir_verify.specs.Place.{Types, type_among, is_empty}
use Rattle.mlir_verify.specs.Tensors.{has_elements, is_alike, result_type}
use Rattle.mlir_verify.specs.Types.{names_present, is_input, is_typed_payload, is_typed}
use Rattle.verified_runs.specs.Forms.{Structured, kind_of}
use Rattle.verified_runs.specs.Passes.{Scope, BodyPasses, FuncPasses, scope_after}
use Rattle.verified_runs.proofs.Runs.{rest_passes}
use Rattle.pair_laws.specs.FuseAll.{Pair, fused_of, first_pair, fuse_pair, has_small_maps, fuse_next, fuse_from, fuse_all}
use Rattle.pair_laws.proofs.Ending.{same_ok, goes_on}
use Rattle.pair_laws.proofs.Formed.{fused_passes}
use Rattle.pair_laws.proofs.Found.{IsFound, pair_found}
use Rattle.pair_laws.proofs.Uses.{unused_rest}
use Rattle.mlir_print.specs.declared.names.Given.TheVariants.{Result}
use Rattle.mlir_print.specs.Names.{Names, Row, nothing}
use Rattle.mlir_print.specs.Operations.{names_after, next}
use Rattle.mlir_print.specs.Canonical.{names_in}
use Rattle.mlir_roundtrip.specs.Printable.{IsPrintableKind, IsPrintableLine, ArePrintableOps, IsPrintableFunc}
use Rattle.printable_steps.proofs.Types.{Agree, params_agree, params_values}
use Rattle.printable_steps.proofs.Bodies.{front_kept, closed}
use Rattle.printable_steps.proofs.Generics.{PrintsFew, generic_prints}
use Rattle.printable_fusing.proofs.Dropped.{Drops, drops_one, drops_next, rest_dropped, mid_dropped}
use Rattle.printable_fusing.proofs.Steps.{steps_written, steps_printable, fused_written}

-- the one result of a line
line_one : (rows : List Row) (rs : Scope) (kind : OpKind) → IsPrintableLine rows rs kind →
    (r : ValueId × Ty) × (rs ≡ r ∷ []) × IsPrintableKind rows r.1 kind
line_one rows [] kind h = absurd h
line_one rows (r ∷ []) kind h = (r, refl, h)
line_one rows (r ∷ (s ∷ rs)) kind h = absurd h

none_left : {X : Type 0} (xs : List X) → is_empty xs ≡ true → xs ≡ []
none_left [] h = refl
none_left (x ∷ xs) h = absurd cc

some_left : (os : List Op) → is_empty os ≡ false → 0 < length os
some_left [] e = absurd cc
some_left (o ∷ os) e = omega arith

-- a generic that passes names its dimensions alone, and captures nothing
module _ (t : Types) (c : Constants) (wanted : List Ty) (rs : Scope) (g : Structured)
    (typed : is_typed t c wanted rs (kind_of g) ≡ true) where
  present : list_all (λ s. names_present (length g.iterators) 0 s.op) g.payload.steps ≡ true
  unfolding is_typed
  present =
      let both = and_parts _ (is_alike (t g.outs.0) (result_type rs)) typed in
      let generic = and_parts (length g.maps == suc (length g.ins) && (is_empty g.captured && list_all map_fits g.maps))
      (is_typed_payload t c (length g.iterators) g.ins g.outs g.captured g.payload) both.0 in
      let front = and_parts (length g.maps == suc (length g.ins)) (is_empty g.captured && list_all map_fits g.maps) generic.0 in
      let none = none_left g.captured (and_parts (is_empty g.captured) (list_all map_fits g.maps) front.1).0 in
      let inputs = list_all (λ (x : ValueId × ElemTy). is_input (t (x.0).0) (c (x.0).0) x.1) (zip g.ins g.payload.ins) in
      let inner = and_parts (length g.ins == length g.payload.ins && inputs) _ generic.1 in
      let output = and_parts (has_elements (t g.outs.0) g.payload.out) _ inner.1 in
      subst (λ (vs : List ValueId). list_all (λ s. names_present (length g.iterators) (length vs) s.op) g.payload.steps ≡ true) none
      (and_parts (list_all (λ s. names_present (length g.iterators) (length g.captured) s.op) g.payload.steps) (payload_fits g.payload)
      output.1).0

-- ONE PAIR
module _ (f : FuncShape) (x : Pair) (passes : FuncPasses f) (first : first_pair f ≡ Some x)
    (small : has_small_maps (fused_of x) ≡ true) where
  abbrev i : IsFound f.params f.body x
  i = pair_found f x first

  abbrev g : Structured
  g = fused_of x

  abbrev new : Op
  new = record { id = x.consumer.id; results = x.consumer.results; kind = kind_of g }

  abbrev scope : Scope
  scope = scope_after f.params x.before

  -- what the test on the pair says of its size
  few_parts : (nat_le (suc (length g.ins)) 64 ≡ true) × (nat_le (length g.payload.steps) 1024 ≡ true)
  few_parts =
      let t = type_among (scope_after f.params (x.before ++ (x.producer ∷ x.mid))) in
      let size = nat_le (suc (length g.ins)) 64 && nat_le (length g.payload.steps) 1024 in
      let all = axes_agree (axes t x.c.maps x.c.ins x.c.outs ++ axes t g.maps g.ins g.outs) in
      and_parts (nat_le (suc (length g.ins)) 64) (nat_le (length g.payload.steps) 1024)
      (and_parts all size (and_parts _ (all && size) i.fitting).1).1

  unused : OpsReadOnly (all_but i.result) (x.mid ++ (new ∷ x.after))
  unused =
      unused_rest i.result x.p x.c x.k x.m x.ds i.operand x.before x.mid x.after x.producer x.consumer i.p_kind i.c_kind
      (ap (uses_op i.result) (sym i.is) ∙ i.one_use)

  abbrev own : Op → Type 0
  own o = ReadsOnly (all_but i.result) o.kind

  behind : BodyPasses (scope_after scope x.mid) f.results (new ∷ x.after)
  behind =
      rest_passes f.results x.mid (new ∷ x.after) scope
      (rest_passes f.results x.before (x.mid ++ (new ∷ x.after)) f.params (fused_passes f x passes first small).body)

  follows : 0 < length x.after
  follows = some_left x.after (sym behind.1)

  -- the producer's steps, where it stands
  module _ (m : Names) (line : IsPrintableLine m.rows x.producer.results x.producer.kind) where
    p_printable : IsPrintableKind m.rows i.ty (kind_of x.p)
    p_printable = subst (IsPrintableKind m.rows i.ty) i.p_kind (subst (λ rs. IsPrintableLine m.rows rs x.producer.kind) i.defines_it line)

    drops_result : Drops i.result (next m x.producer).rows m.rows
    drops_result =
        subst (λ rs. Drops i.result (names_after m rs x.producer.kind).rows m.rows) (sym i.defines_it)
        (drops_one i.result m.rows (Result m.results) i.ty)

    -- the consumer, where it stands
    module _ (v w : Names) (d : Drops i.result v.rows w.rows) (agree : Agree w.rows (scope_after scope x.mid))
        (at : IsPrintableLine v.rows x.consumer.results x.consumer.kind) (rest : ArePrintableOps (next v x.consumer) x.after) where
      one : (r : ValueId × Ty) × (x.consumer.results ≡ r ∷ []) × IsPrintableKind v.rows r.1 x.consumer.kind
      one = line_one v.rows x.consumer.results x.consumer.kind at

      c_printable : IsPrintableKind v.rows (one.0).1 (kind_of x.c)
      c_printable = subst (IsPrintableKind v.rows (one.0).1) i.c_kind one.2

      few : PrintsFew g
      few =
          let sizes = few_parts in
          record {
            few = (let l = leb-true (suc (length g.ins)) 64 sizes.0 in omega (arith, l));
            steps = steps_printable (length g.iterators) c_printable.few_iterators g.payload.steps
                (present (type_among (scope_after scope x.mid)) (behind.0).constants f.results x.consumer.results g (behind.0).typed)
                (fused_written x.p x.c x.k x.m x.ds (steps_written x.p.payload.steps p_printable.steps)
                (steps_written x.c.payload.steps c_printable.steps));
            few_steps = leb-true (length g.payload.steps) 1024 sizes.1;
          }

      new_line : IsPrintableLine w.rows new.results new.kind
      new_line =
          subst (λ rs. IsPrintableLine w.rows rs (kind_of g)) (sym one.1)
          (generic_prints w.rows (scope_after scope x.mid) agree (behind.0).constants f.results x.consumer.results (one.0).1 g
          (behind.0).typed (behind.0).known c_printable.result (le-leb (length g.iterators) 12 c_printable.few_iterators) few)

      new_rest : ArePrintableOps w (new ∷ x.after)
      new_rest =
          closed w new x.after follows new_line
          (rest_dropped i.result x.after (next v x.consumer) (next w new)
          (drops_next i.result v w x.consumer.results x.consumer.kind (kind_of g) d) (each_right own x.mid (new ∷ x.after) unused).1 rest)

  appended : {A : Type 0} (xs ys : List A) → 0 < length ys → 0 < length (xs ++ ys)
  appended [] ys l = l
  appended (z ∷ xs) ys l = omega arith

  pub fewer : length (fuse_pair f x).body ≤ length f.body
  fewer =
      let e = ap (λ (os : List Op). length os) i.is in
      let a = length-append x.before (x.producer ∷ (x.mid ++ (x.consumer ∷ x.after))) in
      let b = length-append x.mid (x.consumer ∷ x.after) in
      let c = length-append x.before (x.mid ++ (new ∷ x.after)) in
      let d = length-append x.mid (new ∷ x.after) in
      omega (arith, e, a, b, c, d)

  body_printable : IsPrintableFunc f → ArePrintableOps (names_in f) (x.before ++ (x.mid ++ (new ∷ x.after)))
  body_printable p =
      front_kept x.before (names_in f) f.params x.producer (x.mid ++ (x.consumer ∷ x.after)) (x.mid ++ (new ∷ x.after))
      (params_agree f.params nothing [] (λ v. refl)) (params_values f.params nothing (λ v T q. absurd cc) p.params)
      (appended x.mid (x.consumer ∷ x.after) (omega arith)) (appended x.mid (new ∷ x.after) (omega arith))
      (subst (ArePrintableOps (names_in f)) i.is p.ops)
      (λ m a values line rest.
      mid_dropped i.result x.mid (next m x.producer) m scope x.consumer x.after (new ∷ x.after) (drops_result m line) a
      (each_left own x.mid (new ∷ x.after) unused) follows (omega arith) rest (λ v w d b at more. new_rest m line v w d b at more))

  pub pair_printable : IsPrintableFunc f → IsPrintableFunc (fuse_pair f x)
  pair_printable p =
      let l = p.few_ops in
      let m = fewer in
      record {
        name = p.name;
        few_params = p.few_params;
        params = p.params;
        few_results = p.few_results;
        results = p.results;
        few_ops = omega (arith, l, m);
        ops = body_printable p;
      }

-- ALL
-- the second function is printable where the first is, with its name and no more operations
pub record Prints (f g : FuncShape) : Type 0 where
  pub printable : IsPrintableFunc f → IsPrintableFunc g
  pub name : g.name ≡ f.name
  pub few : length g.body ≤ length f.body

prints_same : (f g : FuncShape) → f ≡ g → Prints f g
prints_same f g e = subst (Prints f) e (record { printable = λ p. p; name = refl; few = omega arith })

then_prints : (f g h : FuncShape) → Prints f g → Prints g h → Prints f h
then_prints f g h a b =
    let l = a.few in
    let m = b.few in
    record { printable = λ p. b.printable (a.printable p); name = b.name ∙ a.name; few = omega (arith, l, m) }

all_print : (n : ℕ) (f g : FuncShape) → FuncPasses f → fuse_from n f ≡ Ok g → Prints f g
all_print zero f g passes h = prints_same f g (same_ok f g (fuse_from zero f) refl h)
all_print (suc n) f g passes h = by (λ e w k. all_print n e g w k) (first_pair f) refl h where
  by : ((e : FuncShape) → FuncPasses e → fuse_from n e ≡ Ok g → Prints e g) → (o : Option Pair) → first_pair f ≡ o →
      fuse_next (fuse_from n) f o ≡ Ok g → Prints f g
  by again None q k = prints_same f g (same_ok f g (fuse_next (fuse_from n) f None) refl k)
  by again (Some x) q k =
      let on = goes_on (fuse_from n) f g x k in
      then_prints f (fuse_pair f x) g
      (record { printable = pair_printable f x passes q on.small; name = refl; few = fewer f x passes q on.small })
      (again (fuse_pair f x) (fused_passes f x passes q on.small) on.rest)

pub fused_prints : (f g : FuncShape) → FuncPasses f → fuse_all f ≡ Ok g → Prints f g
fused_prints f g passes h = all_print (length f.body) f g passes h
