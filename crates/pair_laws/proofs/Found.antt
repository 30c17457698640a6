-- What the first pair is.
use Rattle.std.proofs.Common.{◌≡◌, ℕ, suc, ◌+◌, ◌==◌, ◌&&◌, Bool, true, false, List, [], ◌∷◌, ◌++◌, Option, Some, None, ◌⊎◌, inl, inr, ⊎_elim, refl, ap, sym, subst, ◌∙◌, arith, append_assoc, eqb-true}
use Rattle.std.specs.Prelude.{slice_get, if◌then◌else◌}
use Rattle.std.specs.Option.{option_and_then}
use Rattle.std.proofs.lemmas.Bool.{and_parts}
use Rattle.std.proofs.lemmas.Option.{same_Some, none-some}
use Rattle.mlir_ir.specs.Count.{first, uses_op}
use Rattle.mlir_ir.specs.Shape.{FuncShape}
use Rattle.mlir_ir.specs.declared.tree.Op.{Op}
use Rattle.mlir_ir.specs.declared.tree.OpKind.{OpKind, Generic}
use Rattle.mlir_ir.specs.declared.tree.Ty.{Ty}
use Rattle.mlir_ir.specs.declared.tree.ValueId.{ValueId}
use Rattle.mlir_verify.specs.Place.{Types, type_among}
use Rattle.verified_runs.specs.Passes.{Scope, scope_after}
use Rattle.verified_runs.specs.Forms.{Structured, kind_of}
use Rattle.pair_laws.specs.FuseAll.{as_generic, produces, fits, Split, defined_as, split_by, split_at, Pair, fused_of, pair_at, pair_among, pair_of, pair_from, first_pair}
use Rattle.tile_bridge.specs.Instances.{input_maps}
use Rattle.pair_laws.specs.Pairs.{fused_op}
use Rattle.pair_laws.proofs.Scopes.{scope_after-append}

-- OPTIONS
pub some_then : {A B : Type 0} (f : A → Option B) (o : Option A) (y : B) → option_and_then f o ≡ Some y → (x : A) × (o ≡ Some x) × (f x ≡ Some y)
some_then f None y h = absurd (none-some y h)
some_then f (Some x) y h = (x, refl, h)

pub some_if : {A : Type 0} (b : Bool) (x y : A) → (if b then Some x else None) ≡ Some y → (b ≡ true) × (x ≡ y)
some_if true x y h = (refl, same_Some x y h)
some_if false x y h = absurd (none-some y h)

some_first : {A : Type 0} (a b : Option A) (x : A) → first a b ≡ Some x → (a ≡ Some x) ⊎ (b ≡ Some x)
some_first None b x h = inr h
some_first (Some a) b x h = inl h

as_generic_is : (kind : OpKind) (g : Structured) → as_generic kind ≡ Some g → kind ≡ kind_of g
as_generic_is (Generic maps iterators ins outs captured payload) g e = ap kind_of (same_Some _ g e)
as_generic_is kind g e = absurd cc

-- A VALUE'S OPERATION
defined_is : (v : ValueId) (rs : List (ValueId × Ty)) (ty : Ty) → defined_as v rs ≡ Some ty → rs ≡ (v, ty) ∷ []
defined_is v [] ty h = absurd (none-some ty h)
defined_is v (r ∷ []) ty h =
    let both = some_if ((r.0).0 == v.0) r.1 ty h in
    let e = eqb-true (r.0).0 v.0 both.0 in
    λ j. (record { 0 = e j }, both.1 j) ∷ []
defined_is v (r ∷ s ∷ rs) ty h = absurd (none-some ty h)

record IsSplit (v : ValueId) (os : List Op) (s : Split) : Type 0 where
  is : os ≡ s.front ++ (s.op ∷ s.back)
  defines_it : s.op.results ≡ (v, s.ty) ∷ []

split_is : (v : ValueId) (os : List Op) (s : Split) → split_at v os ≡ Some s → IsSplit v os s
split_is v [] s h = absurd (none-some s h)
split_is v (o ∷ os) s h = by (λ t r. split_is v os t r) (defined_as v o.results) refl (split_at v os) refl h where
  more : Op → Split → Split
  more o r = record { front = o ∷ r.front; op = r.op; ty = r.ty; back = r.back }

  by : ((t : Split) → split_at v os ≡ Some t → IsSplit v os t) → (d : Option Ty) → defined_as v o.results ≡ d → (rest : Option Split) → split_at v os ≡ rest → split_by d o os rest ≡ Some s → IsSplit v (o ∷ os) s
  by again (Some ty) q rest r k =
      subst (IsSplit v (o ∷ os)) (same_Some (record { front = []; op = o; ty = ty; back = os }) s k) (record { is = refl; defines_it = defined_is v o.results ty q })
  by again None q None r k = absurd (none-some s k)
  by again None q (Some t) r k =
      let i = again t r in
      subst (IsSplit v (o ∷ os)) (same_Some (more o t) s k) (record { is = ap (λ l. o ∷ l) i.is; defines_it = i.defines_it })

-- THE PAIR
pub record IsFound (params : Scope) (body : List Op) (x : Pair) : Type 0 where
  pub is : body ≡ x.before ++ (x.producer ∷ (x.mid ++ (x.consumer ∷ x.after)))
  pub p_kind : x.producer.kind ≡ kind_of x.p
  pub c_kind : x.consumer.kind ≡ kind_of x.c
  pub result : ValueId
  pub ty : Ty
  pub defines_it : x.producer.results ≡ (result, ty) ∷ []
  pub operand : slice_get x.c.ins x.k ≡ Some result
  pub one_use : uses_op result body ≡ 1
  pub map_there : slice_get (input_maps x.c) x.k ≡ Some x.m
  pub producing : produces x.p ≡ Some x.ds
  pub fitting : fits (type_among (scope_after params (x.before ++ (x.producer ∷ x.mid)))) x.c (fused_of x) ≡ true

module _ (params scope : Scope) (body earlier : List Op) (o : Op) (after : List Op) (whole : body ≡ earlier ++ (o ∷ after)) (reach : scope ≡ scope_after params earlier) (c : Structured) (kind : o.kind ≡ kind_of c) where
  abbrev t : Types
  t = type_among scope

  at_is : (k : ℕ) (v : ValueId) → slice_get c.ins k ≡ Some v → (x : Pair) → pair_at t body earlier o after c k v ≡ Some x → IsFound params body x
  at_is k v operand x h =
      let a = some_then _ (split_at v earlier) x h in
      let b = some_then _ (as_generic a.0.op.kind) x a.2 in
      let d = some_then _ (produces b.0) x b.2 in
      let e = some_then _ (slice_get (input_maps c) k) x d.2 in
      let f = some_if ((uses_op v body == 1) && fits t c (fused_op b.0 c k e.0 d.0))
      (record { before = a.0.front; producer = a.0.op; mid = a.0.back; consumer = o; after = after; p = b.0; c = c; k = k; m = e.0; ds = d.0 }) x e.2 in
      let tests = and_parts (uses_op v body == 1) (fits t c (fused_op b.0 c k e.0 d.0)) f.0 in
      let s = split_is v earlier a.0 a.1 in
      subst (IsFound params body) f.1 (record {
        is = whole ∙ ap (λ l. l ++ (o ∷ after)) s.is ∙ append_assoc a.0.front (a.0.op ∷ a.0.back) (o ∷ after);
        p_kind = as_generic_is a.0.op.kind b.0 b.1;
        c_kind = kind;
        result = v;
        ty = a.0.ty;
        defines_it = s.defines_it;
        operand = operand;
        one_use = eqb-true (uses_op v body) 1 tests.0;
        map_there = e.1;
        producing = d.1;
        fitting = ap (λ s. fits (type_among s) c (fused_op b.0 c k e.0 d.0)) (sym (reach ∙ ap (scope_after params) s.is)) ∙ tests.1;
      })

  among_is : (vs : List ValueId) (k : ℕ) → ((i : ℕ) (v : ValueId) → slice_get vs i ≡ Some v → slice_get c.ins (k + i) ≡ Some v) → (x : Pair) → pair_among t body earlier o after c k vs ≡ Some x → IsFound params body x
  among_is [] k at x h = absurd (none-some x h)
  among_is (v ∷ vs) k at x h = ⊎_elim
      (λ q. let z : k + 0 ≡ k = omega arith in at_is k v (ap (slice_get c.ins) (sym z) ∙ at 0 v refl) x q)
      (λ q. among_is vs (suc k) (λ i w e. let z : suc k + i ≡ k + suc i = omega arith in ap (slice_get c.ins) z ∙ at (suc i) w e) x q)
      (some_first (pair_at t body earlier o after c k v) (pair_among t body earlier o after c (suc k) vs) x h)

from_is : (params scope : Scope) (body os earlier : List Op) → body ≡ earlier ++ os → scope ≡ scope_after params earlier → (x : Pair) → pair_from scope body earlier os ≡ Some x → IsFound params body x
from_is params scope body [] earlier e r x h = absurd (none-some x h)
from_is params scope body (o ∷ os) earlier e r x h = ⊎_elim
    (λ q. by (as_generic o.kind) refl q)
    (λ q. from_is params (scope ++ o.results) body os (earlier ++ o ∷ []) (e ∙ sym (append_assoc earlier (o ∷ []) os)) (ap (λ s. s ++ o.results) r ∙ sym (scope_after-append params earlier (o ∷ []))) x q)
    (some_first (pair_of (type_among scope) body earlier o os (as_generic o.kind)) (pair_from (scope ++ o.results) body (earlier ++ o ∷ []) os) x h)
  where
    by : (g : Option Structured) → as_generic o.kind ≡ g → pair_of (type_among scope) body earlier o os g ≡ Some x → IsFound params body x
    by None q k = absurd (none-some x k)
    by (Some c) q k = among_is params scope body earlier o os e r c (as_generic_is o.kind c q) c.ins 0 (λ i v r. let z : 0 + i ≡ i = omega arith in ap (slice_get c.ins) z ∙ r) x k

pub pair_found : (f : FuncShape) (x : Pair) → first_pair f ≡ Some x → IsFound f.params f.body x
pair_found f x h = from_is f.params f.params f.body f.body [] refl refl x h
