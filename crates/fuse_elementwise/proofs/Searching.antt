-- The first pair, by walks along the body.
use Rattle.std.proofs.Common.{◌≡◌, ℕ, zero, suc, ◌+◌, ◌<◌, ◌≤◌, ◌==◌, ◌&&◌, Bool, true, false, List, [], ◌∷◌, ◌++◌, take, drop, length, get_or, Option, Some, None, refl, ap, sym, subst, ◌∙◌, arith, append_assoc}
use Rattle.std.specs.Prelude.{slice_get, option_map, is_some}
use Rattle.std.specs.Option.{option_and_then}
use Rattle.std.proofs.lemmas.Option.{same_Some, none-some}
use Rattle.affine_maps.specs.Shape.{MapShape}
use Rattle.mlir_edits.specs.Places.{scope_before}
use Rattle.mlir_ir.specs.Count.{first, uses_op}
use Rattle.mlir_ir.specs.Shape.{FuncShape}
use Rattle.mlir_ir.specs.declared.tree.Op.{Op}
use Rattle.mlir_ir.specs.declared.tree.Ty.{Ty}
use Rattle.mlir_ir.specs.declared.tree.ValueId.{ValueId}
use Rattle.mlir_verify.specs.Place.{Types, type_among}
use Rattle.mlir_verify.proofs.Walks.{opened}
use Rattle.verified_runs.specs.Forms.{Structured, kind_of}
use Rattle.verified_runs.specs.Passes.{FuncPasses, scope_after}
use Rattle.tile_bridge.specs.Instances.{input_maps}
use Rattle.pair_laws.specs.FuseAll.{as_generic, defined_as, fits, produces, Split, split_at, split_by}
use Rattle.pair_laws.specs.Pairs.{fused_op}
use Rattle.pair_laws.proofs.Found.{some_then}
use Rattle.pair_laws.proofs.Scopes.{scope_after-append}
use Rattle.fuse_elementwise.specs.declared.found.Found.{Found}
use Rattle.fuse_elementwise.specs.Spots.{defined_in, first_spot, spot_among, spot_at, spot_from, spot_of, spotted, spotted_if, Meet}
use Rattle.fuse_elementwise.proofs.Candidates.{generic_is, meet}

-- WHAT DEFINES A VALUE
abbrev pub placed_op : ℕ → Split → ℕ × Op
placed_op i s = (i + length s.front, s.op)

abbrev own_op : Option Split → Option (ℕ × Op)
own_op r = option_map (λ (s : Split). (length s.front, s.op)) r

abbrev pub found_from : ℕ → ValueId → List Op → Option (ℕ × Op)
found_from i v os = option_map (placed_op i) (split_at v os)

nothing_before : (n : ℕ) → 0 + n ≡ n
nothing_before n = omega arith

pub from_start : (v : ValueId) (os : List Op) → found_from 0 v os ≡ defined_in v os
from_start v os = λ j. option_map (λ (s : Split). (nothing_before (length s.front) j, s.op)) (split_at v os)

pub defined_here : (i : ℕ) (v : ValueId) (o : Op) (os : List Op) → is_some (defined_as v o.results) ≡ true → found_from i v (o ∷ os) ≡ Some (i, o)
defined_here i v o os h = by (defined_as v o.results) h where
  by : (d : Option Ty) → is_some d ≡ true → option_map (placed_op i) (split_by d o os (split_at v os)) ≡ Some (i, o)
  by None k = absurd cc
  by (Some ty) k = let z : i + 0 ≡ i = omega arith in λ j. Some (z j, o)

pub defined_later : (i : ℕ) (v : ValueId) (o : Op) (os : List Op) → is_some (defined_as v o.results) ≡ false → found_from i v (o ∷ os) ≡ found_from (i + 1) v os
defined_later i v o os h = by (defined_as v o.results) h (split_at v os) where
  by : (d : Option Ty) → is_some d ≡ false → (r : Option Split) →
      option_map (placed_op i) (split_by d o os r) ≡ option_map (placed_op (i + 1)) r
  by (Some ty) k r = absurd cc
  by None k None = refl
  by None k (Some s) = let z : i + suc (length s.front) ≡ i + 1 + length s.front = omega arith in λ j. Some (z j, s.op)

module _ (v : ValueId) (os : List Op) (i : ℕ) (o : Op) (l : i < length os) (e : o ≡ get_or os i o) where
  pub walk_ends : is_some (defined_as v o.results) ≡ true → found_from i v (drop i os) ≡ defined_in v os → Some (i, o) ≡ defined_in v os
  walk_ends h q = sym (ap (found_from i v) (opened os i o l e) ∙ defined_here i v o (drop (i + 1) os) h) ∙ q

  pub walk_goes : is_some (defined_as v o.results) ≡ false → found_from i v (drop i os) ≡ defined_in v os → found_from (i + 1) v (drop (i + 1) os) ≡ defined_in v os
  walk_goes h q = sym (ap (found_from i v) (opened os i o l e) ∙ defined_later i v o (drop (i + 1) os) h) ∙ q

-- WHERE IT STANDS
defined_is : (v : ValueId) (rs : List (ValueId × Ty)) (ty : Ty) → defined_as v rs ≡ Some ty → is_some (defined_as v rs) ≡ true
defined_is v rs ty h = ap is_some h

pub split_is : (v : ValueId) (os : List Op) (s : Split) → split_at v os ≡ Some s → os ≡ s.front ++ (s.op ∷ s.back)
split_is v [] s h = absurd (none-some s h)
split_is v (o ∷ os) s h = by (λ t r. split_is v os t r) (defined_as v o.results) (split_at v os) refl h where
  by : ((t : Split) → split_at v os ≡ Some t → os ≡ t.front ++ (t.op ∷ t.back)) → (d : Option Ty) (rest : Option Split) → split_at v os ≡ rest → split_by d o os rest ≡ Some s →
      o ∷ os ≡ s.front ++ (s.op ∷ s.back)
  by again (Some ty) rest r k = let e = same_Some (record { front = []; op = o; ty = ty; back = os }) s k in λ j. (e j).front ++ ((e j).op ∷ (e j).back)
  by again None None r k = absurd (none-some s k)
  by again None (Some t) r k =
      let e = same_Some (record { front = o ∷ t.front; op = t.op; ty = t.ty; back = t.back }) s k in
      ap (λ l. o ∷ l) (again t r) ∙ (λ j. (e j).front ++ ((e j).op ∷ (e j).back))

pub parts_at : {A : Type 0} (xs : List A) (k : ℕ) (x : A) → slice_get xs k ≡ Some x → xs ≡ take k xs ++ (x ∷ drop (suc k) xs)
parts_at [] zero x h = absurd (none-some x h)
parts_at [] (suc k) x h = absurd (none-some x h)
parts_at (y ∷ xs) zero x h = λ j. same_Some y x h j ∷ xs
parts_at (y ∷ xs) (suc k) x h = ap (λ l. y ∷ l) (parts_at xs k x h)

pub taken_long : {A : Type 0} (xs : List A) (k : ℕ) (x : A) → slice_get xs k ≡ Some x → length (take k xs) ≡ k
taken_long [] zero x h = refl
taken_long [] (suc k) x h = absurd (none-some x h)
taken_long (y ∷ xs) zero x h = refl
taken_long (y ∷ xs) (suc k) x h = ap suc (taken_long xs k x h)

-- THE PAIR OF TWO PLACES
module _ (f : FuncShape) (passes : FuncPasses f) (consumer : ℕ) (c : Structured)
    (there : option_and_then (λ (o : Op). as_generic o.kind) (slice_get f.body consumer) ≡ Some c) (k : ℕ) (v : ValueId) (operand : slice_get c.ins k ≡ Some v) where
  abbrev earlier : List Op
  earlier = take consumer f.body

  pub meet_there : (place : ℕ) (po : Op) (p : Structured) → Some (place, po) ≡ defined_in v earlier → as_generic po.kind ≡ Some p → Meet (type_among (scope_before f consumer)) p c k
  meet_there place po p h e =
      let found = some_then (λ (o : Op). as_generic o.kind) (slice_get f.body consumer) c there in
      let co = found.0 in
      let after = drop (suc consumer) f.body in
      by (split_at v earlier) refl h co after (parts_at f.body consumer co found.1) (generic_is co.kind c found.2)
    where
      by : (r : Option Split) → split_at v earlier ≡ r → Some (place, po) ≡ own_op r →
          (co : Op) (after : List Op) → f.body ≡ earlier ++ (co ∷ after) → co.kind ≡ kind_of c → Meet (type_among (scope_before f consumer)) p c k
      by None q g co after is c_kind = absurd (none-some (place, po) (sym g))
      by (Some s) q g co after is c_kind =
          let same : po ≡ s.op = ap (λ (x : ℕ × Op). x.1) (same_Some (place, po) (length s.front, s.op) g) in
          let own : earlier ≡ s.front ++ (po ∷ s.back) = split_is v earlier s q ∙ (λ j. s.front ++ (sym same j ∷ s.back)) in
          meet f passes s.front s.back after po co (is ∙ ap (λ l. l ++ (co ∷ after)) own ∙ append_assoc s.front (po ∷ s.back) (co ∷ after)) p c (generic_is po.kind p e) c_kind
          consumer k v own operand

  abbrev t : Types
  t = type_among (scope_before f consumer)

  consumer_is : length earlier ≡ consumer
  consumer_is = let found = some_then (λ (o : Op). as_generic o.kind) (slice_get f.body consumer) c there in taken_long f.body consumer found.0 found.1

  pub spot_there : (place : ℕ) (po : Op) (p : Structured) → Some (place, po) ≡ defined_in v earlier → as_generic po.kind ≡ Some p →
      spotted t f.body c k v place consumer p ≡ spot_at t f.body earlier c k v
  spot_there place po p h e =
      (λ j. option_and_then (spotted t f.body c k v place (sym consumer_is j)) (sym e j))
      ∙ (λ j. option_and_then (λ (d : ℕ × Op). option_and_then (spotted t f.body c k v d.0 (length earlier)) (as_generic d.1.kind)) (h j))

  pub no_definer : None ≡ defined_in v earlier → None ≡ spot_at t f.body earlier c k v
  no_definer h = λ j. option_and_then (λ (d : ℕ × Op). option_and_then (spotted t f.body c k v d.0 (length earlier)) (as_generic d.1.kind)) (h j)

  pub no_generic : (place : ℕ) (po : Op) → Some (place, po) ≡ defined_in v earlier → as_generic po.kind ≡ None → None ≡ spot_at t f.body earlier c k v
  no_generic place po h e =
      (λ j. option_and_then (spotted t f.body c k v place (length earlier)) (sym e j))
      ∙ (λ j. option_and_then (λ (d : ℕ × Op). option_and_then (spotted t f.body c k v d.0 (length earlier)) (as_generic d.1.kind)) (h j))

module _ (t : Types) (body : List Op) (p c : Structured) (k : ℕ) (v : ValueId) (producer consumer : ℕ) where
  abbrev there_at : List ℕ → MapShape → Option Found
  there_at ds m = spotted_if ((uses_op v body == 1) && fits t c (fused_op p c k m ds)) (record { producer = producer; consumer = consumer; operand = k; dims = ds })

  pub spotted_is : (ds : List ℕ) (m : MapShape) → produces p ≡ Some ds → slice_get (input_maps c) k ≡ Some m → there_at ds m ≡ spotted t body c k v producer consumer p
  spotted_is ds m e g = (λ j. option_and_then (there_at ds) (sym g j)) ∙ (λ j. option_and_then (λ (ds : List ℕ). option_and_then (there_at ds) (slice_get (input_maps c) k)) (sym e j))

  pub not_produced : produces p ≡ None → None ≡ spotted t body c k v producer consumer p
  not_produced e = λ j. option_and_then (λ (ds : List ℕ). option_and_then (there_at ds) (slice_get (input_maps c) k)) (sym e j)

  pub no_map : (ds : List ℕ) → produces p ≡ Some ds → slice_get (input_maps c) k ≡ None → None ≡ spotted t body c k v producer consumer p
  no_map ds e g = (λ j. option_and_then (there_at ds) (sym g j)) ∙ (λ j. option_and_then (λ (ds : List ℕ). option_and_then (there_at ds) (slice_get (input_maps c) k)) (sym e j))

pub both_hold : (a b : Bool) (x : Found) → true ≡ a → true ≡ b → Some x ≡ spotted_if (a && b) x
both_hold a b x h k = λ j. spotted_if (h j && k j) x

pub first_fails : (a b : Bool) (x : Found) → false ≡ a → None ≡ spotted_if (a && b) x
first_fails a b x h = λ j. spotted_if (h j && b) x

pub second_fails : (a b : Bool) (x : Found) → true ≡ a → false ≡ b → None ≡ spotted_if (a && b) x
second_fails a b x h k = λ j. spotted_if (h j && k j) x

-- OPERANDS
module _ (t : Types) (body earlier : List Op) (c : Structured) (vs : List ValueId) (k : ℕ) (v : ValueId) (l : k < length vs) (e : v ≡ get_or vs k v) where
  pub operand_there : slice_get vs k ≡ Some v
  operand_there = go vs k l e where
    go : (vs : List ValueId) (k : ℕ) → k < length vs → v ≡ get_or vs k v → slice_get vs k ≡ Some v
    go [] k l e = absurd (omega (arith, l))
    go (x ∷ vs) zero l e = ap (λ w. Some w) (sym e)
    go (x ∷ vs) (suc k) l e = go vs k (omega (arith, l)) e

  opens : spot_among t body earlier c k (drop k vs) ≡ first (spot_at t body earlier c k v) (spot_among t body earlier c (k + 1) (drop (k + 1) vs))
  opens =
      let z : suc k ≡ k + 1 = omega arith in
      ap (spot_among t body earlier c k) (opened vs k v l e) ∙ (λ j. first (spot_at t body earlier c k v) (spot_among t body earlier c (z j) (drop (k + 1) vs)))

  pub operand_goes : (whole : Option Found) → None ≡ spot_at t body earlier c k v → spot_among t body earlier c k (drop k vs) ≡ whole →
      spot_among t body earlier c (k + 1) (drop (k + 1) vs) ≡ whole
  operand_goes whole h q = (λ j. first (h j) (spot_among t body earlier c (k + 1) (drop (k + 1) vs))) ∙ sym opens ∙ q

  pub operand_ends : (whole : Option Found) (x : Found) → Some x ≡ spot_at t body earlier c k v → spot_among t body earlier c k (drop k vs) ≡ whole → Some x ≡ whole
  operand_ends whole x h q = (λ j. first (h j) (spot_among t body earlier c (k + 1) (drop (k + 1) vs))) ∙ sym opens ∙ q

-- OPERATIONS
taken_more : {A : Type 0} (xs : List A) (i : ℕ) (x : A) → i < length xs → x ≡ get_or xs i x → take (i + 1) xs ≡ take i xs ++ x ∷ []
taken_more xs i x l e = (let z : i + 1 ≡ suc i = omega arith in ap (λ n. take n xs) z) ∙ go xs i l e where
  go : (xs : List _) (i : ℕ) → i < length xs → x ≡ get_or xs i x → take (suc i) xs ≡ take i xs ++ x ∷ []
  go [] i l e = absurd (omega (arith, l))
  go (y ∷ xs) zero l e = λ j. sym e j ∷ []
  go (y ∷ xs) (suc i) l e = ap (λ l. y ∷ l) (go xs i (omega (arith, l)) e)

module _ (f : FuncShape) (os : List Op) (same : os ≡ f.body) (i : ℕ) (o : Op) (below : i < length os) (item : o ≡ get_or os i o) where
  l : i < length f.body
  l = subst (λ (os : List Op). i < length os) same below

  e : o ≡ get_or f.body i o
  e = item ∙ (λ j. get_or (same j) i o)

  pub op_there : slice_get f.body i ≡ Some o
  op_there = go f.body i l e where
    go : (os : List Op) (i : ℕ) → i < length os → o ≡ get_or os i o → slice_get os i ≡ Some o
    go [] i l e = absurd (omega (arith, l))
    go (x ∷ os) zero l e = ap (λ w. Some w) (sym e)
    go (x ∷ os) (suc i) l e = go os i (omega (arith, l)) e

  abbrev here : Option Found
  here = spot_of (type_among (scope_before f i)) f.body (take i f.body) (as_generic o.kind)

  abbrev next : Option Found
  next = spot_from (scope_before f (i + 1)) f.body (take (i + 1) f.body) (drop (i + 1) f.body)

  steps : spot_from (scope_before f i) f.body (take i f.body) (drop i f.body) ≡ first here next
  steps =
      let more = taken_more f.body i o l e in
      let scopes : scope_before f i ++ o.results ≡ scope_before f (i + 1) = sym (ap (scope_after f.params) more ∙ scope_after-append f.params (take i f.body) (o ∷ [])) in
      ap (spot_from (scope_before f i) f.body (take i f.body)) (opened f.body i o l e)
      ∙ (λ j. first here (spot_from (scopes j) f.body (sym more j) (drop (i + 1) f.body)))

  pub op_goes : None ≡ here → spot_from (scope_before f i) f.body (take i f.body) (drop i f.body) ≡ first_spot f → next ≡ first_spot f
  op_goes h q = (λ j. first (h j) next) ∙ sym steps ∙ q

  pub op_ends : (x : Found) → Some x ≡ here → spot_from (scope_before f i) f.body (take i f.body) (drop i f.body) ≡ first_spot f → Some x ≡ first_spot f
  op_ends x h q = (λ j. first (h j) next) ∙ sym steps ∙ q

-- past the end
gone : {A : Type 0} (xs : List A) (i : ℕ) → length xs ≤ i → drop i xs ≡ []
gone [] zero l = refl
gone [] (suc i) l = refl
gone (x ∷ xs) zero l = absurd (omega (arith, l))
gone (x ∷ xs) (suc i) l = gone xs i (omega (arith, l))

pub none_after : (f : FuncShape) (i : ℕ) → length f.body ≤ i → spot_from (scope_before f i) f.body (take i f.body) (drop i f.body) ≡ first_spot f → None ≡ first_spot f
none_after f i l q = (λ j. spot_from (scope_before f i) f.body (take i f.body) (sym (gone f.body i l) j)) ∙ q
