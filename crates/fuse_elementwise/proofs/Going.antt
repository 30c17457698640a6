-- Where the search goes on after a pair is fused.
use Rattle.std.proofs.Common.{◌≡◌, ◌≢◌, ℕ, zero, suc, ◌+◌, ◌-◌, ◌==◌, ◌&&◌, Bool, true, false, cond, List, [], ◌∷◌, ◌++◌, take, drop, length, Option, Some, None, refl, ap, sym, subst, ◌∙◌, arith, append_assoc, length-append, eqb-true, eq-eqb}
use Rattle.std.specs.Prelude.{slice_get, option_map, is_some, not, if◌then◌else◌}
use Rattle.std.specs.Option.{option_and_then}
use Rattle.std.proofs.Math.Seq.{take-append_seam, drop-append_seam}
use Rattle.std.proofs.lemmas.Bool.{ne_eqb, false≢true, true≢false}
use Rattle.std.proofs.lemmas.List.Sums.{sum_by-cons, sum_by-append}
use Rattle.std.proofs.lemmas.Option.{same_Some, none-some}
use Rattle.mlir_ir.specs.Count.{first, names, uses_kind, uses_op}
use Rattle.mlir_ir.specs.Shape.{FuncShape}
use Rattle.mlir_ir.specs.declared.tree.Op.{Op}
use Rattle.mlir_ir.specs.declared.tree.ValueId.{ValueId}
use Rattle.mlir_meaning.specs.Laws.{all_but}
use Rattle.mlir_meaning.specs.Names.{ReadsOnly, OpsReadOnly}
use Rattle.mlir_meaning.proofs.Through.{each_left}
use Rattle.mlir_verify.specs.Place.{Types, is_empty, type_among}
use Rattle.verified_runs.specs.Forms.{Structured, kind_of}
use Rattle.verified_runs.specs.Passes.{FuncPasses, Scope, scope_after}
use Rattle.payload_forms.specs.Joined.{spliced}
use Rattle.tile_bridge.specs.Instances.{input_maps}
use Rattle.mlir_edits.specs.Places.{scope_before}
use Rattle.pair_laws.specs.FuseAll.{as_generic, defined_as, first_pair, fits, fuse_pair, fused_of, pair_among, pair_at, pair_from, pair_of, produces, Pair, Split, split_at, split_by}
use Rattle.pair_laws.specs.Pairs.{fused_op}
use Rattle.pair_laws.proofs.Found.{IsFound, pair_found, some_if, some_then}
use Rattle.pair_laws.proofs.Frame.{drops_nothing, drops_one}
use Rattle.pair_laws.proofs.Present.{none_fused}
use Rattle.pair_laws.proofs.Scopes.{scope_after-append}
use Rattle.pair_laws.proofs.Uses.{unused_front, unused_rest}
use Rattle.fuse_elementwise.specs.Fitting.{AreFused}
use Rattle.fuse_elementwise.specs.Spots.{first_spot, reopens, resumed, spot, spot_from, spot_of, IsCounted, IsSearched}
use Rattle.fuse_elementwise.specs.Turns.{IsChange}
use Rattle.fuse_elementwise.specs.declared.turn.Change.{Change}
use Rattle.fuse_elementwise.proofs.Candidates.{fused_here}
use Rattle.fuse_elementwise.proofs.Remaining.{all_kept, none_joined, none_skips, none_split, op_of, op_of-append, IsUsedAsBefore, NoneIn}
use Rattle.fuse_elementwise.proofs.Searching.{split_is}
use Rattle.fuse_elementwise.proofs.Spots.{of_same}

-- NO CONSUMER BEFORE THE FIRST PAIR'S HAS ONE
module _ (t : Types) (body earlier : List Op) (o : Op) (after : List Op) (c : Structured) (x : Pair) where
  at_stands : (k : ℕ) (v : ValueId) → pair_at t body earlier o after c k v ≡ Some x → x.before ++ (x.producer ∷ x.mid) ≡ earlier
  at_stands k v h =
      let a = some_then _ (split_at v earlier) x h in
      let b = some_then _ (as_generic a.0.op.kind) x a.2 in
      let d = some_then _ (produces b.0) x b.2 in
      let e = some_then _ (slice_get (input_maps c) k) x d.2 in
      let g = some_if ((uses_op v body == 1) && fits t c (fused_op b.0 c k e.0 d.0))
      (record { before = a.0.front; producer = a.0.op; mid = a.0.back; consumer = o; after = after; p = b.0; c = c; k = k; m = e.0; ds = d.0 }) x e.2 in
      (λ j. (sym g.1 j).before ++ ((sym g.1 j).producer ∷ (sym g.1 j).mid)) ∙ sym (split_is v earlier a.0 a.1)

  among_stands : (k : ℕ) (vs : List ValueId) → pair_among t body earlier o after c k vs ≡ Some x → x.before ++ (x.producer ∷ x.mid) ≡ earlier
  among_stands k [] h = absurd (none-some x h)
  among_stands k (v ∷ vs) h = by (λ e. among_stands (suc k) vs e) (pair_at t body earlier o after c k v) refl h where
    by : (pair_among t body earlier o after c (suc k) vs ≡ Some x → x.before ++ (x.producer ∷ x.mid) ≡ earlier) → (a : Option Pair) → pair_at t body earlier o after c k v ≡ a →
        first a (pair_among t body earlier o after c (suc k) vs) ≡ Some x → x.before ++ (x.producer ∷ x.mid) ≡ earlier
    by again None q e = again e
    by again (Some y) q e = at_stands k v (q ∙ e)

of_stands : (t : Types) (body earlier : List Op) (o : Op) (after : List Op) (x : Pair) (g : Option Structured) → pair_of t body earlier o after g ≡ Some x → x.before ++ (x.producer ∷ x.mid) ≡ earlier
of_stands t body earlier o after x None h = absurd (none-some x h)
of_stands t body earlier o after x (Some c) h = among_stands t body earlier o after c x 0 c.ins h

abbrev Reached : Scope → List Op → List Op → Pair → Type 0
Reached scope body earlier x = (front : List Op) × (x.before ++ (x.producer ∷ x.mid) ≡ earlier ++ front) × NoneIn scope body earlier front

reached : (scope : Scope) (body earlier os : List Op) (x : Pair) → pair_from scope body earlier os ≡ Some x → Reached scope body earlier x
reached scope body earlier [] x h = absurd (none-some x h)
reached scope body earlier (o ∷ os) x h = by (λ e. reached (scope ++ o.results) body (earlier ++ o ∷ []) os x e) (pair_of (type_among scope) body earlier o os (as_generic o.kind)) refl h where
  rest : Option Pair
  rest = pair_from (scope ++ o.results) body (earlier ++ o ∷ []) os

  by : (rest ≡ Some x → Reached (scope ++ o.results) body (earlier ++ o ∷ []) x) → (a : Option Pair) → pair_of (type_among scope) body earlier o os (as_generic o.kind) ≡ a →
      first a rest ≡ Some x → Reached scope body earlier x
  by again None q e =
      let more = again e in
      (o ∷ more.0, more.1 ∙ append_assoc earlier (o ∷ []) more.0, (sym (of_same (type_among scope) body earlier o os (as_generic o.kind)) ∙ ap (option_map spot) q, more.2))
  by again (Some y) q e = ([], of_stands (type_among scope) body earlier o os x (as_generic o.kind) (q ∙ e) ∙ sym (nothing_behind earlier), tt) where
    nothing_behind : (xs : List Op) → xs ++ [] ≡ xs
    nothing_behind [] = refl
    nothing_behind (x ∷ xs) = ap (λ l. x ∷ l) (nothing_behind xs)

-- USES
module _ (v : ValueId) where
  uses-cons : (o : Op) (os : List Op) → uses_op v (o ∷ os) ≡ uses_kind v o.kind + uses_op v os
  uses-cons o os = sum_by-cons (λ (o : Op). uses_kind v o.kind) o os

  uses-append : (xs ys : List Op) → uses_op v (xs ++ ys) ≡ uses_op v xs + uses_op v ys
  uses-append xs ys = sum_by-append (λ (o : Op). uses_kind v o.kind) xs ys

  abbrev one : ValueId → ℕ
  one w = cond (w.0 == v.0) 1 0

  names-append : (xs ys : List ValueId) → names v (xs ++ ys) ≡ names v xs + names v ys
  names-append xs ys = sum_by-append one xs ys

  names-cons : (x : ValueId) (xs : List ValueId) → names v (x ∷ xs) ≡ one x + names v xs
  names-cons x xs = sum_by-cons one x xs

  names_none : (xs : List ValueId) → is_empty xs ≡ true → names v xs ≡ 0
  names_none [] h = refl
  names_none (x ∷ xs) h = absurd cc

  names_spliced : (r : ValueId) (k : ℕ) (ys xs : List ValueId) → slice_get xs k ≡ Some r → names v (spliced k ys xs) + one r ≡ names v ys + names v xs
  names_spliced r zero ys [] h = absurd (none-some r h)
  names_spliced r (suc k) ys [] h = absurd (none-some r h)
  names_spliced r zero ys (x ∷ xs) h =
      let here : one x ≡ one r = ap one (same_Some x r h) in
      omega (arith, names-append ys xs, names-cons x xs, here)
  names_spliced r (suc k) ys (x ∷ xs) h = omega (arith, names-cons x (spliced k ys xs), names-cons x xs, names_spliced r k ys xs h)

  kind_uses : (g : Structured) → names v g.captured ≡ 0 → uses_kind v (kind_of g) ≡ names v g.ins + one g.outs
  kind_uses g h = omega (arith, names-append g.ins (g.outs ∷ g.captured), names-cons g.outs g.captured, h)

generic_of : (o : Op) (p : Structured) (r : Option Split) → option_map (λ (s : Split). s.op) r ≡ Some o → as_generic o.kind ≡ Some p →
    is_some (option_and_then (λ (d : ℕ × Op). as_generic d.1.kind) (option_map (λ (s : Split). (length s.front, s.op)) r)) ≡ true
generic_of o p None h g = absurd (none-some o h)
generic_of o p (Some s) h g = ap is_some (ap (λ (o : Op). as_generic o.kind) (same_Some s.op o h) ∙ g)

-- AFTER A PAIR
module _ (f : FuncShape) (passes : FuncPasses f) (x : Pair) (first_is : first_pair f ≡ Some x) where
  abbrev found : IsFound f.params f.body x
  found = pair_found f x first_is

  abbrev r : ValueId
  r = found.result

  abbrev g : Structured
  g = fused_of x

  abbrev new : Op
  new = record { id = x.consumer.id; results = x.consumer.results; kind = kind_of g }

  abbrev body : List Op
  body = (fuse_pair f x).body

  meets : AreFused (type_among (scope_after (scope_after f.params x.before) (x.producer ∷ x.mid))) x.p x.c x.k x.m x.ds
  meets =
      fused_here f passes x.before x.mid x.after x.producer x.consumer found.is x.p x.c found.p_kind found.c_kind x.k found.result found.operand x.m x.ds found.map_there found.producing

  once : uses_op r (x.before ++ (x.producer ∷ (x.mid ++ (x.consumer ∷ x.after)))) ≡ 1
  once = sym (ap (uses_op r) found.is) ∙ found.one_use

  front_reads : OpsReadOnly (all_but r) x.before
  front_reads = unused_front r x.p x.c x.k x.m x.ds found.operand x.before x.mid x.after x.producer x.consumer found.p_kind found.c_kind once

  mid_reads : OpsReadOnly (all_but r) x.mid
  mid_reads =
      each_left (λ (o : Op). ReadsOnly (all_but r) o.kind) x.mid (new ∷ x.after)
      (unused_rest r x.p x.c x.k x.m x.ds found.operand x.before x.mid x.after x.producer x.consumer found.p_kind found.c_kind once)

  -- the producer's output and the producer's result lose a use
  fewer : (v : ValueId) → uses_op v f.body ≡ uses_op v body + (one v x.p.outs + one v r)
  fewer v =
      let rest = x.mid ++ (x.consumer ∷ x.after) in
      let p_uses = ap (uses_kind v) found.p_kind ∙ kind_uses v x.p (names_none v x.p.captured meets.p_none) in
      let c_uses = ap (uses_kind v) found.c_kind ∙ kind_uses v x.c (names_none v x.c.captured meets.c_none) in
      let g_uses = kind_uses v g (ap (names v) (none_fused x.p x.c meets.p_none meets.c_none x.k x.m x.ds)) in
      let ins = names_spliced v r x.k x.p.ins x.c.ins found.operand in
      omega (
        arith,
        ap (uses_op v) found.is,
        uses-append v x.before (x.producer ∷ rest),
        uses-cons v x.producer rest,
        uses-append v x.mid (x.consumer ∷ x.after),
        uses-cons v x.consumer x.after,
        uses-append v x.before (x.mid ++ (new ∷ x.after)),
        uses-append v x.mid (new ∷ x.after),
        uses-cons v new x.after,
        p_uses,
        c_uses,
        g_uses,
        ins,
      )

  module _ (v : ValueId) (own : all_but r v.0 ≡ true) where
    other : (r.0 == v.0) ≡ false
    other = ne_eqb r.0 v.0 (λ e. false≢true (sym (λ j. not (eq-eqb v.0 r.0 (sym e) j)) ∙ own))

    not_gone : one v r ≡ 0
    not_gone = ap (λ (b : Bool). cond b 1 0) other

    not_producer : op_of v (x.producer ∷ []) ≡ None
    not_producer =
        (λ j. option_map (λ (s : Split). s.op) (split_by (defined_as v (found.defines_it j)) x.producer [] None))
        ∙ (λ j. option_map (λ (s : Split). s.op) (split_by (if other j then Some found.ty else None) x.producer [] None))

    same_front : op_of v x.before ≡ op_of v (x.before ++ x.producer ∷ [])
    same_front = by (op_of v x.before) ∙ (λ j. first (op_of v x.before) (sym not_producer j)) ∙ sym (op_of-append v x.before (x.producer ∷ [])) where
      by : (o : Option Op) → o ≡ first o None
      by None = refl
      by (Some o) = refl

    same_definer : op_of v (x.before ++ x.mid) ≡ op_of v (x.before ++ (x.producer ∷ x.mid))
    same_definer =
        op_of-append v x.before x.mid ∙ (λ j. first (same_front j) (op_of v x.mid)) ∙ sym (op_of-append v (x.before ++ x.producer ∷ []) x.mid)
        ∙ ap (op_of v) (append_assoc x.before (x.producer ∷ []) x.mid)

  module _ (settled : reopens f.body (x.before ++ (x.producer ∷ x.mid)) x.p.outs ≡ false) where
    used_alike : IsUsedAsBefore r f.body body (x.before ++ x.mid)
    used_alike v own u o q p k = by (x.p.outs.0 == v.0) refl where
      by : (b : Bool) → (x.p.outs.0 == v.0) ≡ b → (uses_op v f.body == 1) ≡ true
      by false z =
          let none : one v x.p.outs ≡ 0 = ap (λ (b : Bool). cond b 1 0) z in
          eq-eqb (uses_op v f.body) 1 (omega (arith, fewer v, not_gone v own, eqb-true (uses_op v body) 1 u, none))
      by true z =
          let single : one v x.p.outs ≡ 1 = ap (λ (b : Bool). cond b 1 0) z in
          let two = eq-eqb (uses_op v f.body) 2 (omega (arith, fewer v, not_gone v own, eqb-true (uses_op v body) 1 u, single)) in
          let same : x.p.outs ≡ v = let e = eqb-true x.p.outs.0 v.0 z in λ j. record { 0 = e j } in
          let there = generic_of o p (split_at v (x.before ++ (x.producer ∷ x.mid))) (sym (same_definer v own) ∙ q) k in
          absurd (true≢false (sym (λ j. two j && there j) ∙ ap (reopens f.body (x.before ++ (x.producer ∷ x.mid))) (sym same) ∙ settled))

    none_left : NoneIn f.params body [] (x.before ++ x.mid)
    none_left =
        let all = reached f.params f.body [] f.body x first_is in
        let parts = none_split f.params f.body [] x.before (x.producer ∷ x.mid) (subst (NoneIn f.params f.body []) (sym all.1) all.2) in
        let scope = scope_after f.params x.before in
        let behind = subst (λ (rs : Scope). NoneIn (scope ++ rs) f.body (x.before ++ x.producer ∷ []) x.mid) found.defines_it parts.1.1 in
        none_joined f.params body [] x.before x.mid
        (all_kept r f.body body x.before f.params f.params [] [] (x.before ++ x.mid) x.mid refl (drops_nothing r f.params) (λ v e. refl) tt front_reads used_alike parts.0)
        (all_kept r f.body body x.mid (scope ++ (r, found.ty) ∷ []) scope (x.before ++ x.producer ∷ []) x.before (x.before ++ x.mid) []
        (sym (nothing_behind (x.before ++ x.mid)) ∙ append_assoc x.before x.mid []) (drops_one r found.ty scope) same_front front_reads mid_reads used_alike behind)
      where
        nothing_behind : (xs : List Op) → xs ++ [] ≡ xs
        nothing_behind [] = refl
        nothing_behind (x ∷ xs) = ap (λ l. x ∷ l) (nothing_behind xs)

    pub goes_on : (n : ℕ) → n ≡ length x.before + length x.mid → IsSearched (fuse_pair f x) n
    goes_on n e =
        let whole : body ≡ (x.before ++ x.mid) ++ (new ∷ x.after) = sym (append_assoc x.before x.mid (new ∷ x.after)) in
        let long : n ≡ length (x.before ++ x.mid) = e ∙ sym (length-append x.before x.mid) in
        let taken : take n body ≡ x.before ++ x.mid = (λ j. take (long j) (whole j)) ∙ take-append_seam (x.before ++ x.mid) (new ∷ x.after) in
        let left : drop n body ≡ new ∷ x.after = (λ j. drop (long j) (whole j)) ∙ drop-append_seam (x.before ++ x.mid) (new ∷ x.after) in
        (λ j. spot_from (scope_after f.params (taken j)) body (taken j) (left j))
        ∙ sym (none_skips f.params body [] (x.before ++ x.mid) (new ∷ x.after) none_left)
        ∙ (λ j. spot_from f.params body [] (sym whole j))

  -- by places
  pub searched_on : (k : FuncShape) (from : ℕ) → k ≡ fuse_pair f x → from ≡ resumed f (spot x) x.p → IsSearched k from
  searched_on k from same e = by (reopens f.body (take (spot x).consumer f.body) x.p.outs) refl e where
    behind : x.before ++ (x.producer ∷ x.mid) ≡ take (spot x).consumer f.body
    behind =
        sym ((λ j. take (sym (length-append x.before (x.producer ∷ x.mid)) j) ((found.is ∙ sym (append_assoc x.before (x.producer ∷ x.mid) (x.consumer ∷ x.after))) j))
        ∙ take-append_seam (x.before ++ (x.producer ∷ x.mid)) (x.consumer ∷ x.after))

    by : (b : Bool) → reopens f.body (take (spot x).consumer f.body) x.p.outs ≡ b → from ≡ (if b then 0 else (spot x).consumer - 1) → IsSearched k from
    by true q z = subst (IsSearched k) (sym z) refl
    by false q z =
        subst (λ (h : FuncShape). IsSearched h from) (sym same)
        (goes_on (ap (λ (os : List Op). reopens f.body os x.p.outs) behind ∙ q) from (let l : length x.before + suc (length x.mid) - 1 ≡ length x.before + length x.mid = omega arith in z ∙ l))

  pub counted_on : (old new : ℕ → ℕ) (k : FuncShape) (change : Change) → IsCounted old f.body → k ≡ fuse_pair f x → IsChange f x change →
      ((v : ValueId) → new v.0 ≡ (old v.0 - cond (change.outs.0 == v.0) 1 0) - cond (change.gone.0 == v.0) 1 0) → IsCounted new k.body
  counted_on old new k change h same is lost v =
      let gone : change.gone ≡ r = same_Some change.gone r (sym is.gone ∙ found.operand) in
      let outs_one : one v change.outs ≡ one v x.p.outs = ap (one v) is.outs in
      let gone_one : one v change.gone ≡ one v r = ap (one v) gone in
      let now : new v.0 ≡ uses_op v body = omega (arith, lost v, h v, fewer v, outs_one, gone_one) in
      now ∙ (λ j. uses_op v (sym same j).body)
