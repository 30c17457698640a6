-- A consumer without a pair has none after two other operations are fused.
use Rattle.std.proofs.Common.{◌≡◌, ℕ, zero, suc, ◌==◌, ◌&&◌, Bool, true, false, List, [], ◌∷◌, ◌++◌, length, Option, Some, None, refl, ap, sym, subst, ◌∙◌, append_assoc}
use Rattle.std.specs.Prelude.{slice_get, option_map, ⊤}
use Rattle.std.specs.Option.{option_and_then}
use Rattle.std.proofs.lemmas.List.{append-nil}
use Rattle.std.proofs.lemmas.Option.{same_Some, none-some}
use Rattle.affine_maps.specs.Shape.{MapShape}
use Rattle.mlir_ir.specs.Count.{first, uses_op}
use Rattle.mlir_ir.specs.declared.tree.Op.{Op}
use Rattle.mlir_ir.specs.declared.tree.OpKind.{OpKind}
use Rattle.mlir_ir.specs.declared.tree.Ty.{Ty}
use Rattle.mlir_ir.specs.declared.tree.ValueId.{ValueId}
use Rattle.mlir_meaning.specs.Grids.{Each}
use Rattle.mlir_meaning.specs.Laws.{all_but}
use Rattle.mlir_meaning.specs.Names.{AreIn, ReadsOnly, OpsReadOnly}
use Rattle.mlir_meaning.proofs.Grids.{each-append, each_more}
use Rattle.mlir_meaning.proofs.Through.{each_left, each_right}
use Rattle.mlir_verify.specs.Place.{Types, type_among}
use Rattle.verified_runs.specs.Forms.{Structured, kind_of}
use Rattle.verified_runs.specs.Passes.{Scope, scope_after}
use Rattle.tile_bridge.specs.Instances.{input_maps}
use Rattle.pair_laws.specs.FuseAll.{as_generic, defined_as, fits, produces, Split, split_at, split_by}
use Rattle.pair_laws.specs.Pairs.{fused_op}
use Rattle.pair_laws.proofs.Frame.{Drops, drops_more}
use Rattle.pair_laws.proofs.Premises.{each_spliced}
use Rattle.fuse_elementwise.specs.declared.found.Found.{Found}
use Rattle.fuse_elementwise.specs.Spots.{spotted, spotted_if, spot_at, spot_among, spot_of, spot_from}
use Rattle.fuse_elementwise.proofs.Candidates.{generic_is}
use Rattle.fuse_elementwise.proofs.Fitted.{Alike, fits_same}
use Rattle.fuse_elementwise.proofs.Searching.{spotted_is}

-- NO PAIR
abbrev pub NoneIn : Scope → List Op → List Op → List Op → Type 0
NoneIn scope body earlier [] = ⊤
NoneIn scope body earlier (o ∷ os) =
    (spot_of (type_among scope) body earlier (as_generic o.kind) ≡ None) × NoneIn (scope ++ o.results) body (earlier ++ o ∷ []) os

pub none_skips : (scope : Scope) (body earlier xs ys : List Op) → NoneIn scope body earlier xs → spot_from scope body earlier (xs ++ ys) ≡ spot_from (scope_after scope xs) body (earlier ++ xs) ys
none_skips scope body earlier [] ys h = λ j. spot_from scope body (sym (append-nil earlier) j) ys
none_skips scope body earlier (x ∷ xs) ys h =
    (λ j. first (h.0 j) (spot_from (scope ++ x.results) body (earlier ++ x ∷ []) (xs ++ ys)))
    ∙ none_skips (scope ++ x.results) body (earlier ++ x ∷ []) xs ys h.1
    ∙ (λ j. spot_from (scope_after (scope ++ x.results) xs) body (append_assoc earlier (x ∷ []) xs j) ys)

pub none_split : (scope : Scope) (body earlier xs ys : List Op) → NoneIn scope body earlier (xs ++ ys) → NoneIn scope body earlier xs × NoneIn (scope_after scope xs) body (earlier ++ xs) ys
none_split scope body earlier [] ys h = (tt, subst (λ (e : List Op). NoneIn scope body e ys) (sym (append-nil earlier)) h)
none_split scope body earlier (x ∷ xs) ys h =
    let rest = none_split (scope ++ x.results) body (earlier ++ x ∷ []) xs ys h.1 in
    ((h.0, rest.0), subst (λ (e : List Op). NoneIn (scope_after (scope ++ x.results) xs) body e ys) (append_assoc earlier (x ∷ []) xs) rest.1)

pub none_joined : (scope : Scope) (body earlier xs ys : List Op) → NoneIn scope body earlier xs → NoneIn (scope_after scope xs) body (earlier ++ xs) ys → NoneIn scope body earlier (xs ++ ys)
none_joined scope body earlier [] ys h k = subst (λ (e : List Op). NoneIn scope body e ys) (append-nil earlier) k
none_joined scope body earlier (x ∷ xs) ys h k = (
  h.0,
  none_joined (scope ++ x.results) body (earlier ++ x ∷ []) xs ys h.1
      (subst (λ (e : List Op). NoneIn (scope_after (scope ++ x.results) xs) body e ys) (sym (append_assoc earlier (x ∷ []) xs)) k),
)

-- WHAT DEFINES A VALUE
abbrev op_in : Option Split → Option Op
op_in r = option_map (λ (s : Split). s.op) r

abbrev pub op_of : ValueId → List Op → Option Op
op_of v os = op_in (split_at v os)

op_of-more : (v : ValueId) (o : Op) (os : List Op) → op_of v (o ∷ os) ≡ first (op_of v (o ∷ [])) (op_of v os)
op_of-more v o os = by (defined_as v o.results) (split_at v os) where
  by : (d : Option Ty) (r : Option Split) → op_in (split_by d o os r) ≡ first (op_in (split_by d o [] None)) (op_in r)
  by (Some ty) r = refl
  by None None = refl
  by None (Some s) = refl

first_first : {A : Type 0} (a b c : Option A) → first a (first b c) ≡ first (first a b) c
first_first None b c = refl
first_first (Some a) b c = refl

pub op_of-append : (v : ValueId) (xs ys : List Op) → op_of v (xs ++ ys) ≡ first (op_of v xs) (op_of v ys)
op_of-append v [] ys = refl
op_of-append v (x ∷ xs) ys =
    op_of-more v x (xs ++ ys) ∙ ap (first (op_of v (x ∷ []))) (op_of-append v xs ys) ∙ first_first (op_of v (x ∷ [])) (op_of v xs) (op_of v ys)
    ∙ (λ j. first (sym (op_of-more v x xs) j) (op_of v ys))

op_holds : (P : Op → Type 0) (v : ValueId) (os : List Op) (o : Op) → Each P os → op_of v os ≡ Some o → P o
op_holds P v [] o h e = absurd (none-some o e)
op_holds P v (x ∷ os) o h e = by (λ k. op_holds P v os o h.1 k) (defined_as v x.results) (split_at v os) refl e where
  by : (op_of v os ≡ Some o → P o) → (d : Option Ty) (r : Option Split) → split_at v os ≡ r → op_in (split_by d x os r) ≡ Some o → P o
  by again (Some ty) r q k = subst P (same_Some x o k) h.0
  by again None None q k = absurd (none-some o k)
  by again None (Some s) q k = again (ap op_in q ∙ k)

-- ONE OPERAND
not_spotted : (b : Bool) (x : Found) → spotted_if b x ≡ None → b ≡ false
not_spotted true x h = absurd (none-some x (sym h))
not_spotted false x h = refl

module _ (t : Types) (body : List Op) (n : ℕ) (c : Structured) (k : ℕ) (v : ValueId) where
  abbrev at_split : Option Split → Option Found
  at_split r =
      option_and_then (λ (d : ℕ × Op). option_and_then (spotted t body c k v d.0 n) (as_generic d.1.kind))
      (option_map (λ (s : Split). (length s.front, s.op)) r)

  abbrev Fails : Option Split → Type 0
  Fails r =
      (o : Op) (p : Structured) (ds : List ℕ) (m : MapShape) → op_in r ≡ Some o → as_generic o.kind ≡ Some p → produces p ≡ Some ds → slice_get (input_maps c) k ≡ Some m →
      (uses_op v body == 1) && fits t c (fused_op p c k m ds) ≡ false

  failed : (r : Option Split) → at_split r ≡ None → Fails r
  failed None h o p ds m q g e l = absurd (none-some o q)
  failed (Some s) h o p ds m q g e l =
      not_spotted ((uses_op v body == 1) && fits t c (fused_op p c k m ds)) (record { producer = length s.front; consumer = n; operand = k; dims = ds })
      (spotted_is t body p c k v (length s.front) n ds m e l
      ∙ (λ j. option_and_then (spotted t body c k v (length s.front) n) (sym (ap (λ (o : Op). as_generic o.kind) (same_Some s.op o q) ∙ g) j)) ∙ h)

  fails : (r : Option Split) → Fails r → at_split r ≡ None
  fails None h = refl
  fails (Some s) h = by (as_generic s.op.kind) refl where
    by_map : (p : Structured) → as_generic s.op.kind ≡ Some p → (ds : List ℕ) → produces p ≡ Some ds → (r : Option MapShape) → slice_get (input_maps c) k ≡ r →
        option_and_then (λ (m : MapShape). spotted_if ((uses_op v body == 1) && fits t c (fused_op p c k m ds)) (record { producer = length s.front; consumer = n; operand = k; dims = ds })) r ≡ None
    by_map p g ds e None l = refl
    by_map p g ds e (Some m) l = ap (λ (b : Bool). spotted_if b (record { producer = length s.front; consumer = n; operand = k; dims = ds })) (h s.op p ds m refl g e l)

    by_dims : (p : Structured) → as_generic s.op.kind ≡ Some p → (r : Option (List ℕ)) → produces p ≡ r →
        option_and_then (λ (ds : List ℕ). option_and_then (λ (m : MapShape).
        spotted_if ((uses_op v body == 1) && fits t c (fused_op p c k m ds)) (record { producer = length s.front; consumer = n; operand = k; dims = ds })) (slice_get (input_maps c) k)) r ≡ None
    by_dims p g None e = refl
    by_dims p g (Some ds) e = by_map p g ds e (slice_get (input_maps c) k) refl

    by : (g : Option Structured) → as_generic s.op.kind ≡ g → option_and_then (spotted t body c k v (length s.front) n) g ≡ None
    by None q = refl
    by (Some p) q = by_dims p q (produces p) refl

-- ONE CONSUMER
none_first : {A : Type 0} (a b : Option A) → first a b ≡ None → (a ≡ None) × (b ≡ None)
none_first None b h = (refl, h)
none_first (Some a) b h = absurd (none-some a (sym h))

read_by : (N : ℕ → Bool) (kind : OpKind) (g : Structured) → as_generic kind ≡ Some g → ReadsOnly N kind → AreIn N (g.ins ++ (g.outs ∷ g.captured))
unfolding ReadsOnly
read_by N kind g e h = subst (ReadsOnly N) (generic_is kind g e) h

module _ (r : ValueId) (body new : List Op) where
  abbrev N : ℕ → Bool
  N = all_but r

  -- where a value gets one use, its definer among these isn't a generic
  abbrev pub IsUsedAsBefore : List Op → Type 0
  IsUsedAsBefore whole =
      (v : ValueId) → N v.0 ≡ true → (uses_op v new == 1) ≡ true → (o : Op) → op_of v whole ≡ Some o → (p : Structured) → as_generic o.kind ≡ Some p → (uses_op v body == 1) ≡ true

  module _ (t s : Types) (earlier left whole : List Op) (back : List Op) (is : whole ≡ left ++ back) (types : (v : ℕ) → N v ≡ true → s v ≡ t v)
      (ops : (v : ValueId) → N v.0 ≡ true → op_of v left ≡ op_of v earlier) (reads : OpsReadOnly N left) (counts : IsUsedAsBefore whole) where
    alike : (vs : List ValueId) → AreIn N vs → Each (Alike t s) vs
    alike vs h = each_more (λ (v : ValueId). N v.0 ≡ true) (Alike t s) (λ v e. types v.0 e) vs h

    still : (v : ValueId) (o : Op) → op_of v left ≡ Some o → op_of v whole ≡ Some o
    still v o h = ap (op_of v) is ∙ op_of-append v left back ∙ (λ j. first (h j) (op_of v back))

    at_kept : (c : Structured) (k : ℕ) (v : ValueId) → AreIn N c.ins → N c.outs.0 ≡ true → N v.0 ≡ true → spot_at t body earlier c k v ≡ None → spot_at s new left c k v ≡ None
    at_kept c k v ins outs own h = fails s new (length left) c k v (split_at v left) now where
      now : Fails s new (length left) c k v (split_at v left)
      now o p ds m q g e l = by (uses_op v new == 1) refl where
        old : (uses_op v body == 1) && fits t c (fused_op p c k m ds) ≡ false
        old = failed t body (length earlier) c k v (split_at v earlier) h o p ds m (sym (ops v own) ∙ q) g e l

        p_reads : AreIn N p.ins
        p_reads = each_left (λ (v : ValueId). N v.0 ≡ true) p.ins (p.outs ∷ p.captured) (read_by N o.kind p g (op_holds (λ (o : Op). ReadsOnly N o.kind) v left o reads q))

        same : fits s c (fused_op p c k m ds) ≡ fits t c (fused_op p c k m ds)
        same =
            fits_same t s c (fused_op p c k m ds) (alike c.ins ins) (types c.outs.0 outs)
            (each_spliced (Alike t s) k p.ins c.ins (alike p.ins p_reads) (alike c.ins ins)) (types c.outs.0 outs)

        by : (b : Bool) → (uses_op v new == 1) ≡ b → b && fits s c (fused_op p c k m ds) ≡ false
        by false u = refl
        by true u = same ∙ (λ j. sym (counts v own u o (still v o q) p g) j && fits t c (fused_op p c k m ds)) ∙ old

    among_kept : (c : Structured) (k : ℕ) (vs : List ValueId) → AreIn N c.ins → N c.outs.0 ≡ true → AreIn N vs → spot_among t body earlier c k vs ≡ None → spot_among s new left c k vs ≡ None
    among_kept c k [] ins outs own h = refl
    among_kept c k (v ∷ vs) ins outs own h =
        let parts = none_first (spot_at t body earlier c k v) (spot_among t body earlier c (suc k) vs) h in
        λ j. first (at_kept c k v ins outs own.0 parts.0 j) (among_kept c (suc k) vs ins outs own.1 parts.1 j)

    pub of_kept : (o : Op) → ReadsOnly N o.kind → spot_of t body earlier (as_generic o.kind) ≡ None → spot_of s new left (as_generic o.kind) ≡ None
    of_kept o h k = by (as_generic o.kind) refl k where
      by : (g : Option Structured) → as_generic o.kind ≡ g → spot_of t body earlier g ≡ None → spot_of s new left g ≡ None
      by None q k = refl
      by (Some c) q k =
          let all = read_by N o.kind c q h in
          let ins = each_left (λ (v : ValueId). N v.0 ≡ true) c.ins (c.outs ∷ c.captured) all in
          among_kept c 0 c.ins ins (each_right (λ (v : ValueId). N v.0 ≡ true) c.ins (c.outs ∷ c.captured) all).0 ins k

  -- ALL
  pub all_kept : (os : List Op) (scope less : Scope) (earlier left whole back : List Op) → whole ≡ left ++ (os ++ back) → Drops r scope less →
      ((v : ValueId) → N v.0 ≡ true → op_of v left ≡ op_of v earlier) → OpsReadOnly N left → OpsReadOnly N os → IsUsedAsBefore whole →
      NoneIn scope body earlier os → NoneIn less new left os
  all_kept [] scope less earlier left whole back is drops ops reads own counts h = tt
  all_kept (o ∷ os) scope less earlier left whole back is drops ops reads own counts h = (
    of_kept (type_among scope) (type_among less) earlier left whole ((o ∷ os) ++ back) is drops.types ops reads counts o own.0 h.0,
    all_kept os (scope ++ o.results) (less ++ o.results) (earlier ++ o ∷ []) (left ++ o ∷ []) whole back (is ∙ sym (append_assoc left (o ∷ []) (os ++ back))) (drops_more r scope less o.results drops)
        (λ v e. op_of-append v left (o ∷ []) ∙ (λ j. first (ops v e j) (op_of v (o ∷ []))) ∙ sym (op_of-append v earlier (o ∷ [])))
        (each-append (λ (o : Op). ReadsOnly N o.kind) left (o ∷ []) reads (own.0, tt)) own.1 counts h.1,
  )
