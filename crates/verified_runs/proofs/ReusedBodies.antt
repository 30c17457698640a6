-- A body whose uses are renamed passes the verifier where it did before, in a scope with the new numbers.
use Rattle.std.proofs.Common.{◌≡◌, ℕ, ◌<◌, ◌≤◌, ◌==◌, ◌&&◌, ◌||◌, Bool, true, false, List, [], ◌∷◌, ◌++◌, Some, None, refl, ap, sym, subst, ◌∙◌, arith, lt-ltb}
use Rattle.std.specs.Prelude.{if◌then◌else◌}
use Rattle.std.proofs.lemmas.Bool.Decides.{nat_tests}
use Rattle.mlir_ir.specs.Count.{first, operands}
use Rattle.mlir_ir.specs.declared.tree.Op.{Op}
use Rattle.mlir_ir.specs.declared.tree.OpKind.{OpKind, Constant, Empty, Generic, Fill, Matmul, BatchMatmul, Transpose, Broadcast, Return}
use Rattle.mlir_ir.specs.declared.tree.Ty.{Ty}
use Rattle.mlir_ir.specs.declared.tree.ValueId.{ValueId}
use Rattle.mlir_meaning.specs.Grids.{Each}
use Rattle.mlir_meaning.specs.Renaming.{value, values, defined, renamed, renamed_op, reused_ops}
use Rattle.mlir_meaning.specs.States.{names_of}
use Rattle.mlir_meaning.specs.Names.{OpsDefineOnly}
use Rattle.mlir_meaning.specs.Replacement.{StandsAlone}
use Rattle.mlir_meaning.proofs.Grids.{each_more}
use Rattle.mlir_verify.specs.Place.{type_among, is_empty}
use Rattle.std.specs.List.{list_all}
use Rattle.mlir_verify.specs.Built.{is_built_type, is_built_kind, is_built}
use Rattle.mlir_verify.specs.Ends.{is_return}
use Rattle.affine_maps.specs.Permutation.{is_among}
use Rattle.mlir_verify.specs.Names.{numbers, in_scope}
use Rattle.mlir_verify.specs.Maps.{breaks_iterators}
use Rattle.mlir_verify.proofs.Standing.{type_among-append}
use Rattle.verified_runs.specs.Passes.{Scope, OpPasses, BodyPasses}
use Rattle.verified_runs.specs.Laws.{Retypes}
use Rattle.verified_runs.specs.Fresh.{above_op, above_body, below}
use Rattle.verified_runs.proofs.Places.{built_kind, names_below}
use Rattle.verified_runs.proofs.Reused.{Agrees, typed_same, extents_same, maps_same, windows_same, all_known}

abbrev reused : (ℕ → ℕ) → Op → Op
reused f = renamed_op (λ k. k) f (λ k. k)

abbrev new : (ℕ → ℕ) → OpKind → OpKind
new f = renamed (λ k. k) f (λ k. k)

pub results_kept : (f : ℕ → ℕ) (rs : List (ValueId × Ty)) → defined (λ k. k) f (λ k. k) rs ≡ rs
results_kept f [] = refl
results_kept f (r ∷ rs) = λ j. r ∷ results_kept f rs j

module _ (f : ℕ → ℕ) where
  values_append : (xs ys : List ValueId) → values f (xs ++ ys) ≡ values f xs ++ values f ys
  values_append [] ys = refl
  values_append (x ∷ xs) ys = λ j. value f x ∷ values_append xs ys j

  operands_renamed : (kind : OpKind) → is_built_kind kind ≡ true → operands (new f kind) ≡ values f (operands kind)
  unfolding renamed
  operands_renamed (Constant cells) b = refl
  operands_renamed (Empty sizes) b = refl
  operands_renamed (Generic maps iterators ins outs captured payload) b = sym (values_append ins (outs ∷ captured))
  operands_renamed (Fill v outs) b = refl
  operands_renamed (Matmul x y outs) b = refl
  operands_renamed (BatchMatmul x y outs) b = refl
  operands_renamed (Transpose source outs order) b = refl
  operands_renamed (Broadcast source outs dims) b = refl
  operands_renamed (Return vs) b = refl
  operands_renamed kind b = absurd cc

  built_renamed : (kind : OpKind) → is_built_kind (new f kind) ≡ is_built_kind kind
  unfolding renamed
  built_renamed (Generic maps iterators ins outs captured payload) = refl
  built_renamed kind = refl

  return_renamed : (kind : OpKind) → is_return (new f kind) ≡ is_return kind
  unfolding renamed
  return_renamed (Generic maps iterators ins outs captured payload) = refl
  return_renamed kind = refl

  iterators_renamed : (kind : OpKind) → breaks_iterators (new f kind) ≡ breaks_iterators kind
  unfolding renamed breaks_iterators
  iterators_renamed (Generic maps iterators ins outs captured payload) = refl
  iterators_renamed kind = refl

turned_eqb : (a b : ℕ) → (a == b) ≡ (b == a)
turned_eqb a b = grind (arith, nat_tests)

pub or_false : (a b : Bool) → (a || b) ≡ false → (a ≡ false) × (b ≡ false)
or_false true b e = absurd cc
or_false false b e = (refl, e)

pub among_parts : (v : ℕ) (xs ys : Scope) → is_among v (numbers (xs ++ ys)) ≡ (is_among v (numbers xs) || is_among v (numbers ys))
among_parts v [] ys = refl
among_parts v (x ∷ xs) ys = ap (λ b. ((x.0).0 == v) || b) (among_parts v xs ys) ∙ or_assoc ((x.0).0 == v) (is_among v (numbers xs)) (is_among v (numbers ys)) where
  or_assoc : (a b c : Bool) → (a || (b || c)) ≡ ((a || b) || c)
  or_assoc true b c = refl
  or_assoc false b c = refl

module _ (n : ℕ) (f back : ℕ → ℕ) (returns : (v : ℕ) → v < n → back (f v) ≡ v) (wanted : List Ty) where
  op_reused : (old other : Scope) (o : Op) → Retypes n f old other → OpPasses old wanted o → above_op o ≤ n → OpPasses other wanted (reused f o)
  unfolding is_built
  op_reused old other o r h l =
      let b = built_kind old wanted o h in
      let agrees : Each (Agrees f (type_among old) (type_among other) h.constants (λ w. h.constants (back w))) (operands o.kind) =
      each_more (λ (v : ValueId). v.0 < n) (Agrees f (type_among old) (type_among other) h.constants (λ w. h.constants (back w))) (λ v m. (r.types v.0 m, ap h.constants (returns v.0 m))) (operands o.kind)
      (names_below n (operands o.kind) (omega arith)) in
      let there : OpPasses other wanted (record { id = o.id; results = o.results; kind = new f o.kind }) = record {
        constants = λ w. h.constants (back w);
        news = news o.results h.news (names_below n (names_of o.results) (omega arith));
        known = ap (in_scope (type_among other)) (operands_renamed f o.kind b) ∙ all_known f (type_among old) (type_among other) h.constants (λ w. h.constants (back w)) (operands o.kind) agrees ∙ h.known;
        built = (λ j. built_renamed f o.kind j && list_all (λ (x : ValueId × Ty). is_built_type x.1) o.results) ∙ h.built;
        typed = typed_same f (type_among old) (type_among other) h.constants (λ w. h.constants (back w)) wanted o.results o.kind b agrees ∙ h.typed;
        maps = maps_same f (type_among old) (type_among other) h.constants (λ w. h.constants (back w)) o.kind b agrees ∙ h.maps;
        iterators = iterators_renamed f o.kind ∙ h.iterators;
        extents = extents_same f (type_among old) (type_among other) h.constants (λ w. h.constants (back w)) wanted o.results o.kind b agrees ∙ h.extents;
        windows = windows_same f (type_among old) (type_among other) h.constants (λ w. h.constants (back w)) o.kind b agrees ∙ h.windows;
      } in
      subst (λ rs. OpPasses other wanted (record { id = o.id; results = rs; kind = new f o.kind })) (sym (results_kept f o.results)) there
    where
      news : (rs : List (ValueId × Ty)) → Each (λ d. is_among (d.0).0 (numbers old) ≡ false) rs → Each (λ (v : ValueId). v.0 < n) (names_of rs) → Each (λ d. is_among (d.0).0 (numbers other) ≡ false) rs
      news [] a b = tt
      news (d ∷ rs) a b = (r.none (d.0).0 b.0 a.0, news rs a.1 b.1)

  -- what follows defines the same in both
  still_retypes : (old other ds : Scope) → Retypes n f old other → Each (λ (v : ValueId). StandsAlone (below n) f v.0) (names_of ds) → Retypes n f (old ++ ds) (other ++ ds)
  still_retypes old other ds r alone = record {
    types = λ v l. type_among-append other ds (f v) ∙ (λ j. first (here ds alone v l j) (r.types v l j)) ∙ sym (type_among-append old ds v);
    none = λ v l e.
        let parts = or_false _ _ (sym (among_parts v old ds) ∙ e) in
        among_parts v other ds ∙ (λ j. r.none v l parts.0 j || parts.1 j);
  } where
    here : (ds : Scope) → Each (λ (v : ValueId). StandsAlone (below n) f v.0) (names_of ds) → (v : ℕ) → v < n → type_among ds (f v) ≡ type_among ds v
    here [] a v l = refl
    here (d ∷ ds) a v l = λ j. first (here ds a.1 v l j) (if ((turned_eqb (d.0).0 (f v)) ∙ a.0 v (lt-ltb v n l) ∙ turned_eqb v (d.0).0) j then Some d.1 else None)

  reused_empty : (os : List Op) → is_empty (reused_ops f os) ≡ is_empty os
  reused_empty [] = refl
  reused_empty (o ∷ os) = refl

  pub body_reused : (os : List Op) (old other : Scope) → Retypes n f old other → BodyPasses old wanted os → OpsDefineOnly (StandsAlone (below n) f) os → above_body os ≤ n →
      BodyPasses other wanted (reused_ops f os)
  body_reused [] old other r h alone l = tt
  body_reused (o ∷ os) old other r h alone l = (
    op_reused old other o r h.0 (omega arith),
    return_renamed f o.kind ∙ h.1 ∙ sym (reused_empty os),
    subst (λ rs. BodyPasses (other ++ rs) wanted (reused_ops f os)) (sym (results_kept f o.results))
        (body_reused os (old ++ o.results) (other ++ o.results) (still_retypes old other o.results r (alone.0).0) h.2 alone.1 (omega arith)),
  )
