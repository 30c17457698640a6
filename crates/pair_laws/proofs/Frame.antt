-- A body without a definition that nothing in it uses passes the verifier as it did before.
use Rattle.std.proofs.Common.{◌≡◌, ◌≢◌, ℕ, ◌<◌, ◌||◌, Bool, true, false, List, [], ◌∷◌, ◌++◌, length, Some, None, refl, sym, ◌∙◌, arith, eq-eqb}
use Rattle.std.specs.Prelude.{not, if◌then◌else◌}
use Rattle.std.proofs.lemmas.Bool.{ne_eqb, false≢true}
use Rattle.mlir_ir.specs.Count.{first, operands}
use Rattle.mlir_ir.specs.declared.tree.Op.{Op}
use Rattle.mlir_ir.specs.declared.tree.OpKind.{OpKind, For', Forall'}
use Rattle.mlir_ir.specs.declared.tree.Ty.{Ty}
use Rattle.mlir_ir.specs.declared.tree.ValueId.{ValueId}
use Rattle.mlir_meaning.specs.Grids.{Each}
use Rattle.mlir_meaning.specs.Laws.{all_but}
use Rattle.mlir_meaning.specs.Names.{AreIn, ReadsOnly, OpsReadOnly}
use Rattle.mlir_meaning.proofs.Grids.{each_more}
use Rattle.mlir_meaning.proofs.Identity.{same, values-id, renamed-id}
use Rattle.affine_maps.specs.Permutation.{is_among}
use Rattle.mlir_verify.specs.Extents.{breaks_extents}
use Rattle.mlir_verify.specs.Maps.{breaks_maps}
use Rattle.mlir_verify.specs.Names.{numbers, in_scope}
use Rattle.mlir_verify.specs.Place.{type_among}
use Rattle.mlir_verify.specs.Types.{is_typed}
use Rattle.mlir_verify.specs.Windows.{breaks_windows}
use Rattle.mlir_verify.proofs.Standing.{type_among-append}
use Rattle.verified_runs.specs.Passes.{Scope, OpPasses, BodyPasses, scope_after}
use Rattle.verified_runs.proofs.Formed.{filled}
use Rattle.verified_runs.proofs.Places.{built_kind}
use Rattle.verified_runs.proofs.Reused.{Agrees, typed_same, extents_same, maps_same, windows_same, all_known}
use Rattle.verified_runs.proofs.ReusedBodies.{among_parts, or_false}

pub appended : {A : Type 0} (xs ys : List A) → 0 < length ys → 0 < length (xs ++ ys)
appended [] ys l = l
appended (x ∷ xs) ys l = omega arith

-- the second scope has the same types but for value r, and no more numbers
pub record Drops (r : ValueId) (old new : Scope) : Type 0 where
  pub types : (v : ℕ) → all_but r v ≡ true → type_among new v ≡ type_among old v
  pub none : (v : ℕ) → is_among v (numbers old) ≡ false → is_among v (numbers new) ≡ false

pub drops_nothing : (r : ValueId) (scope : Scope) → Drops r scope scope
drops_nothing r scope = record { types = λ v h. refl; none = λ v h. h }

pub drops_one : (r : ValueId) (ty : Ty) (scope : Scope) → Drops r (scope ++ (r, ty) ∷ []) scope
drops_one r ty scope = record {
  types = λ v h. sym (type_among-append scope ((r, ty) ∷ []) v ∙ (λ j. first (if ne_eqb r.0 v (other v h) j then Some ty else None) (type_among scope v)));
  none = λ v h. (or_false _ _ (sym (among_parts v scope ((r, ty) ∷ [])) ∙ h)).0;
} where
  other : (v : ℕ) → all_but r v ≡ true → r.0 ≢ v
  other v h e = false≢true (sym (λ j. not (eq-eqb v r.0 (sym e) j)) ∙ h)

pub drops_more : (r : ValueId) (old new ds : Scope) → Drops r old new → Drops r (old ++ ds) (new ++ ds)
drops_more r old new ds d = record {
  types = λ v h. type_among-append new ds v ∙ (λ j. first (type_among ds v) (d.types v h j)) ∙ sym (type_among-append old ds v);
  none = λ v h. let parts = or_false _ _ (sym (among_parts v old ds) ∙ h) in among_parts v new ds ∙ (λ j. d.none v parts.0 j || parts.1 j);
}

reads_of : (N : ℕ → Bool) (kind : OpKind) → ReadsOnly N kind → AreIn N (operands kind)
unfolding ReadsOnly
reads_of N (For' var lower upper step carried shape row) h = h.0
reads_of N (Forall' vars lower upper step shared shape row) h = h.0
reads_of N kind h = h

module _ (r : ValueId) (wanted : List Ty) where
  pub op_kept : (old new : Scope) (o : Op) → Drops r old new → OpPasses old wanted o → ReadsOnly (all_but r) o.kind → OpPasses new wanted o
  op_kept old new o d h reads =
      let b = built_kind old wanted o h in
      let c = h.constants in
      let agrees : Each (Agrees same (type_among old) (type_among new) c c) (operands o.kind) =
      each_more (λ (v : ValueId). all_but r v.0 ≡ true) (Agrees same (type_among old) (type_among new) c c) (λ v e. (d.types v.0 e, refl)) (operands o.kind) (reads_of (all_but r) o.kind reads) in
      record {
        constants = c;
        news = each_more (λ (x : ValueId × Ty). is_among (x.0).0 (numbers old) ≡ false) (λ (x : ValueId × Ty). is_among (x.0).0 (numbers new) ≡ false) (λ x e. d.none (x.0).0 e) o.results h.news;
        known = (λ j. in_scope (type_among new) (sym (values-id (operands o.kind)) j)) ∙ all_known same (type_among old) (type_among new) c c (operands o.kind) agrees ∙ h.known;
        built = h.built;
        typed = (λ j. is_typed (type_among new) c wanted o.results (sym (renamed-id o.kind) j))
            ∙ typed_same same (type_among old) (type_among new) c c wanted o.results o.kind b agrees ∙ h.typed;
        maps = (λ j. breaks_maps (type_among new) (sym (renamed-id o.kind) j)) ∙ maps_same same (type_among old) (type_among new) c c o.kind b agrees ∙ h.maps;
        iterators = h.iterators;
        extents = (λ j. breaks_extents (type_among new) wanted o.results (sym (renamed-id o.kind) j))
            ∙ extents_same same (type_among old) (type_among new) c c wanted o.results o.kind b agrees ∙ h.extents;
        windows = (λ j. breaks_windows (type_among new) (sym (renamed-id o.kind) j)) ∙ windows_same same (type_among old) (type_among new) c c o.kind b agrees ∙ h.windows;
      }

  pub body_kept : (os : List Op) (old new : Scope) → Drops r old new → BodyPasses old wanted os → OpsReadOnly (all_but r) os → BodyPasses new wanted os
  body_kept [] old new d h reads = tt
  body_kept (o ∷ os) old new d h reads =
      (op_kept old new o d h.0 reads.0, h.1, body_kept os (old ++ o.results) (new ++ o.results) (drops_more r old new o.results d) h.2 reads.1)

  -- with another end
  pub end_changed : (front rest other : List Op) (old new : Scope) → Drops r old new → BodyPasses old wanted (front ++ rest) → OpsReadOnly (all_but r) front → 0 < length rest → 0 < length other →
      (Drops r (scope_after old front) (scope_after new front) → BodyPasses (scope_after old front) wanted rest → BodyPasses (scope_after new front) wanted other) → BodyPasses new wanted (front ++ other)
  end_changed [] rest other old new d h reads l m end = end d h
  end_changed (o ∷ front) rest other old new d h reads l m end = (
    op_kept old new o d h.0 reads.0,
    h.1 ∙ filled (front ++ rest) (appended front rest l) ∙ sym (filled (front ++ other) (appended front other m)),
    end_changed front rest other (old ++ o.results) (new ++ o.results) (drops_more r old new o.results d) h.2 reads.1 l m end,
  )
