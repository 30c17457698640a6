-- What holds at every place of a verified module.
use Rattle.std.proofs.Common.{◌≡◌, ◌&&◌, Bool, true, false, List, [], ◌∷◌, Option, Some, None, refl, ap, sym, ◌∙◌}
use Rattle.std.specs.Prelude.{◌||◌, not, ⊤, if◌then◌else◌}
use Rattle.affine_maps.specs.Shape.{MapShape}
use Rattle.payload_ops.specs.Shape.{PayloadShape}
use Rattle.mlir_ir.specs.Count.{operands}
use Rattle.mlir_ir.specs.declared.tree.Iter.{Iter}
use Rattle.mlir_ir.specs.declared.tree.Module.{Module}
use Rattle.mlir_ir.specs.declared.tree.OpId.{OpId}
use Rattle.mlir_ir.specs.declared.tree.OpKind.{Generic}
use Rattle.mlir_ir.specs.declared.tree.ValueId.{ValueId}
use Rattle.mlir_verify.specs.declared.rule.Rule.{Rule}
use Rattle.mlir_verify.specs.Place.{Place, places, type_of, is_first}
use Rattle.affine_maps.specs.Permutation.{is_among}
use Rattle.mlir_verify.specs.Names.{breaks_names, in_scope, repeats_params, ids_at}
use Rattle.mlir_verify.specs.Maps.{axes}
use Rattle.mlir_verify.specs.Extents.{axes_agree, keeps_extents, breaks_extents}
use Rattle.mlir_verify.specs.Rules.{broken, fails, lowest, rules_in_order, stands_at, first_broken, first_broken_of, IsVerified}

-- P holds of each item
abbrev pub Each : {X : Type 0} → (X → Type 0) → List X → Type 0
Each P [] = ⊤
Each P (x ∷ xs) = P x × Each P xs

pub places_pass : (ps : List Place) → first_broken_of ps ≡ None → Each (λ p. broken p ≡ None) ps
places_pass [] e = tt
places_pass (p ∷ ps) e = let h = by_rule (broken p) refl e in (h.0, places_pass ps h.1) where
  by_rule : (o : Option Rule) → broken p ≡ o → stands_at p.op.id o (first_broken_of ps) ≡ None → (broken p ≡ None) × (first_broken_of ps ≡ None)
  by_rule None b e = (b, e)
  by_rule (Some r) b e = absurd (let q : ◌≡◌ {A = Option (Rule × OpId)} (Some (r, p.op.id)) None = e in cc)

-- no rule is broken at any place
pub verified_places : (m : Module) → IsVerified m → Each (λ p. broken p ≡ None) (places m)
unfolding first_broken
verified_places m e = places_pass (places m) e.0

lowest_passes : (rs : List Rule) (p : Place) → lowest rs p ≡ None → Each (λ r. fails r p ≡ false) rs
lowest_passes [] p e = tt
lowest_passes (r ∷ rs) p e = let h = by_test (fails r p) refl e in (h.0, lowest_passes rs p h.1) where
  by_test : (b : Bool) → fails r p ≡ b → (if b then Some r else lowest rs p) ≡ None → (fails r p ≡ false) × (lowest rs p ≡ None)
  by_test true t e = absurd (let q : ◌≡◌ {A = Option Rule} (Some r) None = e in cc)
  by_test false t e = (t, e)

-- no rule fails where none is broken
pub all_pass : (p : Place) → broken p ≡ None → Each (λ r. fails r p ≡ false) rules_in_order
unfolding broken
all_pass p e = lowest_passes rules_in_order p e

or_left : (a b : Bool) → (a || b) ≡ false → a ≡ false
or_left true b e = e
or_left false b e = refl

or_right : (a b : Bool) → (a || b) ≡ false → b ≡ false
or_right true b e = absurd (let q : true ≡ false = e in cc)
or_right false b e = e

not_false : (a : Bool) → not a ≡ false → a ≡ true
not_false true e = refl
not_false false e = absurd (let q : true ≡ false = e in cc)

and_left : (a b : Bool) → (a && b) ≡ true → a ≡ true
and_left true b e = refl
and_left false b e = e

-- each operand is in scope
pub operands_are_in_scope : (p : Place) → broken p ≡ None → in_scope (type_of p) (operands p.op.kind) ≡ true
unfolding breaks_names
operands_are_in_scope p e =
    let n = (all_pass p e).0 in
    let own = or_right (is_first p && repeats_params p.before p.func) _ n in
    let after_id = or_right (is_among p.op.id.0 (ids_at p.before p.earlier)) _ own in
    not_false _ (or_left (not (in_scope (type_of p) (operands p.op.kind))) _ after_id)

-- the axes that one dimension selects have equal extents
pub axes_are_equal : (p : Place) (maps : List MapShape) (iterators : List Iter) (ins : List ValueId) (outs : ValueId) (captured : List ValueId) (payload : PayloadShape) →
    p.op.kind ≡ Generic maps iterators ins outs captured payload → broken p ≡ None → axes_agree (axes (type_of p) maps ins outs) ≡ true
unfolding breaks_extents keeps_extents
axes_are_equal p maps iterators ins outs captured payload k e =
    let v7 = (all_pass p e).1.1.1.1.1.1.0 in
    let h : breaks_extents (type_of p) p.func.results p.op.results (Generic maps iterators ins outs captured payload) ≡ false =
    ap (breaks_extents (type_of p) p.func.results p.op.results) (sym k) ∙ v7 in
    and_left _ _ (not_false _ h)
