-- New operations in the place of that of a number are an edit at its place.
use Rattle.std.proofs.Common.{◌≡◌, ◌<◌, ℕ, zero, suc, true, List, [], ◌∷◌, length, Option, Some, None, refl, sym, ltb-true, ◌∙◌}
use Rattle.std.specs.Prelude.{IfSome, option_and_then, slice_get}
use Rattle.std.specs.List.{list_all}
use Rattle.std.proofs.lemmas.Bool.{and_parts}
use Rattle.mlir_ir.specs.Shape.{FuncShape}
use Rattle.mlir_ir.specs.declared.tree.Module.{Module}
use Rattle.mlir_ir.specs.declared.tree.Op.{Op}
use Rattle.mlir_ir.specs.declared.tree.OpId.{OpId}
use Rattle.mlir_ir.specs.declared.tree.ValueId.{ValueId}
use Rattle.mlir_verify.specs.Rules.{has_body, IsVerified}
use Rattle.verified_runs.specs.Edits.{Edit}
use Rattle.structured_steps.specs.Steps.{formed}
use Rattle.mlir_edits.specs.declared.place.Place.{Place}
use Rattle.mlir_edits.specs.Places.{place_of, op_at}
use Rattle.mlir_edits.specs.Replaced as at
use Rattle.mlir_edits.specs.Replaced.{replaced_among, replaced_at, leaves_body}
use Rattle.mlir_edits.proofs.Formed.{formed_some}
use Rattle.mlir_edits.proofs.Found.{place_is_there}
use Rattle.mlir_edits.proofs.Unique.{ids_are_new}
use Rattle.checked_edits.specs.Replacing.{always, edit_of, replaced}

record Stands (p : Place) (fs : List FuncShape) (o : Op) : Type 0 where
  func : FuncShape
  in_func : slice_get fs p.func ≡ Some func
  in_body : slice_get func.body p.op ≡ Some o

stands : (p : Place) (fs : List FuncShape) (o : Op) → op_at p fs ≡ Some o → Stands p fs o
stands p fs o h = by (slice_get fs p.func) refl h where
  by : (r : Option FuncShape) → slice_get fs p.func ≡ r → option_and_then (λ (f : FuncShape). slice_get f.body p.op) r ≡ Some o →
      Stands p fs o
  by None q s = absurd cc
  by (Some f) q s = record { func = f; in_func = q; in_body = s }

pub formed_there : (m : Module) (i : OpId) (p : Place) (e : Edit) → IsVerified m → place_of i m.funcs ≡ Some p →
    formed i (always e) m ≡ replaced_at p e m
formed_there m i p e v h =
    let there = place_is_there m i p h in
    let s = stands p m.funcs there.0 there.1 in
    λ j. record { funcs = formed_some i m.funcs p s.func there.0 (ids_are_new m v) h s.in_func s.in_body (always e) e refl j }

pub replaced_there : (m c : Module) (i : OpId) (p : Place) (ops : List Op) (values given : List ValueId) → IsVerified m → m ≡ c →
    given ≡ values →
    place_of i m.funcs ≡ Some p → replaced i ops values c ≡ replaced_at p (edit_of ops given) m
replaced_there m c i p ops values given v same e h = (λ j. replaced i ops (sym e j) (sym same j))
    ∙ formed_there m i p (edit_of ops given) v h

-- a function with a body afterwards has one at the place
pub body_left : (fs : List FuncShape) (n k : ℕ) (e : Edit) → list_all has_body (replaced_among n k e fs) ≡ true →
    IfSome (slice_get fs n) (λ (f : FuncShape). 0 < length (at.replaced k e f.body))
body_left [] n k e h = tt
body_left (f ∷ fs) zero k e h = ltb-true 0 (length (at.replaced k e f.body)) (and_parts (has_body (at.replaced_func k e f))
    (list_all has_body fs) h).0
body_left (f ∷ fs) (suc n) k e h = body_left fs n k e (and_parts (has_body f) (list_all has_body (replaced_among n k e fs)) h).1

pub leaves : (m : Module) (p : Place) (e : Edit) → list_all has_body (replaced_at p e m).funcs ≡ true → leaves_body p e m.funcs
leaves m p e h = body_left m.funcs p.func p.op e h
