-- A generic that stands in a verified module keeps what its types keep.
use Rattle.std.proofs.Common.{◌≡◌, ◌==◌, ◌&&◌, length, ℕ, zero, suc, Bool, true, false, List, [], ◌∷◌, ◌++◌, map, take, Option, Some, None, refl, sym, ap, subst, ◌∙◌}
use Rattle.std.specs.Prelude.{option_and_then, slice_get}
use Rattle.std.specs.List.{list_all, zip}
use Rattle.mlir_base.specs.declared.types.ElemTy.{ElemTy}
use Rattle.payload_ops.specs.declared.step.PayloadStep.{PayloadStep}
use Rattle.std.proofs.lemmas.Bool.{and_parts}
use Rattle.std.proofs.lemmas.Option.{same_Some}
use Rattle.affine_maps.specs.Map.{IsMap, map_fits}
use Rattle.affine_maps.specs.Shape.{MapShape}
use Rattle.mlir_ir.specs.Shape.{FuncShape}
use Rattle.mlir_ir.specs.declared.tree.Module.{Module}
use Rattle.mlir_ir.specs.declared.tree.Op.{Op}
use Rattle.mlir_ir.specs.declared.tree.OpKind.{OpKind}
use Rattle.mlir_ir.specs.declared.tree.Ty.{Ty}
use Rattle.mlir_ir.specs.declared.tree.ValueId.{ValueId}
use Rattle.mlir_meaning.specs.Grids.{Each}
use Rattle.mlir_verify.specs.Constants.{Constants}
use Rattle.mlir_verify.specs.Place.{Types}
use Rattle.mlir_verify.specs.Rules.{IsVerified}
use Rattle.mlir_verify.specs.Tensors.{has_elements}
use Rattle.mlir_verify.specs.Types.{is_typed, is_input, gives_output, names_present}
use Rattle.verified_runs.specs.Edits.{renumbered, anew}
use Rattle.verified_runs.specs.Fresh.{fresh_value, fresh_op}
use Rattle.verified_runs.specs.Forms.{Structured, kind_of}
use Rattle.verified_runs.specs.Passes.{Scope, OpPasses, BodyPasses, FuncPasses, scope_after}
use Rattle.verified_runs.proofs.Verified.{verified_passes}
use Rattle.mlir_edits.specs.declared.place.Place.{Place}
use Rattle.mlir_edits.specs.Places.{op_at}
use Rattle.mlir_edits.specs.Replaced.{replaced, replaced_func, replaced_among, replaced_at}
use Rattle.rewrite_base.specs.Exchanged.{exchanged, exchanged_op}
use Rattle.rewrite_base.specs.Shapes.{StructuredFits}

maps_fit : (ms : List MapShape) → list_all map_fits ms ≡ true → Each IsMap ms
maps_fit [] h = tt
maps_fit (m ∷ ms) h = let both = and_parts (map_fits m) (list_all map_fits ms) h in (both.0, maps_fit ms both.1)

abbrev are_inputs : Types → Constants → Structured → Bool
are_inputs t constants g =
    (length g.ins == length g.payload.ins) && list_all (λ (x : ValueId × ElemTy). is_input (t x.0.0) (constants x.0.0) x.1) (zip g.ins g.payload.ins)

pub typed_fits : (t : Types) (constants : Constants) (wanted : List Ty) (results : List (ValueId × Ty)) (g : Structured) → is_typed t constants wanted results (kind_of g) ≡ true → StructuredFits g
unfolding is_typed
typed_fits t constants wanted results g h =
    let whole = and_parts _ (gives_output t results g.outs) h in
    let halves = and_parts _ _ whole.0 in
    let front = and_parts _ _ (and_parts _ _ halves.0).1 in
    let back = and_parts (has_elements (t g.outs.0) g.payload.out) _ (and_parts (are_inputs t constants g) _ halves.1).1 in
    (maps_fit g.maps front.1, (and_parts (list_all (λ (s : PayloadStep). names_present (length g.iterators) (length g.captured) s.op) g.payload.steps) _ back.1).1)

passes_there : (os : List Op) (scope : Scope) (wanted : List Ty) (n : ℕ) (o : Op) → BodyPasses scope wanted os → slice_get os n ≡ Some o → OpPasses (scope_after scope (take n os)) wanted o
passes_there [] scope wanted n o h g = absurd cc
passes_there (p ∷ os) scope wanted zero o h g = subst (OpPasses scope wanted) (same_Some p o g) h.0
passes_there (p ∷ os) scope wanted (suc n) o h g = passes_there os (scope ++ p.results) wanted n o h.2 g

func_there : (fs : List FuncShape) (n : ℕ) (f : FuncShape) → Each FuncPasses fs → slice_get fs n ≡ Some f → FuncPasses f
func_there [] n f h g = absurd cc
func_there (p ∷ fs) zero f h g = subst FuncPasses (same_Some p f g) h.0
func_there (p ∷ fs) (suc n) f h g = func_there fs n f h.1 g

-- the operation at a place is anew there
abbrev new_one : ℕ → ℕ → OpKind → Op → Op
new_one op value kind o = record { id = record { 0 = op }; results = renumbered value o.results; kind = kind }

anew_there : (os : List Op) (n op value : ℕ) (kind : OpKind) (o : Op) → slice_get os n ≡ Some o → slice_get (replaced n (anew op value kind o) os) n ≡ Some (new_one op value kind o)
anew_there [] n op value kind o g = absurd cc
anew_there (p ∷ os) zero op value kind o g = refl
anew_there (p ∷ os) (suc n) op value kind o g = anew_there os n op value kind o g

func_anew : (fs : List FuncShape) (n k op value : ℕ) (kind : OpKind) (f : FuncShape) (o : Op) → slice_get fs n ≡ Some f →
    slice_get (replaced_among n k (anew op value kind o) fs) n ≡ Some (replaced_func k (anew op value kind o) f)
func_anew [] n k op value kind f o g = absurd cc
func_anew (p ∷ fs) zero k op value kind f o g = ap (λ (f : FuncShape). Some (replaced_func k (anew op value kind o) f)) (same_Some p f g)
func_anew (p ∷ fs) (suc n) k op value kind f o g = func_anew fs n k op value kind f o g

-- a generic that a place becomes keeps what its types keep, where the module verifies
pub exchanged_fits : (m : Module) (p : Place) (g : Structured) (f : FuncShape) (o : Op) → slice_get m.funcs p.func ≡ Some f → slice_get f.body p.op ≡ Some o →
    IsVerified (replaced_at p (anew (fresh_op m.funcs) (fresh_value m.funcs) (kind_of g) o) m) → StructuredFits g
exchanged_fits m p g f o in_func in_body v =
    let e = anew (fresh_op m.funcs) (fresh_value m.funcs) (kind_of g) o in
    let all = verified_passes (replaced_at p e m) v in
    let there = func_there (replaced_among p.func p.op e m.funcs) p.func (replaced_func p.op e f) all
    (func_anew m.funcs p.func p.op (fresh_op m.funcs) (fresh_value m.funcs) (kind_of g) f o in_func) in
    let passes = passes_there (replaced p.op e f.body) f.params f.results p.op (new_one (fresh_op m.funcs) (fresh_value m.funcs) (kind_of g) o) there.body
    (anew_there f.body p.op (fresh_op m.funcs) (fresh_value m.funcs) (kind_of g) o in_body) in
    typed_fits _ passes.constants f.results _ g passes.typed
