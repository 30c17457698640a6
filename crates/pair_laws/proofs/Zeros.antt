-- Types that the verifier lets stand have fixed extents, and there is a state that holds values of them.
use Rattle.std.proofs.Common.{◌≡◌, ℕ, zero, suc, ◌<◌, ◌^◌, ◌==◌, Bool, true, false, pos, List, [], ◌∷◌, ◌++◌, map, replicate, Option, Some, None, refl, subst}
use Rattle.std.specs.Prelude.{if◌then◌else◌}
use Rattle.std.specs.List.{list_all}
use Rattle.std.proofs.lemmas.Bool.{and_parts}
use Rattle.std.proofs.lemmas.List.{length-replicate}
use Rattle.std.proofs.lemmas.Nat.{pow_pos}
use Rattle.mlir_base.specs.declared.types.ElemTy.TheVariants.{Int, Index}
use Rattle.mlir_ir.specs.Count.{first}
use Rattle.mlir_ir.specs.Shape.{FuncShape, volume}
use Rattle.mlir_ir.specs.declared.tree.Extent.{Extent}
use Rattle.mlir_ir.specs.declared.tree.Extent.TheVariants.{Fixed, Any}
use Rattle.mlir_ir.specs.declared.tree.Op.{Op}
use Rattle.mlir_ir.specs.declared.tree.Ty.{Ty}
use Rattle.mlir_ir.specs.declared.tree.Ty.TheVariants.{Scalar, Tensor, Vector}
use Rattle.mlir_ir.specs.declared.tree.ValueId.{ValueId}
use Rattle.mlir_meaning.specs.Grids.{Each}
use Rattle.mlir_meaning.specs.States.{State}
use Rattle.mlir_meaning.specs.declared.values.Datum.{Datum}
use Rattle.mlir_meaning.specs.declared.values.Datum.TheVariants.{Number, Bits, Cells}
use Rattle.mlir_meaning.specs.declared.values.Grid.{Grid}
use Rattle.mlir_meaning.proofs.Grids.{each-append}
use Rattle.mlir_verify.specs.Built.{is_built_type, is_built}
use Rattle.mlir_verify.specs.Place.{Types, type_among}
use Rattle.mlir_verify.specs.Tensors.{is_fixed, is_fixed_tensor, size_of, extents_of}
use Rattle.verified_runs.specs.Passes.{Scope, BodyPasses, FuncPasses, scope_after}
use Rattle.verified_runs.specs.Typed.{AreCells, IsSized, HoldsIn, AreTyped}

-- A STATE
abbrev zero_grid : List ℕ → Grid
zero_grid es = record { extents = es; cells = replicate (volume es) 0 }

abbrev zero_of : Option Ty → Datum
zero_of None = Bits 0
zero_of (Some (Scalar (Int w))) = Bits 0
zero_of (Some (Scalar Index)) = Number (pos 0)
zero_of (Some (Tensor es w)) = Cells w (zero_grid (map size_of es))
zero_of (Some (Vector es w)) = Cells w (zero_grid es)

abbrev pub zero_state : Types → State
zero_state t = record { values = λ v. zero_of (t v); shared = []; inserts = [] }

zeros_below : (w n : ℕ) → Each (λ c. c < 2 ^ w) (replicate n 0)
zeros_below w zero = tt
zeros_below w (suc n) = (pow_pos w, zeros_below w n)

cells_of : (w : ℕ) (es : List ℕ) → AreCells w (zero_grid es)
cells_of w es = (length-replicate (volume es) 0, zeros_below w (volume es))

sizes_of : (es : List Extent) → IsSized es (map size_of es)
sizes_of [] = tt
sizes_of (Fixed n ∷ es) = (refl, sizes_of es)
sizes_of (Any ∷ es) = sizes_of es

zero_holds : (o : Option Ty) → HoldsIn o (zero_of o)
zero_holds None = tt
zero_holds (Some (Scalar (Int w))) = pow_pos w
zero_holds (Some (Scalar Index)) = refl
zero_holds (Some (Tensor es w)) = (refl, sizes_of es, cells_of w (map size_of es))
zero_holds (Some (Vector es w)) = (refl, refl, cells_of w es)

pub zero_typed : (t : Types) → AreTyped t (zero_state t)
zero_typed t v = zero_holds (t v)

-- FIXED EXTENTS
abbrev pub HasFixed : Option Ty → Type 0
HasFixed ty = list_all is_fixed (extents_of ty) ≡ true

abbrev AreFixed : Scope → Type 0
AreFixed = Each (λ (d : ValueId × Ty). HasFixed (Some d.1))

built_fixed : (ty : Ty) → is_built_type ty ≡ true → HasFixed (Some ty)
built_fixed (Scalar e) h = refl
built_fixed (Tensor es w) h = h
built_fixed (Vector es w) h = refl

param_fixed : (ty : Ty) → is_fixed_tensor ty ≡ true → HasFixed (Some ty)
param_fixed (Scalar e) h = refl
param_fixed (Tensor es w) h = h
param_fixed (Vector es w) h = refl

all_fixed : (test : Ty → Bool) → ((ty : Ty) → test ty ≡ true → HasFixed (Some ty)) → (ds : Scope) → list_all (λ (d : ValueId × Ty). test d.1) ds ≡ true → AreFixed ds
all_fixed test g [] h = tt
all_fixed test g (d ∷ ds) h = let parts = and_parts (test d.1) _ h in (g d.1 parts.0, all_fixed test g ds parts.1)

type_fixed : (ds : Scope) (v : ℕ) → AreFixed ds → HasFixed (type_among ds v)
type_fixed [] v h = refl
type_fixed (d ∷ ds) v h = by (type_among ds v) ((d.0).0 == v) (type_fixed ds v h.1) where
  by : (o : Option Ty) (b : Bool) → HasFixed o → HasFixed (first o (if b then Some d.1 else None))
  by (Some ty) b k = k
  by None true k = h.0
  by None false k = refl

module _ (wanted : List Ty) where
  scope_fixed : (os rest : List Op) (scope : Scope) → BodyPasses scope wanted (os ++ rest) → AreFixed scope → AreFixed (scope_after scope os)
  unfolding is_built
  scope_fixed [] rest scope h k = k
  scope_fixed (o ∷ os) rest scope h k =
      scope_fixed os rest (scope ++ o.results) h.2 (each-append (λ (d : ValueId × Ty). HasFixed (Some d.1)) scope o.results k (all_fixed is_built_type built_fixed o.results (and_parts _ _ (h.0).built).1))

-- at each place of a function that passes
pub types_fixed : (f : FuncShape) (before rest : List Op) (v : ℕ) → FuncPasses f → f.body ≡ before ++ rest → HasFixed (type_among (scope_after f.params before) v)
types_fixed f before rest v passes e =
    type_fixed (scope_after f.params before) v
    (scope_fixed f.results before rest f.params (subst (BodyPasses f.params f.results) e passes.body) (all_fixed is_fixed_tensor param_fixed f.params (and_parts _ _ passes.signature).0))
