-- The laws as they are stated.
use Rattle.std.proofs.Common.{◌≡◌, ℕ, ◌<◌, List, ◌∷◌, length, Some, refl, sym, ◌∙◌, arith}
use Rattle.mlir_ir.specs.declared.tree.Op.{Op}
use Rattle.mlir_ir.specs.declared.tree.Ty.{Ty}
use Rattle.mlir_meaning.specs.States.{State}
use Rattle.mlir_verify.specs.Place.{type_among}
use Rattle.region_laws.proofs.Stated.{typed_instance}
use Rattle.verified_runs.specs.Forms.{Structured, kind_of, structured_of}
use Rattle.verified_runs.specs.Passes.{Scope, OpPasses, scope_in}
use Rattle.verified_runs.specs.Typed.{AreTyped}
use Rattle.verified_runs.proofs.NamedLaws.{named_means_generic, generic_passes}
use Rattle.verified_runs.proofs.Runs.{comes_typed, place_passes}
use Rattle.region_laws.proofs.Shifts.{indices_move}
use Rattle.tile_bridge.specs.Instances.{IsInstance, instance_of}
use Rattle.tile_bridge.specs.Laws.{OperandsFitBox, RunsReachInstances, InstancesAreTyped, ParallelCutsOutput, TilesOfPayloads}
use Rattle.tile_bridge.proofs.Bridge.{is_instance}

-- the generic that an operation is passes, and so fits its box
generic_is : (scope : Scope) (wanted : List Ty) (o : Op) (g : Structured) → OpPasses scope wanted o → structured_of (type_among scope) o.kind ≡ Some g →
    (u : State) → AreTyped (type_among scope) u → IsInstance g u
generic_is scope wanted o g h is u typed =
    let p : OpPasses scope wanted (record { id = o.id; results = o.results; kind = kind_of g }) = generic_passes scope wanted o g o.id o.results h is refl h.news in
    is_instance (type_among scope) p.constants wanted o.results g u typed p.typed p.maps p.iterators p.extents p.windows

pub operands_fit : OperandsFitBox
operands_fit scope wanted o g h is u typed =
    let i : IsInstance g u = generic_is scope wanted o g h is u typed in (i, sym (named_means_generic scope wanted o g u h is typed) ∙ i.means o.results)

pub runs_reach : RunsReachInstances
runs_reach f k o os g inputs u h e is of reach =
    let p = place_passes f k o os h e in
    operands_fit (scope_in f.params k) p.0 o g p.1 is u (comes_typed f k (o ∷ os) inputs u h e of reach)

pub instances_typed : InstancesAreTyped
instances_typed g u i = typed_instance (instance_of g u) i.fits

pub parallel_cuts : ParallelCutsOutput
parallel_cuts g u i cut only d l h =
    let m : d < length g.iterators = omega (arith, l, i.rank) in sym (i.parallel d m) ∙ only d m h

pub tiles_of_payloads : TilesOfPayloads
tiles_of_payloads g u i os ns outer c f offsets fits places adds =
    indices_move g.payload i.element.0 (instance_of g u).box os ns (instance_of g u).captured outer c f offsets fits i.payload i.element.1 i.supplied places adds
