-- Operations as generics, in code: what an operation becomes, and what it is where it becomes none.
use Rattle.std.specs.Prelude.{◌≡◌, Bool, true, false, Option, Some, None}
use Rattle.affine_maps.specs.Map.{IsMap}
use Rattle.payload_ops.specs.Payload.{IsPayload}
use Rattle.mlir_ir.specs.declared.tree.OpKind.{OpKind}
use Rattle.mlir_meaning.specs.Grids.{Each}
use Rattle.verified_runs.specs.Forms.{Structured, kind_of}
use Rattle.rewrite_base.specs.declared.shape.Shape.{Shape}
use Rattle.rewrite_base.specs.declared.shape.Shape.TheVariants.{Wrong, Stays, Unfit, Becomes}

-- what types keep of a generic
abbrev pub StructuredFits : Structured → Type 0
StructuredFits g = Each IsMap g.maps × IsPayload g.payload

-- a generic was made; None only where its parts don't fit
abbrev pub IsGeneric : Option OpKind → Structured → Type 0
IsGeneric (Some kind) g = kind ≡ kind_of g
IsGeneric None g = StructuredFits g → ⊥

-- of an operation that is a generic or not, by the generic that it is
abbrev pub Shapes : Bool → Option Structured → Shape → Type 0
Shapes generic g Stays = generic ≡ true
Shapes generic g Wrong = (generic ≡ false) × (g ≡ None)
Shapes generic None Unfit = ⊥
Shapes generic (Some g) Unfit = (generic ≡ false) × (StructuredFits g → ⊥)
Shapes generic None (Becomes kind) = ⊥
Shapes generic (Some g) (Becomes kind) = (generic ≡ false) × (kind ≡ kind_of g)
