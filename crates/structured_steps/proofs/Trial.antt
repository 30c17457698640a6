-- One verified module: the premises of the laws can be met, and what a step forms is computed.
use Rattle.std.proofs.Common.{◌≡◌, ℕ, [], ◌∷◌, refl}
use Rattle.mlir_ir.specs.Shape.{FuncShape}
use Rattle.mlir_ir.specs.declared.tree.Module.{Module}
use Rattle.mlir_ir.specs.declared.tree.OpId.{OpId}
use Rattle.mlir_ir.specs.declared.tree.Extent.TheVariants.{Fixed}
use Rattle.mlir_ir.specs.declared.tree.Ty.{Ty}
use Rattle.mlir_ir.specs.declared.tree.Ty.TheVariants.{Tensor}
use Rattle.mlir_ir.specs.declared.tree.ValueId.{ValueId}
use Rattle.mlir_ir.specs.declared.tree.OpKind.{Transpose, Return}
use Rattle.mlir_meaning.specs.Grids.{Each}
use Rattle.mlir_meaning.specs.Structured.{transpose_form, generic_of}
use Rattle.mlir_meaning.specs.Renaming.{renamed}
use Rattle.mlir_verify.specs.Built.{is_built}
use Rattle.mlir_verify.specs.Names.{breaks_names}
use Rattle.mlir_verify.specs.Types.{is_typed, breaks_types}
use Rattle.mlir_verify.specs.Ends.{breaks_end, breaks_signature}
use Rattle.mlir_verify.specs.Maps.{breaks_maps, breaks_iterators}
use Rattle.mlir_verify.specs.Extents.{keeps_extents, breaks_extents}
use Rattle.mlir_verify.specs.Windows.{breaks_windows}
use Rattle.mlir_verify.specs.Limits.{breaks_limits}
use Rattle.mlir_verify.specs.Rules.{broken, first_broken, IsVerified}
use Rattle.verified_runs.specs.Edits.{edited_body}
use Rattle.verified_runs.specs.Forms.{structured_of}
use Rattle.verified_runs.specs.Fresh.{fresh_op, fresh_value}
use Rattle.structured_steps.specs.Generalize.{generalize}
use Rattle.structured_steps.specs.Steps.{generalized}
use Rattle.verified_runs.specs.Laws.{KeepsMeaning}
use Rattle.structured_steps.proofs.Generalized.{generalize_keeps}

v : ℕ → ValueId
v n = record { 0 = n }

op : ℕ → OpId
op n = record { 0 = n }

wide : Ty
wide = Tensor (Fixed 2 ∷ Fixed 3 ∷ []) 32

tall : Ty
tall = Tensor (Fixed 3 ∷ Fixed 2 ∷ []) 32

func : FuncShape
func = record {
  name = 102 ∷ [];
  params = (v 0, wide) ∷ (v 1, tall) ∷ [];
  results = tall ∷ [];
  body = record { id = op 0; results = (v 2, tall) ∷ []; kind = Transpose (v 0) (v 1) (1 ∷ 0 ∷ []) } ∷ record { id = op 1; results = []; kind = Return (v 2 ∷ []) } ∷ [];
}

m : Module
m = record { funcs = func ∷ [] }

verified : IsVerified m
unfolding m func wide tall v op first_broken broken breaks_names breaks_types is_built is_typed breaks_end breaks_signature breaks_maps breaks_iterators keeps_extents breaks_extents breaks_windows breaks_limits
verified = (refl, refl)

keeps : Each (KeepsMeaning (op 0) (generalize (fresh_op m.funcs) (fresh_value m.funcs))) m.funcs
keeps = generalize_keeps m (op 0) verified

-- operation 0 gives way to operation 2, its result 2 to 3, and the use is renamed
formed_is : generalized (op 0) m ≡ record {
  funcs = record {
    name = 102 ∷ [];
    params = (v 0, wide) ∷ (v 1, tall) ∷ [];
    results = tall ∷ [];
    body = record { id = op 2; results = (v 3, tall) ∷ []; kind = generic_of (transpose_form 32 (1 ∷ 0 ∷ [])) (v 0 ∷ []) (v 1) } ∷ record { id = op 1; results = []; kind = Return (v 3 ∷ []) } ∷ [];
  } ∷ [];
}
unfolding m func wide tall v op edited_body structured_of renamed
formed_is = refl
