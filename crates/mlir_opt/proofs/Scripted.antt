-- What a script keeps.
use Rattle.std.proofs.Common.{◌≡◌, Option, Ok}
use Rattle.mlir_ir.specs.declared.tree.Module.{Module}
use Rattle.mlir_roundtrip.specs.Printable.{IsPrintable}
use Rattle.mlir_verify.specs.Rules.{IsVerified}
use Rattle.script_read.specs.declared.script.Script.{Script}
use Rattle.script_run.specs.Laws.{AreSameFunctions}
use Rattle.script_run.specs.Scripts.{run}
use Rattle.script_run.proofs.Meanings.{run_keeps_functions}
use Rattle.script_run.proofs.Kept.{IsKept}
use Rattle.script_run.proofs.Running.{run_keeps}
use Rattle.printable_steps.proofs.Steps.{generalized_printable, interchanged_printable}
use Rattle.printable_fusing.proofs.Files.{fused_printable}
use Rattle.mlir_opt.specs.Processed.{with_script}

-- the functions, and that the module verifies
pub script_keeps_functions : (s : Script) (m n : Module) → IsVerified m → run s m ≡ Ok n → IsVerified n × AreSameFunctions m.funcs n.funcs
script_keeps_functions s m n v e = run_keeps_functions s m n v e

-- each step keeps that a file with the module has a text, whichever script stands in it
steps_keep_printable : (script : Option Script) → IsKept (λ m. IsPrintable (with_script script m))
steps_keep_printable script = record {
  generalize = λ m i v p there rules limit. generalized_printable (with_script script m) i p v;
  interchange = λ m i order v p there rules limit. interchanged_printable (with_script script m) i order p v;
  fuse = λ m n k v p formed limit. fused_printable (with_script script m) k n p v formed;
}

pub script_keeps_printable : (script : Option Script) (s : Script) (m n : Module) → IsVerified m → IsPrintable (with_script script m) → run s m ≡ Ok n → IsPrintable (with_script script n)
script_keeps_printable script s m n v p e = run_keeps (λ k. IsPrintable (with_script script k)) (steps_keep_printable script) s m n v p e
