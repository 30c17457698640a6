-- The law of files in which a function's pairs are fused. It is the contract of a function in `src/laws.rt`.
use Rattle.std.specs.Prelude.{◌≡◌, ℕ, Ok}
use Rattle.mlir_ir.specs.declared.tree.Module.{Module}
use Rattle.mlir_file.specs.declared.file.File.{File}
use Rattle.mlir_roundtrip.specs.Printable.{IsPrintable}
use Rattle.mlir_verify.specs.Rules.{IsVerified}
use Rattle.fuse_elementwise.specs.Fused.{fused_in}
use Rattle.printable_steps.specs.Laws.{with_module}

-- the module that is formed is verified too (`fuse_elementwise`), so that the law goes on through a chain of steps
abbrev pub FusedPrintable : Type 0
FusedPrintable = (f : File) (n : ℕ) (formed : Module) →
    IsPrintable f → IsVerified f.module → fused_in n f.module ≡ Ok formed → IsPrintable (with_module f formed)
