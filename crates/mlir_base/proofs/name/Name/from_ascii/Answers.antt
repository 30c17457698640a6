-- Bytes below 128 are text.
use Rattle.std.proofs.Common.{length, le_refl}
use Rattle.std.proofs.lemmas.Str.{IsUtf8-from_ascii}
use Rattle.std.proofs.lemmas.Str.Ascii.{IsAscii-from_reads}
use Rattle.mlir_base.proofs.name.Name.from_ascii.Goals as goal

pub unreachable-requires : goal.unreachable-requires
unreachable-requires c =
    let bytes = c.args.bytes.now in
    c.in-Err.ensures.cases.0 (IsUtf8-from_ascii bytes (IsAscii-from_reads bytes (length bytes) (le_refl (length bytes)) (λ k h. c.requires k 0 h)))
