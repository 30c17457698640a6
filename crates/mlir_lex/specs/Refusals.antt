-- A fault of tokens as a refusal of a text.
use Rattle.text_format.specs.declared.span.LexError.{LexError}
use Rattle.text_format.specs.declared.span.LexError.TheVariants as faults
use Rattle.mlir_lex.specs.declared.read_error.ReadError.{ReadError}
use Rattle.mlir_lex.specs.declared.read_error.ReadError.TheVariants.{Byte, Unclosed, Memory}

abbrev pub read_error : LexError → ReadError
read_error (faults.Byte at) = Byte at
read_error (faults.Unclosed at) = Unclosed at
read_error faults.Memory = Memory
