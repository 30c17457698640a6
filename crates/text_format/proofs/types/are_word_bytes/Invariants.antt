use Rattle.std.proofs.Common.{◌≡◌, drop}
use Rattle.std.specs.List.{list_all}
use Rattle.text_format.specs.Bytes.{is_word_byte}
use Rattle.text_format.proofs.types.are_word_bytes.Given as goal

abbrev pub invariant-loop-b : goal.invariant-loop-b
invariant-loop-b l = list_all is_word_byte (drop l.b-index l.bytes) ≡ list_all is_word_byte l.bytes
