use Rattle.std.proofs.Common.{◌≡◌, ◌++◌, drop}
use Rattle.mlir_payload.specs.Payload.{locals_of}
use Rattle.mlir_payload.proofs.payloads.locals.Given as goal

abbrev pub invariant-loop-elem : goal.invariant-loop-elem
invariant-loop-elem l = record { found : l.found ++ locals_of l.number (drop l.elem-index l.ins) l.out ≡ locals_of 0 l.ins l.out; number : l.number ≡ l.elem-index }
