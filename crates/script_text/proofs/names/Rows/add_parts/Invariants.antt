use Rattle.std.proofs.Common.{◌≡◌, ◌++◌, drop}
use Rattle.script_text.specs.Names.{parts}
use Rattle.script_text.proofs.names.Rows.add_parts.Given as goal

abbrev pub invariant-loop-handle : goal.invariant-loop-handle
invariant-loop-handle l = record { added : l.self ++ parts l.name l.number (drop l.handle-index l.handles) ≡ l.fn.self ++ parts l.name 0 l.handles; number : l.number ≡ l.handle-index }
