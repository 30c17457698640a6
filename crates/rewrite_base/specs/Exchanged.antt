-- The operation at a place anew: an operation of another kind, with fresh numbers, stands for it.
use Rattle.std.specs.Prelude.{Option, Some, None}
use Rattle.mlir_ir.specs.declared.tree.Module.{Module}
use Rattle.mlir_ir.specs.declared.tree.Op.{Op}
use Rattle.mlir_ir.specs.declared.tree.OpKind.{OpKind}
use Rattle.verified_runs.specs.Edits.{anew}
use Rattle.verified_runs.specs.Fresh.{fresh_value, fresh_op}
use Rattle.mlir_edits.specs.declared.place.Place.{Place}
use Rattle.mlir_edits.specs.Places.{op_at}
use Rattle.mlir_edits.specs.Replaced.{replaced_at}

abbrev pub exchanged_op : Option Op → Place → OpKind → Module → Module
exchanged_op None p kind m = m
exchanged_op (Some o) p kind m = replaced_at p (anew (fresh_op m.funcs) (fresh_value m.funcs) kind o) m

abbrev pub exchanged : Place → OpKind → Module → Module
exchanged p kind m = exchanged_op (op_at p m.funcs) p kind m
