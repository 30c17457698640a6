-- Exchanges of operations, each of one result, in one pass over a module: an operation that is exchanged stands anew in its place, and
-- uses of its result below it are uses of the new one.
use Rattle.std.specs.Prelude.{ℕ, ◌==◌, List, [], ◌∷◌, map, Option, Some, None, if◌then◌else◌}
use Rattle.mlir_ir.specs.Shape.{FuncShape}
use Rattle.mlir_ir.specs.declared.tree.Module.{Module}
use Rattle.mlir_ir.specs.declared.tree.Op.{Op}
use Rattle.mlir_ir.specs.declared.tree.Ty.{Ty}
use Rattle.mlir_ir.specs.declared.tree.ValueId.{ValueId}
use Rattle.mlir_meaning.specs.Renaming.{renamed, renamed_op}
use Rattle.step_passes.specs.declared.exchange.Exchange.{Exchange}

-- the exchange of the operation of this number
abbrev pub exchange_of : List Exchange → ℕ → Option Exchange
exchange_of [] i = None
exchange_of (x ∷ xs) i = if x.target.0 == i then Some x else exchange_of xs i

-- the numbers that uses of values have: one more is renamed
abbrev pub Names : Type 0
Names = ℕ → ℕ

abbrev pub with_name : ℕ → ℕ → Names → Names
with_name r v g w = if w == r then v else g w

abbrev pub reused : Names → Op → Op
reused g o = renamed_op (λ n. n) g (λ n. n) o

-- what stands in an operation's place, and the names behind it
abbrev pub put : Option Exchange → Names → Op → List (ValueId × Ty) → Op × Names
put (Some x) g o (r ∷ []) = (
  record { id = record { 0 = x.op }; results = (record { 0 = x.value }, r.1) ∷ []; kind = renamed (λ n. n) g (λ n. n) x.kind },
  with_name (r.0).0 x.value g,
)
put _ g o rs = (reused g o, g)

abbrev pub put_by : List Exchange → Names → Op → Op × Names
put_by xs g o = put (exchange_of xs o.id.0) g o o.results

abbrev pub passed_ops : List Exchange → Names → List Op → List Op
passed_ops xs g [] = []
passed_ops xs g (o ∷ os) = (put_by xs g o).0 ∷ passed_ops xs (put_by xs g o).1 os

abbrev pub passed_func : List Exchange → FuncShape → FuncShape
passed_func xs f = record { name = f.name; params = f.params; results = f.results; body = passed_ops xs (λ n. n) f.body }

abbrev pub passed_module : List Exchange → Module → Module
passed_module xs m = record { funcs = map (passed_func xs) m.funcs }
