-- How a combiner joins two values (Linalg manual, "linalg.generic": reduction iterators).
use Rattle.std.specs.Prelude.{ℕ}
use Rattle.std.specs.Option.{option_map_or}
use Rattle.payload_ops.specs.Bits.{binary_of}
use Rattle.payload_ops.specs.declared.kinds.BinOp.{BinOp}
use Rattle.payload_ops.specs.declared.kinds.BinOp.TheVariants.{Addi, Muli, Andi, Ori, Xori, Maxsi, Maxui, Minsi, Minui}
use Rattle.payload_ops.specs.declared.kinds.Combiner.{Combiner}
use Rattle.payload_ops.specs.declared.kinds.Combiner.TheVariants.{Add, Mul, And, Or, Xor, MaxS, MaxU, MinS, MinU}

-- the operation of a combiner
abbrev pub operation_of : Combiner → BinOp
operation_of Add = Addi
operation_of Mul = Muli
operation_of And = Andi
operation_of Or = Ori
operation_of Xor = Xori
operation_of MaxS = Maxsi
operation_of MaxU = Maxui
operation_of MinS = Minsi
operation_of MinU = Minui

-- two values of w bits joined; a combiner's operation never traps
abbrev pub joined : Combiner → ℕ → ℕ → ℕ → ℕ
joined c w a b = option_map_or (λ v. v) (binary_of (operation_of c) w a b) 0
