-- The names of operations and of predicates (MLIR Arith dialect), and what a name stands for.
use Rattle.std.specs.Prelude.{ℕ, List, [], ◌∷◌, Option, Some, None, if◌then◌else◌, codes}
use Rattle.std.specs.Str.{bytes_eq}
use Rattle.payload_ops.specs.declared.kinds.BinOp.{BinOp}
use Rattle.payload_ops.specs.declared.kinds.BinOp.TheVariants.{Addi, Subi, Muli, Divsi, Divui, Remsi, Remui, Andi, Ori, Xori, Shli, Shrsi, Shrui, Maxsi, Maxui, Minsi, Minui}
use Rattle.payload_ops.specs.declared.kinds.Predicate.{Predicate}
use Rattle.payload_ops.specs.declared.kinds.Predicate.TheVariants.{Eq, Ne, Slt, Sle, Sgt, Sge, Ult, Ule, Ugt, Uge}
use Rattle.mlir_scope.specs.declared.words.Cast.{Cast}
use Rattle.mlir_scope.specs.declared.words.Cast.TheVariants.{SignExtend, ZeroExtend, Truncate}

-- the first with this name
abbrev pub first_named : {A : Type 0} → (A → List ℕ) → List ℕ → List A → Option A
first_named name text [] = None
first_named name text (x ∷ xs) = if bytes_eq (name x) text then Some x else first_named name text xs

abbrev pub binary_text : BinOp → List ℕ
binary_text Addi = codes "arith.addi"
binary_text Subi = codes "arith.subi"
binary_text Muli = codes "arith.muli"
binary_text Divsi = codes "arith.divsi"
binary_text Divui = codes "arith.divui"
binary_text Remsi = codes "arith.remsi"
binary_text Remui = codes "arith.remui"
binary_text Andi = codes "arith.andi"
binary_text Ori = codes "arith.ori"
binary_text Xori = codes "arith.xori"
binary_text Shli = codes "arith.shli"
binary_text Shrsi = codes "arith.shrsi"
binary_text Shrui = codes "arith.shrui"
binary_text Maxsi = codes "arith.maxsi"
binary_text Maxui = codes "arith.maxui"
binary_text Minsi = codes "arith.minsi"
binary_text Minui = codes "arith.minui"

abbrev pub binaries : List BinOp
binaries = Addi ∷ Subi ∷ Muli ∷ Divsi ∷ Divui ∷ Remsi ∷ Remui ∷ Andi ∷ Ori ∷ Xori ∷ Shli ∷ Shrsi ∷ Shrui ∷ Maxsi ∷ Maxui ∷ Minsi ∷ Minui ∷ []

abbrev pub predicate_text : Predicate → List ℕ
predicate_text Eq = codes "eq"
predicate_text Ne = codes "ne"
predicate_text Slt = codes "slt"
predicate_text Sle = codes "sle"
predicate_text Sgt = codes "sgt"
predicate_text Sge = codes "sge"
predicate_text Ult = codes "ult"
predicate_text Ule = codes "ule"
predicate_text Ugt = codes "ugt"
predicate_text Uge = codes "uge"

abbrev pub predicates : List Predicate
predicates = Eq ∷ Ne ∷ Slt ∷ Sle ∷ Sgt ∷ Sge ∷ Ult ∷ Ule ∷ Ugt ∷ Uge ∷ []

abbrev pub cast_text : Cast → List ℕ
cast_text SignExtend = codes "arith.extsi"
cast_text ZeroExtend = codes "arith.extui"
cast_text Truncate = codes "arith.trunci"

abbrev pub casts : List Cast
casts = SignExtend ∷ ZeroExtend ∷ Truncate ∷ []

-- ---- by name

unfoldable pub named_binary : List ℕ → Option BinOp
named_binary text = first_named binary_text text binaries

unfoldable pub named_predicate : List ℕ → Option Predicate
named_predicate text = first_named predicate_text text predicates

unfoldable pub named_cast : List ℕ → Option Cast
named_cast text = first_named cast_text text casts
