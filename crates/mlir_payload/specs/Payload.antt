-- Payloads of linalg.generic (MLIR Linalg dialect, "linalg.generic": the block has an argument for each operand and yields the output's element).
use Rattle.std.specs.Prelude.{ℕ, suc, List, [], ◌∷◌, ◌++◌, Result, Ok, Err, Option, Some, None, if◌then◌else◌, nat_lt}
use Rattle.mlir_base.specs.declared.types.ElemTy.{ElemTy}
use Rattle.payload_ops.specs.declared.step.Arg.{Arg}
use Rattle.payload_ops.specs.declared.step.Arg.TheVariants as args
use Rattle.payload_ops.specs.declared.step.PayloadStep.{PayloadStep}
use Rattle.payload_ops.specs.Shape.{PayloadShape}
use Rattle.text_format.specs.Token.{TokenShape}
use Rattle.mlir_syntax.specs.declared.tree.payloads.NextArg.{NextArg}
use Rattle.mlir_syntax.specs.declared.tree.payloads.BlockArgs.{BlockArgs}
use Rattle.mlir_syntax.specs.declared.tree.payloads.Region.{Region}
use Rattle.mlir_payload.specs.declared.inside.Inside.{Inside}
use Rattle.mlir_scope.specs.declared.names.Meaning.TheVariants.{Local}
use Rattle.mlir_lex.specs.declared.fault.Fault.{Fault}
use Rattle.mlir_lex.specs.declared.fault.Fault.TheVariants.{Syntax}
use Rattle.mlir_lex.specs.Chain.{and_then}
use Rattle.mlir_scope.specs.Names.{Entry, entry}
use Rattle.mlir_scope.specs.Maps.{AliasShape}
use Rattle.mlir_scope.specs.Types.{same_elem}
use Rattle.mlir_payload.specs.Steps.{fresh_in, argument, steps_of}

-- what the block's arguments stand for: the inputs from this number on, and the output
abbrev pub locals_of : ℕ → List ElemTy → ElemTy → List (Arg × ElemTy)
locals_of k [] out = (args.Out, out) ∷ []
locals_of k (e ∷ es) out = (args.Input k, e) ∷ locals_of (suc k) es out

-- an argument of the block, with its operand's element type
abbrev pub arg_of : List Entry → List Entry → Arg × ElemTy → TokenShape → TokenShape → Result (List Entry) Fault
arg_of outer names m name ty = and_then (fresh_in outer names name) (λ _. and_then (same_elem m.1 ty) (λ _. Ok (names ++ entry name.text (Local m.0 m.1) ∷ [])))

-- the arguments behind the first, one for each operand; `close` ends them
abbrev pub more_args : TokenShape → List Entry → List Entry → List (Arg × ElemTy) → List NextArg → Result (List Entry) Fault
more_args close outer names [] [] = Ok names
more_args close outer names [] (b ∷ bs) = Err (Syntax b.comma.start)
more_args close outer names (m ∷ ms) [] = Err (Syntax close.start)
more_args close outer names (m ∷ ms) (b ∷ bs) = and_then (arg_of outer names m b.name b.ty) (λ inner. more_args close outer inner ms bs)

abbrev pub block_args : List Entry → List Entry → List (Arg × ElemTy) → BlockArgs → Result (List Entry) Fault
block_args outer names [] b = Ok names
block_args outer names (m ∷ ms) b = and_then (arg_of outer names m b.first.name b.first.ty) (λ inner. more_args b.close outer inner ms b.more)

-- what is yielded has the output's element type
abbrev pub yield_of : List Entry → ElemTy → Inside → Region → Result (List PayloadStep × Arg) Fault
yield_of outer out s r =
    and_then (argument outer 0 s r.yielded) (λ y. and_then (same_elem y.1.1 r.yield_type) (λ _. and_then (same_elem out r.yield_type) (λ _. Ok (y.0.steps, y.1.0))))

-- where reading stopped, if it did so before the yield: tokens that are missing stand at one place
abbrev pub stop_before_yield : Region → Option ℕ
stop_before_yield r = if nat_lt r.yield_name.start r.yielded.start then None else Some r.yield_name.start

-- the steps, and what is yielded
abbrev pub parts_of : List AliasShape → List Entry → List ElemTy → ElemTy → Region → Result (List PayloadStep × Arg) Fault
parts_of aliases outer ins out r =
    and_then (block_args outer [] (locals_of 0 ins out) r.args) (λ names.
    and_then (steps_of aliases outer (stop_before_yield r) (record { names = names; steps = [] }) r.steps) (λ s. yield_of outer out s r))

-- a payload over inputs and an output of these element types
abbrev pub payload_of : List AliasShape → List Entry → List ElemTy → ElemTy → Region → Result PayloadShape Fault
payload_of aliases outer ins out r = and_then (parts_of aliases outer ins out r) (λ p. Ok (record { ins = ins; out = out; steps = p.0; yielded = p.1 }))
