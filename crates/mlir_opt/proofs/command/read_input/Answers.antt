use Rattle.std.proofs.Common.{inl, inr}
use Rattle.mlir_opt.proofs.Inputs.{taken_from, input_absent, input_failed, input_memory, input_read, input_limit}
use Rattle.mlir_opt.proofs.command.read_input.Goals as goal

pub returns-in-Err-Absent-clause-stated : goal.returns-in-Err-Absent-clause-stated
returns-in-Err-Absent-clause-stated g c = input_absent (Unit {0}) _ _ _ _ c.in-Err-Absent.field-0-is c.in-Err-Absent.ensures.contents

pub returns-in-Err-Failed-clause-stated : goal.returns-in-Err-Failed-clause-stated
returns-in-Err-Failed-clause-stated g c = input_failed _ c.args.name.now

pub returns-in-Err-Memory-clause-stated : goal.returns-in-Err-Memory-clause-stated
returns-in-Err-Memory-clause-stated g c = input_memory _ c.args.name.now

pub returns-in-Ok-read_whole-clause-stated : goal.returns-in-Ok-read_whole-clause-stated
returns-in-Ok-read_whole-clause-stated g c =
    input_read (Unit {0}) _ _ _ _ _ c.in-Ok.ensures.contents c.in-Ok-read_whole.ensures.whole c.in-Ok-read_whole.ensures.within

pub returns-in-Err-Failed-read_whole-clause-stated : goal.returns-in-Err-Failed-read_whole-clause-stated
returns-in-Err-Failed-read_whole-clause-stated g c = input_failed _ c.args.name.now

pub returns-in-Err-Limit-clause-stated : goal.returns-in-Err-Limit-clause-stated
returns-in-Err-Limit-clause-stated g c =
    input_limit (Unit {0}) _ _ _ _ _ c.in-Err-Limit.field-0-is c.in-Ok.ensures.contents c.in-Err-Limit.ensures.whole

pub returns-in-Err-Memory-read_whole-clause-stated : goal.returns-in-Err-Memory-read_whole-clause-stated
returns-in-Err-Memory-read_whole-clause-stated g c = input_memory _ c.args.name.now

pub returns-in-Err-Absent-clause-taken : goal.returns-in-Err-Absent-clause-taken
returns-in-Err-Absent-clause-taken g c = inl c.in-Err-Absent.ensures.refused

pub returns-in-Err-Failed-clause-taken : goal.returns-in-Err-Failed-clause-taken
returns-in-Err-Failed-clause-taken g c = inl c.in-Err-Failed.ensures.refused

pub returns-in-Err-Memory-clause-taken : goal.returns-in-Err-Memory-clause-taken
returns-in-Err-Memory-clause-taken g c = inl c.in-Err-Memory.ensures.refused

pub returns-in-Ok-read_whole-clause-taken : goal.returns-in-Ok-read_whole-clause-taken
returns-in-Ok-read_whole-clause-taken g c = inr (taken_from (Unit {0}) _ _ _ _ _ c.in-Ok.ensures.contents c.in-Ok-read_whole.ensures.taken)

pub returns-in-Err-Failed-read_whole-clause-taken : goal.returns-in-Err-Failed-read_whole-clause-taken
returns-in-Err-Failed-read_whole-clause-taken g c = inr (taken_from (Unit {0}) _ _ _ _ _ c.in-Ok.ensures.contents c.in-Err-Failed-read_whole.ensures.taken)

pub returns-in-Err-Limit-clause-taken : goal.returns-in-Err-Limit-clause-taken
returns-in-Err-Limit-clause-taken g c = inr (taken_from (Unit {0}) _ _ _ _ _ c.in-Ok.ensures.contents c.in-Err-Limit.ensures.taken)

pub returns-in-Err-Memory-read_whole-clause-taken : goal.returns-in-Err-Memory-read_whole-clause-taken
returns-in-Err-Memory-read_whole-clause-taken g c = inr (taken_from (Unit {0}) _ _ _ _ _ c.in-Ok.ensures.contents c.in-Err-Memory-read_whole.ensures.taken)
