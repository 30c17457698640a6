use Rattle.std.proofs.Common.{inr, map, string_bytes}
use Rattle.mlir_opt.proofs.Again.{reads_again}
use Rattle.mlir_opt.proofs.Told.{some_refused, some_done, answers_told, prefix_refused, prefix_done, exact_refused, some_line}
use Rattle.mlir_opt.proofs.command.mlir_opt.Goals as goal

pub returns-in-Ok-clause-prefix : goal.returns-in-Ok-clause-prefix
returns-in-Ok-clause-prefix g c = prefix_done (Unit {0}) (g.S.Shelf.files c.args.shelf.now) (map string_bytes c.args.words.now) _ _ _ c.in-Ok.ensures.stated

pub returns-in-Ok-clause-some_files : goal.returns-in-Ok-clause-some_files
returns-in-Ok-clause-some_files g c = some_done (Unit {0}) _ _ _ (record { read_faults = (g.S.Shelf.faults c.args.shelf.now, g.S.Shelf.faults c.run.new.shelf); write_faults = (g.O.Sink.faults c.args.out.now, g.O.Sink.faults c.run.new.out); absent_files = (g.S.Shelf.absences c.args.shelf.now, g.S.Shelf.absences c.run.new.shelf) }) _ _ c.in-Ok.ensures.stated

pub returns-in-Err-clause-answer : goal.returns-in-Err-clause-answer
returns-in-Err-clause-answer g c =
    answers_told (g.S.Shelf.files c.args.shelf.now) (map string_bytes c.args.words.now) (record { read_faults = (g.S.Shelf.faults c.args.shelf.now, g.S.Shelf.faults c.run.new.shelf); write_faults = (g.O.Sink.faults c.args.out.now, g.O.Sink.faults c.run.new.out); absent_files = (g.S.Shelf.absences c.args.shelf.now, g.S.Shelf.absences c.run.new.shelf) }) _ _ c.refuse.result (some_refused (Unit {0}) _ _ c.in-Err.refusal (record { read_faults = (g.S.Shelf.faults c.args.shelf.now, g.S.Shelf.faults c.run.new.shelf); write_faults = (g.O.Sink.faults c.args.out.now, g.O.Sink.faults c.run.new.out); absent_files = (g.S.Shelf.absences c.args.shelf.now, g.S.Shelf.absences c.run.new.shelf) }) _ _ _ c.in-Err.ensures.stated c.in-Err.ensures.read_cause c.in-Err.ensures.write_cause c.refuse.ensures.told.ended)

pub returns-in-Err-clause-exact_line : goal.returns-in-Err-clause-exact_line
returns-in-Err-clause-exact_line g c =
    exact_refused (Unit {0}) (g.S.Shelf.files c.args.shelf.now) (map string_bytes c.args.words.now) c.in-Err.refusal (g.O.Sink.written c.args.out.now) (g.O.Sink.written c.run.new.out) _ _ _ _ _ _ c.in-Err.ensures.stated c.in-Err.ensures.read_cause c.in-Err.ensures.write_cause c.refuse.ensures.told

pub returns-in-Err-clause-prefix : goal.returns-in-Err-clause-prefix
returns-in-Err-clause-prefix g c =
    prefix_refused (Unit {0}) (g.S.Shelf.files c.args.shelf.now) (map string_bytes c.args.words.now) c.in-Err.refusal _ _ c.in-Err.ensures.stated

pub returns-in-Err-clause-line : goal.returns-in-Err-clause-line
returns-in-Err-clause-line g c =
    inr (some_line c.in-Err.refusal (map string_bytes c.args.words.now) (g.S.Shelf.files c.args.shelf.now) _ _ _ _ _ c.refuse.result c.in-Err.ensures.cause c.refuse.ensures.told)

pub returns-in-Err-clause-some_files : goal.returns-in-Err-clause-some_files
returns-in-Err-clause-some_files g c =
    some_refused (Unit {0}) (g.S.Shelf.files c.args.shelf.now) (map string_bytes c.args.words.now) c.in-Err.refusal (record { read_faults = (g.S.Shelf.faults c.args.shelf.now, g.S.Shelf.faults c.run.new.shelf); write_faults = (g.O.Sink.faults c.args.out.now, g.O.Sink.faults c.run.new.out); absent_files = (g.S.Shelf.absences c.args.shelf.now, g.S.Shelf.absences c.run.new.shelf) }) _ _ c.refuse.result c.in-Err.ensures.stated c.in-Err.ensures.read_cause c.in-Err.ensures.write_cause c.refuse.ensures.told.ended

pub returns-in-Ok-clause-again : goal.returns-in-Ok-clause-again
returns-in-Ok-clause-again g c = λ files e. reads_again (map string_bytes c.args.words.now) files e

pub returns-in-Err-clause-again : goal.returns-in-Err-clause-again
returns-in-Err-clause-again g c = λ files e. reads_again (map string_bytes c.args.words.now) files e
