use Rattle.std.proofs.Common.{map, string_bytes}
use Rattle.mlir_opt.proofs.Inputs.{reads_nothing}
use Rattle.mlir_opt.proofs.Runs.{asked_none, words_verdict, run_refused, run_memory}
use Rattle.mlir_opt.specs.Asked.{asked}
use Rattle.mlir_opt.specs.declared.refusal.Refusal.TheVariants.{Words}
use Rattle.mlir_opt.proofs.command.run.Goals as goal

pub returns-in-Err-Words-clause-stated : goal.returns-in-Err-Words-clause-stated
returns-in-Err-Words-clause-stated g c =
    run_refused (Unit {0}) _ (map string_bytes c.args.words.now) _ Words (words_verdict _ _ (asked_none _ _ c.in-Err-Words.field-0-is c.in-Err-Words.ensures))

pub returns-in-Err-Memory-clause-stated : goal.returns-in-Err-Memory-clause-stated
returns-in-Err-Memory-clause-stated g c = run_memory (Unit {0}) _ (map string_bytes c.args.words.now) _

pub returns-in-Err-Words-clause-taken : goal.returns-in-Err-Words-clause-taken
returns-in-Err-Words-clause-taken g c = reads_nothing (asked (map string_bytes c.args.words.now)) (g.S.Shelf.files c.args.shelf.now) (g.S.Shelf.left c.args.shelf.now)

pub returns-in-Err-Memory-clause-taken : goal.returns-in-Err-Memory-clause-taken
returns-in-Err-Memory-clause-taken g c = reads_nothing (asked (map string_bytes c.args.words.now)) (g.S.Shelf.files c.args.shelf.now) (g.S.Shelf.left c.args.shelf.now)
