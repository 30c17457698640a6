use Rattle.std.proofs.Common.{◌≢◌, rules, map, string_bytes}
use Rattle.clap.specs.Words.{app_of, found_of, kind_of, rows_of}
use Rattle.clap.specs.declared.error.kind.ErrorKind.TheVariants as kind
use Rattle.mlir_words.specs.App.{options_given}
use Rattle.mlir_words.proofs.Account.{asked_ok, asked_none}
use Rattle.mlir_words.proofs.Texts.{all_text}
use Rattle.mlir_words.proofs.given.given_in.Goals as goal

pub returns-in-Ok-try_get_matches_from : goal.returns-in-Ok-try_get_matches_from
returns-in-Ok-try_get_matches_from c =
    let parse = c.in-Ok-try_get_matches_from in
    asked_ok (app_of c.in-Ok.command) (map string_bytes c.args.words.now) (rows_of (found_of parse.matches)) (options_given c.given_by.result)
    (all_text c.args.words.now) c.in-Ok.ensures parse.ensures.kinds (λ simple. (parse.ensures.matches simple).0) c.given_by.ensures

pub returns : goal.returns
returns c =
    let other : kind_of c.in-Err.error ≢ kind.OutOfMemory = search rules in
    asked_none (app_of c.in-Ok.command) (map string_bytes c.args.words.now) c.in-Err.error (all_text c.args.words.now) c.in-Ok.ensures c.in-Err.ensures.kinds other
