use Rattle.std.proofs.Common.{Ok, sym, ap, ◌∙◌}
use Rattle.affine_text.specs.Feeding.{first_reader, map_read}
use Rattle.affine_text.specs.OfTokens.{read_all, last_start}
use Rattle.affine_text.proofs.Lists.{none_left, last_left, err_given, whole_is_map, whole_given, end_given}
use Rattle.affine_text.proofs.Parsing.{unwrapped}
use Rattle.affine_text.proofs.reading.parse.map_of.Goals as goal

pub returns-in-Err-clause-exact : goal.returns-in-Err-clause-exact
returns-in-Err-clause-exact c =
    err_given (Unit {0}) c.args.symbols c.args.tokens.now c.loop-token.token-index c.loop-token.reader c.feed.new.self c.token-item.result c.in-Err.e c.loop-token-test.true c.token-item.is c.loop-token.invariant.read c.in-Err.ensures

pub unwrap-requires : goal.unwrap-requires
unwrap-requires c =
    let read = none_left c.args.tokens.now c.loop-token.token-index c.loop-token.reader (read_all c.args.tokens.now (first_reader c.args.symbols)) c.loop-token-test.false c.loop-token.invariant.read in
    c.into_map.ensures.valid.1 (whole_is_map c.args.symbols c.args.tokens.now c.loop-token.reader read (sym c.is_whole.ensures ∙ c.if-is_whole.true))

pub returns-then-is_whole-clause-exact : goal.returns-then-is_whole-clause-exact
returns-then-is_whole-clause-exact c =
    let read = none_left c.args.tokens.now c.loop-token.token-index c.loop-token.reader (read_all c.args.tokens.now (first_reader c.args.symbols)) c.loop-token-test.false c.loop-token.invariant.read in
    whole_given c.args.symbols c.args.tokens.now c.loop-token.reader read (sym c.is_whole.ensures ∙ c.if-is_whole.true)
    ∙ ap Ok (sym (unwrapped c.into_map.result c.unwrap.result (map_read c.loop-token.reader) c.unwrap.ensures c.into_map.ensures.value))

pub returns-else-is_whole-clause-exact : goal.returns-else-is_whole-clause-exact
returns-else-is_whole-clause-exact c =
    let read = none_left c.args.tokens.now c.loop-token.token-index c.loop-token.reader (read_all c.args.tokens.now (first_reader c.args.symbols)) c.loop-token-test.false c.loop-token.invariant.read in
    let last = last_left c.args.tokens.now c.loop-token.token-index c.loop-token.last (last_start c.args.tokens.now 0) c.loop-token-test.false c.loop-token.invariant.last in
    end_given c.args.symbols c.args.tokens.now c.loop-token.reader c.loop-token.last read last (sym c.is_whole.ensures ∙ c.if-is_whole.false)
