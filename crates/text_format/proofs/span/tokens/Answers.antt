use Rattle.std.proofs.Common.{◌≡◌, ◌+◌, arith, Some, None}
use Rattle.std.proofs.lemmas.List.{length-drop}
use Rattle.std.proofs.lemmas.List.Elements.{All-push}
use Rattle.text_format.specs.Bytes.{first_front}
use Rattle.text_format.specs.Tokens.{tokens_of, IsSpan}
use Rattle.text_format.specs.declared.front.Front.TheVariants as fronts
use Rattle.text_format.specs.declared.span.Span.{Span}
use Rattle.text_format.proofs.Scans.{skips_at, takes_at, meets_byte_at, meets_unclosed_at, ends_at}
use Rattle.text_format.proofs.Ordered.{tokens_in_order}
use Rattle.text_format.proofs.span.tokens.Goals as goal

pub loop-front-preserved-in-Skip : goal.loop-front-preserved-in-Skip
loop-front-preserved-in-Skip c =
    let w = rw c.in-Skip.is at c.in-Some.ensures.within in
    let e : Some (fronts.Skip c.in-Skip.n) ≡ first_front c.loop-front.rest.now = cc in
    rw c.split_at.ensures.back (record {
      place = omega (arith, c.loop-front.invariant.place, w, length-drop c.in-Skip.n c.loop-front.rest.now);
      so_far = skips_at c.loop-front.rest.now c.loop-front.at c.in-Skip.n c.loop-front.list.items (tokens_of c.args.text.now) e w.0 c.loop-front.invariant.so_far;
      spans = c.loop-front.invariant.spans;
    })

pub loop-front-preserved : goal.loop-front-preserved
loop-front-preserved c =
    let w = rw c.in-Token.is at c.in-Some.ensures.within in
    let e : Some (fronts.Token c.in-Token.kind c.in-Token.n) ≡ first_front c.loop-front.rest.now = cc in
    let t : Span = record { kind = c.in-Token.kind; start = c.loop-front.at; end = c.loop-front.at + c.in-Token.n } in
    let span : IsSpan c.args.text.now t = record { ordered = omega (arith, w); within = omega (arith, c.loop-front.invariant.place, w) } in
    rw (c.split_at-in-Token.ensures.back, c.in_ok-push-in-Token.ensures.items) (record {
      place = omega (arith, c.loop-front.invariant.place, w, length-drop c.in-Token.n c.loop-front.rest.now);
      so_far = takes_at c.loop-front.rest.now c.loop-front.at c.in-Token.kind c.in-Token.n c.loop-front.list.items (tokens_of c.args.text.now) e w.0 c.loop-front.invariant.so_far;
      spans = All-push (IsSpan c.args.text.now) c.loop-front.list.items t c.loop-front.invariant.spans span;
    })

pub returns-in-Byte-clause-exact : goal.returns-in-Byte-clause-exact
returns-in-Byte-clause-exact c =
    let e : Some (fronts.Byte c.in-Byte.n) ≡ first_front c.loop-front.rest.now = cc in
    meets_byte_at c.loop-front.rest.now c.loop-front.at c.in-Byte.n c.loop-front.list.items (tokens_of c.args.text.now) e c.loop-front.invariant.so_far

pub returns-in-Unclosed-clause-exact : goal.returns-in-Unclosed-clause-exact
returns-in-Unclosed-clause-exact c =
    let e : Some fronts.Unclosed ≡ first_front c.loop-front.rest.now = cc in
    meets_unclosed_at c.loop-front.rest.now c.loop-front.at c.loop-front.list.items (tokens_of c.args.text.now) e c.loop-front.invariant.so_far

pub returns-clause-exact : goal.returns-clause-exact
returns-clause-exact c =
    let e : None ≡ first_front c.loop-front.rest.now = cc in
    ends_at c.loop-front.rest.now c.loop-front.at c.loop-front.list.items (tokens_of c.args.text.now) e c.loop-front.invariant.so_far

pub returns-clause-ordered : goal.returns-clause-ordered
returns-clause-ordered c =
    let e : None ≡ first_front c.loop-front.rest.now = cc in
    tokens_in_order c.args.text.now c.loop-front.list.items (ends_at c.loop-front.rest.now c.loop-front.at c.loop-front.list.items (tokens_of c.args.text.now) e c.loop-front.invariant.so_far)
