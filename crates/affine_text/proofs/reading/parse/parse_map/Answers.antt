use Rattle.std.proofs.Common.{◌≡◌, ◌+◌, ℕ, true, take, List, Some, None, sym, ap, subst, ◌∙◌}
use Rattle.text_format.specs.declared.front.Front.TheVariants as fronts
use Rattle.text_format.specs.Bytes.{first_front}
use Rattle.affine_maps.specs.Shape.{MapShape}
use Rattle.affine_text.specs.Faults.{stream_of, IsMapText}
use Rattle.affine_text.specs.Feeding.{ReaderShape, read_with, map_read}
use Rattle.affine_text.proofs.Parsing.{Standing, stands_first, stands_behind, stands_on, stands_whole, read_is_map, unwrapped, stands_err, stands_byte, stands_unclosed, stands_end}
use Rattle.affine_text.proofs.reading.parse.parse_map.Goals as goal

pub loop-front-init : goal.loop-front-init
loop-front-init c = subst (λ (r : ReaderShape). Standing c.args.text.now r 0 c.args.text.now) (sym c.new-reader.ensures) (stands_first c.args.text.now)

pub loop-front-preserved-in-Skip : goal.loop-front-preserved-in-Skip
loop-front-preserved-in-Skip c =
    let w = rw c.in-Skip.is at c.in-Some.ensures.within in
    let e : Some (fronts.Skip c.in-Skip.n) ≡ first_front c.loop-front.rest.now = cc in
    rw c.split_at.ensures.back (stands_behind c.args.text.now c.loop-front.reader c.loop-front.at c.loop-front.rest.now c.in-Skip.n e w.0 w.1 c.loop-front.invariant)

pub returns-in-Err : goal.returns-in-Err
returns-in-Err c =
    let w = rw c.in-Token.is at c.in-Some.ensures.within in
    let e : Some (fronts.Token c.in-Token.kind c.in-Token.n) ≡ first_front c.loop-front.rest.now = cc in
    let same : c.new.result ≡ record { kind = c.in-Token.kind; start = c.loop-front.at; text = take c.in-Token.n c.loop-front.rest.now } = c.new.ensures ∙ ap (λ (ts : List ℕ). record { kind = c.in-Token.kind; start = c.loop-front.at; text = ts }) c.split_at-in-Token.ensures.front in
    stands_err (Unit {0}) c.args.text.now c.loop-front.reader c.feed.new.self c.loop-front.at c.loop-front.rest.now c.in-Token.kind c.in-Token.n c.new.result c.in-Err.e e w.0 c.loop-front.invariant same c.in-Err.ensures

pub unwrap-requires : goal.unwrap-requires
unwrap-requires c =
    let w = rw c.in-Token.is at c.in-Some.ensures.within in
    let e : Some (fronts.Token c.in-Token.kind c.in-Token.n) ≡ first_front c.loop-front.rest.now = cc in
    let same : c.new.result ≡ record { kind = c.in-Token.kind; start = c.loop-front.at; text = take c.in-Token.n c.loop-front.rest.now } = c.new.ensures ∙ ap (λ (ts : List ℕ). record { kind = c.in-Token.kind; start = c.loop-front.at; text = ts }) c.split_at-in-Token.ensures.front in
    let fed = ap (read_with c.loop-front.reader) (sym same) ∙ c.in-Ok.ensures in
    let whole = sym c.is_whole.ensures ∙ c.if-is_whole.true in
    c.into_map.ensures.valid.1 (read_is_map c.args.text.now c.feed.new.self (c.loop-front.at + c.in-Token.n)
    (stands_whole c.args.text.now c.loop-front.reader c.feed.new.self c.loop-front.at c.loop-front.rest.now c.in-Token.kind c.in-Token.n e w.0 w.1 c.loop-front.invariant fed whole))

pub returns-then-is_whole : goal.returns-then-is_whole
returns-then-is_whole c =
    let w = rw c.in-Token.is at c.in-Some.ensures.within in
    let e : Some (fronts.Token c.in-Token.kind c.in-Token.n) ≡ first_front c.loop-front.rest.now = cc in
    let same : c.new.result ≡ record { kind = c.in-Token.kind; start = c.loop-front.at; text = take c.in-Token.n c.loop-front.rest.now } = c.new.ensures ∙ ap (λ (ts : List ℕ). record { kind = c.in-Token.kind; start = c.loop-front.at; text = ts }) c.split_at-in-Token.ensures.front in
    let fed = ap (read_with c.loop-front.reader) (sym same) ∙ c.in-Ok.ensures in
    let whole = sym c.is_whole.ensures ∙ c.if-is_whole.true in
    subst (λ (m : MapShape). IsMapText true (stream_of c.args.text.now) m (c.loop-front.at + c.in-Token.n)) (sym (unwrapped c.into_map.result c.unwrap.result (map_read c.feed.new.self) c.unwrap.ensures c.into_map.ensures.value))
    (stands_whole c.args.text.now c.loop-front.reader c.feed.new.self c.loop-front.at c.loop-front.rest.now c.in-Token.kind c.in-Token.n e w.0 w.1 c.loop-front.invariant fed whole)

pub loop-front-preserved : goal.loop-front-preserved
loop-front-preserved c =
    let w = rw c.in-Token.is at c.in-Some.ensures.within in
    let e : Some (fronts.Token c.in-Token.kind c.in-Token.n) ≡ first_front c.loop-front.rest.now = cc in
    let same : c.new.result ≡ record { kind = c.in-Token.kind; start = c.loop-front.at; text = take c.in-Token.n c.loop-front.rest.now } = c.new.ensures ∙ ap (λ (ts : List ℕ). record { kind = c.in-Token.kind; start = c.loop-front.at; text = ts }) c.split_at-in-Token.ensures.front in
    let fed = ap (read_with c.loop-front.reader) (sym same) ∙ c.in-Ok.ensures in
    let whole = sym c.is_whole.ensures ∙ c.if-is_whole.false in
    rw c.split_at-in-Token.ensures.back (stands_on c.args.text.now c.loop-front.reader c.feed.new.self c.loop-front.at c.loop-front.rest.now c.in-Token.kind c.in-Token.n e w.0 w.1 c.loop-front.invariant fed whole)

pub returns-in-Byte : goal.returns-in-Byte
returns-in-Byte c =
    let e : Some (fronts.Byte c.in-Byte.n) ≡ first_front c.loop-front.rest.now = cc in
    stands_byte c.args.text.now c.loop-front.reader c.loop-front.at c.loop-front.rest.now c.in-Byte.n e c.loop-front.invariant

pub returns-in-Unclosed : goal.returns-in-Unclosed
returns-in-Unclosed c =
    let e : Some fronts.Unclosed ≡ first_front c.loop-front.rest.now = cc in
    stands_unclosed c.args.text.now c.loop-front.reader c.loop-front.at c.loop-front.rest.now e c.loop-front.invariant

pub returns : goal.returns
returns c =
    let e : None ≡ first_front c.loop-front.rest.now = cc in
    stands_end c.args.text.now c.loop-front.reader c.loop-front.at c.loop-front.rest.now e c.loop-front.invariant
