use Rattle.std.proofs.Common.{◌≡◌, ◌≤◌, Some, sym, length, get_or, arith, subst}
use Rattle.mlir_words.specs.Request.{number_of}
use Rattle.mlir_words.proofs.Numerals.{number_in_range, number_read, number_unread}
use Rattle.mlir_words.proofs.values.number_in.Goals as goal
use Rattle.mlir_words.proofs.values.number_in.Goals.{Then-number-le64}

value : (c : Then-number-le64) → Some c.in-Ok.number ≡ number_of c.args.text.now
value c =
    let low : 49 ≤ get_or c.as_bytes.result.now 0 0 = omega arith in
    let some : 1 ≤ length c.as_bytes.result.now = omega arith in
    let read = c.in-Ok.ensures.value in
    number_read c.args.text.now c.in-Ok.number (subst (λ bs. 1 ≤ length bs) c.as_bytes.ensures.value some) (subst (λ bs. 49 ≤ get_or bs 0 0) c.as_bytes.ensures.value low)
    read.0.0.0.1 read.0.1 c.if-number-le64.true

pub returns-then-number-le64-clause-value : goal.returns-then-number-le64-clause-value
returns-then-number-le64-clause-value c = value c

pub returns-then-number-le64-clause-range : goal.returns-then-number-le64-clause-range
returns-then-number-le64-clause-range c = number_in_range c.args.text.now c.in-Ok.number (sym (value c))

pub returns-in_default-parse-clause-value : goal.returns-in_default-parse-clause-value
returns-in_default-parse-clause-value c =
    let low : 49 ≤ get_or c.as_bytes.result.now 0 0 = omega arith in
    let some : 1 ≤ length c.as_bytes.result.now = omega arith in
    number_unread c.args.text.now (subst (λ bs. 1 ≤ length bs) c.as_bytes.ensures.value some) (subst (λ bs. 49 ≤ get_or bs 0 0) c.as_bytes.ensures.value low)
    c.in_default-parse.ensures.value.0
