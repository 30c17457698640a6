use Rattle.std.proofs.Common.{ℤ, pos, w64, sym, ◌∙◌, ◌<◌, get_or, take, length}
use Rattle.std.proofs.lemmas.Int.{to_z-of_z}
use Rattle.payload_ops.proofs.LinearLemmas.{terms-more, terms-all, list_all-here, list_all-more, coefficient-word}
use Rattle.payload_ops.proofs.Words.{cast-reduced, reduce-add}
use Rattle.payload_ops.specs.Evaluation.{given_of}
use Rattle.payload_ops.specs.Payload.{arg_type, term_fits}
use Rattle.payload_ops.specs.declared.step.Arg.{Arg}
use Rattle.payload_ops.specs.declared.step.Arg.TheVariants.{Input}
use Rattle.payload_ops.specs.Values.{arg_value, terms_sum}
use Rattle.payload_ops.proofs.evaluation.Arguments.linear.Goals as goal

pub loop-term-init : goal.loop-term-init
loop-term-init c =
    let constant = to_z-of_z w64 c.args.constant c.ranges.constant in
    let start = c.cast_unsigned-sum.ensures ∙ rw constant (cast-reduced c.args.constant c.ranges.constant) in
    record {
      total = rw (constant, start) (sym (reduce-add 64 c.args.constant (terms_sum (arg_value (given_of c.args.self.now) c.args.done.now) c.args.terms.now)));
      small = c.cast_unsigned-sum.type_inv;
      fits = c.requires.fits;
    }

pub loop-term-preserved : goal.loop-term-preserved
loop-term-preserved c =
    let none : Arg × ℤ = (Input 0, pos 0) in
    let value = arg_value (given_of c.args.self.now) c.args.done.now in
    let at = arg_type c.args.self.now.payload.now.ins c.args.self.now.payload.now.out (take (length c.args.done.now) c.args.self.now.payload.now.steps) in
    let terms = c.args.terms.now in
    let i = c.loop-term.term-index in
    let more : i < length terms = c.loop-term-test.true in
    let word = coefficient-word at (get_or terms i none) (list_all-here (term_fits at) terms i none more c.loop-term.invariant.fits) in
    let added = rw (to_z-of_z w64 (get_or terms i none).1 word) at c.plus_scaled-sum.ensures in
    record {
      total = c.loop-term.invariant.total ∙ terms-more value terms i none c.loop-term.sum c.plus_scaled-sum.result c.value_of.result more c.value_of.ensures.value added;
      small = c.plus_scaled-sum.type_inv;
      fits = list_all-more (term_fits at) terms i none more c.loop-term.invariant.fits;
    }

pub returns : goal.returns
returns c =
    let value = arg_value (given_of c.args.self.now) c.args.done.now in
    let total = rw (to_z-of_z w64 c.args.constant c.ranges.constant) at c.loop-term.invariant.total in
    terms-all value c.args.terms.now c.loop-term.term-index c.loop-term.sum _ c.loop-term-test.false c.loop-term.invariant.small total
