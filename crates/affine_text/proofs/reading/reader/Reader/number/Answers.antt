use Rattle.std.proofs.Common.{◌≡◌, Some, None, Result, Err, sym, ap, subst, ◌∙◌}
use Rattle.affine_maps.specs.declared.map.Expr.{Expr}
use Rattle.affine_text.specs.declared.reading.fault.MapError.{MapError}
use Rattle.affine_text.specs.declared.reading.fault.MapError.TheVariants.{Range}
use Rattle.affine_text.specs.declared.reading.place.Place.TheVariants as places
use Rattle.affine_text.specs.Meaning.{and_then}
use Rattle.affine_text.specs.Reading.{with_factor}
use Rattle.affine_text.specs.Feeding.{Answers, goes_with, number_of}
use Rattle.affine_text.proofs.Digits.{number_read, number_far}
use Rattle.affine_text.proofs.reading.reader.Reader.number.Goals as goal

pub returns-in-Some : goal.returns-in-Some
returns-in-Some c =
    let text : number_of c.args.token.now.text ≡ Some c.in-Some.number = ap number_of (sym c.text.ensures) ∙ sym c.number_of.ensures ∙ c.in-Some.is in
    let form = number_read c.args.token.now.start c.args.token.now.text c.in-Some.number c.of_number.result text c.of_number.ensures in
    let made = subst (λ n. Answers (goes_with places.Operator c.args.self.now (with_factor c.args.self.now.gathered n c.of_number.result)) c.factor-in-Some.result c.factor-in-Some.new.self) c.start.ensures c.factor-in-Some.ensures in
    subst (λ (m : Result Expr MapError). Answers (goes_with places.Operator c.args.self.now (and_then m (with_factor c.args.self.now.gathered c.args.token.now.start))) c.factor-in-Some.result c.factor-in-Some.new.self) (sym form) made

pub returns-in-None : goal.returns-in-None
returns-in-None c =
    let text : number_of c.args.token.now.text ≡ None = ap number_of (sym c.text.ensures) ∙ sym c.number_of.ensures ∙ c.in-None.is in
    let form = number_far c.args.token.now.start c.args.token.now.text text in
    ap (λ (m : Result Expr MapError). goes_with places.Operator c.args.self.now (and_then m (with_factor c.args.self.now.gathered c.args.token.now.start))) form ∙ ap (λ n. Err (Range n)) (sym c.start-in-None.ensures)
