use Rattle.std.proofs.Common.{rules, ◌≡◌, ◌<◌, ◌^◌, ◌++◌, List, ℕ, decimal, sym, ap, ◌∙◌}
use Rattle.text_format.proofs.Numerals.{numeral_is_decimal}
use Rattle.form_table.proofs.write.write_digits.Goals as goal

pub returns : goal.returns
returns c =
    let small : c.args.number < 2 ^ 64 = search rules in
    let written : c.extend_from_slice.new.self.items ≡ c.args.out.now.items ++ decimal c.args.number = simp (c.in_ok-extend_from_slice.ensures.items, c.as_bytes.ensures.value, c.format.ensures.text) in
    written ∙ ap (λ (t : List ℕ). c.args.out.now.items ++ t) (sym (numeral_is_decimal c.args.number small))
