use Rattle.std.proofs.Common.{rules, ◌≡◌, ◌<◌, ◌^◌, ◌++◌, ◌∷◌, List, ℕ, decimal, sym, ap, ◌∙◌, append_assoc}
use Rattle.text_format.proofs.Numerals.{numeral_is_decimal}
use Rattle.affine_text.proofs.text.write_dimension.Goals as goal

pub returns : goal.returns
returns c =
    let small : c.args.dimension < 2 ^ 64 = search rules in
    let written : c.extend_from_slice-2.new.self.items ≡ c.args.out.now.items ++ 100 ∷ decimal c.args.dimension =
    simp (c.in_ok-extend_from_slice-2.ensures.items, c.as_bytes.ensures.value, c.format.ensures.text, c.in_ok-extend_from_slice.ensures.items, append_assoc) in
    written ∙ ap (λ (t : List ℕ). c.args.out.now.items ++ 100 ∷ t) (sym (numeral_is_decimal c.args.dimension small))
