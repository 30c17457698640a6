use Rattle.std.proofs.Common.{◌≡◌, ◌++◌, ◌+◌, suc, ℕ, ap, ◌∙◌, arith, append_assoc}
use Rattle.script_text.specs.Texts.{new_line, closing_text}
use Rattle.script_text.proofs.text.write_closing.Goals as goal

pub returns : goal.returns
unfolding closing_text
returns c =
    let e : c.args.depth + 1 ≡ suc c.args.depth = omega arith in
    simp (c.in_ok-extend_from_slice-2.ensures.items, c.in_ok-write_new_line-2.ensures, c.in_ok-extend_from_slice.ensures.items, c.in_ok-write_new_line.ensures, ap new_line e, append_assoc)
