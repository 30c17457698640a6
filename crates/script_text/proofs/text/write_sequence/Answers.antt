use Rattle.std.proofs.Common.{◌≡◌, ◌++◌, ◌+◌, suc, ℕ, ap, ◌∙◌, arith, append_assoc}
use Rattle.std.proofs.lemmas.Result.{on_ok_weaker}
use Rattle.script_text.specs.Texts.{steps_text, sequence_text}
use Rattle.script_text.proofs.text.write_sequence.Goals as goal

pub returns : goal.returns
returns c =
    let e : c.args.depth + 1 ≡ suc c.args.depth = omega arith in
    on_ok_weaker c.write_closing.result
    (λ k. k ∙ simp (c.in_ok-write_steps.ensures, c.as_slice.ensures, c.in_ok-write_opening.ensures, c.in_ok-rows.ensures, e, append_assoc))
    c.write_closing.ensures
