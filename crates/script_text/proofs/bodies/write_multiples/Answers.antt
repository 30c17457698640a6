use Rattle.std.proofs.Common.{◌≡◌, ◌++◌, ◌∙◌, append_assoc}
use Rattle.std.proofs.lemmas.Result.{on_ok_weaker}
use Rattle.script_text.specs.Texts.{multiples_text}
use Rattle.script_text.proofs.bodies.write_multiples.Goals as goal

pub returns : goal.returns
unfolding multiples_text
returns c = on_ok_weaker c.write_list.result (λ e. e ∙ simp (c.in_ok-extend_from_slice.ensures.items, append_assoc)) c.write_list.ensures
