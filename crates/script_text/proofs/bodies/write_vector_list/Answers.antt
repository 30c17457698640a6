use Rattle.std.proofs.Common.{◌≡◌, ◌++◌, ◌∙◌, append_assoc}
use Rattle.std.proofs.lemmas.Result.{on_ok_weaker}
use Rattle.script_text.specs.Texts.{vector_list_text}
use Rattle.script_text.proofs.bodies.write_vector_list.Goals as goal

pub returns : goal.returns
unfolding vector_list_text
returns c = on_ok_weaker c.write_list.result (λ e. e ∙ simp (c.in_ok-extend_from_slice.ensures.items, append_assoc)) c.write_list.ensures
