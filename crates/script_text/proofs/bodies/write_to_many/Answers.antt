use Rattle.std.proofs.Common.{◌≡◌, ◌++◌, append_assoc}
use Rattle.script_text.specs.Texts.{to_many_text}
use Rattle.script_text.proofs.bodies.write_to_many.Goals as goal

pub returns : goal.returns
unfolding to_many_text
returns c = simp (c.in_ok-extend_from_slice-2.ensures.items, c.in_ok-write_repeated.ensures, c.in_ok-extend_from_slice.ensures.items, append_assoc)
