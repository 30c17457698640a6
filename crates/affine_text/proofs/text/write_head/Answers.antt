use Rattle.std.proofs.Common.{append_assoc}
use Rattle.affine_text.specs.Text.{head_text}
use Rattle.affine_text.proofs.text.write_head.Goals as goal

pub returns : goal.returns
unfolding head_text
returns c =
    simp (c.in_ok-extend_from_slice-2.ensures.items, c.in_ok-write_dimensions.ensures, c.in_ok-extend_from_slice.ensures.items, append_assoc)
