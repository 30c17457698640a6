use Rattle.std.proofs.Common.{◌≡◌, ◌≤◌, length, ap, arith}
use Rattle.std.proofs.lemmas.List.{length-map}
use Rattle.text_format.specs.Formats.{State}
use Rattle.text_format.specs.Tokens.{with_text}
use Rattle.script_read.proofs.Fronts.{fewer_left}
use Rattle.script_read.proofs.read.read_front.Goals as goal

pub overflow_sub-result : goal.overflow_sub-result
overflow_sub-result c =
    let h = fewer_left c.new-parser.result c.in-Ok.tree c.read.new.parser c.in-Ok.ensures in
    omega (arith, h, c.left.ensures, ap (λ (s : State). length s.rest) c.new-parser.ensures, length-map c.split_at.result.1.now (with_text c.text.result.now), c.split_at.ensures.back_len)
