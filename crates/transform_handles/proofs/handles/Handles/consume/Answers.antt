use Rattle.std.proofs.Common.{◌≡◌, ◌∙◌, ◌++◌, List, ap, map, length, drop, arith}
use Rattle.std.proofs.lemmas.List.{length-map}
use Rattle.transform_handles.specs.Handles.{Row, left}
use Rattle.transform_handles.specs.Targets.{has}
use Rattle.transform_handles.proofs.Listed.{dies_as}
use Rattle.transform_handles.proofs.Rows.{whole}
use Rattle.transform_handles.proofs.handles.Handles.consume.Goals as goal

pub returns-clause-ok : goal.returns-clause-ok
returns-clause-ok c =
    let dies = left (has c.in-Ok.gone) in
    let front = c.as_mut_slice.ensures.value ∙ c.in-Ok-reserve.ensures.items ∙ c.self.view_is in
    let dead = c.kill.ensures ∙ ap (map dies) front ∙ dies_as c.in-Ok.gone c.args.targets.now c.args.m.now.funcs c.args.self.now c.in-Ok.ensures in
    let all : length c.kill.new.rows ≡ c.reserve.new.self.len = omega (arith, ap length c.kill.ensures, length-map c.as_mut_slice.result.now dies, c.as_mut_slice.ensures.len) in
    c.in-Ok-append.ensures.items
    ∙ ap (λ (xs : List Row). xs ++ c.args.rows.items) (whole c.kill.new.rows (drop (length c.kill.new.rows) c.reserve.new.self.items) c.reserve.new.self.len all ∙ dead)
