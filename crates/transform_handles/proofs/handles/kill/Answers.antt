use Rattle.std.proofs.Common.{arith}
use Rattle.transform_handles.specs.Handles.{left}
use Rattle.transform_handles.specs.Targets.{has}
use Rattle.transform_handles.proofs.Rows.{row_dies}
use Rattle.transform_handles.proofs.handles.kill.Goals as goal

pub loop-row-preserved : goal.loop-row-preserved
loop-row-preserved c =
    row_dies (left (has c.args.gone.now)) c.args.rows.now c.loop-row.rows c.loop-row.row-index c.kill_row.new.row c.row-item.result
    (omega (arith, c.loop-row-test.true, c.loop-row.auto.rows)) c.kill_row.ensures c.loop-row.invariant
