use Rattle.std.proofs.Common.{◌<◌, ◌++◌, take, arith, ◌∙◌}
use Rattle.std.proofs.lemmas.Grind.{common_steps}
use Rattle.std.proofs.KnownBytes.{Appends-trans}
use Rattle.mlir_streams.proofs.Parts.{part_of_more, part_of_kept, whole_after, no_fault_of_some}
use Rattle.mlir_streams.proofs.writing.write_whole.Goals as goal

pub returns-in-Err-clause-bytes : goal.returns-in-Err-clause-bytes
returns-in-Err-clause-bytes g c =
    let so_far = c.loop-rest.invariant.so_far in
    part_of_kept _ _ _ _ so_far.0 _ so_far.1 so_far.2 c.in-Err.ensures.bytes

pub returns-then-taken-eq0-clause-bytes : goal.returns-then-taken-eq0-clause-bytes
returns-then-taken-eq0-clause-bytes g c =
    let so_far = c.loop-rest.invariant.so_far in
    part_of_more _ _ _ _ so_far.0 _ c.in-Ok.taken so_far.1 so_far.2 c.in-Ok.ensures.bytes

pub loop-rest-preserved : goal.loop-rest-preserved
loop-rest-preserved g c =
    let so_far = c.loop-rest.invariant.so_far in
    let some : 0 < c.in-Ok.taken = omega arith in
    let split = whole_after _ so_far.0 _ c.in-Ok.taken so_far.1 in
    record {
      so_far = (so_far.0 ++ take c.in-Ok.taken c.loop-rest.rest.now, grind (arith, common_steps, split), Appends-trans _ _ _ so_far.0 _ so_far.2 c.in-Ok.ensures.bytes);
      no_fault = no_fault_of_some _ _ _ c.in-Ok.taken c.in-Ok.ensures.cause some ∙ c.loop-rest.invariant.no_fault;
    }
