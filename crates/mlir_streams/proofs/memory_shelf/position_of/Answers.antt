use Rattle.std.proofs.Common.{◌≡◌, ◌∙◌, ◌<◌, length, true, get_or, arith, rules}
use Rattle.std.specs.Prelude.{bytes_eq}
use Rattle.mlir_streams.proofs.Named.{contents_at}
use Rattle.mlir_streams.proofs.memory_shelf.position_of.Goals as goal

pub returns-then-eq : goal.returns-then-eq
returns-then-eq c =
    let file = c.index-files-index.result in
    let hit : bytes_eq (get_or c.args.files.now c.loop-index.index file).0 c.args.name.now ≡ true = rw (← c.index-files-index.is) (search rules) in
    let within : c.loop-index.index < length c.args.files.now = omega arith in
    c.loop-index.invariant ∙ contents_at c.args.files.now c.loop-index.index c.args.name.now file within hit
