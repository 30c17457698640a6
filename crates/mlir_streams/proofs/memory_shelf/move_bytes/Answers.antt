use Rattle.std.proofs.Common.{◌≡◌, ◌∙◌, ◌-◌, ◌≤◌, ◌++◌, length, take, drop, arith, sym, ap}
use Rattle.std.proofs.lemmas.Grind.{common_steps}
use Rattle.std.proofs.lemmas.List.{drop-drop, take-append-drop}
use Rattle.mlir_streams.proofs.memory_shelf.move_bytes.Goals as goal

pub returns-clause-bytes : goal.returns-clause-bytes
returns-clause-bytes c =
    let n = c.min-count.result in
    let rest = drop c.args.at c.args.text.now in
    let fits : n ≤ length c.args.text.now - c.args.at = grind (arith, common_steps, c.min.ensures, c.min-count.ensures) in
    let copied : c.copy_from_slice.new.self ≡ take n rest = grind (arith, common_steps, c.copy_from_slice.ensures.after, fits) in
    let size : length c.copy_from_slice.new.self ≡ n = ap length copied ∙ grind (arith, common_steps, fits) in
    let front : take n (c.copy_from_slice.new.self ++ drop n c.args.buf.now) ≡ take n rest = grind (arith, common_steps, copied, size) in
    rw (front, ← drop-drop n c.args.at c.args.text.now) (sym (take-append-drop n rest))
