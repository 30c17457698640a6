use Rattle.std.proofs.Common.{◌++◌, ◌+◌, List, ℕ, drop, map, ap, sym, ◌∙◌, append_assoc, arith}
use Rattle.mlir_print.specs.MapParts.{alias_line_text, alias_lines_text}
use Rattle.mlir_print.proofs.Texts.{one_line}
use Rattle.mlir_print.proofs.aliases.write_alias_lines.Goals as goal

pub loop-text-preserved : goal.loop-text-preserved
loop-text-preserved c =
    let n = c.loop-text.number in
    let i = c.loop-text.text-index in
    let rest = alias_lines_text (c.loop-text.number + 1) (map (λ t. t.items) (drop (c.loop-text.text-index + 1) c.args.texts.now)) in
    record {
      same = omega arith;
      written =
          ap (λ (x : List ℕ). x ++ alias_lines_text (c.loop-text.number + 1) (map (λ t. t.items) (drop (c.loop-text.text-index + 1) c.args.texts.now))) c.in_ok-write_alias_line.ensures
          ∙ append_assoc c.loop-text.out.items (alias_line_text c.loop-text.number c.as_slice.result.now) (alias_lines_text (c.loop-text.number + 1) (map (λ t. t.items) (drop (c.loop-text.text-index + 1) c.args.texts.now)))
          ∙ ap (λ (t : List ℕ). c.loop-text.out.items ++ (alias_line_text c.loop-text.number t ++ alias_lines_text (c.loop-text.number + 1) (map (λ t. t.items) (drop (c.loop-text.text-index + 1) c.args.texts.now)))) (c.as_slice.ensures.value ∙ ap (λ t. t.items) c.text-item.is)
          ∙ ap (λ (t : List ℕ). c.loop-text.out.items ++ t) (sym (one_line (λ t. t.items) c.loop-text.number c.loop-text.text-index c.args.texts.now c.text-item.result c.loop-text-test.true))
          ∙ c.loop-text.invariant.written;
    }
