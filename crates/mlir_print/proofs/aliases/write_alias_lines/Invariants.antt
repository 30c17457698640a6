use Rattle.std.proofs.Common.{◌≡◌, ◌++◌, drop, map}
use Rattle.mlir_print.specs.MapParts.{alias_lines_text}
use Rattle.mlir_print.proofs.aliases.write_alias_lines.Given as goal

abbrev pub invariant-loop-text : goal.invariant-loop-text
invariant-loop-text l = record {
  same : l.number ≡ l.text-index;
  written : l.out.items ++ alias_lines_text l.number (map (λ t. t.items) (drop l.text-index l.texts)) ≡ l.fn.out.items ++ alias_lines_text 0 (map (λ t. t.items) l.texts);
}
