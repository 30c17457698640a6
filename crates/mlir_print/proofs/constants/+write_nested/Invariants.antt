use Rattle.std.proofs.Common.{◌≡◌, ◌++◌, ◌-◌, ◌*◌, drop, length, codes}
use Rattle.mlir_scope.specs.Types.{elements}
use Rattle.mlir_print.specs.Constants.{items_words, nested_words, words_text}
use Rattle.mlir_print.proofs.Nested.{before_at}
use Rattle.mlir_print.proofs.constants.+write_nested.Given as goal

abbrev pub decreases-write_nested : goal.decreases-write_nested
decreases-write_nested l = length l.extents.now

abbrev pub invariant-loop-turn : goal.invariant-loop-turn
invariant-loop-turn l =
    (l.out.items ++ (words_text (items_words (nested_words l.width l.inner) (elements l.inner) (before_at l._turn) (l._turn-end - l._turn) l.rest) ++ codes "]") ≡ l.fn.out.items ++ words_text (nested_words l.width l.fn.extents l.fn.cells))
    × (drop ((l._turn-end - l._turn) * elements l.inner) l.rest ≡ drop (elements l.fn.extents) l.fn.cells)
    × (l.before ≡ words_text (before_at l._turn))
