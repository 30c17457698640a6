use Rattle.std.proofs.Common.{◌≡◌, length, ◌+◌, All}
use Rattle.text_format.specs.Tokens.{tokens_of, tokens_from, IsSpan}
use Rattle.text_format.proofs.Scans.{with_front}
use Rattle.text_format.proofs.span.tokens.Given as goal

abbrev pub invariant-loop-front : goal.invariant-loop-front
invariant-loop-front l = record { place : l.at + length l.rest ≡ length l.text; so_far : with_front l.list.items (tokens_from (length l.rest) l.at l.rest) ≡ tokens_of l.text; spans : All (IsSpan l.text) l.list.items }

abbrev pub decreases-loop-front : goal.decreases-loop-front
decreases-loop-front l = length l.rest
