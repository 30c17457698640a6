use Rattle.std.proofs.Common.{sym, ap, ◌∙◌}
use Rattle.mlir_scope.specs.Maps.{has_symbols}
use Rattle.mlir_scope.proofs.MapSymbols.{symbols_told}
use Rattle.mlir_scope.proofs.maps.has_symbols.Goals as goal

pub returns-clause-told : goal.returns-clause-told
returns-clause-told c = λ x e. c.opens_symbols.ensures ∙ ap has_symbols (sym e) ∙ symbols_told x
