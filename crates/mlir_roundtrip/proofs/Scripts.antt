-- What stands behind the functions of a module's canonical text: spelled, of its classes, and well spaced.
use Rattle.std.proofs.Common.{[], ◌∷◌, ◌++◌, Option, Some, None, refl, codes}
use Rattle.text_format.specs.declared.class.Class.TheVariants as classes
use Rattle.text_format.specs.declared.class.Position.TheVariants as places
use Rattle.text_format.specs.declared.lexeme.Lexeme.TheVariants as lexemes
use Rattle.text_format.specs.Pieces.{Gap, Fixed}
use Rattle.text_format.specs.Writers.{made}
use Rattle.text_format.proofs.Written.{IsWritten, put-w, lay-w, gap-w, sp-w, pair-w, made-w, before-w, LeavesFit, both_fit}
use Rattle.text_format.proofs.Spacing.{IsApart, Opens, none_apart, space, line, line_opens, space_opens, fixed_closed, fixed_word, fixed_opens, leaf_name, lexeme_name, append_apart}
use Rattle.mlir_syntax.specs.Files as grammar
use Rattle.script_read.specs.declared.script.Script.{Script}
use Rattle.script_text.specs.Canonical.{sequence_at}
use Rattle.script_roundtrip.specs.Printable.{IsPrintable}
use Rattle.script_roundtrip.proofs.Spelled.{sequence_spelled}
use Rattle.script_roundtrip.proofs.Fitting.{sequence_fits}
use Rattle.script_roundtrip.proofs.Spaced.{sequence_apart}
use Rattle.mlir_print.specs.Canonical.{script_module_at, closing_at, rest_at}
use Rattle.mlir_roundtrip.specs.Printable.{IsPrintableScript}
use Rattle.mlir_roundtrip.proofs.Placing.{line_two, line_four, two_opens}

-- ---- spelled

script_module-w : (s : Script) → IsPrintable s → IsWritten grammar.script_module (script_module_at s)
unfolding grammar.script_module
script_module-w s p = made-w _ _ (λ _. refl) (pair-w (put-w _ _ _) (sp-w (lay-w lexemes.Attributes (sp-w (lay-w lexemes.OpenBrace (lay-w lexemes.WithNamedSequence (lay-w lexemes.CloseBrace (sp-w (lay-w lexemes.OpenBrace
    (gap-w (codes "\n    ") (before-w lexemes.CloseBrace (Gap (codes "\n  ") ∷ Fixed lexemes.CloseBrace ∷ []) (λ at. refl) (sequence_spelled 2 s p))))))))))))

functions_end-w : IsWritten grammar.functions_end (made (λ t. record { functions = []; close = t }) closing_at)
unfolding grammar.functions_end
functions_end-w = record { law = λ at. refl }

-- the text of a script's own module and of the brace behind it
pub rest-w : (script : Option Script) → IsPrintableScript script → IsWritten grammar.module_rest (rest_at script)
unfolding grammar.module_rest
rest-w None p = record { law = λ at. refl }
rest-w (Some s) p = let w = pair-w (gap-w (codes "\n  ") (script_module-w s p)) functions_end-w in record { law = λ at. w.law at }

-- ---- of their classes

pub rest_fits : (script : Option Script) → IsPrintableScript script → LeavesFit (rest_at script).pieces
rest_fits None p = (refl, tt)
rest_fits (Some s) p = (refl, both_fit ((sequence_at 2 s).pieces ++ (Gap (codes "\n  ") ∷ Fixed lexemes.CloseBrace ∷ [])) closing_at.pieces (both_fit (sequence_at 2 s).pieces (Gap (codes "\n  ") ∷ Fixed lexemes.CloseBrace ∷ []) (sequence_fits 2 s p) tt) (refl, tt))

-- ---- well spaced

pub rest_opens : (script : Option Script) → Opens (rest_at script).pieces
rest_opens None = line_opens
rest_opens (Some s) = two_opens

close_apart : IsApart closing_at.pieces
close_apart = line (leaf_name (classes.Name places.Item lexemes.CloseBrace) (lexeme_name lexemes.CloseBrace refl) line_opens (line none_apart))

script_apart : (s : Script) → IsPrintable s → IsApart (((sequence_at 2 s).pieces ++ (Gap (codes "\n  ") ∷ Fixed lexemes.CloseBrace ∷ [])) ++ closing_at.pieces)
script_apart s p =
    append_apart ((sequence_at 2 s).pieces ++ (Gap (codes "\n  ") ∷ Fixed lexemes.CloseBrace ∷ [])) closing_at.pieces
    (append_apart (sequence_at 2 s).pieces (Gap (codes "\n  ") ∷ Fixed lexemes.CloseBrace ∷ []) (sequence_apart 2 s p) two_opens (line_two (fixed_closed lexemes.CloseBrace refl none_apart))) line_opens close_apart

pub rest_apart : (script : Option Script) → IsPrintableScript script → IsApart (rest_at script).pieces
rest_apart None p = close_apart
rest_apart (Some s) p =
    line_two (leaf_name (classes.Exactly lexemes.Module) (lexeme_name lexemes.Module refl) space_opens (space (fixed_word lexemes.Attributes refl space_opens (space (fixed_closed lexemes.OpenBrace refl
    (fixed_word lexemes.WithNamedSequence refl (fixed_opens lexemes.CloseBrace refl) (fixed_closed lexemes.CloseBrace refl (space (fixed_closed lexemes.OpenBrace refl (line_four (script_apart s p)))))))))))
