-- The lines of aliases: spelled, of their classes, and well spaced.
use Rattle.std.proofs.Common.{ℕ, zero, suc, ◌+◌, List, [], ◌∷◌, ◌++◌, map, refl, sym, subst, append_assoc, codes}
use Rattle.std.specs.List.{AllByRecursion}
use Rattle.affine_maps.specs.Shape.{MapShape}
use Rattle.mlir_ir.specs.declared.tree.Op.{Op}
use Rattle.mlir_ir.specs.Shape.{FuncShape}
use Rattle.text_format.specs.declared.class.Class.TheVariants as classes
use Rattle.text_format.specs.declared.front.Kind.TheVariants.{Alias}
use Rattle.text_format.specs.declared.lexeme.Lexeme.TheVariants as lexemes
use Rattle.text_format.specs.Pieces.{Piece, Gap}
use Rattle.text_format.proofs.Spacing.{IsName, IsApart, first_map_name, map_name, space, line, space_opens, fixed_closed, leaf_name}
use Rattle.mlir_syntax.specs.declared.tree.files.Item.{Item}
use Rattle.mlir_syntax.specs.declared.tree.files.Item.TheVariants as items
use Rattle.mlir_syntax.specs.Files as file_grammar
use Rattle.mlir_print.specs.Maps.{written_at, alias_line_at, alias_lines_at, alias_text, alias_number, alias_of, maps_used}
use Rattle.text_format.specs.Writers.{Writer, each_of, made}
use Rattle.mlir_roundtrip.specs.Maps.{ArePrintableMaps}
use Rattle.text_format.proofs.Written.{LeavesFit, both_fit}
use Rattle.mlir_roundtrip.proofs.Maps.{written-w, written_fits, written_then}
use Rattle.text_format.proofs.Written.{IsWritten, AreWritten, put-w, lay-w, sp-w, pair-w, made-w, blank-w}

-- the lines of these maps from number n on, and then these items
abbrev pub lines_before : ℕ → List MapShape → List (Writer Item) → List (Writer Item)
lines_before n ms ws = map (made items.Alias) (alias_lines_at n ms) ++ ws

-- ---- spelled

line-w : (n : ℕ) (m : MapShape) → IsWritten file_grammar.alias_line (alias_line_at n m)
unfolding file_grammar.alias_line
line-w n m = made-w _ _ (λ _. refl) (pair-w (put-w _ _ _) (sp-w (lay-w lexemes.Equals (sp-w (blank-w (Gap (codes "\n") ∷ []) (λ at. refl) (written-w m))))))

item-w : (n : ℕ) (m : MapShape) → IsWritten file_grammar.item (made items.Alias (alias_line_at n m))
unfolding file_grammar.item
item-w n m = let w = line-w n m in record { law = λ at. w.law at }

pub lines-w : (n : ℕ) (ms : List MapShape) (ws : List (Writer Item)) → AreWritten file_grammar.item ws → AreWritten file_grammar.item (lines_before n ms ws)
lines-w n [] ws h = h
lines-w n (m ∷ ms) ws h = (item-w n m, lines-w (n + 1) ms ws h)

-- ---- of their classes

pub lines_fit : (n : ℕ) (ms : List MapShape) (ws : List (Writer Item)) → LeavesFit (each_of ws).pieces → LeavesFit (each_of (lines_before n ms ws)).pieces
lines_fit n [] ws h = h
lines_fit n (m ∷ ms) ws h =
    (refl, both_fit ((written_at m).pieces ++ Gap (codes "\n") ∷ []) (each_of (lines_before (n + 1) ms ws)).pieces (both_fit (written_at m).pieces (Gap (codes "\n") ∷ []) (written_fits m) tt) (lines_fit (n + 1) ms ws h))

-- ---- well spaced

alias_name : (n : ℕ) → IsName Alias (alias_text n)
alias_name zero = first_map_name
alias_name (suc n) = map_name (suc n)

pub lines_apart : (n : ℕ) (ms : List MapShape) (ws : List (Writer Item)) → ArePrintableMaps ms → IsApart (each_of ws).pieces → IsApart (each_of (lines_before n ms ws)).pieces
lines_apart n [] ws p h = h
lines_apart n (m ∷ ms) ws p h =
    let more = lines_apart (n + 1) ms ws p.1 h in
    leaf_name classes.Alias (alias_name n) space_opens (space (fixed_closed lexemes.Equals refl (space
    (subst (λ (ps : List Piece). IsApart ps) (sym (append_assoc (written_at m).pieces (Gap (codes "\n") ∷ []) (each_of (lines_before (n + 1) ms ws)).pieces))
    (written_then m p.0 (line more))))))

-- ---- the names of uses

pub use_named : (al : List MapShape) (m : MapShape) → IsName Alias (alias_of al m)
use_named al m = alias_name (alias_number al m)

pub uses_named : (al ms : List MapShape) → AllByRecursion (λ m. IsName Alias (alias_of al m)) ms
uses_named al [] = tt
uses_named al (m ∷ ms) = (use_named al m, uses_named al ms)

pub ops_named : (al : List MapShape) (os : List Op) → AllByRecursion (λ o. AllByRecursion (λ m. IsName Alias (alias_of al m)) (maps_used o.kind)) os
ops_named al [] = tt
ops_named al (o ∷ os) = (uses_named al (maps_used o.kind), ops_named al os)

pub funcs_named : (al : List MapShape) (fs : List FuncShape) → AllByRecursion (λ f. AllByRecursion (λ o. AllByRecursion (λ m. IsName Alias (alias_of al m)) (maps_used o.kind)) f.body) fs
funcs_named al [] = tt
funcs_named al (f ∷ fs) = (ops_named al f.body, funcs_named al fs)
