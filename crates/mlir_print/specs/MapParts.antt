-- The bytes of aliases and of their uses, in the order in which they are written; `ts` are the texts of the maps that have an alias.
use Rattle.std.specs.Prelude.{ℕ, ◌+◌, List, [], ◌∷◌, ◌++◌, codes, if◌then◌else◌, position, unwrap_or}
use Rattle.std.specs.Str.{bytes_eq}
use Rattle.std.specs.List.{list_any}
use Rattle.affine_maps.specs.Shape.{MapShape}
use Rattle.mlir_ir.specs.declared.tree.Op.{Op}
use Rattle.mlir_ir.specs.Shape.{FuncShape}
use Rattle.affine_text.specs.Text.{text_of_map}
use Rattle.mlir_print.specs.Maps.{alias_text, maps_used}

abbrev pub with_text : List (List ℕ) → List ℕ → List (List ℕ)
with_text ts t = if list_any (bytes_eq t) ts then ts else ts ++ t ∷ []

abbrev pub with_texts : List (List ℕ) → List MapShape → List (List ℕ)
with_texts ts [] = ts
with_texts ts (m ∷ ms) = with_texts (with_text ts (text_of_map m)) ms

abbrev pub after_op_texts : List (List ℕ) → Op → List (List ℕ)
after_op_texts ts o = with_texts ts (maps_used o.kind)

abbrev pub after_ops_texts : List (List ℕ) → List Op → List (List ℕ)
after_ops_texts ts [] = ts
after_ops_texts ts (o ∷ os) = after_ops_texts (after_op_texts ts o) os

abbrev pub after_funcs_texts : List (List ℕ) → List FuncShape → List (List ℕ)
after_funcs_texts ts [] = ts
after_funcs_texts ts (f ∷ fs) = after_funcs_texts (after_ops_texts ts f.body) fs

abbrev pub text_number : List (List ℕ) → List ℕ → ℕ
text_number ts t = unwrap_or (position (bytes_eq t) ts) 0

abbrev pub use_text : List (List ℕ) → MapShape → List ℕ
use_text ts m = alias_text (text_number ts (text_of_map m))

-- between commas; `before` stands before the first
abbrev pub uses_text : List (List ℕ) → List ℕ → List MapShape → List ℕ
uses_text ts before [] = []
uses_text ts before (m ∷ ms) = before ++ (use_text ts m ++ uses_text ts (codes ", ") ms)

abbrev pub alias_line_text : ℕ → List ℕ → List ℕ
alias_line_text n t = alias_text n ++ (codes " = " ++ (t ++ codes "\n"))

abbrev pub alias_lines_text : ℕ → List (List ℕ) → List ℕ
alias_lines_text n [] = []
alias_lines_text n (t ∷ ts) = alias_line_text n t ++ alias_lines_text (n + 1) ts
