-- Constants as they are written (MLIR Arith dialect, "arith.constant"; Builtin dialect, "DenseIntOrFPElementsAttr").
use Rattle.std.specs.Prelude.{ℕ, zero, suc, ◌==◌, ℤ, pos, negsuc, Bool, true, false, List, [], ◌∷◌, ◌++◌, map, drop, codes, decimal}
use Rattle.std.specs.List.{list_all}
use Rattle.payload_ops.specs.Bits.{signed_of}
use Rattle.mlir_ir.specs.declared.tree.Ty.{Ty}
use Rattle.mlir_ir.specs.declared.tree.Extent.{Extent}
use Rattle.mlir_scope.specs.Types.{counted, elements}
use Rattle.text_format.specs.declared.class.Class.TheVariants.{Exactly, Name, DenseToken, DenseType}
use Rattle.text_format.specs.declared.class.Position.TheVariants.{Operation as OperationName}
use Rattle.text_format.specs.declared.front.Kind.{Kind}
use Rattle.text_format.specs.declared.front.Kind.TheVariants as tokens
use Rattle.text_format.specs.declared.lexeme.Lexeme.TheVariants.{Less, Greater, Colon, Dense, ArithConstant}
use Rattle.text_format.specs.Pieces.{Gap}
use Rattle.mlir_syntax.specs.declared.tree.constants.DensePiece.{DensePiece}
use Rattle.mlir_syntax.specs.declared.tree.constants.DenseLiteral.{DenseLiteral}
use Rattle.mlir_syntax.specs.declared.tree.constants.Literal.{Literal}
use Rattle.mlir_syntax.specs.declared.tree.constants.Constant.{Constant}
use Rattle.mlir_print.specs.Types.{ty_text}
use Rattle.mlir_print.specs.Literals.{truth_text}
use Rattle.text_format.specs.Writers.{Writer, put, keep, lay, space, lay_after, pair, made, each_of, ◌▷◌}

-- ---- the tokens of a dense literal

-- a token, and the blanks behind it
pub record Word : Type 0 where
  pub kind : Kind
  pub text : List ℕ
  pub behind : List ℕ

abbrev pub bare : Kind → List ℕ → Word
bare k t = record { kind = k; text = t; behind = [] }

abbrev pub open_word : Word
open_word = bare tokens.Mark (codes "[")

abbrev pub close_word : Word
close_word = bare tokens.Mark (codes "]")

abbrev pub comma_word : Word
comma_word = record { kind = tokens.Mark; text = codes ","; behind = codes " " }

abbrev pub number_words : ℤ → List Word
number_words (pos n) = bare tokens.Number (decimal n) ∷ []
number_words (negsuc n) = bare tokens.Mark (codes "-") ∷ bare tokens.Number (decimal (suc n)) ∷ []

abbrev pub element_if : Bool → ℕ → ℕ → List Word
element_if true w v = bare tokens.Word (truth_text v) ∷ []
element_if false w v = number_words (signed_of w v)

-- a value of width w: a truth value, or a signed decimal
abbrev pub element_words : ℕ → ℕ → List Word
element_words w v = element_if (w == 1) w v

abbrev pub first_words : ℕ → List ℕ → List Word
first_words w [] = []
first_words w (c ∷ cs) = element_words w c

-- so many items, each of which takes `size` cells; `before` stands before the first
abbrev pub items_words : (List ℕ → List Word) → ℕ → List Word → ℕ → List ℕ → List Word
items_words item size before zero cs = []
items_words item size before (suc n) cs = before ++ (item cs ++ items_words item size (comma_word ∷ []) n (drop size cs))

-- the cells at the front, nested as a tensor of these extents
unfoldable pub nested_words : ℕ → List Extent → List ℕ → List Word
nested_words w [] cs = first_words w cs
nested_words w (e ∷ es) cs = open_word ∷ (items_words (nested_words w es) (elements es) [] (counted e) cs ++ close_word ∷ [])

-- two or more equal cells
abbrev pub is_splat : List ℕ → Bool
is_splat [] = false
is_splat (c ∷ []) = false
is_splat (c ∷ (d ∷ cs)) = list_all (λ x. x == c) (d ∷ cs)

abbrev pub dense_if : Bool → ℕ → List Extent → List ℕ → List Word
dense_if b w es [] = []
dense_if true w es (c ∷ cs) = element_words w c
dense_if false w es (c ∷ cs) = nested_words w es (c ∷ cs)

-- equal cells are written once; without cells nothing is written
abbrev pub dense_words : ℕ → List Extent → List ℕ → List Word
dense_words w es cs = dense_if (is_splat cs) w es cs

-- ---- as bytes

abbrev pub words_text : List Word → List ℕ
words_text [] = []
words_text (x ∷ xs) = x.text ++ (x.behind ++ words_text xs)

-- ---- with their trees

abbrev pub word_at : Word → Writer DensePiece
word_at x = lay_after (made (λ t. record { token = t }) (put DenseToken x.kind x.text)) (Gap x.behind ∷ [])

-- `dense<[1, 2]> : tensor<2xi32>`
abbrev pub dense_at : List Word → Ty → Writer DenseLiteral
dense_at xs ty = made (λ x. record { tokens = x.0; greater = x.1.0; ty = x.1.1 }) ▷
    lay Dense ▷ lay Less ▷ pair (each_of (map word_at xs)) ▷ pair (keep Exactly Greater) ▷ space ▷ lay Colon ▷ space ▷ put DenseType tokens.Shaped (ty_text ty)

-- `arith.constant literal`
abbrev pub constant_at : Writer Literal → Writer Constant
constant_at w = made (λ x. record { name = x.0; literal = x.1 }) ▷ pair (keep (Name OperationName) ArithConstant) ▷ space ▷ w
