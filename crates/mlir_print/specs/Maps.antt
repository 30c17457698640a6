-- Maps and their aliases: `#map`, `#map1`, `#map2`, in the order of first use.
use Rattle.std.specs.Prelude.{ℕ, zero, suc, ◌+◌, ℤ, Bool, true, ◌&&◌, List, [], ◌∷◌, ◌++◌, map, drop, length, if◌then◌else◌, codes, position, unwrap_or}
use Rattle.std.specs.List.{list_all, list_any}
use Rattle.std.specs.Str.{bytes_eq}
use Rattle.mlir_base.specs.Numbers.{is_in_range, is_coefficient}
use Rattle.payload_ops.specs.declared.step.Arg.{Arg}
use Rattle.payload_ops.specs.declared.step.StepOp.{StepOp}
use Rattle.payload_ops.specs.declared.step.StepOp.TheVariants as ops
use Rattle.payload_ops.specs.declared.step.PayloadStep.{PayloadStep}
use Rattle.affine_maps.specs.Shape.{MapShape}
use Rattle.affine_text.specs.Text.{text_of_map}
use Rattle.text_format.specs.Numerals.{numeral}
use Rattle.affine_text.specs.Canonical.{map_front}
use Rattle.mlir_ir.specs.declared.tree.OpKind.{OpKind}
use Rattle.mlir_ir.specs.declared.tree.OpKind.TheVariants as kinds
use Rattle.mlir_ir.specs.declared.tree.Op.{Op}
use Rattle.mlir_ir.specs.Shape.{FuncShape}
use Rattle.text_format.specs.declared.class.Class.TheVariants.{Exactly, Alias, MapToken}
use Rattle.text_format.specs.declared.front.Kind.TheVariants as tokens
use Rattle.text_format.specs.declared.lexeme.Lexeme.TheVariants.{Less, Greater, Equals, AffineMap}
use Rattle.text_format.specs.Lexemes.{lexeme_kind, lexeme_text}
use Rattle.text_format.specs.Pieces.{Piece, Gap, Fixed, Leaf, shapes_at}
use Rattle.mlir_syntax.specs.declared.tree.files.AliasLine.{AliasLine}
use Rattle.mlir_syntax.specs.declared.tree.maps.MapPiece.{MapPiece}
use Rattle.mlir_syntax.specs.declared.tree.maps.WrittenMap.{WrittenMap}
use Rattle.mlir_syntax.specs.declared.tree.maps.MapUse.{MapUse}
use Rattle.mlir_syntax.specs.declared.tree.maps.MapUse.TheVariants as uses
use Rattle.text_format.specs.Writers.{Writer, put, keep, lay, space, lay_after, pair, made, ◌▷◌}

-- ---- a map as it is written (MLIR Affine dialect, "Affine Maps")

-- each token is one of a written map
abbrev pub map_token : Piece → Piece
map_token (Gap g) = Gap g
map_token (Fixed l) = Leaf MapToken (lexeme_kind l) (lexeme_text l)
map_token (Leaf c k t) = Leaf MapToken k t

-- what stands between the angle brackets: `(d0, d1) -> (d0 + d1 * 2)`
unfoldable pub inner_pieces : MapShape → List Piece
inner_pieces m = map map_token (drop 2 (map_front MapToken m))

abbrev pub tokens_at : List Piece → Writer (List MapPiece)
tokens_at ps = record { pieces = ps; tree = λ at. map (λ t. record { token = t }) (shapes_at at ps) }

-- `affine_map<(d0) -> (d0)>`
abbrev pub written_at : MapShape → Writer WrittenMap
written_at m = made (λ x. record { keyword = x.0; less = x.1.0; tokens = x.1.1.0; greater = x.1.1.1 }) ▷
    pair (keep Exactly AffineMap) ▷ pair (keep Exactly Less) ▷ pair (tokens_at (inner_pieces m)) ▷ keep Exactly Greater

-- ---- the map of a linear step (MLIR Affine dialect, "affine.apply"): one dimension for each term, in order, and one result

-- from dimension d on
abbrev pub linear_terms : ℕ → List (Arg × ℤ) → List (ℕ × ℤ)
linear_terms d [] = []
linear_terms d (t ∷ ts) = (d, t.1) ∷ linear_terms (suc d) ts

abbrev pub linear_map : ℤ → List (Arg × ℤ) → MapShape
linear_map c ts = record { dims = length ts; results = record { constant = c; terms = linear_terms 0 ts } ∷ [] }

-- a linear step's numbers are those of a map
abbrev pub has_map_numbers : StepOp → Bool
has_map_numbers (ops.Linear c ts) = is_in_range c && list_all (λ t. is_coefficient t.1) ts
has_map_numbers o = true

-- the map of a linear step
abbrev pub op_maps : StepOp → List MapShape
op_maps (ops.Linear c ts) = linear_map c ts ∷ []
op_maps o = []

-- the maps of a payload's steps
abbrev pub steps_maps : List PayloadStep → List MapShape
steps_maps [] = []
steps_maps (s ∷ ss) = op_maps s.op ++ steps_maps ss

-- ---- aliases

-- the maps that have an alias; maps of one text share theirs
abbrev pub with_map : List MapShape → MapShape → List MapShape
with_map ms m = if list_any (λ x. bytes_eq (text_of_map m) (text_of_map x)) ms then ms else ms ++ m ∷ []

abbrev pub with_maps : List MapShape → List MapShape → List MapShape
with_maps ms [] = ms
with_maps ms (u ∷ us) = with_maps (with_map ms u) us

-- a generic operation's own maps stand in its head, before its payload
abbrev pub maps_used : OpKind → List MapShape
maps_used (kinds.Generic maps its ins out captured p) = maps ++ steps_maps p.steps
maps_used k = []

abbrev pub with_ops : List MapShape → List Op → List MapShape
with_ops ms [] = ms
with_ops ms (o ∷ os) = with_ops (with_maps ms (maps_used o.kind)) os

abbrev pub with_funcs : List MapShape → List FuncShape → List MapShape
with_funcs ms [] = ms
with_funcs ms (f ∷ fs) = with_funcs (with_ops ms f.body) fs

-- #map, #map1, #map2
abbrev pub alias_text : ℕ → List ℕ
alias_text zero = codes "#map"
alias_text (suc n) = codes "#map" ++ numeral (suc n)

abbrev pub alias_number : List MapShape → MapShape → ℕ
alias_number ms m = unwrap_or (position (λ x. bytes_eq (text_of_map m) (text_of_map x)) ms) 0

abbrev pub alias_of : List MapShape → MapShape → List ℕ
alias_of ms m = alias_text (alias_number ms m)

-- ---- as they are written

abbrev pub use_at : List MapShape → MapShape → Writer MapUse
use_at ms m = made uses.Alias (put Alias tokens.Alias (alias_of ms m))

-- `#map = affine_map<(d0) -> (d0)>`
abbrev pub alias_line_at : ℕ → MapShape → Writer AliasLine
alias_line_at n m = made (λ x. record { name = x.0; map = x.1 }) ▷ pair (put Alias tokens.Alias (alias_text n)) ▷ space ▷ lay Equals ▷ space ▷ lay_after (written_at m) (Gap (codes "\n") ∷ [])

abbrev pub alias_lines_at : ℕ → List MapShape → List (Writer AliasLine)
alias_lines_at n [] = []
alias_lines_at n (m ∷ ms) = alias_line_at n m ∷ alias_lines_at (n + 1) ms
