-- Constants (Arith dialect, "arith.constant"; Builtin dialect, "DenseIntOrFPElementsAttr").
use Rattle.std.specs.Prelude.{ℕ, zero, suc, Bool, true, false, not, ◌==◌, nat_lt, nat_le, List, [], ◌∷◌, replicate, codes, Result, Ok, Err, Option, Some, None, if◌then◌else◌, is_none}
use Rattle.std.specs.Str.{bytes_eq}
use Rattle.payload_ops.specs.Bits.{reduce}
use Rattle.mlir_base.specs.declared.types.ElemTy.TheVariants.{Int}
use Rattle.mlir_ir.specs.declared.tree.Ty.{Ty}
use Rattle.mlir_ir.specs.declared.tree.Ty.TheVariants.{Scalar, Tensor}
use Rattle.mlir_ir.specs.declared.tree.Extent.{Extent}
use Rattle.mlir_ir.specs.declared.tree.Extent.TheVariants.{Fixed, Any}
use Rattle.mlir_ir.specs.declared.tree.OpKind.{OpKind}
use Rattle.mlir_ir.specs.declared.tree.OpKind.TheVariants as kinds
use Rattle.text_format.specs.declared.types.RankedShape.{RankedShape}
use Rattle.text_format.specs.Token.{TokenShape}
use Rattle.text_format.specs.Types.{extents_of, ranked_from, width_of, is_some}
use Rattle.mlir_syntax.specs.declared.tree.constants.DensePiece.{DensePiece}
use Rattle.mlir_syntax.specs.declared.tree.constants.DenseLiteral.{DenseLiteral}
use Rattle.mlir_syntax.specs.declared.tree.constants.Literal.{Literal}
use Rattle.mlir_syntax.specs.declared.tree.constants.Literal.TheVariants as literals
use Rattle.mlir_syntax.specs.declared.tree.literals.ScalarLiteral.{ScalarLiteral}
use Rattle.mlir_syntax.specs.declared.tree.literals.ScalarLiteral.TheVariants as scalars
use Rattle.mlir_resolve.specs.declared.dense.Mark.{Mark}
use Rattle.mlir_resolve.specs.declared.dense.Mark.TheVariants as marks
use Rattle.mlir_resolve.specs.declared.dense.Wanted.{Wanted}
use Rattle.mlir_resolve.specs.declared.dense.Wanted.TheVariants as wanted
use Rattle.mlir_scope.specs.declared.names.Meaning.{Meaning}
use Rattle.mlir_scope.specs.declared.names.Meaning.TheVariants.{Held, Constant}
use Rattle.mlir_lex.specs.declared.fault.Fault.{Fault}
use Rattle.mlir_lex.specs.declared.fault.Fault.TheVariants.{Syntax, Unsupported, Number}
use Rattle.mlir_lex.specs.Chain.{and_then, demand}
use Rattle.mlir_scope.specs.Literals.{digits_value, signed_by, most_of, literal_of}
use Rattle.mlir_scope.specs.Types.{type_at, elements}

-- ---- the tokens of a dense literal

abbrev pub mark_of : List ℕ → Mark
mark_of text =
    if bytes_eq text (codes "[") then marks.Open
    else (if bytes_eq text (codes "]") then marks.Close
    else (if bytes_eq text (codes ",") then marks.Comma
    else (if bytes_eq text (codes "-") then marks.Minus
    else (if bytes_eq text (codes "true") then marks.Truth true
    else (if bytes_eq text (codes "false") then marks.Truth false
    else marks.Digits)))))

-- ---- which lists are lists: items between commas, in brackets, nested at most 8 deep

-- what may come, and how many lists are open
abbrev pub Stand : Type 0
Stand = Wanted × ℕ

-- an item stands there
abbrev pub with_item : ℕ → Mark → Option Stand
with_item depth marks.Open = if nat_lt depth 8 then Some (wanted.First, suc depth) else None
with_item depth (marks.Truth b) = Some (wanted.Behind, depth)
with_item depth marks.Digits = Some (wanted.Behind, depth)
with_item depth marks.Minus = Some (wanted.Number, depth)
with_item depth m = None

abbrev pub with_close : ℕ → Option Stand
with_close zero = None
with_close (suc depth) = Some (wanted.Behind, depth)

abbrev pub with_comma : ℕ → Option Stand
with_comma zero = None
with_comma (suc depth) = Some (wanted.Item, suc depth)

abbrev pub with_first : ℕ → Mark → Option Stand
with_first depth marks.Close = with_close depth
with_first depth m = with_item depth m

abbrev pub with_number : ℕ → Mark → Option Stand
with_number depth marks.Digits = Some (wanted.Behind, depth)
with_number depth m = None

abbrev pub with_next : ℕ → Mark → Option Stand
with_next depth marks.Comma = with_comma depth
with_next depth marks.Close = with_close depth
with_next depth m = None

-- where the token leads to, if it may stand there
unfoldable pub behind : Wanted → ℕ → Mark → Option Stand
behind wanted.Whole depth m = with_item depth m
behind wanted.First depth m = with_first depth m
behind wanted.Item depth m = with_item depth m
behind wanted.Number depth m = with_number depth m
behind wanted.Behind depth m = with_next depth m

-- the literal may end there
abbrev pub may_end : Wanted → ℕ → Bool
may_end wanted.Whole depth = true
may_end wanted.Behind zero = true
may_end w depth = false

abbrev pub by_stand : ℕ → (Stand → Result (Unit {0}) Fault) → Option Stand → Result (Unit {0}) Fault
by_stand at go None = Err (Syntax at)
by_stand at go (Some s) = go s

-- the first token that can't stand where it does; `close` ends them
unfoldable pub nested_from : TokenShape → Wanted → ℕ → List DensePiece → Result (Unit {0}) Fault
nested_from close w depth [] = demand (may_end w depth) (Syntax close.start)
nested_from close w depth (p ∷ ps) = by_stand p.token.start (λ s. nested_from close s.0 s.1 ps) (behind w depth (mark_of p.token.text))

-- ---- the elements

abbrev pub place_behind : ℕ → Option ℕ → ℕ
place_behind at None = at
place_behind at (Some minus) = minus

abbrev pub bit_of : Bool → ℕ
bit_of true = 1
bit_of false = 0

-- a truth value is one of i1
abbrev pub truth_in : ℕ → ℕ → ℕ → Bool → Result ℕ Fault
truth_in w at ty b = and_then (demand (w == 1) (Number at ty)) (λ _. Ok (bit_of b))

-- the value of width w that digits stand for, behind a minus or behind none
abbrev pub number_in : ℕ → ℕ → ℕ → Bool → List ℕ → Result ℕ Fault
number_in w at ty negative digits = and_then (demand (nat_le (digits_value digits) (most_of negative (Int w))) (Number at ty)) (λ _. Ok (reduce w (signed_by negative (digits_value digits))))

-- one more element, and the others
abbrev pub onto_elements : Result ℕ Fault → Result (List ℕ) Fault → Result (List ℕ) Fault
onto_elements r rest = and_then r (λ c. and_then rest (λ cs. Ok (c ∷ cs)))

-- what the token is behind a minus, or behind none
abbrev pub element_by : ℕ → ℕ → Option ℕ → TokenShape → (Option ℕ → Result (List ℕ) Fault) → Mark → Result (List ℕ) Fault
element_by w ty minus t go marks.Minus = go (Some t.start)
element_by w ty minus t go marks.Digits = onto_elements (number_in w (place_behind t.start minus) ty (not (is_none minus)) t.text) (go None)
element_by w ty minus t go (marks.Truth b) = onto_elements (truth_in w t.start ty b) (go None)
element_by w ty minus t go m = go None

-- the elements in order, each as the bits of a value of width w
unfoldable pub elements_from : ℕ → ℕ → Option ℕ → List DensePiece → Result (List ℕ) Fault
elements_from w ty minus [] = Ok []
elements_from w ty minus (p ∷ ps) = element_by w ty minus p.token (λ m. elements_from w ty m ps) (mark_of p.token.text)

-- ---- the nesting

-- brackets and elements
abbrev pub is_shape_mark : Mark → Bool
is_shape_mark marks.Comma = false
is_shape_mark marks.Minus = false
is_shape_mark m = true

abbrev pub onto_mark : Bool → Mark → List Mark → List Mark
onto_mark true m ms = m ∷ ms
onto_mark false m ms = ms

abbrev pub shape_marks : List DensePiece → List Mark
shape_marks [] = []
shape_marks (p ∷ ps) = onto_mark (is_shape_mark (mark_of p.token.text)) (mark_of p.token.text) (shape_marks ps)

abbrev pub behind_element : List Mark → Option (List Mark)
behind_element (marks.Truth b ∷ ms) = Some ms
behind_element (marks.Digits ∷ ms) = Some ms
behind_element ms = None

abbrev pub behind_open : List Mark → Option (List Mark)
behind_open (marks.Open ∷ ms) = Some ms
behind_open ms = None

abbrev pub behind_close : List Mark → Option (List Mark)
behind_close (marks.Close ∷ ms) = Some ms
behind_close ms = None

abbrev pub and_behind : Option (List Mark) → (List Mark → Option (List Mark)) → Option (List Mark)
and_behind None f = None
and_behind (Some ms) f = f ms

-- so many, one behind the other
abbrev pub times : ℕ → (List Mark → Option (List Mark)) → List Mark → Option (List Mark)
times zero f ms = Some ms
times (suc n) f ms = and_behind (f ms) (times n f)

-- what comes behind a literal that is nested as a tensor of these extents: a list of as many items as the first
unfoldable pub behind_nested : List Extent → List Mark → Option (List Mark)
behind_nested [] ms = behind_element ms
behind_nested (Fixed n ∷ es) ms = and_behind (behind_open ms) (λ inner. and_behind (times n (behind_nested es) inner) behind_close)
behind_nested (Any ∷ es) ms = None

abbrev pub is_end : Option (List Mark) → Bool
is_end (Some []) = true
is_end m = false

-- the elements of a tensor of these extents: those of a list that is nested so, of one element alone as often as there are
-- elements, and none where nothing is written and there are none
abbrev pub cells_by : ℕ → List Extent → List ℕ → List Mark → Result (List ℕ) Fault
cells_by ty es cs [] = and_then (demand (elements es == 0) (Unsupported ty)) (λ _. Ok [])
cells_by ty es cs (marks.Open ∷ ms) = and_then (demand (is_end (behind_nested es (marks.Open ∷ ms))) (Unsupported ty)) (λ _. Ok cs)
cells_by ty es [] (m ∷ ms) = Ok []
cells_by ty es (c ∷ cs) (m ∷ ms) = Ok (replicate (elements es) c)

abbrev pub cells_in : ℕ → Ty → List ℕ → List Mark → Result (List ℕ) Fault
cells_in at (Tensor es w) cs ms = cells_by at es cs ms
cells_in at ty cs ms = Err (Unsupported at)

-- ---- constants

abbrev pub shape_width : Option RankedShape → Option ℕ
shape_width None = None
shape_width (Some s) = Some s.width

abbrev pub width_found : ℕ → Option ℕ → Result ℕ Fault
width_found at None = Err (Syntax at)
width_found at (Some w) = Ok w

-- the width of the elements of the tensor's type that is written
abbrev pub elements_width : TokenShape → Result ℕ Fault
elements_width t = width_found t.start (shape_width (ranked_from (extents_of t.text)))

abbrev pub constant : Ty → List ℕ → Ty × OpKind
constant ty cells = (ty, kinds.Constant cells)

-- constants of index aren't read outside of payloads so far
abbrev pub of_integer : ScalarLiteral → Result (Unit {0}) Fault
of_integer (scalars.Boolean t) = Ok tt
of_integer (scalars.Number n) = demand (is_some (width_of n.ty.text)) (Syntax n.ty.start)

abbrev pub scalar_of : ScalarLiteral → Result (Ty × OpKind) Fault
scalar_of s = and_then (of_integer s) (λ _. and_then (literal_of s) (λ x. Ok (constant (Scalar x.0) (x.1 ∷ []))))

abbrev pub dense_of : DenseLiteral → Result (Ty × OpKind) Fault
dense_of d =
    and_then (nested_from d.greater wanted.Whole 0 d.tokens) (λ _. and_then (elements_width d.ty) (λ w. and_then (elements_from w d.ty.start None d.tokens) (λ cs.
    and_then (type_at d.ty) (λ ty. and_then (cells_in d.ty.start ty cs (shape_marks d.tokens)) (λ cells. Ok (constant ty cells))))))

-- the type of the constant, and the constant
abbrev pub constant_of : Literal → Result (Ty × OpKind) Fault
constant_of (literals.Dense d) = dense_of d
constant_of (literals.Scalar s) = scalar_of s

-- what the name of the result stands for, which has this number
abbrev pub result_meaning : ℕ → Ty → OpKind → Meaning
result_meaning n (Scalar e) (kinds.Constant (b ∷ [])) = Constant n e b
result_meaning n ty k = Held n ty
