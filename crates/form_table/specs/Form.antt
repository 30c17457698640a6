-- The table of forms: what stands behind the name of each operation (MLIR Arith, Tensor and Linalg dialects).
use Rattle.std.specs.Prelude.{List, [], ◌∷◌, ◌++◌, length}
use Rattle.text_format.specs.declared.class.Class.{Class}
use Rattle.text_format.specs.declared.class.Class.TheVariants.{Value, TensorType, ElementType, OperandType, DenseType, Iterator}
use Rattle.text_format.specs.declared.lexeme.Lexeme.{Lexeme}
use Rattle.text_format.specs.declared.lexeme.Lexeme.TheVariants.{OpenParenthesis, CloseParenthesis, OpenBrace, CloseBrace, OpenBracket, CloseBracket, Less, Greater, Comma, Colon, Equals, Arrow, IndexingMaps, IteratorTypes, Ins, Outs, True, False, Permutation, Dimensions, To}
use Rattle.text_format.specs.declared.lexeme.Lexeme.TheVariants as lexemes
use Rattle.form_table.specs.declared.want.Element.{Element}
use Rattle.form_table.specs.declared.want.Element.TheVariants.{Leaf, Literal, Index, Map}
use Rattle.form_table.specs.declared.want.Role.{Role}
use Rattle.form_table.specs.declared.want.Role.TheVariants.{Used, TypeOf, ResultType, OutputType, Held, Repeated}
use Rattle.form_table.specs.declared.want.Want.{Want}
use Rattle.form_table.specs.declared.want.Want.TheVariants.{Fixed, Space, Kept, One, Listed, More, Dense, Maybe, Jump}
use Rattle.form_table.specs.declared.want.Opcode.{Opcode}
use Rattle.form_table.specs.declared.want.Opcode.TheVariants as opcodes

-- ---- how rows are put together

-- where the token comes next, these stand
abbrev pub maybe : Lexeme → List Want → List Want
maybe l ws = Maybe l (length ws) ∷ ws

-- where the token comes next, the first stand, and else the second
abbrev pub choice : Lexeme → List Want → List Want → List Want
choice l ws us = maybe l (ws ++ Jump (length us) ∷ []) ++ us

-- a value that is used
abbrev pub used : Want
used = One (Leaf Value) Used

-- a type of the class, for this
abbrev pub typed : Class → Role → Want
typed c r = One (Leaf c) r

-- ` : T`
abbrev pub colon : Want → List Want
colon w = Space ∷ Fixed Colon ∷ Space ∷ w ∷ []

-- `(%a : T)`
abbrev pub operand : Class → Role → List Want
operand c r = Fixed OpenParenthesis ∷ used ∷ (colon (typed c r) ++ (Fixed CloseParenthesis ∷ []))

-- ` -> T`
abbrev pub arrow : List Want
arrow = Space ∷ Fixed Arrow ∷ Space ∷ typed TensorType ResultType ∷ []

-- ` word = [entries]`
abbrev pub named : Lexeme → Element → List Want
named l e = Fixed l ∷ Space ∷ Fixed Equals ∷ Space ∷ Fixed OpenBracket ∷ Listed e CloseBracket Held ∷ []

-- `[e, e]`
abbrev pub indices : List Want
indices = Fixed OpenBracket ∷ Listed Index CloseBracket Held ∷ []

-- `ins(%a : T) outs(%o : T) `
abbrev pub moved : List Want
moved = Space ∷ Fixed Ins ∷ (operand TensorType (TypeOf 0) ++ (Space ∷ Fixed Outs ∷ (operand TensorType OutputType ++ Space ∷ [])))

-- ---- the rows

-- `dense<[1, 2]> : T`, `true`, `false` or `5 : i32`
abbrev pub constant_form : List Want
constant_form = Space ∷ choice lexemes.Dense (Fixed lexemes.Dense ∷ Fixed Less ∷ Dense ∷ Kept Greater ∷ colon (typed DenseType ResultType))
    (choice True (Fixed True ∷ []) (choice False (Fixed False ∷ []) (One Literal Held ∷ colon (typed ElementType ResultType))))

-- `() : T`
abbrev pub empty_form : List Want
empty_form = Fixed OpenParenthesis ∷ Fixed CloseParenthesis ∷ colon (typed TensorType ResultType)

-- `%s[e, e] [e, e] [1, 1] : T to T`
abbrev pub extract_slice_form : List Want
extract_slice_form = Space ∷ used ∷ (indices ++ (Space ∷ (indices ++ (Space ∷ Fixed OpenBracket ∷ Listed Literal CloseBracket (Repeated 1) ∷ (colon (typed TensorType (TypeOf 0)) ++ (Space ∷ Fixed To ∷ Space ∷ typed TensorType ResultType ∷ []))))))

-- `{indexing_maps = [maps], iterator_types = [words]} ins(%a, %b : T, T) outs(%o : T) {`, where the inputs may be left out
abbrev pub generic_form : List Want
generic_form = Space ∷ Fixed OpenBrace ∷ (named IndexingMaps Map ++ (Fixed Comma ∷ Space ∷ (named IteratorTypes (Leaf Iterator) ++ (Fixed CloseBrace ∷ Space ∷
    (maybe Ins (Fixed Ins ∷ Fixed OpenParenthesis ∷ used ∷ More (Leaf Value) Used ∷ (colon (typed OperandType (TypeOf 0)) ++ (More (Leaf OperandType) (TypeOf 1) ∷ Kept CloseParenthesis ∷ Space ∷ [])))
    ++ (Fixed Outs ∷ (operand TensorType OutputType ++ (Space ∷ Fixed OpenBrace ∷ []))))))))

-- `ins(%c : E) outs(%o : T) -> T`
abbrev pub fill_form : List Want
fill_form = Space ∷ Fixed Ins ∷ (operand ElementType (TypeOf 0) ++ (Space ∷ Fixed Outs ∷ (operand TensorType (TypeOf 1) ++ arrow)))

-- `ins(%a, %b : T, T) outs(%o : T) -> T`
abbrev pub product_form : List Want
product_form = Space ∷ Fixed Ins ∷ Fixed OpenParenthesis ∷ used ∷ Fixed Comma ∷ Space ∷ used ∷
    (colon (typed TensorType (TypeOf 0)) ++ (Fixed Comma ∷ Space ∷ typed TensorType (TypeOf 1) ∷ Fixed CloseParenthesis ∷ Space ∷ Fixed Outs ∷ (operand TensorType (TypeOf 2) ++ arrow)))

-- `ins(%a : T) outs(%o : T) permutation = [1, 0]`
abbrev pub transpose_form : List Want
transpose_form = moved ++ named Permutation Literal

-- `ins(%a : T) outs(%o : T) dimensions = [0]`
abbrev pub broadcast_form : List Want
broadcast_form = moved ++ named Dimensions Literal

-- `} -> T`
abbrev pub generic_tail : List Want
generic_tail = Fixed CloseBrace ∷ arrow

-- what stands behind the name, up to the region where the operation has one
abbrev pub form : Opcode → List Want
form opcodes.Constant = constant_form
form opcodes.Empty = empty_form
form opcodes.ExtractSlice = extract_slice_form
form opcodes.Generic = generic_form
form opcodes.Fill = fill_form
form opcodes.Matmul = product_form
form opcodes.BatchMatmul = product_form
form opcodes.Transpose = transpose_form
form opcodes.Broadcast = broadcast_form

-- what stands behind the region
abbrev pub tail : Opcode → List Want
tail opcodes.Generic = generic_tail
tail o = []
