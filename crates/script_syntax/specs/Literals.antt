-- The grammar of literals in scripts (MLIR LangRef, "Common syntax").
use Rattle.text_format.specs.declared.class.Class.TheVariants.{Exactly, Number, IntegerType, Quoted}
use Rattle.text_format.specs.declared.lexeme.Lexeme.TheVariants.{Minus, Colon, OpenBracket, CloseBracket}
use Rattle.text_format.specs.Formats.{Format, leaf, ◌▸◌, ◌⊗◌, as_record, optional, list_before}
use Rattle.std.specs.Prelude.{List}
use Rattle.script_syntax.specs.declared.tree.literals.Signed.{Signed}
use Rattle.script_syntax.specs.declared.tree.literals.PadValue.{PadValue}
use Rattle.script_syntax.specs.declared.tree.literals.QuotedName.{QuotedName}

-- -5
unfoldable pub signed : Format Signed
signed = as_record (λ x. record { minus = x.0; digits = x.1 }) (λ s. (s.minus, s.digits)) (optional (Exactly Minus) (leaf (Exactly Minus)) (leaf Number))

-- 0 : i32
unfoldable pub pad_value : Format PadValue
pad_value = as_record (λ x. record { value = x.0; ty = x.1 }) (λ v. (v.value, v.ty)) (signed ⊗ Colon ▸ leaf IntegerType)

-- "linalg.generic"
unfoldable pub quoted_name : Format QuotedName
quoted_name = as_record (λ t. record { text = t }) (λ q. q.text) (leaf Quoted)

-- [1, 0]
unfoldable pub numbers : Format (List Signed)
numbers = OpenBracket ▸ list_before CloseBracket signed
