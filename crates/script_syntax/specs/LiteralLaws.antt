-- The laws of literals: each production's follow from those of its parts.
use Rattle.std.specs.Prelude.{◌≡◌, true, refl}
use Rattle.text_format.specs.declared.class.Class.TheVariants.{Exactly, Number, IntegerType, Quoted}
use Rattle.text_format.specs.declared.lexeme.Lexeme.TheVariants.{Minus, Colon, OpenBracket, CloseBracket}
use Rattle.text_format.specs.Formats.{leaf, ◌▸◌}
use Rattle.text_format.specs.Laws.{IsExact, avoids}
use Rattle.text_format.specs.Exact.{leaf-exact, record-exact, ◌⊠◌, ◌▹◌}
use Rattle.text_format.specs.Many.{optional-exact, optional_avoids, list-exact, avoids_append}
use Rattle.script_syntax.specs.declared.tree.literals.Signed.{Signed}
use Rattle.script_syntax.specs.declared.tree.literals.PadValue.{PadValue}
use Rattle.script_syntax.specs.Literals.{signed, pad_value, quoted_name, numbers}

pub signed-exact : IsExact signed
unfolding signed
signed-exact = record-exact _ _ _ (λ _. refl) (λ _. refl) (optional-exact (Exactly Minus) (leaf-exact (Exactly Minus)) (leaf-exact Number) (λ _. refl) (λ _. refl))

pub signed_avoids : (s : Signed) → avoids (Exactly CloseBracket) (signed.spell s) ≡ true
unfolding signed
signed_avoids s = optional_avoids (Exactly CloseBracket) (leaf (Exactly Minus)) (leaf Number) (λ _. refl) (λ _. refl) (s.minus, s.digits)

pub pad_value-exact : IsExact pad_value
unfolding pad_value
pad_value-exact = record-exact _ _ _ (λ _. refl) (λ _. refl) (signed-exact ⊠ Colon ▹ leaf-exact IntegerType)

pub pad_value_avoids : (v : PadValue) → avoids (Exactly CloseBracket) (pad_value.spell v) ≡ true
unfolding pad_value
pad_value_avoids v = avoids_append (Exactly CloseBracket) (signed.spell v.value) ((Colon ▸ leaf IntegerType).spell v.ty) (signed_avoids v.value)

pub quoted_name-exact : IsExact quoted_name
unfolding quoted_name
quoted_name-exact = record-exact _ _ _ (λ _. refl) (λ _. refl) (leaf-exact Quoted)

pub numbers-exact : IsExact numbers
unfolding numbers
numbers-exact = OpenBracket ▹ list-exact CloseBracket signed-exact signed_avoids refl
