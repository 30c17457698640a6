-- The laws of literals: each production's follow from those of its parts.
use Rattle.std.specs.Prelude.{◌≡◌, true, refl, ◌⊎◌}
use Rattle.std.proofs.Common.{inl, inr}
use Rattle.text_format.specs.declared.class.Class.TheVariants.{Exactly, ElementType, Boolean, Number}
use Rattle.text_format.specs.declared.lexeme.Lexeme.TheVariants.{Colon, Minus}
use Rattle.text_format.specs.Token.{TokenShape}
use Rattle.text_format.specs.Formats.{leaf, ◌▸◌}
use Rattle.text_format.specs.Laws.{IsExact, avoids}
use Rattle.text_format.specs.Exact.{leaf-exact, record-exact, either-exact, ◌⊠◌, ◌▹◌}
use Rattle.text_format.specs.Many.{optional-exact, optional_avoids, avoids_append}
use Rattle.mlir_syntax.specs.declared.tree.literals.SignedNumber.{SignedNumber}
use Rattle.mlir_syntax.specs.declared.tree.literals.TypedNumber.{TypedNumber}
use Rattle.mlir_syntax.specs.declared.tree.literals.ScalarLiteral.{ScalarLiteral}
use Rattle.mlir_syntax.specs.declared.tree.literals.ScalarLiteral.TheVariants as literals
use Rattle.mlir_syntax.specs.Literals.{sign, signed_number, typed_number, made_literal, literal_parts, scalar_literal}

pub sign-exact : IsExact sign
unfolding sign
sign-exact = record-exact _ _ _ (λ _. refl) (λ _. refl) (leaf-exact (Exactly Minus))

pub signed_number-exact : IsExact signed_number
unfolding signed_number sign
signed_number-exact = record-exact _ _ _ (λ _. refl) (λ _. refl) (optional-exact (Exactly Minus) sign-exact (leaf-exact Number) (λ _. refl) (λ _. refl))

pub typed_number-exact : IsExact typed_number
unfolding typed_number
typed_number-exact = record-exact _ _ _ (λ _. refl) (λ _. refl) (signed_number-exact ⊠ Colon ▹ leaf-exact ElementType)

-- no number begins with a truth value
number_avoids : (n : SignedNumber) → avoids Boolean (signed_number.spell n) ≡ true
unfolding signed_number sign
number_avoids n = optional_avoids Boolean sign (leaf Number) (λ _. refl) (λ _. refl) (n.sign, n.digits)

typed_avoids : (n : TypedNumber) → avoids Boolean (typed_number.spell n) ≡ true
unfolding typed_number
typed_avoids n = avoids_append Boolean (signed_number.spell n.number) ((Colon ▸ leaf ElementType).spell n.ty) (number_avoids n.number)

literal_back : (x : TokenShape ⊎ TypedNumber) → literal_parts (made_literal x) ≡ x
literal_back (inl t) = refl
literal_back (inr n) = refl

literal_forth : (l : ScalarLiteral) → made_literal (literal_parts l) ≡ l
literal_forth (literals.Boolean t) = refl
literal_forth (literals.Number n) = refl

pub scalar_literal-exact : IsExact scalar_literal
unfolding scalar_literal
scalar_literal-exact = record-exact _ _ _ literal_back literal_forth (either-exact Boolean (leaf-exact Boolean) typed_number-exact (λ _. refl) typed_avoids)
