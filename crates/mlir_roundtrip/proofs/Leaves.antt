-- Tokens that are of the classes that the grammar wants: names and types.
use Rattle.std.proofs.Common.{◌≡◌, ℕ, true, List, [], ◌∷◌, refl, arith, decimal, false, not, ◌||◌, ap, ◌∙◌, nat_eq}
use Rattle.std.specs.Str.Parse.{AllDigits}
use Rattle.std.proofs.lemmas.Bool.{ne_eqb}
use Rattle.std.proofs.lemmas.Fmt.{decimal_is_IsNumeral}
use Rattle.std.proofs.lemmas.Str.Parse.{digit_from_value}
use Rattle.mlir_base.specs.declared.types.ElemTy.{ElemTy}
use Rattle.mlir_print.specs.declared.names.Given.{Given}
use Rattle.mlir_print.specs.declared.names.Given.TheVariants.{Argument, Result}
use Rattle.mlir_print.specs.Types.{elem_text}
use Rattle.mlir_print.specs.Names.{given_text}
use Rattle.text_format.specs.Classes.{is_numbered}
use Rattle.text_format.specs.Types.{is_some, element_of}
use Rattle.mlir_roundtrip.proofs.Rows.{IsSmall}

-- ---- names and types

pub no_hash : (ds : List ℕ) → AllDigits 10 ds → is_numbered ds ≡ false
no_hash [] a = refl
no_hash (d ∷ ds) a =
    let r = digit_from_value d a.0 in
    let lo = r.0 in
    let e : nat_eq d 35 ≡ false = ne_eqb d 35 (λ q. absurd (omega (arith, q, lo))) in
    ap (λ b. b || is_numbered ds) e ∙ no_hash ds a.1

pub given_new : (g : Given) → IsSmall g → not (is_numbered (given_text g)) ≡ true
given_new (Argument n) s = ap not (no_hash (decimal n) (decimal_is_IsNumeral n s).0.1)
given_new (Result n) s = ap not (no_hash (decimal n) (decimal_is_IsNumeral n s).0.1)

-- the text of the element type is one
abbrev pub IsWrittenElem : ElemTy → Type 0
IsWrittenElem e = is_some (element_of (elem_text e)) ≡ true
