-- The pieces of a payload's region are well spaced.
use Rattle.std.proofs.Common.{◌≡◌, ◌<◌, ◌^◌, ℕ, ◌+◌, suc, zero, true, List, [], ◌∷◌, ◌++◌, map, length, Some, refl, sym, subst, arith, codes, decimal, append_assoc, length-append, false, ◌∙◌, nat_eq, ◌≤◌, ◌-◌, ℤ, pos, negsuc, Bool, ◌&&◌, Option, nat_le, nat_lt, pow_mono, pow_pos}
use Rattle.std.specs.List.{AllByRecursion, list_all}
use Rattle.std.specs.Prelude.{slice_get}
use Rattle.std.proofs.lemmas.Bool.{and_parts, ne_eqb, leb-true, ltb-true, ltb-false}
use Rattle.std.proofs.lemmas.List.{append-nil}
use Rattle.std.specs.Str.Parse.{AllDigits}
use Rattle.std.proofs.lemmas.Fmt.{decimal_is_IsNumeral}
use Rattle.std.proofs.lemmas.Str.Parse.{digit_from_value}
use Rattle.mlir_base.specs.declared.types.ElemTy.{ElemTy}
use Rattle.mlir_base.specs.declared.types.ElemTy.TheVariants.{Int, Index}
use Rattle.payload_ops.specs.declared.step.Arg.{Arg}
use Rattle.payload_ops.specs.declared.step.Arg.TheVariants.{Input, Out, Step}
use Rattle.payload_ops.specs.declared.step.StepOp.{StepOp}
use Rattle.payload_ops.specs.declared.step.PayloadStep.{PayloadStep}
use Rattle.mlir_base.specs.Numbers.{is_in_range, is_coefficient}
use Rattle.payload_ops.specs.Shape.{PayloadShape}
use Rattle.affine_maps.specs.Shape.{MapShape}
use Rattle.payload_ops.specs.Payload.{arg_type, has_type, term_fits, op_fits, steps_fit, payload_fits, have_one_type}
use Rattle.mlir_base.specs.Types.{bits_of, is_elem, is_value}
use Rattle.text_format.specs.declared.class.Class.TheVariants as classes
use Rattle.text_format.specs.declared.class.Position.TheVariants as places
use Rattle.text_format.specs.declared.front.Kind.TheVariants.{Word, Value, Mark, Alias}
use Rattle.text_format.specs.declared.lexeme.Lexeme.TheVariants as lexemes
use Rattle.text_format.specs.Lexemes.{lexeme_kind, lexeme_text}
use Rattle.text_format.specs.Pieces.{Piece, Gap, Fixed, Leaf, Ends, bytes_of}
use Rattle.text_format.proofs.Spacing.{IsName, IsApart, Opens, arg_name, word_name, lexeme_name, none_apart, none_opens, gap_apart, space, fixed_closed, fixed_word, leaf_name, append_apart, append_opens, space_opens, fixed_opens, decimal_name, minus_ends, is_minus}
use Rattle.mlir_syntax.specs.declared.tree.payloads.NextArg.{NextArg}
use Rattle.mlir_print.specs.declared.names.Given.{Given}
use Rattle.mlir_print.specs.Types.{elem_text}
use Rattle.mlir_print.specs.Names.{given_text, local_name}
use Rattle.mlir_print.specs.Maps.{linear_map, op_maps, steps_maps, alias_of}
use Rattle.text_format.specs.Writers.{Writer, each_of, commas}
use Rattle.mlir_print.specs.Payloads.{block_arg_at, next_arg_at, next_args_at, block_args_at, step_at, steps_at, region_at, new_line, elem_or, type_in as arg_type_in, conversion_at, cast_at, apply_operand_at, apply_at, operation_at as step_operation_at}
use Rattle.payload_ops.specs.declared.kinds.BinOp.{BinOp}
use Rattle.payload_ops.specs.declared.kinds.BinOp.TheVariants as binaries
use Rattle.payload_ops.specs.declared.kinds.Predicate.{Predicate}
use Rattle.payload_ops.specs.declared.kinds.Predicate.TheVariants as predicates
use Rattle.payload_ops.specs.declared.step.StepOp.TheVariants as ops
use Rattle.payload_ops.specs.Bits.{signed_of}
use Rattle.payload_ops.proofs.Words.{signed-low, signed-high}
use Rattle.mlir_scope.specs.declared.words.Cast.{Cast}
use Rattle.mlir_scope.specs.declared.words.Cast.TheVariants as changes
use Rattle.mlir_scope.specs.Words.{binary_text, predicate_text, cast_text}
use Rattle.mlir_scope.specs.Literals.{is_written}
use Rattle.mlir_print.specs.Literals.{truth_text, number_at, literal_if, literal_at}
use Rattle.text_format.specs.declared.lexeme.Lexeme.{Lexeme}
use Rattle.mlir_roundtrip.specs.Printable.{IsPrintableOp, IsPrintableStep}
use Rattle.mlir_roundtrip.proofs.Fits.{arg_text, cast_found, found_type, get_below, mapped, narrowing_found, one_found, widening_found}
use Rattle.mlir_roundtrip.proofs.Rows.{IsSmall}
use Rattle.mlir_roundtrip.proofs.Regions.{all_last, all_split}
use Rattle.mlir_roundtrip.proofs.MapUses.{AreNamed}
use Rattle.mlir_roundtrip.proofs.Placing.{AreApart, AreOpen, IsSmallElem, close_end, close_opens, close_piece, comma_opens, commas_apart, each_apart, elem_end, elem_name, elem_typed, given_name}

-- ---- payloads

block_arg_apart : (a : ℕ) (e : ElemTy) → a < 2 ^ 64 → IsSmallElem e → IsApart (block_arg_at a e).pieces
block_arg_apart a e s t = leaf_name classes.NewValue (arg_name a s) (fixed_opens lexemes.Colon refl) (elem_typed e t)

next_arg_apart : (a : ℕ) (e : ElemTy) → a < 2 ^ 64 → IsSmallElem e → IsApart (next_arg_at a e).pieces
next_arg_apart a e s t = leaf_name (classes.Exactly lexemes.Comma) (lexeme_name lexemes.Comma refl) space_opens (space (block_arg_apart a e s t))

next_args_apart : (a : ℕ) (es : List ElemTy) (out : ElemTy) → a + length es < 2 ^ 64 → AllByRecursion IsSmallElem es → IsSmallElem out → AreApart (next_args_at a es out) × AreOpen (next_args_at a es out)
next_args_apart a [] out s t u = ((next_arg_apart a out (omega arith) u, tt), (comma_opens, tt))
next_args_apart a (e ∷ es) out s t u = let r = next_args_apart (a + 1) es out (omega arith) t.1 u in ((next_arg_apart a e (omega arith) t.0, r.0), (comma_opens, r.1))

args_with_apart : (a : ℕ) (e : ElemTy) (more : List (Writer NextArg)) → a < 2 ^ 64 → IsSmallElem e → AreApart more → AreOpen more → IsApart ((block_arg_at a e).pieces ++ ((each_of more).pieces ++ close_piece ∷ []))
args_with_apart a e more s t m o =
    let r = each_apart more m o in
    append_apart (block_arg_at a e).pieces ((each_of more).pieces ++ close_piece ∷ []) (block_arg_apart a e s t) (append_opens (each_of more).pieces (close_piece ∷ []) r.1 close_opens) (append_apart (each_of more).pieces (close_piece ∷ []) r.0 close_opens close_end)

block_args_apart : (a : ℕ) (es : List ElemTy) (out : ElemTy) → a + length es < 2 ^ 64 → AllByRecursion IsSmallElem es → IsSmallElem out → IsApart (block_args_at a es out).pieces
block_args_apart a [] out s t u = args_with_apart a out [] (omega arith) u tt tt
block_args_apart a (e ∷ es) out s t u = let r = next_args_apart (a + 1) es out (omega arith) t.1 u in args_with_apart a e (next_args_at (a + 1) es out) (omega arith) t.0 r.0 r.1

-- ---- words and numbers of a payload

binary_name : (op : BinOp) → IsName Word (binary_text op)
binary_name binaries.Addi = word_name 97 (codes "rith.addi") refl refl refl (λ rest. refl) refl
binary_name binaries.Subi = word_name 97 (codes "rith.subi") refl refl refl (λ rest. refl) refl
binary_name binaries.Muli = word_name 97 (codes "rith.muli") refl refl refl (λ rest. refl) refl
binary_name binaries.Divsi = word_name 97 (codes "rith.divsi") refl refl refl (λ rest. refl) refl
binary_name binaries.Divui = word_name 97 (codes "rith.divui") refl refl refl (λ rest. refl) refl
binary_name binaries.Remsi = word_name 97 (codes "rith.remsi") refl refl refl (λ rest. refl) refl
binary_name binaries.Remui = word_name 97 (codes "rith.remui") refl refl refl (λ rest. refl) refl
binary_name binaries.Andi = word_name 97 (codes "rith.andi") refl refl refl (λ rest. refl) refl
binary_name binaries.Ori = word_name 97 (codes "rith.ori") refl refl refl (λ rest. refl) refl
binary_name binaries.Xori = word_name 97 (codes "rith.xori") refl refl refl (λ rest. refl) refl
binary_name binaries.Shli = word_name 97 (codes "rith.shli") refl refl refl (λ rest. refl) refl
binary_name binaries.Shrsi = word_name 97 (codes "rith.shrsi") refl refl refl (λ rest. refl) refl
binary_name binaries.Shrui = word_name 97 (codes "rith.shrui") refl refl refl (λ rest. refl) refl
binary_name binaries.Maxsi = word_name 97 (codes "rith.maxsi") refl refl refl (λ rest. refl) refl
binary_name binaries.Maxui = word_name 97 (codes "rith.maxui") refl refl refl (λ rest. refl) refl
binary_name binaries.Minsi = word_name 97 (codes "rith.minsi") refl refl refl (λ rest. refl) refl
binary_name binaries.Minui = word_name 97 (codes "rith.minui") refl refl refl (λ rest. refl) refl

predicate_name : (k : Predicate) → IsName Word (predicate_text k)
predicate_name predicates.Eq = word_name 101 (codes "q") refl refl refl (λ rest. refl) refl
predicate_name predicates.Ne = word_name 110 (codes "e") refl refl refl (λ rest. refl) refl
predicate_name predicates.Slt = word_name 115 (codes "lt") refl refl refl (λ rest. refl) refl
predicate_name predicates.Sle = word_name 115 (codes "le") refl refl refl (λ rest. refl) refl
predicate_name predicates.Sgt = word_name 115 (codes "gt") refl refl refl (λ rest. refl) refl
predicate_name predicates.Sge = word_name 115 (codes "ge") refl refl refl (λ rest. refl) refl
predicate_name predicates.Ult = word_name 117 (codes "lt") refl refl refl (λ rest. refl) refl
predicate_name predicates.Ule = word_name 117 (codes "le") refl refl refl (λ rest. refl) refl
predicate_name predicates.Ugt = word_name 117 (codes "gt") refl refl refl (λ rest. refl) refl
predicate_name predicates.Uge = word_name 117 (codes "ge") refl refl refl (λ rest. refl) refl

cast_name : (k : Cast) → IsName Word (cast_text k)
cast_name changes.SignExtend = word_name 97 (codes "rith.extsi") refl refl refl (λ rest. refl) refl
cast_name changes.ZeroExtend = word_name 97 (codes "rith.extui") refl refl refl (λ rest. refl) refl
cast_name changes.Truncate = word_name 97 (codes "rith.trunci") refl refl refl (λ rest. refl) refl

pub truth_name : (v : ℕ) → IsName Word (truth_text v)
truth_name zero = word_name 102 (codes "alse") refl refl refl (λ rest. refl) refl
truth_name (suc v) = word_name 116 (codes "rue") refl refl refl (λ rest. refl) refl

-- no digit goes on from a minus
pub minus_before : (ds behind rest : List ℕ) → 0 < length ds → AllDigits 10 ds → Ends Mark (codes "-") ((ds ++ behind) ++ rest)
minus_before [] behind rest some a = absurd (omega arith)
minus_before (d ∷ ds) behind rest some a =
    let r = digit_from_value d a.0 in
    let hi = r.1 in
    let other : nat_eq d 62 ≡ false = ne_eqb d 62 (λ q. absurd (omega (arith, q, hi))) in
    minus_ends d ((ds ++ behind) ++ rest) other

abbrev pub IsSmallNumber : ℤ → Type 0
IsSmallNumber (pos n) = n < 2 ^ 64
IsSmallNumber (negsuc n) = suc n < 2 ^ 64

pub number_apart : (z : ℤ) {ps : List Piece} → IsSmallNumber z → Opens ps → IsApart ps → IsApart ((number_at z).pieces ++ ps)
number_apart (pos n) s o h = leaf_name classes.Number (decimal_name n s) o h
number_apart (negsuc n) {ps = ps} s o h =
    let more = leaf_name classes.Number (decimal_name (suc n) s) o h in
    let d = decimal_is_IsNumeral (suc n) s in
    record { spaced = λ rest stop. (minus_before (decimal (suc n)) (bytes_of ps) rest d.0.0 d.0.1, more.spaced rest stop) }

literal_apart_if : (b : Bool) (e : ElemTy) (v : ℕ) → IsSmallElem e → IsSmallNumber (signed_of (bits_of e) v) → IsApart (literal_if b e v).pieces
literal_apart_if true e v t s = leaf_name classes.Boolean (truth_name v) none_opens none_apart
literal_apart_if false e v t s = number_apart (signed_of (bits_of e) v) s space_opens (space (elem_typed e t))

bits_small : (e : ElemTy) → is_written e ≡ true → (0 < bits_of e) × (bits_of e ≤ 64)
bits_small (Int w) h = let p = and_parts (nat_le 1 w) (nat_le w 64) h in (leb-true 1 w p.0, leb-true w 64 p.1)
bits_small Index h = (omega arith, omega arith)

written_small : (e : ElemTy) → is_written e ≡ true → IsSmallElem e
written_small (Int w) h = let b = (bits_small (Int w) h).1 in omega arith
written_small Index h = tt

pub number_if : (w v : ℕ) (b : Bool) → nat_lt v (2 ^ (w - 1)) ≡ b → v < 2 ^ w → w ≤ 64 → IsSmallNumber (signed_of w v)
number_if w v true e l le =
    let most : 2 ^ w ≤ 2 ^ 64 = pow_mono le in
    subst (λ z. IsSmallNumber z) (sym (signed-low w v l (ltb-true v (2 ^ (w - 1)) e))) (omega (arith, most))
number_if w v false e l le =
    let most : 2 ^ w ≤ 2 ^ 64 = pow_mono le in
    let high : 2 ^ (w - 1) ≤ v = ltb-false v (2 ^ (w - 1)) e in
    let some : 0 < 2 ^ (w - 1) = pow_pos (w - 1) in
    subst (λ z. IsSmallNumber z) (sym (signed-high w v l high)) (omega (arith, most))

pub literal_apart : (e : ElemTy) (v : ℕ) → is_written e ≡ true → is_value e v ≡ true → IsApart (literal_at e v).pieces
literal_apart e v t h = literal_apart_if (is_elem e (Int 1)) e v (written_small e t) (number_if (bits_of e) v (nat_lt v (2 ^ (bits_of e - 1))) refl (ltb-true v (2 ^ bits_of e) h) (bits_small e t).1)

-- ---- steps

-- names of arguments that the payload has, and types of theirs
abbrev IsSmallStep : List MapShape → (Arg → Given) → (Arg → List ℕ) → ElemTy → StepOp → Type 0
IsSmallStep al name type e (ops.Const v) = is_value e v ≡ true
IsSmallStep al name type e (ops.Index k) = k < 2 ^ 64
IsSmallStep al name type e (ops.Captured k) = ⊥
IsSmallStep al name type e (ops.Linear c ts) = IsName Alias (alias_of al (linear_map c ts)) × AllByRecursion (λ t. IsSmall (name t.0)) ts
IsSmallStep al name type e (ops.Binary op x y) = IsSmall (name x) × IsSmall (name y)
IsSmallStep al name type e (ops.Compare k x y) = IsSmall (name x) × IsSmall (name y) × IsName Word (type x)
IsSmallStep al name type e (ops.Select c x y) = IsSmall (name c) × IsSmall (name x) × IsSmall (name y)
IsSmallStep al name type e (ops.SignExtend x) = IsSmall (name x) × IsName Word (type x)
IsSmallStep al name type e (ops.ZeroExtend x) = IsSmall (name x) × IsName Word (type x)
IsSmallStep al name type e (ops.Truncate x) = IsSmall (name x) × IsName Word (type x)
IsSmallStep al name type e (ops.IndexCast x) = IsSmall (name x) × IsName Word (type x)

type_last : (text : List ℕ) → IsName Word text → IsApart (Fixed lexemes.Colon ∷ Gap (codes " ") ∷ Leaf classes.ElementType Word text ∷ [])
type_last text n = fixed_closed lexemes.Colon refl (space (leaf_name classes.ElementType n none_opens none_apart))

-- two operands and a type
operands_apart_by : (x y : Given) (text : List ℕ) → IsSmall x → IsSmall y → IsName Word text
    → IsApart (Leaf classes.Value Value (given_text x) ∷ Fixed lexemes.Comma ∷ Gap (codes " ") ∷ Leaf classes.Value Value (given_text y) ∷ Gap (codes " ") ∷ Fixed lexemes.Colon ∷ Gap (codes " ") ∷ Leaf classes.ElementType Word text ∷ [])
operands_apart_by x y text sx sy n =
    leaf_name classes.Value (given_name x sx) (fixed_opens lexemes.Comma refl) (fixed_closed lexemes.Comma refl (space
    (leaf_name classes.Value (given_name y sy) space_opens (space (type_last text n)))))

conversion_apart : (name : Arg → Given) (type : Arg → List ℕ) (x : Arg) (e : ElemTy) → IsSmall (name x) → IsName Word (type x) → IsSmallElem e → IsApart (conversion_at name type x e).pieces
conversion_apart name type x e s n t =
    leaf_name classes.Value (given_name (name x) s) space_opens (space (fixed_closed lexemes.Colon refl (space
    (leaf_name classes.ElementType n space_opens (space (fixed_word lexemes.To refl space_opens (space (elem_end e t))))))))

cast_apart : (name : Arg → Given) (type : Arg → List ℕ) (k : Cast) (x : Arg) (e : ElemTy) → IsSmall (name x) → IsName Word (type x) → IsSmallElem e → IsApart (cast_at name type k x e).pieces
cast_apart name type k x e s n t = leaf_name (classes.CastName places.PayloadStep) (cast_name k) space_opens (space (conversion_apart name type x e s n t))

step_word : (l : Lexeme) {ps : List Piece} → is_minus l ≡ false → IsApart ps → IsApart (Leaf (classes.Name places.PayloadStep l) (lexeme_kind l) (lexeme_text l) ∷ Gap (codes " ") ∷ ps)
step_word l e h = leaf_name (classes.Name places.PayloadStep l) (lexeme_name l e) space_opens (space h)

operands_apart : (name : Arg → Given) (ts : List (Arg × ℤ)) → AllByRecursion (λ t. IsSmall (name t.0)) ts → AreApart (map (apply_operand_at name) ts)
operands_apart name [] s = tt
operands_apart name (t ∷ ts) s = (leaf_name classes.Value (given_name (name t.0) s.0) none_opens none_apart, operands_apart name ts s.1)

apply_apart : (al : List MapShape) (name : Arg → Given) (m : MapShape) (ts : List (Arg × ℤ)) → IsName Alias (alias_of al m) → AllByRecursion (λ t. IsSmall (name t.0)) ts → IsApart (apply_at al name m ts).pieces
apply_apart al name m ts n s =
    step_word lexemes.AffineApply refl (leaf_name classes.Alias n (fixed_opens lexemes.OpenParenthesis refl) (fixed_closed lexemes.OpenParenthesis refl
    (append_apart (commas (map (apply_operand_at name) ts)).pieces _ (commas_apart (map (apply_operand_at name) ts) (operands_apart name ts s)) (fixed_opens lexemes.CloseParenthesis refl) (fixed_closed lexemes.CloseParenthesis refl none_apart))))

step_operation_apart : (al : List MapShape) (name : Arg → Given) (type : Arg → List ℕ) (e : ElemTy) (o : StepOp) → is_written e ≡ true → IsSmallStep al name type e o → IsApart (step_operation_at al name type e o).pieces
step_operation_apart al name type e (ops.Const v) t p = step_word lexemes.ArithConstant refl (literal_apart e v t p)
step_operation_apart al name type e (ops.Index k) t p =
    step_word lexemes.LinalgIndex refl (leaf_name classes.Number (decimal_name k p) space_opens (space (fixed_closed lexemes.Colon refl (space (fixed_word lexemes.Index refl none_opens none_apart)))))
step_operation_apart al name type e (ops.Captured k) t p = absurd p
step_operation_apart al name type e (ops.Linear c ts) t p = apply_apart al name (linear_map c ts) ts p.0 p.1
step_operation_apart al name type e (ops.Binary op x y) t p =
    leaf_name (classes.BinaryName places.PayloadStep) (binary_name op) space_opens (space (operands_apart_by (name x) (name y) (elem_text e) p.0 p.1 (elem_name e (written_small e t))))
step_operation_apart al name type e (ops.Compare k x y) t p =
    step_word lexemes.ArithCmpi refl (leaf_name classes.Predicate (predicate_name k) (fixed_opens lexemes.Comma refl) (fixed_closed lexemes.Comma refl (space (operands_apart_by (name x) (name y) (type x) p.0 p.1 p.2))))
step_operation_apart al name type e (ops.Select c x y) t p =
    step_word lexemes.ArithSelect refl (leaf_name classes.Value (given_name (name c) p.0) (fixed_opens lexemes.Comma refl) (fixed_closed lexemes.Comma refl (space (operands_apart_by (name x) (name y) (elem_text e) p.1 p.2 (elem_name e (written_small e t))))))
step_operation_apart al name type e (ops.SignExtend x) t p = cast_apart name type changes.SignExtend x e p.0 p.1 (written_small e t)
step_operation_apart al name type e (ops.ZeroExtend x) t p = cast_apart name type changes.ZeroExtend x e p.0 p.1 (written_small e t)
step_operation_apart al name type e (ops.Truncate x) t p = cast_apart name type changes.Truncate x e p.0 p.1 (written_small e t)
step_operation_apart al name type e (ops.IndexCast x) t p = step_word lexemes.ArithIndexCast refl (conversion_apart name type x e p.0 p.1 (written_small e t))

step_apart : (al : List MapShape) (name : Arg → Given) (type : Arg → List ℕ) (k : ℕ) (e : ElemTy) (o : StepOp) → IsSmall (name (Step k)) → is_written e ≡ true → IsSmallStep al name type e o → IsApart (step_at al name type k e o).pieces
step_apart al name type k e o s t p =
    leaf_name (classes.NewValueAt places.PayloadStatement) (given_name (name (Step k)) s) space_opens (space (fixed_closed lexemes.Equals refl (space (step_operation_apart al name type e o t p))))

-- a line feed and six blanks
line_six : {ps : List Piece} → IsApart ps → IsApart (Gap (codes "\n      ") ∷ ps)
line_six h = gap_apart (refl, (refl, (refl, (refl, (refl, (refl, (refl, tt))))))) h

six_opens : {ps : List Piece} → Opens (Gap (codes "\n      ") ∷ ps)
six_opens = record { opens = λ rest s. refl }

abbrev StepsSmall : List MapShape → (Arg → Given) → (Arg → List ℕ) → ℕ → List PayloadStep → Type 0
StepsSmall al name type k [] = Unit {0}
StepsSmall al name type k (s ∷ ss) = IsSmall (name (Step k)) × (is_written s.ty ≡ true) × IsSmallStep al name type s.ty s.op × StepsSmall al name type (k + 1) ss

steps_apart : (al : List MapShape) (name : Arg → Given) (type : Arg → List ℕ) (k : ℕ) (ss : List PayloadStep) → StepsSmall al name type k ss → AreApart (steps_at al name type k ss) × AreOpen (steps_at al name type k ss)
steps_apart al name type k [] a = (tt, tt)
steps_apart al name type k (s ∷ ss) a = let r = steps_apart al name type (k + 1) ss a.3 in ((line_six (step_apart al name type k s.ty s.op a.0 a.1 a.2), r.0), (six_opens, r.1))

-- what the pieces of a payload need
pub record PayloadSmall (al : List MapShape) (a r : ℕ) (p : PayloadShape) : Type 0 where
  pub args : a + length p.ins < 2 ^ 64
  pub ins : AllByRecursion IsSmallElem p.ins
  pub out : IsSmallElem p.out
  pub steps : StepsSmall al (local_name a (length p.ins) r) (arg_type_in p) 0 p.steps
  pub yielded : IsSmall (local_name a (length p.ins) r p.yielded)

yield_apart : (g : Given) (e : ElemTy) → IsSmall g → IsSmallElem e
    → IsApart (Gap new_line ∷ Leaf (classes.Name places.PayloadStatement lexemes.LinalgYield) (lexeme_kind lexemes.LinalgYield) (lexeme_text lexemes.LinalgYield) ∷ Gap (codes " ") ∷ Leaf classes.Value Value (given_text g) ∷ Gap (codes " ") ∷ Fixed lexemes.Colon ∷ Gap (codes " ") ∷ Leaf classes.ElementType Word (elem_text e) ∷ [])
yield_apart g e s t = line_six (leaf_name (classes.Name places.PayloadStatement lexemes.LinalgYield) (lexeme_name lexemes.LinalgYield refl) space_opens (space (leaf_name classes.Value (given_name g s) space_opens (space (elem_typed e t)))))

pub region_apart : (al : List MapShape) (a r : ℕ) (p : PayloadShape) → PayloadSmall al a r p → IsApart (region_at al a r p).pieces
region_apart al a r p s =
    let st = steps_apart al (local_name a (length p.ins) r) (arg_type_in p) 0 p.steps s.steps in
    let e = each_apart (steps_at al (local_name a (length p.ins) r) (arg_type_in p) 0 p.steps) st.0 st.1 in
    fixed_word lexemes.Bb0 refl (fixed_opens lexemes.OpenParenthesis refl) (fixed_closed lexemes.OpenParenthesis refl
    (append_apart (block_args_at a p.ins p.out).pieces _ (block_args_apart a p.ins p.out s.args s.ins s.out) (fixed_opens lexemes.Colon refl)
    (fixed_closed lexemes.Colon refl (append_apart (each_of (steps_at al (local_name a (length p.ins) r) (arg_type_in p) 0 p.steps)).pieces _ e.0 six_opens (yield_apart (local_name a (length p.ins) r p.yielded) p.out s.yielded s.out)))))

-- ---- what a printable payload keeps

small_at : (es : List ElemTy) (j : ℕ) (e : ElemTy) → AllByRecursion IsSmallElem es → slice_get es j ≡ Some e → IsSmallElem e
small_at [] j e a h = absurd (cc h)
small_at (x ∷ es) zero e a h = let k : x ≡ e = cc h in subst (λ y. IsSmallElem y) k a.0
small_at (x ∷ es) (suc j) e a h = small_at es j e a.1 h

step_at_place : (ss : List PayloadStep) (j : ℕ) (s : PayloadStep) → AllByRecursion (λ t. IsSmallElem t.ty) ss → slice_get ss j ≡ Some s → IsSmallElem s.ty
step_at_place [] j s a h = absurd (cc h)
step_at_place (x ∷ ss) zero s a h = let k : x ≡ s = cc h in subst (λ y. IsSmallElem y.ty) k a.0
step_at_place (x ∷ ss) (suc j) s a h = step_at_place ss j s a.1 h

arg_small : (a r : ℕ) (ins : List ElemTy) (out : ElemTy) (earlier : List PayloadStep) → a + length ins < 2 ^ 64 → r + length earlier < 2 ^ 64 → AllByRecursion IsSmallElem ins → IsSmallElem out → AllByRecursion (λ t. IsSmallElem t.ty) earlier
    → (x : Arg) (t : ElemTy) → arg_type ins out earlier x ≡ Some t → IsSmall (local_name a (length ins) r x) × IsSmallElem t
arg_small a r ins out earlier sa sr si so se (Input j) t h =
    let b = get_below ins j t h in
    (omega arith, small_at ins j t si h)
arg_small a r ins out earlier sa sr si so se Out t h = let e : out ≡ t = cc h in (sa, subst (λ y. IsSmallElem y) e so)
arg_small a r ins out earlier sa sr si so se (Step j) t h =
    let m = mapped (λ (s : PayloadStep). s.ty) (slice_get earlier j) t h in
    let b = get_below earlier j m.0 m.1 in
    (omega arith, subst (λ y. IsSmallElem y) m.2 (step_at_place earlier j m.0 se m.1))

-- what is known of the arguments of a step that stands behind `earlier`
record ArgsSmall (name : Arg → Given) (type : Arg → List ℕ) (at : Arg → Option ElemTy) : Type 0 where
  small : (x : Arg) (t : ElemTy) → at x ≡ Some t → IsSmall (name x)
  named : (x : Arg) (t : ElemTy) → at x ≡ Some t → IsName Word (type x)

terms_small : (name : Arg → Given) (type : Arg → List ℕ) (at : Arg → Option ElemTy) (ts : List (Arg × ℤ)) → ArgsSmall name type at → list_all (term_fits at) ts ≡ true → AllByRecursion (λ t. IsSmall (name t.0)) ts
terms_small name type at [] k h = tt
terms_small name type at (t ∷ ts) k h =
    let p = and_parts (term_fits at t) (list_all (term_fits at) ts) h in
    let q = and_parts (has_type (at t.0) Index) (is_coefficient t.1) p.0 in
    (k.small t.0 Index (found_type (at t.0) Index q.0), terms_small name type at ts k p.1)

step_small : (al : List MapShape) (name : Arg → Given) (type : Arg → List ℕ) (at : Arg → Option ElemTy) (e : ElemTy) (o : StepOp) → ArgsSmall name type at → AreNamed al (op_maps o) → op_fits at e o ≡ true → IsPrintableOp e o → IsSmallStep al name type e o
step_small al name type at e (ops.Const v) k n h p = h
step_small al name type at e (ops.Index j) k n h p = omega arith
step_small al name type at e (ops.Captured j) k n h p = absurd p
step_small al name type at e (ops.Linear c ts) k n h p =
    let q = and_parts (is_elem e Index && is_in_range c) (list_all (term_fits at) ts) h in
    (n.0, terms_small name type at ts k q.1)
step_small al name type at e (ops.Binary op x y) k n h p =
    let q = and_parts (has_type (at x) e) (has_type (at y) e) h in
    (k.small x e (found_type (at x) e q.0), k.small y e (found_type (at y) e q.1))
step_small al name type at e (ops.Compare c x y) k n h p =
    let q = and_parts (is_elem e (Int 1)) (have_one_type (at x) (at y)) h in
    let f = one_found (at x) (at y) q.1 in
    (k.small x f.0 f.1, k.small y f.0 f.2, k.named x f.0 f.1)
step_small al name type at e (ops.Select c x y) k n h p =
    let q = and_parts (has_type (at c) (Int 1) && has_type (at x) e) (has_type (at y) e) h in
    let u = and_parts (has_type (at c) (Int 1)) (has_type (at x) e) q.0 in
    (k.small c (Int 1) (found_type (at c) (Int 1) u.0), k.small x e (found_type (at x) e u.1), k.small y e (found_type (at y) e q.1))
step_small al name type at e (ops.SignExtend x) k n h p = let f = widening_found (at x) e h in (k.small x f.0 f.1, k.named x f.0 f.1)
step_small al name type at e (ops.ZeroExtend x) k n h p = let f = widening_found (at x) e h in (k.small x f.0 f.1, k.named x f.0 f.1)
step_small al name type at e (ops.Truncate x) k n h p = let f = narrowing_found (at x) e h in (k.small x f.0 f.1, k.named x f.0 f.1)
step_small al name type at e (ops.IndexCast x) k n h p = let f = cast_found (at x) e h in (k.small x f.0 f.1, k.named x f.0 f.1)

length_last : {A : Type 0} (xs : List A) (y : A) → length (xs ++ y ∷ []) ≡ length xs + 1
length_last xs y = length-append xs (y ∷ [])

abbrev types_of : List ElemTy → ElemTy → List PayloadStep → Arg → List ℕ
types_of ins out all x = elem_or (arg_type ins out all x)

steps_small : (al : List MapShape) (a r : ℕ) (ins : List ElemTy) (out : ElemTy) (all ss earlier : List PayloadStep) (k : ℕ) → all ≡ earlier ++ ss → k ≡ length earlier → a + length ins < 2 ^ 64 → r + (k + length ss) < 2 ^ 64 → AllByRecursion IsSmallElem ins → IsSmallElem out → AllByRecursion (λ t. IsSmallElem t.ty) earlier
    → AreNamed al (steps_maps ss) → steps_fit ins out ss earlier ≡ true → AllByRecursion IsPrintableStep ss → StepsSmall al (local_name a (length ins) r) (types_of ins out all) k ss × AllByRecursion (λ t. IsSmallElem t.ty) (earlier ++ ss)
steps_small al a r ins out all [] earlier k ends e sa sr si so se named h s = (tt, subst (λ (xs : List PayloadStep). AllByRecursion (λ t. IsSmallElem t.ty) xs) (sym (append-nil earlier)) se)
steps_small al a r ins out all (x ∷ ss) earlier k ends e sa sr si so se named h s =
    let names = all_split (λ m. IsName Alias (alias_of al m)) (op_maps x.op) (steps_maps ss) named in
    let p = and_parts (op_fits (arg_type ins out earlier) x.ty x.op) (steps_fit ins out ss (earlier ++ x ∷ [])) h in
    let args : ArgsSmall (local_name a (length ins) r) (types_of ins out all) (arg_type ins out earlier) = record {
      small = λ y t q. (arg_small a r ins out earlier sa (omega arith) si so se y t q).0;
      named = λ y t q. subst (λ (text : List ℕ). IsName Word text) (sym (arg_text ins out earlier (x ∷ ss) all y t ends q)) (elem_name t (arg_small a r ins out earlier sa (omega arith) si so se y t q).1);
    } in
    let one = step_small al (local_name a (length ins) r) (types_of ins out all) (arg_type ins out earlier) x.ty x.op args names.0 p.0 s.0.op in
    let n : k + 1 ≡ length (earlier ++ x ∷ []) = omega (arith, length_last earlier x) in
    let longer : all ≡ (earlier ++ x ∷ []) ++ ss = ends ∙ sym (append_assoc earlier (x ∷ []) ss) in
    let more = steps_small al a r ins out all ss (earlier ++ x ∷ []) (k + 1) longer n sa (omega arith) si so (all_last (λ t. IsSmallElem t.ty) earlier x se (written_small x.ty s.0.ty)) names.1 p.1 s.1 in
    ((omega arith, s.0.ty, one, more.0), subst (λ (xs : List PayloadStep). AllByRecursion (λ t. IsSmallElem t.ty) xs) (append_assoc earlier (x ∷ []) ss) more.1)

pub payload_small : (al : List MapShape) (a r : ℕ) (p : PayloadShape) → a + length p.ins < 2 ^ 64 → r + length p.steps < 2 ^ 64 → AllByRecursion IsSmallElem p.ins → IsSmallElem p.out → AreNamed al (steps_maps p.steps) → payload_fits p ≡ true → AllByRecursion IsPrintableStep p.steps → PayloadSmall al a r p
payload_small al a r p sa sr si so named h s =
    let q = and_parts (steps_fit p.ins p.out p.steps []) (has_type (arg_type p.ins p.out p.steps p.yielded) p.out) h in
    let st = steps_small al a r p.ins p.out p.steps p.steps [] 0 refl refl sa (omega arith) si so tt named q.0 s in
    record { args = sa; ins = si; out = so; steps = st.0; yielded = (arg_small a r p.ins p.out p.steps sa sr si so st.1 p.yielded p.out (found_type (arg_type p.ins p.out p.steps p.yielded) p.out q.1)).0 }
