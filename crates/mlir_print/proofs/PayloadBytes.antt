-- The pieces of maps, literals and payloads have the bytes that are written.
use Rattle.std.proofs.Common.{◌≡◌, ℕ, ◌+◌, suc, ℤ, pos, negsuc, decimal, Bool, true, false, List, [], ◌∷◌, ◌++◌, map, drop, length, refl, sym, ap, ◌∙◌, append_assoc, codes}
use Rattle.std.proofs.lemmas.List.{append-nil}
use Rattle.mlir_base.specs.declared.types.ElemTy.{ElemTy}
use Rattle.mlir_base.specs.declared.types.ElemTy.TheVariants.{Int}
use Rattle.payload_ops.specs.declared.step.Arg.{Arg}
use Rattle.payload_ops.specs.declared.step.Arg.TheVariants.{Step}
use Rattle.payload_ops.specs.declared.step.StepOp.{StepOp}
use Rattle.payload_ops.specs.declared.step.StepOp.TheVariants as ops
use Rattle.payload_ops.specs.Bits.{signed_of}
use Rattle.mlir_base.specs.Types.{bits_of, is_elem}
use Rattle.payload_ops.specs.declared.step.PayloadStep.{PayloadStep}
use Rattle.payload_ops.specs.Shape.{PayloadShape}
use Rattle.affine_maps.specs.Shape.{MapShape}
use Rattle.affine_text.specs.Text.{text_of_map}
use Rattle.text_format.specs.declared.class.Class.TheVariants.{MapToken}
use Rattle.text_format.specs.declared.lexeme.Lexeme.TheVariants.{Greater, CloseParenthesis}
use Rattle.text_format.specs.Lexemes.{lexeme_text}
use Rattle.text_format.specs.Pieces.{Piece, Gap, Fixed, Leaf, bytes_of}
use Rattle.mlir_print.specs.declared.names.Given.TheVariants.{Argument}
use Rattle.mlir_print.specs.Types.{elem_text}
use Rattle.mlir_print.specs.Names.{given_text, local_name}
use Rattle.mlir_print.specs.Maps.{map_token, inner_pieces, written_at, alias_text, alias_of, linear_map, use_at, alias_line_at}
use Rattle.affine_text.specs.Canonical.{map_front}
use Rattle.affine_text.proofs.CanonicalBytes.{map_bytes}
use Rattle.mlir_print.specs.Literals.{number_at, truth_text, literal_if, literal_at, literal_text_if, literal_text}
use Rattle.mlir_print.specs.Payloads.{next_args_at, block_args_at, type_in as arg_type_in, apply_operand_at, apply_at, operation_at as step_operation_at, step_at, steps_at, region_at}
use Rattle.std.specs.Fmt.{signed_decimal}
use Rattle.text_format.specs.Writers.{each_of, commas, after_comma}
use Rattle.mlir_print.specs.MapParts.{use_text, uses_text, alias_line_text}
use Rattle.mlir_print.specs.PayloadParts.{block_args_text, local_text, conversion_text, arguments_text, apply_text, operation_text as step_operation_text, step_text, steps_text, block_text, region_text}
use Rattle.mlir_print.proofs.Texts.{alias_is}

pub bytes_append : (ps qs : List Piece) → bytes_of (ps ++ qs) ≡ bytes_of ps ++ bytes_of qs
bytes_append [] qs = refl
bytes_append (Gap g ∷ ps) qs = ap (λ (bs : List ℕ). g ++ bs) (bytes_append ps qs) ∙ sym (append_assoc g (bytes_of ps) (bytes_of qs))
bytes_append (Fixed l ∷ ps) qs = ap (λ (bs : List ℕ). lexeme_text l ++ bs) (bytes_append ps qs) ∙ sym (append_assoc (lexeme_text l) (bytes_of ps) (bytes_of qs))
bytes_append (Leaf c k t ∷ ps) qs = ap (λ (bs : List ℕ). t ++ bs) (bytes_append ps qs) ∙ sym (append_assoc t (bytes_of ps) (bytes_of qs))

-- ---- maps

more_uses : (al ms : List MapShape) → bytes_of (each_of (map after_comma (map (use_at al) ms))).pieces ≡ uses_text (map text_of_map al) (codes ", ") ms
more_uses al [] = refl
more_uses al (m ∷ ms) = ap (λ (t : List ℕ). codes ", " ++ (t ++ bytes_of (each_of (map after_comma (map (use_at al) ms))).pieces)) (alias_is al m) ∙ ap (λ (t : List ℕ). codes ", " ++ (use_text (map text_of_map al) m ++ t)) (more_uses al ms)

pub uses_bytes : (al ms : List MapShape) → bytes_of (commas (map (use_at al) ms)).pieces ≡ uses_text (map text_of_map al) [] ms
uses_bytes al [] = refl
uses_bytes al (m ∷ ms) = ap (λ (t : List ℕ). t ++ bytes_of (each_of (map after_comma (map (use_at al) ms))).pieces) (alias_is al m) ∙ ap (λ (t : List ℕ). use_text (map text_of_map al) m ++ t) (more_uses al ms)

same_bytes : (ps : List Piece) → bytes_of (map map_token ps) ≡ bytes_of ps
same_bytes [] = refl
same_bytes (Gap g ∷ ps) = ap (λ (t : List ℕ). g ++ t) (same_bytes ps)
same_bytes (Fixed l ∷ ps) = ap (λ (t : List ℕ). lexeme_text l ++ t) (same_bytes ps)
same_bytes (Leaf c k x ∷ ps) = ap (λ (t : List ℕ). x ++ t) (same_bytes ps)

written_bytes : (m : MapShape) → bytes_of (written_at m).pieces ≡ text_of_map m
unfolding inner_pieces map_front
written_bytes m =
    ap (λ (t : List ℕ). codes "affine_map<" ++ t)
    (bytes_append (inner_pieces m) _ ∙ ap (λ (t : List ℕ). t ++ codes ">") (same_bytes (drop 2 (map_front MapToken m))) ∙ sym (bytes_append (drop 2 (map_front MapToken m)) (Fixed Greater ∷ [])))
    ∙ map_bytes MapToken m

pub alias_line_bytes : (n : ℕ) (m : MapShape) → bytes_of (alias_line_at n m).pieces ≡ alias_line_text n (text_of_map m)
alias_line_bytes n m =
    ap (λ (t : List ℕ). alias_text n ++ (codes " = " ++ t)) (bytes_append (written_at m).pieces (Gap (codes "\n") ∷ []) ∙ ap (λ (t : List ℕ). t ++ codes "\n") (written_bytes m))

-- ---- payloads

next_args : (a : ℕ) (es : List ElemTy) (out : ElemTy) → bytes_of (each_of (next_args_at a es out)).pieces ≡ block_args_text (codes ", ") a es out
next_args a [] out = ap (λ (t : List ℕ). codes ", " ++ (given_text (Argument a) ++ (codes ": " ++ t))) (append-nil (elem_text out))
next_args a (e ∷ es) out = simp (next_args (a + 1) es out, append_assoc)

block_args_bytes : (a : ℕ) (es : List ElemTy) (out : ElemTy) → bytes_of (block_args_at a es out).pieces ≡ block_args_text [] a es out ++ codes ")"
block_args_bytes a [] out = simp append_assoc
block_args_bytes a (e ∷ es) out = simp (bytes_append, next_args, append_assoc)

pub number_bytes : (z : ℤ) → bytes_of (number_at z).pieces ≡ signed_decimal z
number_bytes (pos n) = append-nil (decimal n)
number_bytes (negsuc n) = ap (λ (t : List ℕ). 45 ∷ t) (append-nil (decimal (suc n)))

literal_bytes_if : (b : Bool) (e : ElemTy) (v : ℕ) → bytes_of (literal_if b e v).pieces ≡ literal_text_if b e v
literal_bytes_if true e v = append-nil (truth_text v)
literal_bytes_if false e v = bytes_append (number_at (signed_of (bits_of e) v)).pieces _ ∙ simp (number_bytes, append-nil)

pub literal_bytes : (e : ElemTy) (v : ℕ) → bytes_of (literal_at e v).pieces ≡ literal_text e v
literal_bytes e v = literal_bytes_if (is_elem e (Int 1)) e v

more_arguments : (a r : ℕ) (p : PayloadShape) (terms : List (Arg × ℤ)) → bytes_of (each_of (map after_comma (map (apply_operand_at (local_name a (length p.ins) r)) terms))).pieces ≡ arguments_text a r p (codes ", ") terms
more_arguments a r p [] = refl
more_arguments a r p (t ∷ terms) = ap (λ (bs : List ℕ). codes ", " ++ (local_text a r p t.0 ++ bs)) (more_arguments a r p terms)

arguments_bytes : (a r : ℕ) (p : PayloadShape) (terms : List (Arg × ℤ)) → bytes_of (commas (map (apply_operand_at (local_name a (length p.ins) r)) terms)).pieces ≡ arguments_text a r p [] terms
arguments_bytes a r p [] = refl
arguments_bytes a r p (t ∷ terms) = ap (λ (bs : List ℕ). local_text a r p t.0 ++ bs) (more_arguments a r p terms)

apply_bytes : (al : List MapShape) (a r : ℕ) (p : PayloadShape) (m : MapShape) (terms : List (Arg × ℤ)) → bytes_of (apply_at al (local_name a (length p.ins) r) m terms).pieces ≡ apply_text (map text_of_map al) a r p m terms
unfolding apply_text
apply_bytes al a r p m terms =
    ap (λ (t : List ℕ). codes "affine.apply " ++ (alias_of al m ++ (codes "(" ++ t)))
    (bytes_append (commas (map (apply_operand_at (local_name a (length p.ins) r)) terms)).pieces (Fixed CloseParenthesis ∷ []) ∙ ap (λ (t : List ℕ). t ++ codes ")") (arguments_bytes a r p terms))
    ∙ ap (λ (t : List ℕ). codes "affine.apply " ++ (t ++ (codes "(" ++ (arguments_text a r p [] terms ++ codes ")")))) (alias_is al m)

step_operation_bytes : (al : List MapShape) (a r : ℕ) (p : PayloadShape) (e : ElemTy) (o : StepOp) → bytes_of (step_operation_at al (local_name a (length p.ins) r) (arg_type_in p) e o).pieces ≡ step_operation_text (map text_of_map al) a r p e o
unfolding conversion_text
step_operation_bytes al a r p e (ops.Const v) = ap (λ (t : List ℕ). codes "arith.constant " ++ t) (literal_bytes e v)
step_operation_bytes al a r p e (ops.Index k) = refl
step_operation_bytes al a r p e (ops.Captured k) = refl
step_operation_bytes al a r p e (ops.Linear c ts) = apply_bytes al a r p (linear_map c ts) ts
step_operation_bytes al a r p e (ops.Binary op x y) = simp (append_assoc, append-nil)
step_operation_bytes al a r p e (ops.Compare k x y) = simp (append_assoc, append-nil)
step_operation_bytes al a r p e (ops.Select c x y) = simp (append_assoc, append-nil)
step_operation_bytes al a r p e (ops.SignExtend x) = simp (append_assoc, append-nil)
step_operation_bytes al a r p e (ops.ZeroExtend x) = simp (append_assoc, append-nil)
step_operation_bytes al a r p e (ops.Truncate x) = simp (append_assoc, append-nil)
step_operation_bytes al a r p e (ops.IndexCast x) = simp (append_assoc, append-nil)

step_bytes : (al : List MapShape) (a r : ℕ) (p : PayloadShape) (k : ℕ) (e : ElemTy) (o : StepOp) → bytes_of (step_at al (local_name a (length p.ins) r) (arg_type_in p) k e o).pieces ≡ step_text (map text_of_map al) a r p k e o
unfolding step_text
step_bytes al a r p k e o = ap (λ (t : List ℕ). local_text a r p (Step k) ++ (codes " = " ++ t)) (step_operation_bytes al a r p e o)

steps_bytes : (al : List MapShape) (a r : ℕ) (p : PayloadShape) (k : ℕ) (ss : List PayloadStep) → bytes_of (each_of (steps_at al (local_name a (length p.ins) r) (arg_type_in p) k ss)).pieces ≡ steps_text (map text_of_map al) a r p k ss
steps_bytes al a r p k [] = refl
steps_bytes al a r p k (s ∷ ss) =
    ap (λ (t : List ℕ). codes "\n      " ++ t) (bytes_append (step_at al (local_name a (length p.ins) r) (arg_type_in p) k s.ty s.op).pieces (each_of (steps_at al (local_name a (length p.ins) r) (arg_type_in p) (k + 1) ss)).pieces
    ∙ ap (λ (t : List ℕ). t ++ bytes_of (each_of (steps_at al (local_name a (length p.ins) r) (arg_type_in p) (k + 1) ss)).pieces) (step_bytes al a r p k s.ty s.op) ∙ ap (λ (t : List ℕ). step_text (map text_of_map al) a r p k s.ty s.op ++ t) (steps_bytes al a r p (k + 1) ss))

pub region_bytes : (al : List MapShape) (a r : ℕ) (p : PayloadShape) → bytes_of (region_at al a r p).pieces ≡ region_text (map text_of_map al) a r p
unfolding block_text
region_bytes al a r p = simp (bytes_append, block_args_bytes, steps_bytes, append_assoc, append-nil)
