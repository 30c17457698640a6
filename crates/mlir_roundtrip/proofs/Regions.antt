-- The canonical tree of a payload stands for the payload.
use Rattle.std.proofs.Common.{◌≡◌, ◌<◌, ◌≤◌, ◌^◌, ◌⊎◌, inl, inr, subst, ℕ, ◌+◌, suc, zero, true, ◌&&◌, ◌==◌, ℤ, List, [], ◌∷◌, ◌++◌, map, get_or, length, Option, Some, None, Result as Answer, Ok, refl, sym, ap, ◌∙◌, append_assoc, length-append, arith, nat_lt}
use Rattle.std.specs.Prelude.{slice_get}
use Rattle.std.specs.List.{AllByRecursion, list_all}
use Rattle.std.specs.Option.{option_map}
use Rattle.std.proofs.lemmas.Bool.{and_parts, lt-ltb, le-leb, eq-eqb}
use Rattle.std.proofs.lemmas.List.{append-nil, length-map}
use Rattle.mlir_base.specs.declared.types.ElemTy.{ElemTy}
use Rattle.mlir_base.specs.declared.types.ElemTy.TheVariants.{Int, Index}
use Rattle.payload_ops.specs.declared.kinds.BinOp.{BinOp}
use Rattle.payload_ops.specs.declared.kinds.BinOp.TheVariants as binaries
use Rattle.payload_ops.specs.declared.kinds.Predicate.{Predicate}
use Rattle.payload_ops.specs.declared.kinds.Predicate.TheVariants as predicates
use Rattle.payload_ops.specs.declared.step.Arg.{Arg}
use Rattle.payload_ops.specs.declared.step.Arg.TheVariants.{Input, Out, Step as StepArg}
use Rattle.payload_ops.specs.declared.step.StepOp.{StepOp}
use Rattle.payload_ops.specs.declared.step.StepOp.TheVariants as ops
use Rattle.payload_ops.specs.declared.step.PayloadStep.{PayloadStep}
use Rattle.payload_ops.specs.Shape.{PayloadShape}
use Rattle.mlir_base.specs.Types.{is_elem}
use Rattle.payload_ops.specs.Payload.{is_narrower, arg_type, has_type, have_one_type, term_fits, op_fits, steps_fit, payload_fits}
use Rattle.mlir_base.specs.Numbers.{is_in_range, is_coefficient}
use Rattle.affine_maps.specs.Shape.{MapShape}
use Rattle.text_format.specs.Token.{TokenShape}
use Rattle.mlir_syntax.specs.declared.tree.payloads.NextArg.{NextArg}
use Rattle.mlir_syntax.specs.declared.tree.steps.ApplyOperand.{ApplyOperand}
use Rattle.mlir_syntax.specs.declared.tree.payloads.Step.{Step}
use Rattle.mlir_scope.specs.declared.names.Meaning.TheVariants.{Local}
use Rattle.mlir_lex.specs.Chain.{and_then, thread}
use Rattle.mlir_scope.specs.Names.{Entry, entry, find}
use Rattle.mlir_payload.specs.declared.inside.Inside.{Inside}
use Rattle.mlir_lex.specs.declared.fault.Fault.{Fault}
use Rattle.mlir_scope.specs.declared.words.Cast.{Cast}
use Rattle.mlir_scope.specs.declared.words.Cast.TheVariants as changes
use Rattle.mlir_scope.specs.Words.{binary_text, predicate_text, cast_text, named_binary, named_predicate, named_cast}
use Rattle.mlir_payload.specs.Steps.{is_integer, with_step, index_argument, term_on, apply_of, operation_of, step_of, stop_behind, steps_of}
use Rattle.mlir_scope.specs.Maps.{AliasShape}
use Rattle.mlir_payload.specs.Payload.{locals_of, arg_of, more_args, block_args, payload_of}
use Rattle.mlir_print.specs.declared.names.Given.{Given}
use Rattle.mlir_print.specs.Types.{elem_text}
use Rattle.mlir_print.specs.Names.{given_text, local_name}
use Rattle.mlir_print.specs.Maps.{linear_terms, linear_map, op_maps, steps_maps}
use Rattle.text_format.specs.Writers.{Writer, each_of, commas, after_comma}
use Rattle.mlir_print.specs.Payloads.{next_args_at, block_args_at, elem_or, type_in, apply_operand_at, apply_at, operation_at, step_at, steps_at, region_at}
use Rattle.mlir_scope.specs.Literals.{is_written}
use Rattle.mlir_roundtrip.specs.Printable.{IsPrintableOp, IsPrintableStep}
use Rattle.mlir_roundtrip.proofs.Aliases.{MapRead}
use Rattle.mlir_roundtrip.proofs.Numbers.{Good, elem_good, good_read, decimal_value, literal_read}
use Rattle.mlir_roundtrip.proofs.Envs.{arg_name, result_name, find_more, find_new, IsCanon, AreCanon, Small, fresh_arg, fresh_result}
use Rattle.mlir_roundtrip.proofs.Fits.{same_elem, found_type, get_last, mapped, one_found, widening_found, narrowing_found, cast_found, arg_text}

-- ---- lists of trees

-- the trees of these writers, each at some place
abbrev pub Laid : {A : Type 0} → List (Writer A) → List A → Type 0
Laid [] [] = Unit {0}
Laid [] (x ∷ xs) = ⊥
Laid (w ∷ ws) [] = ⊥
Laid (w ∷ ws) (x ∷ xs) = ((at : ℕ) × (x ≡ w.tree at)) × Laid ws xs

pub each_laid : {A : Type 0} (ws : List (Writer A)) (at : ℕ) → Laid ws ((each_of ws).tree at)
each_laid [] at = tt
each_laid (w ∷ ws) at = ((at, refl), each_laid ws _)

-- behind commas
after_laid : {A : Type 0} (ws : List (Writer A)) (xs : List A) → Laid (map after_comma ws) xs → Laid ws xs
after_laid [] [] l = tt
after_laid [] (x ∷ xs) l = absurd l
after_laid (w ∷ ws) [] l = absurd l
after_laid (w ∷ ws) (x ∷ xs) l = ((l.0.0 + 1 + 1, l.0.1), after_laid ws xs l.1)

pub commas_laid : {A : Type 0} (ws : List (Writer A)) (at : ℕ) → Laid ws ((commas ws).tree at)
commas_laid [] at = tt
commas_laid (w ∷ ws) at = ((at, refl), after_laid ws _ (each_laid (map after_comma ws) _))

pub all_last : {A : Type 0} (P : A → Type 0) (xs : List A) (y : A) → AllByRecursion P xs → P y → AllByRecursion P (xs ++ y ∷ [])
all_last P [] y h p = (p, tt)
all_last P (x ∷ xs) y h p = (h.0, all_last P xs y h.1 p)

pub all_both : {A : Type 0} (P : A → Type 0) (xs ys : List A) → AllByRecursion P xs → AllByRecursion P ys → AllByRecursion P (xs ++ ys)
all_both P [] ys h k = k
all_both P (x ∷ xs) ys h k = (h.0, all_both P xs ys h.1 k)

pub all_split : {A : Type 0} (P : A → Type 0) (xs ys : List A) → AllByRecursion P (xs ++ ys) → AllByRecursion P xs × AllByRecursion P ys
all_split P [] ys h = (tt, h)
all_split P (x ∷ xs) ys h = let r = all_split P xs ys h.1 in ((h.0, r.0), r.1)

wider : (a r b s : ℕ) → a ≤ b → r ≤ s → (n : List ℕ) → IsCanon a r n → IsCanon b s n
wider a r b s la lr n (inl p) = inl (p.0, omega (arith, p.1), p.2)
wider a r b s la lr n (inr p) = inr (p.0, omega (arith, p.1), p.2)

pub canon_more : (a r b s : ℕ) → a ≤ b → r ≤ s → (env : List Entry) → AreCanon a r env → AreCanon b s env
canon_more a r b s la lr [] h = tt
canon_more a r b s la lr (e ∷ es) h = (wider a r b s la lr e.name h.0, canon_more a r b s la lr es h.1)

-- ---- the inside of a payload

-- the local's name stands for it
abbrev pub HeldIn : (Arg → Given) → List Entry → Arg → ElemTy → Type 0
HeldIn name env x e = find env (given_text (name x)) ≡ Some (Local x e)

abbrev InputsHeld : (Arg → Given) → List Entry → List ElemTy → Type 0
InputsHeld name env es = (j : ℕ) (e : ElemTy) → slice_get es j ≡ Some e → HeldIn name env (Input j) e

abbrev grown : List Entry → List ℕ → Arg → ElemTy → List Entry
grown env q x e = env ++ entry q (Local x e) ∷ []

inputs_more : (name : Arg → Given) (env more : List Entry) (es : List ElemTy) → InputsHeld name env es → InputsHeld name (env ++ more) es
inputs_more name env more es h j e g = find_more env more (given_text (name (Input j))) (Local (Input j) e) (h j e g)

input_if : (name : Arg → Given) (env more : List Entry) (es : List ElemTy) (e f : ElemTy) (j : ℕ) → InputsHeld name env es → HeldIn name (env ++ more) (Input (length es)) e → (slice_get es j ≡ Some f) ⊎ ((j ≡ length es) × (e ≡ f)) → HeldIn name (env ++ more) (Input j) f
input_if name env more es e f j h n (inl k) = find_more env more (given_text (name (Input j))) (Local (Input j) f) (h j f k)
input_if name env more es e f j h n (inr p) = subst (λ i. HeldIn name (env ++ more) (Input i) f) (sym p.0) (subst (λ g. HeldIn name (env ++ more) (Input (length es)) g) p.1 n)

inputs_last : (name : Arg → Given) (env more : List Entry) (es : List ElemTy) (e : ElemTy) → InputsHeld name env es → HeldIn name (env ++ more) (Input (length es)) e → InputsHeld name (env ++ more) (es ++ e ∷ [])
inputs_last name env more es e h n j f g = input_if name env more es e f j h n (get_last es e f j g)

-- one of the block's arguments, which comes next
arg_goes : (c r : ℕ) (outer env : List Entry) (x : Arg) (e : ElemTy) (name ty : TokenShape) → Small c r → AreCanon c r outer → AreCanon c r env → Good e → name.text ≡ arg_name c → ty.text ≡ elem_text e
    → (arg_of outer env (x, e) name ty ≡ Ok (grown env (arg_name c) x e)) × (find (grown env (arg_name c) x e) (arg_name c) ≡ Some (Local x e)) × AreCanon (c + 1) r (grown env (arg_name c) x e)
arg_goes c r outer env x e name ty small away canon good n t =
    let none = fresh_arg c r env small canon in
    let far = fresh_arg c r outer small away in (
      rw (n, t, far, none, good) refl,
      find_new env (arg_name c) (Local x e) none,
      all_last (λ e. IsCanon (c + 1) r e.name) env (entry (arg_name c) (Local x e)) (canon_more c r (c + 1) r (omega arith) (omega arith) env canon) (inl (c, omega arith, refl)),
    )

pub record Block (name : Arg → Given) (b r : ℕ) (ins : List ElemTy) (out : ElemTy) (env : List Entry) : Type 0 where
  pub inputs : InputsHeld name env ins
  pub output : HeldIn name env Out out
  pub canon : AreCanon b r env

more_go : (close : TokenShape) (a n r k c : ℕ) (es : List ElemTy) (out : ElemTy) (done : List ElemTy) (outer env : List Entry) (xs : List NextArg)
    → c ≡ a + k → k ≡ length done → k + length es ≡ n → a + n < 2 ^ 64 → r < 2 ^ 64 → InputsHeld (local_name a n r) env done → AreCanon c r outer → AreCanon c r env → AllByRecursion Good es → Good out → Laid (next_args_at c es out) xs
    → (env2 : List Entry) × (more_args close outer env (locals_of k es out) xs ≡ Ok env2) × Block (local_name a n r) (a + n + 1) r (done ++ es) out env2
more_go close a n r k c [] out done outer env [] ce ke ne sa sr i away canon ges go l = absurd l
more_go close a n r k c [] out done outer env (x ∷ (y ∷ ys)) ce ke ne sa sr i away canon ges go l = absurd l.1
more_go close a n r k c [] out done outer env (x ∷ []) ce ke ne sa sr i away canon ges go l =
    let same : a + n ≡ c = omega arith in
    let small : Small c r = record { args = omega arith; results = sr } in
    let one = arg_goes c r outer env Out out x.name x.ty small away canon go (ap (λ (y : NextArg). y.name.text) l.0.1) (ap (λ (y : NextArg). y.ty.text) l.0.1) in (
      grown env (arg_name c) Out out,
      rw one.0 refl,
      record {
        inputs = subst (λ (xs : List ElemTy). InputsHeld (local_name a n r) (grown env (arg_name c) Out out) xs) (sym (append-nil done)) (inputs_more (local_name a n r) env (entry (arg_name c) (Local Out out) ∷ []) done i);
        output = ap (λ j. find (grown env (arg_name c) Out out) (arg_name j)) same ∙ one.1;
        canon = canon_more (c + 1) r (a + n + 1) r (omega arith) (omega arith) (grown env (arg_name c) Out out) one.2;
      },
    )
more_go close a n r k c (e ∷ es) out done outer env [] ce ke ne sa sr i away canon ges go l = absurd l
more_go close a n r k c (e ∷ es) out done outer env (x ∷ xs) ce ke ne sa sr i away canon ges go l =
    let small : Small c r = record { args = omega arith; results = sr } in
    let one = arg_goes c r outer env (Input k) e x.name x.ty small away canon ges.0 (ap (λ (y : NextArg). y.name.text) l.0.1) (ap (λ (y : NextArg). y.ty.text) l.0.1) in
    let here : HeldIn (local_name a n r) (grown env (arg_name c) (Input k) e) (Input k) e = ap (λ j. find (grown env (arg_name c) (Input k) e) (arg_name j)) (sym ce) ∙ one.1 in
    let held = inputs_last (local_name a n r) env (entry (arg_name c) (Local (Input k) e) ∷ []) done e i (subst (λ j. HeldIn (local_name a n r) (grown env (arg_name c) (Input k) e) (Input j) e) ke here) in
    let len : suc k ≡ length (done ++ e ∷ []) = omega (arith, length-append done (e ∷ [])) in
    let more = more_go close a n r (suc k) (c + 1) es out (done ++ e ∷ []) outer (grown env (arg_name c) (Input k) e) xs (omega arith) len (omega arith) sa sr held (canon_more c r (c + 1) r (omega arith) (omega arith) outer away) one.2 ges.1 go l.1 in
    (more.0, rw one.0 more.1, subst (λ (ds : List ElemTy). Block (local_name a n r) (a + n + 1) r ds out more.0) (append_assoc done (e ∷ []) es) more.2)

block_goes : (a r : ℕ) (ins : List ElemTy) (out : ElemTy) (outer : List Entry) (at : ℕ) → a + length ins < 2 ^ 64 → r < 2 ^ 64 → AreCanon a r outer → AllByRecursion Good ins → Good out
    → (env2 : List Entry) × (block_args outer [] (locals_of 0 ins out) ((block_args_at a ins out).tree at) ≡ Ok env2) × Block (local_name a (length ins) r) (a + length ins + 1) r ins out env2
block_goes a r [] out outer at sa sr away gs go =
    let small : Small a r = record { args = omega arith; results = sr } in
    let z : a + 0 ≡ a = omega arith in
    let one = arg_goes a r outer [] Out out ((block_args_at a [] out).tree at).first.name ((block_args_at a [] out).tree at).first.ty small away tt go refl refl in (
      grown [] (arg_name a) Out out,
      rw one.0 refl,
      record {
        inputs = λ j e g. absurd (cc g);
        output = ap (λ j. find (grown [] (arg_name a) Out out) (arg_name j)) z ∙ one.1;
        canon = canon_more (a + 1) r (a + 0 + 1) r (omega arith) (omega arith) (grown [] (arg_name a) Out out) one.2;
      },
    )
block_goes a r (e ∷ es) out outer at sa sr away gs go =
    let t = (block_args_at a (e ∷ es) out).tree at in
    let small : Small a r = record { args = omega arith; results = sr } in
    let z : a + 0 ≡ a = omega arith in
    let n = length (e ∷ es) in
    let one = arg_goes a r outer [] (Input 0) e t.first.name t.first.ty small away tt gs.0 refl refl in
    let here : HeldIn (local_name a (length (e ∷ es)) r) (grown [] (arg_name a) (Input 0) e) (Input 0) e = ap (λ j. find (grown [] (arg_name a) (Input 0) e) (arg_name j)) z ∙ one.1 in
    let held = inputs_last (local_name a (length (e ∷ es)) r) [] (entry (arg_name a) (Local (Input 0) e) ∷ []) [] e (λ j f g. absurd (cc g)) here in
    let more = more_go t.close a (length (e ∷ es)) r 1 (a + 1) es out (e ∷ []) outer (grown [] (arg_name a) (Input 0) e) t.more refl refl (omega arith) sa sr held (canon_more a r (a + 1) r (omega arith) (omega arith) outer away) one.2 gs.1 go (each_laid (next_args_at (a + 1) es out) _) in
    (more.0, rw one.0 more.1, more.2)

-- ---- steps

-- what is defined so far is found, and its type's text reads as the type
abbrev LocalsHeld : (Arg → Given) → List Entry → List ElemTy → ElemTy → List PayloadStep → Type 0
LocalsHeld name env ins out earlier = (x : Arg) (e : ElemTy) → arg_type ins out earlier x ≡ Some e → HeldIn name env x e × Good e

good_at : (es : List ElemTy) (j : ℕ) (e : ElemTy) → AllByRecursion Good es → slice_get es j ≡ Some e → Good e
good_at [] j e a h = absurd (cc h)
good_at (x ∷ es) zero e a h = let k : x ≡ e = cc h in subst (λ y. Good y) k a.0
good_at (x ∷ es) (suc j) e a h = good_at es j e a.1 h

locals_first : (name : Arg → Given) (b r : ℕ) (env : List Entry) (ins : List ElemTy) (out : ElemTy) → Block name b r ins out env → AllByRecursion Good ins → Good out → LocalsHeld name env ins out []
locals_first name b r env ins out k gs go (Input j) e h = (k.inputs j e h, good_at ins j e gs h)
locals_first name b r env ins out k gs go Out e h = let q : out ≡ e = cc h in (subst (λ y. HeldIn name env Out y) q k.output, subst (λ y. Good y) q go)
locals_first name b r env ins out k gs go (StepArg j) e h = absurd (cc h)

step_if : (name : Arg → Given) (env more : List Entry) (ins : List ElemTy) (out : ElemTy) (earlier : List PayloadStep) (s t : PayloadStep) (e : ElemTy) (j : ℕ) → LocalsHeld name env ins out earlier → HeldIn name (env ++ more) (StepArg (length earlier)) s.ty → Good s.ty
    → (slice_get earlier j ≡ Some t) ⊎ ((j ≡ length earlier) × (s ≡ t)) → t.ty ≡ e → HeldIn name (env ++ more) (StepArg j) e × Good e
step_if name env more ins out earlier s t e j h n g (inl k) q =
    let o = h (StepArg j) e (ap (option_map (λ (s : PayloadStep). s.ty)) k ∙ ap (λ y. Some y) q) in
    (find_more env more (given_text (name (StepArg j))) (Local (StepArg j) e) o.0, o.1)
step_if name env more ins out earlier s t e j h n g (inr p) q =
    let ty : s.ty ≡ e = ap (λ (y : PayloadStep). y.ty) p.1 ∙ q in
    (subst (λ i. HeldIn name (env ++ more) (StepArg i) e) (sym p.0) (subst (λ y. HeldIn name (env ++ more) (StepArg (length earlier)) y) ty n), subst (λ y. Good y) ty g)

locals_last : (name : Arg → Given) (env more : List Entry) (ins : List ElemTy) (out : ElemTy) (earlier : List PayloadStep) (s : PayloadStep) → LocalsHeld name env ins out earlier → HeldIn name (env ++ more) (StepArg (length earlier)) s.ty → Good s.ty → LocalsHeld name (env ++ more) ins out (earlier ++ s ∷ [])
locals_last name env more ins out earlier s h n g (Input j) e k = let o = h (Input j) e k in (find_more env more (given_text (name (Input j))) (Local (Input j) e) o.0, o.1)
locals_last name env more ins out earlier s h n g Out e k = let o = h Out e k in (find_more env more (given_text (name Out)) (Local Out e) o.0, o.1)
locals_last name env more ins out earlier s h n g (StepArg j) e k =
    let m = mapped (λ (s : PayloadStep). s.ty) (slice_get (earlier ++ s ∷ []) j) e k in
    step_if name env more ins out earlier s m.0 e j h n g (get_last earlier s m.0 j m.1) m.2

-- ---- operations

binary_read : (op : BinOp) → named_binary (binary_text op) ≡ Some op
unfolding named_binary
binary_read binaries.Addi = refl
binary_read binaries.Subi = refl
binary_read binaries.Muli = refl
binary_read binaries.Divsi = refl
binary_read binaries.Divui = refl
binary_read binaries.Remsi = refl
binary_read binaries.Remui = refl
binary_read binaries.Andi = refl
binary_read binaries.Ori = refl
binary_read binaries.Xori = refl
binary_read binaries.Shli = refl
binary_read binaries.Shrsi = refl
binary_read binaries.Shrui = refl
binary_read binaries.Maxsi = refl
binary_read binaries.Maxui = refl
binary_read binaries.Minsi = refl
binary_read binaries.Minui = refl

predicate_read : (k : Predicate) → named_predicate (predicate_text k) ≡ Some k
unfolding named_predicate
predicate_read predicates.Eq = refl
predicate_read predicates.Ne = refl
predicate_read predicates.Slt = refl
predicate_read predicates.Sle = refl
predicate_read predicates.Sgt = refl
predicate_read predicates.Sge = refl
predicate_read predicates.Ult = refl
predicate_read predicates.Ule = refl
predicate_read predicates.Ugt = refl
predicate_read predicates.Uge = refl

cast_read : (k : Cast) → named_cast (cast_text k) ≡ Some k
unfolding named_cast
cast_read changes.SignExtend = refl
cast_read changes.ZeroExtend = refl
cast_read changes.Truncate = refl

abbrev inside : List Entry → List PayloadStep → Inside
inside names steps = record { names = names; steps = steps }

-- what an argument names is found under its name, with the text of its type
abbrev ArgsHeld : (Arg → Given) → (Arg → List ℕ) → List Entry → (Arg → Option ElemTy) → Type 0
ArgsHeld name type names at = (x : Arg) (e : ElemTy) → at x ≡ Some e → HeldIn name names x e × Good e × (type x ≡ elem_text e)

from_integer : (f t : ElemTy) → is_narrower f t ≡ true → is_integer f ≡ true
from_integer (Int w) t h = refl
from_integer Index t h = absurd (cc h)

to_integer : (f t : ElemTy) → is_narrower t f ≡ true → is_integer f ≡ true
to_integer (Int w) t h = refl
to_integer Index (Int w) h = absurd (cc h)
to_integer Index Index h = absurd (cc h)

compare_goes : (alias : List AliasShape) (al : List MapShape) (outer names : List Entry) (steps : List PayloadStep) (name : Arg → Given) (type : Arg → List ℕ) (k : Predicate) (x y : Arg) (e t : ElemTy) (place : ℕ) → HeldIn name names x t → HeldIn name names y t → Good t → type x ≡ elem_text t → Int 1 ≡ e
    → operation_of alias outer None (inside names steps) ((operation_at al name type e (ops.Compare k x y)).tree place) ≡ Ok (inside names steps, record { ty = e; op = ops.Compare k x y })
compare_goes alias al outer names steps name type k x y e t place hx hy g ty one =
    rw (predicate_read k, hx, hy, ty, g) (ap (λ u. Ok (inside names steps, record { ty = u; op = ops.Compare k x y })) one)

-- ---- affine.apply

get_here : {A : Type 0} (front rest : List A) (x d : A) → get_or (front ++ x ∷ rest) (length front) d ≡ x
get_here [] rest x d = refl
get_here (y ∷ front) rest x d = get_here front rest x d

-- each dimension's argument is found again
terms_back : (front : List Arg) (ts : List (Arg × ℤ)) → map (term_on (front ++ map (λ t. t.0) ts)) (linear_terms (length front) ts) ≡ ts
terms_back front [] = refl
terms_back front (t ∷ ts) =
    let longer = append_assoc front (t.0 ∷ []) (map (λ t. t.0) ts) in
    let len : length (front ++ t.0 ∷ []) ≡ suc (length front) = omega (arith, length-append front (t.0 ∷ [])) in
    let more = subst (λ k. map (term_on (front ++ t.0 ∷ map (λ t. t.0) ts)) (linear_terms k ts) ≡ ts) len (subst (λ (xs : List Arg). map (term_on xs) (linear_terms (length (front ++ t.0 ∷ [])) ts) ≡ ts) longer (terms_back (front ++ t.0 ∷ []) ts)) in
    ap (λ x. (x, t.1) ∷ map (term_on (front ++ t.0 ∷ map (λ t. t.0) ts)) (linear_terms (suc (length front)) ts)) (get_here front (map (λ t. t.0) ts) t.0 Out) ∙ ap (λ us. (t.0, t.1) ∷ us) more

operands_go : (outer names : List Entry) (steps : List PayloadStep) (name : Arg → Given) (type : Arg → List ℕ) (at : Arg → Option ElemTy) (ts : List (Arg × ℤ)) (xs : List ApplyOperand) → ArgsHeld name type names at → list_all (term_fits at) ts ≡ true
    → Laid (map (apply_operand_at name) ts) xs → thread (index_argument outer) (inside names steps) xs ≡ Ok (inside names steps, map (λ t. t.0) ts)
operands_go outer names steps name type at [] [] k h l = refl
operands_go outer names steps name type at [] (x ∷ xs) k h l = absurd l
operands_go outer names steps name type at (t ∷ ts) [] k h l = absurd l
operands_go outer names steps name type at (t ∷ ts) (x ∷ xs) k h l =
    let p = and_parts (term_fits at t) (list_all (term_fits at) ts) h in
    let q = and_parts (has_type (at t.0) Index) (is_coefficient t.1) p.0 in
    let held = (k t.0 Index (found_type (at t.0) Index q.0)).0 in
    rw (l.0.1, held, operands_go outer names steps name type at ts xs k p.1 l.1) refl

as_many : {A : Type 0} (ws : List (Writer A)) (xs : List A) → Laid ws xs → length xs ≡ length ws
as_many [] [] l = refl
as_many [] (x ∷ xs) l = absurd l
as_many (w ∷ ws) [] l = absurd l
as_many (w ∷ ws) (x ∷ xs) l = ap suc (as_many ws xs l.1)

apply_goes : (alias : List AliasShape) (al : List MapShape) (outer names : List Entry) (steps : List PayloadStep) (name : Arg → Given) (type : Arg → List ℕ) (at : Arg → Option ElemTy) (c : ℤ) (ts : List (Arg × ℤ)) (place : ℕ) → ArgsHeld name type names at → MapRead alias al (linear_map c ts) → list_all (term_fits at) ts ≡ true
    → apply_of alias outer None (inside names steps) ((apply_at al name (linear_map c ts) ts).tree place) ≡ Ok (inside names steps, record { ty = Index; op = ops.Linear c ts })
apply_goes alias al outer names steps name type at c ts place k m h =
    let laid : Laid (map (apply_operand_at name) ts) ((apply_at al name (linear_map c ts) ts).tree place).operands = commas_laid (map (apply_operand_at name) ts) _ in
    let len : length ((apply_at al name (linear_map c ts) ts).tree place).operands ≡ length ts = as_many (map (apply_operand_at name) ts) _ laid ∙ length-map ts (apply_operand_at name) in
    let count : (length ts == length ((apply_at al name (linear_map c ts) ts).tree place).operands + 0) ≡ true = eq-eqb (length ts) (length ((apply_at al name (linear_map c ts) ts).tree place).operands + 0) (omega (arith, len)) in
    rw (m.1, count, operands_go outer names steps name type at ts _ k h laid, append-nil (map (λ t. t.0) ts), terms_back [] ts) refl

operation_goes : (alias : List AliasShape) (al : List MapShape) (outer names : List Entry) (steps : List PayloadStep) (name : Arg → Given) (type : Arg → List ℕ) (at : Arg → Option ElemTy) (e : ElemTy) (o : StepOp) (place : ℕ) → ArgsHeld name type names at → AllByRecursion (MapRead alias al) (op_maps o) → op_fits at e o ≡ true → is_written e ≡ true → IsPrintableOp e o
    → operation_of alias outer None (inside names steps) ((operation_at al name type e o).tree place) ≡ Ok (inside names steps, record { ty = e; op = o })
operation_goes alias al outer names steps name type at e (ops.Const v) place k m h t p = rw (literal_read e v _ t h p) refl
operation_goes alias al outer names steps name type at e (ops.Index j) place k m h t p =
    let index : e ≡ Index = same_elem e Index h in
    let few = le-leb j 1048576 p in
    let value = decimal_value j (omega (arith, p)) in
    rw (value, few) (ap (λ u. Ok (inside names steps, record { ty = u; op = ops.Index j })) (sym index))
operation_goes alias al outer names steps name type at e (ops.Captured j) place k m h t p = absurd p
operation_goes alias al outer names steps name type at e (ops.Linear c ts) place k m h t p =
    let q = and_parts (is_elem e Index && is_in_range c) (list_all (term_fits at) ts) h in
    let index : e ≡ Index = same_elem e Index (and_parts (is_elem e Index) (is_in_range c) q.0).0 in
    apply_goes alias al outer names steps name type at c ts place k m.0 q.1 ∙ ap (λ u. Ok (inside names steps, record { ty = u; op = ops.Linear c ts })) (sym index)
operation_goes alias al outer names steps name type at e (ops.Binary op x y) place k m h t p =
    let q = and_parts (has_type (at x) e) (has_type (at y) e) h in
    let a = k x e (found_type (at x) e q.0) in
    let b = k y e (found_type (at y) e q.1) in
    rw (binary_read op, a.0, b.0, a.1) refl
operation_goes alias al outer names steps name type at e (ops.Compare c x y) place k m h t p =
    let q = and_parts (is_elem e (Int 1)) (have_one_type (at x) (at y)) h in
    let f = one_found (at x) (at y) q.1 in
    let a = k x f.0 f.1 in
    let b = k y f.0 f.2 in
    compare_goes alias al outer names steps name type c x y e f.0 place a.0 b.0 a.1 a.2 (sym (same_elem e (Int 1) q.0))
operation_goes alias al outer names steps name type at e (ops.Select c x y) place k m h t p =
    let q = and_parts (has_type (at c) (Int 1) && has_type (at x) e) (has_type (at y) e) h in
    let u = and_parts (has_type (at c) (Int 1)) (has_type (at x) e) q.0 in
    let z = k c (Int 1) (found_type (at c) (Int 1) u.0) in
    let a = k x e (found_type (at x) e u.1) in
    let b = k y e (found_type (at y) e q.1) in
    rw (z.0, a.0, b.0, a.1) refl
operation_goes alias al outer names steps name type at e (ops.SignExtend x) place k m h t p =
    let f = widening_found (at x) e h in
    let a = k x f.0 f.1 in
    let i = from_integer f.0 e f.2 in
    rw (cast_read changes.SignExtend, a.0, a.2, a.1, i, good_read e (elem_good e t), f.2) refl
operation_goes alias al outer names steps name type at e (ops.ZeroExtend x) place k m h t p =
    let f = widening_found (at x) e h in
    let a = k x f.0 f.1 in
    let i = from_integer f.0 e f.2 in
    rw (cast_read changes.ZeroExtend, a.0, a.2, a.1, i, good_read e (elem_good e t), f.2) refl
operation_goes alias al outer names steps name type at e (ops.Truncate x) place k m h t p =
    let f = narrowing_found (at x) e h in
    let a = k x f.0 f.1 in
    let i = to_integer f.0 e f.2 in
    rw (cast_read changes.Truncate, a.0, a.2, a.1, i, good_read e (elem_good e t), f.2) refl
operation_goes alias al outer names steps name type at e (ops.IndexCast x) place k m h t p =
    let f = cast_found (at x) e h in
    let a = k x f.0 f.1 in
    rw (a.0, a.2, a.1, good_read e (elem_good e t), f.2) refl

-- ---- steps

abbrev types_of : List ElemTy → ElemTy → List PayloadStep → Arg → List ℕ
types_of ins out all x = elem_or (arg_type ins out all x)

step_goes : (alias : List AliasShape) (al : List MapShape) (outer env : List Entry) (earlier : List PayloadStep) (name : Arg → Given) (type : Arg → List ℕ) (k : ℕ) (t : PayloadStep) (x : Step) (place : ℕ) → x ≡ (step_at al name type k t.ty t.op).tree place
    → find outer (given_text (name (StepArg k))) ≡ None → find env (given_text (name (StepArg k))) ≡ None → nat_lt (length earlier) 1024 ≡ true → ((at : ℕ) → operation_of alias outer None (inside env earlier) ((operation_at al name type t.ty t.op).tree at) ≡ Ok (inside env earlier, t))
    → step_of alias outer None (inside env earlier) x ≡ Ok (with_step (inside env earlier) (given_text (name (StepArg k))) t)
step_goes alias al outer env earlier name type k t x place e far none lt op = rw (e, far, none, lt, op _) refl

no_stop : (xs : List Step) → stop_behind None xs ≡ None
no_stop [] = refl
no_stop (x ∷ xs) = refl

steps_go : (alias : List AliasShape) (al : List MapShape) (a n r b k c : ℕ) (ins : List ElemTy) (out : ElemTy) (all ss earlier : List PayloadStep) (outer env : List Entry) (xs : List Step)
    → all ≡ earlier ++ ss → c ≡ r + k → k ≡ length earlier → b < 2 ^ 64 → c + length ss < 2 ^ 64 → k + length ss ≤ 1024 → AreCanon b c outer → AreCanon b c env → LocalsHeld (local_name a n r) env ins out earlier → steps_fit ins out ss earlier ≡ true → AllByRecursion IsPrintableStep ss → AllByRecursion (MapRead alias al) (steps_maps ss)
    → Laid (steps_at al (local_name a n r) (types_of ins out all) k ss) xs → (env2 : List Entry) × (steps_of alias outer None (inside env earlier) xs ≡ Ok (inside env2 (earlier ++ ss))) × LocalsHeld (local_name a n r) env2 ins out (earlier ++ ss)
steps_go alias al a n r b k c ins out all [] earlier outer env [] ends ce ke sb sc le away canon h f s m l =
    let e = sym (append-nil earlier) in
    (env, ap (λ (ps : List PayloadStep). Ok (inside env ps)) e, subst (λ (ps : List PayloadStep). LocalsHeld (local_name a n r) env ins out ps) e h)
steps_go alias al a n r b k c ins out all [] earlier outer env (x ∷ xs) ends ce ke sb sc le away canon h f s m l = absurd l
steps_go alias al a n r b k c ins out all (t ∷ ss) earlier outer env [] ends ce ke sb sc le away canon h f s m l = absurd l
steps_go alias al a n r b k c ins out all (t ∷ ss) earlier outer env (x ∷ xs) ends ce ke sb sc le away canon h f s m l =
    let maps = all_split (MapRead alias al) (op_maps t.op) (steps_maps ss) m in
    let small : Small b c = record { args = sb; results = omega arith } in
    let e : result_name (r + k) ≡ result_name c = ap result_name (sym ce) in
    let none : find env (result_name (r + k)) ≡ None = ap (find env) e ∙ fresh_result b c env small canon in
    let far : find outer (result_name (r + k)) ≡ None = ap (find outer) e ∙ fresh_result b c outer small away in
    let p = and_parts (op_fits (arg_type ins out earlier) t.ty t.op) (steps_fit ins out ss (earlier ++ t ∷ [])) f in
    let typed : ArgsHeld (local_name a n r) (types_of ins out all) env (arg_type ins out earlier) = λ y u q. let o = h y u q in (o.0, o.1, arg_text ins out earlier (t ∷ ss) all y u ends q) in
    let good = elem_good t.ty s.0.ty in
    let lt : nat_lt (length earlier) 1024 ≡ true = lt-ltb (length earlier) 1024 (omega arith) in
    let op = λ (place : ℕ). operation_goes alias al outer env earlier (local_name a n r) (types_of ins out all) (arg_type ins out earlier) t.ty t.op place typed maps.0 p.0 s.0.ty s.0.op in
    let one = step_goes alias al outer env earlier (local_name a n r) (types_of ins out all) k t x (l.0.0 + 7) l.0.1 far none lt op in
    let held = find_new env (result_name (r + k)) (Local (StepArg (length earlier)) t.ty) none in
    let here : HeldIn (local_name a n r) (grown env (result_name (r + k)) (StepArg (length earlier)) t.ty) (StepArg (length earlier)) t.ty = ap (λ j. find (grown env (result_name (r + k)) (StepArg (length earlier)) t.ty) (result_name (r + j))) (sym ke) ∙ held in
    let more_held = locals_last (local_name a n r) env (entry (result_name (r + k)) (Local (StepArg (length earlier)) t.ty) ∷ []) ins out earlier t h here good in
    let canon2 = all_last (λ e. IsCanon b (suc c) e.name) env (entry (result_name (r + k)) (Local (StepArg (length earlier)) t.ty)) (canon_more b c b (suc c) (omega arith) (omega arith) env canon) (inr (c, omega arith, e)) in
    let away2 = canon_more b c b (suc c) (omega arith) (omega arith) outer away in
    let len : suc k ≡ length (earlier ++ t ∷ []) = omega (arith, length-append earlier (t ∷ [])) in
    let z : k + 1 ≡ suc k = omega arith in
    let longer : all ≡ (earlier ++ t ∷ []) ++ ss = ends ∙ sym (append_assoc earlier (t ∷ []) ss) in
    let more = steps_go alias al a n r b (suc k) (suc c) ins out all ss (earlier ++ t ∷ []) outer (grown env (result_name (r + k)) (StepArg (length earlier)) t.ty) xs longer (omega arith) len sb (omega arith) (omega arith) away2 canon2 more_held p.1 s.1 maps.1
    (subst (λ j. Laid (steps_at al (local_name a n r) (types_of ins out all) j ss) xs) z l.1)
    in
    let same = append_assoc earlier (t ∷ []) ss in (
      more.0,
      ap (λ (o : Option ℕ). and_then (step_of alias outer o (inside env earlier) x) (λ n. steps_of alias outer None n xs)) (no_stop xs)
          ∙ ap (λ (v : Answer Inside Fault). and_then v (λ n. steps_of alias outer None n xs)) one ∙ more.1 ∙ ap (λ (ps : List PayloadStep). Ok (inside more.0 ps)) same,
      subst (λ (ts : List PayloadStep). LocalsHeld (local_name a n r) more.0 ins out ts) same more.2,
    )

-- ---- the region

pub region_found : (alias : List AliasShape) (al : List MapShape) (outer : List Entry) (a r : ℕ) (p : PayloadShape) → AreCanon a r outer → a + length p.ins + 1 < 2 ^ 64 → r + length p.steps < 2 ^ 64 → length p.steps ≤ 1024 → AllByRecursion Good p.ins → Good p.out → payload_fits p ≡ true → AllByRecursion IsPrintableStep p.steps → AllByRecursion (MapRead alias al) (steps_maps p.steps)
    → (at : ℕ) → payload_of alias outer p.ins p.out ((region_at al a r p).tree at) ≡ Ok p
region_found alias al outer a r p canon sa sr le gs go f s m at =
    let n = length p.ins in
    let q = and_parts (steps_fit p.ins p.out p.steps []) (has_type (arg_type p.ins p.out p.steps p.yielded) p.out) f in
    let b = block_goes a r p.ins p.out outer (at + 4 + 1) (omega arith) (omega arith) canon gs go in
    let wide = canon_more a r (a + length p.ins + 1) r (omega arith) (omega arith) outer canon in
    let st = steps_go alias al a (length p.ins) r (a + length p.ins + 1) 0 r p.ins p.out p.steps p.steps [] outer b.0 ((region_at al a r p).tree at).steps refl (omega arith) refl sa sr (omega arith) wide b.2.canon
    (locals_first (local_name a (length p.ins) r) (a + length p.ins + 1) r b.0 p.ins p.out b.2 gs go) q.0 s m (each_laid (steps_at al (local_name a (length p.ins) r) (type_in p) 0 p.steps) _)
    in
    let y = st.2 p.yielded p.out (found_type (arg_type p.ins p.out p.steps p.yielded) p.out q.1) in
    let goes_on : nat_lt ((region_at al a r p).tree at).yield_name.start ((region_at al a r p).tree at).yielded.start ≡ true = lt-ltb _ _ (omega arith) in
    rw (b.1, goes_on, st.1, y.0, go) refl
