-- The parts of a resolved region make a payload.
use Rattle.std.proofs.Common.{◌≡◌, ◌<◌, ℕ, ℤ, ◌+◌, zero, suc, arith, map, get_or, Bool, true, false, List, [], ◌∷◌, ◌++◌, length, drop, Option, Some, None, Result, Ok, refl, sym, ap, subst, ◌∙◌, append_assoc, cond, nat_lt, nat_le}
use Rattle.std.specs.Prelude.{slice_get}
use Rattle.std.specs.List.{AllByRecursion, list_all}
use Rattle.std.specs.Option.{option_map}
use Rattle.std.specs.Str.{bytes_eq}
use Rattle.std.proofs.lemmas.List.{append-nil}
use Rattle.std.proofs.lemmas.Bool.{and_from, and_parts, eq-eqb, eqb-true}
use Rattle.mlir_base.specs.declared.types.ElemTy.{ElemTy}
use Rattle.mlir_base.specs.declared.types.ElemTy.TheVariants.{Int, Index}
use Rattle.payload_ops.specs.declared.step.Arg.{Arg}
use Rattle.payload_ops.specs.declared.step.Arg.TheVariants as args
use Rattle.payload_ops.specs.declared.step.StepOp.TheVariants as ops
use Rattle.payload_ops.specs.declared.step.PayloadStep.{PayloadStep}
use Rattle.mlir_base.specs.Types.{is_elem}
use Rattle.payload_ops.specs.Payload.{is_narrower, is_cast, has_type, have_one_type, is_widening, is_narrowing, arg_type, term_fits, op_fits, steps_fit, IsPayload}
use Rattle.text_format.specs.Token.{TokenShape}
use Rattle.text_format.specs.Types.{element_of}
use Rattle.mlir_syntax.specs.declared.tree.payloads.NextArg.{NextArg}
use Rattle.mlir_syntax.specs.declared.tree.payloads.BlockArgs.{BlockArgs}
use Rattle.mlir_syntax.specs.declared.tree.payloads.Step.{Step}
use Rattle.mlir_syntax.specs.declared.tree.payloads.Region.{Region}
use Rattle.mlir_syntax.specs.declared.tree.steps.Conversion.{Conversion}
use Rattle.mlir_syntax.specs.declared.tree.steps.ApplyOperand.{ApplyOperand}
use Rattle.mlir_syntax.specs.declared.tree.steps.ApplyStep.{ApplyStep}
use Rattle.mlir_syntax.specs.declared.tree.steps.StepOperation.{StepOperation}
use Rattle.mlir_syntax.specs.declared.tree.steps.StepOperation.TheVariants as operations
use Rattle.mlir_base.specs.declared.limit.Which.TheVariants as limits
use Rattle.mlir_lex.specs.declared.fault.Fault.{Fault}
use Rattle.mlir_lex.specs.declared.fault.Fault.TheVariants.{Limit, TypeDiffers, Number}
use Rattle.mlir_scope.specs.declared.words.Cast.{Cast}
use Rattle.mlir_scope.specs.declared.words.Cast.TheVariants as changes
use Rattle.mlir_payload.specs.declared.inside.Inside.{Inside}
use Rattle.mlir_scope.specs.declared.names.Meaning.{Meaning}
use Rattle.mlir_scope.specs.declared.names.Meaning.TheVariants.{Held, Constant, Local}
use Rattle.mlir_lex.specs.Chain.{demand, thread}
use Rattle.affine_maps.specs.declared.map.Expr.{Expr}
use Rattle.affine_maps.specs.Map.{terms_fit, expr_fits}
use Rattle.mlir_scope.specs.Maps.{AliasShape, AreMaps, map_with_symbols, use_start}
use Rattle.mlir_scope.specs.Names.{Entry, entry, find}
use Rattle.mlir_scope.specs.Types.{same_elem}
use Rattle.mlir_scope.specs.Literals.{digits_value, elem_at, literal_of}
use Rattle.mlir_scope.specs.Words.{named_binary, named_predicate, named_cast}
use Rattle.mlir_scope.specs.Scope.{IsHeld, IsOuter}
use Rattle.mlir_payload.specs.Steps.{fresh_in, with_step, constant_step, brought, argument_by, argument, named, converted, is_integer, changes_width, cast_op, symbol_operands, fits_operands, only, one_result, stop_of, fault_of_map, fault_at_stop, index_argument, apply_arguments, term_on, linear, operation_of, name_in, room, step_of, stop_behind, steps_of}
use Rattle.mlir_payload.specs.Payload.{locals_of, arg_of, more_args, block_args, stop_before_yield, parts_of}
use Rattle.mlir_scope.proofs.Keeps.{then_ok, ok_same, demand_ok}
use Rattle.mlir_payload.proofs.Applied.{apply_counted, not_told, applied_fits, terms_are, first_term}
use Rattle.mlir_scope.proofs.MapsFit.{used_is_map}
use Rattle.mlir_scope.proofs.Ranges.{literal_is, literal_value}

-- ---- element types

elem_is : (e : ElemTy) → is_elem e e ≡ true
elem_is (Int w) = eq-eqb w w refl
elem_is Index = refl

elem_same : (x y : ElemTy) → is_elem x y ≡ true → x ≡ y
elem_same (Int v) (Int w) h = ap Int (eqb-true v w h)
elem_same (Int v) Index h = absurd (cc h)
elem_same Index (Int w) h = absurd (cc h)
elem_same Index Index h = refl

has_same : (o : Option ElemTy) (x y : ElemTy) → has_type o x ≡ true → has_type o y ≡ true → x ≡ y
has_same None x y h k = absurd (cc h)
has_same (Some e) x y h k = sym (elem_same e x h) ∙ elem_same e y k

-- one token writes both element types
written_same : (x y : ElemTy) (t : TokenShape) (u v : Unit {0}) → same_elem x t ≡ Ok u → same_elem y t ≡ Ok v → x ≡ y
written_same x y t u v h k = has_same (element_of t.text) x y (demand_ok _ _ u h) (demand_ok _ _ v k)

-- ---- what an argument of the block leaves in scope

arg_keeps : (outer env : List Entry) (m : Arg × ElemTy) (name ty : TokenShape) (inner : List Entry) → arg_of outer env m name ty ≡ Ok inner → inner ≡ env ++ entry name.text (Local m.0 m.1) ∷ []
arg_keeps outer env m name ty inner h =
    let a = then_ok (fresh_in outer env name) _ inner h in
    let c = then_ok (same_elem m.1 ty) _ inner a.2 in
    cc (c.2)

-- ---- what a name of the payload stands for

abbrev Stands : List ElemTy → ElemTy → List PayloadStep → Meaning → Type 0
Stands ins out done (Held n ty) = Unit {0}
Stands ins out done (Constant n e v) = Unit {0}
Stands ins out done (Local a e) = arg_type ins out done a ≡ Some e

abbrev AllStand : List ElemTy → ElemTy → List PayloadStep → List Entry → Type 0
AllStand ins out done env = AllByRecursion (λ e. Stands ins out done e.means) env

abbrev AllArgs : List ElemTy → ElemTy → List (Arg × ElemTy) → Type 0
AllArgs ins out ms = AllByRecursion (λ m. arg_type ins out [] m.0 ≡ Some m.1) ms

stand_append : (ins : List ElemTy) (out : ElemTy) (done : List PayloadStep) (env : List Entry) (e : Entry) → AllStand ins out done env → Stands ins out done e.means → AllStand ins out done (env ++ e ∷ [])
stand_append ins out done [] e h k = (k, tt)
stand_append ins out done (x ∷ env) e h k = (h.0, stand_append ins out done env e h.1 k)

get_more : {X : Type 0} (xs ys : List X) (i : ℕ) (x : X) → slice_get xs i ≡ Some x → slice_get (xs ++ ys) i ≡ Some x
get_more [] ys i x h = absurd (cc h)
get_more (y ∷ xs) ys zero x h = h
get_more (y ∷ xs) ys (suc i) x h = get_more xs ys i x h

get_last : {X : Type 0} (xs : List X) (x : X) → slice_get (xs ++ x ∷ []) (length xs) ≡ Some x
get_last [] x = refl
get_last (y ∷ xs) x = get_last xs x

-- what names a step names it behind further steps
step_more : (o p : Option PayloadStep) (e : ElemTy) → ((s : PayloadStep) → o ≡ Some s → p ≡ Some s) → option_map (λ (s : PayloadStep). s.ty) o ≡ Some e → option_map (λ (s : PayloadStep). s.ty) p ≡ Some e
step_more None p e f h = absurd (cc h)
step_more (Some s) p e f h = ap (option_map (λ (x : PayloadStep). x.ty)) (f s refl) ∙ h

pub arg_more : (ins : List ElemTy) (out : ElemTy) (done more : List PayloadStep) (a : Arg) (e : ElemTy) → arg_type ins out done a ≡ Some e → arg_type ins out (done ++ more) a ≡ Some e
arg_more ins out done more (args.Input k) e h = h
arg_more ins out done more args.Out e h = h
arg_more ins out done more (args.Step k) e h = step_more (slice_get done k) (slice_get (done ++ more) k) e (λ s q. get_more done more k s q) h

stand_more : (ins : List ElemTy) (out : ElemTy) (done more : List PayloadStep) (env : List Entry) → AllStand ins out done env → AllStand ins out (done ++ more) env
stand_more ins out done more [] h = tt
stand_more ins out done more (x ∷ env) h = (one x.means h.0, stand_more ins out done more env h.1)
  where
    one : (m : Meaning) → Stands ins out done m → Stands ins out (done ++ more) m
    one (Held n ty) k = tt
    one (Constant n v w) k = tt
    one (Local a e) k = arg_more ins out done more a e k

found_if : (ins : List ElemTy) (out : ElemTy) (done : List PayloadStep) (b : Bool) (x m : Meaning) (o : Option Meaning) → Stands ins out done x → (o ≡ Some m → Stands ins out done m) → cond b (Some x) o ≡ Some m → Stands ins out done m
found_if ins out done true x m o h f g = subst (λ n. Stands ins out done n) (cc g) h
found_if ins out done false x m o h f g = f g

-- what is found stands for what it says
found_stands : (ins : List ElemTy) (out : ElemTy) (done : List PayloadStep) (env : List Entry) (q : List ℕ) (m : Meaning) → AllStand ins out done env → find env q ≡ Some m → Stands ins out done m
found_stands ins out done [] q m h k = absurd (cc k)
found_stands ins out done (x ∷ env) q m h k = found_if ins out done (bytes_eq x.name q) x.means m (find env q) h.0 (λ g. found_stands ins out done env q m h.1 g) k

-- ---- the arguments of the block

suc_drop : {X : Type 0} (xs : List X) (k : ℕ) (y : X) (ys : List X) → drop k xs ≡ y ∷ ys → (slice_get xs k ≡ Some y) × (drop (suc k) xs ≡ ys)
suc_drop [] zero y ys h = absurd (cc h)
suc_drop [] (suc k) y ys h = absurd (cc h)
suc_drop (x ∷ xs) zero y ys h = (cc h, cc h)
suc_drop (x ∷ xs) (suc k) y ys h = suc_drop xs k y ys h

locals_stand : (ins : List ElemTy) (out : ElemTy) (k : ℕ) (es : List ElemTy) → drop k ins ≡ es → AllArgs ins out (locals_of k es out)
locals_stand ins out k [] h = (refl, tt)
locals_stand ins out k (e ∷ es) h =
    let r = suc_drop ins k e es h in
    (r.0, locals_stand ins out (suc k) es r.1)

arg_stands : (ins : List ElemTy) (out : ElemTy) (outer env : List Entry) (m : Arg × ElemTy) (name ty : TokenShape) (inner : List Entry) → AllStand ins out [] env → arg_type ins out [] m.0 ≡ Some m.1 → arg_of outer env m name ty ≡ Ok inner → AllStand ins out [] inner
arg_stands ins out outer env m name ty inner h k g =
    subst (λ (x : List Entry). AllStand ins out [] x) (sym (arg_keeps outer env m name ty inner g)) (stand_append ins out [] env (entry name.text (Local m.0 m.1)) h k)

more_stand : (ins : List ElemTy) (out : ElemTy) (close : TokenShape) (outer env : List Entry) (ms : List (Arg × ElemTy)) (bs : List NextArg) (inner : List Entry) → AllStand ins out [] env → AllArgs ins out ms → more_args close outer env ms bs ≡ Ok inner → AllStand ins out [] inner
more_stand ins out close outer env [] [] inner h k g = subst (λ (x : List Entry). AllStand ins out [] x) (ok_same env inner g) h
more_stand ins out close outer env [] (b ∷ bs) inner h k g = absurd (cc g)
more_stand ins out close outer env (m ∷ ms) [] inner h k g = absurd (cc g)
more_stand ins out close outer env (m ∷ ms) (b ∷ bs) inner h k g =
    let a = then_ok (arg_of outer env m b.name b.ty) _ inner g in
    more_stand ins out close outer a.0 ms bs inner (arg_stands ins out outer env m b.name b.ty a.0 h k.0 a.1) k.1 a.2

block_stands : (ins : List ElemTy) (out : ElemTy) (outer env : List Entry) (ms : List (Arg × ElemTy)) (b : BlockArgs) (inner : List Entry) → AllStand ins out [] env → AllArgs ins out ms → block_args outer env ms b ≡ Ok inner → AllStand ins out [] inner
block_stands ins out outer env [] b inner h k g = subst (λ (x : List Entry). AllStand ins out [] x) (ok_same env inner g) h
block_stands ins out outer env (m ∷ ms) b inner h k g =
    let a = then_ok (arg_of outer env m b.first.name b.first.ty) _ inner g in
    more_stand ins out b.close outer a.0 ms b.more inner (arg_stands ins out outer env m b.first.name b.first.ty a.0 h k.0 a.1) k.1 a.2

-- ---- the inside

has_elem : (o : Option ElemTy) (x y : ElemTy) → o ≡ Some x → x ≡ y → has_type o y ≡ true
has_elem o x y h e = rw (h, e) (elem_is y)

last_stands : (ins : List ElemTy) (out : ElemTy) (done : List PayloadStep) (p : PayloadStep) → arg_type ins out (done ++ p ∷ []) (args.Step (length done)) ≡ Some p.ty
last_stands ins out done p = rw (get_last done p) refl

fit_last : (ins : List ElemTy) (out : ElemTy) (ss earlier : List PayloadStep) (p : PayloadStep) → steps_fit ins out ss earlier ≡ true → op_fits (arg_type ins out (earlier ++ ss)) p.ty p.op ≡ true → steps_fit ins out (ss ++ p ∷ []) earlier ≡ true
fit_last ins out [] earlier p h k = and_from _ _ (subst (λ (xs : List PayloadStep). op_fits (arg_type ins out xs) p.ty p.op ≡ true) (append-nil earlier) k) refl
fit_last ins out (s ∷ ss) earlier p h k =
    let q = and_parts (op_fits (arg_type ins out earlier) s.ty s.op) (steps_fit ins out ss (earlier ++ s ∷ [])) h in
    and_from _ _ q.0 (fit_last ins out ss (earlier ++ s ∷ []) p q.1 (subst (λ (xs : List PayloadStep). op_fits (arg_type ins out xs) p.ty p.op ≡ true) (sym (append_assoc earlier (s ∷ []) ss)) k))

-- the steps so far fit, and each name stands for what it says
pub record Inner (ins : List ElemTy) (out : ElemTy) (s : Inside) : Type 0 where
  pub fit : steps_fit ins out s.steps [] ≡ true
  pub stand : AllStand ins out s.steps s.names

with_inner : (ins : List ElemTy) (out : ElemTy) (s : Inside) (name : List ℕ) (p : PayloadStep) → Inner ins out s → op_fits (arg_type ins out s.steps) p.ty p.op ≡ true → Inner ins out (with_step s name p)
with_inner ins out s name p h k = record {
  fit = fit_last ins out s.steps [] p h.fit k;
  stand = stand_append ins out (s.steps ++ p ∷ []) s.names (entry name (Local (args.Step (length s.steps)) p.ty)) (stand_more ins out s.steps (p ∷ []) s.names h.stand) (last_stands ins out s.steps p);
}

-- an argument has its type behind the steps that it brings
record Got (ins : List ElemTy) (out : ElemTy) (old : Inside) (r : Inside × (Arg × ElemTy)) : Type 0 where
  inner : Inner ins out r.0
  more : List PayloadStep
  grown : r.0.steps ≡ old.steps ++ more
  typed : arg_type ins out r.0.steps r.1.0 ≡ Some r.1.1

held_if : (b : Bool) (x m : Meaning) (o : Option Meaning) → IsHeld x → (o ≡ Some m → IsHeld m) → cond b (Some x) o ≡ Some m → IsHeld m
held_if true x m o h f g = subst (λ n. IsHeld n) (cc g) h
held_if false x m o h f g = f g

pub found_held : (env : List Entry) (q : List ℕ) (m : Meaning) → IsOuter env → find env q ≡ Some m → IsHeld m
found_held [] q m h k = absurd (cc k)
found_held (x ∷ env) q m h k = held_if (bytes_eq x.name q) x.means m (find env q) h.0 (λ g. found_held env q m h.1 g) k

brought_got : (ins : List ElemTy) (out : ElemTy) (more : ℕ) (s : Inside) (t : TokenShape) (o : Option Meaning) (r : Inside × (Arg × ElemTy)) → Inner ins out s → ((m : Meaning) → o ≡ Some m → IsHeld m) → brought more s t o ≡ Ok r → Got ins out s r
brought_got ins out more s t None r h f g = absurd (cc g)
brought_got ins out more s t (Some (Held n ty)) r h f g = absurd (cc g)
brought_got ins out more s t (Some (Local a e)) r h f g = absurd (cc g)
brought_got ins out more s t (Some (Constant n e v)) r h f g =
    let d = then_ok (demand (nat_lt (length s.steps + more) 1024) (Limit limits.PayloadSteps t.start)) _ r g in
    let fits = literal_value e v (f (Constant n e v) refl) in
    subst (λ (x : Inside × (Arg × ElemTy)). Got ins out s x) (ok_same (with_step s t.text (constant_step e v), (args.Step (length s.steps), e)) r d.2)
    (record { inner = with_inner ins out s t.text (constant_step e v) h fits; more = constant_step e v ∷ []; grown = refl; typed = last_stands ins out s.steps (constant_step e v) })

argument_got : (ins : List ElemTy) (out : ElemTy) (outer : List Entry) (more : ℕ) (s : Inside) (t : TokenShape) (r : Inside × (Arg × ElemTy)) → IsOuter outer → Inner ins out s → argument outer more s t ≡ Ok r → Got ins out s r
argument_got ins out outer more s t r o h g = by (find s.names t.text) refl g
  where
    by : (m : Option Meaning) → find s.names t.text ≡ m → argument_by outer more s t m ≡ Ok r → Got ins out s r
    by None q k = brought_got ins out more s t (find outer t.text) r h (λ m e. found_held outer t.text m o e) k
    by (Some (Held n ty)) q k = absurd (cc k)
    by (Some (Constant n e v)) q k = absurd (cc k)
    by (Some (Local a e)) q k =
        subst (λ (x : Inside × (Arg × ElemTy)). Got ins out s x) (ok_same (s, (a, e)) r k)
        (record { inner = h; more = []; grown = sym (append-nil s.steps); typed = found_stands ins out s.steps s.names t.text (Local a e) h.stand q })

-- what was typed is still typed behind another argument
still : (ins : List ElemTy) (out : ElemTy) (old : Inside) (r : Inside × (Arg × ElemTy)) (a : Arg) (e : ElemTy) → Got ins out old r → arg_type ins out old.steps a ≡ Some e → arg_type ins out r.0.steps a ≡ Some e
still ins out old r a e k h = subst (λ (xs : List PayloadStep). arg_type ins out xs a ≡ Some e) (sym k.grown) (arg_more ins out old.steps k.more a e h)

-- ---- operations

-- a step that fits behind those that it brings
pub record Fitted (ins : List ElemTy) (out : ElemTy) (r : Inside × PayloadStep) : Type 0 where
  pub inner : Inner ins out r.0
  pub fits : op_fits (arg_type ins out r.0.steps) r.1.ty r.1.op ≡ true

fitted : (ins : List ElemTy) (out : ElemTy) (s : Inside) (p : PayloadStep) (r : Inside × PayloadStep) → ◌≡◌ {A = Result (Inside × PayloadStep) Fault} (Ok (s, p)) (Ok r) → Inner ins out s → op_fits (arg_type ins out s.steps) p.ty p.op ≡ true → Fitted ins out r
fitted ins out s p r e h k = subst (λ (x : Inside × PayloadStep). Fitted ins out x) (ok_same (s, p) r e) (record { inner = h; fits = k })

one_type : (o p : Option ElemTy) (x y : ElemTy) → o ≡ Some x → p ≡ Some y → x ≡ y → have_one_type o p ≡ true
one_type o p x y h k e = rw (h, k, e) (elem_is y)

converted_got : (ins : List ElemTy) (out : ElemTy) (outer : List Entry) (s : Inside) (c : Conversion) (r : Inside × (Arg × ElemTy)) → IsOuter outer → Inner ins out s → converted outer s c ≡ Ok r → Got ins out s r
converted_got ins out outer s c r o h g =
    let x = then_ok (argument outer 1 s c.value) _ r g in
    let u = then_ok (same_elem x.0.1.1 c.from) _ r x.2 in
    argument_got ins out outer 1 s c.value r o h (subst (λ (y : Inside × (Arg × ElemTy)). argument outer 1 s c.value ≡ Ok y) (ok_same x.0 r u.2) x.1)

widened : (o : Option ElemTy) (from to : ElemTy) → o ≡ Some from → is_narrower from to ≡ true → is_widening o to ≡ true
widened o from to h k = rw h k

narrowed : (o : Option ElemTy) (from to : ElemTy) → o ≡ Some from → is_narrower to from ≡ true → is_narrowing o to ≡ true
narrowed o from to h k = rw h k

cast_fits : (ins : List ElemTy) (out : ElemTy) (steps : List PayloadStep) (k : Cast) (a : Arg) (from to : ElemTy) → arg_type ins out steps a ≡ Some from → changes_width k from to ≡ true → op_fits (arg_type ins out steps) to (cast_op k a) ≡ true
cast_fits ins out steps changes.SignExtend a from to h g = widened (arg_type ins out steps a) from to h g
cast_fits ins out steps changes.ZeroExtend a from to h g = widened (arg_type ins out steps a) from to h g
cast_fits ins out steps changes.Truncate a from to h g = narrowed (arg_type ins out steps a) from to h g

index_cast_fits : (o : Option ElemTy) (from to : ElemTy) → o ≡ Some from → is_cast (Some from) to ≡ true → is_cast o to ≡ true
index_cast_fits o from to h k = rw h k

-- ---- affine.apply

abbrev AreIndices : List ElemTy → ElemTy → List PayloadStep → List Arg → Type 0
AreIndices ins out done arguments = AllByRecursion (λ a. arg_type ins out done a ≡ Some Index) arguments

indices_more : (ins : List ElemTy) (out : ElemTy) (done more : List PayloadStep) (xs : List Arg) → AreIndices ins out done xs → AreIndices ins out (done ++ more) xs
indices_more ins out done more [] h = tt
indices_more ins out done more (x ∷ xs) h = (arg_more ins out done more x Index h.0, indices_more ins out done more xs h.1)

indices_append : (ins : List ElemTy) (out : ElemTy) (done : List PayloadStep) (xs ys : List Arg) → AreIndices ins out done xs → AreIndices ins out done ys → AreIndices ins out done (xs ++ ys)
indices_append ins out done [] ys h k = k
indices_append ins out done (x ∷ xs) ys h k = (h.0, indices_append ins out done xs ys h.1 k)

-- arguments have type index behind the steps that they bring
record GotIndices (ins : List ElemTy) (out : ElemTy) (old : Inside) (r : Inside × List Arg) : Type 0 where
  inner : Inner ins out r.0
  more : List PayloadStep
  grown : r.0.steps ≡ old.steps ++ more
  typed : AreIndices ins out r.0.steps r.1

-- some arguments, and behind them others
both_got : (ins : List ElemTy) (out : ElemTy) (old : Inside) (x y : Inside × List Arg) → GotIndices ins out old x → GotIndices ins out x.0 y → GotIndices ins out old (y.0, x.1 ++ y.1)
both_got ins out old x y h k = record {
  inner = k.inner;
  more = h.more ++ k.more;
  grown = k.grown ∙ ap (λ (xs : List PayloadStep). xs ++ k.more) h.grown ∙ append_assoc old.steps h.more k.more;
  typed = indices_append ins out y.0.steps x.1 y.1 (subst (λ (xs : List PayloadStep). AreIndices ins out xs x.1) (sym k.grown) (indices_more ins out x.0.steps k.more x.1 h.typed)) k.typed;
}

index_got : (ins : List ElemTy) (out : ElemTy) (outer : List Entry) (s : Inside) (o : ApplyOperand) (r : Inside × Arg) → IsOuter outer → Inner ins out s → index_argument outer s o ≡ Ok r → GotIndices ins out s (r.0, r.1 ∷ [])
index_got ins out outer s o r w h g =
    let x = then_ok (argument outer 1 s o.name) _ r g in
    let u = then_ok (demand (is_elem x.0.1.1 Index) (TypeDiffers o.name.start)) _ r x.2 in
    let k = argument_got ins out outer 1 s o.name x.0 w h x.1 in
    let index : x.0.1.1 ≡ Index = elem_same x.0.1.1 Index (demand_ok _ _ u.0 u.1) in
    subst (λ (y : Inside × Arg). GotIndices ins out s (y.0, y.1 ∷ [])) (ok_same (x.0.0, x.0.1.0) r u.2)
    (record { inner = k.inner; more = k.more; grown = k.grown; typed = (k.typed ∙ ap (λ (e : ElemTy). Some e) index, tt) })

indices_got : (ins : List ElemTy) (out : ElemTy) (outer : List Entry) (s : Inside) (os : List ApplyOperand) (r : Inside × List Arg) → IsOuter outer → Inner ins out s → thread (index_argument outer) s os ≡ Ok r → GotIndices ins out s r
indices_got ins out outer s [] r w h g =
    subst (λ (y : Inside × List Arg). GotIndices ins out s y) (ok_same (s, []) r g) (record { inner = h; more = []; grown = sym (append-nil s.steps); typed = tt })
indices_got ins out outer s (o ∷ os) r w h g =
    let x = then_ok (index_argument outer s o) _ r g in
    let y = then_ok (thread (index_argument outer) x.0.0 os) _ r x.2 in
    let k = index_got ins out outer s o x.0 w h x.1 in
    subst (λ (z : Inside × List Arg). GotIndices ins out s z) (ok_same (y.0.0, x.0.1 ∷ y.0.1) r y.2) (both_got ins out s (x.0.0, x.0.1 ∷ []) y.0 k (indices_got ins out outer x.0.0 os y.0 w k.inner y.1))

apply_got : (ins : List ElemTy) (out : ElemTy) (outer : List Entry) (s : Inside) (a : ApplyStep) (r : Inside × List Arg) → IsOuter outer → Inner ins out s → apply_arguments outer s a ≡ Ok r → GotIndices ins out s r
apply_got ins out outer s a r w h g =
    let x = then_ok (thread (index_argument outer) s a.operands) _ r g in
    let y = then_ok (thread (index_argument outer) x.0.0 (symbol_operands a.symbols)) _ r x.2 in
    let k = indices_got ins out outer s a.operands x.0 w h x.1 in
    subst (λ (z : Inside × List Arg). GotIndices ins out s z) (ok_same (y.0.0, x.0.1 ++ y.0.1) r y.2) (both_got ins out s x.0 y.0 k (indices_got ins out outer x.0.0 (symbol_operands a.symbols) y.0 w k.inner y.1))

one_found : (at : ℕ) (o : Option Expr) (e : Expr) → one_result at o ≡ Ok e → o ≡ Some e
one_found at None e h = absurd (cc h)
one_found at (Some x) e h = ap (λ (y : Expr). Some y) (ok_same x e h)

index_at : (at : Arg → Option ElemTy) (xs : List Arg) (k : ℕ) (d : Arg) → AllByRecursion (λ a. at a ≡ Some Index) xs → k < length xs → at (get_or xs k d) ≡ Some Index
index_at at [] k d h l = absurd (omega (arith, l))
index_at at (x ∷ xs) zero d h l = h.0
index_at at (x ∷ xs) (suc k) d h l = index_at at xs k d h.1 (omega (arith, l))

terms_typed : (at : Arg → Option ElemTy) (xs : List Arg) (low : ℕ) (ts : List (ℕ × ℤ)) → AllByRecursion (λ a. at a ≡ Some Index) xs → terms_fit (length xs) ts low ≡ true → list_all (term_fits at) (map (term_on xs) ts) ≡ true
terms_typed at xs low [] h k = refl
terms_typed at xs low (t ∷ ts) h k =
    let f = first_term (length xs) low t ts k in
    and_from _ _ (and_from _ _ (has_elem (at (get_or xs t.0 args.Out)) Index Index (index_at at xs t.0 args.Out h f.below) refl) f.coefficient) (terms_typed at xs (t.0 + 1) ts h f.others)

linear_fits : (at : Arg → Option ElemTy) (e : Expr) (xs : List Arg) → AllByRecursion (λ a. at a ≡ Some Index) xs → expr_fits (length xs) e ≡ true → op_fits at Index (linear e xs).op ≡ true
linear_fits at e xs h k =
    let p = terms_are (length xs) e k in
    and_from _ _ (and_from _ _ refl p.0) (terms_typed at xs 0 e.terms h p.1)

-- ---- one of the operations

operation_fits : (ins : List ElemTy) (out : ElemTy) (aliases : List AliasShape) (outer : List Entry) (stop : Option ℕ) (s : Inside) (o : StepOperation) (r : Inside × PayloadStep) → AreMaps aliases → IsOuter outer → Inner ins out s → operation_of aliases outer stop s o ≡ Ok r → Fitted ins out r
operation_fits ins out aliases outer stop s (operations.Constant c) r maps w h g =
    let x = then_ok (literal_of c.literal) _ r g in
    fitted ins out s (constant_step x.0.0 x.0.1) r x.2 h (literal_value x.0.0 x.0.1 (literal_is c.literal x.0 x.1))
operation_fits ins out aliases outer stop s (operations.Binary b) r maps w h g =
    let op = then_ok (named b.name.start (named_binary b.name.text)) _ r g in
    let x = then_ok (argument outer 1 s b.left) _ r op.2 in
    let y = then_ok (argument outer 1 x.0.0 b.right) _ r x.2 in
    let u = then_ok (same_elem x.0.1.1 b.ty) _ r y.2 in
    let v = then_ok (same_elem y.0.1.1 b.ty) _ r u.2 in
    let left = argument_got ins out outer 1 s b.left x.0 w h x.1 in
    let right = argument_got ins out outer 1 x.0.0 b.right y.0 w left.inner y.1 in
    let one = written_same y.0.1.1 x.0.1.1 b.ty v.0 u.0 v.1 u.1 in
    fitted ins out y.0.0 (record { ty = x.0.1.1; op = ops.Binary op.0 x.0.1.0 y.0.1.0 }) r v.2 right.inner
    (and_from _ _ (has_elem _ x.0.1.1 x.0.1.1 (still ins out x.0.0 y.0 x.0.1.0 x.0.1.1 right left.typed) refl) (has_elem _ y.0.1.1 x.0.1.1 right.typed one))
operation_fits ins out aliases outer stop s (operations.Compare c) r maps w h g =
    let p = then_ok (named c.predicate.start (named_predicate c.predicate.text)) _ r g in
    let x = then_ok (argument outer 1 s c.left) _ r p.2 in
    let y = then_ok (argument outer 1 x.0.0 c.right) _ r x.2 in
    let u = then_ok (same_elem x.0.1.1 c.ty) _ r y.2 in
    let v = then_ok (same_elem y.0.1.1 c.ty) _ r u.2 in
    let left = argument_got ins out outer 1 s c.left x.0 w h x.1 in
    let right = argument_got ins out outer 1 x.0.0 c.right y.0 w left.inner y.1 in
    let one = written_same x.0.1.1 y.0.1.1 c.ty u.0 v.0 u.1 v.1 in
    fitted ins out y.0.0 (record { ty = Int 1; op = ops.Compare p.0 x.0.1.0 y.0.1.0 }) r v.2 right.inner
    (and_from _ _ refl (one_type _ _ x.0.1.1 y.0.1.1 (still ins out x.0.0 y.0 x.0.1.0 x.0.1.1 right left.typed) right.typed one))
operation_fits ins out aliases outer stop s (operations.Select c) r maps w h g =
    let b = then_ok (argument outer 1 s c.condition) _ r g in
    let x = then_ok (argument outer 1 b.0.0 c.chosen) _ r b.2 in
    let y = then_ok (argument outer 1 x.0.0 c.other) _ r x.2 in
    let u = then_ok (same_elem x.0.1.1 c.ty) _ r y.2 in
    let v = then_ok (same_elem y.0.1.1 c.ty) _ r u.2 in
    let z = then_ok (demand (is_elem b.0.1.1 (Int 1)) (TypeDiffers c.ty.start)) _ r v.2 in
    let truth = argument_got ins out outer 1 s c.condition b.0 w h b.1 in
    let left = argument_got ins out outer 1 b.0.0 c.chosen x.0 w truth.inner x.1 in
    let right = argument_got ins out outer 1 x.0.0 c.other y.0 w left.inner y.1 in
    let one = written_same y.0.1.1 x.0.1.1 c.ty v.0 u.0 v.1 u.1 in
    let cond_typed = still ins out x.0.0 y.0 b.0.1.0 b.0.1.1 right (still ins out b.0.0 x.0 b.0.1.0 b.0.1.1 left truth.typed) in
    fitted ins out y.0.0 (record { ty = x.0.1.1; op = ops.Select b.0.1.0 x.0.1.0 y.0.1.0 }) r z.2 right.inner
    (and_from _ _ (and_from _ _ (has_elem _ b.0.1.1 (Int 1) cond_typed (elem_same b.0.1.1 (Int 1) (demand_ok _ _ z.0 z.1))) (has_elem _ x.0.1.1 x.0.1.1 (still ins out x.0.0 y.0 x.0.1.0 x.0.1.1 right left.typed) refl))
    (has_elem _ y.0.1.1 x.0.1.1 right.typed one))
operation_fits ins out aliases outer stop s (operations.IndexCast c) r maps w h g =
    let x = then_ok (converted outer s c.conversion) _ r g in
    let to = then_ok (elem_at c.conversion.to) _ r x.2 in
    let d = then_ok (demand (is_cast (Some x.0.1.1) to.0) (TypeDiffers c.conversion.to.start)) _ r to.2 in
    let k = converted_got ins out outer s c.conversion x.0 w h x.1 in
    fitted ins out x.0.0 (record { ty = to.0; op = ops.IndexCast x.0.1.0 }) r d.2 k.inner (index_cast_fits (arg_type ins out x.0.0.steps x.0.1.0) x.0.1.1 to.0 k.typed (demand_ok _ _ d.0 d.1))
operation_fits ins out aliases outer stop s (operations.Index i) r maps w h g =
    let d = then_ok (demand (nat_le (digits_value i.dimension.text) 1048576) (Number i.dimension.start i.dimension.start)) _ r g in
    fitted ins out s (record { ty = Index; op = ops.Index (digits_value i.dimension.text) }) r d.2 h refl
operation_fits ins out aliases outer stop s (operations.Apply a) r maps w h g =
    let m = then_ok (map_with_symbols aliases a.map) _ r g in
    let e = then_ok (one_result (use_start a.map) (only m.0.results)) _ r m.2 in
    let u = then_ok (fault_of_map (stop_of a.symbols stop) (fits_operands m.0 a) (use_start a.map)) _ r e.2 in
    let x = then_ok (apply_arguments outer s a) _ r u.2 in
    let v = then_ok (fault_at_stop (stop_of a.symbols stop) (fits_operands m.0 a)) _ r x.2 in
    let k = apply_got ins out outer s a x.0 w h x.1 in
    let fits = not_told (stop_of a.symbols stop) (fits_operands m.0 a) (use_start a.map) u.0 v.0 u.1 v.1 in
    let over = applied_fits m.0 e.0 a x.0.1 (used_is_map aliases a.map m.0 maps m.1) (one_found (use_start a.map) (only m.0.results) e.0 e.1) fits (apply_counted outer s a x.0 x.1) in
    fitted ins out x.0.0 (linear e.0 x.0.1) r v.2 k.inner (linear_fits (arg_type ins out x.0.0.steps) e.0 x.0.1 k.typed over)
operation_fits ins out aliases outer stop s (operations.Cast c) r maps w h g =
    let n = then_ok (named c.name.start (named_cast c.name.text)) _ r g in
    let x = then_ok (converted outer s c.conversion) _ r n.2 in
    let i = then_ok (demand (is_integer x.0.1.1) (TypeDiffers c.conversion.from.start)) _ r x.2 in
    let to = then_ok (elem_at c.conversion.to) _ r i.2 in
    let d = then_ok (demand (changes_width n.0 x.0.1.1 to.0) (TypeDiffers c.conversion.to.start)) _ r to.2 in
    let k = converted_got ins out outer s c.conversion x.0 w h x.1 in
    fitted ins out x.0.0 (record { ty = to.0; op = cast_op n.0 x.0.1.0 }) r d.2 k.inner (cast_fits ins out x.0.0.steps n.0 x.0.1.0 x.0.1.1 to.0 k.typed (demand_ok _ _ d.0 d.1))

-- ---- the whole

steps_inner : (ins : List ElemTy) (out : ElemTy) (aliases : List AliasShape) (outer : List Entry) (stop : Option ℕ) (s : Inside) (ts : List Step) (y : Inside) → AreMaps aliases → IsOuter outer → Inner ins out s → steps_of aliases outer stop s ts ≡ Ok y → Inner ins out y
steps_inner ins out aliases outer stop s [] y maps o h g = subst (λ x. Inner ins out x) (ok_same s y g) h
steps_inner ins out aliases outer stop s (t ∷ ts) y maps o h g =
    let n = then_ok (step_of aliases outer (stop_behind stop ts) s t) _ y g in
    let f = then_ok (fresh_in outer s.names t.result) _ n.0 n.1 in
    let d = then_ok (room s (name_in t.operation)) _ n.0 f.2 in
    let p = then_ok (operation_of aliases outer (stop_behind stop ts) s t.operation) _ n.0 d.2 in
    let k = operation_fits ins out aliases outer (stop_behind stop ts) s t.operation p.0 maps o h p.1 in
    steps_inner ins out aliases outer stop n.0 ts y maps o (subst (λ x. Inner ins out x) (ok_same (with_step p.0.0 t.result.text p.0.1) n.0 p.2) (with_inner ins out p.0.0 t.result.text p.0.1 k.inner k.fits)) n.2

joined : (ins : List ElemTy) (out : ElemTy) (ps : List PayloadStep) (a : Arg) (p : List PayloadStep × Arg) → steps_fit ins out ps [] ≡ true → has_type (arg_type ins out ps a) out ≡ true → (ps, a) ≡ p → IsPayload (record { ins = ins; out = out; steps = p.0; yielded = p.1 })
joined ins out ps a p f t e = subst (λ (x : List PayloadStep × Arg). IsPayload (record { ins = ins; out = out; steps = x.0; yielded = x.1 })) e (and_from _ _ f t)

-- the parts of a resolved region fit
pub parts_fit : (aliases : List AliasShape) (outer : List Entry) (ins : List ElemTy) (out : ElemTy) (region : Region) (p : List PayloadStep × Arg) → AreMaps aliases → IsOuter outer → parts_of aliases outer ins out region ≡ Ok p → IsPayload (record { ins = ins; out = out; steps = p.0; yielded = p.1 })
parts_fit aliases outer ins out region p maps h g =
    let a = then_ok (block_args outer [] (locals_of 0 ins out) region.args) _ p g in
    let s = then_ok (steps_of aliases outer (stop_before_yield region) (record { names = a.0; steps = [] }) region.steps) _ p a.2 in
    let y = then_ok (argument outer 0 s.0 region.yielded) _ p s.2 in
    let u = then_ok (same_elem y.0.1.1 region.yield_type) _ p y.2 in
    let v = then_ok (same_elem out region.yield_type) _ p u.2 in
    let names = block_stands ins out outer [] (locals_of 0 ins out) region.args a.0 tt (locals_stand ins out 0 ins refl) a.1 in
    let inner = steps_inner ins out aliases outer (stop_before_yield region) (record { names = a.0; steps = [] }) region.steps s.0 maps h (record { fit = refl; stand = names }) s.1 in
    let k = argument_got ins out outer 0 s.0 region.yielded y.0 h inner y.1 in
    let one = written_same y.0.1.1 out region.yield_type u.0 v.0 u.1 v.1 in
    joined ins out y.0.0.steps y.0.1.0 p k.inner.fit (has_elem (arg_type ins out y.0.0.steps y.0.1.0) y.0.1.1 out k.typed one) (ok_same (y.0.0.steps, y.0.1.0) p v.2)
