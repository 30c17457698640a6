-- A payload that cannot trap gives a value, whatever it is given.
use Rattle.std.proofs.Common.{◌≡◌, ℕ, zero, suc, ◌<◌, ◌≤◌, ◌%◌, ◌^◌, ◌==◌, Bool, true, false, List, [], ◌∷◌, ◌++◌, length, get_or, take, drop, Option, Some, None, refl, ap, sym, ◌∙◌, subst, arith, length-append, ⊎_elim, mod-eq_of_lt}
use Rattle.std.proofs.lemmas.List.{get_or_append_left, get_or_push}
use Rattle.std.proofs.lemmas.Bool.{and_parts, or_parts, or_from, and_right, true≢false, false≢true, cases_lt, ltb-true}
use Rattle.std.proofs.lemmas.Option.{none-some, same_Some}
use Rattle.std.specs.Prelude.{◌&&◌, slice_get}
use Rattle.std.specs.List.{list_any}
use Rattle.std.specs.Option.{option_and_then, option_map}
use Rattle.payload_ops.specs.Bits.{on_values, binary_of, quotient_traps, unless}
use Rattle.mlir_base.specs.Types.{least_signed, minus_one, bits_of, is_value}
use Rattle.payload_laws.specs.Known.{constant_in, constant_of, divisor_may_trap, divides, op_may_trap, may_trap}
use Rattle.payload_laws.specs.Laws.{NeverTraps}
use Rattle.payload_ops.specs.Payload.{IsPayload, has_type, arg_type, op_fits}
use Rattle.payload_ops.specs.Shape.{PayloadShape}
use Rattle.payload_ops.specs.Values.{Given, arg_value, arg_bits, op_value, steps_values}
use Rattle.payload_ops.specs.declared.kinds.BinOp.{BinOp}
use Rattle.payload_ops.specs.declared.kinds.BinOp.TheVariants.{Addi, Subi, Muli, Divsi, Divui, Remsi, Remui, Andi, Ori, Xori, Shli, Shrsi, Shrui, Maxsi, Maxui, Minsi, Minui}
use Rattle.mlir_base.specs.declared.types.ElemTy.{ElemTy}
use Rattle.payload_ops.specs.declared.step.Arg.{Arg}
use Rattle.payload_ops.specs.declared.step.Arg.TheVariants.{Input, Out, Step}
use Rattle.payload_ops.specs.declared.step.PayloadStep.{PayloadStep}
use Rattle.payload_ops.specs.declared.step.StepOp.{StepOp}
use Rattle.payload_ops.specs.declared.step.StepOp.TheVariants.{Const, Index, Captured, Linear, Binary, Compare, Select, SignExtend, ZeroExtend, Truncate, IndexCast}
use Rattle.payload_laws.proofs.Fitted.{fits_at, slice_get-none, slice_get-take}
use Rattle.payload_laws.proofs.Combiners.{same_elem}

any_at : {A : Type 0} (test : A → Bool) (xs : List A) → list_any test xs ≡ false → (k : ℕ) (x : A) → slice_get xs k ≡ Some x → test x ≡ false
any_at test [] h k x e = absurd (slice_get-none k x e)
any_at test (y ∷ ys) h zero x e = subst (λ z. test z ≡ false) (same_Some y x e) (or_parts _ _ h).0
any_at test (y ∷ ys) h (suc k) x e = any_at test ys (or_parts _ _ h).1 k x e

pub drop_front : {A : Type 0} (xs : List A) (m : ℕ) (x : A) (ys : List A) → x ∷ ys ≡ drop m xs → (slice_get xs m ≡ Some x) × (ys ≡ drop (suc m) xs)
drop_front [] zero x ys e = absurd (cc)
drop_front [] (suc m) x ys e = absurd (cc)
drop_front (z ∷ zs) zero x ys e = (cc, cc)
drop_front (z ∷ zs) (suc m) x ys e = drop_front zs m x ys e

-- ---- one operation
gives : (b : Bool) (v : ℕ) → b ≡ false → unless b v ≡ Some v
gives false v h = refl
gives true v h = absurd (true≢false h)

abbrev Value : Option ℕ → Type 0
Value o = (v : ℕ) × (o ≡ Some v)

-- an operation gives a value, where a division has a divisor with which it cannot trap
operation_gives : (op : BinOp) (w a b : ℕ) → (divides op ≡ true → (divisor_may_trap op w (Some b) ≡ false) × (b < 2 ^ w)) → Value (binary_of op w a b)
unfolding on_values
operation_gives Divsi w a b h =
    let safe = h refl in
    let parts = or_parts (b == 0) (b == minus_one w) safe.0 in
    let e : b % 2 ^ w ≡ b = mod-eq_of_lt safe.1 in (
      _,
      gives (quotient_traps w (a % 2 ^ w) (b % 2 ^ w)) _ (or_from (b % 2 ^ w == 0) _ (ap (λ x. x == 0) e ∙ parts.0)
          (and_right (a % 2 ^ w == least_signed w) (b % 2 ^ w == minus_one w) (ap (λ x. x == minus_one w) e ∙ parts.1))),
    )
operation_gives Divui w a b h = let safe = h refl in (_, gives (b % 2 ^ w == 0) _ (ap (λ x. x == 0) (mod-eq_of_lt safe.1) ∙ safe.0))
operation_gives Remsi w a b h = let safe = h refl in (_, gives (b % 2 ^ w == 0) _ (ap (λ x. x == 0) (mod-eq_of_lt safe.1) ∙ safe.0))
operation_gives Remui w a b h = let safe = h refl in (_, gives (b % 2 ^ w == 0) _ (ap (λ x. x == 0) (mod-eq_of_lt safe.1) ∙ safe.0))
operation_gives Addi w a b h = (_, refl)
operation_gives Subi w a b h = (_, refl)
operation_gives Muli w a b h = (_, refl)
operation_gives Andi w a b h = (_, refl)
operation_gives Ori w a b h = (_, refl)
operation_gives Xori w a b h = (_, refl)
operation_gives Shli w a b h = (_, refl)
operation_gives Shrsi w a b h = (_, refl)
operation_gives Shrui w a b h = (_, refl)
operation_gives Maxsi w a b h = (_, refl)
operation_gives Maxui w a b h = (_, refl)
operation_gives Minsi w a b h = (_, refl)
operation_gives Minui w a b h = (_, refl)

-- what is known of the divisor
safe_divisor : (op : BinOp) (w b : ℕ) (o : Option ℕ) → divides op && divisor_may_trap op w o ≡ false → ((n : ℕ) → o ≡ Some n → (b ≡ n) × (n < 2 ^ w)) →
    divides op ≡ true → (divisor_may_trap op w (Some b) ≡ false) × (b < 2 ^ w)
safe_divisor op w b None h known d = absurd (true≢false (sym (λ j. d j && true) ∙ h))
safe_divisor op w b (Some n) h known d =
    let k = known n refl in
    (ap (λ x. divisor_may_trap op w (Some x)) k.0 ∙ sym (ap (λ x. x && divisor_may_trap op w (Some n)) d) ∙ h, omega (arith, k.0, k.1))

-- ---- the steps in turn
module _ (p : PayloadShape) (fits : IsPayload p) (safe : may_trap p ≡ false) (g : Given) where
  -- a step that is a constant has that value
  abbrev HasConstants : List ℕ → Type 0
  HasConstants done = (k n : ℕ) → k < length done → constant_of p.steps (Step k) ≡ Some n → get_or done k 0 ≡ n

  fits_here : (k : ℕ) (s : PayloadStep) → slice_get p.steps k ≡ Some s → op_fits (arg_type p.ins p.out (take k p.steps)) s.ty s.op ≡ true
  fits_here k s at = fits_at p.ins p.out p.steps [] (and_parts _ _ fits).0 k s at

  -- a divisor that is a constant is that constant, and a value of its type
  divisor_is : (m : ℕ) (done : List ℕ) → length done ≡ m → HasConstants done → (ty : ElemTy) (b : Arg) → has_type (arg_type p.ins p.out (take m p.steps) b) ty ≡ true →
      (n : ℕ) → constant_of p.steps b ≡ Some n → (arg_value g done b ≡ n) × (n < 2 ^ bits_of ty)
  divisor_is m done l has ty (Input k) typed n e = absurd (none-some n e)
  divisor_is m done l has ty Out typed n e = absurd (none-some n e)
  divisor_is m done l has ty (Step k) typed n e = found (slice_get (take m p.steps) k) refl typed
    where
      is_constant : (s : PayloadStep) → slice_get p.steps k ≡ Some s → constant_in s.op ≡ Some n
      is_constant s at = sym (ap (option_and_then (λ (s : PayloadStep). constant_in s.op)) at) ∙ e

      value_of : (s : PayloadStep) → slice_get p.steps k ≡ Some s → (o : StepOp) → s.op ≡ o → constant_in o ≡ Some n → n < 2 ^ bits_of s.ty
      value_of s at (Const v) is c =
          let held : is_value s.ty v ≡ true = subst (λ o. op_fits (arg_type p.ins p.out (take k p.steps)) s.ty o ≡ true) is (fits_here k s at) in
          subst (λ x. x < 2 ^ bits_of s.ty) (same_Some v n c) (ltb-true v (2 ^ bits_of s.ty) held)
      value_of s at _ is c = absurd (none-some n c)

      found : (o : Option PayloadStep) → slice_get (take m p.steps) k ≡ o → has_type (option_map (λ (s : PayloadStep). s.ty) o) ty ≡ true → (get_or done k 0 ≡ n) × (n < 2 ^ bits_of ty)
      found None f typed = absurd (false≢true typed)
      found (Some s) f typed =
          let at = slice_get-take p.steps m k s f in
          (has k n (omega (arith, at.0)) e, subst (λ w. n < 2 ^ w) (same_elem s.ty ty typed) (value_of s at.1 s.op refl (is_constant s at.1)))

  step_gives : (m : ℕ) (done : List ℕ) → length done ≡ m → HasConstants done → (s : PayloadStep) → slice_get p.steps m ≡ Some s → (o : StepOp) → s.op ≡ o →
      (v : ℕ) × (op_value (arg_value g done) (arg_bits p) g.point g.outer s.ty o ≡ Some v) × ((n : ℕ) → constant_in o ≡ Some n → v ≡ n)
  unfolding op_value
  step_gives m done l has s at (Binary op a b) is =
      let typed : has_type (arg_type p.ins p.out (take m p.steps) a) s.ty && has_type (arg_type p.ins p.out (take m p.steps) b) s.ty ≡ true =
      subst (λ o. op_fits (arg_type p.ins p.out (take m p.steps)) s.ty o ≡ true) is (fits_here m s at) in
      let trapless : divides op && divisor_may_trap op (bits_of s.ty) (constant_of p.steps b) ≡ false =
      subst (λ o. op_may_trap p.steps s.ty o ≡ false) is (any_at (λ (s : PayloadStep). op_may_trap p.steps s.ty s.op) p.steps safe m s at) in
      let got : Value (binary_of op (bits_of s.ty) (arg_value g done a) (arg_value g done b)) =
      operation_gives op (bits_of s.ty) (arg_value g done a) (arg_value g done b)
      (safe_divisor op (bits_of s.ty) (arg_value g done b) (constant_of p.steps b) trapless (divisor_is m done l has s.ty b (and_parts _ _ typed).1)) in
      (got.0, got.1, λ n c. absurd (none-some n c))
  step_gives m done l has s at (Const v) is = (v, refl, λ n c. same_Some v n c)
  step_gives m done l has s at (Index d) is = (_, refl, λ n c. absurd (none-some n c))
  step_gives m done l has s at (Captured d) is = (_, refl, λ n c. absurd (none-some n c))
  step_gives m done l has s at (Linear z ts) is = (_, refl, λ n c. absurd (none-some n c))
  step_gives m done l has s at (Compare q a b) is = (_, refl, λ n c. absurd (none-some n c))
  step_gives m done l has s at (Select z a b) is = (_, refl, λ n c. absurd (none-some n c))
  step_gives m done l has s at (SignExtend a) is = (_, refl, λ n c. absurd (none-some n c))
  step_gives m done l has s at (ZeroExtend a) is = (_, refl, λ n c. absurd (none-some n c))
  step_gives m done l has s at (Truncate a) is = (_, refl, λ n c. absurd (none-some n c))
  step_gives m done l has s at (IndexCast a) is = (_, refl, λ n c. absurd (none-some n c))

  more_constants : (m : ℕ) (done : List ℕ) → length done ≡ m → HasConstants done → (s : PayloadStep) → slice_get p.steps m ≡ Some s →
      (v : ℕ) → ((n : ℕ) → constant_in s.op ≡ Some n → v ≡ n) → HasConstants (done ++ v ∷ [])
  more_constants m done l has s at v is k n b c = ⊎_elim
      (λ (low : k < length done). get_or_append_left done (v ∷ []) 0 k low ∙ has k n low c)
      (λ (high : length done ≤ k).
      let here : k ≡ m = omega (arith, length-append done (v ∷ [])) in
      get_or_push done v 0 k (omega arith) ∙ is n (sym (ap (option_and_then (λ (s : PayloadStep). constant_in s.op)) (ap (slice_get p.steps) here ∙ at)) ∙ c))
      (cases_lt k (length done))

  pub steps_give : (rest : List PayloadStep) (m : ℕ) (done : List ℕ) → rest ≡ drop m p.steps → length done ≡ m → HasConstants done → (all : List ℕ) × (steps_values p g rest done ≡ Some all)
  steps_give [] m done r l has = (done, refl)
  steps_give (s ∷ rest) m done r l has =
      let front = drop_front p.steps m s rest r in
      let got = step_gives m done l has s front.0 s.op refl in
      let later : (all : List ℕ) × (steps_values p g rest (done ++ got.0 ∷ []) ≡ Some all) =
      steps_give rest (suc m) (done ++ got.0 ∷ []) front.1 (omega (arith, length-append done (got.0 ∷ []))) (more_constants m done l has s front.0 got.0 got.2) in
      (later.0, ap (option_and_then (λ v. steps_values p g rest (done ++ v ∷ []))) got.1 ∙ later.1)

pub never_traps : (p : PayloadShape) → IsPayload p → may_trap p ≡ false → NeverTraps p
never_traps p fits safe g e =
    let all : (all : List ℕ) × (steps_values p g p.steps [] ≡ Some all) = steps_give p fits safe g p.steps 0 [] refl refl (λ k n l c. absurd (omega arith)) in
    none-some _ (sym e ∙ ap (option_map (λ done. arg_value g done p.yielded)) all.1)
