-- What is known of a step before a payload runs is its value; so a payload with a neutral term keeps the output's element.
use Rattle.std.proofs.Common.{◌≡◌, ℕ, zero, suc, ◌*◌, ◌/◌, ◌<◌, ◌%◌, ◌^◌, ◌==◌, Bool, true, false, if◌then◌else◌, ltb, ◌-◌, pos, ◌-ℤ◌, bit_and, bit_or, List, [], ◌∷◌, ◌++◌, length, get_or, Option, Some, None, refl, ap, sym, ◌∙◌, subst, arith, length-append, ⊎_elim, ◌⊎◌, inl, inr, mul_comm, zero-mul}
use Rattle.std.proofs.Math.Nat.{zero-div}
use Rattle.std.proofs.lemmas.List.{get_or_append_left, get_or_push}
use Rattle.std.proofs.lemmas.Nat.{pow_pos, mod_below, or_comm, and_comm, or_lt, le_or_l}
use Rattle.std.proofs.lemmas.Bool.{eqb-true, false≢true, cond_both, cond-true, lt-ltb}
use Rattle.std.proofs.lemmas.Option.{none-some, same_Some, option_and_then_some}
use Rattle.std.specs.Prelude.{slice_get}
use Rattle.std.specs.Int.{int_div_euclid}
use Rattle.std.specs.Option.{option_and_then, option_map}
use Rattle.payload_ops.specs.Bits.{reduce, signed_of, on_values, binary_of, compares, shifted_left, shifted_right, sign_shifted}
use Rattle.mlir_base.specs.Types.{minus_one, least_signed, bits_of}
use Rattle.payload_ops.specs.Combine.{joined}
use Rattle.payload_laws.specs.Combiners.{neutral_of, combining}
use Rattle.payload_laws.specs.Known.{known_arg, where_true, known_first, known_second, known_binary, agreed, known_select, known_compare, known_op, known_steps, is_known_as, term_is_neutral, is_neutral_under, may_trap}
use Rattle.payload_laws.specs.Laws.{AgreesWith, KeepsOutput}
use Rattle.payload_ops.specs.Payload.{IsPayload}
use Rattle.payload_ops.specs.Shape.{PayloadShape}
use Rattle.payload_ops.specs.Values.{Given, arg_value, arg_bits, bit_of, op_value, step_value, steps_values, payload_value}
use Rattle.payload_ops.specs.declared.kinds.BinOp.{BinOp}
use Rattle.payload_ops.specs.declared.kinds.BinOp.TheVariants.{Muli, Andi, Ori, Shli, Shrsi, Shrui}
use Rattle.payload_ops.specs.declared.kinds.Combiner.{Combiner}
use Rattle.mlir_base.specs.declared.types.ElemTy.{ElemTy}
use Rattle.payload_ops.specs.declared.step.Arg.{Arg}
use Rattle.payload_ops.specs.declared.step.Arg.TheVariants.{Input, Out, Step}
use Rattle.payload_ops.specs.declared.step.PayloadStep.{PayloadStep}
use Rattle.payload_ops.specs.declared.step.StepOp.{StepOp}
use Rattle.payload_ops.specs.declared.step.StepOp.TheVariants.{Const, Index, Captured, Linear, Binary, Compare, Select, SignExtend, ZeroExtend, Truncate, IndexCast}
use Rattle.payload_laws.proofs.Fitted.{slice_get-none}
use Rattle.payload_laws.proofs.Joined.{zero_mod, ones_mod, joined_neutral}
use Rattle.payload_laws.proofs.Combiners.{joins_term}
use Rattle.payload_laws.proofs.Traps.{steps_give}

-- ---- one operation with one known argument
where_true_some : (test : Bool) (v w : ℕ) → where_true test v ≡ Some w → (test ≡ true) × (v ≡ w)
where_true_some true v w e = (refl, same_Some v w e)
where_true_some false v w e = absurd (none-some w e)

product_zero : (w a b : ℕ) → a ≡ 0 → a % 2 ^ w * (b % 2 ^ w) % 2 ^ w ≡ 0
product_zero w a b e =
    let z : a % 2 ^ w ≡ 0 = ap (λ n. n % 2 ^ w) e ∙ zero_mod w in
    ap (λ n. n * (b % 2 ^ w) % 2 ^ w) z ∙ ap (λ n. n % 2 ^ w) (zero-mul (b % 2 ^ w)) ∙ zero_mod w

and_zero : (w a b : ℕ) → a ≡ 0 → bit_and (a % 2 ^ w) (b % 2 ^ w) ≡ 0
and_zero w a b e = ap (λ n. bit_and n (b % 2 ^ w)) (ap (λ n. n % 2 ^ w) e ∙ zero_mod w)

or_ones : (w a b : ℕ) → a ≡ minus_one w → bit_or (a % 2 ^ w) (b % 2 ^ w) ≡ a
or_ones w a b e =
    let z : a % 2 ^ w ≡ a = ap (λ n. n % 2 ^ w) e ∙ ones_mod w ∙ sym e in
    omega (arith, le_or_l (a % 2 ^ w) (b % 2 ^ w), or_lt w (a % 2 ^ w) (b % 2 ^ w) (mod_below a (2 ^ w) (pow_pos w)) (mod_below b (2 ^ w) (pow_pos w)))

signed_zero : (w : ℕ) → signed_of w 0 ≡ pos 0
unfolding signed_of
signed_zero w = rw (zero_mod w) (cond-true (ltb 0 (2 ^ (w - 1))) (pos 0) (pos 0 -ℤ pos (2 ^ w)) (lt-ltb 0 (2 ^ (w - 1)) (pow_pos (w - 1))))

shifted_zero : (w b : ℕ) → shifted_left w 0 b ≡ 0
shifted_zero w b = cond_both (ltb b w) (0 * 2 ^ b % 2 ^ w) 0 (λ n. n ≡ 0) (λ e. ap (λ n. n % 2 ^ w) (zero-mul (2 ^ b)) ∙ zero_mod w) (λ e. refl)

right_zero : (w b : ℕ) → shifted_right w 0 b ≡ 0
right_zero w b = cond_both (ltb b w) (0 / 2 ^ b) 0 (λ n. n ≡ 0) (λ e. zero-div (2 ^ b)) (λ e. refl)

reduced_zero : (w : ℕ) → reduce w (pos 0) ≡ 0
unfolding reduce
reduced_zero w = zero_mod w

sign_zero : (w b : ℕ) → sign_shifted w 0 b ≡ 0
sign_zero w b =
    cond_both (ltb b w) (reduce w (int_div_euclid (signed_of w 0) (pos (2 ^ b)))) (if ltb 0 (least_signed w) then 0 else minus_one w) (λ n. n ≡ 0)
    (λ e. ap (λ z. reduce w (int_div_euclid z (pos (2 ^ b)))) (signed_zero w) ∙ ap (λ n. reduce w (pos n)) (zero-div (2 ^ b)) ∙ reduced_zero w)
    (λ e. cond-true (ltb 0 (least_signed w)) 0 (minus_one w) (lt-ltb 0 (least_signed w) (pow_pos (w - 1))))

at_zero : (f : ℕ → ℕ) (w a : ℕ) → f 0 ≡ 0 → a ≡ 0 → f (a % 2 ^ w) ≡ 0
at_zero f w a e z = ap f (ap (λ n. n % 2 ^ w) z ∙ zero_mod w) ∙ e

first_sound : (op : BinOp) (w a b v x : ℕ) → known_first op w a ≡ Some v → binary_of op w a b ≡ Some x → x ≡ v
unfolding on_values
first_sound Muli w a b v x k e = let h = where_true_some (a == 0) 0 v k in sym (same_Some _ x e) ∙ product_zero w a b (eqb-true a 0 h.0) ∙ h.1
first_sound Andi w a b v x k e = let h = where_true_some (a == 0) 0 v k in sym (same_Some _ x e) ∙ and_zero w a b (eqb-true a 0 h.0) ∙ h.1
first_sound Ori w a b v x k e = let h = where_true_some (a == minus_one w) a v k in sym (same_Some _ x e) ∙ or_ones w a b (eqb-true a (minus_one w) h.0) ∙ h.1
first_sound Shli w a b v x k e =
    let h = where_true_some (a == 0) 0 v k in sym (same_Some _ x e) ∙ at_zero (λ n. shifted_left w n (b % 2 ^ w)) w a (shifted_zero w (b % 2 ^ w)) (eqb-true a 0 h.0) ∙ h.1
first_sound Shrsi w a b v x k e =
    let h = where_true_some (a == 0) 0 v k in sym (same_Some _ x e) ∙ at_zero (λ n. sign_shifted w n (b % 2 ^ w)) w a (sign_zero w (b % 2 ^ w)) (eqb-true a 0 h.0) ∙ h.1
first_sound Shrui w a b v x k e =
    let h = where_true_some (a == 0) 0 v k in sym (same_Some _ x e) ∙ at_zero (λ n. shifted_right w n (b % 2 ^ w)) w a (right_zero w (b % 2 ^ w)) (eqb-true a 0 h.0) ∙ h.1
first_sound _ w a b v x k e = absurd (none-some v k)

second_sound : (op : BinOp) (w a b v x : ℕ) → known_second op w b ≡ Some v → binary_of op w a b ≡ Some x → x ≡ v
unfolding on_values
second_sound Muli w a b v x k e =
    let h = where_true_some (b == 0) 0 v k in sym (same_Some _ x e) ∙ ap (λ n. n % 2 ^ w) (mul_comm (a % 2 ^ w) (b % 2 ^ w)) ∙ product_zero w b a (eqb-true b 0 h.0) ∙ h.1
second_sound Andi w a b v x k e =
    let h = where_true_some (b == 0) 0 v k in sym (same_Some _ x e) ∙ and_comm (a % 2 ^ w) (b % 2 ^ w) ∙ and_zero w b a (eqb-true b 0 h.0) ∙ h.1
second_sound Ori w a b v x k e =
    let h = where_true_some (b == minus_one w) b v k in sym (same_Some _ x e) ∙ or_comm (a % 2 ^ w) (b % 2 ^ w) ∙ or_ones w b a (eqb-true b (minus_one w) h.0) ∙ h.1
second_sound _ w a b v x k e = absurd (none-some v k)

-- ---- any operation, by what is known of its arguments
binary_sound : (op : BinOp) (w : ℕ) (ka kb : Option ℕ) (a b v x : ℕ) → ((n : ℕ) → ka ≡ Some n → a ≡ n) → ((n : ℕ) → kb ≡ Some n → b ≡ n) →
    known_binary op w ka kb ≡ Some v → binary_of op w a b ≡ Some x → x ≡ v
binary_sound op w (Some m) (Some n) a b v x f g k e = same_Some x v (sym e ∙ (λ j. binary_of op w (f m refl j) (g n refl j)) ∙ k)
binary_sound op w (Some m) None a b v x f g k e = first_sound op w m b v x k ((λ j. binary_of op w (sym (f m refl) j) b) ∙ e)
binary_sound op w None (Some n) a b v x f g k e = second_sound op w a n v x k ((λ j. binary_of op w a (sym (g n refl) j)) ∙ e)
binary_sound op w None None a b v x f g k e = absurd (none-some v k)

compare_sound : (test : ℕ → ℕ → Bool) (ka kb : Option ℕ) (a b v : ℕ) → ((n : ℕ) → ka ≡ Some n → a ≡ n) → ((n : ℕ) → kb ≡ Some n → b ≡ n) →
    known_compare test ka kb ≡ Some v → bit_of (test a b) ≡ v
compare_sound test (Some m) (Some n) a b v f g k = (λ j. bit_of (test (f m refl j) (g n refl j))) ∙ same_Some _ v k
compare_sound test (Some m) None a b v f g k = absurd (none-some v k)
compare_sound test None kb a b v f g k = absurd (none-some v k)

agreed_sound : (ka kb : Option ℕ) (a b v : ℕ) → ((n : ℕ) → ka ≡ Some n → a ≡ n) → ((n : ℕ) → kb ≡ Some n → b ≡ n) → agreed ka kb ≡ Some v → (a ≡ v) × (b ≡ v)
agreed_sound (Some m) (Some n) a b v f g k =
    let h = where_true_some (m == n) m v k in
    (f m refl ∙ h.1, g n refl ∙ sym (eqb-true m n h.0) ∙ h.1)
agreed_sound (Some m) None a b v f g k = absurd (none-some v k)
agreed_sound None kb a b v f g k = absurd (none-some v k)

select_sound : (kc ka kb : Option ℕ) (c a b v : ℕ) → ((n : ℕ) → kc ≡ Some n → c ≡ n) → ((n : ℕ) → ka ≡ Some n → a ≡ n) → ((n : ℕ) → kb ≡ Some n → b ≡ n) →
    known_select kc ka kb ≡ Some v → (if c == 0 then b else a) ≡ v
select_sound (Some n) ka kb c a b v e f g k = ap (λ m. if m == 0 then b else a) (e n refl) ∙ chosen (n == 0) k
  where
    chosen : (t : Bool) → (if t then kb else ka) ≡ Some v → (if t then b else a) ≡ v
    chosen true h = g v h
    chosen false h = f v h
select_sound None ka kb c a b v e f g k = let h = agreed_sound ka kb a b v f g k in cond_both (c == 0) b a (λ x. x ≡ v) (λ _. h.1) (λ _. h.0)

map_sound : (f : ℕ → ℕ) (k : Option ℕ) (a v : ℕ) → ((n : ℕ) → k ≡ Some n → a ≡ n) → option_map f k ≡ Some v → f a ≡ v
map_sound f (Some n) a v h e = ap f (h n refl) ∙ same_Some _ v e
map_sound f None a v h e = absurd (none-some v e)

op_sound : (known : Arg → Option ℕ) (value bits : Arg → ℕ) (point outer : List ℕ) → ((a : Arg) (n : ℕ) → known a ≡ Some n → value a ≡ n) → (ty : ElemTy) (o : StepOp) (v x : ℕ) →
    known_op known bits ty o ≡ Some v → op_value value bits point outer ty o ≡ Some x → x ≡ v
unfolding known_op op_value
op_sound known value bits point outer h ty (Const n) v x k e = same_Some x v (sym e ∙ k)
op_sound known value bits point outer h ty (Index d) v x k e = absurd (none-some v k)
op_sound known value bits point outer h ty (Captured d) v x k e = absurd (none-some v k)
op_sound known value bits point outer h ty (Linear n ts) v x k e = absurd (none-some v k)
op_sound known value bits point outer h ty (Binary op a b) v x k e = binary_sound op (bits_of ty) (known a) (known b) (value a) (value b) v x (h a) (h b) k e
op_sound known value bits point outer h ty (Compare q a b) v x k e = sym (same_Some _ x e) ∙ compare_sound (compares q (bits a)) (known a) (known b) (value a) (value b) v (h a) (h b) k
op_sound known value bits point outer h ty (Select c a b) v x k e = sym (same_Some _ x e) ∙ select_sound (known c) (known a) (known b) (value c) (value a) (value b) v (h c) (h a) (h b) k
op_sound known value bits point outer h ty (SignExtend a) v x k e = sym (same_Some _ x e) ∙ map_sound (λ n. reduce (bits_of ty) (signed_of (bits a) n)) (known a) (value a) v (h a) k
op_sound known value bits point outer h ty (ZeroExtend a) v x k e = sym (same_Some _ x e) ∙ h a v k
op_sound known value bits point outer h ty (Truncate a) v x k e = sym (same_Some _ x e) ∙ map_sound (λ n. n % 2 ^ bits_of ty) (known a) (value a) v (h a) k
op_sound known value bits point outer h ty (IndexCast a) v x k e = sym (same_Some _ x e) ∙ map_sound (λ n. reduce (bits_of ty) (signed_of (bits a) n)) (known a) (value a) v (h a) k

-- ---- the steps in turn
flat_some : (xs : List (Option ℕ)) (k v : ℕ) → option_and_then (λ v. v) (slice_get xs k) ≡ Some v → slice_get xs k ≡ Some (Some v)
flat_some [] zero v e = absurd (none-some v e)
flat_some [] (suc k) v e = absurd (none-some v e)
flat_some (x ∷ xs) zero v e = ap (λ o. Some o) e
flat_some (x ∷ xs) (suc k) v e = flat_some xs k v e

slice_get_push : {A : Type 0} (xs : List A) (x y : A) (k : ℕ) → slice_get (xs ++ x ∷ []) k ≡ Some y → ((k < length xs) × (slice_get xs k ≡ Some y)) ⊎ ((k ≡ length xs) × (x ≡ y))
slice_get_push [] x y zero e = inr (refl, same_Some x y e)
slice_get_push [] x y (suc k) e = absurd (slice_get-none k y e)
slice_get_push (z ∷ zs) x y zero e = inl (omega arith, e)
slice_get_push (z ∷ zs) x y (suc k) e = ⊎_elim (λ h. inl (omega (arith, h.0), h.1)) (λ h. inr (ap suc h.0, h.1)) (slice_get_push zs x y k e)

module _ (p : PayloadShape) (pads : List (Option ℕ)) (g : Given) (agrees : AgreesWith pads g.ins) where
  -- what is known of the earlier steps is their values
  abbrev Agree : List (Option ℕ) → List ℕ → Type 0
  Agree known done = (length known ≡ length done) × ((k v : ℕ) → slice_get known k ≡ Some (Some v) → get_or done k 0 ≡ v)

  arg_sound : (known : List (Option ℕ)) (done : List ℕ) → Agree known done → (a : Arg) (n : ℕ) → known_arg pads known a ≡ Some n → arg_value g done a ≡ n
  arg_sound known done h (Input k) n e = agrees k n (flat_some pads k n e)
  arg_sound known done h Out n e = absurd (none-some n e)
  arg_sound known done h (Step k) n e = h.1 k n (flat_some known k n e)

  steps_sound : (steps : List PayloadStep) (known : List (Option ℕ)) (done all : List ℕ) → Agree known done → steps_values p g steps done ≡ Some all → Agree (known_steps p pads steps known) all
  steps_sound [] known done all h e = subst (Agree known) (same_Some done all e) h
  steps_sound (s ∷ steps) known done all h e =
      option_and_then_some (λ v. steps_values p g steps (done ++ v ∷ [])) (step_value p g done s) all e (λ x here later.
      let k : Option ℕ = known_op (known_arg pads known) (arg_bits p) s.ty s.op in
      let more : Agree (known ++ k ∷ []) (done ++ x ∷ []) = (
        omega (arith, h.0, length-append known (k ∷ []), length-append done (x ∷ [])),
        λ i v f. ⊎_elim
            (λ (low : (i < length known) × (slice_get known i ≡ Some (Some v))). get_or_append_left done (x ∷ []) 0 i (omega (arith, low.0, h.0)) ∙ h.1 i v low.1)
            (λ (last : (i ≡ length known) × (k ≡ Some v)). get_or_push done x 0 i (omega (arith, last.0, h.0))
            ∙ op_sound (known_arg pads known) (arg_value g done) (arg_bits p) g.point g.outer (arg_sound known done h) s.ty s.op v x last.1 here)
            (slice_get_push known k (Some v) i f),
      ) in
      steps_sound steps (known ++ k ∷ []) (done ++ x ∷ []) all more later)

  known_as : (v : ℕ) (o : Option ℕ) → is_known_as v o ≡ true → o ≡ Some v
  known_as v None e = absurd (false≢true e)
  known_as v (Some k) e = ap (λ n. Some n) (eqb-true k v e)

  pub keeps : IsPayload p → may_trap p ≡ false → is_neutral_under p pads ≡ true → g.out < 2 ^ bits_of p.out → payload_value p g ≡ Some g.out
  keeps fits safe neutral small = found (combining p.steps p.yielded) refl neutral
    where
      found : (o : Option (Combiner × Arg)) → combining p.steps p.yielded ≡ o → term_is_neutral p pads o ≡ true → payload_value p g ≡ Some g.out
      found None f e = absurd (false≢true e)
      found (Some joining) f e =
          let c : Combiner = joining.0 in
          let t : Arg = joining.1 in
          let w : ℕ = bits_of p.out in
          let values : (all : List ℕ) × (steps_values p g p.steps [] ≡ Some all) = steps_give p fits safe g p.steps 0 [] refl refl (λ k n l c. absurd (omega arith)) in
          let sound : Agree (known_steps p pads p.steps []) values.0 = steps_sound p.steps [] [] values.0 (refl, λ k v h. absurd (slice_get-none k (Some v) h)) values.1 in
          let term : arg_value g values.0 t ≡ neutral_of c w = arg_sound (known_steps p pads p.steps []) values.0 sound t (neutral_of c w) (known_as (neutral_of c w) (known_arg pads (known_steps p pads p.steps []) t) e) in
          joins_term p c t fits f g
          ∙ ap (λ o. option_map (joined c w g.out) (option_map (λ done. arg_value g done t) o)) values.1
          ∙ ap (λ v. Some (joined c w g.out v)) term ∙ ap (λ v. Some v) (joined_neutral c w g.out small).1

pub keeps_output : (p : PayloadShape) (pads : List (Option ℕ)) → IsPayload p → may_trap p ≡ false → is_neutral_under p pads ≡ true → KeepsOutput p pads
keeps_output p pads fits safe neutral g agrees small = keeps p pads g agrees fits safe neutral small
