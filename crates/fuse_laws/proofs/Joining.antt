-- The joined payload.
use Rattle.std.proofs.Common.{◌≡◌, ◌≢◌, ℕ, zero, suc, ◌+◌, ◌-◌, ◌<◌, ◌%◌, ◌^◌, ◌&&◌, mod-eq_of_lt, true, List, [], ◌∷◌, ◌++◌, map, length, get_or, Option, Some, None, ⊎_elim, refl, ap, sym, subst, ◌∙◌, arith, ltb-true, zero-add}
use Rattle.std.specs.Prelude.{option_map, option_and_then, slice_get, if◌then◌else◌, ⊤}
use Rattle.std.proofs.lemmas.Bool.{and_parts}
use Rattle.std.proofs.lemmas.Bool.Decides.{eqb_tells}
use Rattle.std.proofs.lemmas.List.{append-nil, length-map, get_or_past}
use Rattle.std.proofs.lemmas.Option.{none-some, slice_get_within, slice_get-get_or, get_or_from_slice_get}
use Rattle.affine_maps.specs.Value.{value_at}
use Rattle.payload_ops.specs.Bits.{reduce}
use Rattle.payload_ops.specs.Payload.{IsPayload, has_type, steps_fit}
use Rattle.mlir_base.specs.Types.{is_elem}
use Rattle.payload_ops.specs.Shape.{PayloadShape}
use Rattle.payload_ops.specs.Values.{Given, arg_value, op_value, steps_values, payload_value, is_supplied}
use Rattle.mlir_base.specs.declared.types.ElemTy.{ElemTy}
use Rattle.mlir_base.specs.declared.types.ElemTy.TheVariants.{Int, Index as IndexType}
use Rattle.payload_ops.specs.declared.step.Arg.{Arg}
use Rattle.payload_ops.specs.declared.step.Arg.TheVariants.{Input, Out, Step}
use Rattle.payload_ops.specs.declared.step.PayloadStep.{PayloadStep}
use Rattle.payload_ops.specs.declared.step.StepOp.{StepOp}
use Rattle.payload_ops.specs.declared.step.StepOp.TheVariants.{Const, Index, Captured, Linear, Binary, Compare, Select, SignExtend, ZeroExtend, Truncate, IndexCast}
use Rattle.payload_ops.proofs.Words.{reduce-lt}
use Rattle.payload_ops.proofs.StepsLemmas.{steps_values-append}
use Rattle.mlir_meaning.specs.Grids.{count_up, Each}
use Rattle.point_laws.proofs.Tables.{tabled_at, tabled_length}
use Rattle.payload_forms.specs.Moved.{args_of, captured_step, own_index}
use Rattle.payload_forms.specs.Joined.{spliced, other, expr_at, producer_index, Joint, front, producer_to, producer_steps, consumer_to, consumer_steps, joined}
use Rattle.fuse_laws.specs.Joined.{IsNotOut, Fit, Meets}
use Rattle.region_laws.proofs.Moves.{each_then, get_left, Both, steps_fit-append, type_in, type_new}
use Rattle.region_laws.proofs.Alike.{Typed, Agree, Alike, Supplied, blocks_alike}
use Rattle.region_laws.proofs.Fronts.{no_step, captured_values, front_run, front_fits, front_at, yields}
use Rattle.fuse_laws.proofs.Applied.{applied_run, applied_fits, applied_typed, applied_at, values_length}
use Rattle.fuse_laws.specs.Laws.{JoinedGives}
use Rattle.fuse_laws.specs.Laws.{JoinedFits}

-- LISTS
nothing : (A : Type 0) (i : ℕ) → slice_get {X = A} [] i ≡ None
nothing A zero = refl
nothing A (suc i) = refl

pub other_get : {A : Type 0} (k : ℕ) (ys xs : List A) (i : ℕ) → i ≢ k → slice_get (spliced k ys xs) (other k (length ys) i) ≡ slice_get xs i
other_get {A} k ys [] i n = nothing A (other k (length ys) i) ∙ sym (nothing A i)
other_get zero ys (x ∷ xs) zero n = absurd (n refl)
other_get zero ys (x ∷ xs) (suc i) n = after ys where
  after : (ys : List _) → slice_get (ys ++ xs) (length ys + i) ≡ slice_get xs i
  after [] = ap (slice_get xs) (zero-add i)
  after (y ∷ ys) = let e : length (y ∷ ys) + i ≡ suc (length ys + i) = omega arith in ap (slice_get (y ∷ (ys ++ xs))) e ∙ after ys
other_get (suc k) ys (x ∷ xs) zero n = refl
other_get (suc k) ys (x ∷ xs) (suc i) n = other_get k ys xs i (λ e. n (ap suc e))

pub spliced_get : {A : Type 0} (k : ℕ) (ys xs : List A) (i : ℕ) (y : A) → k < length xs → slice_get ys i ≡ Some y → slice_get (spliced k ys xs) (k + i) ≡ Some y
spliced_get k ys [] i y l e = absurd (omega arith)
spliced_get zero ys (x ∷ xs) i y l e = ap (slice_get (ys ++ xs)) (zero-add i) ∙ get_left ys xs i y e
spliced_get (suc k) ys (x ∷ xs) i y l e = let s : suc k + i ≡ suc (k + i) = omega arith in ap (slice_get (x ∷ spliced k ys xs)) s ∙ spliced_get k ys xs i y (omega arith) e

pub other_one : (k i : ℕ) → i ≢ k → other k 1 i ≡ i
other_one zero zero n = absurd (n refl)
other_one zero (suc i) n = omega arith
other_one (suc k) zero n = refl
other_one (suc k) (suc i) n = ap suc (other_one k i (λ e. n (ap suc e)))

pub get_or_same : {A : Type 0} (xs ys : List A) (i j : ℕ) (d : A) → slice_get xs i ≡ slice_get ys j → get_or xs i d ≡ get_or ys j d
get_or_same xs ys i j d e = by (slice_get ys j) refl where
  missing : {A : Type 0} (xs : List A) (i : ℕ) (d : A) → slice_get xs i ≡ None → get_or xs i d ≡ d
  missing [] zero d q = refl
  missing [] (suc i) d q = refl
  missing (x ∷ xs) zero d q = absurd (none-some x (sym q))
  missing (x ∷ xs) (suc i) d q = missing xs i d q

  by : (o : Option _) → slice_get ys j ≡ o → get_or xs i d ≡ get_or ys j d
  by None q = missing xs i d (e ∙ q) ∙ sym (missing ys j d q)
  by (Some y) q = get_or_from_slice_get xs i y d (e ∙ q) ∙ sym (get_or_from_slice_get ys j y d q)

module _ (j : Joint) (dims caps width others : ℕ) (producer consumer : PayloadShape) (f : Fit j dims caps width others producer consumer)
    (p q outer outer_p outer_c ins_p ins_c : List ℕ) (out any : ℕ) (m : Meets j dims caps others p q outer outer_p outer_c)
    (long_p : length ins_p ≡ length producer.ins) (long_c : length ins_c ≡ length consumer.ins) where
  abbrev both : PayloadShape
  both = joined j producer consumer

  abbrev given : Given
  given = record { point = p; outer = outer; ins = spliced j.input ins_p ins_c; out = out }

  abbrev of_p : Given
  of_p = record { point = q; outer = outer_p; ins = ins_p; out = any }

  abbrev of_c : ℕ → Given
  of_c v = record { point = p; outer = outer_c; ins = spliced j.input (v ∷ []) ins_c; out = out }

  abbrev fs : List PayloadStep
  fs = front j producer consumer

  abbrev ps : List PayloadStep
  ps = producer_steps j producer consumer

  abbrev cs : List PayloadStep
  cs = consumer_steps j producer consumer

  abbrev known : List ℕ
  known = captured_values both given j.captured

  front_length : length fs ≡ j.captured
  front_length = tabled_length captured_step j.captured

  known_length : length known ≡ length fs
  known_length = tabled_length (λ i. get_or outer i 0 % 2 ^ 64) j.captured ∙ sym front_length

  input_there : j.input < length consumer.ins
  input_there = slice_get_within consumer.ins j.input producer.out f.input

  input_given : j.input < length ins_c
  input_given = omega (arith, input_there, long_c)

  captured_there : (k : ℕ) → k < j.captured → (w : ℕ) → get_or outer k 0 ≡ w → (slice_get fs k ≡ Some (captured_step k)) × (get_or known k 0 ≡ w % 2 ^ 64)
  captured_there k l w e = (front_at j.captured k l, tabled_at (λ i. get_or outer i 0 % 2 ^ 64) j.captured k 0 l ∙ ap (λ x. x % 2 ^ 64) e)

  -- THE PRODUCER
  abbrev to_p : Arg → Arg
  to_p = producer_to j producer consumer

  producer_supplied : (op : StepOp) → is_supplied dims caps op ≡ true → Supplied producer both of_p given to_p ([], known) fs IsNotOut (producer_index j.exprs) j.of_producer op
  producer_supplied (Index d) h = λ pre' mid behind.
      let e = expr_at j.exprs d in
      let l : d < dims = ltb-true d dims h in
      record {
        fits = applied_fits both given e pre' (f.small d l);
        typed = applied_typed both given e pre';
        runs = λ done past k b. (_, values_length both given e (length pre'), applied_run both given e (length pre') done k, applied_at both given e (length pre') done k ∙ m.points d l);
      }
  producer_supplied (Captured k) h = let l : k < caps = ltb-true k caps h in captured_there (j.of_producer k) (f.of_producer k l) (get_or outer_p k 0) (m.producer_outer k l)
  producer_supplied (Const n) h = tt
  producer_supplied (Linear c ts) h = tt
  producer_supplied (Binary op a b) h = tt
  producer_supplied (Compare c a b) h = tt
  producer_supplied (Select c a b) h = tt
  producer_supplied (SignExtend a) h = tt
  producer_supplied (ZeroExtend a) h = tt
  producer_supplied (Truncate a) h = tt
  producer_supplied (IndexCast a) h = tt

  producer_alike : (post : List PayloadStep) × Alike producer both of_p given to_p ([], known) IsNotOut IsNotOut [] fs producer.steps ps producer.steps post
  producer_alike = blocks_alike producer both of_p given to_p ([], known) fs IsNotOut (producer_index j.exprs) j.of_producer known_length producer.steps [] fs [] (sym (append-nil fs))
      (and_parts (steps_fit producer.ins producer.out producer.steps []) _ f.producer_fits).0
      (λ i l. ap (λ x. to_p (Step x)) (zero-add i))
      (each_then (λ (s : PayloadStep). is_supplied dims caps s.op ≡ true) (λ (s : PayloadStep). Supplied producer both of_p given to_p ([], known) fs IsNotOut (producer_index j.exprs) j.of_producer s.op) (λ s h. producer_supplied s.op h) producer.steps f.producer_supplied)
      f.apart.0

  producer_typed : Typed producer both of_p given to_p ([], known) IsNotOut [] fs
  producer_typed (Input i) t n e = spliced_get j.input producer.ins consumer.ins i t input_there e
  producer_typed Out t n e = absurd n
  producer_typed (Step i) t n e = absurd (no_step i t e)

  producer_agrees : Agree producer both of_p given to_p ([], known) IsNotOut [] fs [] known
  producer_agrees = record {
    values = value;
    long = refl;
    long' = known_length;
    old_rest = [];
    old_begins = refl;
    rest = [];
    begins = sym (append-nil known);
  } where
    value : (a : Arg) (t : ElemTy) → IsNotOut a → type_in producer [] a ≡ Some t → arg_value given known (to_p a) ≡ arg_value of_p [] a
    value (Input i) t n e =
        let l : i < length ins_p = (let k = slice_get_within producer.ins i t e in omega (arith, k, long_p)) in
        get_or_from_slice_get (spliced j.input ins_p ins_c) (j.input + i) (get_or ins_p i 0) 0 (spliced_get j.input ins_p ins_c i (get_or ins_p i 0) input_given (slice_get-get_or ins_p i 0 l))
    value Out t n e = absurd n
    value (Step i) t n e = absurd (no_step i t e)

  abbrev after : List PayloadStep
  after = fs ++ ps

  after_typed : Typed producer both of_p given to_p ([], known) IsNotOut producer.steps after
  after_typed = subst (Typed producer both of_p given to_p ([], known) IsNotOut producer.steps) producer_alike.1.is' (producer_alike.1.typed producer_typed)

  producer_runs : Both (Agree producer both of_p given to_p ([], known) IsNotOut producer.steps after) (steps_values producer of_p producer.steps []) (steps_values both given ps known)
  producer_runs =
      subst (λ l. Both (Agree producer both of_p given to_p ([], known) IsNotOut producer.steps l) (steps_values producer of_p producer.steps []) (steps_values both given ps known)) producer_alike.1.is'
      (producer_alike.1.runs producer_typed ([], sym (append-nil producer.steps)) (cs, ap (λ l. l ++ cs) (sym producer_alike.1.is')) [] known producer_agrees)

  -- what the consumer uses in place of its input
  abbrev result : Arg
  result = to_p producer.yielded

  result_typed : type_in both after result ≡ Some producer.out
  result_typed = after_typed producer.yielded producer.out f.apart.1 (yields producer f.producer_fits)

  -- THE CONSUMER
  abbrev to_c : Arg → Arg
  to_c = consumer_to j producer consumer

  abbrev IsAny : Arg → Type 0
  IsAny a = ⊤

  all_any : (xs : List Arg) → Each IsAny xs
  all_any [] = tt
  all_any (x ∷ xs) = (tt, all_any xs)

  all_named : (ss : List PayloadStep) → Each (λ (s : PayloadStep). Each IsAny (args_of s.op)) ss
  all_named [] = tt
  all_named (s ∷ ss) = (all_any (args_of s.op), all_named ss)

  module _ (v : ℕ) where
    consumer_supplied : (op : StepOp) → is_supplied width others op ≡ true → Supplied consumer both (of_c v) given to_c ([], known) fs IsAny own_index j.of_consumer op
    unfolding op_value
    consumer_supplied (Index d) h = λ pre' mid behind'. record {
      fits = refl;
      typed = type_new both pre' (record { ty = IndexType; op = Index d }) [] (length pre' + 1 - 1) (omega arith);
      runs = λ done past k b. ((get_or p d 0 % 2 ^ 64) ∷ [], refl, refl, (let e : length pre' + 1 - 1 ≡ length done = omega (arith, k) in ap (λ i. get_or (done ++ (get_or p d 0 % 2 ^ 64) ∷ []) i 0) e ∙ last done (get_or p d 0 % 2 ^ 64)));
    } where
      last : (done : List ℕ) (x : ℕ) → get_or (done ++ x ∷ []) (length done) 0 ≡ x
      last [] x = refl
      last (y ∷ done) x = last done x
    consumer_supplied (Captured k) h = let l : k < others = ltb-true k others h in captured_there (j.of_consumer k) (f.of_consumer k l) (get_or outer_c k 0) (m.consumer_outer k l)
    consumer_supplied (Const n) h = tt
    consumer_supplied (Linear c ts) h = tt
    consumer_supplied (Binary op a b) h = tt
    consumer_supplied (Compare c a b) h = tt
    consumer_supplied (Select c a b) h = tt
    consumer_supplied (SignExtend a) h = tt
    consumer_supplied (ZeroExtend a) h = tt
    consumer_supplied (Truncate a) h = tt
    consumer_supplied (IndexCast a) h = tt

    consumer_alike : (post : List PayloadStep) × Alike consumer both (of_c v) given to_c ([], known) IsAny IsAny [] after consumer.steps cs consumer.steps post
    consumer_alike = blocks_alike consumer both (of_c v) given to_c ([], known) fs IsAny own_index j.of_consumer known_length consumer.steps [] after ps refl
        (and_parts (steps_fit consumer.ins consumer.out consumer.steps []) _ f.consumer_fits).0
        (λ i l. ap (λ x. to_c (Step x)) (zero-add i))
        (each_then (λ (s : PayloadStep). is_supplied width others s.op ≡ true) (λ (s : PayloadStep). Supplied consumer both (of_c v) given to_c ([], known) fs IsAny own_index j.of_consumer s.op) (λ s h. consumer_supplied s.op h) consumer.steps f.consumer_supplied)
        (all_named consumer.steps)

    consumer_typed : Typed consumer both (of_c v) given to_c ([], known) IsAny [] after
    consumer_typed (Input i) t n e = ⊎_elim
        (λ h. (λ k. type_in both after (if h.0 k then result else Input (other j.input (length producer.ins) i))) ∙ result_typed
        ∙ sym f.input ∙ ap (slice_get consumer.ins) (sym h.1) ∙ e)
        (λ h. (λ k. type_in both after (if h.0 k then result else Input (other j.input (length producer.ins) i))) ∙ other_get j.input producer.ins consumer.ins i h.1 ∙ e)
        (eqb_tells i j.input)
    consumer_typed Out t n e = e
    consumer_typed (Step i) t n e = absurd (no_step i t e)

    consumer_agrees : (done : List ℕ) → arg_value given done result ≡ v → length done ≡ length after → (rest : List ℕ) → done ≡ known ++ rest → Agree consumer both (of_c v) given to_c ([], known) IsAny [] after [] done
    consumer_agrees done is long rest begins = record { values = value; long = refl; long' = long; old_rest = []; old_begins = refl; rest = rest; begins = begins } where
      value : (a : Arg) (t : ElemTy) → ⊤ → type_in consumer [] a ≡ Some t → arg_value given done (to_c a) ≡ arg_value (of_c v) [] a
      value (Input i) t n e = ⊎_elim
          (λ h. (λ k. arg_value given done (if h.0 k then result else Input (other j.input (length producer.ins) i))) ∙ is
          ∙ sym (ap (λ x. get_or (spliced j.input (v ∷ []) ins_c) x 0) h.1
          ∙ get_or_from_slice_get (spliced j.input (v ∷ []) ins_c) j.input v 0 (let z : j.input ≡ j.input + 0 = omega arith in ap (slice_get (spliced j.input (v ∷ []) ins_c)) z ∙ spliced_get j.input (v ∷ []) ins_c 0 v input_given refl)))
          (λ h. (λ k. arg_value given done (if h.0 k then result else Input (other j.input (length producer.ins) i)))
          ∙ get_or_same (spliced j.input ins_p ins_c) (spliced j.input (v ∷ []) ins_c) (other j.input (length producer.ins) i) i 0
          (ap (λ x. slice_get (spliced j.input ins_p ins_c) (other j.input x i)) (sym long_p) ∙ other_get j.input ins_p ins_c i h.1
          ∙ sym (ap (slice_get (spliced j.input (v ∷ []) ins_c)) (sym (other_one j.input i h.1)) ∙ other_get j.input (v ∷ []) ins_c i h.1)))
          (eqb_tells i j.input)
      value Out t n e = refl
      value (Step i) t n e = absurd (no_step i t e)

    consumer_runs : (done : List ℕ) → Agree consumer both (of_c v) given to_c ([], known) IsAny [] after [] done →
        Both (Agree consumer both (of_c v) given to_c ([], known) IsAny consumer.steps consumer_alike.0) (steps_values consumer (of_c v) consumer.steps []) (steps_values both given cs done)
    consumer_runs done a = consumer_alike.1.runs consumer_typed ([], sym (append-nil consumer.steps)) ([], sym (append-nil consumer_alike.0 ∙ consumer_alike.1.is')) [] done a

    same_value : (x y : Option (List ℕ)) → Both (Agree consumer both (of_c v) given to_c ([], known) IsAny consumer.steps consumer_alike.0) x y →
        option_map (λ done. arg_value given done (to_c consumer.yielded)) y ≡ option_map (λ done. arg_value (of_c v) done consumer.yielded) x
    same_value None None h = refl
    same_value (Some d) (Some d') h = ap Some (h.values consumer.yielded consumer.out tt (yields consumer f.consumer_fits))
    same_value None (Some d') h = absurd h
    same_value (Some d) None h = absurd h

  after_producer : (x y : Option (List ℕ)) → Both (Agree producer both of_p given to_p ([], known) IsNotOut producer.steps after) x y →
      option_map (λ done. arg_value given done (to_c consumer.yielded)) (option_and_then (steps_values both given cs) y)
      ≡ option_and_then (λ v. payload_value consumer (of_c v)) (option_map (λ done. arg_value of_p done producer.yielded) x)
  after_producer None None h = refl
  after_producer (Some d) (Some d') h =
      let v = arg_value of_p d producer.yielded in
      same_value v (steps_values consumer (of_c v) consumer.steps []) (steps_values both given cs d')
      (consumer_runs v d' (consumer_agrees v d' (h.values producer.yielded producer.out f.apart.1 (yields producer f.producer_fits)) h.long' h.rest h.begins))
  after_producer None (Some d') h = absurd h
  after_producer (Some d) None h = absurd h

  pub gives_here : payload_value both given ≡ option_and_then (λ v. payload_value consumer (of_c v)) (payload_value producer of_p)
  gives_here =
      ap (option_map (λ done. arg_value given done (to_c consumer.yielded)))
      (steps_values-append both given after cs []
      ∙ ap (option_and_then (steps_values both given cs)) (steps_values-append both given fs ps [] ∙ ap (option_and_then (steps_values both given ps)) (front_run both given (count_up 0 j.captured) [])))
      ∙ after_producer (steps_values producer of_p producer.steps []) (steps_values both given ps known) producer_runs

  pub fits_here : IsPayload both
  fits_here =
      let steps : steps_fit both.ins both.out both.steps [] ≡ true =
      steps_fit-append both.ins both.out after cs []
      (steps_fit-append both.ins both.out fs ps [] (front_fits both given (count_up 0 j.captured) []) (producer_alike.1.fits producer_typed)) ((consumer_alike 0).1.fits (consumer_typed 0)) in
      let type_of : type_in both both.steps (to_c consumer.yielded) ≡ Some consumer.out =
      subst (λ l. type_in both l (to_c consumer.yielded) ≡ Some consumer.out) (consumer_alike 0).1.is' ((consumer_alike 0).1.typed (consumer_typed 0) consumer.yielded consumer.out tt (yields consumer f.consumer_fits)) in
      λ i. steps i && ((λ k. has_type (type_of k) consumer.out) ∙ self consumer.out) i
    where
      self : (t : ElemTy) → is_elem t t ≡ true
      self (Int w) = grind arith
      self IndexType = refl

pub joined_gives : JoinedGives
joined_gives j dims caps width others producer consumer f p q outer outer_p outer_c ins_p ins_c out any m long_p long_c =
    gives_here j dims caps width others producer consumer f p q outer outer_p outer_c ins_p ins_c out any m long_p long_c

-- any values will do to see that the types fit
pub joined_fits : JoinedFits
joined_fits j dims caps width others producer consumer f =
    let form : ℕ → ℕ = λ d. reduce 64 (value_at (expr_at j.exprs d) []) in
    fits_here j dims caps width others producer consumer f [] (map form (count_up 0 dims)) [] [] [] (map (λ t. 0) producer.ins) (map (λ t. 0) consumer.ins) 0 0
    (record {
      points = λ d l. sym (ap (λ x. x % 2 ^ 64) (tabled_at form dims d 0 l) ∙ mod-eq_of_lt (reduce-lt 64 (value_at (expr_at j.exprs d) [])));
      producer_outer = λ k l. get_or_past [] (j.of_producer k) 0 (omega arith) ∙ sym (get_or_past [] k 0 (omega arith));
      consumer_outer = λ k l. get_or_past [] (j.of_consumer k) 0 (omega arith) ∙ sym (get_or_past [] k 0 (omega arith));
    }) (length-map producer.ins (λ t. 0)) (length-map consumer.ins (λ t. 0))
