-- Captured values have their steps right before their first use.
use Rattle.std.proofs.Common.{◌≡◌, ℕ, suc, ◌+◌, ◌-◌, ◌<◌, ◌≤◌, ◌%◌, ◌^◌, ◌==◌, ◌&&◌, ◌||◌, not, Bool, true, false, List, [], ◌∷◌, ◌++◌, map, length, get_or, Option, Some, None, ◌⊎◌, inl, inr, ⊎_elim, refl, ap, sym, subst, ◌∙◌, arith, length-append, append_assoc, eqb-true, eq-eqb, ltb-true, lt-ltb}
use Rattle.std.specs.Prelude.{option_map, option_and_then, slice_get, nat_lt, if◌then◌else◌, ⊤}
use Rattle.std.proofs.lemmas.Bool.{and_parts, cases_Bool, true≢false}
use Rattle.std.proofs.lemmas.Bool.Decides.{nat_tests}
use Rattle.std.proofs.lemmas.List.{append-nil, get_or_append_left, get_or_at, get_or-map, length-map}
use Rattle.std.proofs.lemmas.Option.{none-some, slice_get_within}
use Rattle.payload_ops.specs.Payload.{IsPayload, has_type, op_fits, steps_fit}
use Rattle.mlir_base.specs.Types.{is_elem}
use Rattle.payload_ops.specs.Shape.{PayloadShape}
use Rattle.payload_ops.specs.Values.{Given, arg_value, op_value, steps_values, payload_value}
use Rattle.mlir_base.specs.declared.types.ElemTy.{ElemTy}
use Rattle.mlir_base.specs.declared.types.ElemTy.TheVariants.{Int, Index as IndexType}
use Rattle.payload_ops.specs.declared.step.Arg.{Arg}
use Rattle.payload_ops.specs.declared.step.Arg.TheVariants.{Input, Out, Step}
use Rattle.payload_ops.specs.declared.step.PayloadStep.{PayloadStep}
use Rattle.payload_ops.specs.declared.step.StepOp.{StepOp}
use Rattle.payload_ops.specs.declared.step.StepOp.TheVariants.{Const, Index, Captured, Linear, Binary, Compare, Select, SignExtend, ZeroExtend, Truncate, IndexCast}
use Rattle.payload_ops.proofs.StepsLemmas.{steps_values-append}
use Rattle.mlir_meaning.specs.Grids.{count_up, Each}
use Rattle.mlir_meaning.specs.Points.{has, place_of}
use Rattle.point_laws.proofs.Tables.{tabled_at, tabled_length, count_length}
use Rattle.payload_forms.specs.Moved.{args_of, captured_step, own_index, number, block}
use Rattle.payload_forms.specs.Captured.{news_of, news, named, used, spots, others, placed_steps, placed_to, in_front, placed}
use Rattle.region_laws.specs.Captured.{IsBehind, IsNotCaptured}
use Rattle.region_laws.proofs.Moves.{Both, type_in, type_kept, type_new, value_kept, value_new}
use Rattle.region_laws.proofs.Alike.{Typed, Agree, Alike, Supplied, none_alike, then_alike, one}
use Rattle.region_laws.proofs.Fronts.{captured_values, front_run, front_at, yields}
use Rattle.region_laws.specs.Laws.{PlacedGives}

-- NUMBERS AMONG OTHERS
or_true : (b : Bool) → (b || true) ≡ true
or_true true = refl
or_true false = refl

among_left : (n : ℕ) (xs ys : List ℕ) → has xs n ≡ true → has (xs ++ ys) n ≡ true
among_left n [] ys h = absurd cc
among_left n (x ∷ xs) ys h = by (x == n) (among_left n xs ys) h where
  by : (b : Bool) → (has xs n ≡ true → has (xs ++ ys) n ≡ true) → (b || has xs n) ≡ true → (b || has (xs ++ ys) n) ≡ true
  by true k h = refl
  by false k h = k h

among_right : (n : ℕ) (xs ys : List ℕ) → has ys n ≡ true → has (xs ++ ys) n ≡ true
among_right n [] ys h = h
among_right n (x ∷ xs) ys h = (λ j. (x == n) || among_right n xs ys h j) ∙ or_true (x == n)

among_self : (n : ℕ) (ys : List ℕ) → has (n ∷ ys) n ≡ true
among_self n ys = λ j. eq-eqb n n refl j || has ys n

among_last : (n k : ℕ) (xs : List ℕ) → has (xs ++ k ∷ []) n ≡ true → (has xs n ≡ true) ⊎ (k ≡ n)
among_last n k [] h = by (k == n) refl h where
  by : (b : Bool) → (k == n) ≡ b → (b || false) ≡ true → (has [] n ≡ true) ⊎ (k ≡ n)
  by true q h = inr (eqb-true k n q)
  by false q h = absurd cc
among_last n k (x ∷ xs) h = by (x == n) (among_last n k xs) h where
  by : (b : Bool) → (has (xs ++ k ∷ []) n ≡ true → (has xs n ≡ true) ⊎ (k ≡ n)) → (b || has (xs ++ k ∷ []) n) ≡ true → ((b || has xs n) ≡ true) ⊎ (k ≡ n)
  by true f h = inl refl
  by false f h = f h

-- the first place of a number that isn't there before
place_new : (k start : ℕ) (xs ys : List ℕ) → has xs k ≡ false → place_of k start (xs ++ k ∷ ys) ≡ start + length xs
place_new k start [] ys h = (λ j. if eq-eqb k k refl j then start else place_of k (start + 1) ys) ∙ zero_right start where
  zero_right : (n : ℕ) → n ≡ n + 0
  zero_right n = omega arith
place_new k start (x ∷ xs) ys h = by (x == k) refl h (place_new k (start + 1) xs ys) where
  by : (b : Bool) → (x == k) ≡ b → (b || has xs k) ≡ false → (has xs k ≡ false → place_of k (start + 1) (xs ++ k ∷ ys) ≡ start + 1 + length xs) →
      (if b then start else place_of k (start + 1) (xs ++ k ∷ ys)) ≡ start + length (x ∷ xs)
  by true q h f = absurd cc
  by false q h f = let e = f h in omega (arith, e)

number_is : (f : ℕ → ℕ) (n : ℕ) (op : StepOp) → IsNotCaptured op → number own_index f n op ≡ n
number_is f n (Index d) h = omega arith
number_is f n (Captured k) h = absurd h
number_is f n (Const c) h = refl
number_is f n (Linear c ts) h = refl
number_is f n (Binary op a b) h = refl
number_is f n (Compare c a b) h = refl
number_is f n (Select c a b) h = refl
number_is f n (SignExtend a) h = refl
number_is f n (ZeroExtend a) h = refl
number_is f n (Truncate a) h = refl
number_is f n (IndexCast a) h = refl

one_step : (to : Arg → Arg) (n : ℕ) (t : ElemTy) (op : StepOp) → IsNotCaptured op → length (block own_index to n t op) ≡ 1
one_step to n t (Index d) h = refl
one_step to n t (Captured k) h = absurd h
one_step to n t (Const c) h = refl
one_step to n t (Linear c ts) h = refl
one_step to n t (Binary op a b) h = refl
one_step to n t (Compare c a b) h = refl
one_step to n t (Select c a b) h = refl
one_step to n t (SignExtend a) h = refl
one_step to n t (ZeroExtend a) h = refl
one_step to n t (Truncate a) h = refl
one_step to n t (IndexCast a) h = refl

used_begins : (c : ℕ) (ss : List PayloadStep) (seen : List ℕ) → (more : List ℕ) × (used c seen ss ≡ seen ++ more)
used_begins c [] seen = ([], sym (append-nil seen))
used_begins c (s ∷ ss) seen = let r = used_begins c ss (seen ++ named c seen s) in (named c seen s ++ r.0, r.1 ∙ append_assoc seen (named c seen s) r.0)

module _ (c : ℕ) (ins_t : List ElemTy) (out_t : ElemTy) (rest : List PayloadStep) (yielded : Arg) (good : IsPayload (in_front c ins_t out_t rest yielded))
    (point outer ins : List ℕ) (out : ℕ) where
  abbrev p : PayloadShape
  p = in_front c ins_t out_t rest yielded

  abbrev p' : PayloadShape
  p' = placed c ins_t out_t rest yielded

  abbrev U : List ℕ
  U = used c [] rest

  abbrev g : Given
  g = record { point = point; outer = outer; ins = ins; out = out }

  abbrev g' : Given
  g' = record { point = point; outer = map (λ k. get_or outer k 0) U; ins = ins; out = out }

  abbrev to : Arg → Arg
  to = placed_to c rest

  abbrev fs : List PayloadStep
  fs = map captured_step (count_up 0 c)

  abbrev known : List ℕ
  known = captured_values p g c

  abbrev both_known : List ℕ × List ℕ
  both_known = (known, [])

  known_length : length known ≡ c
  known_length = tabled_length (λ i. get_or outer i 0 % 2 ^ 64) c

  fs_length : length fs ≡ c
  fs_length = tabled_length captured_step c

  -- an argument that may be named: a captured value has its step
  abbrev N : List ℕ → Arg → Type 0
  N seen (Input i) = ⊤
  N seen Out = ⊤
  N seen (Step i) = nat_lt i c ≡ true → has seen i ≡ true

  -- ONE CAPTURED VALUE
  module _ (k : ℕ) (seen at : List ℕ) (n : ℕ) (L1 L2 : List ℕ) (pre pre' mid : List PayloadStep) (small : nat_lt k c ≡ true) (new : has seen k ≡ false)
      (u : U ≡ seen ++ k ∷ L1) (s : spots c 0 [] rest ≡ at ++ n ∷ L2) (long : length at ≡ length seen) (long' : length pre' ≡ n) (front : pre ≡ fs ++ mid) where
    abbrev step : PayloadStep
    step = captured_step (length seen)

    to_k : to (Step k) ≡ Step n
    to_k =
        let place : place_of k 0 U ≡ length at = ap (place_of k 0) u ∙ place_new k 0 seen L1 new ∙ (let z : 0 + length seen ≡ length at = omega (arith, long) in z) in
        (λ j. Step (if small j then get_or (spots c 0 [] rest) (place_of k 0 U) 0 else get_or (others c 0 [] rest) (k - c) 0))
        ∙ ap Step ((λ j. get_or (s j) (place j) 0) ∙ get_or_at at n L2 0 (length at) refl)

    k_below : k < c
    k_below = ltb-true k c small

    old_type : type_in p pre (Step k) ≡ Some IndexType
    old_type =
        ap (λ l. type_in p l (Step k)) front
        ∙ type_kept p fs mid (Step k) IndexType (ap (λ (o : Option PayloadStep). option_map (λ (s : PayloadStep). s.ty) o) (front_at c k k_below))

    bring_typed : Typed p p' g g' to both_known (N seen) pre pre' → Typed p p' g g' to both_known (N (seen ++ k ∷ [])) pre (pre' ++ step ∷ [])
    bring_typed h (Input i) t nn e = type_kept p' pre' (step ∷ []) (Input i) t (h (Input i) t tt e)
    bring_typed h Out t nn e = type_kept p' pre' (step ∷ []) Out t (h Out t tt e)
    bring_typed h (Step i) t nn e = ⊎_elim
        (λ b. ⊎_elim
        (λ l. type_kept p' pre' (step ∷ []) (to (Step i)) t (h (Step i) t (λ q. l) e))
        (λ r. ap (λ x. type_in p' (pre' ++ step ∷ []) (to (Step x))) (sym r) ∙ ap (type_in p' (pre' ++ step ∷ [])) to_k ∙ type_new p' pre' step [] n (sym long')
        ∙ sym old_type ∙ ap (λ x. type_in p pre (Step x)) r ∙ e)
        (among_last i k seen (nn b)))
        (λ b. type_kept p' pre' (step ∷ []) (to (Step i)) t (h (Step i) t (λ q. absurd (true≢false (sym q ∙ b))) e))
        (cases_Bool (nat_lt i c))

    abbrev v : ℕ
    v = get_or (map (λ k. get_or outer k 0) U) (length seen) 0 % 2 ^ 64

    v_is : v ≡ get_or outer k 0 % 2 ^ 64
    v_is =
        let there : length seen < length U = (let e = ap length u in omega (arith, e, length-append seen (k ∷ L1))) in
        ap (λ x. x % 2 ^ 64) (get_or-map (λ k. get_or outer k 0) U (length seen) 0 0 there ∙ ap (λ x. get_or outer x 0) (ap (λ l. get_or l (length seen) 0) u ∙ get_or_at seen k L1 0 (length seen) refl))

    bring_values : Typed p p' g g' to both_known (N seen) pre pre' → (done done' : List ℕ) → Agree p p' g g' to both_known (N seen) pre pre' done done' →
        (a : Arg) (t : ElemTy) → N (seen ++ k ∷ []) a → type_in p pre a ≡ Some t → arg_value g' (done' ++ v ∷ []) (to a) ≡ arg_value g done a
    bring_values h done done' e (Input i) t nn q = refl
    bring_values h done done' e Out t nn q = refl
    bring_values h done done' e (Step i) t nn q = ⊎_elim
        (λ b. ⊎_elim
        (λ l. value_kept p' g' pre' (to (Step i)) t done' (v ∷ []) (h (Step i) t (λ z. l) q) e.long' ∙ e.values (Step i) t (λ z. l) q)
        (λ r. ap (λ x. arg_value g' (done' ++ v ∷ []) (to (Step x))) (sym r) ∙ ap (arg_value g' (done' ++ v ∷ [])) to_k ∙ value_new p' g' pre' done' v [] n (sym long') e.long'
        ∙ v_is ∙ sym (tabled_at (λ i. get_or outer i 0 % 2 ^ 64) c k 0 k_below)
        ∙ sym (get_or_append_left known e.old_rest 0 k (omega (arith, k_below, known_length))) ∙ ap (λ l. get_or l k 0) (sym e.old_begins) ∙ ap (λ x. get_or done x 0) r)
        (among_last i k seen (nn b)))
        (λ b. let m : N seen (Step i) = λ z. absurd (true≢false (sym z ∙ b)) in value_kept p' g' pre' (to (Step i)) t done' (v ∷ []) (h (Step i) t m q) e.long' ∙ e.values (Step i) t m q)
        (cases_Bool (nat_lt i c))

    bring_alike : Alike p p' g g' to both_known (N seen) (N (seen ++ k ∷ [])) pre pre' [] (step ∷ []) pre (pre' ++ step ∷ [])
    unfolding op_value
    bring_alike = record {
      is = sym (append-nil pre);
      is' = refl;
      typed = bring_typed;
      fits = λ h. refl;
      runs = λ h q q' done done' e. record {
        values = bring_values h done done' e;
        long = e.long;
        long' = omega (arith, length-append done' (v ∷ []), length-append pre' (step ∷ []), e.long');
        old_rest = e.old_rest;
        old_begins = e.old_begins;
        rest = e.rest ++ v ∷ [];
        begins = ap (λ l. l ++ v ∷ []) e.begins;
      };
    }

  -- THOSE OF AN OPERATION'S ARGUMENTS
  all_named : (args : List Arg) (seen : List ℕ) → Each (N (seen ++ news c seen args)) args
  all_named [] seen = tt
  all_named (a ∷ args) seen =
      (first a, each_assoc args (all_named args (seen ++ news_of c seen a)))
    where
      each_assoc : (xs : List Arg) → Each (N ((seen ++ news_of c seen a) ++ news c (seen ++ news_of c seen a) args)) xs → Each (N (seen ++ (news_of c seen a ++ news c (seen ++ news_of c seen a) args))) xs
      each_assoc xs h = subst (λ l. Each (N l) xs) (append_assoc seen (news_of c seen a) (news c (seen ++ news_of c seen a) args)) h

      first : (b : Arg) → N (seen ++ (news_of c seen b ++ news c (seen ++ news_of c seen a) args)) b
      first (Input i) = tt
      first Out = tt
      first (Step i) = λ small. by (nat_lt i c) (has seen i) small refl where
        by : (l m : Bool) → l ≡ true → has seen i ≡ m → has (seen ++ ((if l && not m then i ∷ [] else []) ++ news c (seen ++ news_of c seen a) args)) i ≡ true
        by true true q r = among_left i seen _ r
        by true false q r = among_right i seen (i ∷ news c (seen ++ news_of c seen a) args) (among_self i (news c (seen ++ news_of c seen a) args))
        by false m q r = absurd cc

  abbrev caps : ℕ → ℕ → List PayloadStep
  caps m k = map captured_step (count_up m k)

  brings : (args : List Arg) (seen at : List ℕ) (n : ℕ) (L1 L2 : List ℕ) (pre pre' mid : List PayloadStep) →
      U ≡ seen ++ (news c seen args ++ L1) → spots c 0 [] rest ≡ at ++ (count_up n (length (news c seen args)) ++ L2) → length at ≡ length seen → length pre' ≡ n → pre ≡ fs ++ mid →
      (post' : List PayloadStep) × Alike p p' g g' to both_known (N seen) (N (seen ++ news c seen args)) pre pre' [] (caps (length seen) (length (news c seen args))) pre post'
  brings [] seen at n L1 L2 pre pre' mid u s long long' front =
      (pre', subst (λ l. Alike p p' g g' to both_known (N seen) (N l) pre pre' [] [] pre pre') (sym (append-nil seen)) (none_alike p p' g g' to both_known (N seen) pre pre'))
  brings (a ∷ args) seen at n L1 L2 pre pre' mid u s long long' front =
      by (news_of c seen a) (kind a) (λ s1 a1 n1 p1 q1 r1 t1 w1. brings args s1 a1 n1 L1 L2 pre p1 mid q1 r1 t1 w1 front) u s
    where
      kind : (b : Arg) → (news_of c seen b ≡ []) ⊎ ((k : ℕ) × (news_of c seen b ≡ k ∷ []) × (nat_lt k c ≡ true) × (has seen k ≡ false))
      kind (Input i) = inl refl
      kind Out = inl refl
      kind (Step i) = test (nat_lt i c) (has seen i) refl refl where
        test : (l m : Bool) → nat_lt i c ≡ l → has seen i ≡ m →
            ((if l && not m then i ∷ [] else []) ≡ []) ⊎ ((k : ℕ) × ((if l && not m then i ∷ [] else []) ≡ k ∷ []) × (nat_lt k c ≡ true) × (has seen k ≡ false))
        test true true q r = inl refl
        test true false q r = inr (i, refl, q, r)
        test false m q r = inl refl

      by : (ks : List ℕ) → (ks ≡ []) ⊎ ((k : ℕ) × (ks ≡ k ∷ []) × (nat_lt k c ≡ true) × (has seen k ≡ false)) →
          ((s1 a1 : List ℕ) (n1 : ℕ) (p1 : List PayloadStep) → U ≡ s1 ++ (news c s1 args ++ L1) → spots c 0 [] rest ≡ a1 ++ (count_up n1 (length (news c s1 args)) ++ L2) → length a1 ≡ length s1 → length p1 ≡ n1 →
          (post' : List PayloadStep) × Alike p p' g g' to both_known (N s1) (N (s1 ++ news c s1 args)) pre p1 [] (caps (length s1) (length (news c s1 args))) pre post') →
          U ≡ seen ++ ((ks ++ news c (seen ++ ks) args) ++ L1) → spots c 0 [] rest ≡ at ++ (count_up n (length (ks ++ news c (seen ++ ks) args)) ++ L2) →
          (post' : List PayloadStep) × Alike p p' g g' to both_known (N seen) (N (seen ++ (ks ++ news c (seen ++ ks) args))) pre pre' [] (caps (length seen) (length (ks ++ news c (seen ++ ks) args))) pre post'
      by [] h again u s =
          let z : seen ++ [] ≡ seen = append-nil seen in
          let r = again seen at n pre' (u ∙ ap (λ x. seen ++ (news c x args ++ L1)) z) (s ∙ ap (λ x. at ++ (count_up n (length (news c x args)) ++ L2)) z) long long' in
          subst (λ x. (post' : List PayloadStep) × Alike p p' g g' to both_known (N seen) (N (seen ++ news c x args)) pre pre' [] (caps (length seen) (length (news c x args))) pre post') (sym z) r
      by (k ∷ []) (inr h) again u s =
          let k_is : k ≡ h.0 = ap (λ l. get_or l 0 0) h.1 in
          let small : nat_lt k c ≡ true = ap (λ x. nat_lt x c) k_is ∙ h.2 in
          let new : has seen k ≡ false = ap (λ x. has seen x) k_is ∙ h.3 in
          let ms = news c (seen ++ k ∷ []) args in
          let first = bring_alike k seen at n (ms ++ L1) (count_up (n + 1) (length ms) ++ L2) pre pre' mid small new u s long long' front in
          let more : length (seen ++ k ∷ []) ≡ length seen + 1 = length-append seen (k ∷ []) in
          let r = again (seen ++ k ∷ []) (at ++ n ∷ []) (n + 1) (pre' ++ captured_step (length seen) ∷ [])
          (u ∙ sym (append_assoc seen (k ∷ []) (ms ++ L1))) (s ∙ sym (append_assoc at (n ∷ []) (count_up (n + 1) (length ms) ++ L2)))
          (omega (arith, length-append at (n ∷ []), more, long)) (omega (arith, length-append pre' (captured_step (length seen) ∷ []), long')) in (
            r.0,
            then_alike p p' g g' to both_known (N seen) (N (seen ++ k ∷ [])) (N (seen ++ (k ∷ ms))) pre pre' [] (captured_step (length seen) ∷ []) pre (pre' ++ captured_step (length seen) ∷ [])
                [] (caps (length seen + 1) (length ms)) pre r.0 first
                (subst (λ m. Alike p p' g g' to both_known (N (seen ++ k ∷ [])) (N (seen ++ (k ∷ ms))) pre (pre' ++ captured_step (length seen) ∷ []) [] (caps m (length ms)) pre r.0) more
                (subst (λ l. Alike p p' g g' to both_known (N (seen ++ k ∷ [])) (N l) pre (pre' ++ captured_step (length seen) ∷ []) [] (caps (length (seen ++ k ∷ [])) (length ms)) pre r.0) (append_assoc seen (k ∷ []) ms) r.1)),
          )
      by (k ∷ []) (inl h) again u s = absurd cc
      by (k ∷ l ∷ ks) (inl h) again u s = absurd cc
      by (k ∷ l ∷ ks) (inr h) again u s = absurd cc

  -- ALL STEPS
  supplied : (M : Arg → Type 0) (op : StepOp) → IsNotCaptured op → Supplied p p' g g' to both_known [] M own_index (λ k. k) op
  unfolding op_value
  supplied M (Index d) h = λ pre' mid behind'. record {
    fits = refl;
    typed = type_new p' pre' (record { ty = IndexType; op = Index d }) [] (length pre' + 1 - 1) (omega arith);
    runs = λ done past k b. ((get_or point d 0 % 2 ^ 64) ∷ [], refl, refl, (let e : length done ≡ length pre' + 1 - 1 = omega (arith, k) in get_or_at done (get_or point d 0 % 2 ^ 64) [] 0 (length pre' + 1 - 1) e));
  }
  supplied M (Captured k) h = absurd h
  supplied M (Const n) h = tt
  supplied M (Linear c ts) h = tt
  supplied M (Binary op a b) h = tt
  supplied M (Compare c a b) h = tt
  supplied M (Select c a b) h = tt
  supplied M (SignExtend a) h = tt
  supplied M (ZeroExtend a) h = tt
  supplied M (Truncate a) h = tt
  supplied M (IndexCast a) h = tt

  places : (ss : List PayloadStep) (seen at nums : List ℕ) (n : ℕ) (pre pre' mid : List PayloadStep) → pre ≡ fs ++ mid → length pre ≡ c + length nums → length pre' ≡ n →
      U ≡ used c seen ss → spots c 0 [] rest ≡ at ++ spots c n seen ss → others c 0 [] rest ≡ nums ++ others c n seen ss → length at ≡ length seen →
      steps_fit ins_t out_t ss pre ≡ true → Each (λ (s : PayloadStep). IsNotCaptured s.op) ss →
      (post' : List PayloadStep) × Alike p p' g g' to both_known (N seen) (N (used c seen ss)) pre pre' ss (placed_steps c to n seen ss) (pre ++ ss) post'
  places [] seen at nums n pre pre' mid front old new u s o long fit plain =
      (pre', subst (λ l. Alike p p' g g' to both_known (N seen) (N seen) pre pre' [] [] l pre') (sym (append-nil pre)) (none_alike p p' g g' to both_known (N seen) pre pre'))
  places (x ∷ ss) seen at nums n pre pre' mid front old new u s o long fit plain =
      let ks = named c seen x in
      let seen' = seen ++ ks in
      let m = n + length ks in
      let fits : (op_fits (type_in p pre) x.ty x.op ≡ true) × (steps_fit ins_t out_t ss (pre ++ x ∷ []) ≡ true) = and_parts _ _ fit in
      let later = used_begins c ss seen' in
      let caught = brings (args_of x.op) seen at n later.0 (spots c (suc m) seen' ss) pre pre' mid (u ∙ later.1 ∙ append_assoc seen ks later.0)
      (s ∙ ap (λ l. at ++ l) refl) long new front in
      let mid' = caught.0 in
      let mid_length : length mid' ≡ m = ap length caught.1.is' ∙ (let q = length-append pre' (caps (length seen) (length ks)) in let r = length-map (count_up (length seen) (length ks)) captured_step in
      let t = count_length' (length seen) (length ks) in omega (arith, q, r, t, new)) in
      let at_here : to (Step (length pre)) ≡ Step (number own_index (λ k. k) (length mid') x.op) =
      (let past : nat_lt (length pre) c ≡ false = not_below (length pre) c (omega (arith, old)) in
      let place : length pre - c ≡ length nums = omega (arith, old) in
      (λ j. Step (if past j then get_or (spots c 0 [] rest) (place_of (length pre) 0 U) 0 else get_or (o j) (place j) 0))
      ∙ ap Step (get_or_at nums m (others c (suc m) seen' ss) 0 (length nums) refl)
      ∙ ap Step (sym mid_length ∙ sym (number_is (λ k. k) (length mid') x.op plain.0))) in
      let b = block own_index to (length mid') x.ty x.op in
      let here = one p p' g g' to both_known [] (N seen') own_index (λ k. k) refl pre mid' mid' x x.op refl refl fits.0 at_here (supplied (N seen') x.op plain.0) (all_named (args_of x.op) seen) in
      let post_length : length (mid' ++ b) ≡ suc m = (let q = length-append mid' b in let r = one_step to (length mid') x.ty x.op plain.0 in omega (arith, q, r, mid_length)) in
      let after = places ss seen' (at ++ count_up n (length ks)) (nums ++ m ∷ []) (suc m) (pre ++ x ∷ []) (mid' ++ b) (mid ++ x ∷ [])
      (ap (λ l. l ++ x ∷ []) front ∙ append_assoc fs mid (x ∷ [])) (omega (arith, length-append pre (x ∷ []), length-append nums (m ∷ []), old)) post_length u
      (s ∙ sym (append_assoc at (count_up n (length ks)) (spots c (suc m) seen' ss))) (o ∙ sym (append_assoc nums (m ∷ []) (others c (suc m) seen' ss)))
      (let q = length-append at (count_up n (length ks)) in let r = length-append seen ks in let t = count_length' n (length ks) in omega (arith, q, r, t, long)) fits.1 plain.1 in
      let both = then_alike p p' g g' to both_known (N seen) (N seen') (N seen') pre pre' [] (caps (length seen) (length ks)) pre mid' (x ∷ []) b (pre ++ x ∷ []) (mid' ++ b) caught.1 here in
      let whole = then_alike p p' g g' to both_known (N seen) (N seen') (N (used c seen' ss)) pre pre' (x ∷ []) (caps (length seen) (length ks) ++ b) (pre ++ x ∷ []) (mid' ++ b)
      ss (placed_steps c to (suc m) seen' ss) (pre ++ x ∷ ss) after.0 both
      (subst (λ l. Alike p p' g g' to both_known (N seen') (N (used c seen' ss)) (pre ++ x ∷ []) (mid' ++ b) ss (placed_steps c to (suc m) seen' ss) l after.0) (append_assoc pre (x ∷ []) ss) after.1) in (
        after.0,
        subst (λ l. Alike p p' g g' to both_known (N seen) (N (used c seen' ss)) pre pre' (x ∷ ss) l (pre ++ x ∷ ss) after.0)
            (append_assoc (caps (length seen) (length ks)) b (placed_steps c to (suc m) seen' ss) ∙ (λ j. caps (length seen) (length ks) ++ (block own_index to (mid_length j) x.ty x.op ++ placed_steps c to (suc m) seen' ss))) whole,
      )
    where
      count_length' : (a k : ℕ) → length (count_up a k) ≡ k
      count_length' a k = count_length a k

      not_below : (a b : ℕ) → b ≤ a → nat_lt a b ≡ false
      not_below a b h = grind (arith, nat_tests)

  module _ (plain : Each (λ (s : PayloadStep). IsNotCaptured s.op) rest) (behind : IsBehind c yielded) where
    split_fits : steps_fit ins_t out_t rest fs ≡ true
    split_fits = later (count_up 0 c) [] (and_parts (steps_fit ins_t out_t (fs ++ rest) []) _ good).0 where
      later : (is : List ℕ) (pre : List PayloadStep) → steps_fit ins_t out_t (map captured_step is ++ rest) pre ≡ true → steps_fit ins_t out_t rest (pre ++ map captured_step is) ≡ true
      later [] pre h = subst (λ l. steps_fit ins_t out_t rest l ≡ true) (sym (append-nil pre)) h
      later (i ∷ is) pre h = subst (λ l. steps_fit ins_t out_t rest l ≡ true) (append_assoc pre (captured_step i ∷ []) (map captured_step is)) (later is (pre ++ captured_step i ∷ []) h)

    alike : (post' : List PayloadStep) × Alike p p' g g' to both_known (N []) (N U) fs [] rest (placed_steps c to 0 [] rest) (fs ++ rest) post'
    alike = places rest [] [] [] 0 fs [] [] (sym (append-nil fs)) (let z : c ≡ c + 0 = omega arith in fs_length ∙ z) refl refl refl refl refl split_fits plain

    missing : (i : ℕ) (t : ElemTy) → type_in p fs (Step i) ≡ Some t → nat_lt i c ≡ true
    missing i t e = by (slice_get fs i) refl e where
      by : (o : Option PayloadStep) → slice_get fs i ≡ o → option_map (λ (s : PayloadStep). s.ty) o ≡ Some t → nat_lt i c ≡ true
      by None q h = absurd (none-some t h)
      by (Some s) q h = lt-ltb i c (let l = slice_get_within fs i s q in omega (arith, l, fs_length))

    typed : Typed p p' g g' to both_known (N []) fs []
    typed (Input i) t n e = e
    typed Out t n e = e
    typed (Step i) t n e = absurd (true≢false (sym (n (missing i t e))))

    agrees : Agree p p' g g' to both_known (N []) fs [] known []
    agrees = record { values = value; long = known_length ∙ sym fs_length; long' = refl; old_rest = []; old_begins = sym (append-nil known); rest = []; begins = refl } where
      value : (a : Arg) (t : ElemTy) → N [] a → type_in p fs a ≡ Some t → arg_value g' [] (to a) ≡ arg_value g known a
      value (Input i) t n e = refl
      value Out t n e = refl
      value (Step i) t n e = absurd (true≢false (sym (n (missing i t e))))

    yield_named : (a : Arg) → IsBehind c a → N U a
    yield_named (Input i) h = tt
    yield_named Out h = tt
    yield_named (Step i) h = λ q. absurd (true≢false (sym q ∙ h))

    same_value : (x y : Option (List ℕ)) → Both (Agree p p' g g' to both_known (N U) (fs ++ rest) alike.0) x y →
        option_map (λ done. arg_value g' done (to yielded)) y ≡ option_map (λ done. arg_value g done yielded) x
    same_value None None h = refl
    same_value (Some d) (Some d') h = ap Some (h.values yielded out_t (yield_named yielded behind) (yields p good))
    same_value None (Some d') h = absurd h
    same_value (Some d) None h = absurd h

    pub placed_here : payload_value p' g' ≡ payload_value p g
    placed_here =
        same_value (steps_values p g rest known) (steps_values p' g' (placed_steps c to 0 [] rest) [])
        (alike.1.runs typed ([], sym (append-nil (fs ++ rest))) ([], sym (append-nil alike.0 ∙ alike.1.is')) known [] agrees)
        ∙ ap (option_map (λ done. arg_value g done yielded)) (sym (steps_values-append p g fs rest [] ∙ ap (option_and_then (steps_values p g rest)) (front_run p g (count_up 0 c) [])))

    pub placed_fits : IsPayload p'
    placed_fits =
        let steps : steps_fit ins_t out_t (placed_steps c to 0 [] rest) [] ≡ true = alike.1.fits typed in
        let type_of : type_in p' (placed_steps c to 0 [] rest) (to yielded) ≡ Some out_t =
        ap (λ l. type_in p' l (to yielded)) (sym alike.1.is') ∙ alike.1.typed typed yielded out_t (yield_named yielded behind) (yields p good) in
        λ i. steps i && ((λ k. has_type (type_of k) out_t) ∙ self out_t) i
      where
        self : (t : ElemTy) → is_elem t t ≡ true
        self (Int w) = grind arith
        self IndexType = refl

pub placed_gives : PlacedGives
placed_gives c ins_t out_t rest yielded good plain behind point outer ins out =
    (placed_fits c ins_t out_t rest yielded good point outer ins out plain behind, placed_here c ins_t out_t rest yielded good point outer ins out plain behind)
