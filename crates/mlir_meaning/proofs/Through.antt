-- Operations with other numbers run alike, in states that agree through those numbers on the values that are read.
use Rattle.std.proofs.Common.{◌≡◌, ℕ, zero, suc, ◌+◌, ◌==◌, Bool, true, false, not, ℤ, ◌+ℤ◌, List, [], ◌∷◌, ◌++◌, map, length, Option, Some, None, refl, ap, sym, ◌∙◌, subst, cond}
use Rattle.std.specs.Prelude.{if◌then◌else◌, Result, Ok, Err, position, nat_lt, option_to_list}
use Rattle.std.specs.List.{prefix_len}
use Rattle.std.proofs.lemmas.List.{length-map}
use Rattle.mlir_ir.specs.Count.{idx_values}
use Rattle.mlir_ir.specs.declared.tree.Op.{Op}
use Rattle.mlir_ir.specs.declared.tree.Ty.{Ty}
use Rattle.mlir_ir.specs.declared.tree.ValueId.{ValueId}
use Rattle.mlir_ir.specs.declared.tree.Idx.{Idx}
use Rattle.mlir_ir.specs.declared.tree.Idx.TheVariants.{Literal, Value}
use Rattle.mlir_ir.specs.declared.tree.OpKind.{OpKind, Constant, Apply, Least, Empty, ExtractSlice, InsertSlice, Pad, Generic, Fill, Matmul, BatchMatmul, Transpose, Broadcast, Pack, Unpack, For', Forall', Yield, ParallelInsert, CreateMask, TransferRead, TransferWrite, Elementwise, MultiReduction, Return, Row_of-Op, end_of-Op, more_of-Op}
use Rattle.mlir_meaning.specs.declared.answer.Fault.{Fault}
use Rattle.mlir_meaning.specs.declared.answer.Fault.TheVariants.{Stuck}
use Rattle.mlir_meaning.specs.Grids.{Grid, Each, points}
use Rattle.mlir_meaning.specs.Points.{to_nat}
use Rattle.mlir_meaning.specs.States.{Datum, Number, Cells, Insertion, State, Outcome, Goes, Ends, Fails, number_of, grid_of, width_of, element, number_in, indices_in, set, set_all, names_of, defines, made, is_index, indexed, then_goes, then_ends, then_made}
use Rattle.mlir_meaning.specs.Structured.{generic_result, fill_result, matmul_result, batch_matmul_result, transpose_result, broadcast_result}
use Rattle.mlir_meaning.specs.Moves.{like, slice_of, insert_into, pad_of, empty_of, pack_of, unpack_of}
use Rattle.mlir_meaning.specs.Vectors.{mask_of, read_of, write_of, elementwise_result, reduction_of}
use Rattle.mlir_meaning.specs.Loops.{ForHead, ForallHead, arguments, starts, trips, turns, for_state, for_trips, for_meaning, trip_counts, forall_box, numbers_at, forall_state, insertions_of, gathered, inserted_data, forall_meaning, output_of, insertion_noted}
use Rattle.mlir_meaning.specs.Meaning.{result_type, type_extents, type_width, values_in, numbers_in, places_in, optional_scalar, optional_value, captured_in, constant_of, least_result, kind_meaning, row_meaning, run}
use Rattle.mlir_meaning.specs.Names.{AreIn, ReadsOnly, RowReadsOnly, OpsReadOnly, DefinesOnly, RowDefinesOnly, OpsDefineOnly}
use Rattle.mlir_meaning.proofs.Grids.{each_more}
use Rattle.mlir_meaning.specs.Renaming.{value, values, indices, optional, defined, arguments_renamed, renamed, renamed_row, renamed_ops}

pub each_left : {X : Type 0} (P : X → Type 0) (xs ys : List X) → Each P (xs ++ ys) → Each P xs
each_left P [] ys h = tt
each_left P (x ∷ xs) ys h = (h.0, each_left P xs ys h.1)

pub each_right : {X : Type 0} (P : X → Type 0) (xs ys : List X) → Each P (xs ++ ys) → Each P ys
each_right P [] ys h = h
each_right P (x ∷ xs) ys h = each_right P xs ys h.1

-- N are the values that may be read
module _ (N : ℕ → Bool) (ids uses defs : ℕ → ℕ) where
  -- no value that is read takes its number
  abbrev pub StaysApart : ℕ → Type 0
  StaysApart v = (w : ℕ) → N w ≡ true → (defs v == defs w) ≡ (v == w)

  -- and its uses are those that it had
  abbrev pub Lasts : ℕ → Type 0
  Lasts v = ((w : ℕ) → N w ≡ true → (uses w == defs v) ≡ (w == v)) × StaysApart v

  abbrev pub AllLast : List ValueId → Type 0
  AllLast = Each (λ v. Lasts v.0)

  abbrev pub AllApart : List ValueId → Type 0
  AllApart = Each (λ v. StaysApart v.0)

  abbrev pub SameValues : (ℕ → Datum) → (ℕ → Datum) → Type 0
  SameValues d e = (v : ℕ) → N v ≡ true → d v ≡ e (uses v)

  pub record Agree (s t : State) : Type 0 where
    pub values : SameValues s.values t.values
    pub shared : map (value defs) s.shared ≡ t.shared
    pub apart : AllApart s.shared
    pub inserts : s.inserts ≡ t.inserts

  abbrev pub Alike : Outcome → Outcome → Type 0
  Alike (Goes s) (Goes t) = Agree s t
  Alike (Ends ds) (Ends es) = ds ≡ es
  Alike (Fails x) (Fails y) = x ≡ y
  Alike _ _ = ⊥

  -- DEFINITIONS
  pub set-same : (d e : ℕ → Datum) (v : ℕ) (x : Datum) → Lasts v → SameValues d e → SameValues (set d v x) (set e (defs v) x)
  set-same d e v x last same w read = λ j. if sym (last.0 w read) j then x else same w read j

  pub set_all-same : (vs : List ValueId) (xs : List Datum) (d e : ℕ → Datum) → AllLast vs → SameValues d e → SameValues (set_all d vs xs) (set_all e (values defs vs) xs)
  set_all-same [] xs d e last same = same
  set_all-same (v ∷ vs) [] d e last same = same
  set_all-same (v ∷ vs) (x ∷ xs) d e last same = set_all-same vs xs (set d v.0 x) (set e (defs v.0) x) last.1 (set-same d e v.0 x last.0 same)

  pub names-defined : (rs : List (ValueId × Ty)) → values defs (names_of rs) ≡ names_of (defined ids uses defs rs)
  names-defined [] = refl
  names-defined (r ∷ rs) = λ j. value defs r.0 ∷ names-defined rs j

  pub arguments-renamed : (c : List (ValueId × Ty × ValueId)) → values defs (arguments c) ≡ arguments (arguments_renamed ids uses defs c)
  arguments-renamed [] = refl
  arguments-renamed (c ∷ cs) = λ j. value defs c.0 ∷ arguments-renamed cs j

  type-defined : (rs : List (ValueId × Ty)) → result_type rs ≡ result_type (defined ids uses defs rs)
  type-defined [] = refl
  type-defined (r ∷ rs) = refl

  -- WHAT IS READ
  pub values-same : (d e : ℕ → Datum) (vs : List ValueId) → SameValues d e → AreIn N vs → values_in d vs ≡ values_in e (values uses vs)
  values-same d e [] same read = refl
  values-same d e (v ∷ vs) same read = λ j. same v.0 read.0 j ∷ values-same d e vs same read.1 j

  pub numbers-same : (d e : ℕ → Datum) (vs : List ValueId) → SameValues d e → AreIn N vs → numbers_in d vs ≡ numbers_in e (values uses vs)
  numbers-same d e [] same read = refl
  numbers-same d e (v ∷ vs) same read = λ j. number_of (same v.0 read.0 j) ∷ numbers-same d e vs same read.1 j

  pub captured-same : (d e : ℕ → Datum) (vs : List ValueId) → SameValues d e → AreIn N vs → captured_in d vs ≡ captured_in e (values uses vs)
  captured-same d e [] same read = refl
  captured-same d e (v ∷ vs) same read = λ j. element (same v.0 read.0 j) [] ∷ captured-same d e vs same read.1 j

  pub indices-same : (d e : ℕ → Datum) (is : List Idx) → SameValues d e → AreIn N (idx_values is) → indices_in d is ≡ indices_in e (indices uses is)
  indices-same d e [] same read = refl
  indices-same d e (Literal n ∷ is) same read = λ j. n ∷ indices-same d e is same read j
  indices-same d e (Value v ∷ is) same read = λ j. number_of (same v.0 read.0 j) ∷ indices-same d e is same read.1 j

  pub starts-same : (d e : ℕ → Datum) (c : List (ValueId × Ty × ValueId)) → SameValues d e → AreIn N (map (λ c. c.2) c) → starts d c ≡ starts e (arguments_renamed ids uses defs c)
  starts-same d e [] same read = refl
  starts-same d e (c ∷ cs) same read = λ j. same (c.2).0 read.0 j ∷ starts-same d e cs same read.1 j

  scalar-same : (d e : ℕ → Datum) (v : Option ValueId) → SameValues d e → AreIn N (option_to_list v) → optional_scalar d v ≡ optional_scalar e (optional uses v)
  scalar-same d e None same read = refl
  scalar-same d e (Some v) same read = λ j. element (same v.0 read.0 j) []

  optional-same : (d e : ℕ → Datum) (v : Option ValueId) → SameValues d e → AreIn N (option_to_list v) → optional_value d v ≡ optional_value e (optional uses v)
  optional-same d e None same read = refl
  optional-same d e (Some v) same read = λ j. Some (same v.0 read.0 j)

  -- RESULTS
  pub defines-alike : (rs : List (ValueId × Ty)) (s t : State) (ds : List Datum) → AllLast (names_of rs) → Agree s t → Alike (defines rs s ds) (defines (defined ids uses defs rs) t ds)
  defines-alike rs s t ds last a = record {
    values = subst (λ vs. SameValues (set_all s.values (names_of rs) ds) (set_all t.values vs ds)) (names-defined rs) (set_all-same (names_of rs) ds s.values t.values last a.values);
    shared = a.shared;
    apart = a.apart;
    inserts = a.inserts;
  }

  made-alike : (rs : List (ValueId × Ty)) (s t : State) (x : Option Datum) → AllLast (names_of rs) → Agree s t → Alike (made rs s x) (made (defined ids uses defs rs) t x)
  made-alike rs s t None last a = refl
  made-alike rs s t (Some d) last a = defines-alike rs s t (d ∷ []) last a

  indexed-alike : (held : Bool) (rs : List (ValueId × Ty)) (s t : State) (ds : List Datum) → AllLast (names_of rs) → Agree s t →
      Alike (if held then defines rs s ds else Fails Stuck) (if held then defines (defined ids uses defs rs) t ds else Fails Stuck)
  indexed-alike true rs s t ds last a = defines-alike rs s t ds last a
  indexed-alike false rs s t ds last a = refl

  pub indexed-like : (rs : List (ValueId × Ty)) (s t : State) (n m : ℤ) → AllLast (names_of rs) → Agree s t → n ≡ m → Alike (indexed rs s n) (indexed (defined ids uses defs rs) t m)
  indexed-like rs s t n m last a e =
      subst (λ k. Alike (indexed rs s n) (indexed (defined ids uses defs rs) t k)) e (indexed-alike (is_index n) rs s t (Number n ∷ []) last a)

  pub made-like : (rs : List (ValueId × Ty)) (s t : State) (x y : Option Datum) → AllLast (names_of rs) → Agree s t → x ≡ y → Alike (made rs s x) (made (defined ids uses defs rs) t y)
  made-like rs s t x y last a e = subst (λ z. Alike (made rs s x) (made (defined ids uses defs rs) t z)) e (made-alike rs s t x last a)

  -- ONE AFTER ANOTHER
  pub then-alike : (o p : Outcome) (f g : State → Outcome) → Alike o p → ((s t : State) → Agree s t → Alike (f s) (g t)) → Alike (then_goes o f) (then_goes p g)
  then-alike (Goes s) (Goes t) f g a h = h s t a
  then-alike (Ends ds) (Ends es) f g a h = a
  then-alike (Fails x) (Fails y) f g a h = a
  then-alike (Goes s) (Ends es) f g a h = absurd a
  then-alike (Goes s) (Fails y) f g a h = absurd a
  then-alike (Ends ds) (Goes t) f g a h = absurd a
  then-alike (Ends ds) (Fails y) f g a h = absurd a
  then-alike (Fails x) (Goes t) f g a h = absurd a
  then-alike (Fails x) (Ends es) f g a h = absurd a

  ends-same : (o p : Outcome) (f g : List Datum → Outcome) → Alike o p → ((ds : List Datum) → f ds ≡ g ds) → then_ends o f ≡ then_ends p g
  ends-same (Goes s) (Goes t) f g a h = refl
  ends-same (Ends ds) (Ends es) f g a h = h ds ∙ ap g a
  ends-same (Fails x) (Fails y) f g a h = ap Fails a
  ends-same (Goes s) (Ends es) f g a h = absurd a
  ends-same (Goes s) (Fails y) f g a h = absurd a
  ends-same (Ends ds) (Goes t) f g a h = absurd a
  ends-same (Ends ds) (Fails y) f g a h = absurd a
  ends-same (Fails x) (Goes t) f g a h = absurd a
  ends-same (Fails x) (Ends es) f g a h = absurd a

  pub insertions-same : (o p : Outcome) → Alike o p → insertions_of o ≡ insertions_of p
  insertions-same (Goes s) (Goes t) a = ap Ok a.inserts
  insertions-same (Ends ds) (Ends es) a = refl
  insertions-same (Fails x) (Fails y) a = ap Err a
  insertions-same (Goes s) (Ends es) a = absurd a
  insertions-same (Goes s) (Fails y) a = absurd a
  insertions-same (Ends ds) (Goes t) a = absurd a
  insertions-same (Ends ds) (Fails y) a = absurd a
  insertions-same (Fails x) (Goes t) a = absurd a
  insertions-same (Fails x) (Ends es) a = absurd a

  turns-same : (f g : ℤ → List Datum → Outcome) → ((n : ℤ) (ds : List Datum) → Alike (f n ds) (g n ds)) →
      (step : ℤ) (n : ℕ) (number : ℤ) (ds : List Datum) → turns f step n number ds ≡ turns g step n number ds
  turns-same f g h step zero number ds = refl
  turns-same f g h step (suc n) number ds = ends-same (f number ds) (g number ds) _ _ (h number ds) (turns-same f g h step n (number +ℤ step))

  -- LOOPS
  pub finished : (rs : List (ValueId × Ty)) (s t : State) (o : Outcome) → AllLast (names_of rs) → Agree s t →
      Alike (then_ends o (defines rs s)) (then_ends o (defines (defined ids uses defs rs) t))
  finished rs s t (Goes u) last a = refl
  finished rs s t (Ends ds) last a = defines-alike rs s t ds last a
  finished rs s t (Fails x) last a = refl

  pub completed : (rs : List (ValueId × Ty)) (s t : State) (r : Result (List Insertion) Fault) (ds : List Datum) → AllLast (names_of rs) → Agree s t →
      Alike (then_made r (λ is. defines rs s (inserted_data is 0 ds))) (then_made r (λ is. defines (defined ids uses defs rs) t (inserted_data is 0 ds)))
  completed rs s t (Ok is) ds last a = defines-alike rs s t (inserted_data is 0 ds) last a
  completed rs s t (Err f) ds last a = refl

  abbrev pub for_head : ForHead → ForHead
  for_head h = record { var = value defs h.var; lower = value uses h.lower; upper = value uses h.upper; step = value uses h.step; carried = arguments_renamed ids uses defs h.carried }

  abbrev pub forall_head : ForallHead → ForallHead
  forall_head h = record { vars = values defs h.vars; lower = indices uses h.lower; upper = indices uses h.upper; step = indices uses h.step; shared = arguments_renamed ids uses defs h.shared }

  -- a turn begins alike
  pub for_state-alike : (h : ForHead) (s t : State) (n : ℤ) (ds : List Datum) → Lasts h.var.0 → AllLast (arguments h.carried) → Agree s t →
      Agree (for_state s h n ds) (for_state t (for_head h) n ds)
  for_state-alike h s t n ds var carried a = record {
    values = subst (λ vs. SameValues (set_all (set s.values h.var.0 (Number n)) (arguments h.carried) ds) (set_all (set t.values (defs h.var.0) (Number n)) vs ds)) (arguments-renamed h.carried)
        (set_all-same (arguments h.carried) ds (set s.values h.var.0 (Number n)) (set t.values (defs h.var.0) (Number n)) carried (set-same s.values t.values h.var.0 (Number n) var a.values));
    shared = refl;
    apart = tt;
    inserts = refl;
  }

  -- a body begins alike
  pub forall_state-alike : (h : ForallHead) (s t : State) (p : List ℕ) → AreIn N (idx_values h.lower) → AreIn N (idx_values h.step) → AreIn N (map (λ c. c.2) h.shared) →
      AllLast h.vars → AllLast (arguments h.shared) → Agree s t → Agree (forall_state s h p) (forall_state t (forall_head h) p)
  forall_state-alike h s t p lower step begun vars shared a = record {
    values =
        subst (λ xs. SameValues (set_all (set_all s.values (arguments h.shared) (starts s.values h.shared)) h.vars (numbers_at (indices_in s.values h.lower) (indices_in s.values h.step) p))
        (set_all (set_all t.values xs (starts t.values (arguments_renamed ids uses defs h.shared))) (values defs h.vars) (numbers_at (indices_in t.values (indices uses h.lower)) (indices_in t.values (indices uses h.step)) p)))
        (arguments-renamed h.shared)
        (subst (λ ds. SameValues (set_all (set_all s.values (arguments h.shared) (starts s.values h.shared)) h.vars (numbers_at (indices_in s.values h.lower) (indices_in s.values h.step) p))
        (set_all (set_all t.values (values defs (arguments h.shared)) ds) (values defs h.vars) (numbers_at (indices_in t.values (indices uses h.lower)) (indices_in t.values (indices uses h.step)) p)))
        (starts-same s.values t.values h.shared a.values begun)
        (subst (λ ns. SameValues (set_all (set_all s.values (arguments h.shared) (starts s.values h.shared)) h.vars (numbers_at (indices_in s.values h.lower) (indices_in s.values h.step) p))
        (set_all (set_all t.values (values defs (arguments h.shared)) (starts s.values h.shared)) (values defs h.vars) ns))
        (λ j. numbers_at (indices-same s.values t.values h.lower a.values lower j) (indices-same s.values t.values h.step a.values step j) p)
        (set_all-same h.vars (numbers_at (indices_in s.values h.lower) (indices_in s.values h.step) p) _ _ vars
        (set_all-same (arguments h.shared) (starts s.values h.shared) s.values t.values shared a.values))));
    shared = arguments-renamed h.shared;
    apart = each_more (λ (v : ValueId). Lasts v.0) (λ v. StaysApart v.0) (λ v l. l.1) (arguments h.shared) shared;
    inserts = refl;
  }

  -- bodies that run alike make loops that run alike
  module _ (b b' : State → Outcome) (like : (s t : State) → Agree s t → Alike (b s) (b' t)) (rs : List (ValueId × Ty)) (last : AllLast (names_of rs)) (s t : State) (a : Agree s t) where
    pub for-alike : (h : ForHead) → AreIn N (h.lower ∷ h.upper ∷ h.step ∷ map (λ c. c.2) h.carried) → Lasts h.var.0 → AllLast (arguments h.carried) →
        Alike (for_meaning h b rs s) (for_meaning (for_head h) b' (defined ids uses defs rs) t)
    unfolding for_meaning
    for-alike h read var carried =
        let lower : number_in s.values h.lower ≡ number_in t.values (value uses h.lower) = ap number_of (a.values h.lower.0 read.0) in
        let upper : number_in s.values h.upper ≡ number_in t.values (value uses h.upper) = ap number_of (a.values h.upper.0 read.1.0) in
        let step : number_in s.values h.step ≡ number_in t.values (value uses h.step) = ap number_of (a.values h.step.0 read.1.1.0) in
        let whole : Outcome = turns (λ n ds. b (for_state s h n ds)) (number_in s.values h.step) (for_trips s h) (number_in s.values h.lower) (starts s.values h.carried) in
        let whole' : Outcome =
        turns (λ n ds. b' (for_state t (for_head h) n ds)) (number_in t.values (value uses h.step)) (for_trips t (for_head h)) (number_in t.values (value uses h.lower)) (starts t.values (arguments_renamed ids uses defs h.carried)) in
        let same : whole ≡ whole' =
        turns-same (λ n ds. b (for_state s h n ds)) (λ n ds. b' (for_state t (for_head h) n ds)) (λ n ds. like _ _ (for_state-alike h s t n ds var carried a)) _ _ _ _
        ∙ (λ j. turns (λ n ds. b' (for_state t (for_head h) n ds)) (step j) (trips (lower j) (upper j) (step j)) (lower j) (starts-same s.values t.values h.carried a.values read.1.1.1 j)) in
        subst (λ o. Alike (then_ends whole (defines rs s)) (then_ends o (defines (defined ids uses defs rs) t))) same (finished rs s t whole last a)

    pub forall-alike : (h : ForallHead) → AreIn N (idx_values h.lower ++ idx_values h.upper ++ idx_values h.step ++ map (λ c. c.2) h.shared) → AllLast h.vars → AllLast (arguments h.shared) →
        Alike (forall_meaning h b rs s) (forall_meaning (forall_head h) b' (defined ids uses defs rs) t)
    unfolding forall_meaning
    forall-alike h read vars shared =
        let L = idx_values h.lower in
        let U = idx_values h.upper in
        let S = idx_values h.step in
        let firsts = each_left _ (L ++ U ++ S) _ read in
        let begun = each_right _ (L ++ U ++ S) _ read in
        let ls = each_left _ L _ (each_left _ (L ++ U) _ firsts) in
        let us = each_right _ L _ (each_left _ (L ++ U) _ firsts) in
        let ss = each_right _ (L ++ U) _ firsts in
        let bodies : List (Result (List Insertion) Fault) = map (λ p. insertions_of (b (forall_state s h p))) (points (forall_box s h)) in
        let bodies' : List (Result (List Insertion) Fault) = map (λ p. insertions_of (b' (forall_state t (forall_head h) p))) (points (forall_box t (forall_head h))) in
        let one : (p : List ℕ) → insertions_of (b (forall_state s h p)) ≡ insertions_of (b' (forall_state t (forall_head h) p)) =
        λ p. insertions-same _ _ (like _ _ (forall_state-alike h s t p ls ss begun vars shared a)) in
        let box : forall_box s h ≡ forall_box t (forall_head h) =
        λ j. trip_counts (indices-same s.values t.values h.lower a.values ls j) (indices-same s.values t.values h.upper a.values us j) (indices-same s.values t.values h.step a.values ss j) in
        let same : bodies ≡ bodies' = λ j. map (λ p. one p j) (points (box j)) in
        let start : starts s.values h.shared ≡ starts t.values (arguments_renamed ids uses defs h.shared) = starts-same s.values t.values h.shared a.values begun in
        subst (λ r. Alike (then_made (gathered bodies) (λ is. defines rs s (inserted_data is 0 (starts s.values h.shared)))) (then_made (gathered r) (λ is. defines (defined ids uses defs rs) t (inserted_data is 0 (starts t.values (arguments_renamed ids uses defs h.shared)))))) same
        (subst (λ ds. Alike (then_made (gathered bodies) (λ is. defines rs s (inserted_data is 0 (starts s.values h.shared)))) (then_made (gathered bodies) (λ is. defines (defined ids uses defs rs) t (inserted_data is 0 ds)))) start
        (completed rs s t (gathered bodies) (starts s.values h.shared) last a))

  -- INSERTIONS
  position-same : (dest : ValueId) → N dest.0 ≡ true → (vs : List ValueId) → AllApart vs →
      prefix_len (λ (v : ValueId). not (v.0 == dest.0)) vs ≡ prefix_len (λ (v : ValueId). not (v.0 == defs dest.0)) (map (value defs) vs)
  position-same dest read [] last = refl
  position-same dest read (v ∷ vs) last = λ j. cond (not (sym (last.0 dest.0 read) j)) (1 + position-same dest read vs last.1 j) 0

  output-same : (dest : ValueId) → N dest.0 ≡ true → (s t : State) → Agree s t → output_of s dest ≡ output_of t (value defs dest)
  output-same dest read s t a =
      let place = position-same dest read s.shared a.apart in
      (λ j. cond (nat_lt (place j) (sym (length-map s.shared (value defs)) j)) (Some (place j)) None) ∙ ap (λ vs. position (λ (v : ValueId). v.0 == defs dest.0) vs) a.shared

  noted-alike : (o : Option ℕ) (s t : State) (tile : Grid) (offsets : List ℕ) → Agree s t → Alike (insertion_noted o tile offsets s) (insertion_noted o tile offsets t)
  noted-alike None s t tile offsets a = refl
  noted-alike (Some n) s t tile offsets a = record {
    values = a.values;
    shared = a.shared;
    apart = a.apart;
    inserts = ap (λ is. is ++ record { output = n; tile = tile; offsets = offsets } ∷ []) a.inserts;
  }

  -- THE KINDS
  mutual
    unfolding kind_meaning renamed ReadsOnly DefinesOnly

    pub through : (kind : OpKind) (rs : List (ValueId × Ty)) (s t : State) → ReadsOnly N kind → DefinesOnly Lasts kind → AllLast (names_of rs) → Agree s t →
        Alike (kind_meaning kind rs s) (kind_meaning (renamed ids uses defs kind) (defined ids uses defs rs) t)
    through (Constant cells) rs s t h k l a = made-like rs s t _ _ l a (λ j. Some (constant_of cells (type-defined rs j)))
    through (Apply m args) rs s t h k l a = indexed-like rs s t _ _ l a (λ j. least_result m (numbers-same s.values t.values args a.values h j))
    through (Least m args) rs s t h k l a = indexed-like rs s t _ _ l a (λ j. least_result m (numbers-same s.values t.values args a.values h j))
    through (Empty sizes) rs s t h k l a =
        made-like rs s t _ _ l a (λ j. Some (Cells (type_width (type-defined rs j)) (empty_of (type_extents (type-defined rs j) (map to_nat (numbers-same s.values t.values sizes a.values h j))))))
    through (ExtractSlice source offsets sizes) rs s t h k l a =
        made-like rs s t _ _ l a (λ j. Some (like (a.values source.0 h.0 j) (slice_of (grid_of (a.values source.0 h.0 j))
        (map to_nat (indices-same s.values t.values offsets a.values (each_left _ (idx_values offsets) _ h.1) j))
        (map to_nat (indices-same s.values t.values sizes a.values (each_right _ (idx_values offsets) _ h.1) j)))))
    through (InsertSlice source dest offsets sizes) rs s t h k l a =
        made-like rs s t _ _ l a (λ j. Some (like (a.values dest.0 h.1.0 j) (insert_into (grid_of (a.values source.0 h.0 j))
        (map to_nat (indices-same s.values t.values offsets a.values (each_left _ (idx_values offsets) _ h.1.1) j)) (grid_of (a.values dest.0 h.1.0 j)))))
    through (Pad source high padding) rs s t h k l a =
        made-like rs s t _ _ l a (λ j. Some (like (a.values source.0 h.0 j) (pad_of (grid_of (a.values source.0 h.0 j))
        (map to_nat (indices-same s.values t.values high a.values (each_left _ (idx_values high) _ h.1) j)) (element (a.values padding.0 (each_right _ (idx_values high) _ h.1).0 j) []))))
    through (Generic maps iterators ins outs captured payload) rs s t h k l a =
        let rest = each_right _ ins (outs ∷ captured) h in
        made-like rs s t _ _ l a (λ j. generic_result maps (length iterators) (values-same s.values t.values ins a.values (each_left _ ins _ h) j) (a.values outs.0 rest.0 j) (captured-same s.values t.values captured a.values rest.1 j) payload)
    through (Fill v outs) rs s t h k l a = made-like rs s t _ _ l a (λ j. fill_result (a.values v.0 h.0 j) (a.values outs.0 h.1.0 j))
    through (Matmul x y outs) rs s t h k l a = made-like rs s t _ _ l a (λ j. matmul_result (a.values x.0 h.0 j) (a.values y.0 h.1.0 j) (a.values outs.0 h.1.1.0 j))
    through (BatchMatmul x y outs) rs s t h k l a = made-like rs s t _ _ l a (λ j. batch_matmul_result (a.values x.0 h.0 j) (a.values y.0 h.1.0 j) (a.values outs.0 h.1.1.0 j))
    through (Transpose source outs order) rs s t h k l a = made-like rs s t _ _ l a (λ j. transpose_result order (a.values source.0 h.0 j) (a.values outs.0 h.1.0 j))
    through (Broadcast source outs dims) rs s t h k l a = made-like rs s t _ _ l a (λ j. broadcast_result dims (a.values source.0 h.0 j) (a.values outs.0 h.1.0 j))
    through (Pack source dest padding dims tiles) rs s t h k l a =
        made-like rs s t _ _ l a (λ j. Some (like (a.values dest.0 h.1.0 j) (pack_of (grid_of (a.values source.0 h.0 j)) (grid_of (a.values dest.0 h.1.0 j)).extents dims tiles (scalar-same s.values t.values padding a.values h.1.1 j))))
    through (Unpack source dest dims tiles) rs s t h k l a =
        made-like rs s t _ _ l a (λ j. Some (like (a.values dest.0 h.1.0 j) (unpack_of (grid_of (a.values source.0 h.0 j)) (grid_of (a.values dest.0 h.1.0 j)).extents dims tiles)))
    through (For' var lower upper step carried shape row) rs s t h k l a =
        for-alike (row_meaning row) (row_meaning (renamed_row ids uses defs row)) (λ u v b. through_row row u v h.1 k.2 b) rs l s t a
        (record { var = var; lower = lower; upper = upper; step = step; carried = carried }) h.0 k.0 k.1
    through (Forall' vars lower upper step shared shape row) rs s t h k l a =
        forall-alike (row_meaning row) (row_meaning (renamed_row ids uses defs row)) (λ u v b. through_row row u v h.1 k.2 b) rs l s t a
        (record { vars = vars; lower = lower; upper = upper; step = step; shared = shared }) h.0 k.0 k.1
    through (Yield vs) rs s t h k l a = values-same s.values t.values vs a.values h
    through (ParallelInsert source dest offsets sizes) rs s t h k l a =
        let offs = indices-same s.values t.values offsets a.values (each_left _ (idx_values offsets) _ h.1.1) in
        subst (Alike (insertion_noted (output_of s dest) (grid_of (s.values source.0)) (places_in s.values offsets) s))
        (λ j. insertion_noted (output-same dest h.1.0 s t a j) (grid_of (a.values source.0 h.0 j)) (map to_nat (offs j)) t)
        (noted-alike (output_of s dest) s t (grid_of (s.values source.0)) (places_in s.values offsets) a)
    through (CreateMask sizes) rs s t h k l a =
        made-like rs s t _ _ l a (λ j. Some (Cells 1 (mask_of (map to_nat (numbers-same s.values t.values sizes a.values h j)) (type_extents (type-defined rs j) []))))
    through (TransferRead source offsets padding mask m) rs s t h k l a =
        let rest = each_right _ offsets (padding ∷ option_to_list mask) h.1 in
        made-like rs s t _ _ l a (λ j. Some (like (a.values source.0 h.0 j) (read_of (grid_of (a.values source.0 h.0 j))
        (map to_nat (numbers-same s.values t.values offsets a.values (each_left _ offsets _ h.1) j)) (element (a.values padding.0 rest.0 j) [])
        (optional-same s.values t.values mask a.values rest.1 j) m (type_extents (type-defined rs j) []))))
    through (TransferWrite v dest offsets mask m) rs s t h k l a =
        made-like rs s t _ _ l a (λ j. Some (like (a.values dest.0 h.1.0 j) (write_of (grid_of (a.values v.0 h.0 j))
        (map to_nat (numbers-same s.values t.values offsets a.values (each_left _ offsets _ h.1.1) j))
        (optional-same s.values t.values mask a.values (each_right _ offsets _ h.1.1) j) m (grid_of (a.values dest.0 h.1.0 j)))))
    through (Elementwise op args) rs s t h k l a =
        made-like rs s t _ _ l a (λ j. elementwise_result op (values-same s.values t.values args a.values h j) (type_width (type-defined rs j)) (type_extents (type-defined rs j) []))
    through (MultiReduction kind source acc dims) rs s t h k l a =
        made-like rs s t _ _ l a (λ j. Some (like (a.values acc.0 h.1.0 j) (reduction_of kind (width_of (a.values acc.0 h.1.0 j)) (grid_of (a.values source.0 h.0 j)) (grid_of (a.values acc.0 h.1.0 j)) dims)))
    through (Return vs) rs s t h k l a = values-same s.values t.values vs a.values h

    pub through_row : {n : _} (row : Row_of-Op n) (s t : State) → RowReadsOnly N row → RowDefinesOnly Lasts row → Agree s t → Alike (row_meaning row s) (row_meaning (renamed_row ids uses defs row) t)
    through_row end_of-Op s t h k a = a
    through_row (more_of-Op id rs kind rest) s t h k a = then-alike _ _ _ _ (through kind rs s t h.0 k.0.1 k.0.0 a) (λ u v b. through_row rest u v h.1 k.1 b)

  pub through_run : (os : List Op) (s t : State) → OpsReadOnly N os → OpsDefineOnly Lasts os → Agree s t → Alike (run os s) (run (renamed_ops ids uses defs os) t)
  unfolding run
  through_run [] s t h k a = a
  through_run (o ∷ os) s t h k a = then-alike _ _ _ _ (through o.kind o.results s t h.0 k.0.1 k.0.0 a) (λ u v b. through_run os u v h.1 k.1 b)
