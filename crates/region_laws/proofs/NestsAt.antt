-- A nest of `scf.for` that carries several values runs its innermost body for each tile in turn, into one of them.
use Rattle.std.proofs.Common.{◌≡◌, ℕ, zero, suc, ◌+◌, ◌-◌, ◌*◌, ◌/◌, ◌<◌, ◌==◌, ◌||◌, ℤ, pos, ◌+ℤ◌, ◌-ℤ◌, Bool, true, false, List, [], ◌∷◌, map, length, fold, Option, Some, None, ◌⊎◌, inl, inr, refl, ap, sym, subst, ◌∙◌, arith, add-mul, zero-mul, add-zero}
use Rattle.std.specs.Prelude.{option_map, option_and_then, slice_get, if◌then◌else◌}
use Rattle.std.proofs.lemmas.Bool.{eq-eqb}
use Rattle.std.proofs.lemmas.List.{length-map}
use Rattle.std.proofs.lemmas.Option.{slice_get_within, slice_get-map}
use Rattle.mlir_ir.specs.declared.tree.Op.{Op}
use Rattle.mlir_ir.specs.declared.tree.Ty.{Ty}
use Rattle.mlir_ir.specs.declared.tree.ValueId.{ValueId}
use Rattle.mlir_meaning.specs.Grids.{points, at, lies_in, all_some, count_up, InBox}
use Rattle.mlir_meaning.specs.Loops.{ForHead, turns, trips, arguments, starts, for_state, for_meaning}
use Rattle.mlir_meaning.specs.Meaning.{kind_meaning, run, values_in}
use Rattle.mlir_meaning.specs.Points.{to_nat}
use Rattle.mlir_meaning.specs.States.{State, Outcome, Goes, Ends, Fails, defines, then_goes, then_ends, set, set_all, names_of, number_of}
use Rattle.mlir_meaning.specs.declared.answer.Fault.{Fault}
use Rattle.mlir_meaning.specs.declared.values.Datum.{Datum}
use Rattle.mlir_meaning.specs.declared.values.Datum.TheVariants.{Number, Cells}
use Rattle.mlir_meaning.proofs.Bodies.{meaning-for}
use Rattle.mlir_meaning.proofs.Grids.{each_point, each_more}
use Rattle.mlir_meaning.proofs.States.{set_same, set_other, apart}
use Rattle.point_laws.specs.Boxes.{picks}
use Rattle.point_laws.specs.Tiles.{tile_box, tile_count, counts, cut_dims, tile_offsets, tile_sizes}
use Rattle.point_laws.proofs.Lists.{or_right}
use Rattle.region_laws.specs.Among.{GivesAt, nothing_known, TurnsBounded, AreNewTurns, TurnsAt, last_args, EndsAt}
use Rattle.region_laws.specs.Instances.{step_of}
use Rattle.region_laws.specs.Nests.{Knows, HasNumber, with_value, AreNewVars, Turns, Carried, args_of, results_of, result_names, started, turns_loop, turns_body, turns_op, yield_all}
use Rattle.region_laws.specs.Regions.{cell}
use Rattle.region_laws.specs.Laws.{TileForGivesGeneric}
use Rattle.region_laws.proofs.Foralls.{set_all_keeps, set_all_at}
use Rattle.region_laws.proofs.Nests.{each_tile, in_rows}
use Rattle.region_laws.proofs.Steps.{grid}
use Rattle.region_laws.proofs.TileLoops.{ByCells, in_cells, map_cells, tiles_in_turn}

-- LISTS OF VALUES
there : {A : Type 0} (xs : List A) (k : ℕ) → k < length xs → (x : A) × (slice_get xs k ≡ Some x)
there [] k l = absurd (omega arith)
there (x ∷ xs) zero l = (x, refl)
there (x ∷ xs) (suc k) l = there xs k (omega arith)

starts_are : (e : ℕ → Datum) (cs : List Carried) (vs : List ValueId) → length cs ≡ length vs → starts e (started cs vs) ≡ values_in e vs
starts_are e [] [] l = refl
starts_are e (c ∷ cs) (v ∷ vs) l = λ j. e v.0 ∷ starts_are e cs vs (omega arith) j
starts_are e [] (v ∷ vs) l = absurd (omega arith)
starts_are e (c ∷ cs) [] l = absurd (omega arith)

arguments_are : (cs : List Carried) (vs : List ValueId) → length cs ≡ length vs → arguments (started cs vs) ≡ args_of cs
arguments_are [] [] l = refl
arguments_are (c ∷ cs) (v ∷ vs) l = λ j. c.arg ∷ arguments_are cs vs (omega arith) j
arguments_are [] (v ∷ vs) l = absurd (omega arith)
arguments_are (c ∷ cs) [] l = absurd (omega arith)

names_are : (cs : List Carried) → names_of (results_of cs) ≡ result_names cs
names_are [] = refl
names_are (c ∷ cs) = λ j. c.result ∷ names_are cs j

module _ (n k width : ℕ) (es : List ℕ) where
  abbrev Holds : List ℕ → List Datum → Type 0
  Holds cs ds = (length ds ≡ n) × (slice_get ds k ≡ Some (Cells width (grid es cs)))

  -- a body that doesn't fail ends with these cells
  abbrev Ended : Option (List ℕ) → Outcome → Type 0
  Ended o w = EndsAt n k width (option_map (grid es) o) w

  -- ONE LOOP
  module _ (t count : ℕ) (B : ℤ → List Datum → Outcome) (one : ℕ → List ℕ → Option (List ℕ)) (each : (i : ℕ) (ds : List Datum) (cs : List ℕ) → i < count → Holds cs ds → Ended (one i cs) (B (pos (i * t)) ds)) where
    abbrev turn : ℕ → ℕ → Option (List ℕ) → Option (List ℕ)
    turn m i o = fold (λ o k. option_and_then (one k) o) o (count_up i m)

    next : (m i : ℕ) (o : Option (List ℕ)) (w : Outcome) → Ended o w → ((ds : List Datum) (cs : List ℕ) → Holds cs ds → Ended (turn m (i + 1) (Some cs)) (turns B (pos t) m (pos ((i + 1) * t)) ds)) →
        Ended (turn m (i + 1) o) (then_ends w (turns B (pos t) m (pos (i * t) +ℤ pos t)))
    next m i o (Fails f) h again = tt
    next m i o (Goes s) h again = absurd h
    next m i None (Ends ds) h again = absurd h
    next m i (Some cs) (Ends ds) h again =
        let e : (i + 1) * t ≡ i * t + t = omega (arith, add-mul i 1 t) in
        subst (λ x. Ended (turn m (i + 1) (Some cs)) (turns B (pos t) m (pos x) ds)) e (again ds cs h)

    turns_at : (m i : ℕ) (ds : List Datum) (cs : List ℕ) → i + m ≡ count → Holds cs ds → Ended (turn m i (Some cs)) (turns B (pos t) m (pos (i * t)) ds)
    turns_at zero i ds cs e h = h
    turns_at (suc m) i ds cs e h =
        next m i (one i cs) (B (pos (i * t)) ds) (each i ds cs (omega arith) h) (λ ds' cs' h'. turns_at m (i + 1) ds' cs' (omega arith) h')

  -- the loop's results
  abbrev Gave : Option (List ℕ) → List (ValueId × Ty) → State → Outcome → Type 0
  Gave o rs s w = ((f : Fault) × (w ≡ Fails f)) ⊎ ((cs : List ℕ) × (ds : List Datum) × (w ≡ defines rs s ds) × (o ≡ Some cs) × Holds cs ds)

  gave : (rs : List (ValueId × Ty)) (s : State) (o : Option (List ℕ)) (w : Outcome) → Ended o w → Gave o rs s (then_ends w (defines rs s))
  gave rs s o (Fails f) h = inl (f, refl)
  gave rs s o (Goes u) h = absurd h
  gave rs s None (Ends ds) h = absurd h
  gave rs s (Some cs) (Ends ds) h = inr (cs, ds, refl, refl, h)

  for_gives : (h : ForHead) (body : State → Outcome) (rs : List (ValueId × Ty)) (s : State) (extent t : ℕ) (ds : List Datum) (cs : List ℕ) (one : ℕ → List ℕ → Option (List ℕ)) →
      s.values h.lower.0 ≡ Number (pos 0) → s.values h.upper.0 ≡ Number (pos extent) → s.values h.step.0 ≡ Number (pos t) → starts s.values h.carried ≡ ds → Holds cs ds →
      ((i : ℕ) (ds : List Datum) (cs : List ℕ) → i < tile_count extent t → Holds cs ds → Ended (one i cs) (body (for_state s h (pos (i * t)) ds))) →
      Gave (fold (λ o k. option_and_then (one k) o) (Some cs) (count_up 0 (tile_count extent t))) rs s (for_meaning h body rs s)
  unfolding for_meaning
  for_gives h body rs s extent t ds cs one low high stride start holds each =
      let B : ℤ → List Datum → Outcome = λ m vs. body (for_state s h m vs) in
      let less_zero : pos extent -ℤ pos 0 ≡ pos extent = ap pos (add-zero extent) in
      let whole : Outcome = turns B (pos t) (tile_count extent t) (pos (0 * t)) ds in
      let is : turns B (number_of (s.values h.step.0)) (trips (number_of (s.values h.lower.0)) (number_of (s.values h.upper.0)) (number_of (s.values h.step.0))) (number_of (s.values h.lower.0)) (starts s.values h.carried) ≡ whole =
      (λ j. turns B (number_of (stride j)) (trips (number_of (low j)) (number_of (high j)) (number_of (stride j))) (number_of (low j)) (start j))
      ∙ (λ j. turns B (pos t) ((to_nat (less_zero j) + (t - 1)) / t) (pos (sym (zero-mul t) j)) ds) in
      subst (λ w. Gave (fold (λ o k. option_and_then (one k) o) (Some cs) (count_up 0 (tile_count extent t))) rs s (then_ends w (defines rs s))) (sym is)
      (gave rs s _ whole (turns_at t (tile_count extent t) B one each (tile_count extent t) 0 ds cs (omega arith) holds))

  -- the results, yielded
  yields_all : (cs : List Carried) (s : State) (end : _) (ds : List Datum) (o : Option (List ℕ)) (w : Outcome) → length cs ≡ n → AreNewVars nothing_known (result_names cs) → Gave o (results_of cs) s w →
      Ended o (then_goes w (run (yield_all end (result_names cs) ∷ [])))
  unfolding kind_meaning run
  yields_all cs s end ds o w long new (inl r) = subst (λ x. Ended o (then_goes x (run (yield_all end (result_names cs) ∷ [])))) (sym r.1) tt
  yields_all cs s end ds o w long new (inr (cells, xs, is, same, holds)) =
      subst (λ x. Ended o (then_goes x (run (yield_all end (result_names cs) ∷ [])))) (sym is)
      (subst (λ x. Ended x (Ends (values_in (set_all s.values (names_of (results_of cs)) xs) (result_names cs)))) (sym same)
      (length-map (result_names cs) _ ∙ length-map cs _ ∙ long, value))
    where
      value : slice_get (values_in (set_all s.values (names_of (results_of cs)) xs) (result_names cs)) k ≡ Some (Cells width (grid es cells))
      value =
          let small : k < length (result_names cs) = omega (arith, slice_get_within xs k (Cells width (grid es cells)) holds.1, holds.0, long, length-map cs (λ (c : Carried). c.result)) in
          let v = there (result_names cs) k small in
          slice_get-map (λ w. set_all s.values (names_of (results_of cs)) xs w.0) (result_names cs) k
          ∙ ap (option_map (λ w. set_all s.values (names_of (results_of cs)) xs w.0)) v.1
          ∙ ap Some ((λ j. set_all s.values (names_are cs j) xs (v.0).0) ∙ set_all_at nothing_known (result_names cs) xs s.values k v.0 (Cells width (grid es cells)) new v.1 holds.1)

  -- NESTS
  abbrev tiles_from : List (ℕ × ℕ) → (List ℕ → List ℕ → Option (List ℕ)) → Option (List ℕ) → Option (List ℕ)
  tiles_from ds one o = each_tile (λ cs. Cells width (grid es cs)) ds one o

  module _ (lower : ValueId) (inner : List Op) where
    abbrev InnerRuns : (ℕ → Bool) → State → List (ℕ × ℕ) → List Turns → List ValueId → (List ℕ → List ℕ → Option (List ℕ)) → Type 0
    InnerRuns N u dims ls currents one = (q : List ℕ) (s : State) (a : ValueId) (cs : List ℕ) → InBox (counts dims) q → Knows N u s → TurnsAt dims ls q s → slice_get (last_args ls currents) k ≡ Some a →
        s.values a.0 ≡ Cells width (grid es cs) → Ended (one q cs) (run inner s)

    abbrev NestRuns : List (ℕ × ℕ) → List Turns → Type 0
    NestRuns dims ls = (N : ℕ → Bool) (u : State) (currents : List ValueId) (one : List ℕ → List ℕ → Option (List ℕ)) → HasNumber N u lower 0 → TurnsBounded N u dims ls → AreNewTurns n N ls → InnerRuns N u dims ls currents one →
        length currents ≡ n → (s : State) (a : ValueId) (cs : List ℕ) → slice_get currents k ≡ Some a → Knows N u s → s.values a.0 ≡ Cells width (grid es cs) →
        Ended (tiles_from dims one (Some cs)) (run (turns_body lower ls inner currents) s)

    abbrev turned : State → ValueId → ℕ → State
    turned u v m = record { values = set u.values v.0 (Number (pos m)); shared = u.shared; inserts = u.inserts }

    still_has : (N : ℕ → Bool) (u : State) (v w : ValueId) (m x : ℕ) → N v.0 ≡ false → HasNumber N u w x → HasNumber (with_value N v) (turned u v m) w x
    still_has N u v w m x new h = (or_right (w.0 == v.0) (N w.0) h.0, set_other u.values v.0 w.0 (Number (pos m)) (apart N v.0 w.0 new h.0) ∙ h.1)

    still_bounded : (N : ℕ → Bool) (u : State) (v : ValueId) (m : ℕ) → N v.0 ≡ false → (ds : List (ℕ × ℕ)) (ls : List Turns) → TurnsBounded N u ds ls → TurnsBounded (with_value N v) (turned u v m) ds ls
    still_bounded N u v m new [] [] h = tt
    still_bounded N u v m new (d ∷ ds) (l ∷ ls) h = (h.0, still_has N u v l.upper m d.0 new h.1, still_has N u v l.step m d.1 new h.2, still_bounded N u v m new ds ls h.3)
    still_bounded N u v m new [] (l ∷ ls) h = absurd h
    still_bounded N u v m new (d ∷ ds) [] h = absurd h

    -- a loop around a nest
    for_level : (d : ℕ × ℕ) (ds : List (ℕ × ℕ)) (l : Turns) (ls : List Turns) → NestRuns ds ls →
        (N : ℕ → Bool) (u : State) (currents : List ValueId) (one : List ℕ → List ℕ → Option (List ℕ)) → HasNumber N u lower 0 → TurnsBounded N u (d ∷ ds) (l ∷ ls) → AreNewTurns n N (l ∷ ls) → InnerRuns N u (d ∷ ds) (l ∷ ls) currents one →
        length currents ≡ n → (s : State) (a : ValueId) (cs : List ℕ) → slice_get currents k ≡ Some a → Knows N u s → s.values a.0 ≡ Cells width (grid es cs) →
        Gave (tiles_from (d ∷ ds) one (Some cs)) (results_of l.carried) s (kind_meaning (turns_op lower l ls inner currents).kind (results_of l.carried) s)
    for_level d ds l ls deep N u currents one low bounds new each long s a cs at known start =
        let h : ForHead = (turns_loop lower currents l).head in
        let body : List Op = turns_body lower ls inner (args_of l.carried) in
        let row : ℕ → List ℕ → Option (List ℕ) = λ i b. tiles_from ds (λ q. one (i ∷ q)) (Some b) in
        let paired : length l.carried ≡ length currents = new.3 ∙ sym long in
        let began : slice_get (values_in s.values currents) k ≡ Some (Cells width (grid es cs)) =
        slice_get-map (λ v. s.values v.0) currents k ∙ ap (option_map (λ (v : ValueId). s.values v.0)) at ∙ ap Some start in
        subst (λ (m : List (ValueId × Ty) → State → Outcome). Gave (tiles_from (d ∷ ds) one (Some cs)) (results_of l.carried) s (m (results_of l.carried) s)) (sym (meaning-for h body))
        (subst (λ o. Gave o (results_of l.carried) s (for_meaning h (run body) (results_of l.carried) s)) (in_rows (λ cs. Cells width (grid es cs)) d ds one (Some cs))
        (for_gives h (run body) (results_of l.carried) s d.0 d.1 (values_in s.values currents) cs row
        (known lower.0 low.0 ∙ low.1) (known l.upper.0 bounds.1.0 ∙ bounds.1.1) (known l.step.0 bounds.2.0 ∙ bounds.2.1) (starts_are s.values l.carried currents paired)
        (length-map currents _ ∙ long, began)
        (λ i xs bs m holds. turn_runs i xs bs m holds paired)))
      where
        turn_runs : (i : ℕ) (xs : List Datum) (bs : List ℕ) → i < tile_count d.0 d.1 → Holds bs xs → length l.carried ≡ length currents →
            Ended (tiles_from ds (λ q. one (i ∷ q)) (Some bs)) (run (turns_body lower ls inner (args_of l.carried)) (for_state s (turns_loop lower currents l).head (pos (i * d.1)) xs))
        turn_runs i xs bs m holds paired =
            let v : State = turned u l.var (i * d.1) in
            let e : ℕ → Datum = set s.values l.var.0 (Number (pos (i * d.1))) in
            let t : State = record { values = set_all e (args_of l.carried) xs; shared = []; inserts = [] } in
            let small : k < length (args_of l.carried) = omega (arith, slice_get_within xs k (Cells width (grid es bs)) holds.1, holds.0, new.3, length-map l.carried (λ (c : Carried). c.arg)) in
            let arg = there (args_of l.carried) k small in
            subst (λ (vs : List ValueId). Ended (tiles_from ds (λ q. one (i ∷ q)) (Some bs)) (run (turns_body lower ls inner (args_of l.carried)) (record { values = set_all e vs xs; shared = []; inserts = [] }))) (sym (arguments_are l.carried currents paired))
            (deep (with_value N l.var) v (args_of l.carried) (λ q. one (i ∷ q)) (still_has N u l.var lower (i * d.1) 0 new.0 low) (still_bounded N u l.var (i * d.1) new.0 ds ls bounds.3) new.4
            (λ q x b cells inside knows turn at_arg holds.
            each (i ∷ q) x b cells (m, inside)
            (λ w is. knows w (or_right (w == l.var.0) (N w) is) ∙ set_other u.values l.var.0 w (Number (pos (i * d.1))) (apart N l.var.0 w new.0 is))
            (knows l.var.0 (λ j. eq-eqb l.var.0 l.var.0 refl j || N l.var.0) ∙ set_same u.values l.var.0 (Number (pos (i * d.1))), turn) at_arg holds)
            (length-map l.carried _ ∙ new.3) t arg.0 bs arg.1
            (λ w is. set_all_keeps (with_value N l.var) (args_of l.carried) xs e w new.1 is ∙ same_where w i (w == l.var.0) is)
            (set_all_at (with_value N l.var) (args_of l.carried) xs e k arg.0 (Cells width (grid es bs)) new.1 arg.1 holds.1))
          where
            same_where : (w i : ℕ) (c : Bool) → (c || N w) ≡ true → (if c then Number (pos (i * d.1)) else s.values w) ≡ (if c then Number (pos (i * d.1)) else u.values w)
            same_where w i true t = refl
            same_where w i false t = known w t

    nest_at : (ds : List (ℕ × ℕ)) (ls : List Turns) → NestRuns ds ls
    unfolding run
    nest_at [] [] N u currents one low bounds new each long s a cs at known start = each [] s a cs tt known tt at start
    nest_at (d ∷ ds) (l ∷ ls) N u currents one low bounds new each long s a cs at known start =
        yields_all l.carried s l.end [] (tiles_from (d ∷ ds) one (Some cs)) _ new.3 new.2
        (for_level d ds l ls (nest_at ds ls) N u currents one low bounds new each long s a cs at known start)
    nest_at [] (l ∷ ls) N u currents one low bounds new each long s a cs at known start = absurd bounds
    nest_at (d ∷ ds) [] N u currents one low bounds new each long s a cs at known start = absurd bounds

    -- the outermost loop
    pub turns_give : (ds : List (ℕ × ℕ)) (l : Turns) (ls : List Turns) (N : ℕ → Bool) (u : State) (currents : List ValueId) (one : List ℕ → List ℕ → Option (List ℕ)) →
        HasNumber N u lower 0 → TurnsBounded N u ds (l ∷ ls) → AreNewTurns n N (l ∷ ls) → InnerRuns N u ds (l ∷ ls) currents one → length currents ≡ n → (a : ValueId) (cs : List ℕ) →
        slice_get currents k ≡ Some a → u.values a.0 ≡ Cells width (grid es cs) →
        GivesAt k (option_map (λ cs. Cells width (grid es cs)) (tiles_from ds one (Some cs))) (results_of l.carried) u (kind_meaning (turns_op lower l ls inner currents).kind (results_of l.carried) u)
    turns_give (d ∷ ds) l ls N u currents one low bounds new each long a cs at start =
        given (tiles_from (d ∷ ds) one (Some cs)) _ (for_level d ds l ls (nest_at ds ls) N u currents one low bounds new each long u a cs at (λ v h. refl) start)
      where
        given : (o : Option (List ℕ)) (w : Outcome) → Gave o (results_of l.carried) u w → GivesAt k (option_map (λ cs. Cells width (grid es cs)) o) (results_of l.carried) u w
        given o w (inl r) = inl r
        given o w (inr (cells, xs, is, same, holds)) = inr (xs, is, holds.1 ∙ ap (option_map (λ cs. Cells width (grid es cs))) (sym same))
    turns_give [] l ls N u currents one low bounds new each long a cs at start = absurd bounds

-- OF A GENERIC
pub tile_for_gives : TileForGivesGeneric
tile_for_gives g ts typed full one adds N u lower l ls currents k inner nest ways =
    let es : List ℕ = g.out.extents in
    let cells : List ℕ → List ℕ → Option (List ℕ) = λ q cs. all_some (map (λ e. cell (picks g.ds) (step_of g) g.box (lies_in (tile_offsets g.box ts q) (tile_sizes g.box ts q)) e (at (grid es cs) e)) (points es)) in
    subst (λ r. GivesAt k r (results_of l.carried) u (kind_meaning (turns_op lower l ls inner currents).kind (results_of l.carried) u))
    (map_cells g.width es (each_tile (λ cs. Cells g.width (grid es cs)) (cut_dims g.box ts) cells (Some g.out.cells))
    ∙ ap (option_map (Cells g.width)) (sym (in_cells es one cells (points (tile_box g.box ts)) (each_more (InBox (tile_box g.box ts)) (ByCells es one cells) adds (points (tile_box g.box ts)) (each_point (tile_box g.box ts))) (Some g.out.cells)))
    ∙ tiles_in_turn g.box ts g.maps g.ds g.ins g.width g.captured g.payload g.out typed full one adds ways)
    (turns_give (length currents) k g.width es lower inner (cut_dims g.box ts) l ls N u currents cells nest.low nest.bounds nest.new
    (λ q s a cs b knows turn at_arg holds. subst (λ o. EndsAt (length currents) k g.width o (run inner s)) (adds q b cs) (nest.runs q s a cs b knows turn at_arg holds))
    refl nest.current g.out.cells nest.at nest.start)
