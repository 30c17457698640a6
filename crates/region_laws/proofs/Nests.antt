-- A nest of `scf.for` over tiles runs its innermost body for each tile in turn.
use Rattle.std.proofs.Common.{◌≡◌, ℕ, zero, suc, ◌+◌, ◌-◌, ◌*◌, ◌/◌, ◌<◌, ◌==◌, ◌||◌, ℤ, pos, ◌+ℤ◌, ◌-ℤ◌, Bool, true, false, List, [], ◌∷◌, map, fold, Option, Some, None, refl, ap, sym, ◌∙◌, arith, add-mul, zero-mul, add-zero}
use Rattle.std.specs.Prelude.{option_map, option_and_then, if◌then◌else◌}
use Rattle.std.proofs.lemmas.Bool.{eq-eqb}
use Rattle.std.proofs.lemmas.List.Folds.{fold-map, fold_stays}
use Rattle.mlir_ir.specs.declared.tree.Op.{Op}
use Rattle.mlir_ir.specs.declared.tree.OpId.{OpId}
use Rattle.mlir_ir.specs.declared.tree.Ty.{Ty}
use Rattle.mlir_ir.specs.declared.tree.ValueId.{ValueId}
use Rattle.mlir_meaning.specs.Contexts.{for_op}
use Rattle.mlir_meaning.specs.Grids.{points, count_up, InBox, Each}
use Rattle.mlir_meaning.specs.Loops.{ForHead, turns, trips, for_state, for_meaning}
use Rattle.mlir_meaning.specs.Meaning.{kind_meaning, run}
use Rattle.mlir_meaning.specs.Points.{to_nat}
use Rattle.mlir_meaning.specs.States.{State, Outcome, Ends, made, defines, then_goes, then_ends, set, number_of}
use Rattle.mlir_meaning.specs.declared.values.Datum.{Datum}
use Rattle.mlir_meaning.specs.declared.values.Datum.TheVariants.{Number}
use Rattle.mlir_meaning.proofs.Bodies.{meaning-for}
use Rattle.point_laws.specs.Tiles.{tile_count, counts}
use Rattle.region_laws.specs.Nests.{Level, level_loop, yield_of, nest_body, ended, Knows, HasNumber, Bounded, with_value, AreNew, InTurn, last_arg}
use Rattle.point_laws.proofs.Lists.{fold-flat_map, fold-same, or_right}
use Rattle.point_laws.proofs.Folds.{fold_from}
use Rattle.mlir_meaning.proofs.States.{set_same, set_other, apart}

-- ONE LOOP
module _ {A : Type 0} (datum : A → Datum) where
  -- one after another, for the numbers from k on
  abbrev pub each_turn : (ℕ → A → Option A) → ℕ → ℕ → Option A → Option A
  each_turn one n k o = fold (λ o k. option_and_then (one k) o) o (count_up k n)

  module _ (t N : ℕ) (B : ℤ → List Datum → Outcome) (one : ℕ → A → Option A) (each : (k : ℕ) (a : A) → k < N → B (pos (k * t)) (datum a ∷ []) ≡ ended datum (one k a)) where
    next_turn : (n k : ℕ) (o : Option A) → ((a : A) → turns B (pos t) n (pos ((k + 1) * t)) (datum a ∷ []) ≡ ended datum (each_turn one n (k + 1) (Some a))) →
        then_ends (ended datum o) (turns B (pos t) n (pos (k * t) +ℤ pos t)) ≡ ended datum (each_turn one n (k + 1) o)
    next_turn n k None rest = ap (ended datum) (sym (fold_stays (λ o k. option_and_then (one k) o) None (λ _. refl) (count_up (k + 1) n)))
    next_turn n k (Some a) rest = let e : k * t + t ≡ (k + 1) * t = omega (arith, add-mul k 1 t) in (λ j. turns B (pos t) n (pos (e j)) (datum a ∷ [])) ∙ rest a

    turns_are : (n k : ℕ) (a : A) → k + n ≡ N → turns B (pos t) n (pos (k * t)) (datum a ∷ []) ≡ ended datum (each_turn one n k (Some a))
    turns_are zero k a e = refl
    turns_are (suc n) k a e =
        ap (λ o. then_ends o (turns B (pos t) n (pos (k * t) +ℤ pos t))) (each k a (omega arith)) ∙ next_turn n k (one k a) (λ b. turns_are n (k + 1) b (omega arith))

  finished : (rs : List (ValueId × Ty)) (s : State) (o : Option A) → then_ends (ended datum o) (defines rs s) ≡ made rs s (option_map datum o)
  finished rs s None = refl
  finished rs s (Some a) = refl

  -- a loop over the tiles of an extent
  pub for_is : (var lower upper step arg outs : ValueId) (ty : Ty) (body : State → Outcome) (rs : List (ValueId × Ty)) (s : State) (extent t : ℕ) (a : A) (one : ℕ → A → Option A) →
      let h : ForHead = record { var = var; lower = lower; upper = upper; step = step; carried = (arg, ty, outs) ∷ [] } in
      s.values lower.0 ≡ Number (pos 0) → s.values upper.0 ≡ Number (pos extent) → s.values step.0 ≡ Number (pos t) → s.values outs.0 ≡ datum a →
      ((k : ℕ) (b : A) → k < tile_count extent t → body (for_state s h (pos (k * t)) (datum b ∷ [])) ≡ ended datum (one k b)) →
      for_meaning h body rs s ≡ made rs s (option_map datum (each_turn one (tile_count extent t) 0 (Some a)))
  unfolding for_meaning
  for_is var lower upper step arg outs ty body rs s extent t a one low high stride start each =
      let h : ForHead = record { var = var; lower = lower; upper = upper; step = step; carried = (arg, ty, outs) ∷ [] } in
      let B : ℤ → List Datum → Outcome = λ n vs. body (for_state s h n vs) in
      let less_zero : pos extent -ℤ pos 0 ≡ pos extent = ap pos (add-zero extent) in
      (λ j. then_ends (turns B (number_of (stride j)) (trips (number_of (low j)) (number_of (high j)) (number_of (stride j))) (number_of (low j)) (start j ∷ [])) (defines rs s))
      ∙ (λ j. then_ends (turns B (pos t) ((to_nat (less_zero j) + (t - 1)) / t) (pos (sym (zero-mul t) j)) (datum a ∷ [])) (defines rs s))
      ∙ ap (λ o. then_ends o (defines rs s)) (turns_are t (tile_count extent t) B one each (tile_count extent t) 0 a (omega arith))
      ∙ finished rs s (each_turn one (tile_count extent t) 0 (Some a))

  -- the loop's result, yielded
  yielded : (id : OpId) (v : ValueId) (ty : Ty) (s : State) (o : Option A) → then_goes (made ((v, ty) ∷ []) s (option_map datum o)) (run (yield_of id v ∷ [])) ≡ ended datum o
  unfolding kind_meaning run
  yielded id v ty s None = refl
  yielded id v ty s (Some a) = λ j. Ends (set_same s.values v.0 (datum a) j ∷ [])

  -- NESTS
  abbrev pub each_tile : List (ℕ × ℕ) → (List ℕ → A → Option A) → Option A → Option A
  each_tile ds one o = fold (λ o q. option_and_then (one q) o) o (points (counts ds))

  -- the tiles in lexicographic order are, for each of the first dimension, those of the others
  pub in_rows : (d : ℕ × ℕ) (ds : List (ℕ × ℕ)) (one : List ℕ → A → Option A) (o : Option A) →
      each_turn (λ k b. each_tile ds (λ q. one (k ∷ q)) (Some b)) (tile_count d.0 d.1) 0 o ≡ each_tile (d ∷ ds) one o
  in_rows d ds one o =
      sym (fold-flat_map (λ o q. option_and_then (one q) o) (λ k. map (λ q. k ∷ q) (points (counts ds))) (count_up 0 (tile_count d.0 d.1)) o
      ∙ fold-same _ _ (count_up 0 (tile_count d.0 d.1)) (each_row (count_up 0 (tile_count d.0 d.1))) o)
    where
      each_row : (ks : List ℕ) → Each (λ k. (o : Option A) → fold (λ o q. option_and_then (one q) o) o (map (λ q. k ∷ q) (points (counts ds))) ≡ option_and_then (λ b. each_tile ds (λ q. one (k ∷ q)) (Some b)) o) ks
      each_row [] = tt
      each_row (k ∷ ks) = (λ o. fold-map (λ o q. option_and_then (one q) o) (λ q. k ∷ q) o (points (counts ds)) ∙ fold_from (λ q. one (k ∷ q)) (points (counts ds)) o, each_row ks)

  module _ (lower : ValueId) (ty : Ty) (inner : List Op) where
    -- the innermost body does one tile, in each state that knows what is known, where its variables stand at the tile
    abbrev pub InnerRuns : (ℕ → Bool) → State → List (ℕ × ℕ) → List Level → ValueId → (List ℕ → A → Option A) → Type 0
    InnerRuns N u ds ls current one = (q : List ℕ) (s : State) (a : A) → InBox (counts ds) q → Knows N u s → InTurn ds ls q s → s.values (last_arg ls current).0 ≡ datum a → run inner s ≡ ended datum (one q a)

    abbrev pub NestRuns : List (ℕ × ℕ) → List Level → Type 0
    NestRuns ds ls = (N : ℕ → Bool) (u : State) (current : ValueId) (one : List ℕ → A → Option A) → HasNumber N u lower 0 → Bounded N u ds ls → AreNew N ls → InnerRuns N u ds ls current one →
        (s : State) (a : A) → Knows N u s → s.values current.0 ≡ datum a → run (nest_body lower ty ls inner current) s ≡ ended datum (each_tile ds one (Some a))

    -- the state of the values that are known in turn k
    abbrev turned : State → ValueId → ℕ → State
    turned u v n = record { values = set u.values v.0 (Number (pos n)); shared = u.shared; inserts = u.inserts }

    still_has : (N : ℕ → Bool) (u : State) (v w : ValueId) (n m : ℕ) → N v.0 ≡ false → HasNumber N u w m → HasNumber (with_value N v) (turned u v n) w m
    still_has N u v w n m new h = (or_right (w.0 == v.0) (N w.0) h.0, set_other u.values v.0 w.0 (Number (pos n)) (apart N v.0 w.0 new h.0) ∙ h.1)

    still_bounded : (N : ℕ → Bool) (u : State) (v : ValueId) (n : ℕ) → N v.0 ≡ false → (ds : List (ℕ × ℕ)) (ls : List Level) → Bounded N u ds ls → Bounded (with_value N v) (turned u v n) ds ls
    still_bounded N u v n new [] [] h = tt
    still_bounded N u v n new (d ∷ ds) (l ∷ ls) h = (h.0, still_has N u v l.upper n d.0 new h.1, still_has N u v l.step n d.1 new h.2, still_bounded N u v n new ds ls h.3)
    still_bounded N u v n new [] (l ∷ ls) h = absurd h
    still_bounded N u v n new (d ∷ ds) [] h = absurd h

    -- a loop around a nest
    for_level : (d : ℕ × ℕ) (ds : List (ℕ × ℕ)) (l : Level) (ls : List Level) → NestRuns ds ls →
        (N : ℕ → Bool) (u : State) (current : ValueId) (one : List ℕ → A → Option A) → HasNumber N u lower 0 → Bounded N u (d ∷ ds) (l ∷ ls) → AreNew N (l ∷ ls) → InnerRuns N u (d ∷ ds) (l ∷ ls) current one →
        (s : State) (a : A) → Knows N u s → s.values current.0 ≡ datum a →
        kind_meaning (for_op (level_loop lower ty current l) (nest_body lower ty ls inner l.arg)).kind ((l.result, ty) ∷ []) s ≡ made ((l.result, ty) ∷ []) s (option_map datum (each_tile (d ∷ ds) one (Some a)))
    for_level d ds l ls deep N u current one low bounds new each s a known start =
        let h : ForHead = (level_loop lower ty current l).head in
        let var_apart : (w : ℕ) → N w ≡ true → (w == l.var.0) ≡ false = λ w t. apart N l.var.0 w new.0 t in
        let arg_apart : (w : ℕ) → with_value N l.var w ≡ true → (w == l.arg.0) ≡ false = λ w t. apart (with_value N l.var) l.arg.0 w new.1 t in
        (λ j. meaning-for h (nest_body lower ty ls inner l.arg) j ((l.result, ty) ∷ []) s)
        ∙ for_is l.var lower l.upper l.step l.arg current ty (run (nest_body lower ty ls inner l.arg)) ((l.result, ty) ∷ []) s d.0 d.1 a (λ k b. each_tile ds (λ q. one (k ∷ q)) (Some b))
        (known lower.0 low.0 ∙ low.1) (known l.upper.0 bounds.1.0 ∙ bounds.1.1) (known l.step.0 bounds.2.0 ∙ bounds.2.1) start
        (λ k b m.
        let v : State = turned u l.var (k * d.1) in
        let e : ℕ → Datum = set s.values l.var.0 (Number (pos (k * d.1))) in
        deep (with_value N l.var) v l.arg (λ q. one (k ∷ q)) (still_has N u l.var lower (k * d.1) 0 new.0 low) (still_bounded N u l.var (k * d.1) new.0 ds ls bounds.3) new.2
        (λ q t c inside knows turn at_arg.
        each (k ∷ q) t c (m, inside)
        (λ w is. knows w (or_right (w == l.var.0) (N w) is) ∙ set_other u.values l.var.0 w (Number (pos (k * d.1))) (var_apart w is))
        (knows l.var.0 (λ j. eq-eqb l.var.0 l.var.0 refl j || N l.var.0) ∙ set_same u.values l.var.0 (Number (pos (k * d.1))), turn) at_arg)
        (for_state s h (pos (k * d.1)) (datum b ∷ [])) b
        (λ w is. set_other e l.arg.0 w (datum b) (arg_apart w is) ∙ same_where w k (w == l.var.0) is)
        (set_same e l.arg.0 (datum b)))
        ∙ ap (λ o. made ((l.result, ty) ∷ []) s (option_map datum o)) (in_rows d ds one (Some a))
      where
        same_where : (w k : ℕ) (c : Bool) → (c || N w) ≡ true → (if c then Number (pos (k * d.1)) else s.values w) ≡ (if c then Number (pos (k * d.1)) else u.values w)
        same_where w k true t = refl
        same_where w k false t = known w t

    pub nest_runs : (ds : List (ℕ × ℕ)) (ls : List Level) → NestRuns ds ls
    unfolding run
    nest_runs [] [] N u current one low bounds new each s a known start = each [] s a tt known tt start
    nest_runs (d ∷ ds) (l ∷ ls) N u current one low bounds new each s a known start =
        ap (λ o. then_goes o (run (yield_of l.end l.result ∷ []))) (for_level d ds l ls (nest_runs ds ls) N u current one low bounds new each s a known start)
        ∙ yielded l.end l.result ty s (each_tile (d ∷ ds) one (Some a))
    nest_runs [] (l ∷ ls) N u current one low bounds new each s a known start = absurd bounds
    nest_runs (d ∷ ds) [] N u current one low bounds new each s a known start = absurd bounds

    -- the outermost loop, where the operation stood
    pub nest_is : (ds : List (ℕ × ℕ)) (l : Level) (ls : List Level) (N : ℕ → Bool) (u : State) (current : ValueId) (one : List ℕ → A → Option A) →
        HasNumber N u lower 0 → Bounded N u ds (l ∷ ls) → AreNew N (l ∷ ls) → InnerRuns N u ds (l ∷ ls) current one → (a : A) → u.values current.0 ≡ datum a →
        kind_meaning (for_op (level_loop lower ty current l) (nest_body lower ty ls inner l.arg)).kind ((l.result, ty) ∷ []) u ≡ made ((l.result, ty) ∷ []) u (option_map datum (each_tile ds one (Some a)))
    nest_is (d ∷ ds) l ls N u current one low bounds new each a start =
        for_level d ds l ls (nest_runs ds ls) N u current one low bounds new each u a (λ v h. refl) start
    nest_is [] l ls N u current one low bounds new each a start = absurd bounds
