-- A `scf.forall` over tiles: every tile from the shared output's start, and then the insertions in turn.
use Rattle.std.proofs.Common.{◌≡◌, ℕ, zero, suc, ◌+◌, ◌-◌, ◌*◌, ◌/◌, ◌==◌, ◌||◌, pos, ◌-ℤ◌, Bool, true, List, [], ◌∷◌, map, fold, Option, Some, None, refl, ap, sym, ◌∙◌, add-zero, zero-add}
use Rattle.std.specs.Prelude.{Result, Ok, Err, option_map, option_and_then, slice_get}
use Rattle.std.proofs.lemmas.Option.{same_Some}
use Rattle.payload_laws.proofs.Fitted.{slice_get-none}
use Rattle.std.proofs.lemmas.Bool.{eq-eqb}
use Rattle.std.proofs.lemmas.List.Folds.{fold_stays}
use Rattle.mlir_ir.specs.declared.tree.Ty.{Ty}
use Rattle.mlir_ir.specs.declared.tree.ValueId.{ValueId}
use Rattle.mlir_ir.specs.declared.tree.Idx.{Idx}
use Rattle.mlir_meaning.specs.Grids.{points, InBox}
use Rattle.mlir_meaning.specs.Loops.{ForallHead, trip_counts, numbers_at, forall_box, forall_state, insertions_of, gathered, result_append, inserted, inserted_data, forall_meaning}
use Rattle.mlir_meaning.specs.Moves.{insert_into}
use Rattle.mlir_meaning.specs.Points.{to_nat}
use Rattle.mlir_meaning.specs.States.{State, Outcome, made, defines, then_made, set, set_all, indices_in}
use Rattle.mlir_meaning.specs.declared.answer.Fault.{Fault}
use Rattle.mlir_meaning.specs.declared.values.Grid.{Grid}
use Rattle.mlir_meaning.specs.declared.values.Insertion.{Insertion}
use Rattle.mlir_meaning.specs.declared.values.Datum.{Datum}
use Rattle.mlir_meaning.specs.declared.values.Datum.TheVariants.{Number, Cells}
use Rattle.mlir_meaning.proofs.Grids.{each_point, each_more, map_same}
use Rattle.point_laws.specs.Tiles.{counts}
use Rattle.region_laws.specs.Among.{then_grid}
use Rattle.region_laws.specs.Regions.{in_turn}
use Rattle.region_laws.specs.Laws.{ForallBegins}
use Rattle.region_laws.specs.Nests.{numbers_of, with_value, AreNewVars, VarsAt, noted, TileLoop}
use Rattle.point_laws.proofs.Lists.{or_right}
use Rattle.mlir_meaning.proofs.States.{set_same, set_other, apart}

-- THE BOX AND THE VARIABLES
box_of : (ds : List (ℕ × ℕ)) → trip_counts (map (λ d. pos 0) ds) (map (λ (d : ℕ × ℕ). pos d.0) ds) (map (λ (d : ℕ × ℕ). pos d.1) ds) ≡ counts ds
box_of [] = refl
box_of (d ∷ ds) = let less_zero : pos d.0 -ℤ pos 0 ≡ pos d.0 = ap pos (add-zero d.0) in λ j. ((to_nat (less_zero j) + (d.1 - 1)) / d.1) ∷ box_of ds j

numbers_are : (ds : List (ℕ × ℕ)) (q : List ℕ) → numbers_at (map (λ (d : ℕ × ℕ). pos 0) ds) (map (λ (d : ℕ × ℕ). pos d.1) ds) q ≡ numbers_of ds q
numbers_are [] q = refl
numbers_are (d ∷ ds) [] = refl
numbers_are (d ∷ ds) (k ∷ q) = λ j. Number (pos (zero-add (k * d.1) j)) ∷ numbers_are ds q j

module _ (ds : List (ℕ × ℕ)) (s : State) (h : ForallHead) (loop : TileLoop ds s h) where
  pub forall_box_is : forall_box s h ≡ counts ds
  forall_box_is = (λ j. trip_counts (loop.lower j) (loop.upper j) (loop.step j)) ∙ box_of ds

  pub forall_numbers_are : (q : List ℕ) → numbers_at (indices_in s.values h.lower) (indices_in s.values h.step) q ≡ numbers_of ds q
  forall_numbers_are q = (λ j. numbers_at (loop.lower j) (loop.step j) q) ∙ numbers_are ds q

-- values that are defined together
pub set_all_keeps : (N : ℕ → Bool) (vs : List ValueId) (xs : List Datum) (e : ℕ → Datum) (w : ℕ) → AreNewVars N vs → N w ≡ true → set_all e vs xs w ≡ e w
set_all_keeps N [] xs e w new is = refl
set_all_keeps N (v ∷ vs) [] e w new is = refl
set_all_keeps N (v ∷ vs) (x ∷ xs) e w new is =
    set_all_keeps (with_value N v) vs xs (set e v.0 x) w new.1 (or_right (w == v.0) (N w) is) ∙ set_other e v.0 w x (apart N v.0 w new.0 is)

pub with_self : (N : ℕ → Bool) (v : ValueId) → with_value N v v.0 ≡ true
with_self N v = λ j. eq-eqb v.0 v.0 refl j || N v.0

-- values that are set together, under names that are other than each other
pub set_all_at : (N : ℕ → Bool) (vs : List ValueId) (ds : List Datum) (e : ℕ → Datum) (k : ℕ) (v : ValueId) (d : Datum) → AreNewVars N vs → slice_get vs k ≡ Some v → slice_get ds k ≡ Some d → set_all e vs ds v.0 ≡ d
set_all_at N [] ds e k v d new h g = absurd (slice_get-none k v h)
set_all_at N (w ∷ vs) [] e k v d new h g = absurd (slice_get-none k d g)
set_all_at N (w ∷ vs) (x ∷ ds) e zero v d new h g =
    (λ j. set_all (set e w.0 x) vs ds (sym (same_Some w v h) j).0) ∙ set_all_keeps (with_value N w) vs ds (set e w.0 x) w.0 new.1 (with_self N w) ∙ set_same e w.0 x ∙ same_Some x d g
set_all_at N (w ∷ vs) (x ∷ ds) e (suc k) v d new h g = set_all_at (with_value N w) vs ds (set e w.0 x) k v d new.1 h g

pub vars_are : (N : ℕ → Bool) (ds : List (ℕ × ℕ)) (vs : List ValueId) (q : List ℕ) (s : State) (e : ℕ → Datum) → AreNewVars N vs → s.values ≡ set_all e vs (numbers_of ds q) → VarsAt ds vs q s
vars_are N [] vs q s e new same = tt
vars_are N (d ∷ ds) [] q s e new same = tt
vars_are N (d ∷ ds) (v ∷ vs) [] s e new same = tt
vars_are N (d ∷ ds) (v ∷ vs) (k ∷ q) s e new same =
    let f : ℕ → Datum = set e v.0 (Number (pos (k * d.1))) in (
      (λ j. same j v.0) ∙ set_all_keeps (with_value N v) vs (numbers_of ds q) f v.0 new.1 (with_self N v) ∙ set_same e v.0 (Number (pos (k * d.1))),
      vars_are (with_value N v) ds vs q s f new.1 same,
    )

pub begins : ForallBegins
begins N u ds vs lower upper step arg outs ty q loop new_arg new =
    let h : ForallHead = record { vars = vs; lower = lower; upper = upper; step = step; shared = (arg, ty, outs) ∷ [] } in
    let e : ℕ → Datum = set u.values arg.0 (u.values outs.0) in
    let numbers = numbers_at (indices_in u.values lower) (indices_in u.values step) q in
    record {
      knows = λ w is. set_all_keeps (with_value N arg) vs numbers e w new (or_right (w == arg.0) (N w) is) ∙ set_other u.values arg.0 w (u.values outs.0) (apart N arg.0 w new_arg is);
      vars = vars_are (with_value N arg) ds vs q (forall_state u h q) e new (ap (set_all e vs) (forall_numbers_are ds u h loop q));
      start = set_all_keeps (with_value N arg) vs numbers e arg.0 new (with_self N arg) ∙ set_same u.values arg.0 (u.values outs.0);
      shared = refl;
      inserts = refl;
    }

-- THE INSERTIONS
module _ {Q : Type 0} (tile : Q → Option Grid) (off : Q → List ℕ) (rest : Grid → Outcome) where
  abbrev insert_tile : Q → Grid → Option Grid
  insert_tile q g = option_map (λ t. insert_into t (off q) g) (tile q)

  insert_one : (i : Insertion) (g : Grid) (r : Result (List Insertion) Fault) → then_made (result_append (i ∷ []) r) (λ is. rest (inserted is 0 g)) ≡ then_made r (λ is. rest (inserted (i ∷ is) 0 g))
  insert_one i g (Ok is) = refl
  insert_one i g (Err f) = refl

  tile_first : (q : Q) (qs : List Q) (g : Grid) (o : Option Grid) → ((h : Grid) → then_made (gathered (map (λ q. noted (off q) (tile q)) qs)) (λ is. rest (inserted is 0 h)) ≡ then_grid (in_turn insert_tile qs h) rest) →
      then_made (gathered (noted (off q) o ∷ map (λ q. noted (off q) (tile q)) qs)) (λ is. rest (inserted is 0 g))
      ≡ then_grid (fold (λ o q. option_and_then (insert_tile q) o) (option_map (λ t. insert_into t (off q) g) o) qs) rest
  tile_first q qs g None later = ap (λ o. then_grid o rest) (sym (fold_stays (λ o q. option_and_then (insert_tile q) o) None (λ _. refl) qs))
  tile_first q qs g (Some t) later =
      insert_one (record { output = 0; tile = t; offsets = off q }) g (gathered (map (λ q. noted (off q) (tile q)) qs)) ∙ later (insert_into t (off q) g)

  pub insertions_are : (qs : List Q) (g : Grid) → then_made (gathered (map (λ q. noted (off q) (tile q)) qs)) (λ is. rest (inserted is 0 g)) ≡ then_grid (in_turn insert_tile qs g) rest
  insertions_are [] g = refl
  insertions_are (q ∷ qs) g = tile_first q qs g (tile q) (insertions_are qs)

-- THE LOOP
grid_made : (rs : List (ValueId × Ty)) (s : State) (width : ℕ) (o : Option Grid) → then_grid o (λ g. defines rs s (Cells width g ∷ [])) ≡ made rs s (option_map (Cells width) o)
grid_made rs s width None = refl
grid_made rs s width (Some g) = refl

pub forall_is : (ds : List (ℕ × ℕ)) (s : State) (vs : List ValueId) (lower upper step : List Idx) (arg outs : ValueId) (ty : Ty) (body : State → Outcome) (rs : List (ValueId × Ty)) (width : ℕ) (g : Grid)
    (tile : List ℕ → Option Grid) (off : List ℕ → List ℕ) →
    let h : ForallHead = record { vars = vs; lower = lower; upper = upper; step = step; shared = (arg, ty, outs) ∷ [] } in
    TileLoop ds s h → s.values outs.0 ≡ Cells width g →
    ((q : List ℕ) → InBox (counts ds) q → insertions_of (body (forall_state s h q)) ≡ noted (off q) (tile q)) →
    forall_meaning h body rs s ≡ made rs s (option_map (Cells width) (in_turn (λ q g. option_map (λ t. insert_into t (off q) g) (tile q)) (points (counts ds)) g))
unfolding forall_meaning
forall_is ds s vs lower upper step arg outs ty body rs width g tile off loop start each =
    let h : ForallHead = record { vars = vs; lower = lower; upper = upper; step = step; shared = (arg, ty, outs) ∷ [] } in
    let bodies : List ℕ → Result (List Insertion) Fault = λ q. insertions_of (body (forall_state s h q)) in
    let all : map bodies (points (counts ds)) ≡ map (λ q. noted (off q) (tile q)) (points (counts ds)) =
    map_same bodies (λ q. noted (off q) (tile q)) (points (counts ds)) (each_more (InBox (counts ds)) (λ q. bodies q ≡ noted (off q) (tile q)) each (points (counts ds)) (each_point (counts ds))) in
    (λ j. then_made (gathered (map bodies (points (forall_box_is ds s h loop j)))) (λ is. defines rs s (inserted_data is 0 (start j ∷ []))))
    ∙ ap (λ l. then_made (gathered l) (λ is. defines rs s (Cells width (inserted is 0 g) ∷ []))) all
    ∙ insertions_are tile off (λ g. defines rs s (Cells width g ∷ [])) (points (counts ds)) g
    ∙ grid_made rs s width (in_turn (λ q g. option_map (λ t. insert_into t (off q) g) (tile q)) (points (counts ds)) g)
