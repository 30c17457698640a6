-- A `scf.forall` with several shared outputs: what one of them holds, and where it may start.
use Rattle.std.proofs.Common.{◌≡◌, ℕ, zero, suc, ◌+◌, ◌==◌, ◌&&◌, ◌||◌, Bool, true, false, cond, List, [], ◌∷◌, ◌++◌, map, fold, Option, Some, None, ◌⊎◌, inl, inr, ⊎_elim, refl, ap, sym, subst, ◌∙◌, arith}
use Rattle.std.specs.Prelude.{Result, Ok, Err, option_map, option_and_then, slice_get, if◌then◌else◌}
use Rattle.std.specs.List.{list_any}
use Rattle.std.proofs.lemmas.List.Folds.{list_any-append}
use Rattle.std.proofs.lemmas.Option.{same_Some}
use Rattle.payload_laws.proofs.Fitted.{slice_get-none}
use Rattle.mlir_ir.specs.declared.tree.Ty.{Ty}
use Rattle.mlir_ir.specs.declared.tree.ValueId.{ValueId}
use Rattle.mlir_meaning.specs.Grids.{points, at, minus, tabulate, lies_in, InBox, IsFull, Each}
use Rattle.mlir_meaning.specs.Loops.{ForallHead, forall_box, forall_state, insertions_of, gathered, result_append, inserted, inserted_datum, inserted_data, forall_meaning, starts}
use Rattle.mlir_meaning.specs.Meaning.{run}
use Rattle.mlir_meaning.specs.Moves.{insert_into}
use Rattle.mlir_meaning.specs.States.{State, Outcome, defines, then_made}
use Rattle.mlir_meaning.specs.declared.answer.Fault.{Fault}
use Rattle.mlir_meaning.specs.declared.values.Datum.{Datum}
use Rattle.mlir_meaning.specs.declared.values.Datum.TheVariants.{Cells}
use Rattle.mlir_meaning.specs.declared.values.Grid.{Grid}
use Rattle.mlir_meaning.specs.declared.values.Insertion.{Insertion}
use Rattle.mlir_meaning.proofs.Bodies.{meaning-forall}
use Rattle.mlir_meaning.proofs.Grids.{each_point, each_more, map_same, tabulated, tabulate_same, tabulate_full}
use Rattle.mlir_meaning.proofs.Regions.{at-insert_inside, at-insert_outside, insert-extents}
use Rattle.point_laws.specs.Tiles.{counts, cut_dims, tile_offsets}
use Rattle.point_laws.specs.Boxes.{picks}
use Rattle.point_laws.proofs.Lists.{or_right}
use Rattle.point_laws.proofs.Members.{IsIn}
use Rattle.point_laws.proofs.Sorted.{point_in}
use Rattle.region_laws.specs.Among.{GivesAt, into, NotedAt, restarted, writes, IsWritten}
use Rattle.region_laws.specs.Instances.{step_of, result_of}
use Rattle.region_laws.specs.Nests.{TileLoop}
use Rattle.region_laws.specs.Regions.{in_turn}
use Rattle.region_laws.specs.TileLoops.{started_tile}
use Rattle.region_laws.specs.Laws.{TileForallGivesGeneric, CoveredOutputMayStartAnywhere}
use Rattle.region_laws.proofs.Foralls.{forall_box_is}
use Rattle.region_laws.proofs.TileLoops.{started_result}

-- INSERTIONS, ONE AFTER ANOTHER
inserted_append : (xs ys : List Insertion) (k : ℕ) (g : Grid) → inserted (xs ++ ys) k g ≡ inserted ys k (inserted xs k g)
inserted_append [] ys k g = refl
inserted_append (x ∷ xs) ys k g = inserted_append xs ys k (if x.output == k then insert_into x.tile x.offsets g else g)

abbrev insert_one : Grid → Insertion → Grid
insert_one g i = insert_into i.tile i.offsets g

inserted_into : (is : List Insertion) (k : ℕ) (g : Grid) → inserted is k g ≡ fold insert_one g (into k is)
inserted_into [] k g = refl
inserted_into (i ∷ is) k g = by (i.output == k) (inserted_into is k) where
  by : (b : Bool) → ((h : Grid) → inserted is k h ≡ fold insert_one h (into k is)) →
      inserted is k (if b then insert_into i.tile i.offsets g else g) ≡ fold insert_one g (cond b (i ∷ into k is) (into k is))
  by true again = again (insert_into i.tile i.offsets g)
  by false again = again g

data_at : (is : List Insertion) (ds : List Datum) (o k : ℕ) (d : Datum) → slice_get ds k ≡ Some d → slice_get (inserted_data is o ds) k ≡ Some (inserted_datum is (o + k) d)
data_at is [] o k d e = absurd (slice_get-none k d e)
data_at is (x ∷ ds) o zero d e = let z : o ≡ o + 0 = omega arith in λ j. Some (inserted_datum is (z j) (same_Some x d e j))
data_at is (x ∷ ds) o (suc k) d e = let z : o + 1 + k ≡ o + suc k = omega arith in data_at is ds (o + 1) k d e ∙ ap (λ m. Some (inserted_datum is m d)) z

abbrev items : Result (List Insertion) Fault → List Insertion
items (Ok is) = is
items (Err f) = []

-- ONE TILE OF EACH BODY
module _ {Q : Type 0} (k : ℕ) (tile : Q → Option Grid) (off : Q → List ℕ) (left : Q → Result (List Insertion) Fault) where
  abbrev insert_tile : Q → Grid → Option Grid
  insert_tile q g = option_map (λ t. insert_into t (off q) g) (tile q)

  abbrev Gathers : List Q → Type 0
  Gathers qs = (is : List Insertion) → gathered (map left qs) ≡ Ok is → (g : Grid) → in_turn insert_tile qs g ≡ Some (inserted is k g)

  first : (q : Q) (qs : List Q) → Gathers qs → (o : Option Grid) (r : Result (List Insertion) Fault) → NotedAt k (off q) o r → (is : List Insertion) → gathered (r ∷ map left qs) ≡ Ok is → (g : Grid) →
      fold (λ o q. option_and_then (insert_tile q) o) (option_map (λ t. insert_into t (off q) g) o) qs ≡ Some (inserted is k g)
  first q qs again o (Err f) n is h g = absurd cc
  first q qs again None (Ok js) n is h g = absurd n
  first q qs again (Some t) (Ok js) n is h g = rest (gathered (map left qs)) refl h where
    rest : (r : Result (List Insertion) Fault) → gathered (map left qs) ≡ r → result_append js r ≡ Ok is → in_turn insert_tile qs (insert_into t (off q) g) ≡ Some (inserted is k g)
    rest (Err f) e h = absurd cc
    rest (Ok ks) e h =
        again ks e (insert_into t (off q) g)
        ∙ ap (λ x. Some (inserted ks k x)) (sym (inserted_into js k g ∙ ap (fold insert_one g) n))
        ∙ ap Some (sym (inserted_append js ks k g)) ∙ ap (λ l. Some (inserted l k g)) (ap items h)

  pub gathers : (qs : List Q) → Each (λ q. NotedAt k (off q) (tile q) (left q)) qs → Gathers qs
  gathers [] n is h g = ap (λ l. Some (inserted l k g)) (ap items h)
  gathers (q ∷ qs) n is h g = first q qs (gathers qs n.1) (tile q) (left q) n.0 is h g

pub forall_gives : (ds : List (ℕ × ℕ)) (s : State) (h : ForallHead) (k : ℕ) (body : State → Outcome) (rs : List (ValueId × Ty)) (width : ℕ) (g : Grid) (tile : List ℕ → Option Grid) (off : List ℕ → List ℕ) →
    TileLoop ds s h → slice_get (starts s.values h.shared) k ≡ Some (Cells width g) →
    ((q : List ℕ) → InBox (counts ds) q → NotedAt k (off q) (tile q) (insertions_of (body (forall_state s h q)))) →
    GivesAt k (option_map (Cells width) (in_turn (λ q g. option_map (λ t. insert_into t (off q) g) (tile q)) (points (counts ds)) g)) rs s (forall_meaning h body rs s)
unfolding forall_meaning
forall_gives ds s h k body rs width g tile off loop start each =
    let bodies : List ℕ → Result (List Insertion) Fault = λ q. insertions_of (body (forall_state s h q)) in
    subst (λ box. GivesAt k whole rs s (then_made (gathered (map bodies (points box))) (λ is. defines rs s (inserted_data is 0 (starts s.values h.shared))))) (sym (forall_box_is ds s h loop))
    (by (gathered (map bodies (points (counts ds)))) refl)
  where
    whole : Option Datum
    whole = option_map (Cells width) (in_turn (λ q g. option_map (λ t. insert_into t (off q) g) (tile q)) (points (counts ds)) g)

    by : (r : Result (List Insertion) Fault) → gathered (map (λ q. insertions_of (body (forall_state s h q))) (points (counts ds))) ≡ r →
        GivesAt k (option_map (Cells width) (in_turn (λ q g. option_map (λ t. insert_into t (off q) g) (tile q)) (points (counts ds)) g)) rs s (then_made r (λ is. defines rs s (inserted_data is 0 (starts s.values h.shared))))
    by (Err f) e = inl (f, refl)
    by (Ok is) e =
        let z : 0 + k ≡ k = omega arith in
        inr (
          inserted_data is 0 (starts s.values h.shared),
          refl,
          data_at is (starts s.values h.shared) 0 k (Cells width g) start ∙ ap (λ m. Some (Cells width (inserted is m g))) z
              ∙ sym (ap (option_map (Cells width)) (gathers k tile off (λ q. insertions_of (body (forall_state s h q))) (points (counts ds))
              (each_more (InBox (counts ds)) (λ q. NotedAt k (off q) (tile q) (insertions_of (body (forall_state s h q)))) each (points (counts ds)) (each_point (counts ds))) is e g)),
        )

pub tile_forall_gives : TileForallGivesGeneric
tile_forall_gives g ts typed full cuts u h k inner rs loop start each =
    let off : List ℕ → List ℕ = λ q. picks g.ds (tile_offsets g.box ts q) in
    subst (λ (m : List (ValueId × Ty) → State → Outcome). GivesAt k (result_of g) rs u (m rs u)) (sym (meaning-forall h inner))
    (subst (λ o. GivesAt k o rs u (forall_meaning h (run inner) rs u)) (started_result g.box ts g.maps g.ds g.ins g.width g.captured g.payload g.out typed full cuts)
    (forall_gives (cut_dims g.box ts) u h k (run inner) rs g.width g.out (started_tile (step_of g) g.box ts g.ds g.out) off loop start each))

-- WHERE AN OUTPUT STARTS
restart_same : (is : List Insertion) (e : ℕ → Datum) (v : ValueId) (cs : List (ValueId × Ty × ValueId)) (o k : ℕ) (d : Datum) → slice_get (starts e cs) k ≡ Some d →
    inserted_datum is (o + k) (e v.0) ≡ inserted_datum is (o + k) d → inserted_data is o (starts e (restarted k v cs)) ≡ inserted_data is o (starts e cs)
restart_same is e v [] o k d q h = refl
restart_same is e v (c ∷ cs) o zero d q h =
    let z : o ≡ o + 0 = omega arith in
    λ j. ((λ i. inserted_datum is (z i) (e v.0)) ∙ h ∙ (λ i. inserted_datum is (sym z i) (sym (same_Some (e (c.2).0) d q) i))) j ∷ inserted_data is (o + 1) (starts e cs)
restart_same is e v (c ∷ cs) o (suc k) d q h =
    let z : o + suc k ≡ o + 1 + k = omega arith in
    λ j. inserted_datum is o (e (c.2).0) ∷ restart_same is e v cs (o + 1) k d q (subst (λ m. inserted_datum is m (e v.0) ≡ inserted_datum is m d) z h) j

-- an element that is written, or that is the same before, is the same after
agree : (k : ℕ) (e : List ℕ) (is : List Insertion) (g g' : Grid) → InBox g.extents e → InBox g'.extents e → (list_any (writes k e) is ≡ true) ⊎ (at g e ≡ at g' e) → at (inserted is k g) e ≡ at (inserted is k g') e
agree k e [] g g' b b' (inl h) = absurd cc
agree k e [] g g' b b' (inr h) = h
agree k e (i ∷ is) g g' b b' h = by (i.output == k) (lies_in i.offsets i.tile.extents e) refl (agree k e is) h where
  by : (t l : Bool) → lies_in i.offsets i.tile.extents e ≡ l →
      ((x y : Grid) → InBox x.extents e → InBox y.extents e → (list_any (writes k e) is ≡ true) ⊎ (at x e ≡ at y e) → at (inserted is k x) e ≡ at (inserted is k y) e) →
      (((t && l) || list_any (writes k e) is) ≡ true) ⊎ (at g e ≡ at g' e) →
      at (inserted is k (if t then insert_into i.tile i.offsets g else g)) e ≡ at (inserted is k (if t then insert_into i.tile i.offsets g' else g')) e
  by false l q again h = again g g' b b' h
  by true true q again h =
      again (insert_one g i) (insert_one g' i) (subst (λ es. InBox es e) (sym (insert-extents i.tile i.offsets g)) b) (subst (λ es. InBox es e) (sym (insert-extents i.tile i.offsets g')) b')
      (inr (at-insert_inside i.tile i.offsets g e b q ∙ sym (at-insert_inside i.tile i.offsets g' e b' q)))
  by true false q again h =
      again (insert_one g i) (insert_one g' i) (subst (λ es. InBox es e) (sym (insert-extents i.tile i.offsets g)) b) (subst (λ es. InBox es e) (sym (insert-extents i.tile i.offsets g')) b')
      (⊎_elim (λ w. inl w) (λ s. inr (at-insert_outside i.tile i.offsets g e b q ∙ s ∙ sym (at-insert_outside i.tile i.offsets g' e b' q))) h)

insert_full : (t : Grid) (os : List ℕ) (g : Grid) → IsFull (insert_into t os g)
unfolding insert_into
insert_full t os g = tabulate_full g.extents (λ p. if lies_in os t.extents p then at t (minus p os) else at g p)

record Stays (g x : Grid) : Type 0 where
  extents : x.extents ≡ g.extents
  full : IsFull x

inserted_stays : (k : ℕ) (is : List Insertion) (g : Grid) → IsFull g → Stays g (inserted is k g)
inserted_stays k [] g f = record { extents = refl; full = f }
inserted_stays k (i ∷ is) g f = by (i.output == k) (inserted_stays k is) where
  by : (t : Bool) → ((x : Grid) → IsFull x → Stays x (inserted is k x)) → Stays g (inserted is k (if t then insert_into i.tile i.offsets g else g))
  by false again = again g f
  by true again =
      let r = again (insert_into i.tile i.offsets g) (insert_full i.tile i.offsets g) in
      record { extents = r.extents ∙ insert-extents i.tile i.offsets g; full = r.full }

same_grid : (g x : Grid) → x.extents ≡ g.extents → IsFull g → IsFull x → ((e : List ℕ) → InBox g.extents e → at x e ≡ at g e) → x ≡ g
same_grid g x same f h all = sym (tabulated x h) ∙ ap (λ es. tabulate es (at x)) same ∙ tabulate_same g.extents (at x) (at g) all ∙ tabulated g f

covered_same : (k : ℕ) (is : List Insertion) (old new : Grid) → new.extents ≡ old.extents → IsFull old → IsFull new → ((e : List ℕ) → InBox old.extents e → list_any (writes k e) is ≡ true) → inserted is k new ≡ inserted is k old
covered_same k is old new same f h all =
    let x = inserted_stays k is new h in
    let y = inserted_stays k is old f in
    same_grid (inserted is k old) (inserted is k new) (x.extents ∙ same ∙ sym y.extents) y.full x.full (λ e b.
    let c : InBox old.extents e = subst (λ es. InBox es e) y.extents b in
    agree k e is new old (subst (λ es. InBox es e) (sym same) c) c (inl (all e c)))

-- what one body writes, all bodies together write
any_left : (b c : Bool) → b ≡ true → (b || c) ≡ true
any_left true c h = refl
any_left false c h = absurd cc

module _ {Q : Type 0} (k : ℕ) (e : List ℕ) (left : Q → Result (List Insertion) Fault) where
  abbrev Writes : List Q → Type 0
  Writes qs = (is : List Insertion) → gathered (map left qs) ≡ Ok is → (q : Q) → IsIn q qs → IsWritten k e (left q) → list_any (writes k e) is ≡ true

  written_first : (x : Q) (qs : List Q) → Writes qs → (r : Result (List Insertion) Fault) → left x ≡ r → (is : List Insertion) → gathered (r ∷ map left qs) ≡ Ok is → (q : Q) → IsIn q (x ∷ qs) → IsWritten k e (left q) → list_any (writes k e) is ≡ true
  written_first x qs again (Err f) l is h q i w = absurd cc
  written_first x qs again (Ok js) l is h q i w = rest (gathered (map left qs)) refl h where
    rest : (r : Result (List Insertion) Fault) → gathered (map left qs) ≡ r → result_append js r ≡ Ok is → list_any (writes k e) is ≡ true
    rest (Err f) m h = absurd cc
    rest (Ok ks) m h =
        ap (list_any (writes k e)) (sym (ap items h)) ∙ list_any-append (writes k e) js ks
        ∙ ⊎_elim (λ same. any_left (list_any (writes k e) js) (list_any (writes k e) ks) (subst (IsWritten k e) (ap left same ∙ l) w))
        (λ later. or_right (list_any (writes k e) js) (list_any (writes k e) ks) (again ks m q later w)) i

  written : (qs : List Q) → Writes qs
  written [] is h q i w = absurd i
  written (x ∷ qs) is h q i w = written_first x qs (written qs) (left x) refl is h q i w

pub may_start_anywhere : CoveredOutputMayStartAnywhere
unfolding forall_meaning
may_start_anywhere u h k width v old new inner inner' rs start starts_new same full full' bodies covered =
    let h' : ForallHead = record h { shared = restarted k v h.shared } in
    (λ j. meaning-forall h' inner' j rs u)
    ∙ ap (λ l. then_made (gathered l) (λ is. defines rs u (inserted_data is 0 (starts u.values (restarted k v h.shared)))))
    (map_same (λ q. insertions_of (run inner' (forall_state u h' q))) (λ q. insertions_of (run inner (forall_state u h q))) (points (forall_box u h))
    (each_more (InBox (forall_box u h)) (λ q. insertions_of (run inner' (forall_state u h' q)) ≡ insertions_of (run inner (forall_state u h q))) bodies (points (forall_box u h)) (each_point (forall_box u h))))
    ∙ by (gathered (map (λ q. insertions_of (run inner (forall_state u h q))) (points (forall_box u h)))) refl
    ∙ (λ j. sym (meaning-forall h inner) j rs u)
  where
    by : (r : Result (List Insertion) Fault) → gathered (map (λ q. insertions_of (run inner (forall_state u h q))) (points (forall_box u h))) ≡ r →
        then_made r (λ is. defines rs u (inserted_data is 0 (starts u.values (restarted k v h.shared)))) ≡ then_made r (λ is. defines rs u (inserted_data is 0 (starts u.values h.shared)))
    by (Err f) e = refl
    by (Ok is) e = ap (defines rs u) (restart_same is u.values v h.shared 0 k (Cells width old) start
        (let z : 0 + k ≡ k = omega arith in
        ap (inserted_datum is (0 + k)) starts_new ∙ (λ j. Cells width (inserted is (z j) new))
        ∙ ap (Cells width) (covered_same k is old new same full full' (λ p b.
        let c = covered p b in
        written k p (λ q. insertions_of (run inner (forall_state u h q))) (points (forall_box u h)) is e c.0 (point_in (forall_box u h) c.0 c.1) c.2))
        ∙ (λ j. Cells width (inserted is (sym z j) old))))
