-- Regions that stand by a loop's variables are disjoint and cover.
use Rattle.std.proofs.Common.{◌≡◌, ℕ, ◌/◌, ◌<◌, ◌&&◌, ◌||◌, ◌==◌, Bool, true, false, cond, List, [], ◌∷◌, length, get_or, Option, Some, None, ⊎_elim, refl, ap, sym, subst, ◌∙◌, arith}
use Rattle.std.proofs.Math.Nat.{div-lt_iff_lt-mul}
use Rattle.std.proofs.lemmas.Bool.{cases_lt}
use Rattle.std.proofs.lemmas.List.{get_or-map, get_or_past, length-map}
use Rattle.mlir_meaning.specs.Grids.{InBox, lies_in, same_point}
use Rattle.mlir_meaning.proofs.Cells.{same_point-refl, same_point-true}
use Rattle.point_laws.specs.Boxes.{picks}
use Rattle.point_laws.specs.Orders.{origin, old_point, new_point}
use Rattle.point_laws.specs.Tiles.{tile_count}
use Rattle.point_laws.proofs.Lists.{both_ways}
use Rattle.point_laws.proofs.Ragged.{tiles_end, tile_begins, tile_tested, whole_tested}
use Rattle.point_laws.proofs.Tables.{lists_same, tabled_at, tabled_length, box_length, get_or-in}
use Rattle.point_laws.proofs.Turning.{Order, order_of, old_inside, new_old, old_new}
use Rattle.region_laws.specs.Spans.{span_offsets, span_sizes, span_places, SpansRun}
use Rattle.region_laws.specs.Laws.{RegionsCover, SpannedOutputMayStartAnywhere}
use Rattle.std.specs.Prelude.{Result, Ok, Err}
use Rattle.std.specs.List.{list_any}
use Rattle.mlir_meaning.specs.Loops.{forall_box, forall_state, insertions_of}
use Rattle.mlir_meaning.specs.Meaning.{run}
use Rattle.mlir_meaning.specs.declared.answer.Fault.{Fault}
use Rattle.mlir_meaning.specs.declared.values.Insertion.{Insertion}
use Rattle.region_laws.specs.Among.{into, InsertsAt, IsWritten, writes}
use Rattle.region_laws.proofs.Shared.{may_start_anywhere}

-- the turn of each variable, in order of the axes
abbrev turns_of : List (Option (ℕ × ℕ)) → List ℕ → List ℕ
turns_of [] e = []
turns_of (None ∷ axes) [] = []
turns_of (None ∷ axes) (i ∷ e) = turns_of axes e
turns_of (Some a ∷ axes) [] = []
turns_of (Some a ∷ axes) (i ∷ e) = (i / a.1) ∷ turns_of axes e

turn_below : (e t i : ℕ) → 0 < t → i < e → i / t < tile_count e t
turn_below e t i h l = (div-lt_iff_lt-mul {k = t} {x = i} {y = tile_count e t} h).1 (omega (arith, l, tiles_end e t h))

picked_in : (box es : List ℕ) (axes : List (Option (ℕ × ℕ))) (e : List ℕ) → SpansRun box es axes → InBox es e → InBox (picks (span_places axes) box) (turns_of axes e)
picked_in box [] [] [] r b = tt
picked_in box (x ∷ es) (None ∷ axes) (i ∷ e) r b = picked_in box es axes e r b.1
picked_in box (x ∷ es) (Some a ∷ axes) (i ∷ e) r b = (omega (arith, turn_below x a.1 i r.0 b.0, r.1), picked_in box es axes e r.2 b.1)
picked_in box [] [] (i ∷ e) r b = absurd b
picked_in box [] (a ∷ axes) e r b = absurd r
picked_in box (x ∷ es) [] e r b = absurd r
picked_in box (x ∷ es) (a ∷ axes) [] r b = absurd b

-- an element lies in the region of its variables' turns alone
lies_is : (box es : List ℕ) (axes : List (Option (ℕ × ℕ))) (e turns : List ℕ) → SpansRun box es axes → InBox es e → InBox box turns →
    lies_in (span_offsets turns axes) (span_sizes turns es axes) e ≡ same_point (turns_of axes e) (picks (span_places axes) turns)
lies_is box [] [] [] turns r b t = refl
lies_is box (x ∷ es) (None ∷ axes) (i ∷ e) turns r b t = λ j. whole_tested x i b.0 j && lies_is box es axes e turns r b.1 t j
lies_is box (x ∷ es) (Some a ∷ axes) (i ∷ e) turns r b t =
    λ j. tile_tested x a.1 (get_or turns a.0 0) i r.0 b.0 (tile_begins x a.1 (get_or turns a.0 0) r.0 below) j && lies_is box es axes e turns r.2 b.1 t j
  where
    there : a.0 < length box
    there = ⊎_elim (λ l. l) (λ m. absurd (omega (arith, turn_below x a.1 i r.0 b.0, r.1, get_or_past box a.0 0 m))) (cases_lt a.0 (length box))

    below : get_or turns a.0 0 < tile_count x a.1
    below = omega (arith, get_or-in box turns a.0 t there, r.1)
lies_is box [] [] (i ∷ e) turns r b t = absurd b
lies_is box [] (a ∷ axes) e turns r b t = absurd r
lies_is box (x ∷ es) [] e turns r b t = absurd r
lies_is box (x ∷ es) (a ∷ axes) [] turns r b t = absurd b

picks_new : (order p : List ℕ) → picks order p ≡ new_point order p
picks_new order p = lists_same 0 _ _ (length-map order (λ d. get_or p d 0) ∙ sym (tabled_length (λ k. get_or p (origin order k) 0) (length order))) (λ k l.
    let m : k < length order = omega (arith, l, length-map order (λ d. get_or p d 0)) in
    get_or-map (λ d. get_or p d 0) order k 0 0 m ∙ sym (tabled_at (λ k. get_or p (origin order k) 0) (length order) k 0 m))

pub regions_cover : RegionsCover
regions_cover box es axes s e b =
    let vs : List ℕ = span_places axes in
    let n : ℕ = length box in
    let o : Order vs n = order_of vs n s.once in
    let xs : List ℕ = turns_of axes e in
    let inside : InBox (new_point vs box) xs = subst (λ l. InBox l xs) (picks_new vs box) (picked_in box es axes e s.run b) in
    let long : length xs ≡ n = box_length (new_point vs box) xs inside ∙ tabled_length (λ k. get_or box (origin vs k) 0) (length vs) ∙ o.long in
    let q : List ℕ = old_point vs xs in (
      q,
      old_inside vs n o box refl xs inside,
      λ turns t.
          let size : length turns ≡ n = box_length box turns t in
          lies_is box es axes e turns s.run b t
          ∙ both_ways (same_point xs (picks vs turns)) (same_point q turns)
          (λ h. ap (λ p. same_point p turns) (ap (old_point vs) (same_point-true xs (picks vs turns) h ∙ picks_new vs turns) ∙ old_new vs n o turns size) ∙ same_point-refl turns)
          (λ h. ap (same_point xs) (picks_new vs turns ∙ ap (new_point vs) (sym (same_point-true q turns h)) ∙ new_old vs n o xs long) ∙ same_point-refl xs),
    )

-- WHERE AN OUTPUT STARTS
abbrev first_of : Insertion → List Insertion → Insertion
first_of d [] = d
first_of d (x ∷ xs) = x

into_written : (k : ℕ) (e : List ℕ) (is : List Insertion) (i : Insertion) → into k is ≡ i ∷ [] → lies_in i.offsets i.tile.extents e ≡ true → list_any (writes k e) is ≡ true
into_written k e [] i h l = absurd cc
into_written k e (x ∷ is) i h l = by (x.output == k) (into_written k e is i) h where
  by : (b : Bool) → (into k is ≡ i ∷ [] → lies_in i.offsets i.tile.extents e ≡ true → list_any (writes k e) is ≡ true) → cond b (x ∷ into k is) (into k is) ≡ i ∷ [] →
      ((b && lies_in x.offsets x.tile.extents e) || list_any (writes k e) is) ≡ true
  by true again q =
      let same : x ≡ i = ap (first_of i) q in
      (λ j. lies_in (same j).offsets (same j).tile.extents e || list_any (writes k e) is) ∙ (λ j. l j || list_any (writes k e) is)
  by false again q = again q l

written_at : (k : ℕ) (e offsets sizes : List ℕ) (r : Result (List Insertion) Fault) → InsertsAt k offsets sizes r → lies_in offsets sizes e ≡ true → IsWritten k e r
written_at k e offsets sizes (Err f) h l = tt
written_at k e offsets sizes (Ok is) h l = into_written k e is h.0 h.1 ((λ j. lies_in (h.2 j) (h.3 j) e) ∙ l)

pub spanned_may_start : SpannedOutputMayStartAnywhere
spanned_may_start u h k width v old new inner inner' rs axes spans start starts_new same full full' bodies inserts =
    may_start_anywhere u h k width v old new inner inner' rs start starts_new same full full' bodies
    (λ e b.
    let c = regions_cover (forall_box u h) old.extents axes spans e b in (
      c.0,
      c.1,
      written_at k e (span_offsets c.0 axes) (span_sizes c.0 old.extents axes) (insertions_of (run inner (forall_state u h c.0))) (inserts c.0 c.1)
          (c.2 c.0 c.1 ∙ same_point-refl c.0),
    ))
