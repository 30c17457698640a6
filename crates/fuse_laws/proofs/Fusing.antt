-- The fused generic.
use Rattle.std.proofs.Common.{◌≡◌, ℕ, zero, suc, ◌+◌, ◌<◌, ◌%◌, ◌^◌, true, ℤ, pos, ◌+ℤ◌, ◌*ℤ◌, ◌&&◌, List, [], ◌∷◌, ◌++◌, map, length, get_or, Option, Some, ⊎_elim, refl, ap, sym, subst, ◌∙◌, arith}
use Rattle.std.specs.Prelude.{option_map, option_and_then, slice_get}
use Rattle.std.specs.List.{list_all}
use Rattle.std.proofs.Math.ListN.{get_or-map}
use Rattle.std.proofs.lemmas.Bool.{and_parts}
use Rattle.std.proofs.lemmas.List.{length-map}
use Rattle.std.proofs.lemmas.Option.{same_Some, none-some}
use Rattle.std.proofs.lemmas.Int.{ints}
use Rattle.affine_maps.specs.Shape.{MapShape}
use Rattle.affine_maps.specs.Map.{IsMap, expr_fits}
use Rattle.affine_maps.specs.Compose.{result_at, composed}
use Rattle.affine_maps.specs.Value.{map_value, value_at, coordinate, weighted_sum}
use Rattle.affine_maps.specs.declared.map.Expr.{Expr}
use Rattle.affine_maps.proofs.Composing.{value-composed}
use Rattle.payload_ops.specs.Bits.{reduce}
use Rattle.payload_ops.specs.Values.{payload_value}
use Rattle.payload_ops.proofs.Words.{reduce_is}
use Rattle.mlir_meaning.specs.Grids.{count_up, at, settled, InBox, Each}
use Rattle.mlir_meaning.specs.Points.{to_nat, map_point, select_map}
use Rattle.mlir_meaning.specs.States.{element}
use Rattle.mlir_meaning.specs.declared.values.Datum.{Datum}
use Rattle.mlir_meaning.specs.declared.values.Datum.TheVariants.{Cells}
use Rattle.mlir_meaning.specs.declared.values.Grid.{Grid}
use Rattle.mlir_meaning.specs.Structured.{elements, generic_step, generic_element, generic_result, output_map}
use Rattle.mlir_meaning.proofs.Grids.{map-map}
use Rattle.mlir_meaning.proofs.Settled.{HasCells, HasTrap, view}
use Rattle.point_laws.specs.Orders.{turned, old_point}
use Rattle.point_laws.proofs.Tables.{tabled_at, box_length, get_or-pos}
use Rattle.point_laws.proofs.Turning.{Order, order_of, old_at, new_length}
use Rattle.region_laws.specs.Operands.{IsPlain, ArePlain, IsRead, AreRead, HasBox, maps_of}
use Rattle.point_laws.specs.Boxes.{picks}
use Rattle.region_laws.proofs.Operands.{weight}
use Rattle.region_laws.proofs.Extents.{box_is}
use Rattle.region_laws.proofs.Outputs.{selected_is}
use Rattle.region_laws.proofs.Inner.{generic_same}
use Rattle.payload_forms.specs.Joined.{spliced, expr_at}
use Rattle.fuse_laws.specs.Joined.{Meets}
use Rattle.fuse_laws.specs.Fused.{pulled, joint, fused, Fuses}
use Rattle.region_laws.specs.Instances.{Instance, step_of, result_of}
use Rattle.fuse_laws.proofs.Joining.{joined_gives}
use Rattle.fuse_laws.proofs.OnePoint.{picks_new, one_point}
use Rattle.fuse_laws.specs.Laws.{FusedGives}

-- WHAT READS AN OPERAND
pub read_counts : (box : List ℕ) (ms : List MapShape) (xs : List Datum) → AreRead box ms xs → length ms ≡ length xs
read_counts box [] [] h = refl
read_counts box (m ∷ ms) (x ∷ xs) h = ap suc (read_counts box ms xs h.1)
read_counts box [] (x ∷ xs) h = absurd h
read_counts box (m ∷ ms) [] h = absurd h

pub read_at : (box : List ℕ) (ms : List MapShape) (xs : List Datum) (k : ℕ) (m : MapShape) (x : Datum) → AreRead box ms xs → slice_get ms k ≡ Some m → slice_get xs k ≡ Some x → IsRead box m x
read_at box (n ∷ ms) (y ∷ xs) zero m x h e f = subst (λ z. IsRead box m z) (same_Some y x f) (subst (λ z. IsRead box z y) (same_Some n m e) h.0)
read_at box (n ∷ ms) (y ∷ xs) (suc k) m x h e f = read_at box ms xs k m x h.1 e f
read_at box [] (x ∷ xs) k m y h e f = absurd h
read_at box (m ∷ ms) [] k n y h e f = absurd h
read_at box [] [] zero m x h e f = absurd (none-some m e)
read_at box [] [] (suc k) m x h e f = absurd (none-some m e)

pub spliced_length : {A B : Type 0} (k : ℕ) (ys : List A) (zs : List B) (xs : List A) (ws : List B) → length ys ≡ length zs → length xs ≡ length ws → length (spliced k ys xs) ≡ length (spliced k zs ws)
spliced_length k ys zs [] [] e f = refl
spliced_length k ys zs [] (w ∷ ws) e f = absurd (omega arith)
spliced_length k ys zs (x ∷ xs) [] e f = absurd (omega arith)
spliced_length zero ys zs (x ∷ xs) (w ∷ ws) e f = both ys zs e where
  both : (ys : List _) (zs : List _) → length ys ≡ length zs → length (ys ++ xs) ≡ length (zs ++ ws)
  both [] [] e = omega arith
  both [] (z ∷ zs) e = absurd (omega arith)
  both (y ∷ ys) [] e = absurd (omega arith)
  both (y ∷ ys) (z ∷ zs) e = ap suc (both ys zs (omega arith))
spliced_length (suc k) ys zs (x ∷ xs) (w ∷ ws) e f = ap suc (spliced_length k ys zs xs ws e (omega arith))

-- the elements of spliced operands
appended_elements : (ys xs : List Datum) (ns ms : List MapShape) (p : List ℕ) → length ns ≡ length ys → elements (ys ++ xs) (ns ++ ms) p ≡ elements ys ns p ++ elements xs ms p
appended_elements [] xs [] ms p e = refl
appended_elements (y ∷ ys) xs (n ∷ ns) ms p e = λ j. element y (map_point n p) ∷ appended_elements ys xs ns ms p (omega arith) j
appended_elements [] xs (n ∷ ns) ms p e = absurd (omega arith)
appended_elements (y ∷ ys) xs [] ms p e = absurd (omega arith)

spliced_elements : (k : ℕ) (ys xs : List Datum) (ns ms : List MapShape) (p : List ℕ) → length ns ≡ length ys → length ms ≡ length xs →
    elements (spliced k ys xs) (spliced k ns ms) p ≡ spliced k (elements ys ns p) (elements xs ms p)
spliced_elements k ys [] ns [] p e f = refl
spliced_elements k ys [] ns (m ∷ ms) p e f = absurd (omega arith)
spliced_elements k ys (x ∷ xs) ns [] p e f = absurd (omega arith)
spliced_elements zero ys (x ∷ xs) ns (m ∷ ms) p e f = appended_elements ys xs ns ms p e
spliced_elements (suc k) ys (x ∷ xs) ns (m ∷ ms) p e f = λ j. element x (map_point m p) ∷ spliced_elements k ys xs ns ms p e (omega arith) j

-- those of the inputs don't see the output's map
own_elements : (xs : List Datum) (ms more : List MapShape) (p : List ℕ) → length ms ≡ length xs → elements xs (ms ++ more) p ≡ elements xs ms p
own_elements [] [] [] p e = refl
own_elements [] [] (m ∷ more) p e = refl
own_elements (x ∷ xs) (m ∷ ms) more p e = λ j. element x (map_point m p) ∷ own_elements xs ms more p (omega arith) j
own_elements [] (m ∷ ms) more p e = absurd (omega arith)
own_elements (x ∷ xs) [] more p e = absurd (omega arith)

elements_length : (xs : List Datum) (ms : List MapShape) (p : List ℕ) → length ms ≡ length xs → length (elements xs ms p) ≡ length xs
elements_length [] [] p e = refl
elements_length (x ∷ xs) (m ∷ ms) p e = ap suc (elements_length xs ms p (omega arith))
elements_length [] (m ∷ ms) p e = absurd (omega arith)
elements_length (x ∷ xs) [] p e = absurd (omega arith)

-- an entry in its own place
spliced_self : (k : ℕ) (xs : List Datum) (ms : List MapShape) (p : List ℕ) (x : Datum) (m : MapShape) (v : ℕ) → slice_get xs k ≡ Some x → slice_get ms k ≡ Some m → element x (map_point m p) ≡ v →
    spliced k (v ∷ []) (elements xs ms p) ≡ elements xs ms p
spliced_self zero (y ∷ xs) (n ∷ ms) p x m v e f h = λ j. ((sym h) ∙ (λ i. element (sym (same_Some y x e) i) (map_point (sym (same_Some n m f) i) p))) j ∷ elements xs ms p
spliced_self (suc k) (y ∷ xs) (n ∷ ms) p x m v e f h = ap (λ l. element y (map_point n p) ∷ l) (spliced_self k xs ms p x m v e f h)
spliced_self k [] [] p x m v e f h = refl
spliced_self k [] (n ∷ ms) p x m v e f h = refl
spliced_self k (y ∷ xs) [] p x m v e f h = refl

-- A GENERIC BY ITS ELEMENTS
last_is : (ms : List MapShape) (xs : List Datum) (m : MapShape) → length ms ≡ length xs → output_map (ms ++ m ∷ []) xs ≡ m
last_is [] [] m h = refl
last_is (n ∷ ms) (x ∷ xs) m h = last_is ms xs m (omega arith)
last_is [] (x ∷ xs) m h = absurd (omega arith)
last_is (n ∷ ms) [] m h = absurd (omega arith)

pub result_is : (g : Instance) → length g.maps ≡ length g.ins → HasBox g.box (maps_of g.maps g.box g.ds) (g.ins ++ Cells g.width g.out ∷ []) →
    result_of g ≡ option_map (Cells g.width) (settled g.out.extents (generic_element (picks g.ds) (generic_step (maps_of g.maps g.box g.ds) g.ins g.captured g.payload) g.box g.out))
unfolding generic_result
result_is g counts has =
    let step = generic_step (maps_of g.maps g.box g.ds) g.ins g.captured g.payload in
    (λ j. option_map (Cells g.width) (settled g.out.extents (generic_element (map_point (last_is g.maps g.ins (select_map (length g.box) g.ds) counts j)) step
    (box_is g.box (maps_of g.maps g.box g.ds) (g.ins ++ Cells g.width g.out ∷ []) has j) g.out)))
    ∙ ap (option_map (Cells g.width)) (generic_same (map_point (select_map (length g.box) g.ds)) (picks g.ds) step step g.box g.out (λ p b. selected_is (length g.box) g.ds p) (λ p b a. refl))

-- NUMBERS
sum_plain : (dims : ℕ) (terms : List (ℕ × ℤ)) (p : List ℕ) → ArePlain dims terms → weighted_sum terms (coordinate (map pos p)) ≡ pos (weight terms p)
sum_plain dims [] p h = refl
sum_plain dims (t ∷ terms) p h = λ j. (h.0.0 j *ℤ get_or-pos p t.0 j) +ℤ sum_plain dims terms p h.1 j

-- a plain expression has no negative value
plain_value : (dims : ℕ) (e : Expr) (p : List ℕ) → IsPlain dims e → value_at e (map pos p) ≡ pos (to_nat (value_at e (map pos p)))
plain_value dims e p h =
    let is : value_at e (map pos p) ≡ pos (to_nat e.constant + weight e.terms p) = λ j. h.0 j +ℤ sum_plain dims e.terms p h.1 j in
    is ∙ ap pos (sym (ap to_nat is))

plain_at : (dims : ℕ) (es : List Expr) (k : ℕ) → Each (IsPlain dims) es → IsPlain dims (result_at es k)
plain_at dims [] k h = (refl, tt)
plain_at dims (e ∷ es) zero h = h.0
plain_at dims (e ∷ es) (suc k) h = plain_at dims es k h.1

fits_at : (dims : ℕ) (es : List Expr) (k : ℕ) → list_all (expr_fits dims) es ≡ true → expr_fits dims (result_at es k) ≡ true
fits_at dims [] k h = refl
fits_at dims (e ∷ es) zero h = (and_parts (expr_fits dims e) (list_all (expr_fits dims) es) h).0
fits_at dims (e ∷ es) (suc k) h = fits_at dims es k (and_parts (expr_fits dims e) (list_all (expr_fits dims) es) h).1

all_fit : (dims : ℕ) (f : ℕ → Expr) → ((d : ℕ) → expr_fits dims (f d) ≡ true) → (ds : List ℕ) → list_all (expr_fits dims) (map f ds) ≡ true
all_fit dims f h [] = refl
all_fit dims f h (d ∷ ds) = λ j. h d j && all_fit dims f h ds j

low_is : (n : ℕ) (z : ℤ) → z ≡ pos n → reduce 64 z ≡ n % 2 ^ 64
low_is n z e = reduce_is 64 0 n z (omega (arith, ints))

-- THE PRODUCER'S DIMENSIONS
module _ (ds : List ℕ) (n : ℕ) (o : Order ds n) (m : MapShape) (good : IsMap m) (box p : List ℕ) (plain : Each (IsPlain (length box)) m.results) (long : length m.results ≡ n) where
  abbrev q : List ℕ
  q = old_point ds (map_point m p)

  point_length : length (map_point m p) ≡ n
  point_length = length-map (map (λ e. value_at e (map pos p)) m.results) to_nat ∙ length-map m.results (λ e. value_at e (map pos p)) ∙ long

  coordinate_at : (k : ℕ) → get_or (map_point m p) k 0 ≡ to_nat (value_at (result_at m.results k) (map pos p))
  coordinate_at k =
      ap (λ l. get_or l k 0) (map-map to_nat (λ e. value_at e (map pos p)) m.results)
      ∙ get_or-map (λ e. to_nat (value_at e (map pos p))) m.results k (record { constant = pos 0; terms = [] })

  pub pulled_is : map_value (pulled ds m) (map pos p) ≡ map pos q
  pulled_is =
      map-map (λ e. value_at e (map pos p)) (λ d. result_at m.results (turned ds d)) (count_up 0 (length ds))
      ∙ (λ j. map (λ d. (plain_value (length box) (result_at m.results (turned ds d)) p (plain_at (length box) m.results (turned ds d) plain) ∙ ap pos (sym (coordinate_at (turned ds d)))) j) (count_up 0 (length ds)))
      ∙ sym (map-map pos (λ d. get_or (map_point m p) (turned ds d) 0) (count_up 0 (length ds)))

  pub pulled_fits : IsMap (pulled ds m)
  pulled_fits = all_fit m.dims (λ d. result_at m.results (turned ds d)) (λ d. fits_at m.dims m.results (turned ds d) good) (count_up 0 (length ds))

  pub composed_is : (i : MapShape) → map_point (composed i (pulled ds m)) p ≡ map_point i q
  composed_is i = ap (map to_nat) (value-composed i (pulled ds m) (map pos p) pulled_fits ∙ ap (map_value i) pulled_is)

  pub composed_elements : (xs : List Datum) (ms : List MapShape) → elements xs (map (λ i. composed i (pulled ds m)) ms) p ≡ elements xs ms q
  composed_elements [] [] = refl
  composed_elements [] (i ∷ ms) = refl
  composed_elements (x ∷ xs) [] = refl
  composed_elements (x ∷ xs) (i ∷ ms) = λ j. element x (composed_is i j) ∷ composed_elements xs ms j

  pub dimension_is : (d : ℕ) → d < n → reduce 64 (value_at (expr_at (pulled ds m).results d) (map pos p)) ≡ get_or q d 0 % 2 ^ 64
  dimension_is d l =
      let e : expr_at (pulled ds m).results d ≡ result_at m.results (turned ds d) = tabled_at (λ d. result_at m.results (turned ds d)) (length ds) d (record { constant = pos 0; terms = [] }) (omega (arith, l, o.long)) in
      ap (λ x. reduce 64 (value_at x (map pos p))) e
      ∙ low_is (get_or q d 0) (value_at (result_at m.results (turned ds d)) (map pos p))
      (plain_value (length box) (result_at m.results (turned ds d)) p (plain_at (length box) m.results (turned ds d) plain) ∙ ap pos (sym (coordinate_at (turned ds d)) ∙ sym (old_at ds n o (map_point m p) d point_length)))

-- THE TWO GENERICS
module _ (p c : Instance) (k : ℕ) (m : MapShape) (captured : List ℕ) (of_producer of_consumer : ℕ → ℕ) (f : Fuses p c k m captured of_producer of_consumer) (width : ℕ) (g : Grid)
    (extents : g.extents ≡ p.out.extents)
    (reads : (e : List ℕ) → InBox p.out.extents e → generic_element (picks p.ds) (generic_step (maps_of p.maps p.box p.ds) p.ins p.captured p.payload) p.box p.out e ≡ Some (at g e))
    (at_k : slice_get c.ins k ≡ Some (Cells width g)) where
  abbrev both : Instance
  both = fused p c k m captured of_producer of_consumer

  read : IsRead c.box m (Cells width g)
  read = read_at c.box c.maps c.ins k m (Cells width g) f.consumer.read f.map_there at_k

  producer_counts : length p.maps ≡ length p.ins
  producer_counts = read_counts p.box p.maps p.ins f.producer.read

  consumer_counts : length c.maps ≡ length c.ins
  consumer_counts = read_counts c.box c.maps c.ins f.consumer.read

  fused_counts : length both.maps ≡ length both.ins
  fused_counts = spliced_length k (map (λ i. composed i (pulled p.ds m)) p.maps) p.ins c.maps c.ins (length-map p.maps (λ i. composed i (pulled p.ds m)) ∙ producer_counts) consumer_counts

  step_same : (x : List ℕ) → InBox c.box x → (a : ℕ) → step_of both a x ≡ step_of c a x
  step_same x b a =
      let n = length p.box in
      let o : Order p.ds n = order_of p.ds n f.order in
      let e = map_point m x in
      let inside : InBox p.out.extents e = subst (λ es. InBox es e) extents (read.1 x b) in
      let inside' : InBox (picks p.ds p.box) e = subst (λ es. InBox es e) f.producer.extents inside in
      let long : length m.results ≡ n =
      sym (length-map (map (λ e. value_at e (map pos x)) m.results) to_nat ∙ length-map m.results (λ e. value_at e (map pos x)))
      ∙ box_length (picks p.ds p.box) e inside' ∙ ap length (picks_new p.ds p.box) ∙ new_length p.ds n o p.box in
      let q = old_point p.ds e in
      let value = at g e in
      let made : payload_value p.payload (record { point = q; outer = p.captured; ins = elements p.ins p.maps q; out = at p.out e }) ≡ Some value =
      (λ i. payload_value p.payload (record { point = q; outer = p.captured; ins = sym (own_elements p.ins p.maps (select_map n p.ds ∷ []) q producer_counts) i; out = at p.out e }))
      ∙ sym (one_point p.ds p.box (step_of p) p.out e f.order inside') ∙ reads e inside in
      let meets : Meets (joint k p.ds m (length captured) of_producer of_consumer) n (length p.captured) (length c.captured) x q captured p.captured c.captured =
      record {
        points = dimension_is p.ds n o m f.is_map c.box x read.0 long;
        producer_outer = f.producer_outer;
        consumer_outer = f.consumer_outer;
      } in
      let elements_same : elements both.ins (maps_of both.maps both.box both.ds) x ≡ spliced k (elements p.ins p.maps q) (elements c.ins c.maps x) =
      own_elements both.ins both.maps (select_map (length c.box) c.ds ∷ []) x fused_counts
      ∙ spliced_elements k p.ins c.ins (map (λ i. composed i (pulled p.ds m)) p.maps) c.maps x (length-map p.maps (λ i. composed i (pulled p.ds m)) ∙ producer_counts) consumer_counts
      ∙ ap (λ l. spliced k l (elements c.ins c.maps x)) (composed_elements p.ds n o m f.is_map c.box x read.0 long p.ins p.maps) in
      (λ i. payload_value both.payload (record { point = x; outer = captured; ins = elements_same i; out = a }))
      ∙ joined_gives (joint k p.ds m (length captured) of_producer of_consumer) n (length p.captured) (length c.box) (length c.captured) p.payload c.payload f.fit x q captured p.captured c.captured
      (elements p.ins p.maps q) (elements c.ins c.maps x) a (at p.out e) meets
      (elements_length p.ins p.maps q producer_counts ∙ sym f.producer_ins) (elements_length c.ins c.maps x consumer_counts ∙ sym f.consumer_ins)
      ∙ ap (option_and_then (λ v. payload_value c.payload (record { point = x; outer = c.captured; ins = spliced k (v ∷ []) (elements c.ins c.maps x); out = a }))) made
      ∙ (λ i. payload_value c.payload (record {
        point = x;
        outer = c.captured;
        ins = (spliced_self k c.ins c.maps x (Cells width g) m value at_k f.map_there refl ∙ sym (own_elements c.ins c.maps (select_map (length c.box) c.ds ∷ []) x consumer_counts)) i;
        out = a;
      }))

  pub same_result : result_of both ≡ result_of c
  same_result =
      result_is both fused_counts f.box
      ∙ ap (option_map (Cells c.width)) (generic_same (picks c.ds) (picks c.ds) (step_of both) (step_of c) c.box c.out (λ x b. refl) step_same)
      ∙ sym (result_is c consumer_counts f.consumer.has_box)

pub fused_gives : FusedGives
fused_gives p c k m captured of_producer of_consumer r f made at_k =
    let step = generic_step (maps_of p.maps p.box p.ds) p.ins p.captured p.payload in
    let h : List ℕ → Option ℕ = generic_element (picks p.ds) step p.box p.out in
    let is : option_map (Cells p.width) (settled p.out.extents h) ≡ Some r = sym (result_is p (read_counts p.box p.maps p.ins f.producer.read) f.producer.has_box) ∙ made in
    ⊎_elim
    (λ (t : HasCells p.out.extents h).
    let g : Grid = record { extents = p.out.extents; cells = t.cells } in
    let r_is : Cells p.width g ≡ r = same_Some (Cells p.width g) r (ap (option_map (Cells p.width)) (sym t.settles) ∙ is) in
    same_result p c k m captured of_producer of_consumer f p.width g refl t.reads (at_k ∙ ap Some (sym r_is)))
    (λ (t : HasTrap p.out.extents h). absurd (none-some r (ap (option_map (Cells p.width)) (sym t.traps) ∙ is)))
    (view p.out.extents h)
