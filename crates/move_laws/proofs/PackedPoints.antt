-- The points of the packed box that write one element, and those of the old box.
use Rattle.std.proofs.Common.{◌≡◌, ℕ, zero, suc, ◌+◌, ◌*◌, ◌<◌, ◌==◌, Bool, true, ◌||◌, List, [], ◌∷◌, ◌++◌, map, filter, length, take, drop, get_or, inl, inr, ⊎_elim, IsPermutation, refl, ap, sym, ◌∙◌, subst, arith, add-mul}
use Rattle.std.proofs.Math.Nat.{mul-le-mul_right}
use Rattle.std.proofs.Math.Seq.{take-append_seam, drop-append_seam}
use Rattle.std.proofs.lemmas.Bool.{false≢true, cases_Bool, eqb-true}
use Rattle.std.proofs.lemmas.List.{take-append-drop, length-map}
use Rattle.affine_maps.specs.Map.{dimension}
use Rattle.affine_maps.specs.declared.map.Expr.{Expr}
use Rattle.mlir_meaning.specs.Grids.{points, is_inside, same_point, InBox, Each}
use Rattle.mlir_meaning.specs.Points.{has}
use Rattle.mlir_meaning.proofs.Cells.{same_point-true, same_point-refl}
use Rattle.region_laws.specs.Operands.{IsPlain, ReadsAxes}
use Rattle.point_laws.specs.Boxes.{picks}
use Rattle.region_laws.proofs.Outputs.{selected_is}
use Rattle.move_laws.specs.Packs.{outers, inners, outer_box, inner_box, packed_box, merged, packed_before, with_inner, inner_axes, inner_dims, packed_dims, StaysAxis, output_tiles, OutputPacked}
use Rattle.move_laws.proofs.Merged.{merged_back, outers_in, inners_in, outers_merged, inners_merged, in_append, Split, split_in, outers_length}
use Rattle.point_laws.proofs.Tables.{box_length, lists_same}
use Rattle.point_laws.proofs.Members.{IsIn, same_members, map_in, map_from, distinct_map, filter_in, filter_from}
use Rattle.point_laws.proofs.Sorted.{Before, not_before, AreSorted, sorted_distinct, sorted_same, filter_sorted, map_sorted, points_sorted, point_inside, point_in}
use Rattle.move_laws.proofs.PackedAxes.{places, coords, places_merged, coords_in, new_places, CutAt, cut_at}
use Rattle.move_laws.proofs.PackedOperands.{outer_place}
use Rattle.mlir_meaning.proofs.Grids.{inside_true, inside_in}

append_parts : (xs ys zs ws : List ℕ) → length xs ≡ length zs → xs ++ ys ≡ zs ++ ws → (xs ≡ zs) × (ys ≡ ws)
append_parts xs ys zs ws l e = (
  sym (take-append_seam xs ys) ∙ (λ j. take (l j) (e j)) ∙ take-append_seam zs ws,
  sym (drop-append_seam xs ys) ∙ (λ j. drop (l j) (e j)) ∙ drop-append_seam zs ws,
)

-- ORDER
before_front : (o q is : List ℕ) → length o ≡ length q → Before (o ++ is) (q ++ is) → Before o q
before_front [] [] is l h = not_before is h
before_front (x ∷ o) (y ∷ q) is l (inl k) = inl k
before_front (x ∷ o) (y ∷ q) is l (inr k) = inr (k.0, before_front o q is (omega arith) k.1)
before_front [] (y ∷ q) is l h = absurd (omega arith)
before_front (x ∷ o) [] is l h = absurd (omega arith)

less_scaled : (x y t i : ℕ) → x < y → x * suc t + i < y * suc t + i
less_scaled x y t i l = omega (arith, mul-le-mul_right {m = x + 1} {n = y} (suc t) (omega arith), add-mul x 1 (suc t))

before_merged : (es o q is ts : List ℕ) → InBox (outer_box es ts) o → InBox (outer_box es ts) q → InBox (inner_box es ts) is → Before o q → Before (merged o is ts) (merged q is ts)
before_merged [] [] q is ts h k m b = b
before_merged (e ∷ es) (x ∷ o) (y ∷ q) is [] h k m (inl l) = inl l
before_merged (e ∷ es) (x ∷ o) (y ∷ q) is [] h k m (inr l) = inr (l.0, before_merged es o q is [] h.1 k.1 m l.1)
before_merged (e ∷ es) (x ∷ o) (y ∷ q) is (zero ∷ ts) h k m (inl l) = inl l
before_merged (e ∷ es) (x ∷ o) (y ∷ q) is (zero ∷ ts) h k m (inr l) = inr (l.0, before_merged es o q is ts h.1 k.1 m l.1)
before_merged (e ∷ es) (x ∷ o) (y ∷ q) (i ∷ is) (suc t ∷ ts) h k m (inl l) = inl (less_scaled x y t i l)
before_merged (e ∷ es) (x ∷ o) (y ∷ q) (i ∷ is) (suc t ∷ ts) h k m (inr l) = inr ((λ j. l.0 j * suc t + i), before_merged es o q is ts h.1 k.1 m.1 l.1)
before_merged [] (x ∷ o) q is ts h k m b = absurd h
before_merged (e ∷ es) [] q is [] h k m b = absurd h
before_merged (e ∷ es) [] q is (zero ∷ ts) h k m b = absurd h
before_merged (e ∷ es) [] q is (suc t ∷ ts) h k m b = absurd h
before_merged (e ∷ es) (x ∷ o) [] is [] h k m b = absurd k
before_merged (e ∷ es) (x ∷ o) [] is (zero ∷ ts) h k m b = absurd k
before_merged (e ∷ es) (x ∷ o) [] is (suc t ∷ ts) h k m b = absurd k
before_merged (e ∷ es) (x ∷ o) (y ∷ q) [] (suc t ∷ ts) h k m b = absurd m

-- THE OUTPUT'S AXES
pub dims_plain : (n : ℕ) (ds : List ℕ) → Each (λ d. d < n) ds → Each (IsPlain n) (map dimension ds)
dims_plain n [] h = tt
dims_plain n (d ∷ ds) h = ((refl, ((refl, h.0), tt)), dims_plain n ds h.1)

pub dims_stay : (ts ds : List ℕ) → Each (StaysAxis ts) (map dimension ds)
dims_stay ts [] = tt
dims_stay ts (d ∷ ds) = (tt, dims_stay ts ds)

pub dims_read : (box ds : List ℕ) → Each (λ d. d < length box) ds → ReadsAxes box (map dimension ds) (picks ds box)
dims_read box [] h = tt
dims_read box (d ∷ ds) h = ((h.0, refl), dims_read box ds h.1)

-- the inner dimensions as axes
pub dims_axes : (n : ℕ) (ts ds : List ℕ) → map dimension (ds ++ inner_dims n ts ds) ≡ map dimension ds ++ inner_axes n ts (map dimension ds)
dims_axes n ts ds = front ds (inner_dims n ts ds) ∙ ap (λ l. map dimension ds ++ l) (inner ds)
  where
    front : (ds fs : List ℕ) → map dimension (ds ++ fs) ≡ map dimension ds ++ map dimension fs
    front [] fs = refl
    front (d ∷ ds) fs = ap (λ l. dimension d ∷ l) (front ds fs)

    one : (t k : ℕ) (fs : List ℕ) (es : List Expr) → map dimension fs ≡ es → map dimension (with_inner t k fs) ≡ with_inner t (dimension k) es
    one zero k fs es e = e
    one (suc t) k fs es e = ap (λ l. dimension k ∷ l) e

    inner : (ds : List ℕ) → map dimension (inner_dims n ts ds) ≡ inner_axes n ts (map dimension ds)
    inner [] = refl
    inner (d ∷ ds) = one (get_or ts d 0) (n + packed_before ts d) (inner_dims n ts ds) (inner_axes n ts (map dimension ds)) (inner ds)

module _ (box ts : List ℕ) (long : length ts ≡ length box) (ds : List ℕ) (selects : Each (λ d. d < length box) ds) where
  abbrev axes : List Expr
  axes = map dimension ds

  abbrev pub sizes : List ℕ
  sizes = output_tiles ts ds

  -- the whole point of a packed one
  abbrev pub front : List ℕ → List ℕ
  front p = take (length (outer_box box ts)) p

  abbrev pub back : List ℕ → List ℕ
  back p = drop (length (outer_box box ts)) p

  abbrev pub whole : List ℕ → List ℕ
  whole p = merged (front p) (back p) ts

  abbrev pub apart : List ℕ → List ℕ
  apart q = outers q ts ++ inners q ts

  pub split : (p : List ℕ) → InBox (packed_box box ts) p → Split (outer_box box ts) (inner_box box ts) p
  split p b = split_in (outer_box box ts) (inner_box box ts) p b

  pub joined_again : (p : List ℕ) → front p ++ back p ≡ p
  joined_again p = take-append-drop (length (outer_box box ts)) p

  apart_in : (q : List ℕ) → InBox box q → InBox (packed_box box ts) (apart q)
  apart_in q b = in_append (outer_box box ts) (inner_box box ts) (outers q ts) (inners q ts) (outers_in box q ts b) (inners_in box q ts b)

  outers_front : (q : List ℕ) → InBox box q → front (apart q) ≡ outers q ts
  outers_front q b = (λ j. take (sym (box_length (outer_box box ts) (outers q ts) (outers_in box q ts b)) j) (apart q)) ∙ take-append_seam (outers q ts) (inners q ts)

  inners_back : (q : List ℕ) → InBox box q → back (apart q) ≡ inners q ts
  inners_back q b = (λ j. drop (sym (box_length (outer_box box ts) (outers q ts) (outers_in box q ts b)) j) (apart q)) ∙ drop-append_seam (outers q ts) (inners q ts)

  whole_apart : (q : List ℕ) → InBox box q → whole (apart q) ≡ q
  whole_apart q b = (λ j. merged (outers_front q b j) (inners_back q b j) ts) ∙ merged_back q ts

  apart_whole : (p : List ℕ) → InBox (packed_box box ts) p → apart (whole p) ≡ p
  apart_whole p b =
      let s : Split (outer_box box ts) (inner_box box ts) p = split p b in
      (λ j. outers_merged box (front p) (back p) ts s.front s.back j ++ inners_merged box (front p) (back p) ts s.front s.back j) ∙ joined_again p

  -- WHERE A PACKED POINT WRITES
  picked_by : (p : List ℕ) → places box ts long axes p ≡ picks ds p
  picked_by p = selected_is (length box) ds p

  module _ (o is : List ℕ) (ho : InBox (outer_box box ts) o) (hi : InBox (inner_box box ts) is) where
    out_is : picks (packed_dims ts ds) (o ++ is) ≡ picks ds o ++ coords box ts long axes is
    out_is =
        sym (selected_is (length box) (packed_dims ts ds) (o ++ is)) ∙ (λ j. places box ts long (dims_axes (length ts) ts ds j) (o ++ is))
        ∙ new_places box ts long o is ho hi axes (dims_plain (length box) ds selects) ∙ (λ j. picked_by o j ++ coords box ts long axes is)

    picked_whole : picks ds (merged o is ts) ≡ merged (picks ds o) (coords box ts long axes is) sizes
    picked_whole =
        sym (picked_by (merged o is ts)) ∙ places_merged box ts long o is ho hi axes (dims_plain (length box) ds selects) (dims_stay ts ds)
        ∙ (λ j. merged (picked_by o j) (coords box ts long axes is) sizes)

    picked_outer : InBox (outer_box (picks ds box) sizes) (picks ds o)
    picked_outer =
        subst (InBox (outer_box (picks ds box) sizes)) (picked_by o)
        (outer_place box ts long o is ho hi axes (picks ds box) (dims_plain (length box) ds selects) (dims_stay ts ds) (dims_read box ds selects))

    picked_inner : InBox (inner_box (picks ds box) sizes) (coords box ts long axes is)
    picked_inner = coords_in box ts long o is ho hi axes (picks ds box) (length-map ds dimension ∙ sym (length-map ds (λ d. get_or box d 0))) (dims_plain (length box) ds selects)

  -- the packed index of an element
  abbrev pub index : List ℕ → List ℕ
  index e = outers e sizes ++ inners e sizes

  to_element : (p e : List ℕ) → InBox (packed_box box ts) p → length e ≡ length ds → picks (packed_dims ts ds) p ≡ index e →
      (picks ds (whole p) ≡ e) × (coords box ts long axes (back p) ≡ inners e sizes)
  to_element p e b l h =
      let s : Split (outer_box box ts) (inner_box box ts) p = split p b in
      let q : picks ds (front p) ++ coords box ts long axes (back p) ≡ index e = sym (out_is (front p) (back p) s.front s.back) ∙ ap (picks (packed_dims ts ds)) (joined_again p) ∙ h in
      let parts : (picks ds (front p) ≡ outers e sizes) × (coords box ts long axes (back p) ≡ inners e sizes) =
      append_parts (picks ds (front p)) (coords box ts long axes (back p)) (outers e sizes) (inners e sizes) (length-map ds (λ d. get_or (front p) d 0) ∙ sym l ∙ sym (outers_length e sizes)) q in
      (picked_whole (front p) (back p) s.front s.back ∙ (λ j. merged (parts.0 j) (parts.1 j) sizes) ∙ merged_back e sizes, parts.1)

  from_element : (q e : List ℕ) → InBox box q → picks ds q ≡ e → picks (packed_dims ts ds) (apart q) ≡ index e
  from_element q e b h =
      let ho : InBox (outer_box box ts) (outers q ts) = outers_in box q ts b in
      let hi : InBox (inner_box box ts) (inners q ts) = inners_in box q ts b in
      let x : List ℕ = picks ds (outers q ts) in
      let y : List ℕ = coords box ts long axes (inners q ts) in
      let m : merged x y sizes ≡ e = sym (picked_whole (outers q ts) (inners q ts) ho hi) ∙ ap (picks ds) (merged_back q ts) ∙ h in
      out_is (outers q ts) (inners q ts) ho hi
      ∙ (λ j. sym (outers_merged (picks ds box) x y sizes (picked_outer (outers q ts) (inners q ts) ho hi) (picked_inner (outers q ts) (inners q ts) ho hi)) j
      ++ sym (inners_merged (picks ds box) x y sizes (picked_outer (outers q ts) (inners q ts) ho hi) (picked_inner (outers q ts) (inners q ts) ho hi)) j)
      ∙ (λ j. outers (m j) sizes ++ inners (m j) sizes)

  -- THE LISTS
  module _ (e : List ℕ) (there : InBox (picks ds box) e) where
    abbrev pub hits : List (List ℕ)
    hits = filter (λ p. same_point (picks ds p) e) (points box)

    abbrev pub new_hits : List (List ℕ)
    new_hits = filter (λ p. same_point (picks (packed_dims ts ds) p) (index e)) (points (packed_box box ts))

    abbrev pub is_whole : List ℕ → Bool
    is_whole p = is_inside box (whole p)

    abbrev pub kept : List (List ℕ)
    kept = map whole (filter is_whole new_hits)

    e_long : length e ≡ length ds
    e_long = box_length (picks ds box) e there ∙ length-map ds (λ d. get_or box d 0)

    pub record Hit (p : List ℕ) : Type 0 where
      pub inside : InBox (packed_box box ts) p
      pub writes : picks ds (whole p) ≡ e
      pub inner : coords box ts long axes (back p) ≡ inners e sizes

    pub hit_of : (p : List ℕ) → InBox (packed_box box ts) p → same_point (picks (packed_dims ts ds) p) (index e) ≡ true → Hit p
    hit_of p b s = let r = to_element p e b e_long (same_point-true (picks (packed_dims ts ds) p) (index e) s) in record { inside = b; writes = r.0; inner = r.1 }

    hit_in : (p : List ℕ) → IsIn p (filter is_whole new_hits) → Hit p × (is_whole p ≡ true)
    hit_in p i =
        let f = filter_from is_whole p new_hits i in
        let h = filter_from (λ p. same_point (picks (packed_dims ts ds) p) (index e)) p (points (packed_box box ts)) f.0 in
        (hit_of p (point_inside (packed_box box ts) p h.0) h.1, f.1)

    to : (q : List ℕ) → IsIn q kept → IsIn q hits
    to q i =
        let m = map_from whole q (filter is_whole new_hits) i in
        let h = hit_in m.0 m.1 in
        subst (λ z. IsIn z hits) (sym m.2)
        (filter_in (λ p. same_point (picks ds p) e) (whole m.0) (points box) (point_in box (whole m.0) (inside_in box (whole m.0) h.1))
        (ap (λ z. same_point z e) h.0.writes ∙ same_point-refl e))

    from : (q : List ℕ) → IsIn q hits → IsIn q kept
    from q i =
        let h = filter_from (λ p. same_point (picks ds p) e) q (points box) i in
        let b : InBox box q = point_inside box q h.0 in
        let w : whole (apart q) ≡ q = whole_apart q b in
        subst (λ z. IsIn z kept) w
        (map_in whole (apart q) (filter is_whole new_hits)
        (filter_in is_whole (apart q) new_hits
        (filter_in (λ p. same_point (picks (packed_dims ts ds) p) (index e)) (apart q) (points (packed_box box ts)) (point_in (packed_box box ts) (apart q) (apart_in q b))
        (ap (λ z. same_point z (index e)) (from_element q e b (same_point-true (picks ds q) e h.1)) ∙ same_point-refl (index e)))
        (ap (is_inside box) w ∙ inside_true box q b)))

    old_sorted : AreSorted hits
    old_sorted = filter_sorted (λ p. same_point (picks ds p) e) (points box) (points_sorted box)

    new_sorted : AreSorted (filter is_whole new_hits)
    new_sorted = filter_sorted is_whole new_hits (filter_sorted (λ p. same_point (picks (packed_dims ts ds) p) (index e)) (points (packed_box box ts)) (points_sorted (packed_box box ts)))

    -- the same points, in some order
    pub permuted : IsPermutation hits kept
    permuted =
        same_members kept hits
        (distinct_map whole (filter is_whole new_hits)
        (λ p q i j h. sym (apart_whole p (hit_in p i).0.inside) ∙ ap apart h ∙ apart_whole q (hit_in q j).0.inside) (sorted_distinct (filter is_whole new_hits) new_sorted))
        (sorted_distinct hits old_sorted) to from

    -- and in the same order, where only dimensions of the output are packed
    module _ (only : OutputPacked box ts ds) where
      same_at : (ds : List ℕ) (is js : List ℕ) (d t : ℕ) → get_or ts d 0 ≡ suc t → has ds d ≡ true → coords box ts long (map dimension ds) is ≡ coords box ts long (map dimension ds) js →
          get_or is (packed_before ts d) 0 ≡ get_or js (packed_before ts d) 0
      same_at [] is js d t c h m = absurd (false≢true h)
      same_at (x ∷ ds) is js d t c h m = by (get_or ts x 0) refl (λ f k. same_at ds is js d t c f k) m
        where
          by : (s : ℕ) → get_or ts x 0 ≡ s →
              (has ds d ≡ true → coords box ts long (map dimension ds) is ≡ coords box ts long (map dimension ds) js → get_or is (packed_before ts d) 0 ≡ get_or js (packed_before ts d) 0) →
              with_inner s (get_or is (packed_before ts x) 0) (coords box ts long (map dimension ds) is) ≡ with_inner s (get_or js (packed_before ts x) 0) (coords box ts long (map dimension ds) js) →
              get_or is (packed_before ts d) 0 ≡ get_or js (packed_before ts d) 0
          by zero z rest m =
              ⊎_elim (λ q. absurd (let e : 0 ≡ suc t = sym z ∙ ap (λ k. get_or ts k 0) (eqb-true x d q) ∙ c in omega (arith, e)))
              (λ f. rest ((λ j. sym f j || has ds d) ∙ h) m) (cases_Bool (x == d))
          by (suc s) z rest m =
              ⊎_elim (λ q. let e : x ≡ d = eqb-true x d q in (λ j. get_or is (packed_before ts (sym e j)) 0) ∙ ap (λ l. get_or l 0 0) m ∙ (λ j. get_or js (packed_before ts (e j)) 0))
              (λ f. rest ((λ j. sym f j || has ds d) ∙ h) (ap (drop 1) m)) (cases_Bool (x == d))

      same_back : (p q : List ℕ) → Hit p → Hit q → back p ≡ back q
      same_back p q h k =
          let lp : length (back p) ≡ length (inner_box box ts) = box_length (inner_box box ts) (back p) (split p h.inside).back in
          let lq : length (back q) ≡ length (inner_box box ts) = box_length (inner_box box ts) (back q) (split q k.inside).back in
          lists_same 0 (back p) (back q) (lp ∙ sym lq)
          (λ n l. let c : CutAt box ts n = cut_at box ts n (omega (arith, lp)) in
          (λ j. get_or (back p) (sym c.at j) 0)
          ∙ same_at ds (back p) (back q) c.d c.size c.cut (only c.d c.is (λ z. absurd (let e : 0 ≡ suc c.size = sym z ∙ c.cut in omega (arith, e)))) (h.inner ∙ sym k.inner)
          ∙ (λ j. get_or (back q) (c.at j) 0))

      pub in_order : kept ≡ hits
      in_order =
          sorted_same kept hits
          (map_sorted whole (filter is_whole new_hits)
          (λ p q i j b.
          let h : Hit p = (hit_in p i).0 in
          let k : Hit q = (hit_in q j).0 in
          let sp : Split (outer_box box ts) (inner_box box ts) p = split p h.inside in
          let sq : Split (outer_box box ts) (inner_box box ts) q = split q k.inside in
          let one : Before (front p ++ back p) (front q ++ back p) = subst (λ z. Before (front p ++ back p) (front q ++ z)) (sym (same_back p q h k)) (subst (λ z. Before z (front q ++ back q)) (sym (joined_again p)) (subst (Before p) (sym (joined_again q)) b)) in
          subst (λ z. Before (whole p) (merged (front q) z ts)) (same_back p q h k)
          (before_merged box (front p) (front q) (back p) ts sp.front sq.front sp.back
          (before_front (front p) (front q) (back p) (box_length (outer_box box ts) (front p) sp.front ∙ sym (box_length (outer_box box ts) (front q) sq.front)) one))) new_sorted)
          old_sorted to from
