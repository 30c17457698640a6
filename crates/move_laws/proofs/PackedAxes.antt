-- The axes of packed operands.
use Rattle.std.proofs.Common.{◌≡◌, ℕ, zero, suc, ◌+◌, ◌-◌, ◌*◌, ◌/◌, ◌%◌, ◌<◌, ◌≤◌, ℤ, pos, true, ◌||◌, List, [], ◌∷◌, ◌++◌, map, length, get_or, Option, Some, None, inl, inr, ⊎_elim, refl, ap, sym, ◌∙◌, subst, arith}
use Rattle.std.specs.List.{list_any}
use Rattle.std.specs.Option.{option_map_or}
use Rattle.std.proofs.Math.Nat.{div-eq_of_lt}
use Rattle.std.proofs.lemmas.Bool.{false≢true, cases_Bool}
use Rattle.std.proofs.lemmas.List.{get_or_append_left, get_or-append-add, length-append}
use Rattle.affine_maps.specs.Map.{dimension}
use Rattle.affine_maps.specs.Value.{value_at}
use Rattle.affine_maps.specs.declared.map.Expr.{Expr}
use Rattle.mlir_meaning.specs.Grids.{InBox, Each}
use Rattle.mlir_meaning.specs.Points.{to_nat, dimension_of, selects}
use Rattle.point_laws.specs.Tiles.{tile_count}
use Rattle.region_laws.specs.Operands.{reach, ArePlain, IsPlain, ReadsBy, ReadsAxis, ReadsAxes}
use Rattle.point_laws.specs.Boxes.{NoPoints}
use Rattle.region_laws.proofs.Operands.{weight, value_is}
use Rattle.move_laws.specs.Packs.{outers, inners, outer_box, inner_box, packed_box, merged, packed_before, axis_tile, axis_tiles, axis_place, with_inner, inner_axes, StaysBy, StaysAxis}
use Rattle.region_laws.proofs.Lone.{lone_parts, lone_value, selected_some}
use Rattle.point_laws.proofs.Tables.{box_length}
use Rattle.move_laws.proofs.Merged.{outer_length}

nonzero : {A : Type 0} (t : ℕ) → 0 ≡ suc t → A
nonzero t e = absurd (omega (arith, e))

nonsuc : {A : Type 0} (t : ℕ) → suc t ≡ 0 → A
nonsuc t e = absurd (omega (arith, e))

-- COORDINATES
pub merged_still : (o is ts : List ℕ) (d : ℕ) → get_or ts d 0 ≡ 0 → get_or (merged o is ts) d 0 ≡ get_or o d 0
merged_still [] is ts d h = refl
merged_still (x ∷ o) is [] zero h = refl
merged_still (x ∷ o) is [] (suc d) h = merged_still o is [] d refl
merged_still (x ∷ o) is (zero ∷ ts) zero h = refl
merged_still (x ∷ o) is (zero ∷ ts) (suc d) h = merged_still o is ts d h
merged_still (x ∷ o) [] (suc t ∷ ts) zero h = nonsuc t h
merged_still (x ∷ o) [] (suc t ∷ ts) (suc d) h = merged_still o [] ts d h
merged_still (x ∷ o) (i ∷ is) (suc t ∷ ts) zero h = nonsuc t h
merged_still (x ∷ o) (i ∷ is) (suc t ∷ ts) (suc d) h = merged_still o is ts d h

pub merged_cut : (es o is ts : List ℕ) (d t : ℕ) → InBox (outer_box es ts) o → InBox (inner_box es ts) is → d < length es → get_or ts d 0 ≡ suc t →
    get_or (merged o is ts) d 0 ≡ get_or o d 0 * suc t + get_or is (packed_before ts d) 0
merged_cut [] o is ts d t h k l e = absurd (omega arith)
merged_cut (n ∷ es) (x ∷ o) is [] d t h k l e = nonzero t e
merged_cut (n ∷ es) (x ∷ o) is (zero ∷ ts) zero t h k l e = nonzero t e
merged_cut (n ∷ es) (x ∷ o) is (zero ∷ ts) (suc d) t h k l e = merged_cut es o is ts d t h.1 k (omega arith) e
merged_cut (n ∷ es) (x ∷ o) (i ∷ is) (suc s ∷ ts) zero t h k l e = ap (λ m. x * m + i) e
merged_cut (n ∷ es) (x ∷ o) (i ∷ is) (suc s ∷ ts) (suc d) t h k l e = merged_cut es o is ts d t h.1 k.1 (omega arith) e
merged_cut (n ∷ es) [] is [] d t h k l e = absurd h
merged_cut (n ∷ es) [] is (zero ∷ ts) d t h k l e = absurd h
merged_cut (n ∷ es) [] is (suc s ∷ ts) d t h k l e = absurd h
merged_cut (n ∷ es) (x ∷ o) [] (suc s ∷ ts) d t h k l e = absurd k

pub inner_below : (es is ts : List ℕ) (d t : ℕ) → InBox (inner_box es ts) is → d < length es → get_or ts d 0 ≡ suc t → get_or is (packed_before ts d) 0 < suc t
inner_below [] is ts d t k l e = absurd (omega arith)
inner_below (n ∷ es) is [] d t k l e = nonzero t e
inner_below (n ∷ es) is (zero ∷ ts) zero t k l e = nonzero t e
inner_below (n ∷ es) is (zero ∷ ts) (suc d) t k l e = inner_below es is ts d t k (omega arith) e
inner_below (n ∷ es) (i ∷ is) (suc s ∷ ts) zero t k l e = omega (arith, k.0, e)
inner_below (n ∷ es) (i ∷ is) (suc s ∷ ts) (suc d) t k l e = inner_below es is ts d t k.1 (omega arith) e
inner_below (n ∷ es) [] (suc s ∷ ts) d t k l e = absurd k

pub outers_still : (p ts : List ℕ) (d : ℕ) → get_or ts d 0 ≡ 0 → get_or (outers p ts) d 0 ≡ get_or p d 0
outers_still [] ts d h = refl
outers_still (i ∷ p) [] zero h = refl
outers_still (i ∷ p) [] (suc d) h = outers_still p [] d refl
outers_still (i ∷ p) (zero ∷ ts) zero h = refl
outers_still (i ∷ p) (zero ∷ ts) (suc d) h = outers_still p ts d h
outers_still (i ∷ p) (suc t ∷ ts) zero h = nonsuc t h
outers_still (i ∷ p) (suc t ∷ ts) (suc d) h = outers_still p ts d h

pub outers_cut : (p ts : List ℕ) (d t : ℕ) → d < length p → get_or ts d 0 ≡ suc t → get_or (outers p ts) d 0 ≡ get_or p d 0 / suc t
outers_cut [] ts d t l e = absurd (omega arith)
outers_cut (i ∷ p) [] d t l e = nonzero t e
outers_cut (i ∷ p) (zero ∷ ts) zero t l e = nonzero t e
outers_cut (i ∷ p) (zero ∷ ts) (suc d) t l e = outers_cut p ts d t (omega arith) e
outers_cut (i ∷ p) (suc s ∷ ts) zero t l e = ap (λ m. i / m) e
outers_cut (i ∷ p) (suc s ∷ ts) (suc d) t l e = outers_cut p ts d t (omega arith) e

pub inners_cut : (p ts : List ℕ) (d t : ℕ) → d < length p → get_or ts d 0 ≡ suc t → get_or (inners p ts) (packed_before ts d) 0 ≡ get_or p d 0 % suc t
inners_cut [] ts d t l e = absurd (omega arith)
inners_cut (i ∷ p) [] d t l e = nonzero t e
inners_cut (i ∷ p) (zero ∷ ts) zero t l e = nonzero t e
inners_cut (i ∷ p) (zero ∷ ts) (suc d) t l e = inners_cut p ts d t (omega arith) e
inners_cut (i ∷ p) (suc s ∷ ts) zero t l e = ap (λ m. i % m) e
inners_cut (i ∷ p) (suc s ∷ ts) (suc d) t l e = inners_cut p ts d t (omega arith) e

pub outer_still : (es ts : List ℕ) (d : ℕ) → get_or ts d 0 ≡ 0 → get_or (outer_box es ts) d 0 ≡ get_or es d 0
outer_still [] ts d h = refl
outer_still (i ∷ p) [] zero h = refl
outer_still (i ∷ p) [] (suc d) h = outer_still p [] d refl
outer_still (i ∷ p) (zero ∷ ts) zero h = refl
outer_still (i ∷ p) (zero ∷ ts) (suc d) h = outer_still p ts d h
outer_still (i ∷ p) (suc t ∷ ts) zero h = nonsuc t h
outer_still (i ∷ p) (suc t ∷ ts) (suc d) h = outer_still p ts d h

pub outer_cut : (es ts : List ℕ) (d t : ℕ) → d < length es → get_or ts d 0 ≡ suc t → get_or (outer_box es ts) d 0 ≡ tile_count (get_or es d 0) (suc t)
outer_cut [] ts d t l e = absurd (omega arith)
outer_cut (i ∷ p) [] d t l e = nonzero t e
outer_cut (i ∷ p) (zero ∷ ts) zero t l e = nonzero t e
outer_cut (i ∷ p) (zero ∷ ts) (suc d) t l e = outer_cut p ts d t (omega arith) e
outer_cut (i ∷ p) (suc s ∷ ts) zero t l e = ap (tile_count i) e
outer_cut (i ∷ p) (suc s ∷ ts) (suc d) t l e = outer_cut p ts d t (omega arith) e

pub inner_cut : (es ts : List ℕ) (d t : ℕ) → d < length es → get_or ts d 0 ≡ suc t → (packed_before ts d < length (inner_box es ts)) × (get_or (inner_box es ts) (packed_before ts d) 0 ≡ suc t)
inner_cut [] ts d t l e = absurd (omega arith)
inner_cut (i ∷ p) [] d t l e = nonzero t e
inner_cut (i ∷ p) (zero ∷ ts) zero t l e = nonzero t e
inner_cut (i ∷ p) (zero ∷ ts) (suc d) t l e = inner_cut p ts d t (omega arith) e
inner_cut (i ∷ p) (suc s ∷ ts) zero t l e = (omega arith, e)
inner_cut (i ∷ p) (suc s ∷ ts) (suc d) t l e = let r = inner_cut p ts d t (omega arith) e in (omega (arith, r.0), r.1)

-- which dimension an inner one belongs to
pub record CutAt (es ts : List ℕ) (k : ℕ) : Type 0 where
  pub d : ℕ
  pub size : ℕ
  pub is : d < length es
  pub cut : get_or ts d 0 ≡ suc size
  pub at : packed_before ts d ≡ k

pub cut_at : (es ts : List ℕ) (k : ℕ) → k < length (inner_box es ts) → CutAt es ts k
cut_at [] ts k l = absurd (omega arith)
cut_at (e ∷ es) [] k l = let r : CutAt es [] k = cut_at es [] k l in nonzero r.size r.cut
cut_at (e ∷ es) (zero ∷ ts) k l = let r : CutAt es ts k = cut_at es ts k l in record { d = suc r.d; size = r.size; is = omega (arith, r.is); cut = r.cut; at = r.at }
cut_at (e ∷ es) (suc t ∷ ts) zero l = record { d = 0; size = t; is = omega arith; cut = refl; at = refl }
cut_at (e ∷ es) (suc t ∷ ts) (suc k) l =
    let r : CutAt es ts k = cut_at es ts k (omega arith) in record { d = suc r.d; size = r.size; is = omega (arith, r.is); cut = r.cut; at = ap suc r.at }

-- what leaves the box in a dimension leaves each operand that has it
pub past_reads : (box : List ℕ) (es : List Expr) (xs p : List ℕ) (d : ℕ) → ReadsAxes box es xs → get_or box d 0 ≤ get_or p d 0 → list_any (selects d) es ≡ true →
    InBox xs (map to_nat (map (λ e. value_at e (map pos p)) es)) → ⊥
past_reads box [] [] p d h l t b = false≢true t
past_reads box (e ∷ es) (x ∷ xs) p d h l t b =
    ⊎_elim (λ s. let is_d = selected_some (dimension_of e) d s in
    let k : (d < length box) × (x ≡ get_or box d 0) = subst (ReadsBy box e x) is_d h.0 in absurd (omega (arith, b.0, k.1, l, lone_value e d p is_d)))
    (λ f. past_reads box es xs p d h.1 l ((λ j. sym f j || list_any (selects d) es) ∙ t) b.1) (cases_Bool (selects d e))
past_reads box [] (x ∷ xs) p d h l t b = absurd h
past_reads box (e ∷ es) [] p d h l t b = absurd h

module _ (box ts : List ℕ) (long : length ts ≡ length box) where
  abbrev pub places : List Expr → List ℕ → List ℕ
  places es p = map to_nat (map (λ e. value_at e (map pos p)) es)

  -- the inner coordinates of an operand's packed axes
  abbrev pub coords : List Expr → List ℕ → List ℕ
  coords [] is = []
  coords (e ∷ es) is = with_inner (axis_tile ts e) (get_or is (axis_place ts e) 0) (coords es is)

  tile_of_lone : (e : Expr) (d : ℕ) → dimension_of e ≡ Some d → axis_tile ts e ≡ get_or ts d 0
  tile_of_lone e d h = ap (λ q. option_map_or (λ k. get_or ts k 0) q 0) h

  tile_of_none : (e : Expr) → dimension_of e ≡ None → axis_tile ts e ≡ 0
  tile_of_none e h = ap (λ q. option_map_or (λ k. get_or ts k 0) q 0) h

  place_of_lone : (e : Expr) (d : ℕ) → dimension_of e ≡ Some d → axis_place ts e ≡ packed_before ts d
  place_of_lone e d h = ap (λ q. option_map_or (packed_before ts) q 0) h

  lone_below : (e : Expr) (d : ℕ) → dimension_of e ≡ Some d → IsPlain (length box) e → d < length box
  lone_below e d h plain = (subst (ArePlain (length box)) (lone_parts e d h).1 plain.1).0.1

  -- a packed axis is one dimension alone
  record PackedAxis (e : Expr) (t : ℕ) : Type 0 where
    d : ℕ
    lone : dimension_of e ≡ Some d
    below : d < length box
    cut : get_or ts d 0 ≡ suc t
    at : axis_place ts e ≡ packed_before ts d

  packed_axis : (e : Expr) (t : ℕ) → IsPlain (length box) e → axis_tile ts e ≡ suc t → PackedAxis e t
  packed_axis e t plain h = by (dimension_of e) refl
    where
      by : (q : Option ℕ) → dimension_of e ≡ q → PackedAxis e t
      by None r = nonzero t (sym (tile_of_none e r) ∙ h)
      by (Some d) r = record { d = d; lone = r; below = lone_below e d r plain; cut = sym (tile_of_lone e d r) ∙ h; at = place_of_lone e d r }

  -- VALUES
  module _ (o is : List ℕ) (ho : InBox (outer_box box ts) o) (hi : InBox (inner_box box ts) is) where
    weight_still : (terms : List (ℕ × ℤ)) → Each (λ (t : ℕ × ℤ). get_or ts t.0 0 ≡ 0) terms → weight terms (merged o is ts) ≡ weight terms o
    weight_still [] h = refl
    weight_still (t ∷ terms) h = λ j. to_nat t.1 * merged_still o is ts t.0 h.0 j + weight_still terms h.1 j

    value_still : (e : Expr) → IsPlain (length box) e → StaysAxis ts e → axis_tile ts e ≡ 0 → to_nat (value_at e (map pos (merged o is ts))) ≡ to_nat (value_at e (map pos o))
    value_still e plain stays h = by (dimension_of e) refl stays
      where
        by : (q : Option ℕ) → dimension_of e ≡ q → StaysBy ts e q → to_nat (value_at e (map pos (merged o is ts))) ≡ to_nat (value_at e (map pos o))
        by (Some d) r s = lone_value e d (merged o is ts) r ∙ merged_still o is ts d (sym (tile_of_lone e d r) ∙ h) ∙ sym (lone_value e d o r)
        by None r s = value_is (length box) e (merged o is ts) plain ∙ ap (λ n. to_nat e.constant + n) (weight_still e.terms s) ∙ sym (value_is (length box) e o plain)

    value_cut : (e : Expr) (t : ℕ) → IsPlain (length box) e → axis_tile ts e ≡ suc t →
        to_nat (value_at e (map pos (merged o is ts))) ≡ to_nat (value_at e (map pos o)) * suc t + get_or is (axis_place ts e) 0
    value_cut e t plain h =
        let a : PackedAxis e t = packed_axis e t plain h in
        lone_value e a.d (merged o is ts) a.lone ∙ merged_cut box o is ts a.d t ho hi a.below a.cut
        ∙ (λ j. sym (lone_value e a.d o a.lone) j * suc t + get_or is (sym a.at j) 0)

    -- the operand's point of the whole point
    pub places_merged : (es : List Expr) → Each (IsPlain (length box)) es → Each (StaysAxis ts) es → places es (merged o is ts) ≡ merged (places es o) (coords es is) (axis_tiles ts es)
    places_merged [] plain stays = refl
    places_merged (e ∷ es) plain stays = by (axis_tile ts e) refl (places_merged es plain.1 stays.1)
      where
        by : (t : ℕ) → axis_tile ts e ≡ t → places es (merged o is ts) ≡ merged (places es o) (coords es is) (axis_tiles ts es) →
            places (e ∷ es) (merged o is ts) ≡ merged (places (e ∷ es) o) (with_inner t (get_or is (axis_place ts e) 0) (coords es is)) (t ∷ axis_tiles ts es)
        by zero h rest = λ j. value_still e plain.0 stays.0 h j ∷ rest j
        by (suc t) h rest = λ j. value_cut e t plain.0 h j ∷ rest j

    pub coords_in : (es : List Expr) (xs : List ℕ) → length es ≡ length xs → Each (IsPlain (length box)) es → InBox (inner_box xs (axis_tiles ts es)) (coords es is)
    coords_in [] [] l plain = tt
    coords_in (e ∷ es) (x ∷ xs) l plain = by (axis_tile ts e) refl (coords_in es xs (omega arith) plain.1)
      where
        by : (t : ℕ) → axis_tile ts e ≡ t → InBox (inner_box xs (axis_tiles ts es)) (coords es is) →
            InBox (inner_box (x ∷ xs) (t ∷ axis_tiles ts es)) (with_inner t (get_or is (axis_place ts e) 0) (coords es is))
        by zero h rest = rest
        by (suc t) h rest = let a : PackedAxis e t = packed_axis e t plain.0 h in (subst (λ k. get_or is k 0 < suc t) (sym a.at) (inner_below box is ts a.d t hi a.below a.cut), rest)
    coords_in [] (x ∷ xs) l plain = absurd (omega arith)
    coords_in (e ∷ es) [] l plain = absurd (omega arith)

    -- the point of the new map
    o_long : length o ≡ length box
    o_long = box_length (outer_box box ts) o ho ∙ outer_length box ts

    weight_front : (terms : List (ℕ × ℤ)) → ArePlain (length box) terms → weight terms (o ++ is) ≡ weight terms o
    weight_front [] h = refl
    weight_front (t ∷ terms) h = λ j. to_nat t.1 * get_or_append_left o is 0 t.0 (omega (arith, h.0.1, o_long)) j + weight_front terms h.1 j

    value_front : (e : Expr) → IsPlain (length box) e → to_nat (value_at e (map pos (o ++ is))) ≡ to_nat (value_at e (map pos o))
    value_front e plain = value_is (length box) e (o ++ is) plain ∙ ap (λ n. to_nat e.constant + n) (weight_front e.terms plain.1) ∙ sym (value_is (length box) e o plain)

    inner_value : (k : ℕ) → to_nat (value_at (dimension (length ts + k)) (map pos (o ++ is))) ≡ get_or is k 0
    inner_value k =
        lone_value (dimension (length ts + k)) (length ts + k) (o ++ is) refl ∙ (λ j. get_or (o ++ is) ((long ∙ sym o_long) j + k) 0) ∙ get_or-append-add o is k 0

    inner_places : (es : List Expr) → places (inner_axes (length ts) ts es) (o ++ is) ≡ coords es is
    inner_places [] = refl
    inner_places (e ∷ es) = by (axis_tile ts e) (inner_places es)
      where
        by : (t : ℕ) → places (inner_axes (length ts) ts es) (o ++ is) ≡ coords es is →
            places (with_inner t (dimension (length ts + axis_place ts e)) (inner_axes (length ts) ts es)) (o ++ is) ≡ with_inner t (get_or is (axis_place ts e) 0) (coords es is)
        by zero rest = rest
        by (suc t) rest = λ j. inner_value (axis_place ts e) j ∷ rest j

    pub front_places : (es : List Expr) → Each (IsPlain (length box)) es → places es (o ++ is) ≡ places es o
    front_places [] plain = refl
    front_places (e ∷ es) plain = λ j. value_front e plain.0 j ∷ front_places es plain.1 j

    pub new_places : (es : List Expr) → Each (IsPlain (length box)) es → places (es ++ inner_axes (length ts) ts es) (o ++ is) ≡ places es o ++ coords es is
    new_places es plain = go es (inner_axes (length ts) ts es) ∙ (λ j. front_places es plain j ++ inner_places es j)
      where
        go : (es fs : List Expr) → places (es ++ fs) (o ++ is) ≡ places es (o ++ is) ++ places fs (o ++ is)
        go [] fs = refl
        go (e ∷ es) fs = ap (λ l. to_nat (value_at e (map pos (o ++ is))) ∷ l) (go es fs)

  -- WHAT THE NEW OPERATION READS
  abbrev pub new_box : List ℕ
  new_box = packed_box box ts

  front_is : (d : ℕ) → d < length box → get_or new_box d 0 ≡ get_or (outer_box box ts) d 0
  front_is d l = get_or_append_left (outer_box box ts) (inner_box box ts) 0 d (omega (arith, outer_length box ts))

  back_is : (k : ℕ) → get_or new_box (length ts + k) 0 ≡ get_or (inner_box box ts) k 0
  back_is k = (λ j. get_or new_box ((long ∙ sym (outer_length box ts)) j + k) 0) ∙ get_or-append-add (outer_box box ts) (inner_box box ts) k 0

  pub new_length : length new_box ≡ length ts + length (inner_box box ts)
  new_length = omega (arith, length-append (outer_box box ts) (inner_box box ts), outer_length box ts, long)

  reach_still : (terms : List (ℕ × ℤ)) → ArePlain (length box) terms → Each (λ (t : ℕ × ℤ). get_or ts t.0 0 ≡ 0) terms → reach terms new_box ≡ reach terms box
  reach_still [] p h = refl
  reach_still (t ∷ terms) p h = λ j. to_nat t.1 * ((front_is t.0 p.0.1 ∙ outer_still box ts t.0 h.0) j - 1) + reach_still terms p.1 h.1 j

  no_points : NoPoints box → NoPoints new_box
  no_points n = (n.0, omega (arith, n.1, new_length, long), front_is n.0 n.1 ∙ by (get_or ts n.0 0) refl)
    where
      by : (t : ℕ) → get_or ts n.0 0 ≡ t → get_or (outer_box box ts) n.0 0 ≡ 0
      by zero h = outer_still box ts n.0 h ∙ n.2
      by (suc t) h = outer_cut box ts n.0 t n.1 h ∙ ap (λ x. tile_count x (suc t)) n.2 ∙ div-eq_of_lt {n = 0 + (suc t - 1)} {m = suc t} (omega arith)

  axis_still : (e : Expr) (x : ℕ) → IsPlain (length box) e → StaysAxis ts e → ReadsAxis box e x → axis_tile ts e ≡ 0 → ReadsAxis new_box e x
  axis_still e x plain stays reads h = by (dimension_of e) refl stays reads
    where
      by : (q : Option ℕ) → dimension_of e ≡ q → StaysBy ts e q → ReadsBy box e x q → ReadsBy new_box e x q
      by (Some d) r s k = (omega (arith, k.0, new_length, long), k.1 ∙ sym (front_is d k.0 ∙ outer_still box ts d (sym (tile_of_lone e d r) ∙ h)))
      by None r s k = ⊎_elim (λ (l : to_nat e.constant + reach e.terms box < x). inl (omega (arith, reach_still e.terms plain.1 s))) (λ l. inr (no_points l)) k

  axis_cut : (e : Expr) (x t : ℕ) → IsPlain (length box) e → ReadsAxis box e x → axis_tile ts e ≡ suc t → ReadsAxis new_box e (tile_count x (suc t))
  axis_cut e x t plain reads h =
      let a : PackedAxis e t = packed_axis e t plain h in
      let k : (a.d < length box) × (x ≡ get_or box a.d 0) = subst (ReadsBy box e x) a.lone reads in
      subst (ReadsBy new_box e (tile_count x (suc t))) (sym a.lone)
      (omega (arith, k.0, new_length, long), ap (λ n. tile_count n (suc t)) k.1 ∙ sym (front_is a.d a.below ∙ outer_cut box ts a.d t a.below a.cut))

  pub reads_outer : (es : List Expr) (xs : List ℕ) → Each (IsPlain (length box)) es → Each (StaysAxis ts) es → ReadsAxes box es xs → ReadsAxes new_box es (outer_box xs (axis_tiles ts es))
  reads_outer [] [] plain stays h = tt
  reads_outer (e ∷ es) (x ∷ xs) plain stays h = by (axis_tile ts e) refl (reads_outer es xs plain.1 stays.1 h.1)
    where
      by : (t : ℕ) → axis_tile ts e ≡ t → ReadsAxes new_box es (outer_box xs (axis_tiles ts es)) → ReadsAxes new_box (e ∷ es) (outer_box (x ∷ xs) (t ∷ axis_tiles ts es))
      by zero k rest = (axis_still e x plain.0 stays.0 h.0 k, rest)
      by (suc t) k rest = (axis_cut e x t plain.0 h.0 k, rest)
  reads_outer [] (x ∷ xs) plain stays h = absurd h
  reads_outer (e ∷ es) [] plain stays h = absurd h

  pub reads_inner : (es : List Expr) (xs : List ℕ) → Each (IsPlain (length box)) es → ReadsAxes box es xs → ReadsAxes new_box (inner_axes (length ts) ts es) (inner_box xs (axis_tiles ts es))
  reads_inner [] [] plain h = tt
  reads_inner (e ∷ es) (x ∷ xs) plain h = by (axis_tile ts e) refl (reads_inner es xs plain.1 h.1)
    where
      by : (t : ℕ) → axis_tile ts e ≡ t → ReadsAxes new_box (inner_axes (length ts) ts es) (inner_box xs (axis_tiles ts es)) →
          ReadsAxes new_box (with_inner t (dimension (length ts + axis_place ts e)) (inner_axes (length ts) ts es)) (inner_box (x ∷ xs) (t ∷ axis_tiles ts es))
      by zero k rest = rest
      by (suc t) k rest =
          let a : PackedAxis e t = packed_axis e t plain.0 k in
          let c = inner_cut box ts a.d t a.below a.cut in
          ((omega (arith, c.0, a.at, new_length), sym (back_is (axis_place ts e) ∙ ap (λ k. get_or (inner_box box ts) k 0) a.at ∙ c.1)), rest)
  reads_inner [] (x ∷ xs) plain h = absurd h
  reads_inner (e ∷ es) [] plain h = absurd h

  pub plain_outer : (es : List Expr) → Each (IsPlain (length box)) es → Each (IsPlain (length new_box)) es
  plain_outer [] h = tt
  plain_outer (e ∷ es) h = ((h.0.0, terms e.terms h.0.1), plain_outer es h.1)
    where
      terms : (ts' : List (ℕ × ℤ)) → ArePlain (length box) ts' → ArePlain (length new_box) ts'
      terms [] h = tt
      terms (t ∷ ts') h = ((h.0.0, omega (arith, h.0.1, new_length, long)), terms ts' h.1)

  pub plain_inner : (es : List Expr) → Each (IsPlain (length box)) es → Each (IsPlain (length new_box)) (inner_axes (length ts) ts es)
  plain_inner [] h = tt
  plain_inner (e ∷ es) h = by (axis_tile ts e) refl (plain_inner es h.1)
    where
      by : (t : ℕ) → axis_tile ts e ≡ t → Each (IsPlain (length new_box)) (inner_axes (length ts) ts es) → Each (IsPlain (length new_box)) (with_inner t (dimension (length ts + axis_place ts e)) (inner_axes (length ts) ts es))
      by zero k rest = rest
      by (suc t) k rest =
          let a : PackedAxis e t = packed_axis e t h.0 k in ((refl, ((refl, omega (arith, (inner_cut box ts a.d t a.below a.cut).0, a.at, new_length)), tt)), rest)

pub reads_append : (box : List ℕ) (es fs : List Expr) (xs ys : List ℕ) → ReadsAxes box es xs → ReadsAxes box fs ys → ReadsAxes box (es ++ fs) (xs ++ ys)
reads_append box [] fs [] ys h k = k
reads_append box (e ∷ es) fs (x ∷ xs) ys h k = (h.0, reads_append box es fs xs ys h.1 k)
reads_append box [] fs (x ∷ xs) ys h k = absurd h
reads_append box (e ∷ es) fs [] ys h k = absurd h

pub reads_length : (box : List ℕ) (es : List Expr) (xs : List ℕ) → ReadsAxes box es xs → length es ≡ length xs
reads_length box [] [] h = refl
reads_length box (e ∷ es) (x ∷ xs) h = ap suc (reads_length box es xs h.1)
reads_length box [] (x ∷ xs) h = absurd h
reads_length box (e ∷ es) [] h = absurd h
