-- Outputs whose maps select dimensions.
use Rattle.std.proofs.Common.{◌≡◌, ℕ, zero, suc, ◌+◌, ◌-◌, ◌*◌, ◌<◌, ◌≤◌, ◌||◌, eqb, pos, ◌+ℤ◌, ◌*ℤ◌, Bool, true, false, ◌&&◌, List, [], ◌∷◌, map, length, get_or, refl, sym, ◌∙◌, subst, arith, ⊎_elim}
use Rattle.std.specs.Prelude.{if◌then◌else◌}
use Rattle.std.proofs.lemmas.Bool.{eqb-true, false≢true, and_parts, cases_Bool}
use Rattle.affine_maps.specs.Map.{dimension}
use Rattle.affine_maps.specs.Value.{value_at}
use Rattle.mlir_meaning.specs.Grids.{plus, lies_in, InBox, Fits, Each}
use Rattle.mlir_meaning.specs.Points.{to_nat, map_point, select_map, has}
use Rattle.mlir_meaning.proofs.Grids.{each_more}
use Rattle.point_laws.specs.Tiles.{tile_offsets, tile_sizes, is_cut, Cut}
use Rattle.region_laws.specs.Regions.{Window, Windows, WritesApart}
use Rattle.region_laws.specs.Operands.{names_cut, axis_inner, offsets_of, sizes_of, inner_map, CutsOutput}
use Rattle.point_laws.specs.Boxes.{picks}
use Rattle.point_laws.proofs.Lists.{or_false, both_ways}
use Rattle.point_laws.proofs.Windows.{tested, tested_in}
use Rattle.point_laws.proofs.Ragged.{tile_fits, lies_in_tile}
use Rattle.point_laws.proofs.Tables.{get_or-pos, get_or-plus, get_or-in, fits_length}
use Rattle.point_laws.proofs.Cuts.{tile_cut}

-- WHAT THE OUTPUT'S MAP SELECTS
pub selected_is : (dims : ℕ) (ds p : List ℕ) → map_point (select_map dims ds) p ≡ picks ds p
selected_is dims [] p = refl
selected_is dims (d ∷ ds) p =
    let e : 0 + (1 * get_or p d 0 + 0) ≡ get_or p d 0 = omega arith in
    λ j. ((λ k. to_nat (pos 0 +ℤ ((pos 1 *ℤ get_or-pos p d k) +ℤ pos 0))) ∙ e) j ∷ selected_is dims ds p j

either_zero : (b : Bool) → (if b then pos 0 else pos 0) ≡ pos 0
either_zero true = refl
either_zero false = refl

pub inner_selected : (cut : ℕ → Bool) (dims : ℕ) (ds : List ℕ) → inner_map cut (select_map dims ds) ≡ select_map dims ds
inner_selected cut dims ds = λ j. record { dims = dims; results = all ds j }
  where
    all : (ds : List ℕ) → map (axis_inner cut) (map dimension ds) ≡ map dimension ds
    all [] = refl
    all (d ∷ ds) = λ j. record { constant = either_zero (names_cut cut (dimension d).terms) j; terms = (dimension d).terms } ∷ all ds j

module _ (cut : ℕ → Bool) (box os ns : List ℕ) (c : Cut cut box os ns) where
  one_offset : (d : ℕ) (b : Bool) → (cut d || false) ≡ b → (if b then to_nat (value_at (dimension d) (map pos os)) else 0) ≡ get_or os d 0
  one_offset d true h =
      let e : 0 + (1 * get_or os d 0 + 0) ≡ get_or os d 0 = omega arith in (λ k. to_nat (pos 0 +ℤ ((pos 1 *ℤ get_or-pos os d k) +ℤ pos 0))) ∙ e
  one_offset d false h = sym (c.still d (sym (or_false (cut d)) ∙ h)).0

  one_size : (d : ℕ) → d < length box → (b : Bool) → (cut d || false) ≡ b → (if b then (1 * (get_or ns d 0 - 1) + 0) + 1 else get_or box d 0) ≡ get_or ns d 0
  one_size d l true h = omega (arith, c.filled d (sym (or_false (cut d)) ∙ h) l)
  one_size d l false h = sym (c.still d (sym (or_false (cut d)) ∙ h)).1

  -- the offsets and the sizes of the output's slice
  pub output_offsets : (ds : List ℕ) → offsets_of cut os (map dimension ds) ≡ picks ds os
  output_offsets [] = refl
  output_offsets (d ∷ ds) = λ j. one_offset d (cut d || false) refl j ∷ output_offsets ds j

  pub output_sizes : (ds : List ℕ) → Each (λ d. d < length box) ds → sizes_of cut ns (map dimension ds) (picks ds box) ≡ picks ds ns
  output_sizes [] l = refl
  output_sizes (d ∷ ds) l = λ j. one_size d l.0 (cut d || false) refl j ∷ output_sizes ds l.1 j

-- THE OUTPUT'S REGION
fits_get : (es os ns : List ℕ) (d : ℕ) → Fits es os ns → get_or os d 0 + get_or ns d 0 ≤ get_or es d 0
fits_get [] [] [] d h = omega arith
fits_get (e ∷ es) (o ∷ os) (n ∷ ns) zero h = h.0
fits_get (e ∷ es) (o ∷ os) (n ∷ ns) (suc d) h = fits_get es os ns d h.1
fits_get [] (o ∷ os) ns d h = absurd h
fits_get [] [] (n ∷ ns) d h = absurd h
fits_get (e ∷ es) [] ns d h = absurd h
fits_get (e ∷ es) (o ∷ os) [] d h = absurd h

picks_fit : (es os ns ds : List ℕ) → Fits es os ns → Fits (picks ds es) (picks ds os) (picks ds ns)
picks_fit es os ns [] h = tt
picks_fit es os ns (d ∷ ds) h = (fits_get es os ns d h, picks_fit es os ns ds h)

pub picks_in : (ns p ds : List ℕ) → Each (λ d. d < length ns) ds → InBox ns p → InBox (picks ds ns) (picks ds p)
picks_in ns p [] h b = tt
picks_in ns p (d ∷ ds) h b = (get_or-in ns p d b h.0, picks_in ns p ds h.1 b)

picks-plus : (es os ns p ds : List ℕ) → Fits es os ns → InBox ns p → picks ds (plus p os) ≡ plus (picks ds p) (picks ds os)
picks-plus es os ns p [] h b = refl
picks-plus es os ns p (d ∷ ds) h b = λ j. get_or-plus es os ns p d h b j ∷ picks-plus es os ns p ds h b j

pub picks_window : (box ds : List ℕ) → Each (λ d. d < length box) ds → (os ns : List ℕ) → Fits box os ns → Window (picks ds) (picks ds) box (picks ds box) os ns (picks ds os) (picks ds ns)
picks_window box ds h os ns fits = record {
  fits = fits;
  out_fits = picks_fit box os ns ds fits;
  within = λ p b. picks_in ns p ds (each_more (λ d. d < length box) (λ d. d < length ns) (λ d l. omega (arith, fits_length box os ns fits)) ds h) b;
  moves = λ p b. picks-plus box os ns p ds fits b;
}

pub picks_windows : (box ts ds : List ℕ) → Each (λ d. d < length box) ds → Windows (picks ds) (picks ds) box (picks ds box) ts (λ q. picks ds (tile_offsets box ts q)) (λ q. picks ds (tile_sizes box ts q))
picks_windows box ts ds h q b = picks_window box ds h (tile_offsets box ts q) (tile_sizes box ts q) (tile_fits box ts q b)

-- EACH TILE WRITES ITS OWN PART, where the dimensions that are cut are the output's
lies_by : (es os ns p : List ℕ) → Fits es os ns → InBox es p → ((d : ℕ) → d < length es → tested (get_or os d 0) (get_or ns d 0) (get_or p d 0) ≡ true) → lies_in os ns p ≡ true
lies_by [] [] [] [] h b t = refl
lies_by (e ∷ es) (o ∷ os) (n ∷ ns) (i ∷ p) h b t = λ j. t 0 (omega arith) j && lies_by es os ns p h.1 b.1 (λ d l. t (suc d) (omega arith)) j
lies_by [] [] [] (i ∷ q) h b t = absurd b
lies_by (e ∷ es) (o ∷ os) (n ∷ ns) [] h b t = absurd b
lies_by [] (o ∷ os) ns q h b t = absurd h
lies_by [] [] (n ∷ ns) q h b t = absurd h
lies_by (e ∷ es) [] ns q h b t = absurd h
lies_by (e ∷ es) (o ∷ os) [] q h b t = absurd h

lies_at : (es os ns p : List ℕ) (d : ℕ) → Fits es os ns → InBox es p → d < length es → lies_in os ns p ≡ true → tested (get_or os d 0) (get_or ns d 0) (get_or p d 0) ≡ true
lies_at (e ∷ es) (o ∷ os) (n ∷ ns) (i ∷ p) zero h b l t = (and_parts (tested o n i) (lies_in os ns p) t).0
lies_at (e ∷ es) (o ∷ os) (n ∷ ns) (i ∷ p) (suc d) h b l t = lies_at es os ns p d h.1 b.1 (omega arith) (and_parts (tested o n i) (lies_in os ns p) t).1
lies_at [] os ns p d h b l t = absurd (omega arith)
lies_at (e ∷ es) os ns [] d h b l t = absurd b
lies_at (e ∷ es) [] ns p d h b l t = absurd h
lies_at (e ∷ es) (o ∷ os) [] p d h b l t = absurd h

all_picked : (ds os ns p : List ℕ) → Each (λ d. tested (get_or os d 0) (get_or ns d 0) (get_or p d 0) ≡ true) ds → lies_in (picks ds os) (picks ds ns) (picks ds p) ≡ true
all_picked [] os ns p h = refl
all_picked (d ∷ ds) os ns p h = λ j. h.0 j && all_picked ds os ns p h.1 j

picked : (ds os ns p : List ℕ) (d : ℕ) → lies_in (picks ds os) (picks ds ns) (picks ds p) ≡ true → has ds d ≡ true → tested (get_or os d 0) (get_or ns d 0) (get_or p d 0) ≡ true
picked [] os ns p d l h = absurd (false≢true h)
picked (x ∷ ds) os ns p d l h =
    let both : (tested (get_or os x 0) (get_or ns x 0) (get_or p x 0) ≡ true) × (lies_in (picks ds os) (picks ds ns) (picks ds p) ≡ true) = and_parts _ _ l in
    ⊎_elim (λ t. subst (λ k. tested (get_or os k 0) (get_or ns k 0) (get_or p k 0) ≡ true) (eqb-true x d t) both.0)
    (λ f. picked ds os ns p d both.1 ((λ j. sym f j || has ds d) ∙ h)) (cases_Bool (eqb x d))

pub picks_lies : (cut : ℕ → Bool) (box os ns : List ℕ) → Cut cut box os ns → (ds : List ℕ) → Each (λ d. d < length box) ds → CutsOutput cut box ds → (p : List ℕ) → InBox box p →
    lies_in (picks ds os) (picks ds ns) (picks ds p) ≡ lies_in os ns p
picks_lies cut box os ns c ds inside names p b =
    both_ways (lies_in (picks ds os) (picks ds ns) (picks ds p)) (lies_in os ns p)
    (λ h. lies_by box os ns p c.fits b (λ d l. ⊎_elim (λ t. picked ds os ns p d h (names d l t))
    (λ f. tested_in (get_or os d 0) (get_or ns d 0) (get_or p d 0) (omega (arith, (c.still d f).0)) (omega (arith, (c.still d f).0, (c.still d f).1, get_or-in box p d b l))) (cases_Bool (cut d))))
    (λ h. all_picked ds os ns p (each_more (λ d. d < length box) (λ d. tested (get_or os d 0) (get_or ns d 0) (get_or p d 0) ≡ true) (λ d l. lies_at box os ns p d c.fits b l h) ds inside))

pub picks_apart : (box ts ds : List ℕ) → Each (λ d. d < length box) ds → CutsOutput (is_cut ts) box ds →
    WritesApart (picks ds) box ts (λ q. picks ds (tile_offsets box ts q)) (λ q. picks ds (tile_sizes box ts q))
picks_apart box ts ds inside names q p b c =
    picks_lies (is_cut ts) box (tile_offsets box ts q) (tile_sizes box ts q) (tile_cut box ts q b) ds inside names p c ∙ lies_in_tile box ts p q c b
