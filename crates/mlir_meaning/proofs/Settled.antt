-- Tables that may trap: either all elements are there, or one is a trap.
use Rattle.std.proofs.Common.{◌≡◌, ℕ, ◌<◌, List, [], ◌∷◌, map, length, get_or, Option, Some, None, ◌⊎◌, inl, inr, ⊎_elim, refl, ap, sym, ◌∙◌, arith}
use Rattle.std.specs.Prelude.{option_map, option_and_then, if◌then◌else◌}
use Rattle.std.proofs.lemmas.Bool.{cases_Bool}
use Rattle.std.proofs.lemmas.List.{length-map, get_or-map}
use Rattle.std.proofs.lemmas.Option.{none-some, same_Some}
use Rattle.mlir_ir.specs.Shape.{volume}
use Rattle.mlir_meaning.specs.Grids.{Grid, points, place, at, plus, minus, lies_in, all_some, settled, IsFull, InBox, Fits, Each}
use Rattle.mlir_meaning.specs.Moves.{insert_into}
use Rattle.mlir_meaning.proofs.Grids.{points_length, place_lt, point_at, each_point, at-inside, settled_some}
use Rattle.mlir_meaning.proofs.Regions.{MovedIn, moved_in, moved_back}

-- either all values are there, or one is not
abbrev Made : {X : Type 0} → (X → Type 0) → (X → Option ℕ) → List X → Option (List ℕ) → Type 0
Made {X} P h xs None = (x : X) × P x × (h x ≡ None)
Made P h xs (Some cs) = map h xs ≡ map (λ c. Some c) cs

made_more : {X : Type 0} (P : X → Type 0) (h : X → Option ℕ) (x : X) (xs : List X) → P x → (o : Option ℕ) (r : Option (List ℕ)) → h x ≡ o → Made P h xs r →
    Made P h (x ∷ xs) (option_and_then (λ a. option_map (λ rest. a ∷ rest) r) o)
made_more P h x xs p None r e m = (x, p, e)
made_more P h x xs p (Some a) None e m = m
made_more P h x xs p (Some a) (Some cs) e m = λ j. e j ∷ m j

made_all : {X : Type 0} (P : X → Type 0) (h : X → Option ℕ) (xs : List X) → Each P xs → Made P h xs (all_some (map h xs))
made_all P h [] each = refl
made_all P h (x ∷ xs) each = made_more P h x xs each.0 (h x) (all_some (map h xs)) refl (made_all P h xs each.1)

pub record HasCells (es : List ℕ) (h : List ℕ → Option ℕ) : Type 0 where
  pub cells : List ℕ
  pub full : length cells ≡ volume es
  pub settles : settled es h ≡ Some (record { extents = es; cells = cells })
  pub reads : (p : List ℕ) → InBox es p → h p ≡ Some (at (record { extents = es; cells = cells }) p)

pub record HasTrap (es : List ℕ) (h : List ℕ → Option ℕ) : Type 0 where
  pub traps : settled es h ≡ None
  pub point : List ℕ
  pub inside : InBox es point
  pub missing : h point ≡ None

view_of : (es : List ℕ) (h : List ℕ → Option ℕ) (r : Option (List ℕ)) → all_some (map h (points es)) ≡ r → Made (InBox es) h (points es) r → HasCells es h ⊎ HasTrap es h
view_of es h None e m =
    inr (record { traps = ap (λ o. option_map (λ cells. record { extents = es; cells = cells }) o) e; point = m.0; inside = m.1; missing = m.2 })
view_of es h (Some cs) e m = inl (record {
  cells = cs;
  full = sym (length-map cs (λ c. Some c)) ∙ ap length (sym m) ∙ length-map (points es) h ∙ points_length es;
  settles = ap (λ o. option_map (λ cells. record { extents = es; cells = cells }) o) e;
  reads = λ p b.
      let long : length (points es) ≡ length cs = sym (length-map (points es) h) ∙ ap length m ∙ length-map cs (λ c. Some c) in
      let lt : place es p < volume es = place_lt es p b in
      let size : length (points es) ≡ volume es = points_length es in
      sym (get_or-map h (points es) (place es p) [] None (omega arith) ∙ ap h (point_at es p b))
      ∙ ap (λ xs. get_or xs (place es p) None) m ∙ get_or-map (λ c. Some c) cs (place es p) 0 None (omega arith)
      ∙ ap (λ c. Some c) (sym (at-inside (record { extents = es; cells = cs }) p b));
})

pub view : (es : List ℕ) (h : List ℕ → Option ℕ) → HasCells es h ⊎ HasTrap es h
view es h = view_of es h _ refl (made_all (InBox es) h (points es) (each_point es))

-- a table that is there has one cell for each point
pub settled_full : (es : List ℕ) (h : List ℕ → Option ℕ) (cs : List ℕ) → settled es h ≡ Some (record { extents = es; cells = cs }) → IsFull (record { extents = es; cells = cs })
settled_full es h cs e =
    ⊎_elim (λ (c : HasCells es h). ap (λ (g : Grid). length g.cells) (same_Some (record { extents = es; cells = cs }) (record { extents = es; cells = c.cells }) (sym e ∙ c.settles)) ∙ c.full)
    (λ (t : HasTrap es h). absurd (none-some _ (sym t.traps ∙ e))) (view es h)

-- a trap at one point is a trap of the whole
pub settled_none : (es : List ℕ) (h : List ℕ → Option ℕ) (p : List ℕ) → InBox es p → h p ≡ None → settled es h ≡ None
settled_none es h p b e = ⊎_elim (λ (c : HasCells es h). absurd (none-some _ (sym e ∙ c.reads p b))) (λ (t : HasTrap es h). t.traps) (view es h)

-- what follows from the cells of a table that is there
pub settled_then : (es : List ℕ) (h m : List ℕ → Option ℕ) (rest : Grid → Option Grid) →
    ((p : List ℕ) → InBox es p → h p ≡ None → m p ≡ None) →
    ((cs : List ℕ) → ((p : List ℕ) → InBox es p → h p ≡ Some (at (record { extents = es; cells = cs }) p)) → rest (record { extents = es; cells = cs }) ≡ settled es m) →
    option_and_then rest (settled es h) ≡ settled es m
settled_then es h m rest traps goes =
    ⊎_elim (λ (c : HasCells es h). ap (option_and_then rest) c.settles ∙ goes c.cells c.reads)
    (λ (t : HasTrap es h). ap (option_and_then rest) t.traps ∙ sym (settled_none es m t.point t.inside (traps t.point t.inside t.missing))) (view es h)

-- an insertion of a table that may trap
module _ (g : Grid) (os ns : List ℕ) (fits : Fits g.extents os ns) (h : List ℕ → Option ℕ) where
  abbrev pub placed : List ℕ → Option ℕ
  placed p = if lies_in os ns p then h (minus p os) else Some (at g p)

  pub inserted_cells : option_map (λ t. insert_into t os g) (settled ns h) ≡ settled g.extents placed
  unfolding insert_into
  inserted_cells =
      ⊎_elim
      (λ (c : HasCells ns h).
      let tile : Grid = record { extents = ns; cells = c.cells } in
      ap (option_map (λ t. insert_into t os g)) c.settles
      ∙ sym (settled_some g.extents placed (λ p. if lies_in os ns p then at tile (minus p os) else at g p)
      (λ p b. ⊎_elim
      (λ t. (λ j. if t j then h (minus p os) else Some (at g p)) ∙ c.reads (minus p os) (moved_back g.extents os ns p fits b t).inside ∙ (λ j. Some (if sym t j then at tile (minus p os) else at g p)))
      (λ t. (λ j. if t j then h (minus p os) else Some (at g p)) ∙ (λ j. Some (if sym t j then at tile (minus p os) else at g p)))
      (cases_Bool (lies_in os ns p)))))
      (λ (t : HasTrap ns h).
      let m : MovedIn g.extents os ns t.point = moved_in g.extents os ns t.point fits t.inside in
      ap (option_map (λ x. insert_into x os g)) t.traps
      ∙ sym (settled_none g.extents placed (plus t.point os) m.inside ((λ j. if m.lies j then h (minus (plus t.point os) os) else Some (at g (plus t.point os))) ∙ ap h m.back ∙ t.missing)))
      (view ns h)
