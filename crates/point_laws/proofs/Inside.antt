-- The points of a box among those of a box that holds it, and folds of which the other points change nothing.
use Rattle.std.proofs.Common.{◌≡◌, ℕ, suc, ◌+◌, nat_lt, Bool, true, false, ◌&&◌, cond, List, [], ◌∷◌, map, fold, filter, length, Option, Some, None, ⊎_elim, refl, ap, sym, ◌∙◌, arith, zero, ◌<◌, ◌≤◌, get_or}
use Rattle.std.specs.Prelude.{option_and_then}
use Rattle.std.proofs.lemmas.Bool.{lt-ltb, true≢false, cases_lt}
use Rattle.std.proofs.lemmas.List.Folds.{fold_stays}
use Rattle.mlir_meaning.specs.Grids.{points, plus, is_inside, lies_in, same_point, InBox, Fits, Each}
use Rattle.mlir_meaning.specs.Structured.{fold_points}
use Rattle.mlir_meaning.proofs.Grids.{each_more, each_point}
use Rattle.point_laws.proofs.Lists.{filter-same, filter-and, filter-turn, each-filter, each-passes, each-and}
use Rattle.point_laws.proofs.Windows.{points_in_window}
use Rattle.point_laws.specs.Boxes.{Grows, zeros}
use Rattle.std.proofs.lemmas.Option.{none-some}
use Rattle.point_laws.specs.Folds.{AgreesInside}

-- BOXES
pub grow_in : (es ns p : List ℕ) → Grows es ns → InBox es p → InBox ns p
grow_in [] [] [] g h = tt
grow_in (e ∷ es) (n ∷ ns) (i ∷ p) g h = (omega (arith, g.0, h.0), grow_in es ns p g.1 h.1)
grow_in [] [] (i ∷ p) g h = absurd h
grow_in (e ∷ es) (n ∷ ns) [] g h = absurd h
grow_in [] (n ∷ ns) p g h = absurd g
grow_in (e ∷ es) [] p g h = absurd g

pub grow_length : (es ns : List ℕ) → Grows es ns → length ns ≡ length es
grow_length [] [] g = refl
grow_length (e ∷ es) (n ∷ ns) g = ap suc (grow_length es ns g.1)
grow_length [] (n ∷ ns) g = absurd g
grow_length (e ∷ es) [] g = absurd g

pub plus-zeros : (es p : List ℕ) → plus p (zeros es) ≡ p
plus-zeros es [] = refl
plus-zeros [] (i ∷ p) = refl
plus-zeros (e ∷ es) (i ∷ p) = let z : i + 0 ≡ i = omega arith in λ j. z j ∷ plus-zeros es p j

fits_zero : (es ns : List ℕ) → Grows es ns → Fits ns (zeros es) es
fits_zero [] [] g = tt
fits_zero (e ∷ es) (n ∷ ns) g = (omega (arith, g.0), fits_zero es ns g.1)
fits_zero [] (n ∷ ns) g = absurd g
fits_zero (e ∷ es) [] g = absurd g

lies_inside : (es ns p : List ℕ) → Grows es ns → InBox ns p → lies_in (zeros es) es p ≡ is_inside es p
lies_inside [] [] [] g b = refl
lies_inside (e ∷ es) (n ∷ ns) (i ∷ p) g b =
    let a : nat_lt 0 (i + 1) ≡ true = lt-ltb 0 (i + 1) (omega arith) in
    let z : 0 + e ≡ e = omega arith in
    λ j. a j && nat_lt i (z j) && lies_inside es ns p g.1 b.1 j
lies_inside [] [] (i ∷ p) g b = absurd b
lies_inside (e ∷ es) (n ∷ ns) [] g b = absurd b
lies_inside [] (n ∷ ns) p g b = absurd g
lies_inside (e ∷ es) [] p g b = absurd g

all_back : (es : List ℕ) (ps : List (List ℕ)) → map (λ p. plus p (zeros es)) ps ≡ ps
all_back es [] = refl
all_back es (p ∷ ps) = λ j. plus-zeros es p j ∷ all_back es ps j

-- the points of the greater box that lie in the smaller one are its points, in the same order
pub points_inside : (es ns : List ℕ) → Grows es ns → filter (is_inside es) (points ns) ≡ points es
points_inside es ns g =
    filter-same (is_inside es) (lies_in (zeros es) es) (points ns) (each_more (InBox ns) (λ p. is_inside es p ≡ lies_in (zeros es) es p) (λ p b. sym (lies_inside es ns p g b)) (points ns) (each_point ns))
    ∙ points_in_window ns (zeros es) es (fits_zero es ns g) ∙ all_back es (points es)

-- FOLDS
pub fold_none : (step : ℕ → List ℕ → Option ℕ) (ps : List (List ℕ)) → fold (λ o p. option_and_then (λ b. step b p) o) None ps ≡ None
fold_none step ps = fold_stays (λ o p. option_and_then (λ b. step b p) o) None (λ p. refl) ps

pub fold_inside : {X : Type 0} (In : ℕ → Type 0) (step step' : ℕ → X → Option ℕ) (T : X → Bool) (ps : List X) → Each (AgreesInside In step step' T) ps → (a : ℕ) → In a →
    fold (λ o p. option_and_then (λ b. step' b p) o) (Some a) ps ≡ fold (λ o p. option_and_then (λ b. step b p) o) (Some a) (filter T ps)
fold_inside In step step' T [] each a i = refl
fold_inside {X} In step step' T (p ∷ ps) each a i = by (λ b k. fold_inside In step step' T ps each.1 b k) (T p) refl
  where
    after : (rest : (b : ℕ) → In b → fold (λ o p. option_and_then (λ b. step' b p) o) (Some b) ps ≡ fold (λ o p. option_and_then (λ b. step b p) o) (Some b) (filter T ps)) →
        (o : Option ℕ) → ((b : ℕ) → o ≡ Some b → In b) → fold (λ o p. option_and_then (λ b. step' b p) o) o ps ≡ fold (λ o p. option_and_then (λ b. step b p) o) o (filter T ps)
    after rest None k = fold_stays (λ o p. option_and_then (λ b. step' b p) o) None (λ p. refl) ps ∙ sym (fold_stays (λ o p. option_and_then (λ b. step b p) o) None (λ p. refl) (filter T ps))
    after rest (Some b) k = rest b (k b refl)

    by : (rest : (b : ℕ) → In b → fold (λ o p. option_and_then (λ b. step' b p) o) (Some b) ps ≡ fold (λ o p. option_and_then (λ b. step b p) o) (Some b) (filter T ps)) →
        (t : Bool) → T p ≡ t → fold (λ o p. option_and_then (λ b. step' b p) o) (step' a p) ps ≡ fold (λ o p. option_and_then (λ b. step b p) o) (Some a) (cond t (p ∷ filter T ps) (filter T ps))
    by rest true e =
        let m : (step' a p ≡ step a p) × ((b : ℕ) → step a p ≡ Some b → In b) = each.0.0 e a i in
        (λ j. fold (λ o p. option_and_then (λ b. step' b p) o) (m.0 j) ps) ∙ after rest (step a p) m.1
    by rest false e = (λ j. fold (λ o p. option_and_then (λ b. step' b p) o) (each.0.1 e a i j) ps) ∙ rest a i

-- the fold of one element over the greater box
pub element_inside : (In : ℕ → Type 0) (step step' : ℕ → List ℕ → Option ℕ) (out : List ℕ → List ℕ) (es ns e : List ℕ) → Grows es ns →
    ((p : List ℕ) → InBox ns p → same_point (out p) e ≡ true → AgreesInside In step step' (is_inside es) p) → (a : ℕ) → In a →
    fold_points step' (filter (λ p. same_point (out p) e) (points ns)) a ≡ fold_points step (filter (λ p. same_point (out p) e) (points es)) a
element_inside In step step' out es ns e g meets a i =
    let hits : List (List ℕ) = filter (λ p. same_point (out p) e) (points ns) in
    fold_inside In step step' (is_inside es) hits
    (each_more (λ p. InBox ns p × (same_point (out p) e ≡ true)) (AgreesInside In step step' (is_inside es)) (λ p h. meets p h.0 h.1) hits
    (each-and (InBox ns) (λ p. same_point (out p) e ≡ true) hits (each-filter (InBox ns) (λ p. same_point (out p) e) (points ns) (each_point ns)) (each-passes (λ p. same_point (out p) e) (points ns)))) a i
    ∙ ap (λ ps. fold_points step ps a) (sym (filter-and (is_inside es) (λ p. same_point (out p) e) (points ns)) ∙ filter-turn (is_inside es) (λ p. same_point (out p) e) (points ns) ∙ ap (filter (λ p. same_point (out p) e)) (points_inside es ns g))

-- WHERE A POINT LEAVES THE BOX
pub grow_get : (es ns : List ℕ) (d : ℕ) → Grows es ns → get_or es d 0 ≤ get_or ns d 0
grow_get [] [] d g = omega arith
grow_get (e ∷ es) (n ∷ ns) zero g = g.0
grow_get (e ∷ es) (n ∷ ns) (suc d) g = grow_get es ns d g.1
grow_get [] (n ∷ ns) d g = absurd g
grow_get (e ∷ es) [] d g = absurd g

pub record Leaves (es ns p : List ℕ) : Type 0 where
  pub d : ℕ
  pub is : d < length es
  pub past : get_or es d 0 ≤ get_or p d 0
  pub within : get_or p d 0 < get_or ns d 0

pub leaves_at : (es ns p : List ℕ) → Grows es ns → InBox ns p → is_inside es p ≡ false → Leaves es ns p
leaves_at [] [] [] g b h = absurd (true≢false h)
leaves_at (e ∷ es) (n ∷ ns) (i ∷ p) g b h =
    ⊎_elim
    (λ l. let rest : Leaves es ns p = leaves_at es ns p g.1 b.1 ((λ j. sym (lt-ltb i e l) j && is_inside es p) ∙ h) in
    record { d = suc rest.d; is = omega (arith, rest.is); past = rest.past; within = rest.within })
    (λ l. record { d = 0; is = omega arith; past = omega (arith, l); within = b.0 }) (cases_lt i e)
leaves_at [] [] (i ∷ p) g b h = absurd b
leaves_at (e ∷ es) (n ∷ ns) [] g b h = absurd b
leaves_at [] (n ∷ ns) p g b h = absurd g
leaves_at (e ∷ es) [] p g b h = absurd g

-- FOLDS THAT NEVER TRAP
pub never_none : {X : Type 0} (step : ℕ → X → Option ℕ) → ((a : ℕ) (p : X) → step a p ≡ None → ⊥) → (ps : List X) (a : ℕ) → fold (λ o p. option_and_then (λ b. step b p) o) (Some a) ps ≡ None → ⊥
never_none step never [] a e = none-some a (sym e)
never_none {X} step never (p ∷ ps) a e = by (never_none step never ps) (step a p) (never a p) e
  where
    by : ((b : ℕ) → fold (λ o p. option_and_then (λ b. step b p) o) (Some b) ps ≡ None → ⊥) → (o : Option ℕ) → (o ≡ None → ⊥) → fold (λ o p. option_and_then (λ b. step b p) o) o ps ≡ None → ⊥
    by rest None k e = k refl
    by rest (Some b) k e = rest b e
