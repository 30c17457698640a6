-- Slices and insertions at regions of a box.
use Rattle.std.proofs.Common.{◌⊎◌, ⊎_elim, ◌≤◌, ◌≡◌, ℕ, ◌+◌, ◌-◌, ◌<◌, nat_lt, Bool, true, false, ◌&&◌, List, [], ◌∷◌, refl, ap, sym, ◌∙◌, arith}
use Rattle.std.specs.Prelude.{if◌then◌else◌}
use Rattle.std.proofs.lemmas.Bool.{lt-ltb, ltb-true, and_parts, cases_Bool, true≢false}
use Rattle.mlir_meaning.specs.Grids.{Grid, at, plus, minus, lies_in, IsFull, InBox, Fits}
use Rattle.mlir_meaning.specs.Moves.{slice_of, insert_into}
use Rattle.mlir_meaning.proofs.Grids.{at-tabulate, tabulate_same, tabulated}

-- a point of the sizes, moved by the offsets
pub record MovedIn (es os ns q : List ℕ) : Type 0 where
  pub inside : InBox es (plus q os)
  pub lies : lies_in os ns (plus q os) ≡ true
  pub back : minus (plus q os) os ≡ q

pub moved_in : (es os ns q : List ℕ) → Fits es os ns → InBox ns q → MovedIn es os ns q
moved_in [] [] [] [] h b = record { inside = tt; lies = refl; back = refl }
moved_in (e ∷ es) (o ∷ os) (n ∷ ns) (i ∷ q) h b =
    let rest : MovedIn es os ns q = moved_in es os ns q h.1 b.1 in
    let a : nat_lt o (i + o + 1) ≡ true = lt-ltb o (i + o + 1) (omega arith) in
    let c : nat_lt (i + o) (o + n) ≡ true = lt-ltb (i + o) (o + n) (omega (arith, b.0)) in
    let back : (i + o) - o ≡ i = omega arith in
    record { inside = (omega (arith, b.0, h.0), rest.inside); lies = λ j. a j && c j && rest.lies j; back = λ j. back j ∷ rest.back j }
moved_in [] [] [] (i ∷ q) h b = absurd b
moved_in (e ∷ es) (o ∷ os) (n ∷ ns) [] h b = absurd b
moved_in [] (o ∷ os) ns q h b = absurd h
moved_in [] [] (n ∷ ns) q h b = absurd h
moved_in (e ∷ es) [] ns q h b = absurd h
moved_in (e ∷ es) (o ∷ os) [] q h b = absurd h

-- a point of the region, moved back
pub record MovedBack (os ns p : List ℕ) : Type 0 where
  pub inside : InBox ns (minus p os)
  pub forth : plus (minus p os) os ≡ p

pub moved_back : (es os ns p : List ℕ) → Fits es os ns → InBox es p → lies_in os ns p ≡ true → MovedBack os ns p
moved_back [] [] [] [] h b t = record { inside = tt; forth = refl }
moved_back (e ∷ es) (o ∷ os) (n ∷ ns) (i ∷ p) h b t =
    let both : ((nat_lt o (i + 1) && nat_lt i (o + n)) ≡ true) × (lies_in os ns p ≡ true) = and_parts (nat_lt o (i + 1) && nat_lt i (o + n)) (lies_in os ns p) t in
    let ends : (nat_lt o (i + 1) ≡ true) × (nat_lt i (o + n) ≡ true) = and_parts (nat_lt o (i + 1)) (nat_lt i (o + n)) both.0 in
    let l : o < i + 1 = ltb-true o (i + 1) ends.0 in
    let m : i < o + n = ltb-true i (o + n) ends.1 in
    let rest : MovedBack os ns p = moved_back es os ns p h.1 b.1 both.1 in
    let back : (i - o) + o ≡ i = omega arith in
    record { inside = (omega arith, rest.inside); forth = λ j. back j ∷ rest.forth j }
moved_back [] [] [] (i ∷ q) h b t = absurd b
moved_back (e ∷ es) (o ∷ os) (n ∷ ns) [] h b t = absurd b
moved_back [] (o ∷ os) ns q h b t = absurd h
moved_back [] [] (n ∷ ns) q h b t = absurd h
moved_back (e ∷ es) [] ns q h b t = absurd h
moved_back (e ∷ es) (o ∷ os) [] q h b t = absurd h

-- SLICES
pub at-slice : (g : Grid) (os ns p : List ℕ) → InBox ns p → at (slice_of g os ns) p ≡ at g (plus p os)
unfolding slice_of
at-slice g os ns p b = at-tabulate ns p (λ q. at g (plus q os)) b

plus-plus : (es os ns p a : List ℕ) → Fits es os ns → InBox ns p → plus (plus p os) a ≡ plus p (plus os a)
plus-plus [] [] [] [] a h b = refl
plus-plus (e ∷ es) (o ∷ os) (n ∷ ns) (i ∷ p) [] h b = refl
plus-plus (e ∷ es) (o ∷ os) (n ∷ ns) (i ∷ p) (x ∷ a) h b =
    let e1 : (i + o) + x ≡ i + (o + x) = omega arith in λ j. e1 j ∷ plus-plus es os ns p a h.1 b.1 j
plus-plus [] [] [] (i ∷ q) a h b = absurd b
plus-plus (e ∷ es) (o ∷ os) (n ∷ ns) [] a h b = absurd b
plus-plus [] (o ∷ os) ns q a h b = absurd h
plus-plus [] [] (n ∷ ns) q a h b = absurd h
plus-plus (e ∷ es) [] ns q a h b = absurd h
plus-plus (e ∷ es) (o ∷ os) [] q a h b = absurd h

-- a slice of a slice
pub slice-slice : (g : Grid) (os ns os' ns' : List ℕ) → Fits ns os' ns' → slice_of (slice_of g os ns) os' ns' ≡ slice_of g (plus os' os) ns'
unfolding slice_of
slice-slice g os ns os' ns' fits =
    tabulate_same ns' _ _ (λ p b. at-tabulate ns (plus p os') (λ q. at g (plus q os)) (moved_in ns os' ns' p fits b).inside ∙ ap (at g) (plus-plus ns os' ns' p os fits b))

-- INSERTIONS
pub at-insert_inside : (tile : Grid) (os : List ℕ) (g : Grid) (p : List ℕ) → InBox g.extents p → lies_in os tile.extents p ≡ true → at (insert_into tile os g) p ≡ at tile (minus p os)
unfolding insert_into
at-insert_inside tile os g p b t =
    at-tabulate g.extents p (λ q. if lies_in os tile.extents q then at tile (minus q os) else at g q) b ∙ (λ j. if t j then at tile (minus p os) else at g p)

pub at-insert_outside : (tile : Grid) (os : List ℕ) (g : Grid) (p : List ℕ) → InBox g.extents p → lies_in os tile.extents p ≡ false → at (insert_into tile os g) p ≡ at g p
unfolding insert_into
at-insert_outside tile os g p b t =
    at-tabulate g.extents p (λ q. if lies_in os tile.extents q then at tile (minus q os) else at g q) b ∙ (λ j. if t j then at tile (minus p os) else at g p)

pub insert-extents : (tile : Grid) (os : List ℕ) (g : Grid) → (insert_into tile os g).extents ≡ g.extents
unfolding insert_into
insert-extents tile os g = refl

-- the slice of an insertion at its region is what was inserted
pub slice-insert : (tile : Grid) (os : List ℕ) (g : Grid) → Fits g.extents os tile.extents → IsFull tile → slice_of (insert_into tile os g) os tile.extents ≡ tile
unfolding slice_of
slice-insert tile os g fits full =
    tabulate_same tile.extents _ _
    (λ p b. let m : MovedIn g.extents os tile.extents p = moved_in g.extents os tile.extents p fits b in at-insert_inside tile os g (plus p os) m.inside m.lies ∙ ap (at tile) m.back)
    ∙ tabulated tile full

-- no point of the box lies in both regions
abbrev pub Apart : List ℕ → List ℕ → List ℕ → List ℕ → List ℕ → Type 0
Apart es os ns os' ns' = (p : List ℕ) → InBox es p → (lies_in os ns p && lies_in os' ns' p) ≡ false

either : (b c : Bool) (x y z : ℕ) → (b && c) ≡ false → (if b then x else (if c then y else z)) ≡ (if c then y else (if b then x else z))
either true true x y z apart = absurd (true≢false apart)
either true false x y z apart = refl
either false true x y z apart = refl
either false false x y z apart = refl

-- insertions at regions without a common point may change places
pub inserts_swap : (a : Grid) (os : List ℕ) (b : Grid) (os' : List ℕ) (g : Grid) → Apart g.extents os a.extents os' b.extents →
    insert_into a os (insert_into b os' g) ≡ insert_into b os' (insert_into a os g)
unfolding insert_into
inserts_swap a os b os' g apart =
    tabulate_same g.extents _ _
    (λ p i.
    (λ j. if lies_in os a.extents p then at a (minus p os) else at-tabulate g.extents p (λ q. if lies_in os' b.extents q then at b (minus q os') else at g q) i j)
    ∙ either (lies_in os a.extents p) (lies_in os' b.extents p) (at a (minus p os)) (at b (minus p os')) (at g p) (apart p i)
    ∙ (λ j. if lies_in os' b.extents p then at b (minus p os') else sym (at-tabulate g.extents p (λ q. if lies_in os a.extents q then at a (minus q os) else at g q) i) j))

-- on some axis, one region ends before the other begins
abbrev pub ApartOnAxis : List ℕ → List ℕ → List ℕ → List ℕ → Type 0
ApartOnAxis (o ∷ os) (n ∷ ns) (o' ∷ os') (n' ∷ ns') = ((o + n ≤ o') ⊎ (o' + n' ≤ o)) ⊎ ApartOnAxis os ns os' ns'
ApartOnAxis _ _ _ _ = ⊥

not_in_both : (es os ns os' ns' p : List ℕ) → Fits es os ns → Fits es os' ns' → InBox es p → ApartOnAxis os ns os' ns' → lies_in os ns p ≡ true → lies_in os' ns' p ≡ true → ⊥
not_in_both (e ∷ es) (o ∷ os) (n ∷ ns) (o' ∷ os') (n' ∷ ns') (i ∷ p) h k b apart t u =
    let t1 : ((nat_lt o (i + 1) && nat_lt i (o + n)) ≡ true) × (lies_in os ns p ≡ true) = and_parts (nat_lt o (i + 1) && nat_lt i (o + n)) (lies_in os ns p) t in
    let u1 : ((nat_lt o' (i + 1) && nat_lt i (o' + n')) ≡ true) × (lies_in os' ns' p ≡ true) = and_parts (nat_lt o' (i + 1) && nat_lt i (o' + n')) (lies_in os' ns' p) u in
    let t2 : (nat_lt o (i + 1) ≡ true) × (nat_lt i (o + n) ≡ true) = and_parts (nat_lt o (i + 1)) (nat_lt i (o + n)) t1.0 in
    let u2 : (nat_lt o' (i + 1) ≡ true) × (nat_lt i (o' + n') ≡ true) = and_parts (nat_lt o' (i + 1)) (nat_lt i (o' + n')) u1.0 in
    let a : o < i + 1 = ltb-true o (i + 1) t2.0 in
    let c : i < o + n = ltb-true i (o + n) t2.1 in
    let d : o' < i + 1 = ltb-true o' (i + 1) u2.0 in
    let f : i < o' + n' = ltb-true i (o' + n') u2.1 in
    ⊎_elim (λ w. ⊎_elim (λ (z : o + n ≤ o'). omega arith) (λ (z : o' + n' ≤ o). omega arith) w) (λ w. not_in_both es os ns os' ns' p h.1 k.1 b.1 w t1.1 u1.1) apart
not_in_both [] os ns os' ns' p h k b apart t u = elsewhere os ns os' ns' h apart
  where
    elsewhere : (os ns os' ns' : List ℕ) → Fits [] os ns → ApartOnAxis os ns os' ns' → ⊥
    elsewhere [] [] os' ns' h apart = apart
    elsewhere (o ∷ os) ns os' ns' h apart = absurd h
    elsewhere [] (n ∷ ns) os' ns' h apart = absurd h
not_in_both (e ∷ es) [] ns os' ns' p h k b apart t u = absurd h
not_in_both (e ∷ es) (o ∷ os) [] os' ns' p h k b apart t u = absurd h
not_in_both (e ∷ es) (o ∷ os) (n ∷ ns) [] ns' p h k b apart t u = absurd k
not_in_both (e ∷ es) (o ∷ os) (n ∷ ns) (o' ∷ os') [] p h k b apart t u = absurd k
not_in_both (e ∷ es) (o ∷ os) (n ∷ ns) (o' ∷ os') (n' ∷ ns') [] h k b apart t u = absurd b

-- and then they have no common point
pub apart_on_axis : (es os ns os' ns' : List ℕ) → Fits es os ns → Fits es os' ns' → ApartOnAxis os ns os' ns' → Apart es os ns os' ns'
apart_on_axis es os ns os' ns' h k apart p b =
    ⊎_elim (λ t. let both : (lies_in os ns p ≡ true) × (lies_in os' ns' p ≡ true) = and_parts (lies_in os ns p) (lies_in os' ns' p) t in absurd (not_in_both es os ns os' ns' p h k b apart both.0 both.1))
    (λ f. f) (cases_Bool (lies_in os ns p && lies_in os' ns' p))
