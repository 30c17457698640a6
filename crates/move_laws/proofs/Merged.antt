-- Points cut into outer and inner coordinates, and back; packs and unpacks.
use Rattle.std.proofs.Common.{◌≡◌, ℕ, zero, suc, ◌+◌, ◌*◌, ◌/◌, ◌%◌, List, [], ◌∷◌, ◌++◌, map, length, set, take, drop, get_or, refl, ap, sym, ◌∙◌, arith}
use Rattle.std.specs.Prelude.{if◌then◌else◌}
use Rattle.std.proofs.Math.Nat.{mod-lt, div-lt_iff_lt-mul}
use Rattle.std.proofs.Math.Seq.{take-append_seam, drop-append_seam}
use Rattle.std.proofs.lemmas.Nat.{div-mul-add, mod-mul-add, div-add-mod'}
use Rattle.mlir_meaning.specs.declared.values.Grid.{Grid}
use Rattle.mlir_meaning.specs.Grids.{at, is_inside, InBox, IsFull}
use Rattle.mlir_meaning.specs.Moves.{unpacked_point, outer_point, inner_point, pack_of, unpack_of}
use Rattle.mlir_meaning.proofs.Grids.{at-tabulate, tabulate_same, tabulated, inside_true}
use Rattle.point_laws.specs.Tiles.{tile_count}
use Rattle.point_laws.proofs.Ragged.{tiles_end}
use Rattle.move_laws.specs.Packs.{outers, inners, outer_box, inner_box, packed_box, merged, cut_axes, cut_sizes}
use Rattle.point_laws.proofs.Tables.{box_length}

-- THERE AND BACK
pub merged_back : (p ts : List ℕ) → merged (outers p ts) (inners p ts) ts ≡ p
merged_back [] ts = refl
merged_back (i ∷ p) [] = ap (λ l. i ∷ l) (merged_back p [])
merged_back (i ∷ p) (zero ∷ ts) = ap (λ l. i ∷ l) (merged_back p ts)
merged_back (i ∷ p) (suc t ∷ ts) = λ j. div-add-mod' i (suc t) j ∷ merged_back p ts j

pub outers_in : (es p ts : List ℕ) → InBox es p → InBox (outer_box es ts) (outers p ts)
outers_in [] [] ts h = tt
outers_in (e ∷ es) (i ∷ p) [] h = (h.0, outers_in es p [] h.1)
outers_in (e ∷ es) (i ∷ p) (zero ∷ ts) h = (h.0, outers_in es p ts h.1)
outers_in (e ∷ es) (i ∷ p) (suc t ∷ ts) h =
    ((div-lt_iff_lt-mul {k = suc t} {x = i} {y = tile_count e (suc t)} (omega arith)).1 (omega (arith, h.0, tiles_end e (suc t) (omega arith))), outers_in es p ts h.1)
outers_in [] (i ∷ p) ts h = absurd h
outers_in (e ∷ es) [] ts h = absurd h

pub inners_in : (es p ts : List ℕ) → InBox es p → InBox (inner_box es ts) (inners p ts)
inners_in [] [] ts h = tt
inners_in (e ∷ es) (i ∷ p) [] h = inners_in es p [] h.1
inners_in (e ∷ es) (i ∷ p) (zero ∷ ts) h = inners_in es p ts h.1
inners_in (e ∷ es) (i ∷ p) (suc t ∷ ts) h = (mod-lt i (omega arith), inners_in es p ts h.1)
inners_in [] (i ∷ p) ts h = absurd h
inners_in (e ∷ es) [] ts h = absurd h

pub outers_merged : (es o is ts : List ℕ) → InBox (outer_box es ts) o → InBox (inner_box es ts) is → outers (merged o is ts) ts ≡ o
outers_merged [] [] is ts h k = refl
outers_merged (e ∷ es) (x ∷ o) is [] h k = ap (λ l. x ∷ l) (outers_merged es o is [] h.1 k)
outers_merged (e ∷ es) (x ∷ o) is (zero ∷ ts) h k = ap (λ l. x ∷ l) (outers_merged es o is ts h.1 k)
outers_merged (e ∷ es) (x ∷ o) (i ∷ is) (suc t ∷ ts) h k = λ j. div-mul-add x (suc t) i k.0 j ∷ outers_merged es o is ts h.1 k.1 j
outers_merged [] (x ∷ o) is ts h k = absurd h
outers_merged (e ∷ es) [] is [] h k = absurd h
outers_merged (e ∷ es) [] is (zero ∷ ts) h k = absurd h
outers_merged (e ∷ es) [] is (suc t ∷ ts) h k = absurd h
outers_merged (e ∷ es) (x ∷ o) [] (suc t ∷ ts) h k = absurd k

pub inners_merged : (es o is ts : List ℕ) → InBox (outer_box es ts) o → InBox (inner_box es ts) is → inners (merged o is ts) ts ≡ is
inners_merged [] [] [] ts h k = refl
inners_merged (e ∷ es) (x ∷ o) is [] h k = inners_merged es o is [] h.1 k
inners_merged (e ∷ es) (x ∷ o) is (zero ∷ ts) h k = inners_merged es o is ts h.1 k
inners_merged (e ∷ es) (x ∷ o) (i ∷ is) (suc t ∷ ts) h k = λ j. mod-mul-add x (suc t) i k.0 j ∷ inners_merged es o is ts h.1 k.1 j
inners_merged [] [] (i ∷ is) ts h k = absurd k
inners_merged [] (x ∷ o) is ts h k = absurd h
inners_merged (e ∷ es) [] is [] h k = absurd h
inners_merged (e ∷ es) [] is (zero ∷ ts) h k = absurd h
inners_merged (e ∷ es) [] is (suc t ∷ ts) h k = absurd h
inners_merged (e ∷ es) (x ∷ o) [] (suc t ∷ ts) h k = absurd k

-- JOINED BOXES
pub in_append : (es fs p q : List ℕ) → InBox es p → InBox fs q → InBox (es ++ fs) (p ++ q)
in_append [] fs [] q h k = k
in_append (e ∷ es) fs (i ∷ p) q h k = (h.0, in_append es fs p q h.1 k)
in_append [] fs (i ∷ p) q h k = absurd h
in_append (e ∷ es) fs [] q h k = absurd h

pub record Split (es fs p : List ℕ) : Type 0 where
  pub front : InBox es (take (length es) p)
  pub back : InBox fs (drop (length es) p)

pub split_in : (es fs p : List ℕ) → InBox (es ++ fs) p → Split es fs p
split_in [] fs p h = record { front = tt; back = h }
split_in (e ∷ es) fs (i ∷ p) h = let rest : Split es fs p = split_in es fs p h.1 in record { front = (h.0, rest.front); back = rest.back }
split_in (e ∷ es) fs [] h = absurd h

pub outer_length : (es ts : List ℕ) → length (outer_box es ts) ≡ length es
outer_length [] ts = refl
outer_length (e ∷ es) [] = ap suc (outer_length es [])
outer_length (e ∷ es) (zero ∷ ts) = ap suc (outer_length es ts)
outer_length (e ∷ es) (suc t ∷ ts) = ap suc (outer_length es ts)

pub outers_length : (p ts : List ℕ) → length (outers p ts) ≡ length p
outers_length [] ts = refl
outers_length (i ∷ p) [] = ap suc (outers_length p [])
outers_length (i ∷ p) (zero ∷ ts) = ap suc (outers_length p ts)
outers_length (i ∷ p) (suc t ∷ ts) = ap suc (outers_length p ts)

-- THE WORDS OF THE MEANING
unpacked_more : (ds ts is o : List ℕ) (x : ℕ) → unpacked_point (map suc ds) ts is (x ∷ o) ≡ x ∷ unpacked_point ds ts is o
unpacked_more [] ts is o x = refl
unpacked_more (d ∷ ds) [] is o x = refl
unpacked_more (d ∷ ds) (t ∷ ts) [] o x = refl
unpacked_more (d ∷ ds) (t ∷ ts) (i ∷ is) o x = λ j. set (unpacked_more ds ts is o x j) (suc d) (get_or o d 0 * t + i)

pub unpacked_is : (es o is ts : List ℕ) → length ts ≡ length es → InBox (outer_box es ts) o → InBox (inner_box es ts) is → unpacked_point (cut_axes ts) (cut_sizes ts) is o ≡ merged o is ts
unpacked_is [] [] is [] l h k = refl
unpacked_is (e ∷ es) (x ∷ o) is (zero ∷ ts) l h k = unpacked_more (cut_axes ts) (cut_sizes ts) is o x ∙ ap (λ r. x ∷ r) (unpacked_is es o is ts (omega arith) h.1 k)
unpacked_is (e ∷ es) (x ∷ o) (i ∷ is) (suc t ∷ ts) l h k =
    (λ j. set (unpacked_more (cut_axes ts) (cut_sizes ts) is o x j) 0 (x * suc t + i)) ∙ ap (λ r. (x * suc t + i) ∷ r) (unpacked_is es o is ts (omega arith) h.1 k.1)
unpacked_is [] o is (t ∷ ts) l h k = absurd (omega arith)
unpacked_is [] (x ∷ o) is [] l h k = absurd h
unpacked_is (e ∷ es) o is [] l h k = absurd (omega arith)
unpacked_is (e ∷ es) [] is (zero ∷ ts) l h k = absurd h
unpacked_is (e ∷ es) [] is (suc t ∷ ts) l h k = absurd h
unpacked_is (e ∷ es) (x ∷ o) [] (suc t ∷ ts) l h k = absurd k

outer_more : (ds ts p : List ℕ) (x : ℕ) → outer_point (map suc ds) ts (x ∷ p) ≡ x ∷ outer_point ds ts p
outer_more [] ts p x = refl
outer_more (d ∷ ds) [] p x = refl
outer_more (d ∷ ds) (t ∷ ts) p x = λ j. set (outer_more ds ts p x j) (suc d) (get_or p d 0 / t)

pub outer_is : (p ts : List ℕ) → length ts ≡ length p → outer_point (cut_axes ts) (cut_sizes ts) p ≡ outers p ts
outer_is [] [] l = refl
outer_is (i ∷ p) (zero ∷ ts) l = outer_more (cut_axes ts) (cut_sizes ts) p i ∙ ap (λ r. i ∷ r) (outer_is p ts (omega arith))
outer_is (i ∷ p) (suc t ∷ ts) l = (λ j. set (outer_more (cut_axes ts) (cut_sizes ts) p i j) 0 (i / suc t)) ∙ ap (λ r. (i / suc t) ∷ r) (outer_is p ts (omega arith))
outer_is [] (t ∷ ts) l = absurd (omega arith)
outer_is (i ∷ p) [] l = absurd (omega arith)

inner_more : (ds ts p : List ℕ) (x : ℕ) → inner_point (map suc ds) ts (x ∷ p) ≡ inner_point ds ts p
inner_more [] ts p x = refl
inner_more (d ∷ ds) [] p x = refl
inner_more (d ∷ ds) (t ∷ ts) p x = ap (λ r. (get_or p d 0 % t) ∷ r) (inner_more ds ts p x)

pub inner_is : (p ts : List ℕ) → length ts ≡ length p → inner_point (cut_axes ts) (cut_sizes ts) p ≡ inners p ts
inner_is [] [] l = refl
inner_is (i ∷ p) (zero ∷ ts) l = inner_more (cut_axes ts) (cut_sizes ts) p i ∙ inner_is p ts (omega arith)
inner_is (i ∷ p) (suc t ∷ ts) l = ap (λ r. (i % suc t) ∷ r) (inner_more (cut_axes ts) (cut_sizes ts) p i ∙ inner_is p ts (omega arith))
inner_is [] (t ∷ ts) l = absurd (omega arith)
inner_is (i ∷ p) [] l = absurd (omega arith)

-- PACKS
module _ (g : Grid) (ts : List ℕ) (l : length ts ≡ length g.extents) (v : ℕ) where
  abbrev pub packed : Grid
  packed = pack_of g (packed_box g.extents ts) (cut_axes ts) (cut_sizes ts) v

  pub packed_extents : packed.extents ≡ packed_box g.extents ts
  unfolding pack_of
  packed_extents = refl

  -- what a pack has at outer and inner coordinates
  pub at-packed : (o is : List ℕ) → InBox (outer_box g.extents ts) o → InBox (inner_box g.extents ts) is →
      at packed (o ++ is) ≡ (if is_inside g.extents (merged o is ts) then at g (merged o is ts) else v)
  unfolding pack_of
  at-packed o is h k =
      let rank : ℕ = length g.extents in
      let long : length o ≡ rank = box_length (outer_box g.extents ts) o h ∙ outer_length g.extents ts in
      let front : take rank (o ++ is) ≡ o = (λ j. take (sym long j) (o ++ is)) ∙ take-append_seam o is in
      let back : drop rank (o ++ is) ≡ is = (λ j. drop (sym long j) (o ++ is)) ∙ drop-append_seam o is in
      let whole : unpacked_point (cut_axes ts) (cut_sizes ts) (drop rank (o ++ is)) (take rank (o ++ is)) ≡ merged o is ts =
      (λ j. unpacked_point (cut_axes ts) (cut_sizes ts) (back j) (front j)) ∙ unpacked_is g.extents o is ts l h k in
      at-tabulate (packed_box g.extents ts) (o ++ is)
      (λ p. if is_inside g.extents (unpacked_point (cut_axes ts) (cut_sizes ts) (drop rank p) (take rank p)) then at g (unpacked_point (cut_axes ts) (cut_sizes ts) (drop rank p) (take rank p)) else v)
      (in_append (outer_box g.extents ts) (inner_box g.extents ts) o is h k)
      ∙ (λ j. if is_inside g.extents (whole j) then at g (whole j) else v)

  -- and inside the box, what the source has
  pub at-packed_inside : (p : List ℕ) → InBox g.extents p → at packed (outers p ts ++ inners p ts) ≡ at g p
  at-packed_inside p b =
      at-packed (outers p ts) (inners p ts) (outers_in g.extents p ts b) (inners_in g.extents p ts b)
      ∙ (λ j. if is_inside g.extents (merged_back p ts j) then at g (merged_back p ts j) else v)
      ∙ (λ j. if inside_true g.extents p b j then at g p else v)

-- what an unpack has at a point
pub at-unpacked : (g : Grid) (es ts p : List ℕ) → length ts ≡ length es → InBox es p → at (unpack_of g es (cut_axes ts) (cut_sizes ts)) p ≡ at g (outers p ts ++ inners p ts)
unfolding unpack_of
at-unpacked g es ts p l b =
    let long : length ts ≡ length p = l ∙ sym (box_length es p b) in
    at-tabulate es p (λ q. at g (outer_point (cut_axes ts) (cut_sizes ts) q ++ inner_point (cut_axes ts) (cut_sizes ts) q)) b
    ∙ (λ j. at g (outer_is p ts long j ++ inner_is p ts long j))

-- an unpack of a pack is the source
pub unpack_pack : (g : Grid) (ts : List ℕ) (v : ℕ) → IsFull g → length ts ≡ length g.extents →
    unpack_of (pack_of g (packed_box g.extents ts) (cut_axes ts) (cut_sizes ts) v) g.extents (cut_axes ts) (cut_sizes ts) ≡ g
unfolding unpack_of
unpack_pack g ts v full l =
    let whole : Grid = pack_of g (packed_box g.extents ts) (cut_axes ts) (cut_sizes ts) v in
    tabulate_same g.extents (λ q. at whole (outer_point (cut_axes ts) (cut_sizes ts) q ++ inner_point (cut_axes ts) (cut_sizes ts) q)) (at g)
    (λ p b. let long : length ts ≡ length p = l ∙ sym (box_length g.extents p b) in (λ j. at whole (outer_is p ts long j ++ inner_is p ts long j)) ∙ at-packed_inside g ts l v p b)
    ∙ tabulated g full
