-- Small laws of slices, insertions and pads.
use Rattle.std.proofs.Common.{◌≡◌, ℕ, ◌&&◌, List, ⊎_elim, ap, sym, ◌∙◌}
use Rattle.std.specs.Prelude.{if◌then◌else◌}
use Rattle.std.proofs.lemmas.Bool.{cases_Bool}
use Rattle.mlir_meaning.specs.declared.values.Grid.{Grid}
use Rattle.mlir_meaning.specs.Grids.{at, plus, minus, lies_in, Fits, IsFull}
use Rattle.mlir_meaning.specs.Moves.{slice_of, insert_into, pad_of}
use Rattle.mlir_meaning.proofs.Grids.{tabulate_same, tabulated, inside_true}
use Rattle.mlir_meaning.proofs.Regions.{Apart, MovedIn, moved_in, MovedBack, moved_back, at-slice, at-insert_outside}
use Rattle.point_laws.proofs.Lists.{and_true}
use Rattle.point_laws.specs.Boxes.{Grows, zeros}
use Rattle.point_laws.proofs.Inside.{grow_in, plus-zeros}
use Rattle.move_laws.proofs.Padded.{at-pad}

-- a slice inserted at its own place
pub insert-slice : (g : Grid) (os ns : List ℕ) → IsFull g → Fits g.extents os ns → insert_into (slice_of g os ns) os g ≡ g
unfolding slice_of insert_into
insert-slice g os ns full fits =
    tabulate_same g.extents (λ p. if lies_in os ns p then at (slice_of g os ns) (minus p os) else at g p) (at g)
    (λ p b. ⊎_elim
    (λ t. let m : MovedBack os ns p = moved_back g.extents os ns p fits b t in
    (λ j. if t j then at (slice_of g os ns) (minus p os) else at g p) ∙ at-slice g os ns (minus p os) m.inside ∙ ap (at g) m.forth)
    (λ f. (λ j. if f j then at (slice_of g os ns) (minus p os) else at g p)) (cases_Bool (lies_in os ns p)))
    ∙ tabulated g full

-- a slice apart from an insertion is the destination's
pub slice-apart : (t : Grid) (os : List ℕ) (g : Grid) (os' ns' : List ℕ) → Fits g.extents os' ns' → Apart g.extents os t.extents os' ns' → slice_of (insert_into t os g) os' ns' ≡ slice_of g os' ns'
unfolding slice_of
slice-apart t os g os' ns' fits apart =
    tabulate_same ns' (λ p. at (insert_into t os g) (plus p os')) (λ p. at g (plus p os'))
    (λ p b. let m : MovedIn g.extents os' ns' p = moved_in g.extents os' ns' p fits b in
    at-insert_outside t os g (plus p os') m.inside
    (sym (and_true (lies_in os t.extents (plus p os'))) ∙ (λ j. lies_in os t.extents (plus p os') && sym m.lies j) ∙ apart (plus p os') m.inside))

-- a pad, sliced back
pub slice-pad : (g : Grid) (hs : List ℕ) (v : ℕ) → IsFull g → Grows g.extents (plus g.extents hs) → slice_of (pad_of g hs v) (zeros g.extents) g.extents ≡ g
unfolding slice_of
slice-pad g hs v full grows =
    tabulate_same g.extents (λ p. at (pad_of g hs v) (plus p (zeros g.extents))) (at g)
    (λ p b. ap (at (pad_of g hs v)) (plus-zeros g.extents p) ∙ at-pad g hs v p (grow_in g.extents (plus g.extents hs) p grows b) ∙ (λ j. if inside_true g.extents p b j then at g p else v))
    ∙ tabulated g full
