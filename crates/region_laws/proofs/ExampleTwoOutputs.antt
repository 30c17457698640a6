-- The window of `ExampleWindow` by a `scf.forall` with two shared outputs: its tiles go into the second one, and into the
-- first one too.
use Rattle.std.proofs.Common.{◌≡◌, ℕ, ◌+◌, ◌-◌, ◌*◌, min, List, [], ◌∷◌, ◌++◌, Option, Some, None, refl, sym, subst, ◌∙◌, arith, pos}
use Rattle.mlir_ir.specs.declared.tree.Idx.TheVariants.{Literal}
use Rattle.mlir_ir.specs.declared.tree.Op.{Op}
use Rattle.mlir_ir.specs.declared.tree.OpKind.{Forall, ParallelInsert}
use Rattle.mlir_meaning.specs.Grids.{InBox}
use Rattle.mlir_meaning.specs.Loops.{ForallHead, forall_state, insertions_of, output_of}
use Rattle.mlir_meaning.specs.Meaning.{kind_meaning, run, places_in}
use Rattle.mlir_meaning.specs.Points.{to_nat}
use Rattle.mlir_meaning.specs.States.{State, number_of}
use Rattle.mlir_meaning.specs.declared.values.Datum.TheVariants.{Cells}
use Rattle.mlir_meaning.specs.declared.values.Grid.{Grid}
use Rattle.point_laws.specs.Boxes.{picks}
use Rattle.point_laws.specs.Tiles.{counts, cut_dims, is_cut, tile_offsets, tile_sizes}
use Rattle.point_laws.proofs.Cuts.{tile_cut}
use Rattle.region_laws.specs.Among.{GivesAt, BeginsAmong, NotedAt, MakesTile, then_grid, into}
use Rattle.region_laws.specs.Bodies.{DoesTile, IsOutputOf, tile_ops}
use Rattle.region_laws.specs.Instances.{result_of}
use Rattle.region_laws.specs.Nests.{TileLoop}
use Rattle.region_laws.specs.TileLoops.{region_tile}
use Rattle.region_laws.proofs.Begins.{begins_among}
use Rattle.region_laws.proofs.Leaves.{size_divides}
use Rattle.region_laws.proofs.Shared.{tile_forall_gives}
use Rattle.region_laws.proofs.Stated.{makes_one}
use Rattle.region_laws.proofs.Stays.{still_is}
use Rattle.region_laws.proofs.Tilings.{is_noted}
use Rattle.region_laws.proofs.ExampleWindow.{out, v, u, N, box, ts, ds, multiply_add, t4, slice_out, window, tile_body, made_names, typed, cuts, M}

abbrev head : ForallHead
head = record {
  vars = v 11 ∷ [];
  lower = Literal (pos 0) ∷ [];
  upper = Literal (pos 4) ∷ [];
  step = Literal (pos 2) ∷ [];
  shared = (v 13, t4, v 2) ∷ (v 12, t4, v 2) ∷ [];
}

abbrev insert_at : ℕ → ℕ → Op
insert_at n arg = record { id = record { 0 = n }; results = []; kind = ParallelInsert (v 20) (v arg) slice_out.offsets slice_out.sizes }

abbrev body : List Op
body = tile_ops tile_body (v 12) slice_out made_names ++ (insert_at 21 13 ∷ insert_at 22 12 ∷ [])

loop : TileLoop (cut_dims box ts) u head
loop = record { lower = refl; upper = refl; step = refl }

module _ (k : ℕ) (h : InBox (counts (cut_dims box ts)) (k ∷ [])) where
  abbrev os : List ℕ
  os = tile_offsets box ts (k ∷ [])

  abbrev ns : List ℕ
  ns = tile_sizes box ts (k ∷ [])

  abbrev s : State
  s = forall_state u head (k ∷ [])

  begin : BeginsAmong N u (cut_dims box ts) head (k ∷ []) s
  begin = begins_among N u (cut_dims box ts) head (k ∷ []) loop (refl, (refl, (refl, tt)))

  two : min (4 - k * 2) 2 ≡ 2
  two = size_divides 2 2 k (omega arith) h.0

  does : DoesTile window (is_cut ts) os ns M s tile_body
  does =
      let at_offset : k * 2 ≡ 0 + (1 * (k * 2) + (1 * 0 + 0)) = omega arith in
      record {
        typed = typed;
        rank = refl;
        within = tile_cut box ts (k ∷ []) h;
        body = record {
          slices = (
            refl,
            begin.knows 0 refl,
            (refl, (λ w e. (λ j. to_nat (number_of ((e 11 refl ∙ begin.vars.0) j)) ∷ []) ∙ (λ j. at_offset j ∷ [])), (λ w e. λ j. ((1 * (sym two j - 1) + (1 * (3 - 1) + 0)) + 1) ∷ [])),
            refl,
            (refl, begin.knows 1 refl, refl, tt, tt),
          );
          captures = λ w e. refl;
          moves = still_is multiply_add box os ns [] (tile_cut box ts (k ∷ []) h).fits (tt, (tt, tt));
        };
        means = λ w rs o x e f h. refl;
      }

  output : IsOutputOf window os ns M s tile_body (v 12) out slice_out
  output = record {
    known = refl;
    holds = begin.start 1 (v 12) (Cells 32 out) refl refl;
    slice = record {
      offsets = λ w e. λ j. to_nat (number_of ((e 11 refl ∙ begin.vars.0) j)) ∷ [];
      sizes = λ w e. λ j. sym two j ∷ [];
      new = refl;
      other = ((λ e. absurd (omega arith)), ((λ e. absurd (omega arith)), tt));
    };
  }

  made : MakesTile M s (tile_ops tile_body (v 12) slice_out made_names) (v 20) 32 (region_tile window os ns out)
  made = makes_one window (is_cut ts) os ns M s tile_body does (v 12) out slice_out output made_names refl

  -- where the tile is there, each output gets it
  position : (g : Grid) (arg n : ℕ) → output_of (record { values = (made.state g).values; shared = v 13 ∷ v 12 ∷ []; inserts = (made.state g).inserts }) (v arg) ≡ Some n → output_of (made.state g) (v arg) ≡ Some n
  position g arg n e = (λ j. output_of (record { values = (made.state g).values; shared = (made.shared g ∙ begin.shared) j; inserts = (made.state g).inserts }) (v arg)) ∙ e

  noted : (o : Option Grid) → NotedAt 1 (picks ds os) o (insertions_of (then_grid o (λ g. run (insert_at 21 13 ∷ insert_at 22 12 ∷ []) (made.state g))))
  unfolding run
  noted None = tt
  noted (Some g) =
      let t : State = made.state g in
      let at : List ℕ = places_in t.values slice_out.offsets in
      let one : State = record { values = t.values; shared = t.shared; inserts = t.inserts ++ record { output = 0; tile = g; offsets = at } ∷ [] } in
      subst (λ w. NotedAt 1 (picks ds os) (Some g) (insertions_of w))
      (sym (is_noted t (record { 0 = 21 }) (v 20) (v 13) slice_out.offsets slice_out.sizes (insert_at 22 12 ∷ []) 0 32 g (made.holds g) (position g 13 0 refl)
      ∙ is_noted one (record { 0 = 22 }) (v 20) (v 12) slice_out.offsets slice_out.sizes [] 1 32 g (made.holds g) (position g 12 1 refl)))
      (λ j. into 1 (((made.inserts g ∙ begin.inserts) j ++ record { output = 0; tile = g; offsets = at } ∷ []) ++ record { output = 1; tile = g; offsets = output.slice.offsets t (made.knows g) j } ∷ []))

  pub notes_one : NotedAt 1 (picks ds os) (region_tile window os ns out) (insertions_of (run body s))
  notes_one = subst (λ w. NotedAt 1 (picks ds os) (region_tile window os ns out) (insertions_of w)) (sym (made.runs (insert_at 21 13 ∷ insert_at 22 12 ∷ []))) (noted (region_tile window os ns out))

notes : (q : List ℕ) → InBox (counts (cut_dims box ts)) q → NotedAt 1 (picks ds (tile_offsets box ts q)) (region_tile window (tile_offsets box ts q) (tile_sizes box ts q) out) (insertions_of (run body (forall_state u head q)))
notes [] h = absurd h
notes (k ∷ l ∷ q) h = absurd h.1
notes (k ∷ []) h = notes_one k h

pub convolved : GivesAt 1 (result_of window) ((v 9, t4) ∷ (v 10, t4) ∷ []) u (kind_meaning (Forall head.vars head.lower head.upper head.step head.shared body) ((v 9, t4) ∷ (v 10, t4) ∷ []) u)
convolved = tile_forall_gives window ts typed refl cuts u head 1 body ((v 9, t4) ∷ (v 10, t4) ∷ []) loop refl notes
