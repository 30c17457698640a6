-- An instance of each law, ragged: out[i] += a[i, j] over 2 by 3 on lanes of 4 by 4, and out[i] = a[i] + a[i] over 3 on 4 lanes.
use Rattle.std.proofs.Common.{◌≡◌, ℕ, zero, suc, get_or, not, ◌+◌, ◌<◌, ◌^◌, true, false, List, [], ◌∷◌, Some, refl, arith, Option}
use Rattle.std.proofs.lemmas.Bool.{false≢true}
use Rattle.payload_ops.specs.Values.{arg_bits}
use Rattle.payload_ops.specs.Shape.{PayloadShape}
use Rattle.payload_ops.specs.declared.kinds.BinOp.TheVariants.{Addi}
use Rattle.payload_ops.specs.declared.kinds.Combiner.TheVariants.{Add}
use Rattle.mlir_base.specs.declared.types.ElemTy.TheVariants.{Int}
use Rattle.payload_ops.specs.declared.step.Arg.TheVariants.{Input, Out, Step}
use Rattle.payload_ops.specs.declared.step.StepOp.TheVariants.{Binary}
use Rattle.mlir_meaning.specs.declared.values.Grid.{Grid}
use Rattle.mlir_meaning.specs.declared.values.Datum.{Datum}
use Rattle.mlir_meaning.specs.declared.values.Datum.TheVariants.{Bits, Cells}
use Rattle.mlir_meaning.specs.Grids.{at, InBox, Each}
use Rattle.mlir_meaning.specs.Points.{has, place_of, select_map}
use Rattle.mlir_meaning.specs.States.{width_of}
use Rattle.mlir_meaning.specs.Structured.{operand_extent}
use Rattle.mlir_meaning.specs.Vectors.{mask_of, read_of, write_of, reduction_of}
use Rattle.region_laws.specs.Operands.{IsPlain, IsThere, IsTyped, maps_of}
use Rattle.point_laws.specs.Folds.{CannotTrap}
use Rattle.region_laws.proofs.Extents.{typed_by}
use Rattle.lane_laws.specs.Lanes.{transfer_map, lane_arg, lane_steps, LaneInput, Selects, WriteBack, OnVectors, IsVectorized, whole}
use Rattle.lane_laws.proofs.LaneReductions.{Chooses, mask_chooses}
use Rattle.lane_laws.proofs.Parallel.{outputs}
use Rattle.lane_laws.proofs.Stated.{lanes, reduced}
use Rattle.region_laws.specs.Instances.{result_of}

abbrev a : Grid
a = record { extents = 2 ∷ 3 ∷ []; cells = 1 ∷ 2 ∷ 3 ∷ 4 ∷ 5 ∷ 6 ∷ [] }

abbrev out : Grid
out = record { extents = 2 ∷ []; cells = 10 ∷ 20 ∷ [] }

abbrev box : List ℕ
box = 2 ∷ 3 ∷ []

abbrev ds : List ℕ
ds = 0 ∷ []

abbrev add : PayloadShape
add = record { ins = Int 32 ∷ []; out = Int 32; steps = record { ty = Int 32; op = Binary Addi (Input 0) Out } ∷ []; yielded = Step 0 }

cannot : CannotTrap add
cannot = record { is = refl; never = refl }

below_two : (P : ℕ → Type 0) → P 0 → P 1 → (d : ℕ) → d < 2 → P d
below_two P x y zero l = x
below_two P x y (suc zero) l = y
below_two P x y (suc (suc d)) l = absurd (omega arith)

below : (p : List ℕ) → InBox (2 ∷ []) p → at out p < 2 ^ 32
below [] h = absurd h
below (i ∷ []) h = below_two (λ i. at out (i ∷ []) < 2 ^ 32) (omega arith) (omega arith) i h.0
below (i ∷ j ∷ p) h = absurd h.1

lt : (m n : ℕ) → m < m + (n + 1)
lt m n = omega arith

plain : Each (IsPlain 2) (select_map 2 (0 ∷ 1 ∷ [])).results
plain = ((refl, ((refl, lt 0 1), tt)), ((refl, ((refl, lt 1 0), tt)), tt))

alone : (d : ℕ) → d < 2 → IsThere (operand_extent d (maps_of (select_map 2 (0 ∷ 1 ∷ []) ∷ []) box ds) (Cells 32 a ∷ Cells 32 out ∷ []))
alone = below_two (λ d. IsThere (operand_extent d (maps_of (select_map 2 (0 ∷ 1 ∷ []) ∷ []) box ds) (Cells 32 a ∷ Cells 32 out ∷ []))) tt tt

-- LANES of 4 by 4: the input is read under a mask of 2 by 3, and so are the terms; the output has lanes of 4 under a mask of 2
abbrev vs : List ℕ
vs = 4 ∷ 4 ∷ []

abbrev term : Grid
term = read_of a (0 ∷ 0 ∷ []) 0 (Some (Cells 1 (mask_of (2 ∷ 3 ∷ []) vs))) (transfer_map (0 ∷ 1 ∷ []) (0 ∷ 1 ∷ [])) vs

abbrev sum_so_far : Grid
sum_so_far = read_of out (0 ∷ []) 0 (Some (Cells 1 (mask_of (2 ∷ []) (4 ∷ [])))) (transfer_map (0 ∷ []) (0 ∷ [])) (4 ∷ [])

abbrev input : LaneInput
input = record { dims = 0 ∷ 1 ∷ []; old = Cells 32 a; vector = Cells 32 term }

typed : IsTyped box (select_map 2 (0 ∷ 1 ∷ []) ∷ []) ds (Cells 32 a ∷ []) 32 out
typed = typed_by box (select_map 2 (0 ∷ 1 ∷ []) ∷ []) ds (Cells 32 a ∷ []) 32 out (record {
  inputs = ((plain, ((lt 0 1, refl), ((lt 1 0, refl), tt))), tt);
  selects = (lt 0 1, tt);
  extents = refl;
  alone = alone;
})

one_place : (P : ℕ → Type 0) → P 0 → (d : ℕ) → d < 1 → P d
one_place P x zero l = x
one_place P x (suc d) l = absurd (omega arith)

abbrev sums : OnVectors
sums = record { box = box; lanes = vs; inputs = input ∷ []; ds = ds; width = 32; out = out; captured = []; payload = add }

abbrev out_mask : Option Datum
out_mask = Some (Cells 1 (mask_of (2 ∷ []) (4 ∷ [])))

sums_selects : Selects box ds out
sums_selects = record { once = one_place (λ k. place_of (get_or ds k 0) 0 ds ≡ k) refl; below = (lt 0 1, tt); extents = refl }

vectorized : IsVectorized sums (λ k. true)
vectorized = record {
  grows = (omega arith, (omega arith, tt));
  selects = sums_selects;
  typed = typed;
  cannot = cannot;
  inputs = (
    (λ t. (
      record { once = below_two (λ k. place_of (get_or (0 ∷ 1 ∷ []) k 0) 0 (0 ∷ 1 ∷ []) ≡ k) refl refl; below = (lt 0 1, (lt 1 0, tt)); extents = refl },
      term,
      refl,
      record { offsets = 0 ∷ 0 ∷ []; at_zero = refl; mask = Some (Cells 1 (mask_of (2 ∷ 3 ∷ []) vs)); is_mask = refl; is = refl },
    )),
    tt,
  );
}

masked_sums : result_of (whole sums)
    ≡ Some (Cells 32 (write_of (reduction_of Add 32 (mask_chooses box vs 32 0 term).grid sum_so_far (1 ∷ [])) (0 ∷ []) out_mask (transfer_map (0 ∷ []) ds) out))
masked_sums =
    let m : Chooses box vs 32 0 term = mask_chooses box vs 32 0 term in
    let r = reduced sums (λ k. true) vectorized
    (record { steps = (((refl, lt 0 0), refl), tt); yielded = lt 0 0 })
    (record { inputs = λ k t l. one_place (λ k. width_of (get_or (Cells 32 term ∷ []) k (Bits 0)) ≡ arg_bits add (Input k)) refl k l; output = λ t. absurd (false≢true t) })
    (1 ∷ []) Add (Input 0) refl
    (outputs 2 ds (1 ∷ []) (lt 0 1, tt) (below_two (λ d. has (1 ∷ []) d ≡ not (has ds d)) refl refl)) below in
    r.3 term m.grid sum_so_far
    (write_of (reduction_of Add 32 m.grid sum_so_far (1 ∷ [])) (0 ∷ []) out_mask (transfer_map (0 ∷ []) ds) out)
    refl m.chosen (record { offsets = 0 ∷ []; at_zero = refl; mask = out_mask; is_mask = refl; is = refl })
    (record { offsets = 0 ∷ []; at_zero = refl; mask = out_mask; is_mask = refl; is = refl })

-- PARALLEL LANES: out[i] = a[i] + a[i] over 3, on 4 lanes under a mask
abbrev row : Grid
row = record { extents = 3 ∷ []; cells = 1 ∷ 2 ∷ 3 ∷ [] }

abbrev double : PayloadShape
double = record { ins = Int 32 ∷ []; out = Int 32; steps = record { ty = Int 32; op = Binary Addi (Input 0) (Input 0) } ∷ []; yielded = Step 0 }

abbrev row_read : Grid
row_read = read_of row (0 ∷ []) 0 (Some (Cells 1 (mask_of (3 ∷ []) (4 ∷ [])))) (transfer_map (0 ∷ []) (0 ∷ [])) (4 ∷ [])

row_typed : IsTyped (3 ∷ []) (select_map 1 (0 ∷ []) ∷ []) ds (Cells 32 row ∷ []) 32 row
row_typed = typed_by (3 ∷ []) (select_map 1 (0 ∷ []) ∷ []) ds (Cells 32 row ∷ []) 32 row (record {
  inputs = (((((refl, ((refl, lt 0 0), tt)), tt), ((lt 0 0, refl), tt))), tt);
  selects = (lt 0 0, tt);
  extents = refl;
  alone = one_place (λ d. IsThere (operand_extent d (maps_of (select_map 1 (0 ∷ []) ∷ []) (3 ∷ []) ds) (Cells 32 row ∷ Cells 32 row ∷ []))) tt;
})

row_selects : Selects (3 ∷ []) ds row
row_selects = record { once = one_place (λ k. place_of (get_or ds k 0) 0 ds ≡ k) refl; below = (lt 0 0, tt); extents = refl }

abbrev doubles : OnVectors
doubles = record {
  box = 3 ∷ [];
  lanes = 4 ∷ [];
  inputs = record { dims = 0 ∷ []; old = Cells 32 row; vector = Cells 32 row_read } ∷ [];
  ds = ds;
  width = 32;
  out = row;
  captured = [];
  payload = double;
}

masked_doubles : (all : List Datum) × (lane_steps (Cells 32 row_read ∷ []) (Bits 0) (4 ∷ []) double.steps [] ≡ Some all)
    × ((v w : Grid) → lane_arg (Cells 32 row_read ∷ []) (Bits 0) all (Step 0) ≡ Cells 32 v → v.extents ≡ 4 ∷ [] → WriteBack (4 ∷ []) (0 ∷ []) ds row v w →
    result_of (whole doubles) ≡ Some (Cells 32 w))
masked_doubles =
    lanes doubles (λ k. true)
    (record {
      grows = (omega arith, tt);
      selects = row_selects;
      typed = row_typed;
      cannot = record { is = refl; never = refl };
      inputs = (
        (λ t. (row_selects, row_read, refl, record { offsets = 0 ∷ []; at_zero = refl; mask = Some (Cells 1 (mask_of (3 ∷ []) (4 ∷ []))); is_mask = refl; is = refl })),
        tt,
      );
    })
    false (Bits 0) (λ t. absurd (false≢true t)) (record { steps = (((refl, lt 0 0), (refl, lt 0 0)), tt); yielded = lt 0 0 })
    (record { inputs = λ k t l. one_place (λ k. width_of (get_or (Cells 32 row_read ∷ []) k (Bits 0)) ≡ arg_bits double (Input k)) refl k l; output = λ t. absurd (false≢true t) })
    (one_place (λ k. has ds (get_or (0 ∷ []) k 0) ≡ true) refl)
