-- An instance of each law, ragged: out[i] += a[i, j] over 2 by 3, padded to 4 by 4, and packed by 2 and 2.
use Rattle.std.proofs.Common.{◌≡◌, ℕ, zero, suc, ◌+◌, ◌<◌, ◌^◌, true, false, List, [], ◌∷◌, ◌++◌, Some, inl, inr, refl, arith}
use Rattle.std.specs.Prelude.{option_map}
use Rattle.std.proofs.lemmas.Bool.{true≢false}
use Rattle.payload_ops.specs.Bits.{on_values}
use Rattle.payload_laws.specs.Known.{is_neutral_under}
use Rattle.payload_ops.specs.Values.{op_value}
use Rattle.payload_ops.specs.Shape.{PayloadShape}
use Rattle.payload_ops.specs.declared.kinds.BinOp.TheVariants.{Addi}
use Rattle.payload_ops.specs.declared.kinds.Combiner.TheVariants.{Add}
use Rattle.mlir_base.specs.declared.types.ElemTy.TheVariants.{Int}
use Rattle.payload_ops.specs.declared.step.Arg.TheVariants.{Input, Out, Step}
use Rattle.payload_ops.specs.declared.step.StepOp.TheVariants.{Binary}
use Rattle.mlir_meaning.specs.declared.values.Grid.{Grid}
use Rattle.mlir_meaning.specs.declared.values.Datum.TheVariants.{Cells}
use Rattle.mlir_meaning.specs.Grids.{at, InBox, Each}
use Rattle.mlir_meaning.specs.Moves.{pad_of, pack_of}
use Rattle.mlir_meaning.specs.Points.{has, select_map}
use Rattle.mlir_meaning.specs.Structured.{operand_extent, generic_result}
use Rattle.region_laws.specs.Operands.{IsPlain, IsThere, maps_of, Operand, olds, maps_in}
use Rattle.point_laws.specs.Folds.{Combines, CannotTrap}
use Rattle.move_laws.specs.Operands.{Moved, before}
use Rattle.move_laws.specs.Pads.{padded, Pads, Absorbs, pads_of, unpadded}
use Rattle.move_laws.specs.Packs.{packed, packed_box, packed_dims, packed_maps, Packs, PackAbsorbs, zeros_of, unpacked}
use Rattle.move_laws.proofs.Stated.{padded_is, packed_is}
use Rattle.region_laws.specs.Instances.{result_of}

abbrev a : Grid
a = record { extents = 2 ∷ 3 ∷ []; cells = 1 ∷ 2 ∷ 3 ∷ 4 ∷ 5 ∷ 6 ∷ [] }

abbrev out : Grid
out = record { extents = 2 ∷ []; cells = 10 ∷ 20 ∷ [] }

abbrev box : List ℕ
box = 2 ∷ 3 ∷ []

abbrev ds : List ℕ
ds = 0 ∷ []

abbrev add : PayloadShape
add = record { ins = Int 32 ∷ []; out = Int 32; steps = record { ty = Int 32; op = Binary Addi (Input 0) Out } ∷ []; yielded = Step 0 }

combines : Combines add
combines = record { is = refl; combiner = Add; term = Input 0; found = refl }

cannot : CannotTrap add
cannot = record { is = refl; never = refl }

below_two : (P : ℕ → Type 0) → P 0 → P 1 → (d : ℕ) → d < 2 → P d
below_two P x y zero l = x
below_two P x y (suc zero) l = y
below_two P x y (suc (suc d)) l = absurd (omega arith)

below : (p : List ℕ) → InBox (2 ∷ []) p → at out p < 2 ^ 32
below [] h = absurd h
below (i ∷ []) h = below_two (λ i. at out (i ∷ []) < 2 ^ 32) (omega arith) (omega arith) i h.0
below (i ∷ j ∷ p) h = absurd h.1

-- PADDED to 4 by 4
abbrev pad_os : List Operand
pad_os = record { axes = select_map 2 (0 ∷ 1 ∷ []); value = 0; old = Cells 32 a; new = Cells 32 (pad_of a (2 ∷ 1 ∷ []) 0) } ∷ []

abbrev pad_out : Grid
pad_out = pad_of out (2 ∷ []) 7

lt : (m n : ℕ) → m < m + (n + 1)
lt m n = omega arith

plain : Each (IsPlain 2) (select_map 2 (0 ∷ 1 ∷ [])).results
plain = ((refl, ((refl, lt 0 1), tt)), ((refl, ((refl, lt 1 0), tt)), tt))

abbrev pad_sums : Moved
pad_sums = record { box = box; inputs = pad_os; ds = ds; width = 32; old = out; new = pad_out; captured = []; payload = add }

pads : Pads box (4 ∷ 4 ∷ []) pad_os ds 32 7 out pad_out
pads = record {
  grows = (omega arith, (omega arith, tt));
  inputs = (((plain, ((lt 0 1, refl), ((lt 1 0, refl), tt))), inl refl), tt);
  selects = (lt 0 1, tt);
  extents = refl;
  alone = below_two (λ d. IsThere (operand_extent d (maps_of (maps_in pad_os) box ds) (olds pad_os ++ Cells 32 out ∷ []))) tt tt;
  output = inl refl;
}

-- 0 is neutral in the sum, at the new coordinates of dimension 1
absorbs : Absorbs box (4 ∷ 4 ∷ []) pad_os ds add out
absorbs = record {
  combines = combines;
  neutral = λ d l g h. below_two (λ d. has ds d ≡ false → is_neutral_under add (pads_of d pad_os) ≡ true) (λ h. absurd (true≢false h)) (λ h. refl) d l h;
  below = below;
}

-- the sums over rows: 10 + 1 + 2 + 3 and 20 + 4 + 5 + 6
-- of the padded sums, sliced back
padded_sums : option_map (unpadded (2 ∷ [])) (result_of (padded pad_sums (4 ∷ 4 ∷ []))) ≡ result_of (before pad_sums)
padded_sums = padded_is pad_sums (4 ∷ 4 ∷ []) 7 (record { pads = pads; cannot = cannot; kept = inr absorbs })

row_sums : result_of (before pad_sums) ≡ Some (Cells 32 (record { extents = 2 ∷ []; cells = 16 ∷ 35 ∷ [] }))
unfolding generic_result op_value on_values
row_sums = refl

-- PACKED by 2 and 2: dimension 1 is ragged, and a reduction
abbrev ts : List ℕ
ts = 2 ∷ 2 ∷ []

abbrev pack_os : List Operand
pack_os = record { axes = select_map 2 (0 ∷ 1 ∷ []); value = 0; old = Cells 32 a; new = Cells 32 (pack_of a (1 ∷ 2 ∷ 2 ∷ 2 ∷ []) (0 ∷ 1 ∷ []) (2 ∷ 2 ∷ []) 0) } ∷ []

abbrev pack_out : Grid
pack_out = pack_of out (1 ∷ 2 ∷ []) (0 ∷ []) (2 ∷ []) 0

packs : Packs box ts pack_os ds 32 out pack_out
packs = record {
  long = refl;
  inputs = (((plain, (tt, (tt, tt)), ((lt 0 1, refl), ((lt 1 0, refl), tt))), inl refl), tt);
  selects = (lt 0 1, tt);
  extents = refl;
  alone = below_two (λ d. IsThere (operand_extent d (maps_of (maps_in pack_os) box ds) (olds pack_os ++ Cells 32 out ∷ []))) tt tt;
  output = inl refl;
}

pack_absorbs : PackAbsorbs box ts pack_os ds add out
pack_absorbs = record {
  combines = combines;
  neutral = λ d l h c r. below_two (λ d. has ds d ≡ false → is_neutral_under add (zeros_of d pack_os) ≡ true) (λ h. absurd (true≢false h)) (λ h. refl) d l h;
  below = below;
}

-- its maps are (d0, d1, d2, d3) to (d0, d1, d2, d3) and to (d0, d2)
pack_maps : maps_of (packed_maps ts pack_os) (packed_box box ts) (packed_dims ts ds) ≡ select_map 4 (0 ∷ 1 ∷ 2 ∷ 3 ∷ []) ∷ select_map 4 (0 ∷ 2 ∷ []) ∷ []
pack_maps = refl

abbrev pack_sums : Moved
pack_sums = record { box = box; inputs = pack_os; ds = ds; width = 32; old = out; new = pack_out; captured = []; payload = add }

packed_sums : option_map (unpacked (2 ∷ []) (2 ∷ []) 32) (result_of (packed pack_sums ts)) ≡ result_of (before pack_sums)
packed_sums = packed_is pack_sums ts (record { packs = packs; free = (tt, tt); cannot = cannot; kept = inr pack_absorbs })
