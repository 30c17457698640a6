-- The payload on a tile is one, and gives at a point what the payload gives at the point moved.
use Rattle.std.proofs.Common.{◌≡◌, ℕ, zero, suc, ◌+◌, ◌-◌, ◌<◌, ◌%◌, ◌^◌, ◌&&◌, true, pos, ◌+ℤ◌, ℤ, List, [], ◌∷◌, ◌++◌, map, length, get_or, Option, Some, refl, ap, sym, ◌∙◌, arith, length-append, append_assoc}
use Rattle.std.specs.Prelude.{option_map}
use Rattle.std.specs.List.{list_all}
use Rattle.std.proofs.Math.Nat.{mod-add-mod, add-mod-mod}
use Rattle.std.proofs.lemmas.Int.{ints}
use Rattle.std.proofs.lemmas.List.{get_or_at, get_or_append_left}
use Rattle.payload_ops.specs.Bits.{reduce}
use Rattle.payload_ops.specs.Payload.{IsPayload, has_type, term_fits, steps_fit}
use Rattle.mlir_base.specs.Numbers.{is_in_range}
use Rattle.payload_ops.specs.Shape.{PayloadShape}
use Rattle.payload_ops.specs.Values.{Given, arg_value, terms_sum, op_value, steps_values, payload_value, is_supplied}
use Rattle.mlir_base.specs.declared.types.ElemTy.TheVariants.{Int, Index as IndexType}
use Rattle.payload_ops.specs.declared.step.Arg.{Arg}
use Rattle.payload_ops.specs.declared.step.Arg.TheVariants.{Step}
use Rattle.payload_ops.specs.declared.step.PayloadStep.{PayloadStep}
use Rattle.payload_ops.proofs.Words.{reduce_is}
use Rattle.mlir_meaning.specs.Grids.{plus, Fits, Each}
use Rattle.point_laws.proofs.Tables.{get_or-plus, tabled_at, tabled_length}
use Rattle.region_laws.specs.Operands.{IsMoved}
use Rattle.payload_forms.specs.Moved.{index_step, linear_step}
use Rattle.payload_forms.specs.Captured.{fronts, hoisted, hoisted_to, hoisted_rest}
use Rattle.region_laws.specs.Shifts.{Offset, NoOffset, FixedOffset, HeldOffset, plus_offset, moved_index, tile_payload, tile_captured, IsOffset}
use Rattle.region_laws.specs.Laws.{IndicesMove}
use Rattle.region_laws.proofs.Moves.{type_in, type_kept, type_new}
use Rattle.region_laws.proofs.Alike.{Indexes}
use Rattle.region_laws.proofs.Fronts.{captured_values, front_at}
use Rattle.region_laws.proofs.Hoisting.{IsAny, hoisted_here, hoisted_fits}
use Rattle.region_laws.proofs.Behind.{AreFree, blocks_free, behind_yield}
use Rattle.region_laws.proofs.Placing.{placed_gives}

low_sum : (a : ℕ) (z : ℤ) → z ≡ pos a → reduce 64 z ≡ a % 2 ^ 64
low_sum a z e = reduce_is 64 0 a z (omega (arith, ints))

-- a sum of numbers modulo 2^64
sum_moved : (p o q x y : ℕ) → q ≡ p + o → x ≡ p % 2 ^ 64 → y % 2 ^ 64 ≡ o % 2 ^ 64 → (x + y) % 2 ^ 64 ≡ q % 2 ^ 64
sum_moved p o q x y e f g =
    sym (add-mod-mod x y (2 ^ 64)) ∙ (λ j. (f j + g j) % 2 ^ 64) ∙ mod-add-mod p (2 ^ 64) (o % 2 ^ 64) ∙ add-mod-mod p o (2 ^ 64) ∙ ap (λ m. m % 2 ^ 64) (sym e)

module _ (payload : PayloadShape) (box os outer outer' ins : List ℕ) (out c : ℕ) (f : ℕ → ℕ) (offsets : ℕ → Offset) (p q : List ℕ)
    (moved : (d : ℕ) → get_or q d 0 ≡ get_or p d 0 + get_or os d 0) where
  abbrev new : Given
  new = record { point = p; outer = outer'; ins = ins; out = out }

  abbrev old : Given
  old = record { point = q; outer = outer; ins = ins; out = out }

  abbrev p' : PayloadShape
  p' = hoisted (moved_index offsets) c f payload

  abbrev known : List ℕ
  known = captured_values p' new c

  module _ (d : ℕ) (pre' mid : List PayloadStep) (front : pre' ≡ fronts c ++ mid) where
    abbrev n : ℕ
    n = length pre'

    abbrev first : PayloadStep
    first = index_step d

    abbrev x : ℕ
    x = get_or p d 0 % 2 ^ 64

    abbrev Here : List PayloadStep → Type 0
    Here b = (steps_fit p'.ins p'.out b pre' ≡ true) × (type_in p' (pre' ++ b) (Step (n + length b - 1)) ≡ Some IndexType)
        × ((done' rest : List ℕ) → length done' ≡ n → done' ≡ known ++ rest →
        (ws : List ℕ) × (length ws ≡ length b) × (steps_values p' new b done' ≡ Some (done' ++ ws)) × (get_or (done' ++ ws) (n + length b - 1) 0 ≡ get_or q d 0 % 2 ^ 64))

    -- the index itself
    still : get_or os d 0 ≡ 0 → Here (first ∷ [])
    unfolding op_value
    still z = (
      refl,
      type_new p' pre' first [] (n + 1 - 1) (omega arith),
      λ done' rest k b. (
        x ∷ [],
        refl,
        refl,
        get_or_at done' x [] 0 (n + 1 - 1) (omega (arith, k)) ∙ ap (λ m. m % 2 ^ 64) (let e : get_or p d 0 ≡ get_or q d 0 = omega (arith, moved d, z) in e),
      ),
    )

    -- and a sum behind it
    module _ (constant : ℤ) (terms : List (Arg × ℤ)) where
      abbrev last : PayloadStep
      last = linear_step constant terms

      added_type : type_in p' (pre' ++ first ∷ last ∷ []) (Step (n + 2 - 1)) ≡ Some IndexType
      added_type = ap (λ l. type_in p' l (Step (n + 2 - 1))) (sym (append_assoc pre' (first ∷ []) (last ∷ []))) ∙ type_new p' (pre' ++ first ∷ []) last [] (n + 2 - 1) (omega (arith, length-append pre' (first ∷ [])))

      first_type : type_in p' (pre' ++ first ∷ []) (Step n) ≡ Some IndexType
      first_type = type_new p' pre' first [] n refl

      longer : length (pre' ++ first ∷ []) ≡ suc n
      longer = omega (arith, length-append pre' (first ∷ []))

      -- its value is y
      module _ (y : ℕ) (in_range : is_in_range constant ≡ true) (fit : list_all (term_fits (type_in p' (pre' ++ first ∷ []))) terms ≡ true)
          (sum : (done' rest : List ℕ) → length done' ≡ n → done' ≡ known ++ rest → reduce 64 (constant +ℤ terms_sum (arg_value new (done' ++ x ∷ [])) terms) ≡ get_or q d 0 % 2 ^ 64) where
        added : Here (first ∷ last ∷ [])
        unfolding op_value
        added = (
          (λ j. (in_range j && fit j) && true),
          added_type,
          λ done' rest k b.
              let v = reduce 64 (constant +ℤ terms_sum (arg_value new (done' ++ x ∷ [])) terms) in (
                x ∷ v ∷ [],
                refl,
                ap Some (append_assoc done' (x ∷ []) (v ∷ [])),
                ap (λ l. get_or l (n + 2 - 1) 0) (sym (append_assoc done' (x ∷ []) (v ∷ [])))
                    ∙ get_or_at (done' ++ x ∷ []) v [] 0 (n + 2 - 1) (omega (arith, length-append done' (x ∷ []), k)) ∙ sum done' rest k b,
              ),
        )

    here_x : (done' : List ℕ) → length done' ≡ n → get_or (done' ++ x ∷ []) n 0 ≡ x
    here_x done' k = get_or_at done' x [] 0 n k

    by : (o : Offset) → IsOffset c outer' (get_or os d 0) o → Here (first ∷ plus_offset n o)
    by NoOffset h = still h
    by (FixedOffset m) h =
        added (pos m) ((Step n, pos 1) ∷ []) 0 h.1
        (λ j. (has_type (first_type (pos m) [] j) IndexType && true) && true)
        (λ done' rest k b.
        let y = get_or (done' ++ x ∷ []) n 0 in
        low_sum (y + m) _ (omega (arith, ints)) ∙ sum_moved (get_or p d 0) (get_or os d 0) (get_or q d 0) y m (moved d) (here_x done' k) (ap (λ o. o % 2 ^ 64) h.0))
    by (HeldOffset j) h =
        added (pos 0) ((Step n, pos 1) ∷ (Step j, pos 1) ∷ []) 0 refl
        (λ i. (has_type (first_type (pos 0) [] i) IndexType && true) && ((has_type (held_type i) IndexType && true) && true))
        (λ done' rest k b.
        let y = get_or (done' ++ x ∷ []) n 0 in
        let z = get_or (done' ++ x ∷ []) j 0 in
        low_sum (y + z) _ (omega (arith, ints))
        ∙ sum_moved (get_or p d 0) (get_or os d 0) (get_or q d 0) y z (moved d) (here_x done' k) (ap (λ o. o % 2 ^ 64) (held_value done' rest k b) ∙ mod-mod (get_or outer' j 0) ∙ h.1))
      where
        held_type : type_in p' (pre' ++ first ∷ []) (Step j) ≡ Some IndexType
        held_type = type_kept p' pre' (first ∷ []) (Step j) IndexType (ap (λ l. type_in p' l (Step j)) front
            ∙ type_kept p' (fronts c) mid (Step j) IndexType (ap (λ (o : Option PayloadStep). option_map (λ (s : PayloadStep). s.ty) o) (front_at c j h.0)))

        held_value : (done' rest : List ℕ) → length done' ≡ n → done' ≡ known ++ rest → get_or (done' ++ x ∷ []) j 0 ≡ get_or outer' j 0 % 2 ^ 64
        held_value done' rest k b =
            let long : length known ≡ c = tabled_length (λ i. get_or outer' i 0 % 2 ^ 64) c in
            let behind : length done' ≡ length known + length rest = ap length b ∙ length-append known rest in
            get_or_append_left done' (x ∷ []) 0 j (omega (arith, h.0, long, behind))
            ∙ ap (λ l. get_or l j 0) b ∙ get_or_append_left known rest 0 j (omega (arith, h.0, long)) ∙ tabled_at (λ i. get_or outer' i 0 % 2 ^ 64) c j 0 h.0

        mod-mod : (m : ℕ) → (m % 2 ^ 64) % 2 ^ 64 ≡ m % 2 ^ 64
        mod-mod m = let e = add-mod-mod m 0 (2 ^ 64) in grind arith

    index_is : (N : Arg → Type 0) → IsOffset c outer' (get_or os d 0) (offsets d) → Indexes payload p' old new (hoisted_to (moved_index offsets) c f payload) ([], known) (fronts c) N (moved_index offsets) f d pre'
    index_is N h = let r = by (offsets d) h in record { fits = r.0; typed = r.1; runs = r.2 }

  module _ (good : IsPayload payload) (supplied : Each (λ (s : PayloadStep). is_supplied (length box) (length outer) s.op ≡ true) payload.steps)
      (places : (k : ℕ) → k < length outer → (f k < c) × (get_or outer' (f k) 0 ≡ get_or outer k 0)) (adds : (d : ℕ) → d < length box → IsOffset c outer' (get_or os d 0) (offsets d)) where
    indexes : (d : ℕ) → d < length box → (pre' mid : List PayloadStep) → pre' ≡ fronts c ++ mid →
        Indexes payload p' old new (hoisted_to (moved_index offsets) c f payload) ([], known) (fronts c) IsAny (moved_index offsets) f d pre'
    indexes d l pre' mid m = index_is d pre' mid m IsAny (adds d l)

    pub front_gives : payload_value p' new ≡ payload_value payload old
    front_gives = hoisted_here (moved_index offsets) c (length box) (length outer) f payload good supplied (λ k l. (places k l).0) old new refl refl (λ k l. (places k l).1) indexes

    pub front_good : IsPayload p'
    front_good = hoisted_fits (moved_index offsets) c (length box) (length outer) f payload good supplied (λ k l. (places k l).0) old new refl refl (λ k l. (places k l).1) indexes

-- no step of the tile's payload but those in front is a captured value
moved_free : (offsets : ℕ → Offset) (d n : ℕ) → AreFree (moved_index offsets d n)
moved_free offsets d n = (tt, by (offsets d)) where
  by : (o : Offset) → AreFree (plus_offset n o)
  by NoOffset = tt
  by (FixedOffset m) = (tt, tt)
  by (HeldOffset j) = (tt, tt)

module _ (payload : PayloadShape) (w : ℕ) (box os ns outer outer' : List ℕ) (c : ℕ) (f : ℕ → ℕ) (offsets : ℕ → Offset) (fits : Fits box os ns) (good : IsPayload payload) (out_is : payload.out ≡ Int w)
    (supplied : Each (λ (s : PayloadStep). is_supplied (length box) (length outer) s.op ≡ true) payload.steps)
    (places : (k : ℕ) → k < length outer → (f k < c) × (get_or outer' (f k) 0 ≡ get_or outer k 0)) (adds : (d : ℕ) → d < length box → IsOffset c outer' (get_or os d 0) (offsets d)) where
  abbrev rest : List PayloadStep
  rest = hoisted_rest (moved_index offsets) c f payload

  abbrev yields : Arg
  yields = hoisted_to (moved_index offsets) c f payload payload.yielded

  abbrev tiled : PayloadShape
  tiled = tile_payload offsets c f payload

  abbrev captured : List ℕ
  captured = map (λ k. get_or outer' k 0) (tile_captured offsets c f payload)

  -- any point and any values will do to see that the types fit
  whole_good : IsPayload (hoisted (moved_index offsets) c f payload)
  whole_good = front_good payload box os outer outer' [] 0 c f offsets [] os zero_at good supplied places adds where
    zero_at : (d : ℕ) → get_or os d 0 ≡ get_or [] d 0 + get_or os d 0
    zero_at zero = omega arith
    zero_at (suc d) = omega arith

  placed_is : (point ins : List ℕ) (out : ℕ) →
      IsPayload tiled × (payload_value tiled (record { point = point; outer = captured; ins = ins; out = out })
      ≡ payload_value (hoisted (moved_index offsets) c f payload) (record { point = point; outer = outer'; ins = ins; out = out }))
  placed_is point ins out = placed_gives c payload.ins payload.out rest yields whole_good
      (blocks_free (moved_index offsets) (moved_free offsets) (hoisted_to (moved_index offsets) c f payload) (length (fronts c)) payload.steps)
      (behind_yield c payload.ins payload.out rest w out_is yields whole_good) point outer' ins out

  tile_moves : IsMoved os ns payload outer tiled captured
  tile_moves p b ins out =
      (placed_is p ins out).1
      ∙ front_gives payload box os outer outer' ins out c f offsets p (plus p os) (λ d. get_or-plus box os ns p d fits b) good supplied places adds

  pub tile_payload_moves : IsPayload tiled × IsMoved os ns payload outer tiled captured
  tile_payload_moves = ((placed_is [] [] 0).0, tile_moves)

pub indices_move : IndicesMove
indices_move payload w box os ns outer outer' c f offsets fits good out_is supplied places adds =
    tile_payload_moves payload w box os ns outer outer' c f offsets fits good out_is supplied places adds
