-- What the forms of a tile are worth.
use Rattle.std.proofs.Common.{◌≡◌, ℕ, ℤ, pos, neg_ℤ, ◌+ℤ◌, ◌-ℤ◌, ◌*ℤ◌, ◌<◌, ◌+◌, length, drop, get_or, List, [], ◌∷◌, ◌++◌, Option, Some, None, refl, sym, ap, ◌∙◌, arith, append_assoc}
use Rattle.std.specs.Prelude.{slice_get}
use Rattle.std.proofs.Common.{add-one}
use Rattle.std.proofs.Math.Seq.{drop-cons}
use Rattle.std.proofs.lemmas.Int.{ints}
use Rattle.affine_maps.specs.Value.{weighted_sum}
use Rattle.affine_maps.proofs.Integers.{add_over_mul}
use Rattle.index_forms.specs.Forms.{terms_value}
use Rattle.mlir_ir.specs.declared.tree.Idx.{Idx}
use Rattle.mlir_ir.specs.declared.tree.Idx.TheVariants.{Literal, Value}
use Rattle.operand_slices.specs.Slices.{number_of, number_at, terms_of, terms_at}
use Rattle.operand_slices.specs.Laws.{worth, worth_at, OffsetsAreAtOffsets, SizesReach}

weighted_same : (f g : ℕ → ℤ) (ts : List (ℕ × ℤ)) → ((k : ℕ) → f k ≡ g k) → weighted_sum ts f ≡ weighted_sum ts g
weighted_same f g ts h = λ j. weighted_sum ts (λ k. h k j)

-- nothing is taken off
pub none_less : (f : ℕ → ℤ) (ts : List (ℕ × ℤ)) → weighted_sum ts (λ d. f d -ℤ pos 0) ≡ weighted_sum ts f
none_less f ts = weighted_same (λ d. f d -ℤ pos 0) f ts (λ k. same (f k)) where
  same : (z : ℤ) → z -ℤ pos 0 ≡ z
  same z = omega (arith, ints)

terms_value_append : (xs ys : List (ℕ × ℤ)) (env : ℕ → ℤ) → terms_value (xs ++ ys) env ≡ terms_value xs env +ℤ terms_value ys env
terms_value_append [] ys env = zero_left (terms_value ys env) where
  zero_left : (z : ℤ) → z ≡ pos 0 +ℤ z
  zero_left z = omega (arith, ints)
terms_value_append (x ∷ xs) ys env = by _ _ _ _ (terms_value_append xs ys env) where
  by : (a b c d : ℤ) → d ≡ b +ℤ c → a +ℤ d ≡ (a +ℤ b) +ℤ c
  by a b c d h = omega (arith, ints)

-- an entry is its number and its terms
entry_worth : (c : ℤ) (x : Option Idx) (env : ℕ → ℤ) → c *ℤ number_of x +ℤ terms_value (terms_of c x) env ≡ c *ℤ worth env x
entry_worth c (Some (Literal n)) env = zero_right (c *ℤ n) where
  zero_right : (z : ℤ) → z +ℤ pos 0 ≡ z
  zero_right z = omega (arith, ints)
entry_worth c (Some (Value v)) env = by (c *ℤ env v.0) where
  by : (z : ℤ) → c *ℤ pos 0 +ℤ (z +ℤ pos 0) ≡ z
  by z = omega (arith, ints)
entry_worth c None env = omega (arith, ints)

-- a sum over the entries, each made less
sum_worth : (ts : List (ℕ × ℤ)) (xs : List Idx) (env : ℕ → ℤ) (less : ℤ) →
    weighted_sum ts (λ d. number_at xs d -ℤ less) +ℤ terms_value (terms_at ts xs) env ≡ weighted_sum ts (λ d. worth_at env xs d -ℤ less)
sum_worth [] xs env less = refl
sum_worth (t ∷ ts) xs env less =
    let x = slice_get xs t.0 in
    joined _ _ _ _ _ _ _ _ _ _ (less_times t.1 (number_of x) less) (less_times t.1 (worth env x) less)
    (terms_value_append (terms_of t.1 x) (terms_at ts xs) env) (entry_worth t.1 x env)
    (sum_worth ts xs env less) where
      less_times : (a b c : ℤ) → a *ℤ (b -ℤ c) ≡ a *ℤ b +ℤ a *ℤ neg_ℤ c
      less_times a b c = ap (λ (z : ℤ). a *ℤ z) (as_sum b c) ∙ add_over_mul a b (neg_ℤ c) where
        as_sum : (y z : ℤ) → y -ℤ z ≡ y +ℤ neg_ℤ z
        as_sum y z = omega (arith, ints)

      joined : (n w m e f r s p q u : ℤ) → p ≡ n +ℤ m → q ≡ w +ℤ m → u ≡ e +ℤ f → n +ℤ e ≡ w → r +ℤ f ≡ s → (p +ℤ r) +ℤ u ≡ q +ℤ s
      joined n w m e f r s p q u a b c d g = omega (arith, ints)

-- the terms at entries, one term more
pub terms_opened : (ts : List (ℕ × ℤ)) (xs : List Idx) (i : ℕ) → i < length ts →
    terms_at (drop i ts) xs ≡ terms_of (get_or ts i (0, pos 0)).1 (slice_get xs (get_or ts i (0, pos 0)).0) ++ terms_at (drop (i + 1) ts) xs
terms_opened ts xs i h =
    ap (λ l. terms_at l xs) (drop-cons ts i (0, pos 0) h)
    ∙ ap (λ k. terms_of (get_or ts i (0, pos 0)).1 (slice_get xs (get_or ts i (0, pos 0)).0) ++ terms_at (drop k ts) xs) (sym (add-one i))

pub terms_step : (ts : List (ℕ × ℤ)) (xs : List Idx) (i : ℕ) (all new part whole : List (ℕ × ℤ)) → i < length ts → new ≡ all ++ part →
    part ≡ terms_of (get_or ts i (0, pos 0)).1 (slice_get xs (get_or ts i (0, pos 0)).0) → all ++ terms_at (drop i ts) xs ≡ whole →
    new ++ terms_at (drop (i + 1) ts) xs ≡ whole
terms_step ts xs i all new part whole h e f g =
    let rest = terms_at (drop (i + 1) ts) xs in
    ap (λ l. l ++ rest) e ∙ append_assoc all part rest ∙ ap (λ l. all ++ (l ++ rest)) f
    ∙ ap (λ l. all ++ l) (sym (terms_opened ts xs i h)) ∙ g

sums_joined : (k a b e : ℤ) → a +ℤ e ≡ b → (k +ℤ a) +ℤ e ≡ k +ℤ b
sums_joined k a b e h = omega (arith, ints)

pub offsets_are_at_offsets : OffsetsAreAtOffsets
offsets_are_at_offsets e offsets env =
    sums_joined e.constant _ _ (terms_value (terms_at e.terms offsets) env)
    (ap (λ (z : ℤ). z +ℤ terms_value (terms_at e.terms offsets) env) (sym (none_less (number_at offsets) e.terms))
    ∙ sum_worth e.terms offsets env (pos 0)
    ∙ none_less (worth_at env offsets) e.terms)

pub sizes_reach : SizesReach
sizes_reach e sizes env =
    sums_joined (pos 1) (weighted_sum e.terms (λ d. number_at sizes d -ℤ pos 1)) _ (terms_value (terms_at e.terms sizes) env)
    (sum_worth e.terms sizes env (pos 1))
