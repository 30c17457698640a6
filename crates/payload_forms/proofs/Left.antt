-- Steps that are still to be placed, and the numbers of all.
use Rattle.std.proofs.Common.{◌≡◌, ℕ, zero, suc, ◌+◌, ◌-◌, ◌<◌, Bool, true, false, List, [], ◌∷◌, ◌++◌, map, length, get_or, drop, length-append, refl, ap, sym, ◌∙◌, arith, append_assoc, ltb-true}
use Rattle.std.specs.Prelude.{nat_lt, if◌then◌else◌}
use Rattle.std.proofs.lemmas.Bool.{ltb-false}
use Rattle.std.proofs.lemmas.List.{length-map, get_or-map, get_or_append_left, get_or-append_right, get_or-drop, drop_more, drop-drop}
use Rattle.payload_ops.specs.declared.step.Arg.{Arg}
use Rattle.payload_ops.specs.declared.step.Arg.TheVariants.{Input, Out, Step}
use Rattle.payload_ops.specs.declared.step.PayloadStep.{PayloadStep}
use Rattle.mlir_meaning.specs.Grids.{count_up}
use Rattle.mlir_meaning.specs.Points.{place_of}
use Rattle.payload_forms.specs.declared.renaming.Inputs.TheVariants.{Kept}
use Rattle.payload_forms.specs.Captured.{named, used, spots, others, placed_steps, placed_to}
use Rattle.payload_forms.specs.Moved.{captured_step, block, own_index}
use Rattle.payload_forms.specs.Names.{renamed}
use Rattle.payload_forms.proofs.Tables.{count_length}

count_at : (a n k d : ℕ) → k < n → get_or (count_up a n) k d ≡ a + k
count_at a zero k d l = absurd (omega arith)
count_at a (suc n) zero d l = omega arith
count_at a (suc n) (suc k) d l = let e = count_at (a + 1) n k d (omega arith) in omega (arith, e)

-- a table of so many captured values' steps, and behind it the other steps
module _ (c : ℕ) (at : ℕ → ℕ) (os : List ℕ) where
  abbrev table : List ℕ
  table = map at (count_up 0 c)

  long : length table ≡ c
  long = length-map (count_up 0 c) at ∙ count_length 0 c

  within : (i : ℕ) → i < c → get_or (table ++ os) i 0 ≡ at i
  within i l =
      get_or_append_left table os 0 i (omega (arith, long))
      ∙ get_or-map at (count_up 0 c) i 0 0 (omega (arith, count_length 0 c))
      ∙ ap at (count_at 0 c i 0 l ∙ omega arith)

  pub table_at : (i : ℕ) → get_or (table ++ os) i 0 ≡ (if nat_lt i c then at i else get_or os (i - c) 0)
  table_at i = by (nat_lt i c) refl where
    by : (b : Bool) → nat_lt i c ≡ b → get_or (table ++ os) i 0 ≡ (if b then at i else get_or os (i - c) 0)
    by true e = within i (ltb-true i c e)
    by false e = get_or-append_right table os c i 0 long (ltb-false i c e)

-- so the names by tables are those of the placed payload
pub names_placed : (c : ℕ) (rest : List PayloadStep) (a : Arg) →
    renamed Kept (map (λ k. get_or (spots c 0 [] rest) (place_of k 0 (used c [] rest)) 0) (count_up 0 c) ++ others c 0 [] rest) a ≡ placed_to c rest a
names_placed c rest (Input i) = refl
names_placed c rest Out = refl
names_placed c rest (Step i) = ap Step (table_at c (λ k. get_or (spots c 0 [] rest) (place_of k 0 (used c [] rest)) 0) (others c 0 [] rest) i)

-- what is left to be placed from step i on, where `seen` captured values have their steps and the next one has number n
pub record Left (c : ℕ) (to : Arg → Arg) (rest : List PayloadStep) (os : List ℕ) (i n seen : ℕ) (done : List PayloadStep) : Type 0 where
  pub known : List ℕ
  pub many : length known ≡ seen
  pub behind : drop i os ≡ others c n known (drop i rest)
  pub all : done ++ placed_steps c to n known (drop i rest) ≡ placed_steps c to 0 [] rest

module _ (c : ℕ) (to : Arg → Arg) (rest : List PayloadStep) (os : List ℕ) (i n seen : ℕ) (done : List PayloadStep) (left : Left c to rest os i n seen done) (s : PayloadStep) (l : i < length rest) (is : s ≡ get_or rest i s) where
  abbrev count : ℕ
  count = length (named c left.known s)

  here : drop i rest ≡ s ∷ drop (i + 1) rest
  here = drop_more rest i s l ∙ ap (λ t. t ∷ drop (i + 1) rest) (sym is)

  numbers : drop i os ≡ (n + count) ∷ others c (suc (n + count)) (left.known ++ named c left.known s) (drop (i + 1) rest)
  numbers = left.behind ∙ ap (others c n left.known) here

  -- the step's number
  pub other_here : get_or os i 0 ≡ n + count
  other_here = ap (λ k. get_or os k 0) zero_right ∙ sym (get_or-drop i os 0 0) ∙ ap (λ ns. get_or ns 0 0) numbers where
    zero_right : i ≡ i + 0
    zero_right = omega arith

  next_numbers : drop (i + 1) os ≡ others c (suc (n + count)) (left.known ++ named c left.known s) (drop (i + 1) rest)
  next_numbers = sym (drop-drop 1 i os) ∙ ap (drop 1) numbers

  abbrev known : List ℕ
  known = left.known ++ named c left.known s

  abbrev later : List PayloadStep
  later = drop (i + 1) rest

  abbrev first : List PayloadStep
  first = map captured_step (count_up (length left.known) count)

  abbrev itself : List PayloadStep
  itself = block own_index to (n + count) s.ty s.op

  abbrev others_left : List PayloadStep
  others_left = placed_steps c to (suc (n + count)) known later

  pub left_more : (new : List PayloadStep) (o : ℕ) → o ≡ n + count →
      new ≡ done ++ (map captured_step (count_up seen (o - n)) ++ block own_index to o s.ty s.op) →
      Left c to rest os (i + 1) (o + 1) (seen + (o - n)) new
  left_more new o number is_new =
      let many : o - n ≡ count = omega (arith, number) in
      let after : o + 1 ≡ suc (n + count) = omega (arith, number) in
      record {
        known = known;
        many = length-append left.known (named c left.known s) ∙ (λ j. left.many j + sym many j);
        behind = next_numbers ∙ ap (λ m. others c m known later) (sym after);
        all =
            ap (λ ss. ss ++ placed_steps c to (o + 1) known later) is_new
            ∙ (λ j. (done ++ (map captured_step (count_up (sym left.many j) (many j)) ++ block own_index to (number j) s.ty s.op)) ++ placed_steps c to (after j) known later)
            ∙ append_assoc done (first ++ itself) others_left
            ∙ ap (λ ss. done ++ ss) (append_assoc first itself others_left)
            ∙ ap (λ ss. done ++ placed_steps c to n left.known ss) (sym here)
            ∙ left.all;
      }

-- the same, from what the code has of the uses
module _ (c : ℕ) (rest : List PayloadStep) (yielded : Arg) (captured : ℕ) (seen ss os table : List ℕ) (is_c : captured ≡ c) (is_seen : seen ≡ used c [] rest) (is_spots : ss ≡ spots c 0 [] rest) (is_others : os ≡ others c 0 [] rest)
    (is_table : table ≡ map (λ k. get_or ss (place_of k 0 seen) 0) (count_up 0 captured) ++ os) where
  all_numbers : table ≡ map (λ k. get_or (spots c 0 [] rest) (place_of k 0 (used c [] rest)) 0) (count_up 0 c) ++ others c 0 [] rest
  all_numbers = is_table ∙ (λ i. map (λ k. get_or (is_spots i) (place_of k 0 (is_seen i)) 0) (count_up 0 (is_c i)) ++ is_others i)

  same_names : (a : Arg) → renamed Kept table a ≡ placed_to c rest a
  same_names a = ap (λ ns. renamed Kept ns a) all_numbers ∙ names_placed c rest a

  pub yields_placed : renamed Kept table yielded ≡ placed_to c rest yielded
  yields_placed = same_names yielded

  pub steps_placed : placed_steps captured (renamed Kept table) 0 [] rest ≡ placed_steps c (placed_to c rest) 0 [] rest
  steps_placed = λ i. placed_steps (is_c i) (λ a. same_names a i) 0 [] rest
