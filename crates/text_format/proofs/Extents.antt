-- Extents that are read one after the other.
use Rattle.std.proofs.Common.{◌≡◌, ℕ, suc, ◌+◌, ◌*◌, ◌-◌, ◌<◌, ◌≤◌, Bool, true, false, cond, List, [], ◌∷◌, ◌++◌, length, drop, ◌==◌, map, Option, Some, None, refl, sym, ap, ◌∙◌, append_assoc, arith, nat_le}
use Rattle.std.proofs.lemmas.Bool.{cond-true, cond-false}
use Rattle.text_format.specs.declared.types.Extent.{Extent}
use Rattle.text_format.specs.declared.types.Extent.TheVariants.{Fixed, TooLarge}
use Rattle.text_format.specs.declared.types.RankedShape.{RankedShape}
use Rattle.text_format.specs.Bytes.{is_digit}
use Rattle.text_format.specs.Types.{is_some, width_of, least_extent, extent_of, number_at, no_extents, extent_before, begins_with_digit, begins_with_x, extents_in, ranked_from}

-- behind the digits of an extent
abbrev pub behind_number : ℕ × List ℕ → Option (List ℕ × ℕ)
behind_number (n, []) = None
behind_number (n, b ∷ bs) = cond (b == 120) (extent_before n (extents_in bs None)) None

shorter_step : (b : Bool) (x : ℕ × List ℕ) (n k : ℕ) (here : List ℕ) → length x.1 ≤ k → length here ≤ k → length (cond b x (n, here)).1 ≤ k
shorter_step true x n k here h g = h
shorter_step false x n k here h g = g

number_shorter : (bs : List ℕ) (n : ℕ) → length (number_at bs n).1 ≤ length bs
number_shorter [] n = omega arith
number_shorter (b ∷ bs) n =
    let h = number_shorter bs (n * 10 + (b - 48)) in
    shorter_step (is_digit b) (number_at bs (n * 10 + (b - 48))) n (suc (length bs)) (b ∷ bs) (omega (arith, h)) (omega arith)

number_step : (d : Bool) (n b : ℕ) (bs : List ℕ) (more : Option (List ℕ × ℕ)) (x : ℕ × List ℕ) → more ≡ behind_number x → cond d more (behind_number (n, b ∷ bs)) ≡ behind_number (cond d x (n, b ∷ bs))
number_step true n b bs more x e = e
number_step false n b bs more x e = refl

number_ends : (bs : List ℕ) (n : ℕ) → extents_in bs (Some n) ≡ behind_number (number_at bs n)
number_ends [] n = refl
number_ends (b ∷ bs) n = number_step (is_digit b) n b bs _ (number_at bs (n * 10 + (b - 48))) (number_ends bs (n * 10 + (b - 48)))

-- where a digit comes next
pub number_first : (bs : List ℕ) → begins_with_digit bs ≡ true → extents_in bs None ≡ behind_number (number_at bs 0)
number_first [] e = absurd cc
number_first (b ∷ bs) e =
    let z : 0 + (b - 48) ≡ b - 48 = omega arith in
    cond-true (is_digit b) _ _ e ∙ number_ends bs (b - 48) ∙ sym (ap (λ n. behind_number (number_at bs n)) z) ∙ sym (ap behind_number (cond-true (is_digit b) (number_at bs (0 + (b - 48))) (0, b ∷ bs) e))

pub none_first : (bs : List ℕ) → begins_with_digit bs ≡ false → extents_in bs None ≡ no_extents (width_of bs)
none_first [] e = refl
none_first (b ∷ bs) e = cond-false (is_digit b) _ _ e

behind_step : (n : ℕ) (x : List ℕ) → begins_with_x x ≡ true → behind_number (n, x) ≡ extent_before n (extents_in (drop 1 x) None)
behind_step n [] e = absurd cc
behind_step n (b ∷ bs) e = cond-true (b == 120) _ _ e

behind_fault : (n : ℕ) (x : List ℕ) → begins_with_x x ≡ false → behind_number (n, x) ≡ None
behind_fault n [] e = refl
behind_fault n (b ∷ bs) e = cond-false (b == 120) _ _ e

-- the same where what comes behind the digits is given
pub behind_x : (bs rest : List ℕ) → begins_with_digit bs ≡ true → rest ≡ (number_at bs 0).1 → begins_with_x rest ≡ true → extents_in bs None ≡ extent_before (number_at bs 0).0 (extents_in (drop 1 rest) None)
behind_x bs rest d e h = number_first bs d ∙ ap (λ y. behind_number ((number_at bs 0).0, y)) (sym e) ∙ behind_step (number_at bs 0).0 rest h

pub behind_other : (bs rest : List ℕ) → begins_with_digit bs ≡ true → rest ≡ (number_at bs 0).1 → begins_with_x rest ≡ false → extents_in bs None ≡ None
behind_other bs rest d e h = number_first bs d ∙ ap (λ y. behind_number ((number_at bs 0).0, y)) (sym e) ∙ behind_fault (number_at bs 0).0 rest h

drop_shorter : (x : List ℕ) → begins_with_x x ≡ true → length (drop 1 x) < length x
drop_shorter [] e = absurd cc
drop_shorter (b ∷ bs) e = omega arith

pub shorter : (bs rest : List ℕ) → rest ≡ (number_at bs 0).1 → begins_with_x rest ≡ true → length (drop 1 rest) < length bs
shorter bs rest e h = let k = number_shorter bs 0 in let d = drop_shorter rest h in omega (arith, k, d, ap length e)

-- ---- the extents that are kept

-- these extents, and then the shape's
abbrev pub onto_shape : List Extent → Option RankedShape → Option RankedShape
onto_shape es None = None
onto_shape es (Some s) = Some (record { extents = es ++ s.extents; width = s.width })

capped_step : (n : ℕ) (b : Bool) → nat_le n 1048576 ≡ b → extent_of (cond b n 1048577) ≡ extent_of n
capped_step n true e = refl
capped_step n false e = sym (cond-false (nat_le n 1048576) (Fixed n) TooLarge e)

pub capped : (n : ℕ) → extent_of (least_extent n) ≡ extent_of n
capped n = capped_step n (nat_le n 1048576) refl

one_more : (es : List Extent) (e : Extent) (n : ℕ) (o : Option (List ℕ × ℕ)) → e ≡ extent_of n → onto_shape es (ranked_from (extent_before n o)) ≡ onto_shape (es ++ e ∷ []) (ranked_from o)
one_more es e n None h = refl
one_more es e n (Some p) h = ap (λ (xs : List Extent). Some (record { extents = xs; width = p.1 })) (ap (λ (x : Extent). es ++ x ∷ map extent_of p.0) (sym h) ∙ sym (append_assoc es (e ∷ []) (map extent_of p.0)))

pub goes_on : (es : List Extent) (e : Extent) (bs rest : List ℕ) (n : ℕ) (total : Option RankedShape) → begins_with_digit bs ≡ true → n ≡ least_extent (number_at bs 0).0 → rest ≡ (number_at bs 0).1 → begins_with_x rest ≡ true → e ≡ extent_of n
    → onto_shape es (ranked_from (extents_in bs None)) ≡ total → onto_shape (es ++ e ∷ []) (ranked_from (extents_in (drop 1 rest) None)) ≡ total
goes_on es e bs rest n total d k r h f t =
    sym (one_more es e (number_at bs 0).0 (extents_in (drop 1 rest) None) (f ∙ ap extent_of k ∙ capped (number_at bs 0).0)) ∙ sym (ap (λ o. onto_shape es (ranked_from o)) (behind_x bs rest d r h)) ∙ t

pub is_some_before : (n : ℕ) (o : Option (List ℕ × ℕ)) → is_some (extent_before n o) ≡ is_some o
is_some_before n None = refl
is_some_before n (Some p) = refl

pub still_some : (bs rest : List ℕ) (total : Bool) → begins_with_digit bs ≡ true → rest ≡ (number_at bs 0).1 → begins_with_x rest ≡ true → is_some (extents_in bs None) ≡ total → is_some (extents_in (drop 1 rest) None) ≡ total
still_some bs rest total d r h t = sym (is_some_before (number_at bs 0).0 (extents_in (drop 1 rest) None)) ∙ sym (ap is_some (behind_x bs rest d r h)) ∙ t
