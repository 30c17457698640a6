-- Walks over lists: what is left opens at its first item.
use Rattle.std.proofs.lemmas.List.{take_all}
use Rattle.std.specs.List.{flat_map, zip}
use Rattle.std.proofs.Common.{◌≡◌, ℕ, ◌+◌, ◌-◌, ◌<◌, List, [], ◌∷◌, ◌++◌, append_assoc, take, drop, length, get_or, Option, Some, None, refl, ap, sym, ◌∙◌, add-one, arith}
use Rattle.std.proofs.Math.Seq.{drop-cons}
use Rattle.mlir_ir.specs.Count.{first}

pub opened : {A : Type 0} (xs : List A) (i : ℕ) (x : A) → i < length xs → x ≡ get_or xs i x → drop i xs ≡ x ∷ drop (i + 1) xs
opened xs i x h e = rw add-one (drop-cons xs i x h) ∙ ap (λ y. y ∷ drop (i + 1) xs) (sym e)

pub first-assoc : {A : Type 0} (a b c : Option A) → first (first a b) c ≡ first a (first b c)
first-assoc None b c = refl
first-assoc (Some a) b c = refl

pub left_opens : {A : Type 0} (ys : List A) (d : A) → 0 < length ys → ys ≡ get_or ys 0 d ∷ take (length ys - 1) (drop 1 ys)
left_opens [] d h = absurd (omega arith)
left_opens (y ∷ ys) d h = ap (λ x. y ∷ x) (sym (take_all (length (y ∷ ys) - 1) ys (omega arith)))

-- a walk over two lists, which collects what h gives of the pairs, goes on
pub pairs_go : {A B C : Type 0} (h : A × B → List C) (front new whole : List C) (xs : List A) (i : ℕ) (x : A) (ys : List B) (d : B) → i < length xs → x ≡ get_or xs i x → 0 < length ys →
    new ≡ front ++ h (x, get_or ys 0 d) → front ++ flat_map h (zip (drop i xs) ys) ≡ whole →
    new ++ flat_map h (zip (drop (i + 1) xs) (take (length ys - 1) (drop 1 ys))) ≡ whole
pairs_go h front new whole xs i x ys d l e k p w =
    let rest = flat_map h (zip (drop (i + 1) xs) (take (length ys - 1) (drop 1 ys))) in
    ap (λ m. m ++ rest) p ∙ append_assoc front (h (x, get_or ys 0 d)) rest
    ∙ sym (λ j. front ++ flat_map h (zip (opened xs i x l e j) (left_opens ys d k j))) ∙ w
