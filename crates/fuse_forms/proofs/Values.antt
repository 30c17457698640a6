-- Values by their numbers, each once.
use Rattle.std.proofs.Common.{◌≡◌, ℕ, zero, suc, Bool, true, false, List, [], ◌∷◌, ◌++◌, map, refl, ap, sym, ◌∙◌}
use Rattle.std.specs.Prelude.{if◌then◌else◌, slice_index_or}
use Rattle.mlir_ir.specs.declared.tree.ValueId.{ValueId}
use Rattle.mlir_meaning.specs.Points.{has}
use Rattle.pair_laws.specs.Pairs.{numbers_of, with_value, once, value_at_place}
use Rattle.fuse_forms.specs.Captures.{value, values_of}

pub numbers_back : (ns : List ℕ) → numbers_of (values_of ns) ≡ ns
numbers_back [] = refl
numbers_back (n ∷ ns) = ap (λ l. n ∷ l) (numbers_back ns)

values_last : (ns : List ℕ) (v : ValueId) → values_of (ns ++ v.0 ∷ []) ≡ values_of ns ++ v ∷ []
values_last [] v = refl
values_last (n ∷ ns) v = ap (λ l. value n ∷ l) (values_last ns v)

with_is : (ns : List ℕ) (v : ValueId) (b : Bool) → has ns v.0 ≡ b → with_value (values_of ns) v ≡ (if b then values_of ns else values_of ns ++ v ∷ [])
with_is ns v b h =
    (λ i. if has (numbers_back ns i) v.0 then values_of ns else values_of ns ++ v ∷ [])
    ∙ (λ i. if h i then values_of ns else values_of ns ++ v ∷ [])

-- a value that is there, and one that is new
pub value_there : (ns : List ℕ) (v : ValueId) → has ns v.0 ≡ true → values_of ns ≡ with_value (values_of ns) v
value_there ns v h = sym (with_is ns v true h)

pub value_new : (ns all : List ℕ) (v : ValueId) → has ns v.0 ≡ false → all ≡ ns ++ v.0 ∷ [] → values_of all ≡ with_value (values_of ns) v
value_new ns all v h e = ap values_of e ∙ values_last ns v ∙ sym (with_is ns v false h)

once_both : (seen xs ys : List ValueId) → once seen (xs ++ ys) ≡ once (once seen xs) ys
once_both seen [] ys = refl
once_both seen (x ∷ xs) ys = once_both (with_value seen x) xs ys

pub once_of_both : (xs ys : List ValueId) (none first all : List ℕ) → none ≡ [] → values_of first ≡ once (values_of none) xs →
    values_of all ≡ once (values_of first) ys → all ≡ numbers_of (once [] (xs ++ ys))
once_of_both xs ys none first all e f g =
    sym (numbers_back all)
    ∙ ap numbers_of (g ∙ (λ i. once (f i) ys) ∙ (λ i. once (once (values_of (e i)) xs) ys) ∙ sym (once_both [] xs ys))

-- what stands at a place
value_here : (vs : List ValueId) (k : ℕ) → value (slice_index_or (numbers_of vs) k 0) ≡ value_at_place vs k
value_here [] k = refl
value_here (v ∷ vs) zero = refl
value_here (v ∷ vs) (suc k) = value_here vs k

pub values_there : (vs : List ValueId) (ns ks : List ℕ) → ns ≡ numbers_of vs → map (λ k. value (slice_index_or ns k 0)) ks ≡ map (value_at_place vs) ks
values_there vs ns [] e = refl
values_there vs ns (k ∷ ks) e = λ i. ((λ j. value (slice_index_or (e j) k 0)) ∙ value_here vs k) i ∷ values_there vs ns ks e i
