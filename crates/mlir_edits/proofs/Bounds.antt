-- A place of a module lies within its functions and their bodies, and a function that is put back stands where it stood.
use Rattle.std.proofs.Common.{◌≡◌, ◌<◌, ◌+◌, ℕ, zero, suc, true, List, [], ◌∷◌, ◌++◌, length, take, drop, get_or, Option, Some, None, refl, sym, ap, subst, ◌∙◌, arith}
use Rattle.std.specs.Prelude.{is_some, IfSome, option_and_then, slice_get, insert, remove}
use Rattle.std.proofs.lemmas.List.{take_at, drop_at, length-take-le, length-append}
use Rattle.std.proofs.lemmas.Option.{slice_get_within, slice_get_read}
use Rattle.mlir_ir.specs.Shape.{FuncShape}
use Rattle.mlir_ir.specs.declared.tree.Op.{Op}
use Rattle.mlir_meaning.specs.Renaming.{reused_ops}
use Rattle.mlir_meaning.specs.States.{names_of}
use Rattle.verified_runs.specs.Edits.{Edit, moved}
use Rattle.mlir_edits.specs.declared.place.Place.{Place}
use Rattle.mlir_edits.specs.Places.{op_at}
use Rattle.mlir_edits.specs.Replaced.{replaced, replaced_func, replaced_among, leaves_body}

pub func_within : (p : Place) (fs : List FuncShape) → is_some (op_at p fs) ≡ true → p.func < length fs
func_within p fs h = by (slice_get fs p.func) refl h where
  by : (r : Option FuncShape) → slice_get fs p.func ≡ r → is_some (option_and_then (λ (f : FuncShape). slice_get f.body p.op) r) ≡ true → p.func < length fs
  by None q s = absurd cc
  by (Some f) q s = slice_get_within fs p.func f q

some_within : (os : List Op) (k : ℕ) (r : Option Op) → slice_get os k ≡ r → is_some r ≡ true → k < length os
some_within os k None q s = absurd cc
some_within os k (Some o) q s = slice_get_within os k o q

pub op_within : (p : Place) (fs : List FuncShape) (f : FuncShape) → is_some (op_at p fs) ≡ true → f ≡ get_or fs p.func f → p.op < length f.body
op_within p fs f h e =
    let there = slice_get_read fs (length fs) p.func f refl (func_within p fs h) e in
    some_within f.body p.op (slice_get f.body p.op) refl (ap is_some (ap (option_and_then (λ (f : FuncShape). slice_get f.body p.op)) (sym there)) ∙ h)

pub put_back : (fs : List FuncShape) (n k : ℕ) (e : Edit) (f : FuncShape) → n < length fs → f ≡ get_or fs n f →
    take n fs ++ replaced_func k e f ∷ drop (suc n) fs ≡ replaced_among n k e fs
put_back [] n k e f l h = absurd (omega (arith, l))
put_back (p ∷ fs) zero k e f l h = λ j. replaced_func k e (h j) ∷ fs
put_back (p ∷ fs) (suc n) k e f l h = ap (λ ps. p ∷ ps) (put_back fs n k e f (omega (arith, l)) h)

pub put_in : (os : List Op) (k : ℕ) (e : Edit) (o : Op) → k < length os → o ≡ get_or os k o →
    take k os ++ e.ops ++ reused_ops (moved (names_of o.results) e.values) (drop (suc k) os) ≡ replaced k e os
put_in [] k e o l h = absurd (omega (arith, l))
put_in (p ∷ os) zero e o l h = λ j. e.ops ++ reused_ops (moved (names_of (h j).results) e.values) os
put_in (p ∷ os) (suc k) e o l h = ap (λ ps. p ∷ ps) (put_in os k e o (omega (arith, l)) h)

-- what stands around position n
around : {A : Type 0} (xs : List A) (n : ℕ) → n < length xs → (take n (remove xs n) ≡ take n xs) × (drop n (remove xs n) ≡ drop (suc n) xs)
around xs n l =
    let long = length-take-le n xs (omega (arith, l)) in
    (take_at (take n xs) (drop (suc n) xs) n long, drop_at (take n xs) (drop (suc n) xs) n long)

pub put_func : (fs : List FuncShape) (n k : ℕ) (e : Edit) (f g : FuncShape) → n < length fs → f ≡ get_or fs n f → g ≡ replaced_func k e f →
    insert (remove fs n) n g ≡ replaced_among n k e fs
put_func fs n k e f g l h q =
    let a = around fs n l in
    (λ j. a.0 j ++ q j ∷ a.1 j) ∙ put_back fs n k e f l h

pub replaced_is : (os left out : List Op) (n : ℕ) (e : Edit) (o : Op) → n < length os → o ≡ get_or os n o →
    left ≡ take n (remove os n) ++ reused_ops (moved (names_of o.results) e.values) (drop n (remove os n)) → out ≡ take n left ++ e.ops ++ drop n left → out ≡ replaced n e os
replaced_is os left out n e o l h a b =
    let g = moved (names_of o.results) e.values in
    let parts = around os n l in
    let is : left ≡ take n os ++ reused_ops g (drop (suc n) os) = a ∙ (λ j. parts.0 j ++ reused_ops g (parts.1 j)) in
    let long = length-take-le n os (omega (arith, l)) in
    b
    ∙ (λ j. take n (is j) ++ e.ops ++ drop n (is j))
    ∙ (λ j. take_at (take n os) (reused_ops g (drop (suc n) os)) n long j ++ e.ops ++ drop_at (take n os) (reused_ops g (drop (suc n) os)) n long j)
    ∙ put_in os n e o l h

pub replaced_filled : (os : List Op) (n : ℕ) (e : Edit) → n < length os → 0 < length e.ops → 0 < length (replaced n e os)
replaced_filled [] n e l h = absurd (omega (arith, l))
replaced_filled (o ∷ os) zero e l h = omega (arith, h, length-append e.ops (reused_ops (moved (names_of o.results) e.values) os))
replaced_filled (o ∷ os) (suc n) e l h = omega arith

-- an edit with an operation leaves a body
pub filled_at : (p : Place) (fs : List FuncShape) (e : Edit) → is_some (op_at p fs) ≡ true → 0 < length e.ops → leaves_body p e fs
filled_at p fs e h l = by (slice_get fs p.func) h where
  by : (r : Option FuncShape) → is_some (option_and_then (λ (f : FuncShape). slice_get f.body p.op) r) ≡ true → IfSome r (λ (f : FuncShape). 0 < length (replaced p.op e f.body))
  by None s = absurd cc
  by (Some f) s = replaced_filled f.body p.op e (some_within f.body p.op (slice_get f.body p.op) refl s) l

-- of the function that stands there
pub left_at : (p : Place) (fs : List FuncShape) (e : Edit) (f : FuncShape) → p.func < length fs → f ≡ get_or fs p.func f → leaves_body p e fs → 0 < length (replaced p.op e f.body)
left_at p fs e f l g h =
    subst (λ (r : Option FuncShape). IfSome r (λ (f : FuncShape). 0 < length (replaced p.op e f.body))) (slice_get_read fs (length fs) p.func f refl l g) h
