-- The items of a file, one after the other.
use Rattle.std.proofs.Common.{◌≡◌, ◌<◌, ℕ, ◌+◌, suc, List, ◌++◌, length, drop, get_or, Result, Ok, Err, refl, sym, ap, ◌∙◌, arith, append_assoc}
use Rattle.std.proofs.Math.Seq.{drop-cons}
use Rattle.mlir_ir.specs.Shape.{FuncShape}
use Rattle.mlir_syntax.specs.declared.tree.files.Item.{Item}
use Rattle.mlir_lex.specs.declared.fault.Fault.{Fault}
use Rattle.mlir_lex.specs.declared.fault.Refused.{Refused}
use Rattle.mlir_lex.specs.declared.fault.Refused.TheVariants.{At, Memory}
use Rattle.mlir_read.specs.declared.files.FileScope.{FileScope}
use Rattle.mlir_lex.specs.Chain.{and_then, behind_these, Fails, Adds}
use Rattle.mlir_lex.proofs.Loops.{fails_first}
use Rattle.mlir_read.specs.Resolve.{joined, item_of, items_of}

abbrev Read : Type 0
Read = Result (FileScope × List FuncShape) Fault

abbrev got : FileScope × List FuncShape → Read → FileScope × List FuncShape
got d (Ok x) = x
got d (Err e) = d

one_more : (acc more : List FuncShape) (r : Read) → behind_these acc (and_then r (λ p. Ok (p.0, more ++ p.1))) ≡ behind_these (acc ++ more) r
one_more acc more (Ok p) = ap (λ (xs : List FuncShape). Ok (p.0, xs)) (sym (append_assoc acc more p.1))
one_more acc more (Err e) = refl

-- what was found goes before what is found behind it
pub goes_on : (r : Read) (f : FileScope → Read) (t : FileScope) (acc all : List FuncShape) → behind_these acc r ≡ Ok (t, all) → behind_these acc (joined r f) ≡ behind_these all (f t)
goes_on (Err e) f t acc all h = absurd (cc h)
goes_on (Ok q) f t acc all h =
    let e : (q.0, acc ++ q.1) ≡ (t, all) = ap (got (t, all)) h in
    one_more acc q.1 (f q.0) ∙ ap (λ (p : FileScope × List FuncShape). behind_these p.1 (f p.0)) e

fault_of : (r : Read) (acc : List FuncShape) (e : Fault) → behind_these acc r ≡ Err e → r ≡ Err e
fault_of (Ok q) acc e h = absurd (cc h)
fault_of (Err x) acc e h = h

-- a fault of the first part goes through
pub joined_fails : (e : Refused) (r : Read) (f : FileScope → Read) → Fails e r → Fails e (joined r f)
joined_fails e r f h = fails_first e r (λ q. and_then (f q.0) (λ p. Ok (p.0, q.1 ++ p.1))) h

-- the second part, behind the first
pub adds_more : (a : Result (Unit {0}) Refused) (r : Read) (f : FileScope → Read) (s t : FileScope) (acc mid all : List FuncShape) → behind_these acc r ≡ Ok (s, mid) → Adds t mid all a (f s) → Adds t acc all a (joined r f)
adds_more (Ok u) r f s t acc mid all h k = goes_on r f s acc mid h ∙ k
adds_more (Err Memory) r f s t acc mid all h k = tt
adds_more (Err (At e)) r f s t acc mid all h k = fault_of (joined r f) acc e (goes_on r f s acc mid h ∙ ap (behind_these mid) k)

pub item_step : (s t : FileScope) (acc all : List FuncShape) (is : List Item) (i : ℕ) (d : Item) (total : Read) → i < length is → behind_these acc (item_of s (get_or is i d)) ≡ Ok (t, all) → behind_these acc (items_of s (drop i is)) ≡ total
    → behind_these all (items_of t (drop (i + 1) is)) ≡ total
item_step s t acc all is i d total h e q =
    let z : i + 1 ≡ suc i = omega arith in
    ap (λ j. behind_these all (items_of t (drop j is))) z ∙ sym (goes_on (item_of s (get_or is i d)) (λ u. items_of u (drop (suc i) is)) t acc all e) ∙ sym (ap (λ xs. behind_these acc (items_of s xs)) (drop-cons is i d h)) ∙ q
