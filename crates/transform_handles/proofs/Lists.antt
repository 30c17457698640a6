-- What is picked of items, part by part; and items inside loops, by their bodies as lists.
use Rattle.std.proofs.Common.{◌≡◌, ◌<◌, ℕ, ◌+◌, Bool, List, [], ◌∷◌, ◌++◌, map, length, drop, get_or, add-one, drop-cons, refl, sym, ap, ◌∙◌, append_assoc, Result, Ok, Err}
use Rattle.std.specs.Prelude.{filter}
use Rattle.std.proofs.lemmas.List.{map-append}
use Rattle.std.proofs.lemmas.List.Elements.{filter-append}
use mathlib.Core.Former.{Count}
use Rattle.mlir_ir.specs.declared.tree.OpId.{OpId}
use Rattle.mlir_ir.specs.declared.tree.Op.{Op}
use Rattle.mlir_ir.specs.declared.tree.Ty.{Ty}
use Rattle.mlir_ir.specs.declared.tree.Idx.{Idx}
use Rattle.mlir_ir.specs.declared.tree.ValueId.{ValueId}
use Rattle.mlir_ir.specs.declared.tree.OpKind.{OpKind, For, For', Forall, Forall', Row_of-Op, end_of-Op, more_of-Op, items-the_row-Op, items_hidden-the_row-Op-0}
use Rattle.transform_handles.specs.declared.target.Target.{Target}
use Rattle.transform_handles.specs.declared.target.Target.TheVariants.{Operation}
use Rattle.mlir_base.specs.declared.memory.Memory.{Memory}
use Rattle.mlir_ir.specs.Shape.{FuncShape}
use Rattle.transform_handles.specs.declared.matching.Wanted.{Wanted}
use Rattle.transform_handles.specs.Matching.{Adds, wants}
use Rattle.transform_handles.specs.Names.{name_of}
use Rattle.transform_handles.specs.Items.{Item, picked, items_inside, items_row, items_of, items_from, tree_of, function_tree, operation}

pub picked_append : (p : Item → Bool) (xs ys : List Item) → picked p (xs ++ ys) ≡ picked p xs ++ picked p ys
picked_append p xs ys = ap (map (λ (x : Item). x.target)) (filter-append p xs ys) ∙ map-append (λ (x : Item). x.target) (filter p xs) (filter p ys)

-- items were added, and the rest is left
pub picked_then : (p : Item → Bool) (xs ys : List Item) (old new : List Target) → new ≡ old ++ picked p xs → new ++ picked p ys ≡ old ++ picked p (xs ++ ys)
picked_then p xs ys old new h = ap (λ (b : List Target). b ++ picked p ys) h ∙ append_assoc old (picked p xs) (picked p ys) ∙ ap (λ (b : List Target). old ++ b) (sym (picked_append p xs ys))

pub items_row-is : (n : Count) (row : Row_of-Op n) (around : List Target) → items_row row around ≡ items_of (items-the_row-Op n row) around
items_row-is n end_of-Op around = refl
items_row-is n (more_of-Op id results kind rest) around =
    ap (λ (k : List Item). (operation id kind around ∷ items_inside kind (Operation id ∷ around)) ++ k) (items_row-is _ rest around)

abbrev row_of : OpKind → (n : Count) × Row_of-Op n
row_of (For' i l u s c shape row) = (_, row)
row_of (Forall' i l u s c shape row) = (_, row)
row_of _ = (_, end_of-Op)

pub items-For : (i l u s : ValueId) (c : List (ValueId × Ty × ValueId)) (body : List Op) (around : List Target) → items_inside (For i l u s c body) around ≡ items_of body around
items-For i l u s c body around = let row = row_of (For i l u s c body) in items_row-is row.0 row.1 around ∙ ap (λ (os : List Op). items_of os around) (items_hidden-the_row-Op-0 body)

pub items-Forall : (vs : List ValueId) (l u s : List Idx) (c : List (ValueId × Ty × ValueId)) (body : List Op) (around : List Target) → items_inside (Forall vs l u s c body) around ≡ items_of body around
items-Forall vs l u s c body around = let row = row_of (Forall vs l u s c body) in items_row-is row.0 row.1 around ∙ ap (λ (os : List Op). items_of os around) (items_hidden-the_row-Op-0 body)

-- an item was added, and then what stands inside it
pub tree_lists : (w : Wanted) (r : Result (Unit {0}) Memory) (old mid new : List Target) (x : Item) (xs : List Item) →
    mid ≡ old ++ picked (wants w) (x ∷ []) → Adds r mid new (picked (wants w) xs) → Adds r old new (picked (wants w) (x ∷ xs))
tree_lists w (Ok u) old mid new x xs a b = b ∙ picked_then (wants w) (x ∷ []) xs old mid a
tree_lists w (Err e) old mid new x xs a b = tt

abbrev pub item_named : OpId → List ℕ → List Target → Item
item_named i n around = record { target = Operation i; name = n; around = around }

pub op_lists : (w : Wanted) (r : Result (Unit {0}) Memory) (old mid new : List Target) (o : Op) (n : List ℕ) (around : List Target) → n ≡ name_of o.kind →
    mid ≡ old ++ picked (wants w) (item_named o.id n around ∷ []) → Adds r mid new (picked (wants w) (items_inside o.kind (Operation o.id ∷ around))) →
    Adds r old new (picked (wants w) (tree_of o around))
op_lists w r old mid new o n around e a b =
    tree_lists w r old mid new (operation o.id o.kind around) (items_inside o.kind (Operation o.id ∷ around))
    (a ∙ ap (λ (m : List ℕ). old ++ picked (wants w) (item_named o.id m around ∷ [])) e) b

opened : {A : Type 0} (xs : List A) (i : ℕ) (x : A) → i < length xs → x ≡ get_or xs i x → drop i xs ≡ x ∷ drop (i + 1) xs
opened xs i x h e = rw add-one (drop-cons xs i x h) ∙ ap (λ y. y ∷ drop (i + 1) xs) (sym e)

-- one more operation was walked over
pub body_goes : (p : Item → Bool) (ops : List Op) (k : ℕ) (o : Op) (around : List Target) (found new all : List Target) → k < length ops → o ≡ get_or ops k o →
    new ≡ found ++ picked p (tree_of o around) → found ++ picked p (items_of (drop k ops) around) ≡ all → new ++ picked p (items_of (drop (k + 1) ops) around) ≡ all
body_goes p ops k o around found new all h e a b =
    picked_then p (tree_of o around) (items_of (drop (k + 1) ops) around) found new a
    ∙ ap (λ (os : List Op). found ++ picked p (items_of os around)) (sym (opened ops k o h e)) ∙ b

-- one more function
pub funcs_go : (p : Item → Bool) (fs : List FuncShape) (k : ℕ) (f : FuncShape) (n : ℕ) (found new all : List Target) → k < length fs → f ≡ get_or fs k f →
    new ≡ found ++ picked p (function_tree n f) → found ++ picked p (items_from n (drop k fs)) ≡ all → new ++ picked p (items_from (n + 1) (drop (k + 1) fs)) ≡ all
funcs_go p fs k f n found new all h e a b =
    picked_then p (function_tree n f) (items_from (n + 1) (drop (k + 1) fs)) found new a
    ∙ ap (λ (gs : List FuncShape). found ++ picked p (items_from n gs)) (sym (opened fs k f h e)) ∙ b
