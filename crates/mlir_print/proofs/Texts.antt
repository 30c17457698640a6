-- The aliases' texts.
use Rattle.std.proofs.Common.{◌≡◌, ℕ, ◌+◌, suc, Bool, true, false, cond, not, nat_lt, List, [], ◌∷◌, ◌++◌, map, length, Some, None, refl, sym, ap, ◌∙◌, ◌||◌, ◌<◌, drop, get_or, arith}
use Rattle.std.proofs.Math.Seq.{drop-cons}
use Rattle.std.specs.Prelude.{position, unwrap_or}
use Rattle.std.specs.List.{list_any, position_or_len, prefix_len}
use Rattle.std.specs.Str.{bytes_eq}
use Rattle.affine_maps.specs.Shape.{MapShape}
use Rattle.affine_text.specs.Text.{text_of_map}
use Rattle.mlir_ir.specs.declared.tree.Op.{Op}
use Rattle.mlir_ir.specs.Shape.{FuncShape}
use Rattle.mlir_print.specs.Maps.{with_map, with_maps, with_ops, with_funcs, maps_used, alias_text, alias_of}
use Rattle.mlir_print.specs.MapParts.{with_text, with_texts, after_ops_texts, after_funcs_texts, text_number, use_text, alias_line_text, alias_lines_text}

pub any_map : {A B : Type 0} (p : B → Bool) (f : A → B) (xs : List A) → list_any p (map f xs) ≡ list_any (λ x. p (f x)) xs
any_map p f [] = refl
any_map p f (x ∷ xs) = ap (λ b. p (f x) || b) (any_map p f xs)

any_same : {A : Type 0} (p q : A → Bool) (xs : List A) → ((x : A) → p x ≡ q x) → list_any p xs ≡ list_any q xs
any_same p q [] e = refl
any_same p q (x ∷ xs) e = ap (λ b. b || list_any p xs) (e x) ∙ ap (λ b. q x || b) (any_same p q xs e)

prefix_map : {A B : Type 0} (p : B → Bool) (f : A → B) (xs : List A) → prefix_len p (map f xs) ≡ prefix_len (λ x. p (f x)) xs
prefix_map p f [] = refl
prefix_map p f (x ∷ xs) = ap (λ n. cond (p (f x)) (1 + n) 0) (prefix_map p f xs)

length_map : {A B : Type 0} (f : A → B) (xs : List A) → length (map f xs) ≡ length xs
length_map f [] = refl
length_map f (x ∷ xs) = ap suc (length_map f xs)

map_append : {A B : Type 0} (f : A → B) (xs ys : List A) → map f (xs ++ ys) ≡ map f xs ++ map f ys
map_append f [] ys = refl
map_append f (x ∷ xs) ys = ap (λ zs. f x ∷ zs) (map_append f xs ys)

pub position_map : {A B : Type 0} (p : B → Bool) (f : A → B) (xs : List A) → position p (map f xs) ≡ position (λ x. p (f x)) xs
position_map p f xs =
    ap (λ i. cond (nat_lt i (length (map f xs))) (Some i) None) (prefix_map (λ x. not (p x)) f xs)
    ∙ ap (λ n. cond (nat_lt (position_or_len (λ x. p (f x)) xs) n) (Some (position_or_len (λ x. p (f x)) xs)) None) (length_map f xs)

-- ---- a list of texts beside the list of what has them

added_if : {A : Type 0} (f : A → List ℕ) (b : Bool) (xs : List A) (x : A) → map f (cond b xs (xs ++ x ∷ [])) ≡ cond b (map f xs) (map f xs ++ f x ∷ [])
added_if f true xs x = refl
added_if f false xs x = map_append f xs (x ∷ [])

-- an element is added unless one of its text is there
pub added_text : {A : Type 0} (f : A → List ℕ) (eq : A → A → Bool) (xs : List A) (x : A) → ((y : A) → eq x y ≡ bytes_eq (f x) (f y)) → map f (cond (list_any (eq x) xs) xs (xs ++ x ∷ [])) ≡ with_text (map f xs) (f x)
added_text f eq xs x e =
    ap (λ b. map f (cond b xs (xs ++ x ∷ []))) (any_same (eq x) (λ y. bytes_eq (f x) (f y)) xs e ∙ sym (any_map (bytes_eq (f x)) f xs))
    ∙ added_if f (list_any (bytes_eq (f x)) (map f xs)) xs x

pub number_of_text : {A : Type 0} (f : A → List ℕ) (t : List ℕ) (xs : List A) → text_number (map f xs) t ≡ unwrap_or (position (λ x. bytes_eq t (f x)) xs) 0
number_of_text f t xs = ap (λ o. unwrap_or o 0) (position_map (bytes_eq t) f xs)

pub alias_is : (ms : List MapShape) (m : MapShape) → alias_of ms m ≡ use_text (map text_of_map ms) m
alias_is ms m = ap alias_text (sym (number_of_text text_of_map (text_of_map m) ms))

maps_texts : (ms us : List MapShape) → with_texts (map text_of_map ms) us ≡ map text_of_map (with_maps ms us)
maps_texts ms [] = refl
maps_texts ms (u ∷ us) = ap (λ ts. with_texts ts us) (sym (added_text text_of_map (λ x y. bytes_eq (text_of_map x) (text_of_map y)) ms u (λ y. refl))) ∙ maps_texts (with_map ms u) us

ops_texts : (ms : List MapShape) (os : List Op) → after_ops_texts (map text_of_map ms) os ≡ map text_of_map (with_ops ms os)
ops_texts ms [] = refl
ops_texts ms (o ∷ os) = ap (λ ts. after_ops_texts ts os) (maps_texts ms (maps_used o.kind)) ∙ ops_texts (with_maps ms (maps_used o.kind)) os

pub funcs_texts : (ms : List MapShape) (fs : List FuncShape) → after_funcs_texts (map text_of_map ms) fs ≡ map text_of_map (with_funcs ms fs)
funcs_texts ms [] = refl
funcs_texts ms (f ∷ fs) = ap (λ ts. after_funcs_texts ts fs) (ops_texts ms f.body) ∙ funcs_texts (with_ops ms f.body) fs

-- one more alias line
pub one_line : {A : Type 0} (f : A → List ℕ) (n i : ℕ) (xs : List A) (d : A) → i < length xs
    → alias_lines_text n (map f (drop i xs)) ≡ alias_line_text n (f (get_or xs i d)) ++ alias_lines_text (n + 1) (map f (drop (i + 1) xs))
one_line f n i xs d h =
    let z : suc i ≡ i + 1 = omega arith in
    ap (λ ys. alias_lines_text n (map f ys)) (drop-cons xs i d h) ∙ ap (λ j. alias_line_text n (f (get_or xs i d)) ++ alias_lines_text (n + 1) (map f (drop j xs))) z
