-- Filters, folds and joined lists.
use Rattle.std.proofs.Common.{◌≡◌, Bool, true, false, ◌&&◌, ◌||◌, cond, List, [], ◌∷◌, ◌++◌, map, fold, filter, refl, ap, sym, ◌∙◌}
use Rattle.std.specs.Prelude.{flat_map}
use Rattle.std.proofs.lemmas.List.{map-append}
use Rattle.std.proofs.lemmas.List.Elements.{filter-append}
use Rattle.std.proofs.lemmas.List.Sums.{fold-append}
use Rattle.mlir_meaning.specs.Grids.{Each}

pub and_true : (b : Bool) → (b && true) ≡ b
and_true true = refl
and_true false = refl

pub and_false : (b : Bool) → (b && false) ≡ false
and_false true = refl
and_false false = refl

pub or_right : (b c : Bool) → c ≡ true → (b || c) ≡ true
or_right true c h = refl
or_right false c h = h

pub or_false : (b : Bool) → (b || false) ≡ b
or_false true = refl
or_false false = refl

-- FILTERS
filter-map_one : {A B : Type 0} (f : A → B) (x : A) (xs : List A) (ys : List B) → ys ≡ map f xs → (b : Bool) → cond b (f x ∷ ys) ys ≡ map f (cond b (x ∷ xs) xs)
filter-map_one f x xs ys e true = ap (λ l. f x ∷ l) e
filter-map_one f x xs ys e false = e

pub filter-map : {A B : Type 0} (P : B → Bool) (f : A → B) (xs : List A) → filter P (map f xs) ≡ map f (filter (λ x. P (f x)) xs)
filter-map P f [] = refl
filter-map P f (x ∷ xs) = filter-map_one f x _ _ (filter-map P f xs) (P (f x))

pub filter_none : {A : Type 0} (xs : List A) → filter (λ _. false) xs ≡ []
filter_none [] = refl
filter_none (x ∷ xs) = filter_none xs

pub filter_all : {A : Type 0} (xs : List A) → filter (λ _. true) xs ≡ xs
filter_all [] = refl
filter_all (x ∷ xs) = ap (λ l. x ∷ l) (filter_all xs)

pub filter-same : {A : Type 0} (P Q : A → Bool) (xs : List A) → Each (λ x. P x ≡ Q x) xs → filter P xs ≡ filter Q xs
filter-same P Q [] h = refl
filter-same P Q (x ∷ xs) h = λ j. cond (h.0 j) (x ∷ filter-same P Q xs h.1 j) (filter-same P Q xs h.1 j)

filter-and_one : {A : Type 0} (Q : A → Bool) (x : A) (l r : List A) → l ≡ filter Q r → (b c : Bool) → Q x ≡ b → cond (b && c) (x ∷ l) l ≡ filter Q (cond c (x ∷ r) r)
filter-and_one Q x l r e true true q = (λ j. x ∷ e j) ∙ (λ j. cond (sym q j) (x ∷ filter Q r) (filter Q r))
filter-and_one Q x l r e true false q = e
filter-and_one Q x l r e false true q = e ∙ (λ j. cond (sym q j) (x ∷ filter Q r) (filter Q r))
filter-and_one Q x l r e false false q = e

pub filter-and : {A : Type 0} (Q W : A → Bool) (xs : List A) → filter (λ x. Q x && W x) xs ≡ filter Q (filter W xs)
filter-and Q W [] = refl
filter-and Q W (x ∷ xs) = filter-and_one Q x _ _ (filter-and Q W xs) (Q x) (W x) refl

pub and_turn : (a b : Bool) → (a && b) ≡ (b && a)
and_turn true b = sym (and_true b)
and_turn false b = sym (and_false b)

-- tests in either order
pub filter-turn : {A : Type 0} (Q W : A → Bool) (xs : List A) → filter (λ x. Q x && W x) xs ≡ filter W (filter Q xs)
filter-turn Q W xs = (λ j. filter (λ x. and_turn (Q x) (W x) j) xs) ∙ filter-and W Q xs

each-filter_one : {X : Type 0} (P : X → Type 0) (x : X) (b : Bool) (ys : List X) → P x → Each P ys → Each P (cond b (x ∷ ys) ys)
each-filter_one P x true ys h k = (h, k)
each-filter_one P x false ys h k = k

pub each-filter : {X : Type 0} (P : X → Type 0) (Q : X → Bool) (xs : List X) → Each P xs → Each P (filter Q xs)
each-filter P Q [] h = tt
each-filter P Q (x ∷ xs) h = each-filter_one P x (Q x) _ h.0 (each-filter P Q xs h.1)

-- what passes a test passes it
each-passes_one : {X : Type 0} (Q : X → Bool) (x : X) (b : Bool) (ys : List X) → Q x ≡ b → Each (λ y. Q y ≡ true) ys → Each (λ y. Q y ≡ true) (cond b (x ∷ ys) ys)
each-passes_one Q x true ys h k = (h, k)
each-passes_one Q x false ys h k = k

pub each-passes : {X : Type 0} (Q : X → Bool) (xs : List X) → Each (λ y. Q y ≡ true) (filter Q xs)
each-passes Q [] = tt
each-passes Q (x ∷ xs) = each-passes_one Q x (Q x) _ refl (each-passes Q xs)

pub each-and : {X : Type 0} (P Q : X → Type 0) (xs : List X) → Each P xs → Each Q xs → Each (λ x. P x × Q x) xs
each-and P Q [] h k = tt
each-and P Q (x ∷ xs) h k = ((h.0, k.0), each-and P Q xs h.1 k.1)

-- JOINED LISTS
pub filter-flat_map : {A B : Type 0} (P : B → Bool) (f : A → List B) (xs : List A) → filter P (flat_map f xs) ≡ flat_map (λ x. filter P (f x)) xs
filter-flat_map P f [] = refl
filter-flat_map P f (x ∷ xs) = filter-append P (f x) (flat_map f xs) ∙ ap (λ l. filter P (f x) ++ l) (filter-flat_map P f xs)

pub map-flat_map : {A B C : Type 0} (g : B → C) (f : A → List B) (xs : List A) → map g (flat_map f xs) ≡ flat_map (λ x. map g (f x)) xs
map-flat_map g f [] = refl
map-flat_map g f (x ∷ xs) = map-append g (f x) (flat_map f xs) ∙ ap (λ l. map g (f x) ++ l) (map-flat_map g f xs)

pub flat_map-same : {A B : Type 0} (f g : A → List B) (xs : List A) → Each (λ x. f x ≡ g x) xs → flat_map f xs ≡ flat_map g xs
flat_map-same f g [] h = refl
flat_map-same f g (x ∷ xs) h = λ j. h.0 j ++ flat_map-same f g xs h.1 j

abbrev none_of : {A B : Type 0} → A → List B
none_of x = []

pub flat_map_none : {A : Type 0} (B : Type 0) (xs : List A) → flat_map (none_of {B = B}) xs ≡ []
flat_map_none B [] = refl
flat_map_none B (x ∷ xs) = flat_map_none B xs

-- FOLDS
pub fold-flat_map : {A B X : Type 0} (f : A → X → A) (g : B → List X) (bs : List B) (a : A) → fold f a (flat_map g bs) ≡ fold (λ a b. fold f a (g b)) a bs
fold-flat_map f g [] a = refl
fold-flat_map f g (b ∷ bs) a = fold-append f a (g b) (flat_map g bs) ∙ fold-flat_map f g bs (fold f a (g b))

pub fold-same : {A X : Type 0} (f g : A → X → A) (xs : List X) → Each (λ x. (a : A) → f a x ≡ g a x) xs → (a : A) → fold f a xs ≡ fold g a xs
fold-same f g [] h a = refl
fold-same f g (x ∷ xs) h a = (λ j. fold f (h.0 a j) xs) ∙ fold-same f g xs h.1 (g a x)

pub both_ways : (b c : Bool) → (b ≡ true → c ≡ true) → (c ≡ true → b ≡ true) → b ≡ c
both_ways true c h k = sym (h refl)
both_ways false true h k = k refl
both_ways false false h k = refl
