-- Compositions that are maps.
use Rattle.std.proofs.Common.{◌≡◌, ℕ, zero, suc, ◌+◌, ◌-◌, ◌<◌, List, [], ◌∷◌, ◌++◌, map, length, get_or, Some, None, sym, subst, ◌∙◌, arith, append_assoc}
use Rattle.std.proofs.lemmas.List.{length-map}
use Rattle.std.specs.Prelude.{if◌then◌else◌}
use Rattle.std.specs.List.{list_all}
use Rattle.affine_maps.specs.Shape.{MapShape}
use Rattle.affine_maps.specs.Map.{IsMap}
use Rattle.affine_maps.specs.Compose.{composed, has_small_numbers, result_at}
use Rattle.affine_maps.specs.declared.map.Expr.{Expr}
use Rattle.affine_maps.proofs.Products.{all_small}
use Rattle.mlir_meaning.specs.Grids.{count_up, Each}
use Rattle.mlir_meaning.proofs.Through.{each_left}
use Rattle.point_laws.specs.Orders.{turned}
use Rattle.point_laws.proofs.Tables.{count_length}
use Rattle.payload_forms.specs.Joined.{spliced}
use Rattle.fuse_laws.specs.Fused.{pulled}
use Rattle.pair_laws.proofs.Premises.{pulled_map}

-- what holds of each image
pub image_here : {A B : Type 0} (P : B → Type 0) (f : A → B) (xs : List A) (i : ℕ) (d : A) → i < length xs → Each P (map f xs) → P (f (get_or xs i d))
image_here P f [] i d l h = absurd (omega (arith, l))
image_here P f (x ∷ xs) zero d l h = h.0
image_here P f (x ∷ xs) (suc i) d l h = image_here P f xs i d (omega (arith, l)) h.1

-- a composition that wasn't made is no map
pub not_made : (outer inner : MapShape) → None ≡ (let whole = composed outer inner in if list_all has_small_numbers whole.results then Some whole else None) →
    IsMap (composed outer inner) → ⊥
not_made outer inner e h =
    let whole = composed outer inner in
    let made : None ≡ Some whole = e ∙ (λ i. if all_small inner.dims whole.results h i then Some whole else None) in
    absurd (cc made)

-- those that stand in the place of another one
pub each_within : {A : Type 0} (P : A → Type 0) (k : ℕ) (ys xs : List A) → k < length xs → Each P (spliced k ys xs) → Each P ys
each_within P k ys [] l h = absurd (omega (arith, l))
each_within P zero ys (x ∷ xs) l h = each_left P ys xs h
each_within P (suc k) ys (x ∷ xs) l h = each_within P k ys xs (omega (arith, l)) h.1

-- THE PRODUCER'S DIMENSIONS
pub one_more : {A : Type 0} (f : ℕ → A) (all new whole : List A) (x : A) (d n : ℕ) → d < n → new ≡ all ++ x ∷ [] → x ≡ f d →
    all ++ map f (count_up d (n - d)) ≡ whole → new ++ map f (count_up (d + 1) (n - (d + 1))) ≡ whole
one_more f all new whole x d n l e g h =
    let left : suc (n - (d + 1)) ≡ n - d = omega (arith, l) in
    let rest = map f (count_up (d + 1) (n - (d + 1))) in
    (λ i. e i ++ rest)
    ∙ append_assoc all (x ∷ []) rest
    ∙ (λ i. all ++ (g i ∷ rest))
    ∙ (λ i. all ++ map f (count_up d (left i)))
    ∙ h

pub pulled_there : (ds : List ℕ) (m : MapShape) (dims : ℕ) (results es : List Expr) → IsMap m → dims ≡ m.dims → es ≡ m.results →
    results ≡ map (λ d. result_at es (turned ds d)) (count_up 0 (length ds)) → IsMap (record { dims = dims; results = results })
pulled_there ds m dims results es good a b e =
    let same = e ∙ (λ i. map (λ d. result_at (b i) (turned ds d)) (count_up 0 (length ds))) in
    let is : pulled ds m ≡ record { dims = dims; results = results } = λ i. record { dims = sym a i; results = sym same i } in
    subst IsMap is (pulled_map ds m good)

dims_each : (a b : ℕ) (ms : List MapShape) → a ≡ b → Each (λ (i : MapShape). b ≡ i.dims) ms → Each (λ (i : MapShape). a ≡ i.dims) ms
dims_each a b [] e h = tt
dims_each a b (m ∷ ms) e h = (e ∙ h.0, dims_each a b ms e h.1)

pub dims_there : (ds : List ℕ) (m inner : MapShape) (ms : List MapShape) → inner ≡ pulled ds m → Each (λ (i : MapShape). length ds ≡ i.dims) ms →
    Each (λ (i : MapShape). length inner.results ≡ i.dims) ms
dims_there ds m inner ms e h =
    dims_each (length inner.results) (length ds) ms
    ((λ i. length (e i).results) ∙ length-map (count_up 0 (length ds)) (λ d. result_at m.results (turned ds d)) ∙ count_length 0 (length ds)) h
