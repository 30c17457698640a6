-- Adding numbers to a set, some after the others.
use Rattle.std.proofs.Common.{◌≡◌, ℕ, Bool, true, false, List, [], ◌∷◌, ◌++◌, append_assoc, append-nil, refl, ap, sym, ◌∙◌, subst, Result, Ok, Err}
use Rattle.std.specs.Prelude.{◌||◌}
use Rattle.std.specs.BTreeSet.{BTreeSet}
use Rattle.mlir_base.specs.declared.memory.Memory.{Memory}
use Rattle.affine_maps.specs.Permutation.{is_among}
use Rattle.mlir_verify.specs.Names.{redefines}
use Rattle.mlir_verify.specs.Scope.{IsSet, Adds}

or-assoc : (a b c : Bool) → (a || (b || c)) ≡ ((a || b) || c)
or-assoc true b c = refl
or-assoc false b c = refl

-- a number redefines in the front, or then in the rest
pub redefines-append : (xs ys known : List ℕ) → redefines (xs ++ ys) known ≡ (redefines xs known || redefines ys (known ++ xs))
redefines-append [] ys known = ap (redefines ys) (sym (append-nil known))
redefines-append (x ∷ xs) ys known =
    ap (λ b. is_among x known || b) (redefines-append xs ys (known ++ x ∷ []))
    ∙ or-assoc (is_among x known) (redefines xs (known ++ x ∷ [])) (redefines ys ((known ++ x ∷ []) ++ xs))
    ∙ ap (λ k. (is_among x known || redefines xs (known ++ x ∷ [])) || redefines ys k) (append_assoc known (x ∷ []) xs)

pub set_at : (s : BTreeSet ℕ) (ks ls : List ℕ) → ks ≡ ls → IsSet s ks → IsSet s ls
set_at s ks ls e h = λ q. h q ∙ ap (is_among q) e

-- the front was added, and then the rest
pub adds_then : (r : Result Bool Memory) (s new : BTreeSet ℕ) (xs ys known : List ℕ) → Adds (Ok true) s xs known → Adds r new ys (known ++ xs) → Adds r new (xs ++ ys) known
adds_then (Ok true) s new xs ys known a b =
    (redefines-append xs ys known ∙ ap (λ c. c || redefines ys (known ++ xs)) a.0 ∙ b.0, set_at new ((known ++ xs) ++ ys) (known ++ (xs ++ ys)) (append_assoc known xs ys) b.1)
adds_then (Ok false) s new xs ys known a b = redefines-append xs ys known ∙ ap (λ c. c || redefines ys (known ++ xs)) a.0 ∙ b
adds_then (Err e) s new xs ys known a b = tt

-- where the front redefines, the whole does
pub front_repeats : (xs ys known : List ℕ) → redefines xs known ≡ true → redefines (xs ++ ys) known ≡ true
front_repeats xs ys known a = redefines-append xs ys known ∙ ap (λ c. c || redefines ys (known ++ xs)) a

-- part of the numbers were added to the set, and `rest` is left
pub record Adding (s : BTreeSet ℕ) (rest all known : List ℕ) : Type 0 where
  pub now : List ℕ
  pub says : IsSet s now
  pub same : redefines rest now ≡ redefines all known
  pub whole : now ++ rest ≡ known ++ all

pub adding_starts : (s : BTreeSet ℕ) (all known : List ℕ) → IsSet s known → Adding s all all known
adding_starts s all known h = record { now = known; says = h; same = refl; whole = refl }

pub adding_at : (s : BTreeSet ℕ) (rest left all known : List ℕ) → rest ≡ left → Adding s rest all known → Adding s left all known
adding_at s rest left all known e w = subst (λ x. Adding s x all known) e w

pub adding_goes : (s new : BTreeSet ℕ) (ns rest all known : List ℕ) (b : Bool) → b ≡ true → ((k : List ℕ) → IsSet s k → Adds (Ok b) new ns k) → Adding s (ns ++ rest) all known → Adding new rest all known
adding_goes s new ns rest all known true t h w =
    let a = h w.now w.says in
    record {
      now = w.now ++ ns;
      says = a.1;
      same = sym (redefines-append ns rest w.now ∙ ap (λ b. b || redefines rest (w.now ++ ns)) a.0) ∙ w.same;
      whole = append_assoc w.now ns rest ∙ w.whole;
    }
adding_goes s new ns rest all known false t h w = absurd (let q : false ≡ true = t in cc)

pub adding_stops : (s new : BTreeSet ℕ) (ns rest all known : List ℕ) (b : Bool) → b ≡ false → ((k : List ℕ) → IsSet s k → Adds (Ok b) new ns k) → Adding s (ns ++ rest) all known → redefines all known ≡ true
adding_stops s new ns rest all known false t h w = sym w.same ∙ front_repeats ns rest w.now (h w.now w.says)
adding_stops s new ns rest all known true t h w = absurd (let q : true ≡ false = t in cc)

pub adding_ends : (s : BTreeSet ℕ) (all known : List ℕ) → Adding s [] all known → Adds (Ok true) s all known
adding_ends s all known w = (sym w.same, set_at s w.now (known ++ all) (sym (append-nil w.now) ∙ w.whole) w.says)
