-- Rows under the numbers of a canonical text: the types that they give, and which value each number was.
use Rattle.std.proofs.Common.{◌≡◌, ℕ, suc, ◌+◌, ◌<◌, ◌≤◌, ◌==◌, Bool, true, false, List, [], ◌∷◌, ◌++◌, length, append_assoc, append-nil, Option, Some, None, refl, ap, sym, subst, ◌∙◌, arith, eq-eqb, eqb-true, nat_eq, length-append}
use Rattle.std.specs.Prelude.{unwrap_or, if◌then◌else◌}
use Rattle.std.proofs.lemmas.Bool.{ne_eqb}
use Rattle.affine_maps.specs.Permutation.{is_among}
use Rattle.mlir_ir.specs.Count.{first}
use Rattle.mlir_ir.specs.declared.tree.ValueId.{ValueId}
use Rattle.mlir_meaning.specs.Grids.{Each}
use Rattle.mlir_verify.specs.Names.{numbers, redefines}
use Rattle.mlir_verify.specs.Place.{type_among}
use Rattle.mlir_verify.proofs.Standing.{first-None}
use Rattle.verified_runs.specs.Passes.{Scope}
use Rattle.step_results.proofs.Numbers.{or_none, below_absent}
use Rattle.mlir_print.specs.declared.names.Given.TheVariants.{Argument}
use Rattle.mlir_print.specs.Names.{Names, Row, row_of, or_before, spot, look, with_argument}
use Rattle.mlir_print.specs.Canonical.{after_params}
use Rattle.mlir_print.specs.Renumbered.{results_renumbered}
use Rattle.mlir_roundtrip.specs.Printable.{IsDefined}

-- the rows' types under numbers from b on
abbrev pub numbered : ℕ → List Row → Scope
numbered b [] = []
numbered b (r ∷ rows) = (record { 0 = b }, r.ty) ∷ numbered (suc b) rows

pub numbered_last : (b : ℕ) (rows : List Row) (r : Row) → numbered b (rows ++ r ∷ []) ≡ numbered b rows ++ (record { 0 = length rows + b }, r.ty) ∷ []
numbered_last b [] r = let e : b ≡ 0 + b = omega arith in ap (λ (k : ℕ). (record { 0 = k }, r.ty) ∷ []) e
numbered_last b (x ∷ rows) r =
    let e : length rows + suc b ≡ suc (length rows) + b = omega arith in
    ap (λ (s : Scope). (record { 0 = b }, x.ty) ∷ s) (numbered_last (suc b) rows r ∙ ap (λ (k : ℕ). numbered (suc b) rows ++ (record { 0 = k }, r.ty) ∷ []) e)

pub numbered_below : (b : ℕ) (rows : List Row) → Each (λ v. v < length rows + b) (numbers (numbered b rows))
numbered_below b [] = tt
numbered_below b (r ∷ rows) =
    let e : length rows + suc b ≡ suc (length rows) + b = omega arith in
    (omega arith, subst (λ k. Each (λ v. v < k) (numbers (numbered (suc b) rows))) e (numbered_below (suc b) rows))

numbered_absent : (b w : ℕ) (rows : List Row) → w < b → type_among (numbered b rows) w ≡ None
numbered_absent b w [] l = refl
numbered_absent b w (r ∷ rows) l = λ j. first (numbered_absent (suc b) w rows (omega arith) j) (if ne_eqb b w (λ e. absurd (omega (arith, e, l))) j then Some r.ty else None)

-- the value that a number was
abbrev pub was : ℕ → List Row → ℕ → ℕ
was b [] w = 0
was b (r ∷ rows) w = if b == w then r.value else was (suc b) rows w

missing : (b : ℕ) (rows : List Row) (v : ℕ) → spot b rows v ≡ None → look rows v ≡ None
missing b [] v e = refl
missing b (r ∷ rows) v e = by_rest (spot (suc b) rows v) (nat_eq r.value v) refl e (missing (suc b) rows v) where
  by_rest : (o : Option ℕ) (c : Bool) → spot (suc b) rows v ≡ o → or_before o (if c then Some b else None) ≡ None → (spot (suc b) rows v ≡ None → look rows v ≡ None) →
      or_before (look rows v) (if c then Some r else None) ≡ None
  by_rest (Some k) c q h rest = absurd cc
  by_rest None true q h rest = absurd cc
  by_rest None false q h rest = λ j. or_before (rest q j) None

-- what stands at the place of a value
pub record Stands (b : ℕ) (rows : List Row) (v k : ℕ) : Type 0 where
  pub from : b ≤ k
  pub row : Row
  pub looked : look rows v ≡ Some row
  pub typed : type_among (numbered b rows) k ≡ Some row.ty
  pub value : was b rows k ≡ v

same_number : (a k : ℕ) → Some a ≡ Some k → a ≡ k
same_number a k e = cc

pub stands : (b : ℕ) (rows : List Row) (v k : ℕ) → spot b rows v ≡ Some k → Stands b rows v k
stands b [] v k e = absurd cc
stands b (r ∷ rows) v k e = by_rest (spot (suc b) rows v) (nat_eq r.value v) refl refl e (λ k q. stands (suc b) rows v k q) where
  later : (k : ℕ) → Stands (suc b) rows v k → Stands b (r ∷ rows) v k
  later k s =
      let l = s.from in
      let apart : (b == k) ≡ false = ne_eqb b k (λ q. absurd (omega (arith, q, l))) in
      record {
        from = omega (arith, l);
        row = s.row;
        looked = λ j. or_before (s.looked j) (if nat_eq r.value v then Some r else None);
        typed = (λ j. first (type_among (numbered (suc b) rows) k) (if apart j then Some r.ty else None)) ∙ first-None (type_among (numbered (suc b) rows) k) ∙ s.typed;
        value = (λ j. if apart j then r.value else was (suc b) rows k) ∙ s.value;
      }

  here : spot (suc b) rows v ≡ None → nat_eq r.value v ≡ true → Stands b (r ∷ rows) v b
  here none t =
      let own : (b == b) ≡ true = eq-eqb b b refl in
      record {
        from = omega arith;
        row = r;
        looked = λ j. or_before (missing (suc b) rows v none j) (if t j then Some r else None);
        typed = λ j. first (numbered_absent (suc b) b rows (omega arith) j) (if own j then Some r.ty else None);
        value = (λ j. if own j then r.value else was (suc b) rows b) ∙ eqb-true r.value v t;
      }

  by_rest : (o : Option ℕ) (c : Bool) → spot (suc b) rows v ≡ o → nat_eq r.value v ≡ c → or_before o (if c then Some b else None) ≡ Some k → ((k : ℕ) → spot (suc b) rows v ≡ Some k → Stands (suc b) rows v k) →
      Stands b (r ∷ rows) v k
  by_rest (Some m) c q t h rest = subst (Stands b (r ∷ rows) v) (same_number m k h) (later m (rest m q))
  by_rest None true q t h rest = subst (Stands b (r ∷ rows) v) (same_number b k h) (here q t)
  by_rest None false q t h rest = absurd cc

-- a value that is defined has a place
pub placed : (b : ℕ) (rows : List Row) (v : ValueId) → IsDefined rows v → (k : ℕ) × (spot b rows v.0 ≡ Some k)
placed b rows v d = by_spot (spot b rows v.0) refl where
  by_spot : (o : Option ℕ) → spot b rows v.0 ≡ o → (k : ℕ) × (spot b rows v.0 ≡ Some k)
  by_spot (Some k) e = (k, e)
  by_spot None e = absurd (let q : None ≡ Some d.0 = sym (missing b rows v.0 e) ∙ d.1 in cc)

-- its new number
abbrev pub renumber : ℕ → List Row → ℕ → ℕ
renumber b rows v = unwrap_or (spot b rows v) b

pub renumber_is : (b : ℕ) (rows : List Row) (v k : ℕ) → spot b rows v ≡ Some k → renumber b rows v ≡ k
renumber_is b rows v k e = ap (λ o. unwrap_or o b) e

-- PARAMETERS
pub params_numbered : (b : ℕ) (ps : Scope) (n : Names) → numbered b (after_params n ps).rows ≡ numbered b n.rows ++ results_renumbered (length n.rows + b) ps
params_numbered b [] n = sym (append-nil (numbered b n.rows))
params_numbered b (p ∷ ps) n =
    let r = row_of p.0 (Argument n.args) p.1 in
    let long = length-append n.rows (r ∷ []) in
    let e : length (n.rows ++ r ∷ []) + b ≡ suc (length n.rows + b) = omega (arith, long) in
    params_numbered b ps (with_argument n p.0 p.1)
    ∙ (λ j. numbered_last b n.rows r j ++ results_renumbered (e j) ps)
    ∙ append_assoc (numbered b n.rows) ((record { 0 = length n.rows + b }, p.1) ∷ []) (results_renumbered (suc (length n.rows + b)) ps)

-- NUMBERS IN A ROW
abbrev pub Counts : ℕ → List ℕ → Type 0
Counts a [] = Unit {0}
Counts a (x ∷ xs) = (x ≡ a) × Counts (suc a) xs

pub counts_append : (a : ℕ) (xs ys : List ℕ) → Counts a xs → Counts (length xs + a) ys → Counts a (xs ++ ys)
counts_append a [] ys h k = subst (λ c. Counts c ys) (let e : 0 + a ≡ a = omega arith in e) k
counts_append a (x ∷ xs) ys h k = (h.0, counts_append (suc a) xs ys h.1 (subst (λ c. Counts c ys) (let e : suc (length xs) + a ≡ length xs + suc a = omega arith in e) k))

all_below_last : (a : ℕ) (known : List ℕ) → Each (λ v. v < a) known → Each (λ v. v < suc a) (known ++ a ∷ [])
all_below_last a [] h = (omega arith, tt)
all_below_last a (x ∷ known) h = ((let l = h.0 in omega (arith, l)), all_below_last a known h.1)

pub counts_own : (a : ℕ) (xs known : List ℕ) → Counts a xs → Each (λ v. v < a) known → redefines xs known ≡ false
counts_own a [] known h k = refl
counts_own a (x ∷ xs) known h k =
    or_none _ _ (ap (λ v. is_among v known) h.0 ∙ below_absent a a known k (omega arith))
    (counts_own (suc a) xs (known ++ x ∷ []) h.1 (subst (λ v. Each (λ w. w < suc a) (known ++ v ∷ [])) (sym h.0) (all_below_last a known k)))

pub results_count : (v : ℕ) (rs : Scope) → Counts v (numbers (results_renumbered v rs))
results_count v [] = tt
results_count v (r ∷ rs) = (refl, results_count (suc v) rs)

pub results_length : (v : ℕ) (rs : Scope) → length (numbers (results_renumbered v rs)) ≡ length rs
results_length v [] = refl
results_length v (r ∷ rs) = ap suc (results_length (suc v) rs)
