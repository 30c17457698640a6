-- One pass over a body: what it does along the body, and one more exchange after all others.
use Rattle.std.proofs.Common.{◌≡◌, ℕ, ◌<◌, ◌≤◌, ◌==◌, ◌||◌, Bool, true, false, List, [], ◌∷◌, ◌++◌, Option, Some, None, refl, ap, sym, subst, ◌∙◌, arith}
use Rattle.std.specs.Prelude.{if◌then◌else◌}
use Rattle.std.proofs.lemmas.Bool.{ne_eqb}
use Rattle.std.proofs.lemmas.Bool.Decides.{nat_tests}
use Rattle.std.proofs.lemmas.Option.{same_Some}
use Rattle.affine_maps.specs.Permutation.{is_among}
use Rattle.mlir_ir.specs.declared.tree.Op.{Op}
use Rattle.mlir_ir.specs.declared.tree.OpId.{OpId}
use Rattle.mlir_ir.specs.declared.tree.OpKind.{OpKind}
use Rattle.mlir_ir.specs.declared.tree.Ty.{Ty}
use Rattle.mlir_ir.specs.declared.tree.ValueId.{ValueId}
use Rattle.mlir_meaning.specs.Grids.{Each}
use Rattle.mlir_meaning.specs.Renaming.{renamed, reused_ops}
use Rattle.mlir_verify.specs.Names.{ids}
use Rattle.verified_runs.specs.Edits.{Step, placed, edited_body}
use Rattle.verified_runs.specs.Passes.{Scope, scope_after}
use Rattle.verified_runs.proofs.ReusedBodies.{or_false}
use Rattle.structured_steps.specs.Steps.{Rules, broken_in}
use Rattle.step_passes.specs.declared.exchange.Exchange.{Exchange}
use Rattle.step_passes.specs.OnePass.{exchange_of, Names, with_name, reused, put, put_by, passed_ops}
use Rattle.step_passes.proofs.Twice.{defined_twice, renamed_twice}

pub turned_eqb : (a b : ℕ) → (a == b) ≡ (b == a)
turned_eqb a b = grind (arith, nat_tests)

-- the numbers of exchanges are fresh: values from n on, and operations from k on
abbrev pub IsFresh : ℕ → ℕ → Exchange → Type 0
IsFresh n k x = (n ≤ x.value) × (k ≤ x.op)

-- WHICH EXCHANGE
pub found_fresh : (n k : ℕ) (xs : List Exchange) (i : ℕ) (x : Exchange) → Each (IsFresh n k) xs → exchange_of xs i ≡ Some x → IsFresh n k x
found_fresh n k [] i x h e = absurd cc
found_fresh n k (y ∷ xs) i x h e = by_test (y.target.0 == i) (found_fresh n k xs i x h.1) e where
  by_test : (b : Bool) → (exchange_of xs i ≡ Some x → IsFresh n k x) → (if b then Some y else exchange_of xs i) ≡ Some x → IsFresh n k x
  by_test true rest q = subst (IsFresh n k) (same_Some y x q) h.0
  by_test false rest q = rest q

pub other_exchange : (xs : List Exchange) (y : Exchange) (i : ℕ) → (y.target.0 == i) ≡ false → exchange_of (xs ++ y ∷ []) i ≡ exchange_of xs i
other_exchange [] y i h = λ j. if h j then Some y else None
other_exchange (x ∷ xs) y i h = ap (λ (r : Option Exchange). if x.target.0 == i then Some x else r) (other_exchange xs y i h)

pub last_exchange : (xs : List Exchange) (y : Exchange) (i : ℕ) → (y.target.0 == i) ≡ true → exchange_of xs i ≡ None → exchange_of (xs ++ y ∷ []) i ≡ Some y
last_exchange [] y i h e = λ j. if h j then Some y else None
last_exchange (x ∷ xs) y i h e = by_test (x.target.0 == i) e (last_exchange xs y i h) where
  by_test : (b : Bool) → (if b then Some x else exchange_of xs i) ≡ None → (exchange_of xs i ≡ None → exchange_of (xs ++ y ∷ []) i ≡ Some y) →
      (if b then Some x else exchange_of (xs ++ y ∷ []) i) ≡ Some y
  by_test true q rest = absurd cc
  by_test false q rest = rest q

-- ALONG A BODY
abbrev pub names_after : List Exchange → Names → List Op → Names
names_after xs g [] = g
names_after xs g (o ∷ os) = names_after xs (put_by xs g o).1 os

pub passed_append : (xs : List Exchange) (g : Names) (os more : List Op) → passed_ops xs g (os ++ more) ≡ passed_ops xs g os ++ passed_ops xs (names_after xs g os) more
passed_append xs g [] more = refl
passed_append xs g (o ∷ os) more = ap (λ ps. (put_by xs g o).0 ∷ ps) (passed_append xs (put_by xs g o).1 os more)

-- the number in an operation's place is its own or a fresh one
pub put_elsewhere : (n k t : ℕ) (e : Option Exchange) (g : Names) (o : Op) (rs : List (ValueId × Ty)) → t < k → ((x : Exchange) → e ≡ Some x → IsFresh n k x) →
    (o.id.0 == t) ≡ false → ((put e g o rs).0.id.0 == t) ≡ false
put_elsewhere n k t None g o rs l f h = h
put_elsewhere n k t (Some x) g o [] l f h = h
put_elsewhere n k t (Some x) g o (r ∷ []) l f h = ne_eqb x.op t (λ e. let p = (f x refl).1 in absurd (omega (arith, e, l, p)))
put_elsewhere n k t (Some x) g o (r ∷ s ∷ rs) l f h = h

module _ (n k : ℕ) (xs : List Exchange) (fresh : Each (IsFresh n k) xs) (t : OpId) (small : t.0 < k) where
  pub passed_elsewhere : (os : List Op) (g : Names) → is_among t.0 (ids os) ≡ false → is_among t.0 (ids (passed_ops xs g os)) ≡ false
  passed_elsewhere [] g h = refl
  passed_elsewhere (o ∷ os) g h =
      let parts = or_false (o.id.0 == t.0) _ h in
      λ j. put_elsewhere n k t.0 (exchange_of xs o.id.0) g o o.results small (λ x e. found_fresh n k xs o.id.0 x fresh e) parts.0 j
      || passed_elsewhere os (put_by xs g o).1 parts.1 j

-- before its target, a step leaves a body as it is, and breaks no rule
module _ (t : OpId) where
  pub edited_past : (step : Step) (front back : List Op) (scope : Scope) → is_among t.0 (ids front) ≡ false →
      edited_body t step scope (front ++ back) ≡ front ++ edited_body t step (scope_after scope front) back
  unfolding edited_body
  edited_past step [] back scope h = refl
  edited_past step (o ∷ front) back scope h =
      let parts = or_false (o.id.0 == t.0) _ h in
      (λ j. if parts.0 j then placed (step scope o) o (front ++ back) else o ∷ edited_body t step (scope ++ o.results) (front ++ back))
      ∙ ap (λ ps. o ∷ ps) (edited_past step front back (scope ++ o.results) parts.1)

  pub edited_here : (step : Step) (o : Op) (back : List Op) (scope : Scope) → (o.id.0 == t.0) ≡ true → edited_body t step scope (o ∷ back) ≡ placed (step scope o) o back
  unfolding edited_body
  edited_here step o back scope h = λ j. if h j then placed (step scope o) o back else o ∷ edited_body t step (scope ++ o.results) back

  pub broken_past : (rules : Rules) (front back : List Op) (scope : Scope) → is_among t.0 (ids front) ≡ false →
      broken_in t rules scope (front ++ back) ≡ broken_in t rules (scope_after scope front) back
  broken_past rules [] back scope h = refl
  broken_past rules (o ∷ front) back scope h =
      let parts = or_false (o.id.0 == t.0) _ h in
      (λ j. if parts.0 j then rules scope o else broken_in t rules (scope ++ o.results) (front ++ back))
      ∙ broken_past rules front back (scope ++ o.results) parts.1

  pub broken_here : (rules : Rules) (o : Op) (back : List Op) (scope : Scope) → (o.id.0 == t.0) ≡ true → broken_in t rules scope (o ∷ back) ≡ rules scope o
  broken_here rules o back scope h = λ j. if h j then rules scope o else broken_in t rules (scope ++ o.results) back

-- ONE MORE EXCHANGE, of another operation
module _ (xs : List Exchange) (y : Exchange) where
  elsewhere : (o : Op) → (o.id.0 == y.target.0) ≡ false → exchange_of (xs ++ y ∷ []) o.id.0 ≡ exchange_of xs o.id.0
  elsewhere o h = other_exchange xs y o.id.0 (turned_eqb y.target.0 o.id.0 ∙ h)

  pub absent_passed : (os : List Op) (g : Names) → is_among y.target.0 (ids os) ≡ false → passed_ops (xs ++ y ∷ []) g os ≡ passed_ops xs g os
  absent_passed [] g h = refl
  absent_passed (o ∷ os) g h =
      let parts = or_false (o.id.0 == y.target.0) _ h in
      (λ j. (put (elsewhere o parts.0 j) g o o.results).0 ∷ passed_ops (xs ++ y ∷ []) (put (elsewhere o parts.0 j) g o o.results).1 os)
      ∙ ap (λ ps. (put_by xs g o).0 ∷ ps) (absent_passed os (put_by xs g o).1 parts.1)

  pub absent_names : (os : List Op) (g : Names) → is_among y.target.0 (ids os) ≡ false → names_after (xs ++ y ∷ []) g os ≡ names_after xs g os
  absent_names [] g h = refl
  absent_names (o ∷ os) g h =
      let parts = or_false (o.id.0 == y.target.0) _ h in
      (λ j. names_after (xs ++ y ∷ []) (put (elsewhere o parts.0 j) g o o.results).1 os) ∙ absent_names os (put_by xs g o).1 parts.1

-- USES RENAMED AFTERWARDS
module _ (r v : ℕ) where
  -- the uses of one value become uses of another
  abbrev pub one_moved : Names
  one_moved w = if w == r then v else w

  abbrev pub after_names : Names → Names
  after_names g w = one_moved (g w)

  reused_twice : (g : Names) (o : Op) → reused one_moved (reused g o) ≡ reused (after_names g) o
  reused_twice g o = λ j. record { id = o.id; results = defined_twice one_moved g o.results j; kind = renamed_twice one_moved g o.kind j }

  module _ (n k : ℕ) (small : r < n) where
    put_moved : (e : Option Exchange) (g : Names) (o : Op) (rs : List (ValueId × Ty)) → reused one_moved (put e g o rs).0 ≡ (put e (after_names g) o rs).0
    put_moved None g o rs = reused_twice g o
    put_moved (Some x) g o [] = reused_twice g o
    put_moved (Some x) g o (q ∷ []) = λ j. record { id = record { 0 = x.op }; results = (record { 0 = x.value }, q.1) ∷ []; kind = renamed_twice one_moved g x.kind j }
    put_moved (Some x) g o (q ∷ s ∷ rs) = reused_twice g o

    name_moved : (q m : ℕ) (g : Names) → n ≤ m → after_names (with_name q m g) ≡ with_name q m (after_names g)
    name_moved q m g l = λ j w. by_test (w == q) (g w) j where
      by_test : (b : Bool) (u : ℕ) → one_moved (if b then m else u) ≡ (if b then m else one_moved u)
      by_test true u = λ j. if ne_eqb m r (λ e. absurd (omega (arith, e, l, small))) j then v else m
      by_test false u = refl

    names_moved : (e : Option Exchange) (g : Names) (o : Op) (rs : List (ValueId × Ty)) → ((x : Exchange) → e ≡ Some x → IsFresh n k x) →
        after_names (put e g o rs).1 ≡ (put e (after_names g) o rs).1
    names_moved None g o rs f = refl
    names_moved (Some x) g o [] f = refl
    names_moved (Some x) g o (q ∷ []) f = name_moved (q.0).0 x.value g (f x refl).0
    names_moved (Some x) g o (q ∷ s ∷ rs) f = refl

    pub passed_moved : (xs : List Exchange) (os : List Op) (g : Names) → Each (IsFresh n k) xs → reused_ops one_moved (passed_ops xs g os) ≡ passed_ops xs (after_names g) os
    passed_moved xs [] g h = refl
    passed_moved xs (o ∷ os) g h =
        (λ j. put_moved (exchange_of xs o.id.0) g o o.results j ∷ passed_moved xs os (put_by xs g o).1 h j)
        ∙ (λ j. (put_by xs (after_names g) o).0 ∷ passed_ops xs (names_moved (exchange_of xs o.id.0) g o o.results (λ x e. found_fresh n k xs o.id.0 x h e) j) os)

-- AT THE TARGET
pub target_passed : (n k : ℕ) (xs : List Exchange) (y : Exchange) (i : OpId) (r : ValueId × Ty) (kind : OpKind) (g : Names) (back : List Op) →
    Each (IsFresh n k) xs → (r.0).0 < n → (y.target.0 == i.0) ≡ true → exchange_of xs i.0 ≡ None → is_among y.target.0 (ids back) ≡ false →
    with_name (r.0).0 y.value g ≡ after_names (r.0).0 y.value g →
    passed_ops (xs ++ y ∷ []) g (record { id = i; results = r ∷ []; kind = kind } ∷ back)
    ≡ record { id = record { 0 = y.op }; results = (record { 0 = y.value }, r.1) ∷ []; kind = renamed (λ n. n) g (λ n. n) y.kind }
    ∷ reused_ops (one_moved (r.0).0 y.value) (passed_ops xs g back)
target_passed n k xs y i r kind g back fresh small here none absent names =
    let o : Op = record { id = i; results = r ∷ []; kind = kind } in
    let news : Op = record { id = record { 0 = y.op }; results = (record { 0 = y.value }, r.1) ∷ []; kind = renamed (λ n. n) g (λ n. n) y.kind } in
    (λ j. (put (last_exchange xs y i.0 here none j) g o (r ∷ [])).0 ∷ passed_ops (xs ++ y ∷ []) (put (last_exchange xs y i.0 here none j) g o (r ∷ [])).1 back)
    ∙ ap (λ ps. news ∷ ps) (absent_passed xs y back (with_name (r.0).0 y.value g) absent ∙ ap (λ h. passed_ops xs h back) names ∙ sym (passed_moved (r.0).0 y.value n k small xs back g fresh))
