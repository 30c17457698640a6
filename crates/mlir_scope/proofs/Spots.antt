-- Where a name's entry stands.
use Rattle.std.proofs.Common.{◌≡◌, ◌<◌, ◌≤◌, ℕ, ◌+◌, ◌-◌, suc, Bool, true, false, cond, List, [], ◌∷◌, ◌++◌, length, Option, Some, None, refl, sym, ap, ◌∙◌, arith, append_assoc, get_or}
use Rattle.std.specs.Str.{bytes_eq}
use Rattle.std.proofs.lemmas.Bool.{cond-true, cond-false}
use Rattle.std.proofs.lemmas.List.{append-nil}
use Rattle.std.proofs.lemmas.Slice.Eq.{bytes_eq-Decides}
use Rattle.mlir_scope.specs.declared.names.Meaning.{Meaning}
use Rattle.mlir_scope.specs.Names.{Entry, entry, find, spot, place, FreshFrom}

none_if : {A B : Type 0} (b : Bool) (x : A) (y : B) (o : Option A) (p : Option B) → (o ≡ None → p ≡ None) → cond b (Some x) o ≡ None → cond b (Some y) p ≡ None
none_if true x y o p f h = absurd (cc h)
none_if false x y o p f h = f h

pub spot_none : (k : ℕ) (es : List Entry) (q : List ℕ) → find es q ≡ None → spot k es q ≡ None
spot_none k [] q h = refl
spot_none k (e ∷ es) q h = none_if (bytes_eq e.name q) e.means k (find es q) (spot (suc k) es q) (λ g. spot_none (suc k) es q g) h

pub none_spot : (k : ℕ) (es : List Entry) (q : List ℕ) → spot k es q ≡ None → find es q ≡ None
none_spot k [] q h = refl
none_spot k (e ∷ es) q h = none_if (bytes_eq e.name q) k e.means (spot (suc k) es q) (find es q) (λ g. none_spot (suc k) es q g) h

pub record At (k : ℕ) (es : List Entry) (q : List ℕ) (i : ℕ) : Type 0 where
  pub low : k ≤ i
  pub high : i < k + length es
  pub found : (d : Entry) → find es q ≡ Some (get_or es (i - k) d).means

at_if : (b : Bool) (k : ℕ) (e : Entry) (es : List Entry) (q : List ℕ) (i : ℕ) → bytes_eq e.name q ≡ b → (spot (suc k) es q ≡ Some i → At (suc k) es q i) → cond b (Some k) (spot (suc k) es q) ≡ Some i → At k (e ∷ es) q i
at_if true k e es q i b f h =
    let same : k ≡ i = cc h in
    let z : i - k ≡ 0 = omega arith in
    record { low = omega arith; high = omega arith; found = λ d. cond-true (bytes_eq e.name q) (Some e.means) (find es q) b ∙ sym (ap (λ j. Some (get_or (e ∷ es) j d).means) z) }
at_if false k e es q i b f h =
    let a = f h in
    let z : i - k ≡ suc (i - suc k) = omega (arith, a.low) in
    record { low = omega (arith, a.low); high = omega (arith, a.high); found = λ d. cond-false (bytes_eq e.name q) (Some e.means) (find es q) b ∙ a.found d ∙ sym (ap (λ j. Some (get_or (e ∷ es) j d).means) z) }

pub spot_at : (k : ℕ) (es : List Entry) (q : List ℕ) (i : ℕ) → spot k es q ≡ Some i → At k es q i
spot_at k [] q i h = absurd (cc h)
spot_at k (e ∷ es) q i h = at_if (bytes_eq e.name q) k e es q i refl (λ g. spot_at (suc k) es q i g) h

last_if : (b c : Bool) (k n : ℕ) (o p : Option ℕ) → (b ≡ true → c ≡ true → ⊥) → p ≡ cond c (Some n) o → cond b (Some k) p ≡ cond c (Some n) (cond b (Some k) o)
last_if true true k n o p f h = absurd (f refl refl)
last_if true false k n o p f h = refl
last_if false c k n o p f h = h

rest_none : (b : Bool) (m : Meaning) (o : Option Meaning) → cond b (Some m) o ≡ None → (b ≡ true → ⊥) × (o ≡ None)
rest_none true m o h = absurd (cc h)
rest_none false m o h = ((λ e. absurd (cc e)), h)

-- a new name stands last
pub spot_last : (k : ℕ) (es : List Entry) (name : List ℕ) (m : Meaning) (q : List ℕ) → find es name ≡ None → spot k (es ++ entry name m ∷ []) q ≡ cond (bytes_eq name q) (Some (k + length es)) (spot k es q)
spot_last k [] name m q h = let z : k ≡ k + 0 = omega arith in ap (λ j. cond (bytes_eq name q) (Some j) None) z
spot_last k (e ∷ es) name m q h =
    let r = rest_none (bytes_eq e.name name) e.means (find es name) h in
    let z : suc k + length es ≡ k + suc (length es) = omega arith in
    let ih = spot_last (suc k) es name m q r.1 ∙ ap (λ j. cond (bytes_eq name q) (Some j) (spot (suc k) es q)) z in
    last_if (bytes_eq e.name q) (bytes_eq name q) k (k + suc (length es)) (spot (suc k) es q) (spot (suc k) (es ++ entry name m ∷ []) q)
    (λ b c. r.0 ((bytes_eq-Decides e.name name).1 ((bytes_eq-Decides e.name q).0 b ∙ sym ((bytes_eq-Decides name q).0 c)))) ih

pub fresh_last : (before es : List Entry) (e : Entry) → FreshFrom before es → find (before ++ es) e.name ≡ None → FreshFrom before (es ++ e ∷ [])
fresh_last before [] e f h = (ap (λ (xs : List Entry). find xs e.name) (sym (append-nil before)) ∙ h, tt)
fresh_last before (x ∷ es) e f h = (f.0, fresh_last (before ++ x ∷ []) es e f.1 (ap (λ (xs : List Entry). find xs e.name) (append_assoc before (x ∷ []) es) ∙ h))

gone_if : (b : Bool) (o : Option ℕ) → (b ≡ true → o ≡ None) → cond b None o ≡ o
gone_if true o f = sym (f refl)
gone_if false o f = refl

-- a name that was not there is taken away again
pub spot_gone : (es : List Entry) (name q : List ℕ) → find es name ≡ None → cond (bytes_eq name q) None (spot 0 es q) ≡ spot 0 es q
spot_gone es name q h = gone_if (bytes_eq name q) (spot 0 es q) (λ b. spot_none 0 es q (ap (find es) (sym ((bytes_eq-Decides name q).0 b)) ∙ h))

pub defined : (old : List Entry) (name : List ℕ) (m : Meaning) (f g : List ℕ → Option ℕ) (n : ℕ) → ((q : List ℕ) → g q ≡ cond (bytes_eq name q) (Some n) (f q)) → n ≡ length old → ((q : List ℕ) → f q ≡ spot 0 old q) → find old name ≡ None
    → (q : List ℕ) → g q ≡ spot 0 (old ++ entry name m ∷ []) q
defined old name m f g n u e i none q =
    let z : n ≡ 0 + length old = omega arith in
    u q ∙ ap (λ k. cond (bytes_eq name q) (Some k) (f q)) z ∙ ap (λ o. cond (bytes_eq name q) (Some (0 + length old)) o) (i q) ∙ sym (spot_last 0 old name m q none)

if_twice : (b : Bool) (n : ℕ) (o : Option ℕ) → cond b None (cond b (Some n) o) ≡ cond b None o
if_twice true n o = refl
if_twice false n o = refl

pub undone : (old : List Entry) (name : List ℕ) (f g h : List ℕ → Option ℕ) (n : ℕ) → ((q : List ℕ) → g q ≡ cond (bytes_eq name q) (Some n) (f q)) → ((q : List ℕ) → h q ≡ cond (bytes_eq name q) None (g q)) → ((q : List ℕ) → f q ≡ spot 0 old q) → find old name ≡ None
    → (q : List ℕ) → h q ≡ spot 0 old q
undone old name f g h n u v i none q =
    v q ∙ ap (λ o. cond (bytes_eq name q) None o) (u q) ∙ if_twice (bytes_eq name q) n (f q) ∙ ap (λ o. cond (bytes_eq name q) None o) (i q) ∙ spot_gone old name q none

pub fresh_front : (before es : List Entry) (e : Entry) → FreshFrom before (es ++ e ∷ []) → FreshFrom before es × (find (before ++ es) e.name ≡ None)
fresh_front before [] e f = (tt, ap (λ (xs : List Entry). find xs e.name) (append-nil before) ∙ f.0)
fresh_front before (x ∷ es) e f =
    let r = fresh_front (before ++ x ∷ []) es e f.1 in
    ((f.0, r.0), ap (λ (xs : List Entry). find xs e.name) (sym (append_assoc before (x ∷ []) es)) ∙ r.1)

-- the last name is taken away
pub left : (items : List Entry) (e : Entry) (g h : List ℕ → Option ℕ) → ((q : List ℕ) → h q ≡ cond (bytes_eq e.name q) None (g q)) → ((q : List ℕ) → g q ≡ spot 0 (items ++ e ∷ []) q) → FreshFrom [] (items ++ e ∷ []) → ((q : List ℕ) → h q ≡ spot 0 items q) × FreshFrom [] items
left items e g h v i f =
    let r = fresh_front [] items e f in
    ((λ q. undone items e.name (λ p. spot 0 items p) g h (0 + length items) (λ p. i p ∙ spot_last 0 items e.name e.means p r.1) v (λ p. refl) r.1 q), r.0)

-- ---- lists of names

none_rest : (b : Bool) (k : ℕ) (o : Option ℕ) → cond b (Some k) o ≡ None → (b ≡ true → ⊥) × (o ≡ None)
none_rest true k o h = absurd (cc h)
none_rest false k o h = ((λ e. absurd (cc e)), h)

-- a new name stands last
place_last : (k : ℕ) (ns : List (List ℕ)) (n q : List ℕ) → place k ns n ≡ None → place k (ns ++ n ∷ []) q ≡ cond (bytes_eq n q) (Some (k + length ns)) (place k ns q)
place_last k [] n q h = let z : k ≡ k + 0 = omega arith in ap (λ j. cond (bytes_eq n q) (Some j) None) z
place_last k (x ∷ ns) n q h =
    let r = none_rest (bytes_eq x n) k (place (suc k) ns n) h in
    let z : suc k + length ns ≡ k + suc (length ns) = omega arith in
    let ih = place_last (suc k) ns n q r.1 ∙ ap (λ j. cond (bytes_eq n q) (Some j) (place (suc k) ns q)) z in
    last_if (bytes_eq x q) (bytes_eq n q) k (k + suc (length ns)) (place (suc k) ns q) (place (suc k) (ns ++ n ∷ []) q)
    (λ b c. r.0 ((bytes_eq-Decides x n).1 ((bytes_eq-Decides x q).0 b ∙ sym ((bytes_eq-Decides n q).0 c)))) ih

pub name_added : (old : List (List ℕ)) (name : List ℕ) (f g : List ℕ → Option ℕ) (n : ℕ) → ((q : List ℕ) → g q ≡ cond (bytes_eq name q) (Some n) (f q)) → n ≡ length old → ((q : List ℕ) → f q ≡ place 0 old q) → place 0 old name ≡ None
    → (q : List ℕ) → g q ≡ place 0 (old ++ name ∷ []) q
name_added old name f g n u e i none q =
    let z : n ≡ 0 + length old = omega arith in
    u q ∙ ap (λ k. cond (bytes_eq name q) (Some k) (f q)) z ∙ ap (λ o. cond (bytes_eq name q) (Some (0 + length old)) o) (i q) ∙ sym (place_last 0 old name q none)
