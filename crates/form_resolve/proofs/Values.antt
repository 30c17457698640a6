-- What is resolved are values for the wants.
use Rattle.std.proofs.Common.{◌≡◌, ◌<◌, ◌≤◌, ◌+◌, ℕ, zero, suc, Bool, true, false, not, List, [], ◌∷◌, length, length-append, drop, Result, Ok, Err, Option, Some, None, refl, sym, ◌∙◌, subst, nat_lt, ◌==◌, arith}
use Rattle.std.specs.List.{AllByRecursion}
use Rattle.std.proofs.lemmas.Bool.{leb-true, ltb-true, eqb-true}
use Rattle.affine_maps.specs.Map.{IsMap}
use Rattle.affine_maps.specs.Shape.{MapShape}
use Rattle.mlir_base.specs.declared.limit.Which.TheVariants as limits
use Rattle.text_format.specs.declared.class.Class.TheVariants as classes
use Rattle.text_format.specs.declared.lexeme.Lexeme.{Lexeme}
use Rattle.text_format.specs.Token.{TokenShape}
use Rattle.form_table.specs.declared.part.Entry as table
use Rattle.form_table.specs.declared.part.Entry.TheVariants as entries
use Rattle.form_table.specs.declared.part.Next.{Next}
use Rattle.form_table.specs.declared.part.Part.{Part}
use Rattle.form_table.specs.declared.part.Part.TheVariants as parts
use Rattle.form_table.specs.declared.want.Element.{Element}
use Rattle.form_table.specs.declared.want.Element.TheVariants as elements
use Rattle.form_table.specs.declared.want.Role.{Role}
use Rattle.form_table.specs.declared.want.Role.TheVariants.{Used, TypeOf, ResultType, OutputType, Held, Repeated}
use Rattle.form_table.specs.declared.want.Want.{Want}
use Rattle.form_table.specs.declared.want.Want.TheVariants as wants
use Rattle.form_resolve.specs.declared.value.Value.{Value}
use Rattle.form_resolve.specs.declared.value.Value.TheVariants.{Id, MoreIds, Numbers, Indices, Maps, Iterators, Literal, There}
use Rattle.form_resolve.specs.declared.value.Seen.{Seen}
use Rattle.mlir_ir.specs.declared.tree.Iter.{Iter}
use Rattle.mlir_lex.specs.declared.fault.Fault.{Fault}
use Rattle.mlir_lex.specs.declared.fault.Fault.TheVariants.{Syntax, Unsupported, Number, Limit}
use Rattle.mlir_lex.specs.Chain.{and_then, demand, each}
use Rattle.mlir_scope.specs.Names.{Entry}
use Rattle.mlir_scope.specs.Maps.{AliasShape, AreMaps, tokens_of, aliased, alias_map, alias_map_with_symbols}
use Rattle.mlir_scope.proofs.MapsFit.{read_is_map, used_is_map}
use Rattle.mlir_syntax.specs.declared.tree.maps.MapUse.TheVariants as uses
use Rattle.mlir_scope.specs.Scope.{value, value_id, operand_of}
use Rattle.mlir_scope.specs.Types.{type_at}
use Rattle.mlir_scope.specs.Literals.{digits_value}
use Rattle.mlir_scope.proofs.Keeps.{then_ok, ok_same, demand_ok}
use Rattle.form_resolve.specs.Entries.{entry_place, as_written, is_axis, number_at, axis, as_value, index, listed, repeated, map_entry, iterator_entry, iterators_from, iterators_of, use_of, next_use, more_uses, typed_at, output_type, more_types}
use Rattle.form_resolve.specs.Forms.{silent}
use Rattle.form_resolve.specs.Resolving.{Standing, a_value, no_value, with_used, with_count, with_missing, token_stands, entry_stands, held_stand, listed_stand, more_stand, kept_stands, stands, with_some, resolved}
use Rattle.form_resolve.specs.Values.{IsIndex, IsHeld, IsFirst, AreFor}
use Rattle.form_resolve.proofs.FirstFaults.{Gives}
use Rattle.form_resolve.proofs.Steps.{resolved_silent, resolved_short, resolved_part}

gives_then : {A B : Type 0} (Q : B → Type 0) (r : Result A Fault) (f : A → Result B Fault) → ((x : A) → r ≡ Ok x → Gives Q (f x)) → Gives Q (and_then r f)
gives_then Q (Ok x) f k = k x refl
gives_then Q (Err e) f k = tt

of_given : {A : Type 0} (Q : A → Type 0) (r : Result A Fault) (x : A) → r ≡ Ok x → Gives Q r → Q x
of_given Q r x e h = subst (λ q. Gives Q q) e h

-- ---- entries

near : (negative : Bool) (n : ℕ) → is_axis negative n ≡ true → n ≤ 1048576
near false n h = leb-true n 1048576 h
near true n h = let e = eqb-true n 0 h in omega (arith, e)

number_given : (negative : Bool) (at : ℕ) (digits : TokenShape) → Gives (λ n. n ≤ 1048576) (number_at negative at digits)
number_given negative at digits = gives_then _ (demand (is_axis negative (digits_value digits.text)) (Number at at)) _ (λ u e. near negative (digits_value digits.text) (demand_ok _ (Number at at) u e))

axis_given : (x : table.Entry) → Gives (λ n. n ≤ 1048576) (axis x)
axis_given (entries.Token t) = tt
axis_given (entries.Number None digits) = number_given false digits.start digits
axis_given (entries.Number (Some minus) digits) = number_given true minus.start digits
axis_given (entries.Map m) = tt

as_value_given : (r : Result ℕ Fault) → Gives (λ n. n ≤ 1048576) r → Gives IsIndex (as_value r)
as_value_given r h = gives_then IsIndex r _ (λ n e. (n, refl, of_given _ r n e h))

index_given : (env : List Entry) (x : table.Entry) → Gives IsIndex (index env x)
index_given env (entries.Token t) = gives_then IsIndex (value_id env t) _ (λ v e. tt)
index_given env (entries.Number minus digits) = as_value_given (axis (entries.Number minus digits)) (axis_given (entries.Number minus digits))
index_given env (entries.Map m) = tt

each_given : {B : Type 0} (Q : B → Type 0) (f : table.Entry → Result B Fault) → ((x : table.Entry) → Gives Q (f x)) → (xs : List Next) → Gives (AllByRecursion Q) (each (λ (x : Next). f x.entry) xs)
each_given Q f one [] = tt
each_given Q f one (x ∷ xs) = gives_then _ (f x.entry) _ (λ y e. gives_then _ (each (λ (z : Next). f z.entry) xs) _ (λ ys k. (of_given Q (f x.entry) y e (one x.entry), of_given _ _ ys k (each_given Q f one xs))))

listed_given : {B : Type 0} (Q : B → Type 0) (f : table.Entry → Result B Fault) → ((x : table.Entry) → Gives Q (f x)) → (o : Option table.Entry) (xs : List Next) → Gives (AllByRecursion Q) (listed f o xs)
listed_given Q f one None xs = gives_then _ (each (λ (z : Next). f z.entry) xs) _ (λ ys k. of_given _ _ ys k (each_given Q f one xs))
listed_given Q f one (Some x) xs = gives_then _ (f x) _ (λ y e. gives_then _ (each (λ (z : Next). f z.entry) xs) _ (λ ys k. (of_given Q (f x) y e (one x), of_given _ _ ys k (each_given Q f one xs))))

iterator_given : (k : ℕ) (x : table.Entry) → Gives (λ (i : Iter). k < 12) (iterator_entry k x)
iterator_given k (entries.Token t) = gives_then _ (demand (nat_lt k 12) (Limit limits.Loops t.start)) _ (λ u e. ltb-true k 12 (demand_ok _ (Limit limits.Loops t.start) u e))
iterator_given k (entries.Number minus digits) = tt
iterator_given k (entries.Map m) = tt

iterators_given : (k : ℕ) (xs : List Next) → k ≤ 12 → Gives (λ (is : List Iter). k + length is ≤ 12) (iterators_from k xs)
iterators_given k [] h = omega (arith, h)
iterators_given k (x ∷ xs) h =
    gives_then _ (iterator_entry k x.entry) _ (λ i e. gives_then _ (iterators_from (suc k) xs) _ (λ is j.
    let a = of_given _ (iterator_entry k x.entry) i e (iterator_given k x.entry) in
    let b = of_given _ (iterators_from (suc k) xs) is j (iterators_given (suc k) xs (omega (arith, a))) in
    omega (arith, b)))

all_iterators_given : (o : Option table.Entry) (xs : List Next) → Gives (λ (is : List Iter). length is ≤ 12) (iterators_of o xs)
all_iterators_given None xs = gives_then _ (iterators_from 0 xs) _ (λ is j. let b = of_given _ (iterators_from 0 xs) is j (iterators_given 0 xs (omega arith)) in omega (arith, b))
all_iterators_given (Some x) xs = gives_then _ (iterator_entry 0 x) _ (λ i e. gives_then _ (iterators_from 1 xs) _ (λ is j. let b = of_given _ (iterators_from 1 xs) is j (iterators_given 1 xs (omega arith)) in omega (arith, b)))

use_given : (env : List Entry) (ts : List TokenShape) (x : table.Entry) → Gives (λ u. (length ts < 64) × (length u.0 ≡ suc (length ts))) (next_use env ts x)
use_given env ts (entries.Token t) =
    gives_then _ (operand_of env (length ts) t) _ (λ v e.
    let a = then_ok (value env t) _ v e in
    let b = then_ok (demand (nat_lt (length ts) 64) (Limit limits.Operands t.start)) _ v a.2 in
    (ltb-true (length ts) 64 (demand_ok _ (Limit limits.Operands t.start) b.0 b.1), length-append ts (t ∷ []) ∙ omega arith))
use_given env ts (entries.Number minus digits) = tt
use_given env ts (entries.Map m) = tt

uses_given : (env : List Entry) (ts : List TokenShape) (xs : List Next) → length ts ≤ 64 → Gives (λ u. (length ts + length u.1 ≤ 64) × (length u.0 ≡ length ts + length u.1)) (more_uses env ts xs)
uses_given env ts [] h = (omega (arith, h), omega arith)
uses_given env ts (x ∷ xs) h =
    gives_then _ (next_use env ts x.entry) _ (λ r e. gives_then _ (more_uses env r.0 xs) _ (λ q k.
    let a = of_given _ (next_use env ts x.entry) r e (use_given env ts x.entry) in
    let b = of_given _ (more_uses env r.0 xs) q k (uses_given env r.0 xs (omega (arith, a.0, a.1))) in
    (omega (arith, a.1, b.0), omega (arith, a.1, b.1))))

alias_given : (at : ℕ) (o : Option AliasShape) (m : MapShape) → alias_map at o ≡ Ok m → alias_map_with_symbols at o ≡ Ok m
alias_given at None m h = absurd (cc h)
alias_given at (Some a) m h = let t = then_ok (demand (not a.symbols) (Unsupported at)) (λ _. Ok a.map) m h in t.2

map_given : (al : List AliasShape) → AreMaps al → (x : table.Entry) → Gives IsMap (map_entry al x)
map_given al h (entries.Token t) = by (map_entry al (entries.Token t)) refl
  where
    by : (r : Result MapShape Fault) → map_entry al (entries.Token t) ≡ r → Gives IsMap r
    by (Ok m) e = used_is_map al (uses.Alias t) m h (alias_given t.start (aliased al t.text) m e)
    by (Err f) e = tt
map_given al h (entries.Number minus digits) = tt
map_given al h (entries.Map w) = by (map_entry al (entries.Map w)) refl
  where
    by : (r : Result MapShape Fault) → map_entry al (entries.Map w) ≡ r → Gives IsMap r
    by (Ok m) e = read_is_map false (tokens_of (as_written w)) m e
    by (Err f) e = tt

-- ---- one part

abbrev before : Option Value → List Value → List Value
before None vs = vs
before (Some v) vs = v ∷ vs

-- what stands for a part of the want goes before the values for the others
abbrev Leads : Want → ℕ → Standing → Type 1
Leads w u x = (go : ℕ → ℕ → List Value → Type 0) (vs : List Value) → (length x.1.1.used ≤ 64 → go x.1.0 (length x.1.1.used) vs) → IsFirst w u (before x.0 vs) go

abbrev Leading : Want → ℕ → Result Standing Fault → Type 1
Leading w u r = (x : Standing) → r ≡ Ok x → Leads w u x

leads_at : (w : Want) (u : ℕ) (x y : Standing) → ◌≡◌ {A = Result Standing Fault} (Ok x) (Ok y) → Leads w u x → Leads w u y
leads_at w u x y e h = subst (λ z. Leads w u z) (ok_same x y e) h

module _ (al : List AliasShape) (env : List Entry) (maps : AreMaps al) (s : Seen) (few : length s.used ≤ 64) where
  token_leads : (e : Element) (r : Role) (t : TokenShape) → Leading (wants.One e r) (length s.used) (token_stands env r s t)
  unfolding token_stands
  token_leads e Used t x h =
      let a = then_ok (use_of env s.used t) _ x h in
      let b = of_given _ (next_use env s.used (entries.Token t)) a.0 a.1 (use_given env s.used (entries.Token t)) in
      let r : Leads (wants.One e Used) (length s.used) (a_value (Id a.0.1.0 a.0.1.1) (with_used s a.0.0)) = λ go vs k. (b.0, subst (λ n. go zero n vs) b.1 (k (omega (arith, b.0, b.1)))) in
      leads_at (wants.One e Used) (length s.used) (a_value (Id a.0.1.0 a.0.1.1) (with_used s a.0.0)) x a.2 r
  token_leads e (TypeOf k) t x h = let a = then_ok (typed_at env (drop k s.used) t) _ x h in leads_at (wants.One e (TypeOf k)) (length s.used) _ x a.2 (λ go vs k. k few)
  token_leads e ResultType t x h = let a = then_ok (type_at t) _ x h in leads_at (wants.One e ResultType) (length s.used) _ x a.2 (λ go vs k. k few)
  token_leads e OutputType t x h = let a = then_ok (output_type env s.used t) _ x h in leads_at (wants.One e OutputType) (length s.used) _ x a.2 (λ go vs k. k few)
  token_leads e Held t x h = absurd (cc h)
  token_leads e (Repeated n) t x h = absurd (cc h)

  entry_leads : (e : Element) (r : Role) (y : table.Entry) → Leading (wants.One e r) (length s.used) (entry_stands env r s y)
  entry_leads e r (entries.Token t) x h = token_leads e r t x h
  entry_leads e Held (entries.Number m d) x h = leads_at (wants.One e Held) (length s.used) (a_value Literal s) x h (λ go vs k. k few)
  entry_leads e Used (entries.Number m d) x h = absurd (cc h)
  entry_leads e (TypeOf n) (entries.Number m d) x h = absurd (cc h)
  entry_leads e ResultType (entries.Number m d) x h = absurd (cc h)
  entry_leads e OutputType (entries.Number m d) x h = absurd (cc h)
  entry_leads e (Repeated n) (entries.Number m d) x h = absurd (cc h)
  entry_leads e Held (entries.Map m) x h = absurd (cc h)
  entry_leads e Used (entries.Map m) x h = absurd (cc h)
  entry_leads e (TypeOf n) (entries.Map m) x h = absurd (cc h)
  entry_leads e ResultType (entries.Map m) x h = absurd (cc h)
  entry_leads e OutputType (entries.Map m) x h = absurd (cc h)
  entry_leads e (Repeated n) (entries.Map m) x h = absurd (cc h)

  held_leads : (e : Element) (close : Lexeme) (o : Option table.Entry) (xs : List Next) → Leading (wants.Listed e close Held) (length s.used) (held_stand al env e s o xs)
  unfolding held_stand
  held_leads elements.Literal close o xs x h =
      let a = then_ok (listed axis o xs) _ x h in
      let b : IsHeld elements.Literal (Numbers a.0) = of_given _ (listed axis o xs) a.0 a.1 (listed_given (λ n. n ≤ 1048576) axis axis_given o xs) in
      let r : Leads (wants.Listed elements.Literal close Held) (length s.used) (a_value (Numbers a.0) (with_count s (length a.0))) = λ go vs k. (b, k few) in
      leads_at (wants.Listed elements.Literal close Held) (length s.used) (a_value (Numbers a.0) (with_count s (length a.0))) x a.2 r
  held_leads elements.Index close o xs x h =
      let a = then_ok (listed (index env) o xs) _ x h in
      let b : IsHeld elements.Index (Indices a.0) = of_given _ (listed (index env) o xs) a.0 a.1 (listed_given IsIndex (index env) (index_given env) o xs) in
      let r : Leads (wants.Listed elements.Index close Held) (length s.used) (a_value (Indices a.0) (with_count s (length a.0))) = λ go vs k. (b, k few) in
      leads_at (wants.Listed elements.Index close Held) (length s.used) (a_value (Indices a.0) (with_count s (length a.0))) x a.2 r
  held_leads elements.Map close o xs x h =
      let a = then_ok (listed (map_entry al) o xs) _ x h in
      let b : IsHeld elements.Map (Maps a.0) = of_given _ (listed (map_entry al) o xs) a.0 a.1 (listed_given IsMap (map_entry al) (map_given al maps) o xs) in
      let r : Leads (wants.Listed elements.Map close Held) (length s.used) (a_value (Maps a.0) (with_count s (length a.0))) = λ go vs k. (b, k few) in
      leads_at (wants.Listed elements.Map close Held) (length s.used) (a_value (Maps a.0) (with_count s (length a.0))) x a.2 r
  held_leads (elements.Leaf classes.Iterator) close o xs x h =
      let a = then_ok (iterators_of o xs) _ x h in
      let b : IsHeld (elements.Leaf classes.Iterator) (Iterators a.0) = of_given _ (iterators_of o xs) a.0 a.1 (all_iterators_given o xs) in
      let r : Leads (wants.Listed (elements.Leaf classes.Iterator) close Held) (length s.used) (a_value (Iterators a.0) (with_count s (length a.0))) = λ go vs k. (b, k few) in
      leads_at (wants.Listed (elements.Leaf classes.Iterator) close Held) (length s.used) (a_value (Iterators a.0) (with_count s (length a.0))) x a.2 r
  held_leads (elements.Leaf c) close o xs x h = absurd (cc h)

  list_leads : (e : Element) (close : Lexeme) (r : Role) (o : Option table.Entry) (xs : List Next) (t : TokenShape) → Leading (wants.Listed e close r) (length s.used) (listed_stand al env e r s o xs t)
  list_leads e close Held o xs t x h = held_leads e close o xs x h
  list_leads e close (Repeated n) o xs t x h = let a = then_ok (repeated n s.count o xs t) _ x h in leads_at (wants.Listed e close (Repeated n)) (length s.used) (no_value s) x a.2 (λ go vs k. k few)
  list_leads e close Used o xs t x h = absurd (cc h)
  list_leads e close (TypeOf n) o xs t x h = absurd (cc h)
  list_leads e close ResultType o xs t x h = absurd (cc h)
  list_leads e close OutputType o xs t x h = absurd (cc h)

  more_leads : (e : Element) (r : Role) (xs : List Next) → Leading (wants.More e r) (length s.used) (more_stand env r s xs)
  more_leads e Used xs x h =
      let a = then_ok (more_uses env s.used xs) _ x h in
      let b = of_given _ (more_uses env s.used xs) a.0 a.1 (uses_given env s.used xs few) in
      let r : Leads (wants.More e Used) (length s.used) (a_value (MoreIds a.0.1) (with_used s a.0.0)) = λ go vs k. (b.0, subst (λ n. go zero n vs) b.1 (k (omega (arith, b.0, b.1)))) in
      leads_at (wants.More e Used) (length s.used) (a_value (MoreIds a.0.1) (with_used s a.0.0)) x a.2 r
  more_leads e (TypeOf n) xs x h = let a = then_ok (more_types env (drop n s.used) xs) _ x h in leads_at (wants.More e (TypeOf n)) (length s.used) (no_value (with_missing s a.0)) x a.2 (λ go vs k. k few)
  more_leads e ResultType xs x h = absurd (cc h)
  more_leads e OutputType xs x h = absurd (cc h)
  more_leads e Held xs x h = absurd (cc h)
  more_leads e (Repeated n) xs x h = absurd (cc h)

  kept_leads : (l : Lexeme) (y : table.Entry) → Leading (wants.Kept l) (length s.used) (kept_stands s y)
  kept_leads l y x h = let a = then_ok (demand (s.missing == 0) (Syntax (entry_place y))) _ x h in leads_at (wants.Kept l) (length s.used) (no_value s) x a.2 (λ go vs k. k few)

  part_leads : (w : Want) (p : Part) → Leading w (length s.used) (stands al env w s p)
  unfolding stands
  part_leads (wants.One e r) (parts.One y) x h = entry_leads e r y x h
  part_leads (wants.Kept l) (parts.One y) x h = kept_leads l y x h
  part_leads (wants.Listed e close r) (parts.Listed o xs t) x h = list_leads e close r o xs t x h
  part_leads (wants.More e r) (parts.More xs) x h = more_leads e r xs x h
  part_leads wants.Dense (parts.Dense ds) x h = leads_at wants.Dense (length s.used) (a_value Literal s) x h (λ go vs k. k few)
  part_leads (wants.Maybe l n) (parts.There true) x h = leads_at (wants.Maybe l n) (length s.used) (Some (There true), (zero, s)) x h (λ go vs k. k few)
  part_leads (wants.Maybe l n) (parts.There false) x h = leads_at (wants.Maybe l n) (length s.used) (Some (There false), (n, s)) x h (λ go vs k. k few)
  part_leads w p x h = absurd (cc h)

-- ---- several parts

with_values : (o : Option Value) (r : Result (List Value) Fault) (vs : List Value) → with_some o r ≡ Ok vs → (us : List Value) × (r ≡ Ok us) × (before o us ≡ vs)
with_values None r vs h = (vs, h, refl)
with_values (Some v) r vs h = let a = then_ok r (λ us. Ok (v ∷ us)) vs h in (a.0, a.1, ok_same (v ∷ a.0) vs a.2)

-- a want without a part
silent_first : (w : Want) (n : ℕ) → silent w ≡ Some n → (u : ℕ) (vs : List Value) (go : ℕ → ℕ → List Value → Type 0) → go n u vs → IsFirst w u vs go
silent_first (wants.Fixed l) n e u vs go h = let k : zero ≡ n = cc e in subst (λ m. go m u vs) (sym k) h
silent_first wants.Space n e u vs go h = let k : zero ≡ n = cc e in subst (λ m. go m u vs) (sym k) h
silent_first (wants.Jump m) n e u vs go h = let k : m ≡ n = cc e in subst (λ i. go i u vs) (sym k) h
silent_first (wants.Kept l) n e u vs go h = absurd (cc e)
silent_first (wants.One x r) n e u vs go h = absurd (cc e)
silent_first (wants.Listed x c r) n e u vs go h = absurd (cc e)
silent_first (wants.More x r) n e u vs go h = absurd (cc e)
silent_first wants.Dense n e u vs go h = absurd (cc e)
silent_first (wants.Maybe l m) n e u vs go h = absurd (cc e)

module _ (al : List AliasShape) (env : List Entry) (maps : AreMaps al) where
  abbrev Behind : List Want → Type 0
  Behind ws = (n : ℕ) (t : Seen) (qs : List Part) (us : List Value) → length t.used ≤ 64 → resolved al env ws n t qs ≡ Ok us → AreFor ws n (length t.used) us

  for_part : (w : Want) → silent w ≡ None → (ws : List Want) (s : Seen) (ps : List Part) (vs : List Value) → length s.used ≤ 64 → Behind ws → resolved al env (w ∷ ws) zero s ps ≡ Ok vs → IsFirst w (length s.used) vs (λ n m us. AreFor ws n m us)
  for_part w q ws s [] vs few go h = absurd (cc (sym (resolved_short al env w q ws s) ∙ h))
  for_part w q ws s (p ∷ ps) vs few go h =
      let a = then_ok (stands al env w s p) (λ y. with_some y.0 (resolved al env ws y.1.0 y.1.1 ps)) vs (sym (resolved_part al env w q ws s p ps) ∙ h) in
      let b = with_values a.0.0 (resolved al env ws a.0.1.0 a.0.1.1 ps) vs a.2 in
      subst (λ us. IsFirst w (length s.used) us (λ n m us. AreFor ws n m us)) b.2 (part_leads al env maps s few w p a.0 a.1 (λ n m us. AreFor ws n m us) b.0 (λ f. go a.0.1.0 a.0.1.1 ps b.0 f b.1))

  for_want : (w : Want) (o : Option ℕ) → silent w ≡ o → (ws : List Want) (s : Seen) (ps : List Part) (vs : List Value) → length s.used ≤ 64 → Behind ws → resolved al env (w ∷ ws) zero s ps ≡ Ok vs → IsFirst w (length s.used) vs (λ n m us. AreFor ws n m us)
  for_want w (Some n) q ws s ps vs few go h = silent_first w n q (length s.used) vs (λ n m us. AreFor ws n m us) (go n s ps vs few (sym (resolved_silent al env w n q ws s ps) ∙ h))
  for_want w None q ws s ps vs few go h = for_part w q ws s ps vs few go h

  pub values_fit : (ws : List Want) (k : ℕ) (s : Seen) (ps : List Part) (vs : List Value) → length s.used ≤ 64 → resolved al env ws k s ps ≡ Ok vs → AreFor ws k (length s.used) vs
  unfolding resolved AreFor
  values_fit [] k s [] vs few h = subst (λ us. AreFor [] k (length s.used) us) (ok_same [] vs h) tt
  values_fit [] k s (p ∷ ps) vs few h = absurd (cc h)
  values_fit (w ∷ ws) (suc n) s ps vs few h = values_fit ws n s ps vs few h
  values_fit (w ∷ ws) zero s ps vs few h = for_want w (silent w) refl ws s ps vs few (λ n t qs us f e. values_fit ws n t qs us f e) h
