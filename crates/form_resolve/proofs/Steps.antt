-- Resolving by a form, as a loop does.
use Rattle.std.proofs.Common.{◌≡◌, ◌<◌, ◌≤◌, ◌+◌, ◌-◌, ℕ, zero, suc, List, [], ◌∷◌, ◌++◌, Result, Ok, Err, Option, Some, None, drop, length, get_or, refl, sym, ap, ◌∙◌, append_assoc, arith}
use Rattle.std.proofs.lemmas.List.{append-nil, at_drop_more, at_drop_all}
use Rattle.form_table.specs.declared.part.Part.{Part}
use Rattle.form_table.specs.declared.want.Want.{Want}
use Rattle.form_resolve.specs.declared.value.Value.{Value}
use Rattle.form_resolve.specs.declared.value.Seen.{Seen}
use Rattle.mlir_lex.specs.declared.fault.Fault.{Fault}
use Rattle.mlir_lex.specs.declared.fault.Refused.{Refused}
use Rattle.mlir_lex.specs.declared.fault.Refused.TheVariants.{At, Memory}
use Rattle.mlir_lex.specs.Chain.{and_then, Fails}
use Rattle.mlir_scope.specs.Names.{Entry}
use Rattle.mlir_scope.specs.Maps.{AliasShape}
use Rattle.form_resolve.specs.Entries.{misfit}
use Rattle.form_resolve.specs.Forms.{silent}
use Rattle.form_resolve.specs.Resolving.{Standing, stands, with_some, taken, resolved, behind_values, Goes}

-- ---- one want

abbrev then_others : List AliasShape → List Entry → List Want → List Part → Standing → Result (List Value) Fault
then_others al env ws ps x = with_some x.0 (resolved al env ws x.1.0 x.1.1 ps)

resolved_taken : (al : List AliasShape) (env : List Entry) (w : Want) (o : Option ℕ) → silent w ≡ o → (ws : List Want) (s : Seen) (ps : List Part) → resolved al env (w ∷ ws) zero s ps ≡ taken al env w o s ps (λ k t qs. resolved al env ws k t qs)
unfolding resolved
resolved_taken al env w o e ws s ps = ap (λ p. taken al env w p s ps (λ k t qs. resolved al env ws k t qs)) e

pub resolved_silent : (al : List AliasShape) (env : List Entry) (w : Want) (k : ℕ) → silent w ≡ Some k → (ws : List Want) (s : Seen) (ps : List Part) → resolved al env (w ∷ ws) zero s ps ≡ resolved al env ws k s ps
resolved_silent al env w k e ws s ps = resolved_taken al env w (Some k) e ws s ps

pub resolved_short : (al : List AliasShape) (env : List Entry) (w : Want) → silent w ≡ None → (ws : List Want) (s : Seen) → resolved al env (w ∷ ws) zero s [] ≡ Err misfit
resolved_short al env w e ws s = resolved_taken al env w None e ws s []

pub resolved_part : (al : List AliasShape) (env : List Entry) (w : Want) → silent w ≡ None → (ws : List Want) (s : Seen) (p : Part) (ps : List Part) → resolved al env (w ∷ ws) zero s (p ∷ ps) ≡ and_then (stands al env w s p) (then_others al env ws ps)
resolved_part al env w e ws s p ps = resolved_taken al env w None e ws s (p ∷ ps)

pub goes_out : (al : List AliasShape) (env : List Entry) (w : Want) (k : ℕ) → 0 < k → (fs : List Value) (s : Seen) (ps : List Part) (ws : List Want) → behind_values fs (resolved al env ws (k - 1) s ps) ≡ behind_values fs (resolved al env (w ∷ ws) k s ps)
unfolding resolved
goes_out al env w zero h fs s ps ws = absurd (omega (arith, h))
goes_out al env w (suc k) h fs s ps ws = let e : suc k - 1 ≡ k = omega arith in ap (λ n. behind_values fs (resolved al env ws n s ps)) e

none_out : (k : ℕ) → k ≤ 0 → zero ≡ k
none_out k h = omega (arith, h)

pub goes_silent : (al : List AliasShape) (env : List Entry) (w : Want) (k n : ℕ) → k ≤ 0 → silent w ≡ Some n → (fs : List Value) (s : Seen) (ps : List Part) (ws : List Want) → behind_values fs (resolved al env ws n s ps) ≡ behind_values fs (resolved al env (w ∷ ws) k s ps)
goes_silent al env w k n z e fs s ps ws = ap (behind_values fs) (sym (resolved_silent al env w n e ws s ps)) ∙ ap (λ m. behind_values fs (resolved al env (w ∷ ws) m s ps)) (none_out k z)

abbrev pub added : Option Value → List Value
added None = []
added (Some f) = f ∷ []

values_on : (fs : List Value) (o : Option Value) (r : Result (List Value) Fault) (gs : List Value) → gs ≡ fs ++ added o → behind_values gs r ≡ behind_values fs (with_some o r)
values_on fs None r gs e = ap (λ xs. behind_values xs r) (e ∙ append-nil fs)
values_on fs (Some f) (Ok hs) gs e = ap (λ xs. Ok (xs ++ hs)) e ∙ ap (λ xs. Ok xs) (append_assoc fs (f ∷ []) hs)
values_on fs (Some f) (Err x) gs e = refl

part_is : (al : List AliasShape) (env : List Entry) (w : Want) (k : ℕ) → k ≤ 0 → silent w ≡ None → (s : Seen) (p : Part) (ps all : List Part) → all ≡ p ∷ ps → (ws : List Want) → and_then (stands al env w s p) (then_others al env ws ps) ≡ resolved al env (w ∷ ws) k s all
part_is al env w k z e s p ps all q ws = sym (resolved_part al env w e ws s p ps) ∙ ap (λ xs. resolved al env (w ∷ ws) zero s xs) (sym q) ∙ ap (λ m. resolved al env (w ∷ ws) m s all) (none_out k z)

goes_on : (al : List AliasShape) (env : List Entry) (w : Want) (k n : ℕ) → k ≤ 0 → silent w ≡ None → (s new : Seen) (p : Part) (ps all : List Part) → all ≡ p ∷ ps → (o : Option Value) → stands al env w s p ≡ Ok (o, (n, new)) → (fs gs : List Value) → gs ≡ fs ++ added o
    → (ws : List Want) → behind_values gs (resolved al env ws n new ps) ≡ behind_values fs (resolved al env (w ∷ ws) k s all)
goes_on al env w k n z e s new p ps all q o r fs gs g ws =
    values_on fs o (resolved al env ws n new ps) gs g ∙ ap (λ x. behind_values fs (and_then x (then_others al env ws ps))) (sym r) ∙ ap (behind_values fs) (part_is al env w k z e s p ps all q ws)

pub goes_value : (al : List AliasShape) (env : List Entry) (w : Want) (k n : ℕ) → k ≤ 0 → silent w ≡ None → (s new : Seen) (p : Part) (ps all : List Part) → all ≡ p ∷ ps → (o : Option Value) (f : Value) → o ≡ Some f → stands al env w s p ≡ Ok (o, (n, new)) → (fs gs : List Value) → gs ≡ fs ++ f ∷ []
    → (ws : List Want) → behind_values gs (resolved al env ws n new ps) ≡ behind_values fs (resolved al env (w ∷ ws) k s all)
goes_value al env w k n z e s new p ps all q o f h r fs gs g ws = goes_on al env w k n z e s new p ps all q (Some f) (r ∙ ap (λ (x : Option Value). Ok (x, (n, new))) h) fs gs g ws

pub goes_none : (al : List AliasShape) (env : List Entry) (w : Want) (k n : ℕ) → k ≤ 0 → silent w ≡ None → (s new : Seen) (p : Part) (ps all : List Part) → all ≡ p ∷ ps → (o : Option Value) → o ≡ None → stands al env w s p ≡ Ok (o, (n, new)) → (fs : List Value)
    → (ws : List Want) → behind_values fs (resolved al env ws n new ps) ≡ behind_values fs (resolved al env (w ∷ ws) k s all)
goes_none al env w k n z e s new p ps all q o h r fs ws = goes_on al env w k n z e s new p ps all q None (r ∙ ap (λ (x : Option Value). Ok (x, (n, new))) h) fs fs (sym (append-nil fs)) ws

pub fails_short : (al : List AliasShape) (env : List Entry) (w : Want) (k : ℕ) → k ≤ 0 → silent w ≡ None → (s : Seen) (all : List Part) → all ≡ [] → (ws : List Want) → resolved al env (w ∷ ws) k s all ≡ Err misfit
fails_short al env w k z e s all q ws = ap (λ m. resolved al env (w ∷ ws) m s all) (sym (none_out k z)) ∙ ap (λ xs. resolved al env (w ∷ ws) zero s xs) q ∙ resolved_short al env w e ws s

pub fails_part : (al : List AliasShape) (env : List Entry) (w : Want) (k : ℕ) → k ≤ 0 → silent w ≡ None → (s : Seen) (p : Part) (ps all : List Part) → all ≡ p ∷ ps → (x : Fault) → stands al env w s p ≡ Err x → (ws : List Want) → resolved al env (w ∷ ws) k s all ≡ Err x
fails_part al env w k z e s p ps all q x r ws = sym (part_is al env w k z e s p ps all q ws) ∙ ap (λ y. and_then y (then_others al env ws ps)) r

-- ---- no more wants

pub all_done : (al : List AliasShape) (env : List Entry) (k : ℕ) (s : Seen) (fs : List Value) (ps : List Part) (total : Result (List Value) Fault) → ps ≡ [] → behind_values fs (resolved al env [] k s ps) ≡ total → total ≡ Ok fs
unfolding resolved
all_done al env k s fs ps total e h = sym h ∙ ap (λ xs. behind_values fs (resolved al env [] k s xs)) e ∙ ap (λ xs. Ok xs) (append-nil fs)

pub not_done : (al : List AliasShape) (env : List Entry) (k : ℕ) (s : Seen) (fs : List Value) (ps others : List Part) (p : Part) (total : Result (List Value) Fault) → ps ≡ p ∷ others → behind_values fs (resolved al env [] k s ps) ≡ total → total ≡ Err misfit
unfolding resolved
not_done al env k s fs ps others p total e h = sym h ∙ ap (λ xs. behind_values fs (resolved al env [] k s xs)) e

pub fails_all : (al : List AliasShape) (env : List Entry) (w : Want) (rest all : List Want) (k : ℕ) (s : Seen) (fs gs : List Value) (ps : List Part) (taken : ℕ) (new : Seen) (why : Refused) (total : Result (List Value) Fault)
    → Goes al env w k s fs ps taken new gs (Err why) → all ≡ w ∷ rest → behind_values fs (resolved al env all k s (drop taken ps)) ≡ total → Fails why total
fails_all al env w rest all k s fs gs ps taken new Memory total h e i = tt
fails_all al env w rest all k s fs gs ps taken new (At x) total h e i = sym i ∙ ap (λ vs. behind_values fs (resolved al env vs k s (drop taken ps))) e ∙ ap (behind_values fs) (h rest)

pub part_fails : (al : List AliasShape) (env : List Entry) (w : Want) (k : ℕ) → k ≤ 0 → silent w ≡ None → (s new : Seen) (fs : List Value) (p : Part) (rest all : List Part) (taken : ℕ) → drop taken all ≡ p ∷ rest → (why : Refused) → Fails why (stands al env w s p) → Goes al env w k s fs all taken new fs (Err why)
part_fails al env w k z e s new fs p rest all taken q Memory h = tt
part_fails al env w k z e s new fs p rest all taken q (At x) h = fails_part al env w k z e s p rest (drop taken all) q x h

-- ---- what is left of a list

pub drop_here : {A : Type 0} (xs : List A) (i : ℕ) (d : A) → i < length xs → drop i xs ≡ get_or xs i d ∷ drop (i + 1) xs
drop_here xs i d h = at_drop_more (λ ys. ys) xs i d h

pub drop_out : {A : Type 0} (xs : List A) (i : ℕ) → length xs ≤ i → drop i xs ≡ []
drop_out xs i h = at_drop_all (λ ys. ys) xs i h

pub drop_index : {A : Type 0} (xs : List A) (i : ℕ) (x : A) → i < length xs → x ≡ get_or xs i x → drop i xs ≡ x ∷ drop (i + 1) xs
drop_index xs i x h e = drop_here xs i x h ∙ ap (λ y. y ∷ drop (i + 1) xs) (sym e)

pub some_left : {A : Type 0} (xs : List A) (i : ℕ) → i < length xs → (x : A) × (rest : List A) × (drop i xs ≡ x ∷ rest)
some_left [] i h = absurd (omega (arith, h))
some_left (x ∷ xs) i h = (get_or (x ∷ xs) i x, drop (i + 1) (x ∷ xs), drop_here (x ∷ xs) i x h)
