-- Bounds computed apart from this program.
use Rattle.std.specs.Prelude.{ℕ, ℤ, pos, negsuc, List, [], ◌∷◌, Option, Some, None}
use Rattle.std.proofs.Common.{◌≡◌, refl}
use Rattle.index_forms.specs.Forms.{form, number, terms_below, sum_terms}
use Rattle.index_forms.specs.Bounds.{bound, forms_met, upper_of, lower_of}
use Rattle.index_forms.specs.declared.form.LinForm.{LinForm}
use Rattle.index_forms.specs.declared.form.Fact.{Fact}
use Rattle.index_forms.specs.declared.form.Fact.TheVariants.{Loop, Least, Extent}

abbrev bounds : List Fact → LinForm → Option ℤ × Option ℤ
bounds facts f = (lower_of facts f, upper_of facts f)

-- atom 0 is at most 5, and atom 1 runs from `start` to below `end` and `turns` times atom 0
abbrev loop : ℤ → ℤ → List (ℕ × ℤ) → ℤ → List Fact
loop start end turns step = Extent (pos 5) ∷ Loop (number start) (form end turns) step ∷ []

steps_of_3 : bounds (loop (pos 0) (pos 10) [] (pos 3)) (form (pos 1) ((1, pos 2) ∷ [])) ≡ (Some (pos 1), Some (pos 19))
unfolding terms_below sum_terms bound forms_met
steps_of_3 = refl

backwards : bounds (loop (pos 0) (pos 10) [] (pos 3)) (form (pos 0) ((1, negsuc 0) ∷ [])) ≡ (Some (negsuc 8), Some (pos 0))
unfolding terms_below sum_terms bound forms_met
backwards = refl

no_turn : bounds (loop (pos 2) (pos 2) [] (pos 1)) (form (pos 0) ((1, pos 1) ∷ [])) ≡ (Some (pos 2), Some (pos 1))
unfolding terms_below sum_terms bound forms_met
no_turn = refl

end_of_extent : bounds (loop (pos 0) (pos 4) ((0, pos 1) ∷ []) (pos 2)) (form (pos 0) ((1, pos 1) ∷ [])) ≡ (Some (pos 0), Some (pos 8))
unfolding terms_below sum_terms bound forms_met
end_of_extent = refl

-- atom 0 is at most `most`, and atom 1 the least of atom 0 and 1, and of `other`
abbrev least : ℤ → ℤ → List Fact
least most other = Extent most ∷ Least (form (pos 1) ((0, pos 1) ∷ []) ∷ number other ∷ []) ∷ []

least_of_two : bounds (least (pos 7) (pos 5)) (form (pos 0) ((1, pos 1) ∷ [])) ≡ (Some (pos 1), Some (pos 5))
unfolding terms_below sum_terms bound forms_met
least_of_two = refl

times_minus_3 : bounds (least (pos 7) (pos 5)) (form (pos 2) ((1, negsuc 2) ∷ [])) ≡ (Some (negsuc 12), Some (negsuc 0))
unfolding terms_below sum_terms bound forms_met
times_minus_3 = refl

past_the_limit : bounds (least (pos 7) (pos 4611686018427387904)) (form (pos 0) ((1, pos 4) ∷ [])) ≡ (None, Some (pos 32))
unfolding terms_below sum_terms bound forms_met
past_the_limit = refl

-- atom 0 is at most 2^62
abbrev at_limit : List Fact
at_limit = Extent (pos 4611686018427387904) ∷ []

constant_in_limit : bounds at_limit (number (pos 4611686018427387904)) ≡ (Some (pos 4611686018427387904), Some (pos 4611686018427387904))
unfolding bound forms_met
constant_in_limit = refl

constant_past_it : bounds at_limit (number (pos 4611686018427387905)) ≡ (None, None)
unfolding bound forms_met
constant_past_it = refl

sum_past_it : bounds at_limit (form (pos 1) ((0, pos 1) ∷ [])) ≡ (Some (pos 1), None)
unfolding terms_below sum_terms bound forms_met
sum_past_it = refl
