-- Forms with their signs turned.
use Rattle.std.proofs.Common.{◌≡◌, ℤ, pos, negsuc, neg_ℤ, ◌-ℤ◌, ◌*ℤ◌, [], ◌∷◌, arith, IsTrue}
use Rattle.std.proofs.lemmas.Int.{ints}
use Rattle.index_forms.specs.declared.form.LinForm.{LinForm}
use Rattle.index_forms.specs.Forms.{scaled}
use Rattle.index_forms.specs.Limit.{in_limit, all_in, within}
use Rattle.index_forms.specs.Bounds.{negated}
use Rattle.index_forms.proofs.Ints.{and_left, and_right, and_both, limit_low, limit_high, limit_in}
use Rattle.index_forms.proofs.Limits.{Terms}

pub turned_in : (z y : ℤ) → y ≡ pos 0 -ℤ z → IsTrue (in_limit z) → IsTrue (in_limit y)
turned_in z y e h = let l = limit_low z h in let k = limit_high z h in limit_in y (omega (arith, ints)) (omega (arith, ints))

pub times_is : (z : ℤ) → negsuc 0 *ℤ z ≡ pos 0 -ℤ z
times_is z = omega (arith, ints)

pub all_turned : (ts : Terms) → IsTrue (all_in ts) → IsTrue (all_in (scaled (negsuc 0) ts))
all_turned [] h = h
all_turned (t ∷ ts) h = and_both _ _ (turned_in t.1 (negsuc 0 *ℤ t.1) (times_is t.1) (and_left (in_limit t.1) (all_in ts) h)) (all_turned ts (and_right (in_limit t.1) (all_in ts) h))

pub negated_within : (f : LinForm) → IsTrue (within f) → IsTrue (within (negated f))
negated_within f h = and_both _ _ (turned_in f.constant (neg_ℤ f.constant) (same f.constant) (and_left (in_limit f.constant) (all_in f.terms) h)) (all_turned f.terms (and_right (in_limit f.constant) (all_in f.terms) h)) where
  same : (z : ℤ) → neg_ℤ z ≡ pos 0 -ℤ z
  same z = omega (arith, ints)

all_turned_back : (ts : Terms) → IsTrue (all_in (scaled (negsuc 0) ts)) → IsTrue (all_in ts)
all_turned_back [] h = h
all_turned_back (t ∷ ts) h = and_both (in_limit t.1) (all_in ts) (turned_in (negsuc 0 *ℤ t.1) t.1 (omega (arith, ints)) (and_left (in_limit (negsuc 0 *ℤ t.1)) (all_in (scaled (negsuc 0) ts)) h)) (all_turned_back ts (and_right (in_limit (negsuc 0 *ℤ t.1)) (all_in (scaled (negsuc 0) ts)) h))

pub within_back : (f : LinForm) → IsTrue (within (negated f)) → IsTrue (within f)
within_back f h = and_both (in_limit f.constant) (all_in f.terms) (turned_in (neg_ℤ f.constant) f.constant (omega (arith, ints)) (and_left (in_limit (neg_ℤ f.constant)) (all_in (scaled (negsuc 0) f.terms)) h)) (all_turned_back f.terms (and_right (in_limit (neg_ℤ f.constant)) (all_in (scaled (negsuc 0) f.terms)) h))
