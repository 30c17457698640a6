-- The sum of a level with its last product.
use Rattle.std.proofs.Common.{◌≡◌, ℕ, Bool, true, false, cond, Ok, Err, sym, ap, ◌∙◌}
use Rattle.affine_maps.specs.declared.map.Expr.{Expr}
use Rattle.affine_text.specs.declared.reading.fault.MapError.TheVariants.{Range}
use Rattle.affine_text.specs.Collected.{form_in_range, plus_form}
use Rattle.affine_text.specs.Meaning.{sum_of, in_range}
use Rattle.affine_text.specs.Multiples.{Adds}
use Rattle.affine_text.specs.Reading.{signed}

ranged : (b : Bool) (at : ℕ) (e : Expr) → form_in_range e ≡ b → in_range at e ≡ cond b (Ok e) (Err (Range at))
unfolding in_range
ranged b at e h = ap (λ (c : Bool). cond c (Ok e) (Err (Range at))) h

pub sum_ends : (b : Bool) (at : ℕ) (e f s g : Expr) (done : Bool) → s ≡ signed b f → done ≡ true → Adds e s (Ok done) g → sum_of b at e f ≡ Ok g
unfolding sum_of
sum_ends b at e f s g true h d k = ap (λ (x : Expr). in_range at (plus_form e x)) (sym h) ∙ ranged true at (plus_form e s) k.0 ∙ ap Ok (sym k.1)
sum_ends b at e f s g false h d k = absurd cc

pub sum_far : (b : Bool) (at : ℕ) (e f s g : Expr) (done : Bool) → s ≡ signed b f → done ≡ false → Adds e s (Ok done) g → sum_of b at e f ≡ Err (Range at)
unfolding sum_of
sum_far b at e f s g false h d k = ap (λ (x : Expr). in_range at (plus_form e x)) (sym h) ∙ ranged false at (plus_form e s) k
sum_far b at e f s g true h d k = absurd cc
