-- Values that are set, and states with the same values.
use Rattle.std.proofs.Common.{◌≡◌, ℕ, ◌==◌, Bool, true, false, List, [], ◌∷◌, length, refl, ap, sym, ◌∙◌}
use Rattle.std.specs.Prelude.{if◌then◌else◌}
use Rattle.std.proofs.lemmas.Bool.{eq-eqb, ne_eqb, true≢false}
use Rattle.affine_maps.specs.Shape.{MapShape}
use Rattle.payload_ops.specs.Shape.{PayloadShape}
use Rattle.mlir_ir.specs.declared.tree.Iter.{Iter}
use Rattle.mlir_ir.specs.declared.tree.OpKind.{Generic}
use Rattle.mlir_ir.specs.declared.tree.Ty.{Ty}
use Rattle.mlir_ir.specs.declared.tree.ValueId.{ValueId}
use Rattle.mlir_meaning.specs.declared.values.Datum.{Datum}
use Rattle.mlir_meaning.specs.Grids.{Each}
use Rattle.mlir_meaning.specs.Meaning.{kind_meaning, values_in, captured_in}
use Rattle.mlir_meaning.specs.Names.{DoesNotName, SameOn}
use Rattle.mlir_meaning.specs.States.{State, element, made, set, set_all}
use Rattle.mlir_meaning.specs.Structured.{generic_result}

-- ONE VALUE
pub set_same : (e : ℕ → Datum) (v : ℕ) (d : Datum) → set e v d v ≡ d
set_same e v d = λ j. if eq-eqb v v refl j then d else e v

pub set_other : (e : ℕ → Datum) (v w : ℕ) (d : Datum) → (w == v) ≡ false → set e v d w ≡ e w
set_other e v w d n = λ j. if n j then d else e w

-- what is in the set isn't what is not
pub apart : (N : ℕ → Bool) (v w : ℕ) → N v ≡ false → N w ≡ true → (w == v) ≡ false
apart N v w f t = ne_eqb w v (λ e. true≢false (sym t ∙ ap N e ∙ f))

-- SEVERAL VALUES
pub set_all_other : (vs : List ValueId) (ds : List Datum) (e : ℕ → Datum) (w : ℕ) → DoesNotName w vs → set_all e vs ds w ≡ e w
set_all_other [] ds e w h = refl
set_all_other (v ∷ vs) [] e w h = refl
set_all_other (v ∷ vs) (d ∷ ds) e w h = set_all_other vs ds (set e v.0 d) w h.1 ∙ set_other e v.0 w d (ne_eqb w v.0 h.0)

-- values that are set and not set again
pub set_all_first : (v : ValueId) (vs : List ValueId) (d : Datum) (ds : List Datum) (e : ℕ → Datum) → DoesNotName v.0 vs → set_all e (v ∷ vs) (d ∷ ds) v.0 ≡ d
set_all_first v vs d ds e h = set_all_other vs ds (set e v.0 d) v.0 h ∙ set_same e v.0 d

-- WHAT IS READ
module _ (e f : ℕ → Datum) where
  abbrev pub Agrees : ValueId → Type 0
  Agrees v = e v.0 ≡ f v.0

  pub values_same : (vs : List ValueId) → Each Agrees vs → values_in e vs ≡ values_in f vs
  values_same [] h = refl
  values_same (v ∷ vs) h = λ j. h.0 j ∷ values_same vs h.1 j

  pub captured_same : (vs : List ValueId) → Each Agrees vs → captured_in e vs ≡ captured_in f vs
  captured_same [] h = refl
  captured_same (v ∷ vs) h = λ j. element (h.0 j) [] ∷ captured_same vs h.1 j

pub values_kept : (e : ℕ → Datum) (v : ℕ) (d : Datum) (ns : List ValueId) → DoesNotName v ns → values_in (set e v d) ns ≡ values_in e ns
values_kept e v d [] h = refl
values_kept e v d (n ∷ ns) h = λ j. set_other e v n.0 d (ne_eqb n.0 v (λ x. h.0 (sym x))) j ∷ values_kept e v d ns h.1 j

-- a generic, by what its operands hold
pub generic_runs : (s : State) (rs : List (ValueId × Ty)) (maps : List MapShape) (iterators : List Iter) (ins : List ValueId) (outs : ValueId) (captured : List ValueId) (payload : PayloadShape)
    (xs : List Datum) (out : Datum) (numbers : List ℕ) → values_in s.values ins ≡ xs → s.values outs.0 ≡ out → captured_in s.values captured ≡ numbers →
    kind_meaning (Generic maps iterators ins outs captured payload) rs s ≡ made rs s (generic_result maps (length iterators) xs out numbers payload)
unfolding kind_meaning
generic_runs s rs maps iterators ins outs captured payload xs out numbers e f h = λ j. made rs s (generic_result maps (length iterators) (e j) (f j) (h j) payload)

-- STATES
-- every value
abbrev pub all : ℕ → Bool
all v = true

pub one_state : (s : State) → SameOn all s s
one_state s = record { values = λ v h. refl; shared = refl; inserts = refl }

-- states with the same values are one
pub same_states : (s t : State) → SameOn all s t → s ≡ t
same_states s t a = λ j. record { values = λ v. a.values v refl j; shared = a.shared j; inserts = a.inserts j }
