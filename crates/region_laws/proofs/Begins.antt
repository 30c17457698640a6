-- The state in which a body of a `scf.forall` with several shared outputs begins.
use Rattle.std.proofs.Common.{◌≡◌, ℕ, zero, suc, ◌==◌, Bool, true, List, [], ◌∷◌, ◌++◌, Some, refl, ap, sym, ◌∙◌}
use Rattle.std.specs.Prelude.{slice_get}
use Rattle.std.proofs.lemmas.Option.{same_Some}
use Rattle.payload_laws.proofs.Fitted.{slice_get-none}
use Rattle.mlir_ir.specs.declared.tree.ValueId.{ValueId}
use Rattle.mlir_meaning.specs.Loops.{numbers_at, arguments, starts, forall_state}
use Rattle.mlir_meaning.specs.States.{set_all, indices_in}
use Rattle.mlir_meaning.specs.declared.values.Datum.{Datum}
use Rattle.point_laws.proofs.Lists.{or_right}
use Rattle.region_laws.specs.Nests.{with_value, AreNewVars}
use Rattle.region_laws.specs.Laws.{ForallBeginsAmong}
use Rattle.region_laws.proofs.Foralls.{forall_numbers_are, set_all_keeps, set_all_at, with_self, vars_are}

-- the set with several values
abbrev with_all : (ℕ → Bool) → List ValueId → ℕ → Bool
with_all N [] = N
with_all N (v ∷ vs) = with_all (with_value N v) vs

keeps_all : (N : ℕ → Bool) (vs : List ValueId) (w : ℕ) → N w ≡ true → with_all N vs w ≡ true
keeps_all N [] w h = h
keeps_all N (v ∷ vs) w h = keeps_all (with_value N v) vs w (or_right (w == v.0) (N w) h)

has_all : (N : ℕ → Bool) (vs : List ValueId) (k : ℕ) (v : ValueId) → slice_get vs k ≡ Some v → with_all N vs v.0 ≡ true
has_all N [] k v h = absurd (slice_get-none k v h)
has_all N (x ∷ vs) zero v h = keeps_all (with_value N x) vs v.0 ((λ j. with_value N x (sym (same_Some x v h) j).0) ∙ with_self N x)
has_all N (x ∷ vs) (suc k) v h = has_all (with_value N x) vs k v h

new_first : (N : ℕ → Bool) (vs ws : List ValueId) → AreNewVars N (vs ++ ws) → AreNewVars N vs × AreNewVars (with_all N vs) ws
new_first N [] ws h = (tt, h)
new_first N (v ∷ vs) ws h = let r = new_first (with_value N v) vs ws h.1 in ((h.0, r.0), r.1)

pub begins_among : ForallBeginsAmong
begins_among N u ds h q loop new =
    let args : List ValueId = arguments h.shared in
    let e : ℕ → Datum = set_all u.values args (starts u.values h.shared) in
    let numbers : List Datum = numbers_at (indices_in u.values h.lower) (indices_in u.values h.step) q in
    let parts = new_first N args h.vars new in
    record {
      knows = λ w is. set_all_keeps (with_all N args) h.vars numbers e w parts.1 (keeps_all N args w is) ∙ set_all_keeps N args (starts u.values h.shared) u.values w parts.0 is;
      vars = vars_are (with_all N args) ds h.vars q (forall_state u h q) e parts.1 (ap (set_all e h.vars) (forall_numbers_are ds u h loop q));
      start = λ k arg d at_arg at_start.
          set_all_keeps (with_all N args) h.vars numbers e arg.0 parts.1 (has_all N args k arg at_arg)
          ∙ set_all_at N args (starts u.values h.shared) u.values k arg d parts.0 at_arg at_start;
      shared = refl;
      inserts = refl;
    }
