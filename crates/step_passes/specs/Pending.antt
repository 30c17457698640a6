-- Exchanges as the code makes them: those that are left are noted by the numbers of their targets.
use Rattle.std.specs.Prelude.{◌≡◌, ℕ, false, List, [], ◌∷◌, ◌++◌, Option, Some, None}
use Rattle.std.specs.BTreeMap as tree
use Rattle.std.specs.List.{flat_map}
use Rattle.std.specs.Ordering.{nat_cmp}
use Rattle.affine_maps.specs.Permutation.{is_among}
use Rattle.mlir_ir.specs.Shape.{FuncShape}
use Rattle.mlir_ir.specs.declared.tree.Op.{Op}
use Rattle.mlir_ir.specs.declared.tree.Ty.{Ty}
use Rattle.mlir_ir.specs.declared.tree.ValueId.{ValueId}
use Rattle.mlir_verify.specs.Names.{redefines, ids}
use Rattle.step_passes.specs.declared.exchange.Exchange.{Exchange}
use Rattle.step_passes.specs.declared.pending.Pending as code
use Rattle.step_passes.specs.OnePass.{Names, with_name, exchange_of, put, reused, passed_ops, passed_func}

abbrev pub pending_at : code.Pending → ℕ → Option Exchange
pending_at p i = tree.get nat_cmp p.map i

-- a result under another number
abbrev pub under : ℕ → ValueId × Ty → ValueId × Ty
under value r = (record { 0 = value }, r.1)

-- the number of the only result; without one, no exchange is made
abbrev pub IsOnly : List (ValueId × Ty) → Option ℕ → Type 0
IsOnly rs (Some v) = (t : Ty) × (rs ≡ (record { 0 = v }, t) ∷ [])
IsOnly rs None = (x : Exchange) (g : Names) (o : Op) → put (Some x) g o rs ≡ (reused g o, g)

-- names where uses of a value have another number
abbrev pub changed : Option (ℕ × ℕ) → Names → Names
changed (Some c) g = with_name c.0 c.1 g
changed None g = g

-- what stands in an operation's place, and the change of names behind it
abbrev pub Replaces : Option Exchange → Names → Op → Op × Option (ℕ × ℕ) → Type 0
Replaces x g o p = (p.0 ≡ (put x g o o.results).0) × (changed p.1 g ≡ (put x g o o.results).1)

-- all are left but those of operations that have stood before
abbrev pub AreLeft : List Exchange → List ℕ → code.Pending → Type 0
AreLeft xs gone p = (i : ℕ) → is_among i gone ≡ false → pending_at p i ≡ exchange_of xs i

abbrev pub all_ids : List FuncShape → List ℕ
all_ids = flat_map (λ f. ids f.body)

-- where no number stands twice, operations or functions are passed, and their exchanges are left no more
abbrev pub PassesOps : code.Pending → List Op → code.Pending → List Op → Type 0
PassesOps p os q new =
    (xs : List Exchange) (gone : List ℕ) → redefines (ids os) gone ≡ false → AreLeft xs gone p →
    (new ≡ passed_ops xs (λ n. n) os) × AreLeft xs (gone ++ ids os) q

abbrev pub PassesFunc : code.Pending → FuncShape → code.Pending → FuncShape → Type 0
PassesFunc p f q new =
    (xs : List Exchange) (gone : List ℕ) → redefines (ids f.body) gone ≡ false → AreLeft xs gone p →
    (new ≡ passed_func xs f) × AreLeft xs (gone ++ ids f.body) q
