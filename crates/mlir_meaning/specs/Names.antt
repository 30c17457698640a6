-- Which values a tree reads, and which it defines.
use Rattle.std.specs.Prelude.{◌≡◌, ◌≢◌, ℕ, Bool, true, List, ⊤}
use Rattle.mlir_ir.specs.Count.{operands}
use Rattle.mlir_ir.specs.Shape.{FuncShape}
use Rattle.mlir_ir.specs.declared.tree.Op.{Op}
use Rattle.mlir_ir.specs.declared.tree.ValueId.{ValueId}
use Rattle.mlir_ir.specs.declared.tree.OpKind.{OpKind, For', Forall', Row_of-Op, end_of-Op, more_of-Op}
use Rattle.mlir_meaning.specs.Grids.{Each}
use Rattle.mlir_meaning.specs.States.{State, Outcome, Goes, Ends, Fails, names_of}
use Rattle.mlir_meaning.specs.Loops.{arguments}

-- each of the values is in the set
abbrev pub AreIn : (ℕ → Bool) → List ValueId → Type 0
AreIn N = Each (λ v. N v.0 ≡ true)

-- none of the values is v
abbrev pub DoesNotName : ℕ → List ValueId → Type 0
DoesNotName v = Each (λ w. v ≢ w.0)

-- each operand of an operation, and of those inside it, is in the set
unfoldable mutual
  pub ReadsOnly : (ℕ → Bool) → OpKind → Type 0
  ReadsOnly N (For' var lower upper step carried shape row) = AreIn N (operands (For' var lower upper step carried shape row)) × RowReadsOnly N row
  ReadsOnly N (Forall' vars lower upper step shared shape row) =
      AreIn N (operands (Forall' vars lower upper step shared shape row)) × RowReadsOnly N row
  ReadsOnly N kind = AreIn N (operands kind)

  pub RowReadsOnly : {n : _} → (ℕ → Bool) → Row_of-Op n → Type 0
  RowReadsOnly N end_of-Op = ⊤
  RowReadsOnly N (more_of-Op id results kind rest) = ReadsOnly N kind × RowReadsOnly N rest

abbrev pub OpsReadOnly : (ℕ → Bool) → List Op → Type 0
OpsReadOnly N = Each (λ o. ReadsOnly N o.kind)

-- it holds of each value that an operation's body and the operations in it define
unfoldable mutual
  pub DefinesOnly : (ℕ → Type 0) → OpKind → Type 0
  DefinesOnly D (For' var lower upper step carried shape row) = D var.0 × Each (λ v. D v.0) (arguments carried) × RowDefinesOnly D row
  DefinesOnly D (Forall' vars lower upper step shared shape row) =
      Each (λ v. D v.0) vars × Each (λ v. D v.0) (arguments shared) × RowDefinesOnly D row
  DefinesOnly D kind = ⊤

  pub RowDefinesOnly : {n : _} → (ℕ → Type 0) → Row_of-Op n → Type 0
  RowDefinesOnly D end_of-Op = ⊤
  RowDefinesOnly D (more_of-Op id results kind rest) = (Each (λ v. D v.0) (names_of results) × DefinesOnly D kind) × RowDefinesOnly D rest

abbrev pub OpsDefineOnly : (ℕ → Type 0) → List Op → Type 0
OpsDefineOnly D = Each (λ o. Each (λ v. D v.0) (names_of o.results) × DefinesOnly D o.kind)

-- every value that a function uses or defines is in the set
pub record NamesOnly (N : ℕ → Bool) (f : FuncShape) : Type 0 where
  pub params : AreIn N (names_of f.params)
  pub reads : OpsReadOnly N f.body
  pub defines : OpsDefineOnly (λ v. N v ≡ true) f.body

-- the values in the set have different numbers afterwards
abbrev pub IsInjectiveOn : (ℕ → Bool) → (ℕ → ℕ) → Type 0
IsInjectiveOn N f = (v w : ℕ) → N v ≡ true → N w ≡ true → f v ≡ f w → v ≡ w

-- STATES THAT AGREE
-- on the values in the set, where the second state has them under the numbers that f gives
pub record SameThrough (N : ℕ → Bool) (f : ℕ → ℕ) (s t : State) : Type 0 where
  pub values : (v : ℕ) → N v ≡ true → s.values v ≡ t.values (f v)
  pub shared : s.shared ≡ t.shared
  pub inserts : s.inserts ≡ t.inserts

abbrev pub AlikeThrough : (ℕ → Bool) → (ℕ → ℕ) → Outcome → Outcome → Type 0
AlikeThrough N f (Goes s) (Goes t) = SameThrough N f s t
AlikeThrough N f (Ends ds) (Ends es) = ds ≡ es
AlikeThrough N f (Fails x) (Fails y) = x ≡ y
AlikeThrough N f _ _ = ⊥

abbrev pub SameOn : (ℕ → Bool) → State → State → Type 0
SameOn N = SameThrough N (λ v. v)

abbrev pub AlikeOn : (ℕ → Bool) → Outcome → Outcome → Type 0
AlikeOn N = AlikeThrough N (λ v. v)
