-- The names of the canonical text: arguments are `%arg0`, `%arg1`, and results `%0`, `%1`, in order in a function.
use Rattle.std.specs.Prelude.{◌≤◌, ℕ, ◌+◌, ◌*◌, ◌^◌, suc, List, [], ◌∷◌, ◌++◌, length, Option, Some, None, if◌then◌else◌, nat_eq, codes, decimal, refl}
use Rattle.std.specs.Coded.{Coded, code_by, coded×, coded_ℕ, coded_list}
use Rattle.payload_ops.specs.declared.step.Arg.{Arg}
use Rattle.payload_ops.specs.declared.step.Arg.TheVariants.{Input, Out, Step}
use Rattle.mlir_ir.specs.declared.tree.Ty.{Ty}
use Rattle.mlir_ir.specs.declared.tree.ValueId.{ValueId}
use Rattle.mlir_ir.specs.contracts.tree.Ty as ty
use Rattle.mlir_print.specs.declared.names.Given.{Given}
use Rattle.mlir_print.specs.declared.names.Given.TheVariants.{Argument, Result}
use Rattle.mlir_print.specs.contracts.names.Given as given
use Rattle.text_format.specs.declared.front.Kind.{Kind}
use Rattle.text_format.specs.declared.front.Kind.TheVariants.{Shaped}
use Rattle.mlir_print.specs.Types.{ty_text, type_kind}
use Rattle.text_format.specs.Writers.{unbuilt_text}

abbrev pub given_text : Given → List ℕ
given_text (Argument n) = codes "%arg" ++ decimal n
given_text (Result n) = codes "%" ++ decimal n

-- a value that was defined: its number in the file, its name, and its type
pub record Row : Type 0 where
  pub value : ℕ
  pub name : Given
  pub ty : Ty

abbrev pub row_code : Coded Row
row_code = code_by (ℕ × (Given × Ty)) (coded× coded_ℕ (coded× given.the_row.coded ty.the_row.coded)) (λ r. (r.value, (r.name, r.ty))) (λ p. record { value = p.0; name = p.1.0; ty = p.1.1 }) (λ _. refl)

-- the values so far, and the next numbers of arguments and of results
pub record Names : Type 0 where
  pub rows : List Row
  pub args : ℕ
  pub results : ℕ

abbrev pub names_code : Coded Names
names_code = code_by (List Row × (ℕ × ℕ)) (coded× (coded_list row_code) (coded× coded_ℕ coded_ℕ)) (λ n. (n.rows, (n.args, n.results))) (λ p. record { rows = p.0; args = p.1.0; results = p.1.1 }) (λ _. refl)

abbrev pub or_before : {A : Type 0} → Option A → Option A → Option A
or_before (Some x) o = Some x
or_before None o = o

-- where the last row of the value stands, from k on
abbrev pub spot : ℕ → List Row → ℕ → Option ℕ
spot k [] v = None
spot k (r ∷ rs) v = or_before (spot (suc k) rs v) (if nat_eq r.value v then Some k else None)

-- the last row of the value
abbrev pub look : List Row → ℕ → Option Row
look [] v = None
look (r ∷ rs) v = or_before (look rs v) (if nat_eq r.value v then Some r else None)

abbrev pub name_or : Option Row → List ℕ
name_or None = unbuilt_text
name_or (Some r) = given_text r.name

abbrev pub type_or : Option Row → List ℕ
type_or None = unbuilt_text
type_or (Some r) = ty_text r.ty

abbrev pub kind_or : Option Row → Kind
kind_or None = Shaped
kind_or (Some r) = type_kind r.ty

-- what the type of a value is as a token
abbrev pub kind_in : List Row → ValueId → Kind
kind_in rows v = kind_or (look rows v.0)

-- the name and the type of a value
abbrev pub name_in : List Row → ValueId → List ℕ
name_in rows v = name_or (look rows v.0)

abbrev pub type_in : List Row → ValueId → List ℕ
type_in rows v = type_or (look rows v.0)

abbrev pub row_of : ValueId → Given → Ty → Row
row_of v g t = record { value = v.0; name = g; ty = t }

abbrev pub nothing : Names
nothing = record { rows = []; args = 0; results = 0 }

-- the next argument
abbrev pub with_argument : Names → ValueId → Ty → Names
with_argument n v t = record { rows = n.rows ++ row_of v (Argument n.args) t ∷ []; args = n.args + 1; results = n.results }

-- the next result, of an operation with so many arguments and results inside it, which come after it
abbrev pub with_result : Names → ValueId → Ty → ℕ → ℕ → Names
with_result n v t args results = record { rows = n.rows ++ row_of v (Result n.results) t ∷ []; args = n.args + args; results = n.results + results + 1 }

-- the names inside a payload of so many inputs, where the numbers of arguments and results begin at a and r
abbrev pub local_name : ℕ → ℕ → ℕ → Arg → Given
local_name a inputs r (Input k) = Argument (a + k)
local_name a inputs r Out = Argument (a + inputs)
local_name a inputs r (Step k) = Result (r + k)

-- each value brings fewer names than fit a word
abbrev pub AreFew : Names → Type 0
AreFew n = (n.args ≤ 2 ^ 64 * length n.rows) × (n.results ≤ 2 ^ 64 * length n.rows)
