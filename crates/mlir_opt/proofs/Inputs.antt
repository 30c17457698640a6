-- What a file holds.
use Rattle.std.proofs.Common.{◌≡◌, ◌∙◌, ℕ, ◌+◌, ◌<◌, ◌≤◌, List, Bool, true, false, Option, Some, None, Ok, Err, arith, sym, ap, subst, refl, inl, length, replicate, nat_lt, Vec, if◌then◌else◌}
use Rattle.std.proofs.KnownBytes.{Keeps-refl}
use Rattle.std.proofs.lemmas.List.{length-replicate}
use Rattle.std.specs.Prelude.{IsSome}
use Rattle.std.specs.declared.alloc.Global.{Global}
use Rattle.mlir_base.specs.declared.limit.Which.TheVariants.{Bytes}
use Rattle.mlir_streams.specs.Loops.{ReadsWhole, ConsumesAtMost}
use Rattle.mlir_streams.specs.Shelves.{Files, OpenLeaves}
use Rattle.mlir_streams.specs.declared.reading.FetchError.TheVariants as fetch
use Rattle.mlir_streams.specs.declared.reading.FetchError.{FetchError}
use Rattle.mlir_streams.specs.declared.shelf.OpenError.{OpenError}
use Rattle.mlir_streams.specs.declared.shelf.OpenError.TheVariants as open_error
use Rattle.mlir_opt.specs.Answer.{input_of}
use Rattle.mlir_opt.specs.Causes.{IsAbsent, AskedIsAbsent}
use Rattle.mlir_opt.specs.Asked.{CommandShape, name_of}
use Rattle.mlir_opt.specs.Steps.{AreFiles, IsInput, InputAbsence, TakesFrom, ReadsFrom, ReadsOnly}
use Rattle.mlir_opt.specs.declared.refusal.FileError.TheVariants as input
use Rattle.mlir_opt.specs.declared.refusal.Refusal.TheVariants.{FileAbsent, Limit}

-- some files that a shelf may have
pub any_files : (told : Option Files) → (files : Files) × AreFiles told files
any_files None = (λ _. None, tt)
any_files (Some files) = (files, refl)

-- a text within the limit
pub within_limit : (text : List ℕ) → length text ≤ 4194304 → input_of (Some text) ≡ Ok text
within_limit text fits = let short : nat_lt 4194304 (length text) ≡ false = grind arith in rw short refl

-- a text over the limit
pub over_limit : (text : List ℕ) → 4194304 < length text → input_of (Some text) ≡ Err (Limit Bytes)
over_limit text over = let long : nat_lt 4194304 (length text) ≡ true = grind arith in rw long refl

-- a text of more bytes than a number
long_text : (n : ℕ) → (text : List ℕ) × (n < length text)
long_text n =
    let text : List ℕ = replicate (n + 1) 0 in
    let size : length text ≡ n + 1 = length-replicate (n + 1) 0 in
    (text, omega (arith, size))

absent_input : (T : Type 0) (told : Option Files) (name : List ℕ) (left : Option (List ℕ)) → OpenLeaves {T = T} told name left (Err open_error.Absent) → IsInput told name (Err input.Absent)
absent_input T None name left absent = (λ _. None, tt, refl)
absent_input T (Some files) name left absent = (files, refl, ap input_of absent)

pub input_absent : (T : Type 0) (told : Option Files) (name : List ℕ) (left : Option (List ℕ)) (why : OpenError) → why ≡ open_error.Absent → OpenLeaves {T = T} told name left (Err why) → IsInput told name (Err input.Absent)
input_absent T told name left why same absent = absent_input T told name left (subst (λ e. OpenLeaves {T = T} told name left (Err e)) same absent)

pub input_failed : (told : Option Files) (name : List ℕ) → IsInput told name (Err input.Failed)
input_failed told name = let some = any_files told in (some.0, some.1, tt)

pub input_memory : (told : Option Files) (name : List ℕ) → IsInput told name (Err input.Memory)
input_memory told name = let some = any_files told in (some.0, some.1, tt)

no_file : (left : Option (List ℕ)) → None ≡ left → IsSome left → ⊥
no_file None same some = cc
no_file (Some text) same some = cc

pub input_read : (T : Type 0) (told : Option Files) (name : List ℕ) (left : Option (List ℕ)) (opened : T) (text : Vec ℕ Global) → OpenLeaves told name left (Ok opened) → ReadsWhole 4194304 left (Ok text) → length text.items ≤ 4194304 → IsInput told name (Ok text)
input_read T None name left opened text leaves whole fits = (λ _. Some text.items, tt, within_limit text.items fits)
input_read T (Some files) name None opened text leaves whole fits = absurd (no_file (files name) leaves.1 leaves.0)
input_read T (Some files) name (Some left) opened text leaves whole fits =
    (files, refl, ap input_of (sym leaves.1 ∙ ap Some (sym whole.0)) ∙ within_limit text.items fits)

limit_input : (T : Type 0) (told : Option Files) (name : List ℕ) (left : Option (List ℕ)) (opened : T) → OpenLeaves told name left (Ok opened) → ReadsWhole 4194304 left (Err fetch.Limit) → IsInput told name (Err input.Limit)
limit_input T None name left opened leaves over = let long = long_text 4194304 in (λ _. Some long.0, tt, over_limit long.0 long.1)
limit_input T (Some files) name None opened leaves over = absurd (no_file (files name) leaves.1 leaves.0)
limit_input T (Some files) name (Some left) opened leaves over = (files, refl, ap input_of (sym leaves.1) ∙ over_limit left over)

pub input_limit : (T : Type 0) (told : Option Files) (name : List ℕ) (left : Option (List ℕ)) (opened : T) (why : FetchError) → why ≡ fetch.Limit → OpenLeaves told name left (Ok opened) → ReadsWhole 4194304 left (Err why) → IsInput told name (Err input.Limit)
input_limit T told name left opened why same leaves over = limit_input T told name left opened leaves (subst (λ e. ReadsWhole 4194304 left (Err e)) same over)

not_absent : (over : Bool) (text : List ℕ) → (if over then Err (Limit Bytes) else Ok text) ≡ Err FileAbsent → ⊥
not_absent true text same = cc
not_absent false text same = cc

none_of_absent : (content : Option (List ℕ)) → input_of content ≡ Err FileAbsent → content ≡ None
none_of_absent None same = refl
none_of_absent (Some text) same = absurd (not_absent (nat_lt 4194304 (length text)) text same)

-- a file is absent by its name, or by the count
absent_of : (told : Option Files) (name : List ℕ) (before now : ℕ) → IsInput told name (Err input.Absent) → InputAbsence {T = Vec ℕ Global} told before now (Err input.Absent) → IsAbsent told name (before, now)
absent_of None name before now absent rose = rose
absent_of (Some files) name before now absent rose = none_of_absent (files name) (subst (λ fs. input_of (fs name) ≡ Err FileAbsent) absent.1 absent.2)

-- the file that the words ask for
pub asked_absent : (wanted : Option CommandShape) (told : Option Files) (command : CommandShape) (before now : ℕ) → wanted ≡ Some command → IsInput told (name_of command.source) (Err input.Absent) → InputAbsence {T = Vec ℕ Global} told before now (Err input.Absent) → AskedIsAbsent wanted told (before, now)
asked_absent None told command before now same absent rose = absurd (cc same)
asked_absent (Some other) told command before now same absent rose =
    let e : command ≡ other = cc same in
    subst (λ (c : CommandShape). IsAbsent told (name_of c.source) (before, now)) e (absent_of told (name_of command.source) before now absent rose)

-- what is taken of a file that was opened
pub taken_from : (T : Type 0) (told : Option Files) (name : List ℕ) (held left : Option (List ℕ)) (opened : T) → OpenLeaves told name held (Ok opened) → ConsumesAtMost 4194305 held left → TakesFrom told name left
taken_from T None name held left opened leaves taken = tt
taken_from T (Some files) name held left opened leaves taken = (leaves.0, subst (λ h. ConsumesAtMost 4194305 h left) leaves.1 taken)

-- nothing was read
pub reads_nothing : (wanted : Option CommandShape) (told : Option Files) (left : Option (List ℕ)) → ReadsOnly wanted told left left
reads_nothing None told left = Keeps-refl left
reads_nothing (Some command) told left = inl (Keeps-refl left)

-- the file of the command was read
pub reads_file : (wanted : Option CommandShape) (told : Option Files) (command : CommandShape) (name : List ℕ) (old new : Option (List ℕ)) → wanted ≡ Some command → name ≡ name_of command.source → ReadsFrom told name old new → ReadsOnly wanted told old new
reads_file None told command name old new same named reads = absurd (cc same)
reads_file (Some other) told command name old new same named reads =
    let e : command ≡ other = cc same in
    subst (λ n. ReadsFrom told n old new) (named ∙ ap (λ (c : CommandShape). name_of c.source) e) reads
