-- How a run ends.
use Rattle.std.proofs.Common.{◌≡◌, ◌∙◌, ℕ, List, false, Option, Some, None, is_some, Result, Ok, Err, sym, ap, subst, refl, inl, inr, Vec}
use Rattle.std.specs.declared.alloc.Global.{Global}
use Rattle.std.proofs.KnownBytes.{Appends-nil}
use Rattle.mlir_base.specs.declared.limit.Which.TheVariants.{Bytes}
use Rattle.mlir_streams.specs.Shelves.{Files}
use Rattle.mlir_opt.specs.Answer.{output_of, verdict_on, verdict}
use Rattle.mlir_opt.specs.Asked.{CommandShape, name_of, asked}
use Rattle.mlir_opt.specs.Causes.{IsVerdict}
use Rattle.mlir_opt.specs.Processed.{processed}
use Rattle.mlir_words.specs.declared.request.WordsError.{WordsError}
use Rattle.mlir_words.specs.declared.request.WordsError.TheVariants as words
use Rattle.mlir_opt.specs.Steps.{AreFiles, AsksFor, IsInput, RunIs, IsRun}
use Rattle.mlir_opt.proofs.Inputs.{any_files}
use Rattle.mlir_opt.specs.declared.refusal.FileError.TheVariants as input
use Rattle.mlir_opt.specs.declared.refusal.Refusal.{Refusal}
use Rattle.mlir_opt.specs.declared.refusal.Refusal.TheVariants.{Words, FileAbsent, ReadFailed, Limit, Memory}

-- words that ask for nothing are no command, and others are one
pub no_command : (wanted : Option CommandShape) → wanted ≡ None → is_some wanted ≡ false
no_command None e = refl
no_command (Some command) e = absurd (cc e)

pub a_command : {A : Type 0} (wanted : Option CommandShape) (command : CommandShape) → wanted ≡ Some command → is_some wanted ≡ false → A
a_command None command e f = absurd (cc e)
a_command (Some other) command e f = absurd (cc f)

pub asked_none : (wanted : Option CommandShape) (why : WordsError) → why ≡ words.Words → AsksFor wanted (Err why) → wanted ≡ None
asked_none wanted why same refused = subst (λ w. AsksFor wanted (Err w)) same refused

pub words_verdict : (told : Option Files) (words : List (List ℕ)) → asked words ≡ None → IsVerdict told words Words
words_verdict told words wrong = let some = any_files told in (some.0, some.1, ap (verdict_on some.0) wrong)

pub absent_verdict : (told : Option Files) (words : List (List ℕ)) (command : CommandShape) → asked words ≡ Some command → IsInput told (name_of command.source) (Err input.Absent) → IsVerdict told words FileAbsent
absent_verdict told words command same absent = (absent.0, absent.1, ap (verdict_on absent.0) same ∙ ap (output_of command) absent.2)

pub limit_verdict : (told : Option Files) (words : List (List ℕ)) (command : CommandShape) → asked words ≡ Some command → IsInput told (name_of command.source) (Err input.Limit) → IsVerdict told words (Limit Bytes)
limit_verdict told words command same over = (over.0, over.1, ap (verdict_on over.0) same ∙ ap (output_of command) over.2)

-- what is made of the text that was read
pub text_verdict : (told : Option Files) (words : List (List ℕ)) (command : CommandShape) (text : Vec ℕ Global) (stated : Result (List ℕ) Refusal) → asked words ≡ Some command → IsInput told (name_of command.source) (Ok text) → processed command.transform command.output text.items ≡ stated → (files : Files) × AreFiles told files × (verdict words files ≡ stated)
text_verdict told words command text stated made read same = (read.0, read.1, ap (verdict_on read.0) made ∙ ap (output_of command) read.2 ∙ same)

-- a refusal that is the verdict
pub run_refused : (T : Type 0) (told : Option Files) (words : List (List ℕ)) (out : Option (List ℕ)) (refusal : Refusal) → IsVerdict told words refusal → IsRun {T = T} told words out out (Err refusal)
run_refused T told words out refusal stated =
    (stated.0, stated.1, subst (λ s. RunIs {T = T} s out out (Err refusal)) (sym stated.2) (Appends-nil out, inl refl))

read_failed : (T : Type 0) (stated : Result (List ℕ) Refusal) (out : Option (List ℕ)) → RunIs {T = T} stated out out (Err ReadFailed)
read_failed T (Ok bytes) out = Appends-nil out
read_failed T (Err stated) out = (Appends-nil out, inr (inl refl))

no_memory : (T : Type 0) (stated : Result (List ℕ) Refusal) (out : Option (List ℕ)) → RunIs {T = T} stated out out (Err Memory)
no_memory T (Ok bytes) out = (0, Appends-nil out)
no_memory T (Err stated) out = (Appends-nil out, inr (inr refl))

pub run_failed : (T : Type 0) (told : Option Files) (words : List (List ℕ)) (out : Option (List ℕ)) → IsRun {T = T} told words out out (Err ReadFailed)
run_failed T told words out = let some = any_files told in (some.0, some.1, read_failed T (verdict words some.0) out)

pub run_memory : (T : Type 0) (told : Option Files) (words : List (List ℕ)) (out : Option (List ℕ)) → IsRun {T = T} told words out out (Err Memory)
run_memory T told words out = let some = any_files told in (some.0, some.1, no_memory T (verdict words some.0) out)

-- the output was written, whole or in part
pub run_written : (T : Type 0) (told : Option Files) (words : List (List ℕ)) (old new : Option (List ℕ)) (bytes : List ℕ) (result : Result T Refusal) → (files : Files) × AreFiles told files × (verdict words files ≡ Ok bytes) → RunIs (Ok bytes) old new result → IsRun told words old new result
run_written T told words old new bytes result stated run =
    (stated.0, stated.1, subst (λ s. RunIs s old new result) (sym stated.2) run)
