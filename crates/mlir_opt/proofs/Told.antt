-- From how a run ended to what its caller sees.
use Rattle.std.proofs.Common.{◌≡◌, ◌≢◌, ◌⊎◌, ℕ, List, Option, Some, None, Result, Ok, Err, sym, ◌∙◌, ap, subst, refl, inl, inr, length}
use Rattle.std.proofs.Math.Seq.{take-length}
use Rattle.std.specs.Io.KnownBytes.{Appends}
use Rattle.std.proofs.KnownBytes.{Appends-nil}
use Rattle.mlir_streams.specs.Causes.{Rose}
use Rattle.mlir_streams.specs.Loops.{AppendsPart, AppendsOrPart}
use Rattle.mlir_streams.specs.Shelves.{Files}
use Rattle.mlir_opt.specs.Answer.{answer, answer_of, verdict}
use Rattle.mlir_opt.specs.Causes.{HasCause, AddsSomeLine}
use Rattle.mlir_opt.specs.Counts.{Counts}
use Rattle.mlir_opt.specs.Refusals.{line_of, status_of}
use Rattle.mlir_opt.specs.Steps.{RunIs, IsRun, ReadFaultCause, WriteFaultCause}
use Rattle.mlir_opt.specs.Headline.{IsAnsweredUnlessFault, AddsLine, HasExactLine, AnswersWhereTold, ExactLineWhereTold, PrefixWhereTold, AnswersForSome, IsTold}
use Rattle.mlir_opt.specs.declared.refusal.Refusal.{Refusal}
use Rattle.mlir_opt.specs.declared.refusal.Refusal.TheVariants.{Words, FileAbsent, ReadFailed, Limit, Text, Verify, NoScript, Step, WriteFailed, Memory}

-- ---- the line of a refusal

-- the whole is a prefix
pub part_of_whole : (old new : Option (List ℕ)) (bytes : List ℕ) → Appends old new bytes → AppendsPart old new bytes
part_of_whole old new bytes whole = (length bytes, subst (Appends old new) (sym (take-length bytes)) whole)

part_of_either : {T E : Type 0} (old new : Option (List ℕ)) (bytes : List ℕ) (r : Result T E) → AppendsOrPart old new bytes r → AppendsPart old new bytes
part_of_either old new bytes (Ok _) whole = part_of_whole old new bytes whole
part_of_either old new bytes (Err _) part = part

-- the line couldn't be formed
pub told_unformed : {T E : Type 0} (refusal : Refusal) (old new : Option (List ℕ)) (before now : ℕ) (r : Result T E) → AppendsOrPart old new (line_of Memory) r → IsTold refusal old new before now 4
told_unformed refusal old new before now r added = record {
  ended = inr refl;
  line = λ other. absurd (other refl);
  said = inl (refl, part_of_either old new (line_of Memory) r added);
}

-- `err` found no memory
pub told_memory : (refusal : Refusal) (old new : Option (List ℕ)) (before now : ℕ) → AppendsPart old new (line_of refusal) → IsTold refusal old new before now 4
told_memory refusal old new before now added = record {
  ended = inr refl;
  line = λ other. absurd (other refl);
  said = inr added;
}

-- the line was written whole
pub told_whole : (refusal : Refusal) (old new : Option (List ℕ)) (before now status : ℕ) → Appends old new (line_of refusal) → status ≡ status_of refusal → IsTold refusal old new before now status
told_whole refusal old new before now status added ended = record {
  ended = inl ended;
  line = λ _. record { part = part_of_whole old new (line_of refusal) added; whole = λ _. added };
  said = inr (part_of_whole old new (line_of refusal) added);
}

-- a write failed
pub told_part : (refusal : Refusal) (old new : Option (List ℕ)) (before now status : ℕ) → AppendsPart old new (line_of refusal) → Rose before now → status ≡ status_of refusal → IsTold refusal old new before now status
told_part refusal old new before now status added rose ended = record {
  ended = inl ended;
  line = λ _. record { part = added; whole = λ quiet. absurd (quiet rose) };
  said = inr added;
}

-- what was added is the line of the refusal, with its cause, or that of want of memory
pub some_line : (refusal : Refusal) (words : List (List ℕ)) (told : Option Files) (counts : Counts) (old new : Option (List ℕ)) (before now status : ℕ) → HasCause refusal words told counts → IsTold refusal old new before now status → AddsSomeLine words told counts old new status
some_line refusal words told counts old new before now status cause ending =
    elim ending.said [ inl wanting ↦ (Memory, inr wanting.0, tt, wanting.1) | inr part ↦ (refusal, ending.ended, cause, part) ]

-- words that are no command end with status 2, or 4
pub words_status : {T : Type 0} (r : Result T Refusal) (refusal : Refusal) (status : ℕ) → r ≡ Err refusal → (r ≡ Err Words) ⊎ (r ≡ Err Memory) → (status ≡ status_of refusal) ⊎ (status ≡ 4) → (status ≡ 2) ⊎ (status ≡ 4)
words_status r refusal status e (inl words) ended =
    let same : refusal ≡ Words = cc (sym e ∙ words) in
    elim ended [ inl h ↦ inl (h ∙ ap status_of same) | inr h ↦ inr h ]
words_status r refusal status e (inr memory) ended =
    let same : refusal ≡ Memory = cc (sym e ∙ memory) in
    elim ended [ inl h ↦ inr (h ∙ ap status_of same) | inr h ↦ inr h ]

-- ---- the answer

-- a refusal's status is its own, or 4
answered_refused : (T : Type 0) (stated : Result (List ℕ) Refusal) (refusal : Refusal) (counts : Counts) (old new : Option (List ℕ)) (status : ℕ) → RunIs {T = T} stated old new (Err refusal) → ReadFaultCause {T = T} counts.read_faults (Err refusal) → WriteFaultCause {T = T} counts.write_faults (Err refusal) → (status ≡ status_of refusal) ⊎ (status ≡ 4) → IsAnsweredUnlessFault (answer_of stated) counts old new status
answered_refused T (Ok bytes) ReadFailed counts old new status run read write ended = λ quiet _. absurd (quiet read)
answered_refused T (Ok bytes) WriteFailed counts old new status run read write ended = λ _ quiet. absurd (quiet write)
answered_refused T (Ok bytes) Memory counts old new status run read write ended = λ _ _. elim ended [ inl h ↦ inl h | inr h ↦ inl h ]
answered_refused T (Ok bytes) Words counts old new status run read write ended = absurd run
answered_refused T (Ok bytes) FileAbsent counts old new status run read write ended = absurd run
answered_refused T (Ok bytes) (Limit which) counts old new status run read write ended = absurd run
answered_refused T (Ok bytes) (Text line column fault) counts old new status run read write ended = absurd run
answered_refused T (Ok bytes) (Verify rule op) counts old new status run read write ended = absurd run
answered_refused T (Ok bytes) NoScript counts old new status run read write ended = absurd run
answered_refused T (Ok bytes) (Step step why) counts old new status run read write ended = absurd run
answered_refused T (Err stated) refusal counts old new status run read write ended = λ quiet _.
    elim run.1 [
      | inl same ↦ elim ended [ inl h ↦ inr (h ∙ ap status_of same, run.0) | inr h ↦ inl h ]
      | inr other ↦ elim other [
        | inl same ↦ absurd (quiet (subst (λ r. ReadFaultCause {T = T} counts.read_faults (Err r)) same read))
        | inr same ↦ elim ended [ inl h ↦ inl (h ∙ ap status_of same) | inr h ↦ inl h ]
      ]
    ]

-- the bytes are a prefix of the stated ones
cut_refused : (T : Type 0) (stated : Result (List ℕ) Refusal) (refusal : Refusal) (old new : Option (List ℕ)) → RunIs {T = T} stated old new (Err refusal) → AppendsPart old new (answer_of stated).out
cut_refused T (Ok bytes) ReadFailed old new run = (0, run)
cut_refused T (Ok bytes) WriteFailed old new run = run
cut_refused T (Ok bytes) Memory old new run = run
cut_refused T (Ok bytes) Words old new run = absurd run
cut_refused T (Ok bytes) FileAbsent old new run = absurd run
cut_refused T (Ok bytes) (Limit which) old new run = absurd run
cut_refused T (Ok bytes) (Text line column fault) old new run = absurd run
cut_refused T (Ok bytes) (Verify rule op) old new run = absurd run
cut_refused T (Ok bytes) NoScript old new run = absurd run
cut_refused T (Ok bytes) (Step step why) old new run = absurd run
cut_refused T (Err stated) refusal old new run = (0, run.0)

pub some_refused : (T : Type 0) (told : Option Files) (words : List (List ℕ)) (refusal : Refusal) (counts : Counts) (old new : Option (List ℕ)) (status : ℕ) → IsRun {T = T} told words old new (Err refusal) → ReadFaultCause {T = T} counts.read_faults (Err refusal) → WriteFaultCause {T = T} counts.write_faults (Err refusal) → (status ≡ status_of refusal) ⊎ (status ≡ 4) → AnswersForSome told words counts old new status
some_refused T told words refusal counts old new status run read write ended =
    (run.0, run.1, answered_refused T (verdict words run.0) refusal counts old new status run.2 read write ended, cut_refused T (verdict words run.0) refusal old new run.2)

answered_done : (T : Type 0) (done : T) (stated : Result (List ℕ) Refusal) (old new : Option (List ℕ)) → RunIs stated old new (Ok done) → (0 ≡ (answer_of stated).status) × Appends old new (answer_of stated).out
answered_done T done (Ok bytes) old new run = (refl, run)
answered_done T done (Err stated) old new run = absurd run

pub some_done : (T : Type 0) (told : Option Files) (words : List (List ℕ)) (done : T) (counts : Counts) (old new : Option (List ℕ)) → IsRun told words old new (Ok done) → AnswersForSome told words counts old new 0
some_done T told words done counts old new run =
    let ends = answered_done T done (verdict words run.0) old new run.2 in
    (run.0, run.1, λ _ _. inr ends, part_of_whole old new (answer words run.0).out ends.1)

-- the same over the files that the shelf tells
pub answers_told : (told : Option Files) (words : List (List ℕ)) (counts : Counts) (old new : Option (List ℕ)) (status : ℕ) → AnswersForSome told words counts old new status → AnswersWhereTold told words counts old new status
answers_told None words counts old new status some = tt
answers_told (Some files) words counts old new status some =
    subst (λ fs. IsAnsweredUnlessFault (answer words fs) counts old new status) some.1 some.2

-- what was written of a refused run, and of one that was done
pub prefix_refused : (T : Type 0) (told : Option Files) (words : List (List ℕ)) (refusal : Refusal) (old new : Option (List ℕ)) → IsRun {T = T} told words old new (Err refusal) → PrefixWhereTold told words old new
prefix_refused T None words refusal old new run = tt
prefix_refused T (Some files) words refusal old new run =
    subst (λ fs. AppendsPart old new (answer words fs).out) run.1 (cut_refused T (verdict words run.0) refusal old new run.2)

pub prefix_done : (T : Type 0) (told : Option Files) (words : List (List ℕ)) (done : T) (old new : Option (List ℕ)) → IsRun told words old new (Ok done) → PrefixWhereTold told words old new
prefix_done T None words done old new run = tt
prefix_done T (Some files) words done old new run =
    let ends = answered_done T done (verdict words run.0) old new run.2 in
    subst (λ fs. AppendsPart old new (answer words fs).out) run.1 (part_of_whole old new (answer words run.0).out ends.1)

-- ---- the exact line

status_told : (refusal : Refusal) (old new : Option (List ℕ)) (before now status : ℕ) → IsTold refusal old new before now status → status ≢ 4 → status ≡ status_of refusal
status_told refusal old new before now status told other = elim told.ended [ inl h ↦ h | inr h ↦ absurd (other h) ]

-- a refusal that is the stated one, or none of these two
exact_same : (stated refusal : Refusal) (counts : Counts) (old new : Option (List ℕ)) (before now status : ℕ) → (refusal ≡ stated) ⊎ (refusal ≡ ReadFailed) ⊎ (refusal ≡ Memory) → (refusal ≡ ReadFailed → ⊥) → (refusal ≡ Memory → ⊥) → counts.read_faults.1 ≡ counts.read_faults.0 → counts.write_faults.1 ≡ counts.write_faults.0 → IsTold refusal old new before now status → status ≢ 4 → HasExactLine (answer_of (Err stated)) counts old new before now status
exact_same stated refusal counts old new before now status which not_failed not_memory no_read no_write told other =
    elim which [
      | inl same ↦ inl (no_read, no_write, status_told refusal old new before now status told other ∙ ap status_of same, subst (λ r. AddsLine (line_of r) old new before now) same (told.line other))
      | inr rest ↦ elim rest [ inl bad ↦ absurd (not_failed bad) | inr bad ↦ absurd (not_memory bad) ]
    ]

-- A refusal and its line are the answer's, or a fault's.
exact_of : (T : Type 0) (stated : Result (List ℕ) Refusal) (refusal : Refusal) (o n : Option (List ℕ)) (counts : Counts) (old new : Option (List ℕ)) (before now status : ℕ) → RunIs {T = T} stated o n (Err refusal) → ReadFaultCause {T = T} counts.read_faults (Err refusal) → WriteFaultCause {T = T} counts.write_faults (Err refusal) → IsTold refusal old new before now status → status ≢ 4 → HasExactLine (answer_of stated) counts old new before now status
exact_of T stated ReadFailed o n counts old new before now status run read write told other =
    inr (inl (read, status_told ReadFailed old new before now status told other, told.line other))
exact_of T stated WriteFailed o n counts old new before now status run read write told other =
    inr (inr (write, status_told WriteFailed old new before now status told other, told.line other))
exact_of T stated Memory o n counts old new before now status run read write told other =
    absurd (other (status_told Memory old new before now status told other))
exact_of T (Ok bytes) Words o n counts old new before now status run read write told other = absurd run
exact_of T (Ok bytes) FileAbsent o n counts old new before now status run read write told other = absurd run
exact_of T (Ok bytes) (Limit which) o n counts old new before now status run read write told other = absurd run
exact_of T (Ok bytes) (Text line column fault) o n counts old new before now status run read write told other = absurd run
exact_of T (Ok bytes) (Verify rule op) o n counts old new before now status run read write told other = absurd run
exact_of T (Ok bytes) NoScript o n counts old new before now status run read write told other = absurd run
exact_of T (Ok bytes) (Step step why) o n counts old new before now status run read write told other = absurd run
exact_of T (Err stated) Words o n counts old new before now status run read write told other =
    exact_same stated Words counts old new before now status run.1 (λ bad. cc) (λ bad. cc) read write told other
exact_of T (Err stated) FileAbsent o n counts old new before now status run read write told other =
    exact_same stated FileAbsent counts old new before now status run.1 (λ bad. cc) (λ bad. cc) read write told other
exact_of T (Err stated) (Limit which) o n counts old new before now status run read write told other =
    exact_same stated (Limit which) counts old new before now status run.1 (λ bad. cc) (λ bad. cc) read write told other
exact_of T (Err stated) (Text line column fault) o n counts old new before now status run read write told other =
    exact_same stated (Text line column fault) counts old new before now status run.1 (λ bad. cc) (λ bad. cc) read write told other
exact_of T (Err stated) (Verify rule op) o n counts old new before now status run read write told other =
    exact_same stated (Verify rule op) counts old new before now status run.1 (λ bad. cc) (λ bad. cc) read write told other
exact_of T (Err stated) NoScript o n counts old new before now status run read write told other =
    exact_same stated NoScript counts old new before now status run.1 (λ bad. cc) (λ bad. cc) read write told other
exact_of T (Err stated) (Step step why) o n counts old new before now status run read write told other =
    exact_same stated (Step step why) counts old new before now status run.1 (λ bad. cc) (λ bad. cc) read write told other

pub exact_refused : (T : Type 0) (told : Option Files) (words : List (List ℕ)) (refusal : Refusal) (o n : Option (List ℕ)) (counts : Counts) (old new : Option (List ℕ)) (before now status : ℕ) → IsRun {T = T} told words o n (Err refusal) → ReadFaultCause {T = T} counts.read_faults (Err refusal) → WriteFaultCause {T = T} counts.write_faults (Err refusal) → IsTold refusal old new before now status → ExactLineWhereTold told words counts old new before now status
exact_refused T None words refusal o n counts old new before now status run read write ending = tt
exact_refused T (Some files) words refusal o n counts old new before now status run read write ending = λ other.
    exact_of T (verdict words files) refusal o n counts old new before now status (subst (λ fs. RunIs {T = T} (verdict words fs) o n (Err refusal)) run.1 run.2) read write ending other

exact_ok : (T : Type 0) (done : T) (stated : Result (List ℕ) Refusal) (o n : Option (List ℕ)) (counts : Counts) (err : Option (List ℕ)) (count : ℕ) → RunIs stated o n (Ok done) → counts.read_faults.1 ≡ counts.read_faults.0 → counts.write_faults.1 ≡ counts.write_faults.0 → HasExactLine (answer_of stated) counts err err count count 0
exact_ok T done (Ok bytes) o n counts err count run no_read no_write =
    inl (no_read, no_write, refl, record { part = (0, Appends-nil err); whole = λ _. Appends-nil err })
exact_ok T done (Err stated) o n counts err count run no_read no_write = absurd run

pub exact_done : (T : Type 0) (told : Option Files) (words : List (List ℕ)) (done : T) (o n : Option (List ℕ)) (counts : Counts) (err : Option (List ℕ)) (count : ℕ) → IsRun told words o n (Ok done) → counts.read_faults.1 ≡ counts.read_faults.0 → counts.write_faults.1 ≡ counts.write_faults.0 → ExactLineWhereTold told words counts err err count count 0
exact_done T None words done o n counts err count run no_read no_write = tt
exact_done T (Some files) words done o n counts err count run no_read no_write = λ _.
    exact_ok T done (verdict words files) o n counts err count (subst (λ fs. RunIs (verdict words fs) o n (Ok done)) run.1 run.2) no_read no_write
