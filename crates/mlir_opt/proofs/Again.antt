-- What is written is read again.
use Rattle.std.proofs.Common.{◌≡◌, ◌∙◌, ℕ, Bool, true, false, cond, List, [], ◌∷◌, length, nat_lt, lt-ltb, arith, Option, Some, None, Result, Ok, Err, refl, sym, ap, subst}
use Rattle.std.specs.List.{list_all}
use Rattle.mlir_file.specs.declared.file.File.{File}
use Rattle.mlir_ir.specs.Shape.{FuncShape}
use Rattle.mlir_ir.specs.declared.tree.Module.{Module}
use Rattle.mlir_ir.specs.declared.tree.Op.{Op}
use Rattle.mlir_ir.specs.declared.tree.OpId.{OpId}
use Rattle.mlir_base.specs.declared.limit.Which.TheVariants.{Bytes}
use Rattle.mlir_lex.specs.declared.read_error.ReadError.{ReadError}
use Rattle.mlir_print.specs.Canonical.{text_of}
use Rattle.mlir_print.specs.Names.{Names}
use Rattle.mlir_read.specs.Reading.{StandsFor, reading}
use Rattle.mlir_read.proofs.Whole.{found_in}
use Rattle.mlir_roundtrip.specs.Printable.{ArePrintable, ArePrintableOps}
use Rattle.mlir_roundtrip.proofs.Laws.{reads_back, read_is_printable, canonical_stands}
use Rattle.mlir_streams.specs.Shelves.{Files}
use Rattle.mlir_roundtrip.specs.Numbered.{renumbered}
use Rattle.printable_steps.proofs.Renumbered.{renumbered_verifies}
use Rattle.renumbered_meaning.specs.Laws.{MeansTheSame, MeanTheSame}
use Rattle.renumbered_meaning.proofs.Modules.{renumbered_means}
use Rattle.verified_runs.specs.Typed.{AreOf, types_of}
use Rattle.mlir_verify.specs.declared.rule.Rule.{Rule}
use Rattle.mlir_verify.specs.Rules.{first_broken, has_body, IsVerified}
use Rattle.script_read.specs.declared.script.Script.{Script}
use Rattle.script_run.specs.declared.error.ScriptError.{ScriptError}
use Rattle.script_run.specs.Laws.{IsSameFunction, AreSameFunctions}
use Rattle.script_run.specs.Scripts.{run, unbuilt_from}
use Rattle.mlir_opt.specs.declared.refusal.Refusal.{Refusal}
use Rattle.mlir_opt.specs.declared.refusal.Refusal.TheVariants.{Words, FileAbsent, ReadFailed, Limit, Text, Verify, NoScript, Step, WriteFailed, Memory}
use Rattle.mlir_opt.specs.declared.request.Output.{Output}
use Rattle.mlir_opt.specs.declared.request.Output.TheVariants.{CanonicalText}
use Rattle.mlir_opt.specs.Refusals.{status_of}
use Rattle.mlir_opt.specs.Processed.{given_by, given_unless, transformed, unless_broken, formed, with_script, written, written_with, file_output, text_output, processed}
use Rattle.mlir_opt.specs.Answer.{input_of, output_of, verdict_on, verdict, answer_of, answer}
use Rattle.mlir_opt.specs.Asked.{CommandShape, name_of, asked}
use Rattle.mlir_opt.specs.Again.{written_file, ReadsAgain}
use Rattle.mlir_opt.proofs.Scripted.{script_keeps_functions, script_keeps_printable}

status_not : (r : Refusal) → status_of r ≡ 0 → ⊥
status_not Words e = absurd (cc e)
status_not FileAbsent e = absurd (cc e)
status_not ReadFailed e = absurd (cc e)
status_not (Limit which) e = absurd (cc e)
status_not (Text line column fault) e = absurd (cc e)
status_not (Verify rule op) e = absurd (cc e)
status_not NoScript e = absurd (cc e)
status_not (Step step why) e = absurd (cc e)
status_not WriteFailed e = absurd (cc e)
status_not Memory e = absurd (cc e)

of_verdict : (v : Result (List ℕ) Refusal) → (answer_of v).status ≡ 0 → (bytes : List ℕ) × (v ≡ Ok bytes)
of_verdict (Ok bytes) e = (bytes, refl)
of_verdict (Err r) e = absurd (status_not r e)

of_words : (files : Files) (wanted : Option CommandShape) (bytes : List ℕ) → verdict_on files wanted ≡ Ok bytes
    → (command : CommandShape) × (wanted ≡ Some command) × (output_of command (input_of (files (name_of command.source))) ≡ Ok bytes)
of_words files None bytes e = absurd (cc e)
of_words files (Some command) bytes e = (command, refl, e)

of_size : (command : CommandShape) (b : Bool) (text bytes : List ℕ) → output_of command (cond b (Err (Limit Bytes)) (Ok text)) ≡ Ok bytes → processed command.transform command.output text ≡ Ok bytes
of_size command true text bytes e = absurd (cc e)
of_size command false text bytes e = e

of_input : (command : CommandShape) (o : Option (List ℕ)) (bytes : List ℕ) → output_of command (input_of o) ≡ Ok bytes
    → (text : List ℕ) × (o ≡ Some text) × (processed command.transform command.output text ≡ Ok bytes)
of_input command None bytes e = absurd (cc e)
of_input command (Some text) bytes e = (text, refl, of_size command (nat_lt 4194304 (length text)) text bytes e)

-- A file with bytes: no rule fails in its module, and the bytes are those of a module that is formed of it.
pub record Outcome (t : Bool) (output : Output) (f : File) (bytes : List ℕ) : Type 0 where
  pub keeps : first_broken f.module ≡ None
  pub result : Module
  pub made : transformed t f.script f.module ≡ Ok result
  pub told : written output (with_script f.script result) ≡ bytes

of_rules : (o : Option (Rule × OpId)) (next : Result Module Refusal) (m : Module) → unless_broken o next ≡ Ok m → (o ≡ None) × (next ≡ Ok m)
of_rules None next m e = (refl, e)
of_rules (Some x) next m e = absurd (cc e)

of_written : (output : Output) (script : Option Script) (r : Result Module Refusal) (bytes : List ℕ) → written_with output script r ≡ Ok bytes
    → (m : Module) × (r ≡ Ok m) × (written output (with_script script m) ≡ bytes)
of_written output script (Ok m) bytes e = (m, refl, cc e)
of_written output script (Err refusal) bytes e = absurd (cc e)

of_file : (t : Bool) (output : Output) (f : File) (bytes : List ℕ) → file_output t output f ≡ Ok bytes → Outcome t output f bytes
of_file t output f bytes e =
    let w = of_written output f.script (formed t f.script f.module) bytes e in
    let r = of_rules (first_broken f.module) (transformed t f.script f.module) w.0 w.1 in
    record { keeps = r.0; result = w.0; made = r.1; told = w.2 }

of_reading : (t : Bool) (output : Output) (source : List ℕ) (r : Result File ReadError) (bytes : List ℕ) → reading source ≡ r → text_output t output source r ≡ Ok bytes
    → (f : File) × (reading source ≡ Ok f) × Outcome t output f bytes
of_reading t output source (Ok f) bytes l e = (f, l, of_file t output f bytes e)
of_reading t output source (Err x) bytes l e = absurd (cc e)

of_processed : (t : Bool) (output : Output) (source bytes : List ℕ) → processed t output source ≡ Ok bytes → (f : File) × (reading source ≡ Ok f) × Outcome t output f bytes
unfolding processed
of_processed t output source bytes e = of_reading t output source (reading source) bytes refl e

-- ---- what is known of the modules

-- a text's functions have bodies
has_operations : (n : Names) (os : List Op) → ArePrintableOps n os → nat_lt 0 (length os) ≡ true
has_operations n [] h = absurd h
has_operations n (o ∷ []) h = refl
has_operations n (o ∷ (p ∷ os)) h = lt-ltb 0 (length (o ∷ (p ∷ os))) (omega arith)

have_bodies : (fs : List FuncShape) → ArePrintable fs → list_all has_body fs ≡ true
have_bodies [] h = refl
have_bodies (f ∷ fs) h = rw (has_operations _ f.body h.0.ops) (have_bodies fs h.1)

same_functions : (fs : List FuncShape) → MeanTheSame fs fs
same_functions [] = tt
same_functions (f ∷ fs) = (record { name = refl; params = refl; results = refl; means = λ inputs typed. refl }, same_functions fs)

-- what a script keeps, and then what numbers keep
same_through : (f g h : FuncShape) → IsSameFunction f g → MeansTheSame g h → MeansTheSame f h
same_through f g h e k = record {
  name = k.name ∙ e.name;
  params = k.params ∙ ap types_of e.params;
  results = k.results ∙ e.results;
  means = λ inputs typed. k.means inputs (subst (λ ps. AreOf (types_of ps) inputs) (sym e.params) typed) ∙ e.means inputs typed;
}

all_through : (fs gs hs : List FuncShape) → AreSameFunctions fs gs → MeanTheSame gs hs → MeanTheSame fs hs
all_through [] [] [] e k = tt
all_through [] [] (h ∷ hs) e k = absurd k
all_through [] (g ∷ gs) hs e k = absurd e
all_through (f ∷ fs) [] hs e k = absurd e
all_through (f ∷ fs) (g ∷ gs) [] e k = absurd k
all_through (f ∷ fs) (g ∷ gs) (h ∷ hs) e k = (same_through f g h e.0 k.0, all_through fs gs hs e.1 k.1)

-- What is known of the file that is written, and its text.
pub record Written (t : Bool) (f : File) (m : Module) : Type 0 where
  pub stands : StandsFor (text_of (with_script f.script m)) (written_file t f m)
  pub verifies : IsVerified (written_file t f m).module
  pub functions : MeanTheSame f.module.funcs (written_file t f m).module.funcs

of_given : (r : Result Module ScriptError) (m : Module) → given_by r ≡ Ok m → r ≡ Ok m
of_given (Ok n) m e = let same : n ≡ m = cc e in λ j. Ok (same j)
of_given (Err x) m e = absurd (cc e)

of_built : (o : Option ℕ) (s : Script) (old m : Module) → given_unless o s old ≡ Ok m → run s old ≡ Ok m
of_built (Some step) s old m e = absurd (cc e)
of_built None s old m e = of_given (run s old) m e

of_script : (script : Option Script) (old m : Module) → transformed true script old ≡ Ok m → (s : Script) × (script ≡ Some s) × (run s old ≡ Ok m)
of_script None old m e = absurd (cc e)
of_script (Some s) old m e = (s, refl, of_built (unbuilt_from s.steps 1) s old m e)

is_given : (t : Bool) (source : List ℕ) (f : File) (m : Module) → StandsFor source f → IsVerified f.module → transformed t f.script f.module ≡ Ok m → Written t f m
is_given false source f m st v e =
    let same : f.module ≡ m = cc e in
    subst (λ (k : Module). Written false f k) same (record {
      stands = reads_back source f st;
      verifies = v;
      functions = same_functions f.module.funcs;
    })
is_given true source f m st v e =
    let s = of_script f.script f.module m e in
    let kept = script_keeps_functions s.0 f.module m v s.2 in
    let printable = script_keeps_printable f.script s.0 f.module m v (read_is_printable source f st).printable s.2 in
    record {
      stands = canonical_stands (with_script f.script m) printable;
      verifies = renumbered_verifies (with_script f.script m) printable kept.0;
      functions = all_through f.module.funcs m.funcs (renumbered (with_script f.script m)).module.funcs kept.1 (renumbered_means (with_script f.script m) printable kept.0);
    }

of_output : (output : Output) (f : File) (bytes : List ℕ) → written output f ≡ bytes → text_of f ≡ bytes
of_output CanonicalText f bytes e = e

pub reads_again : (words : List (List ℕ)) (files : Files) → (answer words files).status ≡ 0 → ReadsAgain words files
reads_again words files e =
    let v = of_verdict (verdict words files) e in
    let w = of_words files (asked words) v.0 v.1 in
    let i = of_input w.0 (files (name_of w.0.source)) v.0 w.2 in
    let p = of_processed w.0.transform w.0.output i.0 v.0 i.2 in
    let out = p.2 in
    let st = found_in i.0 (Ok p.0) p.1 in
    let passes : IsVerified p.0.module = (out.keeps, have_bodies p.0.module.funcs (read_is_printable i.0 p.0 st).printable.funcs) in
    let made = is_given w.0.transform i.0 p.0 out.result st passes out.made in
    let bytes : text_of (with_script p.0.script out.result) ≡ (answer words files).out =
    of_output w.0.output (with_script p.0.script out.result) v.0 out.told ∙ sym (ap (λ x. (answer_of x).out) v.1) in
    record {
      command = w.0;
      asks = w.1;
      text = i.0;
      there = i.1;
      read = p.0;
      stands = st;
      verifies = passes;
      given = out.result;
      transforms = out.made;
      again = written_file w.0.transform p.0 out.result;
      is_stated = refl;
      stands_again = subst (λ (b : List ℕ). StandsFor b (written_file w.0.transform p.0 out.result)) bytes made.stands;
      verifies_again = made.verifies;
      functions = made.functions;
    }
