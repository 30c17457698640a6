-- The table of commands, row by row with any values and in any order of the words, and what is
-- refused.
use Rattle.std.proofs.Common.{◌≡◌, ◌∙◌, ◌==◌, ℕ, Bool, cond, true, false, refl, sym, ap, ap₂, subst, true≢false, List, [], ◌∷◌, ◌++◌, codes, Option, Some, None, option_map, Result, drop}
use Rattle.std.specs.Prelude.{option_and_then}
use Rattle.std.specs.List.{AllByRecursion, flat_map}
use Rattle.std.specs.List.Sorted.{IsPermutation}
use Rattle.mlir_words.specs.Asked.{Item, Options, Text, sample, refused, asked, differ_after, each_once, form_of, items, options_by, place}
use Rattle.mlir_words.specs.Request.{Answers, RequestShape, SourceShape, TaskShape, input_source, is_sample_alone, lowering, module_of, module_request, module_source, nonempty, number_of, print, request_by, request_of, run_task, running, sample_of, task_by, without_run, worker_count}
use Rattle.mlir_words.specs.Spelled.{Ending, IsSpelled, Spelled, flag_word, joined, parted, file_word, is_plain_word, item_of, option_word, spelled, spelled_items, words_of}
use Rattle.mlir_words.specs.Table.{IsRefused, ReadsRows, RefusesWords, Spells, empty_file, empty_input, empty_lower, empty_run, input_without_run, lower_and_run, lowered_items, printed_items, run_items, sample_with_others, sample_without_number, standard_input_twice, workers_without_number, workers_without_run}
use Rattle.mlir_words.specs.declared.request.Request.{Request}
use Rattle.mlir_words.specs.declared.request.WordsError.{WordsError}
use Rattle.std.proofs.lemmas.List.Sorted.{IsPermutation-sym}
use Rattle.mlir_words.proofs.Orders.{any_order}
use Rattle.mlir_words.proofs.Refused.{many_files_refused, valueless_refused}
use Rattle.mlir_words.proofs.Spellings.{asked_spelled, parted_value, twice_spelled, unknown_refused}

-- ---- the rows of the table

abbrev Are : List Item → Options → Type 0
Are given options = (each_once given ≡ true) × (options_by given ≡ options)

printed_options : (t : Bool) (f : Option Text) → Are (printed_items t f) (record { transform = t; lower = None; run = None; input = None; workers = None; sample = None; file = f })
unfolding differ_after
printed_options true None = (refl, refl)
printed_options true (Some f) = (refl, refl)
printed_options false None = (refl, refl)
printed_options false (Some f) = (refl, refl)

lowered_options : (t : Bool) (name : Text) (f : Option Text) → Are (lowered_items t name f) (record { transform = t; lower = Some name; run = None; input = None; workers = None; sample = None; file = f })
unfolding differ_after
lowered_options true name None = (refl, refl)
lowered_options true name (Some f) = (refl, refl)
lowered_options false name None = (refl, refl)
lowered_options false name (Some f) = (refl, refl)

run_options : (t : Bool) (name : Text) (i n f : Option Text) → Are (run_items t name i n f) (record { transform = t; lower = None; run = Some name; input = i; workers = n; sample = None; file = f })
unfolding differ_after
run_options true name None None None = (refl, refl)
run_options true name None None (Some f) = (refl, refl)
run_options true name None (Some n) None = (refl, refl)
run_options true name None (Some n) (Some f) = (refl, refl)
run_options true name (Some i) None None = (refl, refl)
run_options true name (Some i) None (Some f) = (refl, refl)
run_options true name (Some i) (Some n) None = (refl, refl)
run_options true name (Some i) (Some n) (Some f) = (refl, refl)
run_options false name None None None = (refl, refl)
run_options false name None None (Some f) = (refl, refl)
run_options false name None (Some n) None = (refl, refl)
run_options false name None (Some n) (Some f) = (refl, refl)
run_options false name (Some i) None None = (refl, refl)
run_options false name (Some i) None (Some f) = (refl, refl)
run_options false name (Some i) (Some n) None = (refl, refl)
run_options false name (Some i) (Some n) (Some f) = (refl, refl)

requested : (program : Text) (words : List Text) (options : Options) → asked words ≡ Some options → request_of (program ∷ words) ≡ request_by (is_sample_alone words) options.sample options
requested program words options is = ap (option_and_then (λ (o : Options). request_by (is_sample_alone words) o.sample o)) is

row : (given : List Item) (options : Options) (program : Text) (all : List Spelled) (ending : Ending) → Are given options → AllByRecursion IsSpelled all → IsPermutation given (spelled_items all ending)
    → request_of (program ∷ spelled all ending) ≡ request_by (is_sample_alone (spelled all ending)) options.sample options
row given options program all ending are is moved = requested program (spelled all ending) options (asked_spelled given all ending is moved are.0 ∙ ap (λ o. Some o) are.1)

-- `[FILE]` and `--transform-interpreter [FILE]`
print_row : (program : Text) (all : List Spelled) (ending : Ending) (t : Bool) (f : Option Text) (from : SourceShape) → AllByRecursion IsSpelled all
    → IsPermutation (printed_items t f) (spelled_items all ending) → module_source f ≡ Some from → request_of (program ∷ spelled all ending) ≡ Some (module_of from t print)
print_row program all ending t f from is moved at =
    row (printed_items t f) _ program all ending (printed_options t f) is moved
    ∙ ap (option_and_then (module_request (record { transform = t; lower = None; run = None; input = None; workers = None; sample = None; file = f }))) at

-- `--lower=NAME [FILE]`, with the flag or without it
lower_row : (program : Text) (all : List Spelled) (ending : Ending) (t : Bool) (b : ℕ) (name : Text) (f : Option Text) (from : SourceShape) → AllByRecursion IsSpelled all
    → IsPermutation (lowered_items t (b ∷ name) f) (spelled_items all ending) → module_source f ≡ Some from → request_of (program ∷ spelled all ending) ≡ Some (module_of from t (lowering (b ∷ name)))
lower_row program all ending t b name f from is moved at =
    row (lowered_items t (b ∷ name) f) _ program all ending (lowered_options t (b ∷ name) f) is moved
    ∙ ap (option_and_then (module_request (record { transform = t; lower = Some (b ∷ name); run = None; input = None; workers = None; sample = None; file = f }))) at

-- `--run=NAME [--input=FILE] [--workers=N] [FILE]`, with the flag or without it
run_row : (program : Text) (all : List Spelled) (ending : Ending) (t : Bool) (b : ℕ) (name : Text) (i n f : Option Text) (from : SourceShape) (read : Option SourceShape) (count : ℕ)
    → AllByRecursion IsSpelled all → IsPermutation (run_items t (b ∷ name) i n f) (spelled_items all ending)
    → module_source f ≡ Some from → input_source from i ≡ Some read → worker_count n ≡ Some count
    → request_of (program ∷ spelled all ending) ≡ Some (module_of from t (running (b ∷ name) read count))
run_row program all ending t b name i n f from read count is moved at reads counts =
    row (run_items t (b ∷ name) i n f) _ program all ending (run_options t (b ∷ name) i n f) is moved
    ∙ ap (option_and_then (module_request (record { transform = t; lower = None; run = Some (b ∷ name); input = i; workers = n; sample = None; file = f }))) at
    ∙ ap₂ (λ (r : Option (Option SourceShape)) (c : Option ℕ). option_map (module_of from t) (option_and_then (λ x. option_map (λ k. running (b ∷ name) x k) c) r)) reads counts

-- `--sample=K` and `--sample K`
sample_joined : (program size : Text) → request_of (program ∷ (codes "--sample=" ++ size) ∷ []) ≡ option_map (λ k. sample_of k) (number_of size)
unfolding items differ_after
sample_joined program size = refl

sample_parted : (program size : Text) → is_plain_word size ≡ true → request_of (program ∷ codes "--sample" ∷ size ∷ []) ≡ option_map (λ k. sample_of k) (number_of size)
sample_parted program size is = requested program (codes "--sample" ∷ size ∷ []) (options_by ((sample, size) ∷ [])) (parted_value size is)

-- ---- what is refused

no_words : request_of [] ≡ None
no_words = refl

refused_words : (program : Text) (words : List Text) → asked words ≡ None → request_of (program ∷ words) ≡ None
refused_words program words none = ap (option_and_then (λ (o : Options). request_by (is_sample_alone words) o.sample o)) none

-- a part that is given twice
repeated : (program : Text) (all : List Spelled) (ending : Ending) → AllByRecursion IsSpelled all → each_once (spelled_items all ending) ≡ false → request_of (program ∷ spelled all ending) ≡ None
repeated program all ending is twice = refused_words program (spelled all ending) (twice_spelled all ending is twice)

-- a word that begins with `-` and names no option
unknown : (program : Text) (all : List Spelled) (word : Text) (rest : List Text) → AllByRecursion IsSpelled all → form_of word ≡ refused → request_of (program ∷ (flat_map words_of all ++ word ∷ rest)) ≡ None
unknown program all word rest is bad = refused_words program (flat_map words_of all ++ word ∷ rest) (unknown_refused all word rest is bad)

-- `--sample` with any other word, or a size that is no number from 1 to 64
sample_in_company : (program size : Text) (words : List Text) (options : Options) → asked words ≡ Some options → options.sample ≡ Some size → is_sample_alone words ≡ false
    → request_of (program ∷ words) ≡ None
sample_in_company program size words options is sized company =
    requested program words options is ∙ ap₂ (λ b s. request_by b s options) company sized

sample_of_no_number : (program size : Text) (words : List Text) (options : Options) → asked words ≡ Some options → options.sample ≡ Some size → number_of size ≡ None
    → request_of (program ∷ words) ≡ None
sample_of_no_number program size words options is sized none =
    requested program words options is ∙ ap (λ s. request_by (is_sample_alone words) s options) sized
    ∙ ap (λ n. cond (is_sample_alone words) (option_map (λ k. sample_of k) n) None) none ∙ go (is_sample_alone words)
  where
    go : (b : Bool) → cond b (let n : Option RequestShape = None in n) None ≡ None
    go true = refl
    go false = refl

-- the rest is of words without `--sample`
record Asks (words : List Text) (options : Options) : Type 0 where
  pub is : asked words ≡ Some options
  pub no_sample : options.sample ≡ None

nothing : {A B : Type 0} (o : Option A) (f : A → Option B) → ((a : A) → f a ≡ None) → option_and_then f o ≡ None
nothing None f none = refl
nothing (Some a) f none = none a

no_task : (program : Text) (words : List Text) (options : Options) → Asks words options → ((from : SourceShape) → task_by options.lower options.run from options ≡ None) → request_of (program ∷ words) ≡ None
no_task program words options asks none =
    requested program words options asks.is ∙ ap (λ s. request_by (is_sample_alone words) s options) asks.no_sample
    ∙ nothing (module_source options.file) (module_request options) (λ from. ap (option_map (module_of from options.transform)) (none from))

both_tasks : (program f g : Text) (words : List Text) (options : Options) → Asks words options → options.lower ≡ Some f → options.run ≡ Some g → request_of (program ∷ words) ≡ None
both_tasks program f g words options asks lowers runs = no_task program words options asks (λ from. ap₂ (λ a b. task_by a b from options) lowers runs)

-- `--input` or `--workers` without `--run`
without : (program : Text) (words : List Text) (options : Options) → Asks words options → options.run ≡ None → ((task : Option TaskShape) → without_run options.input options.workers task ≡ None)
    → request_of (program ∷ words) ≡ None
without program words options asks runs none =
    no_task program words options asks (λ from. ap (λ b. task_by options.lower b from options) runs ∙ go options.lower from)
  where
    go : (o : Option Text) (from : SourceShape) → task_by o None from options ≡ None
    go None from = none (Some print)
    go (Some f) from = none _

lone_input : (program text : Text) (words : List Text) (options : Options) → Asks words options → options.run ≡ None → options.input ≡ Some text → request_of (program ∷ words) ≡ None
lone_input program text words options asks runs inputs =
    without program words options asks runs (λ task. ap (λ i. without_run i options.workers task) inputs)

lone_workers : (program text : Text) (words : List Text) (options : Options) → Asks words options → options.run ≡ None → options.workers ≡ Some text → request_of (program ∷ words) ≡ None
lone_workers program text words options asks runs counts =
    without program words options asks runs (λ task. ap (λ n. without_run options.input n task) counts ∙ go options.input task)
  where
    go : (i : Option Text) (task : Option TaskShape) → without_run i (Some text) task ≡ None
    go None task = refl
    go (Some i) task = refl

-- an empty NAME
no_lowered_name : (program : Text) (words : List Text) (options : Options) → Asks words options → options.lower ≡ Some [] → request_of (program ∷ words) ≡ None
no_lowered_name program words options asks lowers =
    no_task program words options asks (λ from. ap (λ a. task_by a options.run from options) lowers ∙ go options.run from)
  where
    none : (i n : Option Text) → without_run i n None ≡ None
    none None None = refl
    none None (Some n) = refl
    none (Some i) n = refl

    go : (o : Option Text) (from : SourceShape) → task_by (Some []) o from options ≡ None
    go None from = none options.input options.workers
    go (Some g) from = refl

no_run_name : (program : Text) (words : List Text) (options : Options) → Asks words options → options.run ≡ Some [] → request_of (program ∷ words) ≡ None
no_run_name program words options asks runs =
    no_task program words options asks (λ from. ap (λ b. task_by options.lower b from options) runs ∙ go options.lower from)
  where
    go : (o : Option Text) (from : SourceShape) → task_by o (Some []) from options ≡ None
    go None from = refl
    go (Some f) from = refl

-- an empty FILE
no_file_name : (program : Text) (words : List Text) (options : Options) → Asks words options → options.file ≡ Some [] → request_of (program ∷ words) ≡ None
no_file_name program words options asks files =
    requested program words options asks.is ∙ ap (λ s. request_by (is_sample_alone words) s options) asks.no_sample
    ∙ ap (λ f. option_and_then (module_request options) (module_source f)) files

run_refused : (program : Text) (words : List Text) (options : Options) → Asks words options → ((b : ℕ) (name : Text) (from : SourceShape) → module_source options.file ≡ Some from
    → run_task (b ∷ name) from options ≡ None) → (text : Text) → options.run ≡ Some text → request_of (program ∷ words) ≡ None
run_refused program words options asks none text runs =
    requested program words options asks.is ∙ ap (λ s. request_by (is_sample_alone words) s options) asks.no_sample ∙ go (module_source options.file) refl
  where
    tasks : (l : Option Text) (name : Text) (from : SourceShape) → module_source options.file ≡ Some from → task_by l (Some name) from options ≡ None
    tasks (Some f) name from at = refl
    tasks None [] from at = refl
    tasks None (b ∷ name) from at = none b name from at

    go : (o : Option SourceShape) → module_source options.file ≡ o → option_and_then (module_request options) o ≡ None
    go None at = refl
    go (Some from) at = ap (option_map (module_of from options.transform)) (ap (λ r. task_by options.lower r from options) runs ∙ tasks options.lower text from at)

-- an empty input, or `-` where the module comes from standard input
no_input : (program text name : Text) (words : List Text) (options : Options) → Asks words options → options.run ≡ Some name → options.input ≡ Some text
    → ((from : SourceShape) → module_source options.file ≡ Some from → input_source from (Some text) ≡ None) → request_of (program ∷ words) ≡ None
no_input program text name words options asks runs inputs none = run_refused program words options asks
    (λ b rest from at. ap (option_and_then (λ read. option_map (λ count. running (b ∷ rest) read count) (worker_count options.workers)))
    (ap (input_source from) inputs ∙ none from at)) name runs

-- workers that are no number from 1 to 64
no_workers : (program text name : Text) (words : List Text) (options : Options) → Asks words options → options.run ≡ Some name → options.workers ≡ Some text → number_of text ≡ None
    → request_of (program ∷ words) ≡ None
no_workers program text name words options asks runs counts none = run_refused program words options asks
    (λ b rest from at. nothing (input_source from options.input) (λ read. option_map (λ count. running (b ∷ rest) read count) (worker_count options.workers))
    (λ read. ap (option_map (λ count. running (b ∷ rest) read count)) (ap worker_count counts ∙ none))) name runs

-- ---- together

answers_as : (words : List Text) (result : Result Request WordsError) (wanted : Option RequestShape) → Answers (request_of words) result → request_of words ≡ wanted → Answers wanted result
answers_as words result wanted answers is = subst (λ o. Answers o result) is answers

lowered_any : (program : Text) (all : List Spelled) (ending : Ending) (t : Bool) (name : Text) (f : Option Text) (from : SourceShape) → AllByRecursion IsSpelled all
    → IsPermutation (lowered_items t name f) (spelled_items all ending) → module_source f ≡ Some from → nonempty name ≡ Some name → request_of (program ∷ spelled all ending) ≡ Some (module_of from t (lowering name))
lowered_any program all ending t [] f from is moved at named = cc
lowered_any program all ending t (b ∷ name) f from is moved at named = lower_row program all ending t b name f from is moved at

run_any : (program : Text) (all : List Spelled) (ending : Ending) (t : Bool) (name : Text) (i n f : Option Text) (from : SourceShape) (read : Option SourceShape) (count : ℕ)
    → AllByRecursion IsSpelled all → IsPermutation (run_items t name i n f) (spelled_items all ending)
    → module_source f ≡ Some from → nonempty name ≡ Some name → input_source from i ≡ Some read → worker_count n ≡ Some count
    → request_of (program ∷ spelled all ending) ≡ Some (module_of from t (running name read count))
run_any program all ending t [] i n f from read count is moved at named reads counts = cc
run_any program all ending t (b ∷ name) i n f from read count is moved at named reads counts = run_row program all ending t b name i n f from read count is moved at reads counts

sampled_any : (program size : Text) (s : Spelled) → IsSpelled s → item_of s ≡ (sample, size) → request_of (program ∷ words_of s) ≡ option_map (λ k. sample_of k) (number_of size)
sampled_any program size flag_word is item = absurd (true≢false (ap (λ (w : Item). place w.0 == 0) item))
sampled_any program size (joined p v) is item = ap (λ (w : Item). request_of (program ∷ words_of (joined w.0 w.1))) item ∙ sample_joined program size
sampled_any program size (parted p v) is item = ap (λ (w : Item). request_of (program ∷ words_of (parted w.0 w.1))) item
    ∙ sample_parted program size (subst (λ text. is_plain_word text ≡ true) (ap (λ (w : Item). w.1) item) is.1)
sampled_any program size (file_word v) is item = absurd (true≢false (ap (λ (w : Item). place w.0 == 6) item))

-- words that spell a row are read as it says
pub reads_rows : (words : List Text) (result : Result Request WordsError) → Answers (request_of words) result → ReadsRows words result
reads_rows words result answers = record {
  printed = λ t f from spells at. answers_as words result _ answers
      (ap request_of spells.are ∙ print_row spells.program spells.all spells.ending t f from spells.spells spells.order at);
  lowered = λ t name f from spells at named. answers_as words result _ answers
      (ap request_of spells.are ∙ lowered_any spells.program spells.all spells.ending t name f from spells.spells spells.order at named);
  run = λ t name i n f from read count spells at named reads counts. answers_as words result _ answers
      (ap request_of spells.are ∙ run_any spells.program spells.all spells.ending t name i n f from read count spells.spells spells.order at named reads counts);
  sampled = λ program size s is item are. answers_as words result _ answers (ap request_of are ∙ sampled_any program size s is item);
}

refused_asking : (program : Text) (words : List Text) (options : Options) → asked words ≡ Some options → IsRefused words options → request_of (program ∷ words) ≡ None
refused_asking program words options is (sample_with_others size sized company) = sample_in_company program size words options is sized company
refused_asking program words options is (sample_without_number size sized none) = sample_of_no_number program size words options is sized none
refused_asking program words options is (empty_file no_sample files) = no_file_name program words options (record { is = is; no_sample = no_sample }) files
refused_asking program words options is (lower_and_run f g no_sample lowers runs) = both_tasks program f g words options (record { is = is; no_sample = no_sample }) lowers runs
refused_asking program words options is (empty_lower no_sample lowers) = no_lowered_name program words options (record { is = is; no_sample = no_sample }) lowers
refused_asking program words options is (empty_run no_sample runs) = no_run_name program words options (record { is = is; no_sample = no_sample }) runs
refused_asking program words options is (input_without_run text no_sample runs inputs) = lone_input program text words options (record { is = is; no_sample = no_sample }) runs inputs
refused_asking program words options is (workers_without_run text no_sample runs counts) = lone_workers program text words options (record { is = is; no_sample = no_sample }) runs counts
refused_asking program words options is (empty_input no_sample inputs) = go options.run refl
  where
    go : (r : Option Text) → options.run ≡ r → request_of (program ∷ words) ≡ None
    go None runs = lone_input program [] words options (record { is = is; no_sample = no_sample }) runs inputs
    go (Some name) runs = no_input program [] name words options (record { is = is; no_sample = no_sample }) runs inputs (λ from at. refl)
refused_asking program words options is (standard_input_twice no_sample inputs standard) = go options.run refl
  where
    one : (from : SourceShape) → module_source options.file ≡ Some from → input_source from (Some (codes "-")) ≡ None
    one from at = subst (λ o. option_and_then (λ f. input_source f (Some (codes "-"))) o ≡ None) at (ap (option_and_then (λ f. input_source f (Some (codes "-")))) standard)

    go : (r : Option Text) → options.run ≡ r → request_of (program ∷ words) ≡ None
    go None runs = lone_input program (codes "-") words options (record { is = is; no_sample = no_sample }) runs inputs
    go (Some name) runs = no_input program (codes "-") name words options (record { is = is; no_sample = no_sample }) runs inputs one
refused_asking program words options is (workers_without_number text no_sample counts none) = go options.run refl
  where
    go : (r : Option Text) → options.run ≡ r → request_of (program ∷ words) ≡ None
    go None runs = lone_workers program text words options (record { is = is; no_sample = no_sample }) runs counts
    go (Some name) runs = no_workers program text name words options (record { is = is; no_sample = no_sample }) runs counts none

refused_asked : (words : List Text) (options : Options) → asked (drop 1 words) ≡ Some options → IsRefused (drop 1 words) options → request_of words ≡ None
refused_asked [] options is why = refl
refused_asked (program ∷ words) options is why = refused_asking program words options is why

refused_twice : (words : List Text) (given : List Item) → Spells words given → each_once given ≡ false → request_of words ≡ None
refused_twice words given spells twice =
    ap request_of spells.are ∙ repeated spells.program spells.all spells.ending spells.spells (go (each_once (spelled_items spells.all spells.ending)) refl)
  where
    go : (b : Bool) → each_once (spelled_items spells.all spells.ending) ≡ b → each_once (spelled_items spells.all spells.ending) ≡ false
    go true once = absurd (true≢false (sym (any_order (spelled_items spells.all spells.ending) given (IsPermutation-sym given (spelled_items spells.all spells.ending) spells.order) once).0 ∙ twice))
    go false once = once

-- and refused as the table says
pub refuses_words : (words : List Text) (result : Result Request WordsError) → Answers (request_of words) result → RefusesWords words result
refuses_words words result answers = record {
  none = λ empty. answers_as words result _ answers (ap request_of empty);
  twice = λ given spells again. answers_as words result _ answers (refused_twice words given spells again);
  unknown = λ program all word rest is bad are. answers_as words result _ answers (ap request_of are ∙ unknown program all word rest is bad);
  valueless = λ program all part rest is takes lacks are. answers_as words result _ answers
      (ap request_of are ∙ refused_words program (flat_map words_of all ++ option_word part ∷ rest)
      (valueless_refused all part rest is takes lacks));
  many_files = λ program all first second rest is are. answers_as words result _ answers
      (ap request_of are ∙ refused_words program (flat_map words_of all ++ codes "--" ∷ first ∷ second ∷ rest)
      (many_files_refused all first second rest is));
  asking = λ options is why. answers_as words result _ answers (refused_asked words options is why);
}
