use Rattle.std.proofs.Common.{◌≡◌, ◌∙◌, ◌==◌, Bool, sym, ap, List, [], ◌∷◌, length, map, drop, string_bytes, Option, Some, None, Ok, Err, refl, false, true≢false}
use Rattle.std.specs.Prelude.{option_and_then}
use Rattle.std.proofs.lemmas.List.{length-map}
use Rattle.mlir_words.specs.App.{Gives, options_given}
use Rattle.mlir_words.specs.Asked.{Options, Text, asked}
use Rattle.mlir_words.specs.Request.{Answers, RequestShape, is_sample_alone, request_by, request_of, request_shape}
use Rattle.mlir_words.specs.declared.request.WordsError.{WordsError}
use Rattle.mlir_words.specs.declared.request.WordsError.TheVariants.{Words, Memory}
use Rattle.mlir_words.proofs.Laws.{reads_rows, refuses_words}
use Rattle.mlir_words.proofs.command.read_words.Goals as goal
use Rattle.mlir_words.proofs.command.read_words.Goals.{In-Some}

request_from : (words : List Text) (given : Options) (alone : Bool) (wanted : Option RequestShape) → (length words == 0) ≡ false → asked (drop 1 words) ≡ Some given
    → alone ≡ is_sample_alone (drop 1 words) → wanted ≡ request_by alone given.sample given → request_of words ≡ wanted
request_from [] given alone wanted some is only answer = absurd (true≢false some)
request_from (program ∷ words) given alone wanted some is only answer =
    ap (option_and_then (λ (options : Options). request_by (is_sample_alone words) options.sample options)) is
    ∙ ap (λ b. request_by b given.sample given) (sym only) ∙ sym answer

request_of_none : (words : List Text) (why : WordsError) (given : Option Options) → Gives given (Err why) → asked (drop 1 words) ≡ given → Answers (request_of words) (Err why)
request_of_none [] Words given none is = refl
request_of_none (program ∷ words) Words given none is =
    ap (option_and_then (λ (options : Options). request_by (is_sample_alone words) options.sample options)) (is ∙ none)
request_of_none words Memory given none is = tt

some : (c : In-Some) → request_of (map string_bytes c.args.words.now) ≡ Some (request_shape c.in-Some.request)
some c =
    request_from (map string_bytes c.args.words.now) (options_given c.in-Ok.given) c.is_sample_only.result (Some (request_shape c.in-Some.request))
    (ap (λ n. n == 0) (length-map c.args.words.now string_bytes) ∙ sym c.is_empty.ensures ∙ c.if-is_empty.false) c.in-Ok.ensures c.is_sample_only.ensures c.in-Some.ensures.request

pub returns-in-Some-clause-request : goal.returns-in-Some-clause-request
returns-in-Some-clause-request c = some c

pub returns-in-Some-clause-rows : goal.returns-in-Some-clause-rows
returns-in-Some-clause-rows c = reads_rows (map string_bytes c.args.words.now) (Ok c.in-Some.request) (some c)

pub returns-in-Some-clause-refusals : goal.returns-in-Some-clause-refusals
returns-in-Some-clause-refusals c = refuses_words (map string_bytes c.args.words.now) (Ok c.in-Some.request) (some c)

pub returns-in-None-clause-rows : goal.returns-in-None-clause-rows
returns-in-None-clause-rows c = reads_rows (map string_bytes c.args.words.now) (Err Words)
    (request_from (map string_bytes c.args.words.now) (options_given c.in-Ok.given) c.is_sample_only.result None
    (ap (λ n. n == 0) (length-map c.args.words.now string_bytes) ∙ sym c.is_empty.ensures ∙ c.if-is_empty.false) c.in-Ok.ensures c.is_sample_only.ensures c.in-None.ensures.request)

pub returns-in-Err-clause-rows : goal.returns-in-Err-clause-rows
returns-in-Err-clause-rows c = reads_rows (map string_bytes c.args.words.now) (Err c.in-Err.error)
    (request_of_none (map string_bytes c.args.words.now) c.in-Err.error (asked (drop 1 (map string_bytes c.args.words.now))) c.in-Err.ensures refl)
