-- The canonical text of a script stands for it.
use Rattle.std.proofs.Common.{◌≡◌, ℕ, ◌-◌, List, [], length, Ok, Err, Option, None, Result, refl, sym, ap, subst, ◌∙◌, arith}
use Rattle.std.proofs.lemmas.List.{append-nil}
use Rattle.text_format.specs.Token.{TokenShape}
use Rattle.text_format.specs.Pieces.{Piece, IsSpaced, bytes_of, spans_at, shapes_at}
use Rattle.text_format.specs.declared.span.Span.{Span}
use Rattle.text_format.specs.Tokens as lexed
use Rattle.text_format.specs.Tokens.{with_texts}
use Rattle.text_format.specs.Parsing.{tokens_in}
use Rattle.text_format.specs.Formats.{Item, live}
use Rattle.text_format.specs.Laws.{Matches}
use Rattle.text_format.proofs.Printed.{spans_of_pieces, shapes_of_pieces}
use Rattle.text_format.proofs.Spacing.{whole}
use Rattle.text_format.proofs.Written.{matched}
use Rattle.mlir_lex.specs.declared.fault.Fault.{Fault}
use Rattle.mlir_lex.specs.declared.read_error.ReadError.{ReadError}
use Rattle.mlir_lex.specs.Faults.{first_of}
use Rattle.script_syntax.specs.Lines.{sequence}
use Rattle.script_syntax.specs.LineLaws.{sequence-exact}
use Rattle.script_read.specs.declared.script.Script.{Script}
use Rattle.script_read.specs.Reading.{StandsFor, with_next, of_tree, reading}
use Rattle.script_text.specs.Canonical.{sequence_at, text_of}
use Rattle.script_roundtrip.specs.Printable.{IsTextOf, IsPrintable}
use Rattle.script_roundtrip.specs.Renumbered.{renumbered}
use Rattle.script_roundtrip.proofs.Spelled.{sequence_spelled}
use Rattle.script_roundtrip.proofs.Fitting.{sequence_fits}
use Rattle.script_roundtrip.proofs.Spaced.{sequence_apart}
use Rattle.script_roundtrip.proofs.Rounds.{sequence_found}
use Rattle.script_roundtrip.proofs.Readable.{script_taken}

abbrev got : List TokenShape → Result (List TokenShape) lexed.Fault → List TokenShape
got d (Ok x) = x
got d (Err e) = d

-- the tokens of well-spaced pieces, with their texts
texts_of : (ps : List Piece) → IsSpaced ps [] → tokens_in (bytes_of ps) (spans_at 0 ps) ≡ shapes_at 0 ps
texts_of ps s = ap (got []) (sym (ap (with_texts (bytes_of ps)) (spans_of_pieces ps s)) ∙ shapes_of_pieces ps s)

none_left : (n : ℕ) → n ≡ n - 0
none_left n = omega arith

-- The canonical text of a printable script stands for the script with the numbers of the text.
pub canonical_stands : (s : Script) → IsPrintable s → IsTextOf (text_of s) (renumbered s)
unfolding text_of
canonical_stands s p =
    let ps = (sequence_at 0 s).pieces in
    let spaced = whole (sequence_at 0 s).pieces (sequence_apart 0 s p) in
    record {
      tokens = spans_at 0 (sequence_at 0 s).pieces;
      lexed = spans_of_pieces (sequence_at 0 s).pieces spaced;
      stands = record {
        tree = (sequence_at 0 s).tree 0;
        used = shapes_at 0 (sequence_at 0 s).pieces;
        left = [];
        parts = texts_of (sequence_at 0 s).pieces spaced ∙ sym (append-nil (shapes_at 0 (sequence_at 0 s).pieces));
        spelled = subst (λ (is : List Item). Matches is (shapes_at 0 (sequence_at 0 s).pieces)) (sym ((sequence_spelled 0 s p).law 0)) (matched (sequence_at 0 s).pieces (sequence_fits 0 s p) 0);
        resolved = sequence_found 0 s p 0;
        count = none_left (length (spans_at 0 (sequence_at 0 s).pieces));
      };
    }

abbrev script_in : Script → Result (Script × ℕ) ReadError → Script
script_in d (Ok x) = x.0
script_in d (Err e) = d

read_is : (source : List ℕ) (ts : List Span) (first : ℕ) (s : Script) (next : ℕ) → StandsFor source ts first s next → reading source ts first ≡ Ok (s, next)
unfolding reading
read_is source ts first s next st =
    ap (λ (us : List TokenShape). of_tree (length ts) (sequence.read (live (length source) us))) st.parts
    ∙ ap (of_tree (length ts)) (sequence-exact.again (length source) st.tree st.used st.left st.spelled)
    ∙ ap (λ (a : Result Script Fault). with_next (length ts - length st.left) (first_of a None)) st.resolved
    ∙ ap (λ (n : ℕ). Ok (s, n)) (sym st.count)

-- Tokens stand for one script at most.
pub stands_for_one : (source : List ℕ) (ts : List Span) (first : ℕ) (a b : Script) (m n : ℕ) → StandsFor source ts first a m → StandsFor source ts first b n → a ≡ b
stands_for_one source ts first a b m n x y = ap (script_in a) (sym (read_is source ts first a m x) ∙ read_is source ts first b n y)

-- The canonical text of a script that tokens stand for stands for that script.
pub read_stands : (source : List ℕ) (ts : List Span) (first : ℕ) (s : Script) (next : ℕ) → StandsFor source ts first s next → IsTextOf (text_of s) s
read_stands source ts first s next st =
    let r = script_taken st.tree s st.resolved in
    subst (λ (t : Script). IsTextOf (text_of s) t) r.number (canonical_stands s r.printable)
