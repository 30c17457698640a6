-- The canonical text of what is read stands for it.
use Rattle.std.proofs.Common.{◌≡◌, ℕ, List, None, length, Ok, Err, Result, sym, ap, subst, ◌∙◌, []}
use Rattle.text_format.specs.Token.{TokenShape}
use Rattle.text_format.specs.Pieces.{Piece, IsSpaced, bytes_of, spans_at, shapes_at}
use Rattle.text_format.specs.Tokens as lexed
use Rattle.text_format.specs.Tokens.{with_texts}
use Rattle.text_format.specs.Parsing.{tokens_in, end_of}
use Rattle.text_format.specs.Places.{is_read}
use Rattle.text_format.specs.Formats.{Item}
use Rattle.text_format.specs.Laws.{Matches}
use Rattle.text_format.proofs.Printed.{spans_of_pieces, shapes_of_pieces}
use Rattle.mlir_syntax.specs.Files.{text}
use Rattle.mlir_syntax.specs.FileLaws.{text-whole}
use Rattle.mlir_file.specs.declared.file.File.{File}
use Rattle.mlir_lex.specs.declared.fault.Fault.{Fault}
use Rattle.mlir_lex.specs.declared.read_error.ReadError.{ReadError}
use Rattle.mlir_lex.specs.Faults.{first_of}
use Rattle.mlir_read.specs.Reading.{StandsFor, of_tree, of_tokens, of_lexed, reading}
use Rattle.mlir_print.specs.Canonical.{text_at, text_of}
use Rattle.mlir_roundtrip.specs.Printable.{IsPrintable}
use Rattle.mlir_roundtrip.specs.Numbered.{renumbered}
use Rattle.mlir_roundtrip.proofs.FileSpaced.{text_spaced}
use Rattle.mlir_roundtrip.proofs.FileSpelled.{text_spelled}
use Rattle.text_format.proofs.Written.{matched}
use Rattle.mlir_roundtrip.proofs.FileFitting.{text_fits}
use Rattle.mlir_roundtrip.proofs.FileRounds.{text_found}
use Rattle.mlir_roundtrip.proofs.Symbols.{spelled_items}
use Rattle.mlir_roundtrip.proofs.Functions.{FileRead, file_is}

abbrev got : List TokenShape → Result (List TokenShape) lexed.Fault → List TokenShape
got d (Ok x) = x
got d (Err e) = d

-- the tokens of well-spaced pieces, with their texts
texts_of : (ps : List Piece) → IsSpaced ps [] → tokens_in (bytes_of ps) (spans_at 0 ps) ≡ shapes_at 0 ps
texts_of ps s = ap (got []) (sym (ap (with_texts (bytes_of ps)) (spans_of_pieces ps s)) ∙ shapes_of_pieces ps s)

-- The canonical text of a printable file stands for the file with the numbers of the text.
pub canonical_stands : (m : File) → IsPrintable m → StandsFor (text_of m) (renumbered m)
unfolding text_of
canonical_stands m h =
    let ps = (text_at m).pieces in
    let s = text_spaced m h in (
      (text_at m).tree 0,
      (
        spans_at 0 (text_at m).pieces,
        spans_of_pieces (text_at m).pieces s,
        subst (λ (ts : List TokenShape). Matches (text.spell ((text_at m).tree 0)) ts) (sym (texts_of (text_at m).pieces s))
            (subst (λ (is : List Item). Matches is (shapes_at 0 (text_at m).pieces)) (sym ((text_spelled m h).law 0)) (matched (text_at m).pieces (text_fits m h) 0)),
      ),
      text_found m h 0,
    )

-- What a text stands for is printable, and has the numbers of its canonical text.
pub read_is_printable : (source : List ℕ) (f : File) → StandsFor source f → FileRead f
read_is_printable source f st = file_is st.0 f (spelled_items source st.0 st.1.0 st.1.1 st.1.2) st.2

-- The canonical text of what a text stands for stands for it.
pub reads_back : (source : List ℕ) (f : File) → StandsFor source f → StandsFor (text_of f) f
reads_back source f st =
    let r = read_is_printable source f st in
    subst (λ (x : File). StandsFor (text_of f) x) r.number (canonical_stands f r.printable)

abbrev read_in : File → Result File ReadError → File
read_in d (Ok x) = x
read_in d (Err e) = d

read_is : (source : List ℕ) (m : File) → StandsFor source m → reading source ≡ Ok m
unfolding of_tokens end_of
read_is source m st =
    ap (of_lexed source) st.1.1 ∙ ap of_tree (is_read text text-whole (length source) st.0 (tokens_in source st.1.0) st.1.2) ∙ ap (λ (r : Result File Fault). first_of r None) st.2

-- A text stands for one file at most.
pub stands_for_one : (source : List ℕ) (m n : File) → StandsFor source m → StandsFor source n → m ≡ n
stands_for_one source m n a b = ap (read_in m) (sym (read_is source m a) ∙ read_is source n b)
