-- The text of an operation: its tokens are read as its tree, whatever comes behind them, and the tree says its fields; where reading stops
-- is the first fault.
use Rattle.std.proofs.Common.{◌≡◌, ℕ, ◌+◌, zero, List, ◌++◌, Ok, Some, sym, subst}
use Rattle.text_format.specs.declared.class.Class.{Class}
use Rattle.text_format.specs.declared.front.Kind.TheVariants.{Word}
use Rattle.text_format.specs.Token.{TokenShape}
use Rattle.text_format.specs.Formats.{State, Stop, Format, live}
use Rattle.text_format.specs.Laws.{Matches, IsExact}
use Rattle.text_format.specs.Parsing.{end_of}
use Rattle.text_format.specs.Ends.{exact-whole}
use Rattle.text_format.specs.Places.{IsFault, is_fault}
use Rattle.text_format.specs.Pieces.{bytes_of, shapes_at}
use Rattle.text_format.specs.Tokens.{shapes_of}
use Rattle.text_format.specs.Writers.{Writer}
use Rattle.text_format.proofs.Spacing.{IsApart, leaf_name, whole}
use Rattle.text_format.proofs.Written.{LeavesFit, IsWritten, matched, pair-w, put-w}
use Rattle.text_format.proofs.Printed.{shapes_of_pieces}
use Rattle.form_table.specs.declared.part.Part.{Part}
use Rattle.form_table.specs.declared.part.Row.{Row}
use Rattle.form_table.specs.declared.field.Field.{Field}
use Rattle.form_table.specs.declared.want.Opcode.{Opcode}
use Rattle.form_table.specs.Form.{form, tail}
use Rattle.form_table.specs.Parts.{formats, row}
use Rattle.form_table.specs.PartLaws.{tail-exact, row-exact}
use Rattle.form_table.specs.Writing.{written}
use Rattle.form_laws.specs.Fields.{fields_of}
use Rattle.form_laws.specs.Fits.{Fits}
use Rattle.form_laws.specs.Rows.{row_w, IsRow}
use Rattle.form_laws.proofs.Writes.{written-w}
use Rattle.form_laws.proofs.Spaced.{named, written_laid, opens-sound, form_spaced, form_opens, tail_spaced}
use Rattle.form_laws.proofs.Rounds.{written_says}

-- tokens of pieces that a format's tree is spelled by are read as that tree
reads_back : {A : Type 0} (f : Format A) (w : Writer A) → IsExact f → IsWritten f w → LeavesFit w.pieces → (at end : ℕ) (rest : List TokenShape) → f.read (live end (shapes_at at w.pieces ++ rest)) ≡ (w.tree at, live end rest)
reads_back f w p h fit at end rest = p.again end (w.tree at) (shapes_at at w.pieces) rest (subst (λ is. Matches is (shapes_at at w.pieces)) (sym (h.law at)) (matched w.pieces fit at))

row-w : (c : Class) (name : List ℕ) (o : Opcode) (fs : List Field) → Fits (form o) zero fs → IsWritten (row c o) (row_w c name o fs)
unfolding row
row-w c name o fs f = let p = pair-w (put-w c Word name) (written-w (form o) zero fs f) in record { law = λ at. p.law at }

row_laid : (c : Class) (name : List ℕ) (o : Opcode) (fs : List Field) → IsRow c name o fs → IsApart (row_w c name o fs).pieces × LeavesFit (row_w c name o fs).pieces
row_laid c name o fs h =
    let r = written_laid (form o) zero fs h.1 (form_spaced o) in
    (leaf_name c (named c (record { kind = Word; text = name }) h.0) (opens-sound (form o) zero fs h.1 (form_opens o)) r.0, (h.0.1, r.1))

-- the tokens of an operation's text are read as its tree
pub row_reads : (c : Class) (name : List ℕ) (o : Opcode) (fs : List Field) → IsRow c name o fs
    → (at end : ℕ) (rest : List TokenShape) → (row c o).read (live end (shapes_at at (row_w c name o fs).pieces ++ rest)) ≡ ((row_w c name o fs).tree at, live end rest)
row_reads c name o fs h at end rest = reads_back (row c o) (row_w c name o fs) (row-exact c o) (row-w c name o fs h.1) (row_laid c name o fs h).1 at end rest

-- which says the fields that were written
pub row_says : (c : Class) (name : List ℕ) (o : Opcode) (fs : List Field) → IsRow c name o fs → (at : ℕ) → fields_of (form o) zero ((row_w c name o fs).tree at).parts ≡ Some fs
row_says c name o fs h at = written_says (form o) zero fs h.1 _

-- the text has these tokens
pub row_tokens : (c : Class) (name : List ℕ) (o : Opcode) (fs : List Field) → IsRow c name o fs → shapes_of (bytes_of (row_w c name o fs).pieces) ≡ Ok (shapes_at 0 (row_w c name o fs).pieces)
row_tokens c name o fs h = shapes_of_pieces (row_w c name o fs).pieces (whole (row_w c name o fs).pieces (row_laid c name o fs h).0)

-- where reading ends, and why, is the first fault
pub row_fault : (c wanted : Class) (o : Opcode) (end : ℕ) (ts : List TokenShape) (x : Row) (s : State) (q : Stop) → (x, s) ≡ (row c o).read (live end ts) → end_of wanted s ≡ Some q → IsFault (row c o) wanted end ts q
row_fault c wanted o end ts x s q e n = is_fault (row c o) (exact-whole (row-exact c o)) wanted end ts x s q e n

-- ---- what stands behind a region

pub tail_reads : (o : Opcode) (fs : List Field) → Fits (tail o) zero fs → (at end : ℕ) (rest : List TokenShape) → (formats (tail o) zero).read (live end (shapes_at at (written (tail o) zero fs).pieces ++ rest)) ≡ ((written (tail o) zero fs).tree at, live end rest)
tail_reads o fs f at end rest = reads_back (formats (tail o) zero) (written (tail o) zero fs) (tail-exact o) (written-w (tail o) zero fs f) (written_laid (tail o) zero fs f (tail_spaced o)).1 at end rest

pub tail_says : (o : Opcode) (fs : List Field) → Fits (tail o) zero fs → (at : ℕ) → fields_of (tail o) zero ((written (tail o) zero fs).tree at) ≡ Some fs
tail_says o fs f at = written_says (tail o) zero fs f at

pub tail_tokens : (o : Opcode) (fs : List Field) → Fits (tail o) zero fs → shapes_of (bytes_of (written (tail o) zero fs).pieces) ≡ Ok (shapes_at 0 (written (tail o) zero fs).pieces)
tail_tokens o fs f = shapes_of_pieces (written (tail o) zero fs).pieces (whole (written (tail o) zero fs).pieces (written_laid (tail o) zero fs f (tail_spaced o)).0)

pub tail_fault : (wanted : Class) (o : Opcode) (end : ℕ) (ts : List TokenShape) (x : List Part) (s : State) (q : Stop) → (x, s) ≡ (formats (tail o) zero).read (live end ts) → end_of wanted s ≡ Some q → IsFault (formats (tail o) zero) wanted end ts q
tail_fault wanted o end ts x s q e n = is_fault (formats (tail o) zero) (exact-whole (tail-exact o)) wanted end ts x s q e n
