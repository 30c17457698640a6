-- The text of an operation: its name, and what stands behind it, up to its region where it has one.
use Rattle.std.specs.Prelude.{ℕ, zero, List}
use Rattle.text_format.specs.declared.class.Class.{Class}
use Rattle.text_format.specs.declared.front.Kind.TheVariants.{Word}
use Rattle.text_format.specs.Writers.{Writer, put, pair, made}
use Rattle.form_table.specs.declared.part.Row.{Row}
use Rattle.form_table.specs.declared.field.Field.{Field}
use Rattle.form_table.specs.declared.want.Opcode.{Opcode}
use Rattle.form_table.specs.Form.{form}
use Rattle.form_table.specs.Writing.{written}
use Rattle.form_laws.specs.Fits.{IsToken, Fits}

abbrev pub row_w : Class → List ℕ → Opcode → List Field → Writer Row
row_w c name o fs = made (λ x. record { name = x.0; parts = x.1 }) (pair (put c Word name) (written (form o) zero fs))

-- the name is a token of the class, and the fields fit the form
abbrev pub IsRow : Class → List ℕ → Opcode → List Field → Type 0
IsRow c name o fs = IsToken c (record { kind = Word; text = name }) × Fits (form o) zero fs
