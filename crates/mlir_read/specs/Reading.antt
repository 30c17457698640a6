-- What a text stands for, and its first fault.
use Rattle.std.specs.Prelude.{◌≡◌, ◌<◌, ◌⊎◌, ℕ, Bool, true, false, ◌&&◌, ◌||◌, List, [], ◌∷◌, length, Result, Ok, Err, Option, Some, None, nat_lt, nat_le}
use Rattle.text_format.specs.declared.class.Class.{Class}
use Rattle.text_format.specs.declared.class.Class.TheVariants.{Alias, ItemStart}
use Rattle.text_format.specs.declared.class.Reason.{Reason}
use Rattle.text_format.specs.declared.class.Reason.TheVariants.{Syntax}
use Rattle.text_format.specs.declared.span.Span.{Span}
use Rattle.text_format.specs.Tokens as lexed
use Rattle.text_format.specs.Parsing.{tokens_in, end_of}
use Rattle.text_format.specs.Token.{TokenShape}
use Rattle.text_format.specs.Formats.{State, Stop, live}
use Rattle.text_format.specs.Formats.{Item as Spelled}
use Rattle.text_format.specs.Laws.{IsItem, Matches}
use Rattle.text_format.specs.Places.{IsFault}
use Rattle.mlir_lex.specs.declared.read_error.ReadError.{ReadError}
use Rattle.mlir_lex.specs.declared.read_error.ReadError.TheVariants as errors
use Rattle.mlir_lex.specs.Faults.{reach_of, fault_error, stop_error, first_of}
use Rattle.mlir_syntax.specs.declared.tree.files.ModuleRest.{ModuleRest}
use Rattle.mlir_syntax.specs.declared.tree.files.ModuleRest.TheVariants as rests
use Rattle.mlir_syntax.specs.declared.tree.files.Enclosed.{Enclosed}
use Rattle.mlir_syntax.specs.declared.tree.files.Item.{Item}
use Rattle.mlir_syntax.specs.declared.tree.files.Item.TheVariants as items
use Rattle.mlir_syntax.specs.declared.tree.files.Text.{Text}
use Rattle.mlir_syntax.specs.Files.{text}
use Rattle.mlir_lex.specs.declared.fault.Fault.{Fault}
use Rattle.mlir_file.specs.declared.file.File.{File}
use Rattle.mlir_read.specs.declared.files.Stage.{Stage}
use Rattle.mlir_read.specs.declared.files.Stage.TheVariants.{Start, Functions, Scripted, Closed}
use Rattle.mlir_read.specs.Resolve.{is_closed, function_stage, module_stage, resolve}

-- the tokens of the text spell the tree
abbrev pub Spells : List ℕ → Text → Type 0
Spells source tree = (ts : List Span) × (lexed.tokens_of source ≡ Ok ts) × Matches (text.spell tree) (tokens_in source ts)

-- the text stands for the file
abbrev pub StandsFor : List ℕ → File → Type 0
StandsFor source f = (tree : Text) × Spells source tree × (resolve tree ≡ Ok f)

-- ---- faults

-- what a text has had behind an item
abbrev pub item_stage : Stage → Item → Stage
item_stage s (items.Alias a) = s
item_stage s (items.Function f) = function_stage s
item_stage s (items.Module m) = module_stage s m

abbrev pub stage_behind : Stage → List Item → Stage
stage_behind s [] = s
stage_behind s (i ∷ is) = stage_behind (item_stage s i) is

abbrev pub class_at : Bool → Class
class_at true = Alias
class_at false = ItemStart

-- what may stand behind a text's items: behind a closed module an alias, and else another item
abbrev pub behind : Text → Class
behind t = class_at (is_closed (stage_behind Start t.items))

-- reading stopped at this place, where a module behind a function wants its closing brace: behind its script
abbrev pub wants_brace : ModuleRest → ℕ → Bool
wants_brace (rests.End t) at = false
wants_brace (rests.Script q e) at = nat_lt q.end.start at && nat_le at e.close.start
wants_brace (rests.Nested m e) at = false

abbrev pub later_wants : Stage → Enclosed → ℕ → Bool
later_wants Start m at = false
later_wants Functions m at = wants_brace m.rest at
later_wants Scripted m at = false
later_wants Closed m at = false

abbrev pub item_wants : Stage → Item → ℕ → Bool
item_wants s (items.Alias a) at = false
item_wants s (items.Function f) at = false
item_wants s (items.Module m) at = later_wants s m at

abbrev pub items_want : Stage → List Item → ℕ → Bool
items_want s [] at = false
items_want s (i ∷ is) at = item_wants s i at || items_want (item_stage s i) is at

abbrev pub why_at : Bool → Reason → Reason
why_at true why = Syntax
why_at false why = why

-- no item may stand there, so that a word that the profile hasn't is a fault of syntax
abbrev pub told : Text → Stop → Stop
told t p = record { at = p.at; why = why_at (items_want Start t.items p.at) p.why }

abbrev pub all_told : Text → Option Stop → Option Stop
all_told t None = None
all_told t (Some p) = Some (told t p)

abbrev pub of_tree : Text × State → Result File ReadError
of_tree r = first_of (resolve r.0) (all_told r.0 (end_of (behind r.0) r.1))

-- the file that the tokens stand for, or their first fault
unfoldable pub of_tokens : List ℕ → List Span → Result File ReadError
of_tokens source ts = of_tree (text.read (live (length source) (tokens_in source ts)))

abbrev pub of_lexed : List ℕ → Result (List Span) lexed.Fault → Result File ReadError
of_lexed source (Ok ts) = of_tokens source ts
of_lexed source (Err (lexed.Byte at)) = Err (errors.Byte at)
of_lexed source (Err (lexed.Unclosed at)) = Err (errors.Unclosed at)

-- the file that the text stands for, or its first fault
abbrev pub reading : List ℕ → Result File ReadError
reading source = of_lexed source (lexed.tokens_of source)

-- ---- what the code answers

-- the file was read, unless memory ran out
abbrev pub Gives : File → Result File ReadError → Type 0
Gives f (Ok g) = g ≡ f
Gives f (Err e) = e ≡ errors.Memory

-- ---- what a fault is

-- each token but those behind the place is spelled
abbrev pub Leads : List TokenShape → List Spelled → ℕ → Type 0
Leads [] is at = Unit {0}
Leads (t ∷ ts) [] at = at < t.start
Leads (t ∷ ts) (i ∷ is) at = (at < t.start) ⊎ (IsItem i t × Leads ts is at)

-- a stop of the reading: the first token with which no text goes on, or the end, where more is wanted. The tokens before it spell the tree
abbrev pub Stops : List ℕ → List Span → ReadError → Type 0
Stops source ts e =
    (tree : Text) × (p : Stop) × IsFault text (behind tree) (length source) (tokens_in source ts) p × ((at : ℕ) → at < p.at → Leads (tokens_in source ts) (text.spell tree) at) × (e ≡ stop_error (told tree p))

-- a fault of a tree that the tokens spell as far as the fault reaches, at least
abbrev pub Finds : List ℕ → List Span → ReadError → Type 0
Finds source ts e = (tree : Text) × (x : Fault) × (resolve tree ≡ Err x) × (e ≡ fault_error x) × Leads (tokens_in source ts) (text.spell tree) (reach_of x)

abbrev pub lex_error : lexed.Fault → ReadError
lex_error (lexed.Byte at) = errors.Byte at
lex_error (lexed.Unclosed at) = errors.Unclosed at

abbrev pub IsFaultBy : List ℕ → ReadError → Result (List Span) lexed.Fault → Type 0
IsFaultBy source e (Ok ts) = Stops source ts e ⊎ Finds source ts e
IsFaultBy source e (Err f) = e ≡ lex_error f

-- the text has this fault
abbrev pub HasFault : List ℕ → ReadError → Type 0
HasFault source e = IsFaultBy source e (lexed.tokens_of source)

-- the fault that is told is the text's
abbrev pub Tells : List ℕ → Result File ReadError → Type 0
Tells source (Ok f) = Unit {0}
Tells source (Err errors.Memory) = Unit {0}
Tells source (Err e) = HasFault source e
