-- What reading a list of tokens as one map answers.
use Rattle.std.specs.Prelude.{◌≡◌, ℕ, Bool, List, [], ◌∷◌, ◌++◌, if◌then◌else◌, ◌⊎◌, Result, Ok, Err}
use Rattle.text_format.specs.Token.{TokenShape}
use Rattle.affine_maps.specs.Shape.{MapShape}
use Rattle.affine_text.specs.declared.reading.fault.MapError.{MapError}
use Rattle.affine_text.specs.declared.reading.fault.MapError.TheVariants.{BadText, Form, Range, Memory}
use Rattle.affine_text.specs.Grammar.{MapTree, IsMapTree, map_tokens}
use Rattle.affine_text.specs.Meaning.{and_then, meaning}
use Rattle.affine_text.specs.Faults.{Stream, Spells, IsFirstFault}
use Rattle.affine_text.specs.Feeding.{ReaderShape, first_reader, read_with, is_whole, map_read}

-- the place of the last token, or else this place
abbrev pub last_start : List TokenShape → ℕ → ℕ
last_start [] at = at
last_start (t ∷ ts) at = last_start ts t.start

-- a reader behind these tokens
abbrev pub read_all : List TokenShape → ReaderShape → Result ReaderShape MapError
read_all [] r = Ok r
read_all (t ∷ ts) r = and_then (read_with r t) (read_all ts)

abbrev pub whole_map : ℕ → ReaderShape → Result MapShape MapError
whole_map at r = if is_whole r.spot.place then Ok (map_read r) else Err (BadText at)

-- the map that the tokens spell, or the first fault; tokens that end too soon are at fault at the last of them
unfoldable pub map_of_tokens : Bool → List TokenShape → Result MapShape MapError
map_of_tokens symbols ts = and_then (read_all ts (first_reader symbols)) (whole_map (last_start ts 0))

-- the tokens as those of a text that ends at the last of them
abbrev pub stream_with : List TokenShape → Stream
stream_with ts = record { tokens = ts; end = last_start ts 0 }

-- a token stands behind a whole map
abbrev pub IsBehindMap : Bool → List TokenShape → MapError → Type 0
IsBehindMap symbols ts fault = (done : List TokenShape) × (t : TokenShape) × (after : List TokenShape) × (ts ≡ done ++ t ∷ after) × Spells symbols done × (fault ≡ BadText t.start)

-- a tree is spelled, and means the map; or the fault is the first
abbrev pub IsReading : Bool → List TokenShape → Result MapShape MapError → Type 0
IsReading symbols ts (Ok m) = (x : MapTree) × IsMapTree symbols x × (map_tokens x ≡ ts) × (meaning x ≡ Ok m)
IsReading symbols ts (Err fault) = IsFirstFault symbols (stream_with ts) fault ⊎ IsBehindMap symbols ts fault

-- what is read is answered, memory alone being free
abbrev pub Gives : Result MapShape MapError → Result MapShape MapError → Type 0
Gives read (Ok m) = read ≡ Ok m
Gives read (Err Memory) = Unit {0}
Gives read (Err (BadText at)) = read ≡ Err (BadText at)
Gives read (Err (Form at)) = read ≡ Err (Form at)
Gives read (Err (Range at)) = read ≡ Err (Range at)
