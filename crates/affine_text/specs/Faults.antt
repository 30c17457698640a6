-- What reading a map's text answers: the map at its front, or the first fault.
use Rattle.std.specs.Prelude.{◌≡◌, ℕ, zero, suc, ◌+◌, Bool, true, ◌&&◌, ◌||◌, List, [], ◌∷◌, ◌++◌, length, take, drop, ◌⊎◌, codes, Result, Ok, Err}
use Rattle.std.specs.Str.{bytes_eq}
use Rattle.text_format.specs.declared.front.Kind.TheVariants as kinds
use Rattle.text_format.specs.declared.front.Front.{Front}
use Rattle.text_format.specs.declared.front.Front.TheVariants as fronts
use Rattle.text_format.specs.Bytes.{front}
use Rattle.text_format.specs.Classes.{is_kind}
use Rattle.text_format.specs.Token.{TokenShape}
use Rattle.affine_maps.specs.Shape.{MapShape}
use Rattle.affine_text.specs.declared.reading.fault.MapError.{MapError}
use Rattle.affine_text.specs.declared.reading.fault.MapError.TheVariants.{BadText, Form, Range, Memory}
use Rattle.affine_text.specs.Grammar.{MapTree, map_tokens, IsMapTree, mark_at}
use Rattle.affine_text.specs.Meaning.{meaning}

-- ---- the tokens of a text, up to the first byte that begins none

-- the tokens, and the place where they end
pub record Stream : Type 0 where
  pub tokens : List TokenShape
  pub end : ℕ

abbrev pub ends_at : ℕ → Stream
ends_at at = record { tokens = []; end = at }

abbrev pub before_stream : TokenShape → Stream → Stream
before_stream t s = record { tokens = t ∷ s.tokens; end = s.end }

-- by what stands first in these bytes, where go reads on behind so many of them
abbrev pub stream_by : ℕ → List ℕ → (ℕ → Stream) → Front → Stream
stream_by at bytes go (fronts.Skip k) = go k
stream_by at bytes go (fronts.Token kind k) = before_stream (record { kind = kind; start = at; text = take k bytes }) (go k)
stream_by at bytes go (fronts.Byte k) = ends_at (at + k)
stream_by at bytes go fronts.Unclosed = ends_at at

-- at most n items
unfoldable pub stream_from : ℕ → ℕ → List ℕ → Stream
stream_from zero at bytes = ends_at at
stream_from (suc n) at [] = ends_at at
stream_from (suc n) at (b ∷ rest) = stream_by at (b ∷ rest) (λ k. stream_from n (at + k) (drop k (b ∷ rest))) (front b rest)

abbrev pub stream_of : List ℕ → Stream
stream_of text = stream_from (length text) 0 text

-- ---- faults

-- some map text begins with these tokens
abbrev pub Begins : Bool → List TokenShape → Type 0
Begins symbols ts = (x : MapTree) × (after : List TokenShape) × IsMapTree symbols x × (map_tokens x ≡ ts ++ after)

-- these tokens are a map text
abbrev pub Spells : Bool → List TokenShape → Type 0
Spells symbols ts = (x : MapTree) × IsMapTree symbols x × (map_tokens x ≡ ts)

-- every map text that begins with these tokens has this fault
abbrev pub AllHave : Bool → List TokenShape → MapError → Type 0
AllHave symbols ts fault = (x : MapTree) (after : List TokenShape) → IsMapTree symbols x → map_tokens x ≡ ts ++ after → meaning x ≡ Err fault

-- mod, floordiv and ceildiv, which are no operators of a linear form
abbrev pub is_division : TokenShape → Bool
is_division t = is_kind kinds.Word t.kind && (bytes_eq t.text (codes "mod") || bytes_eq t.text (codes "floordiv") || bytes_eq t.text (codes "ceildiv"))

-- an operator may stand behind these tokens
abbrev pub TakesOperator : Bool → List TokenShape → ℕ → Type 0
TakesOperator symbols ts at = Begins symbols (ts ++ mark_at at (codes "*") ∷ [])

abbrev pub IsFormAt : Bool → List TokenShape → TokenShape → Type 0
IsFormAt symbols ts t = (is_division t ≡ true) × TakesOperator symbols ts t.start

-- no map text goes on with the token behind these; or they end, where a map text goes on
abbrev pub Stops : Bool → List TokenShape → List TokenShape → ℕ → MapError → Type 0
Stops symbols ts [] end fault = fault ≡ BadText end
Stops symbols ts (t ∷ after) end fault =
    (Begins symbols (ts ++ t ∷ []) → ⊥) × ((IsFormAt symbols ts t × (fault ≡ Form t.start)) ⊎ ((IsFormAt symbols ts t → ⊥) × (fault ≡ BadText t.start)))

-- all map texts that go on so have the fault
abbrev pub FaultWithin : Bool → List TokenShape → MapError → Type 0
FaultWithin symbols ts fault = Begins symbols ts × AllHave symbols ts fault

-- no text goes on, and those that begin so have no fault in common
abbrev pub FaultBehind : Bool → List TokenShape → List TokenShape → ℕ → MapError → Type 0
FaultBehind symbols ts after end fault =
    Begins symbols ts × (Spells symbols ts → ⊥) × ((other : MapError) → AllHave symbols ts other → ⊥) × Stops symbols ts after end fault

-- the first fault of a text that has no map text at its front
abbrev pub IsFirstFault : Bool → Stream → MapError → Type 0
IsFirstFault symbols s fault = (ts : List TokenShape) × (after : List TokenShape) × (s.tokens ≡ ts ++ after) × (FaultWithin symbols ts fault ⊎ FaultBehind symbols ts after s.end fault)

-- a map's text stands at the front, and is so many bytes long, up to the end of its last token
abbrev pub IsMapText : Bool → Stream → MapShape → ℕ → Type 0
IsMapText symbols s m n =
    (x : MapTree) × (ts : List TokenShape) × (last : TokenShape) × (after : List TokenShape) × IsMapTree symbols x × (map_tokens x ≡ ts ++ last ∷ [])
    × (s.tokens ≡ (ts ++ last ∷ []) ++ after) × (meaning x ≡ Ok m) × (n ≡ last.start + length last.text)

-- what reading answers, memory alone being free
abbrev pub IsAnswer : Bool → Stream → Result (MapShape × ℕ) MapError → Type 0
IsAnswer symbols s (Ok r) = IsMapText symbols s r.0 r.1
IsAnswer symbols s (Err Memory) = Unit {0}
IsAnswer symbols s (Err (BadText at)) = IsFirstFault symbols s (BadText at)
IsAnswer symbols s (Err (Form at)) = IsFirstFault symbols s (Form at)
IsAnswer symbols s (Err (Range at)) = IsFirstFault symbols s (Range at)
