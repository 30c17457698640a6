-- What a parser holds: the tokens that are left, each with its text.
use Rattle.std.specs.Prelude.{ℕ, List, [], ◌∷◌, map, Option, Some, None}
use Rattle.text_format.specs.declared.class.Class.{Class}
use Rattle.text_format.specs.declared.parser.Stopped.{Stopped}
use Rattle.text_format.specs.declared.span.Span.{Span}
use Rattle.text_format.specs.Token.{TokenShape}
use Rattle.text_format.specs.Tokens.{with_text}
use Rattle.text_format.specs.Formats.{State, Stop, at_token}

abbrev pub tokens_in : List ℕ → List Span → List TokenShape
tokens_in text ts = map (with_text text) ts

abbrev pub stop_of : Option Stopped → Option Stop
stop_of None = None
stop_of (Some p) = Some (record { at = p.at; why = p.why })

-- where reading ended and why: None, all was read. A token that is left is refused as one of the class would be
abbrev pub end_by : Class → Option Stop → List TokenShape → Option Stop
end_by c (Some p) ts = Some p
end_by c None [] = None
end_by c None (t ∷ ts) = Some (at_token c t)

unfoldable pub end_of : Class → State → Option Stop
end_of c s = end_by c s.stop s.rest
