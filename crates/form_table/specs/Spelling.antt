-- Tokens as they are written.
use Rattle.std.specs.Prelude.{ℕ, List, refl}
use Rattle.std.specs.Coded.{Coded, code_by, coded×, coded_ℕ, coded_list}
use Rattle.text_format.specs.declared.front.Kind.{Kind}
use Rattle.text_format.specs.contracts.front.Kind as kind

pub record SpellingShape : Type 0 where
  pub kind : Kind
  pub text : List ℕ

abbrev pub spelling_code : Coded SpellingShape
spelling_code = code_by (Kind × List ℕ) (coded× kind.the_row.coded (coded_list coded_ℕ)) (λ t. (t.kind, t.text)) (λ p. record { kind = p.0; text = p.1 }) (λ _. refl)
