-- Tokens with their texts.
use Rattle.std.specs.Prelude.{ℕ, List, refl}
use Rattle.std.specs.Coded.{Coded, code_by, coded×, coded_ℕ, coded_list}
use Rattle.text_format.specs.declared.front.Kind.{Kind}
use Rattle.text_format.specs.contracts.front.Kind as kind

pub record TokenShape : Type 0 where
  pub kind : Kind
  pub start : ℕ
  pub text : List ℕ

abbrev pub token_code : Coded TokenShape
token_code = code_by (Kind × (ℕ × List ℕ)) (coded× kind.the_row.coded (coded× coded_ℕ (coded_list coded_ℕ))) (λ t. (t.kind, (t.start, t.text))) (λ p. record { kind = p.0; start = p.1.0; text = p.1.1 }) (λ _. refl)
