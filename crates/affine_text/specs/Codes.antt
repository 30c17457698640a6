-- How the logic stores a reader and what it has gathered.
use Rattle.std.specs.Prelude.{ℕ, Bool, List, refl}
use Rattle.std.specs.Coded.{Coded, code_by, coded×, coded_ℕ, coded_bool, coded_list}
use Rattle.affine_maps.specs.Shape.{expr_code}
use Rattle.affine_maps.specs.declared.map.Expr.{Expr}
use Rattle.affine_text.specs.declared.reading.level.Level.{Level}
use Rattle.affine_text.specs.declared.reading.place.Place.{Place}
use Rattle.affine_text.specs.contracts.reading.place.Place as place
use Rattle.affine_text.specs.Reading.{Spot, Gathered}
use Rattle.affine_text.specs.Feeding.{ReaderShape}

abbrev pub level_code : Coded Level
level_code = code_by (Expr × (Bool × (Expr × Bool))) (coded× expr_code (coded× coded_bool (coded× expr_code coded_bool)))
    (λ l. (l.sum, (l.subtracts, (l.product, l.negative)))) (λ p. record { sum = p.0; subtracts = p.1.0; product = p.1.1.0; negative = p.1.1.1 }) (λ _. refl)

abbrev pub gathered_code : Coded Gathered
gathered_code = code_by (List Level × (Level × (ℕ × List Expr))) (coded× (coded_list level_code) (coded× level_code (coded× coded_ℕ (coded_list expr_code))))
    (λ v. (v.outer, (v.level, (v.last, v.results)))) (λ p. record { outer = p.0; level = p.1.0; last = p.1.1.0; results = p.1.1.1 }) (λ _. refl)

abbrev pub spot_code : Coded Spot
spot_code = code_by (Place × (List (List ℕ) × (ℕ × ℕ))) (coded× place.the_row.coded (coded× (coded_list (coded_list coded_ℕ)) (coded× coded_ℕ coded_ℕ)))
    (λ s. (s.place, (s.names, (s.depth, s.room)))) (λ p. record { place = p.0; names = p.1.0; depth = p.1.1.0; room = p.1.1.1 }) (λ _. refl)

abbrev pub reader_code : Coded ReaderShape
reader_code = code_by (Bool × (Spot × Gathered)) (coded× coded_bool (coded× spot_code gathered_code))
    (λ r. (r.symbols, (r.spot, r.gathered))) (λ p. record { symbols = p.0; spot = p.1.0; gathered = p.1.1 }) (λ _. refl)
