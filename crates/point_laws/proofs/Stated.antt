-- Folds over points, and orders of dimensions, as the laws state them.
use Rattle.std.proofs.Common.{length, refl, filter, Some, sym, ◌∙◌, ◌≡◌, true}
use Rattle.mlir_meaning.specs.Structured.{fold_points, elements}
use Rattle.point_laws.specs.Folds.{then_step}
use Rattle.point_laws.specs.Laws.{FurtherPointsKeep, OrdersPermute, FoldsInAnyOrder, FoldsInParts, CombinersSwap}
use Rattle.point_laws.proofs.Combiners.{payload_swaps}
use Rattle.point_laws.proofs.Folds.{fold_any_order, fold_cut, fold_from}
use Rattle.point_laws.proofs.Turning.{order_of, points_permuted}
use Rattle.point_laws.proofs.Inside.{element_inside}

pub any_order : FoldsInAnyOrder
any_order step swaps ps qs same a = fold_any_order (then_step step) swaps ps qs same (Some a)

pub in_parts : FoldsInParts
in_parts step swaps S W ps apart a = sym (fold_from (λ p a. step a p) (filter W ps) (fold_points step (filter S ps) a)) ∙ fold_cut (then_step step) swaps S W ps apart (Some a)

pub combiners_swap : CombinersSwap
combiners_swap maps ins captured payload k = payload_swaps payload k.combiner k.term k.is k.found (λ p. record { point = p; outer = captured; ins = elements ins maps p; out = 0 })

pub orders_permute : OrdersPermute
orders_permute order box h = points_permuted order (length box) (order_of order (length box) h) box refl

pub further_points : FurtherPointsKeep
further_points within = element_inside (λ a. within a ≡ true)
