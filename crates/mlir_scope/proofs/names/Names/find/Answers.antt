use Rattle.std.proofs.Common.{◌≡◌, Some, ℕ, ◌-◌, List, sym, ap, ◌∙◌, arith, get_or}
use Rattle.mlir_scope.specs.Names.{find, Entry}
use Rattle.mlir_scope.proofs.Spots.{spot_at, none_spot}
use Rattle.mlir_scope.proofs.names.Names.find.Goals as goal

pub index-requires : goal.index-requires
index-requires c =
    let a = spot_at 0 c.self.inside.entries.items c.args.name.now c.in-Some.at.now (sym (c.in-Some.ensures.value ∙ c.self.invariant.0 c.args.name.now)) in
    omega (arith, a.high)

pub returns-in-Some : goal.returns-in-Some
returns-in-Some c =
    let a = spot_at 0 c.self.inside.entries.items c.args.name.now c.in-Some.at.now (sym (c.in-Some.ensures.value ∙ c.self.invariant.0 c.args.name.now)) in
    let z : c.in-Some.at.now - 0 ≡ c.in-Some.at.now = omega arith in
    ap (λ (e : Entry). Some e.means) (c.behind-self.view_is ∙ c.index.ensures)
    ∙ sym (a.found c.index.result.now ∙ ap (λ (j : ℕ). Some (get_or c.self.inside.entries.items j c.index.result.now).means) z)
    ∙ ap (λ (xs : List Entry). find xs c.args.name.now) c.self.view_is

pub returns-in-None : goal.returns-in-None
returns-in-None c =
    sym (ap (λ xs. find xs c.args.name.now) (sym c.self.view_is) ∙ none_spot 0 c.self.inside.entries.items c.args.name.now (sym (c.in-None.ensures.value ∙ c.self.invariant.0 c.args.name.now)))
