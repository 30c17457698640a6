use Rattle.std.proofs.Common.{◌≡◌, ◌<◌, None, Some, ℕ, ◌-◌, List, sym, ap, ◌∙◌, arith, get_or}
use Rattle.script_text.specs.declared.names.Row.{Row}
use Rattle.script_text.specs.Names.{look}
use Rattle.script_text.proofs.Spots.{spot_at, none_spot}
use Rattle.script_text.proofs.names.Rows.look.Goals as goal

pub index-requires : goal.index-requires
index-requires c =
    let a = spot_at 0 c.self.inside.rows.items c.args.handle c.in-Some.at.now (sym (c.in-Some.ensures.value ∙ c.self.invariant c.args.handle)) in
    omega (arith, a.high)

pub returns-in-Some : goal.returns-in-Some
returns-in-Some c =
    let a = spot_at 0 c.self.inside.rows.items c.args.handle c.in-Some.at.now (sym (c.in-Some.ensures.value ∙ c.self.invariant c.args.handle)) in
    let z : c.in-Some.at.now - 0 ≡ c.in-Some.at.now = omega arith in
    ap (λ (r : Row). Some r) c.index.ensures
    ∙ sym (a.found c.index.result.now ∙ ap (λ (j : ℕ). Some (get_or c.self.inside.rows.items j c.index.result.now)) z)
    ∙ ap (λ (rs : List Row). look rs c.args.handle) c.self.view_is

pub returns-in-None : goal.returns-in-None
returns-in-None c =
    sym (ap (λ (rs : List Row). look rs c.args.handle) (sym c.self.view_is) ∙ none_spot 0 c.self.inside.rows.items c.args.handle (sym (c.in-None.ensures.value ∙ c.self.invariant c.args.handle)))
