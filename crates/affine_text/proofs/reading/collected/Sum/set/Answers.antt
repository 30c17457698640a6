use Rattle.std.proofs.Common.{◌≡◌, ◌∙◌, false, sym, ap}
use Rattle.std.specs.Ordering.{nat_cmp}
use Rattle.std.specs.BTreeMap.{insert_entry}
use Rattle.affine_text.specs.Collected.{is_zero}
use Rattle.affine_text.proofs.Adding.{set_removed, set_inserted, set_kept}
use Rattle.affine_text.proofs.Multiplying.{stored_again}
use Rattle.affine_text.proofs.reading.collected.Sum.set.Goals as goal
use Rattle.affine_text.proofs.reading.collected.Sum.set.Goals.{in-Ok, in-Err}

pub invariant_of-self : goal.invariant_of-self
invariant_of-self c = set_removed c.self.inside.constant c.self.inside.terms.entries c.remove.new.self.entries c.args.dimension c.self.invariant c.remove.ensures.entries

pub invariant_of-self-2 : goal.invariant_of-self-2
invariant_of-self-2 c =
    let e = stored_again c.args.coefficient c.requires in
    let z : is_zero c.args.coefficient ≡ false = ap is_zero (sym e) ∙ sym c.is_zero.ensures ∙ c.if-is_zero.false in
    elim c.match-insert.branch [
      | in-Ok w ↦ set_inserted c.self.inside.constant c.self.inside.terms.entries c.insert.new.self.entries c.args.dimension c.args.coefficient c.self.invariant c.requires z (w.in-Ok.ensures.entries ∙ ap (insert_entry nat_cmp c.self.inside.terms.entries c.args.dimension) e)
      | in-Err w ↦ set_kept c.self.inside.constant c.self.inside.terms.entries c.insert.new.self.entries c.self.invariant w.in-Err.ensures.err
    ]
