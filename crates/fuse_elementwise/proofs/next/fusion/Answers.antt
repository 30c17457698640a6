use Rattle.std.proofs.Common.{◌≡◌, Option, ap, sym, false, subst, ◌∙◌}
use Rattle.std.proofs.lemmas.Option.{same_Some}
use Rattle.verified_runs.specs.Forms.{Structured, kind_of}
use Rattle.fuse_forms.specs.Forms.{structured}
use Rattle.fuse_elementwise.specs.Spots.{spot}
use Rattle.fuse_elementwise.specs.Turns.{Forms}
use Rattle.fuse_elementwise.proofs.Nexts.{below_there, behind_there, change_there, no_value, same_trap}
use Rattle.fuse_elementwise.proofs.next.fusion.Goals as goal

pub unreachable-requires : goal.unreachable-requires
unreachable-requires c = no_value c.args.f.now c.args.found (structured c.args.p.now) (structured c.args.c.now) c.requires.pair c.in_default.ensures

pub change_at-change-requires-clause-behind : goal.change_at-change-requires-clause-behind
change_at-change-requires-clause-behind c =
    behind_there c.args.f.now c.args.found (structured c.args.p.now) (structured c.args.c.now) c.requires.pair

pub change_at-change-requires-clause-within : goal.change_at-change-requires-clause-within
change_at-change-requires-clause-within c =
    below_there c.args.f.now c.args.found (structured c.args.p.now) (structured c.args.c.now) c.requires.pair

pub returns-in-Some : goal.returns-in-Some
returns-in-Some c =
    let f = c.args.f.now in
    let i = c.requires.pair in
    let x = subst (λ (r : Option Structured). Forms f r) c.in-Ok-Some.field-0-is c.in-Ok-Some.ensures in
    let same : i.pair ≡ x.0 = same_Some i.pair x.0 (sym i.is ∙ x.1) in (
      x.0,
      x.1,
      same_trap f c.requires.passes c.args.found (structured c.args.p.now) (structured c.args.c.now) i x.0 x.1 false c.requires.no_trap,
      x.2,
      i.there ∙ ap spot same,
      c.into_kind.ensures ∙ ap kind_of x.3,
      change_there f c.args.found (structured c.args.p.now) (structured c.args.c.now) i x.0 x.1 c.change_at-change.result c.in-Some.gone c.change_at-change.ensures c.in-Some.ensures,
    )

pub returns-in-Ok-None : goal.returns-in-Ok-None
returns-in-Ok-None c =
    let x = subst (λ (r : Option Structured). Forms c.args.f.now r) c.in-Ok-None.field-0-is c.in-Ok-None.ensures in
    (x.0, x.1, same_trap c.args.f.now c.requires.passes c.args.found (structured c.args.p.now) (structured c.args.c.now) c.requires.pair x.0 x.1 false c.requires.no_trap, x.2)
