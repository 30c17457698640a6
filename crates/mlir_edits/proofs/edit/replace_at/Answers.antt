use Rattle.std.proofs.Common.{◌≡◌, ◌∙◌, List, true, ap, sym, subst}
use Rattle.std.specs.Prelude.{is_some, insert}
use Rattle.mlir_ir.specs.Shape.{FuncShape}
use Rattle.verified_runs.specs.Edits.{Edit}
use Rattle.mlir_edits.specs.Places.{op_at}
use Rattle.mlir_edits.specs.Replaced.{replaced_among, leaves_body}
use Rattle.mlir_edits.proofs.Bounds.{func_within, put_func, left_at}
use Rattle.mlir_edits.proofs.edit.replace_at.Goals as goal

pub returns-in-Ok : goal.returns-in-Ok
returns-in-Ok c =
    let p = c.args.place in
    let e : Edit = record { ops = c.args.new; values = c.args.values.now } in
    let all : List FuncShape = c.into_vec-funcs.result.items in
    let there = subst (λ (fs : List FuncShape). is_some (op_at p fs) ≡ true) (sym c.into_vec-funcs.ensures) c.requires.there in
    λ j. record {
      funcs = (c.from_vec.ensures ∙ c.in-Ok.ensures.items
          ∙ ap (λ (fs : List FuncShape). insert fs p.func c.in_ok-g.g) c.remove-f.ensures.items
          ∙ put_func all p.func p.op e c.remove-f.result c.in_ok-g.g (func_within p all there) c.remove-f.ensures.value c.in_ok-g.ensures
          ∙ ap (replaced_among p.func p.op e) c.into_vec-funcs.ensures) j;
    }

pub replace_in-requires-clause-left : goal.replace_in-requires-clause-left
replace_in-requires-clause-left c =
    let p = c.args.place in
    let e : Edit = record { ops = c.args.new; values = c.args.values.now } in
    let all : List FuncShape = c.into_vec-funcs.result.items in
    let there = subst (λ (fs : List FuncShape). is_some (op_at p fs) ≡ true) (sym c.into_vec-funcs.ensures) c.requires.there in
    let left = subst (leaves_body p e) (sym c.into_vec-funcs.ensures) c.requires.left in
    left_at p all e c.remove-f.result (func_within p all there) c.remove-f.ensures.value left
