use Rattle.std.proofs.Common.{◌≡◌, ◌∙◌, ◌<◌, ◌++◌, ℕ, List, length, take, drop, remove, ap, sym, subst}
use Rattle.mlir_ir.specs.declared.tree.Op.{Op}
use Rattle.mlir_meaning.specs.Renaming.{reused_ops, renamed_op}
use Rattle.mlir_meaning.specs.States.{names_of}
use Rattle.verified_runs.specs.Edits.{Edit, moved}
use Rattle.mlir_edits.specs.Replaced.{replaced}
use Rattle.mlir_edits.proofs.Bounds.{replaced_is}
use Rattle.mlir_edits.proofs.Mapping.{whole, length_of_parts}
use Rattle.mlir_edits.proofs.edit.replace.Goals as goal

pub returns : goal.returns
returns c =
    let n : ℕ = c.args.position in
    let e : Edit = record { ops = c.args.new; values = c.args.values.now } in
    let os : List Op = c.into_vec-ops.result.items in
    let f = moved (names_of c.as_slice.result.now) c.args.values.now in
    let moved_ops : List Op = c.move_from.new.ops in
    let rest = c.as_mut_slice.ensures.value ∙ c.remove-old.ensures.items in
    let long = ap length c.move_from.ensures ∙ length_of_parts (renamed_op (λ k. k) f (λ k. k)) c.as_mut_slice.result.now n ∙ c.as_mut_slice.ensures.len in
    let left = whole moved_ops (drop (length moved_ops) c.remove-old.new.self.items) c.remove-old.new.self.len long in
    c.from_vec.ensures
    ∙ replaced_is os moved_ops c.put.new.ops.items n e c.remove-old.result (subst (λ (b : List Op). n < length b) (sym c.into_vec-ops.ensures) c.requires)
    c.remove-old.ensures.value
    (c.move_from.ensures ∙ (λ j. take n (rest j) ++ reused_ops (moved (names_of (c.as_slice.ensures j)) c.args.values.now) (drop n (rest j))))
    (c.in_ok-put.ensures ∙ (λ j. take n (left j) ++ c.into_vec.ensures j ++ drop n (left j)))
    ∙ ap (replaced n e) c.into_vec-ops.ensures
