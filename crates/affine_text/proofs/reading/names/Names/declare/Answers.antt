use Rattle.std.proofs.Common.{◌≡◌, ℕ, None, length, List, sym, ap, ◌∙◌, arith}
use Rattle.std.proofs.lemmas.Map.Text.{hash_map_updates_str}
use Rattle.affine_text.specs.Grammar.{dimension_of}
use Rattle.affine_text.proofs.Numbers.{declared_last, undeclared}
use Rattle.affine_text.proofs.reading.names.Names.declare.Goals as goal

pub invariant_of-self-in-Ok-push : goal.invariant_of-self-in-Ok-push
invariant_of-self-in-Ok-push c =
    let i = c.self.invariant in
    let p = c.in-Ok-push.ensures.items in
    let n : c.count-number.result ≡ length c.self.inside.declared.items = c.count-number.ensures ∙ ap (λ (xs : List (List ℕ)). length xs) (sym c.self.view_is) in
    let none : dimension_of c.self.inside.declared.items c.args.name.now ≡ None = ap (λ (xs : List (List ℕ)). dimension_of xs c.args.name.now) c.self.view_is ∙ c.requires in (
      (λ q. declared_last c.self.inside.declared.items c.args.name.now _ _ c.count-number.result (hash_map_updates_str c.args.name.now c.self.inside.index c.insert.new.self _ c.in-Ok.ensures.updates) n i.0 none q
          ∙ ap (λ (xs : List (List ℕ)). dimension_of xs q) (sym p)),
      omega (arith, c.in-Ok-push.ensures.len, n),
    )

pub invariant_of-self-in-Err-push : goal.invariant_of-self-in-Err-push
invariant_of-self-in-Err-push c =
    let i = c.self.invariant in
    let p = c.in-Err-push.ensures.items in
    let none : dimension_of c.self.inside.declared.items c.args.name.now ≡ None = ap (λ (xs : List (List ℕ)). dimension_of xs c.args.name.now) c.self.view_is ∙ c.requires in (
      (λ q. undeclared c.self.inside.declared.items c.args.name.now _ _ _ c.count-number.result (hash_map_updates_str c.args.name.now c.self.inside.index c.insert.new.self _ c.in-Ok.ensures.updates)
          (hash_map_updates_str c.args.name.now c.insert.new.self c.remove.new.self _ c.remove.ensures.updates) i.0 none q
          ∙ ap (λ (xs : List (List ℕ)). dimension_of xs q) (sym p)),
      omega (arith, ap (λ (xs : List (List ℕ)). length xs) p, i.1),
    )
