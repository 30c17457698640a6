-- What `clap` finds by an id, a name or a place in the built command.
use Rattle.std.proofs.Common.{◌≡◌, ◌||◌, ℕ, Bool, cond, true, false, refl, List, [], ◌∷◌, Some, None, option_map, codes}
use Rattle.std.specs.Str.{bytes_eq}
use Rattle.clap.specs.Words.{Rule, Text, built}
use Rattle.clap.specs.Walk.{arg_by_id, arg_by_index, arg_by_long, arg_by_short}
use Rattle.clap.specs.Simple.{filled, with_index}
use Rattle.mlir_words.specs.Asked.{Part, transform_interpreter, lower, run, input, workers, sample, file, option_named}
use Rattle.mlir_words.specs.App.{flag_rule, option_rule, file_rule, the_app}

abbrev pub id_of : Part → Text
id_of transform_interpreter = codes "transform-interpreter"
id_of lower = codes "lower"
id_of run = codes "run"
id_of input = codes "input"
id_of workers = codes "workers"
id_of sample = codes "sample"
id_of file = codes "file"

abbrev pub rule_for : Part → Rule
rule_for transform_interpreter = filled (flag_rule (codes "transform-interpreter"))
rule_for lower = filled (option_rule (codes "lower"))
rule_for run = filled (option_rule (codes "run"))
rule_for input = filled (option_rule (codes "input"))
rule_for workers = filled (option_rule (codes "workers"))
rule_for sample = filled (option_rule (codes "sample"))
rule_for file = with_index 1 (filled file_rule)

-- the arguments of the built command
abbrev pub rules : List Rule
rules = rule_for transform_interpreter ∷ rule_for lower ∷ rule_for run ∷ rule_for input ∷ rule_for workers ∷ rule_for sample ∷ rule_for file ∷ []

pub built_rules : (built the_app).top.rules ≡ rules
built_rules = refl

pub by_id : (p : Part) → arg_by_id rules (id_of p) ≡ Some (rule_for p)
by_id transform_interpreter = refl
by_id lower = refl
by_id run = refl
by_id input = refl
by_id workers = refl
by_id sample = refl
by_id file = refl

pub by_short : (x : ℕ) → arg_by_short rules x ≡ None
by_short x = refl

pub first_place : arg_by_index rules 1 ≡ Some (rule_for file)
first_place = refl

pub second_place : arg_by_index rules 2 ≡ None
second_place = refl

pub by_long : (name : Text) → arg_by_long rules name ≡ option_map rule_for (option_named name)
by_long name = go (bytes_eq (codes "transform-interpreter") name) (bytes_eq (codes "lower") name) (bytes_eq (codes "run") name)
    (bytes_eq (codes "input") name) (bytes_eq (codes "workers") name) (bytes_eq (codes "sample") name)
  where
    go : (a b c d e f : Bool) → cond (a || false) (Some (rule_for transform_interpreter)) (cond (b || false) (Some (rule_for lower)) (cond (c || false) (Some (rule_for run))
        (cond (d || false) (Some (rule_for input)) (cond (e || false) (Some (rule_for workers)) (cond (f || false) (Some (rule_for sample)) None)))))
        ≡ option_map rule_for (cond a (Some transform_interpreter) (cond b (Some lower) (cond c (Some run) (cond d (Some input) (cond e (Some workers) (cond f (Some sample) None))))))
    go true b c d e f = refl
    go false true c d e f = refl
    go false false true d e f = refl
    go false false false true e f = refl
    go false false false false true f = refl
    go false false false false false true = refl
    go false false false false false false = refl
