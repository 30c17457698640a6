-- What a script's tree stands for, or its first fault: one chain in the order of the tokens.
-- Handles are numbered 0, 1 and so on in the order in which they are defined.
use Rattle.std.specs.Prelude.{ℕ, zero, suc, ◌-◌, Bool, true, false, ◌&&◌, List, [], ◌∷◌, length, Result, Ok, Err, nat_eq, nat_le, nat_lt}
use Rattle.text_format.specs.Token.{TokenShape}
use Rattle.mlir_base.specs.declared.limit.Which.TheVariants as limits
use Rattle.mlir_lex.specs.declared.fault.Fault.{Fault}
use Rattle.mlir_lex.specs.declared.fault.Fault.TheVariants.{Syntax, Number, Limit}
use Rattle.mlir_lex.specs.Chain.{and_then, demand, thread}
use Rattle.script_syntax.specs.declared.tree.steps.VectorizeStep.{VectorizeStep}
use Rattle.script_syntax.specs.declared.tree.results.NextResult.{NextResult}
use Rattle.script_syntax.specs.declared.tree.results.NextType.{NextType}
use Rattle.script_syntax.specs.declared.tree.results.ManyResults.{ManyResults}
use Rattle.script_syntax.specs.declared.tree.results.GroupTypes.{GroupTypes}
use Rattle.script_syntax.specs.declared.tree.results.GroupTypes.TheVariants as types
use Rattle.script_syntax.specs.declared.tree.results.GroupStep.{GroupStep}
use Rattle.script_syntax.specs.declared.tree.results.GroupStep.TheVariants as grouped
use Rattle.script_syntax.specs.declared.tree.results.Group.{Group}
use Rattle.script_syntax.specs.declared.tree.results.Further.{Further}
use Rattle.script_syntax.specs.declared.tree.results.BehindThird.{BehindThird}
use Rattle.script_syntax.specs.declared.tree.results.BehindThird.TheVariants as third_rest
use Rattle.script_syntax.specs.declared.tree.results.BehindSecond.{BehindSecond}
use Rattle.script_syntax.specs.declared.tree.results.BehindSecond.TheVariants as second_rest
use Rattle.script_syntax.specs.declared.tree.results.BehindFirst.{BehindFirst}
use Rattle.script_syntax.specs.declared.tree.results.BehindFirst.TheVariants as first_rest
use Rattle.script_syntax.specs.declared.tree.lines.NamedStep.{NamedStep}
use Rattle.script_syntax.specs.declared.tree.lines.Line.{Line}
use Rattle.script_syntax.specs.declared.tree.lines.Line.TheVariants as lines
use Rattle.script_syntax.specs.declared.tree.lines.Sequence.{Sequence}
use Rattle.script_read.specs.declared.script.HandleId.{HandleId}
use Rattle.script_read.specs.declared.script.StepKind.{StepKind}
use Rattle.script_read.specs.declared.script.Step.{Step}
use Rattle.script_read.specs.declared.script.Script.{Script}
use Rattle.script_read.specs.declared.names.Scope.{Scope}
use Rattle.script_read.specs.Names.{Entry}
use Rattle.script_read.specs.Numbers.{number_of}
use Rattle.script_read.specs.Scope.{handle_id, fresh, with_handle, with_group, define, define_each}
use Rattle.script_read.specs.Kinds.{one_name, one_of, two_name, two_of, three_name, three_of, many_name, many_of, fuse_of, pad_of, tile_forall_of, vectorize_of}

-- ---- a step, behind its results

-- one more step is within the limit
abbrev pub room : ℕ → TokenShape → Result (Unit {0}) Fault
room steps name = demand (nat_lt steps 1024) (Limit limits.ScriptSteps name.start)

-- handles, so many, from this number on
abbrev pub ids : ℕ → ℕ → List HandleId
ids first zero = []
ids first (suc n) = handle_id first ∷ ids (suc first) n

abbrev pub counted : Scope → Scope
counted d = record { env = d.env; next = d.next; steps = suc d.steps }

-- a step whose results are the handles from `first` on
abbrev pub finished : ℕ → Scope → TokenShape → Result StepKind Fault → Result (Scope × Step) Fault
finished first d name kind = and_then (room d.steps name) (λ _. and_then kind (λ k. Ok (counted d, record { results = ids first (d.next - first); kind = k })))

-- ---- results that are listed

-- one type for each of the results from the fifth on; `close` ends the types
abbrev pub paired : TokenShape → List NextResult → List NextType → Result (Unit {0}) Fault
paired close [] [] = Ok tt
paired close [] (t ∷ ts) = Err (Syntax t.comma.start)
paired close (n ∷ ns) [] = Err (Syntax close.start)
paired close (n ∷ ns) (t ∷ ts) = paired close ns ts

abbrev pub further_of : ℕ → Scope → Further → Result (Scope × Step) Fault
further_of first s f =
    and_then (define s f.name) (λ c. and_then (define_each c f.names) (λ d.
    and_then (finished first d (many_name f.step) (many_of d.env first f.step)) (λ r.
    and_then (paired f.types.close f.names f.types.more) (λ _. Ok r))))

abbrev pub behind_third_of : ℕ → Scope → BehindThird → Result (Scope × Step) Fault
behind_third_of first d (third_rest.Step s) = finished first d (three_name s) (three_of d.env first s)
behind_third_of first d (third_rest.More f) = further_of first d f

abbrev pub behind_second_of : ℕ → Scope → BehindSecond → Result (Scope × Step) Fault
behind_second_of first d (second_rest.Step s) = finished first d (two_name s) (two_of d.env first s)
behind_second_of first d (second_rest.More t) = and_then (define d t.name) (λ e. behind_third_of first e t.rest)

-- ---- results with one name

abbrev pub group_name : GroupStep → TokenShape
group_name (grouped.TileForall s) = s.name
group_name (grouped.FuseInto s) = s.name
group_name (grouped.Pad s) = s.name
group_name (grouped.Many s t) = many_name s

abbrev pub types_count : GroupTypes → ℕ
types_count (types.One t) = 1
types_count (types.Several m) = suc (suc (length m.more))

-- how many results the step's text shows
abbrev pub group_count : GroupStep → ℕ
group_count (grouped.TileForall s) = 2
group_count (grouped.FuseInto s) = 2
group_count (grouped.Pad s) = 3
group_count (grouped.Many s t) = types_count t

abbrev pub types_end : GroupTypes → TokenShape
types_end (types.One t) = t
types_end (types.Several m) = m.close

-- the token that shows that there are no more
abbrev pub group_end : GroupStep → TokenShape
group_end (grouped.TileForall s) = s.name
group_end (grouped.FuseInto s) = s.name
group_end (grouped.Pad s) = s.name
group_end (grouped.Many s t) = types_end t

abbrev pub is_count_by : Bool → ℕ → ℕ → Bool
is_count_by true shown n = nat_eq n shown
is_count_by false shown n = nat_le shown n

-- The number of results that is written before a step: above one, and as many as there are. Where reading stopped before
-- all of them were shown, there are at least so many. Tokens that stand at `until` or behind it were not read.
abbrev pub is_count : ℕ → ℕ → GroupStep → Bool
is_count until n g = nat_lt 1 n && is_count_by (nat_lt (group_end g).start until) (group_count g) n

abbrev pub group_step_of : List Entry → ℕ → GroupStep → Result StepKind Fault
group_step_of env next (grouped.TileForall s) = tile_forall_of env next s
group_step_of env next (grouped.FuseInto s) = fuse_of env next s
group_step_of env next (grouped.Pad s) = pad_of env next s
group_step_of env next (grouped.Many s t) = many_of env next s

abbrev pub group_of : ℕ → Scope → TokenShape → Group → Result (Scope × Step) Fault
group_of until s name g =
    and_then (fresh s.env name) (λ _. and_then (demand (is_count until (number_of g.count.text) g.step) (Number g.count.start g.count.start)) (λ _.
    let d = with_group s name.text (group_count g.step) in finished s.next d (group_name g.step) (group_step_of d.env s.next g.step)))

-- ---- lines

abbrev pub behind_first_of : ℕ → Scope → TokenShape → BehindFirst → Result (Scope × Step) Fault
behind_first_of until s name (first_rest.Step x) = and_then (define s name) (λ d. finished s.next d (one_name x) (one_of d.env s.next x))
behind_first_of until s name (first_rest.More x) = and_then (define s name) (λ d. and_then (define d x.name) (λ e. behind_second_of s.next e x.rest))
behind_first_of until s name (first_rest.Group g) = group_of until s name g

abbrev pub vectorized : Scope → VectorizeStep → Result (Scope × Step) Fault
vectorized s v = finished s.next s v.name (vectorize_of s.env s.next v)

abbrev pub line_of : ℕ → Scope → Line → Result (Scope × Step) Fault
line_of until s (lines.Named n) = behind_first_of until s n.first n.rest
line_of until s (lines.Vectorize v) = vectorized s v

-- ---- scripts

-- the root is handle 0
abbrev pub start : List ℕ → Scope
start root = with_handle (record { env = []; next = 0; steps = 0 }) root

abbrev pub resolve : Sequence → Result Script Fault
resolve q = and_then (thread (line_of q.end.start) (start q.root.text) q.lines) (λ r. Ok (record { root = handle_id 0; steps = r.1 }))
