use Rattle.std.proofs.Common.{◌≡◌, drop}
use Rattle.form_resolve.specs.Resolving.{behind_values, resolved, nothing_seen}
use Rattle.form_resolve.proofs.resolve.resolve_parts.Given as goal

abbrev pub invariant-loop-want : goal.invariant-loop-want
invariant-loop-want l = behind_values l.values (resolved l.aliases l.names (drop l.want-index l.wants) l.left_out l.seen (drop l.taken l.parts)) ≡ resolved l.aliases l.names l.wants 0 nothing_seen l.parts
