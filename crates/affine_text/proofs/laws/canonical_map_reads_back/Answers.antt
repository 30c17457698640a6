use Rattle.affine_text.proofs.ReadsBack.{reads_back, read_answers}
use Rattle.affine_text.proofs.laws.canonical_map_reads_back.Goals as goal

pub returns-clause-map : goal.returns-clause-map
returns-clause-map c = reads_back

pub returns-clause-answer : goal.returns-clause-answer
returns-clause-answer c = read_answers
