use Rattle.script_roundtrip.proofs.Laws.{canonical_stands, read_stands, stands_for_one}
use Rattle.script_roundtrip.proofs.law.canonical_text_reads_back.Goals as goal

pub returns-clause-printable : goal.returns-clause-printable
returns-clause-printable c = canonical_stands

pub returns-clause-read : goal.returns-clause-read
returns-clause-read c = read_stands

pub returns-clause-one : goal.returns-clause-one
returns-clause-one c = stands_for_one
