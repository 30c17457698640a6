use Rattle.printable_fusing.proofs.Files.{fused_printable}
use Rattle.printable_fusing.proofs.laws.fused_files_are_printable.Goals as goal

pub returns : goal.returns
returns c = fused_printable
