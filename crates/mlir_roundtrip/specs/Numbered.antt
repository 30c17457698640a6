-- A file with the numbers of its canonical text.
use Rattle.std.specs.Prelude.{Option, Some, None}
use Rattle.script_read.specs.declared.script.Script.{Script}
use Rattle.script_roundtrip.specs.Renumbered as scripts
use Rattle.mlir_file.specs.declared.file.File.{File}
use Rattle.mlir_print.specs.Renumbered as modules

abbrev pub script_renumbered : Option Script → Option Script
script_renumbered None = None
script_renumbered (Some s) = Some (scripts.renumbered s)

abbrev pub renumbered : File → File
renumbered f = record { «module» = modules.renumbered f.module; script = script_renumbered f.script }
