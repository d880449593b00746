-- Findings whose labels fit the lines.
use Rattle.std.specs.Prelude.{List}
use Rattle.deny_base.specs.declared.files.File.{File}
use Rattle.deny_gate_json.specs.Reading.{AreCounted}
use Rattle.deny_gate.specs.declared.report.Finding.{Finding}

-- the labels of a finding have numbers of 64 bits
unfoldable pub IsCounted : List File → Finding → Type 0
IsCounted files finding = AreCounted files finding.diag.diag.labels
