-- Findings as they are taken from packs.
use Rattle.std.specs.Prelude.{List, Option, map}
use Rattle.deny_base.specs.declared.check.Check.{Check}
use Rattle.deny_base.specs.declared.finding.Diag.{Diag}
use Rattle.deny_base.specs.declared.finding.Pack.{Pack}
use Rattle.deny_base.specs.declared.span.Kid.{Kid}
use Rattle.deny_gate.specs.declared.report.Finding.{Finding}

abbrev pub finding_of : Check → Option Kid → Diag → Finding
finding_of check kid diag = record { check = check; kid = kid; diag = diag }

-- the findings of a pack
unfoldable pub findings_of : Pack → List Finding
findings_of pack = map (finding_of pack.check pack.kid) pack.diags
