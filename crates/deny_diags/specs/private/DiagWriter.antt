-- The circumstances that findings are made from.
use Rattle.deny_spec_report.specs.Circumstances.{Circumstances}
use Rattle.deny_diags_parts.specs.Context.{circumstances_from as circumstances_in}
use Rattle.deny_diags.specs.declared.writer.DiagWriter.{DiagWriter}

abbrev pub circumstances_from : DiagWriter → Circumstances
circumstances_from writer = circumstances_in writer.ctx
