use Rattle.std.proofs.Common.{ap, ◌∙◌}
use Rattle.serde_json.specs.Data.{object}
use Rattle.serde_json.specs.Written.{has_float}
use Rattle.deny_gate_json.proofs.FloatLemmas.{in_fields_after_code}
use Rattle.deny_gate_json.proofs.lines.write_rest.Goals as goal

pub write_value-requires : goal.write_value-requires
write_value-requires c =
    ap has_float (c.from-fields.ensures ∙ ap object c.in_ok-fields_from_labels.ensures.fields)
    ∙ in_fields_after_code c.args.files.now c.args.diagnostic.now
