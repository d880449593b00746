-- The message, the diagnostic and the pack of a key, by its code.
use Rattle.std.specs.Prelude.{[], ◌∷◌, Some}
use Rattle.deny_base.specs.declared.check.Check.{Check}
use Rattle.deny_base.specs.declared.check.Check.TheVariants as check
use Rattle.deny_base.specs.declared.code.DiagnosticCode.{DiagnosticCode}
use Rattle.deny_base.specs.declared.code.DiagnosticCode.TheVariants.{Deprecated, Bans, License, Expired}
use Rattle.deny_base.specs.declared.finding.Diag.{Diag}
use Rattle.deny_base.specs.declared.finding.Pack.{Pack}
use Rattle.deny_base.specs.declared.key.Key.{Key}
use Rattle.deny_spec_report.specs.Circumstances.{Circumstances}
use Rattle.deny_spec_report.specs.EachCode.{message_as, message_licensed}
use Rattle.deny_spec_report.specs.Expired.{expired_diag}
use Rattle.deny_spec_report.specs.PackageDiags.{deprecated_diag}
use Rattle.deny_spec_report.specs.declared.message.Message.{Message}

abbrev pub message_by : DiagnosticCode → Circumstances → Key → Message
message_by Deprecated c key = deprecated_diag c.files.policy key
message_by (Bans code) c key = message_as code c key
message_by (License code) c key = message_licensed code c.licensing c.graph c.files.policy key
message_by Expired c key = expired_diag c.expired c.files.policy key

-- the diagnostic of a key with a message
unfoldable pub diag_of : Key → Message → Diag
diag_of key diag = record {
  key = key;
  diag = record {
    severity = diag.severity;
    code = Some key.code;
    message = diag.message;
    labels = diag.labels;
    notes = diag.notes;
  };
  graph_nodes = diag.nodes;
  with_features = diag.with_features;
}

abbrev pub check_of_code : DiagnosticCode → Check
check_of_code Deprecated = check.Bans
check_of_code (Bans code) = check.Bans
check_of_code (License code) = check.Licenses
check_of_code Expired = check.Bans

-- the pack of a key: its one diagnostic
unfoldable pub pack_of : Key → Message → Pack
pack_of key diag = record { check = check_of_code key.code; kid = diag.krate; diags = diag_of key diag ∷ [] }

-- the message of a key in circumstances, and below, its diagnostic and its pack
abbrev pub key_message : Circumstances → Key → Message
key_message c key = message_by key.code c key

abbrev pub key_diag : Circumstances → Key → Diag
key_diag c key = diag_of key (key_message c key)

abbrev pub key_pack : Circumstances → Key → Pack
key_pack c key = pack_of key (key_message c key)
