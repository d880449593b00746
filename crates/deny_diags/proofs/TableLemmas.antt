-- No message of this table asks for a table of replacements.
use Rattle.std.proofs.Common.{◌≡◌, ap, List, map, refl, ℕ}
use Rattle.std.specs.Prelude.{IsTrue}
use Rattle.deny_base.specs.Code.{is_reported_here}
use Rattle.deny_base.specs.declared.code.Code.{Code}
use Rattle.deny_base.specs.declared.code.Code.TheVariants as code
use Rattle.deny_base.specs.declared.code.DiagnosticCode.{DiagnosticCode}
use Rattle.deny_base.specs.declared.code.DiagnosticCode.TheVariants.{Deprecated, Bans, License, Expired}
use Rattle.deny_base.specs.declared.key.Key.{Key}
use Rattle.deny_spec_report.specs.Circumstances.{Circumstances, tabled}
use Rattle.deny_spec_report.specs.EachCode.{message_as}
use Rattle.deny_spec_report.specs.PackageDiags.{bypassed_by_glob_diag, checksum_match_diag, checksum_mismatch_diag}
use Rattle.deny_spec_report.specs.PackageDiags.{denied_by_extension_diag, detected_diag, features_enabled_diag}
use Rattle.deny_spec_report.specs.PackageDiags.{mismatch_note, path_bypassed_diag, script_denied_diag}
use Rattle.deny_spec_report.specs.PackageDiags.{unable_to_check_diag, unmatched_glob_diag, unmatched_path_diag}
use Rattle.deny_spec_report.specs.Diags.{pack_of, key_pack, message_by}
use Rattle.deny_base_lists.proofs.Agreement.{map_on}
use Rattle.std.proofs.lemmas.List.Elements.{All-contains}
use Rattle.deny_diags.specs.Here.{AreReportedHere}

message_as_untabled : (d : Code) (c : Circumstances) (table : List ℕ) (key : Key) → IsTrue (is_reported_here (Bans d))
    → message_as d (tabled c table) key ≡ message_as d c key
unfolding message_as script_denied_diag path_bypassed_diag bypassed_by_glob_diag checksum_match_diag
    checksum_mismatch_diag mismatch_note denied_by_extension_diag detected_diag unable_to_check_diag
    features_enabled_diag unmatched_path_diag unmatched_glob_diag
message_as_untabled code.ReplacedInStd c table key here = absurd (cc here)
message_as_untabled code.UnmatchedReplacementIgnore c table key here = absurd (cc here)
message_as_untabled _ c table key here = refl

message_untabled : (d : DiagnosticCode) (c : Circumstances) (table : List ℕ) (key : Key) → IsTrue (is_reported_here d)
    → message_by d (tabled c table) key ≡ message_by d c key
message_untabled Deprecated c table key here = refl
message_untabled (Bans d) c table key here = message_as_untabled d c table key here
message_untabled (License d) c table key here = refl
message_untabled Expired c table key here = refl

pub reported_untabled : (c : Circumstances) (table : List ℕ) (keys : List Key) → AreReportedHere keys
    → map (key_pack (tabled c table)) keys ≡ map (key_pack c) keys
reported_untabled c table keys here = map_on (key_pack (tabled c table)) (key_pack c) keys
    (λ key is. ap (pack_of key) (message_untabled key.code c table key
    (All-contains (λ (k : Key). IsTrue (is_reported_here k.code)) keys key here is)))
