-- The keys of the bans check and their messages depend neither on what a policy says of licences nor on which of its
-- waivers expired.
use Rattle.std.proofs.Common.{◌≡◌, List, Option, ap, refl}
use Rattle.std.specs.Prelude.{IsTrue}
use Rattle.deny_base.specs.declared.code.Code.{Code}
use Rattle.deny_base.specs.declared.code.Code.TheVariants as code
use Rattle.deny_base.specs.declared.code.DiagnosticCode.{DiagnosticCode}
use Rattle.deny_base.specs.declared.code.DiagnosticCode.TheVariants.{Deprecated, Bans, License, Expired}
use Rattle.deny_base.specs.declared.key.Key.{Key}
use Rattle.deny_spec.specs.Expired.{PastWaiver}
use Rattle.deny_spec.specs.Licensing.{Licensing}
use Rattle.deny_spec_report.specs.Circumstances.{Circumstances, licensed, with_expired}
use Rattle.deny_spec_report.specs.Codes.{is_of_bans}
use Rattle.deny_spec_report.specs.EachCode.{HoldsAs, message_as}
use Rattle.deny_spec_report.specs.Facts.{Facts}
use Rattle.deny_spec_report.specs.PackageDiags.{bypassed_by_glob_diag, checksum_match_diag, checksum_mismatch_diag}
use Rattle.deny_spec_report.specs.PackageDiags.{denied_by_extension_diag, detected_diag, features_enabled_diag}
use Rattle.deny_spec_report.specs.PackageDiags.{mismatch_note}
use Rattle.deny_spec_report.specs.PackageDiags.{path_bypassed_diag, script_denied_diag, unable_to_check_diag}
use Rattle.deny_spec_report.specs.PackageDiags.{unmatched_glob_diag, unmatched_path_diag}
use Rattle.deny_spec_report.specs.Holding.{HoldsBy, HoldsIn}
use Rattle.deny_spec_report.specs.Diags.{pack_of, key_pack, message_by}
use Rattle.deny_spec_report.proofs.Sections.{as_expired, not_licensed, not_of_bans}

module _ (c : Circumstances) (licensing : Option Licensing) (waivers : List PastWaiver) where
  -- the circumstances where the policy says something else of licences, and other waivers expired
  abbrev otherwise : Circumstances
  otherwise = with_expired (licensed c licensing) waivers

  -- these hold at each code by itself: a code that reads what is said of licences, or what expired, is refused here
  code_there : (d : Code) (facts : Facts) (key : Key) → HoldsAs d c facts key → HoldsAs d otherwise facts key
  code_there code.Banned facts key is = is
  code_there _ facts key is = is

  code_back : (d : Code) (facts : Facts) (key : Key) → HoldsAs d otherwise facts key → HoldsAs d c facts key
  code_back code.Banned facts key is = is
  code_back _ facts key is = is

  messages_alike : (d : Code) (key : Key) → message_as d otherwise key ≡ message_as d c key
  unfolding message_as script_denied_diag path_bypassed_diag bypassed_by_glob_diag checksum_match_diag
      checksum_mismatch_diag mismatch_note denied_by_extension_diag detected_diag unable_to_check_diag
      features_enabled_diag unmatched_path_diag unmatched_glob_diag
  messages_alike code.Banned key = refl
  messages_alike _ key = refl

  by_there : (d : DiagnosticCode) (facts : Facts) (key : Key) → IsTrue (is_of_bans key.section)
      → HoldsBy d c facts key → HoldsBy d otherwise facts key
  by_there Deprecated facts key mine is = is
  by_there (Bans d) facts key mine is = code_there d facts key is
  by_there (License d) facts key mine is = absurd (not_licensed d c.licensing c.graph key mine is)
  by_there Expired facts key mine is = absurd (not_of_bans key.section (as_expired c.expired key is) mine)

  by_back : (d : DiagnosticCode) (facts : Facts) (key : Key) → IsTrue (is_of_bans key.section)
      → HoldsBy d otherwise facts key → HoldsBy d c facts key
  by_back Deprecated facts key mine is = is
  by_back (Bans d) facts key mine is = code_back d facts key is
  by_back (License d) facts key mine is = absurd (not_licensed d licensing c.graph key mine is)
  by_back Expired facts key mine is = absurd (not_of_bans key.section (as_expired waivers key is) mine)

  by_alike : (d : DiagnosticCode) (facts : Facts) (key : Key) → IsTrue (is_of_bans key.section)
      → HoldsBy d c facts key → message_by d otherwise key ≡ message_by d c key
  by_alike Deprecated facts key mine is = refl
  by_alike (Bans d) facts key mine is = messages_alike d key
  by_alike (License d) facts key mine is = absurd (not_licensed d c.licensing c.graph key mine is)
  by_alike Expired facts key mine is = absurd (not_of_bans key.section (as_expired c.expired key is) mine)

  pub held_there : (facts : Facts) (key : Key) → HoldsIn is_of_bans c facts key
      → HoldsIn is_of_bans otherwise facts key
  held_there facts key is = (is.0, by_there key.code facts key is.0 is.1)

  pub held_back : (facts : Facts) (key : Key) → HoldsIn is_of_bans otherwise facts key
      → HoldsIn is_of_bans c facts key
  held_back facts key is = (is.0, by_back key.code facts key is.0 is.1)

  pub reported_alike : (facts : Facts) (key : Key) → HoldsIn is_of_bans c facts key
      → key_pack otherwise key ≡ key_pack c key
  reported_alike facts key is = ap (pack_of key) (by_alike key.code facts key is.0 is.1)
