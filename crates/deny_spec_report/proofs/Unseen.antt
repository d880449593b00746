-- Keys whose codes ask nothing of files hold, and have the same message, whatever was read of manifests and packages.
use Rattle.std.proofs.Common.{◌≡◌, List, refl}
use Rattle.std.specs.Prelude.{IsTrue}
use Rattle.deny_base.specs.Code.{asks_no_file}
use Rattle.deny_base.specs.declared.code.DiagnosticCode.{DiagnosticCode}
use Rattle.deny_base.specs.declared.code.DiagnosticCode.TheVariants.{Deprecated, Bans, License, Expired}
use Rattle.deny_base.specs.declared.key.Key.{Key}
use Rattle.deny_spec.specs.declared.package.Package.{Package}
use Rattle.deny_spec.specs.View.{View}
use Rattle.deny_spec_report.specs.Circumstances.{Circumstances, seen_anew}
use Rattle.deny_spec_report.specs.Facts.{Facts}
use Rattle.deny_spec_report.specs.Holding.{Holds, HoldsBy}
use Rattle.deny_spec_report.specs.Diags.{message_by, key_message}
use Rattle.deny_spec_report.proofs.EachCode.{code_back, code_there, messages_alike}

module _ (c : Circumstances) (view : View) (packages : List Package) where
  abbrev anew : Circumstances
  anew = seen_anew c view packages

  by_there : (d : DiagnosticCode) (facts : Facts) (key : Key) → IsTrue (asks_no_file d) → HoldsBy d c facts key
      → HoldsBy d anew facts key
  by_there Deprecated facts key free is = is
  by_there (Bans d) facts key free is = code_there c view packages d facts key free is
  by_there (License d) facts key free is = is
  by_there Expired facts key free is = is

  by_back : (d : DiagnosticCode) (facts : Facts) (key : Key) → IsTrue (asks_no_file d) → HoldsBy d anew facts key
      → HoldsBy d c facts key
  by_back Deprecated facts key free is = is
  by_back (Bans d) facts key free is = code_back c view packages d facts key free is
  by_back (License d) facts key free is = is
  by_back Expired facts key free is = is

  message_by_alike : (d : DiagnosticCode) (key : Key) → IsTrue (asks_no_file d)
      → message_by d anew key ≡ message_by d c key
  message_by_alike Deprecated key free = refl
  message_by_alike (Bans d) key free = messages_alike c view packages d key free
  message_by_alike (License d) key free = refl
  message_by_alike Expired key free = refl

  pub unseen_there : (facts : Facts) (key : Key) → IsTrue (asks_no_file key.code) → Holds c facts key
      → Holds anew facts key
  unseen_there facts key free is = by_there key.code facts key free is

  pub unseen_back : (facts : Facts) (key : Key) → IsTrue (asks_no_file key.code) → Holds anew facts key
      → Holds c facts key
  unseen_back facts key free is = by_back key.code facts key free is

  pub message_unseen : (key : Key) → IsTrue (asks_no_file key.code) → key_message anew key ≡ key_message c key
  message_unseen key free = message_by_alike key.code key free
