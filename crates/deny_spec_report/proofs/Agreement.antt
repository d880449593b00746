-- Two facts that are true in the same circumstances agree, so the same keys hold by either, code by code.
use Rattle.deny_base.specs.declared.code.DiagnosticCode.{DiagnosticCode}
use Rattle.deny_base.specs.declared.code.DiagnosticCode.TheVariants.{Deprecated, Bans, License, Expired}
use Rattle.deny_base.specs.declared.key.Key.{Key}
use Rattle.deny_spec_report.specs.Circumstances.{Circumstances}
use Rattle.deny_spec_report.specs.Facts.{Facts, AreFacts}
use Rattle.deny_spec_report.specs.Holding.{Holds, HoldsBy}
use Rattle.deny_spec_report.proofs.EachCode.{as_alike}

module _ (c : Circumstances) (these those : Facts) (left : AreFacts c these) (right : AreFacts c those) where
  by_alike : (d : DiagnosticCode) (key : Key) → HoldsBy d c these key → HoldsBy d c those key
  by_alike Deprecated key is = is
  by_alike (Bans d) key is = as_alike c these those left right d key is
  by_alike (License d) key is = is
  by_alike Expired key is = is

pub holds_alike : (c : Circumstances) (these those : Facts) (key : Key) → AreFacts c these → AreFacts c those
    → Holds c these key → Holds c those key
holds_alike c these those key left right is = by_alike c these those left right key.code key is
