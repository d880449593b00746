use Rattle.std.proofs.Common.{◌≡◌, ◌++◌, map, take}
use Rattle.deny_diags_build.specs.AtHand.{IsAtHand}
use Rattle.deny_spec_report.specs.Diags.{key_pack}
use Rattle.deny_diags.specs.private.DiagWriter.{circumstances_from}
use Rattle.deny_diags.proofs.diag.add_packs.Given as goal

abbrev pub invariant-loop-key : goal.invariant-loop-key
invariant-loop-key l = record {
  appended : l.sink ≡ l.fn.sink ++ map (key_pack (circumstances_from l.writer)) (take l.key-index l.keys);
  at_hand : IsAtHand l.writer.ctx.packages.now l.at.place l.at;
}
