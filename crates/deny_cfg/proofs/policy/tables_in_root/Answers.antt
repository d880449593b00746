use Rattle.std.proofs.Common.{ap}
use Rattle.deny_cfg.proofs.RootLaws.{both_kept, licensing_given}
use Rattle.deny_cfg.proofs.policy.tables_in_root.Goals as goal

pub returns-clause-licenses : goal.returns-clause-licenses
returns-clause-licenses c =
    licensing_given c.args.root.now.entries _ (ap (λ r. r.entries) c.in_ok-bans.ensures.kept)
    c.in_ok-licenses.licenses c.in_ok-licenses.ensures.ok

pub returns-clause-kept : goal.returns-clause-kept
returns-clause-kept c =
    both_kept c.args.root.now.entries _ (ap (λ r. r.entries) c.in_ok-bans.ensures.kept) c.args.root.now.faults _ _
    (ap (λ r. r.faults) c.in_ok-bans.ensures.kept) (ap (λ r. r.faults) c.in_ok-licenses.ensures.kept)
