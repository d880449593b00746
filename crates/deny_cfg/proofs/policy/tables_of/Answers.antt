use Rattle.std.proofs.Common.{subst}
use Rattle.deny_toml.specs.Faults.{Reports}
use Rattle.deny_cfg.specs.PolicyText.{faults_of_tree}
use Rattle.deny_cfg.proofs.LabelConfig.{config_are_labels}
use Rattle.deny_cfg.proofs.LabelLicenses.{licensing_are_labels}
use Rattle.deny_cfg.proofs.ReportedLaws.{lists_lie}
use Rattle.deny_cfg.proofs.PolicyLaws.{tree_listed}
use Rattle.deny_cfg.proofs.policy.tables_of.Goals as goal

pub returns-in-Ok-clause-says : goal.returns-in-Ok-clause-says
returns-in-Ok-clause-says c = record {
  utf8 = c.utf8.text;
  tree = c.in_ok-tree.tree;
  is_tree = c.in_ok-tree.ensures.tree;
  faultless = c.in-Ok.ensures.faultless;
  reads = c.in-Ok.ensures.bans;
  reads_licenses = c.in-Ok.ensures.licenses;
}

pub returns-in-Err-Faults-clause-faults : goal.returns-in-Err-Faults-clause-faults
returns-in-Err-Faults-clause-faults c =
    tree_listed c.args.today c.args.text.now c.in_ok-tree.tree c.in-Err-Faults.faults c.utf8.text c.in_ok-tree.ensures.tree
    (subst (Reports (faults_of_tree c.args.today c.in_ok-tree.tree)) c.in-Err-Faults.field-0-is c.in-Err-Faults.ensures.faults)

pub returns-in-Ok-clause-labels : goal.returns-in-Ok-clause-labels
returns-in-Ok-clause-labels c =
    config_are_labels c.args.text.now c.in_ok-tree.tree c.in-Ok.tables.bans c.in_ok-tree.ensures.tree c.in_ok-tree.ensures.holds
    c.in_ok-tree.ensures.apart c.in-Ok.ensures.bans

pub returns-in-Ok-clause-lists : goal.returns-in-Ok-clause-lists
returns-in-Ok-clause-lists c =
    lists_lie c.args.text.now c.in_ok-tree.tree c.in-Ok.tables.bans c.in_ok-tree.ensures.tree c.in_ok-tree.ensures.holds c.in-Ok.ensures.bans

pub returns-in-Ok-clause-licence_labels : goal.returns-in-Ok-clause-licence_labels
returns-in-Ok-clause-licence_labels c =
    licensing_are_labels c.args.text.now c.in_ok-tree.tree c.in-Ok.tables.licenses c.in_ok-tree.ensures.tree
    c.in_ok-tree.ensures.holds
    c.in_ok-tree.ensures.apart c.in-Ok.ensures.licenses
