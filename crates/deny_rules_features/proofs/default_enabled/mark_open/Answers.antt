use Rattle.std.proofs.Common.{rules, sym, ◌∙◌}
use Rattle.deny_rules_features.specs.private.FeatureMatches.{entry_of}
use Rattle.deny_rules_features.proofs.KeyLemmas.{marks_nothing, marks_open}
use Rattle.deny_rules_features.proofs.default_enabled.mark_open.Goals as goal

pub returns-then-not-leaves_open : goal.returns-then-not-leaves_open
returns-then-not-leaves_open c =
    marks_nothing c.args.krates.now.crates (entry_of c.args.found.now) c.args.marks.now
    (sym c.leaves_open.ensures ∙ search rules)

pub returns : goal.returns
returns c =
    marks_open c.args.krates.now.crates (entry_of c.args.found.now) c.args.marks.now c.mark_matched.new.marks
    (sym c.leaves_open.ensures ∙ search rules) c.mark_matched.ensures
