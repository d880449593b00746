use Rattle.std.proofs.Common.{◌++◌, List, map, ap, ◌∙◌, subst}
use Rattle.std.specs.List.{AllZip}
use Rattle.deny_cfg.specs.SpecView.{spec_view}
use Rattle.deny_rules_match.specs.private.Marks.{IsTreeOf}
use Rattle.deny_rules_match.specs.Matches.{spec_match}
use Rattle.deny_rules_match.specs.declared.entry_match.EntryMatch.{EntryMatch}
use Rattle.deny_rules_match.proofs.FactLemmas.{in_trees}
use Rattle.deny_rules_match.proofs.MatchLemmas.{roots_are}
use Rattle.deny_rules_match.proofs.facts.marks_of.Goals as goal

pub returns-clause-facts : goal.returns-clause-facts
returns-clause-facts c =
    let g = c.args.krates.now in
    record {
      counts = c.in_ok-counts.ensures.each;
      in_tree = in_trees g c.args.cfg.now.tree_skipped c.in_ok-trees.trees
          (subst (λ es. AllZip (IsTreeOf g) es c.in_ok-trees.trees) c.as_slice.ensures c.in_ok-trees.ensures.trees);
    }

pub returns-clause-roots : goal.returns-clause-roots
returns-clause-roots c =
    let g = c.args.krates.now in
    let entries = c.args.cfg.now.tree_skipped in
    c.in_ok-trees.ensures.roots
    ∙ (ap (λ (es : List _). c.args.roots.now ++ map (λ e. spec_match g (spec_view e.spec)) es) c.as_slice.ensures
    ∙ ap (λ (ms : List EntryMatch). c.args.roots.now ++ ms) (roots_are g 0 entries))
