use Rattle.std.proofs.Common.{◌+◌, ◌++◌, ◌∷◌, [], List, Bool, take, sym, ap, ◌∙◌, subst}
use Rattle.std.specs.List.{AllZip}
use Rattle.deny_cfg.specs.SpecView.{spec_view}
use Rattle.deny_krates.proofs.GraphLemmas.{zip_more}
use Rattle.deny_rules_match.specs.private.Marks.{IsTreeOf}
use Rattle.deny_rules_match.specs.Matches.{spec_match}
use Rattle.deny_rules_match.specs.declared.entry_match.EntryMatch.{EntryMatch}
use Rattle.deny_rules_match.proofs.MatchLemmas.{map-step}
use Rattle.deny_rules_match.proofs.facts.trees_of.Goals as goal

pub tree_of-requires : goal.tree_of-requires
tree_of-requires c = c.as_slice.ensures ∙ ap (λ (m : EntryMatch). m.places) c.in_ok-root.ensures

pub loop-entry-preserved : goal.loop-entry-preserved
loop-entry-preserved c =
    let g = c.args.krates.now in
    let entries = c.args.entries.now in
    let i = c.loop-entry.entry-index in
    let entry = c.entry-item.result in
    record {
      trees = subst (λ (trees : List (List Bool)). AllZip (IsTreeOf g) (take (i + 1) entries) trees)
          (sym c.in_ok-push.ensures.ok)
          (zip_more (IsTreeOf g) entries c.loop-entry.trees i entry c.in_ok-tree_of.field-0 c.loop-entry-test.true
          c.entry-item.is c.loop-entry.invariant.trees c.in_ok-tree_of.ensures);
      roots = map-step (λ e. spec_match g (spec_view e.spec)) entries entry i c.loop-entry.roots _ _
          c.loop-entry-test.true c.entry-item.is
          (c.in_ok-push-2.ensures.ok ∙ ap (λ (m : EntryMatch). c.loop-entry.roots ++ m ∷ []) c.in_ok-root.ensures)
          c.loop-entry.invariant.roots;
    }
