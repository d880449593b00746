use Rattle.std.proofs.Common.{◌++◌, List, ap, inr, refl, subst, sym, ◌∙◌}
use Rattle.std.specs.Prelude.{map, option_copied}
use Rattle.deny_base_lists.proofs.Results.{on_err_always}
use Rattle.deny_base.specs.declared.key.Key.{Key}
use Rattle.deny_spec.specs.declared.package.Package.{Package}
use Rattle.deny_spec_report.specs.Circumstances.{Circumstances, tabled}
use Rattle.deny_spec_report.specs.Facts.{Facts}
use Rattle.deny_spec_report.specs.Saying.{bytes_of}
use Rattle.deny_spec_report.specs.Diags.{key_pack}
use Rattle.deny_rules_dup_edges.specs.DupEdges.{ShowsEach}
use Rattle.deny_diags.specs.Reporting.{CanAllHold, ReportsPrefix}
use Rattle.deny_diags_parts.specs.Context.{circumstances_by}
use Rattle.deny_rules.specs.private.OfPackages.{facts_by}
use Rattle.deny_rules.proofs.CheckLemmas.{both_reported, first_cut, found_of, same_duplicates, second_cut}
use Rattle.deny_rules.proofs.CheckLemmas.{holding_by_rules, reported_by_rules}
use Rattle.deny_rules.proofs.OwnRuleLemmas.{lists_own}
use Rattle.deny_rules.proofs.StdLemmas.{std_ordered}
use Rattle.deny_rules.proofs.check.report_keys.Goals as goal

pub report_all-requires : goal.report_all-requires
report_all-requires c =
    let found = c.args.found.now in
    let spans = c.args.spans.now in
    let scan = c.args.scan.now in
    let seen : Circumstances = circumstances_by found.cfg.now found.krates.now spans scan.packages in
    let facts : Facts = facts_by found.marks scan.reached.items in
    record {
      reported_here = reported_by_rules seen facts c.args.rules.now c.requires.rules;
      hold = subst (λ (ps : List Package). CanAllHold (circumstances_by found.cfg.now found.krates.now spans ps)
          c.args.rules.now) (sym c.as_slice-packages.ensures)
          (holding_by_rules seen facts c.args.rules.now c.requires.rules);
      spans = c.requires.spans;
      uses = c.requires.uses;
    }

pub returns-clause-checked : goal.returns-clause-checked
returns-clause-checked c =
    let found = c.args.found.now in
    let spans = c.args.spans.now in
    let scan = c.args.scan.now in
    let seen : Circumstances = circumstances_by found.cfg.now found.krates.now spans scan.packages in
    let table = bytes_of (option_copied c.args.table) in
    let d : Circumstances = tabled seen table in
    let facts : Facts = facts_by found.marks scan.reached.items in
    let rules = c.args.rules.now in
    let listed = c.requires.rules in
    let std = c.in_ok-report_replaced.ensures.reported d refl
    (found_of d found.cfg.now.file_id c.in_ok-replaced.replaced refl
    c.in_ok-replaced.ensures) in
    record {
      keys = rules ++ std.keys;
      listed = record {
        facts = facts;
        true_facts = record { chains = c.requires.facts; reached = c.requires.reached.each };
        listed = lists_own d facts rules std.keys listed std.listed;
      };
      reported = both_reported seen table rules (reported_by_rules d facts rules listed) std.keys
          c.args.sink.now c.report_all.new.sink c.report_replaced.new.sink
          (c.in_ok-report_all.ensures.ok ∙ ap (λ (ps : List Package). c.args.sink.now
          ++ map (key_pack (circumstances_by found.cfg.now found.krates.now spans ps)) rules)
          c.as_slice-packages.ensures)
          std.reported;
      hits = c.in_ok-hits.ensures d c.in_ok-replaced.ensures;
      dup_edges = subst (λ (ks : List Key). ShowsEach d.policy d.graph ks c.in_ok-dup_edges.dup_edges)
          (same_duplicates d rules std.keys std.listed)
          c.in_ok-dup_edges.ensures;
    }

pub returns-in_err-report_all-clause-prefix : goal.returns-in_err-report_all-clause-prefix
returns-in_err-report_all-clause-prefix c =
    let found = c.args.found.now in
    let spans = c.args.spans.now in
    let scan = c.args.scan.now in
    let seen : Circumstances = circumstances_by found.cfg.now found.krates.now spans scan.packages in
    let table = bytes_of (option_copied c.args.table) in
    let d : Circumstances = tabled seen table in
    let facts : Facts = facts_by found.marks scan.reached.items in
    let rules = c.args.rules.now in
    let listed = c.requires.rules in
    let std = std_ordered d in
    on_err_always c.from_residual-in_err-report_all.result (inr (record {
      keys = rules ++ std.list;
      listed = record {
        facts = facts;
        true_facts = record { chains = c.requires.facts; reached = c.requires.reached.each };
        listed = lists_own d facts rules std.list listed std.listed;
      };
      reported = first_cut seen table rules (reported_by_rules d facts rules listed) std.list
          c.args.sink.now c.report_all.new.sink
          (subst (λ (ps : List Package). ReportsPrefix (circumstances_by found.cfg.now found.krates.now spans ps)
          rules c.args.sink.now c.report_all.new.sink) c.as_slice-packages.ensures
          c.in_err-report_all.ensures.prefix);
    }))

pub returns-in_err-report_replaced-clause-prefix : goal.returns-in_err-report_replaced-clause-prefix
returns-in_err-report_replaced-clause-prefix c =
    let found = c.args.found.now in
    let spans = c.args.spans.now in
    let scan = c.args.scan.now in
    let seen : Circumstances = circumstances_by found.cfg.now found.krates.now spans scan.packages in
    let table = bytes_of (option_copied c.args.table) in
    let d : Circumstances = tabled seen table in
    let facts : Facts = facts_by found.marks scan.reached.items in
    let rules = c.args.rules.now in
    let listed = c.requires.rules in
    let std = c.in_err-report_replaced.ensures.prefix d refl
    (found_of d found.cfg.now.file_id c.in_ok-replaced.replaced refl c.in_ok-replaced.ensures) in
    on_err_always c.from_residual-in_err-report_replaced.result (inr (record {
      keys = rules ++ std.keys;
      listed = record {
        facts = facts;
        true_facts = record { chains = c.requires.facts; reached = c.requires.reached.each };
        listed = lists_own d facts rules std.keys listed std.listed;
      };
      reported = second_cut seen table rules (reported_by_rules d facts rules listed) std.keys std.number
          c.args.sink.now c.report_all.new.sink c.report_replaced.new.sink
          (c.in_ok-report_all.ensures.ok ∙ ap (λ (ps : List Package). c.args.sink.now
          ++ map (key_pack (circumstances_by found.cfg.now found.krates.now spans ps)) rules)
          c.as_slice-packages.ensures)
          std.reported;
    }))
