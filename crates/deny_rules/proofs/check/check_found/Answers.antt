use Rattle.deny_rules.proofs.check.check_found.Goals as goal

pub returns-clause-checked : goal.returns-clause-checked
returns-clause-checked g c =
    let scan = c.in_ok-scan in
    let shown = c.in_ok-shown.ensures.checked in
    record {
      packages = scan.scan.packages;
      seen = scan.ensures.seen;
      causes = scan.ensures.causes;
      is = record {
        keys = shown.keys;
        listed = shown.listed;
        reported = shown.reported;
        hits = shown.hits;
        dup_edges = shown.dup_edges;
      };
    }
