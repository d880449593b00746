use Rattle.deny_rules.proofs.check.check.Goals as goal

pub check_found-requires : goal.check_found-requires
check_found-requires g c =
    let cfg = c.in_ok-found.ensures.cfg in
    let krates = c.in_ok-found.ensures.krates in
    record {
      table = rw (cfg) c.requires.table;
      spans = rw (krates) c.requires.spans;
      facts = c.in_ok-found.ensures.facts;
    }

pub returns : goal.returns
returns g c =
    let cfg = c.in_ok-found.ensures.cfg in
    let krates = c.in_ok-found.ensures.krates in
    record {
      checked = rw (← cfg, ← krates) c.check_found.ensures.checked;
      prefix = rw (← cfg, ← krates) c.check_found.ensures.prefix;
      caused = rw (← krates) c.check_found.ensures.caused;
      untouched = rw (← cfg) c.check_found.ensures.untouched;
      later = c.check_found.ensures.later;
    }
