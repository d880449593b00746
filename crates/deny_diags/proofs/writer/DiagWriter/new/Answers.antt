use Rattle.std.proofs.Common.{List, subst}
use Rattle.deny_rules_match.specs.declared.matches.BanMatch.{BanMatch}
use Rattle.deny_diags.specs.private.EntryNumbers.{NumbersEntries}
use Rattle.deny_diags.proofs.ReportedLemmas.{bans_of_reported, several_of_reported}
use Rattle.deny_diags.proofs.writer.DiagWriter.new.Goals as goal

pub invariant_of-result-clause-bans_found : goal.invariant_of-result-clause-bans_found
invariant_of-result-clause-bans_found c =
    let found = c.args.found.now in
    bans_of_reported found.cfg.now c.args.ctx.cfg.now found.krates.now c.args.ctx.krates.now found.bans c.requires.cfg
    c.requires.krates found.bans_found

pub invariant_of-result-clause-several_marked : goal.invariant_of-result-clause-several_marked
invariant_of-result-clause-several_marked c =
    let found = c.args.found.now in
    several_of_reported found.cfg.now c.args.ctx.cfg.now found.krates.now c.args.ctx.krates.now found.several
    c.requires.cfg c.requires.krates found.several_marked

pub invariant_of-result-clause-entries_numbered : goal.invariant_of-result-clause-entries_numbered
invariant_of-result-clause-entries_numbered c =
    subst (λ (bans : List BanMatch). NumbersEntries c.args.ctx.cfg.now bans c.in_ok-of_policy.field-0)
    c.as_slice-2.ensures c.in_ok-of_policy.ensures
