use Rattle.std.proofs.Common.{◌≡◌, ◌∷◌, [], None, Some, rules, ◌∙◌}
use Rattle.std.specs.Prelude.{codes}
use Rattle.deny_cfg.specs.PolicyView.{policy_view}
use Rattle.deny_rules_match.specs.Matches.{ban_of}
use Rattle.deny_spec.specs.DiagParts.{primary}
use Rattle.deny_diags.proofs.ReportedLemmas.{wrapper_reported}
use Rattle.deny_diags.proofs.bans.wrapper_labels_at.Goals as goal

pub returns-in_default : goal.returns-in_default
returns-in_default c =
    let writer = c.args.writer.now in
    let key = c.args.key.now in
    c.new.ensures
    ∙ wrapper_reported (policy_view writer.ctx.cfg.now) writer.ctx.krates.now writer.ctx.cfg.now.file_id key.entry
    key.other c.ban-found.result.now None c.ban-found.ensures.ban c.ban-found.ensures.is c.in_default.ensures

pub returns : goal.returns
returns c =
    let writer = c.args.writer.now in
    let key = c.args.key.now in
    let found = c.ban-found.result.now in
    let wrapper = c.in-Some.wrapper in
    let file = writer.ctx.cfg.now.file_id in
    let labels : c.push.new.self ≡ primary file (ban_of found).spec.span (codes "banned here")
    ∷ primary file wrapper (codes "allowed wrapper") ∷ [] = search rules in
    labels
    ∙ wrapper_reported (policy_view writer.ctx.cfg.now) writer.ctx.krates.now file key.entry
    key.other found (Some wrapper) c.ban-found.ensures.ban c.ban-found.ensures.is c.in-Some.ensures
