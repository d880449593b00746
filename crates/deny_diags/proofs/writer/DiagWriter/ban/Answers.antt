use Rattle.std.proofs.Common.{List, ap, subst, sym, ◌∙◌}
use Rattle.std.specs.Prelude.{IsTrue, is_some}
use Rattle.deny_base.specs.declared.span.Span.{Span}
use Rattle.deny_cfg.specs.PolicyView.{policy_view}
use Rattle.deny_rules_match.specs.declared.matches.BanMatch.{BanMatch}
use Rattle.deny_diags_parts.specs.BySpan.{first_of}
use Rattle.deny_diags.specs.declared.entry_numbers.EntryList.TheVariants.{Deny}
use Rattle.deny_diags.specs.private.EntryNumbers.{AreNumbered}
use Rattle.deny_diags.proofs.ReportedLemmas.{ban_matched, ban_seen, ban_there}
use Rattle.deny_diags.proofs.writer.DiagWriter.ban.Goals as goal

pub first-requires : goal.first-requires
first-requires c =
    let self = c.args.self.now in
    let span_of : BanMatch → Span = λ m. m.ban.now.spec.name.span in
    record {
      numbered = subst (λ (ms : List BanMatch). AreNumbered span_of Deny ms self.numbers) (sym c.as_slice-bans.ensures)
          self.entries_numbered.deny;
      there = subst (λ (ms : List BanMatch). IsTrue (is_some (first_of span_of c.args.span ms)))
          (sym c.as_slice-bans.ensures)
          (ban_there (policy_view self.ctx.cfg.now) self.ctx.krates.now self.found.now.bans c.args.span
          self.bans_found c.requires);
    }

pub returns : goal.returns
returns c =
    let self = c.args.self.now in
    let p = policy_view self.ctx.cfg.now in
    let g = self.ctx.krates.now in
    let bans = self.found.now.bans in
    let span_of : BanMatch → Span = λ m. m.ban.now.spec.name.span in
    let at = sym (ap (first_of span_of c.args.span) c.as_slice-bans.ensures) ∙ c.first.ensures in
    record {
      ban = ban_seen p g bans c.args.span self.bans_found c.first.result.now at;
      is = ban_matched p g bans c.args.span self.bans_found c.first.result.now at;
    }
