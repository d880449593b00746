use Rattle.std.proofs.Common.{List, ◌∙◌, subst}
use Rattle.deny_cfg.specs.PolicyView.{ban_view}
use Rattle.deny_spec.specs.Policy.{SpannedText}
use Rattle.deny_rules_match.specs.Wrappers.{AreFirstSpans}
use Rattle.deny_rules_match.proofs.MatchLemmas.{concerned_are}
use Rattle.deny_rules_match.proofs.matches.ban_match.Goals as goal

pub returns-clause-is : goal.returns-clause-is
unfolding AreFirstSpans
returns-clause-is c = λ p exempt_is.
    let ban = ban_view c.args.ban.now in
    record {
      places = c.in_ok-places.ensures
          ∙ concerned_are p c.args.krates.now ban c.args.exempt.now c.are_placed.ensures exempt_is;
      first = subst (λ (ws : List SpannedText). AreFirstSpans ws c.in_ok-spans.spans) c.wrappers_of.ensures
          c.in_ok-spans.ensures;
    }
