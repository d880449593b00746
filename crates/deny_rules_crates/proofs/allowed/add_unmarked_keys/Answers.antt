use Rattle.std.proofs.Common.{◌++◌, List, not, filter, length, map, sym, ap, ◌∙◌}
use Rattle.std.proofs.lemmas.Result.{on_ok_weaker}
use Rattle.deny_base.specs.declared.code.Code.TheVariants.{NotAllowed}
use Rattle.deny_base.specs.declared.key.Key.{Key}
use Rattle.deny_base.specs.declared.span.Span.{Span}
use Rattle.deny_spec.specs.Keys.{crate_key}
use Rattle.deny_rules_match.specs.Marks.{mark_at}
use Rattle.deny_rules_crates.proofs.AllowedLemmas.{left_are}
use Rattle.deny_krates.proofs.PlaceLemmas.{length_of}
use Rattle.deny_rules_crates.proofs.allowed.add_unmarked_keys.Goals as goal

pub returns : goal.returns
returns c =
    let ks = c.krates.result.now in
    let crates = c.args.krates.now.crates in
    let left = left_are crates c.args.allowed.now c.args.exempt.now c.as_slice.result.now c.as_slice-3.result.now
    (length ks) c.are_placed.ensures (c.as_slice.ensures ∙ c.in_ok-all.ensures)
    (sym (length_of ks crates c.krates.ensures.crates))
    (c.as_slice-3.ensures ∙ (c.in_ok-left.ensures ∙ ap (filter
    (λ place. not (mark_at c.args.exempt.now place))) (c.as_slice-2.ensures ∙ c.in_ok-others.ensures))) in
    on_ok_weaker c.add_crate_keys.result
    (λ added. added
    ∙ (ap (λ (span : Span). c.args.keys.now
    ++ map (λ place. crate_key NotAllowed place span) c.as_slice-3.result.now) c.no_span.ensures
    ∙ ap (λ (keys : List Key). c.args.keys.now ++ keys) left)) c.add_crate_keys.ensures
