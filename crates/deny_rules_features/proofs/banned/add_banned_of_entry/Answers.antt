use Rattle.std.proofs.Common.{◌++◌, List, sym, ap, ◌∙◌, append-nil}
use Rattle.std.specs.List.{flat_map}
use Rattle.std.proofs.lemmas.Result.{on_ok_weaker}
use Rattle.deny_base.specs.declared.key.Key.{Key}
use Rattle.deny_spec.specs.Policy.{SpannedText}
use Rattle.deny_rules_features.specs.private.FeatureMatches.{entry_of}
use Rattle.deny_rules_features.specs.private.Keys.{banned_keys_at}
use Rattle.deny_rules_features.proofs.KeyLemmas.{banned_are, none_banned}
use Rattle.deny_rules_features.proofs.banned.add_banned_of_entry.Goals as goal

pub returns-then-found : goal.returns-then-found
returns-then-found c =
    sym (ap (λ (keys : List Key). c.args.keys.now ++ keys)
    (none_banned c.args.krates.now c.are_placed.ensures (entry_of c.args.found.now) c.if-found.true)
    ∙ append-nil c.args.keys.now)

pub returns : goal.returns
returns c =
    let g = c.args.krates.now in
    let e = entry_of c.args.found.now in
    let are = ap (λ (listed : List SpannedText). flat_map (banned_keys_at g listed) c.as_slice.result.now)
    c.as_slice-denied.ensures
    ∙ banned_are g c.are_placed.ensures e c.as_slice.result.now c.if-found.false
    (c.as_slice.ensures ∙ c.requires.places) in
    on_ok_weaker c.add_banned_crates.result
    (λ added. added ∙ ap (λ (keys : List Key). c.args.keys.now ++ keys) are) c.add_banned_crates.ensures
