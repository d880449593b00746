use Rattle.std.proofs.Common.{◌∙◌, ◌++◌, ◌∷◌, [], Bor, List, ap, append-nil, option_map, sym}
use Rattle.std.proofs.lemmas.Result.{on_ok_weaker}
use Rattle.deny_base.specs.declared.key.Key.{Key}
use Rattle.deny_cfg_build.specs.BuildingView.{building_view, bypass_view}
use Rattle.deny_cfg_build.specs.declared.valid.ValidBypass.{ValidBypass}
use Rattle.deny_spec_report.specs.BuildScripts.{required_enabled, used}
use Rattle.deny_base_lists.proofs.Members.{from_there}
use Rattle.deny_build.specs.private.ScannedKrates.{krate_of}
use Rattle.deny_build.proofs.KeyLemmas.{none_enabled, some_enabled}
use Rattle.deny_build.proofs.script_keys.add_enabled_key.Goals as goal

pub returns-then-not-has_required_enabled : goal.returns-then-not-has_required_enabled
returns-then-not-has_required_enabled c =
    let at = c.args.at.now in
    let b = building_view at.ctx.now.config.now in
    let known = from_there at.ctx.now.krates.now.crates at.place (krate_of at) at.placed in
    sym (append-nil c.args.keys.now)
    ∙ ap (λ (keys : List Key). c.args.keys.now ++ keys)
    (none_enabled at.place (used b (krate_of at)) (bypass_view c.in-Some.bypass.now) (required_enabled b (krate_of at))
    (sym at.uses ∙ ap (option_map (λ (y : Bor ValidBypass). bypass_view y.now)) c.in-Some.is)
    (sym (c.has_required_enabled.ensures at.place known) ∙ c.if-not-has_required_enabled.true))

pub returns : goal.returns
returns c =
    let at = c.args.at.now in
    let b = building_view at.ctx.now.config.now in
    let known = from_there at.ctx.now.krates.now.crates at.place (krate_of at) at.placed in
    on_ok_weaker c.push.result
    (λ added. added ∙ (ap (λ (key : Key). c.args.keys.now ++ key ∷ []) c.crate_key.ensures
    ∙ ap (λ (keys : List Key). c.args.keys.now ++ keys)
    (some_enabled at.place (used b (krate_of at)) (bypass_view c.in-Some.bypass.now) (required_enabled b (krate_of at))
    (sym at.uses ∙ ap (option_map (λ (y : Bor ValidBypass). bypass_view y.now)) c.in-Some.is)
    (sym (c.has_required_enabled.ensures at.place known) ∙ c.if-not-has_required_enabled.false))))
    c.push.ensures.ok
