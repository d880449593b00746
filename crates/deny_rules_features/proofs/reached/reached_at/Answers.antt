use Rattle.std.proofs.Common.{Bor, Bool, option_map, sym, ap, ◌∙◌, subst}
use Rattle.std.proofs.lemmas.Result.{IfOk-weaker}
use Rattle.deny_krates.specs.Crates.{crate_view}
use Rattle.deny_krates.specs.krate.Krate.{Krate}
use Rattle.deny_base_lists.specs.TextMap.{TextFinMap}
use Rattle.deny_rules_features.specs.private.Reached.{AreReachedByTable, AreReachedAt}
use Rattle.deny_rules_features.proofs.ReachedAtLemmas.{reached_nowhere, reached_there}
use Rattle.deny_rules_features.proofs.reached.reached_at.Goals as goal

pub returns-in-Some : goal.returns-in-Some
returns-in-Some c =
    let g = c.args.krates.now in
    let krate = crate_view c.args.place c.in-Some.krate.now in
    let at = sym c.krate_at.ensures
    ∙ ap (option_map (λ (k : Bor Krate). crate_view c.args.place k.now)) c.in-Some.is in
    IfOk-weaker c.reached.result (AreReachedByTable krate.features c.args.listed.now)
    (AreReachedAt g c.args.place c.args.listed.now)
    (λ set are. reached_there g c.args.place c.args.listed.now set krate at are) c.reached.ensures

pub returns-in-None : goal.returns-in-None
returns-in-None c =
    let g = c.args.krates.now in
    let at = sym c.krate_at.ensures
    ∙ ap (option_map (λ (k : Bor Krate). crate_view c.args.place k.now)) c.in-None.is in
    subst (λ (set : TextFinMap Bool). AreReachedAt g c.args.place c.args.listed.now set) (sym c.new.ensures)
    (reached_nowhere g c.args.place c.args.listed.now at)
