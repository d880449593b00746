use Rattle.std.proofs.Common.{◌≡◌, ◌∙◌, List, Option, ap, subst}
use Rattle.std.specs.Prelude.{◌&&◌, IfOk, find, option_map}
use Rattle.semver.specs.Parse.{Held}
use Rattle.deny_spans_manifest.specs.Found.{held_spanned, requirement_read}
use Rattle.deny_spec.specs.Graph.{Crate}
use Rattle.deny_spec.specs.Groups.{has_name}
use Rattle.deny_spans_workspace.specs.Agreement.{counting, fits, home_of}
use Rattle.deny_spans_workspace.specs.declared.agreement.Home.{Home}
use Rattle.deny_spans_workspace.proofs.workspace.place_of_origin.Goals as goal

pub returns-clause-place : goal.returns-clause-place
returns-clause-place c =
    let g = c.args.krates.now in
    let registries = c.args.registries.now in
    let name = c.args.name.now in
    let r = c.place_of.result in
    let from = c.in_ok-home.ensures ∙ ap (λ root. home_of root registries c.args.origin) c.workspace_root.ensures in
    let asked = c.requirement_of.ensures
    ∙ ap (λ counts. counting counts (option_map held_spanned c.args.version.now)) c.is_of_registry-counts.ensures in
    subst (λ (q : Option (List Held)). IfOk r (λ place. place ≡ option_map (λ (k : Crate). k.place)
    (find (λ k. fits (home_of g.root registries c.args.origin) q k && has_name name k) g.crates))) asked
    (subst (λ (h : Home). IfOk r (λ place. place ≡ option_map (λ (k : Crate). k.place)
    (find (λ k. fits h (option_map (λ r. requirement_read r.now) c.requirement_of.result) k && has_name name k)
    g.crates))) from c.place_of.ensures.place)

pub returns-clause-within : goal.returns-clause-within
returns-clause-within c = c.place_of.ensures.within
