use Rattle.std.proofs.Common.{◌∙◌, ◌++◌, ◌∷◌, [], List, Option, ap, map, option_map, sym}
use Rattle.std.specs.Prelude.{option_to_list, slice_get}
use Rattle.std.specs.Option.{option_copied}
use Rattle.deny_krates.specs.Crates.{crate_view}
use Rattle.deny_krates.proofs.ResolutionLemmas.{crates-at}
use Rattle.deny_spec.specs.Graph.{Crate}
use Rattle.deny_build.specs.ScanningOf.{scanning_of}
use Rattle.deny_build.specs.declared.scanned_krate.ScannedKrate.{ScannedKrate}
use Rattle.deny_build.specs.private.ScannedKrates.{scanned_view}
use Rattle.deny_build.proofs.scanning.scan_alone.Goals as goal

pub scan_krate-requires-clause-placed : goal.scan_krate-requires-clause-placed
scan_krate-requires-clause-placed c =
    let place = c.args.place in
    ap (λ (crates : List Crate). slice_get crates place) (sym c.krates.ensures.crates)
    ∙ (crates-at c.krates.result.now place
    ∙ ap (option_map (crate_view place)) (sym c.krate_at.ensures ∙ ap option_copied c.in-Some.is))

pub returns-in_ok-push-in-Some : goal.returns-in_ok-push-in-Some
returns-in_ok-push-in-Some c =
    let l = scanning_of c.args.ctx.now in
    let place = c.args.place in
    ap (map scanned_view) c.in_ok-push-in-Some.ensures.items
    ∙ (ap (λ (ats : List ScannedKrate). map scanned_view (ats ++ c.scan_krate.result ∷ [])) c.new-all.ensures.items
    ∙ (ap (λ pair. pair ∷ []) c.scan_krate.ensures
    ∙ ap (λ (o : Option Crate). map (λ k. (l, k)) (option_to_list o)) (sym (ap (λ (crates : List Crate).
    slice_get crates place) (sym c.krates.ensures.crates)
    ∙ (crates-at c.krates.result.now place
    ∙ ap (option_map (crate_view place)) (sym c.krate_at.ensures ∙ ap option_copied c.in-Some.is))))))

pub returns-in-None : goal.returns-in-None
returns-in-None c =
    let l = scanning_of c.args.ctx.now in
    let place = c.args.place in
    ap (map scanned_view) c.new.ensures.items
    ∙ ap (λ (o : Option Crate). map (λ k. (l, k)) (option_to_list o)) (sym (ap (λ (crates : List Crate).
    slice_get crates place) (sym c.krates.ensures.crates)
    ∙ (crates-at c.krates.result.now place
    ∙ ap (option_map (crate_view place)) (sym c.krate_at.ensures ∙ ap option_copied c.in-None.is))))
