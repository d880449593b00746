use Rattle.std.proofs.Common.{◌∙◌, ap, option_map, slice_get, sym}
use Rattle.std.specs.Option.{option_copied}
use Rattle.deny_krates.specs.Crates.{crate_view}
use Rattle.deny_krates.proofs.ResolutionLemmas.{crates-at}
use Rattle.deny_tests.proofs.builds.checked_at.Goals as goal

pub checked-requires : goal.checked-requires
checked-requires c =
    let place = c.args.place in
    record {
      placed = ap (λ crates. slice_get crates place) (sym c.krates-in-Ok.ensures.crates)
          ∙ (crates-at c.krates-in-Ok.result.now place
          ∙ ap (option_map (crate_view place)) (sym c.krate_at.ensures ∙ ap option_copied c.in-Some.is));
    }
