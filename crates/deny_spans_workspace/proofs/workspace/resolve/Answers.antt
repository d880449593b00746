use Rattle.std.proofs.Common.{◌∙◌, ap, refl}
use Rattle.deny_spans_workspace.specs.Agreement.{home_of, requirement_of}
use Rattle.deny_spans_workspace.specs.private.Entries.{entry_view}
use Rattle.deny_spans_workspace.specs.Workspace.{dep_view}
use Rattle.deny_spans_workspace.proofs.AgreementLemmas.{place_of_entry}
use Rattle.deny_spans_workspace.proofs.workspace.resolve.Goals as goal

pub returns-clause-entry : goal.returns-clause-entry
returns-clause-entry c =
    let e = c.args.entry in
    let registries = c.args.registries.now in
    ap (λ place. dep_view place (record {
      key = e.key;
      value = e.value;
      version = e.spec.version;
      rename = e.spec.rename;
      patched = e.patched;
    }))
    (c.in_ok-place.ensures.place
    ∙ place_of_entry c.args.krates.now registries (entry_view e)
    (home_of c.args.krates.now.root registries e.spec.origin)
    (requirement_of (entry_view e).spec) c.package_of-package.result.now refl refl c.package_of-package.ensures)
