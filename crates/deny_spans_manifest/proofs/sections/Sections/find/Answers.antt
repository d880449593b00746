use Rattle.std.proofs.Common.{ap, ◌∙◌}
use Rattle.std.specs.Option.{option_copied}
use Rattle.deny_krates.specs.Crates.{dependency_view}
use Rattle.deny_spans_manifest.proofs.SectionLemmas.{found_by_key, section_key_is}
use Rattle.deny_spans_manifest.specs.private.Sections.{entry_found, target_keys}
use Rattle.deny_spans_manifest.proofs.sections.Sections.find.Goals as goal

pub returns : goal.returns
returns c = λ agrees reports tree index.
    let d = dependency_view c.args.declaration.now in
    ap option_copied c.find.ensures
    ∙ (ap (entry_found c.args.self.now.entries) (section_key_is c.in_ok-number.field-0 _ d.kind c.in_ok-clone.field-0 _
    (c.in_ok-number.ensures agrees reports (target_keys tree) index.targets)
    (c.in_ok-clone.ensures.cases ∙ c.key_name.ensures))
    ∙ found_by_key agrees reports tree d c.args.self.now index)
