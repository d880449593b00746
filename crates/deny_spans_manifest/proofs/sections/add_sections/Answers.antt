use Rattle.std.proofs.Common.{List, subst}
use Rattle.deny_spans_manifest.proofs.SectionLemmas.{kinds_keyed}
use Rattle.deny_spans_manifest.specs.private.Sections.{FindsKeyed, KeyedEntry}
use Rattle.deny_spans_manifest.proofs.sections.add_sections.Goals as goal

pub returns : goal.returns
returns c = λ keyed finds. subst (λ (es : List KeyedEntry). FindsKeyed es c.add_kind-3.new.entries)
    (kinds_keyed c.args.target c.args.value.now keyed)
    (c.in_ok-add_kind-3.ensures _ (c.in_ok-add_kind-2.ensures _ (c.in_ok-add_kind.ensures keyed finds)))
