-- The first spans of specs and words: of equal ones, that of the first.
use Rattle.std.specs.Prelude.{◌&&◌, ℕ, Bool, List, Option, None}
use Rattle.std.specs.BTreeMap as tree
use Rattle.std.specs.Cmp.Lexicographic.{slice_cmp}
use Rattle.std.specs.Option.{option_cmp, option_eq}
use Rattle.std.specs.Ordering.{nat_cmp, on, then_cmp}
use Rattle.std.specs.declared.cmp.Ordering.{Ordering}
use Rattle.deny_base.specs.declared.span.Span.{Span}
use Rattle.deny_cfg.specs.declared.first_spans.FirstSpans.{FirstSpans}
use Rattle.deny_cfg.specs.declared.first_spans.Wording.{Wording}
use Rattle.deny_cfg_entries.specs.declared.package_spec.PackageSpec.{PackageSpec}
use Rattle.deny_cfg_entries.specs.declared.spec_or_extended.PackageSpecOrExtended.{PackageSpecOrExtended}
use Rattle.deny_spec.specs.Policy.{SpannedText}
use Rattle.deny_spec.specs.Text.{same_text}

abbrev pub same_wording : Wording → Wording → Bool
same_wording a b = same_text a.name b.name && option_eq same_text a.requirement b.requirement

abbrev pub wording_cmp : Wording → Wording → Ordering
wording_cmp = then_cmp (on (λ w. w.name) (slice_cmp nat_cmp)) (on (λ w. w.requirement) (option_cmp (slice_cmp nat_cmp)))

-- the wording of a spec
abbrev pub spec_wording : PackageSpec → Wording
spec_wording spec = record { name = spec.name.value; requirement = spec.req_text }

-- the wording of a word
abbrev pub plain_wording : List ℕ → Wording
plain_wording text = record { name = text; requirement = None }

abbrev pub entry_span : {T : Type 0} → PackageSpecOrExtended T → Wording × Span
entry_span e = (spec_wording e.spec, e.spec.name.span)

abbrev pub word_span : SpannedText → Wording × Span
word_span word = (plain_wording word.value, word.span)

-- the span that is found for a wording
abbrev pub first_span : FirstSpans → Wording → Option Span
first_span found wording = tree.get wording_cmp found.spans wording
