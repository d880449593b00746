-- Items found by their spans.
use Rattle.std.specs.Prelude.{◌≡◌, ◌++◌, List, Option, find, option_map}
use Rattle.std.specs.BTreeMap.{get_by}
use Rattle.std.specs.Ordering.{nat_cmp, ordering_then}
use Rattle.deny_base.specs.declared.span.Span.{Span}
use Rattle.deny_spec.specs.Wrappers.{same_span}
use Rattle.deny_diags_parts.specs.declared.by_span.BySpan.{BySpan}

-- the first item with this span
abbrev pub first_of : {T : Type 0} → (T → Span) → Span → List T → Option T
first_of span_of span items = find (λ item. same_span (span_of item) span) items

-- the item that is found at a span
abbrev pub found_at : {T : Type 0} → BySpan T → Span → Option T
found_at found span = option_map (λ item. item.now) (get_by (λ k. ordering_then (nat_cmp span.start k.start)
    (nat_cmp span.end k.end)) found.tree)

-- at each span the first item with that span is found
pub record IsBySpan {T : Type 0} (span_of : T → Span) (items : List T) (found : BySpan T) : Type 0 where
  pub at : (span : Span) → found_at found span ≡ first_of span_of span items

-- items are put before those that were found already
abbrev pub PutsBefore : {T : Type 0} → (T → Span) → List T → BySpan T → BySpan T → Type 0
PutsBefore span_of items old new = (others : List _) → IsBySpan span_of others old
    → IsBySpan span_of (items ++ others) new
