-- The order of keys: field by field, in the order of the fields.
use Rattle.std.specs.Ordering.{nat_cmp, on, then_cmp}
use Rattle.std.specs.Cmp.Lexicographic.{slice_cmp}
use Rattle.std.specs.declared.cmp.Ordering.{Ordering}
use Rattle.deny_base.specs.Code.{section_cmp, diagnostic_code_cmp}
use Rattle.deny_base.specs.declared.key.Key.{Key}
use Rattle.deny_base.specs.declared.span.Span.{Span}

abbrev pub span_cmp : Span → Span → Ordering
span_cmp = then_cmp (on (λ s. s.start) nat_cmp) (on (λ s. s.end) nat_cmp)

abbrev pub key_cmp : Key → Key → Ordering
key_cmp =
    then_cmp (on (λ k. k.section) section_cmp)
    (then_cmp (on (λ k. k.place) nat_cmp)
    (then_cmp (on (λ k. k.code) diagnostic_code_cmp)
    (then_cmp (on (λ k. k.entry) span_cmp)
    (then_cmp (on (λ k. k.text) (slice_cmp nat_cmp))
    (then_cmp (on (λ k. k.other) nat_cmp)
    (on (λ k. k.places) (slice_cmp nat_cmp)))))))
