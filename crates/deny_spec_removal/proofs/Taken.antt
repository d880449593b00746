-- The entries that are taken out, and parts of them.
use Rattle.std.proofs.Common.{◌≡◌, Bool, List, false, inl, inr, subst, sym, true}
use Rattle.std.specs.Prelude.{Contains, filter}
use Rattle.std.specs.Cmp.{Equal-is}
use Rattle.std.specs.FinMap.{IsAntisymmetric}
use Rattle.std.specs.Ordering.{eq_by_cmp}
use Rattle.std.proofs.lemmas.Bool.{cases_Bool}
use Rattle.deny_base_lists.proofs.Members.{any_passes, passes_filter}
use Rattle.deny_base.specs.Entry.{entry_cmp}
use Rattle.deny_base.specs.declared.entry.EntryId.{EntryId}
use Rattle.deny_base.specs.declared.entry.EntryKind.{EntryKind}
use Rattle.deny_base.specs.declared.span.Span.{Span}
use Rattle.deny_spec_report.proofs.Kept.{list_any_kept}
use Rattle.deny_spec_removal.specs.Removal.{is_taken}

-- the entry of a kind with a span
abbrev pub entry : EntryKind → Span → EntryId
entry kind span = record { kind = kind; range = span }

same_entry : IsAntisymmetric entry_cmp → (a b : EntryId) → eq_by_cmp entry_cmp a b ≡ true → a ≡ b
same_entry exact a b is = exact a b ((Equal-is (entry_cmp a b)).0 is)

taken_member : IsAntisymmetric entry_cmp → (taken : List EntryId) (kind : EntryKind) (span : Span)
    → is_taken taken kind span ≡ true → Contains taken (entry kind span)
unfolding is_taken
taken_member exact taken kind span is =
    let found = any_passes (λ e. eq_by_cmp entry_cmp e (entry kind span)) taken is in
    subst (Contains taken) (same_entry exact found.one (entry kind span) found.passes) found.member

pub not_taken : IsAntisymmetric entry_cmp → (taken : List EntryId) (kind : EntryKind) (span : Span)
    → (Contains taken (entry kind span) → ⊥) → is_taken taken kind span ≡ false
not_taken exact taken kind span none = elim (cases_Bool (is_taken taken kind span)) as
    (λ _. is_taken taken kind span ≡ false) [
      | inl e ↦ absurd (none (taken_member exact taken kind span e))
      | inr e ↦ e
    ]

-- ---- a part of the entries

pub taken_among : IsAntisymmetric entry_cmp → (part : EntryId → Bool) (taken : List EntryId) (kind : EntryKind)
    (span : Span) → part (entry kind span) ≡ true
    → is_taken (filter part taken) kind span ≡ is_taken taken kind span
unfolding is_taken
taken_among exact part taken kind span is = list_any_kept part (λ e. eq_by_cmp entry_cmp e (entry kind span)) taken
    (λ e written same. subst (λ x. part x ≡ true) (sym (same_entry exact e (entry kind span) same)) is)

pub none_among : IsAntisymmetric entry_cmp → (part : EntryId → Bool) (taken : List EntryId) (kind : EntryKind)
    (span : Span) → part (entry kind span) ≡ false → is_taken (filter part taken) kind span ≡ false
none_among exact part taken kind span fails = not_taken exact (filter part taken) kind span
    (λ is. absurd (cc (passes_filter part taken (entry kind span) is, fails)))
