-- Only equal entries tie.
use Rattle.std.proofs.Common.{◌≡◌, ℕ, List, [], ◌∷◌, slice_index_or, refl, sym, ap, ◌∙◌}
use Rattle.std.specs.Cmp.{IsTotalOrder, nat_cmp_total, on_total, then_total}
use Rattle.std.specs.FinMap.{IsAntisymmetric, nat_cmp-IsAntisymmetric}
use Rattle.deny_base.proofs.KeyEqual.{span_cmp-exact, span_cmp-total}
use Rattle.deny_base_lists.proofs.Orders.{then_first, then_second}
use Rattle.deny_base.specs.Entry.{entry_kind_number, entry_kind_cmp, entry_cmp}
use Rattle.deny_base.specs.KeyOrder.{span_cmp}
use Rattle.deny_base.specs.declared.entry.EntryId.{EntryId}
use Rattle.deny_base.specs.declared.entry.EntryKind.{EntryKind}
use Rattle.deny_base.specs.declared.entry.EntryKind.TheVariants as kind
use Rattle.deny_base.specs.declared.span.Span.{Span}

-- every kind, in the order of declaration
entry_kinds : List EntryKind
entry_kinds =
    kind.Skip
    ∷ kind.SkipRoot
    ∷ kind.Wrapper
    ∷ kind.Bypass
    ∷ kind.BypassPath
    ∷ kind.BypassGlob
    ∷ kind.ReplacementIgnore
    ∷ kind.LicenseAllow
    ∷ kind.LicenseException
    ∷ []

entry_kind_at : ℕ → EntryKind
entry_kind_at n = slice_index_or entry_kinds n kind.Skip

entry_kind_at-number : (k : EntryKind) → entry_kind_at (entry_kind_number k) ≡ k
unfolding entry_kind_at entry_kinds entry_kind_number
entry_kind_at-number kind.Skip = refl
entry_kind_at-number kind.SkipRoot = refl
entry_kind_at-number kind.Wrapper = refl
entry_kind_at-number kind.Bypass = refl
entry_kind_at-number kind.BypassPath = refl
entry_kind_at-number kind.BypassGlob = refl
entry_kind_at-number kind.ReplacementIgnore = refl
entry_kind_at-number kind.LicenseAllow = refl
entry_kind_at-number kind.LicenseException = refl

entry_kind_cmp-exact : IsAntisymmetric entry_kind_cmp
entry_kind_cmp-exact a b e =
    sym (entry_kind_at-number a)
    ∙ (ap entry_kind_at (nat_cmp-IsAntisymmetric (entry_kind_number a) (entry_kind_number b) e)
    ∙ entry_kind_at-number b)

entry_from : EntryKind → Span → EntryId
entry_from kind span = record { kind = kind; range = span }

entry_from-is : (e : EntryId) → entry_from e.kind e.range ≡ e
unfolding entry_from
entry_from-is e = refl

pub entry_cmp-exact : IsAntisymmetric entry_cmp
entry_cmp-exact a b e =
    let span : a.range ≡ b.range = span_cmp-exact a.range b.range (then_first _ _ e) in
    let kind : a.kind ≡ b.kind = entry_kind_cmp-exact a.kind b.kind
    (then_second (span_cmp a.range b.range) (entry_kind_cmp a.kind b.kind) e) in
    cc (entry_from-is a, entry_from-is b)

pub entry_cmp-total : IsTotalOrder entry_cmp
entry_cmp-total =
    then_total (on_total (λ (e : EntryId). e.range) span_cmp-total)
    (on_total (λ (e : EntryId). e.kind) (on_total entry_kind_number nat_cmp_total))
