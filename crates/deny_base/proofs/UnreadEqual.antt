-- Only equal entries tie.
use Rattle.std.proofs.Common.{◌≡◌, ℕ, List, [], ◌∷◌, slice_index_or, refl, sym, ap, ◌∙◌}
use Rattle.std.specs.Cmp.{IsTotalOrder, nat_cmp_total, on_total, then_total}
use Rattle.std.specs.Cmp.Lexicographic.{nat_list_cmp_total, options_total, slice_cmp}
use Rattle.std.specs.FinMap.{IsAntisymmetric, nat_cmp-IsAntisymmetric}
use Rattle.std.specs.Option.{option_cmp}
use Rattle.std.specs.Ordering.{nat_cmp, ordering_then}
use Rattle.std.specs.declared.cmp.Ordering.{Ordering}
use Rattle.std.specs.declared.cmp.Ordering.TheVariants.{Equal}
use Rattle.deny_base_lists.proofs.Orders.{text_cmp-exact, then_first, then_second, option_cmp-exact}
use Rattle.deny_base.specs.declared.span.Kid.{Kid}
use Rattle.deny_base.specs.Purpose.{purpose_cmp, purpose_number}
use Rattle.deny_base.specs.Unread.{asked, kid_cmp, unread_cmp}
use Rattle.deny_base.specs.declared.purpose.Purpose.{Purpose}
use Rattle.deny_base.specs.declared.purpose.Purpose.TheVariants as purpose
use Rattle.deny_base.specs.declared.unread.Unread.{Unread}

-- every purpose, in the order of declaration
purposes : List Purpose
purposes = purpose.Manifest ∷ purpose.Script ∷ purpose.List ∷ purpose.Header ∷ purpose.Sum ∷ []

purpose_at : ℕ → Purpose
purpose_at n = slice_index_or purposes n purpose.Manifest

purpose_at-number : (p : Purpose) → purpose_at (purpose_number p) ≡ p
unfolding purpose_at purposes purpose_number
purpose_at-number purpose.Manifest = refl
purpose_at-number purpose.Script = refl
purpose_at-number purpose.List = refl
purpose_at-number purpose.Header = refl
purpose_at-number purpose.Sum = refl

purpose_cmp-exact : IsAntisymmetric purpose_cmp
purpose_cmp-exact a b e =
    sym (purpose_at-number a)
    ∙ (ap purpose_at (nat_cmp-IsAntisymmetric (purpose_number a) (purpose_number b) e) ∙ purpose_at-number b)

kid_of : List ℕ → Kid
kid_of text = record { 0 = text }

kid_of-is : (k : Kid) → kid_of k.0 ≡ k
unfolding kid_of
kid_of-is k = refl

kid_cmp-exact : IsAntisymmetric kid_cmp
kid_cmp-exact a b e = sym (kid_of-is a) ∙ (ap kid_of (text_cmp-exact a.0 b.0 e) ∙ kid_of-is b)

pub unread_cmp-exact : IsAntisymmetric unread_cmp
unread_cmp-exact a b e =
    let rest : Ordering = ordering_then (slice_cmp nat_cmp a.path b.path) (purpose_cmp a.purpose b.purpose) in
    let krate : a.krate ≡ b.krate = option_cmp-exact kid_cmp kid_cmp-exact a.krate b.krate
    (then_first (option_cmp kid_cmp a.krate b.krate) rest e) in
    let behind : rest ≡ Equal = then_second (option_cmp kid_cmp a.krate b.krate) rest e in
    let path : a.path ≡ b.path = text_cmp-exact a.path b.path
    (then_first (slice_cmp nat_cmp a.path b.path) (purpose_cmp a.purpose b.purpose) behind) in
    let purpose : a.purpose ≡ b.purpose = purpose_cmp-exact a.purpose b.purpose
    (then_second (slice_cmp nat_cmp a.path b.path) (purpose_cmp a.purpose b.purpose) behind) in
    λ i. asked (krate i) (purpose i) (path i)

pub unread_cmp-total : IsTotalOrder unread_cmp
unread_cmp-total =
    then_total (on_total (λ (u : Unread). u.krate) (options_total (on_total (λ (k : Kid). k.0) nat_list_cmp_total)))
    (then_total (on_total (λ (u : Unread). u.path) nat_list_cmp_total)
    (on_total (λ (u : Unread). u.purpose) (on_total purpose_number nat_cmp_total)))
