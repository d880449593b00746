-- Only equal keys tie.
use Rattle.deny_base_lists.proofs.Orders.{text_cmp-exact, then_first, then_second}
use Rattle.std.proofs.Common.{◌≡◌, ℕ, List, [], ◌∷◌, slice_index_or, refl, sym, ap, ◌∙◌}
use Rattle.std.specs.Ordering.{nat_cmp}
use Rattle.std.specs.Cmp.{IsTotalOrder, nat_cmp_total, on_total, then_total}
use Rattle.std.specs.Cmp.Lexicographic.{slice_cmp, nat_list_cmp_total}
use Rattle.std.specs.FinMap.{IsAntisymmetric, nat_cmp-IsAntisymmetric}
use Rattle.deny_base.proofs.CodeEqual.{diagnostic_code_cmp-total, diagnostic_code_cmp-exact}
use Rattle.deny_base.specs.Code.{section_cmp, section_number, diagnostic_code_cmp}
use Rattle.deny_base.specs.KeyOrder.{key_cmp, span_cmp}
use Rattle.deny_base.specs.declared.code.DiagnosticCode.{DiagnosticCode}
use Rattle.deny_base.specs.declared.key.Key.{Key}
use Rattle.deny_base.specs.declared.key.Section.{Section}
use Rattle.deny_base.specs.declared.key.Section.TheVariants as section
use Rattle.deny_base.specs.declared.span.Span.{Span}

-- the section with a number of the order of declaration
sections : List Section
sections = section.Deprecated ∷ section.Crates ∷ section.Groups ∷ section.Workspace ∷ section.Unused ∷ section.Std
    ∷ section.Licenses ∷ section.LicensesUnused ∷ []

section_at : ℕ → Section
section_at n = slice_index_or sections n section.Deprecated

section_at-number : (s : Section) → section_at (section_number s) ≡ s
unfolding section_at sections section_number
section_at-number section.Deprecated = refl
section_at-number section.Crates = refl
section_at-number section.Groups = refl
section_at-number section.Workspace = refl
section_at-number section.Unused = refl
section_at-number section.Std = refl
section_at-number section.Licenses = refl
section_at-number section.LicensesUnused = refl

section_cmp-exact : IsAntisymmetric section_cmp
section_cmp-exact a b e =
    sym (section_at-number a)
    ∙ (ap section_at (nat_cmp-IsAntisymmetric (section_number a) (section_number b) e) ∙ section_at-number b)

span_from : ℕ → ℕ → Span
span_from start end = record { start = start; end = end }

span_from-is : (s : Span) → span_from s.start s.end ≡ s
unfolding span_from
span_from-is s = refl

pub span_cmp-exact : IsAntisymmetric span_cmp
span_cmp-exact a b e =
    let starts : a.start ≡ b.start = nat_cmp-IsAntisymmetric a.start b.start (then_first _ _ e) in
    let ends : a.end ≡ b.end = nat_cmp-IsAntisymmetric a.end b.end
    (then_second (nat_cmp a.start b.start) (nat_cmp a.end b.end) e) in
    cc (span_from-is a, span_from-is b)

key_from : Section → ℕ → DiagnosticCode → Span → List ℕ → ℕ → List ℕ → Key
key_from section place code entry text other places =
    record { section = section; place = place; code = code; entry = entry; text = text; other = other; places = places }

key_from-is : (k : Key) → key_from k.section k.place k.code k.entry k.text k.other k.places ≡ k
unfolding key_from
key_from-is k = refl

pub key_cmp-exact : IsAntisymmetric key_cmp
key_cmp-exact a b e =
    let after_section = then_second (section_cmp a.section b.section) _ e in
    let after_place = then_second (nat_cmp a.place b.place) _ after_section in
    let after_code = then_second (diagnostic_code_cmp a.code b.code) _ after_place in
    let after_entry = then_second (span_cmp a.entry b.entry) _ after_code in
    let after_text = then_second (slice_cmp nat_cmp a.text b.text) _ after_entry in
    let after_other = then_second (nat_cmp a.other b.other) _ after_text in
    let section : a.section ≡ b.section = section_cmp-exact a.section b.section (then_first _ _ e) in
    let place : a.place ≡ b.place = nat_cmp-IsAntisymmetric a.place b.place (then_first _ _ after_section) in
    let code : a.code ≡ b.code = diagnostic_code_cmp-exact a.code b.code (then_first _ _ after_place) in
    let entry : a.entry ≡ b.entry = span_cmp-exact a.entry b.entry (then_first _ _ after_code) in
    let text : a.text ≡ b.text = text_cmp-exact a.text b.text (then_first _ _ after_entry) in
    let other : a.other ≡ b.other = nat_cmp-IsAntisymmetric a.other b.other (then_first _ _ after_text) in
    let places : a.places ≡ b.places = text_cmp-exact a.places b.places after_other in
    cc (key_from-is a, key_from-is b)

section_cmp-total : IsTotalOrder section_cmp
section_cmp-total = on_total section_number nat_cmp_total

pub span_cmp-total : IsTotalOrder span_cmp
span_cmp-total = then_total (on_total (λ (s : Span). s.start) nat_cmp_total)
    (on_total (λ (s : Span). s.end) nat_cmp_total)

pub key_cmp-total : IsTotalOrder key_cmp
key_cmp-total =
    then_total (on_total (λ (k : Key). k.section) section_cmp-total)
    (then_total (on_total (λ (k : Key). k.place) nat_cmp_total)
    (then_total (on_total (λ (k : Key). k.code) diagnostic_code_cmp-total)
    (then_total (on_total (λ (k : Key). k.entry) span_cmp-total)
    (then_total (on_total (λ (k : Key). k.text) nat_list_cmp_total)
    (then_total (on_total (λ (k : Key). k.other) nat_cmp_total)
    (on_total (λ (k : Key). k.places) nat_list_cmp_total))))))
