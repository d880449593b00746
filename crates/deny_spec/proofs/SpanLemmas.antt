-- Spans: when two are equal.
use Rattle.std.proofs.Common.{◌≡◌, refl, true, subst, Bool, sym, ap, ◌∙◌}
use Rattle.std.proofs.lemmas.Bool.{and_from, eq-eqb}
use Rattle.std.specs.Prelude.{◌==◌, ◌&&◌}
use Rattle.std.specs.Cmp.{tied_then, unsigned_ties, Equal-is}
use Rattle.std.specs.Ordering.{is_eq, nat_cmp, eq_by_cmp}
use Rattle.deny_base_lists.proofs.Booleans.{tests_agree}
use Rattle.deny_base.specs.declared.span.Span.{Span}
use Rattle.deny_base.specs.KeyOrder.{span_cmp}
use Rattle.deny_base.proofs.KeyEqual.{span_cmp-exact}
use Rattle.deny_spec.specs.Wrappers.{same_span}

pub same_span-itself : (a : Span) → same_span a a ≡ true
same_span-itself a = and_from _ _ (eq-eqb a.start a.start refl) (eq-eqb a.end a.end refl)

pub same_span-true : (a b : Span) → a ≡ b → same_span a b ≡ true
same_span-true a b same = subst (λ x. same_span a x ≡ true) same (same_span-itself a)

pub is_eq-span_cmp : (a b : Span) → is_eq (span_cmp a b) ≡ same_span a b
is_eq-span_cmp a b =
    sym (tied_then (nat_cmp a.start b.start) (nat_cmp a.end b.end))
    ∙ (ap (λ (start : Bool). start && is_eq (nat_cmp a.end b.end)) (sym (unsigned_ties a.start b.start))
    ∙ ap (λ (end : Bool). (a.start == b.start) && end) (sym (unsigned_ties a.end b.end)))

pub same-span : (a b : Span) → same_span a b ≡ true → a ≡ b
same-span a b same = span_cmp-exact a b ((Equal-is (span_cmp a b)).0 (is_eq-span_cmp a b ∙ same))

same_span-flips : (a b : Span) → same_span a b ≡ true → same_span b a ≡ true
same_span-flips a b same = let one = same-span a b same in
    subst (λ (s : Span). same_span s a ≡ true) one (subst (λ (s : Span). same_span a s ≡ true) (sym one) same)

-- spans tie exactly where they are equal
pub eq_by_cmp-span_cmp : (a b : Span) → eq_by_cmp span_cmp a b ≡ same_span b a
eq_by_cmp-span_cmp a b =
    is_eq-span_cmp a b ∙ tests_agree (same_span a b) (same_span b a) (same_span-flips a b) (same_span-flips b a)
