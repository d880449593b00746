-- The spans of the first wrappers of their names.
use Rattle.std.proofs.Common.{◌≡◌, ◌++◌, ℕ, Bool, true, false, not, List, [], ◌∷◌, Option, Some, None, cond, is_some}
use Rattle.std.proofs.Common.{refl, sym, ap, ◌∙◌, subst}
use Rattle.std.specs.Prelude.{is_none, option_map}
use Rattle.std.specs.FinMap as finite
use Rattle.std.specs.Option.{option_or}
use Rattle.std.specs.Ordering.{eq_by_cmp, nat_cmp}
use Rattle.std.specs.Cmp.Lexicographic.{nat_list_cmp_total, slice_cmp, texts_ties}
use Rattle.std.proofs.lemmas.Cmp.{nat_list_eq_equiv}
use Rattle.std.proofs.lemmas.List.Folds.{find-append}
use Rattle.std.proofs.lemmas.Slice.Eq.{bytes_eq-Decides}
use Rattle.deny_base_lists.specs.TextMap.{TextFinMap}
use Rattle.deny_base.specs.declared.span.Span.{Span}
use Rattle.deny_spec.specs.Bans.{is_wrapper, wrapper_of}
use Rattle.deny_spec.specs.Graph.{Crate}
use Rattle.deny_spec.specs.Policy.{SpannedText}
use Rattle.deny_spec.specs.Text.{same_text}
use Rattle.deny_rules_match.specs.Wrappers.{AreFirstSpans, first_of, has_span, span_of}

abbrev span : SpannedText → Span
span w = w.span

pub no_spans : AreFirstSpans [] (finite.empty {X = Span} {R = slice_cmp nat_cmp})
unfolding AreFirstSpans first_of
no_spans name = finite.get-empty (slice_cmp nat_cmp) name

no_span : (o : Option Span) → o ≡ None → is_some o ≡ true → ⊥
no_span o is some = absurd (cc (ap is_some is, some))

-- the first wrapper of a name, in a list that ends in one more
first-push : (ws : List SpannedText) (w : SpannedText) (name : List ℕ)
    → first_of (ws ++ w ∷ []) name ≡ option_or (first_of ws name) (cond (same_text w.value name) (Some w) None)
unfolding first_of
first-push ws w name = find-append (λ v. same_text v.value name) ws (w ∷ [])

tied : (name key : List ℕ) → eq_by_cmp (slice_cmp nat_cmp) name key ≡ same_text key name
tied name key = sym (texts_ties name key) ∙ nat_list_eq_equiv.symm name key

named : (w : SpannedText) (name : List ℕ) → same_text w.value name ≡ true → w.value ≡ name
named w name e = (bytes_eq-Decides w.value name).0 e

kept-at : (got : Option Span) (found : Option SpannedText) (one : Bool) (w : SpannedText) → got ≡ option_map span found
    → (one ≡ true → is_some got ≡ true) → got ≡ option_map span (option_or found (cond one (Some w) None))
kept-at got (Some v) one w is known = is
kept-at got None true w is known = absurd (no_span got is (known refl))
kept-at got None false w is known = is

-- a wrapper whose name has a span already is not the first of its name
pub first_kept : (ws : List SpannedText) (w : SpannedText) (spans : TextFinMap Span) → AreFirstSpans ws spans
    → is_some (finite.get spans w.value) ≡ true → AreFirstSpans (ws ++ w ∷ []) spans
unfolding AreFirstSpans
first_kept ws w spans first known name =
    kept-at (finite.get spans name) (first_of ws name) (same_text w.value name) w (first name)
    (λ same. subst (λ (key : List ℕ). is_some (finite.get spans key) ≡ true) (named w name same) known)
    ∙ ap (option_map span) (sym (first-push ws w name))

new-at : (got : Option Span) (found : Option SpannedText) (one : Bool) (w : SpannedText) → got ≡ option_map span found
    → (one ≡ true → is_some got ≡ false) → cond one (Some w.span) got ≡ option_map span
    (option_or found (cond one (Some w) None))
new-at got (Some v) true w is free = absurd (cc (ap is_some is, free refl))
new-at got (Some v) false w is free = is
new-at got None true w is free = refl
new-at got None false w is free = is

-- a wrapper whose name has no span yet is the first of its name
pub first_new : (ws : List SpannedText) (w : SpannedText) (spans : TextFinMap Span) → AreFirstSpans ws spans
    → is_some (finite.get spans w.value) ≡ false → AreFirstSpans (ws ++ w ∷ []) (finite.insert spans w.value w.span)
unfolding AreFirstSpans
first_new ws w spans first free name =
    finite.get-insert nat_list_cmp_total spans w.value w.span name
    ∙ (ap (λ b. cond b (Some w.span) (finite.get spans name)) (tied name w.value)
    ∙ (new-at (finite.get spans name) (first_of ws name) (same_text w.value name) w (first name)
    (λ same. subst (λ (key : List ℕ). is_some (finite.get spans key) ≡ false) (named w name same) free)
    ∙ ap (option_map span) (sym (first-push ws w name))))

-- the span at a crate's name is that of its wrapper
pub span-wrapper : (ws : List SpannedText) (spans : TextFinMap Span) (c : Crate) → AreFirstSpans ws spans
    → span_of spans c ≡ option_map span (wrapper_of ws c)
unfolding AreFirstSpans first_of span_of wrapper_of
span-wrapper ws spans c first = first c.name

some_span : (o : Option SpannedText) → is_some (option_map span o) ≡ not (is_none o)
some_span None = refl
some_span (Some w) = refl

pub has-wrapper : (ws : List SpannedText) (spans : TextFinMap Span) (c : Crate) → AreFirstSpans ws spans
    → has_span spans c ≡ is_wrapper ws c
unfolding has_span is_wrapper
has-wrapper ws spans c first = ap is_some (span-wrapper ws spans c first) ∙ some_span (wrapper_of ws c)
