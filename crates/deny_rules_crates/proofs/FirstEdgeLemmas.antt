-- The first wrapped edge of each span, kept as wrapped edges come.
use Rattle.std.proofs.Common.{◌≡◌, ◌++◌, ◌+◌, ◌<◌, ℕ, List, [], ◌∷◌, Bool, true, false, Option, None, Some, cond, find}
use Rattle.std.proofs.Common.{get_or, is_some, length, take, refl, sym, ap, ◌∙◌, subst}
use Rattle.std.specs.BTreeMap.{BTreeMap}
use Rattle.std.specs.BTreeMap as tree
use Rattle.std.specs.Option.{option_or}
use Rattle.std.specs.Ordering.{is_eq}
use Rattle.std.proofs.lemmas.List.{take_more}
use Rattle.std.proofs.lemmas.List.Folds.{find-append}
use Rattle.deny_base.specs.KeyOrder.{span_cmp}
use Rattle.deny_base.specs.declared.span.Span.{Span}
use Rattle.deny_spec.specs.Wrappers.{same_span}
use Rattle.deny_spec.proofs.SpanLemmas.{same-span, is_eq-span_cmp}
use Rattle.deny_rules_crates.specs.private.WrappedEdges.{LeadToFirsts, first_wrapped_edge}
use Rattle.deny_rules_crates.specs.declared.hits.WrappedEdge.{WrappedEdge}

new_at : (o found : Option WrappedEdge) (same : Bool) (m : WrappedEdge) → o ≡ found → (same ≡ true → is_some o ≡ false)
    → cond same (Some m) o ≡ option_or found (cond same (Some m) None)
new_at None None true m is free = refl
new_at None None false m is free = refl
new_at None (Some f) same m is free = cc
new_at (Some b) found true m is free = absurd (cc (free refl))
new_at (Some b) None false m is free = cc
new_at (Some b) (Some f) false m is free = is

kept_at : (o found : Option WrappedEdge) (same : Bool) (m : WrappedEdge) → o ≡ found → (same ≡ true → is_some o ≡ true)
    → o ≡ option_or found (cond same (Some m) None)
kept_at None found true m is known = absurd (cc (known refl))
kept_at None None false m is known = refl
kept_at None (Some f) false m is known = cc
kept_at (Some b) None same m is known = cc
kept_at (Some b) (Some f) same m is known = is

one_more : (edges : List WrappedEdge) (i : ℕ) (m other : WrappedEdge) (this_span : Span) → i < length edges
    → m ≡ get_or edges i other
    → first_wrapped_edge (take (i + 1) edges) this_span ≡ option_or (first_wrapped_edge (take i edges) this_span)
    (cond (same_span m.span this_span) (Some m) None)
one_more edges i m other this_span inside is =
    ap (find (λ (n : WrappedEdge). same_span n.span this_span))
    (take_more edges i other inside ∙ ap (λ n. take i edges ++ n ∷ []) (sym is))
    ∙ find-append (λ n. same_span n.span this_span) (take i edges) (m ∷ [])

module _ (edges : List WrappedEdge) (i : ℕ) (m other : WrappedEdge) (old : BTreeMap Span WrappedEdge)
    (inside : i < length edges) (is : m ≡ get_or edges i other) (leads : LeadToFirsts (take i edges) old) where
  -- a wrapped edge whose span came before is not its first
  pub firsts_kept : is_some (tree.get span_cmp old m.span) ≡ true → LeadToFirsts (take (i + 1) edges) old
  firsts_kept known = record {
    at = λ this_span.
        kept_at (tree.get span_cmp old this_span) (first_wrapped_edge (take i edges) this_span)
        (same_span m.span this_span) m
        (leads.at this_span)
        (λ same. subst (λ (r : Span). is_some (tree.get span_cmp old r) ≡ true) (same-span m.span this_span same) known)
        ∙ sym (one_more edges i m other this_span inside is);
  }

  -- a wrapped edge of a new span is its first
  pub firsts_more : (new : BTreeMap Span WrappedEdge) → is_some (tree.get span_cmp old m.span) ≡ false
      → ((this_span : Span) → tree.get span_cmp new this_span ≡ cond (is_eq (span_cmp m.span this_span)) (Some m)
      (tree.get span_cmp old this_span))
      → LeadToFirsts (take (i + 1) edges) new
  firsts_more new free updates = record {
    at = λ this_span.
        (updates this_span ∙ ap (λ b. cond b (Some m) (tree.get span_cmp old this_span))
        (is_eq-span_cmp m.span this_span))
        ∙ (new_at (tree.get span_cmp old this_span) (first_wrapped_edge (take i edges) this_span)
        (same_span m.span this_span) m
        (leads.at this_span)
        (λ same. subst (λ (r : Span). is_some (tree.get span_cmp old r) ≡ false) (same-span m.span this_span same) free)
        ∙ sym (one_more edges i m other this_span inside is));
  }
