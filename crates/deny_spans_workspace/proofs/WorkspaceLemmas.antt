-- Spans by the places of crates, as entries are put there one by one.
use Rattle.std.proofs.Common.{◌≡◌, ◌++◌, ◌+◌, ◌<◌, ℕ, zero, suc, List, [], ◌∷◌, Bool, true, false, Option, Some, None}
use Rattle.std.proofs.Common.{length, map, refl, sym, ap, ◌∙◌, subst, arith, ◌==◌, inl, inr, append-nil, true≢false}
use Rattle.std.proofs.Common.{length-append}
use Rattle.std.specs.Prelude.{IfSome, cond, find, is_none, option_map, slice_get, slice_set}
use Rattle.std.specs.Option.{option_map_or}
use Rattle.std.proofs.Math.ListN.{length-set}
use Rattle.std.proofs.lemmas.Bool.{cases_Bool, eq-eqb, eqb-true}
use Rattle.std.proofs.lemmas.Simd.{map-map}
use Rattle.std.proofs.lemmas.List.{map-append, reverse-append}
use Rattle.std.proofs.lemmas.List.Elements.{filter-append}
use Rattle.deny_krates.specs.Crates.{crate_view}
use Rattle.deny_spec.specs.View.{WorkspaceEntry}
use Rattle.deny_spec.specs.Graph.{Graph}
use Rattle.deny_toml.specs.value.Value.{Value}
use Rattle.deny_spans_workspace.specs.Entries.{dependencies_in, entries_of, patches_in}
use Rattle.deny_spans_workspace.specs.private.Entries.{entry_view}
use Rattle.deny_spans_workspace.specs.Workspace.{AreSpans, dep_view, entries_in, resolved_entry, resolves_to, span_at}
use Rattle.deny_spans_workspace.specs.private.Workspace.{IsPut}
use Rattle.deny_spans_workspace.specs.Workspace.{span_of, span_view, unused_in}
use Rattle.deny_spans_workspace.specs.declared.entries.SharedEntry.{SharedEntry as Read}
use Rattle.deny_spans_workspace.specs.declared.registries.Registry.{Registry}
use Rattle.deny_spans_workspace.specs.declared.workspace.UnusedWorkspaceDep.{UnusedWorkspaceDep}
use Rattle.deny_spans_workspace.specs.declared.workspace.WorkspaceSpan.{WorkspaceSpan}

-- the span of a crate is that of the last entry, or else of those before it
span_of-push : (es : List WorkspaceEntry) (e : WorkspaceEntry) (place : ℕ)
    → span_of (es ++ e ∷ []) place ≡ cond (resolves_to place e) (Some e) (span_of es place)
unfolding span_of
span_of-push es e place = ap (find (resolves_to place)) (reverse-append es (e ∷ []))

not_there : (es : List WorkspaceEntry) (e : WorkspaceEntry) (place : ℕ) → e.place ≡ None
    → span_of (es ++ e ∷ []) place ≡ span_of es place
not_there es e place none = span_of-push es e place
    ∙ ap (λ o. cond (option_map_or (λ p. p == place) o false) (Some e) (span_of es place)) none

-- an entry that resolves to no crate changes no span
spans_stay : (g : Graph) (es : List WorkspaceEntry) (e : WorkspaceEntry) (spans : List (Option WorkspaceSpan))
    → e.place ≡ None → AreSpans g es spans → AreSpans g (es ++ e ∷ []) spans
spans_stay g es e spans none are = record {
  long = are.long;
  at = λ place. are.at place ∙ sym (not_there es e place none);
  krates = are.krates;
}

unused_more : (es : List WorkspaceEntry) (e : WorkspaceEntry) → e.place ≡ None
    → unused_in (es ++ e ∷ []) ≡ unused_in es ++ e ∷ []
unused_more es e none = filter-append (λ e. is_none e.place) es (e ∷ [])
    ∙ ap (λ o. unused_in es ++ cond (is_none o) (e ∷ []) []) none

unused_stay : (es : List WorkspaceEntry) (e : WorkspaceEntry) (place : ℕ) → e.place ≡ Some place
    → unused_in (es ++ e ∷ []) ≡ unused_in es
unused_stay es e place is = filter-append (λ e. is_none e.place) es (e ∷ [])
    ∙ ap (λ o. unused_in es ++ cond (is_none o) (e ∷ []) []) is ∙ append-nil (unused_in es)

-- ---- what is at a place after a span was put

put_here : (spans : List (Option WorkspaceSpan)) (place : ℕ) (s : WorkspaceSpan) → place < length spans
    → span_at (slice_set spans place (Some s)) place ≡ Some s
put_here [] place s inside = absurd (omega arith)
put_here (x ∷ xs) zero s inside = refl
put_here (x ∷ xs) (suc place) s inside = put_here xs place s (omega arith)

put_there : (spans : List (Option WorkspaceSpan)) (place other : ℕ) (s : WorkspaceSpan) → (place ≡ other → ⊥)
    → span_at (slice_set spans place (Some s)) other ≡ span_at spans other
put_there [] place other s apart = refl
put_there (x ∷ xs) zero zero s apart = absurd (apart refl)
put_there (x ∷ xs) zero (suc other) s apart = refl
put_there (x ∷ xs) (suc place) zero s apart = refl
put_there (x ∷ xs) (suc place) (suc other) s apart = put_there xs place other s (λ same. apart (ap suc same))

module _ (g : Graph) (es : List WorkspaceEntry) (e : WorkspaceEntry) (place : ℕ)
    (old new : List (Option WorkspaceSpan)) (at_place : e.place ≡ Some place) (inside : place < length g.crates)
    (are : AreSpans g es old) (put : IsPut g place e old new) where
  is_put : span_at new place ≡ Some put.span
  is_put = ap (λ spans. span_at spans place) put.is ∙ put_here old place put.span (omega (arith, are.long))

  asked : (p : ℕ) (b : Bool) → (place == p) ≡ b → span_of (es ++ e ∷ []) p ≡ cond b (Some e) (span_of es p)
  asked p b is = span_of-push es e p
      ∙ ap (λ o. cond (option_map_or (λ q. q == p) o false) (Some e) (span_of es p)) at_place
      ∙ ap (λ t. cond t (Some e) (span_of es p)) is

  others : (p : ℕ) → (place == p) ≡ false → span_at new p ≡ span_at old p
  others p other = ap (λ spans. span_at spans p) put.is
      ∙ put_there old place p put.span (λ same. true≢false (sym (eq-eqb place p same) ∙ other))

  at_each : (p : ℕ) → option_map (span_view p) (span_at new p) ≡ span_of (es ++ e ∷ []) p
  at_each p = elim (cases_Bool (place == p))
      as (λ _. option_map (span_view p) (span_at new p) ≡ span_of (es ++ e ∷ []) p) [
        | inl same ↦ subst (λ p. option_map (span_view p) (span_at new p) ≡ Some e) (eqb-true place p same)
            (ap (option_map (span_view place)) is_put ∙ ap (λ e. Some e) put.says) ∙ sym (asked p true same)
        | inr other ↦ ap (option_map (span_view p)) (others p other) ∙ are.at p ∙ sym (asked p false other)
      ]

  krate_each : (p : ℕ) → IfSome (span_at new p) (λ s. slice_get g.crates p ≡ Some (crate_view p s.krate.now))
  krate_each p = elim (cases_Bool (place == p))
      as (λ _. IfSome (span_at new p) (λ s. slice_get g.crates p ≡ Some (crate_view p s.krate.now))) [
        | inl same ↦ subst (λ p. IfSome (span_at new p) (λ s. slice_get g.crates p ≡ Some (crate_view p s.krate.now)))
            (eqb-true place p same)
            (subst (λ o. IfSome o (λ s. slice_get g.crates place ≡ Some (crate_view place s.krate.now)))
            (sym is_put) put.of)
        | inr other ↦ subst (λ o. IfSome o (λ s. slice_get g.crates p ≡ Some (crate_view p s.krate.now)))
            (sym (others p other)) (are.krates p)
      ]

  -- an entry that was just put is the last that resolves to its crate
  spans_put : AreSpans g (es ++ e ∷ []) new
  spans_put = record {
    long = ap length put.is ∙ length-set old place (Some put.span) ∙ are.long;
    at = at_each;
    krates = krate_each;
  }

-- ---- places at which nothing was put

pub record AreNone (count : ℕ) (spans : List (Option WorkspaceSpan)) : Type 0 where
  pub long : length spans ≡ count
  pub none : (place : ℕ) → span_at spans place ≡ None

none_pushed : (spans : List (Option WorkspaceSpan)) → ((place : ℕ) → span_at spans place ≡ None) → (place : ℕ)
    → span_at (spans ++ None ∷ []) place ≡ None
none_pushed [] none zero = refl
none_pushed [] none (suc place) = refl
none_pushed (x ∷ xs) none zero = none 0
none_pushed (x ∷ xs) none (suc place) = none_pushed xs (λ p. none (suc p)) place

pub no_spans_yet : (spans : List (Option WorkspaceSpan)) → spans ≡ [] → AreNone 0 spans
no_spans_yet spans is = record { long = ap length is; none = λ place. ap (λ spans. span_at spans place) is }

pub no_spans_more : (count : ℕ) (old new : List (Option WorkspaceSpan)) → AreNone count old → new ≡ old ++ None ∷ []
    → AreNone (count + 1) new
no_spans_more count old new are is = record {
  long = ap length is ∙ length-append old (None ∷ []) ∙ ap (λ n. n + 1) are.long;
  none = λ place. ap (λ spans. span_at spans place) is ∙ none_pushed old are.none place;
}

pub no_spans_all : (g : Graph) (count : ℕ) (spans : List (Option WorkspaceSpan)) → AreNone count spans
    → count ≡ length g.crates → AreSpans g [] spans
unfolding span_of
no_spans_all g count spans are all = record {
  long = are.long ∙ all;
  at = λ place. ap (option_map (span_view place)) (are.none place);
  krates = λ place. subst (λ o. IfSome o (λ s. slice_get g.crates place ≡ Some (crate_view place s.krate.now)))
      (sym (are.none place)) tt;
}

-- ---- the entries that were taken, one by one

module _ (g : Graph) (registries : List Registry) where
  abbrev pub resolved : Read → WorkspaceEntry
  resolved e = resolved_entry g registries (entry_view e)

  -- the spans and the unused entries after some of the entries
  pub record AreKept (entries : List Read) (spans : List (Option WorkspaceSpan)) (unused : List UnusedWorkspaceDep)
      : Type 0 where
    pub spans_are : AreSpans g (map resolved entries) spans
    pub unused_are : map (dep_view None) unused ≡ unused_in (map resolved entries)

  one_more : (es : List Read) (e : Read) (t : WorkspaceEntry) → t ≡ resolved e
      → map resolved (es ++ e ∷ []) ≡ map resolved es ++ t ∷ []
  one_more es e t is = map-append resolved es (e ∷ []) ∙ ap (λ t. map resolved es ++ t ∷ []) (sym is)

  pub kept_at : (es : List Read) (e : Read) (place : ℕ) (dep : UnusedWorkspaceDep)
      (old new : List (Option WorkspaceSpan)) (unused : List UnusedWorkspaceDep)
      → dep_view (Some place) dep ≡ resolved e → place < length g.crates
      → IsPut g place (dep_view (Some place) dep) old new → AreKept es old unused
      → AreKept (es ++ e ∷ []) new unused
  kept_at es e place dep old new unused is inside put are =
      let more = one_more es e (dep_view (Some place) dep) is in
      record {
        spans_are = subst (λ ts. AreSpans g ts new) (sym more)
            (spans_put g (map resolved es) (dep_view (Some place) dep) place old new refl inside are.spans_are put);
        unused_are = are.unused_are
            ∙ sym (ap unused_in more ∙ unused_stay (map resolved es) (dep_view (Some place) dep) place refl);
      }

  pub kept_unused : (es : List Read) (e : Read) (dep : UnusedWorkspaceDep) (spans : List (Option WorkspaceSpan))
      (old new : List UnusedWorkspaceDep) → dep_view None dep ≡ resolved e → new ≡ old ++ dep ∷ []
      → AreKept es spans old → AreKept (es ++ e ∷ []) spans new
  kept_unused es e dep spans old new is pushed are =
      let more = one_more es e (dep_view None dep) is in
      record {
        spans_are = subst (λ ts. AreSpans g ts spans) (sym more)
            (spans_stay g (map resolved es) (dep_view None dep) spans refl are.spans_are);
        unused_are = ap (map (dep_view None)) pushed ∙ map-append (dep_view None) old (dep ∷ [])
            ∙ ap (λ us. us ++ dep_view None dep ∷ []) are.unused_are
            ∙ sym (ap unused_in more ∙ unused_more (map resolved es) (dep_view None dep) refl);
      }

  -- the entries of a tree, as they were read
  pub all_resolved : (tree : Value) (es : List Read)
      → map entry_view es ≡ entries_of (patches_in tree) (dependencies_in tree)
      → map resolved es ≡ entries_in g registries tree
  unfolding entries_in
  all_resolved tree es are = sym (map-map (resolved_entry g registries) entry_view es)
      ∙ ap (map (resolved_entry g registries)) are
