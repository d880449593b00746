-- What is found by places and spans is what the definitions report and hit.
use Rattle.std.proofs.Common.{◌≡◌, ◌++◌, ℕ, Bool, true, false, List, [], ◌∷◌, Contains, Option, Some, None, cond}
use Rattle.std.proofs.Common.{filter, find, map, refl, sym, ap, ◌∙◌, subst, inl, inr, not}
use Rattle.std.specs.Prelude.{◌&&◌, filter_map, is_none, option_and_then, option_map}
use Rattle.std.specs.List.{flat_map, list_any}
use Rattle.std.specs.List.Sorted.{IsStrictlySortedBy}
use Rattle.std.specs.Map.{lookup}
use Rattle.std.specs.Option.{option_map_or}
use Rattle.std.specs.Ordering.{eq_by_cmp, nat_cmp, on}
use Rattle.std.proofs.lemmas.Bool.{cases_Bool}
use Rattle.std.proofs.lemmas.List.Elements.{All-weaker}
use Rattle.std.proofs.lemmas.List.Kept.{IsStrictlySortedBy-filter}
use Rattle.std.proofs.lemmas.Option.{none-some}
use Rattle.std.proofs.lemmas.Simd.{map-map}
use Rattle.deny_base_lists.specs.Ascending.{AreFirst, Lists}
use Rattle.deny_base_lists.specs.First.{FindsFirst}
use Rattle.deny_base_lists.proofs.Agreement.{filter_map_on, filter_on, find_on}
use Rattle.deny_base_lists.proofs.Filters.{filter-map, filter_map-map, find-any, find-filter, find-map}
use Rattle.deny_base_lists.proofs.Members.{Contains-first, Contains-rest}
use Rattle.deny_base_lists.proofs.Sorted.{ascends_map}
use Rattle.deny_base_lists.proofs.Options.{is_none-option_map}
use Rattle.deny_base_lists.proofs.Booleans.{and-true, and-false}
use Rattle.deny_krates.specs.Placed.{ArePlaced}
use Rattle.deny_base.specs.KeyOrder.{span_cmp}
use Rattle.deny_base.specs.declared.entry.EntryKind.TheVariants.{ReplacementIgnore}
use Rattle.deny_base.specs.declared.entry.Hit.{Hit}
use Rattle.deny_base.specs.declared.entry.Witness.TheVariants.{Krate}
use Rattle.deny_base.specs.declared.span.Span.{Span}
use Rattle.deny_cfg.specs.PackageSpecOrExtended.{PackageSpecOrExtended}
use Rattle.deny_cfg.specs.PolicyView.{entry_view}
use Rattle.deny_cfg.specs.Waiver.{Waiver}
use Rattle.deny_spec.specs.Graph.{Crate, Graph, kid_of}
use Rattle.deny_spec.specs.Hits.{hit_of}
use Rattle.deny_spec.specs.Policy.{Entry, Replacing}
use Rattle.deny_spec.specs.DiagParts.{crate_at}
use Rattle.deny_spec.specs.Wrappers.{same_span}
use Rattle.deny_spec.proofs.SpanLemmas.{same-span, eq_by_cmp-span_cmp}
use Rattle.deny_spec_report.specs.FirstMatch.{first_of}
use Rattle.deny_spec_report.specs.Saying.{Saying}
use Rattle.deny_spec_report.specs.StdReplacements.{hits_ignore, ignore_at, ignore_hit, ignore_hits, ignore_of}
use Rattle.deny_spec_report.specs.StdReplacements.{ignore_span}
use Rattle.deny_spec_report.specs.StdReplacements.{ignores, is_hit_ignore, is_replaced, is_reported_replaced}
use Rattle.deny_spec_report.specs.StdReplacements.{is_unmatched_ignore}
use Rattle.deny_spec_report.specs.StdReplacements.{looks_at_none}
use Rattle.deny_std.specs.declared.first_witnesses.FirstWitnesses.{FirstWitnesses}
use Rattle.deny_std.specs.declared.diags.Unmatched.{Unmatched}
use Rattle.deny_std.specs.private.FirstWitnesses.{place_in, is_same_span}
use Rattle.deny_std.specs.private.Hits.{hit_at, is_unmatched, unmatched_in, unmatched_span}
use Rattle.deny_std.specs.private.Kept.{AreKept, AreReportedPlaces, AreUnmatched}
use Rattle.deny_std.specs.private.Partition.{ignored_at, ignored_of, span_at, reported_at, reported_of}
use Rattle.deny_std.specs.private.Diags.{unmatched_of}
use Rattle.deny_std.proofs.PlaceLemmas.{places_ascend}

abbrev place_of : Crate → ℕ
place_of c = c.place

module _ (r : Replacing) (g : Graph) (said : Saying) where
  -- the crate is replaced, and the first ignore that matches it has this span
  abbrev hits_span : Span → Crate → Bool
  hits_span span c = is_replaced r g said c && option_map_or (λ f. same_span (ignore_span f) span)
      (ignore_of r c) false

  abbrev unmatched_at : Span → Bool
  unmatched_at span = not (looks_at_none r.scope) && not (list_any (hits_span span) g.crates)

  by-span : (e : Entry) → is_unmatched_ignore r g said e ≡ unmatched_at (ignore_span e)
  unfolding is_unmatched_ignore is_hit_ignore hits_ignore ignore_of
  by-span e = refl

  -- of the ignores of one span the first is unmatched where one of them is
  first-kept : (u : Unmatched)
      → find (λ other. eq_by_cmp span_cmp u.span (unmatched_span other))
      (map unmatched_of (filter (is_unmatched_ignore r g said) r.ignore)) ≡ Some u
      → option_map unmatched_of (ignore_at r u.span) ≡ Some u
  first-kept u is = elim (cases_Bool (unmatched_at u.span))
      as (λ _. option_map unmatched_of (ignore_at r u.span) ≡ Some u) [
        | inl is_so ↦ ap (option_map unmatched_of) (sym (find_on both same r.ignore (λ e _. agrees e is_so))) ∙ found
        | inr not_so ↦ absurd (none-some u (ap (option_map unmatched_of) (sym (none r.ignore not_so)) ∙ found))
      ]
    where
      same : Entry → Bool
      same = λ e. same_span (ignore_span e) u.span

      both : Entry → Bool
      both = λ e. eq_by_cmp span_cmp u.span (ignore_span e) && is_unmatched_ignore r g said e

      found : option_map unmatched_of (find both r.ignore) ≡ Some u
      found = ap (option_map unmatched_of)
          (sym (find-filter (λ (e : Entry). eq_by_cmp span_cmp u.span (ignore_span e))
          (is_unmatched_ignore r g said) r.ignore))
          ∙ (sym (find-map (λ (other : Unmatched). eq_by_cmp span_cmp u.span (unmatched_span other)) unmatched_of
          (filter (is_unmatched_ignore r g said) r.ignore)) ∙ is)

      by_same : (e : Entry) (s : Bool) → same_span (ignore_span e) u.span ≡ s
          → both e ≡ (s && unmatched_at u.span)
      by_same e true here =
          ap (λ b. b && is_unmatched_ignore r g said e) (eq_by_cmp-span_cmp u.span (ignore_span e) ∙ here)
          ∙ (by-span e ∙ ap unmatched_at (same-span (ignore_span e) u.span here))
      by_same e false here =
          ap (λ b. b && is_unmatched_ignore r g said e) (eq_by_cmp-span_cmp u.span (ignore_span e) ∙ here)

      agrees : (e : Entry) → unmatched_at u.span ≡ true → both e ≡ same e
      agrees e is_so = by_same e (same e) refl ∙ (ap (λ b. same e && b) is_so ∙ and-true (same e))

      none : (es : List Entry) → unmatched_at u.span ≡ false → find both es ≡ None
      none [] not_so = refl
      none (e ∷ es) not_so =
          ap (λ b. cond b (Some e) (find both es)) (by_same e (same e) refl ∙ (ap (λ b. same e && b) not_so
          ∙ and-false (same e)))
          ∙ none es not_so

  are-unmatched : (olds us : List Unmatched) → olds ≡ map unmatched_of (filter
      (is_unmatched_ignore r g said) r.ignore)
      → Lists span_cmp (Contains (map unmatched_span olds)) (map unmatched_span us)
      → AreFirst span_cmp unmatched_span olds us → AreUnmatched r g said us
  are-unmatched olds us same listed first = record {
    listed = subst (λ (spans : List Span). Lists span_cmp (Contains spans) (map unmatched_span us))
        (ap (map unmatched_span) same
        ∙ map-map unmatched_span unmatched_of (filter (is_unmatched_ignore r g said) r.ignore)) listed;
    first = All-weaker (λ (u : Unmatched). find (λ other. eq_by_cmp span_cmp u.span (unmatched_span other)) olds
        ≡ Some u)
        (λ (u : Unmatched). option_map unmatched_of (ignore_at r u.span) ≡ Some u)
        (λ u is. first-kept u
        (subst (λ (xs : List Unmatched). find (λ other. eq_by_cmp span_cmp u.span (unmatched_span other)) xs ≡ Some u)
        same is)) us first;
  }

  module _ (entries : List (PackageSpecOrExtended Waiver)) (ignore : r.ignore ≡ map entry_view entries)
      (placed : ArePlaced g.crates) where
    -- the span of the first ignore that matches a crate is found by the crate's place
    span-there : (c : Crate) → Contains g.crates c
        → span_at entries g c.place ≡ option_map ignore_span (ignore_of r c)
    unfolding ignore_of
    span-there c holds =
        ap (λ (o : Option Crate). option_and_then
        (λ d. option_map ignore_span (first_of ignores (map entry_view entries) d)) o) (placed.at c holds)
        ∙ ap (λ (es : List Entry). option_map ignore_span (first_of ignores es c)) (sym ignore)

    -- ---- crates that are reported

    reported-from : (cs : List Crate) → ((c : Crate) → Contains cs c → Contains g.crates c)
        → flat_map (reported_at entries g) (map place_of (filter (is_replaced r g said) cs))
        ≡ map place_of (filter (is_reported_replaced r g said) cs)
    unfolding is_reported_replaced
    reported-from [] hold = refl
    reported-from (c ∷ cs) hold = by (is_replaced r g said c) (ignore_of r c)
        (ap (λ (span : Option Span). reported_of span c.place) (span-there c (hold c (Contains-first c cs))))
        (reported-from cs (λ d is. hold d (Contains-rest c cs d is)))
      where
        kept : List Crate
        kept = filter (is_replaced r g said) cs

        by : (b : Bool) (o : Option Entry) → reported_at entries g c.place
            ≡ reported_of (option_map ignore_span o) c.place
            → flat_map (reported_at entries g) (map place_of kept)
            ≡ map place_of (filter (is_reported_replaced r g said) cs)
            → flat_map (reported_at entries g) (map place_of (cond b (c ∷ kept) kept))
            ≡ map place_of (cond (b && is_none o) (c ∷ filter (is_reported_replaced r g said) cs)
            (filter (is_reported_replaced r g said) cs))
        by false o e rest = rest
        by true None e rest = ap (λ xs. xs ++ flat_map (reported_at entries g) (map place_of kept)) e
            ∙ ap (λ xs. c.place ∷ xs) rest
        by true (Some x) e rest = ap (λ xs. xs ++ flat_map (reported_at entries g) (map place_of kept)) e ∙ rest

    are-reported : (places reported : List ℕ) → places ≡ map place_of (filter (is_replaced r g said) g.crates)
        → reported ≡ flat_map (reported_at entries g) places → AreReportedPlaces r g said reported
    are-reported places reported replaced is =
        let are : reported ≡ map place_of (filter (is_reported_replaced r g said) g.crates) =
        is ∙ (ap (flat_map (reported_at entries g)) replaced ∙ reported-from g.crates (λ c holds. holds)) in
        record {
          ascending = subst (IsStrictlySortedBy nat_cmp) (sym are)
              (ascends_map (on place_of nat_cmp) nat_cmp place_of (λ _. Unit {0})
              (filter (is_reported_replaced r g said) g.crates) (λ a b _ _ less. less) (λ _ _. tt)
              (IsStrictlySortedBy-filter (on place_of nat_cmp) (is_reported_replaced r g said) g.crates
              (places_ascend g.crates placed)));
          are = are;
        }

    -- ---- crates that hit ignores

    witnesses-from : (span : Span) (cs : List Crate) → ((c : Crate) → Contains cs c → Contains g.crates c)
        → lookup (is_same_span span) (flat_map (ignored_at entries g) (map place_of (filter (is_replaced r g said) cs)))
        ≡ option_map place_of (find (hits_span span) cs)
    witnesses-from span [] hold = refl
    witnesses-from span (c ∷ cs) hold = by (is_replaced r g said c) (ignore_of r c)
        (ap (λ (span : Option Span). ignored_of span c.place) (span-there c (hold c (Contains-first c cs))))
        (witnesses-from span cs (λ d is. hold d (Contains-rest c cs d is)))
      where
        kept : List Crate
        kept = filter (is_replaced r g said) cs

        later : List (Span × ℕ)
        later = flat_map (ignored_at entries g) (map place_of kept)

        by_same : (d : Bool) → lookup (is_same_span span) later ≡ option_map place_of (find (hits_span span) cs)
            → cond d (Some c.place) (lookup (is_same_span span) later)
            ≡ option_map place_of (cond d (Some c) (find (hits_span span) cs))
        by_same true rest = refl
        by_same false rest = rest

        by : (b : Bool) (o : Option Entry) → ignored_at entries g c.place
            ≡ ignored_of (option_map ignore_span o) c.place
            → lookup (is_same_span span) later ≡ option_map place_of (find (hits_span span) cs)
            → lookup (is_same_span span) (flat_map (ignored_at entries g) (map place_of (cond b (c ∷ kept) kept)))
            ≡ option_map place_of (cond (b && option_map_or (λ f. same_span (ignore_span f) span) o false) (Some c)
            (find (hits_span span) cs))
        by false o e rest = rest
        by true None e rest = ap (λ xs. lookup (is_same_span span) (xs ++ later)) e ∙ rest
        by true (Some x) e rest = ap (λ xs. lookup (is_same_span span) (xs ++ later)) e
            ∙ by_same (same_span (ignore_span x) span) rest

    hit-from : (h : Crate → Hit) (p : Crate → Bool) (cs : List Crate) → ((c : Crate) → Contains cs c
        → Contains g.crates c)
        → option_and_then (λ place. option_map h (crate_at g place)) (option_map place_of (find p cs))
        ≡ option_map h (find p cs)
    hit-from h p [] hold = refl
    hit-from h p (c ∷ cs) hold = by_test (p c) (hit-from h p cs (λ d is. hold d (Contains-rest c cs d is)))
      where
        by_test : (b : Bool)
            → option_and_then (λ place. option_map h (crate_at g place)) (option_map place_of (find p cs))
            ≡ option_map h (find p cs)
            → option_and_then (λ place. option_map h (crate_at g place))
            (option_map place_of (cond b (Some c) (find p cs))) ≡ option_map h (cond b (Some c) (find p cs))
        by_test true rest = ap (option_map h) (placed.at c (hold c (Contains-first c cs)))
        by_test false rest = rest

    module _ (places : List ℕ) (witnesses : FirstWitnesses)
        (replaced : places ≡ map place_of (filter (is_replaced r g said) g.crates))
        (finds : FindsFirst is_same_span (flat_map (ignored_at entries g) places) (place_in witnesses)) where
      witnesses-is : (span : Span) → place_in witnesses span ≡ option_map place_of (find (hits_span span) g.crates)
      witnesses-is span = finds.at span
          ∙ (ap (λ (ps : List ℕ). lookup (is_same_span span) (flat_map (ignored_at entries g) ps)) replaced
          ∙ witnesses-from span g.crates (λ c holds. holds))

      hit-is : (e : PackageSpecOrExtended Waiver) → hit_at g witnesses e ≡ ignore_hit r g said (entry_view e)
      unfolding ignore_hit hits_ignore ignore_of
      hit-is e =
          let h = λ (c : Crate). hit_of ReplacementIgnore e.spec.name.span (Krate (kid_of c)) in
          ap (option_and_then (λ place. option_map h (crate_at g place))) (witnesses-is e.spec.name.span)
          ∙ hit-from h (hits_span e.spec.name.span) g.crates (λ c holds. holds)

      hits-are : filter_map (hit_at g witnesses) entries ≡ ignore_hits r g said
      unfolding ignore_hits
      hits-are =
          filter_map_on (hit_at g witnesses) (λ e. ignore_hit r g said (entry_view e)) entries (λ e _. hit-is e)
          ∙ (sym (filter_map-map (ignore_hit r g said) entry_view entries)
          ∙ ap (filter_map (ignore_hit r g said)) (sym ignore))

      unmatched-is : looks_at_none r.scope ≡ false → (e : PackageSpecOrExtended Waiver)
          → is_unmatched witnesses e ≡ is_unmatched_ignore r g said (entry_view e)
      unmatched-is scope e =
          ap is_none (witnesses-is e.spec.name.span)
          ∙ (is_none-option_map place_of (find (hits_span e.spec.name.span) g.crates)
          ∙ (ap not (sym (find-any (hits_span e.spec.name.span) g.crates))
          ∙ (ap (λ b. not b && not (list_any (hits_span e.spec.name.span) g.crates)) (sym scope)
          ∙ sym (by-span (entry_view e)))))

      unmatched-are : looks_at_none r.scope ≡ false
          → unmatched_in witnesses entries ≡ map unmatched_of (filter (is_unmatched_ignore r g said) r.ignore)
      unmatched-are scope =
          ap (map (λ e. unmatched_of (entry_view e)))
          (filter_on (is_unmatched witnesses) (λ e. is_unmatched_ignore r g said (entry_view e)) entries
          (λ e _. unmatched-is scope e))
          ∙ (sym (map-map unmatched_of entry_view (filter (λ e. is_unmatched_ignore r g said (entry_view e)) entries))
          ∙ ap (map unmatched_of) (sym (filter-map (is_unmatched_ignore r g said) entry_view entries)
          ∙ ap (filter (is_unmatched_ignore r g said)) (sym ignore)))

pub all-kept : (r : Replacing) (g : Graph) (said : Saying) (entries : List (PackageSpecOrExtended Waiver))
    (places reported : List ℕ) (witnesses : FirstWitnesses) (hits : List Hit) (us : List Unmatched)
    → r.ignore ≡ map entry_view entries → ArePlaced g.crates → looks_at_none r.scope ≡ false
    → places ≡ map (λ (c : Crate). c.place) (filter (is_replaced r g said) g.crates)
    → reported ≡ flat_map (reported_at entries g) places
    → FindsFirst is_same_span (flat_map (ignored_at entries g) places) (place_in witnesses)
    → hits ≡ filter_map (hit_at g witnesses) entries
    → Lists span_cmp (Contains (map unmatched_span (unmatched_in witnesses entries))) (map unmatched_span us)
    → AreFirst span_cmp unmatched_span (unmatched_in witnesses entries) us → AreKept r g said r.level us reported hits
all-kept r g said es places reported witnesses hits us ignore placed scope replaced sorted finds hit listed first =
    record {
      level_is = refl;
      unmatched = are-unmatched r g said (unmatched_in witnesses es) us
          (unmatched-are r g said es ignore placed places witnesses replaced finds scope) listed first;
      reported = are-reported r g said es ignore placed places reported replaced sorted;
      hits_are = hit ∙ hits-are r g said es ignore placed places witnesses replaced finds;
    }
