-- The keys of the crates that count, followed by those of unused entries, are the keys that hold.
use Rattle.std.proofs.Common.{◌≡◌, ◌++◌, ◌⊎◌, ℕ, Bool, true, List, [], ◌∷◌, Contains, Some, filter}
use Rattle.std.proofs.Common.{inl, inr, length, map, not, refl, sym, ap, ◌∙◌, subst}
use Rattle.std.specs.Prelude.{IsTrue}
use Rattle.std.specs.List.{AllByRecursion, flat_map}
use Rattle.std.specs.List.Sorted.{IsStrictlySortedBy}
use Rattle.std.specs.Ordering.{nat_cmp, on}
use Rattle.std.specs.declared.cmp.Ordering.{Ordering}
use Rattle.std.specs.declared.cmp.Ordering.TheVariants.{Less}
use Rattle.std.proofs.lemmas.List.Elements.{Contains-append_cases, Contains-append_left, Contains-append_right}
use Rattle.std.proofs.lemmas.List.Kept.{IsStrictlySortedBy-filter}
use Rattle.deny_base_lists.specs.Ascending.{Lists}
use Rattle.deny_base_lists.specs.First.{FindsFirst}
use Rattle.deny_base_lists.proofs.Agreement.{list_any_on, same_test}
use Rattle.deny_base_lists.proofs.Members.{Contains-filter, Contains-from_filter, contains_map, from_contains_map}
use Rattle.deny_base_lists.proofs.Members.{contains_map_within}
use Rattle.deny_base_lists.proofs.Sorted.{ascends_map}
use Rattle.deny_base_lists.proofs.Numbers.{range_with_len-ascends}
use Rattle.deny_base.specs.Code.{code_number, diagnostic_code_number, section_number}
use Rattle.deny_base.specs.KeyOrder.{key_cmp}
use Rattle.deny_base.specs.LicenseCode.{license_code_number}
use Rattle.deny_base.specs.declared.code.DiagnosticCode.{DiagnosticCode}
use Rattle.deny_base.specs.declared.code.DiagnosticCode.TheVariants.{Deprecated, Bans, License, Expired}
use Rattle.deny_base.specs.declared.key.Key.{Key}
use Rattle.deny_base.specs.declared.key.Section.TheVariants as section
use Rattle.deny_base.specs.declared.license_code.LicenseCode.{LicenseCode}
use Rattle.deny_base.specs.declared.license_code.LicenseCode.TheVariants as license
use Rattle.deny_base.specs.declared.span.Spanned.{Spanned}
use Rattle.deny_spdx.specs.declared.requirement.Requirement.{Requirement}
use Rattle.deny_spec.specs.Graph.{Crate, Graph}
use Rattle.deny_spec.specs.Licensing.{Exception, Licensing}
use Rattle.deny_spec_report.specs.Circumstances.{Circumstances}
use Rattle.deny_spec_report.specs.Codes.{is_of_licenses}
use Rattle.deny_spec_report.specs.EachCode.{LicenseHolds}
use Rattle.deny_spec_report.specs.Facts.{Facts}
use Rattle.deny_spec_report.specs.Licences.{Asked, IsByCounting, TestsCounting, allowance_span}
use Rattle.deny_spec_report.specs.Licences.{exception_not_encountered_keys, exception_span, grants_by_allowance}
use Rattle.deny_spec_report.specs.Licences.{grants_by_exception, hits_by, is_hit_by, is_scanned, keys_where}
use Rattle.deny_spec_report.specs.Licences.{license_key}
use Rattle.deny_spec_report.specs.Licences.{licensed_key, not_encountered_keys}
use Rattle.deny_spec_report.specs.Holding.{ListsOwn, HoldsBy, HoldsIn}
use Rattle.deny_spec_report.proofs.Parts.{lists_append, lists_same}
use Rattle.deny_spec_report.proofs.EachCode.{as_code}
use Rattle.deny_spec_report.proofs.Sections.{as_deprecated, as_expired, not_of_licenses, two_checks}
use Rattle.deny_rules_match.specs.Placed.{ArePlaced}
use Rattle.deny_krates.proofs.PlaceLemmas.{place_of}
use Rattle.deny_gate_licenses.specs.Check.{of_licences}
use Rattle.deny_gate_licenses.specs.declared.granter.Granter.{Granter}
use Rattle.deny_gate_licenses.specs.declared.granter.Granter.TheVariants as granter
use Rattle.deny_gate_licenses.specs.declared.witnesses.Witnesses.{Witnesses}
use Rattle.deny_gate_licenses.specs.private.JudgedCrates.{witnessed_at}
use Rattle.deny_gate_licenses.specs.private.Granters.{allowance_granter, exception_granter, granter_cmp}
use Rattle.deny_gate_licenses.specs.private.Granters.{policy_granters}
use Rattle.deny_gate_licenses.specs.private.Judgements.{code_of, judgement_of}
use Rattle.deny_gate_licenses.specs.private.Reported.{unused_key}
use Rattle.deny_gate_licenses.specs.private.Witnesses.{is_unused, place_in, same_granter}
use Rattle.deny_gate_licenses.proofs.HitLemmas.{unused-allowance, unused-exception}
use Rattle.deny_gate_licenses.proofs.JudgementLemmas.{code-sound, code-whole, rule_of}

abbrev pub crate_key : Licensing → Crate → Key
crate_key l c = licensed_key (code_of (judgement_of l c)) c

-- ---- their order

all-unmapped : {X Y : Type 0} (f : X → Y) (P : Y → Type 0) (xs : List X) → AllByRecursion P (map f xs)
    → AllByRecursion (λ x. P (f x)) xs
all-unmapped f P [] all = tt
all-unmapped f P (x ∷ xs) all = (all.0, all-unmapped f P xs all.1)

unmapped : {X Y : Type 0} (f : X → Y) (cmp : Y → Y → Ordering) (xs : List X) → IsStrictlySortedBy cmp (map f xs)
    → IsStrictlySortedBy (on f cmp) xs
unfolding IsStrictlySortedBy
unmapped f cmp [] up = tt
unmapped f cmp (x ∷ xs) up = (all-unmapped f (λ y. cmp (f x) y ≡ Less) xs up.0, unmapped f cmp xs up.1)

counted-ascend : (g : Graph) (counts : Crate → Bool) → ArePlaced g.crates
    → IsStrictlySortedBy (on place_of nat_cmp) (filter counts g.crates)
counted-ascend g counts placed = IsStrictlySortedBy-filter (on place_of nat_cmp) counts g.crates
    (unmapped place_of nat_cmp g.crates
    (subst (IsStrictlySortedBy nat_cmp) (sym placed.places) (range_with_len-ascends 0 (length g.crates))))

crate-below : (l : Licensing) (c d : Crate) → nat_cmp c.place d.place ≡ Less
    → key_cmp (crate_key l c) (crate_key l d) ≡ Less
unfolding section_number
crate-below l c d less = rw less refl

unused-below : (x y : Granter) → granter_cmp x y ≡ Less → key_cmp (unused_key x) (unused_key y) ≡ Less
unfolding section_number code_number license_code_number diagnostic_code_number
unused-below (granter.Allowance r) (granter.Allowance s) less = rw less refl
unused-below (granter.Exception r) (granter.Exception s) less = rw less refl
unused-below (granter.Allowance r) (granter.Exception s) less = refl
unused-below (granter.Exception r) (granter.Allowance s) less = absurd (cc less)

far : (l : Licensing) (c : Crate) (x : Granter) → key_cmp (crate_key l c) (unused_key x) ≡ Less
unfolding section_number
far l c x = refl

-- ---- the keys that hold

module _ (l : Licensing) (g : Graph) (file : ℕ) (placed : ArePlaced g.crates) (counts : Crate → Bool)
    (reports : TestsCounting l g counts) (witnesses : Witnesses)
    (finds : FindsFirst same_granter (flat_map (witnessed_at l g) (map place_of (filter counts g.crates)))
    (place_in witnesses)) where
  abbrev counted : List Crate
  counted = filter counts g.crates

  abbrev nothing_granted : List Granter
  nothing_granted = filter (is_unused witnesses) (policy_granters l)

  abbrev OfCrate : Key → Type 0
  OfCrate key = Contains (map (crate_key l) counted) key

  abbrev OfEntry : Key → Type 0
  OfEntry key = Contains (map unused_key nothing_granted) key

  -- ---- a key of a crate or an entry holds

  holds-by : (d : LicenseCode) (c : Crate) → Contains g.crates c → rule_of d counts l c ≡ true
      → LicenseHolds d (Some l) g (licensed_key d c)
  unfolding keys_where
  holds-by license.Accepted c holds is = record {
    counts = counts;
    reports = reports;
    listed = contains_map (licensed_key license.Accepted) _ c (Contains-filter _ g.crates c holds is);
  }
  holds-by license.Rejected c holds is = record {
    counts = counts;
    reports = reports;
    listed = contains_map (licensed_key license.Rejected) _ c (Contains-filter _ g.crates c holds is);
  }
  holds-by license.Unlicensed c holds is = record {
    counts = counts;
    reports = reports;
    listed = contains_map (licensed_key license.Unlicensed) _ c (Contains-filter _ g.crates c holds is);
  }
  holds-by license.ParseError c holds is = record {
    counts = counts;
    reports = reports;
    listed = contains_map (licensed_key license.ParseError) _ c (Contains-filter _ g.crates c holds is);
  }
  holds-by license.SkippedPrivateWorkspaceCrate c holds is = record {
    counts = counts;
    reports = reports;
    listed = contains_map (licensed_key license.SkippedPrivateWorkspaceCrate) _ c
        (Contains-filter _ g.crates c holds is);
  }
  holds-by license.LicenseNotEncountered c holds is = absurd (cc is)
  holds-by license.LicenseExceptionNotEncountered c holds is = absurd (cc is)

  module _ (c : Circumstances) (facts : Facts) where
    from-crate : (key : Key) → OfCrate key → HoldsIn is_of_licenses (of_licences l g file c) facts key
    from-crate key is =
        let of = from_contains_map (crate_key l) counted key is in
        let kept = Contains-from_filter counts g.crates of.0 of.1 in
        subst (HoldsIn is_of_licenses (of_licences l g file c) facts) of.2
        (refl, holds-by (code_of (judgement_of l of.0)) of.0 kept.0 (code-sound l of.0 counts kept.1))

    from-allowance : (a : Spanned Requirement) → Contains l.allow a → is_unused witnesses (allowance_granter a) ≡ true
        → HoldsIn is_of_licenses (of_licences l g file c) facts (unused_key (allowance_granter a))
    unfolding not_encountered_keys
    from-allowance a listed is = (
      refl,
      record {
        counts = counts;
        reports = reports;
        listed = contains_map (λ (b : Spanned Requirement). license_key section.LicensesUnused
            license.LicenseNotEncountered 0 (allowance_span b)) _ a
            (Contains-filter _ l.allow a listed (sym (unused-allowance l g placed counts witnesses finds a) ∙ is));
      },
    )

    from-exception : (e : Exception) → Contains l.exceptions e → is_unused witnesses (exception_granter e) ≡ true
        → HoldsIn is_of_licenses (of_licences l g file c) facts (unused_key (exception_granter e))
    unfolding exception_not_encountered_keys
    from-exception e listed is = (
      refl,
      record {
        counts = counts;
        reports = reports;
        listed = contains_map (λ (f : Exception). license_key section.LicensesUnused
            license.LicenseExceptionNotEncountered 0 (exception_span f)) _ e
            (Contains-filter _ l.exceptions e listed (sym (unused-exception l g placed counts witnesses finds e) ∙ is));
      },
    )

    from-granter : (x : Granter) → Contains (policy_granters l) x → is_unused witnesses x ≡ true
        → HoldsIn is_of_licenses (of_licences l g file c) facts (unused_key x)
    from-granter x listed is = elim (Contains-append_cases (map allowance_granter l.allow)
        (map exception_granter l.exceptions) x listed)
        as (λ _. HoldsIn is_of_licenses (of_licences l g file c) facts (unused_key x)) [
          | inl here ↦
              let of = from_contains_map allowance_granter l.allow x here in
              subst (λ (y : Granter). HoldsIn is_of_licenses (of_licences l g file c) facts (unused_key y)) of.2
              (from-allowance of.0 of.1 (ap (is_unused witnesses) of.2 ∙ is))
          | inr there ↦
              let of = from_contains_map exception_granter l.exceptions x there in
              subst (λ (y : Granter). HoldsIn is_of_licenses (of_licences l g file c) facts (unused_key y)) of.2
              (from-exception of.0 of.1 (ap (is_unused witnesses) of.2 ∙ is))
        ]

    from-entry : (key : Key) → OfEntry key → HoldsIn is_of_licenses (of_licences l g file c) facts key
    from-entry key is =
        let of = from_contains_map unused_key nothing_granted key is in
        let kept = Contains-from_filter (is_unused witnesses) (policy_granters l) of.0 of.1 in
        subst (HoldsIn is_of_licenses (of_licences l g file c) facts) of.2 (from-granter of.0 kept.0 kept.1)

    -- ---- a key that holds is one of a crate or an entry

    same-count : (other : Crate → Bool) → TestsCounting l g other → (d : Crate) → Contains g.crates d
        → other d ≡ counts d
    same-count other reported d holds = same_test (other d) (counts d) (reported d holds) (reports d holds)

    to-crate : (d : LicenseCode) (key : Key) → IsByCounting (λ counts l g. keys_where d (rule_of d counts l) g) l g key
        → OfCrate key
    unfolding keys_where
    to-crate d key is =
        let of = from_contains_map (licensed_key d) (filter (rule_of d is.counts l) g.crates) key is.listed in
        let kept = Contains-from_filter (rule_of d is.counts l) g.crates of.0 of.1 in
        let whole = code-whole l of.0 d is.counts kept.1 in
        subst OfCrate (ap (λ e. licensed_key e of.0) whole.1 ∙ of.2)
        (contains_map (crate_key l) counted of.0 (Contains-filter counts g.crates of.0 kept.0
        (sym (same-count is.counts is.reports of.0 kept.0) ∙ whole.0)))

    same-hit : (other : Crate → Bool) → TestsCounting l g other → (grants : Asked → Bool)
        → is_hit_by other l g grants ≡ is_hit_by counts l g grants
    unfolding is_hit_by hits_by is_scanned
    same-hit other reported grants = list_any_on (hits_by other l grants) (hits_by counts l grants) g.crates
        (λ d holds. ap (λ b. hits_with d b) (same-count other reported d holds))
      where
        hits_with : Crate → Bool → Bool
        hits_with d b = hits_by (λ e. b) l grants d

    to-entry : (x : Granter) (key : Key) → Contains (policy_granters l) x → is_unused witnesses x ≡ true
        → unused_key x ≡ key → OfEntry key
    to-entry x key listed is same = subst OfEntry same (contains_map unused_key nothing_granted x
        (Contains-filter (is_unused witnesses) (policy_granters l) x listed is))

    to-allowance : (key : Key) → IsByCounting not_encountered_keys l g key → OfEntry key
    unfolding not_encountered_keys
    to-allowance key is =
        let of = from_contains_map (λ (b : Spanned Requirement). license_key section.LicensesUnused
        license.LicenseNotEncountered 0 (allowance_span b)) _ key is.listed in
        let kept = Contains-from_filter _ l.allow of.0 of.1 in
        to-entry (allowance_granter of.0) key
        (Contains-append_left (map allowance_granter l.allow) (map exception_granter l.exceptions)
        (allowance_granter of.0)
        (contains_map allowance_granter l.allow of.0 kept.0))
        (unused-allowance l g placed counts witnesses finds of.0
        ∙ (ap not (sym (same-hit is.counts is.reports (grants_by_allowance l of.0))) ∙ kept.1)) of.2

    to-exception : (key : Key) → IsByCounting exception_not_encountered_keys l g key → OfEntry key
    unfolding exception_not_encountered_keys
    to-exception key is =
        let of = from_contains_map (λ (f : Exception). license_key section.LicensesUnused
        license.LicenseExceptionNotEncountered 0 (exception_span f)) _ key is.listed in
        let kept = Contains-from_filter _ l.exceptions of.0 of.1 in
        to-entry (exception_granter of.0) key
        (Contains-append_right (map allowance_granter l.allow) (map exception_granter l.exceptions)
        (exception_granter of.0) (contains_map exception_granter l.exceptions of.0 kept.0))
        (unused-exception l g placed counts witnesses finds of.0
        ∙ (ap not (sym (same-hit is.counts is.reports (grants_by_exception l of.0))) ∙ kept.1)) of.2

    by-license : (d : LicenseCode) (key : Key) → LicenseHolds d (Some l) g key → OfCrate key ⊎ OfEntry key
    by-license license.Accepted key is = inl (to-crate license.Accepted key is)
    by-license license.Rejected key is = inl (to-crate license.Rejected key is)
    by-license license.Unlicensed key is = inl (to-crate license.Unlicensed key is)
    by-license license.ParseError key is = inl (to-crate license.ParseError key is)
    by-license license.SkippedPrivateWorkspaceCrate key is =
        inl (to-crate license.SkippedPrivateWorkspaceCrate key is)
    by-license license.LicenseNotEncountered key is = inr (to-allowance key is)
    by-license license.LicenseExceptionNotEncountered key is = inr (to-exception key is)

    by-code : (d : DiagnosticCode) (key : Key) → IsTrue (is_of_licenses key.section)
        → HoldsBy d (of_licences l g file c) facts key → OfCrate key ⊎ OfEntry key
    by-code Deprecated key mine is =
        absurd (not_of_licenses key.section (as_deprecated (of_licences l g file c) key is) mine)
    by-code (Bans d) key mine is =
        absurd (two_checks key.section (as_code d (of_licences l g file c) facts key is) mine)
    by-code (License d) key mine is = by-license d key is
    by-code Expired key mine is = absurd (not_of_licenses key.section (as_expired c.expired key is) mine)

    back : (key : Key) → HoldsIn is_of_licenses (of_licences l g file c) facts key → OfCrate key ⊎ OfEntry key
    back key is = by-code key.code key is.0 is.1

    -- ---- the whole list

    crates-listed : Lists key_cmp OfCrate (map (crate_key l) counted)
    crates-listed = record {
      ascending = ascends_map (on place_of nat_cmp) key_cmp (crate_key l) (λ _. Unit {0}) counted
          (λ a b _ _ less. crate-below l a b less) (λ _ _. tt) (counted-ascend g counts placed);
      whole = λ key is. is;
      sound = λ key is. is;
    }

    entries-listed : (unused : List Granter) → Lists granter_cmp (Contains nothing_granted) unused
        → Lists key_cmp OfEntry (map unused_key unused)
    entries-listed unused listed = record {
      ascending = ascends_map granter_cmp key_cmp unused_key (λ _. Unit {0}) unused
          (λ a b _ _ less. unused-below a b less) (λ _ _. tt) listed.ascending;
      whole = λ key is. contains_map_within unused_key nothing_granted unused listed.whole key is;
      sound = λ key is. contains_map_within unused_key unused nothing_granted listed.sound key is;
    }

    pub keys-listed : (unused : List Granter) → Lists granter_cmp (Contains nothing_granted) unused
        → ListsOwn is_of_licenses (of_licences l g file c) facts
        (map (crate_key l) counted ++ map unused_key unused)
    keys-listed unused listed = lists_same key_cmp (λ key. OfCrate key ⊎ OfEntry key)
        (HoldsIn is_of_licenses (of_licences l g file c) facts) (map (crate_key l) counted ++ map unused_key unused)
        (lists_append key_cmp OfCrate OfEntry (map (crate_key l) counted) (map unused_key unused) crates-listed
        (entries-listed unused listed) apart)
        (λ key is. elim is as (λ _. HoldsIn is_of_licenses (of_licences l g file c) facts key)
        [ inl here ↦ from-crate key here | inr there ↦ from-entry key there ]) back
      where
        apart : (x y : Key) → OfCrate x → OfEntry y → key_cmp x y ≡ Less
        apart x y is there =
            let one = from_contains_map (crate_key l) counted x is in
            let other = from_contains_map unused_key nothing_granted y there in
            subst (λ (key : Key). key_cmp key y ≡ Less) one.2
            (subst (λ (key : Key). key_cmp (crate_key l one.0) key ≡ Less) other.2 (far l one.0 other.0))
