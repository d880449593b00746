-- Entries of any kind that nothing hits can be taken out of a policy: the wrappers go first, then the ignores, then the
-- skips and skipped trees, then bypasses with their paths and globs, and then licences and exceptions.
use Rattle.std.proofs.Common.{◌≡◌, ◌&&◌, ◌∙◌, Bool, List, None, Option, Some, ap, false, inl, inr, map, not, refl}
use Rattle.std.proofs.Common.{subst, true}
use Rattle.std.specs.Prelude.{filter, option_map}
use Rattle.std.specs.FinMap.{IsAntisymmetric}
use Rattle.std.specs.Option.{option_map_or}
use Rattle.std.proofs.lemmas.Bool.{cases_Bool}
use Rattle.deny_base_lists.proofs.Agreement.{filter_on, map_on}
use Rattle.deny_base_lists.proofs.Filters.{filter-filter}
use Rattle.deny_base_lists.proofs.Members.{filtered}
use Rattle.deny_base_lists.specs.Ascending.{Lists}
use Rattle.deny_base.specs.Code.{unused_kind}
use Rattle.deny_base.specs.Entry.{entry_cmp}
use Rattle.deny_base.specs.KeyOrder.{key_cmp}
use Rattle.deny_base.specs.declared.entry.EntryId.{EntryId}
use Rattle.deny_base.specs.declared.entry.EntryKind.{EntryKind}
use Rattle.deny_base.specs.declared.entry.EntryKind.TheVariants as kind
use Rattle.deny_base.specs.declared.entry.EntryKind.TheVariants.{LicenseAllow, LicenseException, ReplacementIgnore}
use Rattle.deny_base.specs.declared.entry.EntryKind.TheVariants.{Skip, SkipRoot, Wrapper}
use Rattle.deny_base.specs.declared.entry.Hit.{Hit}
use Rattle.deny_base.specs.declared.key.Key.{Key}
use Rattle.deny_base.specs.declared.span.Span.{Span}
use Rattle.deny_base.specs.declared.span.Spanned.{Spanned}
use Rattle.deny_spdx.specs.declared.requirement.Requirement.{Requirement}
use Rattle.deny_spec.specs.Building.{AllowedPath, Building, Bypass}
use Rattle.deny_spec.specs.Bans.{has_wrappers}
use Rattle.deny_spec.specs.Graph.{Crate}
use Rattle.deny_spec.specs.Licensing.{Exception, Licensing}
use Rattle.deny_spec.specs.Policy as policy
use Rattle.deny_spec.specs.Policy.{Ban, Entry, Policy, Replacing, Root}
use Rattle.deny_spec_report.specs.BuildScripts.{bypass_span}
use Rattle.deny_spec_report.specs.Circumstances.{Circumstances}
use Rattle.deny_spec_report.specs.Facts.{Facts, AreFacts}
use Rattle.deny_spec_report.specs.Hits.{TestsLicensed, both_hits}
use Rattle.deny_spec_report.specs.Licences.{allowance_span, exception_span}
use Rattle.deny_spec_report.specs.PackageFiles.{path_span}
use Rattle.deny_spec_report.specs.Holding.{Holds}
use Rattle.deny_spec_report.specs.StdReplacements.{ignore_span}
use Rattle.deny_spec_removal.specs.BypassRemoval.{AreUnhitBypasses, without_bypasses_in}
use Rattle.deny_spec_removal.specs.IgnoreRemoval.{AreUnhitIgnores, without_ignores, without_ignores_in}
use Rattle.deny_spec_removal.specs.LicenceRemoval.{AreUnhitLicences, without_licences_in}
use Rattle.deny_spec_removal.specs.Removal.{AreGone, EmptyNone, HaveNoHit, NoBypasses, NoLicences, cut, cut_building}
use Rattle.deny_spec_removal.specs.Removal.{cut_bypass, cut_licensing, cut_replacing, is_taken, names, stays_allowance}
use Rattle.deny_spec_removal.specs.Removal.{stays_bypass, stays_exception, stays_glob, stays_ignore, stays_path}
use Rattle.deny_spec_removal.specs.Removal.{stays_root}
use Rattle.deny_spec_removal.specs.Removal.{stays_skip, stays_wrapper, unnaming, without, without_in}
use Rattle.deny_spec_removal.specs.SkipRemoval.{AreUnhit, without_skips, without_skips_in}
use Rattle.deny_spec_removal.specs.WrapperRemoval.{AreUnhitWrappers, without_wrappers, without_wrappers_in}
use Rattle.deny_spec_removal.proofs.BypassRemoval.{bypasses_gone}
use Rattle.deny_spec_removal.proofs.PolicyParts.{with_lists}
use Rattle.deny_spec_removal.proofs.IgnoreRemoval.{ignores_gone}
use Rattle.deny_spec_removal.proofs.LicenceRemoval.{licences_gone}
use Rattle.deny_spec_removal.proofs.SkipRemoval.{skips_gone}
use Rattle.deny_spec_removal.proofs.Taken.{none_among, taken_among}
use Rattle.deny_spec_removal.proofs.UnhitLemmas.{bypasses_stay, ignore_stays, licences_stay, of_bans, root_stays}
use Rattle.deny_spec_removal.proofs.UnhitLemmas.{skip_stays}
use Rattle.deny_spec_removal.proofs.UnhitLemmas.{wrapper_stays}
use Rattle.deny_spec_removal.proofs.WrapperRemoval.{wrappers_gone}

-- ---- the entries of some kinds, and the rest

abbrev part_of : (EntryKind → Bool) → List EntryId → List EntryId
part_of of_kind taken = filter (λ e. of_kind e.kind) taken

abbrev rest_of : (EntryKind → Bool) → List EntryId → List EntryId
rest_of of_kind taken = filter (λ e. not (of_kind e.kind)) taken

part_unhit : (part : EntryId → Bool) (hits : List Hit) (taken : List EntryId) → HaveNoHit hits taken
    → HaveNoHit hits (filter part taken)
part_unhit part hits taken none = λ e is. none e (filtered part taken e is)

not_and_true : (b : Bool) → (not b && true) ≡ not b
not_and_true true = refl
not_and_true false = refl

module _ (exact : IsAntisymmetric entry_cmp) (of_kind : EntryKind → Bool) (taken : List EntryId) where
  in_part : (kind : EntryKind) (span : Span) → of_kind kind ≡ true
      → is_taken (part_of of_kind taken) kind span ≡ is_taken taken kind span
  in_part kind span is = taken_among exact (λ e. of_kind e.kind) taken kind span is

  not_in_part : (kind : EntryKind) (span : Span) → of_kind kind ≡ false
      → is_taken (part_of of_kind taken) kind span ≡ false
  not_in_part kind span other = none_among exact (λ e. of_kind e.kind) taken kind span other

  in_rest : (kind : EntryKind) (span : Span) → of_kind kind ≡ false
      → is_taken (rest_of of_kind taken) kind span ≡ is_taken taken kind span
  in_rest kind span other = taken_among exact (λ e. not (of_kind e.kind)) taken kind span (ap (λ b. not b) other)

  not_in_rest : (kind : EntryKind) (span : Span) → of_kind kind ≡ true
      → is_taken (rest_of of_kind taken) kind span ≡ false
  not_in_rest kind span is = none_among exact (λ e. not (of_kind e.kind)) taken kind span (ap (λ b. not b) is)

  no_licence_in_part : of_kind LicenseAllow ≡ false → of_kind LicenseException ≡ false
      → NoLicences (part_of of_kind taken)
  no_licence_in_part one two = record {
    allowances = λ span. not_in_part LicenseAllow span one;
    exceptions = λ span. not_in_part LicenseException span two;
  }

  no_bypass_in_part : of_kind kind.Bypass ≡ false → of_kind kind.BypassPath ≡ false → of_kind kind.BypassGlob ≡ false
      → NoBypasses (part_of of_kind taken)
  no_bypass_in_part one two three = record {
    bypasses = λ span. not_in_part kind.Bypass span one;
    paths = λ span. not_in_part kind.BypassPath span two;
    globs = λ span. not_in_part kind.BypassGlob span three;
  }

  -- a finding names an entry of the part, or one of the rest
  named_by : (o : Option EntryKind) (span : Span)
      → (not (option_map_or (λ kind. is_taken (part_of of_kind taken) kind span) o false)
      && not (option_map_or (λ kind. is_taken (rest_of of_kind taken) kind span) o false))
      ≡ not (option_map_or (λ kind. is_taken taken kind span) o false)
  named_by None span = refl
  named_by (Some kind) span = elim (cases_Bool (of_kind kind)) as (λ _.
      (not (is_taken (part_of of_kind taken) kind span) && not (is_taken (rest_of of_kind taken) kind span))
      ≡ not (is_taken taken kind span)) [
        | inl e ↦ rw (in_part kind span e, not_in_rest kind span e) (not_and_true (is_taken taken kind span))
        | inr e ↦ rw (not_in_part kind span e, in_rest kind span e) refl
      ]

  same_keys : (keys : List Key) → unnaming (rest_of of_kind taken) (unnaming (part_of of_kind taken) keys)
      ≡ unnaming taken keys
  same_keys keys =
      filter-filter (λ key. not (names (part_of of_kind taken) key)) (λ key. not (names (rest_of of_kind taken) key))
      keys
      ∙ filter_on (λ key. not (names (part_of of_kind taken) key) && not (names (rest_of of_kind taken) key))
      (λ key. not (names taken key)) keys (λ key is. named_by (unused_kind key.code) key.entry)

-- taking out a part and then the rest is taking out all
in_turn : (exact : IsAntisymmetric entry_cmp) (of_kind : EntryKind → Bool) (c mid rest : Circumstances) (facts : Facts)
    (taken : List EntryId) (keys : List Key)
    → ((counts : Crate → Bool) → TestsLicensed c.licensing c.graph counts
    → TestsLicensed mid.licensing mid.graph counts)
    → AreGone c mid facts (part_of of_kind taken) keys
    → AreGone mid rest facts (rest_of of_kind taken) (unnaming (part_of of_kind taken) keys)
    → AreGone c rest facts taken keys
in_turn exact of_kind c mid rest facts taken keys reports_too first second = record {
  facts_hold = second.facts_hold;
  listed = subst (Lists key_cmp (Holds rest facts)) (same_keys exact of_kind taken keys) second.listed;
  hits = second.hits ∙ first.hits;
  licence_hits = λ counts reports. second.licence_hits counts (reports_too counts reports)
      ∙ first.licence_hits counts reports;
}

-- ---- the wrappers, the ignores, the skips and skipped trees, the entries on builds, and the others

abbrev is_wrapper_kind : EntryKind → Bool
is_wrapper_kind Wrapper = true
is_wrapper_kind _ = false

abbrev is_ignore_kind : EntryKind → Bool
is_ignore_kind ReplacementIgnore = true
is_ignore_kind _ = false

abbrev is_skip_kind : EntryKind → Bool
is_skip_kind Skip = true
is_skip_kind SkipRoot = true
is_skip_kind _ = false

abbrev is_bypass_kind : EntryKind → Bool
is_bypass_kind kind.Bypass = true
is_bypass_kind kind.BypassPath = true
is_bypass_kind kind.BypassGlob = true
is_bypass_kind _ = false

abbrev wrappers_of : List EntryId → List EntryId
wrappers_of taken = part_of is_wrapper_kind taken

abbrev ignores_of : List EntryId → List EntryId
ignores_of taken = part_of is_ignore_kind (rest_of is_wrapper_kind taken)

-- the entries that are neither wrappers nor ignores
abbrev left_of : List EntryId → List EntryId
left_of taken = rest_of is_ignore_kind (rest_of is_wrapper_kind taken)

abbrev skips_of : List EntryId → List EntryId
skips_of taken = part_of is_skip_kind (left_of taken)

abbrev late_of : List EntryId → List EntryId
late_of taken = rest_of is_skip_kind (left_of taken)

abbrev bypasses_of : List EntryId → List EntryId
bypasses_of taken = part_of is_bypass_kind (late_of taken)

abbrev others_of : List EntryId → List EntryId
others_of taken = rest_of is_bypass_kind (late_of taken)

same_lists : (p : Policy) (d e : List Ban) (s r : List Entry) (t u : List Root) (m n : Option Replacing) → d ≡ e
    → s ≡ r → t ≡ u → m ≡ n → with_lists p d s t m ≡ with_lists p e r u n
same_lists p d e s r t u m n deny skip tree replacing = rw (deny, skip, tree, replacing) refl

module _ (exact : IsAntisymmetric entry_cmp) (taken : List EntryId) where
  same_wrapper : (span : Span) → is_taken (wrappers_of taken) Wrapper span ≡ is_taken taken Wrapper span
  same_wrapper span = in_part exact is_wrapper_kind taken Wrapper span refl

  same_ignore : (span : Span)
      → is_taken (ignores_of taken) ReplacementIgnore span ≡ is_taken taken ReplacementIgnore span
  same_ignore span = in_part exact is_ignore_kind (rest_of is_wrapper_kind taken) ReplacementIgnore span refl
      ∙ in_rest exact is_wrapper_kind taken ReplacementIgnore span refl

  same_left : (kind : EntryKind) (span : Span) → is_wrapper_kind kind ≡ false → is_ignore_kind kind ≡ false
      → is_taken (left_of taken) kind span ≡ is_taken taken kind span
  same_left kind span one two = in_rest exact is_ignore_kind (rest_of is_wrapper_kind taken) kind span two
      ∙ in_rest exact is_wrapper_kind taken kind span one

  same_skip : (kind : EntryKind) (span : Span) → is_wrapper_kind kind ≡ false → is_ignore_kind kind ≡ false
      → is_skip_kind kind ≡ true → is_taken (skips_of taken) kind span ≡ is_taken taken kind span
  same_skip kind span one two is = in_part exact is_skip_kind (left_of taken) kind span is
      ∙ same_left kind span one two

  same_late : (kind : EntryKind) (span : Span) → is_wrapper_kind kind ≡ false → is_ignore_kind kind ≡ false
      → is_skip_kind kind ≡ false → is_taken (late_of taken) kind span ≡ is_taken taken kind span
  same_late kind span one two other = in_rest exact is_skip_kind (left_of taken) kind span other
      ∙ same_left kind span one two

  same_bypass : (span : Span) → is_taken (bypasses_of taken) kind.Bypass span ≡ is_taken taken kind.Bypass span
  same_bypass span = in_part exact is_bypass_kind (late_of taken) kind.Bypass span refl
      ∙ same_late kind.Bypass span refl refl refl

  same_path : (span : Span)
      → is_taken (bypasses_of taken) kind.BypassPath span ≡ is_taken taken kind.BypassPath span
  same_path span = in_part exact is_bypass_kind (late_of taken) kind.BypassPath span refl
      ∙ same_late kind.BypassPath span refl refl refl

  same_glob : (span : Span)
      → is_taken (bypasses_of taken) kind.BypassGlob span ≡ is_taken taken kind.BypassGlob span
  same_glob span = in_part exact is_bypass_kind (late_of taken) kind.BypassGlob span refl
      ∙ same_late kind.BypassGlob span refl refl refl

  same_allowance : (span : Span) → is_taken (others_of taken) LicenseAllow span ≡ is_taken taken LicenseAllow span
  same_allowance span = in_rest exact is_bypass_kind (late_of taken) LicenseAllow span refl
      ∙ same_late LicenseAllow span refl refl refl

  same_exception : (span : Span)
      → is_taken (others_of taken) LicenseException span ≡ is_taken taken LicenseException span
  same_exception span = in_rest exact is_bypass_kind (late_of taken) LicenseException span refl
      ∙ same_late LicenseException span refl refl refl

  -- one after the other they take out all entries
  same_cut : (ban : Ban) → cut (wrappers_of taken) ban ≡ cut taken ban
  same_cut ban = ap (λ (ws : List policy.SpannedText). record ban { wrappers = ws })
      (filter_on (stays_wrapper (wrappers_of taken)) (stays_wrapper taken) ban.wrappers
      (λ w is. ap (λ b. not b) (same_wrapper w.span)))

  same_replacing : (o : Option Replacing)
      → option_map (cut_replacing (ignores_of taken)) o ≡ option_map (cut_replacing taken) o
  same_replacing None = refl
  same_replacing (Some s) = ap (λ (entries : List Entry). Some (record s { ignore = entries }))
      (filter_on (stays_ignore (ignores_of taken)) (stays_ignore taken) s.ignore
      (λ e is. ap (λ b. not b) (same_ignore (ignore_span e))))

  same_policy : (p : Policy)
      → without_skips (without_ignores (without_wrappers p (wrappers_of taken)) (ignores_of taken)) (skips_of taken)
      ≡ without p taken
  same_policy p = same_lists p (map (cut (wrappers_of taken)) p.deny) (map (cut taken) p.deny)
      (filter (stays_skip (skips_of taken)) p.skip) (filter (stays_skip taken) p.skip)
      (filter (stays_root (skips_of taken)) p.skip_tree) (filter (stays_root taken) p.skip_tree)
      (option_map (cut_replacing (ignores_of taken)) p.replacing) (option_map (cut_replacing taken) p.replacing)
      (map_on (cut (wrappers_of taken)) (cut taken) p.deny (λ ban is. same_cut ban))
      (filter_on (stays_skip (skips_of taken)) (stays_skip taken) p.skip
      (λ s is. ap (λ b. not b) (same_skip Skip s.spec.span refl refl refl)))
      (filter_on (stays_root (skips_of taken)) (stays_root taken) p.skip_tree
      (λ t is. ap (λ b. not b) (same_skip SkipRoot t.spec.span refl refl refl)))
      (same_replacing p.replacing)

  same_licensing : (o : Option Licensing)
      → option_map (cut_licensing (others_of taken)) o ≡ option_map (cut_licensing taken) o
  same_licensing None = refl
  same_licensing (Some l) =
      ap (λ (allow : List (Spanned Requirement)). Some (record l {
        allow = allow;
        exceptions = filter (stays_exception (others_of taken)) l.exceptions;
      }))
      (filter_on (stays_allowance (others_of taken)) (stays_allowance taken) l.allow
      (λ a is. ap (λ b. not b) (same_allowance (allowance_span a))))
      ∙ ap (λ (exceptions : List Exception). Some (record l {
        allow = filter (stays_allowance taken) l.allow;
        exceptions = exceptions;
      }))
      (filter_on (stays_exception (others_of taken)) (stays_exception taken) l.exceptions
      (λ e is. ap (λ b. not b) (same_exception (exception_span e))))

  same_cut_bypass : (y : Bypass) → cut_bypass (bypasses_of taken) y ≡ cut_bypass taken y
  same_cut_bypass y =
      ap (λ (globs : List policy.SpannedText). record y {
        globs = globs;
        allow = filter (stays_path (bypasses_of taken)) y.allow;
      })
      (filter_on (stays_glob (bypasses_of taken)) (stays_glob taken) y.globs
      (λ w is. ap (λ b. not b) (same_glob w.span)))
      ∙ ap (λ (allow : List AllowedPath). record y { globs = filter (stays_glob taken) y.globs; allow = allow })
      (filter_on (stays_path (bypasses_of taken)) (stays_path taken) y.allow
      (λ a is. ap (λ b. not b) (same_path (path_span a))))

  same_building : (o : Option Building)
      → option_map (cut_building (bypasses_of taken)) o ≡ option_map (cut_building taken) o
  same_building None = refl
  same_building (Some b) =
      ap (λ (bypasses : List Bypass). Some (record b { bypass = map (cut_bypass (bypasses_of taken)) bypasses }))
      (filter_on (stays_bypass (bypasses_of taken)) (stays_bypass taken) b.bypass
      (λ y is. ap (λ t. not t) (same_bypass (bypass_span y))))
      ∙ ap (λ (bypasses : List Bypass). Some (record b { bypass = bypasses }))
      (map_on (cut_bypass (bypasses_of taken)) (cut_bypass taken) (filter (stays_bypass taken) b.bypass)
      (λ y is. same_cut_bypass y))

  same_circumstances : (c : Circumstances)
      → without_licences_in (without_bypasses_in (without_skips_in (without_ignores_in
      (without_wrappers_in c (wrappers_of taken)) (ignores_of taken)) (skips_of taken)) (bypasses_of taken))
      (others_of taken) ≡ without_in c taken
  same_circumstances c =
      ap (λ (p : Policy). record c {
        policy = p;
        licensing = option_map (cut_licensing (others_of taken)) c.licensing;
        building = option_map (cut_building (bypasses_of taken)) c.building;
      })
      (same_policy c.policy)
      ∙ (ap (λ (licensing : Option Licensing). record c {
        policy = without c.policy taken;
        licensing = licensing;
        building = option_map (cut_building (bypasses_of taken)) c.building;
      })
      (same_licensing c.licensing)
      ∙ ap (λ (building : Option Building). record c {
        policy = without c.policy taken;
        licensing = option_map (cut_licensing taken) c.licensing;
        building = building;
      })
      (same_building c.building))

-- ---- entries that are hit stay

module _ (exact : IsAntisymmetric entry_cmp) (c : Circumstances) (facts : Facts) (counts : Crate → Bool)
    (taken : List EntryId) (reports : TestsLicensed c.licensing c.graph counts)
    (none : HaveNoHit (both_hits c facts counts) taken) (not_emptied : EmptyNone c.policy taken) where
  abbrev hits : List Hit
  hits = both_hits c facts counts

  wrappers_unhit : AreUnhitWrappers c.policy c.graph (wrappers_of taken)
  wrappers_unhit = record {
    wrappers = wrapper_stays exact c facts (wrappers_of taken)
        (of_bans c facts counts (wrappers_of taken) (part_unhit (λ e. is_wrapper_kind e.kind) hits taken none));
    not_emptied = λ ban written. ap has_wrappers (same_cut exact taken ban) ∙ not_emptied ban written;
    no_skip = λ span. not_in_part exact is_wrapper_kind taken Skip span refl;
    no_root = λ span. not_in_part exact is_wrapper_kind taken SkipRoot span refl;
    no_ignore = λ span. not_in_part exact is_wrapper_kind taken ReplacementIgnore span refl;
    no_licence = no_licence_in_part exact is_wrapper_kind taken refl refl;
    no_bypass = no_bypass_in_part exact is_wrapper_kind taken refl refl refl;
  }

  abbrev unwrapped : List EntryId
  unwrapped = rest_of is_wrapper_kind taken

  none_unwrapped : HaveNoHit hits unwrapped
  none_unwrapped = part_unhit (λ e. not (is_wrapper_kind e.kind)) hits taken none

  ignores_unhit : AreUnhitIgnores c (ignores_of taken)
  ignores_unhit = record {
    ignores = ignore_stays exact c facts (ignores_of taken)
        (of_bans c facts counts (ignores_of taken)
        (part_unhit (λ e. is_ignore_kind e.kind) hits unwrapped none_unwrapped));
    no_skip = λ span. not_in_part exact is_ignore_kind unwrapped Skip span refl;
    no_root = λ span. not_in_part exact is_ignore_kind unwrapped SkipRoot span refl;
    no_wrapper = λ span. not_in_part exact is_ignore_kind unwrapped Wrapper span refl;
    no_licence = no_licence_in_part exact is_ignore_kind unwrapped refl refl;
    no_bypass = no_bypass_in_part exact is_ignore_kind unwrapped refl refl refl;
  }

  none_left : HaveNoHit hits (left_of taken)
  none_left = part_unhit (λ e. not (is_ignore_kind e.kind)) hits unwrapped none_unwrapped

  skips_unhit : AreUnhit c.policy c.graph facts.chains (skips_of taken)
  skips_unhit =
      let unhit = of_bans c facts counts (skips_of taken)
      (part_unhit (λ e. is_skip_kind e.kind) hits (left_of taken) none_left) in
      record {
        skips = skip_stays exact c facts (skips_of taken) unhit;
        roots = root_stays exact c facts (skips_of taken) unhit;
        no_wrapper = λ span. not_in_part exact is_skip_kind (left_of taken) Wrapper span refl;
        no_ignore = λ span. not_in_part exact is_skip_kind (left_of taken) ReplacementIgnore span refl;
        no_licence = no_licence_in_part exact is_skip_kind (left_of taken) refl refl;
        no_bypass = no_bypass_in_part exact is_skip_kind (left_of taken) refl refl refl;
      }

  none_late : HaveNoHit hits (late_of taken)
  none_late = part_unhit (λ e. not (is_skip_kind e.kind)) hits (left_of taken) none_left

  bypasses_unhit : AreUnhitBypasses c facts (bypasses_of taken)
  bypasses_unhit = record {
    bypasses = bypasses_stay exact c facts (bypasses_of taken) (of_bans c facts counts (bypasses_of taken)
        (part_unhit (λ e. is_bypass_kind e.kind) hits (late_of taken) none_late));
    no_skip = λ span. not_in_part exact is_bypass_kind (late_of taken) Skip span refl;
    no_root = λ span. not_in_part exact is_bypass_kind (late_of taken) SkipRoot span refl;
    no_wrapper = λ span. not_in_part exact is_bypass_kind (late_of taken) Wrapper span refl;
    no_ignore = λ span. not_in_part exact is_bypass_kind (late_of taken) ReplacementIgnore span refl;
    no_licence = no_licence_in_part exact is_bypass_kind (late_of taken) refl refl;
  }

  -- the entries that are left at last are licences and exceptions
  no_skip_left : (span : Span) → is_taken (others_of taken) Skip span ≡ false
  no_skip_left span = in_rest exact is_bypass_kind (late_of taken) Skip span refl
      ∙ not_in_rest exact is_skip_kind (left_of taken) Skip span refl

  no_root_left : (span : Span) → is_taken (others_of taken) SkipRoot span ≡ false
  no_root_left span = in_rest exact is_bypass_kind (late_of taken) SkipRoot span refl
      ∙ not_in_rest exact is_skip_kind (left_of taken) SkipRoot span refl

  no_wrapper_left : (span : Span) → is_taken (others_of taken) Wrapper span ≡ false
  no_wrapper_left span = in_rest exact is_bypass_kind (late_of taken) Wrapper span refl
      ∙ (in_rest exact is_skip_kind (left_of taken) Wrapper span refl
      ∙ (in_rest exact is_ignore_kind unwrapped Wrapper span refl
      ∙ not_in_rest exact is_wrapper_kind taken Wrapper span refl))

  no_ignore_left : (span : Span) → is_taken (others_of taken) ReplacementIgnore span ≡ false
  no_ignore_left span = in_rest exact is_bypass_kind (late_of taken) ReplacementIgnore span refl
      ∙ (in_rest exact is_skip_kind (left_of taken) ReplacementIgnore span refl
      ∙ not_in_rest exact is_ignore_kind unwrapped ReplacementIgnore span refl)

  others_unhit : AreUnhitLicences c (others_of taken)
  others_unhit = record {
    licences = licences_stay exact c facts counts (others_of taken) reports
        (part_unhit (λ e. not (is_bypass_kind e.kind)) hits (late_of taken) none_late);
    no_skip = no_skip_left;
    no_root = no_root_left;
    no_wrapper = no_wrapper_left;
    no_ignore = no_ignore_left;
    no_bypass = record {
      bypasses = λ span. not_in_rest exact is_bypass_kind (late_of taken) kind.Bypass span refl;
      paths = λ span. not_in_rest exact is_bypass_kind (late_of taken) kind.BypassPath span refl;
      globs = λ span. not_in_rest exact is_bypass_kind (late_of taken) kind.BypassGlob span refl;
    };
  }

  -- ---- one after the other

  abbrev first : Circumstances
  first = without_wrappers_in c (wrappers_of taken)

  abbrev second : Circumstances
  second = without_ignores_in first (ignores_of taken)

  abbrev third : Circumstances
  third = without_skips_in second (skips_of taken)

  abbrev fourth : Circumstances
  fourth = without_bypasses_in third (bypasses_of taken)

  abbrev end : Circumstances
  end = without_licences_in fourth (others_of taken)

  ignores_unhit_then : AreUnhitIgnores first (ignores_of taken)
  ignores_unhit_then = record {
    ignores = ignores_unhit.ignores;
    no_skip = ignores_unhit.no_skip;
    no_root = ignores_unhit.no_root;
    no_wrapper = ignores_unhit.no_wrapper;
    no_licence = ignores_unhit.no_licence;
    no_bypass = ignores_unhit.no_bypass;
  }

  skips_unhit_then : AreUnhit second.policy second.graph facts.chains (skips_of taken)
  skips_unhit_then = record {
    skips = skips_unhit.skips;
    roots = skips_unhit.roots;
    no_wrapper = skips_unhit.no_wrapper;
    no_ignore = skips_unhit.no_ignore;
    no_licence = skips_unhit.no_licence;
    no_bypass = skips_unhit.no_bypass;
  }

  bypasses_unhit_then : AreUnhitBypasses third facts (bypasses_of taken)
  bypasses_unhit_then = record {
    bypasses = bypasses_unhit.bypasses;
    no_skip = bypasses_unhit.no_skip;
    no_root = bypasses_unhit.no_root;
    no_wrapper = bypasses_unhit.no_wrapper;
    no_ignore = bypasses_unhit.no_ignore;
    no_licence = bypasses_unhit.no_licence;
  }

  others_unhit_then : AreUnhitLicences fourth (others_of taken)
  others_unhit_then = record {
    licences = others_unhit.licences;
    no_skip = others_unhit.no_skip;
    no_root = others_unhit.no_root;
    no_wrapper = others_unhit.no_wrapper;
    no_ignore = others_unhit.no_ignore;
    no_bypass = others_unhit.no_bypass;
  }

  pub entries_gone : (keys : List Key) → AreFacts c facts → Lists key_cmp (Holds c facts) keys
      → AreGone c (without_in c taken) facts taken keys
  entries_gone keys are listed =
      let named_first : List Key = unnaming (wrappers_of taken) keys in
      let named_second : List Key = unnaming (ignores_of taken) named_first in
      let named_third : List Key = unnaming (skips_of taken) named_second in
      let named_fourth : List Key = unnaming (bypasses_of taken) named_third in
      let one : AreGone c first facts (wrappers_of taken) keys =
      wrappers_gone c facts (wrappers_of taken) keys are wrappers_unhit listed in
      let two : AreGone first second facts (ignores_of taken) named_first =
      ignores_gone first facts (ignores_of taken) named_first one.facts_hold ignores_unhit_then one.listed in
      let three : AreGone second third facts (skips_of taken) named_second =
      skips_gone second facts (skips_of taken) named_second two.facts_hold skips_unhit_then two.listed in
      let four : AreGone third fourth facts (bypasses_of taken) named_third =
      bypasses_gone third facts (bypasses_of taken) named_third three.facts_hold bypasses_unhit_then three.listed in
      let five : AreGone fourth end facts (others_of taken) named_fourth =
      licences_gone fourth facts (others_of taken) named_fourth four.facts_hold others_unhit_then four.listed in
      let all : AreGone c end facts taken keys =
      in_turn exact is_wrapper_kind c first end facts taken keys (λ test reported. reported) one
      (in_turn exact is_ignore_kind first second end facts unwrapped named_first (λ test reported. reported) two
      (in_turn exact is_skip_kind second third end facts (left_of taken) named_second (λ test reported. reported) three
      (in_turn exact is_bypass_kind third fourth end facts (late_of taken) named_third (λ test reported. reported) four
      five)))
      in
      subst (λ (rest : Circumstances). AreGone c rest facts taken keys) (same_circumstances exact taken c) all
