-- Removal of entries of any kind from a policy, and its result.
use Rattle.std.specs.Prelude.{◌≡◌, ◌≢◌, ◌↔◌, Bool, false, not, List, Contains, filter, map}
use Rattle.std.specs.Prelude.{option_map}
use Rattle.std.specs.List.{list_any}
use Rattle.std.specs.Option.{option_map_or}
use Rattle.std.specs.Ordering.{eq_by_cmp}
use Rattle.deny_base_lists.specs.Ascending.{Lists}
use Rattle.deny_base.specs.Code.{unused_kind}
use Rattle.deny_base.specs.Entry.{entry_cmp}
use Rattle.deny_base.specs.KeyOrder.{key_cmp}
use Rattle.deny_base.specs.declared.code.DiagnosticCode.{DiagnosticCode}
use Rattle.deny_base.specs.declared.entry.EntryId.{EntryId}
use Rattle.deny_base.specs.declared.entry.EntryKind.{EntryKind}
use Rattle.deny_base.specs.declared.entry.EntryKind.TheVariants as kind
use Rattle.deny_base.specs.declared.entry.EntryKind.TheVariants.{LicenseAllow, LicenseException, ReplacementIgnore}
use Rattle.deny_base.specs.declared.entry.EntryKind.TheVariants.{Skip, SkipRoot, Wrapper}
use Rattle.deny_base.specs.declared.entry.Hit.{Hit}
use Rattle.deny_base.specs.declared.entry.Witness.{Witness}
use Rattle.deny_base.specs.declared.key.Key.{Key}
use Rattle.deny_base.specs.declared.span.Span.{Span}
use Rattle.deny_base.specs.declared.span.Spanned.{Spanned}
use Rattle.deny_spdx.specs.declared.requirement.Requirement.{Requirement}
use Rattle.deny_spec.specs.Building.{AllowedPath, Building, Bypass}
use Rattle.deny_spec.specs.Bans.{has_wrappers}
use Rattle.deny_spec.specs.Graph.{Crate}
use Rattle.deny_spec.specs.Licensing.{Exception, Licensing}
use Rattle.deny_spec.specs.Policy as policy
use Rattle.deny_spec.specs.Policy.{Ban, Entry, Policy, Replacing, Root}
use Rattle.deny_spec_report.specs.BuildScripts.{bypass_span}
use Rattle.deny_spec_report.specs.Circumstances.{Circumstances}
use Rattle.deny_spec_report.specs.Facts.{Facts, AreFacts}
use Rattle.deny_spec_report.specs.Hits.{TestsLicensed, both_hits, hits_in, licence_hits_in}
use Rattle.deny_spec_report.specs.Hitting.{IsHit}
use Rattle.deny_spec_report.specs.Licences.{allowance_span, exception_span}
use Rattle.deny_spec_report.specs.PackageFiles.{path_span}
use Rattle.deny_spec_report.specs.Holding.{Holds}
use Rattle.deny_spec_report.specs.StdReplacements.{ignore_span}

-- the entry of a kind with a span is taken out
unfoldable pub is_taken : List EntryId → EntryKind → Span → Bool
is_taken taken kind span = list_any (λ e. eq_by_cmp entry_cmp e (record { kind = kind; range = span })) taken

abbrev pub stays_skip : List EntryId → Entry → Bool
stays_skip taken s = not (is_taken taken Skip s.spec.span)

abbrev pub stays_root : List EntryId → Root → Bool
stays_root taken t = not (is_taken taken SkipRoot t.spec.span)

abbrev pub stays_wrapper : List EntryId → policy.SpannedText → Bool
stays_wrapper taken w = not (is_taken taken Wrapper w.span)

abbrev pub stays_ignore : List EntryId → Entry → Bool
stays_ignore taken e = not (is_taken taken ReplacementIgnore (ignore_span e))

-- a ban without the wrappers that are taken out
abbrev pub cut : List EntryId → Ban → Ban
cut taken ban = record ban { wrappers = filter (stays_wrapper taken) ban.wrappers }

-- the policy on replaced crates without the ignores that are taken out
abbrev pub cut_replacing : List EntryId → Replacing → Replacing
cut_replacing taken s = record s { ignore = filter (stays_ignore taken) s.ignore }

-- whether a licence that every crate may ask for stays, and below, an exception; then the policy on licences without
-- those that are taken out
abbrev pub stays_allowance : List EntryId → Spanned Requirement → Bool
stays_allowance taken a = not (is_taken taken LicenseAllow (allowance_span a))

abbrev pub stays_exception : List EntryId → Exception → Bool
stays_exception taken e = not (is_taken taken LicenseException (exception_span e))

abbrev pub cut_licensing : List EntryId → Licensing → Licensing
cut_licensing taken l = record l {
  allow = filter (stays_allowance taken) l.allow;
  exceptions = filter (stays_exception taken) l.exceptions;
}

-- whether a bypass stays, and below, a path and a glob; then the policy on builds without those that are taken out
abbrev pub stays_bypass : List EntryId → Bypass → Bool
stays_bypass taken y = not (is_taken taken kind.Bypass (bypass_span y))

abbrev pub stays_path : List EntryId → AllowedPath → Bool
stays_path taken a = not (is_taken taken kind.BypassPath (path_span a))

abbrev pub stays_glob : List EntryId → policy.SpannedText → Bool
stays_glob taken w = not (is_taken taken kind.BypassGlob w.span)

abbrev pub cut_bypass : List EntryId → Bypass → Bypass
cut_bypass taken y = record y {
  globs = filter (stays_glob taken) y.globs;
  allow = filter (stays_path taken) y.allow;
}

abbrev pub cut_building : List EntryId → Building → Building
cut_building taken b = record b { bypass = map (cut_bypass taken) (filter (stays_bypass taken) b.bypass) }

-- the policy without the entries that are taken out; all others keep their spans and their order
abbrev pub without : Policy → List EntryId → Policy
without p taken = record p {
  deny = map (cut taken) p.deny;
  skip = filter (stays_skip taken) p.skip;
  skip_tree = filter (stays_root taken) p.skip_tree;
  replacing = option_map (cut_replacing taken) p.replacing;
}

-- the circumstances without these entries; what expired of the policy stays as it is
abbrev pub without_in : Circumstances → List EntryId → Circumstances
without_in c taken = record c {
  policy = without c.policy taken;
  licensing = option_map (cut_licensing taken) c.licensing;
  building = option_map (cut_building taken) c.building;
}

-- a finding of a code names an entry that is taken out as unused
abbrev pub names_as : List EntryId → DiagnosticCode → Key → Bool
names_as taken code key = option_map_or (λ kind. is_taken taken kind key.entry) (unused_kind code) false

abbrev pub names : List EntryId → Key → Bool
names taken key = names_as taken key.code key

-- the keys that name no entry that is taken out
abbrev pub unnaming : List EntryId → List Key → List Key
unnaming taken keys = filter (λ key. not (names taken key)) keys

-- no hit is of an entry that is taken out
abbrev pub HaveNoHit : List Hit → List EntryId → Type 0
HaveNoHit hits taken = (e : EntryId) → Contains taken e → (h : Hit) → Contains hits h → h.entry ≢ e

-- no ban loses its last wrapper
abbrev pub EmptyNone : Policy → List EntryId → Type 0
EmptyNone p taken = (ban : Ban) → Contains p.deny ban → has_wrappers (cut taken ban) ≡ has_wrappers ban

-- no entry that is taken out is a licence that every crate may ask for, or an exception
pub record NoLicences (taken : List EntryId) : Type 0 where
  pub allowances : (span : Span) → is_taken taken LicenseAllow span ≡ false
  pub exceptions : (span : Span) → is_taken taken LicenseException span ≡ false

-- no entry that is taken out is a bypass, or a path or a glob of one
pub record NoBypasses (taken : List EntryId) : Type 0 where
  pub bypasses : (span : Span) → is_taken taken kind.Bypass span ≡ false
  pub paths : (span : Span) → is_taken taken kind.BypassPath span ≡ false
  pub globs : (span : Span) → is_taken taken kind.BypassGlob span ≡ false

-- in the rest hold the keys that held, but for those that name an entry that is taken out
pub record AreGone (c rest : Circumstances) (facts : Facts) (taken : List EntryId) (keys : List Key) : Type 0 where
  pub facts_hold : AreFacts rest facts
  pub listed : Lists key_cmp (Holds rest facts) (unnaming taken keys)
  -- the hits are the same, of the same entries
  pub hits : hits_in rest facts ≡ hits_in c facts
  pub licence_hits : (counts : Crate → Bool) → TestsLicensed c.licensing c.graph counts
      → licence_hits_in counts rest ≡ licence_hits_in counts c

-- ---- the laws

abbrev pub EntriesCanGo : Type 0
EntriesCanGo = (c : Circumstances) → (facts : Facts) → (counts : Crate → Bool) → (taken : List EntryId)
    → (keys : List Key) → AreFacts c facts → TestsLicensed c.licensing c.graph counts
    → HaveNoHit (both_hits c facts counts) taken → EmptyNone c.policy taken
    → Lists key_cmp (Holds c facts) keys → AreGone c (without_in c taken) facts taken keys

-- in the rest each witness hits the entries that it hit before, and no others
abbrev pub HitsStay : Type 0
HitsStay = (c : Circumstances) → (facts : Facts) → (counts : Crate → Bool) → (taken : List EntryId)
    → HaveNoHit (both_hits c facts counts) taken → (e : EntryId) → (w : Witness)
    → IsHit (without_in c taken) facts counts e w ↔ IsHit c facts counts e w
