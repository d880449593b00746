-- Replacement of the spans of a policy, as where its text is printed anew, and its result.
use Rattle.std.specs.Prelude.{◌≡◌, ℕ, Bool, List, Contains, Option, Some, if◌then◌else◌, map, option_map}
use Rattle.deny_base.specs.Code.{has_entry}
use Rattle.deny_base.specs.declared.code.DiagnosticCode.{DiagnosticCode}
use Rattle.deny_base.specs.declared.entry.EntryId.{EntryId}
use Rattle.deny_base.specs.declared.entry.Hit.{Hit}
use Rattle.deny_base.specs.declared.entry.Witness.{Witness}
use Rattle.deny_base.specs.declared.key.Key.{Key}
use Rattle.deny_base.specs.declared.level.LintLevel.{LintLevel}
use Rattle.deny_base.specs.declared.span.Span.{Span}
use Rattle.deny_base.specs.declared.span.Spanned.{Spanned}
use Rattle.deny_spdx.specs.declared.requirement.Requirement.{Requirement}
use Rattle.deny_spec.specs.Building.{AllowedPath, Building, Bypass, ScriptGlob}
use Rattle.deny_spec.specs.Expired.{PastWaiver}
use Rattle.deny_spec.specs.Graph.{Crate}
use Rattle.deny_spec.specs.Licensing.{Exception, Licensing}
use Rattle.deny_spec.specs.Policy as policy
use Rattle.deny_spec.specs.Policy.{AllowEntry, Ban, Entry, FeatureEntry, Policy, Replacing, Root, Spec}
use Rattle.deny_spec_report.specs.BuildScripts.{bypass_span}
use Rattle.deny_spec_report.specs.Circumstances.{Circumstances}
use Rattle.deny_spec_report.specs.Facts.{Facts, AreFacts}
use Rattle.deny_spec_report.specs.Hits.{hits_in, licence_hits_in}
use Rattle.deny_spec_report.specs.Hitting.{IsHit}
use Rattle.deny_spec_report.specs.Licences.{allowance_span, exception_span}
use Rattle.deny_spec_report.specs.PackageFiles.{path_span}
use Rattle.deny_spec_report.specs.Holding.{Holds}
use Rattle.deny_spec_report.specs.StdReplacements.{ignore_span}

-- the new span for each span, and the new number of a skipped tree, which reading the text anew changes too
pub record Renaming : Type 0 where
  pub span : Span → Span
  pub number : ℕ → ℕ

abbrev pub renamed_text : Renaming → policy.SpannedText → policy.SpannedText
renamed_text r w = record w { span = r.span w.span }

abbrev pub renamed_spec : Renaming → Spec → Spec
renamed_spec r spec = record spec { span = r.span spec.span }

abbrev pub renamed_ban : Renaming → Ban → Ban
renamed_ban r ban = record {
  spec = renamed_spec r ban.spec;
  wrappers = map (renamed_text r) ban.wrappers;
  reason = option_map (renamed_text r) ban.reason;
  use_instead = option_map (renamed_text r) ban.use_instead;
}

abbrev pub renamed_allow : Renaming → AllowEntry → AllowEntry
renamed_allow r e = record { spec = renamed_spec r e.spec; reason = option_map (renamed_text r) e.reason }

abbrev pub renamed_entry : Renaming → Entry → Entry
renamed_entry r e = record { spec = renamed_spec r e.spec; reason = option_map (renamed_text r) e.reason }

abbrev pub renamed_root : Renaming → Root → Root
renamed_root r t = record {
  number = r.number t.number;
  spec = renamed_spec r t.spec;
  depth = t.depth;
  reason = option_map (renamed_text r) t.reason;
}

-- the lists, their texts and the flag whether they are exact have a span each
abbrev pub renamed_feature : Renaming → FeatureEntry → FeatureEntry
renamed_feature r f = record {
  spec = renamed_spec r f.spec;
  allow = record { value = map (renamed_text r) f.allow.value; span = r.span f.allow.span };
  deny = map (renamed_text r) f.deny;
  exact = record f.exact { span = r.span f.exact.span };
}

abbrev pub renamed_level : Renaming → Spanned LintLevel → Spanned LintLevel
renamed_level r level = record level { span = r.span level.span }

abbrev pub renamed_replacing : Renaming → Replacing → Replacing
renamed_replacing r s = record s { ignore = map (renamed_entry r) s.ignore }

-- the policy with a new span for each span
abbrev pub renamed : Renaming → Policy → Policy
renamed r p = record p {
  deny = map (renamed_ban r) p.deny;
  deny_multiple = map (renamed_spec r) p.deny_multiple;
  allow = map (renamed_allow r) p.allow;
  skip = map (renamed_entry r) p.skip;
  skip_tree = map (renamed_root r) p.skip_tree;
  features = map (renamed_feature r) p.features;
  workspace_default = option_map (renamed_level r) p.workspace_default;
  external_default = option_map (renamed_level r) p.external_default;
  replacing = option_map (renamed_replacing r) p.replacing;
}

abbrev pub renamed_allowance : Renaming → Spanned Requirement → Spanned Requirement
renamed_allowance r a = record a { span = r.span a.span }

abbrev pub renamed_exception : Renaming → Exception → Exception
renamed_exception r e = record { spec = renamed_spec r e.spec; allow = map (renamed_allowance r) e.allow }

-- what the policy says of licences, with a new span for each span
abbrev pub renamed_licensing : Renaming → Licensing → Licensing
renamed_licensing r l = record l {
  allow = map (renamed_allowance r) l.allow;
  exceptions = map (renamed_exception r) l.exceptions;
}

abbrev pub renamed_sum : Renaming → Spanned (List ℕ) → Spanned (List ℕ)
renamed_sum r sum = record sum { span = r.span sum.span }

abbrev pub renamed_path : Renaming → AllowedPath → AllowedPath
renamed_path r a = record { path = renamed_text r a.path; checksum = option_map (renamed_sum r) a.checksum }

abbrev pub renamed_bypass : Renaming → Bypass → Bypass
renamed_bypass r y = record {
  spec = renamed_spec r y.spec;
  script = option_map (renamed_sum r) y.script;
  required = map (renamed_text r) y.required;
  globs = map (renamed_text r) y.globs;
  allow = map (renamed_path r) y.allow;
}

-- built-in globs keep their spans, since they are in no policy
abbrev pub renamed_script_glob : Renaming → ScriptGlob → ScriptGlob
renamed_script_glob r e = record e { span = if e.built_in then e.span else r.span e.span }

-- what the policy says of builds, with a new span for each span
abbrev pub renamed_building : Renaming → Building → Building
renamed_building r b = record b {
  scripts = option_map (map (renamed_spec r)) b.scripts;
  extensions = map (renamed_script_glob r) b.extensions;
  bypass = map (renamed_bypass r) b.bypass;
  older_key = option_map r.span b.older_key;
}

-- an expired waiver, its day and its reason have a span each
abbrev pub renamed_waiver : Renaming → PastWaiver → PastWaiver
renamed_waiver r w = record {
  spec = renamed_spec r w.spec;
  expires = renamed_text r w.expires;
  reason = option_map (renamed_text r) w.reason;
}

abbrev pub renamed_in : Renaming → Circumstances → Circumstances
renamed_in r c = record c {
  policy = renamed r c.policy;
  licensing = option_map (renamed_licensing r) c.licensing;
  building = option_map (renamed_building r) c.building;
  expired = map (renamed_waiver r) c.expired;
}

-- the key of the same finding: it has a new span where it shows an entry of the policy
abbrev pub renamed_as : Renaming → DiagnosticCode → Key → Key
renamed_as r code key = record key { entry = if has_entry code then r.span key.entry else key.entry }

abbrev pub renamed_key : Renaming → Key → Key
renamed_key r key = renamed_as r key.code key

abbrev pub renamed_id : Renaming → EntryId → EntryId
renamed_id r e = record e { range = r.span e.range }

abbrev pub renamed_hit : Renaming → Hit → Hit
renamed_hit r h = record h { entry = renamed_id r h.entry }

-- different spans of wrappers of one ban stay different, and so do those of ignores
pub record KeepsApart (r : Renaming) (p : Policy) : Type 0 where
  pub wrappers : (ban : Ban) → Contains p.deny ban
      → (v w : policy.SpannedText) → Contains ban.wrappers v → Contains ban.wrappers w
      → r.span v.span ≡ r.span w.span → v.span ≡ w.span
  pub ignores : (s : Replacing) → p.replacing ≡ Some s
      → (d e : Entry) → Contains s.ignore d → Contains s.ignore e
      → r.span (ignore_span d) ≡ r.span (ignore_span e) → ignore_span d ≡ ignore_span e

-- different spans of licences that every crate may ask for stay different, and so do those of exceptions
pub record KeepsLicencesApart (r : Renaming) (licensing : Option Licensing) : Type 0 where
  pub allowances : (l : Licensing) → licensing ≡ Some l
      → (a b : Spanned Requirement) → Contains l.allow a → Contains l.allow b
      → r.span (allowance_span a) ≡ r.span (allowance_span b) → allowance_span a ≡ allowance_span b
  pub exceptions : (l : Licensing) → licensing ≡ Some l
      → (d e : Exception) → Contains l.exceptions d → Contains l.exceptions e
      → r.span (exception_span d) ≡ r.span (exception_span e) → exception_span d ≡ exception_span e

-- different spans of bypasses stay different, and so do those of paths of one bypass
pub record KeepsBypassesApart (r : Renaming) (building : Option Building) : Type 0 where
  pub bypasses : (b : Building) → building ≡ Some b
      → (y z : Bypass) → Contains b.bypass y → Contains b.bypass z
      → r.span (bypass_span y) ≡ r.span (bypass_span z) → bypass_span y ≡ bypass_span z
  pub paths : (b : Building) → building ≡ Some b → (y : Bypass) → Contains b.bypass y
      → (a d : AllowedPath) → Contains y.allow a → Contains y.allow d
      → r.span (path_span a) ≡ r.span (path_span d) → path_span a ≡ path_span d

-- the keys that held are those that hold, with new spans; and the hits are those of the same entries
pub record AreRenamed (r : Renaming) (c : Circumstances) (these those : Facts) : Type 0 where
  pub whole : (key : Key) → Holds c these key → Holds (renamed_in r c) those (renamed_key r key)
  pub sound : (key : Key) → Holds (renamed_in r c) those key
      → (old : Key) × Holds c these old × (key ≡ renamed_key r old)
  pub hits : hits_in (renamed_in r c) those ≡ map (renamed_hit r) (hits_in c these)
  pub licence_hits : (counts : Crate → Bool)
      → licence_hits_in counts (renamed_in r c) ≡ map (renamed_hit r) (licence_hits_in counts c)
  -- each witness hits the entries that it hit before, with their new spans, and no others
  pub whole_hits : (counts : Crate → Bool) → (e : EntryId) → (w : Witness)
      → IsHit c these counts e w → IsHit (renamed_in r c) those counts (renamed_id r e) w
  pub sound_hits : (counts : Crate → Bool) → (e : EntryId) → (w : Witness) → IsHit (renamed_in r c) those counts e w
      → (old : EntryId) × IsHit c these counts old w × (e ≡ renamed_id r old)

-- ---- the law

-- the new spans may have any order; each policy has facts of its own, which need not be the same
abbrev pub SpansCanBeReplaced : Type 0
SpansCanBeReplaced = (r : Renaming) → (c : Circumstances) → (these those : Facts)
    → AreFacts c these → AreFacts (renamed_in r c) those → KeepsApart r c.policy
    → KeepsLicencesApart r c.licensing → KeepsBypassesApart r c.building → AreRenamed r c these those
