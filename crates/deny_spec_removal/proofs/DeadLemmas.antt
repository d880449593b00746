-- Dead entries have no hit, so they can be taken out.
use Rattle.std.proofs.Common.{◌≡◌, ◌≢◌, ◌⊎◌, Bool, List, false, inl, inr}
use Rattle.std.specs.Prelude.{Contains}
use Rattle.std.specs.FinMap.{IsAntisymmetric}
use Rattle.deny_base.specs.Entry.{entry_cmp}
use Rattle.deny_base.specs.declared.entry.EntryId.{EntryId}
use Rattle.deny_base.specs.declared.entry.EntryKind.{EntryKind}
use Rattle.deny_base.specs.declared.entry.EntryKind.TheVariants as kind
use Rattle.deny_base.specs.declared.entry.EntryKind.TheVariants.{LicenseAllow, LicenseException, ReplacementIgnore}
use Rattle.deny_base.specs.declared.entry.EntryKind.TheVariants.{Skip, SkipRoot, Wrapper}
use Rattle.deny_base.specs.declared.entry.Hit.{Hit}
use Rattle.deny_base.specs.declared.key.Key.{Key}
use Rattle.deny_base.specs.declared.span.Span.{Span}
use Rattle.deny_spec.specs.Graph.{Crate}
use Rattle.deny_spec_report.specs.Circumstances.{Circumstances}
use Rattle.deny_spec_report.specs.Facts.{Facts}
use Rattle.deny_spec_report.specs.Hits.{TestsLicensed, both_hits, hits_in}
use Rattle.deny_spec_removal.specs.Dead.{AreAmong, AreDead, AreDeadBypasses, AreDeadIgnores, AreDeadLicences}
use Rattle.deny_spec_removal.specs.Dead.{AreDeadSkips, AreDeadWrappers}
use Rattle.deny_spec_removal.specs.BypassRemoval.{AreUnhitBypasses}
use Rattle.deny_spec_removal.specs.IgnoreRemoval.{AreUnhitIgnores}
use Rattle.deny_spec_removal.specs.LicenceRemoval.{AreUnhitLicences}
use Rattle.deny_spec_removal.specs.Removal.{HaveNoHit, is_taken}
use Rattle.deny_spec_removal.specs.SkipRemoval.{AreUnhit}
use Rattle.deny_spec_removal.specs.WrapperRemoval.{AreUnhitWrappers}
use Rattle.deny_spec_removal.proofs.Taken.{entry, not_taken}
use Rattle.deny_spec_removal.proofs.UnhitLemmas.{bypasses_stay, ignore_stays, licences_stay, of_bans, root_stays}
use Rattle.deny_spec_removal.proofs.UnhitLemmas.{skip_stays, wrapper_stays}

pub dead_unhit : (keys : List Key) (hits : List Hit) (dead taken : List EntryId) → AreDead keys hits dead
    → AreAmong dead taken → HaveNoHit hits taken
dead_unhit keys hits dead taken are among = λ e is. (are.sound e (among e is)).unhit

-- the kinds of entries on builds
abbrev bypass : EntryKind
bypass = kind.Bypass

abbrev path : EntryKind
path = kind.BypassPath

abbrev glob : EntryKind
glob = kind.BypassGlob

-- entries of two kinds are of no third
none_of_other : IsAntisymmetric entry_cmp → (taken : List EntryId) (one other kind : EntryKind) → kind ≢ one
    → kind ≢ other → ((e : EntryId) → Contains taken e → (e.kind ≡ one) ⊎ (e.kind ≡ other))
    → (span : Span) → is_taken taken kind span ≡ false
none_of_other exact taken one other kind first second each span = not_taken exact taken kind span (λ is.
    neither (each (entry kind span) is))
  where
    neither : (kind ≡ one) ⊎ (kind ≡ other) → ⊥
    neither (inl e) = first e
    neither (inr e) = second e

module _ (exact : IsAntisymmetric entry_cmp) (c : Circumstances) (facts : Facts) (counts : Crate → Bool)
    (keys : List Key) (dead taken : List EntryId) (are : AreDead keys (both_hits c facts counts) dead) where
  none_of_both : AreAmong dead taken → HaveNoHit (both_hits c facts counts) taken
  none_of_both among = dead_unhit keys (both_hits c facts counts) dead taken are among

  none_hit : AreAmong dead taken → HaveNoHit (hits_in c facts) taken
  none_hit among = of_bans c facts counts taken (none_of_both among)

  abbrev none_of_two : (kind : EntryKind) → kind ≢ Skip → kind ≢ SkipRoot
      → ((e : EntryId) → Contains taken e → (e.kind ≡ Skip) ⊎ (e.kind ≡ SkipRoot))
      → (span : Span) → is_taken taken kind span ≡ false
  none_of_two = none_of_other exact taken Skip SkipRoot

  none_of_three : (kind : EntryKind) → kind ≢ bypass → kind ≢ path → kind ≢ glob → AreDeadBypasses dead taken
      → (span : Span) → is_taken taken kind span ≡ false
  none_of_three kind first second third these span = not_taken exact taken kind span (λ is.
      neither (these.kind (entry kind span) is))
    where
      neither : (kind ≡ bypass) ⊎ ((kind ≡ path) ⊎ (kind ≡ glob)) → ⊥
      neither (inl e) = first e
      neither (inr (inl e)) = second e
      neither (inr (inr e)) = third e

  pub dead_skips : AreDeadSkips dead taken → AreUnhit c.policy c.graph facts.chains taken
  dead_skips these = let none = none_hit these.dead_each in record {
    skips = skip_stays exact c facts taken none;
    roots = root_stays exact c facts taken none;
    no_wrapper = none_of_two Wrapper (λ e. absurd (cc e)) (λ e. absurd (cc e)) these.kind;
    no_ignore = none_of_two ReplacementIgnore (λ e. absurd (cc e)) (λ e. absurd (cc e)) these.kind;
    no_licence = record {
      allowances = none_of_two LicenseAllow (λ e. absurd (cc e)) (λ e. absurd (cc e)) these.kind;
      exceptions = none_of_two LicenseException (λ e. absurd (cc e)) (λ e. absurd (cc e)) these.kind;
    };
    no_bypass = record {
      bypasses = none_of_two bypass (λ e. absurd (cc e)) (λ e. absurd (cc e)) these.kind;
      paths = none_of_two path (λ e. absurd (cc e)) (λ e. absurd (cc e)) these.kind;
      globs = none_of_two glob (λ e. absurd (cc e)) (λ e. absurd (cc e)) these.kind;
    };
  }

  pub dead_wrappers : AreDeadWrappers c.policy dead taken → AreUnhitWrappers c.policy c.graph taken
  dead_wrappers these = record {
    wrappers = wrapper_stays exact c facts taken (none_hit these.dead_each);
    not_emptied = these.not_emptied;
    no_skip = λ span. not_taken exact taken Skip span (λ is. absurd (cc (these.kind (entry Skip span) is)));
    no_root = λ span. not_taken exact taken SkipRoot span (λ is. absurd (cc (these.kind (entry SkipRoot span) is)));
    no_ignore = λ span. not_taken exact taken ReplacementIgnore span (λ is.
        absurd (cc (these.kind (entry ReplacementIgnore span) is)));
    no_licence = record {
      allowances = λ span. not_taken exact taken LicenseAllow span (λ is.
          absurd (cc (these.kind (entry LicenseAllow span) is)));
      exceptions = λ span. not_taken exact taken LicenseException span (λ is.
          absurd (cc (these.kind (entry LicenseException span) is)));
    };
    no_bypass = record {
      bypasses = λ span. not_taken exact taken bypass span (λ is.
          absurd (cc (these.kind (entry bypass span) is)));
      paths = λ span. not_taken exact taken path span (λ is.
          absurd (cc (these.kind (entry path span) is)));
      globs = λ span. not_taken exact taken glob span (λ is.
          absurd (cc (these.kind (entry glob span) is)));
    };
  }

  pub dead_ignores : AreDeadIgnores dead taken → AreUnhitIgnores c taken
  dead_ignores these = record {
    ignores = ignore_stays exact c facts taken (none_hit these.dead_each);
    no_skip = λ span. not_taken exact taken Skip span (λ is. absurd (cc (these.kind (entry Skip span) is)));
    no_root = λ span. not_taken exact taken SkipRoot span (λ is. absurd (cc (these.kind (entry SkipRoot span) is)));
    no_wrapper = λ span. not_taken exact taken Wrapper span (λ is. absurd (cc (these.kind (entry Wrapper span) is)));
    no_licence = record {
      allowances = λ span. not_taken exact taken LicenseAllow span (λ is.
          absurd (cc (these.kind (entry LicenseAllow span) is)));
      exceptions = λ span. not_taken exact taken LicenseException span (λ is.
          absurd (cc (these.kind (entry LicenseException span) is)));
    };
    no_bypass = record {
      bypasses = λ span. not_taken exact taken bypass span (λ is.
          absurd (cc (these.kind (entry bypass span) is)));
      paths = λ span. not_taken exact taken path span (λ is.
          absurd (cc (these.kind (entry path span) is)));
      globs = λ span. not_taken exact taken glob span (λ is.
          absurd (cc (these.kind (entry glob span) is)));
    };
  }

  pub dead_licences : TestsLicensed c.licensing c.graph counts → AreDeadLicences dead taken → AreUnhitLicences c taken
  dead_licences reports these = record {
    licences = licences_stay exact c facts counts taken reports (none_of_both these.dead_each);
    no_skip = none_of_other exact taken LicenseAllow LicenseException Skip (λ e. absurd (cc e)) (λ e. absurd (cc e))
        these.kind;
    no_root = none_of_other exact taken LicenseAllow LicenseException SkipRoot (λ e. absurd (cc e))
        (λ e. absurd (cc e)) these.kind;
    no_wrapper = none_of_other exact taken LicenseAllow LicenseException Wrapper (λ e. absurd (cc e))
        (λ e. absurd (cc e)) these.kind;
    no_ignore = none_of_other exact taken LicenseAllow LicenseException ReplacementIgnore (λ e. absurd (cc e))
        (λ e. absurd (cc e)) these.kind;
    no_bypass = record {
      bypasses = none_of_other exact taken LicenseAllow LicenseException bypass (λ e. absurd (cc e))
          (λ e. absurd (cc e)) these.kind;
      paths = none_of_other exact taken LicenseAllow LicenseException path (λ e. absurd (cc e))
          (λ e. absurd (cc e)) these.kind;
      globs = none_of_other exact taken LicenseAllow LicenseException glob (λ e. absurd (cc e))
          (λ e. absurd (cc e)) these.kind;
    };
  }

  pub dead_bypasses : AreDeadBypasses dead taken → AreUnhitBypasses c facts taken
  dead_bypasses these = record {
    bypasses = bypasses_stay exact c facts taken (none_hit these.dead_each);
    no_skip = none_of_three Skip (λ e. absurd (cc e)) (λ e. absurd (cc e)) (λ e. absurd (cc e)) these;
    no_root = none_of_three SkipRoot (λ e. absurd (cc e)) (λ e. absurd (cc e)) (λ e. absurd (cc e)) these;
    no_wrapper = none_of_three Wrapper (λ e. absurd (cc e)) (λ e. absurd (cc e)) (λ e. absurd (cc e)) these;
    no_ignore = none_of_three ReplacementIgnore (λ e. absurd (cc e)) (λ e. absurd (cc e)) (λ e. absurd (cc e)) these;
    no_licence = record {
      allowances = none_of_three LicenseAllow (λ e. absurd (cc e)) (λ e. absurd (cc e)) (λ e. absurd (cc e)) these;
      exceptions = none_of_three LicenseException (λ e. absurd (cc e)) (λ e. absurd (cc e)) (λ e. absurd (cc e)) these;
    };
  }
