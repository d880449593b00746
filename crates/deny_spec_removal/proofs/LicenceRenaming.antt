-- The keys of licences, and the hits of allowed licences and exceptions, where spans of the policy are replaced.
use Rattle.std.proofs.Common.{◌≡◌, ◌&&◌, ◌∙◌, ◌++◌, ◌||◌, Bool, List, None, Option, Some, [], ap, false, map, not, refl}
use Rattle.std.proofs.Common.{sym}
use Rattle.std.specs.Prelude.{Contains, filter_map, is_none, is_some, option_map}
use Rattle.std.specs.List.{list_any}
use Rattle.std.specs.Option.{option_map_or}
use Rattle.std.proofs.lemmas.List.{map-append}
use Rattle.deny_base_lists.proofs.Agreement.{filter_on, find_on, list_any_on, map_on}
use Rattle.deny_base_lists.proofs.Options.{is_some-option_map}
use Rattle.deny_base_lists.proofs.Members.{Contains-same}
use Rattle.deny_base.specs.declared.code.DiagnosticCode.TheVariants.{License}
use Rattle.deny_base.specs.declared.entry.EntryKind.TheVariants.{LicenseAllow, LicenseException}
use Rattle.deny_base.specs.declared.entry.Hit.{Hit}
use Rattle.deny_base.specs.declared.entry.Witness.TheVariants.{Krate}
use Rattle.deny_base.specs.declared.key.Key.{Key}
use Rattle.deny_base.specs.declared.key.Section.TheVariants as section
use Rattle.deny_base.specs.declared.license_code.LicenseCode.{LicenseCode}
use Rattle.deny_base.specs.declared.license_code.LicenseCode.TheVariants as license
use Rattle.deny_base.specs.declared.span.Spanned.{Spanned}
use Rattle.deny_spdx.specs.Truth.{truth}
use Rattle.deny_spdx.specs.declared.expression.Expression.{Expression}
use Rattle.deny_spdx.specs.declared.requirement.Requirement.{Requirement}
use Rattle.deny_spec.specs.Graph.{Crate, Graph, kid_of}
use Rattle.deny_spec.specs.Hits.{hit_of}
use Rattle.deny_spec.specs.Licensing.{Exception, Licensing}
use Rattle.deny_spec.specs.Match.{matches}
use Rattle.deny_spec_report.specs.EachCode.{LicenseHolds}
use Rattle.deny_spec_report.specs.FirstMatch.{is_first}
use Rattle.deny_spec_report.specs.Licences.{Asked, accepted_keys, allowance_hit, allowance_span, allows, asked_in}
use Rattle.deny_spec_report.specs.Licences.{asked_of}
use Rattle.deny_spec_report.specs.Licences.{exception_hit, exception_not_encountered_keys, exception_of, exception_span}
use Rattle.deny_spec_report.specs.Licences.{excepts, expression_of, first_hit, grants_by_allowance, grants_by_exception}
use Rattle.deny_spec_report.specs.Licences.{hits_by, holds, is_accepted, is_granted, is_hit_by, is_scanned}
use Rattle.deny_spec_report.specs.Licences.{is_passed_over}
use Rattle.deny_spec_report.specs.Licences.{is_rejected, is_skipped_private, is_unlicensed, is_unreadable, keys_where}
use Rattle.deny_spec_report.specs.Licences.{licence_hits, license_key, licensed_key, not_encountered_keys}
use Rattle.deny_spec_report.specs.Licences.{parse_error_keys}
use Rattle.deny_spec_report.specs.Licences.{rejected_keys, skipped_private_keys, unlicensed_keys}
use Rattle.deny_spec_removal.specs.Renaming.{KeepsLicencesApart, Renaming, renamed_allowance, renamed_as}
use Rattle.deny_spec_removal.specs.Renaming.{renamed_exception}
use Rattle.deny_spec_removal.specs.Renaming.{renamed_hit, renamed_licensing}
use Rattle.deny_spec_removal.proofs.Anew.{any_anew, crate_hit_anew, filter_map_anew, keys_back, keys_there, none_anew}
use Rattle.deny_spec_removal.proofs.Anew.{spanned}
use Rattle.deny_spec_removal.proofs.Anew.{reported_anew}
use Rattle.deny_spec_removal.proofs.FirstMatch.{first_anew, is_first_renamed}
use Rattle.deny_spec_removal.proofs.KeyParts.{by_counting}

-- ---- what grants a requirement

excepts_same : (r : Renaming) (e : Exception) (asked : Asked) → excepts (renamed_exception r e) asked ≡ excepts e asked
unfolding excepts allows matches
excepts_same r e asked = ap (λ b. matches e.spec asked.krate && b)
    (any_anew (λ a. allows a asked) (λ a. allows a asked) (renamed_allowance r) e.allow (λ a is. refl))

-- ---- a policy with a licence check

module _ (r : Renaming) (l : Licensing) (g : Graph) (counts : Crate → Bool) where
  exception_anew : (asked : Asked)
      → exception_of (renamed_licensing r l) asked ≡ option_map (renamed_exception r) (exception_of l asked)
  unfolding exception_of
  exception_anew asked = first_anew excepts (renamed_exception r) l.exceptions asked (λ e is. excepts_same r e asked)

  excepted_same : (asked : Asked)
      → is_none (exception_of (renamed_licensing r l) asked) ≡ is_none (exception_of l asked)
  excepted_same asked = ap (λ (o : Option Exception). is_none o) (exception_anew asked)
      ∙ none_anew (renamed_exception r) (exception_of l asked)

  granted_same : (asked : Asked) → is_granted (renamed_licensing r l) asked ≡ is_granted l asked
  unfolding is_granted allows
  granted_same asked =
      ap (λ b. b || list_any (λ a. allows a asked) (map (renamed_allowance r) l.allow))
      (ap (λ (o : Option Exception). is_some o) (exception_anew asked)
      ∙ is_some-option_map (renamed_exception r) (exception_of l asked))
      ∙ ap (λ b. is_some (exception_of l asked) || b)
      (any_anew (λ a. allows a asked) (λ a. allows a asked) (renamed_allowance r) l.allow (λ a is. refl))

  holds_same : (c : Crate) (e : Expression) → holds (renamed_licensing r l) c e ≡ holds l c e
  unfolding holds
  holds_same c e = ap (λ (granted : List Bool). truth granted e.tree)
      (map_on (λ q. is_granted (renamed_licensing r l) (asked_of c q)) (λ q. is_granted l (asked_of c q)) e.requirements
      (λ q is. granted_same (asked_of c q)))

  accepted_same : (c : Crate) → is_accepted counts (renamed_licensing r l) c ≡ is_accepted counts l c
  unfolding is_accepted is_scanned is_passed_over
  accepted_same c = ap (λ b. is_scanned counts l c && b) (by (expression_of c))
    where
      by : (o : Option Expression)
          → option_map_or (holds (renamed_licensing r l) c) o false ≡ option_map_or (holds l c) o false
      by None = refl
      by (Some e) = holds_same c e

  rejected_same : (c : Crate) → is_rejected counts (renamed_licensing r l) c ≡ is_rejected counts l c
  unfolding is_rejected is_scanned is_passed_over
  rejected_same c = ap (λ b. is_scanned counts l c && b) (by (expression_of c))
    where
      by : (o : Option Expression) → option_map_or (λ e. not (holds (renamed_licensing r l) c e)) o false
          ≡ option_map_or (λ e. not (holds l c e)) o false
      by None = refl
      by (Some e) = ap (λ b. not b) (holds_same c e)

  accepted_stay : accepted_keys counts (renamed_licensing r l) g ≡ accepted_keys counts l g
  unfolding keys_where
  accepted_stay = ap (map (licensed_key license.Accepted))
      (filter_on (is_accepted counts (renamed_licensing r l)) (is_accepted counts l) g.crates
      (λ c is. accepted_same c))

  rejected_stay : rejected_keys counts (renamed_licensing r l) g ≡ rejected_keys counts l g
  unfolding keys_where
  rejected_stay = ap (map (licensed_key license.Rejected))
      (filter_on (is_rejected counts (renamed_licensing r l)) (is_rejected counts l) g.crates
      (λ c is. rejected_same c))

  unlicensed_stay : unlicensed_keys counts (renamed_licensing r l) g ≡ unlicensed_keys counts l g
  unfolding keys_where is_unlicensed is_scanned is_passed_over
  unlicensed_stay = refl

  parse_error_stay : parse_error_keys counts (renamed_licensing r l) g ≡ parse_error_keys counts l g
  unfolding keys_where is_unreadable is_scanned is_passed_over
  parse_error_stay = refl

  skipped_stay : skipped_private_keys counts (renamed_licensing r l) g ≡ skipped_private_keys counts l g
  unfolding keys_where is_skipped_private is_passed_over
  skipped_stay = refl

  -- two tests of requirements that agree are passed by the same crates
  hits_same : (new old : Asked → Bool) → ((asked : Asked) → new asked ≡ old asked) → (c : Crate)
      → hits_by counts (renamed_licensing r l) new c ≡ hits_by counts l old c
  unfolding hits_by is_scanned is_passed_over
  hits_same new old same c = ap (λ b. is_scanned counts l c && b)
      (list_any_on new old (asked_in c) (λ asked is. same asked))

  is_hit_same : (new old : Asked → Bool) → ((asked : Asked) → new asked ≡ old asked)
      → is_hit_by counts (renamed_licensing r l) g new ≡ is_hit_by counts l g old
  unfolding is_hit_by
  is_hit_same new old same = list_any_on (hits_by counts (renamed_licensing r l) new) (hits_by counts l old) g.crates
      (λ c is. hits_same new old same c)

module _ (r : Renaming) (l : Licensing) (g : Graph) (counts : Crate → Bool)
    (apart : KeepsLicencesApart r (Some l)) where
  pub by_exception_same : (e : Exception) → Contains l.exceptions e → (asked : Asked)
      → grants_by_exception (renamed_licensing r l) (renamed_exception r e) asked ≡ grants_by_exception l e asked
  unfolding grants_by_exception
  by_exception_same e written asked = is_first_renamed exception_span excepts (renamed_exception r) l.exceptions e
      asked (λ d is. excepts_same r d asked) (λ d is same. apart.exceptions l refl d e is written same)
      (λ d same. ap r.span same)

  pub by_allowance_same : (a : Spanned Requirement) → Contains l.allow a → (asked : Asked)
      → grants_by_allowance (renamed_licensing r l) (renamed_allowance r a) asked ≡ grants_by_allowance l a asked
  unfolding grants_by_allowance allows
  by_allowance_same a written asked =
      ap (λ b. b && is_first allowance_span allows (map (renamed_allowance r) l.allow) (renamed_allowance r a) asked)
      (excepted_same r l g counts asked)
      ∙ ap (λ b. is_none (exception_of l asked) && b)
      (is_first_renamed allowance_span allows (renamed_allowance r) l.allow a asked (λ d is. refl)
      (λ d is same. apart.allowances l refl d a is written same) (λ d same. ap r.span same))

  allowance_is_hit : (a : Spanned Requirement) → Contains l.allow a
      → is_hit_by counts (renamed_licensing r l) g (grants_by_allowance (renamed_licensing r l) (renamed_allowance r a))
      ≡ is_hit_by counts l g (grants_by_allowance l a)
  allowance_is_hit a written = is_hit_same r l g counts
      (grants_by_allowance (renamed_licensing r l) (renamed_allowance r a)) (grants_by_allowance l a)
      (by_allowance_same a written)

  exception_is_hit : (e : Exception) → Contains l.exceptions e
      → is_hit_by counts (renamed_licensing r l) g (grants_by_exception (renamed_licensing r l) (renamed_exception r e))
      ≡ is_hit_by counts l g (grants_by_exception l e)
  exception_is_hit e written = is_hit_same r l g counts
      (grants_by_exception (renamed_licensing r l) (renamed_exception r e)) (grants_by_exception l e)
      (by_exception_same e written)

  unmet_anew : not_encountered_keys counts (renamed_licensing r l) g
      ≡ map (spanned r) (not_encountered_keys counts l g)
  unfolding not_encountered_keys
  unmet_anew = reported_anew
      (λ a. not (is_hit_by counts (renamed_licensing r l) g (grants_by_allowance (renamed_licensing r l) a)))
      (λ a. not (is_hit_by counts l g (grants_by_allowance l a))) (renamed_allowance r)
      (λ a. license_key section.LicensesUnused license.LicenseNotEncountered 0 (allowance_span a))
      (λ a. license_key section.LicensesUnused license.LicenseNotEncountered 0 (allowance_span a)) (spanned r) l.allow
      (λ a written. ap (λ b. not b) (allowance_is_hit a written)) (λ a. refl)

  unmet_exceptions_anew : exception_not_encountered_keys counts (renamed_licensing r l) g
      ≡ map (spanned r) (exception_not_encountered_keys counts l g)
  unfolding exception_not_encountered_keys
  unmet_exceptions_anew = reported_anew
      (λ e. not (is_hit_by counts (renamed_licensing r l) g (grants_by_exception (renamed_licensing r l) e)))
      (λ e. not (is_hit_by counts l g (grants_by_exception l e))) (renamed_exception r)
      (λ e. license_key section.LicensesUnused license.LicenseExceptionNotEncountered 0 (exception_span e))
      (λ e. license_key section.LicensesUnused license.LicenseExceptionNotEncountered 0 (exception_span e)) (spanned r)
      l.exceptions (λ e written. ap (λ b. not b) (exception_is_hit e written)) (λ e. refl)

  -- ---- hits

  allowance_hit_anew : (a : Spanned Requirement) → Contains l.allow a
      → allowance_hit counts (renamed_licensing r l) g (renamed_allowance r a)
      ≡ option_map (renamed_hit r) (allowance_hit counts l g a)
  unfolding allowance_hit first_hit
  allowance_hit_anew a written =
      ap (option_map (λ (c : Crate). hit_of LicenseAllow (r.span (allowance_span a)) (Krate (kid_of c))))
      (find_on
      (hits_by counts (renamed_licensing r l) (grants_by_allowance (renamed_licensing r l) (renamed_allowance r a)))
      (hits_by counts l (grants_by_allowance l a)) g.crates
      (λ c is. hits_same r l g counts (grants_by_allowance (renamed_licensing r l) (renamed_allowance r a))
      (grants_by_allowance l a) (by_allowance_same a written) c))
      ∙ crate_hit_anew r LicenseAllow (allowance_span a) _

  exception_hit_anew : (e : Exception) → Contains l.exceptions e
      → exception_hit counts (renamed_licensing r l) g (renamed_exception r e)
      ≡ option_map (renamed_hit r) (exception_hit counts l g e)
  unfolding exception_hit first_hit
  exception_hit_anew e written =
      ap (option_map (λ (c : Crate). hit_of LicenseException (r.span (exception_span e)) (Krate (kid_of c))))
      (find_on
      (hits_by counts (renamed_licensing r l) (grants_by_exception (renamed_licensing r l) (renamed_exception r e)))
      (hits_by counts l (grants_by_exception l e)) g.crates
      (λ c is. hits_same r l g counts (grants_by_exception (renamed_licensing r l) (renamed_exception r e))
      (grants_by_exception l e) (by_exception_same e written) c))
      ∙ crate_hit_anew r LicenseException (exception_span e) _

  hits_anew : licence_hits counts (renamed_licensing r l) g ≡ map (renamed_hit r) (licence_hits counts l g)
  hits_anew =
      let allowed = filter_map (allowance_hit counts l g) l.allow in
      let excepted = filter_map (exception_hit counts l g) l.exceptions in
      ap (λ (hits : List Hit). hits ++ filter_map (exception_hit counts (renamed_licensing r l) g)
      (map (renamed_exception r) l.exceptions))
      (filter_map_anew (allowance_hit counts (renamed_licensing r l) g) (allowance_hit counts l g) (renamed_allowance r)
      (renamed_hit r) l.allow allowance_hit_anew)
      ∙ (ap (λ (hits : List Hit). map (renamed_hit r) allowed ++ hits)
      (filter_map_anew (exception_hit counts (renamed_licensing r l) g) (exception_hit counts l g) (renamed_exception r)
      (renamed_hit r) l.exceptions exception_hit_anew)
      ∙ sym (map-append (renamed_hit r) allowed excepted))

-- ---- code by code

module _ (r : Renaming) (l : Licensing) (g : Graph) (key : Key) (apart : KeepsLicencesApart r (Some l)) where
  abbrev anew : Licensing
  anew = renamed_licensing r l

  there : (d : LicenseCode) → LicenseHolds d (Some l) g key
      → LicenseHolds d (Some anew) g (renamed_as r (License d) key)
  there license.Accepted is = by_counting accepted_keys l anew g key key refl
      (λ counts reports. Contains-same (accepted_keys counts l g) (accepted_keys counts anew g) key
      (sym (accepted_stay r l g counts))) is
  there license.Rejected is = by_counting rejected_keys l anew g key key refl
      (λ counts reports. Contains-same (rejected_keys counts l g) (rejected_keys counts anew g) key
      (sym (rejected_stay r l g counts))) is
  there license.Unlicensed is = by_counting unlicensed_keys l anew g key key refl
      (λ counts reports. Contains-same (unlicensed_keys counts l g) (unlicensed_keys counts anew g) key
      (sym (unlicensed_stay r l g counts))) is
  there license.ParseError is = by_counting parse_error_keys l anew g key key refl
      (λ counts reports. Contains-same (parse_error_keys counts l g) (parse_error_keys counts anew g) key
      (sym (parse_error_stay r l g counts))) is
  there license.SkippedPrivateWorkspaceCrate is = by_counting skipped_private_keys l anew g key key refl
      (λ counts reports. Contains-same (skipped_private_keys counts l g) (skipped_private_keys counts anew g) key
      (sym (skipped_stay r l g counts))) is
  there license.LicenseNotEncountered is = by_counting not_encountered_keys l anew g key (spanned r key) refl
      (λ counts reports. keys_there r (not_encountered_keys counts l g) (not_encountered_keys counts anew g) key
      (unmet_anew r l g counts apart)) is
  there license.LicenseExceptionNotEncountered is = by_counting exception_not_encountered_keys l anew g key
      (spanned r key) refl
      (λ counts reports. keys_there r (exception_not_encountered_keys counts l g)
      (exception_not_encountered_keys counts anew g) key (unmet_exceptions_anew r l g counts apart)) is

  back : (d : LicenseCode) → LicenseHolds d (Some anew) g key
      → (old : Key) × LicenseHolds d (Some l) g old × (key ≡ renamed_as r (License d) old)
  back license.Accepted is = (
    key,
    by_counting accepted_keys anew l g key key refl
        (λ counts reports. Contains-same (accepted_keys counts anew g) (accepted_keys counts l g) key
        (accepted_stay r l g counts)) is,
    refl,
  )
  back license.Rejected is = (
    key,
    by_counting rejected_keys anew l g key key refl
        (λ counts reports. Contains-same (rejected_keys counts anew g) (rejected_keys counts l g) key
        (rejected_stay r l g counts)) is,
    refl,
  )
  back license.Unlicensed is = (
    key,
    by_counting unlicensed_keys anew l g key key refl
        (λ counts reports. Contains-same (unlicensed_keys counts anew g) (unlicensed_keys counts l g) key
        (unlicensed_stay r l g counts)) is,
    refl,
  )
  back license.ParseError is = (
    key,
    by_counting parse_error_keys anew l g key key refl
        (λ counts reports. Contains-same (parse_error_keys counts anew g) (parse_error_keys counts l g) key
        (parse_error_stay r l g counts)) is,
    refl,
  )
  back license.SkippedPrivateWorkspaceCrate is = (
    key,
    by_counting skipped_private_keys anew l g key key refl
        (λ counts reports. Contains-same (skipped_private_keys counts anew g) (skipped_private_keys counts l g) key
        (skipped_stay r l g counts)) is,
    refl,
  )
  back license.LicenseNotEncountered is =
      let old = keys_back r (not_encountered_keys is.counts l g)
      (not_encountered_keys is.counts anew g) key (unmet_anew r l g is.counts apart) is.listed in
      (old.0, record { counts = is.counts; reports = is.reports; listed = old.1 }, old.2)
  back license.LicenseExceptionNotEncountered is =
      let old = keys_back r (exception_not_encountered_keys is.counts l g)
      (exception_not_encountered_keys is.counts anew g) key
      (unmet_exceptions_anew r l g is.counts apart) is.listed in
      (old.0, record { counts = is.counts; reports = is.reports; listed = old.1 }, old.2)

-- ---- a policy that may have no licence check

pub licensed_there : (r : Renaming) (o : Option Licensing) (g : Graph) (key : Key) → KeepsLicencesApart r o
    → (d : LicenseCode) → LicenseHolds d o g key
    → LicenseHolds d (option_map (renamed_licensing r) o) g (renamed_as r (License d) key)
licensed_there r None g key apart license.Accepted is = absurd is
licensed_there r None g key apart _ is = absurd is
licensed_there r (Some l) g key apart d is = there r l g key apart d is

pub licensed_back : (r : Renaming) (o : Option Licensing) (g : Graph) (key : Key) → KeepsLicencesApart r o
    → (d : LicenseCode) → LicenseHolds d (option_map (renamed_licensing r) o) g key
    → (old : Key) × LicenseHolds d o g old × (key ≡ renamed_as r (License d) old)
licensed_back r None g key apart license.Accepted is = absurd is
licensed_back r None g key apart _ is = absurd is
licensed_back r (Some l) g key apart d is = back r l g key apart d is

pub licensed_hits : (r : Renaming) (o : Option Licensing) (g : Graph) (counts : Crate → Bool) → KeepsLicencesApart r o
    → option_map_or (λ l. licence_hits counts l g) (option_map (renamed_licensing r) o) []
    ≡ map (renamed_hit r) (option_map_or (λ l. licence_hits counts l g) o [])
licensed_hits r None g counts apart = refl
licensed_hits r (Some l) g counts apart = hits_anew r l g counts apart
