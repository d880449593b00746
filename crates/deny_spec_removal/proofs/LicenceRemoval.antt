-- Licences that every crate may ask for, and exceptions, that nothing hits can be taken out of a policy.
use Rattle.std.proofs.Common.{◌≡◌, ◌&&◌, ◌∙◌, ◌++◌, ◌||◌, Bool, List, None, Option, Some, [], ap, false, map, not, refl}
use Rattle.std.proofs.Common.{subst, sym, true}
use Rattle.std.specs.Prelude.{Contains, filter, filter_map, is_none, is_some, option_map}
use Rattle.std.specs.List.{list_any}
use Rattle.std.specs.Option.{option_map_or}
use Rattle.std.proofs.lemmas.Bool.{and_from}
use Rattle.deny_base_lists.proofs.Agreement.{filter_map_on, filter_on, find_on, list_any_on, map_on}
use Rattle.deny_base_lists.proofs.Filters.{find-any}
use Rattle.deny_base_lists.proofs.Members.{any_from, contains_map, Contains-same}
use Rattle.deny_base_lists.specs.Ascending.{Lists}
use Rattle.deny_base_lists.proofs.Finding.{found_member}
use Rattle.deny_base.specs.KeyOrder.{key_cmp}
use Rattle.deny_base.specs.declared.code.DiagnosticCode.TheVariants.{License}
use Rattle.deny_base.specs.declared.entry.EntryId.{EntryId}
use Rattle.deny_base.specs.declared.entry.EntryKind.TheVariants.{LicenseAllow, LicenseException}
use Rattle.deny_base.specs.declared.entry.Hit.{Hit}
use Rattle.deny_base.specs.declared.entry.Witness.TheVariants.{Krate}
use Rattle.deny_base.specs.declared.key.Key.{Key}
use Rattle.deny_base.specs.declared.key.Section.TheVariants as section
use Rattle.deny_base.specs.declared.license_code.LicenseCode.{LicenseCode}
use Rattle.deny_base.specs.declared.license_code.LicenseCode.TheVariants as license
use Rattle.deny_base.specs.declared.span.Spanned.{Spanned}
use Rattle.deny_spdx.specs.Truth.{truth}
use Rattle.deny_spdx.specs.declared.expression.Expression.{Expression}
use Rattle.deny_spdx.specs.declared.requirement.Requirement.{Requirement}
use Rattle.deny_spec.specs.Graph.{Crate, Graph, kid_of}
use Rattle.deny_spec.specs.Hits.{hit_of}
use Rattle.deny_spec.specs.Licensing.{Exception, Licensing}
use Rattle.deny_spec.specs.Wrappers.{same_span}
use Rattle.deny_spec.proofs.SpanLemmas.{same_span-itself}
use Rattle.deny_spec_report.specs.Circumstances.{Circumstances}
use Rattle.deny_spec_report.specs.EachCode.{LicenseHolds}
use Rattle.deny_spec_report.specs.Facts.{Facts, AreFacts}
use Rattle.deny_spec_report.specs.FirstMatch.{first_of, is_first}
use Rattle.deny_spec_report.specs.Hits.{TestsLicensed}
use Rattle.deny_spec_report.specs.Licences.{Asked, TestsCounting, accepted_keys, allowance_hit, allowance_span}
use Rattle.deny_spec_report.specs.Licences.{allows}
use Rattle.deny_spec_report.specs.Licences.{asked_in, asked_of, exception_hit, exception_not_encountered_keys}
use Rattle.deny_spec_report.specs.Licences.{exception_of}
use Rattle.deny_spec_report.specs.Licences.{exception_span, excepts, expression_of, first_hit, grants_by_allowance}
use Rattle.deny_spec_report.specs.Licences.{grants_by_exception, hits_by, holds, is_accepted, is_granted, is_hit_by}
use Rattle.deny_spec_report.specs.Licences.{is_scanned, is_passed_over, is_rejected, is_skipped_private, is_unlicensed}
use Rattle.deny_spec_report.specs.Licences.{is_unreadable, keys_where, licence_hits, license_key, licensed_key}
use Rattle.deny_spec_report.specs.Licences.{not_encountered_keys, parse_error_keys, rejected_keys, skipped_private_keys}
use Rattle.deny_spec_report.specs.Licences.{unlicensed_keys}
use Rattle.deny_spec_report.specs.Packages.{build_keys_in}
use Rattle.deny_spec_report.specs.Holding.{Holds}
use Rattle.deny_spec_report.proofs.Kept.{fails_if_gone, filter_map_kept, find_none_on, guarded, reported_kept}
use Rattle.deny_spec_removal.specs.LicenceRemoval.{AreUnhitLicences, LicencesStay, without_licences_in}
use Rattle.deny_spec_removal.specs.Removal.{AreGone, cut_licensing, is_taken, names_as, stays_allowance}
use Rattle.deny_spec_removal.specs.Removal.{stays_exception}
use Rattle.deny_spec_removal.proofs.FirstMatch.{first_stays, is_first_stays}
use Rattle.deny_spec_removal.proofs.FeatureRemoval.{features_hold}
use Rattle.deny_spec_removal.proofs.KeyParts.{by_counting, from_part, kept_part, same_listed}
use Rattle.deny_spec_removal.proofs.ManifestRemoval.{manifests_hold}
use Rattle.deny_spec_removal.proofs.OtherParts.{allow_list_holds, bans_hold, builds_hold, replacing_holds, skips_hold}
use Rattle.deny_spec_removal.proofs.PolicyParts.{PartsHold, listed_in_rest}

-- a crate asks for each requirement of its licence's expression
asked_by : (c : Crate) (e : Expression) (r : Requirement) → expression_of c ≡ Some e → Contains e.requirements r
    → Contains (asked_in c) (asked_of c r)
unfolding asked_in
asked_by c e r read is = subst
    (λ (o : Option Expression). Contains (option_map_or (λ x. map (asked_of c) x.requirements) o []) (asked_of c r))
    (sym read) (contains_map (asked_of c) e.requirements r is)

-- ---- a policy with a licence check, by a test of which crates count

module _ (counts : Crate → Bool) (l : Licensing) (g : Graph) (taken : List EntryId)
    (stay : LicencesStay counts l g taken) where
  abbrev rest : Licensing
  rest = cut_licensing taken l

  hit_where : (grants : Asked → Bool) (c : Crate) (asked : Asked) → Contains g.crates c
      → is_scanned counts l c ≡ true → Contains (asked_in c) asked → grants asked ≡ true
      → is_hit_by counts l g grants ≡ true
  unfolding is_hit_by hits_by
  hit_where grants c asked known scan of is = any_from (hits_by counts l grants) g.crates c known
      (and_from (is_scanned counts l c) (list_any grants (asked_in c)) scan
      (any_from grants (asked_in c) asked of is))

  -- the first exception for a requirement that is asked for stays, since it is hit
  exception_stays : (c : Crate) (asked : Asked) (e : Exception) → Contains g.crates c
      → is_scanned counts l c ≡ true → Contains (asked_in c) asked → first_of excepts l.exceptions asked ≡ Some e
      → stays_exception taken e ≡ true
  unfolding grants_by_exception
  exception_stays c asked e known scan of is = stay.exceptions e
      (found_member (λ x. excepts x asked) l.exceptions e is)
      (hit_where (grants_by_exception l e) c asked known scan of
      (ap (λ (o : Option Exception). option_map_or (λ first. same_span (exception_span first) (exception_span e)) o
      false) is ∙ same_span-itself (exception_span e)))

  exception_same : (c : Crate) (asked : Asked) → Contains g.crates c → is_scanned counts l c ≡ true
      → Contains (asked_in c) asked → exception_of rest asked ≡ exception_of l asked
  unfolding exception_of
  exception_same c asked known scan of = first_stays excepts (stays_exception taken) l.exceptions asked
      (λ e is. exception_stays c asked e known scan of is)

  -- the first licence for a requirement that is asked for stays where there is no exception, since it is hit
  allowance_stays : (c : Crate) (asked : Asked) (a : Spanned Requirement) → Contains g.crates c
      → is_scanned counts l c ≡ true → Contains (asked_in c) asked → is_none (exception_of l asked) ≡ true
      → first_of allows l.allow asked ≡ Some a → stays_allowance taken a ≡ true
  unfolding grants_by_allowance
  allowance_stays c asked a known scan of none is = stay.allowances a
      (found_member (λ x. allows x asked) l.allow a is)
      (hit_where (grants_by_allowance l a) c asked known scan of
      (and_from (is_none (exception_of l asked)) (is_first allowance_span allows l.allow a asked) none
      (ap (λ (o : Option (Spanned Requirement)). option_map_or
      (λ first. same_span (allowance_span first) (allowance_span a)) o false) is
      ∙ same_span-itself (allowance_span a))))

  allowance_same : (c : Crate) (asked : Asked) → Contains g.crates c → is_scanned counts l c ≡ true
      → Contains (asked_in c) asked → is_none (exception_of l asked) ≡ true
      → first_of allows rest.allow asked ≡ first_of allows l.allow asked
  allowance_same c asked known scan of none = first_stays allows (stays_allowance taken) l.allow asked
      (λ a is. allowance_stays c asked a known scan of none is)

  granted_same : (c : Crate) (asked : Asked) → Contains g.crates c → is_scanned counts l c ≡ true
      → Contains (asked_in c) asked → is_granted rest asked ≡ is_granted l asked
  unfolding is_granted
  granted_same c asked known scan of =
      ap (λ (o : Option Exception). is_some o || list_any (λ a. allows a asked) rest.allow)
      (exception_same c asked known scan of)
      ∙ by (exception_of l asked) refl
    where
      by : (o : Option Exception) → exception_of l asked ≡ o
          → (is_some o || list_any (λ a. allows a asked) rest.allow)
          ≡ (is_some o || list_any (λ a. allows a asked) l.allow)
      by (Some e) at = refl
      by None at =
          find-any (λ a. allows a asked) rest.allow
          ∙ (ap (λ (o : Option (Spanned Requirement)). is_some o)
          (allowance_same c asked known scan of (ap (λ (o : Option Exception). is_none o) at))
          ∙ sym (find-any (λ a. allows a asked) l.allow))

  -- ---- keys of crates

  holds_same : (c : Crate) (e : Expression) → Contains g.crates c → is_scanned counts l c ≡ true
      → expression_of c ≡ Some e → holds rest c e ≡ holds l c e
  unfolding holds
  holds_same c e known scan read = ap (λ (granted : List Bool). truth granted e.tree)
      (map_on (λ r. is_granted rest (asked_of c r)) (λ r. is_granted l (asked_of c r)) e.requirements
      (λ r is. granted_same c (asked_of c r) known scan (asked_by c e r read is)))

  accepted_same : (c : Crate) → Contains g.crates c → is_accepted counts rest c ≡ is_accepted counts l c
  unfolding is_accepted is_scanned is_passed_over
  accepted_same c known = guarded (is_scanned counts l c) (option_map_or (holds rest c) (expression_of c) false)
      (option_map_or (holds l c) (expression_of c) false) (λ scan. by scan (expression_of c) refl)
    where
      by : is_scanned counts l c ≡ true → (o : Option Expression) → expression_of c ≡ o
          → option_map_or (holds rest c) o false ≡ option_map_or (holds l c) o false
      by scan None at = refl
      by scan (Some e) at = holds_same c e known scan at

  rejected_same : (c : Crate) → Contains g.crates c → is_rejected counts rest c ≡ is_rejected counts l c
  unfolding is_rejected is_scanned is_passed_over
  rejected_same c known = guarded (is_scanned counts l c)
      (option_map_or (λ e. not (holds rest c e)) (expression_of c) false)
      (option_map_or (λ e. not (holds l c e)) (expression_of c) false)
      (λ scan. by scan (expression_of c) refl)
    where
      by : is_scanned counts l c ≡ true → (o : Option Expression) → expression_of c ≡ o
          → option_map_or (λ e. not (holds rest c e)) o false ≡ option_map_or (λ e. not (holds l c e)) o false
      by scan None at = refl
      by scan (Some e) at = ap (λ b. not b) (holds_same c e known scan at)

  accepted_stay : accepted_keys counts rest g ≡ accepted_keys counts l g
  unfolding keys_where
  accepted_stay = ap (map (licensed_key license.Accepted))
      (filter_on (is_accepted counts rest) (is_accepted counts l) g.crates accepted_same)

  rejected_stay : rejected_keys counts rest g ≡ rejected_keys counts l g
  unfolding keys_where
  rejected_stay = ap (map (licensed_key license.Rejected))
      (filter_on (is_rejected counts rest) (is_rejected counts l) g.crates rejected_same)

  unlicensed_stay : unlicensed_keys counts rest g ≡ unlicensed_keys counts l g
  unfolding keys_where is_unlicensed is_scanned is_passed_over
  unlicensed_stay = refl

  parse_error_stay : parse_error_keys counts rest g ≡ parse_error_keys counts l g
  unfolding keys_where is_unreadable is_scanned is_passed_over
  parse_error_stay = refl

  skipped_stay : skipped_private_keys counts rest g ≡ skipped_private_keys counts l g
  unfolding keys_where is_skipped_private is_passed_over
  skipped_stay = refl

  -- ---- which entries are hit

  pub by_exception_same : (e : Exception) (c : Crate) (asked : Asked) → Contains g.crates c
      → is_scanned counts l c ≡ true → Contains (asked_in c) asked
      → grants_by_exception rest e asked ≡ grants_by_exception l e asked
  unfolding grants_by_exception
  by_exception_same e c asked known scan of = is_first_stays exception_span excepts (stays_exception taken)
      l.exceptions e asked (λ x is. exception_stays c asked x known scan of is)

  pub by_allowance_same : (a : Spanned Requirement) (c : Crate) (asked : Asked) → Contains g.crates c
      → is_scanned counts l c ≡ true → Contains (asked_in c) asked
      → grants_by_allowance rest a asked ≡ grants_by_allowance l a asked
  unfolding grants_by_allowance
  by_allowance_same a c asked known scan of =
      ap (λ (o : Option Exception). is_none o && is_first allowance_span allows rest.allow a asked)
      (exception_same c asked known scan of)
      ∙ guarded (is_none (exception_of l asked)) (is_first allowance_span allows rest.allow a asked)
      (is_first allowance_span allows l.allow a asked)
      (λ none. is_first_stays allowance_span allows (stays_allowance taken) l.allow a asked
      (λ x is. allowance_stays c asked x known scan of none is))

  -- two tests of requirements agree on all that are asked for
  abbrev Agree : (Asked → Bool) → (Asked → Bool) → Type 0
  Agree new old = (c : Crate) → (asked : Asked) → Contains g.crates c → is_scanned counts l c ≡ true
      → Contains (asked_in c) asked → new asked ≡ old asked

  hits_same : (new old : Asked → Bool) → Agree new old → (c : Crate) → Contains g.crates c
      → hits_by counts rest new c ≡ hits_by counts l old c
  unfolding hits_by is_scanned is_passed_over
  hits_same new old same c known = guarded (is_scanned counts l c) (list_any new (asked_in c))
      (list_any old (asked_in c))
      (λ scan. list_any_on new old (asked_in c) (λ asked of. same c asked known scan of))

  is_hit_same : (new old : Asked → Bool) → Agree new old → is_hit_by counts rest g new ≡ is_hit_by counts l g old
  unfolding is_hit_by
  is_hit_same new old same = list_any_on (hits_by counts rest new) (hits_by counts l old) g.crates
      (λ c known. hits_same new old same c known)

  allowance_is_hit : (a : Spanned Requirement) → is_hit_by counts rest g (grants_by_allowance rest a)
      ≡ is_hit_by counts l g (grants_by_allowance l a)
  allowance_is_hit a = is_hit_same (grants_by_allowance rest a) (grants_by_allowance l a) (by_allowance_same a)

  exception_is_hit : (e : Exception) → is_hit_by counts rest g (grants_by_exception rest e)
      ≡ is_hit_by counts l g (grants_by_exception l e)
  exception_is_hit e = is_hit_same (grants_by_exception rest e) (grants_by_exception l e) (by_exception_same e)

  allowances_part : not_encountered_keys counts rest g
      ≡ filter (λ key. not (is_taken taken LicenseAllow key.entry)) (not_encountered_keys counts l g)
  unfolding not_encountered_keys
  allowances_part =
      ap (map (λ (a : Spanned Requirement).
      license_key section.LicensesUnused license.LicenseNotEncountered 0 (allowance_span a)))
      (filter_on (λ a. not (is_hit_by counts rest g (grants_by_allowance rest a)))
      (λ a. not (is_hit_by counts l g (grants_by_allowance l a))) rest.allow
      (λ a is. ap (λ b. not b) (allowance_is_hit a)))
      ∙ reported_kept (stays_allowance taken) (λ a. not (is_hit_by counts l g (grants_by_allowance l a)))
      (λ a. license_key section.LicensesUnused license.LicenseNotEncountered 0 (allowance_span a))
      (λ key. not (is_taken taken LicenseAllow key.entry)) l.allow (λ a. refl)

  exceptions_part : exception_not_encountered_keys counts rest g
      ≡ filter (λ key. not (is_taken taken LicenseException key.entry)) (exception_not_encountered_keys counts l g)
  unfolding exception_not_encountered_keys
  exceptions_part =
      ap (map (λ (e : Exception).
      license_key section.LicensesUnused license.LicenseExceptionNotEncountered 0 (exception_span e)))
      (filter_on (λ e. not (is_hit_by counts rest g (grants_by_exception rest e)))
      (λ e. not (is_hit_by counts l g (grants_by_exception l e))) rest.exceptions
      (λ e is. ap (λ b. not b) (exception_is_hit e)))
      ∙ reported_kept (stays_exception taken) (λ e. not (is_hit_by counts l g (grants_by_exception l e)))
      (λ e. license_key section.LicensesUnused license.LicenseExceptionNotEncountered 0 (exception_span e))
      (λ key. not (is_taken taken LicenseException key.entry)) l.exceptions (λ e. refl)

  -- ---- hits

  allowance_hit_same : (a : Spanned Requirement) → allowance_hit counts rest g a ≡ allowance_hit counts l g a
  unfolding allowance_hit first_hit
  allowance_hit_same a = ap (option_map (λ (c : Crate). hit_of LicenseAllow (allowance_span a) (Krate (kid_of c))))
      (find_on (hits_by counts rest (grants_by_allowance rest a)) (hits_by counts l (grants_by_allowance l a)) g.crates
      (hits_same (grants_by_allowance rest a) (grants_by_allowance l a) (by_allowance_same a)))

  no_allowance_hit : (a : Spanned Requirement) → is_hit_by counts l g (grants_by_allowance l a) ≡ false
      → allowance_hit counts l g a ≡ None
  unfolding is_hit_by allowance_hit first_hit
  no_allowance_hit a none = ap (option_map (λ (c : Crate). hit_of LicenseAllow (allowance_span a) (Krate (kid_of c))))
      (find_none_on (hits_by counts l (grants_by_allowance l a)) g.crates none)

  allowance_hits_stay : filter_map (allowance_hit counts rest g) rest.allow
      ≡ filter_map (allowance_hit counts l g) l.allow
  allowance_hits_stay =
      filter_map_on (allowance_hit counts rest g) (allowance_hit counts l g) rest.allow (λ a is. allowance_hit_same a)
      ∙ filter_map_kept (stays_allowance taken) (allowance_hit counts l g) l.allow
      (λ a written gone. no_allowance_hit a (fails_if_gone (stays_allowance taken a)
      (is_hit_by counts l g (grants_by_allowance l a)) (stay.allowances a written) gone))

  exception_hit_same : (e : Exception) → exception_hit counts rest g e ≡ exception_hit counts l g e
  unfolding exception_hit first_hit
  exception_hit_same e =
      ap (option_map (λ (c : Crate). hit_of LicenseException (exception_span e) (Krate (kid_of c))))
      (find_on (hits_by counts rest (grants_by_exception rest e)) (hits_by counts l (grants_by_exception l e)) g.crates
      (hits_same (grants_by_exception rest e) (grants_by_exception l e) (by_exception_same e)))

  no_exception_hit : (e : Exception) → is_hit_by counts l g (grants_by_exception l e) ≡ false
      → exception_hit counts l g e ≡ None
  unfolding is_hit_by exception_hit first_hit
  no_exception_hit e none =
      ap (option_map (λ (c : Crate). hit_of LicenseException (exception_span e) (Krate (kid_of c))))
      (find_none_on (hits_by counts l (grants_by_exception l e)) g.crates none)

  exception_hits_stay : filter_map (exception_hit counts rest g) rest.exceptions
      ≡ filter_map (exception_hit counts l g) l.exceptions
  exception_hits_stay =
      filter_map_on (exception_hit counts rest g) (exception_hit counts l g) rest.exceptions
      (λ e is. exception_hit_same e)
      ∙ filter_map_kept (stays_exception taken) (exception_hit counts l g) l.exceptions
      (λ e written gone. no_exception_hit e (fails_if_gone (stays_exception taken e)
      (is_hit_by counts l g (grants_by_exception l e)) (stay.exceptions e written) gone))

  hits_stay : licence_hits counts rest g ≡ licence_hits counts l g
  hits_stay =
      ap (λ (hits : List Hit). hits ++ filter_map (exception_hit counts rest g) rest.exceptions) allowance_hits_stay
      ∙ ap (λ (hits : List Hit). filter_map (allowance_hit counts l g) l.allow ++ hits) exception_hits_stay

-- ---- code by code

module _ (l : Licensing) (g : Graph) (taken : List EntryId)
    (stay : (counts : Crate → Bool) → TestsCounting l g counts → LicencesStay counts l g taken) (key : Key) where
  abbrev rest_of_it : Licensing
  rest_of_it = cut_licensing taken l

  there : (d : LicenseCode) → names_as taken (License d) key ≡ false → LicenseHolds d (Some l) g key
      → LicenseHolds d (Some rest_of_it) g key
  there license.Accepted unnamed is = by_counting accepted_keys l rest_of_it g key key refl
      (λ counts reports. Contains-same (accepted_keys counts l g) (accepted_keys counts rest_of_it g) key
      (sym (accepted_stay counts l g taken (stay counts reports)))) is
  there license.Rejected unnamed is = by_counting rejected_keys l rest_of_it g key key refl
      (λ counts reports. Contains-same (rejected_keys counts l g) (rejected_keys counts rest_of_it g) key
      (sym (rejected_stay counts l g taken (stay counts reports)))) is
  there license.Unlicensed unnamed is = by_counting unlicensed_keys l rest_of_it g key key refl
      (λ counts reports. Contains-same (unlicensed_keys counts l g) (unlicensed_keys counts rest_of_it g) key
      (sym (unlicensed_stay counts l g taken (stay counts reports)))) is
  there license.ParseError unnamed is = by_counting parse_error_keys l rest_of_it g key key refl
      (λ counts reports. Contains-same (parse_error_keys counts l g) (parse_error_keys counts rest_of_it g) key
      (sym (parse_error_stay counts l g taken (stay counts reports)))) is
  there license.SkippedPrivateWorkspaceCrate unnamed is = by_counting skipped_private_keys l rest_of_it g key key refl
      (λ counts reports. Contains-same (skipped_private_keys counts l g) (skipped_private_keys counts rest_of_it g) key
      (sym (skipped_stay counts l g taken (stay counts reports)))) is
  there license.LicenseNotEncountered unnamed is = by_counting not_encountered_keys l rest_of_it g key key refl
      (λ counts reports listed. kept_part (λ k. is_taken taken LicenseAllow k.entry)
      (not_encountered_keys counts rest_of_it g) (not_encountered_keys counts l g) key
      (allowances_part counts l g taken (stay counts reports)) listed unnamed) is
  there license.LicenseExceptionNotEncountered unnamed is = by_counting exception_not_encountered_keys l rest_of_it g
      key key refl
      (λ counts reports listed. kept_part (λ k. is_taken taken LicenseException k.entry)
      (exception_not_encountered_keys counts rest_of_it g) (exception_not_encountered_keys counts l g) key
      (exceptions_part counts l g taken (stay counts reports)) listed unnamed) is

  back : (d : LicenseCode) → LicenseHolds d (Some rest_of_it) g key → LicenseHolds d (Some l) g key
      × (names_as taken (License d) key ≡ false)
  back license.Accepted is = (
    by_counting accepted_keys rest_of_it l g key key refl
        (λ counts reports. Contains-same (accepted_keys counts rest_of_it g) (accepted_keys counts l g) key
        (accepted_stay counts l g taken (stay counts reports))) is,
    refl,
  )
  back license.Rejected is = (
    by_counting rejected_keys rest_of_it l g key key refl
        (λ counts reports. Contains-same (rejected_keys counts rest_of_it g) (rejected_keys counts l g) key
        (rejected_stay counts l g taken (stay counts reports))) is,
    refl,
  )
  back license.Unlicensed is = (
    by_counting unlicensed_keys rest_of_it l g key key refl
        (λ counts reports. Contains-same (unlicensed_keys counts rest_of_it g) (unlicensed_keys counts l g) key
        (unlicensed_stay counts l g taken (stay counts reports))) is,
    refl,
  )
  back license.ParseError is = (
    by_counting parse_error_keys rest_of_it l g key key refl
        (λ counts reports. Contains-same (parse_error_keys counts rest_of_it g) (parse_error_keys counts l g) key
        (parse_error_stay counts l g taken (stay counts reports))) is,
    refl,
  )
  back license.SkippedPrivateWorkspaceCrate is = (
    by_counting skipped_private_keys rest_of_it l g key key refl
        (λ counts reports. Contains-same (skipped_private_keys counts rest_of_it g) (skipped_private_keys counts l g)
        key (skipped_stay counts l g taken (stay counts reports))) is,
    refl,
  )
  back license.LicenseNotEncountered is =
      let old = from_part (λ k. is_taken taken LicenseAllow k.entry)
      (not_encountered_keys is.counts rest_of_it g) (not_encountered_keys is.counts l g) key
      (allowances_part is.counts l g taken (stay is.counts is.reports)) is.listed in
      (record { counts = is.counts; reports = is.reports; listed = old.0 }, old.1)
  back license.LicenseExceptionNotEncountered is =
      let old = from_part (λ k. is_taken taken LicenseException k.entry)
      (exception_not_encountered_keys is.counts rest_of_it g)
      (exception_not_encountered_keys is.counts l g) key
      (exceptions_part is.counts l g taken (stay is.counts is.reports)) is.listed in
      (record { counts = is.counts; reports = is.reports; listed = old.0 }, old.1)

-- licences that are hit stay, of a policy that may have no licence check
abbrev Stay : Option Licensing → Graph → List EntryId → Type 0
Stay o g taken = (l : Licensing) → o ≡ Some l → (counts : Crate → Bool) → TestsCounting l g counts
    → LicencesStay counts l g taken

licensed_there : (o : Option Licensing) (g : Graph) (taken : List EntryId) (key : Key) → Stay o g taken
    → (d : LicenseCode) → names_as taken (License d) key ≡ false → LicenseHolds d o g key
    → LicenseHolds d (option_map (cut_licensing taken) o) g key
licensed_there None g taken key stay license.Accepted unnamed is = is
licensed_there None g taken key stay _ unnamed is = absurd is
licensed_there (Some l) g taken key stay d unnamed is = there l g taken (stay l refl) key d unnamed is

licensed_back : (o : Option Licensing) (g : Graph) (taken : List EntryId) (key : Key) → Stay o g taken
    → (d : LicenseCode) → LicenseHolds d (option_map (cut_licensing taken) o) g key
    → LicenseHolds d o g key × (names_as taken (License d) key ≡ false)
licensed_back None g taken key stay license.Accepted is = absurd is
licensed_back None g taken key stay _ is = absurd is
licensed_back (Some l) g taken key stay d is = back l g taken (stay l refl) key d is

licensed_hits : (o : Option Licensing) (g : Graph) (taken : List EntryId) (counts : Crate → Bool) → Stay o g taken
    → TestsLicensed o g counts
    → option_map_or (λ l. licence_hits counts l g) (option_map (cut_licensing taken) o) []
    ≡ option_map_or (λ l. licence_hits counts l g) o []
licensed_hits None g taken counts stay reports = refl
licensed_hits (Some l) g taken counts stay reports = hits_stay counts l g taken (stay l refl counts reports)

-- ---- part by part

module _ (c : Circumstances) (facts : Facts) (taken : List EntryId) (unhit : AreUnhitLicences c taken) (key : Key) where
  abbrev licences_left : Option Licensing
  licences_left = option_map (cut_licensing taken) c.licensing

  parts_hold : PartsHold c (without_licences_in c taken) facts taken key
  parts_hold =
      let p = c.policy in
      record {
        deprecated = λ of. (λ unnamed is. is, λ is. (is, refl));
        expired = λ of. (λ unnamed is. is, λ is. (is, refl));
        bans = bans_hold c facts taken key p.skip p.skip_tree p.replacing licences_left c.building
            (unhit.no_wrapper key.entry);
        allow_list = allow_list_holds c facts taken key p.deny p.skip p.skip_tree p.replacing licences_left c.building;
        skips = skips_hold c facts taken key p.deny p.replacing licences_left c.building (unhit.no_skip key.entry)
            (unhit.no_root key.entry);
        features = features_hold c facts taken key p.deny p.skip p.skip_tree p.replacing licences_left c.building
            (same_listed (build_keys_in c facts) (build_keys_in c facts) key false refl refl);
        manifests = manifests_hold c facts p.deny p.skip p.skip_tree p.replacing (λ k known. refl) taken key
            licences_left c.building;
        replacing = replacing_holds c facts taken key p.deny p.skip p.skip_tree licences_left c.building
            (unhit.no_ignore key.entry);
        builds = builds_hold c facts taken key p.deny p.skip p.skip_tree p.replacing licences_left unhit.no_bypass;
        licences = λ d of. (
          λ unnamed is. licensed_there c.licensing c.graph taken key unhit.licences d unnamed is,
          λ is. licensed_back c.licensing c.graph taken key unhit.licences d is,
        );
      }

-- ---- all together

pub licences_gone : (c : Circumstances) (facts : Facts) (taken : List EntryId) (keys : List Key) → AreFacts c facts
    → AreUnhitLicences c taken
    → Lists key_cmp (Holds c facts) keys → AreGone c (without_licences_in c taken) facts taken keys
licences_gone c facts taken keys are unhit listed = record {
  facts_hold = record {
    chains = record { counts = are.chains.counts; in_tree = are.chains.in_tree };
    reached = are.reached;
  };
  listed = listed_in_rest c (without_licences_in c taken) facts taken keys
      (λ key. parts_hold c facts taken unhit key) listed;
  hits = refl;
  licence_hits = λ counts reports. licensed_hits c.licensing c.graph taken counts unhit.licences reports;
}
