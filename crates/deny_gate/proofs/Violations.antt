-- The keys of the crate-rule errors are those of the violations.
use Rattle.std.proofs.Common.{◌≡◌, ◌==◌, ◌⊎◌, ℕ, Bool, true, false, not, List, length, Contains, Some, refl, sym, ap}
use Rattle.std.proofs.Common.{◌∙◌, subst, inl, inr}
use Rattle.std.specs.Prelude.{◌&&◌, filter, map}
use Rattle.std.specs.List.{list_any}
use Rattle.std.proofs.lemmas.Bool.{and_parts, and_from, both_ways, cases_Bool, cond-true, cond-false, cond_both}
use Rattle.std.proofs.lemmas.Bool.{false≢true, false_from_ne_true, not-true, not_from_false}
use Rattle.deny_base.specs.Level.{severity_of}
use Rattle.deny_base.specs.declared.code.Code.TheVariants as code
use Rattle.deny_base.specs.declared.code.DiagnosticCode.{DiagnosticCode}
use Rattle.deny_base.specs.declared.code.DiagnosticCode.TheVariants.{Bans, License}
use Rattle.deny_base.specs.declared.key.Key.{Key}
use Rattle.deny_base.specs.declared.level.LintLevel.{LintLevel}
use Rattle.deny_base.specs.declared.level.LintLevel.TheVariants as level
use Rattle.deny_base.specs.declared.license_code.LicenseCode.{LicenseCode}
use Rattle.deny_base.specs.declared.license_code.LicenseCode.TheVariants as license
use Rattle.deny_base_lists.proofs.Members.{Contains-filter, Contains-flat_map, Contains-from_flat_map, any_from}
use Rattle.deny_base_lists.proofs.Members.{any_passes}
use Rattle.deny_base_lists.proofs.Members.{contains_map, filtered, from_contains_map, passes_filter}
use Rattle.deny_spec.specs.Bans.{banned_keys_of, concerns, is_banned, is_exempt, is_waived, is_not_allowed}
use Rattle.deny_spec.specs.Bans.{not_allowed_keys}
use Rattle.deny_spec.specs.Duplicates.{IsDuplicate, duplicate_level, is_denied_multiple}
use Rattle.deny_spec.specs.Graph.{Crate, Graph}
use Rattle.deny_spec.specs.Keys.{crate_key, duplicate_key, no_span}
use Rattle.deny_spec.specs.Match.{matches}
use Rattle.deny_spec.specs.Policy.{AllowEntry, Policy, Spec}
use Rattle.deny_gate.specs.Headline.{AreSeveral, IsBan, IsDeniedMultiple, IsUnlisted, IsViolation, is_ban, is_unlisted}
use Rattle.deny_gate.specs.Headline.{are_several, is_crate_error, is_crate_rule}
use Rattle.deny_spec.specs.Facts as chains
use Rattle.deny_spec.specs.DiagParts.{crates_at}
use Rattle.deny_spec_report.specs.Bans.{banned_keys, banned_diag}
use Rattle.deny_spec_report.specs.AllowList.{not_allowed_diag}
use Rattle.deny_spec_report.specs.Circumstances.{Circumstances}
use Rattle.deny_spec_report.specs.Duplicates.{duplicate_diag}
use Rattle.deny_spec_report.specs.EachCode.{message_as}
use Rattle.deny_spec_report.specs.Facts.{Facts}
use Rattle.deny_spec_report.specs.Holding.{Holds, HoldsBy}
use Rattle.deny_spec_report.specs.Diags.{diag_of, message_by}
use Rattle.deny_spec_report.proofs.Made.{banned_made, duplicate_made, not_allowed_made}
use Rattle.deny_gate.specs.Report.{finding_for, has_error, is_error}
use Rattle.deny_gate.proofs.Beside.{listed_from, listed_to}
use Rattle.deny_gate.proofs.Covered.{exempt_is, is_exempt_test, is_waived_test, waived_is, some_are, some_test}
use Rattle.deny_gate.proofs.Placed.{ArePlaced, at_places}

-- the finding of a key is a crate-rule error by its code
abbrev pub error_at : DiagnosticCode → Circumstances → Key → Bool
error_at d c key = is_error (message_by d c key).severity && is_crate_rule (Some d)

pub error_is : (c : Circumstances) (key : Key) → is_crate_error (finding_for c key) ≡ error_at key.code c key
unfolding is_crate_error has_error finding_for diag_of
error_is c key = refl

-- ---- bans

module _ (p : Policy) (g : Graph) where
  ban_from : (key : Key) → Contains (banned_keys p g) key → IsBan p g key
  unfolding banned_keys_of is_banned concerns
  ban_from key is =
      let of = Contains-from_flat_map (banned_keys_of p g) p.deny key is in
      let ban = of.from in
      let at = from_contains_map (λ (c : Crate). crate_key code.Banned c.place ban.spec.span)
      (filter (is_banned p g ban) g.crates) key of.of in
      let c = at.0 in
      let parts = and_parts (concerns p g ban c) (not (is_waived g ban c))
      (passes_filter (is_banned p g ban) g.crates c at.1) in
      let about = and_parts (matches ban.spec c) (not (is_exempt p g c)) parts.0 in
      record {
        ban = ban;
        written = of.member;
        krate = c;
        known = filtered (is_banned p g ban) g.crates c at.1;
        matched = about.0;
        not_exempt = λ e. both_ways (is_exempt p g c) (not-true (is_exempt p g c) about.1) (is_exempt_test p g c e);
        not_waived = λ l. both_ways (is_waived g ban c) (not-true (is_waived g ban c) parts.1)
            (is_waived_test g ban c l);
        is = sym at.2;
      }

  ban_to : (key : Key) → IsBan p g key → Contains (banned_keys p g) key
  unfolding banned_keys_of is_banned concerns
  ban_to key is =
      let ban = is.ban in
      let c = is.krate in
      let exempt = false_from_ne_true (is_exempt p g c) (λ e. is.not_exempt (exempt_is p g c e)) in
      let waived = false_from_ne_true (is_waived g ban c) (λ e. is.not_waived (waived_is g ban c e)) in
      let about = and_from (matches ban.spec c) (not (is_exempt p g c)) is.matched
      (not_from_false (is_exempt p g c) exempt) in
      let test = and_from (concerns p g ban c) (not (is_waived g ban c)) about
      (not_from_false (is_waived g ban c) waived) in
      let kept = Contains-filter (is_banned p g ban) g.crates c is.known test in
      let made = contains_map (λ (c : Crate). crate_key code.Banned c.place ban.spec.span)
      (filter (is_banned p g ban) g.crates) c kept in
      Contains-flat_map (banned_keys_of p g) p.deny ban key is.written
      (subst (λ (k : Key). Contains (banned_keys_of p g ban) k) (sym is.is) made)

  -- ---- crates that are not allowed

  unlisted_from : (key : Key) → Contains (not_allowed_keys p g) key → IsUnlisted p g key
  unfolding not_allowed_keys is_not_allowed
  unlisted_from key is =
      let at = from_contains_map (λ (c : Crate). crate_key code.NotAllowed c.place no_span)
      (filter (is_not_allowed p g) g.crates) key is in
      let c = at.0 in
      let any = list_any (λ (e : AllowEntry). matches e.spec c) p.allow in
      let parts = and_parts (not (length p.allow == 0)) (not any && not (is_exempt p g c))
      (passes_filter (is_not_allowed p g) g.crates c at.1) in
      let more = and_parts (not any) (not (is_exempt p g c)) parts.1 in
      record {
        some = some_are p.allow parts.0;
        krate = c;
        known = filtered (is_not_allowed p g) g.crates c at.1;
        unlisted = λ e written is. both_ways any (not-true any more.0)
            (any_from (λ (e : AllowEntry). matches e.spec c) p.allow e written is);
        not_exempt = λ e. both_ways (is_exempt p g c) (not-true (is_exempt p g c) more.1) (is_exempt_test p g c e);
        is = sym at.2;
      }

  unlisted_to : (key : Key) → IsUnlisted p g key → Contains (not_allowed_keys p g) key
  unfolding not_allowed_keys is_not_allowed
  unlisted_to key is =
      let c = is.krate in
      let any = list_any (λ (e : AllowEntry). matches e.spec c) p.allow in
      let exempt = false_from_ne_true (is_exempt p g c) (λ e. is.not_exempt (exempt_is p g c e)) in
      let none = false_from_ne_true any (λ some.
      let o = any_passes (λ (e : AllowEntry). matches e.spec c) p.allow some in
      is.unlisted o.one o.member o.passes) in
      let test = and_from (not (length p.allow == 0)) (not any && not (is_exempt p g c)) (some_test p.allow is.some)
      (and_from (not any) (not (is_exempt p g c)) (not_from_false any none) (not_from_false (is_exempt p g c) exempt))
      in
      let kept = Contains-filter (is_not_allowed p g) g.crates c is.known test in
      let made = contains_map (λ (c : Crate). crate_key code.NotAllowed c.place no_span)
      (filter (is_not_allowed p g) g.crates) c kept in
      subst (λ (k : Key). Contains (not_allowed_keys p g) k) (sym is.is) made

-- ---- duplicates

deny_is : (l : LintLevel) → is_error (severity_of l) ≡ true → l ≡ level.Deny
deny_is level.Allow error = absurd (false≢true error)
deny_is level.Warn error = absurd (false≢true error)
deny_is level.Deny error = refl

denied_from : (p : Policy) (crates : List Crate) → duplicate_level p crates ≡ level.Deny
    → IsDeniedMultiple p crates ⊎ (p.multiple_versions ≡ level.Deny)
unfolding duplicate_level is_denied_multiple
denied_from p crates is = elim (cases_Bool (list_any (is_denied_multiple p) crates))
    as (λ _. IsDeniedMultiple p crates ⊎ (p.multiple_versions ≡ level.Deny)) [
      | inl some ↦
          let one = any_passes (is_denied_multiple p) crates some in
          let by = any_passes (λ (s : Spec). matches s one.one) p.deny_multiple one.passes in
          inl (record { krate = one.one; one = one.member; spec = by.one; written = by.member; matched = by.passes })
      | inr none ↦ inr (sym (cond-false (list_any (is_denied_multiple p) crates) level.Deny p.multiple_versions none)
          ∙ is)
    ]

denied_to : (p : Policy) (crates : List Crate) → IsDeniedMultiple p crates ⊎ (p.multiple_versions ≡ level.Deny)
    → duplicate_level p crates ≡ level.Deny
unfolding duplicate_level is_denied_multiple
denied_to p crates (inl by) =
    cond-true (list_any (is_denied_multiple p) crates) level.Deny p.multiple_versions
    (any_from (is_denied_multiple p) crates by.krate by.one
    (any_from (λ (s : Spec). matches s by.krate) p.deny_multiple by.spec by.written by.matched))
denied_to p crates (inr all) =
    cond_both (list_any (is_denied_multiple p) crates) level.Deny p.multiple_versions
    (λ (l : LintLevel). l ≡ level.Deny) (λ _. refl) (λ _. all)

places_in : (places : List ℕ) → (duplicate_key places).places ≡ places
unfolding duplicate_key
places_in places = refl

module _ (p : Policy) (g : Graph) (facts : chains.Facts) (placed : ArePlaced g g.crates) where
  -- the crates of a duplicate are those at the places of its key
  crates_are : (crates : List Crate) (key : Key)
      → ((c : Crate) → Contains crates c → Contains g.crates c)
      → key ≡ duplicate_key (map (λ c. c.place) crates) → crates_at g key.places ≡ crates
  unfolding crates_at
  crates_are crates key sound is =
      let places : key.places ≡ map (λ (c : Crate). c.place) crates = ap (λ (k : Key). k.places) is
      ∙ places_in (map (λ (c : Crate). c.place) crates) in
      ap (crates_at g) places ∙ at_places g crates (λ c at. placed c (sound c at))

  several_from : (key : Key) → IsDuplicate p g facts key
      → is_error (severity_of (duplicate_level p (crates_at g key.places))) ≡ true → AreSeveral p g facts key
  several_from key found error =
      let d = found.2 in
      let listed = listed_from p g facts found.0.name d.crates d.listed d.several in
      let same = crates_are d.crates key (λ c at. (listed.sound c at).known) d.is in
      let denied : duplicate_level p d.crates ≡ level.Deny =
      ap (duplicate_level p) (sym same) ∙ deny_is (duplicate_level p (crates_at g key.places)) error in
      record {
        owner = found.0;
        known = found.1;
        crates = d.crates;
        listed = listed;
        several = d.several;
        denied = denied_from p d.crates denied;
        is = d.is;
      }

  several_to : (key : Key) → AreSeveral p g facts key → IsDuplicate p g facts key
  several_to key is =
      let denied = denied_to p is.crates is.denied in (
        is.owner,
        is.known,
        record {
          crates = is.crates;
          listed = listed_to p g facts is.owner.name is.crates is.listed is.several;
          several = is.several;
          active = λ allow. let both : level.Deny ≡ level.Allow = sym denied ∙ allow in cc both;
          is = is.is;
        },
      )

  several_error : (key : Key) → AreSeveral p g facts key
      → is_error (severity_of (duplicate_level p (crates_at g key.places))) ≡ true
  several_error key is =
      let same = crates_are is.crates key (λ c at. (is.listed.sound c at).known) is.is in
      let denied : duplicate_level p (crates_at g key.places) ≡ level.Deny = ap (duplicate_level p) same
      ∙ denied_to p is.crates is.denied in
      ap (λ (l : LintLevel). is_error (severity_of l)) denied

-- no licence rule is a crate rule
no_crate_rule : (d : LicenseCode) → is_crate_rule (Some (License d)) ≡ false
no_crate_rule license.Accepted = refl
no_crate_rule _ = refl

-- ---- all three rules

module _ (c : Circumstances) (facts : Facts) (placed : ArePlaced c.graph c.graph.crates) where
  abbrev Violates : Key → Type 0
  Violates key = IsViolation c.policy c.graph facts.chains key

  -- the last line is for codes outside the crate rules
  from_code : (d : DiagnosticCode) (key : Key) → HoldsBy d c facts key → error_at d c key ≡ true → Violates key
  unfolding message_as duplicate_diag
  from_code (Bans code.Banned) key is error = is_ban key (ban_from c.policy c.graph key is)
  from_code (Bans code.NotAllowed) key is error = is_unlisted key (unlisted_from c.policy c.graph key is)
  from_code (Bans code.Duplicate) key is error = are_several key
      (several_from c.policy c.graph facts.chains placed key is
      (and_parts (is_error (severity_of (duplicate_level c.policy (crates_at c.graph key.places)))) true error).0)
  from_code (License d) key is error = absurd (false≢true (sym (no_crate_rule d)
      ∙ (and_parts (is_error (message_by (License d) c key).severity) (is_crate_rule (Some (License d))) error).1))
  from_code d key is error = absurd (false≢true (and_parts (is_error (message_by d c key).severity) false error).1)

  pub violation_from : (key : Key) → Holds c facts key → is_crate_error (finding_for c key) ≡ true → Violates key
  violation_from key holds error = from_code key.code key holds (sym (error_is c key) ∙ error)

  -- a violation's key holds by a code of the crate rules, as an error
  record HoldsGravely (key : Key) : Type 0 where
    under : DiagnosticCode
    is_its : key.code ≡ under
    holds : HoldsBy under c facts key
    error : error_at under c key ≡ true

  ban_error : (key : Key) → error_at (Bans code.Banned) c key ≡ true
  unfolding message_as banned_diag
  ban_error key = refl

  unlisted_error : (key : Key) → error_at (Bans code.NotAllowed) c key ≡ true
  unfolding message_as not_allowed_diag
  unlisted_error key = refl

  duplicate_error : (key : Key) → AreSeveral c.policy c.graph facts.chains key
      → error_at (Bans code.Duplicate) c key ≡ true
  unfolding message_as duplicate_diag
  duplicate_error key is =
      and_from (is_error (severity_of (duplicate_level c.policy (crates_at c.graph key.places)))) true
      (several_error c.policy c.graph facts.chains placed key is) refl

  gravely : (key : Key) → Violates key → HoldsGravely key
  gravely key (is_ban k is) =
      let holds = ban_to c.policy c.graph key is in
      record {
        under = Bans code.Banned;
        is_its = (banned_made c.policy c.graph key holds).code_is;
        holds = holds;
        error = ban_error key;
      }
  gravely key (is_unlisted k is) =
      let holds = unlisted_to c.policy c.graph key is in
      record {
        under = Bans code.NotAllowed;
        is_its = (not_allowed_made c.policy c.graph key holds).code_is;
        holds = holds;
        error = unlisted_error key;
      }
  gravely key (are_several k is) =
      let holds = several_to c.policy c.graph facts.chains placed key is in
      record {
        under = Bans code.Duplicate;
        is_its = (duplicate_made c.policy c.graph facts.chains key holds).code_is;
        holds = holds;
        error = duplicate_error key is;
      }

  pub violation_holds : (key : Key) → Violates key → Holds c facts key
  violation_holds key is =
      let g = gravely key is in
      subst (λ (d : DiagnosticCode). HoldsBy d c facts key) (sym g.is_its) g.holds

  pub violation_error : (key : Key) → Violates key → is_crate_error (finding_for c key) ≡ true
  violation_error key is =
      let g = gravely key is in
      error_is c key ∙ (ap (λ (d : DiagnosticCode). error_at d c key) g.is_its ∙ g.error)
