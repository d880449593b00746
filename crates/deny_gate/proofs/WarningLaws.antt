-- The findings of the policy's own warnings are those of their keys, in any circumstances with its older key and its
-- expired waivers.
use Rattle.std.proofs.Common.{◌≡◌, ◌∙◌, ◌++◌, ℕ, Bool, true, List, [], ◌∷◌, Contains, Option, None, Some, ap}
use Rattle.std.proofs.Common.{inl, inr, map, refl, subst, sym}
use Rattle.std.specs.Prelude.{find, option_and_then, option_map}
use Rattle.std.specs.Cmp.{Equal-is, eq_by_cmp_equiv}
use Rattle.std.specs.Option.{option_map_or}
use Rattle.std.specs.Ordering.{eq_by_cmp}
use Rattle.std.proofs.lemmas.Bool.{cases_Bool, cond-true, cond-false}
use Rattle.std.proofs.lemmas.List.{map-append}
use Rattle.std.proofs.lemmas.List.Elements.{All-contains}
use Rattle.std.proofs.lemmas.Option.{none-some, same_Some}
use Rattle.deny_base_lists.specs.Ascending.{AreFirst, Lists}
use Rattle.deny_base_lists.proofs.Agreement.{find_on}
use Rattle.deny_base_lists.proofs.Booleans.{tests_agree}
use Rattle.deny_base_lists.proofs.Filters.{find-map}
use Rattle.deny_base_lists.proofs.Members.{Contains-first, Contains-rest}
use Rattle.deny_base.specs.KeyOrder.{key_cmp}
use Rattle.deny_base.specs.declared.key.Key.{Key}
use Rattle.deny_base.specs.declared.span.Span.{Span}
use Rattle.deny_base.proofs.KeyEqual.{key_cmp-exact, key_cmp-total}
use Rattle.deny_cfg_build.specs.BuildingView.{building_view}
use Rattle.deny_cfg_build.specs.declared.valid.ValidBuildConfig.{ValidBuildConfig}
use Rattle.deny_cfg.specs.PolicyView.{building_of, past_waivers_of}
use Rattle.deny_cfg.specs.Warnings as written
use Rattle.deny_cfg.specs.declared.bans.cfg.valid.ValidConfig.{ValidConfig}
use Rattle.deny_cfg.specs.declared.policy.Policy.{Policy}
use Rattle.deny_spec.specs.Expired.{PastWaiver, expired_key, expired_keys, past_waiver_at}
use Rattle.deny_spec.specs.Wrappers.{same_span}
use Rattle.deny_spec.proofs.SpanLemmas.{same-span, same_span-true}
use Rattle.deny_spec_report.specs.Circumstances.{Circumstances}
use Rattle.deny_spec_report.specs.Diags.{diag_of}
use Rattle.deny_spec_report.specs.Expired.{expired_diag, expired_diag_of}
use Rattle.deny_spec_report.specs.MessageParts.{not_built}
use Rattle.deny_spec_report.specs.PackageDiags.{deprecated_diag}
use Rattle.deny_spec_report.specs.Packages.{deprecated_key, deprecated_keys, deprecated_keys_in}
use Rattle.deny_spec_report.specs.declared.message.Message.{Message}
use Rattle.deny_gate.specs.Gating.{circumstances_of}
use Rattle.deny_gate.specs.Report.{finding_for, policy_id}
use Rattle.deny_gate.specs.declared.report.Finding.{Finding}
use Rattle.deny_gate.specs.private.Warnings.{AreOwnWarnings, AreWarnings, deprecated_warning, deprecated_warnings}
use Rattle.deny_gate.specs.private.Warnings.{expired_warning, older_key_in, warning_for, warnings_of}

abbrev key_in : Finding → Key
key_in f = f.diag.key

-- ---- keys

-- the keys of expired waivers tie exactly where the waivers have one span
expired_tie : (w u : PastWaiver)
    → same_span w.spec.span u.spec.span ≡ eq_by_cmp key_cmp (expired_key u) (expired_key w)
unfolding expired_key
expired_tie w u = tests_agree _ _
    (λ same. subst (λ (k : Key). eq_by_cmp key_cmp (expired_key u) k ≡ true)
    (sym (one_key (same-span w.spec.span u.spec.span same))) ((eq_by_cmp_equiv key_cmp-total).refl (expired_key u)))
    (λ tie. same_span-true w.spec.span u.spec.span
    (sym (ap (λ (k : Key). k.entry) (key_cmp-exact (expired_key u) (expired_key w) ((Equal-is _).0 tie)))))
  where
    one_key : w.spec.span ≡ u.spec.span → expired_key w ≡ expired_key u
    one_key same = λ i. record (expired_key w) { entry = same i }

key_of_expired : (file : ℕ) (w : PastWaiver) → key_in (expired_warning file w) ≡ expired_key w
unfolding expired_warning warning_for
key_of_expired file w = refl

keys_of_expired : (file : ℕ) (waivers : List PastWaiver)
    → map key_in (map (expired_warning file) waivers) ≡ expired_keys waivers
keys_of_expired file [] = refl
keys_of_expired file (w ∷ ws) = ap (λ (k : Key). k ∷ map key_in (map (expired_warning file) ws)) (key_of_expired file w)
    ∙ ap (λ (ks : List Key). expired_key w ∷ ks) (keys_of_expired file ws)

keys_of_older : (file : ℕ) (build : Option ValidBuildConfig)
    → map key_in (deprecated_warnings file (option_and_then (λ b. b.older_key) build))
    ≡ option_map_or deprecated_keys (option_map building_view build) []
unfolding deprecated_warning warning_for deprecated_keys
keys_of_older file None = refl
keys_of_older file (Some build) = by build.older_key
  where
    by : (older : Option Span) → map key_in (deprecated_warnings file older)
        ≡ option_map_or (λ span. deprecated_key span ∷ []) older []
    by None = refl
    by (Some span) = refl

-- the keys of all warnings of a policy
keys_of_all : (file : ℕ) (cfg : ValidConfig) (waivers : List PastWaiver)
    → map key_in (warnings_of file (older_key_in cfg) waivers)
    ≡ option_map_or deprecated_keys (building_of cfg) [] ++ expired_keys waivers
keys_of_all file cfg waivers =
    map-append key_in (deprecated_warnings file (older_key_in cfg)) (map (expired_warning file) waivers)
    ∙ (ap (λ (ks : List Key). ks ++ map key_in (map (expired_warning file) waivers)) (keys_of_older file cfg.build)
    ∙ ap (λ (ks : List Key). option_map_or deprecated_keys (building_of cfg) [] ++ ks) (keys_of_expired file waivers))

-- ---- findings

module _ (c : Circumstances) where
  abbrev file : ℕ
  file = c.files.policy

  older_is : (span : Span) → deprecated_warning file span ≡ finding_for c (deprecated_key span)
  unfolding deprecated_warning warning_for finding_for deprecated_key deprecated_diag diag_of written.deprecated_diag
  older_is span = refl

  older_itself : (span : Span) → deprecated_warning file span ≡ finding_for c (key_in (deprecated_warning file span))
  unfolding deprecated_warning warning_for
  older_itself span = older_is span

  -- the finding of an expired waiver with these words
  abbrev finding_with : PastWaiver → Message → Finding
  finding_with w words = record (expired_warning file w) {
    kid = words.krate;
    diag = diag_of (expired_key w) words;
  }

  -- the finding of an expired waiver that is the first with its span
  expired_is : (w : PastWaiver) → past_waiver_at c.expired w.spec.span ≡ Some w
      → expired_warning file w ≡ finding_for c (expired_key w)
  unfolding expired_warning warning_for finding_for expired_key expired_diag diag_of written.expired_diag
  expired_is w is = sym (ap (λ (o : Option PastWaiver).
      finding_with w (option_map_or (expired_diag_of file) o not_built)) is)

  -- the finding that is the first with a key among those of expired waivers
  first_expired : (key : Key) (f : Finding)
      → find (λ (other : Finding). eq_by_cmp key_cmp key (key_in other)) (map (expired_warning file) c.expired) ≡ Some f
      → key ≡ key_in f → f ≡ finding_for c key
  first_expired key f is named = by (find (λ w. eq_by_cmp key_cmp key (key_in (expired_warning file w))) c.expired) refl
      (sym (find-map (λ (other : Finding). eq_by_cmp key_cmp key (key_in other)) (expired_warning file) c.expired) ∙ is)
    where
      by : (o : Option PastWaiver) → find (λ w. eq_by_cmp key_cmp key (key_in (expired_warning file w))) c.expired ≡ o
          → option_map (expired_warning file) o ≡ Some f → f ≡ finding_for c key
      by None found given = absurd (none-some f given)
      by (Some u) found given =
          let one : expired_warning file u ≡ f = same_Some (expired_warning file u) f given in
          let same : key ≡ expired_key u = named ∙ (ap key_in (sym one) ∙ key_of_expired file u) in
          let first : past_waiver_at c.expired u.spec.span ≡ Some u =
          find_on (λ w. same_span w.spec.span u.spec.span)
          (λ w. eq_by_cmp key_cmp key (key_in (expired_warning file w))) c.expired
          (λ w at. expired_tie w u
          ∙ (ap (λ (k : Key). eq_by_cmp key_cmp k (expired_key w)) (sym same)
          ∙ ap (λ (k : Key). eq_by_cmp key_cmp key k) (sym (key_of_expired file w)))) ∙ found in
          sym one ∙ (expired_is u first ∙ ap (finding_for c) (sym same))

  module _ (older : Option Span) where
    abbrev Test : Key → Finding → Bool
    Test key other = eq_by_cmp key_cmp key (key_in other)

    first_of : (o : Option Span) (f : Finding)
        → find (Test (key_in f)) (warnings_of file o c.expired) ≡ Some f → f ≡ finding_for c (key_in f)
    first_of None f is = first_expired (key_in f) f is refl
    first_of (Some span) f is =
        let first = deprecated_warning file span in
        let others = find (Test (key_in f)) (map (expired_warning file) c.expired) in
        elim (cases_Bool (Test (key_in f) first)) as (λ _. f ≡ finding_for c (key_in f)) [
          | inl e ↦
              let one : first ≡ f =
              same_Some first f (sym (cond-true (Test (key_in f) first) (Some first) others e) ∙ is) in
              subst (λ (g : Finding). g ≡ finding_for c (key_in g)) one (older_itself span)
          | inr e ↦ first_expired (key_in f) f
              (sym (cond-false (Test (key_in f) first) (Some first) others e) ∙ is) refl
        ]

    each : (fs : List Finding) → ((f : Finding) → Contains fs f → f ≡ finding_for c (key_in f))
        → fs ≡ map (finding_for c) (map key_in fs)
    each [] is = refl
    each (f ∷ fs) is = ap (λ (g : Finding). g ∷ fs) (is f (Contains-first f fs))
        ∙ ap (λ (gs : List Finding). finding_for c (key_in f) ∷ gs) (each fs (λ g at. is g (Contains-rest f fs g at)))

    pub are_warnings : (fs : List Finding)
        → Lists key_cmp (Contains (map key_in (warnings_of file older c.expired))) (map key_in fs)
        → AreFirst key_cmp key_in (warnings_of file older c.expired) fs
        → map key_in (warnings_of file older c.expired) ≡ deprecated_keys_in c ++ expired_keys c.expired
        → AreWarnings c fs
    are_warnings fs listed first keys = record {
      keys = map key_in fs;
      listed = subst (λ (ks : List Key). Lists key_cmp (Contains ks) (map key_in fs)) keys listed;
      are = each fs (λ f at. first_of older f (All-contains
          (λ (g : Finding). find (Test (key_in g)) (warnings_of file older c.expired) ≡ Some g) fs f first at));
    }

-- the findings that were gathered and put in order
pub own_warnings : (said : Policy) (fs raw older : List Finding) → said.bans.file_id ≡ policy_id
    → older ≡ deprecated_warnings said.bans.file_id (older_key_in said.bans)
    → raw ≡ older ++ map (expired_warning said.bans.file_id) (past_waivers_of said)
    → Lists key_cmp (Contains (map key_in raw)) (map key_in fs) → AreFirst key_cmp key_in raw fs
    → AreOwnWarnings said fs
own_warnings said fs raw older numbered of_older of_all listed first g replacements view packages =
    let all : raw ≡ warnings_of policy_id (older_key_in said.bans) (past_waivers_of said) =
    of_all ∙ (ap (λ (xs : List Finding). xs ++ map (expired_warning said.bans.file_id) (past_waivers_of said)) of_older
    ∙ ap (λ (n : ℕ). warnings_of n (older_key_in said.bans) (past_waivers_of said)) numbered) in
    are_warnings (circumstances_of said g replacements view packages) (older_key_in said.bans) fs
    (subst (λ (xs : List Finding). Lists key_cmp (Contains (map key_in xs)) (map key_in fs)) all listed)
    (subst (λ (xs : List Finding). AreFirst key_cmp key_in xs fs) all first)
    (keys_of_all policy_id said.bans (past_waivers_of said))
