-- No checksum of a script has the span of one of a path, in what a text says of builds.
use Rattle.std.proofs.Common.{◌≡◌, ◌∙◌, ◌++◌, ◌+◌, ℕ, List, [], Option, None, Some, ap, refl, subst, sym}
use Rattle.std.specs.Prelude.{Contains, option_map}
use Rattle.std.specs.List.{flat_map}
use Rattle.std.proofs.lemmas.List.Elements.{Contains-append_left, Contains-append_right}
use Rattle.std.proofs.lemmas.Option.{none-some, same_Some}
use Rattle.deny_base_lists.proofs.Members.{Contains-first, Contains-flat_map, from_contains_map}
use Rattle.deny_base.specs.declared.span.Span.{Span}
use Rattle.deny_base.specs.declared.span.Spanned.{Spanned}
use Rattle.deny_cfg_tables.specs.declared.bans.cfg.checksum.Checksum.{Checksum}
use Rattle.deny_toml.proofs.ApartGrammar.{tree_apart}
use Rattle.deny_toml.proofs.ParserLaws.{tree_holds}
use Rattle.deny_cfg_build.specs.BuildingView.{building_view, bypass_view, checksum_view, path_view}
use Rattle.deny_cfg_build.specs.declared.valid.ValidBuildConfig.{ValidBuildConfig}
use Rattle.deny_cfg_build.specs.declared.valid.ValidBypass.{ValidBypass}
use Rattle.deny_spec.specs.Building.{AllowedPath, Building, Bypass}
use Rattle.deny_cfg.specs.LabelSpans.{build_spans, bypass_spans, of_some, own_span, path_spans}
use Rattle.deny_cfg.specs.LabelSpans.{pattern_spans, spec_span, word_spans}
use Rattle.deny_cfg.specs.Lawful.{IsLawful}
use Rattle.deny_cfg.specs.PolicyText.{IsPolicyOf}
use Rattle.deny_cfg.specs.PolicyView.{building_of}
use Rattle.deny_cfg.specs.declared.policy.Policy.{Policy}
use Rattle.deny_cfg_entries.specs.declared.day.Day.{Day}
use Rattle.deny_cfg.proofs.CurrentLaws.{current_labels}
use Rattle.deny_cfg.proofs.LabelConfig.{config_are_labels}
use Rattle.deny_cfg.proofs.LabelValid.{valid_are_labels}
use Rattle.deny_cfg.proofs.LawfulLaws.{lawful}
use Rattle.deny_gate.specs.Report.{policy_id}
use Rattle.deny_gate.proofs.ApartLemmas.{AreApart, apart_both, apart_left, apart_of, apart_right, one_of}
use Rattle.deny_gate.proofs.HitsApart.{parts_of}
use Rattle.deny_gate.proofs.ScriptSums.{SumsDiffer}

-- ---- the entries of a text's policy differ in their spans

lawful_of : (today : Option Day) (text : List ℕ) (said : Policy) → IsPolicyOf today text policy_id said
    → IsLawful said.bans
lawful_of today text said is =
    let says = is.says in
    let of = says.is_tree in
    lawful text said.bans (current_labels today text is.written said.bans is.current.bans
    (valid_are_labels text is.config policy_id (policy_id + 1) is.written is.valid
    (config_are_labels text says.tree is.config says.is_tree (tree_holds text of.0 _ says.tree says.utf8 of.1 refl of.3)
    (tree_apart text of.0 _ says.tree of.1 of.3) says.reads)))

-- ---- checksums of one entry, and of two

-- the view of a checksum that is written
of_sum : (o : Option (Spanned Checksum)) (sum : Spanned (List ℕ)) → option_map checksum_view o ≡ Some sum
    → Contains (of_some own_span o) sum.span
of_sum None sum is = absurd (none-some sum is)
of_sum (Some written) sum is = subst (Contains (own_span written))
    (ap (λ (s : Spanned (List ℕ)). s.span) (same_Some (checksum_view written) sum is))
    (Contains-first written.span [])

module _ (v : ValidBypass) where
  abbrev sums : List Span
  sums = of_some own_span v.build_script

  abbrev others : List Span
  others = word_spans v.required_features
      ++ (of_some pattern_spans v.allow_globs ++ (flat_map path_spans v.allow ++ (of_some own_span v.expires ++ [])))

  script_there : (sum : Spanned (List ℕ)) → (bypass_view v).script ≡ Some sum → Contains sums sum.span
  script_there sum is = of_sum v.build_script sum is

  path_there : (a : AllowedPath) (sum : Spanned (List ℕ)) → Contains (bypass_view v).allow a → a.checksum ≡ Some sum
      → Contains others sum.span
  path_there a sum at is =
      let from = from_contains_map path_view v.allow a at in
      let written : Contains (of_some own_span from.0.checksum) sum.span =
      of_sum from.0.checksum sum (ap (λ (x : AllowedPath). x.checksum) from.2 ∙ is) in
      Contains-append_right (word_spans v.required_features) _ sum.span
      (Contains-append_right (of_some pattern_spans v.allow_globs) _ sum.span
      (Contains-append_left (flat_map path_spans v.allow) (of_some own_span v.expires ++ []) sum.span
      (Contains-flat_map path_spans v.allow from.0 sum.span from.1
      (Contains-append_right (own_span from.0.path) (of_some own_span from.0.checksum ++ []) sum.span
      (Contains-append_left (of_some own_span from.0.checksum) [] sum.span written)))))

  in_entry : (r : Span) → Contains (sums ++ others) r → Contains (bypass_spans v) r
  in_entry r at = Contains-append_right (spec_span v.spec) (sums ++ others) r at

differ_in : (valid : ValidBuildConfig) → AreApart (build_spans valid) → SumsDiffer (building_view valid)
differ_in valid apart y z at_y at_z sum is a at_a other is_too same =
    let entries : AreApart (flat_map bypass_spans valid.bypass) =
    apart_left (flat_map bypass_spans valid.bypass) []
    (apart_right (pattern_spans valid.script_extensions) _ apart) in
    let v = from_contains_map bypass_view valid.bypass y at_y in
    let u = from_contains_map bypass_view valid.bypass z at_z in
    let first : Contains (sums v.0) sum.span =
    script_there v.0 sum (ap (λ (x : Bypass). x.script) v.2 ∙ is) in
    let second : Contains (others u.0) other.span =
    path_there u.0 a other (subst (λ (x : Bypass). Contains x.allow a) (sym u.2) at_a) is_too in
    let one : v.0 ≡ u.0 = one_of bypass_spans valid.bypass v.0 u.0 sum.span entries v.1 u.1
    (in_entry v.0 sum.span (Contains-append_left (sums v.0) (others v.0) sum.span first))
    (subst (Contains (bypass_spans u.0)) (sym same)
    (in_entry u.0 other.span (Contains-append_right (sums u.0) (others u.0) other.span second))) in
    apart_both (sums u.0) (others u.0) other.span
    (apart_right (spec_span u.0.spec) (sums u.0 ++ others u.0) (apart_of bypass_spans valid.bypass u.0 entries u.1))
    (subst (Contains (sums u.0)) same (subst (λ (x : ValidBypass). Contains (sums x) sum.span) one first)) second

differ_by : (build : Option ValidBuildConfig) → AreApart (of_some build_spans build) → (b : Building)
    → option_map building_view build ≡ Some b → SumsDiffer b
differ_by None apart b said = absurd (none-some b said)
differ_by (Some valid) apart b said =
    subst (λ (x : Building). SumsDiffer x) (same_Some (building_view valid) b said) (differ_in valid apart)

pub sums_differ : (today : Option Day) (text : List ℕ) (said : Policy) → IsPolicyOf today text policy_id said
    → (b : Building) → building_of said.bans ≡ Some b → SumsDiffer b
sums_differ today text said is b of =
    differ_by said.bans.build (parts_of said.bans (lawful_of today text said is)).build b of
