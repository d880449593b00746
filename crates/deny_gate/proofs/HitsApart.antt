-- No two hits have the same entry, since no two entries have the same span.
use Rattle.std.proofs.Common.{◌≡◌, ◌∙◌, ◌++◌, ◌+◌, ℕ, Bool, List, [], ◌∷◌, Option, None, Some, ap, arith, refl, subst}
use Rattle.std.proofs.Common.{sym}
use Rattle.std.specs.Prelude.{Contains, IfSome, filter_map, find, map, option_and_then, option_map}
use Rattle.std.specs.List.{flat_map}
use Rattle.std.specs.Option.{option_map_or}
use Rattle.std.proofs.lemmas.List.Elements.{Contains-append_right}
use Rattle.std.proofs.lemmas.Option.{none-some, same_Some}
use Rattle.deny_base_lists.proofs.Members.{Contains-by_cases, Contains-first, Contains-flat_map, Contains-from_flat_map}
use Rattle.deny_base_lists.proofs.Members.{Contains-rest, from_contains_map, from_filter_map, no_member}
use Rattle.deny_base.specs.Entry.{entry_kind_number}
use Rattle.deny_base.specs.declared.entry.EntryId.{EntryId}
use Rattle.deny_base.specs.declared.entry.EntryKind.TheVariants as kind
use Rattle.deny_base.specs.declared.entry.Hit.{Hit}
use Rattle.deny_base.specs.declared.entry.Witness.TheVariants.{Krate, Parent}
use Rattle.deny_base.specs.declared.span.Span.{Span}
use Rattle.deny_base.specs.declared.span.Spanned.{Spanned}
use Rattle.deny_spdx.specs.declared.requirement.Requirement.{Requirement}
use Rattle.deny_cfg_entries.specs.SpecView.{spec_view}
use Rattle.deny_cfg_entries.specs.declared.spec_or_extended.PackageSpecOrExtended.{PackageSpecOrExtended}
use Rattle.deny_cfg_entries.specs.declared.waiver.Waiver.{Waiver}
use Rattle.deny_cfg_tables.specs.declared.bans.cfg.std_replacements.StdReplacementConfig.{StdReplacementConfig}
use Rattle.deny_cfg_tables.specs.declared.bans.cfg.tree_skip.TreeSkipExtended.{TreeSkipExtended}
use Rattle.deny_cfg_tables.specs.declared.licenses.config.Config.{Config}
use Rattle.deny_cfg_tables.specs.declared.licenses.exception.Exception as cfg
use Rattle.deny_cfg.specs.LabelSpans.{build_spans, feature_spans_by, of_some, own_span, spec_span, std_spans_by}
use Rattle.deny_cfg.specs.LabelSpans.{with_spec, word_spans}
use Rattle.deny_cfg.specs.Lawful.{IsLawful, IsLawfulLicensing, entry_spans, no_span, wrapper_spans}
use Rattle.deny_cfg.specs.LicensingView.{exception_view, licensing_of, licensing_view}
use Rattle.deny_cfg.specs.PolicyView.{AreGlobsRead, ban_view, building_of, entry_view, policy_view, replacing_view}
use Rattle.deny_cfg.specs.PolicyView.{root_view, roots_from, words_or_none}
use Rattle.deny_cfg.specs.declared.bans.cfg.valid.KrateBan.{KrateBan}
use Rattle.deny_cfg.specs.declared.bans.cfg.valid.ValidConfig.{ValidConfig}
use Rattle.deny_spec.specs.Facts as chains
use Rattle.deny_spec.specs.Graph.{Crate, Graph, dependents, kid_of}
use Rattle.deny_spec.specs.Hits.{all_hits, hit_of, root_hit, skip_hit, wrapper_hit, wrapper_hit_at}
use Rattle.deny_spec.specs.Licensing.{Exception, Licensing}
use Rattle.deny_spec.specs.Match.{matches}
use Rattle.deny_spec.specs.Policy as policy
use Rattle.deny_spec.specs.Policy.{Ban, Entry, Policy, Replacing, Root}
use Rattle.deny_spec.specs.Skips.{is_skipped}
use Rattle.deny_spec.specs.Wrappers.{hits_wrapper, wraps}
use Rattle.deny_spec.specs.declared.package.Package.{Package}
use Rattle.deny_spec_report.specs.Facts.{Facts}
use Rattle.deny_spec_report.specs.Packages.{bypass_hits}
use Rattle.deny_spec_report.specs.Licences.{allowance_hit, allowance_span, exception_hit, exception_span, first_hit}
use Rattle.deny_spec_report.specs.Licences.{grants_by_allowance, grants_by_exception, licence_hits}
use Rattle.deny_spec_report.specs.Saying.{Saying}
use Rattle.deny_spec_report.specs.StdReplacements.{hits_ignore, ignore_hit, ignore_hits, ignore_span}
use Rattle.deny_gate.specs.private.Hits.{IsOneEach}
use Rattle.deny_gate.proofs.BypassHitsApart.{bypasses_part, scanning_at}
use Rattle.deny_gate.proofs.HitParts.{Part, by_crate, given_part, joined_parts, no_part, part_turned}
use Rattle.deny_gate.proofs.ApartLemmas.{AreApart, apart_left, apart_of, apart_right, one_mapped, one_of}
use Rattle.deny_spec_removal.proofs.Taken.{entry}

-- ---- skips

skip_hit_entry : (g : Graph) (f : chains.Facts) (s : Entry) (h : Hit) → skip_hit g f s ≡ Some h
    → h.entry ≡ entry kind.Skip s.spec.span
unfolding skip_hit
skip_hit_entry g f s h is = by_crate kind.Skip s.spec.span (find (is_skipped f s) g.crates) h is

-- two entries with nothing but names are equal where their spans are
one_entry : (es : List (PackageSpecOrExtended Waiver)) (x y : Entry) → AreApart (flat_map (with_spec no_span) es)
    → Contains (map entry_view es) x → Contains (map entry_view es) y → x.spec.span ≡ y.spec.span → x ≡ y
one_entry es x y apart at_x at_y same =
    let e = from_contains_map entry_view es x at_x in
    let d = from_contains_map entry_view es y at_y in
    let names : e.0.spec.name.span ≡ d.0.spec.name.span =
    ap (λ (v : Entry). v.spec.span) e.2 ∙ (same ∙ sym (ap (λ (v : Entry). v.spec.span) d.2)) in
    let one : e.0 ≡ d.0 = one_of (with_spec no_span) es e.0 d.0 e.0.spec.name.span apart e.1 d.1 (named e.0)
    (subst (Contains (with_spec no_span d.0)) (sym names) (named d.0)) in
    sym e.2 ∙ (ap entry_view one ∙ d.2)
  where
    named : (e : PackageSpecOrExtended Waiver) → Contains (with_spec no_span e) e.spec.name.span
    named e = Contains-first e.spec.name.span (of_some no_span e.inner)

skips_part : (g : Graph) (f : chains.Facts) (es : List (PackageSpecOrExtended Waiver))
    → AreApart (flat_map (with_spec no_span) es) → Part 0 0 (filter_map (skip_hit g f) (map entry_view es))
unfolding entry_kind_number
skips_part g f es apart = given_part kind.Skip (λ (s : Entry). s.spec.span) (skip_hit g f) (skip_hit_entry g f)
    (map entry_view es) (λ x y at_x at_y same. ap (skip_hit g f) (one_entry es x y apart at_x at_y same))

-- ---- ignores, of what the standard library replaces

ignore_hit_entry : (s : Replacing) (g : Graph) (said : Saying) (e : Entry) (h : Hit) → ignore_hit s g said e ≡ Some h
    → h.entry ≡ entry kind.ReplacementIgnore (ignore_span e)
unfolding ignore_hit
ignore_hit_entry s g said e h is =
    by_crate kind.ReplacementIgnore (ignore_span e) (find (hits_ignore s g said e) g.crates) h
    is

ignores_part : (std : Option StdReplacementConfig) (g : Graph) (said : Saying)
    → AreApart (of_some (std_spans_by no_span) std)
    → Part 6 6 (option_map_or (λ r. ignore_hits r g said) (option_map replacing_view std) [])
unfolding entry_kind_number ignore_hits
ignores_part None g said apart = no_part 6 6
ignores_part (Some std) g said apart =
    let r = replacing_view std in
    given_part kind.ReplacementIgnore ignore_span (ignore_hit r g said) (ignore_hit_entry r g said) r.ignore
    (λ x y at_x at_y same. ap (ignore_hit r g said) (one_entry std.ignore x y apart at_x at_y same))

-- ---- skipped trees: two with the same span have the same spec, and a hit depends on no more

record IsViewOf (es : List (PackageSpecOrExtended TreeSkipExtended)) (t : Root) : Type 0 where
  of : PackageSpecOrExtended TreeSkipExtended
  written : Contains es of
  spec : t.spec ≡ spec_view of.spec

root_of : (n : ℕ) (es : List (PackageSpecOrExtended TreeSkipExtended)) (t : Root) → Contains (roots_from n es) t
    → IsViewOf es t
root_of n [] t at = absurd (no_member t at)
root_of n (e ∷ es) t at = Contains-by_cases (root_view n e) (roots_from (n + 1) es) t at
    (λ same. record {
      of = e;
      written = Contains-first e es;
      spec = ap (λ (r : Root). r.spec) (sym same);
    })
    (λ later. let rest = root_of (n + 1) es t later in record {
      of = rest.of;
      written = Contains-rest e es rest.of rest.written;
      spec = rest.spec;
    })

root_hit_entry : (g : Graph) (t : Root) (h : Hit) → root_hit g t ≡ Some h → h.entry ≡ entry kind.SkipRoot t.spec.span
unfolding root_hit
root_hit_entry g t h is = by_crate kind.SkipRoot t.spec.span (find (matches t.spec) g.crates) h is

hit_by_spec : (g : Graph) (t u : Root) → t.spec ≡ u.spec → root_hit g t ≡ root_hit g u
unfolding root_hit
hit_by_spec g t u same = ap (λ (s : policy.Spec). option_map
    (λ c. hit_of kind.SkipRoot s.span (Krate (kid_of c))) (find (matches s) g.crates)) same

roots_part : (g : Graph) (es : List (PackageSpecOrExtended TreeSkipExtended))
    → AreApart (flat_map (with_spec no_span) es) → Part 1 1 (filter_map (root_hit g) (roots_from 0 es))
unfolding entry_kind_number
roots_part g es apart = given_part kind.SkipRoot (λ (t : Root). t.spec.span) (root_hit g) (root_hit_entry g)
    (roots_from 0 es)
    (λ t u at_t at_u same. hit_by_spec g t u (one_spec t u (root_of 0 es t at_t) (root_of 0 es u at_u) same))
  where
    named : (e : PackageSpecOrExtended TreeSkipExtended) → Contains (with_spec no_span e) e.spec.name.span
    named e = Contains-first e.spec.name.span (of_some no_span e.inner)

    one_spec : (t u : Root) → IsViewOf es t → IsViewOf es u → t.spec.span ≡ u.spec.span → t.spec ≡ u.spec
    one_spec t u e d same =
        let names : e.of.spec.name.span ≡ d.of.spec.name.span =
        sym (ap (λ (s : policy.Spec). s.span) e.spec) ∙ (same ∙ ap (λ (s : policy.Spec). s.span) d.spec) in
        let one : e.of ≡ d.of = one_of (with_spec no_span) es e.of d.of e.of.spec.name.span apart e.written d.written
        (named e.of) (subst (Contains (with_spec no_span d.of)) (sym names) (named d.of)) in
        e.spec ∙ (ap (λ (x : PackageSpecOrExtended TreeSkipExtended). spec_view x.spec) one ∙ sym d.spec)

-- ---- wrappers, of one ban or of two

abbrev Said : Type 0
Said = PackageSpecOrExtended KrateBan

wrappers_said : (inner : Option KrateBan) → of_some wrapper_spans inner
    ≡ word_spans (words_or_none (option_and_then (λ ban. ban.wrappers) inner))
wrappers_said None = refl
wrappers_said (Some ban) = by_words ban.wrappers
  where
    by_words : (o : Option (List policy.SpannedText)) → of_some word_spans o ≡ word_spans (words_or_none o)
    by_words None = refl
    by_words (Some words) = refl

-- the span of a wrapper is among those of its entry
wrapper_there : (e : Said) (w : policy.SpannedText) → Contains (ban_view e).wrappers w
    → Contains (with_spec wrapper_spans e) w.span
wrapper_there e w at = Contains-append_right (spec_span e.spec) (of_some wrapper_spans e.inner) w.span
    (subst (λ (rs : List Span). Contains rs w.span) (sym (wrappers_said e.inner))
    (Contains-flat_map own_span (ban_view e).wrappers w w.span at (Contains-first w.span [])))

one_wrapper : (e : Said) (v w : policy.SpannedText) → AreApart (with_spec wrapper_spans e)
    → Contains (ban_view e).wrappers v
    → Contains (ban_view e).wrappers w → v.span ≡ w.span → v ≡ w
one_wrapper e v w apart at_v at_w same = one_of own_span (ban_view e).wrappers v w v.span
    (subst AreApart (wrappers_said e.inner) (apart_right (spec_span e.spec) (of_some wrapper_spans e.inner) apart))
    at_v at_w (Contains-first v.span []) (subst (Contains (own_span w)) (sym same) (Contains-first w.span []))

-- a hit is of a wrapper of one of the entries
record IsOfWrapper (p : Policy) (g : Graph) (es : List Said) (h : Hit) : Type 0 where
  said : Said
  written : Contains es said
  wrapper : policy.SpannedText
  within : Contains (ban_view said).wrappers wrapper
  gives : wrapper_hit p g (ban_view said) wrapper ≡ Some h

by_parent : (span : Span) (c : Crate) (o : Option Crate) (h : Hit)
    → option_map (λ parent. hit_of kind.Wrapper span (Parent (kid_of c) (kid_of parent))) o ≡ Some h
    → h.entry ≡ entry kind.Wrapper span
by_parent span c None h is = absurd (none-some h is)
by_parent span c (Some parent) h is = ap (λ (k : Hit). k.entry) (sym (same_Some _ h is))

at_crate : (g : Graph) (ban : Ban) (w : policy.SpannedText) (o : Option Crate) (h : Hit)
    → option_and_then (wrapper_hit_at g ban w) o ≡ Some h → h.entry ≡ entry kind.Wrapper w.span
unfolding wrapper_hit_at
at_crate g ban w None h is = absurd (none-some h is)
at_crate g ban w (Some c) h is = by_parent w.span c (find (wraps ban.wrappers w) (dependents g c.place)) h is

wrapper_hit_entry : (p : Policy) (g : Graph) (ban : Ban) (w : policy.SpannedText) (h : Hit)
    → wrapper_hit p g ban w ≡ Some h
    → h.entry ≡ entry kind.Wrapper w.span
unfolding wrapper_hit
wrapper_hit_entry p g ban w h is = at_crate g ban w (find (hits_wrapper p g ban w) g.crates) h is

module _ (p : Policy) (g : Graph) (es : List Said) (apart : AreApart (flat_map (with_spec wrapper_spans) es)) where
  abbrev wrapper_hits : List Hit
  wrapper_hits = flat_map (λ ban. filter_map (wrapper_hit p g ban) ban.wrappers) (map ban_view es)

  of_wrapper : (h : Hit) → Contains wrapper_hits h → IsOfWrapper p g es h
  of_wrapper h at =
      let ban = Contains-from_flat_map (λ ban. filter_map (wrapper_hit p g ban) ban.wrappers) (map ban_view es) h at in
      let e = from_contains_map ban_view es ban.from ban.member in
      let w = from_filter_map (wrapper_hit p g (ban_view e.0)) (ban_view e.0).wrappers h
      (subst (λ (b : Ban). Contains (filter_map (wrapper_hit p g b) b.wrappers) h) (sym e.2) ban.of) in record {
        said = e.0;
        written = e.1;
        wrapper = w.from;
        within = w.member;
        gives = w.gives;
      }

  same_wrapper : (h k : Hit) (x : IsOfWrapper p g es h) (y : IsOfWrapper p g es k) → h.entry ≡ k.entry → h ≡ k
  same_wrapper h k x y same =
      let spans : x.wrapper.span ≡ y.wrapper.span =
      ap (λ (e : EntryId). e.range)
      (sym (wrapper_hit_entry p g (ban_view x.said) x.wrapper h x.gives)
      ∙ (same ∙ wrapper_hit_entry p g (ban_view y.said) y.wrapper k y.gives)) in
      let one : x.said ≡ y.said = one_of (with_spec wrapper_spans) es x.said y.said x.wrapper.span apart x.written
      y.written (wrapper_there x.said x.wrapper x.within)
      (subst (Contains (with_spec wrapper_spans y.said)) (sym spans) (wrapper_there y.said y.wrapper y.within)) in
      let within : Contains (ban_view y.said).wrappers x.wrapper =
      subst (λ (e : Said). Contains (ban_view e).wrappers x.wrapper) one x.within in
      let word : x.wrapper ≡ y.wrapper = one_wrapper y.said x.wrapper y.wrapper
      (apart_of (with_spec wrapper_spans) es y.said apart y.written) within y.within spans in
      same_Some h k
      (sym x.gives
      ∙ (ap (λ (e : Said). wrapper_hit p g (ban_view e) x.wrapper) one
      ∙ (ap (wrapper_hit p g (ban_view y.said)) word ∙ y.gives)))

  wrappers_part : Part 2 2 wrapper_hits
  unfolding entry_kind_number
  wrappers_part = record {
    once = λ h k at_h at_k same. same_wrapper h k (of_wrapper h at_h) (of_wrapper k at_k) same;
    kinds = λ h at.
        let of = of_wrapper h at in
        let is : entry_kind_number h.entry.kind ≡ 2 =
        ap (λ (e : EntryId). entry_kind_number e.kind)
        (wrapper_hit_entry p g (ban_view of.said) of.wrapper h of.gives) in
        (omega (arith, is), omega (arith, is));
  }

-- ---- licences and exceptions

allowance_hit_entry : (counts : Crate → Bool) (l : Licensing) (g : Graph) (a : Spanned Requirement) (h : Hit)
    → allowance_hit counts l g a ≡ Some h → h.entry ≡ entry kind.LicenseAllow (allowance_span a)
unfolding allowance_hit
allowance_hit_entry counts l g a h is = by_crate kind.LicenseAllow (allowance_span a)
    (first_hit counts l g (grants_by_allowance l a)) h is

exception_hit_entry : (counts : Crate → Bool) (l : Licensing) (g : Graph) (e : Exception) (h : Hit)
    → exception_hit counts l g e ≡ Some h → h.entry ≡ entry kind.LicenseException (exception_span e)
unfolding exception_hit
exception_hit_entry counts l g e h is = by_crate kind.LicenseException (exception_span e)
    (first_hit counts l g (grants_by_exception l e)) h is

licences_part : (counts : Crate → Bool) (g : Graph) (o : Option Config) → IfSome o IsLawfulLicensing
    → Part 7 8 (option_map_or (λ l. licence_hits counts l g) (licensing_of o) [])
unfolding entry_kind_number
licences_part counts g None lawful = no_part 7 8
licences_part counts g (Some config) lawful =
    let l = licensing_view config in
    joined_parts 7 7 8 8 (filter_map (allowance_hit counts l g) l.allow)
    (filter_map (exception_hit counts l g) l.exceptions)
    (given_part kind.LicenseAllow allowance_span (allowance_hit counts l g) (allowance_hit_entry counts l g) l.allow
    (λ a b at_a at_b same. ap (allowance_hit counts l g)
    (one_mapped (λ (x : Spanned Requirement). x.span) config.allow a b lawful.allow at_a at_b same)))
    (given_part kind.LicenseException exception_span (exception_hit counts l g)
    (exception_hit_entry counts l g) l.exceptions
    (λ d e at_d at_e same. ap (exception_hit counts l g) (one_exception d e at_d at_e same)))
    (omega arith) (omega arith) (omega arith)
  where
    one_exception : (d e : Exception) → Contains (map exception_view config.exceptions) d
        → Contains (map exception_view config.exceptions) e → exception_span d ≡ exception_span e → d ≡ e
    one_exception d e at_d at_e same =
        let x = from_contains_map exception_view config.exceptions d at_d in
        let y = from_contains_map exception_view config.exceptions e at_e in
        let one : x.0 ≡ y.0 = one_mapped (λ (z : cfg.Exception). z.spec.name.span) config.exceptions x.0 y.0
        lawful.exceptions x.1 y.1
        (ap exception_span x.2 ∙ (same ∙ sym (ap exception_span y.2))) in
        sym x.2 ∙ (ap exception_view one ∙ y.2)

-- ---- all hits

-- the spans of entries of one kind are among those of all
pub record Parts (cfg : ValidConfig) : Type 0 where
  pub bans : AreApart (flat_map (with_spec wrapper_spans) cfg.denied)
  pub features : AreApart (flat_map (feature_spans_by no_span) cfg.features)
  pub skips : AreApart (flat_map (with_spec no_span) cfg.skipped)
  pub trees : AreApart (flat_map (with_spec no_span) cfg.tree_skipped)
  pub std : AreApart (of_some (std_spans_by no_span) cfg.std_replacements)
  pub build : AreApart (of_some build_spans cfg.build)

pub parts_of : (cfg : ValidConfig) → IsLawful cfg → Parts cfg
unfolding entry_spans
parts_of cfg lawful =
    let second = apart_right (flat_map (with_spec wrapper_spans) cfg.denied
    ++ flat_map spec_span cfg.denied_multiple_versions) _ lawful in
    let third = apart_right (flat_map (with_spec no_span) cfg.allowed) _ second in
    let fourth = apart_right (of_some own_span cfg.external_default_features) _ third in
    let fifth = apart_right (of_some own_span cfg.workspace_default_features) _ fourth in
    let sixth = apart_right (flat_map (feature_spans_by no_span) cfg.features) _ fifth in
    let seventh = apart_right (flat_map (with_spec no_span) cfg.skipped) _ sixth in
    let eighth = apart_right (flat_map (with_spec no_span) cfg.tree_skipped) _ seventh in record {
      bans = apart_left (flat_map (with_spec wrapper_spans) cfg.denied)
          (flat_map spec_span cfg.denied_multiple_versions) (apart_left _ _ lawful);
      features = apart_left (flat_map (feature_spans_by no_span) cfg.features) _ fifth;
      skips = apart_left (flat_map (with_spec no_span) cfg.skipped) _ sixth;
      trees = apart_left (flat_map (with_spec no_span) cfg.tree_skipped) _ seventh;
      std = apart_left (of_some (std_spans_by no_span) cfg.std_replacements) _ eighth;
      build = apart_left (of_some build_spans cfg.build) []
          (apart_right (of_some (std_spans_by no_span) cfg.std_replacements) _ eighth);
    }

-- no two hits of both checks have the same entry, by a configuration whose entries differ in their spans
pub hits_apart : (cfg : ValidConfig) (licences : Option Config) (g : Graph) (f : Facts) (said : Saying)
    (packages : List Package) (counts : Crate → Bool) → AreGlobsRead cfg → IsLawful cfg
    → IfSome licences IsLawfulLicensing
    → IsOneEach ((all_hits (policy_view cfg) g f.chains
    ++ (option_map_or (λ r. ignore_hits r g said) (option_map replacing_view cfg.std_replacements) []
    ++ option_map_or (λ b. bypass_hits (scanning_at g f packages b)) (building_of cfg) []))
    ++ option_map_or (λ l. licence_hits counts l g) (licensing_of licences) [])
hits_apart cfg licences g f said packages counts read lawful lawful_too =
    let p = policy_view cfg in
    let parts = parts_of cfg lawful in
    let trees = joined_parts 1 1 2 2 (filter_map (root_hit g) p.skip_tree) (wrapper_hits p g cfg.denied parts.bans)
    (roots_part g cfg.tree_skipped parts.trees) (wrappers_part p g cfg.denied parts.bans)
    (omega arith) (omega arith) (omega arith) in
    let crates = joined_parts 0 0 1 2 (filter_map (skip_hit g f.chains) p.skip) _
    (skips_part g f.chains cfg.skipped parts.skips) trees (omega arith) (omega arith) (omega arith) in
    let ignores : List Hit =
    option_map_or (λ r. ignore_hits r g said) (option_map replacing_view cfg.std_replacements) [] in
    let bypasses : List Hit = option_map_or (λ b. bypass_hits (scanning_at g f packages b)) (building_of cfg) [] in
    let granted : List Hit = option_map_or (λ l. licence_hits counts l g) (licensing_of licences) [] in
    let others : Part 3 6 (ignores ++ bypasses) = part_turned 3 6 bypasses ignores
    (joined_parts 3 5 6 6 bypasses ignores (bypasses_part g f packages cfg.build read parts.build)
    (ignores_part cfg.std_replacements g said parts.std) (omega arith) (omega arith) (omega arith)) in
    let bans : Part 0 6 (all_hits p g f.chains ++ (ignores ++ bypasses)) =
    joined_parts 0 2 3 6 (all_hits p g f.chains) (ignores ++ bypasses) crates others
    (omega arith) (omega arith) (omega arith) in
    let all = joined_parts 0 6 7 8 (all_hits p g f.chains ++ (ignores ++ bypasses)) granted bans
    (licences_part counts g licences lawful_too) (omega arith) (omega arith) (omega arith) in
    all.once
