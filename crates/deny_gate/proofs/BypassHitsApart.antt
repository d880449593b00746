-- No two hits of bypasses, of their paths and of their globs have the same entry, since no two of these have the same
-- span.
use Rattle.std.proofs.Common.{◌≡◌, ◌∙◌, ◌++◌, List, [], ◌∷◌, Option, None, Some, ap, refl, subst, sym}
use Rattle.std.specs.Prelude.{Contains, IfSome, map, option_map}
use Rattle.std.specs.List.{AllZip, AllByRecursion, flat_map}
use Rattle.std.specs.Option.{option_map_or}
use Rattle.std.proofs.lemmas.List.Elements.{Contains-append_left, Contains-append_right}
use Rattle.std.proofs.lemmas.Option.{same_Some}
use Rattle.deny_base_lists.proofs.Members.{Contains-by_cases, Contains-first, Contains-flat_map, Contains-from_flat_map}
use Rattle.deny_base_lists.proofs.Members.{at_member, from_contains_map, no_member}
use Rattle.deny_base.specs.Entry.{entry_kind_number}
use Rattle.deny_base.specs.declared.entry.EntryId.{EntryId}
use Rattle.deny_base.specs.declared.entry.EntryKind.{EntryKind}
use Rattle.deny_base.specs.declared.entry.EntryKind.TheVariants as kind
use Rattle.deny_base.specs.declared.entry.Hit.{Hit}
use Rattle.deny_base.specs.declared.span.Span.{Span}
use Rattle.deny_cfg_tables.specs.declared.bans.cfg.bypass.Bypass as written
use Rattle.deny_cfg_tables.specs.declared.bans.cfg.bypass.BypassPath.{BypassPath}
use Rattle.deny_cfg_build.specs.Build.{IsBypassOf, IsReadBuild, listed}
use Rattle.deny_cfg_build.specs.BuildingView.{building_view, bypass_view, globs_view, path_view, words_of}
use Rattle.deny_cfg_build.specs.Globs.{IsSetOf, OfBoth, own_text}
use Rattle.deny_cfg_build.specs.declared.glob_set.ValidGlobSet.{ValidGlobSet}
use Rattle.deny_cfg_build.specs.declared.pattern.GlobPattern.{GlobPattern}
use Rattle.deny_cfg_build.specs.declared.pattern.GlobPattern.TheVariants.{User}
use Rattle.deny_cfg_build.specs.declared.valid.ValidBuildConfig.{ValidBuildConfig}
use Rattle.deny_cfg_build.specs.declared.valid.ValidBypass.{ValidBypass}
use Rattle.deny_cfg_build.proofs.BuiltinLaws.{kept_each}
use Rattle.deny_spec.specs.Building.{AllowedPath, Building, Bypass}
use Rattle.deny_spec.specs.declared.package.Package.{Package}
use Rattle.deny_cfg.specs.LabelSpans.{build_spans, bypass_spans, of_some, own_span, path_spans, pattern_span}
use Rattle.deny_cfg.specs.LabelSpans.{pattern_spans, spec_span, word_spans}
use Rattle.deny_spec.specs.Graph.{Graph}
use Rattle.deny_spec.specs.Policy.{SpannedText}
use Rattle.deny_spec_report.specs.BuildScripts.{bypass_span}
use Rattle.deny_spec_report.specs.Facts.{Facts}
use Rattle.deny_spec_report.specs.PackageFiles.{path_span}
use Rattle.deny_spec_report.specs.Packages.{Scanning, bypass_hits, bypass_hits_of, glob_hit, path_hit}
use Rattle.deny_gate.proofs.ApartLemmas.{AreApart, apart_left, apart_of, apart_right, one_of}
use Rattle.deny_gate.proofs.BypassHits.{IsHitOf, bypass_hit_entry, glob_hit_entry, hit_of_one, kinds_of, of_bypass}
use Rattle.deny_gate.proofs.BypassHits.{of_glob}
use Rattle.deny_gate.proofs.BypassHits.{of_path, path_hit_entry}
use Rattle.deny_gate.proofs.HitParts.{Part, no_part}
use Rattle.deny_spec_removal.proofs.Taken.{entry}

abbrev pub scanning_at : Graph → Facts → List Package → Building → Scanning
scanning_at g f packages b = record { building = b; graph = g; packages = packages; reached = f.reached }

-- ---- the spans of an entry's hits are among those of the entry

-- the globs of an entry are those that the policy writes
abbrev pub AreUsers : List GlobPattern → Type 0
AreUsers patterns = (p : GlobPattern) → Contains patterns p → (w : SpannedText) × (p ≡ User w)

all_users : (words : List SpannedText) → AllByRecursion (λ p. (w : SpannedText) × (p ≡ User w)) (map User words)
all_users [] = tt
all_users (w ∷ ws) = ((w, refl), all_users ws)

abbrev pub HasUsers : Option ValidGlobSet → Type 0
HasUsers globs = IfSome globs (λ g. AreUsers g.patterns)

pub users_of : (said : Option (List SpannedText)) (globs : Option ValidGlobSet)
    → OfBoth (λ own. IsSetOf own_text (map User own)) said globs → HasUsers globs
users_of None None both = tt
users_of None (Some globs) both = absurd both
users_of (Some said) None both = absurd both
users_of (Some said) (Some globs) both = λ p at.
    at_member (λ (p : GlobPattern). (w : SpannedText) × (p ≡ User w)) globs.patterns p
    (kept_each (λ (p : GlobPattern). (w : SpannedText) × (p ≡ User w)) both (all_users said)) at

users_in : (said : List written.Bypass) (vs : List ValidBypass) (v : ValidBypass) → AllZip IsBypassOf said vs
    → Contains vs v → HasUsers v.allow_globs
users_in [] [] v zip at = absurd (no_member v at)
users_in [] (x ∷ vs) v zip at = absurd zip
users_in (s ∷ said) [] v zip at = absurd zip
users_in (s ∷ said) (x ∷ vs) v zip at = Contains-by_cases x vs v at
    (λ same. subst (λ (y : ValidBypass). HasUsers y.allow_globs) same
    (users_of s.allow_globs x.allow_globs zip.0.allow_globs))
    (λ later. users_in said vs v zip.1 later)

module _ (v : ValidBypass) (users : HasUsers v.allow_globs) where
  abbrev y : Bypass
  y = bypass_view v

  abbrev sums : List Span
  sums = of_some own_span v.build_script

  abbrev features : List Span
  features = word_spans v.required_features

  abbrev globs : List Span
  globs = of_some pattern_spans v.allow_globs

  abbrev paths : List Span
  paths = flat_map path_spans v.allow

  -- the span of the last day
  abbrev last : List Span
  last = of_some own_span v.expires

  name_there : Contains (bypass_spans v) (bypass_span y)
  name_there = Contains-first (bypass_span y) (sums ++ (features ++ (globs ++ (paths ++ (last ++ [])))))

  -- a span of the globs is one of the bypass
  glob_behind : (r : Span) → Contains globs r → Contains (bypass_spans v) r
  glob_behind r at = Contains-append_right (spec_span v.spec) _ r
      (Contains-append_right sums _ r (Contains-append_right features _ r (Contains-append_left globs _ r at)))

  path_behind : (r : Span) → Contains paths r → Contains (bypass_spans v) r
  path_behind r at = Contains-append_right (spec_span v.spec) _ r
      (Contains-append_right sums _ r (Contains-append_right features _ r (Contains-append_right globs _ r
      (Contains-append_left paths (last ++ []) r at))))

  path_there : (file : BypassPath) → Contains v.allow file → Contains (bypass_spans v) file.path.span
  path_there file at = path_behind file.path.span (Contains-flat_map path_spans v.allow file file.path.span at
      (Contains-first file.path.span (of_some own_span file.checksum ++ [])))

  -- a pattern is that of a glob
  record IsPatternOf (w : SpannedText) : Type 0 where
    set : ValidGlobSet
    is_set : v.allow_globs ≡ Some set
    word : SpannedText
    within : Contains set.patterns (User word)
    is : word ≡ w

  pattern_in : (o : Option ValidGlobSet) → v.allow_globs ≡ o → HasUsers o → (w : SpannedText)
      → Contains (globs_view o) w
      → IsPatternOf w
  pattern_in None is_none mine w at = absurd (no_member w at)
  pattern_in (Some set) is_some mine w at =
      let from = from_contains_map words_of set.patterns w at in
      let user = mine from.0 from.1 in record {
        set = set;
        is_set = is_some;
        word = user.0;
        within = subst (Contains set.patterns) user.1 from.1;
        is = ap words_of (sym user.1) ∙ from.2;
      }

  pattern_of : (w : SpannedText) → Contains y.globs w → IsPatternOf w
  pattern_of w at = pattern_in v.allow_globs refl users w at

  glob_there : (w : SpannedText) → Contains y.globs w → Contains (bypass_spans v) w.span
  glob_there w at =
      let of = pattern_of w at in
      glob_behind w.span (subst (λ (o : Option ValidGlobSet). Contains (of_some pattern_spans o) w.span)
      (sym of.is_set)
      (subst (λ (x : SpannedText). Contains (pattern_spans of.set) x.span) of.is
      (Contains-flat_map pattern_span of.set.patterns (User of.word) of.word.span of.within
      (Contains-first of.word.span []))))

  hit_there : (l : Scanning) (h : Hit) → IsHitOf l y h → Contains (bypass_spans v) h.entry.range
  hit_there l h (of_bypass is) = subst (λ (e : EntryId). Contains (bypass_spans v) e.range)
      (sym (bypass_hit_entry l y h is)) name_there
  hit_there l h (of_path a at is) =
      let file = from_contains_map path_view v.allow a at in
      subst (λ (e : EntryId). Contains (bypass_spans v) e.range) (sym (path_hit_entry l y a h is))
      (subst (λ (p : AllowedPath). Contains (bypass_spans v) (path_span p)) file.2 (path_there file.0 file.1))
  hit_there l h (of_glob w at is) = subst (λ (e : EntryId). Contains (bypass_spans v) e.range)
      (sym (glob_hit_entry l y w h is)) (glob_there w at)

  -- ---- two hits of one entry

  module _ (apart : AreApart (bypass_spans v)) where
    behind_features : AreApart (globs ++ (paths ++ (last ++ [])))
    behind_features = apart_right features _ (apart_right sums _ (apart_right (spec_span v.spec) _ apart))

    one_path : (a b : AllowedPath) → Contains y.allow a → Contains y.allow b → path_span a ≡ path_span b → a ≡ b
    one_path a b at_a at_b same =
        let x = from_contains_map path_view v.allow a at_a in
        let z = from_contains_map path_view v.allow b at_b in
        let spans : x.0.path.span ≡ z.0.path.span = ap path_span x.2 ∙ (same ∙ sym (ap path_span z.2)) in
        let one : x.0 ≡ z.0 = one_of path_spans v.allow x.0 z.0 x.0.path.span
        (apart_left paths (last ++ []) (apart_right globs _ behind_features)) x.1 z.1
        (Contains-first x.0.path.span (of_some own_span x.0.checksum ++ []))
        (subst (Contains (path_spans z.0)) (sym spans)
        (Contains-first z.0.path.span (of_some own_span z.0.checksum ++ []))) in
        sym x.2 ∙ (ap path_view one ∙ z.2)

    one_glob : (w u : SpannedText) → Contains y.globs w → Contains y.globs u → w.span ≡ u.span → w ≡ u
    one_glob w u at_w at_u same =
        let x = pattern_of w at_w in
        let z = pattern_of u at_u in
        let set : x.set ≡ z.set = same_Some x.set z.set (sym x.is_set ∙ z.is_set) in
        let spans : x.word.span ≡ z.word.span =
        ap (λ (k : SpannedText). k.span) x.is ∙ (same ∙ sym (ap (λ (k : SpannedText). k.span) z.is)) in
        let patterns : AreApart (pattern_spans z.set) =
        subst (λ (o : Option ValidGlobSet). AreApart (of_some pattern_spans o)) z.is_set
        (apart_left globs _ behind_features) in
        let one : User x.word ≡ User z.word = one_of pattern_span z.set.patterns (User x.word) (User z.word)
        x.word.span patterns (subst (λ (s : ValidGlobSet). Contains s.patterns (User x.word)) set x.within) z.within
        (Contains-first x.word.span [])
        (subst (Contains (pattern_span (User z.word))) (sym spans) (Contains-first z.word.span [])) in
        sym x.is ∙ (ap words_of one ∙ z.is)

    other_kind : (h k : Hit) (c d : EntryKind) (r s : Span) → h.entry ≡ entry c r → k.entry ≡ entry d s
        → h.entry ≡ k.entry → entry_kind_number c ≡ entry_kind_number d
    other_kind h k c d r s one two same =
        ap (λ (e : EntryId). entry_kind_number e.kind) (sym one ∙ (same ∙ two))

    is_same_span : (h k : Hit) (c d : EntryKind) (r s : Span) → h.entry ≡ entry c r → k.entry ≡ entry d s
        → h.entry ≡ k.entry → r ≡ s
    is_same_span h k c d r s one two same = ap (λ (e : EntryId). e.range) (sym one ∙ (same ∙ two))

    one_hit : (l : Scanning) (h k : Hit) → IsHitOf l y h → IsHitOf l y k → h.entry ≡ k.entry → h ≡ k
    unfolding entry_kind_number
    one_hit l h k (of_bypass is) (of_bypass too) same = same_Some h k (sym is ∙ too)
    one_hit l h k (of_bypass is) (of_path b at too) same = absurd (cc (other_kind h k kind.Bypass kind.BypassPath
        (bypass_span y) (path_span b) (bypass_hit_entry l y h is) (path_hit_entry l y b k too) same))
    one_hit l h k (of_bypass is) (of_glob u at too) same = absurd (cc (other_kind h k kind.Bypass kind.BypassGlob
        (bypass_span y) u.span (bypass_hit_entry l y h is) (glob_hit_entry l y u k too) same))
    one_hit l h k (of_path a at is) (of_bypass too) same = absurd (cc (other_kind h k kind.BypassPath kind.Bypass
        (path_span a) (bypass_span y) (path_hit_entry l y a h is) (bypass_hit_entry l y k too) same))
    one_hit l h k (of_path a at is) (of_path b there too) same =
        let one : a ≡ b = one_path a b at there (is_same_span h k kind.BypassPath kind.BypassPath (path_span a)
        (path_span b) (path_hit_entry l y a h is) (path_hit_entry l y b k too) same) in
        same_Some h k (sym is ∙ (ap (path_hit l y) one ∙ too))
    one_hit l h k (of_path a at is) (of_glob u there too) same = absurd (cc (other_kind h k kind.BypassPath
        kind.BypassGlob (path_span a) u.span (path_hit_entry l y a h is) (glob_hit_entry l y u k too) same))
    one_hit l h k (of_glob w at is) (of_bypass too) same = absurd (cc (other_kind h k kind.BypassGlob kind.Bypass
        w.span (bypass_span y) (glob_hit_entry l y w h is) (bypass_hit_entry l y k too) same))
    one_hit l h k (of_glob w at is) (of_path b there too) same = absurd (cc (other_kind h k kind.BypassGlob
        kind.BypassPath w.span (path_span b) (glob_hit_entry l y w h is) (path_hit_entry l y b k too) same))
    one_hit l h k (of_glob w at is) (of_glob u there too) same =
        let one : w ≡ u = one_glob w u at there (is_same_span h k kind.BypassGlob kind.BypassGlob w.span u.span
        (glob_hit_entry l y w h is) (glob_hit_entry l y u k too) same) in
        same_Some h k (sym is ∙ (ap (glob_hit l y) one ∙ too))

-- ---- hits of all bypasses

-- a hit is of one of the bypasses
record IsOfValid (l : Scanning) (vs : List ValidBypass) (h : Hit) : Type 0 where
  valid : ValidBypass
  written : Contains vs valid
  is : IsHitOf l (bypass_view valid) h

module _ (l : Scanning) (vs : List ValidBypass) (apart : AreApart (flat_map bypass_spans vs))
    (users : (v : ValidBypass) → Contains vs v → HasUsers v.allow_globs) where
  of_valid : (h : Hit) → Contains (flat_map (bypass_hits_of l) (map bypass_view vs)) h → IsOfValid l vs h
  of_valid h at =
      let from = Contains-from_flat_map (bypass_hits_of l) (map bypass_view vs) h at in
      let v = from_contains_map bypass_view vs from.from from.member in record {
        valid = v.0;
        written = v.1;
        is = hit_of_one l (bypass_view v.0) h
            (subst (λ (y : Bypass). Contains (bypass_hits_of l y) h) (sym v.2) from.of);
      }

  same_hit : (h k : Hit) (x : IsOfValid l vs h) (z : IsOfValid l vs k) → h.entry ≡ k.entry → h ≡ k
  same_hit h k x z same =
      let one : x.valid ≡ z.valid = one_of bypass_spans vs x.valid z.valid h.entry.range apart x.written z.written
      (hit_there x.valid (users x.valid x.written) l h x.is)
      (subst (λ (e : EntryId). Contains (bypass_spans z.valid) e.range) (sym same)
      (hit_there z.valid (users z.valid z.written) l k z.is)) in
      one_hit z.valid (users z.valid z.written) (apart_of bypass_spans vs z.valid apart z.written) l h k
      (subst (λ (v : ValidBypass). IsHitOf l (bypass_view v) h) one x.is) z.is same

  of_valids : Part 3 5 (flat_map (bypass_hits_of l) (map bypass_view vs))
  of_valids = record {
    once = λ h k at_h at_k same. same_hit h k (of_valid h at_h) (of_valid k at_k) same;
    kinds = λ h at. let of = of_valid h at in kinds_of l (bypass_view of.valid) h of.is;
  }

pub bypasses_part : (g : Graph) (f : Facts) (packages : List Package) (build : Option ValidBuildConfig)
    → IfSome build IsReadBuild → AreApart (of_some build_spans build)
    → Part 3 5 (option_map_or (λ b. bypass_hits (scanning_at g f packages b)) (option_map building_view build) [])
bypasses_part g f packages None read apart = no_part 3 5
bypasses_part g f packages (Some valid) read apart =
    let extensions = pattern_spans valid.script_extensions in
    of_valids (scanning_at g f packages (building_view valid)) valid.bypass
    (apart_left (flat_map bypass_spans valid.bypass) [] (apart_right extensions _ apart))
    (λ v at. users_in (listed read.build.bypass) valid.bypass v read.made.bypass at)
