-- Two policies that are read from one text on one day list the same entries as expired, with the same last days and
-- reasons.
use Rattle.std.proofs.Common.{◌≡◌, ◌++◌, ℕ, List, [], ◌∷◌, Option, None, Some, map, refl, sym, ap, ◌∙◌}
use Rattle.std.proofs.lemmas.List.{map-append}
use Rattle.std.specs.Prelude.{filter_map, find, option_and_then, option_map}
use Rattle.std.specs.List.{AllByRecursion, AllZip, cons_option}
use Rattle.std.specs.Option.{option_map_or}
use Rattle.std.specs.Ordering.{eq_by_cmp}
use Rattle.std.specs.declared.cmp.Ordering.{Ordering}
use Rattle.std.proofs.lemmas.List.Elements.{recursion_from_All}
use Rattle.std.proofs.lemmas.Option.{same_Some}
use Rattle.deny_base.specs.Entry.{entry_cmp}
use Rattle.deny_base.specs.declared.entry.EntryId.{EntryId}
use Rattle.deny_base.specs.declared.entry.EntryKind.{EntryKind}
use Rattle.deny_base.specs.declared.entry.EntryKind.TheVariants as kind
use Rattle.deny_base.specs.declared.span.Span.{Span}
use Rattle.deny_base.specs.declared.span.Spanned.{Spanned}
use Rattle.deny_base_lists.proofs.Alike.{Same, same_filter_map}
use Rattle.deny_base_lists.proofs.Filters.{find-map}
use Rattle.deny_base_lists.specs.Ascending.{AreFirst}
use Rattle.deny_cfg_build.specs.Build.{IsBuildOf, listed}
use Rattle.deny_cfg_build.specs.Globs.{OfBoth}
use Rattle.deny_cfg_build.specs.declared.valid.ValidBuildConfig.{ValidBuildConfig}
use Rattle.deny_cfg_build.specs.declared.valid.ValidBypass.{ValidBypass}
use Rattle.deny_spec.specs.Expired.{PastWaiver}
use Rattle.deny_spec.specs.Policy.{Spec, SpannedText}
use Rattle.deny_cfg_entries.specs.SpecView.{spec_view}
use Rattle.deny_cfg_entries.specs.declared.day.Day.{Day}
use Rattle.deny_cfg_entries.specs.declared.expiry.Expiry.{Expiry}
use Rattle.deny_cfg_entries.specs.declared.package_spec.PackageSpec.{PackageSpec}
use Rattle.deny_cfg_entries.specs.declared.reason.Reason.{Reason}
use Rattle.deny_cfg_entries.specs.declared.spec_or_extended.PackageSpecOrExtended.{PackageSpecOrExtended}
use Rattle.deny_cfg_entries.specs.declared.waiver.Waiver.{Waiver}
use Rattle.deny_cfg_tables.proofs.ConfigLaws.{BothAlike, ConfigsAlike, EntriesAlike, StdAlike}
use Rattle.deny_cfg_tables.specs.declared.bans.cfg.build.BuildConfig.{BuildConfig}
use Rattle.deny_cfg_tables.specs.declared.bans.cfg.config.Config.{Config}
use Rattle.deny_cfg_tables.specs.declared.bans.cfg.std_replacements.StdReplacementConfig.{StdReplacementConfig}
use Rattle.deny_cfg_tables.specs.declared.bans.cfg.tree_skip.TreeSkipExtended.{TreeSkipExtended}
use Rattle.deny_cfg_tables.specs.declared.licenses.config.Config as licenses
use Rattle.deny_cfg_tables.specs.declared.licenses.exception.Exception.{Exception}
use Rattle.deny_cfg.proofs.BuildAlike.{BuildsAlike, BuiltAlike, BypassesAlike, builds_by, listed_alike}
use Rattle.deny_cfg.proofs.BuildView.{BypassesSeen, same_bypasses}
use Rattle.deny_cfg.proofs.LicensingLaws.{ExceptionsAlike, HaveAlike}
use Rattle.deny_cfg.specs.Current.{expired_as, expired_bypass, expired_exception, expired_id, expired_in}
use Rattle.deny_cfg.specs.Current.{expired_in_bans, expired_in_build, expired_in_licenses, expired_in_std, expired_root}
use Rattle.deny_cfg.specs.Current.{expired_skip, passed, root_expires, root_reason, skip_expires, skip_reason}
use Rattle.deny_cfg.specs.PolicyView.{past_waiver_view, reason_words}
use Rattle.deny_cfg.specs.Valid.{IsValidOf, build_of, older_key_of}
use Rattle.deny_cfg.specs.declared.bans.cfg.valid.ValidConfig.{ValidConfig}
use Rattle.deny_cfg.specs.declared.expired.ExpiredWaiver.{ExpiredWaiver}

-- an expired waiver as it is told apart and shown
abbrev pub Seen : Type 0
Seen = EntryId × PastWaiver

pub seen_view : ExpiredWaiver → Seen
seen_view waiver = (waiver.id, past_waiver_view waiver)

-- an entry that has expired, by what is seen of its spec and its reason
seen_of : EntryKind → Spec → Option SpannedText → Option (Spanned Expiry) → Option Seen
seen_of kind spec reason last =
    option_map
    (λ (day : Spanned Expiry). (
      record { kind = kind; range = spec.span },
      record { spec = spec; expires = record { value = day.value.written; span = day.span }; reason = reason },
    ))
    last

named : (kind : EntryKind) (spec : PackageSpec) (reason : Option Reason) (last : Option (Spanned Expiry))
    → option_map seen_view (option_map (expired_as kind spec reason) last)
    ≡ seen_of kind (spec_view spec) (option_map reason_words reason) last
unfolding seen_view seen_of
named kind spec reason None = refl
named kind spec reason (Some day) = refl

mapped_option : {A B : Type 0} (f : A → B) (o : Option A) (xs : List A)
    → map f (cons_option o xs) ≡ cons_option (option_map f o) (map f xs)
mapped_option f None xs = refl
mapped_option f (Some x) xs = refl

map_made : {X A B : Type 0} (f : A → B) (g : X → Option A) (h : X → Option B) → ((x : X) → option_map f (g x) ≡ h x)
    → (xs : List X) → map f (filter_map g xs) ≡ filter_map h xs
map_made f g h same [] = refl
map_made f g h same (x ∷ xs) =
    mapped_option f (g x) (filter_map g xs) ∙ (λ i. cons_option (same x i) (map_made f g h same xs i))

-- entries that are alike expire alike, and are seen alike
views_of : {T : Type 0} (Alike : T → T → Type 0) (expired : T → Option ExpiredWaiver) (seen : T → Option Seen)
    → ((x : T) → option_map seen_view (expired x) ≡ seen x) → Same Alike seen seen → (xs ys : List T) → AllZip Alike xs ys
    → map seen_view (filter_map expired xs) ≡ map seen_view (filter_map expired ys)
views_of Alike expired seen is same xs ys alike =
    map_made seen_view expired seen is xs
    ∙ (same_filter_map Alike seen seen same xs ys alike ∙ sym (map_made seen_view expired seen is ys))

skip_views : (today : Option Day) (kind : EntryKind) (xs ys : List (PackageSpecOrExtended Waiver))
    → AllZip EntriesAlike xs ys
    → map seen_view (filter_map (expired_skip today kind) xs)
    ≡ map seen_view (filter_map (expired_skip today kind) ys)
skip_views today kind =
    views_of EntriesAlike (expired_skip today kind) (λ e. seen_of kind (spec_view e.spec) (option_map reason_words (skip_reason e)) (passed today (skip_expires e)))
    (λ e. named kind e.spec (skip_reason e) (passed today (skip_expires e)))
    (λ a b alike i. seen_of kind (alike.0 i)
    (option_map reason_words (option_and_then (λ waiver. waiver.reason) (alike.1 i)))
    (passed today (option_and_then (λ waiver. waiver.expires) (alike.1 i))))

root_views : (today : Option Day) (xs ys : List (PackageSpecOrExtended TreeSkipExtended)) → AllZip EntriesAlike xs ys
    → map seen_view (filter_map (expired_root today) xs) ≡ map seen_view (filter_map (expired_root today) ys)
root_views today =
    views_of EntriesAlike (expired_root today)
    (λ e. seen_of kind.SkipRoot (spec_view e.spec) (option_map reason_words (root_reason e))
    (passed today (root_expires e)))
    (λ e. named kind.SkipRoot e.spec (root_reason e) (passed today (root_expires e)))
    (λ a b alike i. seen_of kind.SkipRoot (alike.0 i)
    (option_map reason_words (option_and_then (λ skip. skip.reason) (alike.1 i)))
    (passed today (option_and_then (λ skip. skip.expires) (alike.1 i))))

bypass_views : (today : Option Day) (xs ys : List ValidBypass) → AllZip BypassesSeen xs ys
    → map seen_view (filter_map (expired_bypass today) xs) ≡ map seen_view (filter_map (expired_bypass today) ys)
bypass_views today =
    views_of BypassesSeen (expired_bypass today)
    (λ b. seen_of kind.Bypass (spec_view b.spec) None (passed today b.expires))
    (λ b. named kind.Bypass b.spec None (passed today b.expires))
    (λ a b seen i. seen_of kind.Bypass (seen.0 i).spec None (passed today (seen.1 i)))

exception_views : (today : Option Day) (xs ys : List Exception) → AllZip ExceptionsAlike xs ys
    → map seen_view (filter_map (expired_exception today) xs)
    ≡ map seen_view (filter_map (expired_exception today) ys)
exception_views today =
    views_of ExceptionsAlike (expired_exception today)
    (λ e. seen_of kind.LicenseException (spec_view e.spec) None (passed today e.expires))
    (λ e. named kind.LicenseException e.spec None (passed today e.expires))
    (λ a b alike i. seen_of kind.LicenseException (alike.0 i) None (passed today (alike.1 i).expires))

std_views : (today : Option Day) (a b : Option StdReplacementConfig) → BothAlike StdAlike a b
    → map seen_view (option_map_or (expired_in_std today) a [])
    ≡ map seen_view (option_map_or (expired_in_std today) b [])
std_views today None None both = refl
std_views today None (Some b) both = absurd both
std_views today (Some a) None both = absurd both
std_views today (Some a) (Some b) both = skip_views today kind.ReplacementIgnore a.ignore b.ignore both.ignore

module _ (number : ℕ) (older key : Option Span) where
  build_views : (today : Option Day) (a b : Option BuildConfig) (v w : Option ValidBuildConfig)
      → BothAlike BuildsAlike a b → OfBoth (λ build. IsBuildOf build number older) a v
      → OfBoth (λ build. IsBuildOf build number key) b w
      → map seen_view (option_map_or (expired_in_build today) v [])
      ≡ map seen_view (option_map_or (expired_in_build today) w [])
  build_views today None None None None alike one two = refl
  build_views today None None None (Some w) alike one two = absurd two
  build_views today None None (Some v) w alike one two = absurd one
  build_views today None (Some b) v w alike one two = absurd alike
  build_views today (Some a) None v w alike one two = absurd alike
  build_views today (Some a) (Some b) None w alike one two = absurd one
  build_views today (Some a) (Some b) (Some v) None alike one two = absurd two
  build_views today (Some a) (Some b) (Some v) (Some w) alike one two =
      bypass_views today v.bypass w.bypass
      (same_bypasses (listed a.bypass) (listed b.bypass) v.bypass w.bypass
      (listed_alike BypassesAlike a.bypass b.bypass alike.bypass) one.bypass two.bypass)

licence_views : (today : Option Day) (l m : Option licenses.Config)
    → BothAlike HaveAlike l m
    → map seen_view (expired_in_licenses today l) ≡ map seen_view (expired_in_licenses today m)
licence_views today None None both = refl
licence_views today None (Some m) both = absurd both
licence_views today (Some l) None both = absurd both
licence_views today (Some l) (Some m) both = exception_views today l.exceptions m.exceptions both

-- what is seen of two lists, one behind the other
joined_views : (xs ys zs ws : List ExpiredWaiver) → map seen_view xs ≡ map seen_view zs
    → map seen_view ys ≡ map seen_view ws → map seen_view (xs ++ ys) ≡ map seen_view (zs ++ ws)
joined_views xs ys zs ws one two =
    map-append seen_view xs ys ∙ ((λ i. one i ++ two i) ∙ sym (map-append seen_view zs ws))

module _ (today : Option Day) (a b : Config) (file number : ℕ) (these those : ValidConfig) (alike : ConfigsAlike a b)
    (built : BuiltAlike a b) (one : IsValidOf a file number these) (two : IsValidOf b file number those) where
  bans_views : map seen_view (expired_in_bans today these) ≡ map seen_view (expired_in_bans today those)
  unfolding expired_in_bans
  bans_views =
      let skips =
      ap (λ es. map seen_view (filter_map (expired_skip today kind.Skip) es)) one.skipped
      ∙ (skip_views today kind.Skip a.skip b.skip alike.skip
      ∙ sym (ap (λ es. map seen_view (filter_map (expired_skip today kind.Skip) es)) two.skipped)) in
      let trees =
      ap (λ es. map seen_view (filter_map (expired_root today) es)) one.tree_skipped
      ∙ (root_views today a.skip_tree b.skip_tree alike.skip_tree
      ∙ sym (ap (λ es. map seen_view (filter_map (expired_root today) es)) two.tree_skipped)) in
      let ignores =
      ap (λ std. map seen_view (option_map_or (expired_in_std today) std [])) one.std_replacements
      ∙ (std_views today a.std_replacements b.std_replacements alike.std_replacements
      ∙ sym (ap (λ std. map seen_view (option_map_or (expired_in_std today) std [])) two.std_replacements)) in
      let bypasses =
      build_views number (older_key_of a) (older_key_of b) today (build_of a) (build_of b) these.build those.build
      (builds_by a.build b.build a.allow_build_scripts b.allow_build_scripts built.build built.scripts) one.build
      two.build in
      joined_views (filter_map (expired_skip today kind.Skip) these.skipped) _
      (filter_map (expired_skip today kind.Skip) those.skipped) _ skips
      (joined_views (filter_map (expired_root today) these.tree_skipped) _
      (filter_map (expired_root today) those.tree_skipped) _ trees
      (joined_views (option_map_or (expired_in_std today) these.std_replacements [])
      (option_map_or (expired_in_build today) these.build [])
      (option_map_or (expired_in_std today) those.std_replacements [])
      (option_map_or (expired_in_build today) those.build []) ignores bypasses))

  pub same_views : (l m : Option licenses.Config)
      → BothAlike HaveAlike l m
      → map seen_view (expired_in today these l) ≡ map seen_view (expired_in today those m)
  same_views l m both =
      joined_views (expired_in_bans today these) (expired_in_licenses today l) (expired_in_bans today those)
      (expired_in_licenses today m) bans_views (licence_views today l m both)

-- ---- in order

-- the first records with the same keys are seen alike, where all records are
module _ {T K V : Type 0} (cmp : K → K → Ordering) (view : T → V) (of : V → K) where
  abbrev key : T → K
  key x = of (view x)

  first_view : (x y : T) (all others : List T) → map view all ≡ map view others → key x ≡ key y
      → find (λ other. eq_by_cmp cmp (key x) (key other)) all ≡ Some x
      → find (λ other. eq_by_cmp cmp (key y) (key other)) others ≡ Some y → view x ≡ view y
  first_view x y all others same tied one two =
      same_Some (view x) (view y)
      (sym (ap (option_map view) one) ∙ sym (find-map (λ v. eq_by_cmp cmp (key x) (of v)) view all)
      ∙ (λ i. find (λ v. eq_by_cmp cmp (tied i) (of v)) (same i))
      ∙ find-map (λ v. eq_by_cmp cmp (key y) (of v)) view others ∙ ap (option_map view) two)

  firsts_by : (all others : List T) → map view all ≡ map view others → (xs ys : List T)
      → AllByRecursion (λ r. find (λ other. eq_by_cmp cmp (key r) (key other)) all ≡ Some r) xs
      → AllByRecursion (λ r. find (λ other. eq_by_cmp cmp (key r) (key other)) others ≡ Some r) ys
      → map key xs ≡ map key ys → map view xs ≡ map view ys
  firsts_by all others same [] [] one two tied = refl
  firsts_by all others same [] (y ∷ ys) one two tied = absurd (cc tied)
  firsts_by all others same (x ∷ xs) [] one two tied = absurd (cc tied)
  firsts_by all others same (x ∷ xs) (y ∷ ys) one two tied =
      let first : key x ≡ key y = cc tied in
      let rest : map key xs ≡ map key ys = cc tied in
      (λ i. first_view x y all others same first one.0 two.0 i ∷ firsts_by all others same xs ys one.1 two.1 rest i)

  pub same_firsts : (all others xs ys : List T) → map view all ≡ map view others → AreFirst cmp key all xs
      → AreFirst cmp key others ys → map key xs ≡ map key ys → map view xs ≡ map view ys
  same_firsts all others xs ys same one two =
      firsts_by all others same xs ys (recursion_from_All _ xs one) (recursion_from_All _ ys two)

-- which entries they are
pub ids_seen : (waivers : List ExpiredWaiver) → map expired_id waivers ≡ map (λ (seen : Seen). seen.0) (map seen_view waivers)
unfolding seen_view
ids_seen [] = refl
ids_seen (w ∷ ws) = ap (λ ids. w.id ∷ ids) (ids_seen ws)

-- how they are shown
shown_seen : (waivers : List ExpiredWaiver)
    → map past_waiver_view waivers ≡ map (λ (seen : Seen). seen.1) (map seen_view waivers)
unfolding seen_view
shown_seen [] = refl
shown_seen (w ∷ ws) = ap (λ shown. past_waiver_view w ∷ shown) (shown_seen ws)

-- of waivers that are seen alike, those in order are shown alike
pub same_shown : (all others xs ys : List ExpiredWaiver) → map seen_view all ≡ map seen_view others
    → AreFirst entry_cmp expired_id all xs → AreFirst entry_cmp expired_id others ys
    → map expired_id xs ≡ map expired_id ys → map past_waiver_view xs ≡ map past_waiver_view ys
unfolding seen_view
same_shown all others xs ys same one two tied =
    shown_seen xs
    ∙ (ap (map (λ (seen : Seen). seen.1))
    (same_firsts entry_cmp seen_view (λ seen. seen.0) all others xs ys same one two tied)
    ∙ sym (shown_seen ys))
