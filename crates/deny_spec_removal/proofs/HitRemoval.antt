-- Where entries without a hit are taken out, each witness hits the entries that it hit before, and no others.
use Rattle.std.proofs.Common.{Bool, List, None, Option, Some, [], ap, false, map, not, refl, subst, sym, true, ◌≡◌, ◌∙◌, ◌↔◌}
use Rattle.std.specs.FinMap.{IsAntisymmetric}
use Rattle.std.specs.Option.{option_map_or}
use Rattle.std.specs.Prelude.{Contains, filter, option_map}
use Rattle.std.proofs.lemmas.Option.{none-some, same_Some}
use Rattle.deny_base_lists.proofs.Finding.{found_member}
use Rattle.deny_base_lists.proofs.Members.{Contains-filter, contains_map, filtered, from_contains_map}
use Rattle.deny_base.specs.Entry.{entry_cmp}
use Rattle.deny_base.specs.declared.entry.EntryId.{EntryId}
use Rattle.deny_base.specs.declared.entry.EntryKind.{EntryKind}
use Rattle.deny_base.specs.declared.entry.EntryKind.TheVariants as kind
use Rattle.deny_base.specs.declared.entry.Witness.{Witness}
use Rattle.deny_base.specs.declared.entry.Witness.TheVariants.{File, Krate, Parent}
use Rattle.deny_base.specs.declared.span.Span.{Span}
use Rattle.deny_spec.proofs.SpanLemmas.{same_span-itself}
use Rattle.deny_spec.specs.Bans.{is_exempt, wrapper_of}
use Rattle.deny_spec.specs.Building.{AllowedPath, Building, Bypass}
use Rattle.deny_spec.specs.declared.package.PackageFile.{PackageFile}
use Rattle.deny_spec.specs.Graph.{Crate, dependents, kid_of}
use Rattle.deny_spec.specs.Licensing.{Licensing}
use Rattle.deny_spec.specs.Match.{matches}
use Rattle.deny_spec.specs.Policy as policy
use Rattle.deny_spec.specs.Policy.{Ban, Entry, Replacing}
use Rattle.deny_spec.specs.Wrappers.{same_span, wraps}
use Rattle.deny_spec_report.proofs.HittingLemmas.{are_first, class_by_glob, glob_by_class}
use Rattle.deny_spec_report.specs.Bans.{bears_name}
use Rattle.deny_spec_report.specs.BuildScripts.{bypass_span, uses}
use Rattle.deny_spec_report.specs.Circumstances.{Circumstances}
use Rattle.deny_spec_report.specs.Facts.{Facts}
use Rattle.deny_spec_report.specs.FirstMatch.{first_of, is_first}
use Rattle.deny_spec_report.specs.Hits.{both_hits}
use Rattle.deny_spec_report.specs.Hitting.{IsHit, by_allowance, by_checked, by_exception, by_glob, by_path, by_replaced}
use Rattle.deny_spec_report.specs.Hitting.{by_root, by_skipped, by_wrapped, entry_of}
use Rattle.deny_spec_report.specs.Licences.{allowance_span, exception_span, grants_by_allowance}
use Rattle.deny_spec_report.specs.Licences.{grants_by_exception, is_passed_over, is_scanned, licence_hits}
use Rattle.deny_spec_report.specs.PackageFiles.{PathBypassedByGlob, class_of, hits_path, is_decided_by}
use Rattle.deny_spec_report.specs.PackageFiles.{path_span}
use Rattle.deny_spec_report.specs.Packages.{checks, package_of, scanning, walks}
use Rattle.deny_spec_report.specs.Saying.{said_by}
use Rattle.deny_spec_report.specs.StdReplacements.{counting_version, ignore_span, ignores, is_replaced, may_replace}
use Rattle.deny_spec_report.specs.StdReplacements.{satisfies}
use Rattle.deny_spec_removal.specs.BypassRemoval.{BypassesStay}
use Rattle.deny_spec_removal.specs.LicenceRemoval.{LicencesStay}
use Rattle.deny_spec_removal.specs.Removal.{HaveNoHit, cut, cut_building, cut_bypass, cut_licensing, cut_replacing}
use Rattle.deny_spec_removal.specs.Removal.{is_taken, stays_allowance, stays_bypass, stays_exception, stays_glob}
use Rattle.deny_spec_removal.specs.Removal.{stays_ignore, stays_path, stays_root, stays_skip, stays_wrapper}
use Rattle.deny_spec_removal.specs.Removal.{without_in}
use Rattle.deny_spec_removal.proofs.Asking.{checks_same, hits_glob_same, hits_path_same, uses_same, walked_same}
use Rattle.deny_spec_removal.proofs.Asking.{walked_scanned}
use Rattle.deny_spec_removal.proofs.FirstMatch.{is_first_stays}
use Rattle.deny_spec_removal.proofs.LicenceRemoval.{by_allowance_same, by_exception_same}
use Rattle.deny_spec_removal.proofs.Taken.{not_taken}
use Rattle.deny_spec_removal.proofs.UnhitLemmas.{bypasses_stay, of_bans, of_licences, stay_by}

-- ---- what a policy that may be absent becomes, and members of a list of changed elements

pub from_option : {A : Type 0} (change : A → A) (o : Option A) (new : A) → option_map change o ≡ Some new
    → (P : A → Type 0) → ((a : A) → o ≡ Some a → P (change a)) → P new
from_option change None new given P each = absurd (none-some new given)
from_option change (Some a) new given P each = subst P (same_Some (change a) new given) (each a refl)

pub from_map : {A : Type 0} (change : A → A) (xs : List A) (new : A) → Contains (map change xs) new
    → (P : A → Type 0) → ((x : A) → Contains xs x → P (change x)) → P new
from_map change xs new is P each = let of = from_contains_map change xs new is in subst P of.2 (each of.0 of.1)

module _ (exact : IsAntisymmetric entry_cmp) (c : Circumstances) (facts : Facts) (counts : Crate → Bool)
    (taken : List EntryId) (none : HaveNoHit (both_hits c facts counts) taken) where
  abbrev rest : Circumstances
  rest = without_in c taken

  abbrev Was : EntryId → Witness → Type 0
  Was e w = IsHit c facts counts e w

  abbrev IsNow : EntryId → Witness → Type 0
  IsNow e w = IsHit rest facts counts e w

  -- an entry that a witness hits stays
  stays : (kind : EntryKind) (span : Span) (w : Witness) → Was (entry_of kind span) w
      → not (is_taken taken kind span) ≡ true
  stays kind span w is =
      let of = (are_first c facts counts).whole (entry_of kind span) w is in
      ap (λ b. not b) (not_taken exact taken kind span (λ gone. none (entry_of kind span) gone of.hit of.listed of.entry))

  -- ---- wrappers

  exempt_same : (k : Crate) → is_exempt rest.policy c.graph k ≡ is_exempt c.policy c.graph k
  unfolding is_exempt
  exempt_same k = refl

  module _ (ban : Ban) (written : Contains c.policy.deny ban) (k : Crate) (known : Contains c.graph.crates k)
      (is : matches ban.spec k ≡ true) (exempt : is_exempt c.policy c.graph k ≡ false) (parent : Crate)
      (there : Contains (dependents c.graph k.place) parent) where
    first_wraps : (v : policy.SpannedText) → first_of bears_name ban.wrappers parent ≡ Some v
        → wraps ban.wrappers v parent ≡ true
    unfolding wraps wrapper_of
    first_wraps v first =
        ap (λ (o : Option policy.SpannedText). option_map_or (λ x. same_span x.span v.span) o false) first
        ∙ same_span-itself v.span

    first_wrapper_stays : (v : policy.SpannedText) → first_of bears_name ban.wrappers parent ≡ Some v
        → stays_wrapper taken v ≡ true
    first_wrapper_stays v first = stays kind.Wrapper v.span (Parent (kid_of k) (kid_of parent))
        (by_wrapped ban written v (found_member (λ x. bears_name x parent) ban.wrappers v first) k known is exempt parent
        there (first_wraps v first))

    wraps_same : (v : policy.SpannedText) → wraps (cut taken ban).wrappers v parent ≡ wraps ban.wrappers v parent
    unfolding wraps wrapper_of
    wraps_same v = is_first_stays (λ (x : policy.SpannedText). x.span) bears_name (stays_wrapper taken) ban.wrappers v
        parent first_wrapper_stays

  -- ---- ignores

  module _ (r : Replacing) (given : c.policy.replacing ≡ Some r) where
    replaced_same : (k : Crate) → is_replaced (cut_replacing taken r) c.graph (said_by c.table) k
        ≡ is_replaced r c.graph (said_by c.table) k
    unfolding is_replaced may_replace satisfies counting_version
    replaced_same k = refl

    first_ignore_stays : (k : Crate) → Contains c.graph.crates k
        → is_replaced r c.graph (said_by c.table) k ≡ true → (e : Entry) → first_of ignores r.ignore k ≡ Some e
        → stays_ignore taken e ≡ true
    first_ignore_stays k known replaced e first = stays kind.ReplacementIgnore (ignore_span e) (Krate (kid_of k))
        (by_replaced r given e (found_member (λ x. ignores x k) r.ignore e first) k known replaced
        (ap (λ (o : Option Entry). option_map_or (λ x. same_span (ignore_span x) (ignore_span e)) o false) first
        ∙ same_span-itself (ignore_span e)))

    ignores_same : (k : Crate) → Contains c.graph.crates k
        → is_replaced r c.graph (said_by c.table) k ≡ true → (e : Entry)
        → is_first ignore_span ignores (filter (stays_ignore taken) r.ignore) e k
        ≡ is_first ignore_span ignores r.ignore e k
    ignores_same k known replaced e = is_first_stays ignore_span ignores (stays_ignore taken) r.ignore e k
        (first_ignore_stays k known replaced)

  -- ---- licences

  scanned_same : (l : Licensing) (k : Crate) → is_scanned counts (cut_licensing taken l) k ≡ is_scanned counts l k
  unfolding is_scanned is_passed_over
  scanned_same l k = refl

  licences_stay_by : (l : Licensing) → c.licensing ≡ Some l → LicencesStay counts l c.graph taken
  licences_stay_by l given = stay_by exact counts l c.graph taken
      (subst (λ (o : Option Licensing). HaveNoHit (option_map_or (λ x. licence_hits counts x c.graph) o []) taken) given
      (of_licences c facts counts taken none))

  -- ---- bypasses

  builds_stay : (b : Building) → c.building ≡ Some b → BypassesStay (scanning c facts b) taken
  builds_stay b given = bypasses_stay exact c facts taken (of_bans c facts counts taken none) b given

  bypass_written : (b : Building) → c.building ≡ Some b → (y : Bypass) → Contains b.bypass y
      → (k : Crate) → Contains c.graph.crates k → checks (scanning c facts b) k ≡ true → uses b y k ≡ true
      → Contains (cut_building taken b).bypass (cut_bypass taken y)
  bypass_written b given y written k known checked used =
      contains_map (cut_bypass taken) (filter (stays_bypass taken) b.bypass) y
      (Contains-filter (stays_bypass taken) b.bypass y written
      (stays kind.Bypass (bypass_span y) (Krate (kid_of k)) (by_checked b given y written k known checked used)))

  -- ---- what was hit is hit

  hit_stays : (e : EntryId) (w : Witness) → Was e w → IsNow e w
  hit_stays e w (by_skipped s written k known counting is) =
      by_skipped s (Contains-filter (stays_skip taken) c.policy.skip s written
      (stays kind.Skip s.spec.span (Krate (kid_of k)) (by_skipped s written k known counting is))) k known counting is
  hit_stays e w (by_root t written k known is) =
      by_root t (Contains-filter (stays_root taken) c.policy.skip_tree t written
      (stays kind.SkipRoot t.spec.span (Krate (kid_of k)) (by_root t written k known is))) k known is
  hit_stays e w (by_wrapped ban written v within k known is exempt parent there wrapped) =
      by_wrapped (cut taken ban) (contains_map (cut taken) c.policy.deny ban written) v
      (Contains-filter (stays_wrapper taken) ban.wrappers v within
      (stays kind.Wrapper v.span (Parent (kid_of k) (kid_of parent))
      (by_wrapped ban written v within k known is exempt parent there wrapped)))
      k known is (exempt_same k ∙ exempt) parent there
      (wraps_same ban written k known is exempt parent there v ∙ wrapped)
  hit_stays e w (by_checked b given y written k known checked used) =
      by_checked (cut_building taken b) (ap (option_map (cut_building taken)) given) (cut_bypass taken y)
      (bypass_written b given y written k known checked used) k known
      (checks_same (scanning c facts b) taken (builds_stay b given) k ∙ checked)
      (uses_same (scanning c facts b) taken (builds_stay b given) y k known checked ∙ used)
  hit_stays e w (by_path b given y written a within k known walked used file there is) =
      let checked = walked_scanned (scanning c facts b) k walked in
      by_path (cut_building taken b) (ap (option_map (cut_building taken)) given) (cut_bypass taken y)
      (bypass_written b given y written k known checked used) a
      (Contains-filter (stays_path taken) y.allow a within
      (stays kind.BypassPath (path_span a) (File (kid_of k) file.path)
      (by_path b given y written a within k known walked used file there is)))
      k known
      (walked_same (scanning c facts b) taken (builds_stay b given) (package_of (scanning c facts b) k) k known ∙ walked)
      (uses_same (scanning c facts b) taken (builds_stay b given) y k known checked ∙ used)
      file there
      (hits_path_same (scanning c facts b) taken (builds_stay b given) y written k known walked used a file there ∙ is)
  hit_stays e w (by_glob b given y written v within k known walked used file there class is) =
      let checked = walked_scanned (scanning c facts b) k walked in
      let within_rest : Contains (cut_bypass taken y).globs v =
      Contains-filter (stays_glob taken) y.globs v within
      (stays kind.BypassGlob v.span (File (kid_of k) file.path)
      (by_glob b given y written v within k known walked used file there class is)) in
      by_glob (cut_building taken b) (ap (option_map (cut_building taken)) given) (cut_bypass taken y)
      (bypass_written b given y written k known checked used) v within_rest k known
      (walked_same (scanning c facts b) taken (builds_stay b given) (package_of (scanning c facts b) k) k known ∙ walked)
      (uses_same (scanning c facts b) taken (builds_stay b given) y k known checked ∙ used)
      file there
      (class_by_glob (cut_building taken b) (cut_bypass taken y) v file within_rest
      (hits_glob_same (scanning c facts b) taken (builds_stay b given) y written k known walked used v file there
      ∙ glob_by_class b y v file class is))
      is
  hit_stays e w (by_replaced r given d written k known replaced first) =
      by_replaced (cut_replacing taken r) (ap (option_map (cut_replacing taken)) given) d
      (Contains-filter (stays_ignore taken) r.ignore d written
      (stays kind.ReplacementIgnore (ignore_span d) (Krate (kid_of k))
      (by_replaced r given d written k known replaced first)))
      k known (replaced_same r given k ∙ replaced) (ignores_same r given k known replaced d ∙ first)
  hit_stays e w (by_allowance l given a written k known scanned asked there is) =
      by_allowance (cut_licensing taken l) (ap (option_map (cut_licensing taken)) given) a
      (Contains-filter (stays_allowance taken) l.allow a written
      (stays kind.LicenseAllow (allowance_span a) (Krate (kid_of k))
      (by_allowance l given a written k known scanned asked there is)))
      k known (scanned_same l k ∙ scanned) asked there
      (by_allowance_same counts l c.graph taken (licences_stay_by l given) a k asked known scanned there ∙ is)
  hit_stays e w (by_exception l given d written k known scanned asked there is) =
      by_exception (cut_licensing taken l) (ap (option_map (cut_licensing taken)) given) d
      (Contains-filter (stays_exception taken) l.exceptions d written
      (stays kind.LicenseException (exception_span d) (Krate (kid_of k))
      (by_exception l given d written k known scanned asked there is)))
      k known (scanned_same l k ∙ scanned) asked there
      (by_exception_same counts l c.graph taken (licences_stay_by l given) d k asked known scanned there ∙ is)

  -- ---- what is hit was hit

  wrapped_before : (v : policy.SpannedText) (k : Crate) → Contains c.graph.crates k
      → is_exempt c.policy c.graph k ≡ false
      → (parent : Crate) → Contains (dependents c.graph k.place) parent
      → (ban : Ban) → Contains c.policy.deny ban → Contains (cut taken ban).wrappers v → matches ban.spec k ≡ true
      → wraps (cut taken ban).wrappers v parent ≡ true
      → Was (entry_of kind.Wrapper v.span) (Parent (kid_of k) (kid_of parent))
  wrapped_before v k known exempt parent there ban written within is wrapped =
      by_wrapped ban written v (filtered (stays_wrapper taken) ban.wrappers v within) k known is exempt parent there
      (sym (wraps_same ban written k known is exempt parent there v) ∙ wrapped)

  -- by the bypasses, paths and globs that stay
  module _ (b : Building) (given : c.building ≡ Some b) (k : Crate) (known : Contains c.graph.crates k) where
    from_bypass : (P : Bypass → Type 0)
        → ((y : Bypass) → Contains b.bypass y → P (cut_bypass taken y))
        → (y : Bypass) → Contains (cut_building taken b).bypass y → P y
    from_bypass P each y is = from_map (cut_bypass taken) (filter (stays_bypass taken) b.bypass) y is P
        (λ x there. each x (filtered (stays_bypass taken) b.bypass x there))

    checked_before : (y : Bypass) → Contains b.bypass y
        → checks (scanning rest facts (cut_building taken b)) k ≡ true
        → uses (cut_building taken b) (cut_bypass taken y) k ≡ true
        → Was (entry_of kind.Bypass (bypass_span y)) (Krate (kid_of k))
    checked_before y written checked used =
        let before : checks (scanning c facts b) k ≡ true =
        sym (checks_same (scanning c facts b) taken (builds_stay b given) k) ∙ checked in
        by_checked b given y written k known before
        (sym (uses_same (scanning c facts b) taken (builds_stay b given) y k known before) ∙ used)

    walked_before : walks (scanning rest facts (cut_building taken b)) k ≡ true → walks (scanning c facts b) k ≡ true
    walked_before walked = sym (walked_same (scanning c facts b) taken (builds_stay b given)
        (package_of (scanning c facts b) k) k known) ∙ walked

    used_before : (y : Bypass) → walks (scanning c facts b) k ≡ true
        → uses (cut_building taken b) (cut_bypass taken y) k ≡ true → uses b y k ≡ true
    used_before y walked used = sym (uses_same (scanning c facts b) taken (builds_stay b given) y k known
        (walked_scanned (scanning c facts b) k walked)) ∙ used

    path_before : (y : Bypass) → Contains b.bypass y → (a : AllowedPath) → Contains (cut_bypass taken y).allow a
        → walks (scanning rest facts (cut_building taken b)) k ≡ true
        → uses (cut_building taken b) (cut_bypass taken y) k ≡ true
        → (file : PackageFile) → Contains (package_of (scanning c facts b) k).files file
        → hits_path (cut_bypass taken y) a file ≡ true
        → Was (entry_of kind.BypassPath (path_span a)) (File (kid_of k) file.path)
    path_before y written a within walked used file there is =
        let walked_then = walked_before walked in
        let used_then = used_before y walked_then used in
        by_path b given y written a (filtered (stays_path taken) y.allow a within) k known walked_then used_then file
        there
        (sym (hits_path_same (scanning c facts b) taken (builds_stay b given) y written k known walked_then used_then a
        file there) ∙ is)

    glob_before : (y : Bypass) → Contains b.bypass y → (v : policy.SpannedText) → Contains (cut_bypass taken y).globs v
        → walks (scanning rest facts (cut_building taken b)) k ≡ true
        → uses (cut_building taken b) (cut_bypass taken y) k ≡ true
        → (file : PackageFile) → Contains (package_of (scanning c facts b) k).files file
        → class_of (cut_building taken b) (Some (cut_bypass taken y)) file ≡ PathBypassedByGlob
        → is_decided_by file v.value ≡ true
        → Was (entry_of kind.BypassGlob v.span) (File (kid_of k) file.path)
    glob_before y written v within walked used file there class is =
        let walked_then = walked_before walked in
        let used_then = used_before y walked_then used in
        let was_within = filtered (stays_glob taken) y.globs v within in
        by_glob b given y written v was_within k known walked_then used_then file there
        (class_by_glob b y v file was_within
        (sym (hits_glob_same (scanning c facts b) taken (builds_stay b given) y written k known walked_then used_then v
        file there)
        ∙ glob_by_class (cut_building taken b) (cut_bypass taken y) v file class is))
        is

  was_hit : (e : EntryId) (w : Witness) → IsNow e w → Was e w
  was_hit e w (by_skipped s written k known counting is) =
      by_skipped s (filtered (stays_skip taken) c.policy.skip s written) k known counting is
  was_hit e w (by_root t written k known is) =
      by_root t (filtered (stays_root taken) c.policy.skip_tree t written) k known is
  was_hit e w (by_wrapped ban written v within k known is exempt parent there wrapped) =
      from_map (cut taken) c.policy.deny ban written
      (λ x. Contains x.wrappers v → matches x.spec k ≡ true → wraps x.wrappers v parent ≡ true
      → Was (entry_of kind.Wrapper v.span) (Parent (kid_of k) (kid_of parent)))
      (λ x x_written. wrapped_before v k known (sym (exempt_same k) ∙ exempt) parent there x x_written)
      within is wrapped
  was_hit e w (by_checked b given y written k known checked used) =
      from_option (cut_building taken) c.building b given
      (λ d. Contains d.bypass y → checks (scanning rest facts d) k ≡ true → uses d y k ≡ true
      → Was (entry_of kind.Bypass (bypass_span y)) (Krate (kid_of k)))
      (λ d was in_d. from_bypass d was k known
      (λ x. checks (scanning rest facts (cut_building taken d)) k ≡ true → uses (cut_building taken d) x k ≡ true
      → Was (entry_of kind.Bypass (bypass_span x)) (Krate (kid_of k)))
      (checked_before d was k known) y in_d)
      written checked used
  was_hit e w (by_path b given y written a within k known walked used file there is) =
      from_option (cut_building taken) c.building b given
      (λ d. Contains d.bypass y → walks (scanning rest facts d) k ≡ true → uses d y k ≡ true
      → Was (entry_of kind.BypassPath (path_span a)) (File (kid_of k) file.path))
      (λ d was in_d walks_d uses_d. from_bypass d was k known
      (λ x. Contains x.allow a → uses (cut_building taken d) x k ≡ true → hits_path x a file ≡ true
      → Was (entry_of kind.BypassPath (path_span a)) (File (kid_of k) file.path))
      (λ x x_written x_within x_used x_is. path_before d was k known x x_written a x_within walks_d x_used file there
      x_is)
      y in_d within uses_d is)
      written walked used
  was_hit e w (by_glob b given y written v within k known walked used file there class is) =
      from_option (cut_building taken) c.building b given
      (λ d. Contains d.bypass y → walks (scanning rest facts d) k ≡ true → uses d y k ≡ true
      → class_of d (Some y) file ≡ PathBypassedByGlob
      → Was (entry_of kind.BypassGlob v.span) (File (kid_of k) file.path))
      (λ d was in_d walks_d uses_d class_d. from_bypass d was k known
      (λ x. Contains x.globs v → uses (cut_building taken d) x k ≡ true
      → class_of (cut_building taken d) (Some x) file ≡ PathBypassedByGlob
      → Was (entry_of kind.BypassGlob v.span) (File (kid_of k) file.path))
      (λ x x_written x_within x_used x_class. glob_before d was k known x x_written v x_within walks_d x_used file there
      x_class is)
      y in_d within uses_d class_d)
      written walked used class
  was_hit e w (by_replaced r given d written k known replaced first) =
      from_option (cut_replacing taken) c.policy.replacing r given
      (λ s. Contains s.ignore d → is_replaced s c.graph (said_by c.table) k ≡ true
      → is_first ignore_span ignores s.ignore d k ≡ true
      → Was (entry_of kind.ReplacementIgnore (ignore_span d)) (Krate (kid_of k)))
      (λ s was in_s replaced_s first_s.
      let before : is_replaced s c.graph (said_by c.table) k ≡ true = sym (replaced_same s was k) ∙ replaced_s in
      by_replaced s was d (filtered (stays_ignore taken) s.ignore d in_s) k known before
      (sym (ignores_same s was k known before d) ∙ first_s))
      written replaced first
  was_hit e w (by_allowance l given a written k known scanned asked there is) =
      from_option (cut_licensing taken) c.licensing l given
      (λ m. Contains m.allow a → is_scanned counts m k ≡ true → grants_by_allowance m a asked ≡ true
      → Was (entry_of kind.LicenseAllow (allowance_span a)) (Krate (kid_of k)))
      (λ m was in_m scanned_m is_m.
      let before : is_scanned counts m k ≡ true = sym (scanned_same m k) ∙ scanned_m in
      by_allowance m was a (filtered (stays_allowance taken) m.allow a in_m) k known before asked there
      (sym (by_allowance_same counts m c.graph taken (licences_stay_by m was) a k asked known before there) ∙ is_m))
      written scanned is
  was_hit e w (by_exception l given d written k known scanned asked there is) =
      from_option (cut_licensing taken) c.licensing l given
      (λ m. Contains m.exceptions d → is_scanned counts m k ≡ true → grants_by_exception m d asked ≡ true
      → Was (entry_of kind.LicenseException (exception_span d)) (Krate (kid_of k)))
      (λ m was in_m scanned_m is_m.
      let before : is_scanned counts m k ≡ true = sym (scanned_same m k) ∙ scanned_m in
      by_exception m was d (filtered (stays_exception taken) m.exceptions d in_m) k known before asked there
      (sym (by_exception_same counts m c.graph taken (licences_stay_by m was) d k asked known before there) ∙ is_m))
      written scanned is

  pub hits_stay : (e : EntryId) (w : Witness) → IsNow e w ↔ Was e w
  hits_stay e w = (was_hit e w, hit_stays e w)
