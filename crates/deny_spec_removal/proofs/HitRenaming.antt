-- Where spans are replaced, each witness hits the entries that it hit before, with their new spans, and no others.
use Rattle.std.proofs.Common.{Bool, Option, Some, ap, refl, subst, sym, true, ◌≡◌, ◌∙◌}
use Rattle.std.specs.Prelude.{Contains, option_map}
use Rattle.deny_base_lists.proofs.Agreement.{same_test}
use Rattle.deny_base_lists.proofs.Members.{contains_map}
use Rattle.deny_base.specs.declared.entry.EntryId.{EntryId}
use Rattle.deny_base.specs.declared.entry.EntryKind.{EntryKind}
use Rattle.deny_base.specs.declared.entry.EntryKind.TheVariants as kind
use Rattle.deny_base.specs.declared.entry.Witness.{Witness}
use Rattle.deny_base.specs.declared.entry.Witness.TheVariants.{File, Krate, Parent}
use Rattle.deny_base.specs.declared.span.Span.{Span}
use Rattle.deny_spec.specs.Bans.{is_exempt}
use Rattle.deny_spec.specs.Building.{Building, Bypass}
use Rattle.deny_spec.specs.declared.package.Package.{Package}
use Rattle.deny_spec.specs.Graph.{Crate, kid_of}
use Rattle.deny_spec.specs.Licensing.{Licensing}
use Rattle.deny_spec.specs.Match.{matches}
use Rattle.deny_spec.specs.Policy.{Spec}
use Rattle.deny_spec.specs.Wrappers.{wraps}
use Rattle.deny_spec_report.proofs.HittingLemmas.{class_by_glob, glob_by_class}
use Rattle.deny_spec_report.specs.BuildScripts.{bypass_span, is_checked, is_walked, uses}
use Rattle.deny_spec_report.specs.Circumstances.{Circumstances}
use Rattle.deny_spec_report.specs.Facts.{Facts, AreFacts}
use Rattle.deny_spec_report.specs.FirstMatch.{is_first}
use Rattle.deny_spec_report.specs.Hitting.{IsHit, by_allowance, by_checked, by_exception, by_glob, by_path, by_replaced}
use Rattle.deny_spec_report.specs.Hitting.{by_root, by_skipped, by_wrapped, entry_of}
use Rattle.deny_spec_report.specs.Licences.{allowance_span, exception_span, grants_by_allowance, grants_by_exception}
use Rattle.deny_spec_report.specs.Licences.{is_passed_over, is_scanned}
use Rattle.deny_spec_report.specs.PackageFiles.{PathBypassedByGlob, class_of, hits_path, is_decided_by, path_span}
use Rattle.deny_spec_report.specs.Packages.{checks, package_of, scanning, walks}
use Rattle.deny_spec_report.specs.Saying.{said_by}
use Rattle.deny_spec_report.specs.StdReplacements.{ignore_span, ignores, is_replaced}
use Rattle.deny_spec_removal.specs.Renaming.{KeepsApart, KeepsBypassesApart, KeepsLicencesApart, Renaming}
use Rattle.deny_spec_removal.specs.Renaming.{renamed_allowance, renamed_ban, renamed_building, renamed_bypass}
use Rattle.deny_spec_removal.specs.Renaming.{renamed_entry, renamed_exception, renamed_id, renamed_in, renamed_licensing}
use Rattle.deny_spec_removal.specs.Renaming.{renamed_path, renamed_replacing, renamed_root, renamed_spec, renamed_text}
use Rattle.deny_spec_removal.proofs.BanRenaming as bans
use Rattle.deny_spec_removal.proofs.BypassRenaming as bypasses
use Rattle.deny_spec_removal.proofs.HitRemoval.{from_map, from_option}
use Rattle.deny_spec_removal.proofs.IgnoreRenaming as ignoring
use Rattle.deny_spec_removal.proofs.LicenceRenaming as licences
use Rattle.deny_spec_removal.proofs.SkipRenaming as skips

module _ (r : Renaming) (c : Circumstances) (these those : Facts) (are : AreFacts c these)
    (are_new : AreFacts (renamed_in r c) those) (apart : KeepsApart r c.policy)
    (apart_too : KeepsLicencesApart r c.licensing) (bypasses_apart : KeepsBypassesApart r c.building)
    (counts : Crate → Bool) where
  abbrev anew : Circumstances
  anew = renamed_in r c

  abbrev Was : EntryId → Witness → Type 0
  Was e w = IsHit c these counts e w

  abbrev IsNow : EntryId → Witness → Type 0
  IsNow e w = IsHit anew those counts e w

  abbrev Old : EntryId → Witness → Type 0
  Old e w = (old : EntryId) × IsHit c these counts old w × (e ≡ renamed_id r old)

  old_of : (kind : EntryKind) (span : Span) (w : Witness) → Was (entry_of kind span) w
      → Old (entry_of kind (r.span span)) w
  old_of kind span w is = (entry_of kind span, is, refl)

  -- ---- what the two policies agree on

  counting : (k : Crate) → Contains c.graph.crates k → those.chains.counts k ≡ these.chains.counts k
  counting k known = skips.counts_same r c.policy c.graph these.chains those.chains are.chains are_new.chains k known

  matches_same : (spec : Spec) (k : Crate) → matches (renamed_spec r spec) k ≡ matches spec k
  unfolding matches
  matches_same spec k = refl

  exempt_same : (k : Crate) → is_exempt anew.policy c.graph k ≡ is_exempt c.policy c.graph k
  unfolding is_exempt
  exempt_same k = refl

  reached_same : (k : Crate) → Contains c.graph.crates k → those.reached k ≡ these.reached k
  reached_same k known = same_test (those.reached k) (these.reached k) (are_new.reached k known) (are.reached k known)

  scanned_same : (l : Licensing) (k : Crate) → is_scanned counts (renamed_licensing r l) k ≡ is_scanned counts l k
  unfolding is_scanned is_passed_over
  scanned_same l k = refl

  licences_apart : (l : Licensing) → c.licensing ≡ Some l → KeepsLicencesApart r (Some l)
  licences_apart l given = subst (λ (o : Option Licensing). KeepsLicencesApart r o) given apart_too

  module _ (b : Building) (given : c.building ≡ Some b) (k : Crate) (known : Contains c.graph.crates k) where
    checked_by : is_checked (renamed_building r b) c.graph those.reached k
        ≡ is_checked (renamed_building r b) c.graph these.reached k
    unfolding is_checked
    checked_by = rw (reached_same k known) refl

    checks_same : checks (scanning anew those (renamed_building r b)) k ≡ checks (scanning c these b) k
    checks_same = checked_by ∙ bypasses.checks_same r (scanning c these b) k

    walked_by : (contents : Package) → is_walked (renamed_building r b) c.graph those.reached contents k
        ≡ is_walked (renamed_building r b) c.graph these.reached contents k
    unfolding is_walked
    walked_by contents = rw checked_by refl

    walks_same : walks (scanning anew those (renamed_building r b)) k ≡ walks (scanning c these b) k
    walks_same = walked_by (package_of (scanning c these b) k)
        ∙ bypasses.walked_same r (scanning c these b) (package_of (scanning c these b) k) k

    uses_same : (y : Bypass) → Contains b.bypass y → uses (renamed_building r b) (renamed_bypass r y) k ≡ uses b y k
    uses_same y written = bypasses.uses_same r (scanning c these b) (bypasses_apart.bypasses b given)
        (bypasses_apart.paths b given) y written k

  -- ---- what was hit is hit

  pub hit_there : (e : EntryId) (w : Witness) → Was e w → IsNow (renamed_id r e) w
  hit_there e w (by_skipped s written k known counts_it is) =
      by_skipped (renamed_entry r s) (contains_map (renamed_entry r) c.policy.skip s written) k known
      (counting k known ∙ counts_it) (matches_same s.spec k ∙ is)
  hit_there e w (by_root t written k known is) =
      by_root (renamed_root r t) (contains_map (renamed_root r) c.policy.skip_tree t written) k known
      (matches_same t.spec k ∙ is)
  hit_there e w (by_wrapped ban written v within k known is exempt parent there wrapped) =
      by_wrapped (renamed_ban r ban) (contains_map (renamed_ban r) c.policy.deny ban written) (renamed_text r v)
      (contains_map (renamed_text r) ban.wrappers v within) k known (matches_same ban.spec k ∙ is)
      (exempt_same k ∙ exempt) parent there
      (bans.wraps_same r c.policy c.graph apart ban v parent written within ∙ wrapped)
  hit_there e w (by_checked b given y written k known checked used) =
      by_checked (renamed_building r b) (ap (option_map (renamed_building r)) given) (renamed_bypass r y)
      (contains_map (renamed_bypass r) b.bypass y written) k known (checks_same b given k known ∙ checked)
      (uses_same b given k known y written ∙ used)
  hit_there e w (by_path b given y written a within k known walked used file there is) =
      by_path (renamed_building r b) (ap (option_map (renamed_building r)) given) (renamed_bypass r y)
      (contains_map (renamed_bypass r) b.bypass y written) (renamed_path r a)
      (contains_map (renamed_path r) y.allow a within) k known (walks_same b given k known ∙ walked)
      (uses_same b given k known y written ∙ used) file there
      (bypasses.hits_path_same r y (bypasses_apart.paths b given y written) a file within ∙ is)
  hit_there e w (by_glob b given y written v within k known walked used file there class is) =
      let within_new = contains_map (renamed_text r) y.globs v within in
      by_glob (renamed_building r b) (ap (option_map (renamed_building r)) given) (renamed_bypass r y)
      (contains_map (renamed_bypass r) b.bypass y written) (renamed_text r v) within_new k known
      (walks_same b given k known ∙ walked) (uses_same b given k known y written ∙ used) file there
      (class_by_glob (renamed_building r b) (renamed_bypass r y) (renamed_text r v) file within_new
      (bypasses.hits_glob_same r y v file ∙ glob_by_class b y v file class is))
      is
  hit_there e w (by_replaced s given d written k known replaced first) =
      by_replaced (renamed_replacing r s) (ap (option_map (renamed_replacing r)) given) (renamed_entry r d)
      (contains_map (renamed_entry r) s.ignore d written) k known
      (ignoring.replaced_same r s c.graph (said_by c.table) k ∙ replaced)
      (ignoring.first_same r s c.graph (said_by c.table) (apart.ignores s given) d k written ∙ first)
  hit_there e w (by_allowance l given a written k known scanned asked there is) =
      by_allowance (renamed_licensing r l) (ap (option_map (renamed_licensing r)) given) (renamed_allowance r a)
      (contains_map (renamed_allowance r) l.allow a written) k known (scanned_same l k ∙ scanned) asked there
      (licences.by_allowance_same r l c.graph counts (licences_apart l given) a written asked ∙ is)
  hit_there e w (by_exception l given d written k known scanned asked there is) =
      by_exception (renamed_licensing r l) (ap (option_map (renamed_licensing r)) given) (renamed_exception r d)
      (contains_map (renamed_exception r) l.exceptions d written) k known (scanned_same l k ∙ scanned) asked there
      (licences.by_exception_same r l c.graph counts (licences_apart l given) d written asked ∙ is)

  -- ---- what is hit was hit

  pub hit_back : (e : EntryId) (w : Witness) → IsNow e w → Old e w
  hit_back e w (by_skipped s written k known counts_it is) =
      from_map (renamed_entry r) c.policy.skip s written
      (λ x. matches x.spec k ≡ true → Old (entry_of kind.Skip x.spec.span) (Krate (kid_of k)))
      (λ x was is_x. old_of kind.Skip x.spec.span (Krate (kid_of k))
      (by_skipped x was k known (sym (counting k known) ∙ counts_it) (sym (matches_same x.spec k) ∙ is_x)))
      is
  hit_back e w (by_root t written k known is) =
      from_map (renamed_root r) c.policy.skip_tree t written
      (λ x. matches x.spec k ≡ true → Old (entry_of kind.SkipRoot x.spec.span) (Krate (kid_of k)))
      (λ x was is_x. old_of kind.SkipRoot x.spec.span (Krate (kid_of k))
      (by_root x was k known (sym (matches_same x.spec k) ∙ is_x)))
      is
  hit_back e w (by_wrapped ban written v within k known is exempt parent there wrapped) =
      from_map (renamed_ban r) c.policy.deny ban written
      (λ x. Contains x.wrappers v → matches x.spec k ≡ true → wraps x.wrappers v parent ≡ true
      → Old (entry_of kind.Wrapper v.span) (Parent (kid_of k) (kid_of parent)))
      (λ x was within_x is_x wraps_x. from_map (renamed_text r) x.wrappers v within_x
      (λ u. wraps (renamed_ban r x).wrappers u parent ≡ true
      → Old (entry_of kind.Wrapper u.span) (Parent (kid_of k) (kid_of parent)))
      (λ u was_u wraps_u. old_of kind.Wrapper u.span (Parent (kid_of k) (kid_of parent))
      (by_wrapped x was u was_u k known (sym (matches_same x.spec k) ∙ is_x) (sym (exempt_same k) ∙ exempt) parent there
      (sym (bans.wraps_same r c.policy c.graph apart x u parent was was_u) ∙ wraps_u)))
      wraps_x)
      within is wrapped
  hit_back e w (by_checked b given y written k known checked used) =
      from_option (renamed_building r) c.building b given
      (λ d. Contains d.bypass y → checks (scanning anew those d) k ≡ true → uses d y k ≡ true
      → Old (entry_of kind.Bypass (bypass_span y)) (Krate (kid_of k)))
      (λ d was in_d checks_d uses_d. from_map (renamed_bypass r) d.bypass y in_d
      (λ x. uses (renamed_building r d) x k ≡ true → Old (entry_of kind.Bypass (bypass_span x)) (Krate (kid_of k)))
      (λ x was_x uses_x. old_of kind.Bypass (bypass_span x) (Krate (kid_of k))
      (by_checked d was x was_x k known (sym (checks_same d was k known) ∙ checks_d)
      (sym (uses_same d was k known x was_x) ∙ uses_x)))
      uses_d)
      written checked used
  hit_back e w (by_path b given y written a within k known walked used file there is) =
      from_option (renamed_building r) c.building b given
      (λ d. Contains d.bypass y → walks (scanning anew those d) k ≡ true → uses d y k ≡ true
      → Old (entry_of kind.BypassPath (path_span a)) (File (kid_of k) file.path))
      (λ d was in_d walks_d uses_d. from_map (renamed_bypass r) d.bypass y in_d
      (λ x. Contains x.allow a → uses (renamed_building r d) x k ≡ true → hits_path x a file ≡ true
      → Old (entry_of kind.BypassPath (path_span a)) (File (kid_of k) file.path))
      (λ x was_x in_x uses_x is_x. from_map (renamed_path r) x.allow a in_x
      (λ u. hits_path (renamed_bypass r x) u file ≡ true
      → Old (entry_of kind.BypassPath (path_span u)) (File (kid_of k) file.path))
      (λ u was_u is_u. old_of kind.BypassPath (path_span u) (File (kid_of k) file.path)
      (by_path d was x was_x u was_u k known (sym (walks_same d was k known) ∙ walks_d)
      (sym (uses_same d was k known x was_x) ∙ uses_x) file there
      (sym (bypasses.hits_path_same r x (bypasses_apart.paths d was x was_x) u file was_u) ∙ is_u)))
      is_x)
      within uses_d is)
      written walked used
  hit_back e w (by_glob b given y written v within k known walked used file there class is) =
      from_option (renamed_building r) c.building b given
      (λ d. Contains d.bypass y → walks (scanning anew those d) k ≡ true → uses d y k ≡ true
      → class_of d (Some y) file ≡ PathBypassedByGlob
      → Old (entry_of kind.BypassGlob v.span) (File (kid_of k) file.path))
      (λ d was in_d walks_d uses_d class_d. from_map (renamed_bypass r) d.bypass y in_d
      (λ x. Contains x.globs v → uses (renamed_building r d) x k ≡ true
      → class_of (renamed_building r d) (Some x) file ≡ PathBypassedByGlob
      → Old (entry_of kind.BypassGlob v.span) (File (kid_of k) file.path))
      (λ x was_x in_x uses_x class_x. from_map (renamed_text r) x.globs v in_x
      (λ u. is_decided_by file u.value ≡ true → Old (entry_of kind.BypassGlob u.span) (File (kid_of k) file.path))
      (λ u was_u decided. old_of kind.BypassGlob u.span (File (kid_of k) file.path)
      (by_glob d was x was_x u was_u k known (sym (walks_same d was k known) ∙ walks_d)
      (sym (uses_same d was k known x was_x) ∙ uses_x) file there
      (class_by_glob d x u file was_u
      (sym (bypasses.hits_glob_same r x u file)
      ∙ glob_by_class (renamed_building r d) (renamed_bypass r x) (renamed_text r u) file class_x decided))
      decided))
      is)
      within uses_d class_d)
      written walked used class
  hit_back e w (by_replaced s given d written k known replaced first) =
      from_option (renamed_replacing r) c.policy.replacing s given
      (λ t. Contains t.ignore d → is_replaced t c.graph (said_by c.table) k ≡ true
      → is_first ignore_span ignores t.ignore d k ≡ true
      → Old (entry_of kind.ReplacementIgnore (ignore_span d)) (Krate (kid_of k)))
      (λ t was in_t replaced_t first_t. from_map (renamed_entry r) t.ignore d in_t
      (λ x. is_first ignore_span ignores (renamed_replacing r t).ignore x k ≡ true
      → Old (entry_of kind.ReplacementIgnore (ignore_span x)) (Krate (kid_of k)))
      (λ x was_x first_x. old_of kind.ReplacementIgnore (ignore_span x) (Krate (kid_of k))
      (by_replaced t was x was_x k known (sym (ignoring.replaced_same r t c.graph (said_by c.table) k) ∙ replaced_t)
      (sym (ignoring.first_same r t c.graph (said_by c.table) (apart.ignores t was) x k was_x) ∙ first_x)))
      first_t)
      written replaced first
  hit_back e w (by_allowance l given a written k known scanned asked there is) =
      from_option (renamed_licensing r) c.licensing l given
      (λ m. Contains m.allow a → is_scanned counts m k ≡ true → grants_by_allowance m a asked ≡ true
      → Old (entry_of kind.LicenseAllow (allowance_span a)) (Krate (kid_of k)))
      (λ m was in_m scanned_m is_m. from_map (renamed_allowance r) m.allow a in_m
      (λ x. grants_by_allowance (renamed_licensing r m) x asked ≡ true
      → Old (entry_of kind.LicenseAllow (allowance_span x)) (Krate (kid_of k)))
      (λ x was_x is_x. old_of kind.LicenseAllow (allowance_span x) (Krate (kid_of k))
      (by_allowance m was x was_x k known (sym (scanned_same m k) ∙ scanned_m) asked there
      (sym (licences.by_allowance_same r m c.graph counts (licences_apart m was) x was_x asked) ∙ is_x)))
      is_m)
      written scanned is
  hit_back e w (by_exception l given d written k known scanned asked there is) =
      from_option (renamed_licensing r) c.licensing l given
      (λ m. Contains m.exceptions d → is_scanned counts m k ≡ true → grants_by_exception m d asked ≡ true
      → Old (entry_of kind.LicenseException (exception_span d)) (Krate (kid_of k)))
      (λ m was in_m scanned_m is_m. from_map (renamed_exception r) m.exceptions d in_m
      (λ x. grants_by_exception (renamed_licensing r m) x asked ≡ true
      → Old (entry_of kind.LicenseException (exception_span x)) (Krate (kid_of k)))
      (λ x was_x is_x. old_of kind.LicenseException (exception_span x) (Krate (kid_of k))
      (by_exception m was x was_x k known (sym (scanned_same m k) ∙ scanned_m) asked there
      (sym (licences.by_exception_same r m c.graph counts (licences_apart m was) x was_x asked) ∙ is_x)))
      is_m)
      written scanned is
