-- Without bypasses, paths and globs that have no hit, the same is seen of packages, and the same could not be read.
use Rattle.std.proofs.Common.{◌≡◌, ◌∙◌, ◌++◌, ◌∷◌, ℕ, suc, Bool, true, false, List, [], Option, None, Some, ap}
use Rattle.std.proofs.Common.{inl, inr, map, not, refl, subst, sym}
use Rattle.std.specs.Prelude.{Contains, filter, if◌then◌else◌, option_map, slice_get}
use Rattle.std.specs.List.{AllZip}
use Rattle.std.specs.Option.{option_map_or}
use Rattle.std.proofs.lemmas.Bool.{cases_Bool}
use Rattle.std.proofs.lemmas.Slice.Eq.{bytes_eq-Decides}
use Rattle.deny_base_lists.proofs.Members.{Contains-first, Contains-rest, any_from, from_there, no_member, there}
use Rattle.deny_base_lists.proofs.Members.{zip_at}
use Rattle.deny_base.specs.declared.entry.EntryId.{EntryId}
use Rattle.deny_base.specs.declared.entry.Hit.{Hit}
use Rattle.deny_spec.specs.Building.{AllowedPath, Building, Bypass}
use Rattle.deny_spec.specs.Unseen.{package_at, unseen_package}
use Rattle.deny_spec.specs.declared.package.Package.{Package}
use Rattle.deny_spec.specs.declared.package.PackageFile.{PackageFile}
use Rattle.deny_spec.specs.Graph.{Crate, Target, kid_of}
use Rattle.deny_spec.specs.Hits.{all_hits}
use Rattle.deny_spec.specs.Policy as policy
use Rattle.deny_spec.specs.Text.{same_text}
use Rattle.deny_base_disk.specs.Disk.{Files}
use Rattle.deny_base.specs.Unread.{is_unread}
use Rattle.deny_base.specs.declared.unread.Unread.{Unread}
use Rattle.deny_spec_report.specs.BuildScripts.{is_walked, script_of, used}
use Rattle.deny_spec_report.specs.Circumstances.{Circumstances}
use Rattle.deny_spec_report.specs.Facts.{Facts, AreFacts}
use Rattle.deny_spec_report.specs.Hits.{both_hits, licence_hits_in}
use Rattle.deny_spec_report.specs.PackageFiles.{ByHeader, BySum, Step, globs_of, is_decided_by, leaves_to_globs}
use Rattle.deny_spec_report.specs.PackageFiles.{path_of_used}
use Rattle.deny_spec_report.specs.PackageFiles.{step_of}
use Rattle.deny_spec_report.specs.Packages.{scanning, package_of, walks}
use Rattle.deny_spec_report.specs.StdReplacements.{ignore_hits_in}
use Rattle.deny_spec_report.proofs.BuildAlike.{hits_of_builds_alike}
use Rattle.deny_spec_removal.specs.Asking.{AreAskedAlike, PackagesStay}
use Rattle.deny_spec_removal.specs.Removal.{HaveNoHit, cut_building, cut_bypass, stays_glob}
use Rattle.deny_spec_removal.proofs.Asking.{walked_scanned}
use Rattle.deny_build_scan.specs.Deciding.{AreDeciding, own_texts}
use Rattle.deny_build_scan.specs.Deciding.AreDeciding.{by_extension, by_glob, by_path, by_sum}
use Rattle.deny_build_scan.specs.Globs.{AreFitting}
use Rattle.deny_build_scan.specs.Globs.AreFitting.{fitting, none, other}
use Rattle.deny_build_scan.specs.Seen.{AreBoth, ArePackagesSeen, IsFileSeen, IsFoundBy, IsPackageSeen}
use Rattle.deny_build_scan.specs.Seen.{IsScriptSeen, IsWalkSeen, of_crate, script_asked}
use Rattle.deny_build_scan.specs.Wanted.{AreWantedPackages, IsFileOf, IsWantedOf}
use Rattle.deny_build_scan.specs.Wanted.IsWantedOf.{by_folder, by_header, by_script, by_sum as by_checksum}
use Rattle.deny_build_scan.specs.Why.{IsOfPurpose, Why}
use Rattle.deny_gate.proofs.Placed.{AreInPlace}
use Rattle.deny_rules.specs.Packages.{AreSeenBy}

-- pairs of two lists by their places
zip_places : {A B : Type 0} (R S : A → B → Type 0) (xs : List A) (ys : List B)
    → ((k : ℕ) (x : A) (y : B) → slice_get xs k ≡ Some x → slice_get ys k ≡ Some y → R x y → S x y)
    → AllZip R xs ys → AllZip S xs ys
zip_places R S [] [] each zip = tt
zip_places R S [] (y ∷ ys) each zip = absurd zip
zip_places R S (x ∷ xs) [] each zip = absurd zip
zip_places R S (x ∷ xs) (y ∷ ys) each zip = (
  each 0 x y refl refl zip.0,
  zip_places R S xs ys (λ k a b at too is. each (suc k) a b at too is) zip.1,
)

-- ---- the globs that decide on a file

-- the globs that fit a path are the same when globs that do not fit it go
fitting_kept : (keep : policy.SpannedText → Bool) (path : List ℕ) (ws : List policy.SpannedText) (globs : List (List ℕ))
    → ((w : policy.SpannedText) → Contains ws w → Contains globs w.value → keep w ≡ true)
    → AreFitting path (map (λ w. w.value) ws) globs → AreFitting path (map (λ w. w.value) (filter keep ws)) globs
fitting_kept keep path [] _ stay none = none
fitting_kept keep path (w ∷ ws) _ stay (fitting {globs} {those} glob fits are) =
    let kept : keep w ≡ true = stay w (Contains-first w ws) (Contains-first w.value those) in
    let rest = fitting_kept keep path ws those
    (λ v within decides. stay v (Contains-rest w ws v within) (Contains-rest w.value those v.value decides)) are in
    rw kept (fitting w.value fits rest)
fitting_kept keep path (w ∷ ws) globs stay (other glob unfit are) =
    let rest = fitting_kept keep path ws globs (λ v within decides. stay v (Contains-rest w ws v within) decides) are in
    elim (cases_Bool (keep w)) as (λ _. AreFitting path (map (λ x. x.value) (filter keep (w ∷ ws))) globs) [
      | inl e ↦ rw e (other w.value unfit rest)
      | inr e ↦ rw e rest
    ]

-- a glob among the deciding ones decides on the file
decided_by : (file : PackageFile) (glob : List ℕ) → Contains file.globs glob → is_decided_by file glob ≡ true
unfolding is_decided_by
decided_by file glob is = any_from (same_text glob) file.globs glob is ((bytes_eq-Decides glob glob).1 refl)

module _ (b : Building) (taken : List EntryId) (found now : Option Bypass) (path : List ℕ) (globs : List (List ℕ))
    (paths : path_of_used now path ≡ path_of_used found path) (own : globs_of now ≡ filter (stays_glob taken)
    (globs_of found))
    (stay : leaves_to_globs (path_of_used found path) ≡ true → (w : policy.SpannedText) → Contains (globs_of found) w
    → Contains globs w.value → stays_glob taken w ≡ true) where
  leaves_alike : (free : Bool) → leaves_to_globs (path_of_used found path) ≡ free
      → leaves_to_globs (path_of_used now path) ≡ free
  leaves_alike free is = ap (λ (o : Option AllowedPath). leaves_to_globs o) paths ∙ is

  own_kept : (these : List (List ℕ)) → these ≡ globs → leaves_to_globs (path_of_used found path) ≡ true
      → AreFitting path (own_texts found) these → AreFitting path (own_texts now) these
  own_kept these same free are = subst (λ (ws : List policy.SpannedText). AreFitting path (map (λ w. w.value) ws) these)
      (sym own)
      (fitting_kept (stays_glob taken) path (globs_of found) these
      (λ w within decides. stay free w within (subst (λ (gs : List (List ℕ)). Contains gs w.value) same decides)) are)

  none_fit : leaves_to_globs (path_of_used found path) ≡ true → AreFitting path (own_texts found) []
      → AreFitting path (own_texts now) []
  none_fit free are = subst (λ (ws : List policy.SpannedText). AreFitting path (map (λ w. w.value) ws) []) (sym own)
      (fitting_kept (stays_glob taken) path (globs_of found) [] (λ w within decides. absurd (no_member w.value decides))
      are)

  -- the globs that decided before still decide
  deciding_then : AreDeciding b found path globs → AreDeciding (cut_building taken b) now path globs
  deciding_then is = by globs refl is
    where
      by : (these : List (List ℕ)) → these ≡ globs → AreDeciding b found path these
          → AreDeciding (cut_building taken b) now path these
      by _ same (by_path does_match) = by_path (leaves_alike false does_match)
      by _ same (by_glob glob rest free are) =
          by_glob glob rest (leaves_alike true free) (own_kept (glob ∷ rest) same free are)
      by _ same (by_sum allowed at free are) =
          by_sum allowed (paths ∙ at) (leaves_alike true free) (none_fit free are)
      by these same (by_extension _ nothing are scripts) = by_extension these (paths ∙ nothing)
          (none_fit (ap (λ (o : Option AllowedPath). leaves_to_globs o) nothing) are) scripts

-- ---- the package of one crate

module _ (told : Option Files) (c : Circumstances) (facts : Facts) (b : Building) (taken : List EntryId)
    (alike : AreAskedAlike (scanning c facts b) (cut_building taken b) taken) (k : Crate)
    (known : Contains c.graph.crates k) (contents : Package) (here : package_at c.packages k.place ≡ contents) where
  abbrev rest : Building
  rest = cut_building taken b

  script_asked_same : script_asked rest c.graph facts.reached k ≡ script_asked b c.graph facts.reached k
  script_asked_same = ap (λ t. if t then script_of k else None) (alike.scripts k known)

  walked_same : is_walked rest c.graph facts.reached contents k ≡ is_walked b c.graph facts.reached contents k
  walked_same = alike.walked k known contents

  module _ (walked : is_walked b c.graph facts.reached contents k ≡ true) where
    walks_here : walks (scanning c facts b) k ≡ true
    walks_here = subst (λ (p : Package). is_walked b c.graph facts.reached p k ≡ true) (sym here) walked

    file_here : (file : PackageFile) → Contains contents.files file
        → Contains (package_of (scanning c facts b) k).files file
    file_here file is = subst (λ (p : Package). Contains p.files file) (sym here) is

    step_same : (file : PackageFile) → Contains contents.files file
        → step_of rest (used rest k) file.path (is_decided_by file)
        ≡ step_of b (used b k) file.path (is_decided_by file)
    step_same file is = alike.steps k known walks_here file (file_here file is)

    own_globs : globs_of (used rest k) ≡ filter (stays_glob taken) (globs_of (used b k))
    own_globs =
        ap (λ (o : Option Bypass). globs_of o)
        (alike.bypass k known (walked_scanned (scanning c facts b) k walks_here)) ∙ by (used b k)
      where
        by : (o : Option Bypass)
            → globs_of (option_map (cut_bypass taken) o) ≡ filter (stays_glob taken) (globs_of o)
        by None = refl
        by (Some y) = refl

    file_seen_then : (why : Why) (home : Option (List ℕ)) (unread : List Unread) (path : List ℕ) (file : PackageFile)
        → Contains contents.files file
        → IsFileSeen why told b home (is_unread unread (Some (kid_of k))) k path file
        → IsFileSeen why told rest home (is_unread unread (Some (kid_of k))) k path file
    file_seen_then why home unread path file member is = record {
      rest = is.rest;
      globs = deciding_then b taken (used b k) (used rest k) file.path file.globs
          (alike.paths k known walks_here file (file_here file member)) own_globs
          (λ free w within decides. alike.globs k known walks_here file (file_here file member) free w within
          (decided_by file w.value decides)) is.globs;
      shown = is.shown;
      found = subst
          (λ (step : Step). IsFoundBy (of_crate why k) told (not b.with_archives) (is_unread unread (Some (kid_of k)))
          path step file.seen.found) (sym (step_same file member)) is.found;
    }

    walk_seen_then : (why : Why) (home : Option (List ℕ)) (unread : List Unread)
        → IsWalkSeen why told b home (is_unread unread (Some (kid_of k))) k contents
        → IsWalkSeen why told rest home (is_unread unread (Some (kid_of k))) k contents
    walk_seen_then why home unread is = record {
      folders = is.folders;
      missing = is.missing;
      unlisted = is.unlisted;
      paths = is.paths;
      ordered = is.ordered;
      all = is.all;
      files = zip_places (IsFileSeen why told b home (is_unread unread (Some (kid_of k))) k)
          (IsFileSeen why told rest home (is_unread unread (Some (kid_of k))) k) is.paths contents.files
          (λ n path file at too seen. file_seen_then why home unread path file (from_there contents.files n file too)
          seen) is.files;
      most = is.most;
      few = is.few;
    }

    file_of_then : (unread : List Unread) (path : List ℕ) (step : Step)
        → IsFileOf told b unread k contents path step → IsFileOf told rest unread k contents path step
    file_of_then unread path step is = record {
      file = is.file;
      member = is.member;
      rest = is.rest;
      lies = is.lies;
      decides = step_same is.file is.member ∙ is.decides;
    }

  seen_then : (why : Why) (home : Option (List ℕ)) (unread : List Unread)
      → IsPackageSeen why told b facts.reached home c.graph unread k contents
      → IsPackageSeen why told rest facts.reached home c.graph unread k contents
  seen_then why home unread is = record {
    script = subst
        (λ (o : Option Target). AreBoth (IsScriptSeen why told home (is_unread unread (Some (kid_of k))) k) o
        contents.script) (sym script_asked_same) is.script;
    walked = λ now. let before = sym walked_same ∙ now in
        walk_seen_then before why home unread (is.walked before);
    not_walked = λ now. is.not_walked (sym walked_same ∙ now);
  }

  -- a package with a file was walked
  with_file : (why : Why) (home : Option (List ℕ)) (unread : List Unread)
      → IsPackageSeen why told b facts.reached home c.graph unread k contents
      → (file : PackageFile) → Contains contents.files file
      → is_walked b c.graph facts.reached contents k ≡ true
  with_file why home unread is file member = elim (cases_Bool (is_walked b c.graph facts.reached contents k)) as
      (λ _. is_walked b c.graph facts.reached contents k ≡ true) [
        | inl e ↦ e
        | inr e ↦ absurd (no_member file (subst (λ (files : List PackageFile). Contains files file)
            (is.not_walked e).files member))
      ]

  wanted_then : (why : Why) (home : Option (List ℕ)) (unread : List Unread)
      → IsPackageSeen why told b facts.reached home c.graph unread k contents → (u : Unread)
      → IsWantedOf told b facts.reached c.graph unread k contents u
      → IsWantedOf told rest facts.reached c.graph unread k contents u
  wanted_then why home unread seen u (by_script target asks is) =
      by_script target (script_asked_same ∙ asks) is
  wanted_then why home unread seen u (by_folder path walked lies is) =
      by_folder path (walked_same ∙ walked) lies is
  wanted_then why home unread seen u (by_header path of is) = by_header path
      (file_of_then (with_file why home unread seen of.file of.member) unread path ByHeader of) is
  wanted_then why home unread seen u (by_checksum path sum of is) = by_checksum path sum
      (file_of_then (with_file why home unread seen of.file of.member) unread path (BySum sum) of) is

-- ---- the packages of all crates

module _ (told : Option Files) (c : Circumstances) (facts : Facts) (b : Building) (taken : List EntryId)
    (alike : AreAskedAlike (scanning c facts b) (cut_building taken b) taken) (placed : AreInPlace c.graph)
    (home : Option (List ℕ)) (unread : List Unread) where
  -- the package at a place is that of the crate there
  package_here : (n : ℕ) (k : Crate) (contents : Package) → slice_get c.graph.crates n ≡ Some k
      → slice_get c.packages n ≡ Some contents → package_at c.packages k.place ≡ contents
  package_here n k contents at too =
      ap (λ (place : ℕ). package_at c.packages place) (placed n k at)
      ∙ ap (λ (o : Option Package). option_map_or (λ p. p) o unseen_package) too

  packages_then : ArePackagesSeen told b facts.reached home c.graph unread c.packages
      → ArePackagesSeen told (cut_building taken b) facts.reached home c.graph unread c.packages
  packages_then seen = zip_places (IsPackageSeen IsOfPurpose told b facts.reached home c.graph unread)
      (IsPackageSeen IsOfPurpose told (cut_building taken b) facts.reached home c.graph unread) c.graph.crates
      c.packages
      (λ n k contents at too is. seen_then told c facts b taken alike k (from_there c.graph.crates n k at) contents
      (package_here n k contents at too) IsOfPurpose home unread is) seen

  all_wanted_then : ArePackagesSeen told b facts.reached home c.graph unread c.packages
      → AreWantedPackages told b facts.reached c.graph unread c.packages unread
      → AreWantedPackages told (cut_building taken b) facts.reached c.graph unread c.packages unread
  all_wanted_then seen asked = λ u is.
      let old = asked u is in
      let at = there c.graph.crates old.crate old.member in
      let found = zip_at (IsPackageSeen IsOfPurpose told b facts.reached home c.graph unread) c.graph.crates c.packages
      at.0 old.crate seen at.1 in
      let here = package_here at.0 old.crate found.0 at.1 found.1 in
      record {
        crate = old.crate;
        member = old.member;
        wanted = wanted_then told c facts b taken alike old.crate old.member
            (package_at c.packages old.crate.place) refl IsOfPurpose home unread
            (subst (λ (p : Package). IsPackageSeen IsOfPurpose told b facts.reached home c.graph unread old.crate p)
            (sym here) found.2) u old.wanted;
      }

pub seen_without : PackagesStay → (told : Option Files) (c : Circumstances) (facts : Facts) (counts : Crate → Bool)
    (taken : List EntryId) (home : Option (List ℕ)) (unread : List Unread) → AreFacts c facts → AreInPlace c.graph
    → HaveNoHit (both_hits c facts counts) taken → AreSeenBy told c.building home c.graph unread c.packages
    → AreSeenBy told (option_map (cut_building taken) c.building) home c.graph unread c.packages
seen_without stay told c facts counts taken home unread are placed unhit seen = by c.building refl seen
  where
    by : (o : Option Building) → c.building ≡ o → AreSeenBy told o home c.graph unread c.packages
        → AreSeenBy told (option_map (cut_building taken) o) home c.graph unread c.packages
    by None given is = is
    by (Some b) given is =
        let those : Facts = record { chains = facts.chains; reached = is.reached } in
        let same = ap (λ (hits : List Hit). (all_hits c.policy c.graph facts.chains ++ (ignore_hits_in c ++ hits))
        ++ licence_hits_in counts c) (hits_of_builds_alike c facts those are.reached is.reports) in
        let alike = stay c those counts taken (subst (λ (hits : List Hit). HaveNoHit hits taken) same unhit) b given in
        record {
          reached = is.reached;
          reports = is.reports;
          seen = packages_then told c those b taken alike placed home unread is.seen;
          wanted = all_wanted_then told c those b taken alike placed home unread is.seen is.wanted;
        }
