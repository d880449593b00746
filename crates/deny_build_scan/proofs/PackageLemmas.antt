-- What is seen of one package: first its script, then its files.
use Rattle.std.proofs.Common.{◌≡◌, ◌∙◌, ◌++◌, [], ℕ, Bool, List, Option, None, Some, true, false, ap, append-nil, inl}
use Rattle.std.proofs.Common.{inr, refl, subst, sym}
use Rattle.std.specs.Prelude.{Contains}
use Rattle.std.proofs.lemmas.List.Elements.{Contains-append_cases, Contains-append_left}
use Rattle.deny_base.specs.declared.span.Kid.{Kid}
use Rattle.deny_spec.specs.Building.{Building}
use Rattle.deny_spec.specs.declared.package.Failure.{Failure}
use Rattle.deny_spec.specs.declared.package.Found.{Found}
use Rattle.deny_spec.specs.declared.package.Found.TheVariants.{Failed, Kind, Sum, Unasked}
use Rattle.deny_spec.specs.declared.package.Package.{Package}
use Rattle.deny_spec.specs.declared.package.Seen.{Seen}
use Rattle.deny_spec_report.specs.BuildScripts.{is_walked}
use Rattle.deny_base_lists.proofs.Booleans.{tests_agree}
use Rattle.deny_base_lists.proofs.Members.{Contains-by_cases, no_member}
use Rattle.deny_spec.specs.Crates.{folder, is_git_source}
use Rattle.deny_spec.specs.Graph.{Crate, Graph, Target, kid_of}
use Rattle.deny_base_disk.specs.Disk.{Disk, Files, IsLater}
use Rattle.deny_build_scan.proofs.Among.{file_among, lists_among, sum_weaker, walk_weaker}
use Rattle.deny_build_scan.proofs.FilesLemmas.{because_wider, failed_noted}
use Rattle.deny_build_scan.specs.Seen.{AreBoth, IsNotWalked, IsPackageSeenBy, IsScriptSeen, IsWalkSeen, script_asked}
use Rattle.deny_build_scan.specs.Wanted.{AreWantedOf, IsWantedOf}
use Rattle.deny_build_scan.specs.Wanted.IsWantedOf.{by_folder, by_header, by_script, by_sum}
use Rattle.deny_build_scan.specs.Why.{IsBecause, Why}
use Rattle.deny_build_scan.specs.private.Entries.{is_failed, noted}
use Rattle.deny_build_scan.specs.private.Scripts.{entries_of_script, gaps_of_script}
use Rattle.deny_build_scan.specs.private.Walks.{AreOfWalk, IsOfWalk}
use Rattle.deny_build_scan.specs.private.Walks.IsOfWalk.{of_folder, of_header, of_sum}
use Rattle.deny_base_unread.proofs.AddedLemmas.{added_is, added_then, longer_is}
use Rattle.deny_base_disk.proofs.PieceLemmas.{later_same}
use Rattle.deny_base_unread.proofs.ViewLemmas.{AreForOthers, is_left_out, holds_there, unread_last}
use Rattle.deny_base_unread.specs.Added.{IsLonger, added}
use Rattle.deny_base_unread.specs.Bound.{Folders}
use Rattle.deny_base.specs.Unread.{asked, is_unread}
use Rattle.deny_base.specs.declared.purpose.Purpose.{Purpose}
use Rattle.deny_base.specs.declared.purpose.Purpose.TheVariants as purpose
use Rattle.deny_base.specs.declared.unread.Unread.{Unread}
use Rattle.deny_build_walk.specs.Walk.{IsFolder}

-- ---- the entry for a script

-- the entry is for the script's target, which failed
record IsOfScript (krate : Option Kid) (target : Option Target) (script : Option Seen) (u : Unread) : Type 0 where
  script_target : Target
  at : target ≡ Some script_target
  failed : gaps_of_script script u.purpose u.path ≡ true
  is : u ≡ asked krate purpose.Script script_target.src_path

of_noted : (krate : Option Kid) (target : Target) (seen : Seen) (found : Found) (u : Unread) → seen.found ≡ found
    → Contains (noted (asked krate purpose.Script target.src_path) found) u
    → IsOfScript krate (Some target) (Some seen) u
of_noted krate target seen Unasked u is there = absurd (no_member u there)
of_noted krate target seen (Sum sum) u is there = absurd (no_member u there)
of_noted krate target seen (Kind kind) u is there = absurd (no_member u there)
of_noted krate target seen (Failed failure) u is there = record {
  script_target = target;
  at = refl;
  failed = ap is_failed is;
  is = Contains-by_cases (asked krate purpose.Script target.src_path) [] u there (λ same. sym same)
      (λ later. absurd (no_member u later));
}

of_script : (krate : Option Kid) (target : Option Target) (script : Option Seen) (u : Unread)
    → Contains (entries_of_script krate target script) u → IsOfScript krate target script u
of_script krate None script u there = absurd (no_member u there)
of_script krate (Some target) None u there = absurd (no_member u there)
of_script krate (Some target) (Some seen) u there = of_noted krate target seen seen.found u refl there

module _ (c : Crate) (target : Option Target) (script : Option Seen) (behind : List Unread)
    (others : AreForOthers purpose.Script behind) where
  abbrev kid : Option Kid
  kid = Some (kid_of c)

  abbrev first : List Unread
  first = entries_of_script kid target script

  abbrev all : List Unread
  all = first ++ behind

  first_for : (p : Purpose) → (purpose.Script ≡ p → ⊥) → AreForOthers p first
  first_for p other u there same =
      other (sym (ap (λ (v : Unread). v.purpose) (of_script kid target script u there).is) ∙ same)

  same_behind : (p : Purpose) → (purpose.Script ≡ p → ⊥) → (path : List ℕ)
      → is_unread behind kid p path ≡ is_unread all kid p path
  same_behind p other path = sym (unread_last first behind kid p path (first_for p other))

  -- the entries say whether the script failed
  script_gap : (t : Target) (seen : Seen) → target ≡ Some t → script ≡ Some seen
      → is_failed seen.found ≡ is_unread all kid purpose.Script t.src_path
  script_gap t seen at is =
      tests_agree (is_failed seen.found) (is_unread all kid purpose.Script t.src_path)
      (λ failed. is_left_out all kid purpose.Script t.src_path
      (Contains-append_left first behind (asked kid purpose.Script t.src_path)
      (subst (λ (o : Option Target). Contains (entries_of_script kid o script) (asked kid purpose.Script t.src_path))
      (sym at)
      (subst (λ (s : Option Seen). Contains (entries_of_script kid (Some t) s) (asked kid purpose.Script t.src_path))
      (sym is) (failed_noted (asked kid purpose.Script t.src_path) seen.found failed)))))
      (λ gap. elim (Contains-append_cases first behind (asked kid purpose.Script t.src_path)
      (holds_there all kid purpose.Script t.src_path gap)) [
        | inl here ↦
            let one = of_script kid target script (asked kid purpose.Script t.src_path) here in
            subst (λ (s : Option Seen). gaps_of_script s purpose.Script t.src_path ≡ true) is one.failed
        | inr later ↦ absurd (others (asked kid purpose.Script t.src_path) later refl)
      ])

  script_seen : (why weak : Why) (weaker : (u : Unread) (failure : Failure) → why u failure → weak u failure)
      (told : Option Files) (home : Option (List ℕ))
      → AreBoth (IsScriptSeen why told home (gaps_of_script script) c) target script
      → AreBoth (IsScriptSeen weak told home (is_unread all kid) c) target script
  script_seen why weak weaker told home is = by_both target script refl refl is
    where
      by_both : (t : Option Target) (s : Option Seen) → target ≡ t → script ≡ s
          → AreBoth (IsScriptSeen why told home (gaps_of_script s) c) t s
          → AreBoth (IsScriptSeen weak told home (is_unread all kid) c) t s
      by_both None None at here is = tt
      by_both None (Some seen) at here is = absurd is
      by_both (Some t) None at here is = absurd is
      by_both (Some t) (Some seen) at here is = record {
        shown = is.shown;
        found = sum_weaker why weak weaker told c purpose.Script t.src_path (is_failed seen.found)
            (is_unread all kid purpose.Script t.src_path) (script_gap t seen at here) seen.found is.found;
      }

  -- ---- which entries are wanted

  module _ (told : Option Files) (b : Building) (reached : Crate → Bool) (g : Graph) (contents : Package)
      (asks_it : target ≡ script_asked b g reached c) where
    wanted_script : (u : Unread) → Contains first u → IsWantedOf told b reached g all c contents u
    wanted_script u there =
        let one = of_script kid target script u there in
        by_script one.script_target (sym asks_it ∙ one.at) one.is

    wanted_walk : (u : Unread) → is_walked b g reached contents c ≡ true → IsOfWalk told b behind c contents u
        → IsWantedOf told b reached g all c contents u
    wanted_walk u walked (of_folder path lies is) = by_folder path walked
        (lists_among told b behind all c (same_behind purpose.List (λ e. cc e))
        (λ list. IsFolder (is_git_source c) (folder c) list path) told lies) is
    wanted_walk u walked (of_header path file is) =
        by_header path (file_among told b behind all c (same_behind purpose.List (λ e. cc e)) contents path _ file) is
    wanted_walk u walked (of_sum path sum file is) = by_sum path sum
        (file_among told b behind all c (same_behind purpose.List (λ e. cc e)) contents path _ file) is

    wanted_all : is_walked b g reached contents c ≡ true → AreOfWalk told b behind c contents → (u : Unread)
        → Contains all u → IsWantedOf told b reached g all c contents u
    wanted_all walked of_walk u there = elim (Contains-append_cases first behind u there) [
      | inl here ↦ wanted_script u here
      | inr later ↦ wanted_walk u walked (of_walk u later)
    ]

    wanted_alone : behind ≡ [] → (u : Unread) → Contains all u → IsWantedOf told b reached g all c contents u
    wanted_alone none u there = elim (Contains-append_cases first behind u there) [
      | inl here ↦ wanted_script u here
      | inr later ↦ absurd (no_member u (subst (λ (us : List Unread). Contains us u) none later))
    ]

  -- ---- what is seen

  walk_all : (why weak : Why) (weaker : (u : Unread) (failure : Failure) → why u failure → weak u failure)
      (told : Option Files) (b : Building) (home : Option (List ℕ)) (contents : Package)
      → IsWalkSeen why told b home (is_unread behind kid) c contents
      → IsWalkSeen weak told b home (is_unread all kid) c contents
  walk_all why weak weaker told b home contents is =
      walk_weaker why weak weaker told c b home (is_unread behind kid) (is_unread all kid) contents
      (same_behind purpose.List (λ e. cc e)) (same_behind purpose.Header (λ e. cc e))
      (same_behind purpose.Sum (λ e. cc e)) is

-- ---- no entry of a walk is for a script

off_script : (told : Option Files) (b : Building) (own : List Unread) (c : Crate) (contents : Package) (u : Unread)
    → IsOfWalk told b own c contents u → u.purpose ≡ purpose.Script → ⊥
off_script told b own c contents u (of_folder path lies is) same =
    absurd (cc (ap (λ (v : Unread). v.purpose) (sym is) ∙ same))
off_script told b own c contents u (of_header path file is) same =
    absurd (cc (ap (λ (v : Unread). v.purpose) (sym is) ∙ same))
off_script told b own c contents u (of_sum path sum file is) same =
    absurd (cc (ap (λ (v : Unread). v.purpose) (sym is) ∙ same))

walk_others : (told : Option Files) (b : Building) (own : List Unread) (c : Crate) (contents : Package)
    → AreOfWalk told b own c contents → AreForOthers purpose.Script own
walk_others told b own c contents of_walk u there same = off_script told b own c contents u (of_walk u there) same

none_others : (p : Purpose) → AreForOthers p []
none_others p u there same = no_member u there

module _ (c : Crate) (b : Building) (reached : Crate → Bool) (g : Graph) (home : Option (List ℕ)) (folder : Folders)
    (start mid end : Disk) (before : IsLater start mid) (after : IsLater mid end) (script : Option Seen)
    (u0 u1 : List Unread)
    (noted : u1 ≡ u0 ++ entries_of_script (Some (kid_of c)) (script_asked b g reached c) script) where
  abbrev script_entries : List Unread
  script_entries = entries_of_script (Some (kid_of c)) (script_asked b g reached c) script

  first_longer : IsLonger u0 u1
  first_longer = longer_is u0 script_entries u1 noted

  first_is : added u0 u1 ≡ script_entries
  first_is = added_is u0 script_entries u1 noted

  all_is : (u2 : List Unread) → IsLonger u1 u2 → added u0 u2 ≡ script_entries ++ added u1 u2
  all_is u2 longer = added_then u0 u1 u2 first_longer longer ∙ ap (λ us. us ++ added u1 u2) first_is

  abbrev IsSeenWith : Disk → Disk → List Unread → Package → Type 0
  IsSeenWith from to us contents = IsPackageSeenBy (IsBecause folder from to) start.files b reached home g
      (is_unread us (Some (kid_of c))) c contents

  -- the package was walked
  pub walked_seen : (u2 : List Unread) (contents : Package) → IsLonger u1 u2 → contents.script ≡ script
      → is_walked b g reached contents c ≡ true
      → AreBoth (IsScriptSeen (IsBecause folder start mid) start.files home (gaps_of_script script) c)
      (script_asked b g reached c) script
      → IsWalkSeen (IsBecause folder mid end) mid.files b home (is_unread (added u1 u2) (Some (kid_of c))) c contents
      → AreOfWalk mid.files b (added u1 u2) c contents → IsSeenWith start end (added u0 u2) contents
  walked_seen u2 contents longer same walks script_is walk_is of_walk =
      let others = walk_others mid.files b (added u1 u2) c contents of_walk in
      subst (λ (us : List Unread). IsSeenWith start end us contents) (sym (all_is u2 longer)) (record {
        script = subst (λ (s : Option Seen). AreBoth (IsScriptSeen (IsBecause folder start end) start.files home
            (is_unread (script_entries ++ added u1 u2) (Some (kid_of c))) c) (script_asked b g reached c) s) (sym same)
            (script_seen c (script_asked b g reached c) script (added u1 u2) others (IsBecause folder start mid)
            (IsBecause folder start end) (because_wider folder start start mid end (later_same start) after) start.files
            home script_is);
        walked = λ yes. subst (λ (told : Option Files). IsWalkSeen (IsBecause folder start end) told b home
            (is_unread (script_entries ++ added u1 u2) (Some (kid_of c))) c contents) before.files
            (walk_all c (script_asked b g reached c) script (added u1 u2) others (IsBecause folder mid end)
            (IsBecause folder start end) (because_wider folder start mid end end before (later_same end)) mid.files b
            home contents walk_is);
        not_walked = λ never. absurd (cc (sym walks ∙ never));
      })

  pub walked_wanted : (u2 : List Unread) (contents : Package) → IsLonger u1 u2 → is_walked b g reached contents c ≡ true
      → AreOfWalk mid.files b (added u1 u2) c contents
      → AreWantedOf start.files b reached g (added u0 u2) c contents
  walked_wanted u2 contents longer walks of_walk =
      let others = walk_others mid.files b (added u1 u2) c contents of_walk in
      subst (λ (us : List Unread). AreWantedOf start.files b reached g us c contents) (sym (all_is u2 longer))
      (subst (λ (told : Option Files). AreWantedOf told b reached g (script_entries ++ added u1 u2) c contents)
      before.files
      (wanted_all c (script_asked b g reached c) script (added u1 u2) others mid.files b reached g contents refl walks
      of_walk))

  -- the package was not walked
  pub alone_seen : (contents : Package) → contents.script ≡ script → IsNotWalked contents
      → is_walked b g reached contents c ≡ false
      → AreBoth (IsScriptSeen (IsBecause folder start mid) start.files home (gaps_of_script script) c)
      (script_asked b g reached c) script
      → IsSeenWith start mid (added u0 u1) contents
  alone_seen contents same none walks script_is =
      subst (λ (us : List Unread). IsSeenWith start mid us contents)
      (append-nil script_entries ∙ sym first_is) (record {
        script = subst (λ (s : Option Seen). AreBoth (IsScriptSeen (IsBecause folder start mid) start.files home
            (is_unread (script_entries ++ []) (Some (kid_of c))) c) (script_asked b g reached c) s) (sym same)
            (script_seen c (script_asked b g reached c) script [] (none_others purpose.Script)
            (IsBecause folder start mid) (IsBecause folder start mid) (λ u failure because. because) start.files home
            script_is);
        walked = λ yes. absurd (cc (sym walks ∙ yes));
        not_walked = λ never. none;
      })

  pub alone_wanted : (contents : Package) → AreWantedOf start.files b reached g (added u0 u1) c contents
  alone_wanted contents =
      subst (λ (us : List Unread). AreWantedOf start.files b reached g us c contents)
      (append-nil script_entries ∙ sym first_is)
      (wanted_alone c (script_asked b g reached c) script [] (none_others purpose.Script) start.files b reached g
      contents refl refl)
