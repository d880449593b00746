-- A folder whose entries were too many for a walk is past the bound, by the lists of the walk at its end.
use Rattle.std.proofs.Common.{nat_cmp, arith, ◌≡◌, ◌∙◌, ℕ, Bool, true, false, List, ◌∷◌, Option}
use Rattle.std.proofs.Common.{None, Some, refl, sym, ap, subst, inl, inr}
use Rattle.std.specs.Prelude.{Contains, IfSome, IsTrue}
use Rattle.std.specs.BTreeMap.Range.{IsLtBy}
use Rattle.std.specs.Cmp.Lexicographic.{nat_list_cmp_total, slice_cmp}
use Rattle.std.specs.declared.cmp.Ordering.TheVariants.{Less}
use Rattle.std.proofs.lemmas.List.Elements.{All-contains, Contains-append_cases, Contains-append_left}
use Rattle.std.proofs.lemmas.Option.{none-some}
use Rattle.deny_base_lists.proofs.Members.{Contains-by_cases, Contains-first}
use Rattle.deny_base_lists.proofs.Orders.{not_below_itself}
use Rattle.deny_base_disk.proofs.ChildrenLemmas.{children_listed}
use Rattle.deny_base_disk.specs.Children.{child, children, is_child_name}
use Rattle.deny_base_disk.specs.Disk.{Disk, Files}
use Rattle.deny_base_disk.specs.declared.disk.Entry.{Entry}
use Rattle.deny_base.specs.declared.span.Kid.{Kid}
use Rattle.deny_base.specs.Unread.{asked, is_unread}
use Rattle.deny_base.specs.declared.purpose.Purpose.TheVariants as purpose
use Rattle.deny_base.specs.declared.unread.Unread.{Unread}
use Rattle.deny_base_unread.proofs.ViewLemmas.{list_read, list_unread}
use Rattle.deny_base_unread.specs.Added.{added}
use Rattle.deny_base_unread.specs.View.{unless, view_by, view_of}
use Rattle.deny_build_walk.proofs.PathLemmas.{child_above, folder_grows}
use Rattle.deny_build_walk.proofs.WalkedLemmas.{same_inside}
use Rattle.deny_build_walk.specs.Entries.{IsPastBound}
use Rattle.deny_build_walk.specs.Walk.{Holds, IsFolder, Listing}
use Rattle.deny_build_walk.specs.Walk.IsFolderBy.{inside, itself}
use Rattle.deny_build_walk.specs.declared.folder.NoList.TheVariants.{Crowded}
use Rattle.deny_build_walk.specs.declared.walk.Unlisted.{Unlisted}
use Rattle.deny_build_walk.specs.private.Crowded.{WasCrowded}
use Rattle.deny_build_walk.specs.private.Noted.{AreNoted}
use Rattle.deny_build_walk.specs.private.Walking.{HasIn, IsKnown, IsMet}

not_less : (path : List ℕ) → slice_cmp nat_cmp path path ≡ Less → ⊥
not_less path below = not_below_itself (slice_cmp nat_cmp) nat_list_cmp_total path path refl below

module _ (krate : Kid) (root : List ℕ) (by_git : Bool) (files : Files) (own : List Unread) (path : List ℕ)
    (was : WasCrowded krate root by_git files own path)
  where
    abbrev lists : Listing
    lists = (view_of files own (Some krate)).list

    abbrev known : List (List ℕ)
    known = was.walk.listed

    -- a folder that was listed before has no entry
    no_entry : (folder : List ℕ) → Contains known folder → Contains own (asked (Some krate) purpose.List folder) → ⊥
    no_entry folder listed unread =
        let below : slice_cmp nat_cmp folder path ≡ Less =
        was.walk.below folder path (inl listed) (Contains-first path was.pending) in
        let entry : Unread = asked (Some krate) purpose.List path in
        let one : Unread = asked (Some krate) purpose.List folder in
        elim (Contains-append_cases was.before (entry ∷ was.behind) one
        (subst (λ (us : List Unread). Contains us one) was.is unread)) as (λ _. ⊥) [
          | inl before ↦ was.walk.once folder listed before
          | inr from ↦ Contains-by_cases entry was.behind one from
              (λ here. not_less path (subst (λ (p : List ℕ). slice_cmp nat_cmp p path ≡ Less)
              (sym (ap (λ (u : Unread). u.path) here)) below))
              (λ behind. not_less path
              (nat_list_cmp_total.trans path folder path (was.above one behind) below))
        ]

    read : (folder : List ℕ) → Contains known folder → lists folder ≡ Some (children files folder)
    read folder listed = list_read files own (Some krate) folder (no_entry folder listed)

    holds_of : (folder name : List ℕ) → HasIn by_git root files known true folder name
        → Holds by_git root lists true folder name
    holds_of folder name has = record {
      entries = children files folder;
      seen = read folder has.within;
      member = has.member;
      kept = has.kept;
    }

    -- a folder that had an entry before has no list
    unlisted : (folder : List ℕ) (entries : List Entry)
        → Contains was.before (asked (Some krate) purpose.List folder) → lists folder ≡ Some entries → ⊥
    unlisted folder entries before seen = none-some entries
        (sym (list_unread files own (Some krate) folder
        (subst (λ (us : List Unread). Contains us (asked (Some krate) purpose.List folder)) (sym was.is)
        (Contains-append_left was.before (asked (Some krate) purpose.List path ∷ was.behind)
        (asked (Some krate) purpose.List folder) before))) ∙ seen)

    -- of the folders known before, those that come before the path were met
    met_before : (folder : List ℕ) → slice_cmp nat_cmp folder path ≡ Less
        → IsKnown krate known was.before (path ∷ was.pending) folder → IsMet krate known was.before folder
    met_before folder below (inl met) = met
    met_before folder below (inr there) = absurd (Contains-by_cases path was.pending folder there
        (λ here. not_less path (subst (λ (p : List ℕ). slice_cmp nat_cmp p path ≡ Less) (sym here) below))
        (λ waits. not_less path (nat_list_cmp_total.trans path folder path
        (All-contains (IsLtBy (slice_cmp nat_cmp) path) was.pending folder was.least waits) below)))

    entries_are : (folder : List ℕ) (entries : List Entry) → lists folder ≡ Some entries
        → entries ≡ children files folder
    unfolding view_of view_by
    entries_are folder entries seen = by_gap (is_unread own (Some krate) purpose.List folder) seen
      where
        by_gap : (gap : Bool) → unless gap (children files folder) ≡ Some entries → entries ≡ children files folder
        by_gap true is = absurd (none-some entries is)
        by_gap false is = sym (same_inside (children files folder) entries is)

    -- a folder comes before those that it holds
    held_above : (folder name : List ℕ) → Holds by_git root lists true folder name
        → slice_cmp nat_cmp folder (child folder name) ≡ Less
    held_above folder name holds = child_above folder name
        (All-contains (λ (entry : Entry). IsTrue (is_child_name entry.name)) (children files folder)
        record { name = name; folder = true } (children_listed files folder).names
        (subst (λ (entries : List Entry). Contains entries record { name = name; folder = true })
        (entries_are folder holds.entries holds.seen) holds.member))

    held_known : (folder name : List ℕ) → Holds by_git root lists true folder name
        → IsMet krate known was.before folder
        → IsKnown krate known was.before (path ∷ was.pending) (child folder name)
    held_known folder name holds (inl listed) = was.walk.all_known folder name record {
      within = listed;
      member = subst (λ (entries : List Entry). Contains entries record { name = name; folder = true })
          (entries_are folder holds.entries holds.seen) holds.member;
      kept = holds.kept;
    }
    held_known folder name holds (inr unread) = absurd (unlisted folder holds.entries unread holds.seen)

    -- a folder that comes before the path was met before it
    folder_met : (folder : List ℕ) → IsFolder by_git root lists folder → slice_cmp nat_cmp folder path ≡ Less
        → IsMet krate known was.before folder
    folder_met _ itself below = met_before root below was.walk.root_known
    folder_met _ (inside folder name within holds) below = met_before (child folder name) below
        (held_known folder name holds (folder_met folder within
        (nat_list_cmp_total.trans folder (child folder name) path (held_above folder name holds) below)))

    pub past_bound : IsPastBound by_git root lists files path
    past_bound = record {
      listed = known;
      are = record {
        apart = was.walk.apart;
        sound = λ folder there. record {
          listed = record {
            within = folder_grows _ _ root folder holds_of (was.walk.folders folder (inl (inl there)));
            entries = children files folder;
            seen = read folder there;
          };
          before = was.walk.below folder path (inl there) (Contains-first path was.pending);
        };
        whole = λ folder is. elim (folder_met folder is.listed.within is.before) as (λ _. Contains known folder) [
          | inl there ↦ there
          | inr unread ↦ absurd (unlisted folder is.listed.entries unread is.listed.seen)
        ];
      };
      past = omega (arith, was.past, was.walk.counted);
    }

module _ (krate : Kid) (root : List ℕ) (by_git : Bool) (start : Disk) (first : List Unread) (now : Disk)
    (unread : List Unread) (notes : List Unlisted)
    (noted : AreNoted krate root by_git start first now unread notes)
  where
    told_past : (told : Option Files) → IfSome told (λ files. (n : Unlisted) → Contains notes n → n.why ≡ Crowded
        → WasCrowded krate root by_git files (added first unread) n.path)
        → IfSome told (λ files. (n : Unlisted) → Contains notes n → n.why ≡ Crowded
        → IsPastBound by_git root (view_of files (added first unread) (Some krate)).list files n.path)
    told_past None crowded = tt
    told_past (Some files) crowded = λ n there crowds.
        past_bound krate root by_git files (added first unread) n.path (crowded n there crowds)

    pub walked_past : IfSome start.files (λ files. (n : Unlisted) → Contains notes n → n.why ≡ Crowded
        → IsPastBound by_git root (view_of files (added first unread) (Some krate)).list files n.path)
    walked_past = told_past start.files noted.crowded
