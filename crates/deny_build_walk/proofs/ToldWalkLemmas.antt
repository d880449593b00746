-- One more folder of a walk over told files: it was listed, or it has an entry for what is unread.
use Rattle.std.proofs.Common.{nat_cmp, ◌≡◌, ◌+◌, ◌≤◌, ℕ, Bool, true, false, List, [], ◌∷◌, ◌++◌, fold, length, Some}
use Rattle.std.proofs.Common.{refl, sym, ap, subst, arith, inl, inr}
use Rattle.std.specs.Prelude.{◌⊎◌, Contains, sum_by}
use Rattle.std.specs.BTreeMap.Range.{IsLtBy}
use Rattle.std.specs.Cmp.Lexicographic.{nat_list_cmp_total, slice_cmp}
use Rattle.std.specs.List.{filter_map}
use Rattle.std.specs.declared.cmp.Ordering.TheVariants.{Less}
use Rattle.std.proofs.lemmas.List.Elements.{All-contains, Contains-append_cases, Contains-append_left}
use Rattle.std.proofs.lemmas.List.Elements.{Contains-append_right, Contains-push, Contains-push_cases}
use Rattle.deny_base_lists.proofs.Members.{Contains-by_cases, Contains-first, Contains-rest}
use Rattle.deny_base_lists.proofs.Orders.{not_below_itself}
use Rattle.deny_base_disk.proofs.ChildrenLemmas.{children_listed}
use Rattle.deny_base_disk.specs.Children.{child, children}
use Rattle.deny_base_disk.specs.Disk.{Files}
use Rattle.deny_base.specs.declared.span.Kid.{Kid}
use Rattle.deny_base_unread.specs.Bound.{entries_in, is_in}
use Rattle.deny_base.specs.Unread.{asked}
use Rattle.deny_base.specs.declared.purpose.Purpose.TheVariants as purpose
use Rattle.deny_base.specs.declared.unread.Unread.{Unread}
use Rattle.deny_build_walk.proofs.PathLemmas.{folder_grows, folder_in}
use Rattle.deny_build_walk.proofs.SumLemmas.{counted_within, sum_first}
use Rattle.deny_build_walk.proofs.TakingLemmas.{IsLeast, IsTakenOf, above_taken, from_puts, from_taken, put, puts_have}
use Rattle.deny_build_walk.proofs.TakingLemmas.{puts_keep, taken_there}
use Rattle.deny_build_walk.specs.Walk.{IsFolderBy, is_left_out}
use Rattle.deny_build_walk.specs.Walk.IsFolderBy.{inside}
use Rattle.deny_build_walk.specs.private.Taking.{path_taken}
use Rattle.deny_build_walk.specs.private.Walking.{HasIn, IsListedFile, IsKnown, IsMet, ToldWalk}

irreflexive : (path : List ℕ) → slice_cmp nat_cmp path path ≡ Less → ⊥
irreflexive path below = not_below_itself (slice_cmp nat_cmp) nat_list_cmp_total path path refl below

-- the folders and the files that the next folder holds
abbrev inner : Bool → List ℕ → Files → List ℕ → Bool → List (List ℕ)
inner by_git root files folder is_folder =
    filter_map (path_taken by_git root folder is_folder) (children files folder)

module _ (krate : Kid) (root : List ℕ) (by_git : Bool) (files : Files) (own : List Unread) (next : List ℕ)
    (pending found : List (List ℕ)) (count : ℕ) (told : ToldWalk krate root by_git files own (next
    ∷ pending) found count)
  where
    next_known : IsKnown krate told.listed own (next ∷ pending) next
    next_known = inr (Contains-first next pending)

    -- the next folder was neither listed nor has it an entry
    not_met : IsMet krate told.listed own next → ⊥
    not_met met = irreflexive next (told.below next next met (Contains-first next pending))

    below_pending : (path other : List ℕ) → IsMet krate told.listed own path → Contains pending other
        → slice_cmp nat_cmp path other ≡ Less
    below_pending path other met there = told.below path other met (Contains-rest next pending other there)

    below_next : (path : List ℕ) → IsMet krate told.listed own path → slice_cmp nat_cmp path next ≡ Less
    below_next path met = told.below path next met (Contains-first next pending)

    next_in : (path : List ℕ) → Contains (next ∷ told.listed) path → is_in root path ≡ true
    next_in path there = Contains-by_cases next told.listed path there
        (λ here. folder_in _ root path
        (subst (λ (p : List ℕ). IsFolderBy (HasIn by_git root files told.listed true) root p) here
        (told.folders next next_known)))
        (λ listed. folder_in _ root path (told.folders path (inl (inl listed))))

    -- together with the next folder, no more entries are listed than the package holds
    pub with_next : count + length (children files next) ≤ entries_in files root
    with_next =
        let most : sum_by (λ path. length (children files path)) (next ∷ told.listed) ≤ entries_in files root =
        counted_within files root (next ∷ told.listed) (λ there. not_met (inl there), told.apart) next_in in
        let so_far : count ≡ sum_by (λ path. length (children files path)) told.listed = told.counted in
        omega (arith, most, so_far, sum_first (λ path. length (children files path)) next told.listed)

    -- ---- the next folder was listed

    more : (is_folder : Bool) (folder name : List ℕ) → HasIn by_git root files told.listed is_folder folder name
        → HasIn by_git root files (next ∷ told.listed) is_folder folder name
    more is_folder folder name has =
        record { within = Contains-rest next told.listed folder has.within; member = has.member; kept = has.kept }

    grown : (path : List ℕ) → IsKnown krate told.listed own (next ∷ pending) path
        → IsFolderBy (HasIn by_git root files (next ∷ told.listed) true) root path
    grown path known = folder_grows _ _ root path (more true) (told.folders path known)

    abbrev folders_in : List (List ℕ)
    folders_in = inner by_git root files next true

    abbrev files_in : List (List ℕ)
    files_in = inner by_git root files next false

    taken_of : (is_folder : Bool) (path : List ℕ) → Contains (inner by_git root files next is_folder) path
        → IsTakenOf by_git root next is_folder (children files next) path
    taken_of is_folder path there = from_taken by_git root next is_folder (children files next) path there

    has_next : (is_folder : Bool) (path : List ℕ) (of : IsTakenOf by_git root next is_folder (children files next) path)
        → HasIn by_git root files (next ∷ told.listed) is_folder next of.name
    has_next is_folder path of =
        record { within = Contains-first next told.listed; member = of.member; kept = of.kept }

    above_next : IsLeast next pending → (path : List ℕ) → Contains (fold put pending folders_in) path
        → slice_cmp nat_cmp next path ≡ Less
    above_next least path there =
        above_taken by_git root next pending (children files next) path (children_listed files next) least there

    listed_known : (path : List ℕ) → IsKnown krate told.listed own (next ∷ pending) path
        → IsKnown krate (next ∷ told.listed) own (fold put pending folders_in) path
    listed_known path (inl (inl listed)) = inl (inl (Contains-rest next told.listed path listed))
    listed_known path (inl (inr unread)) = inl (inr unread)
    listed_known path (inr there) = Contains-by_cases next pending path there
        (λ here. inl (inl (subst (λ (p : List ℕ). Contains (next ∷ told.listed) p) here
        (Contains-first next told.listed))))
        (λ old. inr (puts_keep pending folders_in path old))

    listed_below : IsLeast next pending → (path other : List ℕ) → IsMet krate (next ∷ told.listed) own path
        → Contains (fold put pending folders_in) other → slice_cmp nat_cmp path other ≡ Less
    listed_below least path other (inl listed) there = Contains-by_cases next told.listed path listed
        (λ here. subst (λ (p : List ℕ). slice_cmp nat_cmp p other ≡ Less) here (above_next least other there))
        (λ before.
        nat_list_cmp_total.trans path next other (below_next path (inl before)) (above_next least other there))
    listed_below least path other (inr unread) there =
        nat_list_cmp_total.trans path next other (below_next path (inr unread)) (above_next least other there)

    listed_folders : (path : List ℕ) → IsKnown krate (next ∷ told.listed) own (fold put pending folders_in) path
        → IsFolderBy (HasIn by_git root files (next ∷ told.listed) true) root path
    listed_folders path (inl (inl listed)) = Contains-by_cases next told.listed path listed
        (λ here. subst (λ (p : List ℕ). IsFolderBy (HasIn by_git root files (next ∷ told.listed) true) root p) here
        (grown next next_known))
        (λ before. grown path (inl (inl before)))
    listed_folders path (inl (inr unread)) = grown path (inl (inr unread))
    listed_folders path (inr there) = elim (from_puts pending folders_in path there)
        as (λ _. IsFolderBy (HasIn by_git root files (next ∷ told.listed) true) root path) [
          | inl old ↦ grown path (inr (Contains-rest next pending path old))
          | inr new ↦
              let of = taken_of true path new in
              subst (λ (p : List ℕ). IsFolderBy (HasIn by_git root files (next ∷ told.listed) true) root p) (sym of.is)
              (inside next of.name (grown next next_known) (has_next true path of))
        ]

    -- an entry of a listed folder was known, or it is an entry of the next folder
    listed_all : (folder name : List ℕ) → HasIn by_git root files (next ∷ told.listed) true folder name
        → IsKnown krate (next ∷ told.listed) own (fold put pending folders_in) (child folder name)
    listed_all folder name has = Contains-by_cases next told.listed folder has.within
        (λ here. inr (puts_have pending folders_in (child folder name)
        (subst (λ (f : List ℕ). Contains folders_in (child f name)) here
        (taken_there by_git root next true (children files next) name
        (subst (λ (f : List ℕ). Contains (children files f) record { name = name; folder = true }) (sym here)
        has.member)
        (subst (λ (f : List ℕ). is_left_out by_git root f name ≡ false) (sym here) has.kept)))))
        (λ before. listed_known (child folder name)
        (told.all_known folder name record { within = before; member = has.member; kept = has.kept }))

    listed_sound : (path : List ℕ) → Contains (found ++ files_in) path
        → IsListedFile by_git root files (next ∷ told.listed) path
    listed_sound path there = elim (Contains-append_cases found files_in path there)
        as (λ _. IsListedFile by_git root files (next ∷ told.listed) path) [
          | inl old ↦
              let was = told.sound path old in
              record { folder = was.folder; name = was.name; has = more false was.folder was.name was.has; is = was.is }
          | inr new ↦
              let of = taken_of false path new in
              record { folder = next; name = of.name; has = has_next false path of; is = of.is }
        ]

    -- a file of the next folder is among the files found
    file_there : (folder name : List ℕ) → next ≡ folder
        → Contains (children files folder) record { name = name; folder = false }
        → is_left_out by_git root folder name ≡ false → Contains files_in (child folder name)
    file_there folder name here member kept = subst (λ (f : List ℕ). Contains files_in (child f name)) here
        (taken_there by_git root next false (children files next) name
        (subst (λ (f : List ℕ). Contains (children files f) record { name = name; folder = false }) (sym here)
        member)
        (subst (λ (f : List ℕ). is_left_out by_git root f name ≡ false) (sym here) kept))

    listed_whole : (path : List ℕ) → IsListedFile by_git root files (next ∷ told.listed) path
        → Contains (found ++ files_in) path
    listed_whole path is = Contains-by_cases next told.listed is.folder is.has.within
        (λ here. Contains-append_right found files_in path
        (subst (λ (p : List ℕ). Contains files_in p) (sym is.is)
        (file_there is.folder is.name here is.has.member is.has.kept)))
        (λ before. Contains-append_left found files_in path
        (told.whole path record {
          folder = is.folder;
          name = is.name;
          has = record { within = before; member = is.has.member; kept = is.has.kept };
          is = is.is;
        }))

    pub told_listed : IsLeast next pending → ToldWalk krate root by_git files own (fold put pending folders_in)
        (found ++ files_in) (count + length (children files next))
    told_listed least = record {
      listed = next ∷ told.listed;
      apart = (λ there. not_met (inl there), told.apart);
      below = listed_below least;
      once = λ path there unread. Contains-by_cases next told.listed path there
          (λ here. not_met (inr
          (subst (λ (p : List ℕ). Contains own (asked (Some krate) purpose.List p)) (sym here) unread)))
          (λ before. told.once path before unread);
      folders = listed_folders;
      root_known = listed_known root told.root_known;
      all_known = listed_all;
      sound = listed_sound;
      whole = listed_whole;
      counted = (let so_far : count ≡ sum_by (λ path. length (children files path)) told.listed = told.counted in
          let now : count + length (children files next)
          ≡ sum_by (λ path. length (children files path)) (next ∷ told.listed) =
          omega (arith, so_far, sum_first (λ path. length (children files path)) next told.listed) in now);
    }

    -- ---- the next folder was not listed, and has an entry

    abbrev entry : Unread
    entry = asked (Some krate) purpose.List next

    unread_met : (path : List ℕ) → Contains (own ++ entry ∷ []) (asked (Some krate) purpose.List path)
        → Contains own (asked (Some krate) purpose.List path) ⊎ (next ≡ path)
    unread_met path there = elim (Contains-push_cases own entry (asked (Some krate) purpose.List path) there)
        as (λ _. Contains own (asked (Some krate) purpose.List path) ⊎ (next ≡ path)) [
          | inl old ↦ inl old
          | inr new ↦ inr (ap (λ (u : Unread). u.path) new)
        ]

    unread_known : (path : List ℕ) → IsKnown krate told.listed own (next ∷ pending) path
        → IsKnown krate told.listed (own ++ entry ∷ []) pending path
    unread_known path (inl (inl listed)) = inl (inl listed)
    unread_known path (inl (inr unread)) =
        inl (inr (Contains-append_left own (entry ∷ []) (asked (Some krate) purpose.List path) unread))
    unread_known path (inr there) = Contains-by_cases next pending path there
        (λ here. inl (inr (subst (λ (p : List ℕ). Contains (own ++ entry ∷ []) (asked (Some krate) purpose.List p)) here
        (Contains-push own entry))))
        (λ old. inr old)

    unread_below : IsLeast next pending → (path other : List ℕ) → IsMet krate told.listed (own ++ entry ∷ []) path
        → Contains pending other → slice_cmp nat_cmp path other ≡ Less
    unread_below least path other (inl listed) there = below_pending path other (inl listed) there
    unread_below least path other (inr unread) there = elim (unread_met path unread)
        as (λ _. slice_cmp nat_cmp path other ≡ Less) [
          | inl old ↦ below_pending path other (inr old) there
          | inr here ↦ subst (λ (p : List ℕ). slice_cmp nat_cmp p other ≡ Less) here
              (All-contains (IsLtBy (slice_cmp nat_cmp) next) pending other least there)
        ]

    unread_folders : (path : List ℕ) → IsKnown krate told.listed (own ++ entry ∷ []) pending path
        → IsFolderBy (HasIn by_git root files told.listed true) root path
    unread_folders path (inl (inl listed)) = told.folders path (inl (inl listed))
    unread_folders path (inl (inr unread)) = elim (unread_met path unread)
        as (λ _. IsFolderBy (HasIn by_git root files told.listed true) root path) [
          | inl old ↦ told.folders path (inl (inr old))
          | inr here ↦ subst (λ (p : List ℕ). IsFolderBy (HasIn by_git root files told.listed true) root p) here
              (told.folders next next_known)
        ]
    unread_folders path (inr there) = told.folders path (inr (Contains-rest next pending path there))

    pub told_unlisted : IsLeast next pending → ToldWalk krate root by_git files (own ++ entry ∷ []) pending found count
    told_unlisted least = record {
      listed = told.listed;
      apart = told.apart;
      below = unread_below least;
      once = λ path there unread. elim (unread_met path unread) as (λ _. ⊥) [
        | inl old ↦ told.once path there old
        | inr here ↦ not_met (inl (subst (λ (p : List ℕ). Contains told.listed p) (sym here) there))
      ];
      folders = unread_folders;
      root_known = unread_known root told.root_known;
      all_known = λ folder name has. unread_known (child folder name) (told.all_known folder name has);
      sound = told.sound;
      whole = told.whole;
      counted = told.counted;
    }
