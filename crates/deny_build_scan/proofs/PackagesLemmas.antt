-- What is seen of packages, crate by crate.
use Rattle.std.proofs.Common.{◌≡◌, ◌∙◌, ◌++◌, ◌∷◌, ◌<◌, [], zero, suc, ℕ, Bool, List, Option, Some, ap, arith, inl, inr}
use Rattle.std.proofs.Common.{length, refl, subst, sym}
use Rattle.std.specs.Prelude.{Contains, slice_get}
use Rattle.std.specs.List.{AllZip}
use Rattle.std.specs.Option.{option_map_or}
use Rattle.std.proofs.lemmas.Slice.Zip.{AllZip-long, all_zipped_more}
use Rattle.std.proofs.lemmas.List.Elements.{Contains-append_cases, Contains-append_left, Contains-append_right}
use Rattle.std.proofs.lemmas.Option.{same_Some}
use Rattle.deny_base.specs.declared.span.Kid.{Kid}
use Rattle.deny_spec.specs.Building.{Building}
use Rattle.deny_spec.specs.Unseen.{package_at, unseen_package}
use Rattle.deny_spec.specs.declared.package.Package.{Package}
use Rattle.deny_base_lists.proofs.Booleans.{tests_agree}
use Rattle.deny_base_lists.proofs.Members.{Contains-first, no_member}
use Rattle.deny_base_lists.proofs.Indices.{slice_get-push}
use Rattle.deny_spec.specs.Crates as crates
use Rattle.deny_spec.specs.Graph.{Crate, Graph, kid_of}
use Rattle.deny_base_disk.specs.Disk.{Disk, Files, IsLater}
use Rattle.deny_build_scan.proofs.Among.{AreSameGaps, package_weaker, wanted_of_among}
use Rattle.deny_build_scan.proofs.FilesLemmas.{because_wider}
use Rattle.deny_build_scan.proofs.Zips.{zip_each}
use Rattle.deny_build_scan.specs.Seen.{ArePackagesSeen, ArePackagesSeenBy, IsPackageSeen}
use Rattle.deny_build_scan.specs.Wanted.{AreWantedOf, AreWantedPackages, IsWantedOf}
use Rattle.deny_build_scan.specs.Wanted.IsWantedOf.{by_folder, by_header, by_script, by_sum}
use Rattle.deny_build_scan.specs.Why.{AreFoldersOf, IsBecause, IsOfPurpose}
use Rattle.deny_base_unread.proofs.AddedLemmas.{added_then}
use Rattle.deny_base_unread.proofs.CauseLemmas.{caused_then}
use Rattle.deny_base_disk.proofs.PieceLemmas.{later_same}
use Rattle.deny_base_unread.proofs.ViewLemmas.{is_left_out, holds_there}
use Rattle.deny_base_unread.specs.Added.{IsLonger, added}
use Rattle.deny_base_unread.specs.Bound.{Folders}
use Rattle.deny_base_unread.specs.Causes.{AreCaused}
use Rattle.deny_base.specs.Unread.{asked, is_unread}
use Rattle.deny_base.specs.declared.purpose.Purpose.{Purpose}
use Rattle.deny_base.specs.declared.purpose.Purpose.TheVariants as purpose
use Rattle.deny_base.specs.declared.unread.Unread.{Unread}

-- ---- causes of consecutive calls

pub caused_next : (folder : Folders) (a b c : Disk) (old mid new : List Unread) → IsLater a b → IsLater b c
    → IsLonger old mid → IsLonger mid new → AreCaused folder a b (added old mid) → AreCaused folder b c (added mid new)
    → AreCaused folder a c (added old new)
caused_next folder a b c old mid new before after longer longer_too first second =
    subst (λ (us : List Unread). AreCaused folder a c us) (sym (added_then old mid new longer longer_too))
    (caused_then folder a b c (added old mid) (added mid new) before after first second)

-- ---- lists with one more element

get_before : {X : Type 0} (xs : List X) (x : X) (k : ℕ) → k < length xs → slice_get (xs ++ x ∷ []) k ≡ slice_get xs k
get_before [] x k inside = absurd (omega (arith, inside))
get_before (y ∷ ys) x zero inside = refl
get_before (y ∷ ys) x (suc k) inside = get_before ys x k (omega (arith, inside))

-- ---- the crates so far

-- the entry is for one of the crates so far
pub record IsWantedSoFar (told : Option Files) (b : Building) (reached : Crate → Bool) (g : Graph) (us : List Unread)
    (cs : List Crate) (packages : List Package) (u : Unread) : Type 0 where
  pub crate : Crate
  pub member : Contains cs crate
  pub wanted : IsWantedOf told b reached g us crate (package_at packages crate.place) u

module _ (told : Option Files) (b : Building) (reached : Crate → Bool) (home : Option (List ℕ)) (g : Graph)
    (start : Disk) where
  abbrev IsSeenSoFar : Disk → List Unread → Crate → Package → Type 0
  IsSeenSoFar now us c p = (folder : Folders) → folder (Some (kid_of c)) ≡ crates.folder c
      → IsPackageSeen (IsBecause folder start now) told b reached home g us c p

  pub record AreSoFar (now : Disk) (us : List Unread) (cs : List Crate) (packages : List Package) : Type 0 where
    pub seen : AllZip (IsSeenSoFar now us) cs packages
    pub wanted : (u : Unread) → Contains us u → IsWantedSoFar told b reached g us cs packages u

  pub so_far_none : (now : Disk) (us : List Unread) (packages : List Package) → us ≡ [] → packages ≡ []
      → AreSoFar now us [] packages
  so_far_none now us packages none nothing = record {
    seen = subst (λ (ps : List Package). AllZip (IsSeenSoFar now us) [] ps) (sym nothing) tt;
    wanted = λ u there. absurd (no_member u (subst (λ (vs : List Unread). Contains vs u) none there));
  }

  pub wanted_krate : (us : List Unread) (c : Crate) (p : Package) (u : Unread) → IsWantedOf told b reached g us c p u
      → u.krate ≡ Some (kid_of c)
  wanted_krate us c p u (by_script target asks_it is) = ap (λ (v : Unread). v.krate) is
  wanted_krate us c p u (by_folder path walked lies is) = ap (λ (v : Unread). v.krate) is
  wanted_krate us c p u (by_header path file is) = ap (λ (v : Unread). v.krate) is
  wanted_krate us c p u (by_sum path sum file is) = ap (λ (v : Unread). v.krate) is

  pub same_kid : (c d : Crate) → Some (kid_of c) ≡ Some (kid_of d) → c.id ≡ d.id
  same_kid c d same = ap (λ (k : Kid). k.0) (same_Some (kid_of c) (kid_of d) same)

  -- ---- one more crate

  module _ (mid end : Disk) (before : IsLater start mid) (after : IsLater mid end) (us own : List Unread)
      (cs : List Crate) (c : Crate) (packages : List Package) (p : Package) (so : AreSoFar mid us cs packages)
      (seen : (folder : Folders) → folder (Some (kid_of c)) ≡ crates.folder c
      → IsPackageSeen (IsBecause folder mid end) told b reached home g own c p)
      (wanted : AreWantedOf told b reached g own c p)
      (apart : (d : Crate) → Contains cs d → d.id ≡ c.id → ⊥)
      (places : (d : Crate) → Contains cs d → d.place < length cs)
      (place : c.place ≡ length cs) where
    abbrev both : List Unread
    both = us ++ own

    before_same : (d : Crate) → Contains cs d → (q : Purpose) (path : List ℕ)
        → is_unread us (Some (kid_of d)) q path ≡ is_unread both (Some (kid_of d)) q path
    before_same d there q path = tests_agree (is_unread us (Some (kid_of d)) q path)
        (is_unread both (Some (kid_of d)) q path)
        (λ gap. is_left_out both (Some (kid_of d)) q path (Contains-append_left us own (asked (Some (kid_of d)) q path)
        (holds_there us (Some (kid_of d)) q path gap)))
        (λ gap. elim (Contains-append_cases us own (asked (Some (kid_of d)) q path)
        (holds_there both (Some (kid_of d)) q path gap)) [
          | inl here ↦ is_left_out us (Some (kid_of d)) q path here
          | inr later ↦ absurd (apart d there (same_kid d c
              (wanted_krate own c p (asked (Some (kid_of d)) q path) (wanted (asked (Some (kid_of d)) q path) later))))
        ])

    here_same : (q : Purpose) (path : List ℕ)
        → is_unread own (Some (kid_of c)) q path ≡ is_unread both (Some (kid_of c)) q path
    here_same q path = tests_agree (is_unread own (Some (kid_of c)) q path) (is_unread both (Some (kid_of c)) q path)
        (λ gap. is_left_out both (Some (kid_of c)) q path (Contains-append_right us own
        (asked (Some (kid_of c)) q path) (holds_there own (Some (kid_of c)) q path gap)))
        (λ gap. elim (Contains-append_cases us own (asked (Some (kid_of c)) q path)
        (holds_there both (Some (kid_of c)) q path gap)) [
          | inl earlier ↦
              let one = so.wanted (asked (Some (kid_of c)) q path) earlier in
              absurd (apart one.crate one.member (sym (same_kid c one.crate
              (wanted_krate us one.crate (package_at packages one.crate.place) (asked (Some (kid_of c)) q path)
              one.wanted))))
          | inr here ↦ is_left_out own (Some (kid_of c)) q path here
        ])

    gaps_before : (d : Crate) → Contains cs d → AreSameGaps (is_unread us (Some (kid_of d)))
        (is_unread both (Some (kid_of d)))
    gaps_before d there = record {
      script = before_same d there purpose.Script;
      list = before_same d there purpose.List;
      header = before_same d there purpose.Header;
      sum = before_same d there purpose.Sum;
    }

    gaps_here : AreSameGaps (is_unread own (Some (kid_of c))) (is_unread both (Some (kid_of c)))
    gaps_here = record {
      script = here_same purpose.Script;
      list = here_same purpose.List;
      header = here_same purpose.Header;
      sum = here_same purpose.Sum;
    }

    long : length packages ≡ length cs
    long = AllZip-long (IsSeenSoFar mid us) cs packages so.seen

    package_before : (d : Crate) → Contains cs d
        → package_at packages d.place ≡ package_at (packages ++ p ∷ []) d.place
    package_before d there =
        let inside : d.place < length packages = omega (arith, places d there, long) in
        ap (λ (o : Option Package). option_map_or (λ q. q) o unseen_package)
        (sym (get_before packages p d.place inside))

    package_here : p ≡ package_at (packages ++ p ∷ []) c.place
    package_here =
        let at : slice_get (packages ++ p ∷ []) c.place ≡ Some p =
        ap (slice_get (packages ++ p ∷ [])) (place ∙ sym long) ∙ slice_get-push packages p in
        ap (λ (o : Option Package). option_map_or (λ q. q) o unseen_package) (sym at)

    pub so_far_more : AreSoFar end both (cs ++ c ∷ []) (packages ++ p ∷ [])
    so_far_more = record {
      seen = all_zipped_more (IsSeenSoFar end both) cs packages c p
          (zip_each (IsSeenSoFar mid us) (IsSeenSoFar end both) cs packages
          (λ d q there is folder right. package_weaker (IsBecause folder start mid) (IsBecause folder start end)
          (because_wider folder start start mid end (later_same start) after) told d b home reached g
          (is_unread us (Some (kid_of d))) (is_unread both (Some (kid_of d))) q (gaps_before d there) (is folder right))
          so.seen)
          (λ folder right. package_weaker (IsBecause folder mid end) (IsBecause folder start end)
          (because_wider folder start mid end end before (later_same end)) told c b home reached g
          (is_unread own (Some (kid_of c))) (is_unread both (Some (kid_of c))) p gaps_here (seen folder right));
      wanted = λ u there. elim (Contains-append_cases us own u there) [
        | inl earlier ↦
            let one = so.wanted u earlier in
            record {
              crate = one.crate;
              member = Contains-append_left cs (c ∷ []) one.crate one.member;
              wanted = subst (λ (q : Package). IsWantedOf told b reached g both one.crate q u)
                  (package_before one.crate one.member)
                  (wanted_of_among told b us both one.crate (gaps_before one.crate one.member).list reached g
                  (package_at packages one.crate.place) u one.wanted);
            }
        | inr here ↦ record {
          crate = c;
          member = Contains-append_right cs (c ∷ []) c (Contains-first c []);
          wanted = subst (λ (q : Package). IsWantedOf told b reached g both c q u) package_here
              (wanted_of_among told b own both c gaps_here.list reached g p u (wanted u here));
        }
      ];
    }

  -- ---- all crates

  module _ (end : Disk) (us : List Unread) (packages : List Package) (so : AreSoFar end us g.crates packages) where
    pub all_seen : ArePackagesSeen told b reached home g us packages
    all_seen = zip_each (IsSeenSoFar end us) (IsPackageSeen IsOfPurpose told b reached home g us) g.crates packages
        (λ c p there is. package_weaker (IsBecause (λ k. crates.folder c) start end) IsOfPurpose
        (λ u failure because. because.can) told c b home reached g (is_unread us (Some (kid_of c)))
        (is_unread us (Some (kid_of c))) p
        (record { script = λ path. refl; list = λ path. refl; header = λ path. refl; sum = λ path. refl })
        (is (λ k. crates.folder c) refl))
        so.seen

    pub all_because : (folder : Folders) → AreFoldersOf g folder
        → ArePackagesSeenBy (IsBecause folder start end) told b reached home g us packages
    all_because folder right = zip_each (IsSeenSoFar end us)
        (IsPackageSeen (IsBecause folder start end) told b reached home g us) g.crates packages
        (λ c p there is. is folder (right c there)) so.seen

    pub all_wanted : AreWantedPackages told b reached g us packages us
    all_wanted u there =
        let one = so.wanted u there in
        record { crate = one.crate; member = one.member; wanted = one.wanted }

-- ---- the crates of a graph, by their places
