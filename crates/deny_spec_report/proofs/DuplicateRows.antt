-- Worked cases of duplicates.
use Rattle.std.proofs.Common.{◌≡◌, ◌∙◌, ◌<◌, ℕ, List, [], ◌∷◌, Some, codes, refl, arith, subst, sym, ap, length}
use Rattle.std.specs.Prelude.{⊤, Contains}
use Rattle.std.specs.Fmt.{digits}
use Rattle.std.specs.List.Sorted.{IsStrictlySortedBy}
use Rattle.std.specs.declared.cmp.Ordering.TheVariants.{Equal, Greater, Less}
use Rattle.deny_base_lists.specs.Ascending.{Lists}
use Rattle.deny_base_lists.proofs.Members.{Contains-by_cases, Contains-first, Contains-rest, no_member}
use Rattle.deny_base.specs.declared.code.Code.TheVariants as code
use Rattle.deny_base.specs.declared.level.LintLevel.TheVariants.{Allow, Warn, Deny}
use Rattle.deny_base.specs.declared.key.Key.{Key}
use Rattle.deny_krates_lock.specs.Line.{line_span}
use Rattle.deny_krates_lock.specs.Text.{line_start}
use Rattle.deny_spec.specs.Crates.{folder_of}
use Rattle.deny_spec.specs.Duplicates.{IsDuplicate, IsDuplicateOf, duplicate_level, is_denied_multiple}
use Rattle.deny_spec.specs.Graph.{Crate, Graph}
use Rattle.deny_spec.specs.Groups.{unmarked}
use Rattle.deny_spec.specs.Keys.{duplicate_key}
use Rattle.deny_spec.specs.Match.{matches}
use Rattle.deny_spec.specs.DiagParts.{primary}
use Rattle.deny_spec.specs.VersionOrder.{version_cmp}
use Rattle.deny_spec.specs.View.{nothing_seen}
use Rattle.deny_spec_report.specs.Circumstances.{seen_by, unseen_by}
use Rattle.deny_spec_report.specs.Duplicates.{duplicate_diag, lock_label, lock_labels, lock_lines}
use Rattle.deny_spec_report.specs.EachCode.{message_as}
use Rattle.deny_spec_report.proofs.Cases.{skips_on_cases, all_count, app, crate, crate_of, edge, graph, one_x, plain}
use Rattle.deny_spec_report.proofs.Cases.{span}
use Rattle.deny_spec_report.proofs.Cases.{spec_at, two_x}

-- an entry that denies several versions of `y` does not raise the level for `x`
not_raised : duplicate_level (record plain { multiple_versions = Warn; deny_multiple = spec_at (codes "y") 9 ∷ [] })
    (crate 1 (codes "x") 1 ∷ []) ≡ Warn
unfolding plain spec_at span crate crate_of duplicate_level is_denied_multiple matches
not_raised = refl

-- an entry that denies several versions of one of the crates raises the level
raised : duplicate_level (record plain {
  multiple_versions = Warn;
  deny_multiple = spec_at (codes "y") 9 ∷ spec_at (codes "x") 19 ∷ [];
}) (crate 1 (codes "z") 1 ∷ crate 2 (codes "x") 2 ∷ []) ≡ Deny
unfolding plain spec_at span crate crate_of duplicate_level is_denied_multiple matches
raised = refl

both : List Crate
both = crate 1 (codes "x") 1 ∷ crate 2 (codes "x") 2 ∷ []

both_unmarked : unmarked plain two_x all_count (codes "x") ≡ both
unfolding skips_on_cases both
both_unmarked = refl

in_order : IsStrictlySortedBy version_cmp both
unfolding both crate crate_of IsStrictlySortedBy
in_order = ((refl, tt), (tt, tt))

listed : Lists version_cmp (Contains (unmarked plain two_x all_count (codes "x"))) both
listed = record {
  ascending = in_order;
  whole = λ c is. subst (λ (crates : List Crate). Contains crates c) both_unmarked is;
  sound = λ c is. subst (λ (crates : List Crate). Contains crates c) (sym both_unmarked) is;
}

not_allow : Deny ≡ Allow → ⊥
not_allow e = absurd (cc e)

denied : duplicate_level plain both ≡ Deny
unfolding both plain crate crate_of duplicate_level is_denied_multiple
denied = refl

-- two versions are enough, at level deny
pub two_hold : IsDuplicate plain two_x all_count (duplicate_key (1 ∷ 2 ∷ []))
unfolding both two_x graph crate crate_of
two_hold = (
  crate 1 (codes "x") 1,
  Contains-rest app both (crate 1 (codes "x") 1) (Contains-first (crate 1 (codes "x") 1) (crate 2 (codes "x") 2 ∷ [])),
  record {
    crates = both;
    listed = listed;
    several = omega arith;
    active = λ e. not_allow (sym denied ∙ e);
    is = refl;
  },
)

-- one version alone is no duplicate
of_one : (x : Crate) (crates : List Crate) → version_cmp x x ≡ Equal → IsStrictlySortedBy version_cmp crates
    → ((c : Crate) → Contains crates c → c ≡ x) → length crates < 2
unfolding IsStrictlySortedBy
of_one x [] same up are = omega arith
of_one x (a ∷ []) same up are = omega arith
of_one x (a ∷ b ∷ rest) same up are =
    let a_is = are a (Contains-first a (b ∷ rest)) in
    let b_is = are b (Contains-rest a (b ∷ rest) b (Contains-first b rest)) in
    absurd (cc (sym same ∙ (ap (version_cmp x) (sym b_is) ∙ ap (λ c. version_cmp c b) (sym a_is)), up.0.0))

first_x : Crate
first_x = crate 1 (codes "x") 1

as_itself : version_cmp first_x first_x ≡ Equal
unfolding first_x crate crate_of
as_itself = refl

alone : unmarked plain one_x all_count (codes "x") ≡ first_x ∷ []
unfolding skips_on_cases first_x
alone = refl

one_holds : (key : Key) → IsDuplicateOf plain one_x all_count (codes "x") key → ⊥
one_holds key found =
    let are : (c : Crate) → Contains found.crates c → c ≡ first_x = λ c is. Contains-by_cases first_x [] c
    (subst (λ (crates : List Crate). Contains crates c) alone (found.listed.sound c is))
    (λ e. sym e) (λ none. absurd (no_member c none)) in
    let few = of_one first_x found.crates as_itself found.listed.ascending are in
    omega (arith, few, found.several)

-- ---- the order of a duplicate's crates

-- crates of a name are ordered by precedence, even where the order of texts differs, and by id where versions tie
by_precedence : version_cmp (crate 1 (codes "x") 9) (crate 2 (codes "x") 10) ≡ Less
unfolding crate crate_of
by_precedence = refl

by_id : version_cmp (crate 1 (codes "b") 1) (crate 2 (codes "a") 1) ≡ Greater
unfolding crate crate_of
by_id = refl

by_minor : version_cmp (crate_of 1 (codes "x") (1, 9, 5, [], [])) (crate_of 2 (codes "x") (1, 10, 0, [], [])) ≡ Less
unfolding crate_of
by_minor = refl

by_patch : version_cmp (crate_of 1 (codes "x") (1, 0, 9, [], [])) (crate_of 2 (codes "x") (1, 0, 10, [], [])) ≡ Less
unfolding crate_of
by_patch = refl

-- numbers of pre-releases are compared as numbers, and a release comes after them
by_number : version_cmp (crate_of 1 (codes "x") (1, 0, 0, codes "rc.9", [])) (crate_of 2 (codes "x")
    (1, 0, 0, codes "rc.10", [])) ≡ Less
unfolding crate_of
by_number = refl

by_release : version_cmp (crate_of 1 (codes "x") (1, 0, 0, codes "rc.9", [])) (crate_of 2 (codes "x")
    (1, 0, 0, [], [])) ≡ Less
unfolding crate_of
by_release = refl

-- build metadata behind a plus sign makes no difference
without_build : version_cmp (crate_of 1 (codes "b") (1, 0, 0, [], codes "1")) (crate_of 2 (codes "a")
    (1, 0, 0, [], codes "2")) ≡ Greater
unfolding crate_of
without_build = refl

-- the crate of version 9 comes before that of version 10, which has the earlier place
x_10_x_9 : Graph
x_10_x_9 = graph (crate 1 (codes "x") 10 ∷ crate 2 (codes "x") 9 ∷ []) (edge 0 1 ∷ edge 0 2 ∷ [])

x_10 : Crate
x_10 = crate 1 (codes "x") 10

x_9 : Crate
x_9 = crate 2 (codes "x") 9

by_place : unmarked plain x_10_x_9 all_count (codes "x") ≡ x_10 ∷ x_9 ∷ []
unfolding skips_on_cases x_10_x_9 x_10 x_9
by_place = refl

turned : {T : Type 0} (a b c : T) → Contains (a ∷ b ∷ []) c → Contains (b ∷ a ∷ []) c
turned a b c is = Contains-by_cases a (b ∷ []) c is
    (λ e. subst (Contains (b ∷ a ∷ [])) e (Contains-rest b (a ∷ []) a (Contains-first a [])))
    (λ in_rest. Contains-by_cases b [] c in_rest (λ e. subst (Contains (b ∷ a ∷ [])) e (Contains-first b (a ∷ [])))
    (λ none. absurd (no_member c none)))

nine_first : IsStrictlySortedBy version_cmp (x_9 ∷ x_10 ∷ [])
unfolding x_9 x_10 crate crate_of IsStrictlySortedBy
nine_first = ((refl, tt), (tt, tt))

denied_too : duplicate_level plain (x_9 ∷ x_10 ∷ []) ≡ Deny
unfolding plain x_9 x_10 crate crate_of duplicate_level is_denied_multiple
denied_too = refl

by_version : IsDuplicate plain x_10_x_9 all_count (duplicate_key (2 ∷ 1 ∷ []))
unfolding x_10_x_9 graph x_10 x_9 crate crate_of
by_version = (
  x_10,
  Contains-rest app (x_10 ∷ x_9 ∷ []) x_10 (Contains-first x_10 (x_9 ∷ [])),
  record {
    crates = x_9 ∷ x_10 ∷ [];
    listed = record {
      ascending = nine_first;
      whole = λ c is. turned x_10 x_9 c (subst (λ (crates : List Crate). Contains crates c) by_place is);
      sound = λ c is. subst (λ (crates : List Crate). Contains crates c) (sym by_place) (turned x_9 x_10 c is);
    };
    several = omega arith;
    active = λ e. not_allow (sym denied_too ∙ e);
    is = refl;
  },
)

-- ---- the lines of a duplicate's crates in the lock text

-- a crate of a folder, and one of crates.io
unfoldable in_folder : List ℕ → Crate → Crate
in_folder manifest c = record c { manifest_path = manifest }

unfoldable of_crates_io : Crate → Crate
of_crates_io c = record c { source_text = Some (codes "registry+https://github.com/rust-lang/crates.io-index") }

-- `app` needs two versions of `x`
unfoldable locked : Graph
locked = record two_x {
  crates = in_folder (codes "/w/Cargo.toml") app
      ∷ of_crates_io (crate 1 (codes "x") 1) ∷ of_crates_io (crate 2 (codes "x") 2) ∷ [];
}

-- what a row unfolds
unfoldable locked_on_cases : ⊤
unfolding in_folder of_crates_io locked digits folder_of line_start line_span lock_lines lock_label lock_labels
locked_on_cases = tt

-- from the start of the first line to the end of the last, which leaves the newline out; the line of `app` has 13 bytes
-- with its newline, and each of the others 62
label_of_two : lock_labels locked 8 (1 ∷ 2 ∷ [])
    ≡ primary 8 (record { start = 13; end = 136 }) (codes "lock entries") ∷ []
unfolding skips_on_cases locked_on_cases
label_of_two = refl

reported_with_its_lines : (message_as code.Duplicate (seen_by plain locked 3 8 nothing_seen)
    (duplicate_key (1 ∷ 2 ∷ []))).labels
    ≡ primary 8 (record { start = 13; end = 136 }) (codes "lock entries") ∷ []
unfolding skips_on_cases locked_on_cases duplicate_diag message_as
reported_with_its_lines = refl

-- no label where the lock text is no file
reported_without_lines : (message_as code.Duplicate (unseen_by plain locked 3) (duplicate_key (1 ∷ 2 ∷ []))).labels ≡ []
unfolding skips_on_cases locked_on_cases duplicate_diag message_as
reported_without_lines = refl

-- the lines are in the order of versions: that of version 9, whose place is the later one, comes first
turned_around : lock_labels (record x_10_x_9 { crates = in_folder (codes "/w/Cargo.toml") app ∷ x_10 ∷ x_9 ∷ [] }) 8
    (2 ∷ 1 ∷ []) ≡ primary 8 (record { start = 13; end = 33 }) (codes "lock entries") ∷ []
unfolding skips_on_cases locked_on_cases x_10_x_9 x_10 x_9
turned_around = refl

-- the line of a third version lies between them, and those of other names before and behind
label_of_three : lock_labels (graph (crate 1 (codes "x") 1 ∷ crate 2 (codes "x") 2 ∷ crate 3 (codes "x") 3
    ∷ crate 4 (codes "y") 1 ∷ []) []) 8 (1 ∷ 3 ∷ [])
    ≡ primary 8 (record { start = 12; end = 41 }) (codes "lock entries") ∷ []
unfolding skips_on_cases locked_on_cases
label_of_three = refl
