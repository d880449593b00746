-- Worked cases of crates that the standard library replaces: which keys hold, which ignores are hit, and the messages.
use Rattle.std.proofs.Common.{◌≡◌, ℕ, List, [], ◌∷◌, false, Option, Some, None, codes, refl}
use Rattle.std.specs.Prelude.{⊤, ◌++◌, if◌then◌else◌}
use Rattle.std.specs.Fmt.{digits}
use Rattle.semver.specs.Parse.{Parts}
use Rattle.deny_base.specs.declared.code.Code.TheVariants.{UnmatchedReplacementIgnore}
use Rattle.deny_base.specs.declared.entry.EntryKind.TheVariants.{ReplacementIgnore}
use Rattle.deny_base.specs.declared.entry.Witness.TheVariants.{Krate}
use Rattle.deny_base.specs.declared.level.LintLevel.TheVariants.{Deny}
use Rattle.deny_base.specs.declared.level.Severity.TheVariants as severity
use Rattle.deny_std_table.specs.Spelling.{ReplacementText}
use Rattle.deny_spec.specs.Graph.{Crate, CratesIo, Graph, Registry, dependents, leads}
use Rattle.deny_spec.specs.Hits.{hit_of}
use Rattle.deny_spec.specs.Keys.{key_of, unused_key}
use Rattle.deny_spec.specs.Match.{matches}
use Rattle.deny_spec.specs.Policy.{EachCrate, NoCrate, Replacing, Transitive, Workspace}
use Rattle.deny_spec.specs.Text.{same_text}
use Rattle.deny_spec.specs.DiagParts.{primary, secondary, spec_text}
use Rattle.deny_spec_report.specs.Saying.{Items, Saying}
use Rattle.deny_spec_report.specs.StdReplacements.{code_name, counting_version, has_stable, hits_ignore, ignore_hit}
use Rattle.deny_spec_report.specs.StdReplacements.{ignore_hits, ignore_of, is_hit_ignore, is_in_scope, is_replaced}
use Rattle.deny_spec_report.specs.StdReplacements.{is_reported_replaced, is_unmatched_ignore, may_replace, replaced_key}
use Rattle.deny_spec_report.specs.StdReplacements.{replaced_keys, replaced_diag, replacement_lines, replacement_note}
use Rattle.deny_spec_report.specs.StdReplacements.{satisfies, stable_lines, unmatched_ignore_keys}
use Rattle.deny_spec_report.specs.StdReplacements.{unmatched_ignore_diag}
use Rattle.deny_spec_report.specs.Members.{is_member}
use Rattle.deny_spec_report.specs.MessageParts.{plainly}
use Rattle.deny_spec_report.proofs.Cases.{app, crate, edge, entry_at, graph, on_cases, span, spanned_at}

-- the policy on replaced crates where its table is empty
unfoldable pub plainly_replacing : Replacing
plainly_replacing = record {
  scope = Workspace;
  level = Deny;
  rust_version = None;
  ignore = [];
  ignore_rust_version = NoCrate;
}

-- what `x` has as `f` is `g` of the standard library
unfoldable pub f_by_g : ReplacementText
f_by_g = record {
  krate = record { name = codes "f"; url = [] };
  std = record { name = codes "g"; url = [] };
  note = None;
}

unfoldable pub since : ℕ → Items
since minor = record { stable = record { minor = minor; replacement = f_by_g } ∷ []; unstable = []; unavailable = [] }

-- a table with an entry for one name alone
unfoldable pub of_name : List ℕ → Items → Saying
of_name named items name = if same_text name named then Some items else None

-- a table with one item for `x`, which is stable since 1.70
unfoldable pub of_x : Saying
of_x = of_name (codes "x") (since 70)

unfoldable pub from_crates_io : Crate → Crate
from_crates_io c = record c { source = Some (CratesIo false) }

unfoldable pub x : Crate
x = from_crates_io (crate 1 (codes "x") 1)

unfoldable pub rust : ℕ → Parts
rust minor = (1, minor, 0, [], [])

-- `app` needs `x`, and names no version of Rust
unfoldable pub one : Graph
one = graph (x ∷ []) (edge 0 1 ∷ [])

-- `app` needs `x`, and names a version of Rust
unfoldable pub one_with : ℕ → Graph
one_with minor = record one { crates = record app { rust_version = Some (rust minor) } ∷ x ∷ [] }

-- `app` needs `y`, which needs `x`
unfoldable pub through_y : Graph
through_y = graph (x ∷ from_crates_io (crate 2 (codes "y") 1) ∷ []) (edge 0 2 ∷ edge 2 1 ∷ [])

-- the member `app` and `y`, which is none, need `x`; each names a version of Rust, or none
unfoldable pub by_both : Option Parts → Option Parts → Graph
by_both of_app of_y = record through_y {
  crates = record app { rust_version = of_app } ∷ x
      ∷ record (from_crates_io (crate 2 (codes "y") 1)) { rust_version = of_y } ∷ [];
  edges = edge 0 1 ∷ edge 0 2 ∷ edge 2 1 ∷ [];
}

-- what a row unfolds
unfoldable pub replacing_on_cases : ⊤
unfolding on_cases plainly_replacing f_by_g since of_name of_x from_crates_io x rust one one_with through_y by_both
    key_of matches dependents leads digits spec_text is_member is_in_scope counting_version has_stable satisfies
    may_replace is_replaced ignore_of hits_ignore is_hit_ignore is_reported_replaced replaced_keys is_unmatched_ignore
    unmatched_ignore_keys
    ignore_hit ignore_hits code_name replacement_lines stable_lines replacement_note replaced_diag unmatched_ignore_diag
replacing_on_cases = tt

-- ---- which crates are replaced

-- no version of Rust is named
without_versions : replaced_keys plainly_replacing one of_x ≡ replaced_key 1 ∷ []
unfolding replacing_on_cases
without_versions = refl

-- the dependent's version of Rust is too old
too_old : replaced_keys plainly_replacing (one_with 69) of_x ≡ []
unfolding replacing_on_cases
too_old = refl

-- a dependent whose version of Rust is too old, where versions do not count
too_old_and_ignored : replaced_keys (record plainly_replacing { ignore_rust_version = Workspace }) (one_with 69) of_x
    ≡ replaced_key 1 ∷ []
unfolding replacing_on_cases
too_old_and_ignored = refl

too_old_and_others_ignored : replaced_keys (record plainly_replacing { ignore_rust_version = Transitive })
    (one_with 69) of_x ≡ []
unfolding replacing_on_cases
too_old_and_others_ignored = refl

too_old_and_all_ignored : replaced_keys (record plainly_replacing { ignore_rust_version = EachCrate })
    (one_with 69) of_x ≡ replaced_key 1 ∷ []
unfolding replacing_on_cases
too_old_and_all_ignored = refl

-- the very version in which it is stable is enough
just_stable : replaced_keys plainly_replacing (one_with 70) of_x ≡ replaced_key 1 ∷ []
unfolding replacing_on_cases
just_stable = refl

-- the policy's version counts where the dependent names none
policy_too_old : replaced_keys (record plainly_replacing { rust_version = Some (rust 69) }) one of_x ≡ []
unfolding replacing_on_cases
policy_too_old = refl

policy_new_enough : replaced_keys (record plainly_replacing { rust_version = Some (rust 70) }) one of_x
    ≡ replaced_key 1 ∷ []
unfolding replacing_on_cases
policy_new_enough = refl

-- the policy's version does not count where the dependent names one
own_version_first : replaced_keys (record plainly_replacing { rust_version = Some (rust 70) }) (one_with 69) of_x ≡ []
unfolding replacing_on_cases
own_version_first = refl

own_version_alone : replaced_keys (record plainly_replacing { rust_version = Some (rust 69) }) (one_with 70) of_x
    ≡ replaced_key 1 ∷ []
unfolding replacing_on_cases
own_version_alone = refl

-- without a stable item a version of Rust is never new enough, but a dependent that names none may use the replacement
never_stable : replaced_keys plainly_replacing (one_with 99)
    (of_name (codes "x") (record (since 70) { stable = []; unstable = f_by_g ∷ [] })) ≡ []
unfolding replacing_on_cases
never_stable = refl

unstable_alone : replaced_keys plainly_replacing one
    (of_name (codes "x") (record (since 70) { stable = []; unstable = f_by_g ∷ [] })) ≡ replaced_key 1 ∷ []
unfolding replacing_on_cases
unstable_alone = refl

-- a member alone needs `x`
other_scope : replaced_keys (record plainly_replacing { scope = Transitive }) one of_x ≡ []
unfolding replacing_on_cases
other_scope = refl

every_scope : replaced_keys (record plainly_replacing { scope = EachCrate }) one of_x ≡ replaced_key 1 ∷ []
unfolding replacing_on_cases
every_scope = refl

no_scope : replaced_keys (record plainly_replacing { scope = NoCrate }) one of_x ≡ []
unfolding replacing_on_cases
no_scope = refl

-- a crate that is no member alone needs `x`
not_by_a_member : replaced_keys plainly_replacing through_y of_x ≡ []
unfolding replacing_on_cases
not_by_a_member = refl

not_by_a_member_and_asked : replaced_keys (record plainly_replacing { scope = Transitive }) through_y of_x
    ≡ replaced_key 1 ∷ []
unfolding replacing_on_cases
not_by_a_member_and_asked = refl

-- both need `x`, and only the one in scope counts
other_is_new_enough : replaced_keys plainly_replacing (by_both (Some (rust 69)) (Some (rust 70))) of_x ≡ []
unfolding replacing_on_cases
other_is_new_enough = refl

one_is_new_enough : replaced_keys (record plainly_replacing { scope = EachCrate })
    (by_both (Some (rust 69)) (Some (rust 70))) of_x ≡ replaced_key 1 ∷ []
unfolding replacing_on_cases
one_is_new_enough = refl

-- a dependent that names no version is new enough, though another is not
one_without_version : replaced_keys (record plainly_replacing { scope = EachCrate })
    (by_both (Some (rust 69)) None) of_x ≡ replaced_key 1 ∷ []
unfolding replacing_on_cases
one_without_version = refl

-- another registry's `x` is another crate
of_another_registry : replaced_keys plainly_replacing
    (graph (record x { source = Some (Registry (codes "https://r/")) } ∷ []) (edge 0 1 ∷ [])) of_x ≡ []
unfolding replacing_on_cases
of_another_registry = refl

nothing_said : replaced_keys plainly_replacing one (of_name (codes "y") (since 70)) ≡ []
unfolding replacing_on_cases
nothing_said = refl

-- ---- ignores

unfoldable pub two_ignores : Replacing
two_ignores = record plainly_replacing { ignore = entry_at (codes "x") 29 ∷ entry_at (codes "x") 39 ∷ [] }

passed_over : replaced_keys two_ignores one of_x ≡ []
unfolding replacing_on_cases two_ignores
passed_over = refl

-- of two ignores for one crate the first is hit, and the second is unmatched
first_is_hit : ignore_hits two_ignores one of_x
    ≡ hit_of ReplacementIgnore (span 29) (Krate (record { 0 = codes "x" })) ∷ []
unfolding replacing_on_cases two_ignores
first_is_hit = refl

second_is_unmatched : unmatched_ignore_keys two_ignores one of_x
    ≡ unused_key UnmatchedReplacementIgnore (span 39) ∷ []
unfolding replacing_on_cases two_ignores
second_is_unmatched = refl

-- a crate that is not replaced hits no ignore
both_unmatched : unmatched_ignore_keys two_ignores (one_with 69) of_x
    ≡ unused_key UnmatchedReplacementIgnore (span 29) ∷ unused_key UnmatchedReplacementIgnore (span 39) ∷ []
unfolding replacing_on_cases two_ignores
both_unmatched = refl

-- with the scope of no crate nothing is reported and nothing is hit
nothing_unmatched : unmatched_ignore_keys (record two_ignores { scope = NoCrate }) one of_x ≡ []
unfolding replacing_on_cases two_ignores
nothing_unmatched = refl

nothing_hit : ignore_hits (record two_ignores { scope = NoCrate }) one of_x ≡ []
unfolding replacing_on_cases two_ignores
nothing_hit = refl

-- ---- messages

reported_replaced : replaced_diag plainly_replacing one of_x (replaced_key 1)
    ≡ record (plainly severity.Error (codes "crate 'x = 1.0.0' is partially or fully replaced in std and/or core") []
    (Some (record { 0 = codes "x" }))) {
      notes = codes "## Stable\n### 1.70.0\n```diff\n- [x::f]()\n+ [g]()\n```\n\n" ∷ [];
    }
unfolding replacing_on_cases
reported_replaced = refl

reported_unmatched : unmatched_ignore_diag
    (record plainly_replacing {
      ignore = record (entry_at (codes "x") 29) { reason = Some (spanned_at (codes "old") 60) } ∷ [];
    })
    3 (unused_key UnmatchedReplacementIgnore (span 29))
    ≡ plainly severity.Warning (codes "std replacement ignore 'x' was not encountered")
    (primary 3 (span 29) (codes "unmatched ignore configuration")
    ∷ secondary 3 (span 60) (codes "ignore reason") ∷ [])
    None
unfolding replacing_on_cases
reported_unmatched = refl

-- ---- notes

-- the heading of stable items is there without stable items
no_stable : replacement_note (codes "x") (record (since 70) { stable = [] }) ≡ codes "## Stable\n"
unfolding replacing_on_cases
no_stable = refl

-- a version is above its items where it is not that of the item before
versions_in_turn : replacement_note (codes "x") (record (since 70) {
  stable = (since 70).stable ++ ((since 56).stable ++ ((since 56).stable ++ (since 70).stable));
})
    ≡ codes "## Stable\n"
    ++ (codes "### 1.70.0\n```diff\n- [x::f]()\n+ [g]()\n```\n\n"
    ++ (codes "### 1.56.0\n```diff\n- [x::f]()\n+ [g]()\n```\n\n"
    ++ (codes "```diff\n- [x::f]()\n+ [g]()\n```\n\n"
    ++ codes "### 1.70.0\n```diff\n- [x::f]()\n+ [g]()\n```\n\n")))
unfolding replacing_on_cases
versions_in_turn = refl

-- the version before the first item is 0
since_0 : replacement_note (codes "x") (since 0) ≡ codes "## Stable\n```diff\n- [x::f]()\n+ [g]()\n```\n\n"
unfolding replacing_on_cases
since_0 = refl

unfoldable pub with_all : Items
with_all = record {
  stable = [];
  unstable = record f_by_g { note = Some (codes "slower") } ∷ [];
  unavailable = record { name = codes "h"; url = codes "https://h/" } ∷ record { name = codes "i"; url = [] } ∷ [];
}

-- paths have a crate's name with `_`, and the list of unavailable APIs has the name itself
each_kind : replacement_note (codes "a-b") with_all
    ≡ codes "## Stable\n"
    ++ (codes "## Unstable\n```diff\n- [a_b::f]()\n+ [g]()\n```\n\n  slower\n\n"
    ++ codes "## Unavailable\n  - a-b::h - https://h/\n  - a-b::i - \n")
unfolding replacing_on_cases with_all
each_kind = refl
