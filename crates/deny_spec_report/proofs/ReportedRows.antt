-- Worked cases of the message of a key of each code, and of the hits of entries.
use Rattle.std.proofs.Common.{◌≡◌, [], ◌∷◌, Some, None, codes, refl, true, false}
use Rattle.std.specs.Prelude.{⊤, List}
use Rattle.std.specs.Fmt.{digits}
use Rattle.deny_base.specs.declared.label.Label.{Label}
use Rattle.deny_base.specs.declared.check.Check.TheVariants.{Bans}
use Rattle.deny_base.specs.declared.code.Code.TheVariants as code
use Rattle.deny_base.specs.declared.code.DiagnosticCode.TheVariants as diagnostic
use Rattle.deny_base.specs.declared.entry.EntryKind.TheVariants.{Skip, SkipRoot, Wrapper}
use Rattle.deny_base.specs.declared.entry.Witness.TheVariants.{Krate, Parent}
use Rattle.deny_base.specs.declared.level.LintLevel.TheVariants.{Warn}
use Rattle.deny_base.specs.declared.level.Severity.TheVariants as severity
use Rattle.deny_base.specs.declared.span.Kid.{Kid}
use Rattle.deny_spec.specs.Hits.{all_hits, hit_of, root_hit, skip_hit, wrapper_hit, wrapper_hit_at}
use Rattle.deny_spec.specs.Bans.{concerns, is_exempt, wrapper_of}
use Rattle.deny_spec.specs.Duplicates.{duplicate_level, is_denied_multiple}
use Rattle.deny_spec.specs.Graph.{Graph, dependents, leads}
use Rattle.deny_spec.specs.Keys.{crate_key, dependent_key, duplicate_key, key_of, no_span, unused_key}
use Rattle.deny_spec.specs.Match.{matches}
use Rattle.deny_spec.specs.Policy.{Policy}
use Rattle.deny_spec.specs.Skips.{is_skipped}
use Rattle.deny_spec.specs.DiagParts.{crates_at, node_of, primary, secondary, spec_labels, spec_text}
use Rattle.deny_spec.specs.View.{nothing_seen}
use Rattle.deny_spec.specs.Wrappers.{hits_wrapper, wraps}
use Rattle.deny_spec_report.specs.AllowList.{allowed_diag, not_allowed_diag}
use Rattle.deny_spec_report.specs.Bans.{allowed_by_wrapper_diag, banned_diag, unmatched_wrapper_diag}
use Rattle.deny_spec_report.specs.Circumstances.{Circumstances, seen_by, unseen_by}
use Rattle.deny_spec_report.specs.Duplicates.{duplicate_diag}
use Rattle.deny_spec_report.specs.EachCode.{message_as}
use Rattle.deny_spec_report.specs.SkippedTrees.{skipped_by_root_diag, unmatched_skip_root_diag}
use Rattle.deny_spec_report.specs.Skips.{skipped_diag, unmatched_skip_diag, unnecessary_skip_diag}
use Rattle.deny_spec_report.specs.MessageParts.{plainly}
use Rattle.deny_spec_report.specs.Diags.{diag_of, pack_of, key_pack}
use Rattle.deny_spec_report.specs.Wrappers.{unused_wrapper_diag}
use Rattle.deny_spec_report.proofs.Cases.{on_cases, all_count, ban_at, by_two, crate, edge, entry_at, exactly, graph}
use Rattle.deny_spec_report.proofs.Cases.{not_the_first, plain, span, root_of, spec_at, two_x, with_id, spanned_at}
use Rattle.deny_spec_report.proofs.Cases.{allow_at, x_1_x_2}

-- a policy with an entry of each kind, on `app` and `y`, which need `x`
busy : Policy
busy = record plain {
  deny = record (ban_at (codes "x") (spanned_at (codes "app") 30 ∷ []) 16) {
    reason = Some (spanned_at (codes "old") 60);
    use_instead = Some (spanned_at (codes "z") 70);
  } ∷ [];
  allow = allow_at (codes "x") 18 ∷ [];
  skip = entry_at (codes "x") 29 ∷ [];
  skip_tree = root_of (codes "app") 20 ∷ [];
}

here : Circumstances
here = unseen_by busy by_two 3

x_kid : Kid
x_kid = record { 0 = codes "x" }

-- what a row unfolds to compute a message
unfoldable reported_on_cases : ⊤
unfolding on_cases busy here x_kid digits message_as banned_diag allowed_diag not_allowed_diag skipped_diag
    unmatched_skip_diag unnecessary_skip_diag allowed_by_wrapper_diag unmatched_wrapper_diag skipped_by_root_diag
    unmatched_skip_root_diag unused_wrapper_diag duplicate_diag duplicate_level is_denied_multiple crates_at spec_labels
    spec_text key_of duplicate_key wrapper_of matches skip_hit root_hit wrapper_hit wrapper_hit_at wraps hits_wrapper
    concerns is_exempt is_skipped dependents leads
reported_on_cases = tt

abbrev ban_labels_reported : List Label
ban_labels_reported = primary 3 (span 16) (codes "banned here") ∷ secondary 3 (span 60) (codes "reason")
    ∷ secondary 3 (span 70) (codes "use instead") ∷ []

reported_banned : message_as code.Banned here (crate_key code.Banned 1 (span 16))
    ≡ plainly severity.Error (codes "crate 'x = 1.0.0' is explicitly banned")
    ban_labels_reported (Some x_kid)
unfolding reported_on_cases
reported_banned = refl

-- a report where the lock text is a file too: entries have their labels in the policy
reported_beside_a_lock_text : message_as code.Banned (seen_by busy by_two 3 8 nothing_seen)
    (crate_key code.Banned 1 (span 16))
    ≡ plainly severity.Error (codes "crate 'x = 1.0.0' is explicitly banned")
    ban_labels_reported (Some x_kid)
unfolding reported_on_cases
reported_beside_a_lock_text = refl

reported_allowed : message_as code.Allowed here (crate_key code.Allowed 1 (span 18))
    ≡ plainly severity.Note (codes "crate 'x = 1.0.0' is explicitly allowed")
    (primary 3 (span 18) (codes "allowed here") ∷ []) (Some x_kid)
unfolding reported_on_cases
reported_allowed = refl

reported_not_allowed : message_as code.NotAllowed here (crate_key code.NotAllowed 1 no_span)
    ≡ plainly severity.Error (codes "crate 'x = 1.0.0' is not explicitly allowed") [] (Some x_kid)
unfolding reported_on_cases
reported_not_allowed = refl

reported_skipped : message_as code.Skipped here (crate_key code.Skipped 1 (span 29))
    ≡ plainly severity.Note (codes "crate 'x = 1.0.0' skipped when checking for duplicates")
    (primary 3 (span 29) (codes "skipped here") ∷ []) (Some x_kid)
unfolding reported_on_cases
reported_skipped = refl

reported_unmatched_skip : message_as code.UnmatchedSkip here (unused_key code.UnmatchedSkip (span 29))
    ≡ plainly severity.Warning (codes "skipped crate 'x' was not encountered")
    (primary 3 (span 29) (codes "unmatched skip configuration") ∷ []) None
unfolding reported_on_cases
reported_unmatched_skip = refl

reported_unnecessary_skip : message_as code.UnnecessarySkip here (unused_key code.UnnecessarySkip (span 29))
    ≡ plainly severity.Warning (codes "skip 'x' applied to a crate with only one version")
    (primary 3 (span 29) (codes "unnecessary skip configuration") ∷ []) None
unfolding reported_on_cases
reported_unnecessary_skip = refl

reported_wrapper : message_as code.AllowedByWrapper here (dependent_key code.AllowedByWrapper 1 (span 16) 0)
    ≡ plainly severity.Note (codes "banned crate 'x = 1.0.0' allowed by wrapper 'app = 0.1.0'")
    (primary 3 (span 16) (codes "banned here") ∷ primary 3 (span 30) (codes "allowed wrapper") ∷ []) (Some x_kid)
unfolding reported_on_cases
reported_wrapper = refl

reported_unmatched_wrapper : message_as code.UnmatchedWrapper here (dependent_key code.UnmatchedWrapper 1 (span 16) 2)
    ≡ plainly severity.Warning
    (codes "direct parent 'y = 1.0.0' of banned crate 'x = 1.0.0' was not marked as a wrapper")
    ban_labels_reported (Some x_kid)
unfolding reported_on_cases
reported_unmatched_wrapper = refl

reported_by_root : message_as code.SkippedByRoot here (crate_key code.SkippedByRoot 1 (span 20))
    ≡ plainly severity.Note (codes "skipping crate 'x = 1.0.0' due to root skip")
    (primary 3 (span 20) (codes "matched skip root") ∷ []) (Some x_kid)
unfolding reported_on_cases
reported_by_root = refl

reported_unmatched_root : message_as code.UnmatchedSkipRoot here (unused_key code.UnmatchedSkipRoot (span 20))
    ≡ plainly severity.Warning (codes "skip tree root was not found in the dependency graph")
    (primary 3 (span 20) (codes "no crate matched these criteria") ∷ []) None
unfolding reported_on_cases
reported_unmatched_root = refl

reported_unused_wrapper : message_as code.UnusedWrapper here (unused_key code.UnusedWrapper (span 30))
    ≡ plainly severity.Warning (codes "wrapper for banned crate was not encountered")
    (primary 3 (span 30) (codes "unmatched wrapper") ∷ []) None
unfolding reported_on_cases
reported_unused_wrapper = refl

reported_duplicate : message_as code.Duplicate (unseen_by plain two_x 3) (duplicate_key (1 ∷ 2 ∷ []))
    ≡ record (plainly severity.Error (codes "found 2 duplicate entries for crate 'x'") [] None) {
      nodes = node_of (crate 1 (codes "x") 1) ∷ node_of (crate 2 (codes "x") 2) ∷ [];
    }
unfolding reported_on_cases
reported_duplicate = refl

-- a duplicate is reported at the policy's own level, where no entry denies several versions
reported_at_its_level : message_as code.Duplicate (unseen_by (record plain { multiple_versions = Warn }) two_x 3)
    (duplicate_key (1 ∷ 2 ∷ []))
    ≡ record (plainly severity.Warning (codes "found 2 duplicate entries for crate 'x'") [] None) {
      nodes = node_of (crate 1 (codes "x") 1) ∷ node_of (crate 2 (codes "x") 2) ∷ [];
    }
unfolding reported_on_cases
reported_at_its_level = refl

reported_at_a_raised_level : message_as code.Duplicate
    (unseen_by (record plain { multiple_versions = Warn; deny_multiple = spec_at (codes "x") 9 ∷ [] }) two_x 3)
    (duplicate_key (1 ∷ 2 ∷ []))
    ≡ record (plainly severity.Error (codes "found 2 duplicate entries for crate 'x'") [] None) {
      nodes = node_of (crate 1 (codes "x") 1) ∷ node_of (crate 2 (codes "x") 2) ∷ [];
    }
unfolding reported_on_cases
reported_at_a_raised_level = refl

-- entries show their requirements as they are written, and their reasons
explained : Policy
explained = record plain {
  allow = record (allow_at (codes "x") 18) { reason = Some (spanned_at (codes "a") 60) } ∷ [];
  skip = record {
    spec = record (exactly 1 (spec_at (codes "x") 29)) { written = Some (codes "= 1.0.0") };
    reason = Some (spanned_at (codes "b") 70);
  } ∷ [];
  skip_tree = record (root_of (codes "app") 20) { reason = Some (spanned_at (codes "c") 80) } ∷ [];
}

reported_with_a_requirement : message_as code.UnmatchedSkip (unseen_by explained by_two 3)
    (unused_key code.UnmatchedSkip (span 29))
    ≡ plainly severity.Warning (codes "skipped crate 'x = = 1.0.0' was not encountered")
    (primary 3 (span 29) (codes "unmatched skip configuration") ∷ secondary 3 (span 70) (codes "reason") ∷ []) None
unfolding reported_on_cases explained
reported_with_a_requirement = refl

allowed_for_a_reason : message_as code.Allowed (unseen_by explained by_two 3) (crate_key code.Allowed 1 (span 18))
    ≡ plainly severity.Note (codes "crate 'x = 1.0.0' is explicitly allowed")
    (primary 3 (span 18) (codes "allowed here") ∷ secondary 3 (span 60) (codes "reason") ∷ []) (Some x_kid)
unfolding reported_on_cases explained
allowed_for_a_reason = refl

in_tree_for_a_reason : message_as code.SkippedByRoot (unseen_by explained by_two 3)
    (crate_key code.SkippedByRoot 1 (span 20))
    ≡ plainly severity.Note (codes "skipping crate 'x = 1.0.0' due to root skip")
    (primary 3 (span 20) (codes "matched skip root") ∷ secondary 3 (span 80) (codes "reason") ∷ []) (Some x_kid)
unfolding reported_on_cases explained
in_tree_for_a_reason = refl

-- the pack of a key: the check of its code, the crate of its message, one diagnostic
handed_out : key_pack here (crate_key code.NotAllowed 1 no_span) ≡ record {
  check = Bans;
  kid = Some x_kid;
  diags = record {
    key = crate_key code.NotAllowed 1 no_span;
    diag = record {
      severity = severity.Error;
      code = Some (diagnostic.Bans code.NotAllowed);
      message = codes "crate 'x = 1.0.0' is not explicitly allowed";
      labels = [];
      notes = [];
    };
    graph_nodes = [];
    with_features = false;
  } ∷ [];
}
unfolding reported_on_cases diag_of pack_of
handed_out = refl

-- each entry has one hit, by its first witness
first_hits : all_hits busy by_two all_count
    ≡ hit_of Skip (span 29) (Krate x_kid) ∷ hit_of SkipRoot (span 20) (Krate (record { 0 = codes "app" }))
    ∷ hit_of Wrapper (span 30) (Parent x_kid (record { 0 = codes "app" })) ∷ []
unfolding reported_on_cases
first_hits = refl

-- the first of two versions that counts is the witness
first_of_two : all_hits (record plain { skip = entry_at (codes "x") 29 ∷ [] }) x_1_x_2 all_count
    ≡ hit_of Skip (span 29) (Krate (record { 0 = codes "x1" })) ∷ []
unfolding reported_on_cases
first_of_two = refl

second_of_two : all_hits (record plain { skip = entry_at (codes "x") 29 ∷ [] }) x_1_x_2 not_the_first
    ≡ hit_of Skip (span 29) (Krate (record { 0 = codes "x2" })) ∷ []
unfolding reported_on_cases
second_of_two = refl

-- the root of a skipped tree is its witness whether it counts or not
root_of_two : all_hits (record plain { skip_tree = root_of (codes "x") 20 ∷ [] }) x_1_x_2 not_the_first
    ≡ hit_of SkipRoot (span 20) (Krate (record { 0 = codes "x1" })) ∷ []
unfolding reported_on_cases
root_of_two = refl

-- the witness of a wrapper is the first crate that the entry concerns with a dependent that it wraps, and the first
-- such dependent: `app` and the second `y` need `x1`, both need `x2`
two_y : Graph
two_y = graph (with_id (codes "x1") (crate 1 (codes "x") 1) ∷ with_id (codes "x2") (crate 2 (codes "x") 2)
    ∷ with_id (codes "y1") (crate 3 (codes "y") 1) ∷ with_id (codes "y2") (crate 4 (codes "y") 2) ∷ [])
    (edge 0 1 ∷ edge 3 2 ∷ edge 4 1 ∷ edge 4 2 ∷ [])

by_y : Policy
by_y = record plain { deny = ban_at (codes "x") (spanned_at (codes "y") 30 ∷ spanned_at (codes "z") 40 ∷ []) 16 ∷ [] }

first_crate_then_parent : all_hits by_y two_y all_count
    ≡ hit_of Wrapper (span 30) (Parent (record { 0 = codes "x1" }) (record { 0 = codes "y2" })) ∷ []
unfolding reported_on_cases two_y by_y
first_crate_then_parent = refl

parent_of_one_version : all_hits (record plain {
  deny = record (ban_at (codes "x") (spanned_at (codes "y") 30 ∷ []) 16) {
    spec = exactly 2 (spec_at (codes "x") 16);
  } ∷ [];
}) two_y all_count
    ≡ hit_of Wrapper (span 30) (Parent (record { 0 = codes "x2" }) (record { 0 = codes "y1" })) ∷ []
unfolding reported_on_cases two_y
parent_of_one_version = refl

-- an entry that concerns no crate has no hit, nor has an unused one
no_hits : all_hits (record plain {
  deny = ban_at (codes "app") (spanned_at (codes "x") 30 ∷ []) 16 ∷ [];
  allow_workspace = true;
  skip = entry_at (codes "q") 29 ∷ [];
  skip_tree = root_of (codes "q") 20 ∷ [];
}) (graph (crate 1 (codes "x") 1 ∷ []) (edge 0 1 ∷ edge 1 0 ∷ [])) all_count ≡ []
unfolding reported_on_cases
no_hits = refl
