use Rattle.std.proofs.Common.{◌<◌, ◌^◌, sym, ℕ, List, Bool, length, subst, arith}
use Rattle.std.specs.Prelude.{All}
use Rattle.deny_base_lists.specs.Ascending.{Lists}
use Rattle.deny_krates_graph.specs.private.Graph.{IsKeptNode, kept_cmp}
use Rattle.deny_krates_graph.specs.private.Numbered.{IsNumbered}
use Rattle.deny_krates_metadata.specs.declared.package.MetadataPackage.{MetadataPackage}
use Rattle.deny_base_lists.proofs.Results.{if_ok_then}
use Rattle.deny_krates_graph.proofs.ResolvedLemmas.{links_inside, owners_inside, rows_long, starts_inside}
use Rattle.deny_krates_graph.proofs.read.reached_packages.Goals as goal

pub reach-requires-clause-starts : goal.reach-requires-clause-starts
reach-requires-clause-starts c =
    starts_inside c.args.document.now c.args.starts.now c.args.rows.now c.requires.resolved

pub reach-requires-clause-links : goal.reach-requires-clause-links
reach-requires-clause-links c =
    links_inside c.args.document.now c.args.starts.now c.args.rows.now c.requires.resolved

pub reach-requires-clause-few : goal.reach-requires-clause-few
reach-requires-clause-few c = subst (λ (n : ℕ). n < 2 ^ 28)
    (rows_long c.args.document.now c.args.starts.now c.args.rows.now c.requires.resolved) c.requires.few

pub kept_of-requires-clause-few : goal.kept_of-requires-clause-few
kept_of-requires-clause-few c = subst (λ (n : ℕ). n < 2 ^ 28)
    (rows_long c.args.document.now c.args.starts.now c.args.rows.now c.requires.resolved) c.requires.few

pub kept_of-requires-clause-owned : goal.kept_of-requires-clause-owned
kept_of-requires-clause-owned c =
    subst (λ (ps : List MetadataPackage). All (λ r. r.owner < length ps) c.args.rows.now) (sym c.as_slice.ensures)
    (owners_inside c.args.document.now c.args.starts.now c.args.rows.now c.requires.resolved)

pub returns-clause-numbered : goal.returns-clause-numbered
returns-clause-numbered c =
    let rows = c.args.rows.now in
    let packages = c.args.document.now.packages in
    if_ok_then {Q = λ kept. (marks : List Bool) × IsNumbered c.args.document.now c.args.starts.now rows marks kept}
    c.kept_of.result c.kept_of.ensures.lists (λ kept lists. (
      c.in_ok-marks.marks,
      record {
        resolved = c.requires.resolved;
        reached = c.in_ok-marks.ensures;
        lists = subst (λ (ms : List Bool). Lists kept_cmp (IsKeptNode packages rows ms) kept) c.as_slice-2.ensures
            (subst (λ (ps : List MetadataPackage). Lists kept_cmp (IsKeptNode ps rows c.as_slice-2.result.now) kept)
            c.as_slice.ensures lists);
      },
    ))

pub returns-clause-few : goal.returns-clause-few
returns-clause-few c =
    let rows_few : length c.args.rows.now < 2 ^ 28 = subst (λ (n : ℕ). n < 2 ^ 28)
    (rows_long c.args.document.now c.args.starts.now c.args.rows.now c.requires.resolved) c.requires.few in
    if_ok_then {Q = λ kept. length kept < 2 ^ 28} c.kept_of.result c.kept_of.ensures.few (λ kept few. omega arith)
