-- The report in circumstances: a finding for each key that holds, what is shown of duplicates, which entries are hit
-- and which are dead, and the verdict.
use Rattle.std.specs.Prelude.{◌≡◌, ◌&&◌, ◌+◌, ℕ, Bool, true, false, List, Option, None, Some, is_some, map, filter}
use Rattle.std.specs.List.{list_any}
use Rattle.deny_base.specs.declared.check.Check.{Check}
use Rattle.deny_base.specs.declared.check.Check.TheVariants.{Bans, Licenses}
use Rattle.deny_base.specs.declared.key.Key.{Key}
use Rattle.deny_base.specs.declared.level.Severity.{Severity}
use Rattle.deny_base.specs.declared.level.Severity.TheVariants.{Bug, Error, Warning, Note, Help}
use Rattle.deny_spec_report.specs.Circumstances.{Circumstances}
use Rattle.deny_spec_report.specs.Hits.{TestsLicensed, both_hits}
use Rattle.deny_spec_report.specs.Holding.{AreKeys}
use Rattle.deny_spec_report.specs.Diags.{check_of_code, key_diag, key_message}
use Rattle.deny_rules_dup_edges.specs.DupEdges.{ShowsEach, is_of_duplicate}
use Rattle.deny_spec_removal.specs.Dead.{AreDead}
use Rattle.deny_spec.specs.Graph.{Crate}
use Rattle.deny_gate.specs.Hits.{AreHits}
use Rattle.deny_gate.specs.Stats.{all_stats, same_check}
use Rattle.deny_gate.specs.declared.report.Finding.{Finding}
use Rattle.deny_gate.specs.declared.report.Report.{Report}
use Rattle.deny_gate.specs.declared.report.Verdict.{Verdict}
use Rattle.deny_gate.specs.declared.report.Verdict.TheVariants.{Pass, Fail}

-- the numbers of the policy and of the lock text among the files; the lock text is behind the built-in globs, where
-- these are there
abbrev pub policy_id : ℕ
policy_id = 0

abbrev pub lock_id : Option ℕ → ℕ
lock_id None = 1
lock_id (Some globs) = globs + 1

-- the finding of a key
unfoldable pub finding_for : Circumstances → Key → Finding
finding_for c key = record {
  check = check_of_code key.code;
  kid = (key_message c key).krate;
  diag = key_diag c key;
}

abbrev pub is_error : Severity → Bool
is_error Error = true
is_error Bug = false
is_error Warning = false
is_error Note = false
is_error Help = false

unfoldable pub has_error : Finding → Bool
has_error finding = is_error finding.diag.diag.severity

-- a check fails by each of its findings that has severity error
unfoldable pub fails_as : Check → Finding → Bool
fails_as check finding = has_error finding && same_check finding.check check

-- the verdict by whether the bans check fails, whose bit is 2, and the licence check, whose bit is 4
abbrev pub verdict_by : Bool → Bool → Verdict
verdict_by false false = Pass
verdict_by true false = Fail 2
verdict_by false true = Fail 4
verdict_by true true = Fail 6

abbrev pub verdict_of : List Finding → Verdict
verdict_of findings = verdict_by (list_any (fails_as Bans) findings) (list_any (fails_as Licenses) findings)

-- the keys of findings
abbrev pub keys_in : List Finding → List Key
keys_in findings = map (λ f. f.diag.key) findings

pub record IsReport (c : Circumstances) (report : Report) : Type 0 where
  -- the graph is the one that was judged
  pub graph : report.krates ≡ c.graph
  -- the keys that hold, ascending, each once
  pub keys : List Key
  pub listed : AreKeys c keys
  -- there is one finding for each key, in the same order, and no other
  pub findings : report.findings ≡ map (finding_for c) keys
  -- the report shows what leads to each duplicate
  pub shown : ShowsEach c.policy c.graph (filter is_of_duplicate keys) report.dup_edges
  -- each entry that is hit has its first hit; a test tells which crates the licence check runs over
  pub counts : Crate → Bool
  pub reports : TestsLicensed c.licensing c.graph counts
  pub hits : AreHits (both_hits c listed.facts counts) report.hits
  -- an entry that a key names as unused, and that has no hit, is dead
  pub dead : AreDead keys report.hits report.dead
  -- findings are counted by check: those of licences where the policy has a section on licences
  pub stats : report.stats ≡ all_stats (is_some c.licensing) report.findings
  pub verdict : report.verdict ≡ verdict_of report.findings
