-- The headline: the crate-rule errors of a report are exactly the uncovered violations at level deny, another rule's
-- error comes only where the policy writes that rule, and a report fails exactly where a finding is an error.
use Rattle.std.specs.Prelude.{◌≡◌, ◌≢◌, ◌⊎◌, ◌≤◌, ◌&&◌, ◌||◌, ◌==◌, ℕ, Bool, true, false, not, IsTrue, List, [], length}
use Rattle.std.specs.Prelude.{map, filter, Contains, Option, None, Some, codes, is_some}
use Rattle.std.specs.List.{list_any}
use Rattle.std.specs.Option.{option_map_or}
use Rattle.std.specs.Str.{bytes_eq}
use Rattle.deny_base_lists.specs.Ascending.{Lists}
use Rattle.deny_base.specs.Code.{rule_of}
use Rattle.deny_base.specs.KeyOrder.{key_cmp}
use Rattle.deny_base.specs.Rule.{Rule, OnCrates, OnWildcards, OnFeatures, OnDefaultFeatures, OnWorkspaceDependencies}
use Rattle.deny_base.specs.Rule.{OnStdReplacements, OnBuildScripts, OnPackageFiles, OnLicenses}
use Rattle.deny_base.specs.declared.code.Code.TheVariants.{Banned, NotAllowed}
use Rattle.deny_base.specs.declared.code.DiagnosticCode.{DiagnosticCode}
use Rattle.deny_base.specs.declared.edge.Edge.{Edge}
use Rattle.deny_base.specs.declared.key.Key.{Key}
use Rattle.deny_base.specs.declared.level.LintLevel.TheVariants.{Deny}
use Rattle.deny_cfg.specs.PolicyText.{IsPolicyOf}
use Rattle.deny_cfg.specs.PolicyView.{policy_view}
use Rattle.deny_cfg.specs.declared.policy.Policy as cfg
use Rattle.deny_krates.specs.Read.{IsGraphOf}
use Rattle.deny_spec.specs.Facts.{Facts, AreFacts}
use Rattle.deny_spec.specs.Graph.{Crate, Graph}
use Rattle.deny_spec.specs.Keys.{crate_key, duplicate_key, no_span}
use Rattle.deny_spec.specs.Match.{matches}
use Rattle.deny_spec.specs.Policy.{AllowEntry, Ban, Entry, Policy, Root, Spec, SpannedText}
use Rattle.deny_spec.specs.VersionOrder.{version_cmp}
use Rattle.deny_toml.specs.Calls.{array_in, below_name, text_in}
use Rattle.deny_toml.specs.Parser.{IsTreeOf}
use Rattle.deny_toml.specs.value.Value.{Value}
use Rattle.deny_gate.specs.Gating.{InputTexts}
use Rattle.deny_gate.specs.Report.{has_error, policy_id, verdict_of}
use Rattle.deny_gate.specs.declared.report.Finding.{Finding}
use Rattle.deny_gate.specs.declared.report.Report.{Report}
use Rattle.deny_gate.specs.declared.report.Verdict.{Verdict}
use Rattle.deny_gate.specs.declared.report.Verdict.TheVariants.{Pass, Fail}

-- ---- what covers a violation

-- the policy exempts the workspace's own crates, and this is one
pub record IsExempt (p : Policy) (g : Graph) (c : Crate) : Type 0 where
  pub allowed : IsTrue p.allow_workspace
  pub own : Contains g.members c.place

-- a direct dependent of a crate: an edge leads from it to the crate
pub record DependsOn (g : Graph) (parent child : Crate) : Type 0 where
  pub known : Contains g.crates parent
  pub edge : Edge
  pub member : Contains g.edges edge
  pub leads_from : edge.parent ≡ parent.place
  pub leads_to : edge.child ≡ child.place

-- one of the wrappers names the crate
pub record IsWrapper (wrappers : List SpannedText) (parent : Crate) : Type 0 where
  pub wrapper : SpannedText
  pub written : Contains wrappers wrapper
  pub named : wrapper.value ≡ parent.name

-- an entry's wrappers waive its ban of a crate: there are some, and each direct dependent of the crate is one
pub record IsWaived (g : Graph) (ban : Ban) (c : Crate) : Type 0 where
  pub some : ban.wrappers ≢ []
  pub each : (parent : Crate) → DependsOn g parent c → IsWrapper ban.wrappers parent

-- ---- what violates a rule at level deny without cover, and the key that reports it

-- an entry bans a crate that it matches
pub record IsBan (p : Policy) (g : Graph) (key : Key) : Type 0 where
  pub ban : Ban
  pub written : Contains p.deny ban
  pub krate : Crate
  pub known : Contains g.crates krate
  pub matched : IsTrue (matches ban.spec krate)
  pub not_exempt : ¬ IsExempt p g krate
  pub not_waived : ¬ IsWaived g ban krate
  pub is : key ≡ crate_key Banned krate.place ban.spec.span

-- there is an allow list, and no entry of it matches a crate
pub record IsUnlisted (p : Policy) (g : Graph) (key : Key) : Type 0 where
  pub some : p.allow ≢ []
  pub krate : Crate
  pub known : Contains g.crates krate
  pub unlisted : (e : AllowEntry) → Contains p.allow e → ¬ IsTrue (matches e.spec krate)
  pub not_exempt : ¬ IsExempt p g krate
  pub is : key ≡ crate_key NotAllowed krate.place no_span

-- an entry denies several versions of one of these crates
pub record IsDeniedMultiple (p : Policy) (crates : List Crate) : Type 0 where
  pub krate : Crate
  pub one : Contains crates krate
  pub spec : Spec
  pub written : Contains p.deny_multiple spec
  pub matched : IsTrue (matches spec krate)

-- a crate is needed by one of another name: a direct dependent of it has that
pub record IsNeeded (g : Graph) (name : List ℕ) (c : Crate) : Type 0 where
  pub parent : Crate
  pub depends : DependsOn g parent c
  pub another : parent.name ≢ name

-- a crate counts as a duplicate of its name: it is counted, no skip matches it, it is in no skipped tree, and a crate
-- of another name needs it
pub record IsBeside (p : Policy) (g : Graph) (facts : Facts) (name : List ℕ) (c : Crate) : Type 0 where
  pub known : Contains g.crates c
  pub named : c.name ≡ name
  pub counts : IsTrue (facts.counts c)
  pub not_skipped : (s : Entry) → Contains p.skip s → ¬ IsTrue (matches s.spec c)
  pub in_no_tree : (t : Root) → Contains p.skip_tree t → ¬ IsTrue (facts.in_tree t c)
  pub needed : IsNeeded g name c

-- a name has two such crates or more, and the policy denies that
pub record AreSeveral (p : Policy) (g : Graph) (facts : Facts) (key : Key) : Type 0 where
  pub owner : Crate
  pub known : Contains g.crates owner
  pub crates : List Crate
  pub listed : Lists version_cmp (IsBeside p g facts owner.name) crates
  pub several : 2 ≤ length crates
  pub denied : IsDeniedMultiple p crates ⊎ (p.multiple_versions ≡ Deny)
  pub is : key ≡ duplicate_key (map (λ c. c.place) crates)

pub data IsViolation (p : Policy) (g : Graph) (facts : Facts) : Key → Type 0 where
  is_ban : (key : Key) → IsBan p g key → IsViolation p g facts key
  is_unlisted : (key : Key) → IsUnlisted p g key → IsViolation p g facts key
  are_several : (key : Key) → AreSeveral p g facts key → IsViolation p g facts key

-- ---- errors of the crate rules in a report

-- a rule is the rule on crates
abbrev pub is_on_crates : Rule → Bool
is_on_crates OnCrates = true
is_on_crates OnWildcards = false
is_on_crates OnFeatures = false
is_on_crates OnDefaultFeatures = false
is_on_crates OnWorkspaceDependencies = false
is_on_crates OnStdReplacements = false
is_on_crates OnBuildScripts = false
is_on_crates OnPackageFiles = false
is_on_crates OnLicenses = false

-- a code is that of the rule on crates; a finding without a code has none
abbrev pub is_crate_rule : Option DiagnosticCode → Bool
is_crate_rule None = false
is_crate_rule (Some code) = option_map_or is_on_crates (rule_of code) false

unfoldable pub is_crate_error : Finding → Bool
is_crate_error f = has_error f && is_crate_rule f.diag.diag.code

-- ---- what a text writes

-- a table has this key
abbrev pub has_key : List ℕ → Value → Bool
has_key name table = is_some (below_name name table)

-- a value is the text `deny`
abbrev pub is_deny : Value → Bool
is_deny v = option_map_or (λ text. bytes_eq text (codes "deny")) (text_in v) false

-- the value of a key is the text `deny`
abbrev pub denies : List ℕ → Value → Bool
denies name table = option_map_or is_deny (below_name name table) false

-- a value is an array with an element
abbrev pub has_element : Value → Bool
has_element v = option_map_or (λ elements. not (length elements == 0)) (array_in v) false

-- the array of a key has an element
abbrev pub has_entry : List ℕ → Value → Bool
has_entry name table = option_map_or has_element (below_name name table) false

-- the table `bans` passes a test
abbrev pub in_bans : (Value → Bool) → Value → Bool
in_bans test tree = option_map_or test (below_name (codes "bans") tree) false

-- The text of a tree writes a rule, by its keys. This is asked of all rules but those on crates, whose errors are
-- exactly the violations.
unfoldable pub rule_is_written : Rule → Value → Bool
rule_is_written OnCrates tree = false
rule_is_written OnWildcards tree = in_bans (denies (codes "wildcards")) tree
rule_is_written OnFeatures tree = in_bans (has_entry (codes "features")) tree
rule_is_written OnDefaultFeatures tree = in_bans
    (λ bans. has_key (codes "workspace-default-features") bans || has_key (codes "external-default-features") bans) tree
rule_is_written OnWorkspaceDependencies tree = in_bans (has_key (codes "workspace-dependencies")) tree
rule_is_written OnStdReplacements tree = in_bans (has_key (codes "std-replacements")) tree
rule_is_written OnBuildScripts tree = in_bans
    (λ bans. option_map_or (has_key (codes "allow-build-scripts")) (below_name (codes "build") bans)
    (has_key (codes "allow-build-scripts") bans)) tree
rule_is_written OnPackageFiles tree = in_bans (has_key (codes "build")) tree
rule_is_written OnLicenses tree = has_key (codes "licenses") tree

-- the text of a tree writes the rule of a code
abbrev pub writes : DiagnosticCode → Value → Bool
writes code tree = option_map_or (λ rule. rule_is_written rule tree) (rule_of code) false

-- a text writes the rule of a code
pub record WritesRule (text : List ℕ) (code : DiagnosticCode) : Type 0 where
  pub tree : Value
  pub is_tree : IsTreeOf text tree
  pub written : IsTrue (writes code tree)

-- a text writes the rule of a finding's code; a finding without a code has no rule
abbrev pub WritesRuleOf : List ℕ → Option DiagnosticCode → Type 0
WritesRuleOf text None = ⊥
WritesRuleOf text (Some code) = WritesRule text code

abbrev pub is_failure : Verdict → Bool
is_failure Pass = false
is_failure (Fail bits) = true

-- ---- together

pub record KeepsHeadline (p : Policy) (g : Graph) (facts : Facts) (report : Report) : Type 0 where
  -- the keys of the crate-rule errors are those of the violations, ascending, each once
  pub violations : Lists key_cmp (IsViolation p g facts) (map (λ f. f.diag.key) (filter is_crate_error report.findings))
  -- the report fails exactly where a finding is an error
  pub fails : is_failure report.verdict ≡ list_any has_error report.findings
  -- the bits of the verdict by check: 2 where the bans check has an error, 4 where the licence check has one, or their
  -- sum
  pub bits : report.verdict ≡ verdict_of report.findings

-- the headline of a report on the policy and the graph of inputs, by true facts
pub record IsHeadlineOf (texts : InputTexts) (report : Report) : Type 0 where
  pub said : cfg.Policy
  pub is_said : IsPolicyOf texts.today texts.policy policy_id said
  pub graph : Graph
  pub is_graph : IsGraphOf texts.metadata graph
  pub facts : Facts
  pub true_facts : AreFacts (policy_view said.bans) graph facts
  pub keeps : KeepsHeadline (policy_view said.bans) graph facts report
  -- another rule's error comes only where the policy's text writes that rule
  pub others : (f : Finding) → Contains report.findings f → IsTrue (has_error f)
      → IsTrue (is_crate_error f) ⊎ WritesRuleOf texts.policy f.diag.diag.code
