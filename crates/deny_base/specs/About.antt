-- What is true of a code of findings, and the forms in which the tables of codes say it.
use Rattle.std.specs.Prelude.{ℕ, Bool, true, false, List, Option, None, Some}
use Rattle.deny_base.specs.Rule.{Rule}
use Rattle.deny_base.specs.declared.entry.EntryKind.{EntryKind}

pub record About : Type 0 where
  -- the word of the code in the lines of a report
  pub word : List ℕ
  -- the number of the code in the order of declaration of its check
  pub number : ℕ
  -- the kind of entry that a finding of this code says is unused
  pub unused : Option EntryKind
  -- whether the entry of the key is a span of the policy, and neither empty nor a span of a manifest
  pub shown : Bool
  -- whether findings of the code need no manifest and no package, so that they are exact on every disk
  pub free : Bool
  -- whether a finding is about a file of a package, or about an entry for one, and shows no crate
  pub of_path : Bool
  -- whether keys of builds bear the code
  pub of_builds : Bool
  -- whether its diagnostics are made beside the rules of the bans check, and not where its rule finds it
  pub here : Bool
  -- the rule that can report errors by the code
  pub rule : Option Rule

-- a code whose findings need the graph and the policy alone
abbrev pub of_graph : ℕ → List ℕ → About
of_graph number word = record {
  word = word;
  number = number;
  unused = None;
  shown = false;
  free = true;
  of_path = false;
  of_builds = false;
  here = true;
  rule = None;
}

-- a code whose findings need the manifests of crates or of the workspace
abbrev pub of_manifests : ℕ → List ℕ → About
of_manifests number word = record (of_graph number word) { free = false }

-- a code whose findings are about the build of a crate
abbrev pub of_builds : ℕ → List ℕ → About
of_builds number word = record (of_manifests number word) { of_builds = true }

-- a code whose findings are about a file of a package, or about an entry for one
abbrev pub of_files : ℕ → List ℕ → About
of_files number word = record (of_builds number word) { of_path = true }

-- a code whose diagnostics are made where its rule finds it: of replacements in the standard library, or of licences
abbrev pub of_own_rule : ℕ → List ℕ → About
of_own_rule number word = record (of_graph number word) { here = false }

-- a code whose keys show a span of the policy
abbrev pub shows_entry : About → About
shows_entry about = record about { shown = true }

-- a code that says that an entry of this kind is unused, whose span its keys show
abbrev pub names_unused : EntryKind → About → About
names_unused kind about = record (shows_entry about) { unused = Some kind }

-- a code by which this rule can report errors
abbrev pub errs_by : Rule → About → About
errs_by rule about = record about { rule = Some rule }
