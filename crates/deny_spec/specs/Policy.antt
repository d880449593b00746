-- A policy: what it denies, allows and passes over, the level of duplicates, and how features, requirements that any
-- version meets, dependencies that a workspace shares, and crates that the standard library replaces are checked. Each
-- entry's span is that of its name in the policy's text, and identifies it.
use Rattle.std.specs.Prelude.{ℕ, Bool, List, Option}
use Rattle.semver.specs.Parse.{Held, Parts}
use Rattle.deny_base.specs.declared.level.LintLevel.{LintLevel}
use Rattle.deny_base.specs.declared.span.Span.{Span}
use Rattle.deny_base.specs.declared.span.Spanned.{Spanned}

-- the crates that an entry matches: those of a name, or those of them whose versions meet a requirement; the
-- requirement's text is kept as it is written
pub record Spec : Type 0 where
  pub name : List ℕ
  pub requirement : Option (List Held)
  pub written : Option (List ℕ)
  pub span : Span

-- a text of the policy with its span
abbrev pub SpannedText : Type 0
SpannedText = Spanned (List ℕ)

-- an entry that bans crates, unless all their direct dependents are wrappers; without wrappers it is never waived
pub record Ban : Type 0 where
  pub spec : Spec
  pub wrappers : List SpannedText
  pub reason : Option SpannedText
  pub use_instead : Option SpannedText

-- an entry of the allow list: the crates that it matches are allowed
pub record AllowEntry : Type 0 where
  pub spec : Spec
  pub reason : Option SpannedText

-- an entry that keeps crates out of the duplicates, or ignores that the standard library replaces them
pub record Entry : Type 0 where
  pub spec : Spec
  pub reason : Option SpannedText

-- an entry that keeps crates, and those below them down to a depth, out of the duplicates; its number is its index
-- among the skipped trees
pub record Root : Type 0 where
  pub number : ℕ
  pub spec : Spec
  pub depth : Option ℕ
  pub reason : Option SpannedText

-- which features a crate may have: those that are allowed, or these and what they lead to, and those that are
-- denied; each text of the lists is a feature
pub record FeatureEntry : Type 0 where
  pub spec : Spec
  pub allow : Spanned (List SpannedText)
  pub deny : List SpannedText
  -- whether all others are denied, and those that are allowed have to be there
  pub exact : Spanned Bool

-- which crates: none, the members of the workspace, the others, or all
pub data Scope : Type 0 where
  NoCrate : Scope
  Workspace : Scope
  Transitive : Scope
  EachCrate : Scope

-- how crates are checked that the standard library replaces
pub record Replacing : Type 0 where
  -- the crates whose direct dependencies are checked
  pub scope : Scope
  pub level : LintLevel
  -- the version of Rust of a crate that names none
  pub rust_version : Option Parts
  -- the entries for crates that are passed over
  pub ignore : List Entry
  -- the crates whose version of Rust does not count
  pub ignore_rust_version : Scope

-- how the dependencies are checked that a workspace shares
pub record Sharing : Type 0 where
  -- the level of a crate that members declare several times, and not always by the entry that they share
  pub duplicates : LintLevel
  -- whether declarations by a path count
  pub with_paths : Bool
  -- the level of an entry that no crate comes from
  pub unused : LintLevel

pub record Policy : Type 0 where
  pub multiple_versions : LintLevel
  -- whether crates count that only dev edges lead to
  pub include_dev : Bool
  -- which sets of a duplicate's edges are marked
  pub simplest : Bool
  pub lowest : Bool
  pub deny : List Ban
  -- the entries of `deny` that deny several versions
  pub deny_multiple : List Spec
  pub allow : List AllowEntry
  pub allow_workspace : Bool
  pub skip : List Entry
  pub skip_tree : List Root
  pub features : List FeatureEntry
  -- the level of the feature `default` of a member of the workspace, and of another crate
  pub workspace_default : Option (Spanned LintLevel)
  pub external_default : Option (Spanned LintLevel)
  -- the level of a dependency whose requirement any version meets
  pub wildcards : LintLevel
  -- whether such a dependency is allowed where it comes from no registry, in a private crate or as a dev dependency
  pub allow_wildcard_paths : Bool
  -- none where the policy does not check what a workspace shares
  pub sharing : Option Sharing
  -- none where the policy does not check what the standard library replaces
  pub replacing : Option Replacing
