-- What a policy says of build scripts and of the files of packages. Each entry's span is that of its name in the
-- policy's text, or that of its path or glob, and identifies it.
use Rattle.std.specs.Prelude.{ℕ, Bool, List, Option}
use Rattle.deny_base.specs.declared.level.LintLevel.{LintLevel}
use Rattle.deny_base.specs.declared.span.Span.{Span}
use Rattle.deny_base.specs.declared.span.Spanned.{Spanned}
use Rattle.deny_spec.specs.Policy.{Spec, SpannedText}

-- a file that passes; where a checksum is written, only with it
pub record AllowedPath : Type 0 where
  pub path : SpannedText
  pub checksum : Option (Spanned (List ℕ))

-- what a crate is allowed; its globs and paths are those of files that pass
pub record Bypass : Type 0 where
  pub spec : Spec
  -- the checksum of the build script with which the whole package passes
  pub script : Option (Spanned (List ℕ))
  -- features of the crate: where one of them is enabled, its files are scanned all the same
  pub required : List SpannedText
  pub globs : List SpannedText
  pub allow : List AllowedPath

-- a glob of files that count as scripts, and whether it is built in; its span lies in the file that it is written in
pub record ScriptGlob : Type 0 where
  pub text : List ℕ
  pub span : Span
  pub built_in : Bool

pub record Building : Type 0 where
  -- the crates that may have a build script; every crate, where the policy has no such list
  pub scripts : Option (List Spec)
  -- whether packages may hold executables: where they may, their files are not scanned
  pub executables : LintLevel
  -- the level of a file whose first line names an interpreter
  pub interpreted : LintLevel
  pub extensions : List ScriptGlob
  -- of several bypasses that match a crate the first one counts
  pub bypass : List Bypass
  -- whether the dependencies of crates that run while others are built are scanned too, whether members of the
  -- workspace are, and whether archives count as executables
  pub with_dependencies : Bool
  pub with_workspace : Bool
  pub with_archives : Bool
  -- the span of the list of crates that the policy gives by an older key, in place of all this
  pub older_key : Option Span
