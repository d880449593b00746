-- The replaced crates of a graph as they are found, and the packs that are reported of them.
use Rattle.std.specs.Prelude.{◌≡◌, ◌++◌, ◌⊎◌, ℕ, true, false, List, Option, None, Some, Contains, map, take}
use Rattle.deny_base_lists.specs.Ascending.{Lists}
use Rattle.deny_base.specs.KeyOrder.{key_cmp}
use Rattle.deny_base.specs.declared.finding.Pack.{Pack}
use Rattle.deny_base.specs.declared.key.Key.{Key}
use Rattle.deny_spec.specs.Graph.{Graph}
use Rattle.deny_spec.specs.Policy.{Replacing}
use Rattle.deny_spec_report.specs.Circumstances.{Circumstances}
use Rattle.deny_spec_report.specs.Saying.{Saying, said_by, said_in}
use Rattle.deny_spec_report.specs.StdReplacements.{looks_at_none, replaced_keys_in, unmatched_ignore_keys_in}
use Rattle.deny_spec_report.specs.Diags.{key_pack}
use Rattle.deny_std.specs.declared.replacements.Replacements.{Replacements}
use Rattle.deny_std.specs.private.Kept.{AreKept}

-- this is what is found in a graph, by the policy's settings and by what the table says of crates
pub record IsFoundFrom (r : Replacing) (g : Graph) (said : Saying) (found : Replacements) : Type 0 where
  pub said_is : said_in found.table ≡ said
  pub kept : AreKept r g said found.level found.unmatched found.replaced found.hits

-- nothing is looked up exactly where the scope is none
abbrev pub IsFound : Replacing → Graph → Saying → Option Replacements → Type 0
IsFound r g said None = looks_at_none r.scope ≡ true
IsFound r g said (Some found) = (looks_at_none r.scope ≡ false) × IsFoundFrom r g said found

-- this is what is found in these circumstances, where the policy's file has this number
pub record IsFoundIn (c : Circumstances) (file : ℕ) (found : Replacements) : Type 0 where
  pub replacing : Replacing
  pub active : c.policy.replacing ≡ Some replacing
  pub found_from : IsFoundFrom replacing c.graph (said_by c.table) found
  pub file_is : c.files.policy ≡ file

-- the keys of replaced crates, and of ignores that were not hit
abbrev pub IsOfStd : Circumstances → Key → Type 0
IsOfStd c key = Contains (unmatched_ignore_keys_in c) key ⊎ Contains (replaced_keys_in c) key

-- each key that holds is reported once, in the order of the keys
pub record ReportsStd (c : Circumstances) (old new : List Pack) : Type 0 where
  pub keys : List Key
  pub listed : Lists key_cmp (IsOfStd c) keys
  pub reported : new ≡ old ++ map (key_pack c) keys

-- a prefix of the keys that hold is reported
pub record ReportsStdPrefix (c : Circumstances) (old new : List Pack) : Type 0 where
  pub keys : List Key
  pub listed : Lists key_cmp (IsOfStd c) keys
  pub number : ℕ
  pub reported : new ≡ old ++ map (key_pack c) (take number keys)
