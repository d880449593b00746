-- Which keys hold, by their codes, and which keys a report has.
use Rattle.std.specs.Prelude.{Bool, IsTrue, List, Contains}
use Rattle.deny_base_lists.specs.Ascending.{Lists}
use Rattle.deny_base.specs.KeyOrder.{key_cmp}
use Rattle.deny_base.specs.declared.code.DiagnosticCode.{DiagnosticCode}
use Rattle.deny_base.specs.declared.code.DiagnosticCode.TheVariants.{Deprecated, Bans, License, Expired}
use Rattle.deny_base.specs.declared.key.Key.{Key}
use Rattle.deny_base.specs.declared.key.Section.{Section}
use Rattle.deny_spec.specs.Expired.{expired_keys}
use Rattle.deny_spec_report.specs.Circumstances.{Circumstances}
use Rattle.deny_spec_report.specs.EachCode.{HoldsAs, LicenseHolds}
use Rattle.deny_spec_report.specs.Facts.{Facts, AreFacts}
use Rattle.deny_spec_report.specs.Packages.{deprecated_keys_in}

abbrev pub HoldsBy : DiagnosticCode → Circumstances → Facts → Key → Type 0
HoldsBy Deprecated c facts key = Contains (deprecated_keys_in c) key
HoldsBy (Bans code) c facts key = HoldsAs code c facts key
HoldsBy (License code) c facts key = LicenseHolds code c.licensing c.graph key
HoldsBy Expired c facts key = Contains (expired_keys c.expired) key

abbrev pub Holds : Circumstances → Facts → Key → Type 0
Holds c facts key = HoldsBy key.code c facts key

-- a key holds, and is in a section of the check, or of the policy itself, whose sections pass this test
abbrev pub HoldsIn : (Section → Bool) → Circumstances → Facts → Key → Type 0
HoldsIn mine c facts key = IsTrue (mine key.section) × Holds c facts key

-- these are all keys that hold in the sections of one check, or of the policy itself, ascending, each once
abbrev pub ListsOwn : (Section → Bool) → Circumstances → Facts → List Key → Type 0
ListsOwn mine c facts keys = Lists key_cmp (HoldsIn mine c facts) keys

-- these are the keys of a report: all that hold by true facts, ascending, each once
pub record AreKeys (c : Circumstances) (keys : List Key) : Type 0 where
  pub facts : Facts
  pub true_facts : AreFacts c facts
  pub listed : Lists key_cmp (Holds c facts) keys

-- these are the keys of one check: all that hold in its sections by true facts, ascending, each once
pub record AreOwnKeys (mine : Section → Bool) (c : Circumstances) (keys : List Key) : Type 0 where
  pub facts : Facts
  pub true_facts : AreFacts c facts
  pub listed : ListsOwn mine c facts keys
