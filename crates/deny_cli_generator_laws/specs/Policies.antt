-- Texts as policies, whatever the number of their file, and on each day.
use Rattle.std.specs.Prelude.{◌≡◌, ℕ, List, Option, None}
use Rattle.deny_cfg.specs.PolicyText.{IsPolicyOf}
use Rattle.deny_cfg.specs.PolicyView.{policy_view}
use Rattle.deny_cfg.specs.declared.policy.Policy.{Policy}
use Rattle.deny_cfg_entries.specs.declared.day.Day.{Day}

-- the text is a policy without faults and without clashes, whichever day it is, also where none is told
abbrev pub IsPolicy : List ℕ → Type 0
IsPolicy text = (today : Option Day) (file : ℕ) → (said : Policy) × IsPolicyOf today text file said

-- no policy of the text checks for replacements by the standard library, and so none asks for a replacement table
abbrev pub ChecksNoReplacements : List ℕ → Type 0
ChecksNoReplacements text =
    (today : Option Day) (file : ℕ) (said : Policy) → IsPolicyOf today text file said
    → (policy_view said.bans).replacing ≡ None
