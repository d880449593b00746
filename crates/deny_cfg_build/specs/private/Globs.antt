-- Globs that are read one after another.
use Rattle.std.specs.Prelude.{◌++◌, ℕ, List, [], ◌∷◌}
use Rattle.deny_globs.specs.Faults.{IsBadAt}
use Rattle.deny_globs.specs.Patterns.{Pattern}
use Rattle.deny_cfg_build.specs.declared.pattern.GlobPattern.{GlobPattern}
use Rattle.deny_cfg_build.specs.Globs.{IsGlobOf, AreGlobsOf}

-- a pattern and its glob are added behind the others, or the text is no glob and nothing is added
pub data Gathers (text : List ℕ) (pattern : GlobPattern) (patterns : List GlobPattern) (globs : List Pattern)
    : List GlobPattern → List Pattern → Type 0 where
  gathered : (glob : Pattern) → IsGlobOf text glob
      → Gathers text pattern patterns globs (patterns ++ pattern ∷ []) (globs ++ glob ∷ [])
  left_out : (byte : ℕ) → IsBadAt text byte → Gathers text pattern patterns globs patterns globs

-- these patterns are read too, behind any patterns that were read before
abbrev pub GathersMore : (GlobPattern → List ℕ) → List GlobPattern → List GlobPattern → List Pattern
    → List GlobPattern → List Pattern → Type 0
GathersMore text_of more patterns globs new set = (wanted : List GlobPattern) → AreGlobsOf text_of wanted patterns globs
    → AreGlobsOf text_of (wanted ++ more) new set
