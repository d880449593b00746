-- The built-in globs, and the file that holds them.
use Rattle.std.specs.Prelude.{◌+◌, ◌++◌, ℕ, List, [], ◌∷◌, codes, length, map}
use Rattle.deny_base.specs.declared.files.File.{File}
use Rattle.deny_spec.specs.Policy.{SpannedText}
use Rattle.deny_cfg_build.specs.declared.pattern.GlobPattern.{GlobPattern}
use Rattle.deny_cfg_build.specs.declared.pattern.GlobPattern.TheVariants.{Builtin}

unfoldable pub builtin_file : File
builtin_file = record {
  path = codes "builtin_globs.toml";
  source =
      codes "globs = [\"*.bash\", \"*.bat\", \"*.cmd\", \"*.fish\", \"*.js\", \"*.pl\", "
      ++ codes "\"*.ps1\", \"*.py\", \"*.rb\", \"*.sh\", \"*.vbs\", \"*.zsh\"]\n";
}

unfoldable pub builtin_texts : List (List ℕ)
builtin_texts =
    codes "*.bash" ∷ codes "*.bat" ∷ codes "*.cmd" ∷ codes "*.fish" ∷ codes "*.js" ∷ codes "*.pl" ∷ codes "*.ps1"
    ∷ codes "*.py" ∷ codes "*.rb" ∷ codes "*.sh" ∷ codes "*.vbs" ∷ codes "*.zsh" ∷ []

-- texts with their spans, where each span begins four bytes behind the end of the one before it
abbrev pub spanned_from : ℕ → List (List ℕ) → List SpannedText
spanned_from at [] = []
spanned_from at (text ∷ texts) =
    record { value = text; span = record { start = at; end = at + length text } }
    ∷ spanned_from (at + length text + 4) texts

unfoldable pub builtin_words : List SpannedText
builtin_words = spanned_from 10 builtin_texts

-- the built-in globs as patterns, where their file has this number
abbrev pub builtin_patterns : ℕ → List GlobPattern
builtin_patterns file = map (λ word. Builtin (word, file)) builtin_words
