-- Worked examples: faults of extensions and paths, and the spans of the built-in globs.
use Rattle.std.proofs.Common.{◌≡◌, ◌-◌, ℕ, List, [], None, Some, drop, map, refl, take}
use Rattle.std.specs.Prelude.{codes}
use Rattle.deny_base.specs.declared.span.Span.{Span}
use Rattle.deny_spec.specs.Policy.{SpannedText}
use Rattle.deny_cfg_tables.specs.declared.bans.cfg.bypass.BypassPath.{BypassPath}
use Rattle.deny_cfg_build.specs.Builtin.{builtin_file, builtin_texts, builtin_words}
use Rattle.deny_cfg_build.specs.Wrong.{extension_fault, path_fault}
use Rattle.deny_cfg_build.specs.declared.wrong.BuildFault.TheVariants as fault

span : ℕ → ℕ → Span
span start end = record { start = start; end = end }

word : List ℕ → ℕ → ℕ → SpannedText
word text start end = record { value = text; span = record { start = start; end = end } }

file : List ℕ → BypassPath
file path = record { path = record { value = path; span = record { start = 1; end = 9 } }; checksum = None }

-- an extension of letters and digits alone, and an empty one, have no fault
letters : extension_fault (codes "\"mp4\"") (word (codes "mp4") 1 4) ≡ None
unfolding extension_fault word
letters = refl

nothing : extension_fault (codes "\"\"") (word [] 1 1) ≡ None
unfolding extension_fault word
nothing = refl

-- the first character that is neither a letter nor a digit
hyphen : extension_fault (codes "\"s-h-x\"") (word (codes "s-h-x") 1 6)
    ≡ Some (fault.NoLetter (span 1 6) (span 2 3))
unfolding extension_fault word span
hyphen = refl

-- in a multi-line string, behind the line end at its start
line_end : extension_fault (codes "\"\"\"\ns-h\"\"\"") (word (codes "s-h") 3 7)
    ≡ Some (fault.NoLetter (span 3 7) (span 5 6))
unfolding extension_fault word span
line_end = refl

two_bytes : extension_fault (codes "\"\"\"\r\ns-h\"\"\"") (word (codes "s-h") 3 8)
    ≡ Some (fault.NoLetter (span 3 8) (span 6 7))
unfolding extension_fault word span
two_bytes = refl

-- with an escape, the span of the whole extension
escaped : extension_fault (codes "\"s\\u002Dh\"") (word (codes "s-h") 1 9)
    ≡ Some (fault.NoLetter (span 1 9) (span 1 9))
unfolding extension_fault word span
escaped = refl

-- a character that is not ASCII, whatever stands before it
past_ascii : extension_fault (codes "\"-é\"") (word (codes "-é") 1 4) ≡ Some (fault.NonAscii (span 1 4))
unfolding extension_fault word span
past_ascii = refl

absolute : path_fault (file (codes "/a")) ≡ Some (fault.Absolute (span 1 9))
unfolding path_fault file span
absolute = refl

relative : path_fault (file (codes "a/b")) ≡ None
unfolding path_fault file
relative = refl

no_path : path_fault (file []) ≡ None
unfolding path_fault file
no_path = refl

-- the file has each built-in glob at its span
in_file :
    map (λ (w : SpannedText). take (w.span.end - w.span.start) (drop w.span.start builtin_file.source)) builtin_words
    ≡ builtin_texts
unfolding builtin_file builtin_words builtin_texts
in_file = refl
