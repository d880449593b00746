use Rattle.std.proofs.Common.{◌≡◌, ◌-◌, ◌≤◌, [], length}
use denote.Text.{Utf8}
use denote.Shadow.{shadow}
use Rattle.deny_toml_grammar.specs.private.Keys.{key_after}
use Rattle.deny_toml_grammar.proofs.keys.key.Given as goal

abbrev pub invariant-parts : goal.invariant-parts
invariant-parts l =
    shadow (Utf8 l.rest) × (length l.rest ≤ length l.text) ×
    (key_after 64 l.total [] l.text ≡ key_after (64 - l._part) l.total l.path l.rest)
