use Rattle.std.proofs.Common.{◌≡◌, ℕ, suc, ◌<◌, ◌≤◌, [], length}
use denote.Text.{Utf8}
use denote.Shadow.{shadow}
use Rattle.deny_toml_grammar.specs.private.Lines.{lines}
use Rattle.deny_toml_grammar.proofs.lines.expressions.Given as goal

abbrev pub invariant-lines : goal.invariant-lines
invariant-lines l =
    shadow (Utf8 l.rest) × (l.total ≡ length l.fn.text) × (length l.rest ≤ l.total)
    × ((m : ℕ) × (length l.rest < m) × (lines (suc l.total) l.total [] l.fn.text ≡ lines m l.total l.found l.rest))

abbrev pub decreases-lines : goal.decreases-lines
decreases-lines l = length l.rest
