use Rattle.std.proofs.Common.{ℕ, ◌<◌, ◌≤◌, length, string_bytes}
use denote.Text.{Utf8}
use denote.Shadow.{shadow}
use Rattle.deny_toml_grammar.proofs.StringsLaws.{HasRead}
use Rattle.deny_toml_grammar.proofs.strings.owned_content.Given as goal

abbrev pub invariant-pieces : goal.invariant-pieces
invariant-pieces l =
    shadow (Utf8 l.rest) × (length l.rest ≤ length l.fn.text)
    × ((n : ℕ) → length l.fn.text < n → HasRead l.delimiter l.multi n l.fn.text (string_bytes l.bytes) l.rest)

abbrev pub decreases-pieces : goal.decreases-pieces
decreases-pieces l = length l.rest
