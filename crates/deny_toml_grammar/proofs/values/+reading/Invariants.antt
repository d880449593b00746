use Rattle.std.proofs.Common.{◌≡◌, ℕ, ◌+◌, ◌*◌, ◌<◌, ◌≤◌, [], length}
use denote.Text.{Utf8}
use denote.Shadow.{shadow}
use Rattle.deny_toml_grammar.specs.private.Values.{value, elements, members}
use Rattle.deny_toml_grammar.proofs.values.+reading.Given as goal

abbrev pub decreases-value : goal.decreases-value
decreases-value l = 4 * l.depth

abbrev pub decreases-array : goal.decreases-array
decreases-array l = 4 * l.depth + 1

abbrev pub decreases-assignment : goal.decreases-assignment
decreases-assignment l = 4 * l.depth + 1

abbrev pub decreases-members : goal.decreases-members
decreases-members l = 4 * l.depth + 2

abbrev pub decreases-inline_table : goal.decreases-inline_table
decreases-inline_table l = 4 * l.depth + 3

abbrev pub invariant-array-elements : goal.invariant-array-elements
invariant-array-elements l =
    shadow (Utf8 l.rest) × (length l.rest ≤ length l.fn.text)
    × ((n : ℕ) → length l.fn.text < n → (m : ℕ) × (length l.rest < m)
    × (elements (value l.fn.depth l.fn.total) n [] l.fn.text ≡ elements (value l.fn.depth l.fn.total) m l.found l.rest))

abbrev pub decreases-array-elements : goal.decreases-array-elements
decreases-array-elements l = length l.rest

abbrev pub invariant-members-members : goal.invariant-members-members
invariant-members-members l =
    shadow (Utf8 l.rest) × (length l.rest ≤ length l.fn.text)
    × ((n : ℕ) → length l.fn.text < n → (m : ℕ) × (length l.rest < m)
    × (members (value l.fn.depth l.fn.total) n l.fn.total [] l.fn.text ≡ members (value l.fn.depth l.fn.total) m
    l.fn.total l.found l.rest))

abbrev pub decreases-members-members : goal.decreases-members-members
decreases-members-members l = length l.rest
