-- The bytes between words.
use Rattle.std.specs.Prelude.{◌==◌, ◌||◌, ℕ, Bool}

-- space and tab
unfoldable pub is_blank : ℕ → Bool
is_blank b = b == 32 || b == 9
