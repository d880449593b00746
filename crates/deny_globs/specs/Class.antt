-- Classes of characters: their ranges, and the characters that they take.
use Rattle.std.specs.Prelude.{ℕ, Bool, ◌&&◌, nat_le, if◌then◌else◌, not}
use Rattle.std.specs.List.{list_any}
use Rattle.deny_globs.specs.declared.token.CharacterRange.{CharacterRange}
use Rattle.deny_globs.specs.declared.token.CharacterClass.{CharacterClass}

-- whether the character is in the range
abbrev pub in_range : ℕ → CharacterRange → Bool
in_range c range = nat_le range.first c && nat_le c range.last

-- whether the character is one that the class takes
abbrev pub class_takes : CharacterClass → ℕ → Bool
class_takes class c = if class.negated then not (list_any (in_range c) class.ranges) else list_any (in_range c)
    class.ranges
