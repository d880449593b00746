-- The number of bytes of the length of a text.
use Rattle.std.specs.Prelude.{ℕ}
use Rattle.deny_std_table.specs.declared.width.Width.{Width}
use Rattle.deny_std_table.specs.declared.width.Width.TheVariants.{One, Two}

abbrev pub width_of : Width → ℕ
width_of One = 1
width_of Two = 2
