-- The name of an entry.
use Rattle.std.specs.Prelude.{Result}
use Rattle.std.specs.Prelude.{Ok, Err}
use Rattle.deny_std_table.specs.declared.error.ReplacementError.{ReplacementError}
use Rattle.deny_std_table.specs.declared.spans.TextSpan.{TextSpan}
use Rattle.deny_std_table.specs.Entries.{Entry}

-- the name of an entry, or its break
abbrev pub name_of : Result Entry ReplacementError → Result TextSpan ReplacementError
name_of (Ok e) = Ok e.name
name_of (Err e) = Err e
