-- The offset after a reading, and its break.
use Rattle.std.specs.Prelude.{ℕ, Result, Ok, Err}
use Rattle.deny_std_table.specs.declared.error.ReplacementError.{ReplacementError}
use Rattle.deny_std_table.specs.declared.spans.Read.{Read}

-- the offset after a reading, or its break
abbrev pub next_of : {A : Type 0} → Result (Read A) ReplacementError → Result ℕ ReplacementError
next_of (Ok given) = Ok given.next
next_of (Err e) = Err e

-- success of a reading, or its break
abbrev pub done_of : {A : Type 0} → Result A ReplacementError → Result (Unit {0}) ReplacementError
done_of (Ok given) = Ok tt
done_of (Err e) = Err e
