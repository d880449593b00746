use Rattle.std.proofs.Common.{◌≡◌, ◌^◌, ◌<◌, true, take, All}
use Rattle.std.specs.Char.{is_ascii_digit}
use Rattle.std.specs.Str.Parse.{digits_value}
use Rattle.deny_krates_sources.proofs.versions.written_number.Given as goal

abbrev pub invariant-loop-digit : goal.invariant-loop-digit
invariant-loop-digit l =
    (All (λ b. is_ascii_digit b ≡ true) (take l.digit-index l.digits))
    × (l.number ≡ digits_value 10 (take l.digit-index l.digits)) × (l.number < 2 ^ 32)
