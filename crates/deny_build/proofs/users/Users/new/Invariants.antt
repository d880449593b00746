use Rattle.std.proofs.Common.{◌≡◌, filter, take}
use Rattle.deny_base.specs.declared.span.Span.{Span}
use Rattle.deny_build.specs.private.UsersOf.{uses_span, users_at}
use Rattle.deny_build.proofs.users.Users.new.Given as goal

abbrev pub invariant-loop-at : goal.invariant-loop-at
invariant-loop-at l = (span : Span) → users_at l.groups span ≡ filter (uses_span span) (take l.at-index l.all)
