use Rattle.std.proofs.Common.{◌≡◌, filter}
use Rattle.std.proofs.lemmas.Result.{IfOk-weaker}
use Rattle.deny_base.specs.declared.span.Span.{Span}
use Rattle.deny_build.specs.ScanningOf.{scanning_of}
use Rattle.deny_build.specs.private.UsersOf.{AreUsers, uses_span, users_at}
use Rattle.deny_build.proofs.ScanLemmas.{users_are}
use Rattle.deny_build.proofs.users.users_of.Goals as goal

pub returns : goal.returns
returns c =
    let l = scanning_of c.args._ctx.now in
    let all = c.args.all.now in
    IfOk-weaker c.new.result (λ users. (span : Span) → users_at users.groups span ≡ filter (uses_span span) all)
    (AreUsers l)
    (λ users grouped. users_are l all users c.requires grouped) c.new.ensures
