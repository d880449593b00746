-- The prefixes of arguments that are options.
use Rattle.std.proofs.Common.{◌≡◌, ◌∙◌, ℕ, true, false, List, Option, None, Some, ap, drop, refl, sym}
use Rattle.std.specs.Prelude.{◌==◌, MatchOption}
use Rattle.std.specs.Borrow.{Bor}
use Rattle.std.specs.List.{starts_with}
use Rattle.std.specs.Option.{option_copied}
use Rattle.std.specs.Str.Pattern.{FindsTextPrefix, StripsPrefix}
use Rattle.std.proofs.lemmas.Bool.Decides.{Decides-eqb}
use Rattle.std.proofs.lemmas.Slice.Eq.{starts_is}
use Rattle.std.proofs.lemmas.Str.Pattern.{starts_text}
use Rattle.deny_cli.specs.Options.{behind}

-- `strip_prefix` gives what is behind a prefix
pub behind_is : (result : Option (Bor (List ℕ))) (prefix argument : List ℕ)
    → MatchOption result (FindsTextPrefix prefix argument None)
    (λ x. StripsPrefix (FindsTextPrefix prefix) argument x.now)
    → option_copied result ≡ behind prefix argument
unfolding behind
behind_is None prefix argument lacks = rw (sym (starts_text false prefix argument lacks)) refl
behind_is (Some x) prefix argument strips =
    let begins : starts_with (λ a b. a == b) argument prefix ≡ true = (starts_is Decides-eqb argument prefix _ refl).1
    (drop strips.0 argument) strips.1.1 in
    rw begins (ap (λ t. Some t) (strips.2 ∙ ap (λ n. drop n argument) strips.1.0))
