-- The loop over the parts of a key, step by step.
use Rattle.std.proofs.Common.{◌≡◌, ℕ, zero, suc, ◌-◌, ◌<◌, ◌==◌, true, false, List, [], ◌∷◌, ◌++◌, drop, Some, None}
use Rattle.std.proofs.Common.{refl, arith}
use Rattle.deny_toml_grammar.specs.declared.parts.Key.{Key}
use Rattle.deny_toml_grammar.specs.Lexical.{first, skip_spaces}
use Rattle.deny_toml_grammar.specs.private.Keys.{simple_key, key_after}

pub key_after_zero : (total : ℕ) (found : List Key) (text : List ℕ) → key_after 0 total found text ≡ None
unfolding key_after
key_after_zero total found text = refl

pub key_after_none : (n total : ℕ) (found : List Key) (text : List ℕ) → simple_key total text ≡ None
    → key_after n total found text ≡ None
unfolding key_after
key_after_none zero total found text none = refl
key_after_none (suc n) total found text none = rw none

pub key_after_last : (n total : ℕ) (found : List Key) (text after : List ℕ) (part : Key) → 0 < n
    → simple_key total text ≡ Some (part, after)
    → (first (skip_spaces after) == 46) ≡ false → key_after n total found text ≡ Some
    (found ++ part ∷ [], skip_spaces after)
unfolding key_after
key_after_last zero total found text after part some read last = absurd (omega arith)
key_after_last (suc n) total found text after part some read last = rw (read, last)

pub key_after_more : (n total : ℕ) (found : List Key) (text after : List ℕ) (part : Key) → 0 < n
    → simple_key total text ≡ Some (part, after)
    → (first (skip_spaces after) == 46) ≡ true → key_after n total found text ≡ key_after (n - 1) total
    (found ++ part ∷ []) (skip_spaces (drop 1 (skip_spaces after)))
unfolding key_after
key_after_more zero total found text after part some read more = absurd (omega arith)
key_after_more (suc n) total found text after part some read more = let less : suc n - 1 ≡ n =
    omega arith in rw (read, more, less)
