-- The loop over lines, step by step.
use Rattle.std.proofs.Common.{◌≡◌, ℕ, zero, suc, ◌-◌, ◌<◌, ◌==◌, true, false, List, [], ◌∷◌, ◌++◌, length, Some, None}
use Rattle.std.proofs.Common.{refl, arith}
use Rattle.deny_toml_grammar.specs.declared.expression.TomlExpression.{TomlExpression}
use Rattle.deny_toml_grammar.specs.private.Lexical.{skip_blank}
use Rattle.deny_toml_grammar.specs.private.Lines.{line, lines}

pub lines_zero : (total : ℕ) (found : List TomlExpression) (text : List ℕ) → lines 0 total found text ≡ None
unfolding lines
lines_zero total found text = refl

pub lines_end : (m total : ℕ) (found : List TomlExpression) (text : List ℕ) → 0 < m
    → (length (skip_blank text) == 0) ≡ true
    → lines m total found text ≡ Some found
unfolding lines
lines_end zero total found text some over = absurd (omega arith)
lines_end (suc m) total found text some over = rw over

pub lines_more : (m total : ℕ) (found : List TomlExpression) (text : List ℕ) (e : TomlExpression) (after : List ℕ)
    → 0 < m
    → (length (skip_blank text) == 0) ≡ false
    → line total (skip_blank text) ≡ Some (e, after) → lines m total found text ≡ lines (m - 1) total (found ++ e ∷ [])
    after
unfolding lines
lines_more zero total found text e after some other read = absurd (omega arith)
lines_more (suc m) total found text e after some other read =
    let less : suc m - 1 ≡ m = omega arith in
    rw (other, read, less)

pub lines_bad : (m total : ℕ) (found : List TomlExpression) (text : List ℕ) → (length (skip_blank text) == 0) ≡ false
    → line total (skip_blank text) ≡ None → lines m total found text ≡ None
unfolding lines
lines_bad zero total found text other none = refl
lines_bad (suc m) total found text other none = rw (other, none)
