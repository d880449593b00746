-- The length and the spans of a line.
use Rattle.std.proofs.Common.{◌≡◌, ◌+◌, ◌∙◌, ℕ, List, ◌++◌, length, ap, arith, length-append}
use Rattle.std.specs.Prelude.{codes}
use Rattle.semver.specs.Identifiers.{parts_text}
use Rattle.deny_krates.specs.Bounds.{lock_line_length}
use Rattle.deny_krates_lock.specs.Line.{before_source, line_span, lock_line, source_shown}
use Rattle.deny_krates_lock.specs.declared.line.LockSpan.{LockSpan}
use Rattle.deny_spec.specs.Graph.{Crate}

length-before_source : (c : Crate) → length (before_source c) ≡ length c.name + (length (parts_text c.version) + 2)
length-before_source c =
    length-append c.name (codes " " ++ (parts_text c.version ++ codes " "))
    ∙ ap (λ n. length c.name + n) (length-append (codes " ") (parts_text c.version ++ codes " ")
    ∙ ap (λ n. 1 + n) (length-append (parts_text c.version) (codes " ")) ∙ omega arith)

-- a line with its newline is one byte longer
pub length-lock_line : (c : Crate) → length (lock_line c) + 1 ≡ lock_line_length c
length-lock_line c =
    let prefix : length (before_source c) ≡ length c.name + (length (parts_text c.version) + 2) =
    length-before_source c in
    let all : length (lock_line c) ≡ length (before_source c) + length (source_shown c) =
    length-append (before_source c) (source_shown c) in
    omega (arith, prefix, all)

abbrev pub span_from : ℕ → ℕ → ℕ → LockSpan
span_from start source end = record {
  total = record { start = start; end = end };
  source = record { start = source; end = end };
}

-- the spans of a line by the byte offsets before it, at its source and behind it
pub span-is : (c : Crate) (old prefix text : List ℕ) (start source end : ℕ) → prefix ≡ old ++ before_source c
    → text ≡ prefix ++ source_shown c → start ≡ length old → source ≡ length prefix → end ≡ length text
    → span_from start source end ≡ line_span (length old) c
unfolding line_span
span-is c old prefix text start source end first second at_start at_source at_end =
    let prefix_long : source ≡ length old + length (before_source c) =
    at_source ∙ (ap length first ∙ length-append old (before_source c)) in
    let line_long : length (lock_line c) ≡ length (before_source c) + length (source_shown c) =
    length-append (before_source c) (source_shown c) in
    let text_long : end ≡ length prefix + length (source_shown c) =
    at_end ∙ (ap length second ∙ length-append prefix (source_shown c)) in
    let whole : end ≡ length old + length (lock_line c) = omega (arith, prefix_long, line_long, text_long, at_source) in
    λ i. span_from (at_start i) (prefix_long i) (whole i)
