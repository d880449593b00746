-- Bytes that occur in a text at an offset.
use Rattle.std.proofs.Common.{◌≡◌, ℕ, ◌+◌, ◌-◌, ◌<◌, ◌≤◌, List, [], ◌∷◌, ◌++◌, length, get_or, IsUtf8, sym, ap, subst}
use Rattle.std.proofs.Common.{◌∙◌, arith, append_assoc, append-nil, length-append}
use Rattle.std.proofs.Math.Seq.{drop-append_seam, take-append_seam, get_or-append_seam}
use Rattle.std.proofs.lemmas.Str.{IsCharBoundary-before_ascii, IsCharBoundary-after_ascii}
use Rattle.std.specs.Str.{IsCharBoundary}
use Rattle.deny_toml_grammar.specs.Expression.{span_of}
use Rattle.deny_toml_grammar.specs.Spans.{IsSpan, bytes_in}

-- The bytes occur in the text at the offset.
pub data HasAt (text : List ℕ) : ℕ → List ℕ → Type 0 where
  holds : (prefix cs tail : List ℕ) → text ≡ prefix ++ (cs ++ tail) → HasAt text (length prefix) cs

pub holds_whole : (text : List ℕ) → HasAt text 0 text
holds_whole text = holds [] text [] (sym (append-nil text))

pub holds_prefix : (text : List ℕ) (at : ℕ) (xs ys : List ℕ) → HasAt text at (xs ++ ys) → HasAt text at xs
holds_prefix text at xs ys (holds prefix _ tail e) = holds prefix xs (ys ++ tail)
    (e ∙ ap (λ t. prefix ++ t) (append_assoc xs ys tail))

pub holds_rest : (text : List ℕ) (at : ℕ) (xs ys : List ℕ) → HasAt text at (xs ++ ys) → HasAt text (at + length xs) ys
holds_rest text at xs ys (holds prefix _ tail e) =
    subst (λ n. HasAt text n ys) (length-append prefix xs)
    (holds (prefix ++ xs) ys tail (e ∙ ap (λ t. prefix ++ t) (append_assoc xs ys tail)
    ∙ sym (append_assoc prefix xs (ys ++ tail))))

pub holds_byte : (text : List ℕ) (at c : ℕ) (cs : List ℕ) → HasAt text at (c ∷ cs) → get_or text at 0 ≡ c
holds_byte text at c cs (holds prefix _ tail e) = rw e (get_or-append_seam prefix c (cs ++ tail) 0)

holds_within : (text : List ℕ) (at : ℕ) (cs : List ℕ) → HasAt text at cs → at + length cs ≤ length text
holds_within text at cs (holds prefix _ tail e) = rw e (omega
    (arith, length-append prefix (cs ++ tail), length-append cs tail))

pub holds_bytes : (text : List ℕ) (at : ℕ) (cs : List ℕ) → HasAt text at cs
    → bytes_in text (span_of at (length cs)) ≡ cs
holds_bytes text at cs (holds prefix _ tail e) =
    let count : (length prefix + length cs) - length prefix ≡ length cs = omega arith in
    rw (count, e, drop-append_seam prefix (cs ++ tail)) (take-append_seam cs tail)

-- an ASCII byte lies between two character boundaries
pub boundary_before : (text : List ℕ) (at c : ℕ) (cs : List ℕ) → HasAt text at (c ∷ cs) → c < 128
    → IsCharBoundary text at
boundary_before text at c cs here ascii =
    IsCharBoundary-before_ascii text at (omega (arith, holds_within text at (c ∷ cs) here))
    (omega (arith, holds_byte text at c cs here))

pub boundary_after : (text : List ℕ) (at offset c : ℕ) (cs : List ℕ) → IsUtf8 text → HasAt text at (c ∷ cs) → c < 128
    → at + 1 ≡ offset → IsCharBoundary text offset
boundary_after text at offset c cs utf8 here ascii same =
    subst (IsCharBoundary text) same (IsCharBoundary-after_ascii text at utf8
    (omega (arith, holds_within text at (c ∷ cs) here)) (omega (arith, holds_byte text at c cs here)))

pub span_between : (text : List ℕ) (at len : ℕ) → IsCharBoundary text at → IsCharBoundary text (at + len)
    → IsSpan text (span_of at len)
span_between text at len from to = record { ordered = omega arith; within = to.0; starts = from; ends = to }
