-- The text has a line and its source at their spans, whose ends are character boundaries.
use Rattle.std.proofs.Common.{◌≡◌, ◌+◌, ◌-◌, ◌∙◌, ◌<◌, ◌++◌, ℕ, List, [], ◌∷◌, Contains, drop, get_or, length, map}
use Rattle.std.proofs.Common.{take, refl, sym, ap, subst, arith, append_assoc, length-append}
use Rattle.std.specs.Prelude.{codes}
use Rattle.std.specs.List.{AllZip}
use Rattle.std.specs.Str.{IsCharBoundary, IsUtf8}
use Rattle.std.proofs.Math.Seq.{drop-append_seam, get_or-append_seam, take-append_seam}
use Rattle.std.proofs.lemmas.List.{append-nil}
use Rattle.std.proofs.lemmas.Str.{IsCharBoundary-after_ascii, IsCharBoundary-before_ascii, IsCharBoundary-start}
use Rattle.deny_base_lists.proofs.Members.{Contains-first, Contains-rest}
use Rattle.semver.specs.Identifiers.{parts_text}
use Rattle.deny_krates_lock.proofs.TextLemmas.{lock_lines-cons}
use Rattle.deny_krates_lock.specs.Line.{before_source, line_span, lock_line, source_shown}
use Rattle.deny_krates_lock.specs.Text.{IsLineOf, ended_line, lock_lines}
use Rattle.deny_spec.specs.Graph.{Crate}

-- ---- parts of a text

part-is : (text before part behind : List ℕ) (start end : ℕ) → text ≡ before ++ (part ++ behind)
    → start ≡ length before → end ≡ length before + length part → take (end - start) (drop start text) ≡ part
part-is text before part behind start end is at_start at_end =
    let size : end - start ≡ length part = omega (arith, at_start, at_end) in
    (λ i. take (size i) (drop (at_start i) (is i)))
    ∙ (ap (λ rest. take (length part) rest) (drop-append_seam before (part ++ behind)) ∙ take-append_seam part behind)

-- in UTF-8 a character begins behind an ASCII byte, and in front of one
after_byte : (text before behind : List ℕ) (b at : ℕ) → IsUtf8 text → b < 128 → text ≡ before ++ b ∷ behind
    → at ≡ length before + 1 → IsCharBoundary text at
after_byte text before behind b at utf8 ascii is here =
    let size : length text ≡ length before + length (b ∷ behind) = ap length is ∙ length-append before (b ∷ behind) in
    let byte : get_or text (length before) 0 ≡ b =
    ap (λ bs. get_or bs (length before) 0) is ∙ get_or-append_seam before b behind 0 in
    subst (λ n. IsCharBoundary text n) (sym here)
    (IsCharBoundary-after_ascii text (length before) utf8 (omega (arith, size)) (omega (arith, byte, ascii)))

before_byte : (text before behind : List ℕ) (b at : ℕ) → b < 128 → text ≡ before ++ b ∷ behind → at ≡ length before
    → IsCharBoundary text at
before_byte text before behind b at ascii is here =
    let size : length text ≡ length before + length (b ∷ behind) = ap length is ∙ length-append before (b ∷ behind) in
    let byte : get_or text (length before) 0 ≡ b =
    ap (λ bs. get_or bs (length before) 0) is ∙ get_or-append_seam before b behind 0 in
    subst (λ n. IsCharBoundary text n) (sym here)
    (IsCharBoundary-before_ascii text (length before) (omega (arith, size)) (omega (arith, byte, ascii)))

-- ---- lines

-- lines end with a newline
last_newline : (c : Crate) (cs : List Crate) → (prefix : List ℕ) × (lock_lines (c ∷ cs) ≡ prefix ++ 10 ∷ [])
unfolding lock_lines
last_newline c [] = (lock_line c, append-nil (ended_line c))
last_newline c (d ∷ cs) =
    let rest = last_newline d cs in (
      ended_line c ++ rest.0,
      ap (λ lines. ended_line c ++ lines) rest.1 ∙ sym (append_assoc (ended_line c) rest.0 (10 ∷ [])),
    )

-- a character begins where lines end
line_starts : (text : List ℕ) (before : List Crate) (behind : List ℕ) → IsUtf8 text
    → text ≡ lock_lines before ++ behind → IsCharBoundary text (length (lock_lines before))
unfolding lock_lines
line_starts text [] behind utf8 is = IsCharBoundary-start text utf8
line_starts text (c ∷ before) behind utf8 is =
    let last = last_newline c before in
    let prefix : List ℕ = last.0 in
    let lines : List ℕ = lock_lines (c ∷ before) in
    let whole : lines ≡ prefix ++ 10 ∷ [] = last.1 in
    after_byte text prefix behind 10 (length lines) utf8 (omega arith)
    (is ∙ (ap (λ part. part ++ behind) whole ∙ append_assoc prefix (10 ∷ []) behind))
    (ap length whole ∙ length-append prefix (10 ∷ []))

-- the part of a line before the source, without the blank
prefix_of : Crate → List ℕ
prefix_of c = c.name ++ (codes " " ++ parts_text c.version)

before_source-is : (c : Crate) → before_source c ≡ prefix_of c ++ 32 ∷ []
unfolding prefix_of
before_source-is c =
    sym (append_assoc c.name (codes " " ++ parts_text c.version) (32 ∷ [])
    ∙ ap (λ rest. c.name ++ rest) (append_assoc (codes " ") (parts_text c.version) (32 ∷ [])))

module _ (text prefix behind : List ℕ) (c : Crate) (utf8 : IsUtf8 text) (is : text ≡ prefix ++ (ended_line c ++ behind))
    (starts : IsCharBoundary text (length prefix)) where
  line_behind : text ≡ prefix ++ (lock_line c ++ (10 ∷ behind))
  line_behind = is ∙ ap (λ rest. prefix ++ rest) (append_assoc (lock_line c) (10 ∷ []) behind)

  source_behind : text ≡ (prefix ++ before_source c) ++ (source_shown c ++ (10 ∷ behind))
  source_behind =
      line_behind
      ∙ (ap (λ rest. prefix ++ rest) (append_assoc (before_source c) (source_shown c) (10 ∷ behind))
      ∙ sym (append_assoc prefix (before_source c) (source_shown c ++ (10 ∷ behind))))

  line_long : length (lock_line c) ≡ length (before_source c) + length (source_shown c)
  line_long = length-append (before_source c) (source_shown c)

  line_ends : IsCharBoundary text (length prefix + length (lock_line c))
  line_ends = before_byte text (prefix ++ lock_line c) behind 10 (length prefix + length (lock_line c)) (omega arith)
      (line_behind ∙ sym (append_assoc prefix (lock_line c) (10 ∷ behind))) (sym (length-append prefix (lock_line c)))

  source_starts : IsCharBoundary text (length prefix + length (before_source c))
  source_starts =
      let rest : List ℕ = source_shown c ++ (10 ∷ behind) in
      let apart : prefix ++ before_source c ≡ (prefix ++ prefix_of c) ++ 32 ∷ [] =
      ap (λ part. prefix ++ part) (before_source-is c) ∙ sym (append_assoc prefix (prefix_of c) (32 ∷ [])) in
      let blank : text ≡ (prefix ++ prefix_of c) ++ 32 ∷ rest =
      source_behind ∙ (ap (λ part. part ++ rest) apart ∙ append_assoc (prefix ++ prefix_of c) (32 ∷ []) rest) in
      let long : length (before_source c) ≡ length (prefix_of c) + 1 =
      ap length (before_source-is c) ∙ length-append (prefix_of c) (32 ∷ []) in
      after_byte text (prefix ++ prefix_of c) rest 32 (length prefix + length (before_source c))
      utf8 (omega arith) blank
      (omega (arith, long, length-append prefix (prefix_of c)))

  -- the text has a crate's line behind the lines in front of it
  line-holds : IsLineOf text c (line_span (length prefix) c)
  unfolding line_span
  line-holds = record {
    line = record {
      upward = omega arith;
      starts = starts;
      ends = line_ends;
      is = part-is text prefix (lock_line c) (10 ∷ behind) (length prefix) (length prefix + length (lock_line c))
          line_behind refl refl;
    };
    source = record {
      upward = omega (arith, line_long);
      starts = source_starts;
      ends = line_ends;
      is = part-is text (prefix ++ before_source c) (source_shown c) (10 ∷ behind)
          (length prefix + length (before_source c)) (length prefix + length (lock_line c)) source_behind
          (sym (length-append prefix (before_source c)))
          (omega (arith, line_long, length-append prefix (before_source c)));
    };
  }

pub line-holds_in : (text : List ℕ) (before behind : List Crate) (c : Crate) → IsUtf8 text
    → text ≡ lock_lines before ++ lock_lines (c ∷ behind) → IsLineOf text c (line_span (length (lock_lines before)) c)
line-holds_in text before behind c utf8 is =
    line-holds text (lock_lines before) (lock_lines behind) c utf8
    (is ∙ ap (λ lines. lock_lines before ++ lines) (lock_lines-cons c behind))
    (line_starts text before (lock_lines (c ∷ behind)) utf8 is)

pub AllZip-made : {X Y : Type 0} (R : X → Y → Type 0) (f : X → Y) (xs : List X) → ((x : X) → Contains xs x → R x (f x))
    → AllZip R xs (map f xs)
AllZip-made R f [] each = tt
AllZip-made R f (x ∷ xs) each =
    (each x (Contains-first x xs), AllZip-made R f xs (λ y is. each y (Contains-rest x xs y is)))
