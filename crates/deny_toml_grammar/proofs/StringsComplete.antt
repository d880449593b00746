-- The content of a string of the grammar is read.
use Rattle.std.proofs.Common.{◌≡◌, ℕ, zero, suc, ◌+◌, ◌<◌, ◌≤◌, ◌⊎◌, Bool, true, false, ◌&&◌, ◌==◌, nat_lt, nat_le}
use Rattle.std.proofs.Common.{if◌then◌else◌, List, [], ◌∷◌, ◌++◌, length, take, drop, Some, None, refl, sym, ap, ◌∙◌}
use Rattle.std.proofs.Common.{inl, inr, arith, append_assoc, take_at, drop_at, length-append}
use Rattle.std.proofs.lemmas.Bool.{cases_Bool}
use Rattle.std.proofs.lemmas.Bool.Decides.{nat_tests}
use Rattle.std.specs.List.{prefix_len}
use Rattle.std.specs.Char.{encode_utf8}
use Rattle.std.specs.Str.Parse.{digits_value}
use Rattle.deny_toml_grammar.specs.Lexical.{first, is_space, is_plain, starts_newline, skip_spaces, skip_from}
use Rattle.deny_toml_grammar.specs.Strings.{hex_len, writes_scalar, hex_escape, escape_char, escape, special, content}
use Rattle.deny_toml_grammar.specs.GrammarStrings.{AreSpaces, IsNewline, IsBlank, IsInk, IsEscape, IsContent}
use Rattle.deny_toml_grammar.specs.GrammarStrings.{is_delimiter}
use Rattle.deny_toml_grammar.specs.GrammarStrings as grammar
use Rattle.deny_toml_grammar.proofs.Blanks.{skip_spaces-run, skip_from-blank, IsBlank-spaces, skip_from-ink}
use Rattle.deny_toml_grammar.proofs.StringsLaws.{content_plain, content_special}

-- the delimiters at the end of a string
abbrev pub closing : Bool → ℕ → List ℕ
closing multi d = if multi then d ∷ (d ∷ (d ∷ [])) else d ∷ []

-- the number of delimiters at the start
abbrev pub run : ℕ → List ℕ → ℕ
run d cs = prefix_len (λ c. c == d) cs

-- a run of delimiters that is text, or ends the string, after this many delimiters before it
abbrev pub RunFits : ℕ → ℕ → Type 0
RunFits before n = (n + before ≤ 2) ⊎ ((3 ≤ n) × (n + before ≤ 5))

run_end : (d : ℕ) (rest : List ℕ) → (first rest == d) ≡ false → run d rest ≡ 0
run_end d [] other = refl
run_end d (c ∷ rest) other = rw other

run_closing : (d : ℕ) (rest : List ℕ) → (first rest == d) ≡ false → run d (d ∷ (d ∷ (d ∷ rest))) ≡ 3
run_closing d rest other =
    let same : (d == d) ≡ true = grind (arith, nat_tests) in
    rw (same, run_end d rest other)

run_fits : (d : ℕ) (multi : Bool) (before : ℕ) (cs vs rest : List ℕ) → is_delimiter d ≡ true
    → IsContent d multi before cs vs → before ≤ 2 → (first rest == d) ≡ false
    → RunFits before (run d (cs ++ (d ∷ (d ∷ (d ∷ rest)))))
run_fits d multi before cs vs rest is_d (grammar.end _) room other =
    rw (run_closing d rest other) (inr (omega arith, omega arith))
run_fits d multi before cs vs rest is_d (grammar.plain _ c cs' vs' plain more) room other =
    let not_d : (c == d) ≡ false = grind (arith, nat_tests) in rw not_d (inl (omega arith))
run_fits d multi before cs vs rest is_d (grammar.newline _ cs' vs' is_multi more) room other =
    let not_d : (13 == d) ≡ false = grind (arith, nat_tests) in rw not_d (inl (omega arith))
run_fits d multi before cs vs rest is_d (grammar.quotes _ cs' vs' is_multi few more) room other =
    let same : (d == d) ≡ true = grind (arith, nat_tests) in
    rw same (elim (run_fits d multi (before + 1) cs' vs' rest is_d more (omega arith) other)
    [ inl text ↦ inl (omega arith) | inr ends ↦ inr (omega arith, omega arith) ])
run_fits d multi before cs vs rest is_d (grammar.escape _ c escaped cs' vs' quote is_escape more) room other =
    let not_d : (92 == d) ≡ false = grind (arith, nat_tests) in rw not_d (inl (omega arith))
run_fits d multi before cs vs rest is_d (grammar.cut _ spaces end blank cs' vs' is_multi quote are_spaces is_end
    is_blank ink more) room other =
    let not_d : (92 == d) ≡ false = grind (arith, nat_tests) in rw not_d (inl (omega arith))

-- the closing delimiters end a string
special_closing : (d : ℕ) (multi : Bool) (rest : List ℕ) → (multi ≡ true → (first rest == d) ≡ false)
    → special d multi (closing multi d ++ rest) ≡ Some (None, rest)
unfolding special
special_closing d true rest other =
    let same : (d == d) ≡ true = grind (arith, nat_tests) in
    rw (same, run_end d rest (other refl))
special_closing d false rest other =
    let same : (d == d) ≡ true = grind (arith, nat_tests) in
    rw same

-- one or two delimiters are text
special_quotes : (d : ℕ) (multi : Bool) (before : ℕ) (more : List ℕ) → multi ≡ true → before < 2
    → RunFits (before + 1) (run d more)
    → special d multi (d ∷ more) ≡ Some (Some (d ∷ []), more)
unfolding special
special_quotes d multi before more is_multi few fits =
    let same : (d == d) ≡ true = grind (arith, nat_tests) in
    let not_three : (1 + run d more == 3) ≡ false = elim fits
    [ inl text ↦ grind (arith, nat_tests) | inr ends ↦ grind (arith, nat_tests) ] in
    let few_enough : nat_lt (1 + run d more) 6 ≡ true = elim fits
    [ inl text ↦ grind (arith, nat_tests) | inr ends ↦ grind (arith, nat_tests) ] in
    rw (is_multi, same, not_three, few_enough)

hex_escape-digits : (n : ℕ) (digits more : List ℕ) → length digits ≡ n → writes_scalar digits ≡ true
    → hex_escape n (digits ++ more) ≡ Some (digits_value 16 digits, more)
unfolding hex_escape
hex_escape-digits n digits more len writes =
    let enough : nat_le n (length (digits ++ more)) ≡ true = grind (arith, nat_tests, length-append digits more) in
    let prefix : take n (digits ++ more) ≡ digits = take_at digits more n len in
    let back : drop n (digits ++ more) ≡ more = drop_at digits more n len in
    rw (prefix, back, enough, writes)

escape_char-complete : (escaped more : List ℕ) (c : ℕ) → IsEscape escaped c
    → escape_char (escaped ++ more) ≡ Some (c, more)
unfolding escape_char
escape_char-complete escaped more v (grammar.letter c _ means) =
    let none : nat_lt 0 (hex_len c) ≡ false = grind (arith, nat_tests) in
    rw (none, means)
escape_char-complete escaped more c (grammar.short digits len writes) = hex_escape-digits 4 digits more len writes
escape_char-complete escaped more c (grammar.long digits len writes) = hex_escape-digits 8 digits more len writes

-- an escape begins with ink
escape_ink : (escaped more : List ℕ) (c : ℕ) → IsEscape escaped c → (is_space (first (escaped ++ more)) ≡ false)
    × (starts_newline (escaped ++ more) ≡ false)
escape_ink escaped more v (grammar.letter c _ means) = (grind (arith, nat_tests), grind (arith, nat_tests))
escape_ink escaped more c (grammar.short digits len writes) = (refl, refl)
escape_ink escaped more c (grammar.long digits len writes) = (refl, refl)

escape-complete : (multi : Bool) (escaped more : List ℕ) (c : ℕ) → IsEscape escaped c
    → escape multi (escaped ++ more) ≡ Some (encode_utf8 c, more)
unfolding escape
escape-complete multi escaped more c is_escape =
    let (no_space, no_newline) = escape_ink escaped more c is_escape in
    let here : skip_spaces (escaped ++ more) ≡ escaped ++ more = skip_spaces-run [] (escaped ++ more) refl no_space in
    let no_cut : (multi && starts_newline (escaped ++ more)) ≡ false =
    elim (cases_Bool multi) [ inl m ↦ rw (m, no_newline) refl | inr m ↦ rw m refl ] in
    rw (here, no_cut, escape_char-complete escaped more c is_escape)

newline_starts : (end more : List ℕ) → IsNewline end → (starts_newline (end ++ more) ≡ true)
    × (is_space (first (end ++ more)) ≡ false)
newline_starts end more grammar.line_feed = (refl, refl)
newline_starts end more grammar.both = (refl, refl)

escape-cut : (spaces end blank rest : List ℕ) → AreSpaces spaces → IsNewline end → IsBlank false blank → IsInk rest
    → escape true (spaces ++ (end ++ (blank ++ rest))) ≡ Some ([], rest)
unfolding escape
escape-cut spaces end blank rest are_spaces is_end is_blank ink =
    let (starts, no_space) = newline_starts end (blank ++ rest) is_end in
    let here : skip_spaces (spaces ++ (end ++ (blank ++ rest))) ≡ end ++ (blank ++ rest) =
    skip_spaces-run spaces (end ++ (blank ++ rest)) are_spaces no_space in
    let whole : IsBlank false (spaces ++ (end ++ blank)) = IsBlank-spaces false spaces (end ++ blank) are_spaces
    (grammar.newline end blank is_end is_blank) in
    let skipped = skip_from-blank false (spaces ++ (end ++ blank)) rest whole (skip_from-ink rest ink) in
    let joined : (spaces ++ (end ++ blank)) ++ rest ≡ spaces ++ (end ++ (blank ++ rest)) =
    rw (append_assoc spaces (end ++ blank) rest, append_assoc end blank rest) in
    rw (here, starts) (ap (λ r. Some ([], r)) (ap (skip_from false false) (sym joined) ∙ skipped))

-- ink before the closing delimiters is ink
ink_before : (cs tail : List ℕ) → IsInk cs → is_space (first tail) ≡ false → starts_newline tail ≡ false
    → (first tail == 10) ≡ false → IsInk (cs ++ tail)
ink_before [] tail ink no_space no_newline no_feed = record { no_space = no_space; no_newline = no_newline }
ink_before (c ∷ []) tail ink no_space no_newline no_feed = record
    { no_space = ink.no_space; no_newline = grind (arith, nat_tests, ink.no_newline) }
ink_before (c ∷ (e ∷ cs)) tail ink no_space no_newline no_feed =
    record { no_space = ink.no_space; no_newline = ink.no_newline }

special_escape : (d : ℕ) (multi : Bool) (escaped more : List ℕ) (c : ℕ) → d ≡ 34 → IsEscape escaped c
    → special d multi (92 ∷ (escaped ++ more)) ≡ Some (Some (encode_utf8 c), more)
unfolding special
special_escape d multi escaped more c quote is_escape = rw (quote, escape-complete multi escaped more c is_escape)

special_cut : (d : ℕ) (multi : Bool) (spaces end blank rest : List ℕ) → multi ≡ true → d ≡ 34 → AreSpaces spaces
    → IsNewline end → IsBlank false blank → IsInk rest
    → special d multi (92 ∷ (spaces ++ (end ++ (blank ++ rest)))) ≡ Some (Some [], rest)
unfolding special
special_cut d multi spaces end blank rest is_multi quote are_spaces is_end is_blank ink =
    rw (quote, is_multi, escape-cut spaces end blank rest are_spaces is_end is_blank ink)

special_newline : (d : ℕ) (multi : Bool) (more : List ℕ) → multi ≡ true → is_delimiter d ≡ true
    → special d multi (13 ∷ (10 ∷ more)) ≡ Some (Some (13 ∷ []), 10 ∷ more)
unfolding special
special_newline d multi more is_multi is_d = let not_d : (13 == d) ≡ false =
    grind (arith, nat_tests) in rw (is_multi, not_d)

pub closing_first : (multi : Bool) (d : ℕ) (rest : List ℕ) → first (closing multi d ++ rest) ≡ d
closing_first true d rest = refl
closing_first false d rest = refl

closing_no_newline : (d : ℕ) (multi : Bool) (rest : List ℕ) → is_delimiter d ≡ true
    → starts_newline (closing multi d ++ rest) ≡ false
closing_no_newline d true rest is_d = grind (arith, nat_tests)
closing_no_newline d false rest is_d = grind (arith, nat_tests)

closing_multi : (multi : Bool) (d : ℕ) (rest : List ℕ) → multi ≡ true → closing multi d ++ rest ≡ d ∷ (d ∷ (d ∷ rest))
closing_multi multi d rest is_multi = rw is_multi

closing_ink : (d : ℕ) (multi : Bool) (cs rest : List ℕ) → is_delimiter d ≡ true → IsInk cs
    → IsInk (cs ++ (closing multi d ++ rest))
closing_ink d multi cs rest is_d ink =
    let at : first (closing multi d ++ rest) ≡ d = closing_first multi d rest in
    ink_before cs (closing multi d ++ rest) ink (rw at (grind (arith, nat_tests)))
    (closing_no_newline d multi rest is_d) (rw at (grind (arith, nat_tests)))

-- the content of the grammar is read
pub content-complete : (d : ℕ) (multi : Bool) (before : ℕ) (cs vs rest : List ℕ) (n : ℕ) → is_delimiter d ≡ true
    → IsContent d multi before cs vs → before ≤ 2
    → (multi ≡ true → (first rest == d) ≡ false) → length cs < n
    → content d multi n (cs ++ (closing multi d ++ rest)) ≡ Some (vs, rest)
content-complete d multi before cs vs rest zero is_d is room other less = absurd (omega arith)
content-complete d multi before cs vs rest (suc n) is_d (grammar.end _) room other less =
    let not_plain : is_plain d multi (first (closing multi d ++ rest)) ≡ false =
    rw (closing_first multi d rest) (grind (arith, nat_tests)) in
    content_special d multi n (closing multi d ++ rest) not_plain ∙ rw (special_closing d multi rest other)
content-complete d multi before cs vs rest (suc n) is_d (grammar.plain _ c cs' vs' plain more) room other less =
    content_plain d multi n c (cs' ++ (closing multi d ++ rest)) plain
    ∙ rw (content-complete d multi 0 cs' vs' rest n is_d more (omega arith) other (omega arith))
content-complete d multi before cs vs rest (suc zero) is_d (grammar.newline _ cs' vs' is_multi more) room other less =
    absurd (omega arith)
content-complete d multi before cs vs rest (suc (suc n)) is_d (grammar.newline _ cs' vs' is_multi more) room other
    less =
    let not_plain : is_plain d multi 13 ≡ false = grind (arith, nat_tests) in
    let plain : is_plain d multi 10 ≡ true = grind (arith, nat_tests) in
    let tail = cs' ++ (closing multi d ++ rest) in
    content_special d multi (suc n) (13 ∷ (10 ∷ tail)) not_plain
    ∙ rw (
      special_newline d multi tail is_multi is_d,
      content_plain d multi n 10 tail plain,
      content-complete d multi 0
          cs' vs' rest n is_d more (omega arith) other (omega arith),
    )
content-complete d multi before cs vs rest (suc n) is_d (grammar.quotes _ cs' vs' is_multi few more) room other less =
    let not_plain : is_plain d multi d ≡ false = grind (arith, nat_tests) in
    let tail = cs' ++ (closing multi d ++ rest) in
    let three : closing multi d ++ rest ≡ d ∷ (d ∷ (d ∷ rest)) = closing_multi multi d rest is_multi in
    let fits : RunFits (before + 1) (run d tail) = rw three (run_fits d multi (before + 1) cs' vs' rest is_d more
    (omega arith) (other is_multi)) in
    content_special d multi n (d ∷ tail) not_plain
    ∙ rw (
      special_quotes d multi before tail is_multi few fits,
      content-complete d multi (before + 1) cs' vs' rest n
          is_d more (omega arith) other (omega arith),
    )
content-complete d multi before cs vs rest (suc n) is_d (grammar.escape _ c escaped cs' vs' quote is_escape more) room
    other less =
    let not_plain : is_plain d multi 92 ≡ false = grind (arith, nat_tests) in
    let tail = cs' ++ (closing multi d ++ rest) in
    let joined : (escaped ++ cs') ++ (closing multi d ++ rest) ≡ escaped ++ tail =
    append_assoc escaped cs' (closing multi d ++ rest) in
    rw joined (content_special d multi n (92 ∷ (escaped ++ tail)) not_plain
    ∙ rw (
      special_escape d multi escaped tail c quote is_escape,
      content-complete d multi 0 cs' vs' rest n is_d more
          (omega arith) other (omega (arith, length-append escaped cs')),
    ))
content-complete d multi before cs vs rest (suc n) is_d (grammar.cut _ spaces end blank cs' vs' is_multi quote
    are_spaces is_end is_blank ink more) room other less =
    let not_plain : is_plain d multi 92 ≡ false = grind (arith, nat_tests) in
    let tail = cs' ++ (closing multi d ++ rest) in
    let stays : IsInk tail = closing_ink d multi cs' rest is_d ink in
    let joined : (spaces ++ (end ++ (blank ++ cs'))) ++ (closing multi d ++ rest) ≡ spaces ++ (end ++ (blank ++ tail)) =
    rw (
      append_assoc spaces (end ++ (blank ++ cs')) (closing multi d ++ rest),
      append_assoc end (blank ++ cs')
          (closing multi d ++ rest),
      append_assoc blank cs' (closing multi d ++ rest),
    ) in
    let room' : length cs' < n = omega (
      arith,
      length-append spaces (end ++ (blank ++ cs')),
      length-append end
          (blank ++ cs'),
      length-append blank cs',
    ) in
    rw joined (content_special d multi n (92 ∷ (spaces ++ (end ++ (blank ++ tail)))) not_plain
    ∙ rw (
      special_cut d multi spaces end blank tail is_multi quote are_spaces is_end is_blank stays,
      content-complete d
          multi 0 cs' vs' rest n is_d more (omega arith) other room',
    ))
