-- Dates and times: the test of the reader holds exactly where the grammar has them.
use Rattle.std.proofs.Common.{◌≡◌, ℕ, zero, suc, ◌+◌, ◌-◌, ◌*◌, ◌<◌, ◌⊎◌, Bool, true, false, ◌&&◌, ◌||◌, ◌==◌, nat_le}
use Rattle.std.proofs.Common.{List, [], ◌∷◌, length, take, drop, Option, Some, None, refl, subst, inl, inr, arith}
use Rattle.std.proofs.Common.{drop_at}
use Rattle.std.proofs.lemmas.Option.{none-some, same_Some}
use Rattle.std.proofs.lemmas.Bool.{cases_Bool, and_parts, true≢false, false≢true, cases_lt}
use Rattle.std.proofs.lemmas.Bool.Decides.{nat_tests}
use Rattle.std.proofs.lemmas.List.{take-append-drop, get_or_past}
use Rattle.std.specs.List.{prefix_len, list_all, slice_index}
use Rattle.std.specs.Char.{is_ascii_digit}
use Rattle.deny_toml_grammar.specs.Lexical.{first}
use Rattle.deny_toml_grammar.specs.private.Dates.{has_number, starts_date, starts_time, after_fraction, is_offset}
use Rattle.deny_toml_grammar.specs.private.Dates.{ends_time, is_time, is_divider, is_divided_time, is_date_time}
use Rattle.deny_toml_grammar.specs.private.Dates.{is_date}
use Rattle.deny_toml_grammar.specs.GrammarScalars.{IsTwo, StartsDate, StartsTime, IsSecondsFraction, IsOffset}
use Rattle.deny_toml_grammar.specs.GrammarScalars.{IsDivider}
use Rattle.deny_toml_grammar.specs.GrammarScalars.{IsDate}
use Rattle.deny_toml_grammar.specs.GrammarScalars as grammar
use Rattle.deny_toml_grammar.proofs.LexicalLaws.{prefix_len-run}
use Rattle.deny_base_lists.proofs.PrefixLemmas.{list_all-take}
use Rattle.deny_base_lists.proofs.Numbers.{nat_le-true, le_from_nat_le}
use Rattle.deny_base_lists.proofs.Booleans.{or-true}

abbrev is_two : ℕ → ℕ → ℕ → ℕ → Bool
is_two low high a b = (is_ascii_digit a && is_ascii_digit b) &&
    (nat_le low ((a - 48) * 10 + (b - 48)) && nat_le ((a - 48) * 10 + (b - 48)) high)

two-sound : (low high a b : ℕ) → is_two low high a b ≡ true → IsTwo low high a b
two-sound low high a b e =
    let (digits, span) = and_parts (is_ascii_digit a && is_ascii_digit b)
    (nat_le low ((a - 48) * 10 + (b - 48)) && nat_le ((a - 48) * 10 + (b - 48)) high) e in
    let (tens, ones) = and_parts (is_ascii_digit a) (is_ascii_digit b) digits in
    let (above, below) = and_parts (nat_le low ((a - 48) * 10 + (b - 48))) (nat_le ((a - 48) * 10 + (b - 48)) high)
    span in
    grammar.two a b tens ones (le_from_nat_le low ((a - 48) * 10 + (b - 48)) above)
    (le_from_nat_le ((a - 48) * 10 + (b - 48)) high below)

two-complete : (low high a b : ℕ) → IsTwo low high a b → is_two low high a b ≡ true
two-complete low high a b (grammar.two _ _ tens ones above below) =
    rw (tens, ones, nat_le-true low ((a - 48) * 10 + (b - 48)) above, nat_le-true ((a - 48) * 10 + (b - 48)) high below)

-- two digits at an index lie inside the text
within_two : (cs : List ℕ) (at low high : ℕ) → has_number cs at low high ≡ true → at + 1 < length cs
within_two cs at low high e =
    elim (cases_lt (at + 1) (length cs)) [
      | inl within ↦ within
      | inr past ↦
          let none : slice_index cs (at + 1) ≡ 0 = get_or_past cs (at + 1) 0 past in
          let (digits, span) = and_parts (is_ascii_digit (slice_index cs at) && is_ascii_digit
          (slice_index cs (at + 1)))
          (nat_le low ((slice_index cs at - 48) * 10 + (slice_index cs (at + 1) - 48)) && nat_le
          ((slice_index cs at - 48) * 10 + (slice_index cs (at + 1) - 48)) high) e in
          let (tens, ones) = and_parts (is_ascii_digit (slice_index cs at)) (is_ascii_digit (slice_index cs (at + 1)))
          digits in
          absurd (false≢true (rw none at ones))
    ]

-- the last digits of a date and of a time lie inside the text
within_day : (cs : List ℕ) → starts_date cs ≡ true → 9 < length cs
unfolding starts_date
within_day cs e =
    let (year_month, day) = and_parts ((has_number cs 0 0 99 && has_number cs 2 0 99) &&
    ((slice_index cs 4 == 45) && has_number cs 5 1 12)) ((slice_index cs 7 == 45) && has_number cs 8 1 31) e in
    within_two cs 8 1 31 (and_parts (slice_index cs 7 == 45) (has_number cs 8 1 31) day).1

within_second : (cs : List ℕ) → starts_time cs ≡ true → 7 < length cs
unfolding starts_time
within_second cs e =
    let (hour_minute, second_) = and_parts ((has_number cs 0 0 23 && (slice_index cs 2 == 58)) && has_number cs 3 0 59)
    ((slice_index cs 5 == 58) && has_number cs 6 0 60) e in
    within_two cs 6 0 60 (and_parts (slice_index cs 5 == 58) (has_number cs 6 0 60) second_).1

date_prefix : (cs : List ℕ) → 9 < length cs → starts_date cs ≡ true → StartsDate (drop 10 cs) cs
unfolding starts_date
date_prefix [] h e = absurd (omega arith)
date_prefix (a ∷ []) h e = absurd (omega arith)
date_prefix (a ∷ (b ∷ [])) h e = absurd (omega arith)
date_prefix (a ∷ (b ∷ (c ∷ []))) h e = absurd (omega arith)
date_prefix (a ∷ (b ∷ (c ∷ (d ∷ [])))) h e = absurd (omega arith)
date_prefix (a ∷ (b ∷ (c ∷ (d ∷ (x ∷ []))))) h e = absurd (omega arith)
date_prefix (a ∷ (b ∷ (c ∷ (d ∷ (x ∷ (f ∷ [])))))) h e = absurd (omega arith)
date_prefix (a ∷ (b ∷ (c ∷ (d ∷ (x ∷ (f ∷ (g ∷ []))))))) h e = absurd (omega arith)
date_prefix (a ∷ (b ∷ (c ∷ (d ∷ (x ∷ (f ∷ (g ∷ (y ∷ [])))))))) h e = absurd (omega arith)
date_prefix (a ∷ (b ∷ (c ∷ (d ∷ (x ∷ (f ∷ (g ∷ (y ∷ (i ∷ []))))))))) h e = absurd (omega arith)
date_prefix (a ∷ (b ∷ (c ∷ (d ∷ (x ∷ (f ∷ (g ∷ (y ∷ (i ∷ (j ∷ rest)))))))))) h e =
    let (year_month, day) = and_parts ((is_two 0 99 a b && is_two 0 99 c d) && ((x == 45) && is_two 1 12 f g))
    ((y == 45) && is_two 1 31 i j) e in
    let (year, month) = and_parts (is_two 0 99 a b && is_two 0 99 c d) ((x == 45) && is_two 1 12 f g) year_month in
    let (century, years) = and_parts (is_two 0 99 a b) (is_two 0 99 c d) year in
    let (dash_, months) = and_parts (x == 45) (is_two 1 12 f g) month in
    let (dash__, days) = and_parts (y == 45) (is_two 1 31 i j) day in
    let x_is : 45 ≡ x = grind (arith, nat_tests) in
    let y_is : 45 ≡ y = grind (arith, nat_tests) in
    subst (λ u. StartsDate rest (a ∷ (b ∷ (c ∷ (d ∷ (u ∷ (f ∷ (g ∷ (y ∷ (i ∷ (j ∷ rest))))))))))) x_is
    (subst (λ u. StartsDate rest (a ∷ (b ∷ (c ∷ (d ∷ (45 ∷ (f ∷ (g ∷ (u ∷ (i ∷ (j ∷ rest))))))))))) y_is
    (grammar.ymd a b c d f g i j (two-sound 0 99 a b century) (two-sound 0 99 c d years) (two-sound 1 12 f g months)
    (two-sound 1 31 i j days)))

date-sound : (cs : List ℕ) → starts_date cs ≡ true → StartsDate (drop 10 cs) cs
date-sound cs e = date_prefix cs (within_day cs e) e

date-complete : (cs rest : List ℕ) → StartsDate rest cs → starts_date cs ≡ true
unfolding starts_date
date-complete cs rest (grammar.ymd a b c d e f g h century years months days) =
    rw (
      two-complete 0 99 a b century,
      two-complete 0 99 c d years,
      two-complete 1 12 e f months,
      two-complete 1 31 g h
          days,
    )

time_prefix : (cs : List ℕ) → 7 < length cs → starts_time cs ≡ true → StartsTime (drop 8 cs) cs
unfolding starts_time
time_prefix [] h e = absurd (omega arith)
time_prefix (a ∷ []) h e = absurd (omega arith)
time_prefix (a ∷ (b ∷ [])) h e = absurd (omega arith)
time_prefix (a ∷ (b ∷ (x ∷ []))) h e = absurd (omega arith)
time_prefix (a ∷ (b ∷ (x ∷ (c ∷ [])))) h e = absurd (omega arith)
time_prefix (a ∷ (b ∷ (x ∷ (c ∷ (d ∷ []))))) h e = absurd (omega arith)
time_prefix (a ∷ (b ∷ (x ∷ (c ∷ (d ∷ (y ∷ [])))))) h e = absurd (omega arith)
time_prefix (a ∷ (b ∷ (x ∷ (c ∷ (d ∷ (y ∷ (f ∷ []))))))) h e = absurd (omega arith)
time_prefix (a ∷ (b ∷ (x ∷ (c ∷ (d ∷ (y ∷ (f ∷ (g ∷ rest)))))))) h e =
    let (hour_minute, second_) = and_parts ((is_two 0 23 a b && (x == 58)) && is_two 0 59 c d)
    ((y == 58) && is_two 0 60 f g) e in
    let (hour_, minutes) = and_parts (is_two 0 23 a b && (x == 58)) (is_two 0 59 c d) hour_minute in
    let (hours, colon_) = and_parts (is_two 0 23 a b) (x == 58) hour_ in
    let (colon__, seconds) = and_parts (y == 58) (is_two 0 60 f g) second_ in
    let x_is : 58 ≡ x = grind (arith, nat_tests) in
    let y_is : 58 ≡ y = grind (arith, nat_tests) in
    subst (λ u. StartsTime rest (a ∷ (b ∷ (u ∷ (c ∷ (d ∷ (y ∷ (f ∷ (g ∷ rest))))))))) x_is
    (subst (λ u. StartsTime rest (a ∷ (b ∷ (58 ∷ (c ∷ (d ∷ (u ∷ (f ∷ (g ∷ rest))))))))) y_is
    (grammar.hms a b c d f g (two-sound 0 23 a b hours) (two-sound 0 59 c d minutes) (two-sound 0 60 f g seconds)))

time-sound : (cs : List ℕ) → starts_time cs ≡ true → StartsTime (drop 8 cs) cs
time-sound cs e = time_prefix cs (within_second cs e) e

time-complete : (cs rest : List ℕ) → StartsTime rest cs → (starts_time cs ≡ true) × (drop 8 cs ≡ rest)
unfolding starts_time
time-complete cs rest (grammar.hms a b c d e f hours minutes seconds) =
    (rw (two-complete 0 23 a b hours, two-complete 0 59 c d minutes, two-complete 0 60 e f seconds), refl)

-- the fraction of a second
fraction_prefix : (k : ℕ) (tail : List ℕ) → list_all is_ascii_digit (take k tail) ≡ true → 0 < k → 0 < length tail
    → IsSecondsFraction (drop k tail) (46 ∷ tail)
fraction_prefix zero tail all some some' = absurd (omega arith)
fraction_prefix (suc k) [] all some some' = absurd (omega arith)
fraction_prefix (suc k) (d ∷ ds) all some some' =
    subst (λ t. IsSecondsFraction (drop k ds) (46 ∷ (d ∷ t))) (take-append-drop k ds)
    (grammar.fraction_of_second d (take k ds) all)

fraction_run : (tail : List ℕ) → (prefix_len is_ascii_digit tail == 0) ≡ false
    → IsSecondsFraction (drop (prefix_len is_ascii_digit tail) tail) (46 ∷ tail)
fraction_run [] e = absurd (true≢false e)
fraction_run (d ∷ ds) e =
    fraction_prefix (prefix_len is_ascii_digit (d ∷ ds)) (d ∷ ds) (list_all-take is_ascii_digit (d ∷ ds))
    (positive (prefix_len is_ascii_digit (d ∷ ds)) e) (omega arith)
  where
    positive : (n : ℕ) → (n == 0) ≡ false → 0 < n
    positive zero e = absurd (true≢false e)
    positive (suc n) e = omega arith

fraction-sound : (cs rest : List ℕ) → after_fraction cs ≡ Some rest → IsSecondsFraction rest cs
fraction-sound [] rest e = subst (λ r. IsSecondsFraction r []) (same_Some [] rest e) grammar.whole
fraction-sound (c ∷ tail) rest e =
    elim (cases_Bool (c == 46)) [
      | inl point ↦
          let c_is : 46 ≡ c = grind (arith, nat_tests) in
          elim (cases_Bool (prefix_len is_ascii_digit tail == 0)) [
            | inl none ↦ absurd (none-some rest (rw (point, none) at e))
            | inr some ↦
                let same = same_Some (drop (prefix_len is_ascii_digit tail) tail) rest (rw (point, some) at e) in
                subst (λ x. IsSecondsFraction rest (x ∷ tail)) c_is
                (subst (λ r. IsSecondsFraction r (46 ∷ tail)) same (fraction_run tail some))
          ]
      | inr other ↦ subst (λ r. IsSecondsFraction r (c ∷ tail)) (same_Some (c ∷ tail) rest (rw other at e))
          grammar.whole
    ]

fraction-complete : (cs rest : List ℕ) → IsSecondsFraction rest cs → is_ascii_digit (first rest) ≡ false
    → (first rest == 46) ≡ false → after_fraction cs ≡ Some rest
fraction-complete cs rest grammar.whole stop no_point = rw no_point refl
fraction-complete cs rest (grammar.fraction_of_second d ds all) stop no_point =
    let run = prefix_len-run is_ascii_digit (d ∷ ds) rest all stop in
    let some : (length (d ∷ ds) == 0) ≡ false = grind (arith, nat_tests) in
    rw (run, drop_at (d ∷ ds) rest _ refl, some)

-- the offset from UTC
offset-sound : (cs : List ℕ) → is_offset cs ≡ true → IsOffset cs
offset-sound [] e = absurd (false≢true e)
offset-sound (z ∷ []) e =
    grammar.universal z (elim (cases_Bool (z == 90)) [
      | inl capital ↦ inl (grind (arith, nat_tests))
      | inr other ↦
          inr (grind (arith, nat_tests))
    ])
offset-sound (s ∷ (a ∷ [])) e = absurd (false≢true e)
offset-sound (s ∷ (a ∷ (b ∷ []))) e = absurd (false≢true e)
offset-sound (s ∷ (a ∷ (b ∷ (x ∷ [])))) e = absurd (false≢true e)
offset-sound (s ∷ (a ∷ (b ∷ (x ∷ (c ∷ []))))) e = absurd (false≢true e)
offset-sound (s ∷ (a ∷ (b ∷ (x ∷ (c ∷ (d ∷ [])))))) e =
    let (sign_hours, rest) = and_parts (((s == 43) || (s == 45)) && is_two 0 23 a b) ((x == 58) && is_two 0 59 c d) e in
    let (sign, hours) = and_parts ((s == 43) || (s == 45)) (is_two 0 23 a b) sign_hours in
    let (colon_, minutes) = and_parts (x == 58) (is_two 0 59 c d) rest in
    let x_is : 58 ≡ x = grind (arith, nat_tests) in
    let which : (s ≡ 43) ⊎ (s ≡ 45) = elim (cases_Bool (s == 43))
    [ inl plus ↦ inl (grind (arith, nat_tests)) | inr other ↦ inr (grind (arith, nat_tests)) ] in
    subst (λ u. IsOffset (s ∷ (a ∷ (b ∷ (u ∷ (c ∷ (d ∷ []))))))) x_is
    (grammar.distance s a b c d which (two-sound 0 23 a b hours) (two-sound 0 59 c d minutes))
offset-sound (s ∷ (a ∷ (b ∷ (x ∷ (c ∷ (d ∷ (y ∷ cs))))))) e =
    let not_one : (length (s ∷ (a ∷ (b ∷ (x ∷ (c ∷ (d ∷ (y ∷ cs))))))) == 1) ≡ false = grind (arith, nat_tests) in
    let not_six : (length (s ∷ (a ∷ (b ∷ (x ∷ (c ∷ (d ∷ (y ∷ cs))))))) == 6) ≡ false = grind (arith, nat_tests) in
    absurd (false≢true (rw (not_one, not_six) at e))

either_of : (c x y : ℕ) → (c ≡ x) ⊎ (c ≡ y) → ((c == x) || (c == y)) ≡ true
either_of c x y (inl e) = grind (arith, nat_tests)
either_of c x y (inr e) = grind (arith, nat_tests)

offset-complete : (cs : List ℕ) → IsOffset cs → ((length cs == 0) || is_offset cs) ≡ true
offset-complete cs grammar.local = refl
offset-complete cs (grammar.universal z which) = either_of z 90 122 which
offset-complete cs (grammar.distance s a b c d which hours minutes) =
    rw (either_of s 43 45 which, two-complete 0 23 a b hours, two-complete 0 59 c d minutes) refl

-- the first byte of an offset does not continue a fraction
offset_stops : (cs : List ℕ) → IsOffset cs → (is_ascii_digit (first cs) ≡ false) × ((first cs == 46) ≡ false)
offset_stops cs grammar.local = (refl, refl)
offset_stops cs (grammar.universal z (inl e)) = (grind (arith, nat_tests), grind (arith, nat_tests))
offset_stops cs (grammar.universal z (inr e)) = (grind (arith, nat_tests), grind (arith, nat_tests))
offset_stops cs (grammar.distance s a b c d (inl e) hours minutes) =
    (grind (arith, nat_tests), grind (arith, nat_tests))
offset_stops cs (grammar.distance s a b c d (inr e) hours minutes) =
    (grind (arith, nat_tests), grind (arith, nat_tests))

offset_or_end : (cs : List ℕ) → ((length cs == 0) || is_offset cs) ≡ true → IsOffset cs
offset_or_end [] e = grammar.local
offset_or_end (c ∷ cs) e = let some : (length (c ∷ cs) == 0) ≡ false =
    grind (arith, nat_tests) in offset-sound (c ∷ cs) (rw some at e)

-- a time, with or without an offset
data Time (cs : List ℕ) : Type 0 where
  time_of : (rest offset : List ℕ) → StartsTime rest cs → IsSecondsFraction offset rest → IsOffset offset → Time cs

data LocalTime (cs : List ℕ) : Type 0 where
  local_of : (rest : List ℕ) → StartsTime rest cs → IsSecondsFraction [] rest → LocalTime cs

time_ends : (cs rest : List ℕ) (o : Option (List ℕ)) → StartsTime rest cs → after_fraction rest ≡ o
    → ends_time true o ≡ true → Time cs
time_ends cs rest None is read e = absurd (false≢true e)
time_ends cs rest (Some offset) is read e = time_of rest offset is (fraction-sound rest offset read)
    (offset_or_end offset e)

time_with-sound : (cs : List ℕ) → is_time true cs ≡ true → Time cs
time_with-sound cs e =
    let (starts, ends) = and_parts (starts_time cs) (ends_time true (after_fraction (drop 8 cs))) e in
    time_ends cs (drop 8 cs) (after_fraction (drop 8 cs)) (time-sound cs starts) refl ends

local_ends : (cs rest : List ℕ) (o : Option (List ℕ)) → StartsTime rest cs → after_fraction rest ≡ o
    → ends_time false o ≡ true → LocalTime cs
local_ends cs rest None is read e = absurd (false≢true e)
local_ends cs rest (Some []) is read e = local_of rest is (fraction-sound rest [] read)
local_ends cs rest (Some (c ∷ more)) is read e = let some : (length (c ∷ more) == 0) ≡ false =
    grind (arith, nat_tests) in absurd (false≢true (rw some at e))

local-sound : (cs : List ℕ) → is_time false cs ≡ true → LocalTime cs
local-sound cs e =
    let (starts, ends) = and_parts (starts_time cs) (ends_time false (after_fraction (drop 8 cs))) e in
    local_ends cs (drop 8 cs) (after_fraction (drop 8 cs)) (time-sound cs starts) refl ends

time_with-complete : (cs rest offset : List ℕ) → StartsTime rest cs → IsSecondsFraction offset rest → IsOffset offset
    → is_time true cs ≡ true
time_with-complete cs rest offset is is_fraction is_offset_ =
    let (starts, after) = time-complete cs rest is in
    let (stop, no_point) = offset_stops offset is_offset_ in
    rw (starts, after, fraction-complete rest offset is_fraction stop no_point) (offset-complete offset is_offset_)

local-complete : (cs rest : List ℕ) → StartsTime rest cs → IsSecondsFraction [] rest → is_time false cs ≡ true
local-complete cs rest is is_fraction =
    let (starts, after) = time-complete cs rest is in
    rw (starts, after, fraction-complete rest [] is_fraction refl refl) refl

-- the byte between a date and a time
divider-sound : (c : ℕ) → is_divider c ≡ true → IsDivider c
divider-sound c e =
    elim (cases_Bool (c == 84)) [
      | inl capital ↦ let c_is : 84 ≡ c = grind (arith, nat_tests) in subst IsDivider c_is grammar.capital
      | inr other ↦ elim (cases_Bool (c == 116)) [
        | inl small ↦ let c_is : 116 ≡ c = grind (arith, nat_tests) in subst IsDivider c_is grammar.small
        | inr none ↦ let c_is : 32 ≡ c = grind (arith, nat_tests) in subst IsDivider c_is grammar.blank
      ]
    ]

divider-complete : (c : ℕ) → IsDivider c → is_divider c ≡ true
divider-complete c grammar.capital = refl
divider-complete c grammar.small = refl
divider-complete c grammar.blank = refl

divided : (cs rest : List ℕ) → StartsDate rest cs → ((length cs == 10) ||
    (is_divider (first rest) && is_time true (drop 1 rest))) ≡ true → IsDate cs
divided cs [] is e = grammar.day cs is
divided cs (c ∷ time_) (grammar.ymd a b c' d e' f g h century years months days) e =
    let longer : (length (a ∷ (b ∷ (c' ∷ (d ∷ (45 ∷ (e' ∷ (f ∷ (45 ∷ (g ∷ (h ∷ (c ∷ time_))))))))))) == 10) ≡ false =
    grind (arith, nat_tests) in
    let (divides, is_time_) = and_parts (is_divider c) (is_time true time_) (rw longer at e) in
    moment_of (time_with-sound time_ is_time_) (divider-sound c divides)
    (grammar.ymd a b c' d e' f g h century years months days)
  where
    moment_of : {cs : List ℕ} → Time time_ → IsDivider c → StartsDate (c ∷ time_) cs → IsDate cs
    moment_of {cs} (time_of rest offset is is_fraction is_offset_) divides is_date_ =
        grammar.moment c cs time_ rest offset is_date_ divides is is_fraction is_offset_

slice_of_drop : (cs rest : List ℕ) → StartsDate rest cs → (slice_index cs 10 ≡ first rest) × (drop 11 cs ≡ drop 1 rest)
    × (drop 10 cs ≡ rest)
slice_of_drop cs rest (grammar.ymd a b c d e f g h century years months days) = (refl, refl, refl)

date_time-sound : (cs : List ℕ) → is_date_time cs ≡ true → IsDate cs
unfolding is_date_time
date_time-sound cs e =
    let (starts, rest) = and_parts (starts_date cs) ((length cs == 10) || is_divided_time cs) e in
    let is = date-sound cs starts in
    let (byte_is, after_is, rest_is) = slice_of_drop cs (drop 10 cs) is in
    divided cs (drop 10 cs) is (rw (byte_is, after_is) at rest)

hour_of : (cs : List ℕ) → LocalTime cs → IsDate cs
hour_of cs (local_of rest is is_fraction) = grammar.hour cs rest is is_fraction

-- a date that the test admits is in the grammar
pub date_is-sound : (cs : List ℕ) → is_date cs ≡ true → IsDate cs
date_is-sound cs e =
    elim (cases_Bool (is_date_time cs)) [
      | inl day_ ↦ date_time-sound cs day_
      | inr other ↦ hour_of cs (local-sound cs (rw other at e))
    ]

day_test : (cs : List ℕ) → StartsDate [] cs → is_date_time cs ≡ true
unfolding is_date_time
day_test cs is = rw (date-complete cs [] is) (ten cs is)
  where
    ten : (cs : List ℕ) → StartsDate [] cs → ((length cs == 10) || is_divided_time cs) ≡ true
    ten cs (grammar.ymd a b c d e f g h century years months days) = refl

moment_test : (c : ℕ) (cs time_ rest offset : List ℕ) → StartsDate (c ∷ time_) cs → IsDivider c → StartsTime rest time_
    → IsSecondsFraction offset rest → IsOffset offset
    → is_date_time cs ≡ true
unfolding is_date_time
moment_test c cs time_ rest offset is divides is_time_ is_fraction is_offset_ =
    let (byte_is, after_is, rest_is) = slice_of_drop cs (c ∷ time_) is in
    rw (
      date-complete cs (c ∷ time_) is,
      byte_is,
      after_is,
      divider-complete c divides,
      time_with-complete time_ rest
          offset is_time_ is_fraction is_offset_,
    ) (or-true (length cs == 10))

-- a date of the grammar passes the test
pub date_is-complete : (cs : List ℕ) → IsDate cs → is_date cs ≡ true
date_is-complete cs (grammar.day _ is) = rw (day_test cs is) refl
date_is-complete cs (grammar.moment c _ time_ rest offset is divides is_time_ is_fraction is_offset_) =
    rw (moment_test c cs time_ rest offset is divides is_time_ is_fraction is_offset_) refl
date_is-complete cs (grammar.hour _ rest is is_fraction) = rw (local-complete cs rest is is_fraction)
    (or-true (is_date_time cs))
