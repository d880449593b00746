-- What is skipped between the parts of a text is what the grammar calls spaces and blanks.
use Rattle.std.proofs.Common.{◌≡◌, ℕ, zero, suc, ◌+◌, ◌<◌, ◌≤◌, le_refl, Bool, true, false, ◌&&◌, ◌==◌, List, [], ◌∷◌}
use Rattle.std.proofs.Common.{◌++◌, length, take, Some, None, refl, sym, ap, subst, ◌∙◌, inl, inr, arith, append_assoc}
use Rattle.std.proofs.lemmas.Bool.{cases_Bool, and_parts, true≢false, false≢true}
use Rattle.std.proofs.lemmas.Bool.Decides.{nat_tests}
use Rattle.std.proofs.lemmas.List.{take-append-drop}
use Rattle.std.specs.List.{prefix_len, list_all}
use Rattle.deny_toml_grammar.specs.Lexical.{first, is_space, is_comment_byte, skip_spaces, skip_turn, skip_from}
use Rattle.deny_toml_grammar.specs.GrammarStrings.{AreSpaces, IsNewline, IsBlank, IsInk}
use Rattle.deny_toml_grammar.specs.GrammarStrings as grammar
use Rattle.deny_base_lists.proofs.PrefixLemmas.{list_all-take}
use Rattle.deny_toml_grammar.proofs.LexicalLaws.{split_while-run, skip_from-nil}

-- spaces before a byte that is no space are skipped
pub skip_spaces-run : (spaces rest : List ℕ) → AreSpaces spaces → is_space (first rest) ≡ false
    → skip_spaces (spaces ++ rest) ≡ rest
unfolding skip_spaces
skip_spaces-run spaces rest all stop = ap (λ p. p.1) (split_while-run is_space spaces rest all stop)

-- what `skip_spaces` skips are spaces
pub skip_spaces_found : (text : List ℕ) → (spaces : List ℕ) × (text ≡ spaces ++ skip_spaces text) × AreSpaces spaces
unfolding skip_spaces
skip_spaces_found text = (
  take (prefix_len is_space text) text,
  sym (take-append-drop (prefix_len is_space text) text),
  list_all-take is_space text,
)

turn_space : (comments : Bool) (c next : ℕ) → is_space c ≡ true → skip_turn comments false c next ≡ Some false
turn_space comments c next h = grind (arith, nat_tests)

turn_inside : (comments : Bool) (c next : ℕ) → is_comment_byte c ≡ true → skip_turn comments true c next ≡ Some true
turn_inside comments c next h = grind (arith, nat_tests)

skip_comment : (comments : Bool) (body more : List ℕ) → list_all is_comment_byte body ≡ true
    → skip_from comments true (body ++ more) ≡ skip_from comments true more
unfolding skip_from
skip_comment comments [] more all = refl
skip_comment comments (c ∷ cs) more all =
    let (here, rest) = and_parts (is_comment_byte c) (list_all is_comment_byte cs) all in
    rw (turn_inside comments c (first (cs ++ more)) here) (skip_comment comments cs more rest)

skip_newline : (comments inside : Bool) (end more : List ℕ) → IsNewline end
    → skip_from comments inside (end ++ more) ≡ skip_from comments false more
unfolding skip_from
skip_newline comments inside end more grammar.line_feed = refl
skip_newline comments inside end more grammar.both = refl

skip_open : (comments : Bool) (cs : List ℕ) → comments ≡ true
    → skip_from comments false (35 ∷ cs) ≡ skip_from comments true cs
unfolding skip_from
skip_open true cs e = refl
skip_open false cs e = absurd (false≢true e)

-- blanks at the start are skipped
pub skip_from-blanks : (comments : Bool) (blanks rest : List ℕ) → IsBlank comments blanks
    → skip_from comments false (blanks ++ rest) ≡ skip_from comments false rest
unfolding skip_from
skip_from-blanks comments blanks rest grammar.none = refl
skip_from-blanks comments blanks rest (grammar.space c cs space more) =
    rw (turn_space comments c (first (cs ++ rest)) space) (skip_from-blanks comments cs rest more)
skip_from-blanks comments blanks rest (grammar.newline end cs is_end more) =
    rw (append_assoc end cs rest) (skip_newline comments false end (cs ++ rest) is_end
    ∙ skip_from-blanks comments cs rest more)
skip_from-blanks comments blanks rest (grammar.comment body end cs allowed all is_end more) =
    let joined : (body ++ (end ++ cs)) ++ rest ≡ body ++ (end ++ (cs ++ rest)) =
    rw (append_assoc body (end ++ cs) rest, append_assoc end cs rest) in
    skip_open comments ((body ++ (end ++ cs)) ++ rest) allowed ∙ ap (skip_from comments true) joined
    ∙ skip_comment comments body (end ++ (cs ++ rest)) all
    ∙ skip_newline comments true end (cs ++ rest) is_end ∙ skip_from-blanks comments cs rest more

-- blanks are skipped up to a byte that is not blank
pub skip_from-blank : (comments : Bool) (blanks rest : List ℕ) → IsBlank comments blanks
    → skip_from comments false rest ≡ rest → skip_from comments false (blanks ++ rest) ≡ rest
skip_from-blank comments blanks rest is stop = skip_from-blanks comments blanks rest is ∙ stop

-- a comment at the end of the text is skipped
pub skip_from-last : (spaces body : List ℕ) → AreSpaces spaces → list_all is_comment_byte body ≡ true
    → skip_from true false (spaces ++ (35 ∷ body)) ≡ []
unfolding skip_from
skip_from-last [] body all all' = to_the_end body all'
  where
    to_the_end : (body : List ℕ) → list_all is_comment_byte body ≡ true → skip_from true true body ≡ []
    to_the_end [] all = refl
    to_the_end (c ∷ cs) all =
        let (here, rest) = and_parts (is_comment_byte c) (list_all is_comment_byte cs) all in
        rw (turn_inside true c (first cs) here) (to_the_end cs rest)
skip_from-last (c ∷ spaces) body all all' =
    let (here, rest) = and_parts (is_space c) (list_all is_space spaces) all in
    rw (turn_space true c (first (spaces ++ (35 ∷ body))) here) (skip_from-last spaces body rest all')

pub skip_from-spaces : (comments : Bool) (spaces : List ℕ) → AreSpaces spaces → skip_from comments false spaces ≡ []
unfolding skip_from
skip_from-spaces comments [] all = refl
skip_from-spaces comments (c ∷ spaces) all =
    let (here, rest) = and_parts (is_space c) (list_all is_space spaces) all in
    rw (turn_space comments c (first spaces) here) (skip_from-spaces comments spaces rest)

-- spaces before blanks are blank
pub IsBlank-spaces : (comments : Bool) (spaces cs : List ℕ) → AreSpaces spaces → IsBlank comments cs
    → IsBlank comments (spaces ++ cs)
IsBlank-spaces comments [] cs all more = more
IsBlank-spaces comments (c ∷ spaces) cs all more =
    let (here, rest) = and_parts (is_space c) (list_all is_space spaces) all in
    grammar.space c (spaces ++ cs) here (IsBlank-spaces comments spaces cs rest more)

-- text that begins with ink is not skipped where comments are not allowed
pub skip_from-ink : (cs : List ℕ) → IsInk cs → skip_from false false cs ≡ cs
unfolding skip_from
skip_from-ink [] ink = refl
skip_from-ink (c ∷ cs) ink =
    let none : skip_turn false false c (first cs) ≡ None = grind (arith, nat_tests, ink.no_space, ink.no_newline) in
    rw none

-- what `skip_from` has skipped: blanks, or blanks and a comment that no line end closes
pub data Skipped (comments : Bool) (rest : List ℕ) : List ℕ → Type 0 where
  done : (blanks : List ℕ) → IsBlank comments blanks → Skipped comments rest (blanks ++ rest)
  unclosed : (blanks body : List ℕ) → comments ≡ true → IsBlank comments blanks → list_all is_comment_byte body ≡ true
      → is_comment_byte (first rest) ≡ false
      → Skipped comments rest (blanks ++ 35 ∷ (body ++ rest))

-- what `skip_from` has skipped where it began inside a comment
data SkippedInside (comments : Bool) (rest : List ℕ) : List ℕ → Type 0 where
  over : (body end more : List ℕ) → list_all is_comment_byte body ≡ true → IsNewline end → Skipped comments rest more
      → SkippedInside comments rest (body ++ (end ++ more))
  still : (body : List ℕ) → list_all is_comment_byte body ≡ true → is_comment_byte (first rest) ≡ false
      → SkippedInside comments rest (body ++ rest)

skipped_space : (comments : Bool) (rest : List ℕ) (c : ℕ) (cs : List ℕ) → is_space c ≡ true → Skipped comments rest cs
    → Skipped comments rest (c ∷ cs)
skipped_space comments rest c cs space (done blanks blank) = done (c ∷ blanks) (grammar.space c blanks space blank)
skipped_space comments rest c cs space (unclosed blanks body allowed blank all stop) =
    unclosed (c ∷ blanks) body allowed (grammar.space c blanks space blank) all stop

skipped_newline : (comments : Bool) (rest end cs : List ℕ) → IsNewline end → Skipped comments rest cs
    → Skipped comments rest (end ++ cs)
skipped_newline comments rest end cs is_end (done blanks blank) =
    subst (Skipped comments rest) (append_assoc end blanks rest)
    (done (end ++ blanks) (grammar.newline end blanks is_end blank))
skipped_newline comments rest end cs is_end (unclosed blanks body allowed blank all stop) =
    subst (Skipped comments rest) (append_assoc end blanks (35 ∷ (body ++ rest)))
    (unclosed (end ++ blanks) body allowed (grammar.newline end blanks is_end blank) all stop)

skipped_comment : (comments : Bool) (rest cs : List ℕ) → comments ≡ true → SkippedInside comments rest cs
    → Skipped comments rest (35 ∷ cs)
skipped_comment comments rest cs allowed (still body all stop) = unclosed [] body allowed grammar.none all stop
skipped_comment comments rest cs allowed (over body end more all is_end (done blanks blank)) =
    subst (Skipped comments rest) (ap (λ t. 35 ∷ t) (append_assoc body (end ++ blanks) rest
    ∙ ap (λ t. body ++ t) (append_assoc end blanks rest)))
    (done (35 ∷ (body ++ (end ++ blanks))) (grammar.comment body end blanks allowed all is_end blank))
skipped_comment comments rest cs allowed (over body end more all is_end (unclosed blanks body' _ blank all' stop)) =
    subst (Skipped comments rest) (ap (λ t. 35 ∷ t) (append_assoc body (end ++ blanks) (35 ∷ (body' ++ rest))
    ∙ ap (λ t. body ++ t) (append_assoc end blanks (35 ∷ (body' ++ rest)))))
    (unclosed (35 ∷ (body ++ (end ++ blanks))) body' allowed (grammar.comment body end blanks allowed all is_end blank)
    all' stop)

inside_byte : (comments : Bool) (rest : List ℕ) (c : ℕ) (cs : List ℕ) → is_comment_byte c ≡ true
    → SkippedInside comments rest cs → SkippedInside comments rest (c ∷ cs)
inside_byte comments rest c cs here (over body end more all is_end skipped) =
    over (c ∷ body) end more (rw here all) is_end skipped
inside_byte comments rest c cs here (still body all stop) = still (c ∷ body) (rw here all) stop

-- how a byte is skipped
data Turn (comments inside : Bool) (c : ℕ) (cs : List ℕ) : Type 0 where
  feeds : c ≡ 10 → skip_from comments inside (c ∷ cs) ≡ skip_from comments false cs → Turn comments inside c cs
  returns : (ds : List ℕ) → c ≡ 13 → cs ≡ 10 ∷ ds → skip_from comments inside (c ∷ cs) ≡ skip_from comments false ds
      → Turn comments inside c cs
  spaces : inside ≡ false → is_space c ≡ true → skip_from comments inside (c ∷ cs) ≡ skip_from comments false cs
      → Turn comments inside c cs
  says : inside ≡ true → is_comment_byte c ≡ true → skip_from comments inside (c ∷ cs) ≡ skip_from comments true cs
      → Turn comments inside c cs
  opens : inside ≡ false → comments ≡ true → c ≡ 35 → skip_from comments inside (c ∷ cs) ≡ skip_from comments true cs
      → Turn comments inside c cs
  stops : (inside ≡ true → is_comment_byte c ≡ false) → (inside ≡ false → IsInk (c ∷ cs))
      → skip_from comments inside (c ∷ cs) ≡ c ∷ cs → Turn comments inside c cs

by_turn : (comments inside : Bool) (c : ℕ) (cs : List ℕ) (state : Bool)
    → skip_turn comments inside c (first cs) ≡ Some state
    → skip_from comments inside (c ∷ cs) ≡ skip_from comments state cs
unfolding skip_from
by_turn comments inside c cs state e = rw e

by_stop : (comments inside : Bool) (c : ℕ) (cs : List ℕ) → skip_turn comments inside c (first cs) ≡ None
    → skip_from comments inside (c ∷ cs) ≡ c ∷ cs
unfolding skip_from
by_stop comments inside c cs e = rw e

after_return : (comments : Bool) (ds : List ℕ) → skip_from comments false (10 ∷ ds) ≡ skip_from comments false ds
unfolding skip_from
after_return comments ds = refl

neither : (b x : Bool) → ((b && false) && x) ≡ false
neither true x = refl
neither false x = refl

-- a byte that begins no line end
turn_other : (comments inside : Bool) (c : ℕ) (cs : List ℕ) → (c == 10) ≡ false
    → ((c == 13) && (first cs == 10)) ≡ false → Turn comments inside c cs
turn_other comments true c cs no_feed no_return =
    elim (cases_Bool (is_comment_byte c)) [
      | inl says_it ↦ says refl says_it (by_turn comments true c cs true (turn_inside comments c (first cs) says_it))
      | inr other ↦ stops (λ _. other) (λ e. absurd (true≢false e))
          (by_stop comments true c cs (rw (no_feed, no_return, other, neither comments (c == 35))))
    ]
turn_other comments false c cs no_feed no_return =
    elim (cases_Bool (is_space c)) [
      | inl space ↦ spaces refl space (by_turn comments false c cs false (turn_space comments c (first cs) space))
      | inr other ↦ elim (cases_Bool (comments && (c == 35))) [
        | inl begins ↦
            let (allowed, hash) = and_parts comments (c == 35) begins in
            opens refl allowed (grind (arith, nat_tests)) (by_turn comments false c cs true
            (rw (no_feed, no_return, other, allowed, hash)))
        | inr none ↦ stops (λ e. absurd (false≢true e)) (λ _. record
            { no_space = other; no_newline = rw (no_feed, no_return) })
            (by_stop comments false c cs (stop_turn comments c (first cs) no_feed no_return other none))
      ]
    ]
  where
    stop_turn : (comments : Bool) (c next : ℕ) → (c == 10) ≡ false → ((c == 13) && (next == 10)) ≡ false
        → is_space c ≡ false → (comments && (c == 35)) ≡ false
        → skip_turn comments false c next ≡ None
    stop_turn true c next a b d e = rw (a, b, d, e)
    stop_turn false c next a b d e = rw (a, b, d)

turn : (comments inside : Bool) (c : ℕ) (cs : List ℕ) → Turn comments inside c cs
turn comments inside c [] =
    elim (cases_Bool (c == 10)) [
      | inl feed ↦ feeds (grind (arith, nat_tests)) (by_turn comments inside c [] false (rw feed))
      | inr other ↦ turn_other comments inside c [] other (grind (arith, nat_tests))
    ]
turn comments inside c (d ∷ ds) =
    elim (cases_Bool (c == 10)) [
      | inl feed ↦ feeds (grind (arith, nat_tests)) (by_turn comments inside c (d ∷ ds) false (rw feed))
      | inr other ↦ elim (cases_Bool ((c == 13) && (d == 10))) [
        | inl both ↦
            let (return_, feed) = and_parts (c == 13) (d == 10) both in
            let is_feed : d ≡ 10 = grind (arith, nat_tests) in
            returns ds (grind (arith, nat_tests)) (ap (λ x. x ∷ ds) is_feed)
            (by_turn comments inside c (d ∷ ds) false (rw (other, return_, feed))
            ∙ ap (λ x. skip_from comments false (x ∷ ds)) is_feed ∙ after_return comments ds)
        | inr neither ↦ turn_other comments inside c (d ∷ ds) other neither
      ]
    ]

-- what `skip_from` skips of a text, outside a comment and inside one
IsSkipped : Bool → List ℕ → Type 0
IsSkipped comments text = Skipped comments (skip_from comments false text) text
    × SkippedInside comments (skip_from comments true text) text

nothing_skipped : (comments : Bool) → IsSkipped comments []
unfolding IsSkipped skip_from
nothing_skipped comments = (done [] grammar.none, still [] refl refl)

shorter : (cs ds : List ℕ) → cs ≡ 10 ∷ ds → length ds ≤ length cs
shorter cs ds e = rw e (omega arith)

outside_turn : (comments : Bool) (c : ℕ) (cs : List ℕ) → ((text : List ℕ) → length text ≤ length cs
    → IsSkipped comments text) → Turn comments false c cs
    → Skipped comments (skip_from comments false (c ∷ cs)) (c ∷ cs)
unfolding IsSkipped
outside_turn comments c cs ih (feeds is_feed e) =
    rw (e, is_feed) (skipped_newline comments (skip_from comments false cs) (10 ∷ []) cs grammar.line_feed
    (ih cs (le_refl _)).0)
outside_turn comments c cs ih (returns ds is_return is_feed e) =
    rw (e, is_return, is_feed) (skipped_newline comments (skip_from comments false ds) (13 ∷ (10 ∷ [])) ds grammar.both
    (ih ds (shorter cs ds is_feed)).0)
outside_turn comments c cs ih (spaces _ space e) = rw e (skipped_space comments (skip_from comments false cs) c cs space
    (ih cs (le_refl _)).0)
outside_turn comments c cs ih (says impossible _ e) = absurd (false≢true impossible)
outside_turn comments c cs ih (opens _ allowed hash e) = rw (e, hash)
    (skipped_comment comments (skip_from comments true cs) cs allowed (ih cs (le_refl _)).1)
outside_turn comments c cs ih (stops _ _ e) = rw e (done [] grammar.none)

inside_turn : (comments : Bool) (c : ℕ) (cs : List ℕ) → ((text : List ℕ) → length text ≤ length cs
    → IsSkipped comments text) → Turn comments true c cs
    → SkippedInside comments (skip_from comments true (c ∷ cs)) (c ∷ cs)
unfolding IsSkipped
inside_turn comments c cs ih (feeds is_feed e) = rw (e, is_feed)
    (over [] (10 ∷ []) cs refl grammar.line_feed (ih cs (le_refl _)).0)
inside_turn comments c cs ih (returns ds is_return is_feed e) =
    rw (e, is_return, is_feed) (over [] (13 ∷ (10 ∷ [])) ds refl grammar.both (ih ds (shorter cs ds is_feed)).0)
inside_turn comments c cs ih (spaces impossible _ e) = absurd (true≢false impossible)
inside_turn comments c cs ih (says _ here e) = rw e (inside_byte comments (skip_from comments true cs) c cs here
    (ih cs (le_refl _)).1)
inside_turn comments c cs ih (opens impossible _ _ e) = absurd (true≢false impossible)
inside_turn comments c cs ih (stops other _ e) = rw e (still [] refl (other refl))

step : (comments : Bool) (n c : ℕ) (cs : List ℕ) → length (c ∷ cs) < suc n
    → ((text : List ℕ) → length text ≤ length cs → IsSkipped comments text) → IsSkipped comments (c ∷ cs)
unfolding IsSkipped
step comments n c cs less ih = (
  outside_turn comments c cs ih (turn comments false c cs),
  inside_turn comments c cs ih
      (turn comments true c cs),
)

skipped_by : (comments : Bool) (n : ℕ) (text : List ℕ) → length text < n → IsSkipped comments text
skipped_by comments zero text less = absurd (omega arith)
skipped_by comments (suc n) [] less = nothing_skipped comments
skipped_by comments (suc n) (c ∷ cs) less = step comments n c cs less
    (λ text within. skipped_by comments n text (omega arith))

-- what is skipped is blank, up to a comment that no line end closes
pub skip_from_found : (comments : Bool) (text : List ℕ) → Skipped comments (skip_from comments false text) text
unfolding IsSkipped
skip_from_found comments text = (skipped_by comments (suc (length text)) text (omega arith)).0

stops_turn : (c : ℕ) (cs : List ℕ) → ((text : List ℕ) → length text ≤ length cs → IsInk (skip_from false false text))
    → Turn false false c cs
    → IsInk (skip_from false false (c ∷ cs))
stops_turn c cs ih (feeds _ e) = rw e (ih cs (le_refl _))
stops_turn c cs ih (returns ds _ is_feed e) = rw e (ih ds (shorter cs ds is_feed))
stops_turn c cs ih (spaces _ _ e) = rw e (ih cs (le_refl _))
stops_turn c cs ih (says impossible _ e) = absurd (false≢true impossible)
stops_turn c cs ih (opens _ impossible _ e) = absurd (false≢true impossible)
stops_turn c cs ih (stops _ ink e) = rw e (ink refl)

stops_by : (n : ℕ) (text : List ℕ) → length text < n → IsInk (skip_from false false text)
stops_by zero text less = absurd (omega arith)
stops_by (suc n) [] less = rw (skip_from-nil false false) (record { no_space = refl; no_newline = refl })
stops_by (suc n) (c ∷ cs) less = stops_turn c cs (λ text within. stops_by n text (omega arith)) (turn false false c cs)

-- where comments are not skipped, skipping stops at ink
pub skip_from_stops : (text : List ℕ) → IsInk (skip_from false false text)
skip_from_stops text = stops_by (suc (length text)) text (omega arith)

-- spaces and a line end at the start are skipped
pub skip_from-prefix : (spaces end more : List ℕ) → AreSpaces spaces → IsNewline end
    → skip_from false false (spaces ++ (end ++ more)) ≡ skip_from false false more
unfolding skip_from
skip_from-prefix [] end more all is_end = skip_newline false false end more is_end
skip_from-prefix (c ∷ cs) end more all is_end =
    let (here, rest) = and_parts (is_space c) (list_all is_space cs) all in
    rw (turn_space false c (first (cs ++ (end ++ more))) here) (skip_from-prefix cs end more rest is_end)
