-- Reading piece by piece gives the tokens of the grammar, and only those.
use Rattle.std.proofs.Common.{◌≡◌, ℕ, suc, ◌<◌, List, [], ◌∷◌, ◌++◌, length, Bool, true, false, refl, sym, ap, subst}
use Rattle.std.proofs.Common.{◌∙◌, arith, rules, append_assoc, append-nil, cond}
use Rattle.std.specs.Prelude.{Option, Some, None, nat_lt, option_and_then}
use Rattle.deny_globs.specs.declared.token.Token.{Token}
use Rattle.deny_globs.specs.declared.token.Token.TheVariants.{Character, AnyText, MiddleFolders, Alternatives}
use Rattle.deny_globs.specs.declared.piece.Piece.{Piece}
use Rattle.deny_globs.specs.declared.piece.Piece.TheVariants.{Token as Whole, Middle, Open, Comma, Close}
use Rattle.deny_globs.specs.declared.reading.OpenBrace.{OpenBrace}
use Rattle.deny_globs.specs.declared.reading.GlobReading.{GlobReading}
use Rattle.deny_globs.specs.Characters.{slash, comma}
use Rattle.deny_globs.specs.Tree.{most_braces, AreTokens, nothing, token, middle, middle_inside, comma_outside, braces}
use Rattle.deny_globs.specs.Tree.{AreAlternatives, last, more}
use Rattle.deny_globs.specs.private.Reading.{middle_of, parted, closed, after_piece}

abbrev pub state : List OpenBrace → List Token → GlobReading
state opened tokens = record { opened = opened; tokens = tokens }

abbrev pub start : GlobReading
start = state [] []

-- the reading after all of the pieces
abbrev pub run : GlobReading → List Piece → Option GlobReading
run reading [] = Some reading
run reading (piece ∷ pieces) = option_and_then (λ next. run next pieces) (after_piece reading piece)

abbrev pub brace : ℕ → List Token → List (List Token) → OpenBrace
brace at before alternatives = record { at = at; before = before; alternatives = alternatives }

-- ---- the tokens of the grammar are read

opened_less : (opened : List OpenBrace) (depth : ℕ) → length opened ≡ depth → depth < most_braces
    → nat_lt (length opened) most_braces ≡ true
opened_less opened depth e p = let q : length opened < most_braces = omega arith in search rules

mutual
  run_tokens : {depth : ℕ} {pieces : List Piece} {ts : List Token} → AreTokens depth pieces ts
      → (opened : List OpenBrace) (tokens : List Token) (rest : List Piece) → length opened ≡ depth →
      run (state opened tokens) (pieces ++ rest) ≡ run (state opened (tokens ++ ts)) rest
  run_tokens nothing opened tokens rest e = ap (λ l. run (state opened l) rest) (sym (append-nil tokens))
  run_tokens (token {token = t} {tokens = ts} a) opened tokens rest e =
      run_tokens a opened (tokens ++ t ∷ []) rest e
      ∙ ap (λ l. run (state opened l) rest) (append_assoc tokens (t ∷ []) ts)
  run_tokens (middle {tokens = ts} a) [] tokens rest e =
      run_tokens a [] (tokens ++ MiddleFolders ∷ []) rest e
      ∙ ap (λ l. run (state [] l) rest) (append_assoc tokens (MiddleFolders ∷ []) ts)
  run_tokens (middle a) (b ∷ opened) tokens rest e = absurd (omega arith)
  run_tokens (middle_inside a) [] tokens rest e = absurd (omega arith)
  run_tokens (middle_inside {tokens = ts} a) (b ∷ opened) tokens rest e =
      let three : List Token = Character slash ∷ AnyText ∷ Character slash ∷ [] in
      run_tokens a (b ∷ opened) (tokens ++ three) rest e
      ∙ ap (λ l. run (state (b ∷ opened) l) rest) (append_assoc tokens three ts)
  run_tokens (comma_outside {tokens = ts} a) [] tokens rest e =
      run_tokens a [] (tokens ++ Character comma ∷ []) rest e
      ∙ ap (λ l. run (state [] l) rest) (append_assoc tokens (Character comma ∷ []) ts)
  run_tokens (comma_outside a) (b ∷ opened) tokens rest e = absurd (omega arith)
  run_tokens (braces {depth} {from} {tokens = ts} {alternatives} within behind to less a b) opened tokens rest e =
      let one : Token = Alternatives alternatives in
      ap (λ c. option_and_then (λ next. run next ((within ++ Close to ∷ behind) ++ rest))
      (cond c (Some (state (brace from tokens [] ∷ opened) [])) None)) (opened_less opened depth e less)
      ∙ ap (run (state (brace from tokens [] ∷ opened) [])) (append_assoc within (Close to ∷ behind) rest)
      ∙ run_alternatives a (brace from tokens []) opened (behind ++ rest) to (ap suc e)
      ∙ run_tokens b opened (tokens ++ one ∷ []) rest e
      ∙ ap (λ l. run (state opened l) rest) (append_assoc tokens (one ∷ []) ts)

  run_alternatives : {depth : ℕ} {pieces : List Piece} {ends : List (List Token)} → AreAlternatives depth pieces ends
      → (b : OpenBrace) (outer : List OpenBrace) (rest : List Piece) (to : ℕ) → suc (length outer) ≡ depth →
      run (state (b ∷ outer) []) (pieces ++ Close to ∷ rest)
      ≡ run (state outer (b.before ++ Alternatives (b.alternatives ++ ends) ∷ [])) rest
  run_alternatives (last a) b outer rest to e = run_tokens a (b ∷ outer) [] (Close to ∷ rest) e
  run_alternatives (more {tokens = ts} {alternatives = ends} pieces behind a others) b outer rest to e =
      ap (run (state (b ∷ outer) [])) (append_assoc pieces (Comma ∷ behind) (Close to ∷ rest))
      ∙ run_tokens a (b ∷ outer) [] (Comma ∷ (behind ++ Close to ∷ rest)) e
      ∙ run_alternatives others (brace b.at b.before (b.alternatives ++ ts ∷ [])) outer rest to e
      ∙ ap (λ l. run (state outer (b.before ++ Alternatives l ∷ [])) rest) (append_assoc b.alternatives (ts ∷ []) ends)

pub run_of_tokens : {pieces : List Piece} {tokens : List Token} → AreTokens 0 pieces tokens
    → run start pieces ≡ Some (state [] tokens)
run_of_tokens {pieces} a = ap (run start) (sym (append-nil pieces)) ∙ run_tokens a [] [] [] refl

-- ---- the tokens that are read are in the grammar

data AreEnded : ℕ → List Piece → List (List Token) → Type 0 where
  none : {depth : ℕ} → AreEnded depth [] []
  ended : {depth : ℕ} {tokens : List Token} {alternatives : List (List Token)} (before pieces : List Piece)
      → AreEnded depth before alternatives → AreTokens depth pieces tokens →
      AreEnded depth (before ++ (pieces ++ Comma ∷ [])) (alternatives ++ tokens ∷ [])

data Held : List OpenBrace → List Token → List Piece → Type 0 where
  outside : {tokens : List Token} {pieces : List Piece} → AreTokens 0 pieces tokens → Held [] tokens pieces
  inside : {b : OpenBrace} {outer : List OpenBrace} {tokens : List Token} (before ends pieces : List Piece)
      → length outer < most_braces → Held outer b.before before →
      AreEnded (suc (length outer)) ends b.alternatives → AreTokens (suc (length outer)) pieces tokens
      → Held (b ∷ outer) tokens (before ++ Open b.at ∷ (ends ++ pieces))

tokens_append : {depth : ℕ} {ps qs : List Piece} {ts us : List Token} → AreTokens depth ps ts → AreTokens depth qs us
    → AreTokens depth (ps ++ qs) (ts ++ us)
tokens_append nothing b = b
tokens_append (token a) b = token (tokens_append a b)
tokens_append (middle a) b = middle (tokens_append a b)
tokens_append (middle_inside a) b = middle_inside (tokens_append a b)
tokens_append (comma_outside a) b = comma_outside (tokens_append a b)
tokens_append {depth} {qs = qs} {us = us}
    (braces {from = from} {tokens = ts} {alternatives = alternatives} within behind to less a c) b =
    subst (λ l. AreTokens depth (Open from ∷ l) (Alternatives alternatives ∷ (ts ++ us)))
    (sym (append_assoc within (Close to ∷ behind) qs)) (braces within (behind ++ qs) to less a (tokens_append c b))

held_more : {opened : List OpenBrace} {tokens us : List Token} {pieces qs : List Piece} → Held opened tokens pieces
    → AreTokens (length opened) qs us → Held opened (tokens ++ us) (pieces ++ qs)
held_more (outside a) b = outside (tokens_append a b)
held_more {us = us} {qs = qs} (inside {b} {outer} {tokens} before ends pieces less h e a) c =
    subst (λ l. Held (b ∷ outer) (tokens ++ us) l)
    (ap (λ l. before ++ Open b.at ∷ l) (sym (append_assoc ends pieces qs))
    ∙ sym (append_assoc before (Open b.at ∷ (ends ++ pieces)) qs))
    (inside before ends (pieces ++ qs) less h e (tokens_append a c))

alternatives_of : {depth : ℕ} {ends pieces : List Piece} {ts us : List (List Token)} → AreEnded depth ends ts
    → AreAlternatives depth pieces us → AreAlternatives depth (ends ++ pieces) (ts ++ us)
alternatives_of none a = a
alternatives_of {depth} {pieces = pieces} {us = us} (ended {tokens = t} {alternatives = ts} before qs e b) a =
    subst (λ l. AreAlternatives depth l ((ts ++ t ∷ []) ++ us))
    (ap (λ l. before ++ l) (sym (append_assoc qs (Comma ∷ []) pieces))
    ∙ sym (append_assoc before (qs ++ Comma ∷ []) pieces))
    (subst (λ l. AreAlternatives depth (before ++ (qs ++ Comma ∷ pieces)) l) (sym (append_assoc ts (t ∷ []) us))
    (alternatives_of e (more qs pieces b a)))

held_open : (c : Bool) (at : ℕ) (opened : List OpenBrace) (tokens : List Token) (done : List Piece) (next : GlobReading)
    → nat_lt (length opened) most_braces ≡ c → Held opened tokens done →
    cond c (Some (state (brace at tokens [] ∷ opened) [])) None ≡ Some next
    → Held next.opened next.tokens (done ++ Open at ∷ [])
held_open true at opened tokens done next l h e =
    let less : length opened < most_braces = search rules in
    let same : state (brace at tokens [] ∷ opened) [] ≡ next = cc in
    subst (λ r. Held r.opened r.tokens (done ++ Open at ∷ [])) same (inside done [] [] less h none nothing)
held_open false at opened tokens done next l h e = cc

held_middle : (opened : List OpenBrace) (tokens : List Token) (done : List Piece) → Held opened tokens done
    → Held opened (tokens ++ middle_of opened) (done ++ Middle ∷ [])
held_middle [] tokens done h = held_more h (middle nothing)
held_middle (b ∷ opened) tokens done h = held_more h (middle_inside nothing)

held_part : {opened : List OpenBrace} {tokens : List Token} {done : List Piece} → Held opened tokens done
    → Held (parted opened tokens).opened (parted opened tokens).tokens (done ++ Comma ∷ [])
held_part (outside a) = outside (tokens_append a (comma_outside nothing))
held_part (inside {b} {outer} {tokens} before ends pieces less h e a) =
    let after : OpenBrace = brace b.at b.before (b.alternatives ++ tokens ∷ []) in
    subst (λ l. Held (after ∷ outer) [] l)
    (ap (λ l. before ++ Open b.at ∷ l) (append-nil (ends ++ (pieces ++ Comma ∷ []))
    ∙ sym (append_assoc ends pieces (Comma ∷ [])))
    ∙ sym (append_assoc before (Open b.at ∷ (ends ++ pieces)) (Comma ∷ [])))
    (inside {b = after} before (ends ++ (pieces ++ Comma ∷ [])) [] less h (ended ends pieces e a) nothing)

held_close : {opened : List OpenBrace} {tokens : List Token} {done : List Piece} (to : ℕ) (next : GlobReading)
    → Held opened tokens done → closed opened tokens ≡ Some next → Held next.opened next.tokens (done ++ Close to ∷ [])
held_close to next (outside a) c = cc
held_close to next (inside {b} {outer} {tokens} before ends pieces less h e a) c =
    let same : state outer (b.before ++ Alternatives (b.alternatives ++ tokens ∷ []) ∷ []) ≡ next = cc in
    subst (λ r. Held r.opened r.tokens ((before ++ Open b.at ∷ (ends ++ pieces)) ++ Close to ∷ [])) same
    (subst (λ l. Held outer (b.before ++ Alternatives (b.alternatives ++ tokens ∷ []) ∷ []) l)
    (sym (append_assoc before (Open b.at ∷ (ends ++ pieces)) (Close to ∷ [])))
    (held_more h (braces (ends ++ pieces) [] to less (alternatives_of e (last a)) nothing)))

held_after : (piece : Piece) (reading next : GlobReading) (done : List Piece) → Held reading.opened reading.tokens done
    → after_piece reading piece ≡ Some next → Held next.opened next.tokens (done ++ piece ∷ [])
held_after (Whole t) reading next done h e =
    let same : state reading.opened (reading.tokens ++ t ∷ []) ≡ next = cc in
    subst (λ r. Held r.opened r.tokens (done ++ Whole t ∷ [])) same (held_more h (token nothing))
held_after Middle reading next done h e =
    let same : state reading.opened (reading.tokens ++ middle_of reading.opened) ≡ next = cc in
    subst (λ r. Held r.opened r.tokens (done ++ Middle ∷ [])) same (held_middle reading.opened reading.tokens done h)
held_after (Open at) reading next done h e = held_open (nat_lt (length reading.opened) most_braces) at reading.opened
    reading.tokens done next refl h e
held_after Comma reading next done h e =
    let same : parted reading.opened reading.tokens ≡ next = cc in
    subst (λ r. Held r.opened r.tokens (done ++ Comma ∷ [])) same (held_part h)
held_after (Close at) reading next done h e = held_close at next h e

pub after_some : (read : Option GlobReading) (pieces : List Piece) (end : GlobReading)
    → option_and_then (λ next. run next pieces) read ≡ Some end
    → (next : GlobReading) × (read ≡ Some next) × (run next pieces ≡ Some end)
after_some None pieces end e = cc
after_some (Some next) pieces end e = (next, refl, e)

run_held : (pieces : List Piece) (reading end : GlobReading) (done : List Piece) → Held reading.opened reading.tokens
    done
    → run reading pieces ≡ Some end → Held end.opened end.tokens (done ++ pieces)
run_held [] reading end done h e =
    let same : reading ≡ end = cc in
    subst (λ r. Held r.opened r.tokens (done ++ [])) same
    (subst (λ l. Held reading.opened reading.tokens l) (sym (append-nil done)) h)
run_held (piece ∷ pieces) reading end done h e =
    let s = after_some (after_piece reading piece) pieces end e in
    subst (λ l. Held end.opened end.tokens l) (append_assoc done (piece ∷ []) pieces)
    (run_held pieces s.0 end (done ++ piece ∷ []) (held_after piece reading s.0 done h s.1) s.2)

outside_only : {tokens : List Token} {pieces : List Piece} → Held [] tokens pieces → AreTokens 0 pieces tokens
outside_only (outside a) = a

pub tokens_of_run : (pieces : List Piece) (tokens : List Token) → run start pieces ≡ Some (state [] tokens)
    → AreTokens 0 pieces tokens
tokens_of_run pieces tokens e = outside_only (run_held pieces start (state [] tokens) [] (outside nothing) e)

pub run_more : (pieces : List Piece) (piece : Piece) (reading middle_reading end : GlobReading)
    → run reading pieces ≡ Some middle_reading → after_piece middle_reading piece ≡ Some end
    → run reading (pieces ++ piece ∷ []) ≡ Some end
run_more [] piece reading mid end e f =
    let same : reading ≡ mid = cc in
    ap (λ r. option_and_then (λ next. Some next) (after_piece r piece)) same
    ∙ ap (option_and_then (λ next. Some next)) f
run_more (p ∷ pieces) piece reading mid end e f =
    let s = after_some (after_piece reading p) pieces mid e in
    ap (option_and_then (λ next. run next (pieces ++ piece ∷ []))) s.1 ∙ run_more pieces piece s.0 mid end s.2 f
