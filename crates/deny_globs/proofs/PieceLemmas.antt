-- The piece that the rest of a pattern begins with.
use Rattle.std.proofs.Common.{◌≡◌, cond, ℕ, ◌+◌, ◌<◌, ◌≤◌, List, [], ◌∷◌, ◌++◌, length, get_or, take, drop, Bool, true}
use Rattle.std.proofs.Common.{false, IsTrue, refl, sym, ap, subst, inl, inr, ◌∙◌, arith, append_assoc, length-append}
use Rattle.std.specs.Prelude.{◌==◌, ◌&&◌}
use Rattle.std.proofs.lemmas.List.{take-append-drop, length-take-le, take_at, drop_at}
use Rattle.deny_globs.specs.declared.token.CharacterRange.{CharacterRange}
use Rattle.std.specs.Prelude.{take_while}
use Rattle.std.specs.List.{list_all, prefix_len}
use Rattle.std.proofs.lemmas.List.Folds.{length-prefix_len}
use Rattle.deny_globs.specs.declared.token.Token.TheVariants.{Character, AnyText, LeadingFolders, TrailingPath}
use Rattle.deny_globs.specs.declared.piece.Piece.{Piece}
use Rattle.deny_globs.specs.declared.piece.Piece.TheVariants.{Token, Middle}
use Rattle.deny_globs.specs.declared.stop.Stop.{Stop}
use Rattle.deny_globs.specs.declared.stop.Stop.TheVariants.{Fault, Memory}
use Rattle.deny_globs.specs.Characters.{slash, star, backslash, open_bracket, close_bracket, begins, begins_mark}
use Rattle.deny_globs.specs.Pieces.{AreMembers, IsMark, negates, no_mark, is_leading, is_trailing, is_middle, IsPiece}
use Rattle.deny_globs.specs.Pieces.{leading, stars, middle, trailing, lone_slash, escaped, class}
use Rattle.deny_globs.specs.private.Steps.{escapes_nothing, has_falling_range}
use Rattle.deny_globs.specs.private.Steps.{IsClosedClass, StopsMembers, IsPieceOf, IsStop}
use Rattle.deny_globs.specs.private.Steps.{is_unclosed}
use Rattle.deny_globs.specs.private.Steps.{StopsPiece, piece_of_class}
use Rattle.deny_globs.proofs.ClassLemmas.{same_number, both_true, and_true}

piece_of : (at : ℕ) (rest : List ℕ) (size : ℕ) (piece : Piece) (prefix behind : List ℕ) → rest ≡ prefix ++ behind
    → size ≡ length prefix → 0 < size → IsPiece at prefix behind piece → IsPieceOf at rest size piece
piece_of at rest size piece prefix behind w s p is =
    let t : take size rest ≡ prefix = ap (take size) w ∙ take_at prefix behind size (sym s) in
    let d : drop size rest ≡ behind = ap (drop size) w ∙ drop_at prefix behind size (sym s) in
    let l : length rest ≡ length prefix + length behind = ap length w ∙ length-append prefix behind in
    record {
      some = p;
      within = omega arith;
      is_piece = subst (λ f. IsPiece at f (drop size rest) piece) (sym t)
          (subst (λ b. IsPiece at prefix b piece) (sym d) is);
    }

-- characters that begin with a character are that and the rest
begin_with : (c : ℕ) (cs : List ℕ) → IsTrue (begins c cs) → cs ≡ c ∷ drop 1 cs
begin_with c [] h = cc
begin_with c (d ∷ cs) h = ap (λ x. x ∷ cs) (same_number d c h)

pub class_closed : (at : ℕ) (negated : Bool) (rest mark body : List ℕ) (size total : ℕ) (ranges : List CharacterRange)
    → rest ≡ open_bracket ∷ (mark ++ body) → IsMark mark body negated →
    IsClosedClass body size ranges → total ≡ length mark + size + 2
    → IsPieceOf at rest total (piece_of_class negated ranges)
class_closed at negated rest mark body size total ranges w m closed t =
    let members = take size body in
    let behind = drop 1 (drop size body) in
    let bracket : drop size body ≡ close_bracket ∷ behind = begin_with close_bracket (drop size body) closed.closed in
    let parts : body ≡ members ++ close_bracket ∷ behind = sym (take-append-drop size body)
    ∙ ap (λ l. members ++ l) bracket in
    let count : length members ≡ size = length-take-le size body (let h = closed.within in omega arith) in
    let whole : rest ≡ (open_bracket ∷ (mark ++ (members ++ close_bracket ∷ []))) ++ behind =
    w ∙ ap (λ b. open_bracket ∷ (mark ++ b)) (parts ∙ sym (append_assoc members (close_bracket ∷ []) behind))
    ∙ ap (λ l. open_bracket ∷ l) (sym (append_assoc mark (members ++ close_bracket ∷ []) behind)) in
    let long : length (mark ++ (members ++ close_bracket ∷ [])) ≡ length mark + (length members + 1) = length-append
    mark (members ++ close_bracket ∷ []) ∙ ap (λ n. length mark + n) (length-append members (close_bracket ∷ [])) in
    let some = closed.some in
    piece_of at rest total (piece_of_class negated ranges) (open_bracket ∷ (mark ++ (members ++ close_bracket ∷ [])))
    behind whole (omega arith) (omega arith)
    (class mark members (subst (λ b. IsMark mark b negated) parts m)
    (subst (λ b. AreMembers true members b ranges) bracket closed.members) (omega arith))

pub class_stops : (at unclosed : ℕ) (negated : Bool) (rest mark body : List ℕ) (from : ℕ) (stop : Stop)
    → rest ≡ open_bracket ∷ (mark ++ body) → IsMark mark body negated → from ≡ at + 1 + length mark →
    StopsMembers from unclosed body stop → StopsPiece at unclosed rest stop
class_stops at unclosed negated rest mark body from (Fault i) w m f (inl s) =
    let index : at + 1 + length mark + s.0 ≡ i = sym (s.2 ∙ ap (λ n. n + s.0) f) in
    subst (λ n. IsStop at unclosed rest n) index
    (subst (λ r. IsStop at unclosed r (at + 1 + length mark + s.0)) (sym w) (has_falling_range mark body s.0 m s.1))
class_stops at unclosed negated rest mark body from (Fault i) w m f (inr s) =
    subst (λ n. IsStop at unclosed rest n) (sym s.1)
    (subst (λ r. IsStop at unclosed r unclosed) (sym w) (is_unclosed mark body m s.0))
class_stops at unclosed negated rest mark body from Memory w m f s = tt

-- A class with a mark of negation.

pub record IsNegated (rest : List ℕ) : Type 0 where
  pub mark : ℕ
  pub whole : rest ≡ open_bracket ∷ ((mark ∷ []) ++ drop 2 rest)
  pub is : IsMark (mark ∷ []) (drop 2 rest) true

pub negated_class : (rest : List ℕ) → IsTrue (begins open_bracket rest) → true ≡ begins_mark (drop 1 rest)
    → IsNegated rest
negated_class [] b h = cc
negated_class (c ∷ []) b h = cc
negated_class (c ∷ mark ∷ rest) b h = record
    { mark = mark; whole = ap (λ x. x ∷ mark ∷ rest) (same_number c open_bracket b); is = negates (sym h) }

pub plain_class : (rest : List ℕ) → IsTrue (begins open_bracket rest) → rest ≡ open_bracket ∷ ([] ++ drop 1 rest)
plain_class rest b = begin_with open_bracket rest b

pub plain_mark : (rest : List ℕ) → false ≡ begins_mark (drop 1 rest) → IsMark [] (drop 1 rest) false
plain_mark rest h = no_mark (sym h)

-- ---- a run of stars

abbrev pub is_star : ℕ → Bool
is_star c = c == star

record StarRun (rest : List ℕ) (count : ℕ) : Type 0 where
  prefix : List ℕ
  behind : List ℕ
  whole : rest ≡ prefix ++ behind
  all : IsTrue (list_all (λ c. c == star) prefix)
  stops : begins star behind ≡ false
  size : length prefix ≡ count

run_of : (b : Bool) (c : ℕ) (rest : List ℕ) → (c == star) ≡ b → StarRun rest (prefix_len is_star rest)
    → StarRun (c ∷ rest) (cond b (1 + prefix_len is_star rest) 0)
run_of true c rest e r = record {
  prefix = c ∷ r.prefix;
  behind = r.behind;
  whole = ap (λ l. c ∷ l) r.whole;
  all = and_true (c == star) (list_all (λ d. d == star) r.prefix) e r.all;
  stops = r.stops;
  size = let h = r.size in omega arith;
}
run_of false c rest e r = record { prefix = []; behind = c ∷ rest; whole = refl; all = refl; stops = e; size = refl }

star_run : (rest : List ℕ) → StarRun rest (prefix_len is_star rest)
star_run [] = record { prefix = []; behind = []; whole = refl; all = refl; stops = refl; size = refl }
star_run (c ∷ rest) = run_of (c == star) c rest refl (star_run rest)

run_counted : (rest : List ℕ) (count : ℕ) → count ≡ length (take_while is_star rest) → StarRun rest count
run_counted rest count e = subst (StarRun rest) (sym (e ∙ length-prefix_len is_star rest)) (star_run rest)

some_stars : (rest prefix behind : List ℕ) → IsTrue (begins star rest) → rest ≡ prefix ++ behind
    → begins star behind ≡ false → 0 < length prefix
some_stars rest [] behind b w s = let h : begins star rest ≡ false = ap (begins star) w ∙ s in cc
some_stars rest (c ∷ prefix) behind b w s = omega arith

pub stars_piece : (at : ℕ) (rest : List ℕ) (count : ℕ) → IsTrue (begins star rest)
    → count ≡ length (take_while is_star rest) → false ≡ is_leading at count (drop count rest) →
    IsPieceOf at rest count (Token AnyText)
stars_piece at rest count b e l =
    let r = run_counted rest count e in
    let some : 0 < length r.prefix = some_stars rest r.prefix r.behind b r.whole r.stops in
    let size = r.size in
    let behind : drop count rest ≡ r.behind = ap (drop count) r.whole ∙ drop_at r.prefix r.behind count size in
    let not_leading : is_leading at (length r.prefix) r.behind ≡ false = ap (λ n. is_leading at n r.behind) size
    ∙ ap (is_leading at count) (sym behind) ∙ sym l in
    piece_of at rest count (Token AnyText) r.prefix r.behind r.whole (sym size) (omega arith)
    (stars r.all some r.stops not_leading)

two_stars : (cs : List ℕ) → IsTrue (list_all (λ c. c == star) cs) → length cs ≡ 2 → cs ≡ star ∷ star ∷ []
two_stars [] h e = absurd (omega arith)
two_stars (a ∷ []) h e = absurd (omega arith)
two_stars (a ∷ b ∷ []) h e =
    let p = both_true (a == star) (list_all (λ c. c == star) (b ∷ [])) h in
    let q = both_true (b == star) true p.1 in
    let x : a ≡ star = same_number a star p.0 in
    let y : b ≡ star = same_number b star q.0 in
    cc
two_stars (a ∷ b ∷ c ∷ cs) h e = absurd (omega arith)

pub leading_piece : (at : ℕ) (rest : List ℕ) (count : ℕ) → count ≡ length (take_while is_star rest)
    → true ≡ is_leading at count (drop count rest) →
    IsPieceOf at rest 3 (Token LeadingFolders)
leading_piece at rest count e l =
    let r = run_counted rest count e in
    let p = both_true (at == 0) ((count == 2) && begins slash (drop count rest)) (sym l) in
    let q = both_true (count == 2) (begins slash (drop count rest)) p.1 in
    let start : at ≡ 0 = same_number at 0 p.0 in
    let two : length r.prefix ≡ 2 = r.size ∙ same_number count 2 q.0 in
    let behind : r.behind ≡ slash ∷ drop 1 r.behind =
    begin_with slash r.behind
    (subst (λ l. IsTrue (begins slash l)) (ap (drop count) r.whole ∙ drop_at r.prefix r.behind count r.size) q.1) in
    let whole : rest ≡ (star ∷ star ∷ slash ∷ []) ++ drop 1 r.behind =
    r.whole ∙ ap (λ l. r.prefix ++ l) behind ∙ ap (λ l. l ++ slash ∷ drop 1 r.behind) (two_stars r.prefix r.all two) in
    piece_of at rest 3 (Token LeadingFolders) (star ∷ star ∷ slash ∷ []) (drop 1 r.behind) whole refl (omega arith)
    (leading start)

-- ---- a slash

trailing_shape : (cs : List ℕ) → is_trailing cs ≡ true → cs ≡ star ∷ star ∷ []
trailing_shape [] h = cc
trailing_shape (a ∷ []) h = cc
trailing_shape (a ∷ b ∷ []) h =
    let p = both_true (a == star) (b == star) h in
    let x : a ≡ star = same_number a star p.0 in
    let y : b ≡ star = same_number b star p.1 in
    cc
trailing_shape (a ∷ b ∷ c ∷ cs) h = cc

middle_shape : (cs : List ℕ) → is_middle cs ≡ true → cs ≡ star ∷ star ∷ slash ∷ drop 3 cs
middle_shape [] h = cc
middle_shape (a ∷ []) h = cc
middle_shape (a ∷ b ∷ []) h = cc
middle_shape (a ∷ b ∷ c ∷ cs) h =
    let p = both_true (a == star) ((b == star) && (c == slash)) h in
    let q = both_true (b == star) (c == slash) p.1 in
    let x : a ≡ star = same_number a star p.0 in
    let y : b ≡ star = same_number b star q.0 in
    let z : c ≡ slash = same_number c slash q.1 in
    cc

pub trailing_piece : (at : ℕ) (rest : List ℕ) → IsTrue (begins slash rest) → true ≡ is_trailing (drop 1 rest)
    → IsPieceOf at rest 3 (Token TrailingPath)
trailing_piece at rest b h =
    piece_of at rest 3 (Token TrailingPath) (slash ∷ star ∷ star ∷ []) [] (begin_with slash rest b
    ∙ ap (λ l. slash ∷ l) (trailing_shape (drop 1 rest) (sym h))) refl (omega arith) trailing

pub middle_piece : (at : ℕ) (rest : List ℕ) → IsTrue (begins slash rest) → true ≡ is_middle (drop 1 rest)
    → IsPieceOf at rest 4 Middle
middle_piece at rest b h =
    piece_of at rest 4 Middle (slash ∷ star ∷ star ∷ slash ∷ []) (drop 3 (drop 1 rest)) (begin_with slash rest b
    ∙ ap (λ l. slash ∷ l) (middle_shape (drop 1 rest) (sym h))) refl (omega arith) middle

pub slash_piece : (at : ℕ) (rest : List ℕ) → IsTrue (begins slash rest) → false ≡ is_trailing (drop 1 rest)
    → false ≡ is_middle (drop 1 rest) → IsPieceOf at rest 1 (Token (Character slash))
slash_piece at rest b t m =
    piece_of at rest 1 (Token (Character slash)) (slash ∷ []) (drop 1 rest) (begin_with slash rest b) refl (omega arith)
    (lone_slash (sym t) (sym m))

-- ---- an escape

pub escaped_piece : (at : ℕ) (rest : List ℕ) (c : ℕ) → IsTrue (begins backslash rest) → 2 ≤ length rest
    → c ≡ get_or rest 1 c → IsPieceOf at rest 2 (Token (Character c))
escaped_piece at [] c b l e = absurd (omega arith)
escaped_piece at (a ∷ []) c b l e = absurd (omega arith)
escaped_piece at (a ∷ d ∷ rest) c b l e =
    let x : a ≡ backslash = same_number a backslash b in
    let whole : a ∷ d ∷ rest ≡ backslash ∷ c ∷ rest = cc in
    piece_of at (a ∷ d ∷ rest) 2 (Token (Character c)) (backslash ∷ c ∷ []) rest whole refl (omega arith) escaped

pub escapes_none : (at unclosed : ℕ) (rest : List ℕ) → IsTrue (begins backslash rest) → length rest < 2
    → IsStop at unclosed rest at
escapes_none at unclosed [] b l = cc
escapes_none at unclosed (a ∷ []) b l = let x : backslash ≡ a = sym (same_number a backslash b) in
    subst (λ c. IsStop at unclosed (c ∷ []) at) x escapes_nothing
escapes_none at unclosed (a ∷ d ∷ rest) b l = absurd (omega arith)

-- ---- one character

pub one_piece : (at c d : ℕ) (rest : List ℕ) (piece : Piece) → 0 < length rest → d ≡ get_or rest 0 d → d ≡ c
    → ((behind : List ℕ) → IsPiece at (c ∷ []) behind piece) → IsPieceOf at rest 1 piece
one_piece at c d [] piece p e f is = absurd (omega arith)
one_piece at c d (b ∷ rest) piece p e f is = piece_of at (b ∷ rest) 1 piece (c ∷ []) rest
    (ap (λ x. x ∷ rest) (sym e ∙ f)) refl (omega arith) (is rest)
