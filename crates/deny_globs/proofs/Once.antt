-- A text has at most one list of tokens, and none where it has a fault.
use Rattle.std.proofs.Common.{◌≡◌, cond, ℕ, zero, suc, ◌+◌, ◌<◌, List, [], ◌∷◌, ◌++◌, length, get_or, drop, Bool, true}
use Rattle.std.proofs.Common.{false, IsTrue, refl, sym, ap, subst, ◌∙◌, arith, rules, append_assoc, append-nil}
use Rattle.std.proofs.Common.{length-append, add_assoc}
use Rattle.std.specs.Prelude.{◌==◌, ◌&&◌, not, Option, Some, None, option_map, option_and_then, nat_le, nat_lt}
use Rattle.std.specs.List.{list_all, prefix_len}
use Rattle.std.proofs.Math.Nat.{zero-add, add-zero}
use Rattle.std.proofs.lemmas.List.{append_cancel_right, drop_at}
use Rattle.std.proofs.lemmas.Bool.{not-true, cond-true, cond-false}
use Rattle.deny_base_lists.proofs.Numbers.{nat_le-true}
use Rattle.deny_base_lists.proofs.Booleans.{and-true, and-false}
use Rattle.deny_globs.specs.declared.token.CharacterRange.{CharacterRange}
use Rattle.deny_globs.specs.declared.token.Token.TheVariants.{Character, AnyCharacter, OneOf, AnyText, LeadingFolders}
use Rattle.deny_globs.specs.declared.token.Token.TheVariants.{TrailingPath}
use Rattle.deny_globs.specs.declared.piece.Piece.{Piece}
use Rattle.deny_globs.specs.declared.piece.Piece.TheVariants.{Token, Middle, Open, Comma, Close}
use Rattle.deny_globs.specs.Characters.{slash, star, question_mark, backslash, open_bracket, close_bracket, comma}
use Rattle.deny_globs.specs.Characters.{open_brace, close_brace, is_mark, is_plain, begins, begins_mark}
use Rattle.deny_globs.specs.Pieces.{may_be_member, begins_range, AreMembers, no_more, range, one, IsMark, negates}
use Rattle.deny_globs.specs.Pieces.{no_mark, is_leading, is_trailing, is_middle, IsPiece, question, leading, stars}
use Rattle.deny_globs.specs.Pieces.{middle, trailing, lone_slash, escaped, class, open_braces, parting_comma}
use Rattle.deny_globs.specs.Pieces.{close_braces, itself, Spells, nothing, next}
use Rattle.deny_globs.specs.Faults.{is_empty, FallsAt, falls, open_behind, IsReadTo, FirstFault, unopened, too_deep}
use Rattle.deny_globs.specs.Faults.{nothing_escaped, falling_range, unclosed_class, unclosed_brace}
use Rattle.deny_globs.specs.declared.token.Token.{Token as Token'}
use Rattle.deny_globs.specs.Tree.{most_braces, IsGlob}
use Rattle.deny_globs.proofs.Braces.{state, start, run, run_of_tokens}
use Rattle.deny_globs.proofs.GlobLemmas.{some_is, open_run}
use Rattle.deny_globs.proofs.ClassLemmas.{same_number}
use Rattle.deny_globs.proofs.PieceLemmas.{is_star}
use Rattle.deny_globs.proofs.ClassLemmas.{both_true}

-- the members of a class, after this many characters of the last one, and the characters after the `]`

abbrev pub Members : Type 0
Members = Option (List CharacterRange × List ℕ)

abbrev pub with_range : CharacterRange → Members → Members
with_range r o = option_map (λ p. (r ∷ p.0, p.1)) o

abbrev with_ranges : List CharacterRange → Members → Members
with_ranges rs o = option_map (λ p. (rs ++ p.0, p.1)) o

abbrev pub members_at : Bool → ℕ → List ℕ → Members
members_at is_first skip [] = None
members_at is_first (suc skip) (c ∷ cs) = members_at is_first skip cs
members_at is_first zero (c ∷ cs) =
    cond (may_be_member is_first c)
    (cond (begins_range cs)
    (cond (nat_le c (get_or cs 1 0)) (with_range (record { first = c; last = get_or cs 1 0 }) (members_at false 2 cs))
    None)
    (with_range (record { first = c; last = c }) (members_at false zero cs)))
    (Some ([], cs))

with_none : (o : Members) → with_ranges [] o ≡ o
with_none None = refl
with_none (Some p) = refl

with_one : (r : CharacterRange) (rs : List CharacterRange) (o : Members)
    → with_range r (with_ranges rs o) ≡ with_ranges (r ∷ rs) o
with_one r rs None = refl
with_one r rs (Some p) = refl

pub nat_le_false : (a b : ℕ) → b < a → nat_le a b ≡ false
nat_le_false a b p = search rules

members_read : {is_first : Bool} {cs behind : List ℕ} {ranges : List CharacterRange}
    → AreMembers is_first cs behind ranges →
    members_at is_first zero (cs ++ behind) ≡ with_ranges ranges (members_at (is_first && is_empty cs) zero behind)
members_read {is_first} {behind = behind} no_more = ap (λ b. members_at b zero behind) (sym (and-true is_first))
    ∙ sym (with_none (members_at (is_first && true) zero behind))
members_read {is_first} {behind = behind} (range {first = x} {last = y} {cs} {ranges = rs} m l le rest) =
    let r : CharacterRange = record { first = x; last = y } in
    cond-true (may_be_member is_first x) _ _ m
    ∙ cond-true (not (y == close_bracket)) _ _ l
    ∙ cond-true (nat_le x y) _ _ (nat_le-true x y le)
    ∙ ap (with_range r) (members_read rest)
    ∙ with_one r rs (members_at false zero behind)
    ∙ ap (λ b. with_ranges (r ∷ rs) (members_at b zero behind)) (sym (and-false is_first))
members_read {is_first} {behind = behind} (one {c = c} {cs} {ranges = rs} m b rest) =
    let r : CharacterRange = record { first = c; last = c } in
    cond-true (may_be_member is_first c) _ _ m
    ∙ cond-false (begins_range (cs ++ behind)) _ _ b
    ∙ ap (with_range r) (members_read rest)
    ∙ with_one r rs (members_at false zero behind)
    ∙ ap (λ b. with_ranges (r ∷ rs) (members_at b zero behind)) (sym (and-false is_first))

not_empty : (cs : List ℕ) → 0 < length cs → is_empty cs ≡ false
not_empty [] p = absurd (omega arith)
not_empty (c ∷ cs) p = refl

members_closed : (cs behind : List ℕ) (ranges : List CharacterRange)
    → AreMembers true cs (close_bracket ∷ behind) ranges → 0 < length cs
    → members_at true zero (cs ++ close_bracket ∷ behind) ≡ Some (ranges, behind)
members_closed cs behind ranges m p =
    members_read m ∙ ap (λ b. with_ranges ranges (members_at b zero (close_bracket ∷ behind))) (not_empty cs p)
    ∙ ap (λ rs. Some (rs, behind)) (append-nil ranges)

members_open : (cs : List ℕ) (ranges : List CharacterRange) → AreMembers true cs [] ranges
    → members_at true zero cs ≡ None
members_open cs ranges m = ap (members_at true zero) (sym (append-nil cs)) ∙ members_read m

members_falling : {body : List ℕ} {into : ℕ} → FallsAt body into → members_at true zero body ≡ None
members_falling (falls {ranges} members behind x y m may l lt) =
    members_read m
    ∙ ap (with_ranges ranges) (cond-true (may_be_member (is_empty members) x) _ _ may
    ∙ cond-true (not (y == close_bracket)) _ _ l ∙ cond-false (nat_le x y) _ _ (nat_le_false x y lt))

-- the piece that the characters begin with, if there is one, and the characters after it

abbrev Begun : Type 0
Begun = Option (Piece × List ℕ)

abbrev pub class_of : Bool → Members → Begun
class_of negated o = option_map (λ p. (Token (OneOf (record { negated = negated; ranges = p.0 })), p.1)) o

abbrev pub class_at : List ℕ → Begun
class_at cs = cond (begins_mark cs) (class_of true (members_at true zero (drop 1 cs)))
    (class_of false (members_at true zero cs))

abbrev stars_at : ℕ → List ℕ → Begun
stars_at at cs =
    cond (is_leading at (prefix_len is_star cs) (drop (prefix_len is_star cs) cs))
    (Some (Token LeadingFolders, drop (suc (prefix_len is_star cs)) cs))
    (Some (Token AnyText, drop (prefix_len is_star cs) cs))

abbrev slash_at : List ℕ → Begun
slash_at cs = cond (is_trailing cs) (Some (Token TrailingPath, []))
    (cond (is_middle cs) (Some (Middle, drop 3 cs)) (Some (Token (Character slash), cs)))

abbrev escaped_at : List ℕ → Begun
escaped_at [] = None
escaped_at (c ∷ cs) = Some (Token (Character c), cs)

abbrev pub piece_at : ℕ → List ℕ → Begun
piece_at at [] = None
piece_at at (c ∷ cs) =
    cond (c == question_mark) (Some (Token AnyCharacter, cs))
    (cond (c == star) (stars_at at (c ∷ cs))
    (cond (c == slash) (slash_at cs)
    (cond (c == backslash) (escaped_at cs)
    (cond (c == open_bracket) (class_at cs)
    (cond (c == comma) (Some (Comma, cs))
    (cond (c == open_brace) (Some (Open at, cs))
    (cond (c == close_brace) (Some (Close at, cs))
    (Some (Token (Character c), cs)))))))))

plain_at : (at c : ℕ) (cs : List ℕ) → IsTrue (is_plain c) → IsTrue (not (c == slash))
    → piece_at at (c ∷ cs) ≡ Some (Token (Character c), cs)
plain_at at c cs p s =
    let a = both_true (not (c == question_mark)) _ p in
    let b = both_true (not (c == star)) _ a.1 in
    let d = both_true (not (c == backslash)) _ b.1 in
    let e = both_true (not (c == open_bracket)) _ d.1 in
    let f = both_true (not (c == comma)) _ e.1 in
    let g = both_true (not (c == open_brace)) (not (c == close_brace)) f.1 in
    cond-false (c == question_mark) _ _ (not-true _ a.0)
    ∙ cond-false (c == star) _ _ (not-true _ b.0)
    ∙ cond-false (c == slash) _ _ (not-true _ s)
    ∙ cond-false (c == backslash) _ _ (not-true _ d.0)
    ∙ cond-false (c == open_bracket) _ _ (not-true _ e.0)
    ∙ cond-false (c == comma) _ _ (not-true _ f.0)
    ∙ cond-false (c == open_brace) _ _ (not-true _ g.0)
    ∙ cond-false (c == close_brace) _ _ (not-true _ g.1)

stars_len : (prefix behind : List ℕ) → IsTrue (list_all (λ c. c == star) prefix) → begins star behind ≡ false
    → prefix_len is_star (prefix ++ behind) ≡ length prefix
stars_len [] [] a b = refl
stars_len [] (c ∷ behind) a b = cond-false (c == star) _ _ b
stars_len (c ∷ prefix) behind a b =
    let h = both_true (c == star) (list_all (λ d. d == star) prefix) a in
    let n : prefix_len is_star (prefix ++ behind) ≡ length prefix = stars_len prefix behind h.1 b in
    cond-true (c == star) _ _ h.0 ∙ (omega arith)

stars_begun : (at : ℕ) (prefix behind : List ℕ) → IsTrue (list_all (λ c. c == star) prefix) → 0 < length prefix
    → begins star behind ≡ false → is_leading at (length prefix) behind ≡ false →
    piece_at at (prefix ++ behind) ≡ Some (Token AnyText, behind)
stars_begun at [] behind a p b l = absurd (omega arith)
stars_begun at (c ∷ prefix) behind a p b l =
    let h = both_true (c == star) (list_all (λ d. d == star) prefix) a in
    let is : c ≡ star = same_number c star h.0 in
    let n : prefix_len is_star ((c ∷ prefix) ++ behind) ≡ length (c ∷ prefix) = stars_len (c ∷ prefix) behind a b in
    let d : drop (prefix_len is_star ((c ∷ prefix) ++ behind)) ((c ∷ prefix) ++ behind)
    ≡ behind = ap (λ k. drop k ((c ∷ prefix) ++ behind)) n ∙ drop_at (c ∷ prefix) behind (length (c ∷ prefix)) refl in
    let no : is_leading at (prefix_len is_star ((c ∷ prefix) ++ behind))
    (drop (prefix_len is_star ((c ∷ prefix) ++ behind)) ((c ∷ prefix) ++ behind)) ≡ false =
    ap (is_leading at (prefix_len is_star ((c ∷ prefix) ++ behind))) d ∙ ap (λ k. is_leading at k behind) n ∙ l in
    cond-false (c == question_mark) _ _ (ap (λ x. x == question_mark) is)
    ∙ cond-true (c == star) _ _ h.0
    ∙ cond-false (is_leading at (prefix_len is_star ((c ∷ prefix) ++ behind))
    (drop (prefix_len is_star ((c ∷ prefix) ++ behind)) ((c ∷ prefix) ++ behind))) _ _ no
    ∙ ap (λ r. Some (Token AnyText, r)) d

class_marked : {mark : List ℕ} {negated : Bool} (body : List ℕ) → IsMark mark body negated
    → class_at (mark ++ body) ≡ class_of negated (members_at true zero body)
class_marked body (negates {c} m) = cond-true (is_mark c) _ _ m
class_marked body (no_mark b) = cond-false (begins_mark body) _ _ b

class_begun : (at : ℕ) (negated : Bool) (ranges : List CharacterRange) (mark members behind : List ℕ)
    → IsMark mark (members ++ close_bracket ∷ behind) negated → AreMembers true members (close_bracket ∷ behind) ranges
    → 0 < length members →
    piece_at at ((open_bracket ∷ (mark ++ (members ++ close_bracket ∷ []))) ++ behind)
    ≡ Some (Token (OneOf (record { negated = negated; ranges = ranges })), behind)
class_begun at negated ranges mark members behind m a p =
    ap class_at (append_assoc mark (members ++ close_bracket ∷ []) behind
    ∙ ap (λ l. mark ++ l) (append_assoc members (close_bracket ∷ []) behind))
    ∙ class_marked (members ++ close_bracket ∷ behind) m
    ∙ ap (class_of negated) (members_closed members behind ranges a p)

pub begun : {at : ℕ} {prefix behind : List ℕ} {piece : Piece} → IsPiece at prefix behind piece
    → piece_at at (prefix ++ behind) ≡ Some (piece, behind)
begun question = refl
begun {behind = behind} (leading e) = subst
    (λ n. piece_at n (star ∷ star ∷ slash ∷ behind) ≡ Some (Token LeadingFolders, behind)) (sym e) refl
begun {at} {prefix} {behind} (stars a p b l) = stars_begun at prefix behind a p b l
begun middle = refl
begun trailing = refl
begun {behind = behind} (lone_slash t m) = cond-false (is_trailing behind) _ _ t ∙ cond-false (is_middle behind) _ _ m
begun escaped = refl
begun {at} {behind = behind} (class {negated = negated} {ranges} mark members m a p) = class_begun at negated ranges
    mark members behind m a p
begun open_braces = refl
begun parting_comma = refl
begun close_braces = refl
begun {at} {behind = behind} (itself {c = c} p s) = plain_at at c behind p s

some_pair : {p q : Piece × List ℕ} → Some p ≡ Some q → p ≡ q
some_pair e = cc

piece_some : {at : ℕ} {prefix behind : List ℕ} {piece : Piece} → IsPiece at prefix behind piece → 0 < length prefix
piece_some question = omega arith
piece_some (leading e) = omega arith
piece_some (stars a p b l) = p
piece_some middle = omega arith
piece_some trailing = omega arith
piece_some (lone_slash t m) = omega arith
piece_some escaped = omega arith
piece_some (class mark members m a p) = omega arith
piece_some open_braces = omega arith
piece_some parting_comma = omega arith
piece_some close_braces = omega arith
piece_some (itself p s) = omega arith

pub record SamePiece (prefix other behind rest : List ℕ) (piece second : Piece) : Type 0 where
  pub prefixes : prefix ≡ other
  pub behinds : behind ≡ rest
  pub pieces : piece ≡ second

pub same_piece : {at : ℕ} {prefix other behind rest : List ℕ} {piece second : Piece} → IsPiece at prefix behind piece
    → IsPiece at other rest second → prefix ++ behind ≡ other ++ rest → SamePiece prefix other behind rest piece second
same_piece {at} {prefix} {other} {behind} {rest} {piece} {second} p q e =
    let pair : (piece, behind) ≡ (second, rest) = some_pair (sym (begun p) ∙ ap (piece_at at) e ∙ begun q) in
    let b : behind ≡ rest = ap (λ x. x.1) pair in
    record {
      prefixes = append_cancel_right prefix other rest (ap (λ l. prefix ++ l) (sym b) ∙ e);
      behinds = b;
      pieces = ap (λ x. x.0) pair;
    }

-- One spelling is the beginning of the other.

record GoesOn (at : ℕ) (behind : List ℕ) (first pieces : List Piece) : Type 0 where
  pub more : List Piece
  pub whole : pieces ≡ first ++ more
  pub spelled : Spells at behind [] more

nothing_longer : (prefix more behind : List ℕ) → [] ≡ (prefix ++ more) ++ behind → 0 < length prefix → ⊥
nothing_longer [] more behind e p = absurd (omega arith)
nothing_longer (c ∷ prefix) more behind e p = cc

goes_on : {at : ℕ} {before behind cs : List ℕ} {first pieces : List Piece} → Spells at before behind first
    → Spells at cs [] pieces → cs ≡ before ++ behind → GoesOn (at + length before) behind first pieces
goes_on {at} {behind = behind} {cs} {pieces = pieces} nothing s e = record {
  more = pieces;
  whole = refl;
  spelled = subst (λ n. Spells n behind [] pieces) (sym (add-zero at)) (subst (λ l. Spells at l [] pieces) e s);
}
goes_on {behind = behind} (next prefix more is rest) nothing e = absurd
    (nothing_longer prefix more behind e (piece_some is))
goes_on {at} {behind = behind} (next {piece = p} {pieces = ps} prefix more is rest)
    (next {piece = q} {pieces = qs} other after is' rest') e =
    let same = same_piece is is' (sym (append_assoc prefix more behind) ∙ sym e
    ∙ ap (λ l. other ++ l) (sym (append-nil after))) in
    let left : after ≡ more ++ behind = sym (append-nil after) ∙ sym same.behinds in
    let g = goes_on rest (subst (λ l. Spells (at + length l) after [] qs) (sym same.prefixes) rest') left in
    record {
      more = g.more;
      whole = ap (λ l. q ∷ l) g.whole ∙ ap (λ x. x ∷ (ps ++ g.more)) (sym same.pieces);
      spelled = subst (λ n. Spells n behind [] g.more) (add_assoc at (length prefix) (length more)
          ∙ ap (λ n. at + n) (sym (length-append prefix more))) g.spelled;
    }

none_longer : {at : ℕ} {cs : List ℕ} {pieces : List Piece} → Spells at cs [] pieces → cs ≡ [] → pieces ≡ []
none_longer nothing e = refl
none_longer (next prefix more is rest) e = absurd
    (nothing_longer prefix more [] (sym e ∙ sym (append-nil (prefix ++ more))) (piece_some is))

record Begins (at : ℕ) (cs : List ℕ) (pieces : List Piece) : Type 0 where
  pub piece : Piece
  pub more : List Piece
  pub behind : List ℕ
  pub whole : pieces ≡ piece ∷ more
  pub is_at : piece_at at cs ≡ Some (piece, behind)

begins_piece : {at : ℕ} {cs : List ℕ} {pieces : List Piece} → Spells at cs [] pieces → 0 < length cs
    → Begins at cs pieces
begins_piece nothing p = absurd (omega arith)
begins_piece {at} (next {piece = q} {pieces = qs} prefix more is rest) p = record {
  piece = q;
  more = qs;
  behind = more;
  whole = refl;
  is_at = ap (λ l. piece_at at (prefix ++ l)) (sym (append-nil more)) ∙ begun is
      ∙ ap (λ l. Some (q, l)) (append-nil more);
}

-- ---- one list of tokens

pieces_once : {cs : List ℕ} {pieces others : List Piece} → Spells 0 cs [] pieces → Spells 0 cs [] others
    → others ≡ pieces
pieces_once {cs} {pieces} s o =
    let g = goes_on s o (sym (append-nil cs)) in
    g.whole ∙ ap (λ l. pieces ++ l) (none_longer g.spelled refl) ∙ append-nil pieces

same_tokens : {a b : List Token'} → Some (state [] a) ≡ Some (state [] b) → a ≡ b
same_tokens e = ap (λ r. r.tokens) (some_is e)

pub glob_once : (characters : List ℕ) (tokens other : List Token') → IsGlob characters tokens → IsGlob characters other
    → other ≡ tokens
glob_once characters tokens other g h =
    same_tokens (sym (run_of_tokens h.tree) ∙ ap (run start) (pieces_once g.spelled h.spelled) ∙ run_of_tokens g.tree)

-- ---- a glob has no fault

pub open_append : (first more : List Piece) (opened : List ℕ)
    → open_behind opened (first ++ more) ≡ option_and_then (λ o. open_behind o more) (open_behind opened first)
open_append [] more opened = refl
open_append (Token t ∷ first) more opened = open_append first more opened
open_append (Middle ∷ first) more opened = open_append first more opened
open_append (Comma ∷ first) more opened = open_append first more opened
open_append (Open at ∷ first) more opened =
    cases (nat_lt (length opened) most_braces) (open_append first more (at ∷ opened)) where
      cases : (b : Bool) → open_behind (at ∷ opened) (first ++ more) ≡ option_and_then (λ o. open_behind o more)
          (open_behind (at ∷ opened) first) →
          cond b (open_behind (at ∷ opened) (first ++ more)) None ≡ option_and_then (λ o. open_behind o more)
          (cond b (open_behind (at ∷ opened) first) None)
      cases true e = e
      cases false e = refl
open_append (Close at ∷ first) more [] = refl
open_append (Close at ∷ first) more (o ∷ opened) = open_append first more opened

record IsLeft (characters before behind opened : List ℕ) : Type 0 where
  pub more : List Piece
  pub spelled : Spells (length before) behind [] more
  pub closes : open_behind opened more ≡ Some []

-- a glob continues after what is read of it, and closes its braces
glob_left : (characters before behind opened : List ℕ) (tokens : List Token')
    → IsReadTo characters before behind opened → IsGlob characters tokens → IsLeft characters before behind opened
glob_left characters before behind opened tokens r g =
    let o = goes_on r.spelled g.spelled r.whole in
    let all : open_behind [] g.pieces
    ≡ Some [] = (open_run g.pieces start (state [] tokens) (run_of_tokens g.tree) (omega arith)).0 in
    record {
      more = o.more;
      spelled = subst (λ n. Spells n behind [] o.more) (zero-add (length before)) o.spelled;
      closes = ap (option_and_then (λ l. open_behind l o.more)) (sym r.braces) ∙ sym (open_append r.pieces o.more [])
          ∙ ap (open_behind []) (sym o.whole) ∙ all;
    }

abbrev pub begun_by : Piece → List ℕ → Begun
begun_by piece behind = Some (piece, behind)

pub first_of_pair : {p q : Piece} {a b : List ℕ} → begun_by p a ≡ begun_by q b → p ≡ q
first_of_pair e = ap (λ x. x.0) (some_pair e)

not_open : (opened : List ℕ) (at : ℕ) (more : List Piece) → length opened ≡ most_braces
    → open_behind opened (Open at ∷ more) ≡ None
not_open opened at more e = ap (λ n. cond (nat_lt n most_braces) (open_behind (at ∷ opened) more) None) e

pub no_fault : {characters : List ℕ} {i : ℕ} (tokens : List Token') → FirstFault characters i → IsGlob characters tokens
    → ⊥
no_fault {characters} tokens (unopened before behind r) g =
    let l = glob_left characters before (close_brace ∷ behind) [] tokens r g in
    let b = begins_piece l.spelled (omega arith) in
    let p : Close (length before) ≡ b.piece = first_of_pair b.is_at in
    let h : open_behind [] (Close (length before) ∷ b.more) ≡ Some [] = ap (λ q. open_behind [] (q ∷ b.more)) p
    ∙ ap (open_behind []) (sym b.whole) ∙ l.closes in
    cc
no_fault {characters} tokens (too_deep before behind opened r e) g =
    let l = glob_left characters before (open_brace ∷ behind) opened tokens r g in
    let b = begins_piece l.spelled (omega arith) in
    let p : Open (length before) ≡ b.piece = first_of_pair b.is_at in
    let h : open_behind opened (Open (length before) ∷ b.more) ≡ Some [] = ap (λ q. open_behind opened (q ∷ b.more)) p
    ∙ ap (open_behind opened) (sym b.whole) ∙ l.closes in
    let n = not_open opened (length before) b.more e in
    cc
no_fault {characters} tokens (nothing_escaped before opened r) g =
    let l = glob_left characters before (backslash ∷ []) opened tokens r g in
    let b = begins_piece l.spelled (omega arith) in
    let h : None ≡ begun_by b.piece b.behind = b.is_at in
    cc
no_fault {characters} tokens (falling_range {negated = negated} before mark body opened into r m f) g =
    let l = glob_left characters before (open_bracket ∷ (mark ++ body)) opened tokens r g in
    let b = begins_piece l.spelled (omega arith) in
    let h : None ≡ begun_by b.piece b.behind = sym (class_marked body m ∙ ap (class_of negated) (members_falling f))
    ∙ b.is_at in
    cc
no_fault {characters} tokens (unclosed_class {negated = negated} {ranges} before mark members opened r m a) g =
    let l = glob_left characters before (open_bracket ∷ (mark ++ members)) opened tokens r g in
    let b = begins_piece l.spelled (omega arith) in
    let h : None ≡ begun_by b.piece b.behind = sym (class_marked members m
    ∙ ap (class_of negated) (members_open members ranges a)) ∙ b.is_at in
    cc
no_fault {characters} tokens (unclosed_brace last opened r) g =
    let l = glob_left characters characters [] (last ∷ opened) tokens r g in
    let h : Some (last ∷ opened) ≡ Some [] = ap (open_behind (last ∷ opened)) (sym (none_longer l.spelled refl))
    ∙ l.closes in
    cc
