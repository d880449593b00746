-- A text has one first fault.
use Rattle.std.proofs.Common.{◌≡◌, cond, ℕ, zero, suc, ◌+◌, List, [], ◌∷◌, ◌++◌, length, get_or, take, drop, Bool, true}
use Rattle.std.proofs.Common.{false, refl, sym, ap, subst, inl, inr, ◌∙◌, arith, append_assoc, append-nil}
use Rattle.std.proofs.Common.{length-append, add_assoc}
use Rattle.std.specs.Prelude.{◌⊎◌, ◌==◌, ◌&&◌, not, Option, Some, None, option_and_then, nat_le, nat_lt}
use Rattle.std.specs.Prelude.{encode_utf8_all, Result, Err}
use Rattle.std.specs.Str.{chars}
use Rattle.deny_globs.specs.declared.error.GlobError.{GlobError}
use Rattle.deny_globs.specs.declared.error.GlobError.TheVariants.{Bad}
use Rattle.std.proofs.Math.Nat.{zero-add, add-zero}
use Rattle.std.proofs.lemmas.List.{append_cancel_right}
use Rattle.std.proofs.lemmas.Bool.{cond-true, cond-false}
use Rattle.deny_base_lists.proofs.Options.{some_inj}
use Rattle.deny_base_lists.proofs.Booleans.{and-true, and-false}
use Rattle.deny_base_lists.proofs.Numbers.{nat_le-true}
use Rattle.deny_globs.specs.declared.token.CharacterRange.{CharacterRange}
use Rattle.deny_globs.specs.declared.piece.Piece.{Piece}
use Rattle.deny_globs.specs.declared.piece.Piece.TheVariants.{Open, Close}
use Rattle.deny_globs.specs.Characters.{backslash, open_bracket, close_bracket, open_brace, close_brace, is_mark}
use Rattle.deny_globs.specs.Characters.{begins_mark}
use Rattle.deny_globs.specs.Pieces.{may_be_member, begins_range, AreMembers, no_more, range, one, IsMark, negates}
use Rattle.deny_globs.specs.Pieces.{no_mark, Spells, nothing, next}
use Rattle.deny_globs.specs.Faults.{is_empty, FallsAt, falls, open_behind, outermost, IsReadTo, FirstFault, unopened}
use Rattle.deny_globs.specs.Faults.{too_deep, nothing_escaped, falling_range, unclosed_class, unclosed_brace, IsBadAt}
use Rattle.deny_globs.specs.Tree.{most_braces}
use Rattle.deny_globs.proofs.ClassLemmas.{same_number}
use Rattle.deny_globs.proofs.Once.{begun_by, piece_at, class_at, class_of, Members, with_range, members_at, same_piece}
use Rattle.deny_globs.proofs.Once.{begun, first_of_pair, open_append, nat_le_false}

-- the end of the members of a class, by the number of characters: unclosed, or closed by a `]`

data End : Type 0 where
  closes : End
  falls_at : ℕ → End
  goes_on : End

abbrev members_end : Bool → ℕ → ℕ → List ℕ → End
members_end is_first skip into [] = goes_on
members_end is_first (suc skip) into (c ∷ cs) = members_end is_first skip (suc into) cs
members_end is_first zero into (c ∷ cs) =
    cond (may_be_member is_first c)
    (cond (begins_range cs)
    (cond (nat_le c (get_or cs 1 0)) (members_end false 2 (suc into) cs) (falls_at into))
    (members_end false zero (suc into) cs))
    closes

end_read : {is_first : Bool} {cs behind : List ℕ} {ranges : List CharacterRange} (into : ℕ)
    → AreMembers is_first cs behind ranges →
    members_end is_first zero into (cs ++ behind) ≡ members_end (is_first && is_empty cs) zero (into + length cs) behind
end_read {is_first} {behind = behind} into no_more =
    ap (λ b. members_end b zero into behind) (sym (and-true is_first))
    ∙ ap (λ n. members_end (is_first && true) zero n behind) (sym (add-zero into))
end_read {is_first} {behind = behind} into (range {first = x} {last = y} {cs} m l le rest) =
    cond-true (may_be_member is_first x) _ _ m
    ∙ cond-true (not (y == close_bracket)) _ _ l
    ∙ cond-true (nat_le x y) _ _ (nat_le-true x y le)
    ∙ end_read (suc (suc (suc into))) rest
    ∙ ap (λ n. members_end false zero n behind)
    (let h : suc (suc (suc into)) + length cs ≡ into + suc (suc (suc (length cs))) = omega arith in h)
    ∙ ap (λ b. members_end b zero (into + suc (suc (suc (length cs)))) behind) (sym (and-false is_first))
end_read {is_first} {behind = behind} into (one {c = c} {cs} m b rest) =
    cond-true (may_be_member is_first c) _ _ m
    ∙ cond-false (begins_range (cs ++ behind)) _ _ b
    ∙ end_read (suc into) rest
    ∙ ap (λ n. members_end false zero n behind) (let h : suc into + length cs ≡ into + suc (length cs) = omega arith in
    h)
    ∙ ap (λ b'. members_end b' zero (into + suc (length cs)) behind) (sym (and-false is_first))

end_open : (cs : List ℕ) (ranges : List CharacterRange) → AreMembers true cs [] ranges
    → members_end true zero 0 cs ≡ goes_on
end_open cs ranges m = ap (members_end true zero 0) (sym (append-nil cs)) ∙ end_read 0 m

end_falling : {body : List ℕ} {into : ℕ} → FallsAt body into → members_end true zero 0 body ≡ falls_at into
end_falling (falls {ranges} members behind x y m may l lt) =
    end_read 0 m
    ∙ cond-true (may_be_member (is_empty members) x) _ _ may
    ∙ cond-true (not (y == close_bracket)) _ _ l
    ∙ cond-false (nat_le x y) _ _ (nat_le_false x y lt)
    ∙ ap falls_at (zero-add (length members))

-- the index at which the text is bad in its next piece, if it is

abbrev end_index : ℕ → ℕ → End → Option ℕ
end_index body unclosed closes = None
end_index body unclosed (falls_at into) = Some (body + into)
end_index body unclosed goes_on = Some unclosed

abbrev class_index : ℕ → List ℕ → List ℕ → Option ℕ
class_index at opened cs =
    cond (begins_mark cs) (end_index (at + 2) (outermost opened at) (members_end true zero 0 (drop 1 cs)))
    (end_index (at + 1) (outermost opened at) (members_end true zero 0 cs))

abbrev lone : ℕ → List ℕ → Option ℕ
lone at [] = Some at
lone at (c ∷ cs) = None

abbrev last_index : List ℕ → Option ℕ
last_index [] = None
last_index (last ∷ opened) = Some (outermost opened last)

abbrev index_at : ℕ → List ℕ → List ℕ → Option ℕ
index_at at opened [] = last_index opened
index_at at opened (c ∷ cs) =
    cond (c == close_brace) (lone at opened)
    (cond (c == open_brace) (cond (nat_lt (length opened) most_braces) None (Some at))
    (cond (c == backslash) (lone at cs)
    (cond (c == open_bracket) (class_index at opened cs) None)))

record IsStuck (characters : List ℕ) (index : ℕ) : Type 0 where
  before : List ℕ
  behind : List ℕ
  opened : List ℕ
  read : IsReadTo characters before behind opened
  is_at : index_at (length before) opened behind ≡ Some index

class_index_is : {mark : List ℕ} {negated : Bool} (at : ℕ) (opened body : List ℕ) → IsMark mark body negated
    → class_index at opened (mark ++ body) ≡ end_index (at + 1 + length mark) (outermost opened at)
    (members_end true zero 0 body)
class_index_is at opened body (negates {c} m) =
    cond-true (is_mark c) _ _ m
    ∙ ap (λ n. end_index n (outermost opened at) (members_end true zero 0 body))
    (let h : at + 2 ≡ at + 1 + 1 = omega arith in h)
class_index_is at opened body (no_mark b) =
    cond-false (begins_mark body) _ _ b
    ∙ ap (λ n. end_index n (outermost opened at) (members_end true zero 0 body)) (sym (add-zero (at + 1)))

deep_index : (at : ℕ) (opened : List ℕ) → length opened ≡ most_braces
    → cond (nat_lt (length opened) most_braces) None (Some at) ≡ Some at
deep_index at opened e = ap (λ n. cond (nat_lt n most_braces) None (Some at)) e

stuck : {characters : List ℕ} {index : ℕ} → FirstFault characters index → IsStuck characters index
stuck (unopened before behind r) = record
    { before = before; behind = close_brace ∷ behind; opened = []; read = r; is_at = refl }
stuck (too_deep before behind opened r e) = record {
  before = before;
  behind = open_brace ∷ behind;
  opened = opened;
  read = r;
  is_at = deep_index (length before)
      opened e;
}
stuck (nothing_escaped before opened r) = record
    { before = before; behind = backslash ∷ []; opened = opened; read = r; is_at = refl }
stuck (falling_range before mark body opened into r m f) = record {
  before = before;
  behind = open_bracket ∷ (mark ++ body);
  opened = opened;
  read = r;
  is_at = class_index_is (length before) opened body m
      ∙ ap (end_index (length before + 1 + length mark) (outermost opened (length before))) (end_falling f);
}
stuck (unclosed_class {ranges = ranges} before mark members opened r m a) = record {
  before = before;
  behind = open_bracket ∷ (mark ++ members);
  opened = opened;
  read = r;
  is_at = class_index_is (length before) opened members m
      ∙ ap (end_index (length before + 1 + length mark) (outermost opened (length before))) (end_open members ranges a);
}
stuck {characters} (unclosed_brace last opened r) = record
    { before = characters; behind = []; opened = last ∷ opened; read = r; is_at = refl }

-- nothing is read after the end of the members

abbrev IsNotClosed : End → Type 0
IsNotClosed closes = ⊥
IsNotClosed (falls_at into) = Unit {0}
IsNotClosed goes_on = Unit {0}

none_of : (a b d : Bool) (into : ℕ) (e f : End) (m n : Members) (r s : CharacterRange) (cs : List ℕ)
    → (IsNotClosed e → m ≡ None) → (IsNotClosed f → n ≡ None) →
    IsNotClosed (cond a (cond b (cond d e (falls_at into)) f) closes)
    → cond a (cond b (cond d (with_range r m) None) (with_range s n)) (Some ([], cs)) ≡ None
none_of true true true into e f m n r s cs x y h = ap (with_range r) (x h)
none_of true true false into e f m n r s cs x y h = refl
none_of true false d into e f m n r s cs x y h = ap (with_range s) (y h)
none_of false b d into e f m n r s cs x y h = absurd h

members_none : (is_first : Bool) (skip into : ℕ) (cs : List ℕ) → IsNotClosed (members_end is_first skip into cs)
    → members_at is_first skip cs ≡ None
members_none is_first skip into [] h = refl
members_none is_first (suc skip) into (c ∷ cs) h = members_none is_first skip (suc into) cs h
members_none is_first zero into (c ∷ cs) h =
    none_of (may_be_member is_first c) (begins_range cs) (nat_le c (get_or cs 1 0)) into
    (members_end false 2 (suc into) cs) (members_end false zero (suc into) cs) (members_at false 2 cs)
    (members_at false zero cs)
    (record { first = c; last = get_or cs 1 0 }) (record { first = c; last = c }) cs
    (members_none false 2 (suc into) cs) (members_none false zero (suc into) cs) h

not_closed : (body unclosed index : ℕ) (end : End) → end_index body unclosed end ≡ Some index → IsNotClosed end
not_closed body unclosed index closes e = cc
not_closed body unclosed index (falls_at into) e = tt
not_closed body unclosed index goes_on e = tt

class_none : (at index : ℕ) (opened cs : List ℕ) → class_index at opened cs ≡ Some index → class_at cs ≡ None
class_none at index opened cs e = cases (begins_mark cs) e where
  cases : (b : Bool) → cond b (end_index (at + 2) (outermost opened at) (members_end true zero 0 (drop 1 cs)))
      (end_index (at + 1) (outermost opened at) (members_end true zero 0 cs)) ≡ Some index →
      cond b (class_of true (members_at true zero (drop 1 cs))) (class_of false (members_at true zero cs)) ≡ None
  cases true h = ap (class_of true)
      (members_none true zero 0 (drop 1 cs)
      (not_closed (at + 2) (outermost opened at) index (members_end true zero 0 (drop 1 cs)) h))
  cases false h = ap (class_of false)
      (members_none true zero 0 cs (not_closed (at + 1) (outermost opened at) index (members_end true zero 0 cs) h))

lone_is : (at index : ℕ) (cs : List ℕ) → lone at cs ≡ Some index → cs ≡ []
lone_is at index [] e = refl
lone_is at index (c ∷ cs) e = cc

bad_close : (at index : ℕ) (opened cs rest : List ℕ) (q : Piece) (more : List Piece) → lone at opened ≡ Some index
    → piece_at at (close_brace ∷ cs) ≡ begun_by q rest → open_behind opened (q ∷ more) ≡ None
bad_close at index opened cs rest q more e p =
    let is : Close at ≡ q = first_of_pair p in
    ap (λ o. open_behind o (q ∷ more)) (lone_is at index opened e) ∙ ap (λ x. open_behind [] (x ∷ more)) (sym is)

bad_open : (at index : ℕ) (opened cs rest : List ℕ) (q : Piece) (more : List Piece)
    → cond (nat_lt (length opened) most_braces) None (Some at) ≡ Some index
    → piece_at at (open_brace ∷ cs) ≡ begun_by q rest → open_behind opened (q ∷ more) ≡ None
bad_open at index opened cs rest q more e p =
    let is : Open at ≡ q = first_of_pair p in
    ap (λ x. open_behind opened (x ∷ more)) (sym is) ∙ cases (nat_lt (length opened) most_braces) e
  where
    cases : (b : Bool) → cond b None (Some at) ≡ Some index → cond b (open_behind (at ∷ opened) more) None ≡ None
    cases true h = cc
    cases false h = refl

bad_escape : (at index : ℕ) (opened cs rest : List ℕ) (q : Piece) (more : List Piece) → lone at cs ≡ Some index
    → piece_at at (backslash ∷ cs) ≡ begun_by q rest → open_behind opened (q ∷ more) ≡ None
bad_escape at index opened cs rest q more e p =
    let h : None ≡ begun_by q rest = ap (λ l. piece_at at (backslash ∷ l)) (sym (lone_is at index cs e)) ∙ p in
    cc

bad_class : (at index : ℕ) (opened cs rest : List ℕ) (q : Piece) (more : List Piece)
    → class_index at opened cs ≡ Some index → piece_at at (open_bracket ∷ cs) ≡ begun_by q rest
    → open_behind opened (q ∷ more) ≡ None
bad_class at index opened cs rest q more e p = let h : None ≡ begun_by q rest = sym (class_none at index opened cs e)
    ∙ p in cc

ends_there : (at index : ℕ) (opened behind rest : List ℕ) (q : Piece) (more : List Piece)
    → index_at at opened behind ≡ Some index → piece_at at behind ≡ begun_by q rest
    → open_behind opened (q ∷ more) ≡ None
ends_there at index opened [] rest q more e p = cc
ends_there at index opened (c ∷ cs) rest q more e p = close (c == close_brace) refl e where
  bracket : (b : Bool) → (c == open_bracket) ≡ b → cond b (class_index at opened cs) None ≡ Some index
      → open_behind opened (q ∷ more) ≡ None
  bracket true i h = bad_class at index opened cs rest q more h
      (ap (λ x. piece_at at (x ∷ cs)) (sym (same_number c open_bracket i)) ∙ p)
  bracket false i h = cc

  escape : (b : Bool) → (c == backslash) ≡ b
      → cond b (lone at cs) (cond (c == open_bracket) (class_index at opened cs) None) ≡ Some index
      → open_behind opened (q ∷ more) ≡ None
  escape true i h = bad_escape at index opened cs rest q more h
      (ap (λ x. piece_at at (x ∷ cs)) (sym (same_number c backslash i)) ∙ p)
  escape false i h = bracket (c == open_bracket) refl h

  open_ : (b : Bool) → (c == open_brace) ≡ b
      → cond b (cond (nat_lt (length opened) most_braces) None (Some at))
      (cond (c == backslash) (lone at cs) (cond (c == open_bracket) (class_index at opened cs) None)) ≡ Some index →
      open_behind opened (q ∷ more) ≡ None
  open_ true i h = bad_open at index opened cs rest q more h
      (ap (λ x. piece_at at (x ∷ cs)) (sym (same_number c open_brace i)) ∙ p)
  open_ false i h = escape (c == backslash) refl h

  close : (b : Bool) → (c == close_brace) ≡ b →
      cond b (lone at opened)
      (cond (c == open_brace) (cond (nat_lt (length opened) most_braces) None (Some at))
      (cond (c == backslash) (lone at cs) (cond (c == open_bracket) (class_index at opened cs) None)))
      ≡ Some index →
      open_behind opened (q ∷ more) ≡ None
  close true i h = bad_close at index opened cs rest q more h
      (ap (λ x. piece_at at (x ∷ cs)) (sym (same_number c close_brace i)) ∙ p)
  close false i h = open_ (c == open_brace) refl h

-- of two readings one is the beginning of the other

record Longer (at : ℕ) (behind left : List ℕ) (first second : List Piece) : Type 0 where
  middle : List ℕ
  more : List Piece
  whole : behind ≡ middle ++ left
  pieces : second ≡ first ++ more
  spelled : Spells at middle left more

further : {at : ℕ} {behind left : List ℕ} {first second : List Piece} (from : ℕ) (p q : Piece) → from ≡ at → p ≡ q
    → Longer from behind left first second → Longer at behind left (p ∷ first) (q ∷ second)
further {at} {behind} {left} {first} {second} from p q e same l = record {
  middle = l.middle;
  more = l.more;
  whole = l.whole;
  pieces = ap (λ x. x ∷ second) (sym same) ∙ ap (λ r. p ∷ r) l.pieces;
  spelled = subst (λ n. Spells n l.middle left l.more) e l.spelled;
}

meet : {at : ℕ} {before behind cs left : List ℕ} {first second : List Piece} → Spells at before behind first
    → Spells at cs left second → cs ++ left ≡ before ++ behind →
    Longer (at + length before) behind left first second ⊎ Longer (at + length cs) left behind second first
meet {at} {cs = cs} {left} {second = second} nothing s e = inl
    (record {
      middle = cs;
      more = second;
      whole = sym e;
      pieces = refl;
      spelled = subst (λ n. Spells n cs left second)
          (sym (add-zero at)) s;
    })
meet {at} {before} {behind} {first = first} (next {piece = p} {pieces = ps} prefix more is rest) nothing e =
    inr (record {
      middle = prefix ++ more;
      more = p ∷ ps;
      whole = e;
      pieces = refl;
      spelled = subst
          (λ n. Spells n (prefix ++ more) behind (p ∷ ps)) (sym (add-zero at)) (next prefix more is rest);
    })
meet {at} {behind = behind} {left = left} (next {piece = p} {pieces = ps} prefix more is rest)
    (next {piece = q} {pieces = qs} other after is' rest') e =
    let same = same_piece is is' (sym (append_assoc prefix more behind) ∙ sym e ∙ append_assoc other after left) in
    let here : at + length prefix + length more ≡ at + length (prefix ++ more) =
    add_assoc at (length prefix) (length more)
    ∙ ap (λ n. at + n) (sym (length-append prefix more)) in
    let there : at + length prefix + length after ≡ at + length (other ++ after) =
    ap (λ l. at + length l + length after) same.prefixes ∙ add_assoc at (length other) (length after)
    ∙ ap (λ n. at + n) (sym (length-append other after)) in
    elim (meet rest (subst (λ l. Spells (at + length l) after left qs) (sym same.prefixes) rest') (sym same.behinds)) [
      | inl l ↦ inl (further (at + length prefix + length more) p q here same.pieces l)
      | inr l ↦ inr (further (at + length prefix + length after) q p there (sym same.pieces) l)
    ]

begins_with : {at : ℕ} {cs left : List ℕ} {piece : Piece} {pieces : List Piece} → Spells at cs left (piece ∷ pieces)
    → (rest : List ℕ) × (piece_at at (cs ++ left) ≡ begun_by piece rest)
begins_with {at} {left = left} (next prefix more is rest) = (
  more ++ left,
  ap (piece_at at) (append_assoc prefix more left) ∙ begun is,
)

spells_none : {at : ℕ} {cs left : List ℕ} → Spells at cs left [] → cs ≡ []
spells_none nothing = refl

same_list : {a b : List ℕ} → Some a ≡ Some b → a ≡ b
same_list e = cc

-- one reading begins the other, and both are stuck at the same index
at_same : (characters : List ℕ) (i j : ℕ) (s : IsStuck characters i) (t : IsStuck characters j)
    → Longer (0 + length s.before) s.behind t.behind s.read.pieces t.read.pieces → i ≡ j
at_same characters i j s t l = cases l.more l.pieces l.spelled where
  cases : (more : List Piece) → t.read.pieces ≡ s.read.pieces ++ more
      → Spells (0 + length s.before) l.middle t.behind more → i ≡ j
  cases [] e sp =
      let behind : s.behind ≡ t.behind = l.whole ∙ ap (λ m. m ++ t.behind) (spells_none sp) in
      let before : s.before ≡ t.before = append_cancel_right s.before t.before t.behind
      (ap (λ b. s.before ++ b) (sym behind) ∙ sym s.read.whole ∙ t.read.whole) in
      let opened : s.opened
      ≡ t.opened = same_list (sym s.read.braces ∙ ap (open_behind []) (sym (append-nil s.read.pieces) ∙ sym e)
      ∙ t.read.braces) in
      some_inj (sym s.is_at ∙ ap (λ b. index_at (length b) s.opened s.behind) before
      ∙ ap (λ o. index_at (length t.before) o s.behind) opened ∙ ap (index_at (length t.before) t.opened) behind
      ∙ t.is_at)
  cases (q ∷ more) e sp =
      let b = begins_with sp in
      let at : piece_at (length s.before) s.behind ≡ begun_by q b.0 = ap (λ n. piece_at n s.behind)
      (sym (zero-add (length s.before))) ∙ ap (piece_at (0 + length s.before)) l.whole ∙ b.1 in
      let h : Some t.opened ≡ None =
      sym t.read.braces ∙ ap (open_behind []) e ∙ open_append s.read.pieces (q ∷ more) []
      ∙ ap (option_and_then (λ o. open_behind o (q ∷ more))) s.read.braces
      ∙ ends_there (length s.before) i s.opened s.behind b.0 q more s.is_at at in
      cc

fault_once : {characters : List ℕ} {i j : ℕ} → FirstFault characters i → FirstFault characters j → i ≡ j
fault_once {characters} {i} {j} f g =
    let s = stuck f in
    let t = stuck g in
    elim (meet s.read.spelled t.read.spelled (sym t.read.whole ∙ s.read.whole)) [
      | inl l ↦ at_same characters i j s t l
      | inr l ↦ sym (at_same characters j i t s l)
    ]

pub bad_once : (text : List ℕ) (byte other : ℕ) → IsBadAt text byte → IsBadAt text other → other ≡ byte
bad_once text byte other b o = o.offset
    ∙ ap (λ n. length (encode_utf8_all (take n (chars text)))) (fault_once o.fault b.fault) ∙ sym b.offset

pub bad_byte : {T : Type 0} {a b : ℕ} → ◌≡◌ {A = Result T GlobError} (Err (Bad a)) (Err (Bad b)) → b ≡ a
bad_byte e = cc
