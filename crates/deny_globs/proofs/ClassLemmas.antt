-- The members of a class, one after the other.
use Rattle.std.proofs.Common.{◌≡◌, ℕ, ◌+◌, ◌<◌, ◌≤◌, List, [], ◌∷◌, ◌++◌, length, get_or, take, drop, Bool, true, false}
use Rattle.std.proofs.Common.{IsTrue, refl, sym, ap, subst, inl, inr, ◌∙◌, arith, rules, append_assoc}
use Rattle.std.proofs.lemmas.List.{take-append-drop, length-take-le}
use Rattle.deny_globs.proofs.Seams.{seam}
use Rattle.std.specs.Prelude.{◌==◌, ◌&&◌, ◌||◌, not}
use Rattle.deny_base_lists.proofs.Booleans.{and-true, and-false}
use Rattle.deny_base_lists.proofs.Equalities.{subst₃}
use Rattle.deny_globs.specs.declared.token.CharacterRange.{CharacterRange}
use Rattle.deny_globs.specs.declared.stop.Stop.{Stop}
use Rattle.deny_globs.specs.declared.stop.Stop.TheVariants.{Fault, Memory}
use Rattle.deny_globs.specs.Characters.{dash, close_bracket, begins}
use Rattle.deny_globs.specs.Pieces.{may_be_member, begins_range, AreMembers, no_more, range, one}
use Rattle.deny_globs.specs.Faults.{is_empty, FallsAt, falls}
use Rattle.deny_globs.specs.private.Steps.{adds_range, adds_one}
use Rattle.deny_globs.specs.private.Steps.{AddsMember, IsFalling, StopsMember, StopsMembers, GoesOnAt}

pub both_true : (a b : Bool) → IsTrue (a && b) → IsTrue a × IsTrue b
both_true true b h = (refl, h)
both_true false b h = cc

pub and_true : (a b : Bool) → IsTrue a → IsTrue b → IsTrue (a && b)
and_true true b h k = k
and_true false b h k = cc

pub same_number : (a b : ℕ) → IsTrue (a == b) → a ≡ b
same_number a b h = search rules

pub added_range : (rest : List ℕ) (first last : ℕ) (old new : List CharacterRange) → begins_range (drop 1 rest) ≡ true
    → first ≡ get_or rest 0 first → last ≡ get_or rest 2 last → first ≤ last →
    new ≡ old ++ record { first = first; last = last } ∷ [] → AddsMember rest 3 old new
added_range [] first last old new h f l le e = cc
added_range (a ∷ []) first last old new h f l le e = cc
added_range (a ∷ b ∷ []) first last old new h f l le e = cc
added_range (a ∷ b ∷ c ∷ rest) first last old new h f l le e =
    let t = both_true (b == dash) (not (c == close_bracket)) h in
    let between : b ≡ dash = same_number b dash t.0 in
    let whole : a ∷ b ∷ c ∷ rest ≡ first ∷ dash ∷ last ∷ rest = cc in
    adds_range whole (subst (λ x. IsTrue (not (x == close_bracket))) (sym l) t.1) le refl e

pub added_one : (rest : List ℕ) (c : ℕ) (old new : List CharacterRange) → begins_range (drop 1 rest) ≡ false
    → 0 < length rest → c ≡ get_or rest 0 c →
    new ≡ old ++ record { first = c; last = c } ∷ [] → AddsMember rest 1 old new
added_one [] c old new h p f e = absurd (omega arith)
added_one (a ∷ rest) c old new h p f e = adds_one (ap (λ x. x ∷ rest) (sym f)) h refl e

-- ---- one more member after others

snoc_range : {is_first : Bool} {cs : List ℕ} {ranges : List CharacterRange} (first last : ℕ) (behind : List ℕ)
    → AreMembers is_first cs (first ∷ dash ∷ last ∷ behind) ranges →
    IsTrue (may_be_member (is_first && is_empty cs) first) → IsTrue (not (last == close_bracket)) → first ≤ last →
    AreMembers is_first (cs ++ first ∷ dash ∷ last ∷ []) behind (ranges ++ record { first = first; last = last } ∷ [])
snoc_range {is_first} first last behind no_more m l le = range
    (subst (λ b. IsTrue (may_be_member b first)) (and-true is_first) m) l le no_more
snoc_range first last behind (range {is_first} x y z rest) m l le = range x y z
    (snoc_range first last behind rest (subst (λ b. IsTrue (may_be_member b first)) (and-false is_first) m) l le)
snoc_range first last behind (one {is_first} {cs = cs} x y rest) m l le =
    one x (subst (λ ds. begins_range ds ≡ false) (sym (append_assoc cs (first ∷ dash ∷ last ∷ []) behind)) y)
    (snoc_range first last behind rest (subst (λ b. IsTrue (may_be_member b first)) (and-false is_first) m) l le)

snoc_one : {is_first : Bool} {cs : List ℕ} {ranges : List CharacterRange} (c : ℕ) (behind : List ℕ)
    → AreMembers is_first cs (c ∷ behind) ranges →
    IsTrue (may_be_member (is_first && is_empty cs) c) → begins_range behind ≡ false →
    AreMembers is_first (cs ++ c ∷ []) behind (ranges ++ record { first = c; last = c } ∷ [])
snoc_one {is_first} c behind no_more m b = one (subst (λ t. IsTrue (may_be_member t c)) (and-true is_first) m) b no_more
snoc_one c behind (range {is_first} x y z rest) m b = range x y z
    (snoc_one c behind rest (subst (λ t. IsTrue (may_be_member t c)) (and-false is_first) m) b)
snoc_one c behind (one {is_first} {cs = cs} x y rest) m b =
    one x (subst (λ ds. begins_range ds ≡ false) (sym (append_assoc cs (c ∷ []) behind)) y)
    (snoc_one c behind rest (subst (λ t. IsTrue (may_be_member t c)) (and-false is_first) m) b)

-- ---- the loop over the members

pub record AreMembersTo (body : List ℕ) (next : ℕ) (ranges : List CharacterRange) : Type 0 where
  pub within : next ≤ length body
  pub members : AreMembers true (take next body) (drop next body) ranges

-- the first member may be any character, and each later one is no `]`
may_duplicate : (body : List ℕ) (next c : ℕ) (rest : List ℕ) → next ≤ length body → drop next body ≡ c ∷ rest
    → GoesOnAt body next → IsTrue (may_be_member (is_empty (take next body)) c)
may_duplicate body next c rest p e (inl z) = rw z refl
may_duplicate body next c rest p e (inr n) =
    other (is_empty (take next body)) (subst (λ l. begins close_bracket l ≡ false) e n) where
      other : (b : Bool) → (c == close_bracket) ≡ false → IsTrue (b || not (c == close_bracket))
      other true h = refl
      other false h = ap not h

pub members_more : (body : List ℕ) (next size : ℕ) (old new : List CharacterRange) → AreMembersTo body next old
    → AddsMember (drop next body) size old new →
    GoesOnAt body next → AreMembersTo body (next + size) new
members_more body next size old new before (adds_range {rest} {behind} {first} {last} w l le s e) q =
    let piece : List ℕ = first ∷ dash ∷ last ∷ [] in
    let m = seam body next size piece behind before.within w s in
    record {
      within = m.fits;
      members = moved (take next body) (take (next + size) body) (drop (next + size) body) m.prefix m.rest
          (subst (λ r. AreMembers true (take next body) r old) w before.members)
          (may_duplicate body next first _ before.within w q) l le;
    }
  where
    moved : (prefix longer after : List ℕ) → longer ≡ prefix ++ first ∷ dash ∷ last ∷ [] → after ≡ behind
        → AreMembers true prefix (first ∷ dash ∷ last ∷ behind) old →
        IsTrue (may_be_member (is_empty prefix) first) → IsTrue (not (last == close_bracket)) → first ≤ last
        → AreMembers true longer after new
    moved prefix longer after a b ms m l le =
        subst₃ (AreMembers true) (sym a) (sym b) (sym e) (snoc_range first last behind ms m l le)
members_more body next size old new before (adds_one {rest} {behind} {c} w b s e) q =
    let m = seam body next size (c ∷ []) behind before.within w s in
    record {
      within = m.fits;
      members = moved (take next body) (take (next + size) body) (drop (next + size) body) m.prefix m.rest
          (subst (λ r. AreMembers true (take next body) r old) w before.members)
          (may_duplicate body next c _ before.within w q);
    }
  where
    moved : (prefix longer after : List ℕ) → longer ≡ prefix ++ c ∷ [] → after ≡ behind
        → AreMembers true prefix (c ∷ behind) old →
        IsTrue (may_be_member (is_empty prefix) c) → AreMembers true longer after new
    moved prefix longer after a d ms m =
        subst₃ (AreMembers true) (sym a) (sym d) (sym e) (snoc_one c behind ms m b)

members_fall : (body : List ℕ) (next : ℕ) (ranges : List CharacterRange) → AreMembersTo body next ranges
    → IsFalling (drop next body) →
    GoesOnAt body next → FallsAt body next
members_fall body next ranges before f q =
    let e : body ≡ take next body ++ f.first ∷ dash ∷ f.last ∷ f.behind = sym (take-append-drop next body)
    ∙ ap (λ l. take next body ++ l) f.whole in
    let size : length (take next body) ≡ next = length-take-le next body before.within in
    subst (λ n. FallsAt body n) size
    (subst (λ b. FallsAt b (length (take next body))) (sym e)
    (falls (take next body) f.behind f.first f.last
    (subst (λ r. AreMembers true (take next body) r ranges) f.whole before.members)
    (may_duplicate body next f.first _ before.within f.whole q) f.is_last f.falls))

pub members_begin : (body : List ℕ) → AreMembersTo body 0 []
members_begin body = record { within = omega arith; members = no_more }

pub members_stop : (body : List ℕ) (next at unclosed : ℕ) (ranges : List CharacterRange) (stop : Stop)
    → AreMembersTo body next ranges → StopsMember (at + next) (drop next body) stop → GoesOnAt body next →
    StopsMembers at unclosed body stop
members_stop body next at unclosed ranges (Fault i) before s q = inl (
  next,
  members_fall body next ranges before s.1 q,
  s.0,
)
members_stop body next at unclosed ranges Memory before s q = tt
