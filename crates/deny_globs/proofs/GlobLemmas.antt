-- The loop that reads a pattern.
use Rattle.std.proofs.Common.{◌≡◌, ℕ, suc, ◌+◌, ◌<◌, ◌≤◌, List, [], ◌∷◌, ◌++◌, length, map, take, drop, Bool, true}
use Rattle.std.proofs.Common.{false, refl, sym, ap, subst, inl, inr, ◌∙◌, arith, rules, cond}
use Rattle.std.specs.Prelude.{reverse, Some, None, nat_lt}
use Rattle.std.proofs.Math.Nat.{zero-add}
use Rattle.std.proofs.Math.Seq.{take-length, drop-length}
use Rattle.std.proofs.lemmas.List.{take-append-drop, length-take-le, map-append, reverse-append, length-reverse}
use Rattle.deny_base_lists.proofs.Options.{some_inj}
use Rattle.deny_globs.specs.declared.token.Token.{Token}
use Rattle.deny_globs.specs.declared.piece.Piece.{Piece}
use Rattle.deny_globs.specs.declared.piece.Piece.TheVariants.{Token as Whole, Middle, Open, Comma, Close}
use Rattle.deny_globs.specs.declared.stop.Stop.{Stop}
use Rattle.deny_globs.specs.declared.stop.Stop.TheVariants.{Fault, Memory}
use Rattle.deny_globs.specs.declared.reading.OpenBrace.{OpenBrace}
use Rattle.deny_globs.specs.declared.reading.GlobReading.{GlobReading}
use Rattle.deny_globs.specs.Characters.{open_brace, close_brace}
use Rattle.deny_globs.specs.Pieces.{IsPiece, open_braces, close_braces, Spells, nothing}
use Rattle.deny_globs.specs.Tree.{most_braces, IsGlob}
use Rattle.deny_globs.specs.Faults.{open_behind, outermost, IsReadTo, FirstFault, unopened, too_deep, nothing_escaped}
use Rattle.deny_globs.specs.Faults.{falling_range, unclosed_class, unclosed_brace}
use Rattle.deny_globs.specs.private.Steps.{escapes_nothing, has_falling_range, is_unclosed}
use Rattle.deny_globs.specs.private.Steps.{IsPieceOf, IsStop}
use Rattle.deny_globs.specs.private.Reading.{inner_first, after_piece, brace_of, parted, closed, outermost_of}
use Rattle.deny_globs.specs.private.Reading.{StopsEnd}
use Rattle.deny_globs.specs.private.Reading.{ReadsOn, StopsNext, StopsGlob}
use Rattle.deny_globs.proofs.Braces.{state, start, brace, run, run_more, tokens_of_run, after_some}
use Rattle.deny_globs.proofs.Seams.{seam}
use Rattle.deny_globs.proofs.Spelling.{spells_more}

-- the indices of braces
abbrev indices : List OpenBrace → List ℕ
indices opened = map (λ b. b.at) opened

pub some_is : {r s : GlobReading} → Some r ≡ Some s → r ≡ s
some_is e = cc

length-indices : (opened : List OpenBrace) → length (indices opened) ≡ length opened
length-indices [] = refl
length-indices (b ∷ opened) = ap suc (length-indices opened)

open_open : (c : Bool) (at : ℕ) (opened : List OpenBrace) (tokens : List Token) (next : GlobReading)
    (pieces : List Piece)
    → nat_lt (length opened) most_braces ≡ c →
    cond c (Some (state (brace at tokens [] ∷ opened) [])) None ≡ Some next →
    (cond (nat_lt (length (indices opened)) most_braces) (open_behind (at ∷ indices opened) pieces) None
    ≡ open_behind (indices next.opened) pieces) × (length opened < most_braces)
    × (next.opened ≡ brace at tokens [] ∷ opened)
open_open true at opened tokens next pieces l e =
    let same : state (brace at tokens [] ∷ opened) [] ≡ next = cc in
    let less : length opened < most_braces = search rules in
    let lt : nat_lt (length (indices opened)) most_braces ≡ true =
    ap (λ n. nat_lt n most_braces) (length-indices opened) ∙ l in (
      ap (λ b. cond b (open_behind (at ∷ indices opened) pieces) None) lt
          ∙ ap (λ r. open_behind (indices r.opened) pieces) same,
      less,
      ap (λ r. r.opened) (sym same),
    )
open_open false at opened tokens next pieces l e = cc

open_part : (opened : List OpenBrace) (tokens : List Token) → indices (parted opened tokens).opened ≡ indices opened
open_part [] tokens = refl
open_part (b ∷ opened) tokens = refl

open_close : (opened : List OpenBrace) (tokens : List Token) (next : GlobReading) (to : ℕ) (pieces : List Piece)
    → closed opened tokens ≡ Some next →
    (open_behind (indices opened) (Close to ∷ pieces) ≡ open_behind (indices next.opened) pieces)
    × (length next.opened ≤ length opened)
open_close [] tokens next to pieces e = cc
open_close (b ∷ opened) tokens next to pieces e =
    let same : opened ≡ next.opened = ap (λ r. r.opened) (some_is e) in
    let n : length next.opened ≡ length opened = ap length (sym same) in
    (ap (λ o. open_behind (indices o) pieces) same, omega arith)

-- the braces that are open after a piece, which are few
open_after : (piece : Piece) (pieces : List Piece) (reading next : GlobReading) → after_piece reading piece ≡ Some next
    → length reading.opened ≤ most_braces →
    (open_behind (indices reading.opened) (piece ∷ pieces) ≡ open_behind (indices next.opened) pieces)
    × (length next.opened ≤ most_braces)
open_after (Whole t) pieces reading next e few =
    let same : reading.opened ≡ next.opened = ap (λ r. r.opened) (some_is e) in
    (ap (λ o. open_behind (indices o) pieces) same, subst (λ o. length o ≤ most_braces) same few)
open_after Middle pieces reading next e few =
    let same : reading.opened ≡ next.opened = ap (λ r. r.opened) (some_is e) in
    (ap (λ o. open_behind (indices o) pieces) same, subst (λ o. length o ≤ most_braces) same few)
open_after (Open at) pieces reading next e few =
    let o = open_open (nat_lt (length reading.opened) most_braces) at reading.opened reading.tokens next pieces refl e
    in
    let less = o.1 in
    (o.0, subst (λ l. length l ≤ most_braces) (sym o.2) (omega arith))
open_after Comma pieces reading next e few =
    let same : indices reading.opened ≡ indices next.opened = sym (open_part reading.opened reading.tokens)
    ∙ ap (λ r. indices r.opened) (some_is e) in
    let n : length next.opened ≡ length reading.opened = sym (length-indices next.opened) ∙ ap length (sym same)
    ∙ length-indices reading.opened in
    (ap (λ o. open_behind o pieces) same, omega arith)
open_after (Close at) pieces reading next e few =
    let c = open_close reading.opened reading.tokens next at pieces e in
    let less = c.1 in
    (c.0, omega arith)

pub open_run : (pieces : List Piece) (reading end : GlobReading) → run reading pieces ≡ Some end
    → length reading.opened ≤ most_braces →
    (open_behind (indices reading.opened) pieces ≡ Some (indices end.opened)) × (length end.opened ≤ most_braces)
open_run [] reading end e few =
    let same : reading.opened ≡ end.opened = ap (λ r. r.opened) (some_is e) in
    (ap (λ o. Some (indices o)) same, subst (λ o. length o ≤ most_braces) same few)
open_run (piece ∷ pieces) reading end e few =
    let s = after_some (after_piece reading piece) pieces end e in
    let a = open_after piece pieces reading s.0 s.1 few in
    let r = open_run pieces s.0 end s.2 a.1 in
    (a.0 ∙ r.0, r.1)

-- ---- the loop

pub record IsReadSo (characters : List ℕ) (next : ℕ) (reading : GlobReading) : Type 0 where
  pub pieces : List Piece
  pub within : next ≤ length characters
  pub spelled : Spells 0 (take next characters) (drop next characters) pieces
  pub read : run start pieces ≡ Some (inner_first reading)

pub read_none : (characters : List ℕ) (reading : GlobReading) → reading.opened ≡ [] → reading.tokens ≡ []
    → IsReadSo characters 0 reading
read_none characters reading e f = record {
  pieces = [];
  within = omega arith;
  spelled = nothing;
  read = ap (λ o. Some (state (reverse o) [])) (sym e) ∙ ap (λ t. Some (state (reverse reading.opened) t)) (sym f);
}

pub read_more : (characters : List ℕ) (next size : ℕ) (old new : GlobReading) → IsReadSo characters next old
    → ReadsOn characters next size old new → IsReadSo characters (next + size) new
read_more characters next size old new so on =
    let rest = drop next characters in
    let prefix = take size rest in
    let behind = drop size rest in
    let w = on.is_piece.within in
    let s = seam characters next size prefix behind so.within (sym (take-append-drop size rest))
    (sym (length-take-le size rest w)) in
    let count : 0 + length (take next characters) ≡ next = zero-add (length (take next characters))
    ∙ length-take-le next characters so.within in
    let spelled : Spells 0 (take next characters ++ prefix) behind (so.pieces ++ on.piece ∷ []) =
    spells_more prefix behind
    (subst (λ l. Spells 0 (take next characters) l so.pieces) (sym (take-append-drop size rest)) so.spelled)
    (subst (λ n. IsPiece n prefix behind on.piece) (sym count) on.is_piece.is_piece) in
    record {
      pieces = so.pieces ++ on.piece ∷ [];
      within = s.fits;
      spelled = subst (λ l. Spells 0 l (drop (next + size) characters) (so.pieces ++ on.piece ∷ [])) (sym s.prefix)
          (subst (λ l. Spells 0 (take next characters ++ prefix) l (so.pieces ++ on.piece ∷ [])) (sym s.rest) spelled);
      read = run_more so.pieces on.piece start (inner_first old) (inner_first new) so.read on.after;
    }

pub glob_read : (characters : List ℕ) (next : ℕ) (reading : GlobReading) (tokens : List Token)
    → length characters ≤ next
    → IsReadSo characters next reading → (reading.opened ≡ []) × (tokens ≡ reading.tokens) → IsGlob characters tokens
glob_read characters next reading tokens p so e =
    let w = so.within in
    let all : next ≡ length characters = omega arith in
    let whole : take next characters ≡ characters = ap (λ n. take n characters) all ∙ take-length characters in
    let none : drop next characters ≡ [] = ap (λ n. drop n characters) all ∙ drop-length characters in
    let read : run start so.pieces ≡ Some (state [] tokens) =
    so.read ∙ ap (λ o. Some (state (reverse o) reading.tokens)) e.0 ∙ ap (λ t. Some (state [] t)) (sym e.1) in
    record {
      pieces = so.pieces;
      spelled = subst (λ l. Spells 0 l [] so.pieces) whole
          (subst (λ l. Spells 0 (take next characters) l so.pieces) none so.spelled);
      tree = tokens_of_run so.pieces tokens read;
    }

-- ---- faults

read_to : (characters : List ℕ) (next : ℕ) (reading : GlobReading) → IsReadSo characters next reading
    → IsReadTo characters (take next characters) (drop next characters) (indices (reverse reading.opened))
read_to characters next reading so = record {
  pieces = so.pieces;
  whole = sym (take-append-drop next characters);
  spelled = so.spelled;
  braces = (open_run so.pieces start (inner_first reading) so.read (omega arith)).0;
}

outermost_last : (indices : List ℕ) (first at : ℕ) → outermost (indices ++ first ∷ []) at ≡ first
outermost_last [] first at = refl
outermost_last (p ∷ indices) first at = outermost_last indices first p

outermost_is : (opened : List OpenBrace) (at : ℕ) → outermost (indices (reverse opened)) at ≡ outermost_of opened at
outermost_is [] at = refl
outermost_is (b ∷ opened) at =
    ap (λ l. outermost (indices l) at) (reverse-append (b ∷ []) opened)
    ∙ ap (λ l. outermost l at) (map-append (λ o. o.at) (reverse opened) (b ∷ []))
    ∙ outermost_last (indices (reverse opened)) b.at at

stop_fault : {at unclosed i : ℕ} {rest : List ℕ} (characters before opened : List ℕ) → IsStop at unclosed rest i
    → IsReadTo characters before rest opened → length before ≡ at → unclosed ≡ outermost opened at →
    FirstFault characters i
stop_fault characters before opened escapes_nothing read e u = subst (FirstFault characters) e
    (nothing_escaped before opened read)
stop_fault characters before opened (has_falling_range mark body into m f) read e u =
    subst (FirstFault characters) (ap (λ n. n + 1 + length mark + into) e)
    (falling_range before mark body opened into read m f)
stop_fault characters before opened (is_unclosed mark body m c) read e u =
    subst (FirstFault characters) (ap (outermost opened) e ∙ sym u)
    (unclosed_class before mark body opened read m c.members)

end_fault : (characters : List ℕ) (opened : List ℕ) (first at : ℕ) → IsReadTo characters characters [] opened
    → outermost opened at ≡ first → 0 < length opened → FirstFault characters first
end_fault characters [] first at read o p = absurd (omega arith)
end_fault characters (last ∷ opened) first at read o p = subst (FirstFault characters) o
    (unclosed_brace last opened read)

open_shape : {at a : ℕ} {prefix behind : List ℕ} → IsPiece at prefix behind (Open a)
    → (prefix ≡ open_brace ∷ []) × (a ≡ at)
open_shape open_braces = (refl, refl)

close_shape : {at a : ℕ} {prefix behind : List ℕ} → IsPiece at prefix behind (Close a)
    → (prefix ≡ close_brace ∷ []) × (a ≡ at)
close_shape close_braces = (refl, refl)

too_many : (c : Bool) (n : ℕ) (some : GlobReading) → nat_lt n most_braces ≡ c → cond c (Some some) None ≡ None
    → n ≤ most_braces → n ≡ most_braces
too_many true n some l e few = cc
too_many false n some l e few = let h : most_braces ≤ n = search rules in omega arith

none_open : (opened : List OpenBrace) (tokens : List Token) → closed opened tokens ≡ None → opened ≡ []
none_open [] tokens e = refl
none_open (b ∷ opened) tokens e = cc

parts_of : (rest : List ℕ) (size : ℕ) (prefix : List ℕ) → take size rest ≡ prefix → rest ≡ prefix ++ drop size rest
parts_of rest size prefix e = sym (take-append-drop size rest) ∙ ap (λ l. l ++ drop size rest) e

bad_brace : (characters : List ℕ) (next : ℕ) (old : GlobReading) (i size : ℕ) (piece : Piece)
    → IsReadSo characters next old
    → IsPieceOf next (drop next characters) size piece →
    after_piece (inner_first old) piece ≡ None → brace_of piece ≡ Some i → FirstFault characters i
bad_brace characters next old i size (Whole t) so p a b = cc
bad_brace characters next old i size Middle so p a b = cc
bad_brace characters next old i size Comma so p a b = cc
bad_brace characters next old i size (Open at) so p a b =
    let inner = reverse old.opened in
    let shape = open_shape p.is_piece in
    let rest : drop next characters ≡ open_brace ∷ drop size (drop next characters) = parts_of (drop next characters)
    size (open_brace ∷ []) shape.0 in
    let few = (open_run so.pieces start (inner_first old) so.read (omega arith)).1 in
    let deep : length inner ≡ most_braces = too_many (nat_lt (length inner) most_braces) (length inner)
    (state (brace at old.tokens [] ∷ inner) []) refl a few in
    let index : length (take next characters) ≡ i = length-take-le next characters so.within ∙ sym shape.1
    ∙ some_inj b in
    subst (FirstFault characters) index
    (too_deep (take next characters) (drop size (drop next characters)) (indices inner)
    (subst (λ l. IsReadTo characters (take next characters) l (indices inner)) rest (read_to characters next old so))
    (length-indices inner ∙ deep))
bad_brace characters next old i size (Close at) so p a b =
    let inner = reverse old.opened in
    let shape = close_shape p.is_piece in
    let rest : drop next characters ≡ close_brace ∷ drop size (drop next characters) = parts_of (drop next characters)
    size (close_brace ∷ []) shape.0 in
    let none : indices inner ≡ [] = ap indices (none_open inner old.tokens a) in
    let index : length (take next characters) ≡ i = length-take-le next characters so.within ∙ sym shape.1
    ∙ some_inj b in
    subst (FirstFault characters) index
    (unopened (take next characters) (drop size (drop next characters))
    (subst (IsReadTo characters (take next characters) (close_brace ∷ drop size (drop next characters))) none
    (subst (λ l. IsReadTo characters (take next characters) l (indices inner)) rest (read_to characters next old so))))

pub next_stops : (characters : List ℕ) (next : ℕ) (old : GlobReading) (stop : Stop) → IsReadSo characters next old
    → StopsNext characters next old stop → StopsGlob characters stop
next_stops characters next old (Fault i) so (inl s) =
    stop_fault characters (take next characters) (indices (reverse old.opened)) s (read_to characters next old so)
    (length-take-le next characters so.within) (sym (outermost_is old.opened next))
next_stops characters next old (Fault i) so (inr b) = bad_brace characters next old i b.size b.piece so b.is_piece
    b.after b.brace
next_stops characters next old Memory so s = tt

pub end_stops : (characters : List ℕ) (next : ℕ) (reading : GlobReading) (stop : Stop) → length characters ≤ next
    → IsReadSo characters next reading → StopsEnd reading.opened stop → StopsGlob characters stop
end_stops characters next reading (Fault i) p so s =
    let w = so.within in
    let all : next ≡ length characters = omega arith in
    let whole : take next characters ≡ characters = ap (λ n. take n characters) all ∙ take-length characters in
    let none : drop next characters ≡ [] = ap (λ n. drop n characters) all ∙ drop-length characters in
    let inner = reverse reading.opened in
    let count : length (indices inner) ≡ suc (length s.1) = length-indices inner ∙ length-reverse reading.opened
    ∙ ap length s.2 in
    end_fault characters (indices inner) i 0
    (subst (λ l. IsReadTo characters l [] (indices inner)) whole
    (subst (λ l. IsReadTo characters (take next characters) l (indices inner)) none
    (read_to characters next reading so)))
    (outermost_is reading.opened 0 ∙ ap (λ o. outermost_of o 0) s.2 ∙ sym s.3) (omega arith)
end_stops characters next reading Memory p so s = tt
