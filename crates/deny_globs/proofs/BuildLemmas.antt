-- Each step of compiling, from its parts.
use Rattle.std.proofs.Common.{◌≡◌, ℕ, ◌+◌, ◌<◌, ◌≤◌, List, [], ◌∷◌, ◌++◌, length, take, IsTrue, refl, sym, ap, subst}
use Rattle.std.proofs.Common.{inl, inr, ◌∙◌, arith, append_assoc, append-nil, get_or, length-append}
use Rattle.std.specs.Prelude.{◌⊎◌, ◌↔◌, Some, None, slice_get}
use Rattle.std.proofs.Math.Logic.{⊎_map}
use Rattle.std.proofs.lemmas.List.{take_more}
use Rattle.std.proofs.lemmas.List.Sums.{sum_by-append, sum_by-cons}
use Rattle.deny_base_lists.proofs.Indices.{slice_get-push}
use Rattle.deny_base_lists.proofs.Options.{some_inj}
use Rattle.deny_globs.specs.declared.token.Token.{Token}
use Rattle.deny_globs.specs.declared.token.Token.TheVariants.{Character, AnyCharacter, OneOf, AnyText, LeadingFolders}
use Rattle.deny_globs.specs.declared.token.Token.TheVariants.{TrailingPath, MiddleFolders, Alternatives}
use Rattle.deny_globs.specs.declared.token.CharacterClass.{CharacterClass}
use Rattle.deny_globs.specs.declared.state.GlobState.{GlobState}
use Rattle.deny_globs.specs.declared.state.GlobState.TheVariants as state
use Rattle.deny_globs.specs.Characters.{slash}
use Rattle.deny_globs.specs.Fits.{any_text, Fits}
use Rattle.deny_globs.specs.States.{IsAtOnce, IsBehind, Leads, ends, over, aside, PointsBelow}
use Rattle.deny_globs.specs.private.States.{end_of}
use Rattle.deny_globs.specs.private.Sizes.{states_in, states_of, states_of_all}
use Rattle.deny_globs.specs.Compiled.{IsProgram}
use Rattle.deny_globs.specs.private.Compiled.{Grows, IsPushed, Represents, IsBuilt, IsBuiltOver, IsBuiltBeside}
use Rattle.deny_globs.proofs.FitsLemmas.{split_first, fits_joined, TakesOne, takes, character_takes}
use Rattle.deny_globs.proofs.FitsLemmas.{any_character_takes, class_takes_one}
use Rattle.deny_globs.proofs.FormLemmas.{above_fits, above_from_fits, trailing_fits, trailing_from_fits, middle_fits}
use Rattle.deny_globs.proofs.FormLemmas.{middle_from_fits, one_from_fits, fits_from_one, one_of_more}
use Rattle.deny_globs.proofs.FormLemmas.{more_of_one}
use Rattle.deny_globs.proofs.SizeLemmas.{size_character, size_any_character, size_class, size_any_text, size_leading}
use Rattle.deny_globs.proofs.SizeLemmas.{size_trailing, size_middle, size_alternatives, size_cons, size_one}
use Rattle.deny_globs.proofs.StateLemmas.{leads_more, leads_before, Turn, ended, took, moved, turn, push_program}

pub grows_same : {old new : List GlobState} → new ≡ old → Grows old new
grows_same {old} e = record { more = []; whole = e ∙ sym (append-nil old) }

pub grows_push : {state : GlobState} {old new : List GlobState} {number : ℕ} → IsPushed state old new number
    → Grows old new
grows_push {state} pushed = record { more = state ∷ []; whole = pushed.whole }

pub grows_on : {old mid new : List GlobState} → Grows old mid → Grows mid new → Grows old new
grows_on {old} a b = record {
  more = a.more ++ b.more;
  whole = b.whole ∙ ap (λ l. l ++ b.more) a.whole ∙ append_assoc old a.more b.more;
}

pub length_grown : {old new : List GlobState} → Grows old new → length old ≤ length new
length_grown {old} {new} g = omega (arith, ap length g.whole, length-append old g.more)

pub length_pushed : {state : GlobState} {old new : List GlobState} {number : ℕ} → IsPushed state old new number
    → length new ≡ length old + 1
length_pushed {state} {old} pushed = omega (arith, ap length pushed.whole, length-append old (state ∷ []))

-- a state leads where it led, however many states were added
pub leads_grown : {old new : List GlobState} {glob number : ℕ} {cs : List ℕ} → Grows old new → Leads old glob number cs
    → Leads new glob number cs
leads_grown {old} {new} {glob} {number} {cs} g l = subst (λ s. Leads s glob number cs) (sym g.whole)
    (leads_more g.more l)

pub leads_ungrown : {old new : List GlobState} {glob number : ℕ} {cs : List ℕ} → IsProgram old → number < length old
    → Grows old new → Leads new glob number cs → Leads old glob number cs
leads_ungrown {old} {new} {glob} {number} {cs} program p g l = leads_before g.more program p
    (subst (λ s. Leads s glob number cs) g.whole l)

holds_grown : {old new : List GlobState} {glob number : ℕ} {tokens : List Token} → IsProgram old → number < length old
    → Grows old new → Represents old glob number tokens → Represents new glob number tokens
holds_grown program p g holds cs = (
  λ l. (holds cs).0 (leads_ungrown program p g l),
  λ f. leads_grown g ((holds cs).1 f),
)

pub pushed_at : {state : GlobState} {old new : List GlobState} {number : ℕ} → IsPushed state old new number
    → slice_get new number ≡ Some state
pushed_at {state} {old} {new} {number} pushed =
    subst (λ n. slice_get new n ≡ Some state) (sym pushed.is_last)
    (subst (λ l. slice_get l (length old) ≡ Some state) (sym pushed.whole) (slice_get-push old state))

pushed_program : {state : GlobState} {old new : List GlobState} {number : ℕ} → IsProgram old
    → PointsBelow (length old) state → IsPushed state old new number → IsProgram new
pushed_program {state} {old} program p pushed = subst IsProgram (sym pushed.whole) (push_program old state program p)

-- ---- one character

-- the state takes the characters that the token takes, and the next state follows it
record IsOne (token : Token) (next : ℕ) (kind : GlobState) : Type 0 where
  pub points : (n : ℕ) → next < n → PointsBelow n kind
  pub aside_none : (number : ℕ) → IsAtOnce kind number → ⊥
  pub behind_is : (own c number : ℕ) → IsBehind own kind c number → IsTrue (takes token c) × (number ≡ next)
  pub is_behind : (own c : ℕ) → IsTrue (takes token c) → IsBehind own kind c next
  pub no_end : (glob : ℕ) → kind ≡ state.End glob → ⊥

no_end_of : {kind : GlobState} → end_of kind ≡ None → (glob : ℕ) → kind ≡ state.End glob → ⊥
no_end_of {kind} none glob e = let same : None ≡ Some glob = sym none ∙ ap end_of e in cc

one_to : {token : Token} {next number glob : ℕ} {kind : GlobState} {states : List GlobState} {rest : List Token}
    {cs : List ℕ}
    → TakesOne token → IsOne token next kind →
    ((ds : List ℕ) → Leads states glob next ds → Fits rest ds) → Turn states glob number kind cs
    → Fits (token ∷ rest) cs
one_to {glob = glob} takes_one one to (ended e) = absurd (one.no_end glob e)
one_to {glob = glob} {states = states} takes_one one to (took {next = n} {c = c} {cs = ds} h l) =
    let b = one.behind_is _ c n h in
    fits_joined (c ∷ []) ds refl (takes_one.text_of_taken c b.0) (to ds (subst (λ k. Leads states glob k ds) b.1 l))
one_to takes_one one to (moved h l) = absurd (one.aside_none _ h)

one_from : {token : Token} {next number glob : ℕ} {kind : GlobState} {states : List GlobState} {rest : List Token}
    {cs : List ℕ}
    → TakesOne token → IsOne token next kind → slice_get states number ≡ Some kind →
    ((ds : List ℕ) → Fits rest ds → Leads states glob next ds) → Fits (token ∷ rest) cs → Leads states glob number cs
one_from {token} {next} {number} {glob} {kind} {states} {rest} {cs} takes_one one at from f =
    let s = split_first f in
    let t = takes_one.taken_of_text s.prefix s.is_text in
    subst (λ ds. Leads states glob number ds) (sym (s.whole ∙ ap (λ l. l ++ s.rest) t.1))
    (over kind at (one.is_behind number t.0 t.2) (from s.rest s.fits))

built_one : {token : Token} {next number : ℕ} {kind : GlobState} {old new : List GlobState} → TakesOne token
    → IsOne token next kind → states_in token ≡ 1 → IsProgram old → next < length old →
    IsPushed kind old new number → IsBuilt (token ∷ []) next old new number
built_one {token} {next} {number} {kind} {old} {new} takes_one one size program p pushed =
    let at = pushed_at pushed in
    let grows = grows_push pushed in
    record {
      grows = grows;
      program = pushed_program program (one.points (length old) p) pushed;
      in_range = omega (arith, length_pushed pushed, pushed.is_last);
      holds = λ glob rest holds cs. (
        λ l. one_to takes_one one (λ ds m. (holds_grown program p grows holds ds).0 m) (turn at l),
        λ f. one_from takes_one one at (λ ds g. (holds_grown program p grows holds ds).1 g) f,
      );
      size = omega (arith, length_pushed pushed, size_one token, size);
    }

one_character : (d next : ℕ) → IsOne (Character d) next (state.Character d next)
one_character d next = record {
  points = λ n p. p;
  aside_none = λ number h. h;
  behind_is = λ own c number h. h;
  is_behind = λ own c h. (h, refl);
  no_end = no_end_of refl;
}

one_any_character : (next : ℕ) → IsOne AnyCharacter next (state.AnyCharacter next)
one_any_character next = record {
  points = λ n p. p;
  aside_none = λ number h. h;
  behind_is = λ own c number h. (refl, h);
  is_behind = λ own c h. refl;
  no_end = no_end_of refl;
}

one_class : (class : CharacterClass) (next : ℕ) → IsOne (OneOf class) next (state.OneOf class next)
one_class class next = record {
  points = λ n p. p;
  aside_none = λ number h. h;
  behind_is = λ own c number h. h;
  is_behind = λ own c h. (h, refl);
  no_end = no_end_of refl;
}

pub built_character : {d next number : ℕ} {old new : List GlobState} → IsProgram old → next < length old
    → IsPushed (state.Character d next) old new number → IsBuilt (Character d ∷ []) next old new number
built_character {d} {next} program p pushed = built_one (character_takes d) (one_character d next) (size_character d)
    program p pushed

pub built_any_character : {next number : ℕ} {old new : List GlobState} → IsProgram old → next < length old
    → IsPushed (state.AnyCharacter next) old new number → IsBuilt (AnyCharacter ∷ []) next old new number
built_any_character {next} program p pushed = built_one any_character_takes (one_any_character next) size_any_character
    program p pushed

pub built_class : {class : CharacterClass} {next number : ℕ} {old new : List GlobState} → IsProgram old
    → next < length old
    → IsPushed (state.OneOf class next) old new number → IsBuilt (OneOf class ∷ []) next old new number
built_class {class} {next} program p pushed = built_one (class_takes_one class) (one_class class next)
    (size_class class) program p pushed

-- ---- any characters

any_longer : {rest : List Token} {c : ℕ} {cs : List ℕ} → Fits (AnyText ∷ rest) cs → Fits (AnyText ∷ rest) (c ∷ cs)
any_longer {rest} {c} {cs} f = let s = split_first f in
    fits_joined (c ∷ s.prefix) s.rest (ap (λ l. c ∷ l) s.whole) (any_text (c ∷ s.prefix)) s.fits

any_to : {next number glob : ℕ} {states : List GlobState} {rest : List Token} {cs : List ℕ}
    → slice_get states number ≡ Some (state.AnyText next) →
    ((ds : List ℕ) → Leads states glob next ds → Fits rest ds) → (own : ℕ) → own ≡ number → Leads states glob own cs
    → Fits (AnyText ∷ rest) cs
any_to {next} {number} {glob} {states} at to own e (ends here) =
    let same : state.AnyText next
    ≡ state.End glob = some_inj (sym at ∙ subst (λ n. slice_get states n ≡ Some (state.End glob)) e here) in
    absurd (no_end_of refl glob same)
any_to {next} {number} {glob} {states} at to own e (over {next = n} {c = c} kind here h l) =
    let same : kind ≡ state.AnyText next = some_inj (sym (subst (λ m. slice_get states m ≡ Some kind) e here) ∙ at) in
    let stays : n ≡ own = subst (λ k. IsBehind own k c n) same h in
    any_longer (any_to at to n (stays ∙ e) l)
any_to {next} {number} {glob} {states} {rest} {cs} at to own e (aside {next = n} kind here h l) =
    let same : kind ≡ state.AnyText next = some_inj (sym (subst (λ m. slice_get states m ≡ Some kind) e here) ∙ at) in
    let moves : n ≡ next = subst (λ k. IsAtOnce k n) same h in
    fits_joined [] cs refl (any_text []) (to cs (subst (λ k. Leads states glob k cs) moves l))

any_from : {next number glob : ℕ} {states : List GlobState} → slice_get states number ≡ Some (state.AnyText next)
    → (prefix back : List ℕ) → Leads states glob next back → Leads states glob number (prefix ++ back)
any_from {next} at [] back l = aside (state.AnyText next) at refl l
any_from {next} at (c ∷ prefix) back l = over (state.AnyText next) at refl (any_from at prefix back l)

pub built_any_text : {next number : ℕ} {old new : List GlobState} → IsProgram old → next < length old
    → IsPushed (state.AnyText next) old new number → IsBuilt (AnyText ∷ []) next old new number
built_any_text {next} {number} {old} {new} program p pushed =
    let at = pushed_at pushed in
    let grows = grows_push pushed in
    record {
      grows = grows;
      program = pushed_program program p pushed;
      in_range = omega (arith, length_pushed pushed, pushed.is_last);
      holds = λ glob rest holds cs. (
        λ l. any_to at (λ ds m. (holds_grown program p grows holds ds).0 m) number refl l,
        λ f. let s = split_first f in
            subst (λ ds. Leads new glob number ds) (sym s.whole)
            (any_from at s.prefix s.rest ((holds_grown program p grows holds s.rest).1 s.fits)),
      );
      size = omega (arith, length_pushed pushed, size_one AnyText, size_any_text);
    }

-- ---- either of two states

either_is : {first second number glob : ℕ} {states : List GlobState} {cs : List ℕ}
    → slice_get states number ≡ Some (state.Either first second) →
    Leads states glob number cs ↔ (Leads states glob first cs ⊎ Leads states glob second cs)
either_is {first} {second} {number} {glob} {states} {cs} at = (λ l. to (turn at l), from) where
  to : {ds : List ℕ} → Turn states glob number (state.Either first second) ds
      → Leads states glob first ds ⊎ Leads states glob second ds
  to (ended e) = absurd (no_end_of refl glob e)
  to (took h l) = absurd h
  to (moved {next = n} {cs = ds} (inl e) l) = inl (subst (λ k. Leads states glob k ds) e l)
  to (moved {next = n} {cs = ds} (inr e) l) = inr (subst (λ k. Leads states glob k ds) e l)

  from : Leads states glob first cs ⊎ Leads states glob second cs → Leads states glob number cs
  from (inl l) = aside (state.Either first second) at (inl refl) l
  from (inr l) = aside (state.Either first second) at (inr refl) l

-- ---- one token before others that are built
pub built_on : {done : List Token} {token : Token} {next start number : ℕ} {old mid new : List GlobState}
    → IsBuilt done next old mid start → IsBuilt (token ∷ []) start mid new number
    → IsBuilt (token ∷ done) next old new number
built_on {done} {token} a b = record {
  grows = grows_on a.grows b.grows;
  program = b.program;
  in_range = b.in_range;
  holds = λ glob rest holds. b.holds glob (done ++ rest) (a.holds glob rest holds);
  size = omega (arith, a.size, b.size, size_one token, size_cons token done);
}

-- the states that are built for tokens are built for equivalent ones
built_same : {tokens others : List Token} {next number : ℕ} {old new : List GlobState} →
    ((rest : List Token) (cs : List ℕ) → Fits (tokens ++ rest) cs → Fits (others ++ rest) cs)
    → ((rest : List Token) (cs : List ℕ) → Fits (others ++ rest) cs → Fits (tokens ++ rest) cs) →
    states_of tokens ≤ states_of others → IsBuilt tokens next old new number → IsBuilt others next old new number
built_same to from fewer b = record {
  grows = b.grows;
  program = b.program;
  in_range = b.in_range;
  holds = λ glob rest holds cs. (
    λ l. to rest cs ((b.holds glob rest holds cs).0 l),
    λ f. (b.holds glob rest holds cs).1 (from rest cs f),
  );
  size = omega (arith, b.size, fewer);
}

pub built_leading : {next first second number : ℕ} {old one two new : List GlobState} → IsProgram old
    → next < length old
    → IsBuilt (Character slash ∷ []) next old one first →
    IsPushed (state.AnyText first) one two second → IsPushed (state.Either next second) two new number
    → IsBuilt (LeadingFolders ∷ []) next old new number
built_leading {next} {first} {second} {number} {old} {one} {two} {new} program p a pushed last =
    let b = built_on a (built_any_text a.program a.in_range pushed) in
    let at = pushed_at last in
    let grows = grows_push last in
    let longer = length_grown b.grows in
    record {
      grows = grows_on b.grows grows;
      program = pushed_program b.program (omega (arith, p, longer), b.in_range) last;
      in_range = omega (arith, length_pushed last, last.is_last);
      holds = λ glob rest holds cs.
          let behind = holds_grown program p (grows_on b.grows grows) holds in
          let folders = holds_grown b.program b.in_range grows (b.holds glob rest holds) in (
            λ l. above_fits rest cs (⊎_map (behind cs).0 (folders cs).0 ((either_is at).0 l)),
            λ f. (either_is at).1 (⊎_map (behind cs).1 (folders cs).1 (above_from_fits rest cs f)),
          );
      size = omega (
        arith,
        length_pushed last,
        length_pushed pushed,
        a.size,
        size_one LeadingFolders,
        size_leading,
        size_one (Character slash),
        size_character slash,
      );
    }

pub built_trailing : {next number : ℕ} {old new : List GlobState}
    → IsBuilt (Character slash ∷ AnyText ∷ []) next old new number → IsBuilt (TrailingPath ∷ []) next old new number
built_trailing b = built_same trailing_fits trailing_from_fits
    (omega (
      arith,
      size_one TrailingPath,
      size_cons (Character slash) (AnyText ∷ []),
      size_one AnyText,
      size_trailing,
      size_any_text,
      size_character slash,
    )) b

pub built_middle : {next number : ℕ} {old new : List GlobState}
    → IsBuilt (Character slash ∷ LeadingFolders ∷ []) next old new number
    → IsBuilt (MiddleFolders ∷ []) next old new number
built_middle b = built_same middle_fits middle_from_fits
    (omega (
      arith,
      size_one MiddleFolders,
      size_cons (Character slash) (LeadingFolders ∷ []),
      size_one LeadingFolders,
      size_middle,
      size_leading,
      size_character slash,
    )) b

-- ---- alternatives

pub built_beside : {tokens : List Token} {next others own number : ℕ} {old mid new : List GlobState} → IsProgram old
    → others < length old → IsBuilt tokens next old mid own →
    IsPushed (state.Either others own) mid new number → IsBuiltBeside tokens next others old new number
built_beside {tokens} {next} {others} {own} {number} {old} {mid} {new} program p b last =
    let at = pushed_at last in
    let grows = grows_push last in
    let longer = length_grown b.grows in
    record {
      grows = grows_on b.grows grows;
      program = pushed_program b.program (omega (arith, p, longer), b.in_range) last;
      in_range = omega (arith, length_pushed last, last.is_last);
      holds = λ glob rest holds cs.
          let alone = holds_grown b.program b.in_range grows (b.holds glob rest holds) in (
            λ l. ⊎_map (leads_ungrown program p (grows_on b.grows grows)) (alone cs).0 ((either_is at).0 l),
            λ h. (either_is at).1 (⊎_map (leads_grown (grows_on b.grows grows)) (alone cs).1 h),
          );
      size = omega (arith, length_pushed last, b.size);
    }

all_size_more : (some : List (List Token)) (tokens : List Token)
    → states_of_all (some ++ tokens ∷ []) ≡ states_of_all some + (states_of tokens + 1)
all_size_more some tokens = omega (
  arith,
  sum_by-append (λ ts. states_of ts + 1) some (tokens ∷ []),
  sum_by-cons (λ ts. states_of ts + 1) tokens [],
)

built_more : {some : List (List Token)} {tokens : List Token} {next others number : ℕ} {old mid new : List GlobState}
    → IsProgram old → next < length old →
    IsBuiltOver some next old mid others → IsBuiltBeside tokens next others mid new number
    → IsBuiltOver (some ++ tokens ∷ []) next old new number
built_more {some} {tokens} {next} {others} {number} {old} {mid} {new} program p b beside = record {
  grows = grows_on b.grows beside.grows;
  program = beside.program;
  in_range = beside.in_range;
  holds = λ glob rest holds cs.
      let both = beside.holds glob rest (holds_grown program p b.grows holds) cs in
      let first = b.holds glob rest holds cs in (
        λ l. one_of_more rest some tokens cs (⊎_map first.0 (λ f. f) (both.0 l)),
        λ o. both.1 (⊎_map first.1 (λ f. f) (more_of_one rest some tokens cs o)),
      );
  size = omega (arith, b.size, beside.size, all_size_more some tokens);
}

pub built_next : (alternatives : List (List Token)) {i next others number : ℕ} {tokens : List Token}
    {old mid new : List GlobState} → IsProgram old → next < length old → i < length alternatives →
    tokens ≡ get_or alternatives i tokens → IsBuiltOver (take i alternatives) next old mid others
    → IsBuiltBeside tokens next others mid new number → IsBuiltOver (take (i + 1) alternatives) next old new number
built_next alternatives {i} {next} {others} {number} {tokens} {old} {mid} {new} program p less is b beside =
    subst (λ l. IsBuiltOver l next old new number) (ap (λ t. take i alternatives ++ t ∷ []) is
    ∙ sym (take_more alternatives i tokens less)) (built_more program p b beside)

pub built_alternatives : {alternatives : List (List Token)} {next number : ℕ} {old new : List GlobState}
    → IsBuiltOver alternatives next old new number → IsBuilt (Alternatives alternatives ∷ []) next old new number
built_alternatives {alternatives} b = record {
  grows = b.grows;
  program = b.program;
  in_range = b.in_range;
  holds = λ glob rest holds cs.
      let over = b.holds glob rest holds cs in
      (λ l. fits_from_one rest alternatives cs (over.0 l), λ f. over.1 (one_from_fits rest alternatives cs f));
  size = omega (arith, b.size, size_one (Alternatives alternatives), size_alternatives alternatives);
}

-- ---- the loop over the tokens, from the last one: the tokens left, and those that are built
pub record IsBuiltBackTo (tokens left : List Token) (next : ℕ) (old new : List GlobState) (start : ℕ) : Type 0 where
  pub done : List Token
  pub whole : tokens ≡ left ++ done
  pub built : IsBuilt done next old new start

pub built_back : {tokens left before : List Token} {token : Token} {next start number : ℕ}
    {old mid new : List GlobState}
    → left ≡ before ++ token ∷ [] →
    IsBuiltBackTo tokens left next old mid start → IsBuilt (token ∷ []) start mid new number
    → IsBuiltBackTo tokens before next old new number
built_back {tokens} {left} {before} {token} e at step = record {
  done = token ∷ at.done;
  whole = at.whole ∙ ap (λ l. l ++ at.done) e ∙ append_assoc before (token ∷ []) at.done;
  built = built_on at.built step;
}

pub built_for : {token same : Token} {next number : ℕ} {old new : List GlobState} → token ≡ same
    → IsBuilt (same ∷ []) next old new number → IsBuilt (token ∷ []) next old new number
built_for {token} {same} {next} {number} {old} {new} e b = subst (λ t. IsBuilt (t ∷ []) next old new number) (sym e) b

pub built_over_same : {some same : List (List Token)} {next number : ℕ} {old new : List GlobState} → some ≡ same
    → IsBuiltOver some next old new number → IsBuiltOver same next old new number
built_over_same {some} {same} {next} {number} {old} {new} e b = subst (λ l. IsBuiltOver l next old new number) e b
