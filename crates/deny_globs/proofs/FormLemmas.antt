-- The forms of `**` as plainer tokens, and the alternatives one by one.
use Rattle.std.proofs.Common.{◌≡◌, ℕ, List, [], ◌∷◌, ◌++◌, refl, sym, ap, subst, inl, inr, ◌∙◌, rules, append_assoc}
use Rattle.std.specs.Prelude.{◌⊎◌}
use Rattle.deny_globs.specs.declared.token.Token.{Token}
use Rattle.deny_globs.specs.declared.token.Token.TheVariants.{Character, AnyText, LeadingFolders, TrailingPath}
use Rattle.deny_globs.specs.declared.token.Token.TheVariants.{MiddleFolders, Alternatives}
use Rattle.deny_globs.specs.declared.token.Token.TheOpen.{Token-F}
use Rattle.deny_globs.specs.declared.token.Token.TheViews.{out-Token, outs-Character, outs-AnyCharacter, outs-OneOf}
use Rattle.deny_globs.specs.declared.token.Token.TheViews.{outs-AnyText, outs-LeadingFolders, outs-TrailingPath}
use Rattle.deny_globs.specs.declared.token.Token.TheViews.{outs-MiddleFolders, outs-Alternatives}
use Rattle.deny_globs.specs.Characters.{slash}
use Rattle.deny_globs.specs.private.Compiled.{the_first, another}
use Rattle.deny_globs.specs.private.Compiled.{OneFits}
use Rattle.deny_globs.specs.Fits.{IsText, itself, any_character, member, any_text, at_the_start, below_the_start}
use Rattle.deny_globs.specs.Fits.{at_the_end, one_slash, between_slashes, alternative, IsTextOfOne, first, later, Fits}
use Rattle.deny_globs.proofs.FitsLemmas.{split_first, fits_joined, split_list, fits_list, character_takes}

pub above_fits : (rest : List Token) (cs : List ℕ) → Fits rest cs ⊎ Fits (AnyText ∷ Character slash ∷ rest) cs
    → Fits (LeadingFolders ∷ rest) cs
above_fits rest cs (inl f) = fits_joined [] cs refl at_the_start f
above_fits rest cs (inr f) =
    let a = split_first f in
    let b = split_first a.fits in
    let t = (character_takes slash).taken_of_text b.prefix b.is_text in
    let s : t.0 ≡ slash = sym (search (rules, t.2)) in
    let prefix : b.prefix ≡ slash ∷ [] = t.1 ∙ ap (λ c. c ∷ []) s in
    fits_joined (a.prefix ++ slash ∷ []) b.rest
    (a.whole ∙ ap (λ l. a.prefix ++ l) (b.whole ∙ ap (λ l. l ++ b.rest) prefix)
    ∙ sym (append_assoc a.prefix (slash ∷ []) b.rest))
    (below_the_start a.prefix) b.fits

above_of : (rest : List Token) (prefix back : List ℕ) → IsText LeadingFolders prefix → Fits rest back
    → Fits rest (prefix ++ back) ⊎ Fits (AnyText ∷ Character slash ∷ rest) (prefix ++ back)
above_of rest prefix back at_the_start f = inl f
above_of rest prefix back (below_the_start cs) f =
    inr (fits_joined cs (slash ∷ back) (append_assoc cs (slash ∷ []) back) (any_text cs)
    (fits_joined (slash ∷ []) back refl (itself slash) f))

pub above_from_fits : (rest : List Token) (cs : List ℕ) → Fits (LeadingFolders ∷ rest) cs
    → Fits rest cs ⊎ Fits (AnyText ∷ Character slash ∷ rest) cs
above_from_fits rest cs f =
    let s = split_first f in
    subst (λ ds. Fits rest ds ⊎ Fits (AnyText ∷ Character slash ∷ rest) ds) (sym s.whole)
    (above_of rest s.prefix s.rest s.is_text s.fits)

pub trailing_fits : (rest : List Token) (cs : List ℕ) → Fits (Character slash ∷ AnyText ∷ rest) cs
    → Fits (TrailingPath ∷ rest) cs
trailing_fits rest cs f =
    let a = split_first f in
    let b = split_first a.fits in
    let t = (character_takes slash).taken_of_text a.prefix a.is_text in
    let s : t.0 ≡ slash = sym (search (rules, t.2)) in
    let prefix : a.prefix ≡ slash ∷ [] = t.1 ∙ ap (λ c. c ∷ []) s in
    fits_joined (slash ∷ b.prefix) b.rest (a.whole ∙ ap (λ l. l ++ a.rest) prefix ∙ ap (λ l. slash ∷ l) b.whole)
    (at_the_end b.prefix) b.fits

trailing_of : (rest : List Token) (prefix back : List ℕ) → IsText TrailingPath prefix → Fits rest back
    → Fits (Character slash ∷ AnyText ∷ rest) (prefix ++ back)
trailing_of rest prefix back (at_the_end cs) f = fits_joined (slash ∷ []) (cs ++ back) refl (itself slash)
    (fits_joined cs back refl (any_text cs) f)

pub trailing_from_fits : (rest : List Token) (cs : List ℕ) → Fits (TrailingPath ∷ rest) cs
    → Fits (Character slash ∷ AnyText ∷ rest) cs
trailing_from_fits rest cs f =
    let s = split_first f in
    subst (λ ds. Fits (Character slash ∷ AnyText ∷ rest) ds) (sym s.whole)
    (trailing_of rest s.prefix s.rest s.is_text s.fits)

slash_then : (prefix : List ℕ) → IsText LeadingFolders prefix → IsText MiddleFolders (slash ∷ prefix)
slash_then prefix at_the_start = one_slash
slash_then prefix (below_the_start cs) = between_slashes cs

pub middle_fits : (rest : List Token) (cs : List ℕ) → Fits (Character slash ∷ LeadingFolders ∷ rest) cs
    → Fits (MiddleFolders ∷ rest) cs
middle_fits rest cs f =
    let a = split_first f in
    let b = split_first a.fits in
    let t = (character_takes slash).taken_of_text a.prefix a.is_text in
    let s : t.0 ≡ slash = sym (search (rules, t.2)) in
    let prefix : a.prefix ≡ slash ∷ [] = t.1 ∙ ap (λ c. c ∷ []) s in
    fits_joined (slash ∷ b.prefix) b.rest (a.whole ∙ ap (λ l. l ++ a.rest) prefix ∙ ap (λ l. slash ∷ l) b.whole)
    (slash_then b.prefix b.is_text) b.fits

middle_of : (rest : List Token) (prefix back : List ℕ) → IsText MiddleFolders prefix → Fits rest back
    → Fits (Character slash ∷ LeadingFolders ∷ rest) (prefix ++ back)
middle_of rest prefix back one_slash f = fits_joined (slash ∷ []) back refl (itself slash)
    (fits_joined [] back refl at_the_start f)
middle_of rest prefix back (between_slashes cs) f =
    fits_joined (slash ∷ []) ((cs ++ slash ∷ []) ++ back) refl (itself slash)
    (fits_joined (cs ++ slash ∷ []) back refl (below_the_start cs) f)

pub middle_from_fits : (rest : List Token) (cs : List ℕ) → Fits (MiddleFolders ∷ rest) cs
    → Fits (Character slash ∷ LeadingFolders ∷ rest) cs
middle_from_fits rest cs f =
    let s = split_first f in
    subst (λ ds. Fits (Character slash ∷ LeadingFolders ∷ rest) ds) (sym s.whole)
    (middle_of rest s.prefix s.rest s.is_text s.fits)

one_fits : (rest : List Token) (alternatives : List (List Token)) (prefix back : List ℕ)
    → IsTextOfOne alternatives prefix → Fits rest back → OneFits rest alternatives (prefix ++ back)
one_fits rest alternatives prefix back (first t) f = the_first (fits_list t f)
one_fits rest alternatives prefix back (later t) f = another (one_fits rest _ prefix back t f)

-- the texts of a token with alternatives, by its alternatives
abbrev OfAlternatives : Token-F Token → List ℕ → Type 0
OfAlternatives (Token-F.Alternatives alternatives) cs = IsTextOfOne alternatives cs
OfAlternatives _ cs = Unit {0}

of_alternatives : {token : Token} {cs : List ℕ} → IsText token cs → OfAlternatives (out-Token token) cs
of_alternatives (itself c) = rw (outs-Character c) tt
of_alternatives (any_character c) = rw outs-AnyCharacter tt
of_alternatives (member class c h) = rw (outs-OneOf class) tt
of_alternatives (any_text cs) = rw outs-AnyText tt
of_alternatives at_the_start = rw outs-LeadingFolders tt
of_alternatives (below_the_start cs) = rw outs-LeadingFolders tt
of_alternatives (at_the_end cs) = rw outs-TrailingPath tt
of_alternatives one_slash = rw outs-MiddleFolders tt
of_alternatives (between_slashes cs) = rw outs-MiddleFolders tt
of_alternatives (alternative {alternatives} t) = rw (outs-Alternatives alternatives) t

text_of_one : (alternatives : List (List Token)) (cs : List ℕ) → IsText (Alternatives alternatives) cs
    → IsTextOfOne alternatives cs
text_of_one alternatives cs t = subst (λ k. OfAlternatives k cs) (outs-Alternatives alternatives) (of_alternatives t)

pub one_from_fits : (rest : List Token) (alternatives : List (List Token)) (cs : List ℕ)
    → Fits (Alternatives alternatives ∷ rest) cs → OneFits rest alternatives cs
one_from_fits rest alternatives cs f =
    let s = split_first f in
    subst (λ ds. OneFits rest alternatives ds) (sym s.whole)
    (one_fits rest alternatives s.prefix s.rest (text_of_one alternatives s.prefix s.is_text) s.fits)

record OneSplit (rest : List Token) (alternatives : List (List Token)) (cs : List ℕ) : Type 0 where
  pub prefix : List ℕ
  pub back : List ℕ
  pub whole : cs ≡ prefix ++ back
  pub is_text : IsTextOfOne alternatives prefix
  pub fits : Fits rest back

split_one : (rest : List Token) (alternatives : List (List Token)) (cs : List ℕ) → OneFits rest alternatives cs
    → OneSplit rest alternatives cs
split_one rest alternatives cs (the_first {tokens} f) =
    let s = split_list tokens rest cs f in
    record { prefix = s.prefix; back = s.rest; whole = s.whole; is_text = first s.fits_first; fits = s.fits }
split_one rest alternatives cs (another o) =
    let s = split_one rest _ cs o in
    record { prefix = s.prefix; back = s.back; whole = s.whole; is_text = later s.is_text; fits = s.fits }

pub fits_from_one : (rest : List Token) (alternatives : List (List Token)) (cs : List ℕ) → OneFits rest alternatives cs
    → Fits (Alternatives alternatives ∷ rest) cs
fits_from_one rest alternatives cs o =
    let s = split_one rest alternatives cs o in fits_joined s.prefix s.back s.whole (alternative s.is_text) s.fits

pub none_fits : (rest : List Token) (cs : List ℕ) → OneFits rest [] cs → ⊥
none_fits rest cs o = elim o [ ]

pub one_of_more : (rest : List Token) (some : List (List Token)) (tokens : List Token) (cs : List ℕ)
    → OneFits rest some cs ⊎ Fits (tokens ++ rest) cs → OneFits rest (some ++ tokens ∷ []) cs
one_of_more rest [] tokens cs (inl o) = absurd (none_fits rest cs o)
one_of_more rest [] tokens cs (inr f) = the_first f
one_of_more rest (some ∷ more) tokens cs (inl (the_first f)) = the_first f
one_of_more rest (some ∷ more) tokens cs (inl (another o)) = another (one_of_more rest more tokens cs (inl o))
one_of_more rest (some ∷ more) tokens cs (inr f) = another (one_of_more rest more tokens cs (inr f))

next_of : {A B C : Type 0} → (A → C) → A ⊎ B → C ⊎ B
next_of f (inl a) = inl (f a)
next_of f (inr b) = inr b

pub more_of_one : (rest : List Token) (some : List (List Token)) (tokens : List Token) (cs : List ℕ)
    → OneFits rest (some ++ tokens ∷ []) cs → OneFits rest some cs ⊎ Fits (tokens ++ rest) cs
more_of_one rest [] tokens cs (the_first f) = inr f
more_of_one rest [] tokens cs (another o) = absurd (none_fits rest cs o)
more_of_one rest (some ∷ more) tokens cs (the_first f) = inl (the_first f)
more_of_one rest (some ∷ more) tokens cs (another o) = next_of another (more_of_one rest more tokens cs o)
