-- Texts of tokens, split into their parts.
use Rattle.std.proofs.Common.{◌≡◌, ℕ, List, [], ◌∷◌, ◌++◌, Bool, true, false, IsTrue, refl, sym, ap, subst, ◌∙◌}
use Rattle.std.proofs.Common.{append_assoc, rules}
use Rattle.std.specs.Prelude.{nat_eq}
use Rattle.deny_globs.specs.declared.token.CharacterClass.{CharacterClass}
use Rattle.deny_globs.specs.Class.{class_takes}
use Rattle.deny_globs.specs.declared.token.Token.{Token}
use Rattle.deny_globs.specs.declared.token.Token.TheVariants.{Character, AnyCharacter, OneOf}
use Rattle.deny_globs.specs.Fits.{IsText, itself, any_character, member, Fits, nothing, joined}

-- whether a token of one character takes the character
abbrev pub takes : Token → ℕ → Bool
takes (Character d) c = nat_eq d c
takes AnyCharacter c = true
takes (OneOf class) c = class_takes class c
takes _ c = false

-- The text of the first token, and that of the others.
pub record Split (token : Token) (tokens : List Token) (cs : List ℕ) : Type 0 where
  pub prefix : List ℕ
  pub rest : List ℕ
  pub whole : cs ≡ prefix ++ rest
  pub is_text : IsText token prefix
  pub fits : Fits tokens rest

pub split_first : {token : Token} {tokens : List Token} {cs : List ℕ} → Fits (token ∷ tokens) cs → Split token tokens cs
split_first (joined prefix rest t f) = record { prefix = prefix; rest = rest; whole = refl; is_text = t; fits = f }

-- the texts of a token and of the tokens after it fit together
pub fits_joined : {token : Token} {tokens : List Token} {cs : List ℕ} (prefix rest : List ℕ) → cs ≡ prefix ++ rest
    → IsText token prefix → Fits tokens rest → Fits (token ∷ tokens) cs
fits_joined {token} {tokens} {cs} prefix rest e t f = subst (λ ds. Fits (token ∷ tokens) ds) (sym e)
    (joined prefix rest t f)

pub nothing_fits : {cs : List ℕ} → Fits [] cs → cs ≡ []
nothing_fits nothing = refl

-- The texts of two lists of tokens.
pub record SplitList (first_tokens tokens : List Token) (cs : List ℕ) : Type 0 where
  pub prefix : List ℕ
  pub rest : List ℕ
  pub whole : cs ≡ prefix ++ rest
  pub fits_first : Fits first_tokens prefix
  pub fits : Fits tokens rest

pub split_list : (first_tokens tokens : List Token) (cs : List ℕ) → Fits (first_tokens ++ tokens) cs
    → SplitList first_tokens tokens cs
split_list [] tokens cs f = record { prefix = []; rest = cs; whole = refl; fits_first = nothing; fits = f }
split_list (token ∷ more) tokens cs f =
    let s = split_first f in
    let l = split_list more tokens s.rest s.fits in
    record {
      prefix = s.prefix ++ l.prefix;
      rest = l.rest;
      whole = s.whole ∙ ap (λ ds. s.prefix ++ ds) l.whole ∙ sym (append_assoc s.prefix l.prefix l.rest);
      fits_first = joined s.prefix l.prefix s.is_text l.fits_first;
      fits = l.fits;
    }

pub fits_list : {first_tokens tokens : List Token} {prefix rest : List ℕ} → Fits first_tokens prefix → Fits tokens rest
    → Fits (first_tokens ++ tokens) (prefix ++ rest)
fits_list nothing g = g
fits_list {tokens = tokens} {rest = rest} (joined a b t f) g =
    fits_joined a (b ++ rest) (append_assoc a b rest) t (fits_list f g)

-- The token has texts of one character, those that the test takes.
pub record TakesOne (token : Token) : Type 0 where
  pub text_of_taken : (c : ℕ) → IsTrue (takes token c) → IsText token (c ∷ [])
  pub taken_of_text : (cs : List ℕ) → IsText token cs → (c : ℕ) × (cs ≡ c ∷ []) × IsTrue (takes token c)

same_character : (d : ℕ) → IsTrue (nat_eq d d)
same_character d = search rules

pub character_takes : (d : ℕ) → TakesOne (Character d)
character_takes d = record {
  text_of_taken = λ c h. let e : d ≡ c = search rules in subst (λ x. IsText (Character d) (x ∷ [])) e (itself d);
  taken_of_text = taken;
} where
  taken : (cs : List ℕ) → IsText (Character d) cs → (c : ℕ) × (cs ≡ c ∷ []) × IsTrue (nat_eq d c)
  taken cs (itself c) = (c, refl, same_character c)

pub any_character_takes : TakesOne AnyCharacter
any_character_takes = record {
  text_of_taken = λ c h. any_character c;
  taken_of_text = taken;
} where
  taken : (cs : List ℕ) → IsText AnyCharacter cs → (c : ℕ) × (cs ≡ c ∷ []) × IsTrue true
  taken cs (any_character c) = (c, refl, refl)

pub class_takes_one : (class : CharacterClass) → TakesOne (OneOf class)
class_takes_one class = record {
  text_of_taken = λ c h. member class c h;
  taken_of_text = taken;
} where
  taken : (cs : List ℕ) → IsText (OneOf class) cs → (c : ℕ) × (cs ≡ c ∷ []) × IsTrue (class_takes class c)
  taken cs (member k c h) = (c, refl, h)
