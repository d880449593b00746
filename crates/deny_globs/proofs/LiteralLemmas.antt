-- The literal characters that tokens begin and end with, token by token.
use Rattle.std.proofs.Common.{◌≡◌, ℕ, zero, suc, ◌+◌, ◌<◌, List, [], ◌∷◌, ◌++◌, length, drop, get_or, reverse, sym, ap}
use Rattle.std.proofs.Common.{subst, ◌∙◌, append_assoc, arith, rules}
use Rattle.std.proofs.lemmas.List.{reverse-append}
use Rattle.deny_globs.specs.declared.token.Token.{Token}
use Rattle.deny_globs.specs.declared.token.Token.TheVariants.{Character}
use Rattle.deny_globs.specs.Fits.{Fits}
use Rattle.deny_globs.specs.private.Literals.{BeginsAll, EndsAll}
use Rattle.deny_globs.proofs.FitsLemmas.{split_first, split_list, nothing_fits, character_takes}

drop_suc : (tokens : List Token) (k : ℕ) {token : Token} {c : ℕ} → k < length tokens → token ≡ get_or tokens k token
    → token ≡ Character c → drop k tokens ≡ Character c ∷ drop (suc k) tokens
drop_suc [] k p is e = absurd (omega (arith, p))
drop_suc (t ∷ ts) zero p is e = ap (λ x. x ∷ ts) (sym is ∙ e)
drop_suc (t ∷ ts) (suc k) p is e = drop_suc ts k (omega (arith, p)) is e

pub drop_token : (tokens : List Token) (k : ℕ) {token : Token} {c : ℕ} → k < length tokens
    → token ≡ get_or tokens k token
    → token ≡ Character c → drop k tokens ≡ Character c ∷ drop (k + 1) tokens
drop_token tokens k {token} {c} p is e = subst (λ n. drop k tokens ≡ Character c ∷ drop n tokens) one
    (drop_suc tokens k p is e) where
      one : suc k ≡ k + 1
      one = omega arith

-- The path begins with the literal, and the tokens left fit the rest of it.
pub record IsBegunFor (literal : List ℕ) (left : List Token) (path : List ℕ) : Type 0 where
  pub rest : List ℕ
  pub whole : path ≡ literal ++ rest
  pub fits : Fits left rest

pub record IsReadTo (tokens left : List Token) (literal : List ℕ) : Type 0 where
  pub each : (path : List ℕ) → Fits tokens path → IsBegunFor literal left path

pub read_none : (tokens : List Token) {literal : List ℕ} → literal ≡ [] → IsReadTo tokens tokens literal
read_none tokens {literal} e = record {
  each = λ path f. record { rest = path; whole = ap (λ w. w ++ path) (sym e); fits = f };
}

pub read_one : {tokens left behind : List Token} {literal after : List ℕ} {c : ℕ} → left ≡ Character c ∷ behind
    → after ≡ literal ++ c ∷ [] → IsReadTo tokens left literal → IsReadTo tokens behind after
read_one {tokens} {left} {behind} {literal} {after} {c} e more read = record { each = one } where
  one : (path : List ℕ) → Fits tokens path → IsBegunFor after behind path
  one path f =
      let old = read.each path f in
      let s = split_first (subst (λ ts. Fits ts old.rest) e old.fits) in
      let t = (character_takes c).taken_of_text s.prefix s.is_text in
      let is : t.0 ≡ c = sym (search (rules, t.2)) in
      let prefix : s.prefix ≡ c ∷ [] = t.1 ∙ ap (λ d. d ∷ []) is in
      record {
        rest = s.rest;
        whole = old.whole ∙ ap (λ l. literal ++ l) (s.whole ∙ ap (λ l. l ++ s.rest) prefix)
            ∙ sym (append_assoc literal (c ∷ []) s.rest) ∙ ap (λ w. w ++ s.rest) (sym more);
        fits = s.fits;
      }

pub begins_all : {tokens left : List Token} {literal : List ℕ} → IsReadTo tokens left literal → BeginsAll tokens literal
begins_all read path f = let r = read.each path f in record { rest = r.rest; whole = r.whole }

-- The path ends with the literal, and the tokens left fit the rest of it.

pub record IsEndedFor (literal : List ℕ) (left : List Token) (path : List ℕ) : Type 0 where
  pub rest : List ℕ
  pub whole : reverse path ≡ literal ++ reverse rest
  pub fits : Fits left rest

pub record IsReadBackTo (tokens left : List Token) (literal : List ℕ) : Type 0 where
  pub each : (path : List ℕ) → Fits tokens path → IsEndedFor literal left path

pub back_one : {tokens left before : List Token} {token : Token} {literal after : List ℕ} {c : ℕ}
    → left ≡ before ++ token ∷ [] → token ≡ Character c → after ≡ literal ++ c ∷ [] → IsReadBackTo tokens left literal
    → IsReadBackTo tokens before after
back_one {tokens} {left} {before} {token} {literal} {after} {c} e own more read = record { each = one } where
  whole : left ≡ before ++ Character c ∷ []
  whole = e ∙ ap (λ t. before ++ t ∷ []) own

  one : (path : List ℕ) → Fits tokens path → IsEndedFor after before path
  one path f =
      let old = read.each path f in
      let l = split_list before (Character c ∷ []) old.rest (subst (λ ts. Fits ts old.rest) whole old.fits) in
      let s = split_first l.fits in
      let t = (character_takes c).taken_of_text s.prefix s.is_text in
      let is : t.0 ≡ c = sym (search (rules, t.2)) in
      let prefix : s.prefix ≡ c ∷ [] = t.1 ∙ ap (λ d. d ∷ []) is in
      let last : l.rest ≡ c ∷ [] = s.whole ∙ ap (λ x. x ++ s.rest) prefix ∙ ap (λ x. c ∷ x) (nothing_fits s.fits) in
      let back : reverse old.rest ≡ c ∷ reverse l.prefix =
      ap reverse (l.whole ∙ ap (λ x. l.prefix ++ x) last) ∙ reverse-append l.prefix (c ∷ []) in
      record {
        rest = l.prefix;
        whole = old.whole ∙ ap (λ x. literal ++ x) back ∙ sym (append_assoc literal (c ∷ []) (reverse l.prefix))
            ∙ ap (λ w. w ++ reverse l.prefix) (sym more);
        fits = l.fits_first;
      }

pub ends_all : {tokens left : List Token} {literal : List ℕ} → IsReadBackTo tokens left literal → EndsAll tokens literal
ends_all read path f = let r = read.each path f in record { rest = reverse r.rest; whole = r.whole }
