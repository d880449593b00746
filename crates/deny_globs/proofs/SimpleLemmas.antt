-- A simple glob fits exactly the paths with its extension after their last `.`.
use Rattle.std.proofs.Common.{◌≡◌, ◌≢◌, ℕ, zero, suc, ◌+◌, ◌<◌, List, [], ◌∷◌, ◌++◌, length, take, drop, get_or, Bool}
use Rattle.std.proofs.Common.{true, false, IsTrue, refl, sym, ap, subst, ◌∙◌, arith, rules}
use Rattle.std.specs.Prelude.{◌↔◌, Option, Some, None, ◌==◌, ◌&&◌, not, nat_eq, if◌then◌else◌}
use Rattle.std.specs.List.{list_all}
use Rattle.std.specs.Char.{is_ascii_alphanumeric}
use Rattle.std.proofs.lemmas.Bool.{false≢true}
use Rattle.deny_base_lists.proofs.Options.{some_inj}
use Rattle.deny_globs.specs.declared.token.Token.{Token}
use Rattle.deny_globs.specs.declared.token.Token.TheVariants.{Character, AnyText}
use Rattle.deny_globs.specs.declared.piece.Piece.{Piece}
use Rattle.deny_globs.specs.declared.piece.Piece.TheVariants.{Token as Whole}
use Rattle.deny_globs.specs.Characters.{slash, star, dot, question_mark, backslash, open_bracket, comma, open_brace}
use Rattle.deny_globs.specs.Characters.{close_brace, is_plain}
use Rattle.deny_globs.specs.Fits.{any_text, Fits, nothing, joined, itself}
use Rattle.deny_globs.specs.private.Index.{or_else, behind_last_dot}
use Rattle.deny_globs.specs.Pieces.{stars, Spells, next, itself as plain_piece, nothing as no_pieces}
use Rattle.deny_globs.specs.Sets.{is_simple, extension_of}
use Rattle.deny_globs.specs.Tree.{IsGlob, AreTokens, token, nothing as no_tokens}
use Rattle.deny_globs.proofs.ClassLemmas.{and_true, both_true}
use Rattle.deny_globs.proofs.FitsLemmas.{split_first, fits_joined, nothing_fits, character_takes}
use Rattle.deny_globs.proofs.Once.{glob_once}

same_is : (a b : ℕ) → IsTrue (nat_eq a b) → a ≡ b
same_is a b h = search rules

other_is : (a b : ℕ) → a ≢ b → nat_eq a b ≡ false
other_is a b apart = go (nat_eq a b) refl where
  go : (test : Bool) → nat_eq a b ≡ test → nat_eq a b ≡ false
  go true e = absurd (apart (same_is a b e))
  go false e = e

-- the parts of a simple glob
record SimpleParts (characters : List ℕ) : Type 0 where
  extension : List ℕ
  whole : characters ≡ star ∷ dot ∷ extension
  letters : IsTrue (list_all is_ascii_alphanumeric extension)

simple_parts : (characters : List ℕ) → is_simple characters ≡ true → SimpleParts characters
simple_parts [] e = cc
simple_parts (a ∷ []) e = cc
simple_parts (a ∷ b ∷ []) e = cc
simple_parts (a ∷ b ∷ c ∷ cs) e =
    let one = both_true (a == star) ((b == dot) && list_all is_ascii_alphanumeric (c ∷ cs)) e in
    let two = both_true (b == dot) (list_all is_ascii_alphanumeric (c ∷ cs)) one.1 in
    record {
      extension = c ∷ cs;
      whole = ap (λ x. x ∷ b ∷ c ∷ cs) (same_is a star one.0) ∙ ap (λ x. star ∷ x ∷ c ∷ cs) (same_is b dot two.0);
      letters = two.1;
    }

-- a letter or a digit is none of the special characters
other_char : (c d : ℕ) → is_ascii_alphanumeric d ≡ false → IsTrue (is_ascii_alphanumeric c) → nat_eq c d ≡ false
other_char c d no_letter h = other_is c d
    (λ same. false≢true (sym no_letter ∙ subst (λ k. is_ascii_alphanumeric k ≡ true) same h))

not_is : {b : Bool} → b ≡ false → IsTrue (not b)
not_is e = ap not e

plain_letter : (c : ℕ) → IsTrue (is_ascii_alphanumeric c) → IsTrue (is_plain c)
plain_letter c h =
    and_true _ _ (not_is (other_char c question_mark refl h))
    (and_true _ _ (not_is (other_char c star refl h))
    (and_true _ _ (not_is (other_char c backslash refl h))
    (and_true _ _ (not_is (other_char c open_bracket refl h))
    (and_true _ _ (not_is (other_char c comma refl h))
    (and_true _ _ (not_is (other_char c open_brace refl h)) (not_is (other_char c close_brace refl h)))))))

letter_pieces : List ℕ → List Piece
letter_pieces [] = []
letter_pieces (c ∷ cs) = Whole (Character c) ∷ letter_pieces cs

letter_tokens : List ℕ → List Token
letter_tokens [] = []
letter_tokens (c ∷ cs) = Character c ∷ letter_tokens cs

spells_letters : (at : ℕ) (cs : List ℕ) → IsTrue (list_all is_ascii_alphanumeric cs)
    → Spells at cs [] (letter_pieces cs)
unfolding letter_pieces
spells_letters at [] h = no_pieces
spells_letters at (c ∷ cs) h =
    let b = both_true (is_ascii_alphanumeric c) (list_all is_ascii_alphanumeric cs) h in
    next (c ∷ []) cs (plain_piece (plain_letter c b.0) (not_is (other_char c slash refl b.0)))
    (spells_letters (at + 1) cs b.1)

tree_of_letters : (cs : List ℕ) → AreTokens 0 (letter_pieces cs) (letter_tokens cs)
unfolding letter_pieces letter_tokens
tree_of_letters [] = no_tokens
tree_of_letters (c ∷ cs) = token (tree_of_letters cs)

simple_glob : (extension : List ℕ) → IsTrue (list_all is_ascii_alphanumeric extension)
    → IsGlob (star ∷ dot ∷ extension) (AnyText ∷ Character dot ∷ letter_tokens extension)
simple_glob extension h = record {
  pieces = Whole AnyText ∷ Whole (Character dot) ∷ letter_pieces extension;
  spelled = next (star ∷ []) (dot ∷ extension) (stars refl (omega arith) refl refl)
      (next (dot ∷ []) extension (plain_piece refl refl) (spells_letters 2 extension h));
  tree = token (token (tree_of_letters extension));
}

letters_fit : (cs path : List ℕ) → Fits (letter_tokens cs) path → path ≡ cs
unfolding letter_tokens
letters_fit [] path f = nothing_fits f
letters_fit (c ∷ cs) path f =
    let s = split_first f in
    let t = (character_takes c).taken_of_text s.prefix s.is_text in
    s.whole ∙ (ap (λ l. l ++ s.rest) t.1
    ∙ (ap (λ l. t.0 ∷ l) (letters_fit cs s.rest s.fits) ∙ ap (λ x. x ∷ cs) (sym (same_is c t.0 t.2))))

fit_letters : (cs : List ℕ) → Fits (letter_tokens cs) cs
unfolding letter_tokens
fit_letters [] = nothing
fit_letters (c ∷ cs) = joined (c ∷ []) cs (itself c) (fit_letters cs)

record EndsIn (name path : List ℕ) : Type 0 where
  prefix : List ℕ
  whole : path ≡ prefix ++ dot ∷ name

ends_to : {name path : List ℕ} → Fits (AnyText ∷ Character dot ∷ letter_tokens name) path → EndsIn name path
ends_to {name} {path} f =
    let s = split_first f in
    let d = split_first s.fits in
    let t = (character_takes dot).taken_of_text d.prefix d.is_text in
    record {
      prefix = s.prefix;
      whole = s.whole ∙ ap (λ l. s.prefix ++ l) (d.whole
          ∙ (ap (λ l. l ++ d.rest) t.1
          ∙ (ap (λ l. t.0 ∷ l) (letters_fit name d.rest d.fits) ∙ ap (λ x. x ∷ name) (sym (same_is dot t.0 t.2)))));
    }

ends_from : {name path : List ℕ} → EndsIn name path → Fits (AnyText ∷ Character dot ∷ letter_tokens name) path
ends_from {name} {path} e = fits_joined e.prefix (dot ∷ name) e.whole (any_text e.prefix)
    (joined (dot ∷ []) name (itself dot) (fit_letters name))

letters_no_dot : (cs : List ℕ) → IsTrue (list_all is_ascii_alphanumeric cs) → behind_last_dot cs ≡ None
letters_no_dot [] h = refl
letters_no_dot (c ∷ cs) h =
    let b = both_true (is_ascii_alphanumeric c) (list_all is_ascii_alphanumeric cs) h in
    ap (λ o. or_else o (if c == dot then Some cs else None)) (letters_no_dot cs b.1)
    ∙ ap (λ t. if t then Some cs else None) (other_char c dot refl b.0)

last_of_prefix : (prefix name : List ℕ) → behind_last_dot name ≡ None
    → behind_last_dot (prefix ++ dot ∷ name) ≡ Some name
last_of_prefix [] name none = ap (λ o. or_else o (Some name)) none
last_of_prefix (c ∷ prefix) name none = ap (λ o. or_else o (if c == dot then Some (prefix ++ dot ∷ name) else None))
    (last_of_prefix prefix name none)

prefix_first : (c : ℕ) (cs : List ℕ) {name : List ℕ} (test : Bool) → nat_eq c dot ≡ test
    → (if test then Some cs else None) ≡ Some name → EndsIn name (c ∷ cs)
prefix_first c cs true is h = record {
  prefix = [];
  whole = ap (λ x. x ∷ cs) (same_is c dot is)
      ∙ ap (λ l. dot ∷ l) (some_inj h);
}
prefix_first c cs false is h = cc

prefix_step : (c : ℕ) (cs : List ℕ) {name : List ℕ} → (behind_last_dot cs ≡ Some name → EndsIn name cs)
    → (o : Option (List ℕ)) → behind_last_dot cs ≡ o →
    or_else o (if nat_eq c dot then Some cs else None) ≡ Some name → EndsIn name (c ∷ cs)
prefix_step c cs earlier (Some found) is h = let later = earlier (is ∙ h) in
    record { prefix = c ∷ later.prefix; whole = ap (λ l. c ∷ l) later.whole }
prefix_step c cs earlier None is h = prefix_first c cs (nat_eq c dot) refl h

prefix_of_last : (path : List ℕ) {name : List ℕ} → behind_last_dot path ≡ Some name → EndsIn name path
prefix_of_last [] e = cc
prefix_of_last (c ∷ cs) e = prefix_step c cs (λ h. prefix_of_last cs h) (behind_last_dot cs) refl e

pub simple_fits : {characters path : List ℕ} {tokens : List Token} → IsGlob characters tokens
    → is_simple characters ≡ true → Fits tokens path ↔ (behind_last_dot path ≡ Some (extension_of characters))
simple_fits {characters} {path} {tokens} glob simple = (
  λ f. let e = ends_to (subst (λ ts. Fits ts path) same f) in ap behind_last_dot e.whole
      ∙ (last_of_prefix e.prefix parts.extension (letters_no_dot parts.extension parts.letters) ∙ ap Some (sym named)),
  λ e. subst (λ ts. Fits ts path) (sym same) (ends_from (prefix_of_last path (e ∙ ap Some named))),
) where
  parts : SimpleParts characters
  parts = simple_parts characters simple

  own : List Token
  own = AnyText ∷ Character dot ∷ letter_tokens parts.extension

  same : tokens ≡ AnyText ∷ Character dot ∷ letter_tokens parts.extension
  same = glob_once characters (AnyText ∷ Character dot ∷ letter_tokens parts.extension) tokens
      (subst (λ cs. IsGlob cs (AnyText ∷ Character dot ∷ letter_tokens parts.extension)) (sym parts.whole)
      (simple_glob parts.extension parts.letters)) glob

  named : extension_of characters ≡ parts.extension
  named = ap (drop 2) parts.whole

-- ---- the search for the last `.`, from the end of the path

drop_next : (path : List ℕ) (k : ℕ) (d : ℕ) → k < length path → drop k path ≡ get_or path k d ∷ drop (suc k) path
drop_next [] k d p = absurd (omega arith)
drop_next (c ∷ cs) zero d p = refl
drop_next (c ∷ cs) (suc k) d p = drop_next cs k d (omega (arith, p))

cut_at : (path : List ℕ) (k : ℕ) → path ≡ take k path ++ drop k path
cut_at [] zero = refl
cut_at [] (suc k) = refl
cut_at (c ∷ cs) zero = refl
cut_at (c ∷ cs) (suc k) = ap (λ l. c ∷ l) (cut_at cs k)

pub found_dot : (path : List ℕ) (k index d : ℕ) → suc k ≡ index → k < length path → nat_eq (get_or path k d) dot ≡ true
    → behind_last_dot (drop index path) ≡ None → behind_last_dot path ≡ Some (drop index path)
found_dot path k index d e p is none =
    let last : behind_last_dot (drop (suc k) path) ≡ None = subst (λ n. behind_last_dot (drop n path) ≡ None) (sym e)
    none in
    ap behind_last_dot (cut_at path k
    ∙ ap (λ l. take k path ++ l) (drop_next path k d p
    ∙ ap (λ c. c ∷ drop (suc k) path) (same_is (get_or path k d) dot is))) ∙
    (last_of_prefix (take k path) (drop (suc k) path) last ∙ ap (λ n. Some (drop n path)) e)

pub no_dot_yet : (path : List ℕ) (k index d : ℕ) → suc k ≡ index → k < length path
    → nat_eq (get_or path k d) dot ≡ false → behind_last_dot (drop index path) ≡ None
    → behind_last_dot (drop k path) ≡ None
no_dot_yet path k index d e p isnt none =
    let last : behind_last_dot (drop (suc k) path) ≡ None = subst (λ n. behind_last_dot (drop n path) ≡ None) (sym e)
    none in
    ap behind_last_dot (drop_next path k d p) ∙
    (ap (λ o. or_else o (if nat_eq (get_or path k d) dot then Some (drop (suc k) path) else None)) last ∙
    ap (λ t. if t then Some (drop (suc k) path) else None) isnt)

pub no_dot_at_end : (path : List ℕ) → behind_last_dot (drop (length path) path) ≡ None
no_dot_at_end [] = refl
no_dot_at_end (c ∷ cs) = no_dot_at_end cs
