-- Prefixes of texts, and the parts of a query.
use Rattle.std.proofs.Common.{◌≡◌, ◌<◌, ℕ, List, [], ◌∷◌, Bool, true, false, true≢false, Option, Some, None, Ok, drop}
use Rattle.std.proofs.Common.{refl, sym, ap, ◌∙◌, subst}
use Rattle.std.specs.Prelude.{◌==◌, All, cond, IfSome, MatchOption, filter, is_some, option_copied, option_map}
use Rattle.std.specs.Borrow.{Bor}
use Rattle.std.specs.List.{starts_with}
use Rattle.std.specs.Str.{IsUtf8}
use Rattle.std.specs.Str.Pattern.{FindsTextPrefix, StripsPrefix}
use Rattle.std.proofs.lemmas.Bool.Decides.{Decides-eqb}
use Rattle.std.proofs.lemmas.List.Elements.{All-nil, All-cons, All-head, All-tail, All-map, All-filter, All-take}
use Rattle.std.proofs.lemmas.List.Elements.{All-drop, All-weaker}
use Rattle.std.proofs.lemmas.Slice.Eq.{starts_is}
use Rattle.std.proofs.lemmas.Str.{is_utf8-from_IsUtf8}
use Rattle.deny_base_lists.proofs.Texts.{is_utf8-false}
use Rattle.std.proofs.lemmas.Str.Pattern.{starts_text}
use Rattle.form_urlencoded.specs.Form.{ampersand, decode, is_nonempty, onto_first, raw_pairs, split, split_pair}
use Rattle.percent_encoding.proofs.AsciiSetLemmas.{ascii_from_kept}
use Rattle.percent_encoding.proofs.PercentLemmas.{percent_encode_unchanged}
use Rattle.percent_encoding.specs.Percent.{IsKept, percent_encode}
use Rattle.percent_encoding.specs.declared.ascii_set.AsciiSet.{AsciiSet}
use Rattle.percent_encoding.specs.declared.DecodeError.{DecodeError}
use Rattle.percent_encoding.specs.declared.DecodeError.TheVariants as error
use Rattle.std.specs.declared.str.Utf8Error.{Utf8Error}
use Rattle.deny_krates_sources.specs.Source.{after, form_text, reference_in, reference_or, spec_of}
use Rattle.url.specs.Parser.{Parsed}
use Rattle.url.specs.Parts.{Parts, IsValid, kind_of, query_set}
use Rattle.url.specs.Setters.{set_fragment}
use Rattle.deny_krates_sources.specs.declared.source.GitSpec.{GitSpec}

pub after_is : (result : Option (Bor (List ℕ))) (prefix text : List ℕ)
    → MatchOption result (FindsTextPrefix prefix text None) (λ x. StripsPrefix (FindsTextPrefix prefix) text x.now)
    → option_copied result ≡ after prefix text
unfolding after
after_is None prefix text lacks = rw (sym (starts_text false prefix text lacks)) refl
after_is (Some x) prefix text strips =
    let begins : starts_with (λ a b. a == b) text prefix ≡ true = (starts_is Decides-eqb text prefix _ refl).1
    (drop strips.0 text) strips.1.1 in
    rw begins (ap (λ t. Some t) (strips.2 ∙ ap (λ n. drop n text) strips.1.0))

pub decoded_is : (part text : List ℕ) → IsUtf8 (decode part) → text ≡ decode part → text ≡ form_text part
unfolding form_text
decoded_is part text utf8 same = rw (is_utf8-from_IsUtf8 _ utf8) same

pub written_is : (part text : List ℕ) → (IsUtf8 (decode part) → ⊥) → text ≡ part → text ≡ form_text part
unfolding form_text
written_is part text isnt same = rw (is_utf8-false (decode part) isnt) same

-- an error of decoding is not that memory ran out
pub no_memory : (fault : DecodeError) (e : Utf8Error) → fault ≡ error.Utf8 e → fault ≡ error.OutOfMemory → ⊥
no_memory fault e one other = differs e (sym one ∙ other)
  where
    differs : (e : Utf8Error) → error.Utf8 e ≡ error.OutOfMemory → ⊥
    differs e same = absurd (cc)

-- the parts of an ASCII query are ASCII
abbrev pub IsSmall : List ℕ → Type 0
IsSmall bytes = All (λ byte. byte < 128) bytes

abbrev pub IsSmallPart : List ℕ × List ℕ → Type 0
IsSmallPart part = IsSmall part.0 × IsSmall part.1

onto_small : (b : ℕ) (pieces : List (List ℕ)) → b < 128 → All IsSmall pieces → All IsSmall (onto_first b pieces)
onto_small b [] small pieces =
    All-cons IsSmall (b ∷ []) [] (All-cons (λ byte. byte < 128) b [] small (All-nil _)) (All-nil _)
onto_small b (piece ∷ pieces) small all =
    All-cons IsSmall (b ∷ piece) pieces
    (All-cons (λ byte. byte < 128) b piece small (All-head IsSmall piece pieces all))
    (All-tail IsSmall piece pieces all)

pieces_small : (query : List ℕ) → IsSmall query → All IsSmall (split ampersand query)
unfolding split
pieces_small [] small = All-cons IsSmall [] [] (All-nil _) (All-nil _)
pieces_small (b ∷ bytes) small =
    by_test (b == ampersand) (pieces_small bytes (All-tail (λ byte. byte < 128) b bytes small))
  where
    by_test : (t : Bool) → All IsSmall (split ampersand bytes)
        → All IsSmall (cond t ([] ∷ split ampersand bytes) (onto_first b (split ampersand bytes)))
    by_test true rest = All-cons IsSmall [] (split ampersand bytes) (All-nil _) rest
    by_test false rest = onto_small b (split ampersand bytes) (All-head (λ byte. byte < 128) b bytes small) rest

pub parts_small : (query : List ℕ) → IsSmall query → All IsSmallPart (raw_pairs query)
unfolding raw_pairs
parts_small query small =
    All-map IsSmallPart split_pair (filter is_nonempty (split ampersand query))
    (All-weaker IsSmall (λ piece. IsSmallPart (split_pair piece))
    (λ piece p. (All-take (λ byte. byte < 128) _ piece p, All-drop (λ byte. byte < 128) _ piece p)) _
    (All-filter is_nonempty IsSmall (split ampersand query) (pieces_small query small)))

-- what a URL keeps in its query is ASCII
pub kept_small : (set : AsciiSet) (query : Option (List ℕ)) (text : List ℕ) → Some text ≡ query
    → IfSome query (All (IsKept set)) → IsSmall text
kept_small set query text is kept =
    let of_text : All (IsKept set) text = subst (λ (q : Option (List ℕ)). IfSome q (All (IsKept set))) (sym is) kept in
    All-weaker (IsKept set) (λ byte. byte < 128) (ascii_from_kept set) text of_text

-- escaping the query of a URL again leaves it as it is
still_kept : (set : AsciiSet) (query : Option (List ℕ)) → IfSome query (All (IsKept set))
    → option_map (percent_encode set) query ≡ query
still_kept set None kept = refl
still_kept set (Some query) kept = ap (λ (q : List ℕ). Some q) (percent_encode_unchanged set query kept)

pub had_none : (url : Parts) (fragment : Option (Bor (List ℕ))) → option_copied fragment ≡ url.fragment
    → is_some fragment ≡ false → url ≡ record url { fragment = None }
had_none url None is none = ap (λ (f : Option (List ℕ)). with_fragment url f) (sym is)
  where
    with_fragment : Parts → Option (List ℕ) → Parts
    with_fragment url f = record url { fragment = f }
had_none url (Some fragment) is none = absurd (true≢false none)

ok_parts : (x y : Parts) → ◌≡◌ {A = Parsed Parts} (Ok x) (Ok y) → x ≡ y
ok_parts x y e = cc

pub has_none : (url bare : Parts) → IsValid url → ◌≡◌ {A = Parsed Parts} (Ok (set_fragment url None)) (Ok bare)
    → bare ≡ record url { fragment = None }
has_none url bare valid set = sym (ok_parts _ bare set) ∙ ap (λ (q : Option (List ℕ)). with_query url q)
    (still_kept (query_set (kind_of url)) url.query valid.query)
  where
    with_query : Parts → Option (List ℕ) → Parts
    with_query url q = record url { query = q; fragment = None }

-- the reference in parts whose first one names it
pub found : (part : List ℕ × List ℕ) (parts : List (List ℕ × List ℕ)) (spec : GitSpec) (value : List ℕ)
    → Some spec ≡ spec_of (form_text part.0) → value ≡ form_text part.1
    → reference_in (part ∷ parts) ≡ record { spec = spec; value = Some value }
unfolding reference_in reference_or
found part parts spec value named is = rw (← named, ← is) refl

pub passed : (part : List ℕ × List ℕ) (parts : List (List ℕ × List ℕ)) → None ≡ spec_of (form_text part.0)
    → reference_in (part ∷ parts) ≡ reference_in parts
unfolding reference_in reference_or
passed part parts none = rw (← none) refl
