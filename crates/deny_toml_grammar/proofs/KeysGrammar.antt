-- A key of the grammar is read, and a key that is read is in the grammar.
use Rattle.std.proofs.Common.{◌≡◌, ℕ, zero, suc, ◌+◌, ◌-◌, ◌≤◌, true, false, ◌||◌, ◌==◌, List, [], ◌∷◌, ◌++◌, length}
use Rattle.std.proofs.Common.{take, drop, Some, None, refl, sym, ap, subst, ◌∙◌, inl, inr, arith, append_assoc}
use Rattle.std.proofs.Common.{length-append}
use Rattle.std.proofs.lemmas.Option.{none-some}
use Rattle.std.proofs.lemmas.Bool.{cases_Bool, and_parts, false≢true}
use Rattle.std.proofs.lemmas.Bool.Decides.{nat_tests}
use Rattle.std.proofs.lemmas.List.{take-append-drop}
use Rattle.std.specs.List.{prefix_len, list_all}
use Rattle.deny_base.specs.declared.span.Span.{Span}
use Rattle.deny_base.specs.declared.span.Spanned.{Spanned}
use Rattle.deny_toml_grammar.specs.declared.parts.Key.{Key}
use Rattle.deny_toml_grammar.specs.Expression.{span_of}
use Rattle.deny_toml_grammar.specs.Lexical.{Read, first, is_space, is_bare, skip_spaces, between}
use Rattle.deny_toml_grammar.specs.private.Reading.{read_map}
use Rattle.deny_toml_grammar.specs.Strings.{one_line}
use Rattle.deny_toml_grammar.specs.private.Strings.{starts_string}
use Rattle.deny_toml_grammar.specs.private.Keys.{simple_key, key_after, quoted_key, bare_with, bare_key}
use Rattle.deny_toml_grammar.specs.GrammarStrings.{AreSpaces, is_delimiter}
use Rattle.deny_toml_grammar.specs.GrammarStrings as strings
use Rattle.deny_toml_grammar.specs.Grammar.{IsPart, IsKey}
use Rattle.deny_toml_grammar.specs.Grammar as grammar
use Rattle.deny_toml_grammar.proofs.LexicalLaws.{split_while-run}
use Rattle.deny_base_lists.proofs.PrefixLemmas.{list_all-take}
use Rattle.deny_toml_grammar.proofs.Blanks.{skip_spaces-run}
use Rattle.deny_toml_grammar.proofs.KeysLaws.{key_after_zero, key_after_none, key_after_last, key_after_more}
use Rattle.deny_toml_grammar.proofs.StringsSound.{read_of, read_same, SpacesPrefix, spaces_prefix, spaces_found}
use Rattle.deny_toml_grammar.proofs.StringsSound.{BytePrefix, byte_prefix, byte_found}
use Rattle.deny_toml_grammar.proofs.QuotedLaws.{Prefix, prefix, OneLine, record_of, span_is, one_line-complete}
use Rattle.deny_toml_grammar.proofs.QuotedLaws.{one_line-sound}

-- a part of a key begins neither with a space nor with a comment
part_first : (at : ℕ) (cs rest : List ℕ) (part : Key) → IsPart at cs part
    → (is_bare (first (cs ++ rest)) || is_delimiter (first (cs ++ rest))) ≡ true
part_first at cs rest part (grammar.bare c cs' all) = rw (and_parts (is_bare c) (list_all is_bare cs') all).0
part_first at cs rest part (grammar.quoted _ name span (strings.quoted d inner _ is_d is)) = grind (arith, nat_tests)

pub key_first : (left at : ℕ) (cs rest : List ℕ) (path : List Key) → IsKey left at cs path
    → (is_bare (first (cs ++ rest)) || is_delimiter (first (cs ++ rest))) ≡ true
key_first left at cs rest path (grammar.last _ _ _ part is) = part_first at cs rest part is
key_first left at cs rest path (grammar.dotted _ _ cs' spaces more rest' part path' is _ _ _) =
    rw (append_assoc cs' (spaces ++ 46 ∷ (more ++ rest')) rest)
    (part_first at cs' ((spaces ++ 46 ∷ (more ++ rest')) ++ rest) part is)

abbrev key_with : List ℕ → List ℕ → Span → Key × List ℕ
key_with name rest span = (record { name = name; span = span }, rest)

bare_is : (total at : ℕ) (cs rest : List ℕ) → list_all is_bare cs ≡ true → is_bare (first rest) ≡ false
    → at + length (cs ++ rest) ≡ total
    → bare_key total (cs ++ rest) ≡ (record { name = cs; span = span_of at (length cs) }, rest)
bare_is total at cs rest all stop offset =
    let start : total - length (cs ++ rest) ≡ at = omega arith in
    let end : total - length rest ≡ at + length cs = omega (arith, length-append cs rest) in
    let span : record_of (total - length (cs ++ rest)) (total - length rest) ≡ span_of at (length cs) =
    span_is _ _ at (length cs) start end in
    ap (bare_with total (cs ++ rest)) (split_while-run is_bare cs rest all stop) ∙ ap (key_with cs rest) span

simple_key_bare : (total : ℕ) (text : List ℕ) → starts_string text ≡ false → is_bare (first text) ≡ true
    → simple_key total text ≡ Some (bare_key total text)
unfolding simple_key
simple_key_bare total text no_string bare_ = rw (no_string, bare_)

-- a part of a key of the grammar is read
simple_key-complete : (at total : ℕ) (cs rest : List ℕ) (part : Key) → IsPart at cs part
    → is_bare (first rest) ≡ false → at + length (cs ++ rest) ≡ total
    → simple_key total (cs ++ rest) ≡ Some (part, rest)
unfolding simple_key
simple_key-complete at total cs rest part (grammar.bare c cs' all) stop offset =
    let here : is_bare c ≡ true = (and_parts (is_bare c) (list_all is_bare cs') all).0 in
    let no_string : starts_string (c ∷ (cs' ++ rest)) ≡ false = grind (arith, nat_tests) in
    simple_key_bare total (c ∷ (cs' ++ rest)) no_string here ∙ ap Some (bare_is total at (c ∷ cs') rest all stop offset)
simple_key-complete at total cs rest part (grammar.quoted _ name span (strings.quoted d inner _ is_d is)) stop offset =
    rw (
      is_d,
      one_line-complete at total (d ∷ (inner ++ d ∷ [])) name rest (span_of (at + 1) (length inner))
          (strings.quoted d inner name is_d is) offset,
    )

-- a bare part of a key, split from the text after it
bare_split : (total c : ℕ) (cs : List ℕ) → is_bare c ≡ true
    → bare_key total (c ∷ cs) ≡ key_with (c ∷ take (prefix_len is_bare cs) cs) (drop (prefix_len is_bare cs) cs)
    (between total (c ∷ cs) (drop (prefix_len is_bare cs) cs))
bare_split total c cs here =
    let next : 1 + prefix_len is_bare cs ≡ suc (prefix_len is_bare cs) = omega arith in
    rw (here, next)

bare_prefix : (total c k : ℕ) (cs : List ℕ) → list_all is_bare (c ∷ take k cs) ≡ true → length (c ∷ cs) ≤ total
    → Prefix (IsPart (total - length (c ∷ cs))) (drop k cs) (c ∷ cs)
    (key_with (c ∷ take k cs) (drop k cs) (between total (c ∷ cs) (drop k cs))).0
bare_prefix total c k cs all within =
    let at = total - length (c ∷ cs) in
    let whole = take-append-drop k cs in
    let lens : length (take k cs) + length (drop k cs) ≡ length cs = sym (length-append (take k cs) (drop k cs))
    ∙ ap length whole in
    let end : total - length (drop k cs) ≡ at + length (c ∷ take k cs) = omega arith in
    let span : between total (c ∷ cs) (drop k cs) ≡ span_of at (length (c ∷ take k cs)) =
    span_is _ _ at (length (c ∷ take k cs)) refl end in
    let here : Prefix (IsPart at) (drop k cs) ((c ∷ take k cs) ++ drop k cs)
    (key_with (c ∷ take k cs) (drop k cs) (span_of at (length (c ∷ take k cs)))).0 =
    prefix (c ∷ take k cs) _ (grammar.bare c (take k cs) all) in
    subst (λ t. Prefix (IsPart at) (drop k cs) (c ∷ t) (key_with (c ∷ take k cs) (drop k cs)
    (between total (c ∷ cs) (drop k cs))).0) whole
    (subst (λ s. Prefix (IsPart at) (drop k cs) ((c ∷ take k cs) ++ drop k cs)
    (key_with (c ∷ take k cs) (drop k cs) s).0) (sym span) here)

-- a bare part of a key that is read is in the grammar
bare_found : (total : ℕ) (text rest : List ℕ) (part : Key) → is_bare (first text) ≡ true → length text ≤ total
    → Some (bare_key total text) ≡ read_of part rest
    → Prefix (IsPart (total - length text)) rest text part
bare_found total [] rest part here within e = absurd (false≢true here)
bare_found total (c ∷ cs) rest part here within e =
    let k = prefix_len is_bare cs in
    let all : list_all is_bare (c ∷ take k cs) ≡ true = rw here (list_all-take is_bare cs) in
    let key : Key = (key_with (c ∷ take k cs) (drop k cs) (between total (c ∷ cs) (drop k cs))).0 in
    let read : read_of key (drop k cs) ≡ read_of part rest = sym (ap Some (bare_split total c cs here)) ∙ e in
    read_same (λ p r. Prefix (IsPart (total - length (c ∷ cs))) r (c ∷ cs) p) key part (drop k cs) rest read
    (bare_prefix total c k cs all within)

quoted_found : (total : ℕ) (text rest : List ℕ) (part : Key) (o : Read (Spanned (List ℕ))) → starts_string text ≡ true
    → length text ≤ total → one_line total text ≡ o
    → read_map quoted_key o ≡ read_of part rest → Prefix (IsPart (total - length text)) rest text part
quoted_found total text rest part None starts within is e = absurd (none-some (part, rest) e)
quoted_found total text rest part (Some (s, r)) starts within is e =
    read_same (λ p t. Prefix (IsPart (total - length text)) t text p) (quoted_key s) part r rest e
    (quoted_prefix (total - length text) r text s (one_line-sound total text r s starts within is))
  where
    quoted_prefix : (at : ℕ) (r text : List ℕ) (s : Spanned (List ℕ)) → Prefix (OneLine at) r text s
        → Prefix (IsPart at) r text (quoted_key s)
    quoted_prefix at r text s (prefix cs _ is) = prefix cs (quoted_key s) (grammar.quoted cs s.value s.span is)

simple_key-sound : (total : ℕ) (text rest : List ℕ) (part : Key) → length text ≤ total
    → simple_key total text ≡ read_of part rest → Prefix (IsPart (total - length text)) rest text part
unfolding simple_key
simple_key-sound total text rest part within e =
    elim (cases_Bool (starts_string text)) [
      | inl starts ↦ quoted_found total text rest part (one_line total text) starts within refl (rw starts at e)
      | inr other ↦ elim (cases_Bool (is_bare (first text))) [
        | inl bare_ ↦ bare_found total text rest part bare_ within (rw (other, bare_) at e)
        | inr none ↦ absurd (none-some (part, rest) (rw (other, none) at e))
      ]
    ]

joined : (cs spaces more rest tail : List ℕ) → (cs ++ (spaces ++ 46 ∷ (more ++ rest))) ++ tail ≡ cs ++
    (spaces ++ (46 ∷ (more ++ (rest ++ tail))))
joined cs spaces more rest tail = rw (
  append_assoc cs (spaces ++ 46 ∷ (more ++ rest)) tail,
  append_assoc spaces
      (46 ∷ (more ++ rest)) tail,
  append_assoc more rest tail,
)

spaces_not_bare : (spaces tail : List ℕ) → AreSpaces spaces → is_bare (first tail) ≡ false
    → is_bare (first (spaces ++ tail)) ≡ false
spaces_not_bare [] tail all stop = stop
spaces_not_bare (c ∷ spaces) tail all stop =
    let space : is_space c ≡ true = (and_parts (is_space c) (list_all is_space spaces) all).0 in grind
    (arith, nat_tests)

-- a key of the grammar is read, with the spaces after it
pub key_after-complete : (left at total : ℕ) (found : List Key) (cs tail : List ℕ) (path : List Key)
    → IsKey left at cs path → is_bare (first tail) ≡ false
    → (first (skip_spaces tail) == 46) ≡ false → at + length (cs ++ tail) ≡ total
    → key_after left total found (cs ++ tail) ≡ Some (found ++ path, skip_spaces tail)
key_after-complete left at total found cs tail path (grammar.last left' _ _ part is) stop no_dot offset =
    key_after_last (suc left') total found (cs ++ tail) tail part (omega arith)
    (simple_key-complete at total cs tail part is stop offset) no_dot
key_after-complete left at total found cs tail path (grammar.dotted left' _ cs' spaces more rest part path' is
    are_spaces are_more is_key) stop no_dot offset =
    let after = spaces ++ (46 ∷ (more ++ (rest ++ tail))) in
    let same = joined cs' spaces more rest tail in
    let len : length (cs' ++ after) ≡ length cs' + (length spaces + (1 + (length more + length (rest ++ tail)))) =
    simp length-append (omega arith) in
    let here : at + length (cs' ++ after) ≡ total = subst (λ t. at + length t ≡ total) same offset in
    let read = simple_key-complete at total cs' after part is
    (spaces_not_bare spaces (46 ∷ (more ++ (rest ++ tail))) are_spaces refl) here in
    let skipped : skip_spaces after ≡ 46 ∷ (more ++ (rest ++ tail)) =
    skip_spaces-run spaces (46 ∷ (more ++ (rest ++ tail))) are_spaces refl in
    let inked : is_space (first (rest ++ tail)) ≡ false = no_space (first (rest ++ tail))
    (key_first left' (at + length cs' + length spaces + 1 + length more) rest tail path' is_key) in
    let again : skip_spaces (more ++ (rest ++ tail)) ≡ rest ++ tail =
    skip_spaces-run more (rest ++ tail) are_more inked in
    let dot_ : (first (skip_spaces after) == 46) ≡ true = rw skipped refl in
    let ih = key_after-complete left' (at + length cs' + length spaces + 1 + length more) total (found ++ part ∷ [])
    rest tail path' is_key stop no_dot (omega arith) in
    let less : suc left' - 1 ≡ left' = omega arith in
    rw same (key_after_more (suc left') total found (cs' ++ after) after part (omega arith) read dot_
    ∙ rw (skipped, again, less, ih, append_assoc found (part ∷ []) path'))
  where
    no_space : (c : ℕ) → (is_bare c || is_delimiter c) ≡ true → is_space c ≡ false
    no_space c e = grind (arith, nat_tests)

-- the key at the start of a text, after the parts read before, and the spaces after it
pub data KeyPrefix (left at : ℕ) (found : List Key) (rest : List ℕ) : List ℕ → List Key → Type 0 where
  key_prefix : (cs spaces : List ℕ) (path : List Key) → IsKey left at cs path → AreSpaces spaces
      → KeyPrefix left at found rest (cs ++ (spaces ++ rest)) (found ++ path)

last_prefix : (n at : ℕ) (found : List Key) (cs after : List ℕ) (part : Key) (rest : List ℕ) → IsPart at cs part
    → SpacesPrefix rest after
    → KeyPrefix (suc n) at found rest (cs ++ after) (found ++ part ∷ [])
last_prefix n at found cs after part rest is (spaces_prefix spaces are_spaces) =
    key_prefix cs spaces (part ∷ []) (grammar.last n at cs part is) are_spaces

dotted_prefix : (n at total : ℕ) (found : List Key) (cs spaces tail more text : List ℕ) (part : Key) (rest : List ℕ)
    (path : List Key) → IsPart at cs part → AreSpaces spaces
    → AreSpaces more → at + length (cs ++ (spaces ++ (46 ∷ (more ++ text)))) ≡ total
    → KeyPrefix n (total - length text) (found ++ part ∷ []) rest text path
    → KeyPrefix (suc n) at found rest (cs ++ (spaces ++ (46 ∷ (more ++ text)))) path
dotted_prefix n at total found cs spaces tail more text part rest path is are_spaces are_more offset
    (key_prefix cs' spaces' path' is_key are_spaces') =
    let text_ = cs' ++ (spaces' ++ rest) in
    let len : length (cs ++ (spaces ++ (46 ∷ (more ++ text_)))) ≡ length cs +
    (length spaces + (1 + (length more + length text_))) = simp length-append (omega arith) in
    let at_is : total - length text_ ≡ at + length cs + length spaces + 1 + length more = omega arith in
    let key : IsKey n (at + length cs + length spaces + 1 + length more) cs' path' =
    subst (λ x. IsKey n x cs' path') at_is is_key in
    let whole = cs ++ (spaces ++ 46 ∷ (more ++ cs')) in
    subst (λ t. KeyPrefix (suc n) at found rest t ((found ++ part ∷ []) ++ path'))
    (joined cs spaces more cs' (spaces' ++ rest))
    (subst (KeyPrefix (suc n) at found rest (whole ++ (spaces' ++ rest))) (sym (append_assoc found (part ∷ []) path'))
    (key_prefix whole spaces' (part ∷ path') (grammar.dotted n at cs spaces more cs' part path' is are_spaces are_more
    key) are_spaces'))

-- the rest of a key, which has fewer parts, is in the grammar
abbrev KeyRest : ℕ → ℕ → List ℕ → Type 0
KeyRest n total rest = (found : List Key) (text : List ℕ) (path : List Key) → length text ≤ total
    → key_after n total found text ≡ read_of path rest
    → KeyPrefix n (total - length text) found rest text path

more_parts : (n total : ℕ) (found : List Key) (cs after text : List ℕ) (part : Key) (rest : List ℕ) (path : List Key)
    → IsPart (total - length (cs ++ after)) cs part
    → length (cs ++ after) ≤ total → BytePrefix 46 text after
    → (length text ≤ total → KeyPrefix n (total - length text) (found ++ part ∷ []) rest text path)
    → KeyPrefix (suc n) (total - length (cs ++ after)) found rest (cs ++ after) path
more_parts n total found cs after text part rest path is within (byte_prefix spaces more are_spaces are_more) ih =
    let whole = cs ++ (spaces ++ (46 ∷ (more ++ text))) in
    let len : length whole ≡ length cs + (length spaces + (1 + (length more + length text))) =
    simp length-append (omega arith) in
    dotted_prefix n (total - length whole) total found cs spaces text more text part rest path is are_spaces are_more
    (omega arith) (ih (omega arith))

part_step : (n total : ℕ) (found : List Key) (cs after : List ℕ) (part : Key) (rest : List ℕ) (path : List Key)
    → IsPart (total - length (cs ++ after)) cs part
    → length (cs ++ after) ≤ total → KeyRest n total rest → simple_key total (cs ++ after) ≡ Some (part, after)
    → key_after (suc n) total found (cs ++ after) ≡ read_of path rest
    → KeyPrefix (suc n) (total - length (cs ++ after)) found rest (cs ++ after) path
part_step n total found cs after part rest path is within ih read e =
    let at = total - length (cs ++ after) in
    elim (cases_Bool (first (skip_spaces after) == 46)) [
      | inl dot_ ↦
          let less : suc n - 1 ≡ n = omega arith in
          let text = skip_spaces (drop 1 (skip_spaces after)) in
          let next : key_after n total (found ++ part ∷ []) text ≡ read_of path rest =
          rw less at (sym (key_after_more (suc n) total found (cs ++ after) after part (omega arith) read dot_) ∙ e) in
          more_parts n total found cs after text part rest path is within (byte_found 46 after (omega arith) dot_)
          (λ room. ih (found ++ part ∷ []) text path room next)
      | inr last_ ↦
          let done_ : read_of (found ++ part ∷ []) (skip_spaces after) ≡ read_of path rest =
          sym (key_after_last (suc n) total found (cs ++ after) after part (omega arith) read last_) ∙ e in
          read_same (λ p r. KeyPrefix (suc n) at found r (cs ++ after) p) (found ++ part ∷ []) path (skip_spaces after)
          rest done_
          (last_prefix n at found cs after part (skip_spaces after) is (spaces_found after))
    ]

part_prefix : (n total : ℕ) (found : List Key) (text after : List ℕ) (part : Key) (rest : List ℕ) (path : List Key)
    → Prefix (IsPart (total - length text)) after text part
    → length text ≤ total → KeyRest n total rest → simple_key total text ≡ Some (part, after)
    → key_after (suc n) total found text ≡ read_of path rest
    → KeyPrefix (suc n) (total - length text) found rest text path
part_prefix n total found text after part rest path (prefix cs _ is) within ih read e =
    part_step n total found cs after part rest path is within ih read e

part_by : (n total : ℕ) (found : List Key) (text rest : List ℕ) (path : List Key) (o : Read Key) → length text ≤ total
    → KeyRest n total rest → simple_key total text ≡ o
    → key_after (suc n) total found text ≡ read_of path rest
    → KeyPrefix (suc n) (total - length text) found rest text path
part_by n total found text rest path None within ih read e =
    absurd (none-some (path, rest) (sym (key_after_none (suc n) total found text read) ∙ e))
part_by n total found text rest path (Some (part, after)) within ih read e =
    part_prefix n total found text after part rest path (simple_key-sound total text after part within read) within ih
    read e

-- a key that is read is in the grammar
pub key_after-sound : (n total : ℕ) (rest : List ℕ) → KeyRest n total rest
key_after-sound zero total rest found text path within e = absurd
    (none-some (path, rest) (sym (key_after_zero total found text) ∙ e))
key_after-sound (suc n) total rest found text path within e =
    part_by n total found text rest path (simple_key total text) within (key_after-sound n total rest) refl e
