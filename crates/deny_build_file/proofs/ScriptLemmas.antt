-- The lines of scripts and their parts.
use Rattle.std.proofs.Common.{◌≡◌, ◌++◌, ◌∙◌, ◌-◌, ◌<◌, ◌≢◌, ◌==◌, ◌∷◌, [], ℕ, true, false, List, drop, take, length}
use Rattle.std.proofs.Common.{arith, lit<, Option, None, option_map, slice_index_or, refl, sym, ap}
use Rattle.std.specs.List.{position}
use Rattle.std.specs.Str.{NoCharPasses, is_utf8}
use Rattle.std.specs.Str.Pattern.{HasCharAt}
use Rattle.std.proofs.lemmas.Bool.{ne_eqb}
use Rattle.std.proofs.Math.Seq.{get_or-append_seam}
use Rattle.std.proofs.lemmas.List.{get_or_default, length-append, take-append-drop}
use Rattle.std.proofs.lemmas.List.Splits.{slice_split_none}
use Rattle.std.proofs.lemmas.Str.Pattern.{NoCharPasses-char, drop_at_char}
use Rattle.deny_spec.specs.Paths.{is_slash, parts}
use Rattle.deny_build_file.specs.Script.{is_newline, last_of, last_part, line_in, first_line, interpreter_by}
use Rattle.deny_build_file.specs.Script.{interpreter_of_text}
use Rattle.deny_build_file.proofs.WrittenLemmas.{parts_both}

pub line_at : (file bytes : List ℕ) (end : Option ℕ) → bytes ≡ take 256 file → end ≡ position is_newline bytes
    → option_map (λ n. take n bytes) end ≡ first_line file
unfolding first_line
line_at file bytes end prefix is = ap (option_map (λ n. take n bytes)) is ∙ ap line_in prefix

-- a text without a slash is its only part
one_part : (text : List ℕ) → ((i : ℕ) → i < length text → slice_index_or text i 0 ≢ 47) → parts text ≡ text ∷ []
one_part text none = slice_split_none is_slash text (λ k d inside. ne_eqb (slice_index_or text k d) 47
    (λ here. none k inside (get_or_default text k 0 d inside ∙ here)))

pub last_alone : (text : List ℕ) → NoCharPasses (λ c. c == 47) text → text ≡ last_part text
unfolding last_part
last_alone text none =
    sym (ap last_of (one_part text (λ i inside. NoCharPasses-char 47 text i none (lit< tt) inside)))

last_added : (parts : List (List ℕ)) (part : List ℕ) → last_of (parts ++ part ∷ []) ≡ part
last_added parts part =
    let before : length (parts ++ part ∷ []) - 1 ≡ length parts = omega (arith, length-append parts (part ∷ [])) in
    ap (λ (index : ℕ). slice_index_or (parts ++ part ∷ []) index []) before ∙ get_or-append_seam parts part [] []

-- text after a slash that has no slash itself is the last part
pub last_behind : (text : List ℕ) (at behind : ℕ) → NoCharPasses (λ c. c == 47) (drop behind text)
    → HasCharAt 47 text at behind → drop behind text ≡ last_part text
unfolding last_part
last_behind text at behind none slash =
    let rest = drop behind text in
    let whole : text ≡ take at text ++ 47 ∷ rest =
    sym (take-append-drop at text)
    ∙ ap (λ (more : List ℕ). take at text ++ more) (drop_at_char 47 text at behind slash (lit< tt)) in
    sym (ap (λ (t : List ℕ). last_of (parts t)) whole
    ∙ (ap last_of (parts_both (take at text) rest
    ∙ ap (λ (more : List (List ℕ)). parts (take at text) ++ more)
    (one_part rest (λ i inside. NoCharPasses-char 47 rest i none (lit< tt) inside)))
    ∙ last_added (parts (take at text)) rest))

pub no_text : (path line : List ℕ) → is_utf8 line ≡ false → interpreter_by path line ≡ None
unfolding interpreter_by
no_text path line isnt = rw isnt refl

pub a_text : (path line : List ℕ) → is_utf8 line ≡ true
    → interpreter_by path line ≡ interpreter_of_text path line
unfolding interpreter_by
a_text path line is = rw is refl
