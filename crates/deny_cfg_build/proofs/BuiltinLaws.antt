-- The first built-in glob is a glob, so that the file of the built-in globs is that of the first built-in pattern.
use Rattle.std.proofs.Common.{◌≡◌, ◌++◌, ◌+◌, ◌<◌, ℕ, true, false, List, [], ◌∷◌, Option, None, Some, drop, get_or}
use Rattle.std.proofs.Common.{length, map, refl, sym, ap, subst, ◌∙◌, arith}
use Rattle.std.specs.Prelude.{◌==◌, IsTrue, codes, is_some, not}
use Rattle.std.specs.Char.{is_ascii}
use Rattle.std.specs.List.{AllByRecursion, list_all}
use Rattle.std.specs.Str.{IsAscii}
use Rattle.std.proofs.lemmas.Bool.{and_parts}
use Rattle.std.proofs.lemmas.Bool.Decides.{nat_tests}
use Rattle.std.proofs.lemmas.List.{drop_more}
use Rattle.std.proofs.lemmas.Str.{chars-IsAscii}
use Rattle.std.proofs.lemmas.Str.Ascii.{IsAscii-cons, IsAscii-nil}
use Rattle.deny_base.specs.declared.span.Span.{Span}
use Rattle.deny_globs.proofs.Once.{no_fault}
use Rattle.deny_globs.specs.Characters.{is_plain, slash}
use Rattle.deny_globs.specs.Faults.{IsBadAt}
use Rattle.deny_globs.specs.Patterns.{Pattern}
use Rattle.deny_globs.specs.Pieces.{Spells, itself, next, nothing, stars}
use Rattle.deny_globs.specs.Tree.{IsGlob}
use Rattle.deny_globs.specs.Tree.AreTokens.{nothing as no_tokens, token}
use Rattle.deny_globs.specs.declared.piece.Piece.{Piece}
use Rattle.deny_globs.specs.declared.piece.Piece.TheVariants.{Token as Whole}
use Rattle.deny_globs.specs.declared.token.Token.{Token}
use Rattle.deny_globs.specs.declared.token.Token.TheVariants.{AnyText, Character}
use Rattle.deny_spec.specs.Policy.{SpannedText}
use Rattle.deny_cfg_tables.specs.declared.bans.cfg.build.BuildConfig.{BuildConfig}
use Rattle.deny_cfg_build.specs.Build.{IsBuildOf, builtin_if, listed, number_of}
use Rattle.deny_cfg_build.specs.BuildingView.{builtin_file_in, globs_file}
use Rattle.deny_cfg_build.specs.private.BuildingView.{file_of}
use Rattle.deny_cfg_build.specs.Builtin.{builtin_texts, builtin_words}
use Rattle.deny_cfg_build.specs.Globs.{AreGlobsOf, extension_text}
use Rattle.deny_cfg_build.specs.Globs.AreGlobsOf.{none, one_more, left_out}
use Rattle.deny_cfg_build.specs.declared.pattern.GlobPattern.{GlobPattern}
use Rattle.deny_cfg_build.specs.declared.pattern.GlobPattern.TheVariants.{Builtin, User}
use Rattle.deny_cfg_build.specs.declared.valid.ValidBuildConfig.{ValidBuildConfig}

-- ---- the first built-in pattern of a list

here_by : (p : GlobPattern) (rest : List GlobPattern) (o : Option ℕ) → o ≡ file_of p → is_some o ≡ true
    → o ≡ builtin_file_in (p ∷ rest)
here_by (Builtin glob) rest o is some = is
here_by (User word) rest o is some = absurd (cc (is, some))

next_by : (p : GlobPattern) (rest : List GlobPattern) (o : Option ℕ) → o ≡ file_of p → is_some o ≡ false
    → builtin_file_in (p ∷ rest) ≡ builtin_file_in rest
next_by (Builtin glob) rest o is empty = absurd (cc (is, empty))
next_by (User word) rest o is empty = refl

module _ (ps : List GlobPattern) (i : ℕ) (p : GlobPattern) (o : Option ℕ) (inside : i < length ps)
    (at : p ≡ get_or ps i p) (given : o ≡ file_of p) where
  dropped : drop i ps ≡ p ∷ drop (i + 1) ps
  dropped = drop_more ps i p inside ∙ ap (λ q. q ∷ drop (i + 1) ps) (sym at)

  pub file_here : is_some o ≡ true → (whole : Option ℕ) → builtin_file_in (drop i ps) ≡ whole → o ≡ whole
  file_here some whole before =
      here_by p (drop (i + 1) ps) o given some ∙ (sym (ap builtin_file_in dropped) ∙ before)

  pub file_next : is_some o ≡ false → (whole : Option ℕ) → builtin_file_in (drop i ps) ≡ whole
      → builtin_file_in (drop (i + 1) ps) ≡ whole
  file_next empty whole before =
      sym (next_by p (drop (i + 1) ps) o given empty) ∙ (sym (ap builtin_file_in dropped) ∙ before)

-- ---- the patterns of a set are among those that it is read from, and its first built-in pattern is theirs

pub kept_each : (P : GlobPattern → Type 0) {text_of : GlobPattern → List ℕ} {wanted patterns : List GlobPattern}
    {globs : List Pattern} → AreGlobsOf text_of wanted patterns globs → AllByRecursion P wanted
    → AllByRecursion P patterns
kept_each P none all = tt
kept_each P (one_more pattern glob is rest) all = (all.0, kept_each P rest all.1)
kept_each P (left_out pattern byte bad rest) all = kept_each P rest all.1

-- the first built-in pattern of a list is a glob
abbrev IsFirstGood : List GlobPattern → Type 0
IsFirstGood [] = Unit {0}
IsFirstGood (Builtin glob ∷ patterns) = (byte : ℕ) → IsBadAt glob.0.value byte → ⊥
IsFirstGood (User word ∷ patterns) = IsFirstGood patterns

kept_first : (wanted patterns : List GlobPattern) (globs : List Pattern)
    → AreGlobsOf extension_text wanted patterns globs → IsFirstGood wanted
    → builtin_file_in patterns ≡ builtin_file_in wanted
kept_first _ _ _ none good = refl
kept_first _ _ _ (one_more {wanted} {patterns} {globs} (Builtin glob) own is rest) good = refl
kept_first _ _ _ (one_more {wanted} {patterns} {globs} (User word) own is rest) good =
    kept_first wanted patterns globs rest good
kept_first _ _ _ (left_out {wanted} {patterns} {globs} (Builtin glob) byte bad rest) good = absurd (good byte bad)
kept_first _ _ _ (left_out {wanted} {patterns} {globs} (User word) byte bad rest) good =
    kept_first wanted patterns globs rest good

-- ---- the first built-in glob is a glob

below_128 : (b : ℕ) → is_ascii b ≡ true → b < 128
below_128 b e = grind (arith, nat_tests)

pub ascii_from_test : (bs : List ℕ) → list_all is_ascii bs ≡ true → IsAscii bs
ascii_from_test [] e = IsAscii-nil
ascii_from_test (b ∷ bs) e =
    let parts = and_parts (is_ascii b) (list_all is_ascii bs) e in
    IsAscii-cons b bs (below_128 b parts.0) (ascii_from_test bs parts.1)

first_text : List ℕ
first_text = codes "*.bash"

first_tokens : List Token
first_tokens =
    AnyText ∷ Character 46 ∷ Character 98 ∷ Character 97 ∷ Character 115 ∷ Character 104 ∷ []

first_pieces : List Piece
first_pieces = map Whole first_tokens

plain : (at c : ℕ) (more : List ℕ) (pieces : List Piece) → IsTrue (is_plain c) → IsTrue (not (c == slash))
    → Spells (at + 1) more [] pieces → Spells at (c ∷ more) [] (Whole (Character c) ∷ pieces)
plain at c more pieces one other rest = next (c ∷ []) more (itself one other) rest

first_spelled : Spells 0 first_text [] first_pieces
unfolding first_text first_pieces first_tokens
first_spelled =
    next (42 ∷ []) (codes ".bash") (stars {cs = 42 ∷ []} refl (omega arith) refl refl)
    (plain 1 46 (codes "bash") _ refl refl
    (plain 2 98 (codes "ash") _ refl refl
    (plain 3 97 (codes "sh") _ refl refl (plain 4 115 (codes "h") _ refl refl (plain 5 104 [] _ refl refl nothing)))))

first_is_glob : IsGlob first_text first_tokens
unfolding first_pieces first_tokens
first_is_glob = record {
  pieces = first_pieces;
  spelled = first_spelled;
  tree = token (token (token (token (token (token no_tokens)))));
}

first_is_good : (byte : ℕ) → IsBadAt first_text byte → ⊥
unfolding first_text
first_is_good byte bad =
    no_fault {i = bad.character} first_tokens bad.fault
    (subst (λ cs. IsGlob cs first_tokens) (sym (chars-IsAscii first_text (ascii_from_test first_text refl)))
    first_is_glob)

-- ---- the file of the built-in globs of a table

builtin_good : (file : Option ℕ) → IsFirstGood (builtin_if file)
unfolding builtin_words builtin_texts first_text
builtin_good None = tt
builtin_good (Some file) = first_is_good

builtin_file : (file : Option ℕ) → builtin_file_in (builtin_if file) ≡ file
unfolding builtin_words builtin_texts
builtin_file None = refl
builtin_file (Some file) = refl

behind_users : (words : List SpannedText) (file : Option ℕ)
    → builtin_file_in (map User words ++ builtin_if file) ≡ file
behind_users [] file = builtin_file file
behind_users (word ∷ words) file = behind_users words file

good_behind : (words : List SpannedText) (file : Option ℕ) → IsFirstGood (map User words ++ builtin_if file)
good_behind [] file = builtin_good file
good_behind (word ∷ words) file = good_behind words file

-- the file of the built-in globs is the next file, exactly where the table asks for them
pub globs_file_of : (build : BuildConfig) (number : ℕ) (older_key : Option Span) (valid : ValidBuildConfig)
    → IsBuildOf build number older_key valid → globs_file valid ≡ number_of build.enable_builtin_globs number
globs_file_of build number older_key valid is =
    let words = listed build.script_extensions in
    let file = number_of build.enable_builtin_globs number in
    kept_first (map User words ++ builtin_if file) valid.script_extensions.patterns valid.script_extensions.set
    is.script_extensions (good_behind words file)
    ∙ behind_users words file
