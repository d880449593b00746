-- A text may be split after ASCII bytes.
use Rattle.std.proofs.Common.{◌≡◌, ℕ, ◌+◌, ◌<◌, Bool, true, cond, List, [], ◌∷◌, Some, sym, ◌∙◌, ap, subst, arith}
use Rattle.std.proofs.Common.{slice_get}
use Rattle.std.specs.Prelude.{slice_index}
use Rattle.std.specs.List.{prefix_len}
use Rattle.std.proofs.lemmas.Bool.Decides.{nat_tests}
use Rattle.deny_base_lists.proofs.Texts.{prefix_passes}
use Rattle.deny_spans_cfg_expr.specs.Tokens.{is_name_start, is_name_byte}

name_byte_ascii : (b : ℕ) → is_name_byte b ≡ true → b < 128
unfolding is_name_byte is_name_start
name_byte_ascii b e = grind (arith, nat_tests, e)

pub names_ascii : (text bytes : List ℕ) (n : ℕ) → bytes ≡ text → n ≡ prefix_len is_name_byte bytes → (k : ℕ) → k < n
    → slice_index text k < 128
names_ascii text bytes n e f k h = name_byte_ascii _ (prefix_passes is_name_byte text bytes n e f k h)

-- a text that begins with a byte that may begin a name begins with a name
pub some_name : (text : List ℕ) (b : ℕ) → slice_get text 0 ≡ Some b → is_name_start b ≡ true
    → 0 < prefix_len is_name_byte text
unfolding is_name_byte
some_name [] b e f = cc
some_name (x ∷ xs) b e f =
    let same : x ≡ b = cc in
    let starts : is_name_start x ≡ true = ap is_name_start same ∙ f in
    let holds : is_name_byte x ≡ true = grind (arith, starts) in
    let P : Bool → Type 0 = λ y. 0 < cond y (1 + prefix_len is_name_byte xs) 0 in
    subst P (sym holds) (omega arith)
