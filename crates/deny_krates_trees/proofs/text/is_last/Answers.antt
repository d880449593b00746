use Rattle.std.proofs.Common.{◌≡◌, ◌∙◌, ℕ, zero, suc, List, [], ◌∷◌, length, drop, leb, refl}
use Rattle.std.proofs.Math.Dec.{leb-suc-suc, leb-suc-zero, leb-zero}
use Rattle.deny_krates_trees.specs.Text.{is_last}
use Rattle.deny_krates_trees.proofs.text.is_last.Goals as goal

is_last-drop : {A : Type 0} (xs : List A) (n : ℕ) → leb (length xs) n ≡ is_last (drop n xs)
is_last-drop [] zero = refl
is_last-drop [] (suc n) = leb-zero (suc n)
is_last-drop (x ∷ xs) zero = leb-suc-zero (length xs)
is_last-drop (x ∷ xs) (suc n) = leb-suc-suc (length xs) n ∙ is_last-drop xs n

pub returns : goal.returns
returns c = is_last-drop c.args.level.now.parents.now c.args.level.now.next
