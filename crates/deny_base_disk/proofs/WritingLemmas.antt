-- Writing bytes in several writes.
use Rattle.std.proofs.Common.{◌≡◌, ℕ, ◌+◌, ◌-◌, ◌≤◌, List, ◌++◌, length, take, drop, sym, ap, subst, ◌∙◌, arith}
use Rattle.std.proofs.Common.{append_assoc, length-drop, Option, Some, None}
use Rattle.std.proofs.Math.Seq.{take-add}
use Rattle.std.proofs.lemmas.List.{drop-drop, take_all}
use Rattle.std.specs.Io.KnownBytes.{Appends}

-- `count` of the bytes were written, and the others are left
pub record IsWriting (old new : Option (List ℕ)) (bytes rest : List ℕ) : Type 0 where
  pub count : ℕ
  pub within : count ≤ length bytes
  pub left : rest ≡ drop count bytes
  pub written : Appends old new (take count bytes)

appends_more : (old mid new : Option (List ℕ)) (first second : List ℕ) → Appends old mid first → Appends mid new second
    → Appends old new (first ++ second)
appends_more None mid new first second a b = tt
appends_more (Some xs) None new first second a b = absurd a
appends_more (Some xs) (Some ys) None first second a b = absurd b
appends_more (Some xs) (Some ys) (Some zs) first second a b = b ∙ ap (λ (prefix : List ℕ). prefix ++ second) a
    ∙ append_assoc xs first second

-- a write that takes `n` of the bytes that are left
pub writing_more : (old mid new : Option (List ℕ)) (bytes rest : List ℕ) (n : ℕ) → n ≤ length rest
    → IsWriting old mid bytes rest → Appends mid new (take n rest)
    → IsWriting old new bytes (take (length rest - n) (drop n rest))
writing_more old mid new bytes rest n fits writing more =
    let now = writing.count in
    let P : List ℕ → Type 0 = Appends old new in
    record {
      count = now + n;
      within = omega (arith, fits, writing.within, ap length writing.left, length-drop now bytes);
      left = take_all (length rest - n) (drop n rest) (omega (arith, length-drop n rest)) ∙ ap (drop n) writing.left
          ∙ drop-drop n now bytes;
      written = subst P (ap (λ (part : List ℕ). take now bytes ++ take n part) writing.left
          ∙ sym (take-add now n bytes))
          (appends_more old mid new (take now bytes) (take n rest) writing.written more);
    }
