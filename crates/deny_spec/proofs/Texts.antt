-- Texts: maps with texts as keys, sets of texts, and optional texts.
use Rattle.std.proofs.Common.{◌≡◌, ℕ, true, List, Option, None, Some, ap, sym, refl, ◌∙◌, [], is_some, ◌++◌, ◌∷◌, Bool}
use Rattle.std.proofs.Common.{false}
use Rattle.std.specs.Cmp.Lexicographic.{same_text as equal_texts, nat_list_cmp_total, texts_ties, slice_cmp}
use Rattle.std.specs.Option.{option_eq}
use Rattle.std.specs.Prelude.{cond, ◌||◌}
use Rattle.deny_base_lists.specs.TextMap.{TextFinMap}
use Rattle.deny_spec.specs.Text.{same_text}
use Rattle.deny_spec.specs.TextSets.{IsSetOf}
use Rattle.std.specs.FinMap as finite
use Rattle.std.specs.Ordering.{nat_cmp}
use Rattle.std.proofs.lemmas.List.Folds.{list_any-append}

pub equal_from_option_eq : (a b : Option (List ℕ)) → option_eq same_text a b ≡ true → a ≡ b
equal_from_option_eq None None is = refl
equal_from_option_eq None (Some y) is = cc
equal_from_option_eq (Some x) None is = cc
equal_from_option_eq (Some x) (Some y) is = ap (λ t. Some t) (equal_texts x y (sym is))

-- what a map has after an insertion
pub get-insert : {V : Type 0} (m : TextFinMap V) (key : List ℕ) (value : V) (other : List ℕ)
    → finite.get (finite.insert m key value) other ≡ cond (same_text other key) (Some value) (finite.get m other)
get-insert m key value other = finite.get-insert nat_list_cmp_total m key value other
    ∙ ap (λ b. cond b (Some value) (finite.get m other)) (sym (texts_ties other key))

pub no_texts : IsSetOf [] finite.empty
no_texts = record { each = λ text. ap is_some (finite.get-empty (slice_cmp nat_cmp) text) }

pub one_text_more : (texts : List (List ℕ)) (set : TextFinMap Bool) (text : List ℕ) (value : Bool) → IsSetOf texts set
    → IsSetOf (texts ++ text ∷ []) (finite.insert set text value)
one_text_more texts set text value before = record {
  each = λ other. ap is_some (get-insert set text value other)
      ∙ (or_got (same_text other text) (finite.get set other)
      ∙ (ap (λ b. b || (same_text other text || false)) (before.each other)
      ∙ sym (list_any-append (same_text other) texts (text ∷ []))));
}
  where
    or_got : (b : Bool) (got : Option Bool) → is_some (cond b (Some value) got) ≡ (is_some got || (b || false))
    or_got true None = refl
    or_got true (Some v) = refl
    or_got false None = refl
    or_got false (Some v) = refl
