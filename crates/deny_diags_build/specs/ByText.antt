-- Items found by their texts.
use Rattle.std.specs.Prelude.{◌≡◌, ℕ, List, Option, find, option_map}
use Rattle.std.specs.BTreeMap.{get_by}
use Rattle.std.specs.Cmp.Lexicographic.{slice_cmp}
use Rattle.std.specs.Ordering.{nat_cmp}
use Rattle.deny_spec.specs.Text.{same_text}
use Rattle.deny_diags_build.specs.declared.by_text.ByText.{ByText}

-- the first item with this text
abbrev pub first_of : {T : Type 0} → (T → List ℕ) → List ℕ → List T → Option T
first_of text_of text items = find (λ item. same_text (text_of item) text) items

-- the item that is found at a text
abbrev pub found_at : {T : Type 0} → ByText T → List ℕ → Option T
found_at found text = option_map (λ item. item.now) (get_by (λ k. slice_cmp nat_cmp text k.now) found.tree)

-- at each text the first item with that text is found
pub record IsByText {T : Type 0} (text_of : T → List ℕ) (items : List T) (found : ByText T) : Type 0 where
  pub at : (text : List ℕ) → found_at found text ≡ first_of text_of text items
