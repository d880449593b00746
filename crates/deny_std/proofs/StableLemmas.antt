-- The least minor version in which something is stable, item by item.
use Rattle.std.proofs.Common.{◌≡◌, ◌++◌, ◌||◌, ℕ, Bool, false, List, [], ◌∷◌, map, refl, sym, ap, ◌∙◌, nat_le}
use Rattle.std.specs.List.{flat_map, list_any}
use Rattle.std.proofs.Math.Bool.{or-false}
use Rattle.std.proofs.lemmas.List.Folds.{list_any-append}
use Rattle.deny_std_table.specs.Spelling.{GroupText, ItemsText, ReplacementText, ApiText}
use Rattle.deny_std_table.specs.Texts as text
use Rattle.deny_std_table.specs.Texts.{ItemText, group_texts, item_texts}
use Rattle.deny_spec_report.specs.Saying.{Stable, items_said, stable_of}

abbrev is_stable_by : ℕ → ItemText → Bool
is_stable_by minor (text.Stable r since) = nat_le since minor
is_stable_by minor (text.Unstable r) = false
is_stable_by minor (text.Unavailable api) = false

-- an item is stable in this minor version
abbrev pub any_stable : ℕ → List ItemText → Bool
any_stable minor items = list_any (is_stable_by minor) items

abbrev since : ℕ → Stable → Bool
since minor stable = nat_le stable.minor minor

group-stable : (minor n : ℕ) (rs : List ReplacementText)
    → any_stable minor (map (λ r. text.Stable r n) rs)
    ≡ list_any (since minor) (map (λ r. record { minor = n; replacement = r }) rs)
group-stable minor n [] = refl
group-stable minor n (r ∷ rs) = ap (λ b. nat_le n minor || b) (group-stable minor n rs)

groups-stable : (minor : ℕ) (groups : List GroupText)
    → any_stable minor (flat_map group_texts groups) ≡ list_any (since minor) (flat_map stable_of groups)
groups-stable minor [] = refl
groups-stable minor (group ∷ groups) =
    list_any-append (is_stable_by minor) (group_texts group) (flat_map group_texts groups)
    ∙ (ap (λ b. b || any_stable minor (flat_map group_texts groups)) (group-stable minor group.minor group.replacements)
    ∙ (ap (λ b. list_any (since minor) (stable_of group) || b) (groups-stable minor groups)
    ∙ sym (list_any-append (since minor) (stable_of group) (flat_map stable_of groups))))

others-stable : (minor : ℕ) (rs : List ReplacementText) (apis : List ApiText)
    → any_stable minor (map text.Unstable rs ++ map text.Unavailable apis) ≡ false
others-stable minor [] [] = refl
others-stable minor [] (api ∷ apis) = others-stable minor [] apis
others-stable minor (r ∷ rs) apis = others-stable minor rs apis

pub all-stable : (minor : ℕ) (items : ItemsText)
    → any_stable minor (item_texts items) ≡ list_any (since minor) (items_said items).stable
all-stable minor items =
    list_any-append (is_stable_by minor) (flat_map group_texts items.groups) _
    ∙ (ap (λ b. any_stable minor (flat_map group_texts items.groups) || b)
    (others-stable minor items.unstable items.unavailable)
    ∙ (or-false _ ∙ groups-stable minor items.groups))
