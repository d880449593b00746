-- The texts of items are those that are returned.
use Rattle.std.proofs.Common.{◌≡◌, ◌++◌, ℕ, List, [], ◌∷◌, Option, None, Some, map, refl, sym, ap, ◌∙◌, append_assoc}
use Rattle.std.specs.Prelude.{MatchOption, flat_map}
use Rattle.std.proofs.lemmas.List.{map-append}
use Rattle.std.proofs.lemmas.Simd.{map-map}
use Rattle.deny_std_table.specs.Item.{IsApiAt, IsItemAt, IsReplacementAt, group_items, items_of}
use Rattle.deny_std_table.specs.Region.{Group, Items}
use Rattle.deny_std_table.specs.Replacement.{ItemsLeft}
use Rattle.deny_std_table.specs.Spelling.{api_text, group_text, items_text, replacement_text}
use Rattle.deny_std_table.specs.Texts.{Stable, Unavailable, Unstable, api_given, group_texts, item_given, item_text}
use Rattle.deny_std_table.specs.Texts.{item_texts, replacement_given, texts_left}
use Rattle.deny_std_table.specs.declared.item.Api.{Api}
use Rattle.deny_std_table.specs.declared.item.ApiReplacement.{ApiReplacement}
use Rattle.deny_std_table.specs.declared.item.ReplacementItem.{ReplacementItem}
use Rattle.deny_std_table.specs.declared.item.ReplacementItem.TheVariants as item
use Rattle.deny_std_table.specs.declared.spans.ApiSpans.{ApiSpans}
use Rattle.deny_std_table.specs.declared.spans.ItemSpans.{ItemSpans}
use Rattle.deny_std_table.specs.declared.spans.ItemSpans.TheVariants as spans
use Rattle.deny_std_table.specs.declared.spans.ReplacementSpans.{ReplacementSpans}

api-same : (bytes : List ℕ) (at : ApiSpans) (api : Api) → IsApiAt bytes at api → api_text bytes at ≡ api_given api
api-same bytes at api is = rw (is.name, is.url) refl

replacement-same : (bytes : List ℕ) (at : ReplacementSpans) (r : ApiReplacement) → IsReplacementAt bytes at r
    → replacement_text bytes at ≡ replacement_given r
replacement-same bytes at r is =
    rw (api-same bytes at.krate r.krate is.krate, api-same bytes at.std r.std is.std, is.note) refl

item-same : (bytes : List ℕ) (at : ItemSpans) (i : ReplacementItem) → IsItemAt bytes at i
    → item_text bytes at ≡ item_given i
item-same bytes (spans.Stable at minor) (item.Stable r since) is = rw (is.1, replacement-same bytes at r is.0) refl
item-same bytes (spans.Unstable at) (item.Unstable r) is = ap Unstable (replacement-same bytes at r is)
item-same bytes (spans.Unavailable at) (item.Unavailable api) is = ap Unavailable (api-same bytes at api is)
item-same bytes (spans.Stable at minor) (item.Unstable r) is = absurd is
item-same bytes (spans.Stable at minor) (item.Unavailable api) is = absurd is
item-same bytes (spans.Unstable at) (item.Stable r since) is = absurd is
item-same bytes (spans.Unstable at) (item.Unavailable api) is = absurd is
item-same bytes (spans.Unavailable at) (item.Stable r since) is = absurd is
item-same bytes (spans.Unavailable at) (item.Unstable r) is = absurd is

-- the next one of the items that are left
pub next-given : (old new : ItemsLeft) (next : Option ReplacementItem) → new.bytes ≡ old.bytes
    → MatchOption next ((old.items ≡ []) × (new.items ≡ []))
    (λ i. (at : ItemSpans) × (old.items ≡ at ∷ new.items) × IsItemAt old.bytes at i)
    → MatchOption next ((texts_left old ≡ []) × (texts_left new ≡ []))
    (λ i. texts_left old ≡ item_given i ∷ texts_left new)
next-given old new None same is = (ap (map (item_text old.bytes)) is.0, ap (map (item_text new.bytes)) is.1)
next-given old new (Some i) same is =
    ap (map (item_text old.bytes)) is.1
    ∙ (ap (λ x. x ∷ map (item_text old.bytes) new.items) (item-same old.bytes is.0 i is.2)
    ∙ ap (λ bytes. item_given i ∷ map (item_text bytes) new.items) (sym same))

-- all items of an entry

groups-said : (bytes : List ℕ) (groups : List Group) → map (item_text bytes) (flat_map group_items groups)
    ≡ flat_map group_texts (map (group_text bytes) groups)
groups-said bytes [] = refl
groups-said bytes (g ∷ groups) =
    map-append (item_text bytes) (group_items g) (flat_map group_items groups)
    ∙ (ap (λ xs. xs ++ map (item_text bytes) (flat_map group_items groups))
    (map-map (item_text bytes) (λ r. spans.Stable r g.minor) g.replacements
    ∙ sym (map-map (λ r. Stable r g.minor) (replacement_text bytes) g.replacements))
    ∙ ap (λ xs. group_texts (group_text bytes g) ++ xs) (groups-said bytes groups))

pub all-said : (bytes : List ℕ) (i : Items) → map (item_text bytes) (items_of i) ≡ item_texts (items_text bytes i)
all-said bytes i =
    let unstable = map spans.Unstable i.unstable in
    let unavailable = map spans.Unavailable i.unavailable in
    ap (map (item_text bytes)) (append_assoc (flat_map group_items i.groups) unstable unavailable)
    ∙ (map-append (item_text bytes) (flat_map group_items i.groups) (unstable ++ unavailable)
    ∙ (ap (λ xs. xs ++ map (item_text bytes) (unstable ++ unavailable)) (groups-said bytes i.groups)
    ∙ ap (λ xs. flat_map group_texts (map (group_text bytes) i.groups) ++ xs)
    (map-append (item_text bytes) unstable unavailable
    ∙ (ap (λ xs. xs ++ map (item_text bytes) unavailable)
    (map-map (item_text bytes) spans.Unstable i.unstable
    ∙ sym (map-map Unstable (replacement_text bytes) i.unstable))
    ∙ ap (λ xs. map Unstable (map (replacement_text bytes) i.unstable) ++ xs)
    (map-map (item_text bytes) spans.Unavailable i.unavailable
    ∙ sym (map-map Unavailable (api_text bytes) i.unavailable))))))
