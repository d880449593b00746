-- The data of a value that borrows its texts.
use Rattle.std.specs.Prelude.{◌&&◌, ℕ, List, [], ◌∷◌, Bool, true, false, not, Option, option_and_then, option_map}
use Rattle.std.specs.Prelude.{unwrap_or}
use Rattle.std.specs.Borrow.{Bor}
use Rattle.json.specs.Json as json
use Rattle.json.specs.Json.{Json}
use Rattle.json.specs.Lex.{tokens}
use Rattle.json.specs.Value.{value_view}
use Rattle.json.specs.Value as borrowed
use Rattle.json.specs.declared.value.Value.{Value}
use Rattle.serde_json.specs.Data.{Data, null, boolean, number, string, array, object, Num, unsigned}
use Rattle.serde_json.specs.Data.{Items, no_items, item, Members, no_members, member, put}
use Rattle.serde_json.specs.Find.{is_float}
use Rattle.serde_json.specs.Read.{max_depth, number_of}

-- the data that JSON stands for, where its numbers are in range
abbrev mutual
  pub data_of : Json → Data
  data_of json.null = null
  data_of (json.boolean b) = boolean b
  data_of (json.number s) = number (unwrap_or (number_of s) (unsigned 0))
  data_of (json.string s) = string s
  data_of (json.array js) = array (items_of js)
  data_of (json.object ms) = object (members_after no_members ms)

  pub items_of : json.Items → Items
  items_of json.no_items = no_items
  items_of (json.item j js) = item (data_of j) (items_of js)

  -- of members of one name the last counts
  pub members_after : Members → json.Members → Members
  members_after found json.no_members = found
  members_after found (json.member name j ms) = members_after (put name (data_of j) found) ms

abbrev pub view : {A : Type 0} → Value A → Data
view v = data_of (value_view v)

abbrev pub items_view : {A : Type 0} → List (Value A) → Items
items_view vs = items_of (borrowed.items_view vs)

abbrev pub members_view : {A : Type 0} → List (Bor (List ℕ) × Value A) → Members
members_view ms = members_after no_members (borrowed.members_view ms)

-- the data of members that are in the order of their names
abbrev pub sorted_view : {A : Type 0} → List (Bor (List ℕ) × Bor (Value A)) → Members
sorted_view [] = no_members
sorted_view (e ∷ es) = member e.0.now (view e.1.now) (sorted_view es)

-- the JSON that a text is
abbrev pub parsed : List ℕ → Option Json
parsed text = option_and_then (λ p. json.if_last p.0 p.1) (json.value max_depth (tokens text))

-- a number is whole and within 64 bits
abbrev pub is_number_whole : Option Num → Bool
is_number_whole read = unwrap_or (option_map (λ n. not (is_float n)) read) false

abbrev pub is_whole_number : List ℕ → Bool
is_whole_number s = is_number_whole (number_of s)

-- all numbers in a JSON value are whole and within 64 bits
abbrev mutual
  pub is_whole : Json → Bool
  is_whole json.null = true
  is_whole (json.boolean b) = true
  is_whole (json.number s) = is_whole_number s
  is_whole (json.string s) = true
  is_whole (json.array js) = are_items_whole js
  is_whole (json.object ms) = are_members_whole ms

  pub are_items_whole : json.Items → Bool
  are_items_whole json.no_items = true
  are_items_whole (json.item j js) = is_whole j && are_items_whole js

  pub are_members_whole : json.Members → Bool
  are_members_whole json.no_members = true
  are_members_whole (json.member name j ms) = is_whole j && are_members_whole ms
