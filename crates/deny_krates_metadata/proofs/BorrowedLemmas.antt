-- Members, elements and texts in the data of a value that borrows its texts.
use Rattle.std.proofs.Common.{◌≡◌, ◌∙◌, ℕ, List, Bool, true, false, cond, Option, Some, None, option_map, refl}
use Rattle.std.proofs.Common.{sym, ap, true≢false}
use Rattle.std.specs.Borrow.{Bor}
use Rattle.std.specs.Str.{bytes_eq}
use Rattle.std.proofs.lemmas.Slice.Eq.{bytes_eq-Decides}
use Rattle.json.specs.Find as find
use Rattle.json.specs.Json as json
use Rattle.json.specs.Json.{Json}
use Rattle.json.specs.Value.{value_view}
use Rattle.json.specs.declared.value.Value.{Value}
use Rattle.serde_json.specs.Data.{Data, Members, no_members, put}
use Rattle.serde_json.specs.Find.{get, get_member}
use Rattle.serde_json.proofs.Views.{get_member-put, get_member-put_other}
use Rattle.deny_krates_metadata.specs.private.Borrowed.{data_of, members_after, view}

pub view-value_view : {A : Type 0} (r : Option (Bor (Value A)))
    → option_map (λ v. view v.now) r ≡ option_map data_of (option_map (λ v. value_view v.now) r)
view-value_view None = refl
view-value_view (Some v) = refl

-- the member that was found last, or else the one that was found before
abbrev later : Option Json → Option Data → Option Data
later None before = before
later (Some j) before = Some (data_of j)

later_twice : (o p : Option Json) (before : Option Data)
    → later o (later p before) ≡ later (find.later_or o p) before
later_twice None p before = refl
later_twice (Some j) p before = refl

put_then : (b : Bool) (name key : List ℕ) (j : Json) (found : Members) → bytes_eq key name ≡ b
    → get_member name (put key (data_of j) found) ≡ later (cond b (Some j) None) (get_member name found)
put_then true name key j found same =
    ap (λ k. get_member k (put key (data_of j) found)) (sym ((bytes_eq-Decides key name).0 same))
    ∙ get_member-put key (data_of j) found
put_then false name key j found apart =
    get_member-put_other name key (data_of j) found
    (λ e. true≢false (sym ((bytes_eq-Decides key name).1 (sym e)) ∙ apart))

member_after : (name : List ℕ) (found : Members) (ms : json.Members)
    → get_member name (members_after found ms) ≡ later (find.get_member name ms) (get_member name found)
member_after name found json.no_members = refl
member_after name found (json.member key j ms) =
    member_after name (put key (data_of j) found) ms
    ∙ (ap (later (find.get_member name ms)) (put_then (bytes_eq key name) name key j found refl)
    ∙ later_twice (find.get_member name ms) (cond (bytes_eq key name) (Some j) None) (get_member name found))

mapped : (o : Option Json) → later o None ≡ option_map data_of o
mapped None = refl
mapped (Some j) = refl

-- the last member of a name is the one that the data has
pub get-data_of : (name : List ℕ) (j : Json) → get name (data_of j) ≡ option_map data_of (find.get name j)
get-data_of name json.null = refl
get-data_of name (json.boolean b) = refl
get-data_of name (json.number s) = refl
get-data_of name (json.string s) = refl
get-data_of name (json.array js) = refl
get-data_of name (json.object ms) = member_after name no_members ms ∙ mapped (find.get_member name ms)
