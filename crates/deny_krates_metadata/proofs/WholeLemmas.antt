-- When the data of JSON is what it reads as: always where it reads, and where its numbers are whole.
use Rattle.std.proofs.Common.{◌≡◌, ◌∙◌, ◌&&◌, ℕ, List, Bool, true, false, Option, Some, None, Ok, Err, refl}
use Rattle.std.proofs.Common.{refl, sym, ap, subst, true≢false, option_map, option_and_then}
use Rattle.std.proofs.Common.{Ordering, Less, Equal, Greater}
use Rattle.std.specs.Prelude.{◌||◌, ⊤, if◌then◌else◌, unwrap_or}
use Rattle.std.specs.Ordering.{match_ordering, nat_cmp}
use Rattle.std.specs.Cmp.Lexicographic.{slice_cmp}
use Rattle.std.specs.Str.{is_utf8}
use Rattle.json.specs.Json as json
use Rattle.json.specs.Json.{Json}
use Rattle.serde_json.specs.Data.{Data, Num, Members, number, array, object, unsigned, negative, float, item}
use Rattle.serde_json.specs.Data.{no_members, member, put}
use Rattle.serde_json.specs.Read.{number_of, of_items, of_json, of_members, read}
use Rattle.serde_json.specs.Written.{has_float, items_have_float, members_have_float}
use Rattle.deny_krates_metadata.specs.Document.{document_at, json_at, json_of, value_at, whole}
use Rattle.deny_krates_metadata.specs.private.Borrowed.{are_items_whole, are_members_whole, data_of, is_number_whole}
use Rattle.deny_krates_metadata.specs.private.Borrowed.{is_whole, items_of, members_after, parsed}
use Rattle.deny_base_lists.specs.Reader.{Fails, IsFault}
use Rattle.deny_krates_metadata.specs.declared.fault.MetadataFault.{MetadataFault}
use Rattle.deny_krates_metadata.specs.declared.fault.MetadataFault.TheVariants.{Json as NoJson, Float, Memory}
use Rattle.deny_base_lists.proofs.ReaderLemmas.{bound, fails_weaker}
use Rattle.deny_base_lists.proofs.Results.{err_is_no_ok, ok_inj}

-- what is read is this, if anything
abbrev Is : {A : Type 0} → Option A → A → Type 0
Is None x = ⊤
Is (Some y) x = y ≡ x

is_map : {A B : Type 0} (f : A → B) (o : Option A) (x : A) → Is o x → Is (option_map f o) (f x)
is_map f None x is = tt
is_map f (Some y) x is = ap f is

is_then : {A B : Type 0} (f : A → Option B) (o : Option A) (x : A) (y : B) → Is o x → Is (f x) y
    → Is (option_and_then f o) y
is_then f None x y is next = tt
is_then f (Some z) x y is next = subst (λ w. Is (f w) y) (sym is) next

is_number : (o : Option Num) → Is (option_map number o) (number (unwrap_or o (unsigned 0)))
is_number None = tt
is_number (Some n) = refl

mutual
  is_data : (j : Json) → Is (of_json j) (data_of j)
  is_data json.null = refl
  is_data (json.boolean b) = refl
  is_data (json.number s) = is_number (number_of s)
  is_data (json.string s) = refl
  is_data (json.array js) = is_map array (of_items js) (items_of js) (is_items js)
  is_data (json.object ms) = is_map object (of_members ms no_members) (members_after no_members ms)
      (is_members ms no_members)

  is_items : (js : json.Items) → Is (of_items js) (items_of js)
  is_items json.no_items = refl
  is_items (json.item j js) = is_then (λ d. option_map (item d) (of_items js)) (of_json j) (data_of j)
      (item (data_of j) (items_of js)) (is_data j) (is_map (item (data_of j)) (of_items js) (items_of js) (is_items js))

  is_members : (ms : json.Members) (found : Members) → Is (of_members ms found) (members_after found ms)
  is_members json.no_members found = refl
  is_members (json.member name j ms) found = is_then (λ d. of_members ms (put name d found)) (of_json j) (data_of j)
      (members_after (put name (data_of j) found) ms) (is_data j) (is_members ms (put name (data_of j) found))

some_is : {A : Type 0} (o : Option A) (x y : A) → Is o x → o ≡ Some y → y ≡ x
some_is None x y is e = absurd (cc)
some_is (Some z) x y is e = subst (λ (o : Option _). Is o x) e is

-- both operands of a true conjunction are true
both : (a b : Bool) → a && b ≡ true → (a ≡ true) × (b ≡ true)
both true b e = (refl, e)
both false b e = absurd (true≢false (sym e))

neither : (a b : Bool) → a ≡ false → b ≡ false → a || b ≡ false
neither a b x y = rw (x, y) refl

put_apart : (o : Ordering) (a b c : Members) → members_have_float a ≡ false → members_have_float b ≡ false
    → members_have_float c ≡ false → members_have_float (match_ordering o a b c) ≡ false
put_apart Less a b c x y z = x
put_apart Equal a b c x y z = y
put_apart Greater a b c x y z = z

first_none : (a b : Bool) → a || b ≡ false → a ≡ false
first_none true b e = absurd (true≢false e)
first_none false b e = refl

second_none : (a b : Bool) → a || b ≡ false → b ≡ false
second_none true b e = absurd (true≢false e)
second_none false b e = e

put_none : (k : List ℕ) (d : Data) (ms : Members) → has_float d ≡ false → members_have_float ms ≡ false
    → members_have_float (put k d ms) ≡ false
put_none k d no_members x y = neither (has_float d) false x refl
put_none k d (member l e ms) x y =
    let here = first_none (has_float e) (members_have_float ms) y in
    let rest = second_none (has_float e) (members_have_float ms) y in
    put_apart (slice_cmp nat_cmp k l) (member k d (member l e ms)) (member l d ms) (member l e (put k d ms))
    (neither (has_float d) (has_float e || members_have_float ms) x y)
    (neither (has_float d) (members_have_float ms) x rest)
    (neither (has_float e) (members_have_float (put k d ms)) here (put_none k d ms x rest))

-- read, and without a number that is not whole
abbrev Holds : {A : Type 0} → (A → Bool) → Option A → A → Type 0
Holds has o x = (o ≡ Some x) × (has x ≡ false)

whole_num : (o : Option Num) → is_number_whole o ≡ true
    → Holds has_float (option_map number o) (number (unwrap_or o (unsigned 0)))
whole_num None e = absurd (true≢false (sym e))
whole_num (Some (unsigned n)) e = (refl, refl)
whole_num (Some (negative z)) e = (refl, refl)
whole_num (Some (float x)) e = absurd (true≢false (sym e))

holds_map : {A B : Type 0} (has : A → Bool) (had : B → Bool) (f : A → B) (o : Option A) (x : A)
    → had (f x) ≡ has x → Holds has o x → Holds had (option_map f o) (f x)
holds_map has had f o x same holds = (ap (option_map f) holds.0, same ∙ holds.1)

mutual
  whole_data : (j : Json) → is_whole j ≡ true → Holds has_float (of_json j) (data_of j)
  whole_data json.null e = (refl, refl)
  whole_data (json.boolean b) e = (refl, refl)
  whole_data (json.number s) e = whole_num (number_of s) e
  whole_data (json.string s) e = (refl, refl)
  whole_data (json.array js) e = holds_map items_have_float has_float array (of_items js) (items_of js) refl
      (whole_items js e)
  whole_data (json.object ms) e = holds_map members_have_float has_float object (of_members ms no_members)
      (members_after no_members ms) refl (whole_members ms no_members refl e)

  whole_items : (js : json.Items) → are_items_whole js ≡ true → Holds items_have_float (of_items js) (items_of js)
  whole_items json.no_items e = (refl, refl)
  whole_items (json.item j js) e =
      let each = both (is_whole j) (are_items_whole js) e in
      let here = whole_data j each.0 in
      let rest = whole_items js each.1 in (
        ap (option_and_then (λ d. option_map (item d) (of_items js))) here.0
            ∙ ap (option_map (item (data_of j))) rest.0,
        neither (has_float (data_of j)) (items_have_float (items_of js)) here.1 rest.1,
      )

  whole_members : (ms : json.Members) (found : Members) → members_have_float found ≡ false
      → are_members_whole ms ≡ true → Holds members_have_float (of_members ms found) (members_after found ms)
  whole_members json.no_members found none e = (refl, none)
  whole_members (json.member name j ms) found none e =
      let each = both (is_whole j) (are_members_whole ms) e in
      let here = whole_data j each.0 in
      let rest = whole_members ms (put name (data_of j) found) (put_none name (data_of j) found here.1 none) each.1 in (
        ap (option_and_then (λ d. of_members ms (put name d found))) here.0 ∙ rest.0,
        rest.1,
      )

-- where the numbers are whole, a text that parses has the data of its JSON
pub value_whole : (bytes : List ℕ) (j : Json) → is_utf8 bytes ≡ true → parsed bytes ≡ Some j → is_whole j ≡ true
    → value_at bytes ≡ Ok (data_of j)
unfolding value_at json_at json_of whole
value_whole bytes j utf8 is e =
    let holds = whole_data j e in
    let reads : read bytes ≡ Some (data_of j) = ap (option_and_then of_json) is ∙ holds.0 in
    rw (utf8, reads, holds.1) refl

whole_by : (b : Bool) (d x : Data) → (if b then Err Float else Ok x) ≡ Ok d → x ≡ d
whole_by true d x e = err_is_no_ok e
whole_by false d x e = ok_inj e

whole_is : (d x : Data) → whole x ≡ Ok d → x ≡ d
unfolding whole
whole_is d x e = whole_by (has_float x) d x e

json_by : (o : Option Data) (x : Data) → json_of o ≡ Ok x → o ≡ Some x
unfolding json_of
json_by None x e = err_is_no_ok e
json_by (Some y) x e = ap (λ z. Some z) (ok_inj e)

json_if : (b : Bool) (o : Option Data) (x : Data) → (if b then json_of o else Err NoJson) ≡ Ok x → o ≡ Some x
json_if true o x e = json_by o x e
json_if false o x e = err_is_no_ok e

json_is : (bytes : List ℕ) (x : Data) → json_at bytes ≡ Ok x → read bytes ≡ Some x
unfolding json_at
json_is bytes x e = json_if (is_utf8 bytes) (read bytes) x e

reads_as : (bytes : List ℕ) (j : Json) (d : Data) → parsed bytes ≡ Some j → value_at bytes ≡ Ok d → d ≡ data_of j
unfolding value_at
reads_as bytes j d is e =
    let step = bound (json_at bytes) whole d e in
    let reads : of_json j ≡ Some step.0 = sym (ap (option_and_then of_json) is) ∙ json_is bytes step.0 step.1 in
    sym (whole_is d step.0 step.2) ∙ some_is (of_json j) (data_of j) step.0 (is_data j) reads

-- a text that parses has no other value than the data of its JSON
pub value_is : (bytes : List ℕ) (j : Json) (d : Data) → parsed bytes ≡ Some j → value_at bytes ≡ Ok d
    → value_at bytes ≡ Ok (data_of j)
value_is bytes j d is e = e ∙ ap (λ x. Ok x) (reads_as bytes j d is e)

no_json : (bytes : List ℕ) → is_utf8 bytes ≡ true → parsed bytes ≡ None → value_at bytes ≡ Err NoJson
unfolding value_at json_at json_of whole
no_json bytes utf8 none =
    let reads : read bytes ≡ None = ap (option_and_then of_json) none in
    rw (utf8, reads) refl

-- a text that does not parse has the fault `Json`
pub parse_fails : (bytes : List ℕ) (e : MetadataFault) → is_utf8 bytes ≡ true
    → Fails Memory (λ f. (f ≡ NoJson) × (parsed bytes ≡ None)) e → Fails Memory (IsFault (value_at bytes)) e
parse_fails bytes e utf8 =
    fails_weaker Memory (λ f. (f ≡ NoJson) × (parsed bytes ≡ None)) (IsFault (value_at bytes)) e
    (λ f fault. subst (IsFault (value_at bytes)) (sym fault.0) (no_json bytes utf8 fault.1))

pub no_text : (bytes : List ℕ) → is_utf8 bytes ≡ false → document_at bytes ≡ Err NoJson
unfolding document_at value_at json_at
no_text bytes isnt = rw isnt refl
