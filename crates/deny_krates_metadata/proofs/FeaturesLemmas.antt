-- The features of a package, read member by member in the order of their names.
use Rattle.std.proofs.Common.{◌≡◌, ◌∙◌, ◌<◌, ◌+◌, ℕ, List, [], ◌∷◌, Ok, length, drop, refl, add-one}
use Rattle.std.proofs.Common.{Ordering, Less, Equal, Greater}
use Rattle.std.proofs.Math.Seq.{drop-cons}
use Rattle.std.specs.Borrow.{Bor}
use Rattle.std.specs.BTreeMap.{insert_entry}
use Rattle.std.specs.Cmp.Lexicographic.{slice_cmp}
use Rattle.std.specs.Ordering.{match_ordering, nat_cmp}
use Rattle.std.specs.Prelude.{slice_index_or}
use Rattle.json.specs.Value as borrowed
use Rattle.json.specs.declared.value.Value.{Value}
use Rattle.serde_json.specs.Data.{Members, no_members, put}
use Rattle.deny_krates_metadata.specs.Document.{feature_at, features_from}
use Rattle.deny_krates_metadata.specs.private.Borrowed.{members_after, sorted_view, view}
use Rattle.deny_base_lists.specs.Reader.{◌>>=◌}

-- an entry of a map of members by their names
abbrev pub Sorted : Type 0 → Type 0
Sorted A = Bor (List ℕ) × Bor (Value A)

pub next_feature : {A : Type 0} (path : List ℕ) (e : Sorted A) (es : List (Sorted A))
    → features_from path (sorted_view (e ∷ es)) ≡ feature_at path e.0.now (view e.1.now)
    >>= (λ feature. features_from path (sorted_view es) >>= (λ features. Ok (feature ∷ features)))
unfolding features_from
next_feature path e es = refl

pub no_more_features : (path : List ℕ) → features_from path no_members ≡ Ok []
unfolding features_from
no_more_features path = refl

sorted_by : {A : Type 0} (o : Ordering) (a b c : List (Sorted A))
    → sorted_view (match_ordering o a b c) ≡ match_ordering o (sorted_view a) (sorted_view b) (sorted_view c)
sorted_by Less a b c = refl
sorted_by Equal a b c = refl
sorted_by Greater a b c = refl

-- the data of a map with one member more is the data of the map with that member put in
pub sorted_insert : {A : Type 0} (es : List (Sorted A)) (k : Bor (List ℕ)) (v : Bor (Value A))
    → sorted_view (insert_entry (λ (x y : Bor (List ℕ)). slice_cmp nat_cmp x.now y.now) es k v)
    ≡ put k.now (view v.now) (sorted_view es)
sorted_insert [] k v = refl
sorted_insert (e ∷ es) k v = sorted_by (slice_cmp nat_cmp k.now e.0.now) _ _ _ ∙ rw (sorted_insert es k v) refl

-- the data of the members from an index on, given the data of those before it
pub next_member : {A : Type 0} (ms : List (Bor (List ℕ) × Value A)) (i : ℕ) (m : Bor (List ℕ) × Value A)
    (found : Members)
    → i < length ms → m ≡ slice_index_or ms i m
    → members_after found (borrowed.members_view (drop i ms))
    ≡ members_after (put m.0.now (view m.1) found) (borrowed.members_view (drop (i + 1) ms))
next_member ms i m found inside is = rw (drop-cons ms i m inside, ← is, add-one) refl
