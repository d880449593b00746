-- Crates by their ids and by their places.
use Rattle.std.proofs.Common.{◌≡◌, ◌∙◌, ◌<◌, ℕ, Bool, true, false, List, Option, None, Some, ap, arith, get_or, length}
use Rattle.std.proofs.Common.{refl, subst, sym}
use Rattle.std.specs.Prelude.{◌≢◌, AllPairs, IfSome, MatchOption, option_map, slice_get}
use Rattle.std.proofs.lemmas.List.Folds.{find_at}
use Rattle.std.proofs.lemmas.List.Sums.{position_or_len_is}
use Rattle.std.proofs.lemmas.Option.{get_or_from_slice_get, same_Some, slice_get_within}
use Rattle.std.proofs.lemmas.Slice.Eq.{bytes_eq-Decides}
use Rattle.deny_krates.proofs.ResolutionLemmas.{crates-at}
use Rattle.deny_krates.specs.Crates.{crate_view, crates_from}
use Rattle.deny_krates.specs.Ids.{crate_of}
use Rattle.deny_krates.specs.krate.Krate.{Krate}
use Rattle.deny_base_lists.proofs.Members.{there}
use Rattle.deny_base_lists.proofs.Finding.{found_member}
use Rattle.deny_spans_manifest.specs.Manifest.{IsOwn}
use Rattle.deny_spec.specs.Graph.{Crate, Graph}
use Rattle.deny_spec.specs.Text.{same_text}
use Rattle.deny_spans.specs.private.Found.{OccursAt}

differ : (a b : List ℕ) → a ≢ b → same_text a b ≡ false
differ a b apart = by_test (same_text a b) refl
  where
    by_test : (t : Bool) → same_text a b ≡ t → same_text a b ≡ false
    by_test true is = absurd (apart ((bytes_eq-Decides a b).0 is))
    by_test false is = is

-- a crate is found by its id
pub crate_found : (g : Graph) (place : ℕ) (c : Crate) → AllPairs (λ c d. c.id ≢ d.id) g.crates
    → slice_get g.crates place ≡ Some c → crate_of g c.id ≡ Some c
crate_found g place c ids at =
    let inside : place < length g.crates = slice_get_within g.crates place c at in
    let here : get_or g.crates place c ≡ c = get_or_from_slice_get g.crates place c c at in
    find_at (λ (d : Crate). same_text d.id c.id) g.crates
    ∙ ap (slice_get g.crates) (position_or_len_is (λ (d : Crate). same_text d.id c.id) g.crates place c (omega arith)
    (λ k below. differ (get_or g.crates k c).id c.id
    (λ same. ids k place c below inside (same ∙ sym (ap (λ (d : Crate). d.id) here))))
    (λ _. (bytes_eq-Decides (get_or g.crates place c).id c.id).1 (ap (λ (d : Crate). d.id) here)))
    ∙ at

pub own_is : (g : Graph) (place : ℕ) (k : Krate) → AllPairs (λ c d. c.id ≢ d.id) g.crates
    → slice_get g.crates place ≡ Some (crate_view place k) → IsOwn g k
own_is g place k ids at = subst (λ (o : Option Crate). IfSome o (λ c. c ≡ crate_view c.place k))
    (sym (crate_found g place (crate_view place k) ids at)) refl

-- each crate bears the number of its place
pub placed : (ks : List Krate) (crates : List Crate) (k : ℕ) (c : Crate) → crates_from 0 ks ≡ crates
    → slice_get crates k ≡ Some c → c.place ≡ k
placed ks crates k c are at = by_krate (slice_get ks k)
    (sym (crates-at ks k) ∙ ap (λ (cs : List Crate). slice_get cs k) are ∙ at)
  where
    by_krate : (o : Option Krate) → option_map (crate_view k) o ≡ Some c → c.place ≡ k
    by_krate None is = absurd (cc is)
    by_krate (Some krate) is =
        let same : crate_view k krate ≡ c = same_Some (crate_view k krate) c is in
        ap (λ (d : Crate). d.place) (sym same)

-- the place that is found for an id is that of its crate
pub place_is : (own g : Graph) (ks : List Krate) (id : List ℕ) (r : Option ℕ) → own ≡ g → crates_from 0 ks ≡ own.crates
    → r ≡ option_map (λ c. c.place) (crate_of own id) → MatchOption r (crate_of g id ≡ None) (OccursAt g id)
place_is own g ks id r same crates is =
    subst (λ (h : Graph). MatchOption r (crate_of h id ≡ None) (OccursAt h id)) same
    (subst (λ (o : Option ℕ). MatchOption o (crate_of own id ≡ None) (OccursAt own id)) (sym is)
    (by_crate (crate_of own id) refl))
  where
    by_crate : (o : Option Crate) → crate_of own id ≡ o
        → MatchOption (option_map (λ (c : Crate). c.place) o) (crate_of own id ≡ None) (OccursAt own id)
    by_crate None e = e
    by_crate (Some c) e =
        let at = there own.crates c (found_member (λ (d : Crate). same_text d.id id) own.crates c e) in
        let place : c.place ≡ at.0 = placed ks own.crates at.0 c crates at.1 in
        record {
          crate = c;
          found = e;
          at = subst (λ (n : ℕ). slice_get own.crates n ≡ Some c) (sym place) at.1;
          is = refl;
        }
