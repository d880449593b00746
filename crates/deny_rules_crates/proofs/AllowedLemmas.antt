-- The keys of the allow list are those that the code adds.
use Rattle.std.proofs.Common.{◌≡◌, ◌+◌, ◌++◌, ◌<◌, ℕ, Bool, true, false, not, List, [], ◌∷◌, filter, get_or, length}
use Rattle.std.proofs.Common.{map, take, refl, sym, ap, ◌∙◌, arith}
use Rattle.std.specs.Prelude.{◌&&◌, ◌||◌, ◌==◌}
use Rattle.std.specs.List.{flat_map, list_any, range_with_len}
use Rattle.std.proofs.lemmas.Bool.{ne_eqb}
use Rattle.std.proofs.lemmas.Simd.{map-map}
use Rattle.deny_base.specs.declared.code.Code.TheVariants.{Allowed, NotAllowed}
use Rattle.deny_spec.specs.Bans.{allowed_keys_of, is_exempt, is_not_allowed, not_allowed_keys}
use Rattle.deny_spec.specs.Graph.{Crate, Graph}
use Rattle.deny_spec.specs.Keys.{crate_key, no_span}
use Rattle.deny_spec.specs.Match.{matches}
use Rattle.deny_spec.specs.Policy.{AllowEntry, Policy}
use Rattle.deny_base_lists.proofs.Agreement.{filter_on}
use Rattle.deny_rules_crates.specs.private.Allowed.{allows, is_unmarked}
use Rattle.deny_rules_match.specs.Marks.{mark_at, marked}
use Rattle.deny_rules_match.specs.Placed.{ArePlaced}
use Rattle.deny_base_lists.proofs.Filters.{filter-filter, filter-map, filter-none}
use Rattle.deny_rules_match.proofs.MarkLemmas.{any_next_view, marked-is}
use Rattle.deny_krates.proofs.PlaceLemmas.{place_of}

pub allowed_are : (g : Graph) (e : AllowEntry) (places : List ℕ) → places ≡ map place_of (filter (matches e.spec) g.crates)
    → map (λ place. crate_key Allowed place e.spec.span) places ≡ allowed_keys_of g e
unfolding allowed_keys_of
allowed_are g e places are =
    ap (map (λ place. crate_key Allowed place e.spec.span)) are
    ∙ map-map (λ place. crate_key Allowed place e.spec.span) place_of (filter (matches e.spec) g.crates)

-- the marks and the keys of one more entry
pub no_entry : (crates : List Crate) → map (λ c. false) crates ≡ map (allows []) crates
unfolding allows
no_entry crates = refl

pub allows-more : {X : Type 0} (view : X → AllowEntry) (xs : List X) (x : X) (i : ℕ) → i < length xs → x ≡ get_or xs i x
    → (c : Crate) → allows (map view (take (i + 1) xs)) c ≡ (allows (map view (take i xs)) c || matches (view x).spec c)
unfolding allows
allows-more view xs x i inside is c = any_next_view view (λ e. matches e.spec c) xs i x inside is

-- the crates that are left are neither allowed nor exempt
pub left_are : (crates : List Crate) (allowed exempt : List Bool) (places left : List ℕ) (size : ℕ) → ArePlaced crates
    → places ≡ range_with_len 0 size → size ≡ length crates
    → left ≡ filter (λ place. not (mark_at exempt place)) (filter (λ place. not (mark_at allowed place)) places)
    → map (λ place. crate_key NotAllowed place no_span) left ≡ map (λ (c : Crate). crate_key NotAllowed c.place no_span)
    (filter (is_unmarked allowed exempt) crates)
unfolding is_unmarked
left_are crates allowed exempt places left size placed all long is =
    let ours : places ≡ map place_of crates = all ∙ (ap (range_with_len 0) long ∙ sym placed.places) in
    let kept : left ≡ map place_of (filter (is_unmarked allowed exempt) crates) =
    is
    ∙ (ap (λ ps. filter (λ place. not (mark_at exempt place)) (filter (λ place. not (mark_at allowed place)) ps)) ours
    ∙ (ap (filter (λ place. not (mark_at exempt place)))
    (filter-map (λ place. not (mark_at allowed place)) place_of crates)
    ∙ (filter-map (λ place. not (mark_at exempt place)) place_of (filter (λ (c : Crate). not (marked allowed c)) crates)
    ∙ ap (map place_of) (filter-filter (λ (c : Crate). not (marked allowed c))
    (λ c. not (marked exempt c)) crates)))) in
    ap (map (λ place. crate_key NotAllowed place no_span)) kept
    ∙ map-map (λ place. crate_key NotAllowed place no_span) place_of (filter (is_unmarked allowed exempt) crates)

-- a policy without an allow list has no keys of it
bare_list : (p : Policy) (g : Graph) (es : List AllowEntry) → length es ≡ 0 → flat_map (allowed_keys_of g) es ≡ []
bare_list p g [] none = refl
bare_list p g (e ∷ es) none = absurd (omega (arith, none))

no_list : (n : ℕ) → n ≡ 0 → not (n == 0) ≡ false
no_list n none = ap (λ m. not (m == 0)) none

pub nothing_allowed : (p : Policy) (g : Graph) → length p.allow ≡ 0
    → flat_map (allowed_keys_of g) p.allow ++ not_allowed_keys p g ≡ []
unfolding not_allowed_keys is_not_allowed
nothing_allowed p g none =
    ap (λ ks. ks ++ not_allowed_keys p g) (bare_list p g p.allow none)
    ∙ ap (map (λ (c : Crate). crate_key NotAllowed c.place no_span))
    (filter-none (is_not_allowed p g) g.crates (λ c. ap (λ b. b && (not (list_any
    (λ (e : AllowEntry). matches e.spec c) p.allow) && not (is_exempt p g c))) (no_list (length p.allow) none)))

-- a policy with an allow list has the keys of its entries and of the crates that are left
some_list : (n : ℕ) → (n ≡ 0 → ⊥) → not (n == 0) ≡ true
some_list n some = ap not (ne_eqb n 0 some)

pub not_allowed_are : (p : Policy) (g : Graph) (allowed exempt : List Bool) → ArePlaced g.crates
    → (length p.allow ≡ 0 → ⊥) → allowed ≡ map (allows p.allow) g.crates → exempt ≡ map (is_exempt p g) g.crates
    → map (λ (c : Crate). crate_key NotAllowed c.place no_span)
    (filter (is_unmarked allowed exempt) g.crates) ≡ not_allowed_keys p g
unfolding not_allowed_keys is_not_allowed is_unmarked allows
not_allowed_are p g allowed exempt placed some allowing exempting =
    ap (map (λ (c : Crate). crate_key NotAllowed c.place no_span))
    (filter_on (is_unmarked allowed exempt) (is_not_allowed p g) g.crates
    (λ c holds.
    ap (λ b. not b && not (marked exempt c)) (marked-is g.crates placed (allows p.allow) allowed allowing c holds)
    ∙ (ap (λ b. not (allows p.allow c) && not b) (marked-is g.crates placed (is_exempt p g) exempt exempting c holds)
    ∙ ap (λ b. b && (not (allows p.allow c) && not (is_exempt p g c))) (sym (some_list (length p.allow) some)))))
