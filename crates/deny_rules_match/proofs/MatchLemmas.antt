-- What entries match, by the places of crates.
use Rattle.std.proofs.Common.{◌≡◌, ◌+◌, ◌<◌, ◌≤◌, ◌++◌, ◌∷◌, [], ℕ, Bool, List, drop, filter, get_or, length, map, not}
use Rattle.std.proofs.Common.{take, refl, sym, ap, ◌∙◌, subst}
use Rattle.std.specs.Prelude.{◌&&◌, All}
use Rattle.std.proofs.Math.Bool.{and_comm}
use Rattle.std.proofs.lemmas.List.{drop_more, map-append, map_more, take_all}
use Rattle.std.proofs.lemmas.List.Elements.{All-nil, All-push, filter_agree}
use Rattle.deny_cfg.specs.PolicyView.{roots_from}
use Rattle.deny_cfg.specs.SpecView.{spec_view}
use Rattle.deny_cfg.specs.TreeSkipExtended.{TreeSkipExtended}
use Rattle.deny_cfg.specs.PackageSpecOrExtended.{PackageSpecOrExtended}
use Rattle.deny_spec.specs.Bans.{concerns, is_exempt}
use Rattle.deny_spec.specs.Graph.{Crate, Graph}
use Rattle.deny_spec.specs.Match.{matches}
use Rattle.deny_spec.specs.Policy.{Ban, Policy}
use Rattle.deny_base_lists.proofs.Agreement.{filter_on}
use Rattle.deny_base_lists.proofs.Filters.{filter-filter, filter-map}
use Rattle.deny_base_lists.proofs.Loops.{appended}
use Rattle.deny_rules_match.specs.Marks.{mark_at, marked}
use Rattle.deny_rules_match.specs.Matches.{AreBanMatches, IsBanMatch, Represent, ban_of}
use Rattle.deny_rules_match.specs.Matches.{places_concerned, root_match, spec_match}
use Rattle.deny_rules_match.specs.Placed.{ArePlaced}
use Rattle.deny_rules_match.specs.Wrappers.{AreFirstSpans}
use Rattle.deny_rules_match.specs.declared.entry_match.EntryMatch.{EntryMatch}
use Rattle.deny_rules_match.specs.declared.matches.BanMatch.{BanMatch}
use Rattle.deny_rules_match.proofs.MarkLemmas.{marked-is, places_within}
use Rattle.deny_krates.proofs.PlaceLemmas.{place_of}

-- the marked ones among the crates that pass a test, by their places
pub marked-places : (marks : List Bool) (p : Crate → Bool) (crates : List Crate)
    → filter (mark_at marks) (map place_of (filter p crates)) ≡ map place_of
    (filter (λ c. marked marks c && p c) crates)
marked-places marks p crates =
    filter-map (mark_at marks) place_of (filter p crates)
    ∙ ap (map place_of) (filter-filter p (marked marks) crates
    ∙ filter_agree (λ c. p c && marked marks c) (λ c. marked marks c && p c)
    (λ c. and_comm (p c) (marked marks c)) crates)

-- a step of a loop that appends one item for each element
pub map-step : {X Y : Type 0} (f : X → Y) (xs : List X) (x : X) (i : ℕ) (old new whole : List Y) → i < length xs
    → x ≡ get_or xs i x → new ≡ old ++ f x ∷ [] → old ++ map f (drop i xs) ≡ whole
    → new ++ map f (drop (i + 1) xs) ≡ whole
map-step f xs x i old new whole inside is =
    appended (map f) (drop i xs) (drop (i + 1) xs) (f x ∷ []) old new whole
    (ap (map f) (drop_more xs i x inside ∙ ap (λ y. y ∷ drop (i + 1) xs) (sym is)))

-- the entries of `skip-tree` match the same crates, whichever numbers they have
pub roots_are : (g : Graph) (n : ℕ) (es : List (PackageSpecOrExtended TreeSkipExtended))
    → map (λ e. spec_match g (spec_view e.spec)) es ≡ map (root_match g) (roots_from n es)
roots_are g n [] = refl
roots_are g n (e ∷ es) = ap (λ (ms : List EntryMatch). spec_match g (spec_view e.spec) ∷ ms) (roots_are g (n + 1) es)

-- the crates that an entry matches and that are not exempt are those that it concerns
pub concerned_are : (p : Policy) (g : Graph) (ban : Ban) (exempt : List Bool) → ArePlaced g.crates
    → exempt ≡ map (is_exempt p g) g.crates
    → map (λ (c : Crate). c.place) (filter (λ c. matches ban.spec c && not
    (marked exempt c)) g.crates) ≡ places_concerned p g ban
unfolding places_concerned concerns
concerned_are p g ban exempt placed marks =
    ap (map (λ (c : Crate). c.place)) (filter_on (λ c. matches ban.spec c && not (marked exempt c))
    (λ c. matches ban.spec c && not (is_exempt p g c)) g.crates
    (λ c holds. ap (λ b. matches ban.spec c && not b)
    (marked-is g.crates placed (is_exempt p g) exempt marks c holds)))

-- matches of entries, entry by entry

module _ {M E : Type 0} (entry_of : M → E) (Is : M → Type 0) where
  pub none_hold : Represent entry_of Is [] []
  none_hold = record { of = refl; each = All-nil Is }

  -- the match of one more entry, of a list that is seen by a view
  pub more_hold : {S : Type 0} (seen : S → E) (xs : List S) (i : ℕ) (x : S) (ms : List M) (m : M) → i < length xs
      → x ≡ get_or xs i x → Represent entry_of Is (map seen (take i xs)) ms → entry_of m ≡ seen x → Is m
      → Represent entry_of Is (map seen (take (i + 1) xs)) (ms ++ m ∷ [])
  more_hold seen xs i x ms m inside at so_far of is = record {
    of = map-append entry_of ms (m ∷ [])
        ∙ (ap (λ (before : List E). before ++ entry_of m ∷ []) so_far.of
        ∙ (ap (λ (e : E). map seen (take i xs) ++ e ∷ []) (of ∙ ap seen at)
        ∙ sym (map_more seen xs i x inside)));
    each = All-push Is ms m so_far.each is;
  }

  pub all_hold : {S : Type 0} (seen : S → E) (xs : List S) (i : ℕ) (ms : List M) → length xs ≤ i
      → Represent entry_of Is (map seen (take i xs)) ms → Represent entry_of Is (map seen xs) ms
  all_hold seen xs i ms over hold =
      subst (λ (ys : List _). Represent entry_of Is (map seen ys) ms) (take_all i xs over) hold

  -- a match in the list is one of its entry
  one_holds : (entries : List E) (ms shown : List M) (i : ℕ) (m : M) → Represent entry_of Is entries ms
      → shown ≡ ms → i < length shown → m ≡ get_or shown i m → Is m
  one_holds entries ms shown i m hold same inside at =
      subst Is (sym at) (subst (All Is) (sym same) hold.each i m inside)

module _ (p : Policy) (g : Graph) where
  -- a match in the list of bans is one of its ban
  pub ban_item : (bans : List Ban) (ms shown : List BanMatch) (i : ℕ) (m : BanMatch) → AreBanMatches p g bans ms
      → shown ≡ ms → i < length shown → m ≡ get_or shown i m → IsBanMatch p g m
  ban_item = one_holds ban_of (IsBanMatch p g)

  -- the places of the crates that a ban concerns are in the graph
  pub ban_within : (m : BanMatch) → ArePlaced g.crates → IsBanMatch p g m
      → All (λ place. place < length g.crates) m.places
  unfolding places_concerned
  ban_within m placed is =
      places_within g.crates placed (concerns p g (ban_of m)) m.places (length g.crates) is.places refl

  -- the first wrapper of each name of a ban
  pub ban_first : (m : BanMatch) → IsBanMatch p g m → AreFirstSpans (ban_of m).wrappers m.spans
  unfolding AreFirstSpans
  ban_first m is = is.first
