-- A set with one more glob, and the globs that it finds.
use Rattle.std.proofs.Common.{◌≡◌, ◌≢◌, ℕ, zero, suc, ◌+◌, ◌*◌, ◌^◌, ◌<◌, ◌≤◌, List, [], ◌∷◌, ◌++◌, length, map, Bool}
use Rattle.std.proofs.Common.{true, false, refl, sym, ap, subst, inl, inr, ◌∙◌, arith, append-nil}
use Rattle.std.specs.Prelude.{◌⊎◌, ◌↔◌, Option, Some, None, Contains, IsSomeAnd, slice_get, if◌then◌else◌}
use Rattle.std.specs.Option.{option_map}
use Rattle.std.specs.Cmp.Lexicographic.{nat_list_cmp_total}
use Rattle.std.proofs.lemmas.Bool.{cases_eq, false≢true}
use Rattle.std.proofs.lemmas.Cmp.{nat_cmp_total}
use Rattle.std.proofs.lemmas.Nat.{mul-le}
use Rattle.std.proofs.lemmas.Option.{slice_get-map, slice_get_read}
use Rattle.std.proofs.lemmas.List.{length-map}
use Rattle.std.proofs.lemmas.List.Sums.{sum_by-append, sum_by-cons}
use Rattle.std.specs.Ordering.{nat_cmp}
use Rattle.std.proofs.lemmas.Map.Keys.{IsStrictlyIncreasing-from_sorted}
use Rattle.deny_base_lists.proofs.Sorted.{length-ascending}
use Rattle.deny_base_lists.specs.Ascending.{Lists}
use Rattle.deny_base_lists.proofs.Indices.{slice_get-push_cases, slice_get-push_left, slice_get-push_last}
use Rattle.deny_base_lists.proofs.Options.{none_is_no_some, some_inj}
use Rattle.deny_base_lists.proofs.Members.{contains_none}
use Rattle.deny_globs.specs.declared.extensions.GlobExtension.{GlobExtension}
use Rattle.deny_globs.specs.declared.starts.Starts.{Starts}
use Rattle.deny_globs.specs.declared.token.Token.{Token}
use Rattle.deny_globs.specs.declared.token.Token.TheVariants.{Alternatives}
use Rattle.deny_globs.specs.declared.state.GlobState.{GlobState}
use Rattle.deny_globs.specs.declared.state.GlobState.TheVariants.{End}
use Rattle.deny_globs.specs.private.Compiled.{Grows, IsPushed, IsBuilt, Represents, AddsStates}
use Rattle.deny_globs.specs.Fits.{Fits, nothing}
use Rattle.deny_globs.specs.Index.{name_of, IsIndexed, AreCompiled}
use Rattle.deny_globs.specs.private.Index.{IsGap, IsExtended, FitsSimply}
use Rattle.deny_globs.specs.private.Index.{NotesNamed, BoundsNamed, BoundsSimple, Indexes}
use Rattle.deny_globs.specs.Patterns.{Pattern, characters_of, tokens_of}
use Rattle.deny_globs.specs.Sets.{FitsAt, is_simple, extension_of, AsksFor, FitsOther, HasExtensions, weight, weight_of}
use Rattle.deny_globs.specs.Sets.{KeepsBound}
use Rattle.deny_globs.specs.private.Sets.{AreFitting}
use Rattle.deny_globs.specs.Starts.{Starting, SomeStarts}
use Rattle.deny_globs.specs.private.Starts.{AddsStart, KeepsStarts}
use Rattle.deny_globs.specs.States.{Leads, ends}
use Rattle.deny_globs.specs.private.States.{end_of}
use Rattle.deny_globs.specs.Tree.{IsGlob}
use Rattle.deny_globs.specs.private.Walk.{Notes}
use Rattle.deny_globs.proofs.BuildLemmas.{grows_on, grows_push, length_grown, length_pushed, leads_grown, leads_ungrown}
use Rattle.deny_globs.proofs.BuildLemmas.{pushed_at}
use Rattle.deny_globs.proofs.FitsLemmas.{nothing_fits, split_list}
use Rattle.deny_globs.proofs.FormLemmas.{one_from_fits, none_fits}
use Rattle.deny_globs.proofs.GlobSizes.{glob_states}
use Rattle.deny_globs.proofs.IndexLemmas.{no_asks, indexed_simple, indexed_other}
use Rattle.deny_globs.proofs.MarkedLemmas.{contains_in}
use Rattle.deny_globs.proofs.SimpleLemmas.{simple_fits}
use Rattle.deny_globs.proofs.StartLemmas.{none_start, tree_none}
use Rattle.deny_globs.proofs.StateLemmas.{Turn, ended, took, moved, turn}
use Rattle.deny_globs.proofs.WalkLemmas.{notes_same, notes_on, notes_none}

globs_more : (globs : List Pattern) (glob : Pattern) → IsGlob (characters_of glob) (tokens_of glob)
    → ((i : ℕ) (g : Pattern) → slice_get globs i ≡ Some g → IsGlob (characters_of g) (tokens_of g)) →
    (i : ℕ) (g : Pattern) → slice_get (globs ++ glob ∷ []) i ≡ Some g → IsGlob (characters_of g) (tokens_of g)
globs_more globs glob own old i g e = elim (slice_get-push_cases globs glob i e) [
  | inl h ↦ old i g h
  | inr same ↦ subst (λ p. IsGlob (characters_of p) (tokens_of p)) (sym same.1) own
]

-- ---- weights

weight_more : (globs : List Pattern) (glob : Pattern) → weight_of (globs ++ glob ∷ []) ≡ weight_of globs + weight glob
weight_more globs glob = omega (arith, sum_by-append weight globs (glob ∷ []), sum_by-cons weight glob [])

weight_other : (glob : Pattern) → is_simple (characters_of glob) ≡ false
    → weight glob ≡ 2 * length (characters_of glob) + 2
weight_other glob isnt = ap (λ b. if b then 0 else 2 * length (characters_of glob) + 2) isnt

-- ---- globs that fit and are not simple

other_more : (globs : List Pattern) (glob : Pattern) (i : ℕ) (path : List ℕ) → FitsOther globs i path
    → FitsOther (globs ++ glob ∷ []) i path
other_more globs glob i path h = record
    { glob = h.glob; at = slice_get-push_left globs glob i h.at; not_simple = h.not_simple; fits = h.fits }

other_cases : (globs : List Pattern) (glob : Pattern) (i : ℕ) (path : List ℕ) → FitsOther (globs ++ glob ∷ []) i path →
    FitsOther globs i path ⊎
    ((i ≡ length globs) × (is_simple (characters_of glob) ≡ false) × Fits (tokens_of glob) path)
other_cases globs glob i path h = elim (slice_get-push_cases globs glob i h.at) [
  | inl old ↦ inl (record { glob = h.glob; at = old; not_simple = h.not_simple; fits = h.fits })
  | inr new ↦ inr (
    new.0,
    ap (λ g. is_simple (characters_of g)) (sym new.1) ∙ h.not_simple,
    subst (λ g. Fits (tokens_of g) path) new.1 h.fits,
  )
]

compiled_simple : (globs : List Pattern) (glob : Pattern) (states : List GlobState) (starts : Starts)
    → IsGlob (characters_of glob) (tokens_of glob) → is_simple (characters_of glob) ≡ true →
    AreCompiled globs states starts → AreCompiled (globs ++ glob ∷ []) states starts
compiled_simple globs glob states starts own is x = record {
  globs_are = globs_more globs glob own x.globs_are;
  program = x.program;
  are = x.are;
  within = x.within;
  leads = λ i path. (
    λ s. other_more globs glob i path ((x.leads i path).0 s),
    λ h. (x.leads i path).1 (old i path (other_cases globs glob i path h)),
  );
  size = omega (arith, x.size, weight_more globs glob);
} where
  old : (i : ℕ) (path : List ℕ)
      → FitsOther globs i path ⊎
      ((i ≡ length globs) × (is_simple (characters_of glob) ≡ false) × Fits (tokens_of glob) path)
      → FitsOther globs i path
  old i path (inl h) = h
  old i path (inr h) = absurd (false≢true (sym h.1 ∙ is))

-- ---- the end of a glob

end_inj : {a b : ℕ} → End a ≡ End b → a ≡ b
end_inj e = some_inj (ap end_of e)

end_turn : {states : List GlobState} {number glob own : ℕ} {ds : List ℕ} → Turn states glob number (End own) ds
    → (glob ≡ own) × (ds ≡ [])
end_turn (ended e) = (end_inj (sym e), refl)
end_turn (took h l) = absurd h
end_turn (moved h l) = absurd h

end_is : {states : List GlobState} {number glob own : ℕ} {cs : List ℕ} → slice_get states number ≡ Some (End own)
    → Leads states glob number cs → (glob ≡ own) × (cs ≡ [])
end_is at l = end_turn (turn at l)

holds_end : {states : List GlobState} {number own : ℕ} → slice_get states number ≡ Some (End own)
    → Represents states own number []
holds_end {states} {number} {own} at cs = (
  λ l. subst (λ ds. Fits [] ds) (sym (end_is at l).1) nothing,
  λ f. subst (λ ds. Leads states own number ds) (sym (nothing_fits f)) (ends at),
)

no_fit : {cs : List ℕ} {more : List Token} → Fits (Alternatives [] ∷ more) cs → ⊥
no_fit {cs} {more} f = none_fits more cs (one_from_fits more [] cs f)

holds_none : {states : List GlobState} {number own glob : ℕ} → slice_get states number ≡ Some (End own) → glob ≢ own
    → Represents states glob number (Alternatives [] ∷ [])
holds_none at other cs = (λ l. absurd (other (end_is at l).0), λ f. absurd (no_fit f))

compiled_other : (globs : List Pattern) (glob : Pattern) (states states' : List GlobState) (starts starts' : Starts)
    → is_simple (characters_of glob) ≡ false → AreCompiled globs states starts →
    AddsStates glob (length globs) states starts states' starts' → AreCompiled (globs ++ glob ∷ []) states' starts'
compiled_other globs glob states states' starts starts' isnt x a = record {
  globs_are = globs_more globs glob a.is_glob x.globs_are;
  program = a.built.program;
  are = a.started.are;
  within = λ path n h. within path n (a.started.only path n h);
  leads = λ i path. (
    λ s. to i path s.number s.leads (a.started.only path s.number s.starts_here),
    λ h. from i path (other_cases globs glob i path h),
  );
  size = omega (
    arith,
    a.built.size,
    glob_states a.is_glob,
    length_pushed a.pushed,
    x.size,
    weight_more globs glob,
    weight_other glob isnt,
  );
} where
  grows : Grows states states'
  grows = grows_on (grows_push a.pushed) a.built.grows

  within : (path : List ℕ) (n : ℕ) → Starting starts path n ⊎ (n ≡ a.start) → n < length states'
  within path n (inl h) = omega (arith, x.within path n h, length_grown grows)
  within path n (inr e) = omega (arith, e, a.built.in_range)

  own : (path : List ℕ) → Leads states' (length globs) a.start path ↔ Fits (tokens_of glob) path
  own path =
      let holds = a.built.holds (length globs) [] (holds_end (pushed_at a.pushed)) path in (
        λ l. subst (λ ts. Fits ts path) (append-nil (tokens_of glob)) (holds.0 l),
        λ f. holds.1 (subst (λ ts. Fits ts path) (sym (append-nil (tokens_of glob))) f),
      )

  none : (i : ℕ) (path : List ℕ) → i ≢ length globs → Leads states' i a.start path → ⊥
  none i path other l =
      let f = (a.built.holds i (Alternatives [] ∷ []) (holds_none (pushed_at a.pushed) other) path).0 l in
      let s = split_list (tokens_of glob) (Alternatives [] ∷ []) path f in
      no_fit s.fits

  at_new : (i : ℕ) (path : List ℕ) → Leads states' i a.start path → (i ≡ length globs) ⊎ (i ≢ length globs)
      → FitsOther (globs ++ glob ∷ []) i path
  at_new i path l (inr other) = absurd (none i path other l)
  at_new i path l (inl same) = record {
    glob = glob;
    at = slice_get-push_last globs glob i same;
    not_simple = isnt;
    fits = (own path).0 (subst (λ k. Leads states' k a.start path) same l);
  }

  to : (i : ℕ) (path : List ℕ) (n : ℕ) → Leads states' i n path → Starting starts path n ⊎ (n ≡ a.start)
      → FitsOther (globs ++ glob ∷ []) i path
  to i path n l (inl h) = other_more globs glob i path
      ((x.leads i path).0 (record
      { number = n; starts_here = h; leads = leads_ungrown x.program (x.within path n h) grows l }))
  to i path n l (inr e) = at_new i path (subst (λ k. Leads states' i k path) e l) (cases_eq i (length globs))

  from : (i : ℕ) (path : List ℕ)
      → FitsOther globs i path ⊎
      ((i ≡ length globs) × (is_simple (characters_of glob) ≡ false) × Fits (tokens_of glob) path)
      → SomeStarts states' starts' i path
  from i path (inl h) = let s = (x.leads i path).1 h in
      record {
        number = s.number;
        starts_here = a.started.kept path s.number s.starts_here;
        leads =
            leads_grown grows s.leads;
      }
  from i path (inr h) = record {
    number = a.start;
    starts_here = a.started.added path h.2;
    leads = subst (λ k. Leads states' k a.start path) (sym h.0)
        ((own path).1 h.2);
  }

pub compiled_none : {states : List GlobState} {starts : Starts} → states ≡ [] → starts.beginnings.items ≡ []
    → starts.endings.items ≡ [] → AreCompiled [] states starts
compiled_none {states} {starts} e f g = subst (λ s. AreCompiled [] s starts) (sym e) (record {
  globs_are = λ i glob at. none_is_no_some at;
  program = record { points = λ n s at. none_is_no_some at };
  are = record { beginnings = tree_none f; endings = tree_none g };
  within = λ path n h. absurd (none_start starts f g h);
  leads = λ i path. (λ s. absurd (none_start starts f g s.starts_here), λ h. none_is_no_some h.at);
  size = omega arith;
})

-- where no start is added, no start has changed
compiled_kept : {globs : List Pattern} {states : List GlobState} {old new : Starts} → AreCompiled globs states old
    → KeepsStarts old new → AreCompiled globs states new
compiled_kept x keeps = record {
  globs_are = x.globs_are;
  program = x.program;
  are = keeps.are;
  within = λ path n h. x.within path n ((keeps.same path n).0 h);
  leads = λ i path. (
    λ s. (x.leads i path).0 (record
        { number = s.number; starts_here = (keeps.same path s.number).0 s.starts_here; leads = s.leads }),
    λ h. let s = (x.leads i path).1 h in record
        { number = s.number; starts_here = (keeps.same path s.number).1 s.starts_here; leads = s.leads },
  );
  size = x.size;
}

pub index_kept : {globs globs' : List Pattern} {extensions extensions' : List GlobExtension}
    {states states' : List GlobState}
    {old new : Starts} → IsIndexed globs extensions × AreCompiled globs states old → globs' ≡ globs →
    extensions' ≡ extensions → states' ≡ states → KeepsStarts old new
    → IsIndexed globs' extensions' × AreCompiled globs' states' new
index_kept {globs} {globs'} {extensions} {extensions'} {states} {states'} {old}
    {new} x same extensions_are states_are keeps = (
      subst (λ gs. IsIndexed gs extensions') (sym same) (subst (λ es. IsIndexed globs es) (sym extensions_are) x.0),
      subst (λ gs. AreCompiled gs states' new) (sym same)
          (subst (λ ss. AreCompiled globs ss new) (sym states_are) (compiled_kept x.1 keeps)),
    )

-- ---- the whole index, with one more glob

pub indexes_simple : {glob : Pattern} {number : ℕ} {name : List ℕ} {extensions extensions' : List GlobExtension}
    {states : List GlobState} {starts : Starts} → IsGlob (characters_of glob) (tokens_of glob) →
    is_simple (characters_of glob) ≡ true → extension_of (characters_of glob) ≡ name
    → IsExtended extensions name number extensions'
    → Indexes glob number extensions states starts extensions' states starts
indexes_simple {glob} {number} {name} {extensions} {extensions'} {states} {starts} own is named e = record {
  more = λ globs size x y. (
    indexed_simple globs glob extensions extensions' is x
        (subst (λ n. IsExtended extensions n (length globs) extensions') (sym named)
        (subst (λ k. IsExtended extensions name k extensions') (sym size) e)),
    compiled_simple globs glob states starts own is y,
  );
}

pub adds_states : {glob : Pattern} {number end start : ℕ} {old mid new : List GlobState} {starts starts' : Starts}
    {tokens spelled : List Token} → IsGlob (characters_of glob) (tokens_of glob) → IsPushed (End number) old mid end →
    spelled ≡ tokens_of glob → IsBuilt spelled end mid new start → tokens ≡ spelled
    → AddsStart tokens start starts starts'
    → AddsStates glob number old starts new starts'
adds_states {glob} {number} {end} {start} {old} {mid} {new} {starts} {starts'} own pushed is built same a = record {
  is_glob = own;
  mid = mid;
  end = end;
  pushed = pushed;
  start = start;
  built = subst (λ ts. IsBuilt ts end mid new start) is built;
  started = subst (λ ts. AddsStart ts start starts starts') (same ∙ is) a;
}

pub indexes_other : {glob : Pattern} {number : ℕ} {extensions : List GlobExtension} {states states' : List GlobState}
    {starts starts' : Starts} → is_simple (characters_of glob) ≡ false →
    AddsStates glob number states starts states' starts'
    → Indexes glob number extensions states starts extensions states' starts'
indexes_other {glob} {number} {extensions} {states} {states'} {starts} {starts'} isnt a = record {
  more = λ globs size x y. (
    indexed_other globs glob extensions isnt x,
    compiled_other globs glob states states' starts starts' isnt y
        (subst (λ k. AddsStates glob k states starts states' starts') (sym size) a),
  );
}

-- ---- the globs that fit

record GlobAt (globs : List Pattern) (i : ℕ) (path : List ℕ) : Type 0 where
  glob : Pattern
  at : slice_get globs i ≡ Some glob
  fits : Fits (tokens_of glob) path

glob_at : (globs : List Pattern) (i : ℕ) (path : List ℕ) → FitsAt globs i path → GlobAt globs i path
glob_at [] i path h = absurd h
glob_at (glob ∷ globs) zero path h = record { glob = glob; at = refl; fits = h }
glob_at (glob ∷ globs) (suc i) path h = let g = glob_at globs i path h in
    record { glob = g.glob; at = g.at; fits = g.fits }

fits_at : (globs : List Pattern) (i : ℕ) (path : List ℕ) (glob : Pattern) → slice_get globs i ≡ Some glob
    → Fits (tokens_of glob) path → FitsAt globs i path
fits_at globs i path glob e h = subst (λ o. IsSomeAnd o (λ g. Fits (tokens_of g) path)) (sym e) h

fits_by : (globs : List Pattern) (states : List GlobState) (starts : Starts) → AreCompiled globs states starts
    → (i : ℕ) (path : List ℕ) → FitsAt globs i path → FitsSimply globs path i ⊎ SomeStarts states starts i path
fits_by globs states starts x i path f = go (glob_at globs i path f) where
  by_test : (g : GlobAt globs i path) (test : Bool) → is_simple (characters_of g.glob) ≡ test
      → FitsSimply globs path i ⊎ SomeStarts states starts i path
  by_test g true is = inl (
    extension_of (characters_of g.glob),
    (simple_fits (x.globs_are i g.glob g.at) is).0 g.fits,
    record { glob = g.glob; at = g.at; simple = is; named = refl },
  )
  by_test g false isnt = inr
      ((x.leads i path).1 (record { glob = g.glob; at = g.at; not_simple = isnt; fits = g.fits }))

  go : GlobAt globs i path → FitsSimply globs path i ⊎ SomeStarts states starts i path
  go g = by_test g (is_simple (characters_of g.glob)) refl

simply_fits : (globs : List Pattern) (states : List GlobState) (starts : Starts) → AreCompiled globs states starts
    → (i : ℕ) (path : List ℕ) → FitsSimply globs path i → FitsAt globs i path
simply_fits globs states starts x i path h =
    let asks = h.2 in
    fits_at globs i path asks.glob asks.at
    ((simple_fits (x.globs_are i asks.glob asks.at) asks.simple).1 (h.1 ∙ ap (λ n. Some n) (sym asks.named)))

by_fits : (globs : List Pattern) (states : List GlobState) (starts : Starts) → AreCompiled globs states starts
    → (i : ℕ) (path : List ℕ) → FitsSimply globs path i ⊎ SomeStarts states starts i path → FitsAt globs i path
by_fits globs states starts x i path (inl h) = simply_fits globs states starts x i path h
by_fits globs states starts x i path (inr s) = let o = (x.leads i path).0 s in fits_at globs i path o.glob o.at o.fits

pub noted_fit : {globs : List Pattern} {states : List GlobState} {starts : Starts} {path old mid new : List ℕ}
    → AreCompiled globs states starts → Notes (FitsSimply globs path) old mid
    → Notes (λ i. SomeStarts states starts i path) mid new → Notes (λ i. FitsAt globs i path) old new
noted_fit {globs} {states} {starts} {path} x first second = notes_on
    (λ k f. fits_by globs states starts x k path f) (λ k h. by_fits globs states starts x k path h) first second

pub fitting_of : {globs : List Pattern} {path none found sorted slice indices old : List ℕ} → old ≡ []
    → indices ≡ old ++ slice → slice ≡ sorted → none ≡ [] → Notes (λ i. FitsAt globs i path) none found
    → Lists nat_cmp (Contains found) sorted → AreFitting globs path indices
fitting_of {globs} {path} {none} {found} {sorted} {slice} {indices} {old} empty added same e notes lists =
    subst (AreFitting globs path) (sym whole) (record {
      ascending = IsStrictlyIncreasing-from_sorted sorted lists.ascending;
      exact = λ i. (
        λ c. to i ((notes.each i).0 (lists.sound i c)),
        λ f. lists.whole i ((notes.each i).1 (inr f)),
      );
    }) where
      whole : indices ≡ sorted
      whole = added ∙ ap (λ l. l ++ slice) empty ∙ same

      to : (i : ℕ) → Contains none i ⊎ FitsAt globs i path → FitsAt globs i path
      to i (inl c) = contains_none (contains_in e c)
      to i (inr f) = f

-- ---- steps

names_fewer : (globs : List Pattern) (extensions : List GlobExtension) (names : List (List ℕ))
    → IsIndexed globs extensions → HasExtensions globs names → length extensions ≤ length names
names_fewer globs extensions names x has = omega (
  arith,
  length-ascending nat_list_cmp_total
      (map name_of extensions) names x.ascend there,
  length-map extensions name_of,
) where
  mapped : (o : Option GlobExtension) (z : List ℕ) → option_map name_of o ≡ Some z
      → (e : GlobExtension) × (o ≡ Some e) × (e.name ≡ z)
  mapped None z e = cc
  mapped (Some e) z same = (e, refl, some_inj same)

  there : (z : List ℕ) → Contains (map name_of extensions) z → Contains names z
  there z h =
      let at = slice_get_read (map name_of extensions) (length (map name_of extensions)) h.0 z refl h.1 (sym h.2) in
      let m = mapped (slice_get extensions h.0) z (sym (slice_get-map name_of extensions h.0) ∙ at) in
      let some = x.some h.0 m.0 m.1 in
      subst (λ n. Contains names n) m.2 (has some.0 m.0.name ((x.numbers h.0 m.0 m.1 some.0).0 some.1))

pub named_bound : (extensions : List GlobExtension) (name : List ℕ) (index start steps : ℕ) (extension : GlobExtension)
    → slice_get extensions index ≡ Some extension → extension.name ≡ name →
    ((d : ℕ) → length extensions < 2 ^ d → steps ≤ start + d)
    → BoundsNamed extensions name start (steps + length extension.globs)
named_bound extensions name index start steps extension at named bound globs hits d x covers less =
    let fewer = length-ascending nat_cmp_total extension.globs hits (x.once index extension at)
    (λ i c. covers i (subst (λ n. AsksFor globs i n) named ((x.numbers index extension at i).0 c))) in
    omega (arith, bound d less, fewer)

walk_bound : (indices states weights : ℕ) → states ≤ weights → indices * states ≤ indices * weights
walk_bound indices states weights p = mul-le indices states indices weights (omega arith) p

pub simple_bound : (globs : List Pattern) (extensions : List GlobExtension) (states : List GlobState) (starts : Starts)
    (path : List ℕ) (first second : ℕ) → IsIndexed globs extensions → AreCompiled globs states starts →
    BoundsSimple extensions path first second → KeepsBound globs path first second
simple_bound globs extensions states starts path first second x y simple names hits d has covers less =
    let fewer = names_fewer globs extensions names x has in
    let one = simple globs hits d x (λ i h. covers i h.0 h.2 (simply_fits globs states starts y i path h))
    (omega (arith, fewer, less)) in
    omega (arith, one)

pub total_bound : (globs : List Pattern) (extensions : List GlobExtension) (states : List GlobState) (starts : Starts)
    (path : List ℕ) (first second third : ℕ) → IsIndexed globs extensions → AreCompiled globs states starts →
    BoundsSimple extensions path first second → third ≤ second + (length path + 1) * length states
    → KeepsBound globs path first third
total_bound globs extensions states starts path first second third x y simple walk names hits d has covers less =
    let fewer = names_fewer globs extensions names x has in
    let one = simple globs hits d x (λ i h. covers i h.0 h.2 (simply_fits globs states starts y i path h))
    (omega (arith, fewer, less)) in
    let two = walk_bound (length path + 1) (length states) (weight_of globs) y.size in
    omega (arith, one, two, walk)

-- the extension that was found

pub notes_named : {extensions : List GlobExtension} {name : List ℕ} (index : ℕ) (extension : GlobExtension)
    {old new : List ℕ} → slice_get extensions index ≡ Some extension → extension.name ≡ name →
    Notes (Contains extension.globs) old new → NotesNamed extensions name old new
notes_named index extension at named notes globs x =
    notes_same (λ i. (
      λ c. subst (λ n. AsksFor globs i n) named ((x.numbers index extension at i).0 c),
      λ h. (x.numbers index extension at i).1 (subst (λ n. AsksFor globs i n) (sym named) h),
    )) notes

pub notes_gap : {extensions : List GlobExtension} {name : List ℕ} {index : ℕ} {old : List ℕ}
    → IsGap extensions name index → NotesNamed extensions name old old
notes_gap {extensions} {name} {index} gap globs x = notes_none refl
    (λ i h. no_asks globs extensions name index x gap i h)
