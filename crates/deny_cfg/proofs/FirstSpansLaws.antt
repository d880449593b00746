-- The span that is found for a wording is that of the first equal wording.
use Rattle.deny_base_lists.proofs.Orders.{option_text_cmp-exact, text_cmp-exact, then_first, then_second, is_eq-then}
use Rattle.deny_base_lists.proofs.Orders.{is_eq-reverse}
use Rattle.std.proofs.Common.{◌≡◌, ◌<◌, ◌+◌, ◌&&◌, length, take, ℕ, List, [], ◌∷◌, Bool, true, false, Option, Some}
use Rattle.std.proofs.Common.{None, map, refl, sym, ap, ◌∙◌}
use Rattle.std.specs.Prelude.{cond, find, is_some, option_map, slice_index_or}
use Rattle.std.specs.Cmp.{IsTotalOrder, on_total, then_total}
use Rattle.std.specs.Cmp.Lexicographic.{slice_cmp, nat_list_cmp_total, options_total, texts_ties}
use Rattle.std.specs.FinMap.{IsAntisymmetric}
use Rattle.std.specs.Map.{lookup}
use Rattle.std.specs.Option.{option_cmp, option_eq, option_or}
use Rattle.std.specs.Ordering.{is_eq, nat_cmp}
use Rattle.std.specs.declared.cmp.Ordering.{Ordering}
use Rattle.std.specs.declared.cmp.Ordering.TheVariants.{Less, Equal, Greater}
use Rattle.deny_base.specs.declared.span.Span.{Span}
use Rattle.deny_spec.specs.Policy.{SpannedText}
use Rattle.deny_spec.specs.Text.{same_text}
use Rattle.deny_cfg.specs.Clashes.{clash_with, feature_at, feature_clash, specs_of, two_spans}
use Rattle.deny_base_lists.specs.First.{FindsFirst, GainsEntry}
use Rattle.deny_base_lists.proofs.FirstLemmas.{finds_more}
use Rattle.deny_base_lists.proofs.Indices.{map-take_next}
use Rattle.deny_cfg.specs.private.FirstSpans.{entry_span, first_span, plain_wording, same_wording, spec_wording}
use Rattle.deny_cfg.specs.private.FirstSpans.{word_span}
use Rattle.deny_cfg.specs.private.FirstSpans.{wording_cmp}
use Rattle.deny_cfg_entries.specs.SpecView.{same_spec}
use Rattle.deny_cfg_tables.specs.declared.bans.cfg.features.CrateFeatures.{CrateFeatures}
use Rattle.deny_cfg.specs.declared.clash.ClashKind.{ClashKind}
use Rattle.deny_cfg.specs.declared.first_spans.FirstSpans.{FirstSpans}
use Rattle.deny_cfg.specs.declared.first_spans.Wording.{Wording}
use Rattle.deny_cfg_entries.specs.declared.package_spec.PackageSpec.{PackageSpec}
use Rattle.deny_cfg_entries.specs.declared.spec_or_extended.PackageSpecOrExtended.{PackageSpecOrExtended}

wording_from : List ℕ → Option (List ℕ) → Wording
wording_from name requirement = record { name = name; requirement = requirement }

wording_from-is : (w : Wording) → wording_from w.name w.requirement ≡ w
unfolding wording_from
wording_from-is w = refl

wording_cmp-exact : IsAntisymmetric wording_cmp
wording_cmp-exact a b e =
    let name : a.name ≡ b.name = text_cmp-exact a.name b.name (then_first _ _ e) in
    let requirement : a.requirement ≡ b.requirement =
    option_text_cmp-exact a.requirement b.requirement (then_second (slice_cmp nat_cmp a.name b.name) _ e) in
    cc (wording_from-is a, wording_from-is b)

wording_cmp-total : IsTotalOrder wording_cmp
wording_cmp-total =
    then_total (on_total (λ (w : Wording). w.name) nat_list_cmp_total)
    (on_total (λ (w : Wording). w.requirement) (options_total nat_list_cmp_total))

-- wordings are equal exactly where they tie
option_ties : (x y : Option (List ℕ)) → option_eq same_text x y ≡ is_eq (option_cmp (slice_cmp nat_cmp) x y)
option_ties None None = refl
option_ties None (Some y) = refl
option_ties (Some x) None = refl
option_ties (Some x) (Some y) = texts_ties x y

wording_ties : (a b : Wording) → same_wording a b ≡ is_eq (wording_cmp a b)
wording_ties a b = is_eq-then _ _ _ _ (texts_ties a.name b.name) (option_ties a.requirement b.requirement)

wording_tied : (asked w : Wording) → is_eq (wording_cmp w asked) ≡ same_wording asked w
wording_tied asked w =
    ap is_eq (wording_cmp-total.antisymm w asked) ∙ (is_eq-reverse (wording_cmp asked w) ∙ sym (wording_ties asked w))

is_equal : (r : Ordering) → is_eq r ≡ true → r ≡ Equal
is_equal Less e = cc e
is_equal Equal e = refl
is_equal Greater e = cc e

wording_same : (asked w : Wording) → same_wording asked w ≡ true → asked ≡ w
wording_same asked w e = wording_cmp-exact asked w (is_equal (wording_cmp asked w) (sym (wording_ties asked w) ∙ e))

put_behind : (b : Bool) (o : Option Span) (p : Span) → (b ≡ true → o ≡ None)
    → cond b (Some p) o ≡ option_or o (cond b (Some p) None)
put_behind true o p none = rw (none refl) refl
put_behind false None p none = refl
put_behind false (Some x) p none = refl

stays_before : (b : Bool) (o : Option Span) (p : Span) → (b ≡ true → is_some o ≡ true)
    → o ≡ option_or o (cond b (Some p) None)
stays_before b (Some x) p some = refl
stays_before false None p some = refl
stays_before true None p some = cc (some refl)

none_there : (o : Option Span) → is_some o ≡ false → o ≡ None
none_there None e = refl
none_there (Some x) e = cc e

-- a new wording is added behind the others, and the span of an earlier equal one stays
pub gains_new : (old new : FirstSpans) (w : Wording) (p : Span) → is_some (first_span old w) ≡ false
    → ((asked : Wording) → first_span new asked ≡ cond (is_eq (wording_cmp w asked)) (Some p) (first_span old asked))
    → GainsEntry same_wording w p (first_span old) (first_span new)
gains_new old new w p absent updated = record {
  at = λ asked.
      updated asked
      ∙ (ap (λ b. cond b (Some p) (first_span old asked)) (wording_tied asked w)
      ∙ put_behind (same_wording asked w) (first_span old asked) p
      (λ e. ap (first_span old) (wording_same asked w e) ∙ none_there _ absent));
}

pub gains_none : (old : FirstSpans) (w : Wording) (p : Span) → is_some (first_span old w) ≡ true
    → GainsEntry same_wording w p (first_span old) (first_span old)
gains_none old w p there = record {
  at =
      λ asked. stays_before (same_wording asked w) (first_span old asked) p
      (λ e. ap (λ q. is_some (first_span old q)) (wording_same asked w e) ∙ there);
}

-- one more of the items that have these spans
pub finds_next : {A : Type 0} (pair : A → Wording × Span) (xs : List A) (i : ℕ) (x : A) (old new : FirstSpans)
    → i < length xs → x ≡ slice_index_or xs i x
    → FindsFirst same_wording (map pair (take i xs)) (first_span old)
    → GainsEntry same_wording (pair x).0 (pair x).1 (first_span old) (first_span new)
    → FindsFirst same_wording (map pair (take (i + 1) xs)) (first_span new)
finds_next pair xs i x old new inside is finds gains =
    rw (map-take_next pair xs i x inside is)
    (finds_more same_wording (map pair (take i xs)) (pair x).0 (pair x).1 (first_span old) (first_span new) finds gains)

spec_found : {T : Type 0} (s : PackageSpec) (others : List (PackageSpecOrExtended T))
    → lookup (same_wording (spec_wording s)) (map entry_span others)
    ≡ option_map (λ other. other.name.span) (find (same_spec s) (specs_of others))
spec_found s [] = refl
spec_found s (x ∷ xs) = by_test (same_spec s x.spec) (spec_found s xs)
  where
    by_test : (b : Bool)
        → lookup (same_wording (spec_wording s)) (map entry_span xs)
        ≡ option_map (λ other. other.name.span) (find (same_spec s) (specs_of xs))
        → cond b (Some x.spec.name.span) (lookup (same_wording (spec_wording s)) (map entry_span xs))
        ≡ option_map (λ other. other.name.span) (cond b (Some x.spec) (find (same_spec s) (specs_of xs)))
    by_test true e = refl
    by_test false e = e

map_twice : {A B C : Type 0} (f : A → B) (g : B → C) (o : Option A)
    → option_map g (option_map f o) ≡ option_map (λ x. g (f x)) o
map_twice f g None = refl
map_twice f g (Some x) = refl

-- the clash of a spec is with the first equal one
pub clash_found : {T : Type 0} (kind : ClashKind) (s : PackageSpec) (others : List (PackageSpecOrExtended T))
    (found : FirstSpans) → FindsFirst same_wording (map entry_span others) (first_span found)
    → option_map (two_spans kind s.name.span) (first_span found (spec_wording s)) ≡ clash_with kind (specs_of others) s
unfolding clash_with
clash_found kind s others found finds =
    ap (option_map (two_spans kind s.name.span)) (finds.at (spec_wording s) ∙ spec_found s others)
    ∙ map_twice (λ other. other.name.span) (two_spans kind s.name.span) (find (same_spec s) (specs_of others))

and_true : (b : Bool) → b && true ≡ b
and_true true = refl
and_true false = refl

word_found : (text : List ℕ) (denied : List SpannedText)
    → lookup (same_wording (plain_wording text)) (map word_span denied)
    ≡ option_map (λ word. word.span) (find (λ word. same_text text word.value) denied)
word_found text [] = refl
word_found text (x ∷ xs) =
    rw (and_true (same_text text x.value)) (by_test (same_text text x.value) (word_found text xs))
  where
    by_test : (b : Bool)
        → lookup (same_wording (plain_wording text)) (map word_span xs)
        ≡ option_map (λ word. word.span) (find (λ word. same_text text word.value) xs)
        → cond b (Some x.span) (lookup (same_wording (plain_wording text)) (map word_span xs))
        ≡ option_map (λ word. word.span) (cond b (Some x) (find (λ word. same_text text word.value) xs))
    by_test true e = refl
    by_test false e = e

pub feature_found : (entry : CrateFeatures) (allowed : SpannedText) (found : FirstSpans)
    → FindsFirst same_wording (map word_span entry.deny) (first_span found)
    → option_map (feature_at entry.spec.name.span allowed) (first_span found (plain_wording allowed.value))
    ≡ feature_clash entry allowed
unfolding feature_clash
feature_found entry allowed found finds =
    ap (option_map (feature_at entry.spec.name.span allowed))
    (finds.at (plain_wording allowed.value) ∙ word_found allowed.value entry.deny)
    ∙ map_twice (λ word. word.span) (feature_at entry.spec.name.span allowed)
    (find (λ word. same_text allowed.value word.value) entry.deny)
