-- The keys of what is kept are those that hold, in their order, and each pack is that of its key.
use Rattle.std.proofs.Common.{◌≡◌, ◌++◌, ◌∷◌, ◌⊎◌, ℕ, List, [], Option, Some, None, Contains, map, refl, sym, ap, ◌∙◌}
use Rattle.std.proofs.Common.{subst}
use Rattle.std.specs.Prelude.{codes, filter, option_map}
use Rattle.std.specs.Option.{option_map_or}
use Rattle.std.specs.Ordering.{nat_cmp}
use Rattle.std.specs.declared.cmp.Ordering.TheVariants.{Less}
use Rattle.std.proofs.lemmas.Option.{none-some, same_Some}
use Rattle.std.proofs.lemmas.Simd.{map-map}
use Rattle.deny_base_lists.specs.Ascending.{Lists}
use Rattle.deny_base_lists.proofs.Members.{from_contains_map, contains_map_within}
use Rattle.deny_base_lists.proofs.Sorted.{ascends_map}
use Rattle.deny_base.specs.Code.{code_number, diagnostic_code_number, section_number}
use Rattle.deny_base.specs.KeyOrder.{key_cmp, span_cmp}
use Rattle.deny_base.specs.declared.code.Code.TheVariants.{UnmatchedReplacementIgnore}
use Rattle.deny_base.specs.declared.key.Key.{Key}
use Rattle.deny_base.specs.declared.label.Label.{Label}
use Rattle.deny_base.specs.declared.level.Severity.TheVariants.{Warning}
use Rattle.deny_base.specs.declared.span.Span.{Span}
use Rattle.deny_spec.specs.Graph.{Crate, Graph}
use Rattle.deny_spec.specs.Keys.{key_of, unused_key}
use Rattle.deny_spec.specs.Policy.{Entry, Replacing, SpannedText}
use Rattle.deny_spec.specs.DiagParts.{label_at, primary, spec_text}
use Rattle.deny_spec_report.specs.Saying.{Saying}
use Rattle.deny_spec_report.specs.StdReplacements.{ignore_at, ignore_labels, ignore_span, is_reported_replaced}
use Rattle.deny_spec_report.specs.StdReplacements.{is_unmatched_ignore, replaced_key, replaced_keys, replaced_diag}
use Rattle.deny_spec_report.specs.StdReplacements.{unmatched_ignore_keys, unmatched_ignore_diag}
use Rattle.deny_spec_report.specs.MessageParts.{plainly}
use Rattle.deny_spec_report.proofs.Parts.{lists_append}
use Rattle.deny_std.specs.declared.diags.Unmatched.{Unmatched}
use Rattle.deny_std.specs.private.Kept.{AreReportedPlaces, AreUnmatched}
use Rattle.deny_std.specs.private.Diags.{reason_label, replacement_message, unmatched_of, unmatched_message}

abbrev pub ignore_key : Span → Key
ignore_key span = unused_key UnmatchedReplacementIgnore span

-- ---- keys

ignore-below : (a b : Span) → span_cmp a b ≡ Less → key_cmp (ignore_key a) (ignore_key b) ≡ Less
unfolding key_of section_number code_number diagnostic_code_number
ignore-below a b less = rw less refl

replaced-below : (a b : ℕ) → nat_cmp a b ≡ Less → key_cmp (replaced_key a) (replaced_key b) ≡ Less
unfolding key_of section_number code_number diagnostic_code_number
replaced-below a b less = rw less refl

apart : (span : Span) (place : ℕ) → key_cmp (ignore_key span) (replaced_key place) ≡ Less
unfolding key_of section_number code_number diagnostic_code_number
apart span place = refl

module _ (r : Replacing) (g : Graph) (said : Saying) where
  abbrev unmatched_entries : List Entry
  unmatched_entries = filter (is_unmatched_ignore r g said) r.ignore

  unmatched-keys : map ignore_key (map ignore_span unmatched_entries) ≡ unmatched_ignore_keys r g said
  unfolding unmatched_ignore_keys
  unmatched-keys = map-map ignore_key ignore_span unmatched_entries

  lists-unmatched : (us : List Unmatched) → AreUnmatched r g said us
      → Lists key_cmp (Contains (unmatched_ignore_keys r g said)) (map ignore_key (map (λ u. u.span) us))
  lists-unmatched us are = record {
    ascending = ascends_map span_cmp key_cmp ignore_key (λ _. Unit {0}) (map (λ u. u.span) us)
        (λ a b _ _ less. ignore-below a b less) (λ _ _. tt) are.listed.ascending;
    whole = λ key is. contains_map_within ignore_key (map ignore_span unmatched_entries) (map (λ u. u.span) us)
        are.listed.whole key (subst (λ (keys : List Key). Contains keys key) (sym unmatched-keys) is);
    sound = λ key is. subst (λ (keys : List Key). Contains keys key) unmatched-keys
        (contains_map_within ignore_key (map (λ u. u.span) us)
        (map ignore_span unmatched_entries) are.listed.sound key is);
  }

  lists-reported : (places : List ℕ) → AreReportedPlaces r g said places
      → Lists key_cmp (Contains (replaced_keys r g said)) (map replaced_key places)
  unfolding replaced_keys
  lists-reported places are =
      let same : map replaced_key places ≡ replaced_keys r g said =
      ap (map replaced_key) are.are
      ∙ map-map replaced_key (λ (c : Crate). c.place) (filter (is_reported_replaced r g said) g.crates) in
      record {
        ascending = ascends_map nat_cmp key_cmp replaced_key (λ _. Unit {0}) places
            (λ a b _ _ less. replaced-below a b less) (λ _ _. tt) are.ascending;
        whole = λ key is. subst (λ (keys : List Key). Contains keys key) (sym same) is;
        sound = λ key is. subst (λ (keys : List Key). Contains keys key) same is;
      }

  pub lists-all : (us : List Unmatched) (places : List ℕ) → AreUnmatched r g said us → AreReportedPlaces r g said places
      → Lists key_cmp (λ key. Contains (unmatched_ignore_keys r g said) key ⊎ Contains (replaced_keys r g said) key)
      (map ignore_key (map (λ u. u.span) us) ++ map replaced_key places)
  unfolding unmatched_ignore_keys replaced_keys
  lists-all us places unmatched reported =
      lists_append key_cmp (Contains (unmatched_ignore_keys r g said)) (Contains (replaced_keys r g said))
      (map ignore_key (map (λ u. u.span) us)) (map replaced_key places) (lists-unmatched us unmatched)
      (lists-reported places reported) far
    where
      far : (x y : Key) → Contains (unmatched_ignore_keys r g said) x → Contains (replaced_keys r g said) y
          → key_cmp x y ≡ Less
      far x y is there =
          let one = from_contains_map (λ (e : Entry). ignore_key (ignore_span e)) unmatched_entries x is in
          let other = from_contains_map (λ (c : Crate). replaced_key c.place)
          (filter (is_reported_replaced r g said) g.crates) y there in
          subst (λ (key : Key). key_cmp key y ≡ Less) one.2
          (subst (λ (key : Key). key_cmp (ignore_key (ignore_span one.0)) key ≡ Less) other.2
          (apart (ignore_span one.0) other.0.place))

-- ---- packs

reason-reported : (file : ℕ) (o : Option SpannedText)
    → label_at file (codes "ignore reason") o ≡ reason_label file (option_map (λ reason. reason.span) o)
reason-reported file None = refl
reason-reported file (Some reason) = refl

pub unmatched-reported : (r : Replacing) (file : ℕ) (u : Unmatched)
    → option_map unmatched_of (ignore_at r u.span) ≡ Some u
    → unmatched_ignore_diag r file (ignore_key u.span) ≡ unmatched_message file u
unfolding unmatched_ignore_diag key_of
unmatched-reported r file u is = by_entry (ignore_at r u.span) is
  where
    by_entry : (o : Option Entry) → option_map unmatched_of o ≡ Some u
        → plainly Warning
        (codes "std replacement ignore '"
        ++ (option_map_or (λ e. spec_text e.spec) o [] ++ codes "' was not encountered"))
        (option_map_or (ignore_labels file) o []) None
        ≡ unmatched_message file u
    by_entry None is = absurd (none-some u is)
    by_entry (Some e) is =
        ap (λ (labels : List Label). plainly Warning
        (codes "std replacement ignore '" ++ (spec_text e.spec ++ codes "' was not encountered"))
        (primary file (ignore_span e) (codes "unmatched ignore configuration") ∷ labels) None)
        (reason-reported file e.reason)
        ∙ ap (unmatched_message file) (same_Some (unmatched_of e) u is)

pub replaced-reported : (r : Replacing) (g : Graph) (said : Saying) (place : ℕ)
    → replaced_diag r g said (replaced_key place) ≡ replacement_message r.level g said place
unfolding replaced_diag key_of
replaced-reported r g said place = refl
