-- The first entry that matches a crate is found among the entries of the crate's name.
use Rattle.std.proofs.Common.{◌≡◌, ℕ, Bool, true, List, Contains, Option, Some, None, find, map, refl, sym, ap, ◌∙◌}
use Rattle.std.proofs.Common.{subst}
use Rattle.std.specs.Prelude.{◌↔◌, option_and_then, option_map, slice_get}
use Rattle.std.specs.List.Sorted.{IsStrictlyIncreasing}
use Rattle.std.proofs.lemmas.Bool.{and_parts}
use Rattle.semver.specs.Identifiers.{parts_of}
use Rattle.std.proofs.lemmas.Slice.Eq.{bytes_eq-Decides}
use Rattle.deny_cfg.specs.PackageSpecOrExtended.{PackageSpecOrExtended}
use Rattle.deny_cfg.specs.PolicyView.{entry_view}
use Rattle.deny_cfg.specs.Waiver.{Waiver}
use Rattle.deny_cfg.specs.SpecView.{spec_view}
use Rattle.deny_spec_report.specs.FirstMatch.{first_of}
use Rattle.deny_spec_report.specs.StdReplacements.{ignore_span, ignores}
use Rattle.deny_krates.specs.Crates.{crate_view}
use Rattle.deny_krates.specs.krate.Krate.{Krate}
use Rattle.deny_spec.specs.Match.{matches, spec_matches}
use Rattle.deny_spec.specs.Policy.{Entry}
use Rattle.deny_spec.specs.Text.{same_text}
use Rattle.deny_base_lists.proofs.Filters.{find-map}
use Rattle.deny_std.specs.private.Ignored.{entry_name, entry_span, matches_at}
use Rattle.deny_base_lists.proofs.Finding.{first-numbered}

found-of : {A B : Type 0} (f : A → B) (get : ℕ → Option A) (o : Option ℕ)
    → option_and_then (λ n. option_map f (get n)) o ≡ option_map f (option_and_then get o)
found-of f get None = refl
found-of f get (Some n) = refl

viewed-of : {A B C : Type 0} (f : B → C) (v : A → B) (o : Option A)
    → option_map (λ x. f (v x)) o ≡ option_map f (option_map v o)
viewed-of f v None = refl
viewed-of f v (Some x) = refl

abbrev does_match : Krate → PackageSpecOrExtended Waiver → Bool
does_match k e = spec_matches (spec_view e.spec) k.name (parts_of k.version)

named : (k : Krate) (e : PackageSpecOrExtended Waiver) → does_match k e ≡ true → entry_name e ≡ k.name
named k e is = (bytes_eq-Decides e.spec.name.value k.name).0 (and_parts (same_text e.spec.name.value k.name) _ is).0

pub span-found : (entries : List (PackageSpecOrExtended Waiver)) (k : Krate) (numbers : List ℕ) (names : List (List ℕ))
    (place : ℕ) → names ≡ map entry_name entries → IsStrictlyIncreasing numbers
    → ((i : ℕ) → Contains numbers i ↔ (slice_get names i ≡ Some k.name))
    → option_and_then (entry_span entries) (find (matches_at entries k) numbers)
    ≡ option_map ignore_span (first_of ignores (map entry_view entries) (crate_view place k))
unfolding matches
span-found entries k numbers names place are up exact =
    found-of (λ (e : PackageSpecOrExtended Waiver). e.spec.name.span) (slice_get entries)
    (find (matches_at entries k) numbers)
    ∙ (ap (option_map (λ (e : PackageSpecOrExtended Waiver). e.spec.name.span))
    (first-numbered (does_match k) entries entry_name k.name numbers up
    (subst (λ (ns : List (List ℕ)). (i : ℕ) → Contains numbers i ↔ (slice_get ns i ≡ Some k.name)) are exact)
    (named k))
    ∙ (viewed-of ignore_span entry_view (find (does_match k) entries)
    ∙ ap (option_map ignore_span) (sym (find-map (λ (e : Entry). matches e.spec (crate_view place k)) entry_view
    entries))))
