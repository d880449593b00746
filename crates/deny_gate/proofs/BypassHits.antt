-- Hits of bypasses, and of their paths and globs: of which entry each is, and its kind.
use Rattle.std.proofs.Common.{◌≡◌, ◌&&◌, ◌++◌, ◌≤◌, ℕ, Bool, List, [], Option, None, Some, ap, arith, inl, inr, sym}
use Rattle.std.specs.Prelude.{Contains, filter_map, find, option_and_then, option_map}
use Rattle.std.proofs.lemmas.List.Elements.{Contains-append_cases}
use Rattle.std.proofs.lemmas.Option.{none-some, same_Some}
use Rattle.deny_base_lists.proofs.Members.{Contains-by_cases, from_filter_map, no_member}
use Rattle.deny_base.specs.Entry.{entry_kind_number}
use Rattle.deny_base.specs.declared.entry.EntryId.{EntryId}
use Rattle.deny_base.specs.declared.entry.EntryKind.{EntryKind}
use Rattle.deny_base.specs.declared.entry.EntryKind.TheVariants as kind
use Rattle.deny_base.specs.declared.entry.Hit.{Hit}
use Rattle.deny_base.specs.declared.entry.Witness.TheVariants.{File}
use Rattle.deny_base.specs.declared.span.Span.{Span}
use Rattle.deny_spec.specs.Building.{AllowedPath, Bypass}
use Rattle.deny_spec.specs.declared.package.PackageFile.{PackageFile}
use Rattle.deny_spec.specs.Graph.{Crate, kid_of}
use Rattle.deny_spec.specs.Hits.{hit_of}
use Rattle.deny_spec.specs.Policy.{SpannedText}
use Rattle.deny_spec_report.specs.BuildScripts.{bypass_span, uses}
use Rattle.deny_spec_report.specs.PackageFiles.{hits_glob, hits_path, path_span}
use Rattle.deny_spec_report.specs.Packages.{Scanning, bypass_hit, bypass_hits_of, checks, file_hit, file_hit_at}
use Rattle.deny_spec_report.specs.Packages.{glob_hit}
use Rattle.deny_spec_report.specs.Packages.{if_hit, meets_file, package_of, path_hit}
use Rattle.deny_gate.proofs.HitParts.{by_crate}
use Rattle.deny_spec_removal.proofs.Taken.{entry}

-- ---- whose hit it is

pub data IsHitOf (l : Scanning) (y : Bypass) (h : Hit) : Type 0 where
  of_bypass : bypass_hit l y ≡ Some h → IsHitOf l y h
  of_path : (a : AllowedPath) → Contains y.allow a → path_hit l y a ≡ Some h → IsHitOf l y h
  of_glob : (w : SpannedText) → Contains y.globs w → glob_hit l y w ≡ Some h → IsHitOf l y h

the_hit : (o : Option Hit) (h : Hit) → Contains (if_hit o) h → o ≡ Some h
the_hit None h at = absurd (no_member h at)
the_hit (Some k) h at = Contains-by_cases k [] h at (λ same. ap (λ (x : Hit). Some x) same)
    (λ later. absurd (no_member h later))

pub hit_of_one : (l : Scanning) (y : Bypass) (h : Hit) → Contains (bypass_hits_of l y) h → IsHitOf l y h
unfolding bypass_hits_of
hit_of_one l y h at = elim (Contains-append_cases (if_hit (bypass_hit l y))
    (filter_map (path_hit l y) y.allow ++ filter_map (glob_hit l y) y.globs) h at) as (λ _. IsHitOf l y h) [
      | inl first ↦ of_bypass (the_hit (bypass_hit l y) h first)
      | inr others ↦ elim (Contains-append_cases (filter_map (path_hit l y) y.allow)
          (filter_map (glob_hit l y) y.globs) h others) as (λ _. IsHitOf l y h) [
            | inl path ↦ let from = from_filter_map (path_hit l y) y.allow h path in
                of_path from.from from.member from.gives
            | inr glob ↦ let from = from_filter_map (glob_hit l y) y.globs h glob in
                of_glob from.from from.member from.gives
          ]
    ]

-- ---- the entry of each hit

pub bypass_hit_entry : (l : Scanning) (y : Bypass) (h : Hit) → bypass_hit l y ≡ Some h
    → h.entry ≡ entry kind.Bypass (bypass_span y)
unfolding bypass_hit
bypass_hit_entry l y h is = by_crate kind.Bypass (bypass_span y)
    (find (λ c. checks l c && uses l.building y c) l.graph.crates) h is

module _ (l : Scanning) (test : PackageFile → Bool) (kind : EntryKind) (span : Span) where
  abbrev hit_at : List ℕ → Crate → Hit
  hit_at path c = hit_of kind span (File (kid_of c) path)

  by_file : (c : Crate) (o : Option PackageFile) (h : Hit) → option_map (λ file. hit_at file.path c) o ≡ Some h
      → h.entry ≡ entry kind span
  by_file c None h is = absurd (none-some h is)
  by_file c (Some file) h is = ap (λ (k : Hit). k.entry) (sym (same_Some _ h is))

  in_crate : (o : Option Crate) (h : Hit) → option_and_then (file_hit_at l test hit_at) o ≡ Some h
      → h.entry ≡ entry kind span
  unfolding file_hit_at
  in_crate None h is = absurd (none-some h is)
  in_crate (Some c) h is = by_file c (find test (package_of l c).files) h is

  file_hit_entry : (y : Bypass) (h : Hit) → file_hit l y test hit_at ≡ Some h → h.entry ≡ entry kind span
  unfolding file_hit
  file_hit_entry y h is = in_crate (find (meets_file l y test) l.graph.crates) h is

pub path_hit_entry : (l : Scanning) (y : Bypass) (a : AllowedPath) (h : Hit) → path_hit l y a ≡ Some h
    → h.entry ≡ entry kind.BypassPath (path_span a)
unfolding path_hit
path_hit_entry l y a h is = file_hit_entry l (hits_path y a) kind.BypassPath (path_span a) y h is

pub glob_hit_entry : (l : Scanning) (y : Bypass) (w : SpannedText) (h : Hit) → glob_hit l y w ≡ Some h
    → h.entry ≡ entry kind.BypassGlob w.span
unfolding glob_hit
glob_hit_entry l y w h is = file_hit_entry l (hits_glob y w) kind.BypassGlob w.span y h is

-- ---- their kinds

pub kinds_of : (l : Scanning) (y : Bypass) (h : Hit) → IsHitOf l y h
    → (3 ≤ entry_kind_number h.entry.kind) × (entry_kind_number h.entry.kind ≤ 5)
unfolding entry_kind_number
kinds_of l y h (of_bypass is) =
    let of : entry_kind_number h.entry.kind ≡ 3 =
    ap (λ (e : EntryId). entry_kind_number e.kind) (bypass_hit_entry l y h is) in
    (omega (arith, of), omega (arith, of))
kinds_of l y h (of_path a at is) =
    let of : entry_kind_number h.entry.kind ≡ 4 =
    ap (λ (e : EntryId). entry_kind_number e.kind) (path_hit_entry l y a h is) in
    (omega (arith, of), omega (arith, of))
kinds_of l y h (of_glob w at is) =
    let of : entry_kind_number h.entry.kind ≡ 5 =
    ap (λ (e : EntryId). entry_kind_number e.kind) (glob_hit_entry l y w h is) in
    (omega (arith, of), omega (arith, of))
