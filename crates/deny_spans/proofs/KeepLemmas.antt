-- The file and the manifest that a text is kept as.
use Rattle.std.proofs.Common.{◌≡◌, ◌∙◌, ◌++◌, ◌∷◌, [], ℕ, Bool, List, Option, None, Some, IsUtf8, ap, append-nil, cond}
use Rattle.std.proofs.Common.{length, map, refl, subst, sym}
use Rattle.std.specs.Prelude.{◌≢◌, All, AllPairs, slice_get}
use Rattle.std.proofs.lemmas.Str.{is_utf8-from_IsUtf8}
use Rattle.deny_base_lists.proofs.Texts.{is_utf8-false}
use Rattle.deny_base.specs.declared.files.File.{File}
use Rattle.deny_krates.specs.Crates.{crate_view}
use Rattle.deny_krates.specs.Ids.{crate_of}
use Rattle.deny_krates.specs.krate.Krate.{Krate}
use Rattle.deny_spans_manifest.specs.Fault.{HasNoTree}
use Rattle.deny_spans_manifest.specs.Manifest.{HasNoNode, IsManifestBy, IsManifestOf, IsOfGraph, dep_view, deps_in}
use Rattle.deny_spans_manifest.specs.Manifest.{ignored_by}
use Rattle.deny_spans_manifest.specs.declared.declarations.ManifestDep.{ManifestDep}
use Rattle.deny_spans_manifest.specs.declared.manifest.Manifest.{Manifest}
use Rattle.deny_spec.specs.Graph.{Crate, Graph}
use Rattle.deny_spans.proofs.IdLemmas.{crate_found}
use Rattle.deny_spans.proofs.ManifestScanLemmas.{file_of}
use Rattle.deny_spans.specs.ManifestScan.{kept_as, number_of, text_file}
use Rattle.deny_spans.specs.private.Gathered.{IsKept, IsManifestRead, reading}
use Rattle.deny_spans.specs.private.Workspace.{AreSharedIn, IsKeptAlone}
use Rattle.deny_toml.specs.value.Value.{Value}
use Rattle.deny_spans_workspace.specs.declared.registries.Registry.{Registry}
use Rattle.deny_spans_workspace.specs.declared.workspace.WorkspaceDeps.{WorkspaceDeps}

-- ---- a manifest that was read

module _ (g : Graph) (place : ℕ) (k : Krate) (ids : AllPairs (λ c d. c.id ≢ d.id) g.crates)
    (at : slice_get g.crates place ≡ Some (crate_view place k)) where
  found : crate_of g k.id.0 ≡ Some (crate_view place k)
  found = crate_found g place (crate_view place k) ids at

  -- a manifest with the number of its file
  pub manifest_is : (text : List ℕ) (number : ℕ) (m n : Manifest) → IsUtf8 text → IsManifestOf g k.id.0 text m
      → m.krate.now ≡ k → n.id ≡ number → n.krate.now ≡ m.krate.now → deps_in n ≡ deps_in m
      → ignored_by n ≡ ignored_by m → IsManifestRead g (crate_view place k) text number (Some n)
  manifest_is text number m n utf8 of krate id same_krate deps ignored =
      let c = crate_view place k in
      let same : of.crate ≡ c = same_crate of.crate (sym of.in_graph ∙ found) in
      let is : IsManifestBy g c of.tree m = subst (λ (d : Crate). IsManifestBy g d of.tree m) same of.is in
      record {
        tree = Some of.tree;
        reads = (utf8, of.reads);
        says = λ agrees reports.
            let declared : map dep_view (deps_in n) ≡ _ = ap (map dep_view) deps ∙ is.deps agrees reports in
            let kinds : ignored_by n ≡ _ = ignored ∙ is.ignored in
            λ i. Some (record { file = id i; deps = declared i; ignored = kinds i });
        own = record {
          crate = at ∙ ap (λ (j : Krate). Some (crate_view place j)) (sym (same_krate ∙ krate));
          krates = subst (λ (ds : List ManifestDep). All (IsOfGraph g) ds) (sym deps) is.krates;
        };
      }
    where
      same_crate : (d : Crate) → Some d ≡ Some (crate_view place k) → d ≡ crate_view place k
      same_crate d e = cc e

  pub no_manifest : (text : List ℕ) (number : ℕ) → HasNoTree text
      → IsManifestRead g (crate_view place k) text number None
  no_manifest text number none = record {
    tree = None;
    reads = λ utf8. none;
    says = λ agrees reports. refl;
    own = tt;
  }

  pub has_node : (text : List ℕ) → HasNoNode g k.id.0 text → ⊥
  has_node text is = none_some (sym is.none ∙ found)
    where
      none_some : None ≡ Some (crate_view place k) → ⊥
      none_some e = cc e

-- ---- texts as files

-- a text that is UTF-8 adds one file
pub file_more : (path text : List ℕ) (old new : List File) → IsUtf8 text → new ≡ old ++ file_of path text ∷ []
    → new ≡ old ++ text_file path text
file_more path text old new utf8 is =
    is ∙ ap (λ (b : Bool). old ++ cond b (file_of path text ∷ []) []) (sym (is_utf8-from_IsUtf8 text utf8))

number_is : (text : List ℕ) (tree : Option Value) (number : ℕ) → IsUtf8 text
    → Some number ≡ number_of (Some (reading text tree number))
number_is text tree number utf8 = ap (λ (b : Bool). cond b (Some number) None) (sym (is_utf8-from_IsUtf8 text utf8))

-- a text that is no UTF-8 adds no file
no_file : (path text : List ℕ) (tree : Option Value) (number : ℕ) (old : List File) → (IsUtf8 text → ⊥)
    → old ≡ old ++ kept_as path (Some (reading text tree number))
no_file path text tree number old other = sym (append-nil old)
    ∙ ap (λ (b : Bool). old ++ cond b (file_of path text ∷ []) []) (sym (is_utf8-false text other))

no_number : (text : List ℕ) (tree : Option Value) (number : ℕ) → (IsUtf8 text → ⊥)
    → None ≡ number_of (Some (reading text tree number))
no_number text tree number other = ap (λ (b : Bool). cond b (Some number) None) (sym (is_utf8-false text other))

module _ (g : Graph) (c : Crate) (bytes : List ℕ) (old : List File) where
  pub kept_is : (text : List ℕ) (new : List File) (number : ℕ) (manifest : Option Manifest) → IsUtf8 bytes
      → text ≡ bytes
      → number ≡ length old → new ≡ old ++ file_of c.manifest_path text ∷ [] → IsManifestRead g c text number manifest
      → IsKept g c (Some bytes) old new (record { number = Some number; manifest = manifest })
  kept_is text new number manifest utf8 same is added read =
      let of : IsManifestRead g c bytes (length old) manifest =
      subst (λ (t : List ℕ). IsManifestRead g c t (length old) manifest) same
      (subst (λ (n : ℕ). IsManifestRead g c text n manifest) is read) in
      record {
        read = Some (reading bytes of.tree (length old));
        texts = refl;
        reads = of.reads;
        numbered = refl;
        files = file_more c.manifest_path bytes old new utf8
            (added ∙ ap (λ t. old ++ file_of c.manifest_path t ∷ []) same);
        number = ap (λ n. Some n) is ∙ number_is bytes of.tree (length old) utf8;
        says = of.says;
        own = of.own;
      }

  pub kept_none : (IsUtf8 bytes → ⊥) → IsKept g c (Some bytes) old old (record { number = None; manifest = None })
  kept_none other = record {
    read = Some (reading bytes None (length old));
    texts = refl;
    reads = λ utf8. absurd (other utf8);
    numbered = refl;
    files = no_file c.manifest_path bytes None (length old) old other;
    number = no_number bytes None (length old) other;
    says = λ agrees reports. refl;
    own = tt;
  }

module _ (g : Graph) (registries : List Registry) (path bytes : List ℕ) (old : List File) where
  pub alone_is : (text : List ℕ) (new : List File) (number : ℕ) (deps : Option WorkspaceDeps) → IsUtf8 bytes
      → text ≡ bytes → number ≡ length old → new ≡ old ++ file_of path text ∷ [] → AreSharedIn g registries text deps
      → IsKeptAlone g registries path bytes old new (record { id = Some number; deps = deps })
  alone_is text new number deps utf8 same is added shared =
      let of : AreSharedIn g registries bytes deps =
      subst (λ (t : List ℕ). AreSharedIn g registries t deps) same shared in
      record {
        tree = of.tree;
        reads = of.reads;
        files = file_more path bytes old new utf8
            (added ∙ ap (λ t. old ++ file_of path t ∷ []) same);
        is = record { id = ap (λ n. Some n) is ∙ number_is bytes of.tree (length old) utf8; deps = of.are };
      }

  pub alone_none : (IsUtf8 bytes → ⊥)
      → IsKeptAlone g registries path bytes old old (record { id = None; deps = None })
  alone_none other = record {
    tree = None;
    reads = λ utf8. absurd (other utf8);
    files = no_file path bytes None (length old) old other;
    is = record {
      id = no_number bytes None (length old) other;
      deps = record { some = refl; are = tt };
    };
  }
