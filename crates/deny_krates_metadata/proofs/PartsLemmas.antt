-- Reading a package or a declaration in parts is reading it whole.
use Rattle.std.proofs.Common.{◌≡◌, ◌∙◌, ℕ, List, Bool, true, Option, Result, Ok, Err, ap, refl}
use Rattle.serde_json.specs.Data.{Data}
use Rattle.deny_base.specs.declared.edge.DepKind.{DepKind}
use Rattle.deny_krates_metadata.specs.Document.{declaration_at, features_member, kind_member, package_at, target_at}
use Rattle.deny_krates_metadata.specs.Elements.{each_optional, flag_member, object_at, optional_text, optional_texts}
use Rattle.deny_krates_metadata.specs.Elements.{text_at}
use Rattle.deny_krates_metadata.specs.Elements.{text_member}
use Rattle.deny_base_lists.specs.Reader.{◌>>=◌, Fails, IsFault}
use Rattle.deny_base_lists.proofs.ReaderLemmas.{fails_through}
use Rattle.deny_krates_metadata.specs.declared.package.Contents.{Contents}
use Rattle.deny_krates_metadata.specs.declared.declaration.Declaration.{Declaration}
use Rattle.deny_krates_metadata.specs.declared.feature.Feature.{Feature}
use Rattle.deny_krates_metadata.specs.declared.package.Identity.{Identity}
use Rattle.deny_krates_metadata.specs.declared.package.MetadataPackage.{MetadataPackage}
use Rattle.deny_krates_metadata.specs.declared.declaration.Requested.{Requested}
use Rattle.deny_krates_metadata.specs.declared.package.Target.{Target}
use Rattle.deny_krates_metadata.specs.declared.package.Terms.{Terms}
use Rattle.deny_krates_metadata.specs.declared.declaration.Usage.{Usage}
use Rattle.deny_krates_metadata.specs.declared.fault.MetadataFault.{MetadataFault}
use Rattle.deny_krates_metadata.specs.declared.fault.MetadataFault.TheVariants.{Memory}
use Rattle.deny_krates_metadata.specs.declared.member.MetadataMember.TheVariants.{Name, Version, Id, ManifestPath}
use Rattle.deny_krates_metadata.specs.declared.member.MetadataMember.TheVariants.{Source, License}
use Rattle.deny_krates_metadata.specs.declared.member.MetadataMember.TheVariants.{RustVersion, Publish, Targets}
use Rattle.deny_krates_metadata.specs.declared.member.MetadataMember.TheVariants.{Dependencies}
use Rattle.deny_krates_metadata.specs.declared.member.MetadataMember.TheVariants.{Req, Rename, Target as ForTarget}
use Rattle.deny_krates_metadata.specs.declared.member.MetadataMember.TheVariants.{Path, Features}
use Rattle.deny_krates_metadata.specs.declared.member.MetadataMember.TheVariants.{UsesDefaultFeatures}
use Rattle.deny_krates_metadata.specs.private.Parts.{contents_at, identity_at, requested_at, terms_at, usage_at}

-- what a reading is once its first step has read a value
pub steps_on : {A B : Type 0} (whole : Result B MetadataFault) (first : Result A MetadataFault)
    (then : A → Result B MetadataFault) (x : A)
    → whole ≡ first >>= then → first ≡ Ok x → whole ≡ then x
steps_on whole first then x is reads = is ∙ ap (λ r. r >>= then) reads

-- a fault of the first step of a reading is a fault of the reading
pub fails_first : {A B : Type 0} (whole : Result B MetadataFault) (first : Result A MetadataFault)
    (then : A → Result B MetadataFault) (e : MetadataFault)
    → whole ≡ first >>= then → Fails Memory (IsFault first) e → Fails Memory (IsFault whole) e
fails_first whole first then e is fails =
    fails_through Memory e first whole (λ f fault. is ∙ ap (λ r. r >>= then) fault) fails

-- three steps whose values are then joined
three_steps : {A B C P R : Type 0} (a : Result A MetadataFault) (b : Result B MetadataFault)
    (c : Result C MetadataFault) (join : A → B → C → P) (then : P → Result R MetadataFault)
    → a >>= (λ x. b >>= (λ y. c >>= (λ z. then (join x y z))))
    ≡ (a >>= (λ x. b >>= (λ y. c >>= (λ z. Ok (join x y z))))) >>= then
three_steps (Ok x) (Ok y) (Ok z) join then = refl
three_steps (Ok x) (Ok y) (Err e) join then = refl
three_steps (Ok x) (Err e) c join then = refl
three_steps (Err e) b c join then = refl

-- four steps whose values are then joined
four_steps : {A B C D P R : Type 0} (a : Result A MetadataFault) (b : Result B MetadataFault)
    (c : Result C MetadataFault) (d : Result D MetadataFault)
    (join : A → B → C → D → P) (then : P → Result R MetadataFault)
    → a >>= (λ w. b >>= (λ x. c >>= (λ y. d >>= (λ z. then (join w x y z)))))
    ≡ (a >>= (λ w. b >>= (λ x. c >>= (λ y. d >>= (λ z. Ok (join w x y z)))))) >>= then
four_steps (Ok w) (Ok x) (Ok y) (Ok z) join then = refl
four_steps (Ok w) (Ok x) (Ok y) (Err e) join then = refl
four_steps (Ok w) (Ok x) (Err e) d join then = refl
four_steps (Ok w) (Err e) c d join then = refl
four_steps (Err e) b c d join then = refl

-- four steps after a check, whose values are then joined
after_check : {A B C D P R : Type 0} (o : Result (Unit {0}) MetadataFault) (a : Result A MetadataFault)
    (b : Result B MetadataFault) (c : Result C MetadataFault) (d : Result D MetadataFault)
    (join : A → B → C → D → P) (then : P → Result R MetadataFault)
    → o >>= (λ _. a >>= (λ w. b >>= (λ x. c >>= (λ y. d >>= (λ z. then (join w x y z))))))
    ≡ (o >>= (λ _. a >>= (λ w. b >>= (λ x. c >>= (λ y. d >>= (λ z. Ok (join w x y z))))))) >>= then
after_check (Ok u) a b c d join then = four_steps a b c d join then
after_check (Err e) a b c d join then = refl

-- equal continuations after one step
after_step : {A B : Type 0} (a : Result A MetadataFault) (f g : A → Result B MetadataFault)
    → ((x : A) → f x ≡ g x) → a >>= f ≡ a >>= g
after_step (Ok x) f g same = same x
after_step (Err e) f g same = refl

abbrev pub package_of : Identity → Terms → Contents → MetadataPackage
package_of identity terms contents =
    record {
      name = identity.name;
      version = identity.version;
      id = identity.id;
      manifest_path = identity.manifest_path;
      source = terms.source;
      license = terms.license;
      rust_version = terms.rust_version;
      publish = terms.publish;
      features = contents.features;
      targets = contents.targets;
      dependencies = contents.dependencies;
    }

abbrev pub declaration_of : Requested → Usage → Declaration
declaration_of requested usage =
    record {
      name = requested.name;
      req = requested.req;
      kind = requested.kind;
      rename = requested.rename;
      target = usage.target;
      path = usage.path;
      features = usage.features;
      uses_default_features = usage.uses_default_features;
    }

-- the package, once its identity and its terms are read
abbrev pub package_with : List ℕ → Data → Identity → Terms → Result MetadataPackage MetadataFault
package_with path d identity terms = contents_at path d >>= (λ contents. Ok (package_of identity terms contents))

abbrev pub package_after : List ℕ → Data → Identity → Result MetadataPackage MetadataFault
package_after path d identity = terms_at path d >>= package_with path d identity

-- the declaration, once what it requests is read
abbrev pub declaration_after : List ℕ → Data → Requested → Result Declaration MetadataFault
declaration_after path d requested = usage_at path d >>= (λ usage. Ok (declaration_of requested usage))

abbrev join_identity : List ℕ → List ℕ → List ℕ → List ℕ → Identity
join_identity name version id manifest_path =
    record { name = name; version = version; id = id; manifest_path = manifest_path }

abbrev join_terms : Option (List ℕ) → Option (List ℕ) → Option (List ℕ) → Option (List (List ℕ)) → Terms
join_terms source license rust_version publish =
    record { source = source; license = license; rust_version = rust_version; publish = publish }

abbrev join_contents : List Feature → List Target → List Declaration → Contents
join_contents features targets dependencies =
    record { features = features; targets = targets; dependencies = dependencies }

abbrev join_requested : List ℕ → List ℕ → DepKind → Option (List ℕ) → Requested
join_requested name req kind rename = record { name = name; req = req; kind = kind; rename = rename }

abbrev join_usage : Option (List ℕ) → Option (List ℕ) → List (List ℕ) → Bool → Usage
join_usage target folder features uses_default_features =
    record { target = target; path = folder; features = features; uses_default_features = uses_default_features }

pub package_in_parts : (path : List ℕ) (d : Data)
    → package_at path d ≡ identity_at path d >>= package_after path d
unfolding package_at identity_at terms_at contents_at
package_in_parts path d =
    after_check (object_at path d) (text_member path Name d) (text_member path Version d) (text_member path Id d)
    (text_member path ManifestPath d) join_identity
    (λ i. optional_text path Source d >>= (λ source. optional_text path License d >>= (λ license.
    optional_text path RustVersion d >>= (λ rust_version. optional_texts path Publish d >>= (λ publish.
    features_member path d >>= (λ features. each_optional target_at path Targets d >>= (λ targets.
    each_optional declaration_at path Dependencies d >>= (λ dependencies.
    Ok (package_of i (join_terms source license rust_version publish) (join_contents features targets
    dependencies))))))))))
    ∙ after_step (identity_at path d) _ _ (λ i. four_steps (optional_text path Source d) (optional_text path License d)
    (optional_text path RustVersion d) (optional_texts path Publish d) join_terms
    (λ t. features_member path d >>= (λ features. each_optional target_at path Targets d >>= (λ targets.
    each_optional declaration_at path Dependencies d >>= (λ dependencies.
    Ok (package_of i t (join_contents features targets dependencies))))))
    ∙ after_step (terms_at path d) _ _ (λ t. three_steps (features_member path d)
    (each_optional target_at path Targets d) (each_optional declaration_at path Dependencies d) join_contents
    (λ c. Ok (package_of i t c))))

pub declaration_in_parts : (path : List ℕ) (d : Data)
    → declaration_at path d ≡ requested_at path d >>= declaration_after path d
unfolding declaration_at requested_at usage_at
declaration_in_parts path d =
    after_check (object_at path d) (text_member path Name d) (text_member path Req d) (kind_member path d)
    (optional_text path Rename d) join_requested
    (λ r. optional_text path ForTarget d >>= (λ target. optional_text path Path d >>= (λ folder.
    each_optional text_at path Features d >>= (λ features. flag_member path UsesDefaultFeatures true d >>= (λ defaults.
    Ok (declaration_of r (join_usage target folder features defaults)))))))
    ∙ after_step (requested_at path d) _ _ (λ r. four_steps (optional_text path ForTarget d) (optional_text path Path d)
    (each_optional text_at path Features d) (flag_member path UsesDefaultFeatures true d) join_usage
    (λ u. Ok (declaration_of r u)))
