-- Which rule decides a file, by the globs that fit its path.
use Rattle.std.proofs.Common.{◌≡◌, ◌∙◌, ◌<◌, ◌≤◌, [], ◌∷◌, ℕ, Bool, List, Option, None, Some, true, false, ap, arith}
use Rattle.std.proofs.Common.{length, map, option_map, refl, subst, sym}
use Rattle.std.specs.Prelude.{Contains, is_some}
use Rattle.std.specs.Cmp.Lexicographic.{bytes_decides}
use Rattle.std.specs.List.{list_any}
use Rattle.std.proofs.lemmas.Bool.{false_from_ne_true}
use Rattle.deny_base.specs.declared.span.Spanned.{Spanned}
use Rattle.deny_cfg_build.specs.BuildingView.{bypass_view, checksum_view, globs_view, path_view, script_glob_view}
use Rattle.deny_cfg_build.specs.Globs.{extension_text}
use Rattle.deny_cfg_build.specs.declared.glob_set.ValidGlobSet.{ValidGlobSet}
use Rattle.deny_cfg_build.specs.declared.pattern.GlobPattern.{GlobPattern}
use Rattle.deny_cfg_build.specs.declared.valid.ValidBypass.{ValidBypass}
use Rattle.deny_spec.specs.Building.{AllowedPath, Building, Bypass, ScriptGlob}
use Rattle.deny_spec_report.specs.PackageFiles.{fits_own, fits_script, globs_of, leaves_to_globs, path_of_used}
use Rattle.deny_spec_report.specs.PackageFiles.{step_allowed}
use Rattle.deny_spec_report.specs.PackageFiles.{step_by, step_of}
use Rattle.deny_base_lists.proofs.Members.{Contains-by_cases, Contains-first, Contains-from_map, Contains-rest}
use Rattle.deny_base_lists.proofs.Members.{any_from}
use Rattle.deny_base_lists.proofs.Members.{any_passes, contains_map, no_member}
use Rattle.deny_spec.specs.Policy.{SpannedText}
use Rattle.deny_spec.specs.Text.{same_text}
use Rattle.deny_cfg_tables.specs.declared.bans.cfg.bypass.BypassPath.{BypassPath}
use Rattle.deny_cfg_tables.specs.declared.bans.cfg.checksum.Checksum.{Checksum}
use Rattle.deny_build_scan.specs.Deciding.{own_texts, script_texts}
use Rattle.deny_build_scan.specs.Deciding.AreDeciding.{by_extension, by_glob, by_path, by_sum}
use Rattle.deny_build_scan.specs.Globs.{AreFitting, FitsText}
use Rattle.deny_build_scan.specs.Globs.AreFitting.{fitting, none, other}
use Rattle.deny_build_scan.specs.declared.decide.Asks.{Asks}
use Rattle.deny_build_scan.specs.declared.decide.Asks.TheVariants as asks
use Rattle.deny_build_scan.specs.private.Deciding.{IsDecided, asks_by, is_among}
use Rattle.deny_build_scan.specs.private.Reading.{own_globs}

-- ---- the fitting globs

fitted : (path : List ℕ) (globs those : List (List ℕ)) (g : List ℕ) → AreFitting path globs those → Contains those g
    → Contains globs g
fitted path _ _ g none there = absurd (no_member g there)
fitted path _ _ g (fitting {globs} {those} glob fits rest) there = Contains-by_cases glob those g there
    (λ same. subst (λ (h : List ℕ). Contains (glob ∷ globs) h) same (Contains-first glob globs))
    (λ later. Contains-rest glob globs g (fitted path globs those g rest later))
fitted path _ _ g (other {globs} {those} glob fails rest) there =
    Contains-rest glob globs g (fitted path globs those g rest there)

-- a glob among the fitting ones fits
fits_there : (path : List ℕ) (globs those : List (List ℕ)) (g : List ℕ) → AreFitting path globs those
    → Contains those g → FitsText g path
fits_there path _ _ g none there = absurd (no_member g there)
fits_there path _ _ g (fitting {globs} {those} glob fits rest) there = Contains-by_cases glob those g there
    (λ same. subst (λ (h : List ℕ). FitsText h path) same fits)
    (λ later. fits_there path globs those g rest later)
fits_there path _ _ g (other {globs} {those} glob fails rest) there = fits_there path globs those g rest there

-- without fitting globs no glob fits
none_fits : (path : List ℕ) (globs those : List (List ℕ)) (g : List ℕ) → AreFitting path globs those → those ≡ []
    → Contains globs g → FitsText g path → ⊥
none_fits path _ _ g none empty there fits = no_member g there
none_fits path _ _ g (fitting glob fits_too rest) empty there fits = absurd (cc empty)
none_fits path _ _ g (other {globs} {those} glob fails rest) empty there fits = Contains-by_cases glob globs g there
    (λ same. fails (subst (λ (h : List ℕ). FitsText h path) (sym same) fits))
    (λ later. none_fits path globs those g rest empty later fits)

module _ {X : Type 0} (text : X → List ℕ) (path : List ℕ) where
  any_empty : (xs : List X) → list_any (λ x. is_among [] (text x)) xs ≡ false
  any_empty [] = refl
  any_empty (x ∷ xs) = any_empty xs

  any_fitting : (xs : List X) (g : List ℕ) (gs : List (List ℕ)) → AreFitting path (map text xs) (g ∷ gs)
      → list_any (λ x. is_among (g ∷ gs) (text x)) xs ≡ true
  any_fitting xs g gs fit =
      let there = fitted path (map text xs) (g ∷ gs) g fit (Contains-first g gs) in
      let one = Contains-from_map text xs g there in
      any_from (λ x. is_among (g ∷ gs) (text x)) xs one.from one.member
      (any_from (same_text (text one.from)) (g ∷ gs) g (Contains-first g gs)
      (subst (λ (h : List ℕ). same_text (text one.from) h ≡ true) one.is
      ((bytes_decides (text one.from) (text one.from)).1 refl)))

  any_others : (xs : List X) (gs : List (List ℕ)) → AreFitting path (map text xs) []
      → ((g : List ℕ) → Contains gs g → FitsText g path) → list_any (λ x. is_among gs (text x)) xs ≡ false
  any_others xs gs fit fits = false_from_ne_true (list_any (λ x. is_among gs (text x)) xs) (λ is.
      let one = any_passes (λ x. is_among gs (text x)) xs is in
      let glob = any_passes (same_text (text one.one)) gs one.passes in
      let same : text one.one ≡ glob.one = (bytes_decides (text one.one) glob.one).0 glob.passes in
      none_fits path (map text xs) [] (text one.one) fit refl (contains_map text xs one.one one.member)
      (subst (λ (h : List ℕ). FitsText h path) (sym same) (fits glob.one glob.member)))

-- ---- decisions

module _ (b : Building) (owner : Option Bypass) (path : List ℕ) where
  abbrev step_is : Option AllowedPath → Bool → Bool → Asks
  step_is allowed own script = asks_by (step_by allowed own script)

  asks_are : (globs : List (List ℕ)) (allowed : Option AllowedPath) (own script : Bool)
      → path_of_used owner path ≡ allowed → fits_own (is_among globs) owner ≡ own
      → fits_script (is_among globs) b ≡ script → step_is allowed own script
      ≡ asks_by (step_of b owner path (is_among globs))
  unfolding step_of
  asks_are globs allowed own script at mine theirs =
      λ i. asks_by (step_by (sym at i) (sym mine i) (sym theirs i))

  pub decided_path : (a : AllowedPath) (globs : List (List ℕ)) → path_of_used owner path ≡ Some a
      → a.checksum ≡ None → globs ≡ [] → IsDecided b owner path (record { globs = globs; asks = asks.Nothing })
  decided_path a globs at no_sum empty = subst (λ (gs : List (List ℕ)). IsDecided b owner path
      (record { globs = gs; asks = asks.Nothing })) (sym empty)
      (record {
        globs = by_path (ap leaves_to_globs at ∙ ap is_some no_sum);
        asks = ap (λ (o : Option (Spanned (List ℕ))). asks_by (step_allowed a false o)) (sym no_sum)
            ∙ asks_are [] (Some a) false false at (any_empty (λ (w : SpannedText). w.value) path (globs_of owner))
            (any_empty (λ (e : ScriptGlob). e.text) path b.extensions);
      })

  -- a file with an allowed path that has a checksum, after the globs
  pub decided_sum : (a : AllowedPath) (sum : Spanned (List ℕ)) (globs : List (List ℕ))
      → path_of_used owner path ≡ Some a → a.checksum ≡ Some sum → AreFitting path (own_texts owner) globs
      → length globs ≤ 0 → IsDecided b owner path (record { globs = globs; asks = asks.Sum })
  decided_sum a sum [] at has_sum fit empty = record {
    globs = by_sum a at (ap leaves_to_globs at ∙ ap is_some has_sum) fit;
    asks = ap (λ (o : Option (Spanned (List ℕ))). asks_by (step_allowed a false o)) (sym has_sum)
        ∙ asks_are [] (Some a) false false at (any_empty (λ (w : SpannedText). w.value) path (globs_of owner))
        (any_empty (λ (e : ScriptGlob). e.text) path b.extensions);
  }
  decided_sum a sum (g ∷ gs) at has_sum fit empty = absurd (omega (arith, empty))

  leaves : (a : Option AllowedPath) → path_of_used owner path ≡ a → leaves_to_globs a ≡ true
      → leaves_to_globs (path_of_used owner path) ≡ true
  leaves a at is = ap leaves_to_globs at ∙ is

  pub decided_glob : (a : Option AllowedPath) (globs : List (List ℕ)) → path_of_used owner path ≡ a
      → leaves_to_globs a ≡ true → AreFitting path (own_texts owner) globs → 0 < length globs
      → IsDecided b owner path (record { globs = globs; asks = asks.Nothing })
  decided_glob a [] at left fit some = absurd (omega (arith, some))
  decided_glob a (g ∷ gs) at left fit some = record {
    globs = by_glob g gs (leaves a at left) fit;
    asks = nothing a left (fits_script (is_among (g ∷ gs)) b)
        ∙ asks_are (g ∷ gs) a true (fits_script (is_among (g ∷ gs)) b) at
        (any_fitting (λ (w : SpannedText). w.value) path (globs_of owner) g gs fit) refl;
  }
    where
      by_checksum : (a : AllowedPath) (o : Option (Spanned (List ℕ))) → is_some o ≡ true → asks.Nothing
          ≡ asks_by (step_allowed a true o)
      by_checksum a None is = absurd (cc is)
      by_checksum a (Some sum) is = refl

      nothing : (a : Option AllowedPath) → leaves_to_globs a ≡ true → (script : Bool)
          → asks.Nothing ≡ step_is a true script
      nothing None is script = refl
      nothing (Some a) is script = by_checksum a a.checksum is

  pub decided_script : (globs : List (List ℕ)) → path_of_used owner path ≡ None
      → AreFitting path (own_texts owner) [] → AreFitting path (script_texts b) globs → 0 < length globs
      → IsDecided b owner path (record { globs = globs; asks = asks.Nothing })
  decided_script [] at own fit some = absurd (omega (arith, some))
  decided_script (g ∷ gs) at own fit some = record {
    globs = by_extension (g ∷ gs) at own fit;
    asks = asks_are (g ∷ gs) None false true at
        (any_others (λ (w : SpannedText). w.value) path (globs_of owner) (g ∷ gs) own
        (λ h there. fits_there path (script_texts b) (g ∷ gs) h fit there))
        (any_fitting (λ (e : ScriptGlob). e.text) path b.extensions g gs fit);
  }

  pub decided_header : (globs : List (List ℕ)) → path_of_used owner path ≡ None
      → AreFitting path (own_texts owner) [] → AreFitting path (script_texts b) globs → length globs ≤ 0
      → IsDecided b owner path (record { globs = globs; asks = asks.Header })
  decided_header [] at own fit empty = record {
    globs = by_extension [] at own fit;
    asks = asks_are [] None false false at (any_empty (λ (w : SpannedText). w.value) path (globs_of owner))
        (any_empty (λ (e : ScriptGlob). e.text) path b.extensions);
  }
  decided_header (g ∷ gs) at own fit empty = absurd (omega (arith, empty))

-- the globs of a bypass are those of its view
own_texts_are : (o : Option ValidBypass) → map (λ (w : SpannedText). w.value) (globs_view (own_globs o))
    ≡ own_texts (option_map bypass_view o)
own_texts_are None = refl
own_texts_are (Some bypass) = refl

pub own_fit : (path : List ℕ) (globs : Option ValidGlobSet) (bypass : Option ValidBypass) (those : List (List ℕ))
    → globs ≡ own_globs bypass → AreFitting path (map (λ (w : SpannedText). w.value) (globs_view globs)) those
    → AreFitting path (own_texts (option_map bypass_view bypass)) those
own_fit path globs bypass those same fit =
    subst (λ (ts : List (List ℕ)). AreFitting path ts those)
    (ap (λ (o : Option ValidGlobSet). map (λ (w : SpannedText). w.value) (globs_view o)) same
    ∙ own_texts_are bypass) fit

-- the globs of script extensions are those of their patterns
scripts_are : (patterns : List GlobPattern) → map extension_text patterns
    ≡ map (λ (e : ScriptGlob). e.text) (map script_glob_view patterns)
scripts_are [] = refl
scripts_are (pattern ∷ patterns) = ap (λ ts. extension_text pattern ∷ ts) (scripts_are patterns)

pub script_fit : (path : List ℕ) (patterns : List GlobPattern) (those : List (List ℕ))
    → AreFitting path (map extension_text patterns) those
    → AreFitting path (map (λ (e : ScriptGlob). e.text) (map script_glob_view patterns)) those
script_fit path patterns those fit =
    subst (λ (ts : List (List ℕ)). AreFitting path ts those) (scripts_are patterns) fit

-- ---- an allowed path in its view

no_sum : (o : Option (Spanned Checksum)) → is_some o ≡ false → option_map checksum_view o ≡ None
no_sum None is = refl
no_sum (Some sum) is = absurd (cc is)

pub path_alone : (file : BypassPath) → is_some file.checksum ≡ false → (path_view file).checksum ≡ None
path_alone file is = no_sum file.checksum is

some_sum : (o : Option (Spanned Checksum)) → is_some o ≡ true
    → (sum : Spanned (List ℕ)) × (option_map checksum_view o ≡ Some sum)
some_sum None is = absurd (cc is)
some_sum (Some sum) is = (checksum_view sum, refl)

pub path_summed : (file : BypassPath) → is_some file.checksum ≡ true
    → (sum : Spanned (List ℕ)) × ((path_view file).checksum ≡ Some sum)
path_summed file is = some_sum file.checksum is

pub path_leaves : (file : BypassPath) → is_some file.checksum ≡ true
    → leaves_to_globs (Some (path_view file)) ≡ true
path_leaves file is = ap is_some (path_summed file is).1
