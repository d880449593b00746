-- The hits of bypasses, paths and globs do not change where some that nothing hits are taken out.
use Rattle.std.proofs.Common.{◌≡◌, ◌&&◌, ◌∙◌, ◌++◌, ℕ, Bool, List, None, Option, [], ap, false}
use Rattle.std.proofs.Common.{refl, sym, true}
use Rattle.std.specs.Prelude.{Contains, filter, filter_map, option_and_then, option_map}
use Rattle.std.specs.List.{list_any}
use Rattle.std.proofs.lemmas.Bool.{and_from, and_parts}
use Rattle.std.proofs.lemmas.List.Folds.{flat_map-map}
use Rattle.deny_base_lists.proofs.Agreement.{filter_map_on, find_on, flat_map_on, found_on, list_any_on}
use Rattle.deny_base_lists.proofs.Filters.{filter-none}
use Rattle.deny_base_lists.proofs.Members.{any_from, any_passes, filtered}
use Rattle.deny_base.specs.declared.entry.EntryId.{EntryId}
use Rattle.deny_base.specs.declared.entry.EntryKind.TheVariants as kind
use Rattle.deny_base.specs.declared.entry.Hit.{Hit}
use Rattle.deny_base.specs.declared.entry.Witness.TheVariants.{Krate}
use Rattle.deny_spec.specs.Building.{AllowedPath, Bypass}
use Rattle.deny_spec.specs.declared.package.PackageFile.{PackageFile}
use Rattle.deny_spec.specs.Graph.{Crate, kid_of}
use Rattle.deny_spec.specs.Hits.{hit_of}
use Rattle.deny_spec.specs.Policy as policy
use Rattle.deny_spec_report.specs.BuildScripts.{bypass_span, uses}
use Rattle.deny_spec_report.specs.PackageFiles.{hits_glob, hits_path}
use Rattle.deny_spec_report.specs.Packages.{Scanning, bypass_hit, bypass_hits, bypass_hits_of, checks, file_hit}
use Rattle.deny_spec_report.specs.Packages.{file_hit_at}
use Rattle.deny_spec_report.specs.Packages.{glob_hit, if_hit, is_used, meets_file, package_of, path_hit, walks}
use Rattle.deny_spec_report.proofs.Kept.{fails_if_gone, filter_map_kept, find_none_on, flat_map_kept, guarded}
use Rattle.deny_spec_removal.specs.BypassRemoval.{BypassesStay, is_met}
use Rattle.deny_spec_removal.specs.Removal.{cut_bypass, stays_bypass, stays_glob, stays_path}
use Rattle.deny_spec_removal.proofs.Asking.{hits_glob_same, hits_path_same, rest, uses_same, uses_where_same}
use Rattle.deny_spec_removal.proofs.Asking.{walked_scanned}
use Rattle.deny_spec_removal.proofs.Asking.{walked_same}

-- a list whose elements give nothing
filter_map_none : {X Y : Type 0} (f : X → Option Y) (xs : List X) → ((x : X) → Contains xs x → f x ≡ None)
    → filter_map f xs ≡ []
filter_map_none f xs none = sym (filter_map_kept (λ x. false) f xs (λ x is gone. none x is))
    ∙ ap (filter_map f) (filter-none (λ x. false) xs (λ x. refl))

-- ---- a bypass that no crate uses is met by no file

used_if_met : (l : Scanning) (y : Bypass) (test : PackageFile → Bool) → is_met l y test ≡ true → is_used l y ≡ true
unfolding is_used meets_file
used_if_met l y test is =
    let found = any_passes (meets_file l y test) l.graph.crates is in
    let meets = and_parts (walks l found.one && uses l.building y found.one)
    (list_any test (package_of l found.one).files) found.passes in
    let both = and_parts (walks l found.one) (uses l.building y found.one) meets.0 in
    any_from (λ c. checks l c && uses l.building y c) l.graph.crates found.one found.member
    (and_from (checks l found.one) (uses l.building y found.one) (walked_scanned l found.one both.0) both.1)

not_met : (l : Scanning) (y : Bypass) (test : PackageFile → Bool) → is_used l y ≡ false → is_met l y test ≡ false
not_met l y test unused = fails_if_gone (is_used l y) (is_met l y test) (used_if_met l y test) unused

no_bypass_hit : (l : Scanning) (y : Bypass) → is_used l y ≡ false → bypass_hit l y ≡ None
unfolding is_used bypass_hit
no_bypass_hit l y none =
    ap (option_map (λ (c : Crate). hit_of kind.Bypass (bypass_span y) (Krate (kid_of c))))
    (find_none_on (λ c. checks l c && uses l.building y c) l.graph.crates none)

no_file_hit : (l : Scanning) (y : Bypass) (test : PackageFile → Bool) (hit : List ℕ → Crate → Hit)
    → is_met l y test ≡ false → file_hit l y test hit ≡ None
unfolding file_hit
no_file_hit l y test hit none =
    ap (option_and_then (file_hit_at l test hit)) (find_none_on (meets_file l y test) l.graph.crates none)

no_path_hit : (l : Scanning) (y : Bypass) (a : AllowedPath) → is_met l y (hits_path y a) ≡ false → path_hit l y a ≡ None
unfolding path_hit
no_path_hit l y a none = no_file_hit l y (hits_path y a) _ none

no_glob_hit : (l : Scanning) (y : Bypass) (w : policy.SpannedText) → is_met l y (hits_glob y w) ≡ false
    → glob_hit l y w ≡ None
unfolding glob_hit
no_glob_hit l y w none = no_file_hit l y (hits_glob y w) _ none

-- a bypass that no crate uses has no hit, and neither have its paths and globs
no_hits : (l : Scanning) (y : Bypass) → is_used l y ≡ false → bypass_hits_of l y ≡ []
unfolding bypass_hits_of
no_hits l y unused =
    ap (λ (o : Option Hit). if_hit o ++ (filter_map (path_hit l y) y.allow ++ filter_map (glob_hit l y) y.globs))
    (no_bypass_hit l y unused)
    ∙ (ap (λ (hits : List Hit). hits ++ filter_map (glob_hit l y) y.globs)
    (filter_map_none (path_hit l y) y.allow (λ a is. no_path_hit l y a (not_met l y (hits_path y a) unused)))
    ∙ filter_map_none (glob_hit l y) y.globs (λ w is. no_glob_hit l y w (not_met l y (hits_glob y w) unused)))

-- ---- hits do not change

module _ (l : Scanning) (taken : List EntryId) (stay : BypassesStay l taken) where
  abbrev new : Scanning
  new = rest l taken stay

  bypass_hit_same : (y : Bypass) → bypass_hit new (cut_bypass taken y) ≡ bypass_hit l y
  unfolding bypass_hit
  bypass_hit_same y = ap (option_map (λ (c : Crate). hit_of kind.Bypass (bypass_span y) (Krate (kid_of c))))
      (find_on (λ c. checks new c && uses new.building (cut_bypass taken y) c)
      (λ c. checks l c && uses l.building y c) l.graph.crates
      (λ c known. uses_where_same l taken stay y c known))

  -- two tests agree on the files of each crate that is walked and uses the bypass
  abbrev AgreeOnFiles : Bypass → (PackageFile → Bool) → (PackageFile → Bool) → Type 0
  AgreeOnFiles y test old = (c : Crate) → Contains l.graph.crates c → walks l c ≡ true → uses l.building y c ≡ true
      → (file : PackageFile) → Contains (package_of l c).files file → test file ≡ old file

  reached_same : (y : Bypass) (c : Crate) → Contains l.graph.crates c
      → (walks new c && uses new.building (cut_bypass taken y) c) ≡ (walks l c && uses l.building y c)
  reached_same y c known =
      ap (λ b. b && uses new.building (cut_bypass taken y) c) (walked_same l taken stay (package_of l c) c known)
      ∙ guarded (walks l c) (uses new.building (cut_bypass taken y) c) (uses l.building y c)
      (λ walked. uses_same l taken stay y c known (walked_scanned l c walked))

  meets_same : (y : Bypass) (test old : PackageFile → Bool) → AgreeOnFiles y test old → (c : Crate)
      → Contains l.graph.crates c → meets_file new (cut_bypass taken y) test c ≡ meets_file l y old c
  unfolding meets_file
  meets_same y test old agree c known =
      ap (λ b. b && list_any test (package_of l c).files) (reached_same y c known)
      ∙ guarded (walks l c && uses l.building y c) (list_any test (package_of l c).files)
      (list_any old (package_of l c).files)
      (λ both. let parts = and_parts (walks l c) (uses l.building y c) both in
      list_any_on test old (package_of l c).files (λ file is. agree c known parts.0 parts.1 file is))

  meets_parts : (y : Bypass) (test : PackageFile → Bool) (c : Crate) → meets_file l y test c ≡ true
      → (walks l c ≡ true) × (uses l.building y c ≡ true)
  unfolding meets_file
  meets_parts y test c is = and_parts (walks l c) (uses l.building y c)
      (and_parts (walks l c && uses l.building y c) (list_any test (package_of l c).files) is).0

  file_hit_same : (y : Bypass) (test old : PackageFile → Bool) (hit : List ℕ → Crate → Hit) → AgreeOnFiles y test old
      → file_hit new (cut_bypass taken y) test hit ≡ file_hit l y old hit
  unfolding file_hit file_hit_at
  file_hit_same y test old hit agree =
      ap (option_and_then (file_hit_at new test hit))
      (find_on (meets_file new (cut_bypass taken y) test) (meets_file l y old) l.graph.crates
      (λ c known. meets_same y test old agree c known))
      ∙ found_on (file_hit_at new test hit) (file_hit_at l old hit) (meets_file l y old) l.graph.crates
      (λ c known meets. let parts = meets_parts y old c meets in
      ap (option_map (λ (file : PackageFile). hit file.path c))
      (find_on test old (package_of l c).files (λ file is. agree c known parts.0 parts.1 file is)))

  path_hit_same : (y : Bypass) → Contains l.building.bypass y → (a : AllowedPath)
      → path_hit new (cut_bypass taken y) a ≡ path_hit l y a
  unfolding path_hit
  path_hit_same y written a = file_hit_same y (hits_path (cut_bypass taken y) a) (hits_path y a) _
      (λ c known walked does_match file is. hits_path_same l taken stay y written c known walked does_match a file is)

  glob_hit_same : (y : Bypass) → Contains l.building.bypass y → (w : policy.SpannedText)
      → glob_hit new (cut_bypass taken y) w ≡ glob_hit l y w
  unfolding glob_hit
  glob_hit_same y written w = file_hit_same y (hits_glob (cut_bypass taken y) w) (hits_glob y w) _
      (λ c known walked does_match file is. hits_glob_same l taken stay y written c known walked does_match w file is)

  path_hits_same : (y : Bypass) → Contains l.building.bypass y
      → filter_map (path_hit new (cut_bypass taken y)) (filter (stays_path taken) y.allow)
      ≡ filter_map (path_hit l y) y.allow
  path_hits_same y written =
      filter_map_on (path_hit new (cut_bypass taken y)) (path_hit l y) (filter (stays_path taken) y.allow)
      (λ a is. path_hit_same y written a)
      ∙ filter_map_kept (stays_path taken) (path_hit l y) y.allow
      (λ a within gone. no_path_hit l y a (fails_if_gone (stays_path taken a) (is_met l y (hits_path y a))
      (stay.paths y written a within) gone))

  glob_hits_same : (y : Bypass) → Contains l.building.bypass y
      → filter_map (glob_hit new (cut_bypass taken y)) (filter (stays_glob taken) y.globs)
      ≡ filter_map (glob_hit l y) y.globs
  glob_hits_same y written =
      filter_map_on (glob_hit new (cut_bypass taken y)) (glob_hit l y) (filter (stays_glob taken) y.globs)
      (λ w is. glob_hit_same y written w)
      ∙ filter_map_kept (stays_glob taken) (glob_hit l y) y.globs
      (λ w within gone. no_glob_hit l y w (fails_if_gone (stays_glob taken w) (is_met l y (hits_glob y w))
      (stay.globs y written w within) gone))

  hits_of_same : (y : Bypass) → Contains l.building.bypass y
      → bypass_hits_of new (cut_bypass taken y) ≡ bypass_hits_of l y
  unfolding bypass_hits_of
  hits_of_same y written =
      let of_paths = filter_map (path_hit new (cut_bypass taken y)) (filter (stays_path taken) y.allow) in
      let of_globs = filter_map (glob_hit new (cut_bypass taken y)) (filter (stays_glob taken) y.globs) in
      ap (λ (o : Option Hit). if_hit o ++ (of_paths ++ of_globs)) (bypass_hit_same y)
      ∙ (ap (λ (hits : List Hit). if_hit (bypass_hit l y) ++ (hits ++ of_globs)) (path_hits_same y written)
      ∙ ap (λ (hits : List Hit). if_hit (bypass_hit l y) ++ (filter_map (path_hit l y) y.allow ++ hits))
      (glob_hits_same y written))

  pub bypass_hits_same : bypass_hits new ≡ bypass_hits l
  bypass_hits_same =
      let kept = filter (stays_bypass taken) l.building.bypass in
      flat_map-map (bypass_hits_of new) (cut_bypass taken) kept
      ∙ (flat_map_on (λ y. bypass_hits_of new (cut_bypass taken y)) (bypass_hits_of l) kept
      (λ y is. hits_of_same y (filtered (stays_bypass taken) l.building.bypass y is))
      ∙ flat_map_kept (stays_bypass taken) (bypass_hits_of l) l.building.bypass
      (λ y written gone. no_hits l y
      (fails_if_gone (stays_bypass taken y) (is_used l y) (stay.bypasses y written) gone)))
