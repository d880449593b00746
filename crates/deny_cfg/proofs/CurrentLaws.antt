-- What counts on a day is part of what is written: its labels are among the written ones, and its globs are the same.
use Rattle.std.proofs.Common.{◌≡◌, ◌++◌, Bool, true, false, cond, ℕ, List, [], ◌∷◌, Option, None, Some, map, refl, sym, ap}
use Rattle.std.proofs.Common.{Contains, Err, Ok, subst, ◌∙◌}
use Rattle.std.specs.Prelude.{All, IfSome, OnOk, Result, filter, option_map}
use Rattle.std.specs.List.{AllZip, flat_map}
use Rattle.deny_base.specs.Entry.{entry_cmp}
use Rattle.deny_base.specs.declared.span.Span.{Span}
use Rattle.deny_base_lists.specs.Ascending.{AreFirst, Lists}
use Rattle.deny_cfg_build.specs.Build.{IsBypassOf, IsReadBuild, listed}
use Rattle.deny_cfg_build.specs.Globs.{AreWritten, AreWritten-prop, extension_text}
use Rattle.deny_cfg_build.specs.declared.valid.ValidBuildConfig.{ValidBuildConfig}
use Rattle.deny_cfg_build.specs.declared.valid.ValidBypass.{ValidBypass}
use Rattle.deny_cfg_entries.specs.declared.day.Day.{Day}
use Rattle.deny_cfg_tables.specs.declared.bans.cfg.bypass.Bypass.{Bypass}
use Rattle.deny_cfg_tables.specs.declared.bans.cfg.std_replacements.StdReplacementConfig.{StdReplacementConfig}
use Rattle.deny_cfg_tables.specs.declared.licenses.config.Config.{Config}
use Rattle.deny_cfg.specs.Current.{AreInOrder, counts, current_bans, current_build, current_licenses, current_std}
use Rattle.deny_cfg.specs.Current.{expired_id, root_expires, skip_expires}
use Rattle.deny_cfg.specs.LabelSpans.{AreLabels, ban_spans, build_spans, bypass_spans, exception_span, features_spans}
use Rattle.deny_cfg.specs.LabelSpans.{licence_labels, licence_spans, of_some, older_span, own_span, pattern_spans}
use Rattle.deny_cfg.specs.LabelSpans.{reason_span, root_spans, spec_span, std_spans, waiver_spans, with_spec}
use Rattle.deny_cfg.specs.LabelSpans.{word_labels}
use Rattle.deny_cfg.specs.Marks.{IsPolicySpan}
use Rattle.deny_cfg.specs.PolicyView.{AreGlobsRead, builtin_file_of}
use Rattle.deny_cfg.specs.declared.bans.cfg.valid.ValidConfig.{ValidConfig}
use Rattle.deny_cfg.specs.declared.expired.ExpiredWaiver.{ExpiredWaiver}
use Rattle.deny_cfg.proofs.Among.{Among, among_both, among_itself, among_joined, among_rest, among_then}
use Rattle.deny_cfg.proofs.LabelValid.{labels_among}

-- ---- the entries that have expired

pub put_in_order : {T E : Type 0} (r : Result T E) (old new : List ExpiredWaiver)
    → OnOk r (Lists entry_cmp (Contains (map expired_id old)) (map expired_id new))
    → OnOk r (AreFirst entry_cmp expired_id old new) → OnOk r (AreInOrder old new)
put_in_order (Ok x) old new ids first = record { ids = ids; first = first }
put_in_order (Err e) old new ids first = tt

-- what was gathered into a list that was empty
pub gathered : {T : Type 0} (first second start between end : List T) → start ≡ [] → between ≡ start ++ first
    → end ≡ between ++ second → end ≡ first ++ second
gathered first second start between end none one two =
    two ∙ ap (λ xs. xs ++ second) (one ∙ ap (λ xs. xs ++ first) none)

-- ---- labels

kept_among : {T : Type 0} (f : T → List Span) (b : Bool) (x : T) (kept xs : List T)
    → Among (flat_map f kept) (flat_map f xs) → Among (flat_map f (cond b (x ∷ kept) kept)) (flat_map f (x ∷ xs))
kept_among f true x kept xs rest = among_both (f x) (flat_map f kept) (f x) (flat_map f xs) (among_itself (f x)) rest
kept_among f false x kept xs rest =
    among_then (flat_map f kept) (flat_map f xs) (f x ++ flat_map f xs) rest (among_rest (f x) (flat_map f xs))

among_filter : {T : Type 0} (f : T → List Span) (test : T → Bool) (xs : List T)
    → Among (flat_map f (filter test xs)) (flat_map f xs)
among_filter f test [] = among_itself []
among_filter f test (x ∷ xs) = kept_among f (test x) x (filter test xs) xs (among_filter f test xs)

std_among : (today : Option Day) (std : Option StdReplacementConfig)
    → Among (of_some std_spans (option_map (current_std today) std)) (of_some std_spans std)
std_among today None = among_itself []
std_among today (Some std) = among_filter (with_spec waiver_spans) (λ e. counts today (skip_expires e)) std.ignore

build_among : (today : Option Day) (build : Option ValidBuildConfig)
    → Among (of_some build_spans (option_map (current_build today) build)) (of_some build_spans build)
build_among today None = among_itself []
build_among today (Some build) =
    let bypass = filter (λ b. counts today b.expires) build.bypass in
    let extensions = pattern_spans build.script_extensions in
    among_joined (extensions ∷ flat_map bypass_spans bypass ∷ [])
    (extensions ∷ flat_map bypass_spans build.bypass ∷ []) (
      among_itself extensions,
      (among_filter bypass_spans (λ b. counts today b.expires) build.bypass, tt),
    )

current_among : (today : Option Day) (written : ValidConfig)
    → Among (word_labels (current_bans today written)) (word_labels written)
unfolding word_labels current_bans
current_among today written =
    let denied =
    flat_map (with_spec ban_spans) written.denied ++ flat_map spec_span written.denied_multiple_versions in
    let allowed = flat_map (with_spec reason_span) written.allowed in
    let external = of_some own_span written.external_default_features in
    let workspace = of_some own_span written.workspace_default_features in
    let features = flat_map features_spans written.features in
    let skipped = filter (λ e. counts today (skip_expires e)) written.skipped in
    let trees = filter (λ e. counts today (root_expires e)) written.tree_skipped in
    among_joined
    (denied ∷ allowed ∷ external ∷ workspace ∷ features ∷ flat_map (with_spec waiver_spans) skipped
    ∷ flat_map (with_spec root_spans) trees
    ∷ of_some std_spans (option_map (current_std today) written.std_replacements)
    ∷ of_some build_spans (option_map (current_build today) written.build) ∷ [])
    (denied ∷ allowed ∷ external ∷ workspace ∷ features ∷ flat_map (with_spec waiver_spans) written.skipped
    ∷ flat_map (with_spec root_spans) written.tree_skipped
    ∷ of_some std_spans written.std_replacements
    ∷ of_some build_spans written.build ∷ []) (
      among_itself denied,
      (
        among_itself allowed,
        (
          among_itself external,
          (
            among_itself workspace,
            (
              among_itself features,
              (
                among_filter (with_spec waiver_spans) (λ e. counts today (skip_expires e)) written.skipped,
                (
                  among_filter (with_spec root_spans) (λ e. counts today (root_expires e)) written.tree_skipped,
                  (std_among today written.std_replacements, (build_among today written.build, tt)),
                ),
              ),
            ),
          ),
        ),
      ),
    )

pub current_labels : (today : Option Day) (text : List ℕ) (written bans : ValidConfig)
    → bans ≡ current_bans today written → AreLabels text (word_labels written) → AreLabels text (word_labels bans)
current_labels today text written bans is labels =
    subst (λ cfg. AreLabels text (word_labels cfg)) (sym is)
    (labels_among text (word_labels (current_bans today written)) (word_labels written) (current_among today written)
    labels)

licences_among : (today : Option Day) (licensing : Option Config)
    → Among (licence_spans (option_map (current_licenses today) licensing)) (licence_spans licensing)
unfolding licence_labels
licences_among today None = among_itself []
licences_among today (Some config) =
    let allow = flat_map own_span config.allow in
    let exceptions = filter (λ e. counts today e.expires) config.exceptions in
    among_joined (allow ∷ flat_map exception_span exceptions ∷ [])
    (allow ∷ flat_map exception_span config.exceptions ∷ []) (
      among_itself allow,
      (among_filter exception_span (λ e. counts today e.expires) config.exceptions, tt),
    )

pub current_licence_labels : (today : Option Day) (text : List ℕ) (licensing current : Option Config)
    → current ≡ option_map (current_licenses today) licensing → AreLabels text (licence_spans licensing)
    → AreLabels text (licence_spans current)
current_licence_labels today text licensing current is labels =
    subst (λ o. AreLabels text (licence_spans o)) (sym is)
    (labels_among text (licence_spans (option_map (current_licenses today) licensing)) (licence_spans licensing)
    (licences_among today licensing) labels)

-- ---- the table `build`

-- where the bypasses that count are those of a table, the table with them is the one that counts
pub counting_build : {T E : Type 0} (today : Option Day) (r : Result T E) (old : Option ValidBuildConfig)
    (build : ValidBuildConfig) (kept : List ValidBypass) (written : AreWritten extension_text build.script_extensions)
    → old ≡ Some build → OnOk r (kept ≡ filter (λ b. counts today b.expires) build.bypass)
    → OnOk r (Some (record build { bypass = kept; extensions_written = written })
    ≡ option_map (current_build today) old)
counting_build today (Ok x) old build kept written is same =
    (λ i. Some (record build {
      bypass = same i;
      extensions_written =
          AreWritten-prop extension_text build.script_extensions written build.extensions_written i;
    }))
    ∙ ap (option_map (current_build today)) (sym is)
counting_build today (Err e) old build kept written is same = tt

file_by : (today : Option Day) (build : Option ValidBuildConfig) → (cfg : ValidConfig) → cfg.build ≡ build
    → builtin_file_of (current_bans today cfg) ≡ builtin_file_of cfg
unfolding current_bans
file_by today None cfg is = rw is refl
file_by today (Some build) cfg is = rw is refl

pub current_file : (today : Option Day) (written bans : ValidConfig) → bans ≡ current_bans today written
    → builtin_file_of bans ≡ builtin_file_of written
current_file today written bans is = ap builtin_file_of is ∙ file_by today written.build written refl

older_by : (today : Option Day) (build : Option ValidBuildConfig) → (cfg : ValidConfig) → cfg.build ≡ build
    → older_span (current_bans today cfg) ≡ older_span cfg
unfolding current_bans
older_by today None cfg is = rw is refl
older_by today (Some build) cfg is = rw is refl

pub current_older_key : (today : Option Day) (text : List ℕ) (written bans : ValidConfig)
    → bans ≡ current_bans today written → All (IsPolicySpan text) (older_span written)
    → All (IsPolicySpan text) (older_span bans)
current_older_key today text written bans is lies =
    subst (All (IsPolicySpan text)) (sym (ap older_span is ∙ older_by today written.build written refl)) lies

-- the bypasses that count are read from those that the table writes
kept_zip : (b c : Bool) (x : Bypass) (v : ValidBypass) (xs : List Bypass) (vs : List ValidBypass) → b ≡ c
    → IsBypassOf x v → AllZip IsBypassOf xs vs → AllZip IsBypassOf (cond b (x ∷ xs) xs) (cond c (v ∷ vs) vs)
kept_zip true true x v xs vs same is rest = (is, rest)
kept_zip false false x v xs vs same is rest = rest
kept_zip true false x v xs vs same is rest = absurd (cc same)
kept_zip false true x v xs vs same is rest = absurd (cc same)

zip_counting : (today : Option Day) (xs : List Bypass) (vs : List ValidBypass) → AllZip IsBypassOf xs vs
    → AllZip IsBypassOf (filter (λ b. counts today b.expires) xs) (filter (λ b. counts today b.expires) vs)
zip_counting today [] [] are = tt
zip_counting today [] (v ∷ vs) are = absurd are
zip_counting today (x ∷ xs) [] are = absurd are
zip_counting today (x ∷ xs) (v ∷ vs) are =
    kept_zip (counts today x.expires) (counts today v.expires) x v (filter (λ b. counts today b.expires) xs)
    (filter (λ b. counts today b.expires) vs) (ap (counts today) (sym are.0.expires)) are.0
    (zip_counting today xs vs are.1)

read_counting : (today : Option Day) (build : ValidBuildConfig) → IsReadBuild build
    → IsReadBuild (current_build today build)
read_counting today build read = record {
  build = record (read.build) { bypass = Some (filter (λ b. counts today b.expires) (listed read.build.bypass)) };
  file = read.file;
  older_key = read.older_key;
  made = record {
    allow_build_scripts = read.made.allow_build_scripts;
    executables = read.made.executables;
    interpreted = read.made.interpreted;
    script_extensions = read.made.script_extensions;
    bypass = zip_counting today (listed read.build.bypass) build.bypass read.made.bypass;
    include_dependencies = read.made.include_dependencies;
    include_workspace = read.made.include_workspace;
    include_archives = read.made.include_archives;
    older_key = read.made.older_key;
  };
}

read_by : (today : Option Day) (build : Option ValidBuildConfig) → IfSome build IsReadBuild
    → IfSome (option_map (current_build today) build) IsReadBuild
read_by today None read = tt
read_by today (Some build) read = read_counting today build read

pub current_globs_read : (today : Option Day) (written bans : ValidConfig) → bans ≡ current_bans today written
    → AreGlobsRead written → AreGlobsRead bans
unfolding current_bans
current_globs_read today written bans is read =
    subst AreGlobsRead (sym is) (read_by today written.build read)
