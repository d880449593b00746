-- Crates that the standard library replaces, by the policy and a table of replacements: their keys, the hits of the
-- entries that ignore some of them, and the message of each key.
use Rattle.std.specs.Prelude.{◌&&◌, ◌||◌, ◌==◌, ◌++◌, ◌∷◌, ℕ, Bool, true, false, not, nat_le, is_none, List, [], Option}
use Rattle.std.specs.Prelude.{Some, None, filter, filter_map, find, map, option_map, codes, if◌then◌else◌}
use Rattle.std.specs.Fmt.{decimal}
use Rattle.std.specs.List.{flat_map, list_any}
use Rattle.std.specs.Option.{option_map_or, option_or}
use Rattle.semver.specs.Parse.{Parts}
use Rattle.deny_std_table.specs.Spelling.{ApiText, ReplacementText}
use Rattle.deny_base.specs.Level.{severity_of}
use Rattle.deny_base.specs.declared.code.Code.TheVariants.{ReplacedInStd, UnmatchedReplacementIgnore}
use Rattle.deny_base.specs.declared.entry.EntryKind.TheVariants.{ReplacementIgnore}
use Rattle.deny_base.specs.declared.entry.Hit.{Hit}
use Rattle.deny_base.specs.declared.entry.Witness.TheVariants.{Krate}
use Rattle.deny_base.specs.declared.key.Key.{Key}
use Rattle.deny_base.specs.declared.key.Section.TheVariants as section
use Rattle.deny_base.specs.declared.label.Label.{Label}
use Rattle.deny_base.specs.declared.level.Severity.TheVariants as severity
use Rattle.deny_base.specs.declared.span.Span.{Span}
use Rattle.deny_spec.specs.Crates.{is_crates_io}
use Rattle.deny_spec.specs.Graph.{Crate, Graph, dependents, kid_of}
use Rattle.deny_spec.specs.Hits.{hit_of}
use Rattle.deny_spec.specs.Keys.{key_of, no_span, unused_key}
use Rattle.deny_spec.specs.Match.{matches}
use Rattle.deny_spec.specs.Policy.{Entry, Policy, Replacing, Scope, NoCrate, Workspace, Transitive, EachCrate}
use Rattle.deny_spec.specs.DiagParts.{crate_name_at, kid_at, label_at, of_crate, primary, spec_text}
use Rattle.deny_spec.specs.Wrappers.{same_span}
use Rattle.deny_spec_report.specs.Circumstances.{Circumstances}
use Rattle.deny_spec_report.specs.FirstMatch.{first_of, is_first}
use Rattle.deny_spec_report.specs.Members.{is_member}
use Rattle.deny_spec_report.specs.Saying.{Items, Saying, Stable, said_by}
use Rattle.deny_spec_report.specs.MessageParts.{not_built, plainly}
use Rattle.deny_spec_report.specs.declared.message.Message.{Message}

-- ---- which crates are replaced

unfoldable pub is_in_scope : Scope → Graph → Crate → Bool
is_in_scope NoCrate g c = false
is_in_scope Workspace g c = is_member g c
is_in_scope Transitive g c = not (is_member g c)
is_in_scope EachCrate g c = true

-- the version of Rust that counts for a crate: its own, or the policy's where it names none
unfoldable pub counting_version : Replacing → Crate → Option Parts
counting_version r c = option_or c.rust_version r.rust_version

-- an item is stable in the minor version of Rust
unfoldable pub has_stable : Items → Parts → Bool
has_stable items version = list_any (λ stable. nat_le stable.minor version.1) items.stable

-- a crate may use the replacement of another: its version of Rust does not count, or no version is named, or an item is
-- stable in the version that counts
unfoldable pub satisfies : Replacing → Graph → Items → Crate → Bool
satisfies r g items parent =
    is_in_scope r.ignore_rust_version g parent || option_map_or (has_stable items) (counting_version r parent) true

-- a dependent is in the scope of the rule and may use the replacement
unfoldable pub may_replace : Replacing → Graph → Items → Crate → Bool
may_replace r g items parent = is_in_scope r.scope g parent && satisfies r g items parent

-- a crate is replaced that comes from crates.io, is in the table, and has such a direct dependent
unfoldable pub is_replaced : Replacing → Graph → Saying → Crate → Bool
is_replaced r g said c =
    is_crates_io c
    && option_map_or (λ items. list_any (may_replace r g items) (dependents g c.place)) (said c.name) false

-- ---- ignores

abbrev pub ignore_span : Entry → Span
ignore_span e = e.spec.span

abbrev pub ignores : Entry → Crate → Bool
ignores e c = matches e.spec c

-- the first ignore that matches a crate
unfoldable pub ignore_of : Replacing → Crate → Option Entry
ignore_of r c = first_of ignores r.ignore c

-- a replaced crate hits the first ignore that matches it
unfoldable pub hits_ignore : Replacing → Graph → Saying → Entry → Crate → Bool
hits_ignore r g said e c = is_replaced r g said c && is_first ignore_span ignores r.ignore e c

unfoldable pub is_hit_ignore : Replacing → Graph → Saying → Entry → Bool
is_hit_ignore r g said e = list_any (hits_ignore r g said e) g.crates

-- ---- keys, and hits

-- a replaced crate is reported that no ignore matches
unfoldable pub is_reported_replaced : Replacing → Graph → Saying → Crate → Bool
is_reported_replaced r g said c = is_replaced r g said c && is_none (ignore_of r c)

abbrev pub replaced_key : ℕ → Key
replaced_key place = key_of section.Std ReplacedInStd place no_span 0

unfoldable pub replaced_keys : Replacing → Graph → Saying → List Key
replaced_keys r g said = map (λ c. replaced_key c.place) (filter (is_reported_replaced r g said) g.crates)

-- the scope of no crate, with which nothing is reported
abbrev pub looks_at_none : Scope → Bool
looks_at_none NoCrate = true
looks_at_none Workspace = false
looks_at_none Transitive = false
looks_at_none EachCrate = false

-- a policy checks replaced crates, and its scope has some
abbrev pub asks_for_table : Policy → Bool
asks_for_table p = option_map_or (λ r. not (looks_at_none r.scope)) p.replacing false

unfoldable pub is_unmatched_ignore : Replacing → Graph → Saying → Entry → Bool
is_unmatched_ignore r g said e = not (looks_at_none r.scope) && not (is_hit_ignore r g said e)

unfoldable pub unmatched_ignore_keys : Replacing → Graph → Saying → List Key
unmatched_ignore_keys r g said = map (λ e. unused_key UnmatchedReplacementIgnore (ignore_span e))
    (filter (is_unmatched_ignore r g said) r.ignore)

-- the hit of an ignore by the first crate in graph order
unfoldable pub ignore_hit : Replacing → Graph → Saying → Entry → Option Hit
ignore_hit r g said e = option_map (λ c. hit_of ReplacementIgnore (ignore_span e) (Krate (kid_of c)))
    (find (hits_ignore r g said e) g.crates)

unfoldable pub ignore_hits : Replacing → Graph → Saying → List Hit
ignore_hits r g said = filter_map (ignore_hit r g said) r.ignore

-- ---- the note of a replaced crate

abbrev pub line : List ℕ → List ℕ
line text = text ++ codes "\n"

-- the name of a crate as code writes it: with `_` for `-`
unfoldable pub code_name : List ℕ → List ℕ
code_name name = map (λ byte. if byte == 45 then 95 else byte) name

-- a link: its sign, the text before the name of an API, and the API
abbrev pub link : List ℕ → List ℕ → ApiText → List ℕ
link sign before api = line (sign ++ (codes " [" ++ (before ++ (api.name ++ (codes "](" ++ (api.url ++ codes ")"))))))

abbrev pub remark : Option (List ℕ) → List ℕ
remark None = []
remark (Some note) = line (codes "  " ++ note) ++ line []

-- the lines of a diff from the API of the crate to that of the standard library
unfoldable pub replacement_lines : List ℕ → ReplacementText → List ℕ
replacement_lines name r =
    line (codes "```diff")
    ++ (link (codes "-") (code_name name ++ codes "::") r.krate
    ++ (link (codes "+") [] r.std
    ++ (line (codes "```") ++ (line [] ++ remark r.note))))

abbrev pub version_line : ℕ → List ℕ
version_line minor = line (codes "### 1." ++ (decimal minor ++ codes ".0"))

-- the lines of each stable replacement, below its minor version where that is not the one before
unfoldable pub stable_lines : List ℕ → ℕ → List Stable → List ℕ
stable_lines name last [] = []
stable_lines name last (stable ∷ others) =
    (if stable.minor == last then [] else version_line stable.minor)
    ++ (replacement_lines name stable.replacement ++ stable_lines name stable.minor others)

-- the lines of several items, below a heading where there are any
abbrev pub below_heading : {A : Type 0} → List ℕ → (A → List ℕ) → List A → List ℕ
below_heading heading lines [] = []
below_heading heading lines (x ∷ xs) = line heading ++ flat_map lines (x ∷ xs)

-- the line of an API that the standard library does not have
abbrev pub unavailable_line : List ℕ → ApiText → List ℕ
unavailable_line name api =
    line (codes "  - " ++ (name ++ (codes "::" ++ (api.name ++ (codes " - " ++ api.url)))))

unfoldable pub replacement_note : List ℕ → Items → List ℕ
replacement_note name items =
    line (codes "## Stable")
    ++ (stable_lines name 0 items.stable
    ++ (below_heading (codes "## Unstable") (replacement_lines name) items.unstable
    ++ below_heading (codes "## Unavailable") (unavailable_line name) items.unavailable))

-- ---- messages

abbrev pub note_at : Graph → Saying → ℕ → List (List ℕ)
note_at g said place = option_map_or (λ items. replacement_note (crate_name_at g place) items ∷ [])
    (said (crate_name_at g place)) []

unfoldable pub replaced_diag : Replacing → Graph → Saying → Key → Message
replaced_diag r g said key = record (plainly (severity_of r.level)
    (of_crate (codes "crate '") g key (codes "' is partially or fully replaced in std and/or core")) []
    (kid_at g key.place)) {
      notes = note_at g said key.place;
    }

-- the ignore with a span
abbrev pub ignore_at : Replacing → Span → Option Entry
ignore_at r span = find (λ e. same_span (ignore_span e) span) r.ignore

abbrev pub ignore_text_at : Replacing → Span → List ℕ
ignore_text_at r span = option_map_or (λ e. spec_text e.spec) (ignore_at r span) []

abbrev pub ignore_labels : ℕ → Entry → List Label
ignore_labels file e = primary file (ignore_span e) (codes "unmatched ignore configuration")
    ∷ label_at file (codes "ignore reason") e.reason

unfoldable pub unmatched_ignore_diag : Replacing → ℕ → Key → Message
unmatched_ignore_diag r file key = plainly severity.Warning
    (codes "std replacement ignore '" ++ (ignore_text_at r key.entry ++ codes "' was not encountered"))
    (option_map_or (ignore_labels file) (ignore_at r key.entry) [])
    None

-- ---- keys, hits and messages of a policy that may not check replaced crates

abbrev pub replaced_keys_in : Circumstances → List Key
replaced_keys_in c = option_map_or (λ r. replaced_keys r c.graph (said_by c.table)) c.policy.replacing []

abbrev pub unmatched_ignore_keys_in : Circumstances → List Key
unmatched_ignore_keys_in c = option_map_or (λ r. unmatched_ignore_keys r c.graph (said_by c.table)) c.policy.replacing
    []

abbrev pub ignore_hits_in : Circumstances → List Hit
ignore_hits_in c = option_map_or (λ r. ignore_hits r c.graph (said_by c.table)) c.policy.replacing []

abbrev pub replaced_diag_in : Circumstances → Key → Message
replaced_diag_in c key = option_map_or (λ r. replaced_diag r c.graph (said_by c.table) key) c.policy.replacing not_built

abbrev pub unmatched_ignore_diag_in : Circumstances → Key → Message
unmatched_ignore_diag_in c key = option_map_or (λ r. unmatched_ignore_diag r c.files.policy key) c.policy.replacing
    not_built
