-- Licences that crates ask for, by what a policy allows: the keys of the licence check, which allowed licences and
-- exceptions are hit, and the message of each key. A test decides which crates count.
use Rattle.std.specs.Prelude.{◌&&◌, ◌||◌, ◌==◌, ◌++◌, ◌∷◌, ◌↔◌, ℕ, Bool, false, true, not, IsTrue, length, is_none}
use Rattle.std.specs.Prelude.{is_some, List, [], Contains, Option, None, Some, filter, find, filter_map, map}
use Rattle.std.specs.Prelude.{option_map, codes, if◌then◌else◌}
use Rattle.std.specs.Fmt.{decimal}
use Rattle.std.specs.List.{list_any}
use Rattle.std.specs.Option.{option_map_or}
use Rattle.deny_base.specs.Level.{severity_of}
use Rattle.deny_base.specs.declared.code.DiagnosticCode.TheVariants as diagnostic
use Rattle.deny_base.specs.declared.entry.EntryKind.TheVariants as kind
use Rattle.deny_base.specs.declared.entry.Hit.{Hit}
use Rattle.deny_base.specs.declared.entry.Witness.TheVariants.{Krate}
use Rattle.deny_base.specs.declared.key.Key.{Key}
use Rattle.deny_base.specs.declared.key.Section.{Section}
use Rattle.deny_base.specs.declared.key.Section.TheVariants as section
use Rattle.deny_base.specs.declared.level.Severity.TheVariants as severity
use Rattle.deny_base.specs.declared.license_code.LicenseCode.{LicenseCode}
use Rattle.deny_base.specs.declared.license_code.LicenseCode.TheVariants as license
use Rattle.deny_base.specs.declared.span.Span.{Span}
use Rattle.deny_base.specs.declared.span.Spanned.{Spanned}
use Rattle.deny_spdx.specs.Reads.{BadAt, Read, Reading, reading_in}
use Rattle.deny_spdx.specs.Truth.{truth}
use Rattle.deny_spdx.specs.declared.expression.Expression.{Expression}
use Rattle.deny_spdx.specs.declared.requirement.Requirement.{Requirement}
use Rattle.deny_spec.specs.Counting.{Counts}
use Rattle.deny_spec.specs.Crates.{is_private}
use Rattle.deny_spec.specs.Graph.{Crate, Graph, kid_of}
use Rattle.deny_spec.specs.Hits.{hit_of}
use Rattle.deny_spec.specs.Keys.{no_span, plain_key}
use Rattle.deny_spec.specs.Licensing.{Exception, Licensing}
use Rattle.deny_spec.specs.Match.{matches}
use Rattle.deny_spec.specs.Text.{same_text}
use Rattle.deny_spec.specs.DiagParts.{crate_at, kid_at, of_crate, primary}
use Rattle.deny_spec_report.specs.FirstMatch.{first_of, is_first}
use Rattle.deny_spec_report.specs.MessageParts.{not_built, plainly}
use Rattle.deny_spec_report.specs.declared.message.Message.{Message}

-- ---- what allows a requirement

-- two requirements are equal where they have the same licence with the same exception
abbrev pub same_exception : Option (List ℕ) → Option (List ℕ) → Bool
same_exception None None = true
same_exception (Some one) (Some other) = same_text one other
same_exception None (Some other) = false
same_exception (Some one) None = false

unfoldable pub same_requirement : Requirement → Requirement → Bool
same_requirement r s = same_text r.id s.id && same_exception r.exception s.exception

-- a requirement of a crate's licence expression
pub record Asked : Type 0 where
  pub krate : Crate
  pub requirement : Requirement

abbrev pub asked_of : Crate → Requirement → Asked
asked_of c r = record { krate = c; requirement = r }

unfoldable pub allows : Spanned Requirement → Asked → Bool
allows a asked = same_requirement a.value asked.requirement

-- an exception matches the crate and lists the requirement
unfoldable pub excepts : Exception → Asked → Bool
excepts e asked = matches e.spec asked.krate && list_any (λ a. allows a asked) e.allow

abbrev pub allowance_span : Spanned Requirement → Span
allowance_span a = a.span

abbrev pub exception_span : Exception → Span
exception_span e = e.spec.span

unfoldable pub exception_of : Licensing → Asked → Option Exception
exception_of l asked = first_of excepts l.exceptions asked

-- a requirement is granted by the first exception for it, or else by the first licence that every crate may ask for
unfoldable pub is_granted : Licensing → Asked → Bool
is_granted l asked = is_some (exception_of l asked) || list_any (λ a. allows a asked) l.allow

-- a requirement is granted by this exception
unfoldable pub grants_by_exception : Licensing → Exception → Asked → Bool
grants_by_exception l e asked = is_first exception_span excepts l.exceptions e asked

-- a requirement is granted by this licence, and by no exception
unfoldable pub grants_by_allowance : Licensing → Spanned Requirement → Asked → Bool
grants_by_allowance l a asked = is_none (exception_of l asked) && is_first allowance_span allows l.allow a asked

-- ---- what a crate asks for

-- the text of a crate's licence; empty where it names none
abbrev pub licence_text : Crate → List ℕ
licence_text c = option_map_or (λ text. text) c.license []

unfoldable pub is_licensed : Crate → Bool
is_licensed c = not (length (licence_text c) == 0)

abbrev pub expression_in : Reading → Option Expression
expression_in (Read e) = Some e
expression_in (BadAt at) = None

-- the expression that a licensed crate's text is read as
unfoldable pub expression_of : Crate → Option Expression
expression_of c = if is_licensed c then expression_in (reading_in (licence_text c)) else None

unfoldable pub asked_in : Crate → List Asked
asked_in c = option_map_or (λ e. map (asked_of c) e.requirements) (expression_of c) []

-- an expression is true with the requirements that are granted
unfoldable pub holds : Licensing → Crate → Expression → Bool
holds l c e = truth (map (λ r. is_granted l (asked_of c r)) e.requirements) e.tree

-- ---- which crates are checked

-- a test is right about which crates count: all, or those to which a chain without dev edges leads from a member
abbrev pub TestsCounting : Licensing → Graph → (Crate → Bool) → Type 0
TestsCounting l g counts = (c : Crate) → Contains g.crates c → IsTrue (counts c) ↔ Counts l.include_dev g c

unfoldable pub is_passed_over : Licensing → Crate → Bool
is_passed_over l c = l.ignores_private && is_private l.registries c

unfoldable pub is_scanned : (Crate → Bool) → Licensing → Crate → Bool
is_scanned counts l c = counts c && not (is_passed_over l c)

-- ---- keys

abbrev pub license_key : Section → LicenseCode → ℕ → Span → Key
license_key section code place entry = plain_key section (diagnostic.License code) place entry

-- the key of a crate
abbrev pub licensed_key : LicenseCode → Crate → Key
licensed_key code c = license_key section.Licenses code c.place no_span

unfoldable pub keys_where : LicenseCode → (Crate → Bool) → Graph → List Key
keys_where code is g = map (licensed_key code) (filter is g.crates)

unfoldable pub is_accepted : (Crate → Bool) → Licensing → Crate → Bool
is_accepted counts l c = is_scanned counts l c && option_map_or (holds l c) (expression_of c) false

unfoldable pub is_rejected : (Crate → Bool) → Licensing → Crate → Bool
is_rejected counts l c = is_scanned counts l c && option_map_or (λ e. not (holds l c e)) (expression_of c) false

unfoldable pub is_unlicensed : (Crate → Bool) → Licensing → Crate → Bool
is_unlicensed counts l c = is_scanned counts l c && not (is_licensed c)

unfoldable pub is_unreadable : (Crate → Bool) → Licensing → Crate → Bool
is_unreadable counts l c = is_scanned counts l c && (is_licensed c && is_none (expression_of c))

unfoldable pub is_skipped_private : (Crate → Bool) → Licensing → Crate → Bool
is_skipped_private counts l c = counts c && is_passed_over l c

abbrev pub accepted_keys : (Crate → Bool) → Licensing → Graph → List Key
accepted_keys counts l g = keys_where license.Accepted (is_accepted counts l) g

abbrev pub rejected_keys : (Crate → Bool) → Licensing → Graph → List Key
rejected_keys counts l g = keys_where license.Rejected (is_rejected counts l) g

abbrev pub unlicensed_keys : (Crate → Bool) → Licensing → Graph → List Key
unlicensed_keys counts l g = keys_where license.Unlicensed (is_unlicensed counts l) g

abbrev pub parse_error_keys : (Crate → Bool) → Licensing → Graph → List Key
parse_error_keys counts l g = keys_where license.ParseError (is_unreadable counts l) g

abbrev pub skipped_private_keys : (Crate → Bool) → Licensing → Graph → List Key
skipped_private_keys counts l g = keys_where license.SkippedPrivateWorkspaceCrate (is_skipped_private counts l) g

-- ---- hits

-- a crate that is checked asks for a requirement that passes the test
unfoldable pub hits_by : (Crate → Bool) → Licensing → (Asked → Bool) → Crate → Bool
hits_by counts l grants c = is_scanned counts l c && list_any grants (asked_in c)

unfoldable pub is_hit_by : (Crate → Bool) → Licensing → Graph → (Asked → Bool) → Bool
is_hit_by counts l g grants = list_any (hits_by counts l grants) g.crates

unfoldable pub not_encountered_keys : (Crate → Bool) → Licensing → Graph → List Key
not_encountered_keys counts l g =
    map (λ a. license_key section.LicensesUnused license.LicenseNotEncountered 0 (allowance_span a))
    (filter (λ a. not (is_hit_by counts l g (grants_by_allowance l a))) l.allow)

unfoldable pub exception_not_encountered_keys : (Crate → Bool) → Licensing → Graph → List Key
exception_not_encountered_keys counts l g =
    map (λ e. license_key section.LicensesUnused license.LicenseExceptionNotEncountered 0 (exception_span e))
    (filter (λ e. not (is_hit_by counts l g (grants_by_exception l e))) l.exceptions)

-- the witness of a hit: the first crate in graph order
unfoldable pub first_hit : (Crate → Bool) → Licensing → Graph → (Asked → Bool) → Option Crate
first_hit counts l g grants = find (hits_by counts l grants) g.crates

unfoldable pub allowance_hit : (Crate → Bool) → Licensing → Graph → Spanned Requirement → Option Hit
allowance_hit counts l g a = option_map (λ c. hit_of kind.LicenseAllow (allowance_span a) (Krate (kid_of c)))
    (first_hit counts l g (grants_by_allowance l a))

unfoldable pub exception_hit : (Crate → Bool) → Licensing → Graph → Exception → Option Hit
exception_hit counts l g e = option_map (λ c. hit_of kind.LicenseException (exception_span e) (Krate (kid_of c)))
    (first_hit counts l g (grants_by_exception l e))

-- one hit for each licence that every crate may ask for, and then for each exception, that is hit
abbrev pub licence_hits : (Crate → Bool) → Licensing → Graph → List Hit
licence_hits counts l g =
    filter_map (allowance_hit counts l g) l.allow ++ filter_map (exception_hit counts l g) l.exceptions

-- ---- keys of a policy that may have a licence check

-- a key is among those of a code, by a test that is right about which crates count
pub record IsByCounting (keys : (Crate → Bool) → Licensing → Graph → List Key) (l : Licensing) (g : Graph) (key : Key)
    : Type 0 where
  pub counts : Crate → Bool
  pub reports : TestsCounting l g counts
  pub listed : Contains (keys counts l g) key

abbrev pub IsOfLicences : ((Crate → Bool) → Licensing → Graph → List Key) → Option Licensing → Graph → Key → Type 0
IsOfLicences keys None g key = ⊥
IsOfLicences keys (Some l) g key = IsByCounting keys l g key

-- ---- messages

abbrev pub with_text : List ℕ → List ℕ
with_text text = codes "license = '" ++ (text ++ codes "'")

unfoldable pub requirement_text : Requirement → List ℕ
requirement_text r = r.id ++ option_map_or (λ exception. codes " WITH " ++ exception) r.exception []

abbrev pub rejected_note : Asked → List ℕ
rejected_note asked = codes "rejected = '" ++ (requirement_text asked.requirement ++ codes "'")

-- a note for each requirement that is not granted, in text order
unfoldable pub rejected_notes : Licensing → Crate → List (List ℕ)
rejected_notes l c = map rejected_note (filter (λ asked. not (is_granted l asked)) (asked_in c))

-- the note of the licence text of a key's crate
abbrev pub text_note_at : Graph → Key → List ℕ
text_note_at g key = with_text (option_map_or licence_text (crate_at g key.place) [])

unfoldable pub accepted_diag : Graph → Key → Message
accepted_diag g key = record
    (plainly severity.Note (codes "license requirements satisfied") [] (kid_at g key.place)) {
      notes = text_note_at g key ∷ [];
    }

unfoldable pub rejected_diag : Licensing → Graph → Key → Message
rejected_diag l g key = record
    (plainly severity.Error (codes "failed to satisfy license requirements") [] (kid_at g key.place)) {
      notes = text_note_at g key ∷ option_map_or (rejected_notes l) (crate_at g key.place) [];
    }

unfoldable pub unlicensed_diag : Graph → Key → Message
unlicensed_diag g key = plainly severity.Error (of_crate (codes "crate '") g key (codes "' is unlicensed")) []
    (kid_at g key.place)

abbrev pub bad_offset : Reading → ℕ
bad_offset (Read e) = 0
bad_offset (BadAt at) = at

abbrev pub bad_offset_at : Graph → Key → ℕ
bad_offset_at g key = option_map_or (λ c. bad_offset (reading_in (licence_text c))) (crate_at g key.place) 0

unfoldable pub parse_error_diag : Graph → Key → Message
parse_error_diag g key = record
    (plainly severity.Error
    (of_crate (codes "license expression of crate '") g key
    (codes "' can't be read at byte " ++ decimal (bad_offset_at g key))) []
    (kid_at g key.place)) {
      notes = text_note_at g key ∷ [];
    }

unfoldable pub skipped_private_diag : Graph → Key → Message
skipped_private_diag g key = plainly severity.Note
    (of_crate (codes "skipping private workspace crate '") g key (codes "'")) [] (kid_at g key.place)

unfoldable pub not_encountered_diag : Licensing → ℕ → Key → Message
not_encountered_diag l file key = plainly (severity_of l.unused_allowed) (codes "license was not encountered")
    (primary file key.entry (codes "unmatched license allowance") ∷ []) None

unfoldable pub exception_not_encountered_diag : ℕ → Key → Message
exception_not_encountered_diag file key = plainly severity.Warning (codes "license exception was not encountered")
    (primary file key.entry (codes "unmatched license exception") ∷ []) None

-- the messages that read the policy, where it may have no licence check
abbrev pub rejected_diag_in : Option Licensing → Graph → Key → Message
rejected_diag_in licensing g key = option_map_or (λ l. rejected_diag l g key) licensing not_built

abbrev pub not_encountered_diag_in : Option Licensing → ℕ → Key → Message
not_encountered_diag_in licensing file key = option_map_or (λ l. not_encountered_diag l file key) licensing not_built
