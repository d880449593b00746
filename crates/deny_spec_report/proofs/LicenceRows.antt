-- Worked cases of licences: what grants a requirement, which crates are checked, which keys hold, the hits of
-- allowed licences and exceptions, and the messages.
use Rattle.std.proofs.Common.{◌≡◌, ℕ, Bool, List, [], ◌∷◌, ◌==◌, ◌+◌, ◌∙◌, true, false, not, Option, Some, None, inl}
use Rattle.std.proofs.Common.{codes, refl, sym, ap, subst}
use Rattle.std.specs.Prelude.{⊤, Contains, filter, map}
use Rattle.std.specs.Fmt.{digits}
use Rattle.std.proofs.lemmas.Bool.{and_parts}
use Rattle.deny_base_lists.proofs.Members.{Contains-by_cases, Contains-first, Contains-from_filter, Contains-from_map}
use Rattle.deny_base_lists.proofs.Members.{Contains-rest, no_member}
use Rattle.deny_base.specs.declared.check.Check.TheVariants.{Licenses}
use Rattle.deny_base.specs.declared.code.DiagnosticCode.TheVariants as diagnostic
use Rattle.deny_base.specs.declared.entry.EntryKind.TheVariants.{LicenseAllow, LicenseException}
use Rattle.deny_base.specs.declared.entry.Hit.{Hit}
use Rattle.deny_base.specs.declared.entry.Witness.TheVariants.{Krate}
use Rattle.deny_base.specs.declared.key.Key.{Key}
use Rattle.deny_base.specs.declared.key.Section.TheVariants as section
use Rattle.deny_base.specs.declared.level.LintLevel.{LintLevel}
use Rattle.deny_base.specs.declared.level.LintLevel.TheVariants.{Allow, Warn, Deny}
use Rattle.deny_base.specs.declared.level.Severity.TheVariants as severity
use Rattle.deny_base.specs.declared.license_code.LicenseCode.{LicenseCode}
use Rattle.deny_base.specs.declared.license_code.LicenseCode.TheVariants as license
use Rattle.deny_base.specs.declared.span.Kid.{Kid}
use Rattle.deny_base.specs.declared.span.Spanned.{Spanned}
use Rattle.deny_spdx.proofs.TruthLemmas.{truth-all, truth-any, truth-requirement}
use Rattle.deny_spdx.specs.Reader.{and_step, close_step, open_step, or_step, settled, step, whole, with_step, word_step}
use Rattle.deny_spdx.specs.Reads.{byte_taken, mark_taken, plus_ended, reading_in, word_ended}
use Rattle.deny_spdx.specs.Tokens.{is_blank, is_word_byte, token_of}
use Rattle.deny_spdx.specs.declared.requirement.Requirement.{Requirement}
use Rattle.deny_spdx.proofs.MeaningRows.{excepted}
use Rattle.deny_spec.specs.Counting.{Counts}
use Rattle.deny_spec.specs.Graph.{Crate, Graph}
use Rattle.deny_spec.specs.Hits.{hit_of}
use Rattle.deny_spec.specs.Keys.{no_span}
use Rattle.deny_spec.specs.Licensing.{Exception, Licensing}
use Rattle.deny_spec.specs.Match.{matches}
use Rattle.deny_spec.specs.DiagParts.{primary}
use Rattle.deny_spec_report.specs.Circumstances.{Circumstances, licensed, unseen_by}
use Rattle.deny_spec_report.specs.EachCode.{message_licensed}
use Rattle.deny_spec_report.specs.Licences.{IsOfLicences, accepted_keys, allowance_hit, allows, asked_in}
use Rattle.deny_spec_report.specs.Licences.{asked_of, bad_offset}
use Rattle.deny_spec_report.specs.Licences.{exception_hit, exception_not_encountered_keys, exception_of, excepts}
use Rattle.deny_spec_report.specs.Licences.{expression_of, first_hit, grants_by_allowance, grants_by_exception, hits_by}
use Rattle.deny_spec_report.specs.Licences.{holds, is_accepted, is_granted, is_hit_by, is_licensed, is_scanned}
use Rattle.deny_spec_report.specs.Licences.{is_passed_over, is_rejected, is_skipped_private, is_unlicensed}
use Rattle.deny_spec_report.specs.Licences.{is_unreadable}
use Rattle.deny_spec_report.specs.Licences.{keys_where, licence_hits, license_key, licensed_key, not_encountered_keys}
use Rattle.deny_spec_report.specs.Licences.{parse_error_keys, rejected_keys, accepted_diag}
use Rattle.deny_spec_report.specs.Licences.{exception_not_encountered_diag}
use Rattle.deny_spec_report.specs.Licences.{not_encountered_diag, parse_error_diag, rejected_notes, rejected_diag}
use Rattle.deny_spec_report.specs.Licences.{requirement_text, same_requirement, skipped_private_keys}
use Rattle.deny_spec_report.specs.Licences.{skipped_private_diag}
use Rattle.deny_spec_report.specs.Licences.{unlicensed_keys, unlicensed_diag}
use Rattle.deny_spec_report.specs.MessageParts.{plainly}
use Rattle.deny_spec_report.specs.Diags.{diag_of, pack_of, key_pack}
use Rattle.deny_spec_report.specs.declared.message.Message.{Message}
use Rattle.deny_spec_report.proofs.Cases.{app, crate, edge, exactly, graph, on_cases, plain, span, spec_at}
use Rattle.deny_spec_report.proofs.CountingRows.{tested, x_does_not, x_kept, y_kept}

abbrev pub licence : List ℕ → Requirement
licence id = record { id = id; exception = None }

abbrev pub mit : Requirement
mit = licence (codes "MIT")

abbrev pub gpl : Requirement
gpl = licence (codes "GPL-2.0")

abbrev pub gpl_with_e : Requirement
gpl_with_e = excepted (codes "GPL-2.0") (codes "E")

unfoldable pub allowed_at : Requirement → ℕ → Spanned Requirement
allowed_at r start = record { value = r; span = span start }

-- crates of a name may ask for one licence
unfoldable pub exception_at : List ℕ → ℕ → Requirement → Exception
exception_at name start r = record { spec = spec_at name start; allow = allowed_at r (start + 1) ∷ [] }

-- a policy with what every crate may ask for, and what some crates may ask for besides
unfoldable pub granting : List (Spanned Requirement) → List Exception → Licensing
granting allow exceptions = record {
  allow = allow;
  exceptions = exceptions;
  ignores_private = false;
  registries = [];
  include_dev = false;
  unused_allowed = Warn;
}

-- `MIT` alone is granted
unfoldable pub mit_alone : Licensing
mit_alone = granting (allowed_at mit 20 ∷ []) []

unfoldable pub asking : Crate → List ℕ → Crate
asking c text = record c { license = Some text }

-- `x` with a licence
unfoldable pub x_asking : List ℕ → Crate
x_asking text = asking (crate 1 (codes "x") 1) text

-- `app` needs `x`, each with a licence
unfoldable pub both_asking : List ℕ → List ℕ → Graph
both_asking of_app of_x = record (graph [] (edge 0 1 ∷ [])) { crates = asking app of_app ∷ x_asking of_x ∷ [] }

-- `x` with a licence alone
unfoldable pub alone : List ℕ → Graph
alone text = record (graph [] []) { crates = x_asking text ∷ [] }

-- tests by which all crates count, and all but `x`
unfoldable pub every : Crate → Bool
every c = true

unfoldable pub all_but_x : Crate → Bool
all_but_x c = not (c.place == 1)

abbrev pub of_app : LicenseCode → Key
of_app code = license_key section.Licenses code 0 no_span

abbrev pub of_x : LicenseCode → Key
of_x code = license_key section.Licenses code 1 no_span

abbrev pub unmet : ℕ → Key
unmet start = license_key section.LicensesUnused license.LicenseNotEncountered 0 (span start)

abbrev pub unmet_exception : ℕ → Key
unmet_exception start = license_key section.LicensesUnused license.LicenseExceptionNotEncountered 0 (span start)

abbrev pub hit_by : List ℕ → ℕ → Hit
hit_by name start = hit_of LicenseAllow (span start) (Krate (record { 0 = name }))

abbrev pub excepted_by : List ℕ → ℕ → Hit
excepted_by name start = hit_of LicenseException (span start) (Krate (record { 0 = name }))

-- what a row unfolds
unfoldable pub reading_on_cases : ⊤
unfolding reading_in byte_taken mark_taken plus_ended word_ended is_blank is_word_byte token_of step word_step with_step
    open_step and_step or_step close_step settled whole
reading_on_cases = tt

unfoldable pub licences_on_cases : ⊤
unfolding on_cases reading_on_cases digits matches allowed_at exception_at granting mit_alone asking x_asking
    both_asking alone every all_but_x allows excepts exception_of is_granted grants_by_exception grants_by_allowance
    same_requirement is_licensed expression_of asked_in holds is_passed_over is_scanned keys_where is_accepted
    is_rejected is_unlicensed is_unreadable is_skipped_private hits_by is_hit_by not_encountered_keys
    exception_not_encountered_keys first_hit allowance_hit exception_hit requirement_text rejected_notes accepted_diag
    rejected_diag unlicensed_diag parse_error_diag skipped_private_diag not_encountered_diag
    exception_not_encountered_diag
licences_on_cases = tt

-- ---- requirements

same_ones : (same_requirement mit mit ≡ true) × (same_requirement gpl_with_e gpl_with_e ≡ true)
unfolding licences_on_cases
same_ones = (refl, refl)

other_ones : (same_requirement gpl gpl_with_e ≡ false) × (same_requirement gpl_with_e gpl ≡ false)
    × (same_requirement gpl_with_e (excepted (codes "GPL-2.0") (codes "F")) ≡ false)
    × (same_requirement gpl_with_e (excepted (codes "MIT") (codes "E")) ≡ false)
    × (same_requirement mit (licence (codes "mit")) ≡ false)
unfolding licences_on_cases
other_ones = (refl, refl, refl, refl, refl)

-- requirements are in text order, equal ones repeated, each without its `+`
asked_in_turn : asked_in (x_asking (codes "GPL-2.0+ WITH E AND (MIT OR GPL-2.0+)/MIT"))
    ≡ map (asked_of (x_asking (codes "GPL-2.0+ WITH E AND (MIT OR GPL-2.0+)/MIT")))
    (gpl_with_e ∷ mit ∷ gpl ∷ mit ∷ [])
unfolding licences_on_cases
asked_in_turn = refl

-- a crate without a licence, or with an empty one, asks for nothing
nothing_asked : (asked_in (crate 1 (codes "x") 1) ≡ []) × (asked_in (x_asking []) ≡ [])
    × (asked_in (x_asking (codes "MIT AND")) ≡ [])
unfolding licences_on_cases
nothing_asked = (refl, refl, refl)

-- ---- where a text can't be read

bad_offsets : (bad_offset (reading_in (codes "MIT AND")) ≡ 7) × (bad_offset (reading_in (codes "MIT AND ")) ≡ 8)
    × (bad_offset (reading_in (codes "  ")) ≡ 2) × (bad_offset (reading_in (codes "MIT +")) ≡ 4)
    × (bad_offset (reading_in (codes "MIT ISC AND")) ≡ 4) × (bad_offset (reading_in (codes "(MIT")) ≡ 4)
    × (bad_offset (reading_in (codes "MIT, ISC")) ≡ 3)
unfolding licences_on_cases
bad_offsets = (refl, refl, refl, refl, refl, refl, refl)

-- ---- a crate that is checked is accepted, rejected, unlicensed or unreadable

-- `AND` binds closer than `OR`, and the `+` is ignored
both_accepted : accepted_keys every mit_alone (both_asking (codes "MIT") (codes "(MIT OR GPL-2.0+) AND MIT"))
    ≡ of_app license.Accepted ∷ of_x license.Accepted ∷ []
unfolding licences_on_cases
both_accepted = simp (truth-requirement, truth-all, truth-any) refl

none_rejected : rejected_keys every mit_alone (both_asking (codes "MIT") (codes "(MIT OR GPL-2.0+) AND MIT")) ≡ []
unfolding licences_on_cases
none_rejected = simp (truth-requirement, truth-all, truth-any) refl

rejected_by_and : rejected_keys every mit_alone (both_asking (codes "MIT") (codes "MIT AND GPL-2.0 WITH E"))
    ≡ of_x license.Rejected ∷ []
unfolding licences_on_cases
rejected_by_and = simp (truth-requirement, truth-all) refl

one_accepted : accepted_keys every mit_alone (both_asking (codes "MIT") (codes "MIT AND GPL-2.0 WITH E"))
    ≡ of_app license.Accepted ∷ []
unfolding licences_on_cases
one_accepted = simp (truth-requirement, truth-all) refl

accepted_by_or : accepted_keys every mit_alone (alone (codes "GPL-2.0 AND ISC OR MIT")) ≡ of_x license.Accepted ∷ []
unfolding licences_on_cases
accepted_by_or = simp (truth-requirement, truth-all, truth-any) refl

-- `app` names no licence, and `x` names an empty one
both_unlicensed : unlicensed_keys every mit_alone (graph (x_asking [] ∷ []) [])
    ≡ of_app license.Unlicensed ∷ of_x license.Unlicensed ∷ []
unfolding licences_on_cases
both_unlicensed = refl

no_other_finding : (accepted_keys every mit_alone (graph (x_asking [] ∷ []) []) ≡ [])
    × (rejected_keys every mit_alone (graph (x_asking [] ∷ []) []) ≡ [])
    × (parse_error_keys every mit_alone (graph (x_asking [] ∷ []) []) ≡ [])
    × (skipped_private_keys every mit_alone (graph (x_asking [] ∷ []) []) ≡ [])
unfolding licences_on_cases
no_other_finding = (refl, refl, refl, refl)

-- blanks are no empty licence
unreadable : (parse_error_keys every mit_alone (both_asking (codes " ") (codes "MIT AND"))
    ≡ of_app license.ParseError ∷ of_x license.ParseError ∷ [])
    × (unlicensed_keys every mit_alone (both_asking (codes " ") (codes "MIT AND")) ≡ [])
    × (rejected_keys every mit_alone (both_asking (codes " ") (codes "MIT AND")) ≡ [])
unfolding licences_on_cases
unreadable = (refl, refl, refl)

-- an allowed licence grants no exception to it, nor does one with an exception grant the licence
with_and_without : (rejected_keys every (granting (allowed_at gpl 20 ∷ []) []) (alone (codes "GPL-2.0 WITH E"))
    ≡ of_x license.Rejected ∷ [])
    × (rejected_keys every (granting (allowed_at gpl_with_e 20 ∷ []) []) (alone (codes "GPL-2.0"))
    ≡ of_x license.Rejected ∷ [])
    × (accepted_keys every (granting (allowed_at gpl_with_e 20 ∷ []) []) (alone (codes "GPL-2.0+ WITH E"))
    ≡ of_x license.Accepted ∷ [])
unfolding licences_on_cases
with_and_without = simp truth-requirement (refl, refl, refl)

-- ---- what the template of a policy allows

unfoldable template : Licensing
template = granting (allowed_at mit 20 ∷ allowed_at (licence (codes "Apache-2.0")) 27 ∷ []) []

both_by_template : (accepted_keys every template (both_asking (codes "MIT") (codes "MIT OR Apache-2.0"))
    ≡ of_app license.Accepted ∷ of_x license.Accepted ∷ [])
    × (not_encountered_keys every template (both_asking (codes "MIT") (codes "MIT OR Apache-2.0")) ≡ [])
unfolding licences_on_cases template
both_by_template = simp (truth-requirement, truth-any) (refl, refl)

-- ---- allowed licences: which are hit

-- a licence is hit by each requirement, whether the expression needs it or not
hit_beside_another : licence_hits every template (both_asking (codes "MIT") (codes "MIT OR Apache-2.0"))
    ≡ hit_by (codes "app") 20 ∷ hit_by (codes "x") 27 ∷ []
unfolding licences_on_cases template
hit_beside_another = refl

-- a licence is hit by a requirement of an expression that is false
hit_though_rejected : licence_hits every mit_alone (alone (codes "MIT AND GPL-2.0")) ≡ hit_by (codes "x") 20 ∷ []
unfolding licences_on_cases
hit_though_rejected = refl

unfoldable with_zlib : Licensing
with_zlib = granting (allowed_at (licence (codes "Apache-2.0")) 20 ∷ allowed_at (licence (codes "Zlib")) 30 ∷ []) []

-- the first crate is the witness
one_unmet : (accepted_keys every with_zlib (both_asking (codes "Apache-2.0") (codes "MIT/Apache-2.0"))
    ≡ of_app license.Accepted ∷ of_x license.Accepted ∷ [])
    × (not_encountered_keys every with_zlib (both_asking (codes "Apache-2.0") (codes "MIT/Apache-2.0"))
    ≡ unmet 30 ∷ [])
    × (licence_hits every with_zlib (both_asking (codes "Apache-2.0") (codes "MIT/Apache-2.0"))
    ≡ hit_by (codes "app") 20 ∷ [])
unfolding licences_on_cases with_zlib
one_unmet = simp (truth-requirement, truth-any) (refl, refl, refl)

-- of two equal licences the first is hit
first_of_two : (licence_hits every (granting (allowed_at mit 20 ∷ allowed_at mit 27 ∷ []) []) (alone (codes "MIT"))
    ≡ hit_by (codes "x") 20 ∷ [])
    × (not_encountered_keys every (granting (allowed_at mit 20 ∷ allowed_at mit 27 ∷ []) []) (alone (codes "MIT"))
    ≡ unmet 27 ∷ [])
unfolding licences_on_cases
first_of_two = (refl, refl)

-- a licence that can't be read asks for nothing
unread_hits_nothing : (licence_hits every mit_alone (alone (codes "MIT AND")) ≡ [])
    × (not_encountered_keys every mit_alone (alone (codes "MIT AND")) ≡ unmet 20 ∷ [])
unfolding licences_on_cases
unread_hits_nothing = (refl, refl)

-- ---- exceptions

-- an exception for `x` that does not list what `x` asks for, and one that does
unfoldable two_for_x : Licensing
two_for_x = granting (allowed_at (licence (codes "Apache-2.0")) 20 ∷ [])
    (exception_at (codes "x") 40 (licence (codes "Zlib")) ∷ exception_at (codes "x") 50 mit ∷ [])

by_the_second : (accepted_keys every two_for_x (both_asking (codes "Apache-2.0") (codes "MIT"))
    ≡ of_app license.Accepted ∷ of_x license.Accepted ∷ [])
    × (exception_not_encountered_keys every two_for_x (both_asking (codes "Apache-2.0") (codes "MIT"))
    ≡ unmet_exception 40 ∷ [])
    × (licence_hits every two_for_x (both_asking (codes "Apache-2.0") (codes "MIT"))
    ≡ hit_by (codes "app") 20 ∷ excepted_by (codes "x") 50 ∷ [])
unfolding licences_on_cases two_for_x
by_the_second = simp truth-requirement (refl, refl, refl)

-- an exception is for its crates alone, at its versions
for_others : (rejected_keys every two_for_x (both_asking (codes "MIT") (codes "MIT")) ≡ of_app license.Rejected ∷ [])
    × (rejected_keys every
    (granting [] (record (exception_at (codes "x") 40 mit) { spec = exactly 2 (spec_at (codes "x") 40) } ∷ []))
    (alone (codes "MIT")) ≡ of_x license.Rejected ∷ [])
    × (accepted_keys every
    (granting [] (record (exception_at (codes "x") 40 mit) { spec = exactly 1 (spec_at (codes "x") 40) } ∷ []))
    (alone (codes "MIT")) ≡ of_x license.Accepted ∷ [])
unfolding licences_on_cases two_for_x
for_others = simp truth-requirement (refl, refl, refl)

-- of two exceptions that list a requirement the first is hit
unfoldable mit_twice : Licensing
mit_twice = granting [] (exception_at (codes "x") 40 mit ∷ exception_at (codes "x") 50 mit ∷ [])

first_exception : (licence_hits every mit_twice (alone (codes "MIT")) ≡ excepted_by (codes "x") 40 ∷ [])
    × (exception_not_encountered_keys every mit_twice (alone (codes "MIT")) ≡ unmet_exception 50 ∷ [])
unfolding licences_on_cases mit_twice
first_exception = (refl, refl)

-- each requirement is granted by the first exception for it
unfoldable one_each : Licensing
one_each = granting [] (record (exception_at (codes "x") 40 mit) { allow = allowed_at mit 41 ∷ allowed_at gpl 42 ∷ [] }
    ∷ record (exception_at (codes "x") 50 mit) { allow = allowed_at gpl 51 ∷ allowed_at gpl_with_e 52 ∷ [] } ∷ [])

each_by_its_first : (licence_hits every one_each (alone (codes "MIT AND GPL-2.0 WITH E"))
    ≡ excepted_by (codes "x") 40 ∷ excepted_by (codes "x") 50 ∷ [])
    × (licence_hits every one_each (alone (codes "GPL-2.0")) ≡ excepted_by (codes "x") 40 ∷ [])
    × (accepted_keys every one_each (alone (codes "MIT AND GPL-2.0 WITH E")) ≡ of_x license.Accepted ∷ [])
unfolding licences_on_cases one_each
each_by_its_first = simp (truth-requirement, truth-all) (refl, refl, refl)

-- an exception comes before licences that every crate may ask for, which another crate hits then, or none
unfoldable pub mit_in_both : Licensing
mit_in_both = granting (allowed_at mit 20 ∷ []) (exception_at (codes "x") 40 mit ∷ [])

exceptions_first : (licence_hits every mit_in_both (alone (codes "MIT")) ≡ excepted_by (codes "x") 40 ∷ [])
    × (not_encountered_keys every mit_in_both (alone (codes "MIT")) ≡ unmet 20 ∷ [])
    × (exception_not_encountered_keys every mit_in_both (alone (codes "MIT")) ≡ [])
unfolding licences_on_cases mit_in_both
exceptions_first = (refl, refl, refl)

another_hits_it : licence_hits every mit_in_both (both_asking (codes "MIT") (codes "MIT"))
    ≡ hit_by (codes "app") 20 ∷ excepted_by (codes "x") 40 ∷ []
unfolding licences_on_cases mit_in_both
another_hits_it = refl

-- licences and exceptions that no crate asks for are reported
none_asks : (not_encountered_keys every mit_in_both (graph [] []) ≡ unmet 20 ∷ [])
    × (exception_not_encountered_keys every mit_in_both (graph [] []) ≡ unmet_exception 40 ∷ [])
    × (licence_hits every mit_in_both (graph [] []) ≡ [])
unfolding licences_on_cases mit_in_both
none_asks = (refl, refl, refl)

-- ---- crates that are private

-- `x` with a licence, and registries that it may be published to
unfoldable published : Option (List (List ℕ)) → Graph
published registries = record (graph [] []) { crates = record (x_asking (codes "MIT")) { publish = registries } ∷ [] }

unfoldable passing : List (List ℕ) → Licensing
passing registries = record mit_alone { ignores_private = true; registries = registries }

passed_over : (registries : List (List ℕ)) (publish : Option (List (List ℕ))) → List Key × List Key × List Hit
passed_over registries publish = (
  skipped_private_keys every (passing registries) (published publish),
  accepted_keys every (passing registries) (published publish),
  licence_hits every (passing registries) (published publish),
)

abbrev scanned_at : List Key × List Key × List Hit
scanned_at = ([], of_x license.Accepted ∷ [], hit_by (codes "x") 20 ∷ [])

abbrev skipped : List Key × List Key × List Hit
skipped = (of_x license.SkippedPrivateWorkspaceCrate ∷ [], [], [])

-- a crate whose manifest does not say where may be published anywhere
published_anywhere : passed_over [] None ≡ scanned_at
unfolding licences_on_cases published passing passed_over
published_anywhere = simp truth-requirement refl

published_nowhere : passed_over [] (Some []) ≡ skipped
unfolding licences_on_cases published passing passed_over
published_nowhere = refl

-- a crate that may be published to the named registries alone is private
published_at_home : (passed_over (codes "r" ∷ codes "s" ∷ []) (Some (codes "s" ∷ [])) ≡ skipped)
    × (passed_over (codes "s" ∷ []) (Some (codes "s" ∷ codes "r" ∷ [])) ≡ scanned_at)
    × (passed_over [] (Some (codes "s" ∷ [])) ≡ scanned_at)
unfolding licences_on_cases published passing passed_over
published_at_home = simp truth-requirement (refl, refl, refl)

-- a private crate is reported as skipped alone, and what it asks for is not hit
nothing_else : (unlicensed_keys every (passing []) (record (graph [] []) {
  crates = record (crate 1 (codes "x") 1) { publish = Some [] } ∷ [];
}) ≡ [])
    × (parse_error_keys every (passing []) (record (graph [] []) {
      crates = record (x_asking (codes " ")) { publish = Some [] } ∷ [];
    }) ≡ [])
    × (rejected_keys every (passing []) (record (graph [] []) {
      crates = record (x_asking (codes "ISC")) { publish = Some [] } ∷ [];
    }) ≡ [])
    × (not_encountered_keys every (passing []) (published (Some [])) ≡ unmet 20 ∷ [])
unfolding licences_on_cases published passing
nothing_else = (refl, refl, refl, refl)

-- private crates are checked as others where the policy does not pass them over
not_ignored : (skipped_private_keys every mit_alone (published (Some [])) ≡ [])
    × (accepted_keys every mit_alone (published (Some [])) ≡ of_x license.Accepted ∷ [])
    × (licence_hits every mit_alone (published (Some [])) ≡ hit_by (codes "x") 20 ∷ [])
unfolding licences_on_cases published
not_ignored = simp truth-requirement (refl, refl, refl)

-- ---- crates that count

-- `x`, which does not count, is not reported, and hits nothing
x_is_left_out : (accepted_keys all_but_x mit_alone (both_asking (codes "ISC") (codes "MIT")) ≡ [])
    × (rejected_keys all_but_x mit_alone (both_asking (codes "ISC") (codes "ISC")) ≡ of_app license.Rejected ∷ [])
    × (unlicensed_keys all_but_x mit_alone (graph (x_asking [] ∷ []) []) ≡ of_app license.Unlicensed ∷ [])
    × (parse_error_keys all_but_x mit_alone (both_asking (codes "ISC") (codes " ")) ≡ [])
    × (skipped_private_keys all_but_x (passing []) (published (Some [])) ≡ [])
    × (not_encountered_keys all_but_x mit_alone (both_asking (codes "ISC") (codes "MIT")) ≡ unmet 20 ∷ [])
    × (licence_hits all_but_x mit_in_both (both_asking (codes "ISC") (codes "MIT")) ≡ [])
    × (exception_not_encountered_keys all_but_x mit_in_both (both_asking (codes "ISC") (codes "MIT"))
    ≡ unmet_exception 40 ∷ [])
unfolding licences_on_cases passing published mit_in_both
x_is_left_out = simp truth-requirement (refl, refl, refl, refl, refl, refl, refl, refl)

-- `x`, which `app` needs for its tests alone, is unlicensed only where dev dependencies count
unfoldable with_tests : Licensing
with_tests = record mit_alone { include_dev = true }

x_unlicensed : Contains (unlicensed_keys every with_tests tested) (of_x license.Unlicensed)
unfolding licences_on_cases with_tests tested x_kept y_kept
x_unlicensed = Contains-rest (of_app license.Unlicensed)
    (of_x license.Unlicensed ∷ license_key section.Licenses license.Unlicensed 2 no_span ∷ []) (of_x license.Unlicensed)
    (Contains-first (of_x license.Unlicensed) (license_key section.Licenses license.Unlicensed 2 no_span ∷ []))

found_with_tests : IsOfLicences unlicensed_keys (Some with_tests) tested (of_x license.Unlicensed)
unfolding licences_on_cases with_tests
found_with_tests = record { counts = every; reports = λ c known. (λ is. inl refl, λ is. refl); listed = x_unlicensed }

at_the_place_of_x : (c : Crate) → Contains tested.crates c → licensed_key license.Unlicensed c ≡ of_x license.Unlicensed
    → c ≡ x_kept
unfolding on_cases tested x_kept y_kept
at_the_place_of_x c known same = Contains-by_cases app (x_kept ∷ crate 2 (codes "y") 1 ∷ []) c known
    (λ is. absurd (cc (ap (λ (d : Crate). d.place) is ∙ ap (λ (k : Key). k.place) same)))
    (λ rest. Contains-by_cases x_kept (crate 2 (codes "y") 1 ∷ []) c rest (λ is. sym is)
    (λ more. Contains-by_cases (crate 2 (codes "y") 1) [] c more
    (λ is. absurd (cc (ap (λ (d : Crate). d.place) is ∙ ap (λ (k : Key). k.place) same)))
    (λ none. absurd (no_member c none))))

not_found : IsOfLicences unlicensed_keys (Some mit_alone) tested (of_x license.Unlicensed) → ⊥
unfolding keys_where is_unlicensed is_scanned mit_alone granting
not_found is =
    let from = Contains-from_map (licensed_key license.Unlicensed)
    (filter (is_unlicensed is.counts mit_alone) tested.crates) (of_x license.Unlicensed) is.listed in
    let kept = Contains-from_filter (is_unlicensed is.counts mit_alone) tested.crates from.from from.member in
    let counted = (and_parts _ _ (and_parts _ _ kept.1).0).0 in
    x_does_not (subst (Counts false tested) (at_the_place_of_x from.from kept.0 from.is)
    ((is.reports from.from kept.0).0 counted))

-- a policy without a licence check has no keys of it
not_matched : (key : Key) → IsOfLicences unlicensed_keys None tested key → ⊥
not_matched key is = is

-- ---- messages

unfoldable x_kid : Kid
x_kid = record { 0 = codes "x" }

-- the notes of requirements that are not granted are in text order, equal ones repeated, with their exceptions
notes_in_turn : (rejected_notes mit_alone (x_asking (codes "ISC AND (MIT OR GPL-2.0+ WITH E) AND GPL-2.0 AND ISC"))
    ≡ codes "rejected = 'ISC'" ∷ codes "rejected = 'GPL-2.0 WITH E'" ∷ codes "rejected = 'GPL-2.0'"
    ∷ codes "rejected = 'ISC'" ∷ [])
    × (rejected_notes mit_alone (x_asking (codes "MIT")) ≡ [])
    × (rejected_notes mit_in_both (crate 1 (codes "x") 1) ≡ [])
unfolding licences_on_cases mit_in_both
notes_in_turn = (refl, refl, refl)

-- a requirement that an exception grants has no note
notes_beside_an_exception : rejected_notes (granting [] (exception_at (codes "x") 40 gpl ∷ []))
    (x_asking (codes "GPL-2.0 AND MIT")) ≡ codes "rejected = 'MIT'" ∷ []
unfolding licences_on_cases
notes_beside_an_exception = refl

abbrev reported : Option Licensing → List ℕ → LicenseCode → Key → Message
reported licensing text code key = message_licensed code licensing (both_asking (codes "MIT") text) 3 key

reported_accepted : reported (Some mit_alone) (codes "(MIT OR GPL-2.0+) AND MIT") license.Accepted
    (of_x license.Accepted)
    ≡ record (plainly severity.Note (codes "license requirements satisfied") [] (Some x_kid)) {
      notes = codes "license = '(MIT OR GPL-2.0+) AND MIT'" ∷ [];
    }
unfolding licences_on_cases x_kid message_licensed
reported_accepted = refl

reported_rejected : reported (Some mit_alone) (codes "MIT AND GPL-2.0 WITH E") license.Rejected (of_x license.Rejected)
    ≡ record (plainly severity.Error (codes "failed to satisfy license requirements") [] (Some x_kid)) {
      notes = codes "license = 'MIT AND GPL-2.0 WITH E'" ∷ codes "rejected = 'GPL-2.0 WITH E'" ∷ [];
    }
unfolding licences_on_cases x_kid message_licensed
reported_rejected = refl

reported_unlicensed : reported (Some mit_alone) [] license.Unlicensed (of_x license.Unlicensed)
    ≡ plainly severity.Error (codes "crate 'x = 1.0.0' is unlicensed") [] (Some x_kid)
unfolding licences_on_cases x_kid message_licensed
reported_unlicensed = refl

reported_parse_error : reported (Some mit_alone) (codes "MIT AND") license.ParseError (of_x license.ParseError)
    ≡ record (plainly severity.Error (codes "license expression of crate 'x = 1.0.0' can't be read at byte 7") []
    (Some x_kid)) {
      notes = codes "license = 'MIT AND'" ∷ [];
    }
unfolding licences_on_cases x_kid message_licensed
reported_parse_error = refl

reported_skipped : reported (Some mit_alone) (codes "MIT") license.SkippedPrivateWorkspaceCrate
    (of_x license.SkippedPrivateWorkspaceCrate)
    ≡ plainly severity.Note (codes "skipping private workspace crate 'x = 1.0.0'") [] (Some x_kid)
unfolding licences_on_cases x_kid message_licensed
reported_skipped = refl

-- an unused licence is reported at its level, and at `allow` as a note
reported_unmet : LintLevel → Message
reported_unmet level = reported (Some (record mit_alone { unused_allowed = level })) (codes "ISC")
    license.LicenseNotEncountered
    (unmet 20)

reported_not_encountered : (reported_unmet Warn ≡ plainly severity.Warning (codes "license was not encountered")
    (primary 3 (span 20) (codes "unmatched license allowance") ∷ []) None)
    × (reported_unmet Deny ≡ plainly severity.Error (codes "license was not encountered")
    (primary 3 (span 20) (codes "unmatched license allowance") ∷ []) None)
    × (reported_unmet Allow ≡ plainly severity.Note (codes "license was not encountered")
    (primary 3 (span 20) (codes "unmatched license allowance") ∷ []) None)
unfolding licences_on_cases reported_unmet message_licensed
reported_not_encountered = (refl, refl, refl)

-- the level of unused licences is not that of exceptions
reported_exception : reported (Some (record mit_in_both { unused_allowed = Deny })) (codes "ISC")
    license.LicenseExceptionNotEncountered (unmet_exception 40)
    ≡ plainly severity.Warning (codes "license exception was not encountered")
    (primary 3 (span 40) (codes "unmatched license exception") ∷ []) None
unfolding licences_on_cases mit_in_both message_licensed
reported_exception = refl

-- the pack of a key of the licence check: one diagnostic, whose message depends on the policy's licences
unfoldable here : Circumstances
here = licensed (unseen_by plain (both_asking (codes "MIT") (codes "ISC")) 3) (Some mit_alone)

handed_out : key_pack here (of_x license.Rejected) ≡ record {
  check = Licenses;
  kid = Some x_kid;
  diags = record {
    key = of_x license.Rejected;
    diag = record {
      severity = severity.Error;
      code = Some (diagnostic.License license.Rejected);
      message = codes "failed to satisfy license requirements";
      labels = [];
      notes = codes "license = 'ISC'" ∷ codes "rejected = 'ISC'" ∷ [];
    };
    graph_nodes = [];
    with_features = false;
  } ∷ [];
}
unfolding licences_on_cases x_kid here message_licensed diag_of pack_of
handed_out = refl
