-- The packs of crates and of unused entries are those of their keys.
use Rattle.std.proofs.Common.{◌≡◌, ◌++◌, ℕ, Bool, true, false, List, [], ◌∷◌, Contains, Option, Some, None, cond}
use Rattle.std.proofs.Common.{filter, is_some, map, not, refl, sym, ap, ◌∙◌}
use Rattle.std.specs.Prelude.{codes, filter_map, option_map}
use Rattle.std.specs.Fmt.{decimal}
use Rattle.std.specs.List.{flat_map}
use Rattle.std.specs.Option.{option_map_or}
use Rattle.std.proofs.lemmas.List.{map-append}
use Rattle.std.proofs.lemmas.Simd.{map-map}
use Rattle.deny_base_lists.specs.Ascending.{Lists}
use Rattle.deny_base_lists.specs.First.{FindsFirst}
use Rattle.deny_base_lists.proofs.Agreement.{map_on}
use Rattle.deny_base_lists.proofs.Members.{Contains-from_filter}
use Rattle.deny_base.specs.declared.entry.Hit.{Hit}
use Rattle.deny_base.specs.declared.finding.Pack.{Pack}
use Rattle.deny_base.specs.declared.level.Severity.TheVariants as severity
use Rattle.deny_spdx.specs.Reads.{BadAt, Read, Reading, reading_in}
use Rattle.deny_spdx.specs.declared.expression.Expression.{Expression}
use Rattle.deny_spdx.specs.declared.requirement.Requirement.{Requirement}
use Rattle.deny_spec.specs.Graph.{Crate, Graph, crate_text, kid_of}
use Rattle.deny_spec.specs.Licensing.{Licensing}
use Rattle.deny_spec.specs.DiagParts.{crate_at}
use Rattle.deny_spec_report.specs.Circumstances.{Circumstances}
use Rattle.deny_spec_report.specs.EachCode.{message_licensed}
use Rattle.deny_spec_report.specs.Licences.{Asked, TestsCounting, accepted_diag, asked_in, asked_of, bad_offset}
use Rattle.deny_spec_report.specs.Licences.{exception_not_encountered_diag, expression_in, expression_of, holds}
use Rattle.deny_spec_report.specs.Licences.{is_granted}
use Rattle.deny_spec_report.specs.Licences.{is_licensed, is_passed_over, licence_text, licensed_key}
use Rattle.deny_spec_report.specs.Licences.{not_encountered_diag, parse_error_diag, rejected_notes, rejected_diag}
use Rattle.deny_spec_report.specs.Licences.{skipped_private_diag, unlicensed_diag, with_text}
use Rattle.deny_spec_report.specs.MessageParts.{plainly}
use Rattle.deny_spec_report.specs.Diags.{pack_of, key_pack}
use Rattle.deny_spec_report.specs.declared.message.Message.{Message}
use Rattle.deny_rules_match.specs.Placed.{ArePlaced}
use Rattle.deny_krates.proofs.PlaceLemmas.{place_of}
use Rattle.deny_gate_licenses.specs.Check.{IsLicensed, of_licences}
use Rattle.deny_gate_licenses.specs.declared.granter.Granter.{Granter}
use Rattle.deny_gate_licenses.specs.declared.granter.Granter.TheVariants as granter
use Rattle.deny_gate_licenses.specs.declared.judgement.Judgement.{Judgement}
use Rattle.deny_gate_licenses.specs.declared.judgement.Judgement.TheVariants as judgement
use Rattle.deny_gate_licenses.specs.declared.witnesses.Witnesses.{Witnesses}
use Rattle.deny_gate_licenses.specs.private.Answers.{granter_for, granters_for, notes_by, notes_for, rejected_note}
use Rattle.deny_gate_licenses.specs.private.JudgedCrates.{crate_pack, witnessed_at}
use Rattle.deny_gate_licenses.specs.private.Granters.{granter_cmp, policy_granters}
use Rattle.deny_gate_licenses.specs.private.Judgements.{code_of, judgement_of, of_reading}
use Rattle.deny_gate_licenses.specs.private.Reported.{judged_pack, judgement_message, unused_key, unused_pack}
use Rattle.deny_gate_licenses.specs.private.Witnesses.{hit_at, is_unused, place_in, same_granter}
use Rattle.deny_gate_licenses.proofs.GranterLemmas.{granted-by}
use Rattle.deny_gate_licenses.proofs.HitLemmas.{hits-are}
use Rattle.deny_gate_licenses.proofs.KeyLemmas.{crate_key, keys-listed}

module _ (l : Licensing) (c : Crate) where
  -- ---- the notes of rejected requirements

  abbrev note : Asked → List ℕ
  note asked = rejected_note asked.requirement

  notes-from : (rs : List Requirement)
      → map note (filter (λ asked. not (is_granted l asked)) (map (asked_of c) rs)) ≡ notes_for l c rs
  notes-from [] = refl
  notes-from (r ∷ rs) =
      ap (λ b. map note (cond (not b) (asked_of c r ∷ later) later)) (granted-by l (asked_of c r))
      ∙ by (granter_for l c r) (notes-from rs)
    where
      later : List Asked
      later = filter (λ asked. not (is_granted l asked)) (map (asked_of c) rs)

      by : (o : Option Granter) → map note later ≡ notes_for l c rs
          → map note (cond (not (is_some o)) (asked_of c r ∷ later) later) ≡ notes_by o r ++ notes_for l c rs
      by None rest = ap (λ ns. rejected_note r ∷ ns) rest
      by (Some x) rest = rest

  -- a judgement that the rule of its code confirms
  abbrev Fits : Judgement → Type 0
  Fits judgement.Private = Unit {0}
  Fits judgement.Unlicensed = Unit {0}
  Fits (judgement.Unreadable at) = bad_offset (reading_in (licence_text c)) ≡ at
  Fits (judgement.Accepted granters) = Unit {0}
  Fits (judgement.Rejected granters notes) = rejected_notes l c ≡ notes

  fits-at : (e : Expression) (so : Bool) → rejected_notes l c ≡ notes_for l c e.requirements
      → Fits (cond so (judgement.Accepted (granters_for l c e.requirements))
      (judgement.Rejected (granters_for l c e.requirements) (notes_for l c e.requirements)))
  fits-at e true is = tt
  fits-at e false is = is

  asks : (licensed : Bool) (reading : Reading) → is_licensed c ≡ licensed → reading_in (licence_text c) ≡ reading
      → asked_in c ≡ option_map_or (λ (e : Expression). map (asked_of c) e.requirements)
      (cond licensed (expression_in reading) None) []
  unfolding asked_in expression_of
  asks licensed reading is reads =
      ap (λ b. option_map_or (λ (e : Expression). map (asked_of c) e.requirements)
      (cond b (expression_in (reading_in (licence_text c))) None) []) is
      ∙ ap (λ (r : Reading). option_map_or (λ (e : Expression). map (asked_of c) e.requirements)
      (cond licensed (expression_in r) None) []) reads

  fits-by : (passed licensed : Bool) (reading : Reading) → is_licensed c ≡ licensed
      → reading_in (licence_text c) ≡ reading
      → Fits (cond passed judgement.Private (cond licensed (of_reading l c reading) judgement.Unlicensed))
  unfolding rejected_notes
  fits-by true licensed reading is reads = tt
  fits-by false false reading is reads = tt
  fits-by false true (BadAt at) is reads = ap bad_offset reads
  fits-by false true (Read e) is reads = fits-at e (holds l c e)
      (ap (λ (asked : List Asked). map note (filter (λ a. not (is_granted l a)) asked)) (asks true (Read e) is reads)
      ∙ notes-from e.requirements)

  fits : Fits (judgement_of l c)
  unfolding judgement_of
  fits = fits-by (is_passed_over l c) (is_licensed c) (reading_in (licence_text c)) refl refl

  -- ---- packs by their code

  module _ (g : Graph) (file : ℕ) (here : crate_at g c.place ≡ Some c) where
    message-by : (j : Judgement) → Fits j
        → message_licensed (code_of j) (Some l) g file (licensed_key (code_of j) c) ≡ judgement_message c j
    unfolding message_licensed accepted_diag rejected_diag unlicensed_diag parse_error_diag skipped_private_diag
    message-by judgement.Private fit = ap (λ (o : Option Crate). plainly severity.Note
        (codes "skipping private workspace crate '" ++ (option_map_or crate_text o [] ++ codes "'")) []
        (option_map kid_of o)) here
    message-by judgement.Unlicensed fit = ap (λ (o : Option Crate). plainly severity.Error
        (codes "crate '" ++ (option_map_or crate_text o [] ++ codes "' is unlicensed")) [] (option_map kid_of o)) here
    message-by (judgement.Unreadable at) fit =
        ap (λ (o : Option Crate). reported_at o (option_map_or (λ d. bad_offset (reading_in
        (licence_text d))) o 0)) here
        ∙ ap (reported_at (Some c)) fit
      where
        reported_at : Option Crate → ℕ → Message
        reported_at o n = record (plainly severity.Error
            (codes "license expression of crate '" ++ (option_map_or crate_text o []
            ++ (codes "' can't be read at byte " ++ decimal n))) [] (option_map kid_of o)) {
              notes = with_text (option_map_or licence_text o []) ∷ [];
            }
    message-by (judgement.Accepted granters) fit = ap (λ (o : Option Crate). record
        (plainly severity.Note (codes "license requirements satisfied") [] (option_map kid_of o)) {
          notes = with_text (option_map_or licence_text o []) ∷ [];
        }) here
    message-by (judgement.Rejected granters notes) fit =
        ap (λ (o : Option Crate). reported_with o (option_map_or (rejected_notes l) o [])) here
        ∙ ap (reported_with (Some c)) fit
      where
        reported_with : Option Crate → List (List ℕ) → Message
        reported_with o others = record
            (plainly severity.Error (codes "failed to satisfy license requirements") [] (option_map kid_of o)) {
              notes = with_text (option_map_or licence_text o []) ∷ others;
            }

    crate-reported : (c' : Circumstances) → key_pack (of_licences l g file c') (crate_key l c) ≡ crate_pack l c
    unfolding judged_pack
    crate-reported c' = ap (pack_of (crate_key l c)) (message-by (judgement_of l c) fits)

entry-reported : (l : Licensing) (g : Graph) (file : ℕ) (c : Circumstances) (x : Granter)
    → key_pack (of_licences l g file c) (unused_key x) ≡ unused_pack l.unused_allowed file x
unfolding message_licensed not_encountered_diag exception_not_encountered_diag unused_pack
entry-reported l g file c (granter.Allowance span) = refl
entry-reported l g file c (granter.Exception span) = refl

-- ---- all packs

module _ (l : Licensing) (g : Graph) (file : ℕ) (placed : ArePlaced g.crates) (counts : Crate → Bool)
    (reports : TestsCounting l g counts) where
  all-reported : (unused : List Granter) (c : Circumstances)
      → map (key_pack (of_licences l g file c)) (map (crate_key l) (filter counts g.crates) ++ map unused_key unused)
      ≡ map (crate_pack l) (filter counts g.crates) ++ map (unused_pack l.unused_allowed file) unused
  all-reported unused c =
      let reported = key_pack (of_licences l g file c) in
      map-append reported (map (crate_key l) (filter counts g.crates)) (map unused_key unused)
      ∙ (ap (λ (packs : List Pack). packs ++ map reported (map unused_key unused))
      (map-map reported (crate_key l) (filter counts g.crates)
      ∙ map_on (λ d. reported (crate_key l d)) (crate_pack l) (filter counts g.crates)
      (λ d holds. crate-reported l d g file (placed.at d (Contains-from_filter counts g.crates d holds).0) c))
      ∙ ap (λ (packs : List Pack). map (crate_pack l) (filter counts g.crates) ++ packs)
      (map-map reported unused_key unused
      ∙ map_on (λ x. reported (unused_key x)) (unused_pack l.unused_allowed file) unused
      (λ x _. entry-reported l g file c x)))

  pub is-licensed : (witnesses : Witnesses) (unused : List Granter) (hits : List Hit) (old new packs : List Pack)
      → FindsFirst same_granter (flat_map (witnessed_at l g) (map place_of (filter counts g.crates)))
      (place_in witnesses)
      → Lists granter_cmp (Contains (filter (is_unused witnesses) (policy_granters l))) unused
      → hits ≡ filter_map (hit_at g witnesses) (policy_granters l)
      → packs ≡ map (crate_pack l) (filter counts g.crates) ++ map (unused_pack l.unused_allowed file) unused
      → new ≡ old ++ packs → IsLicensed l g file old new hits
  is-licensed witnesses unused hits old new packs finds listed hit reported added = record {
    keys = map (crate_key l) (filter counts g.crates) ++ map unused_key unused;
    listed = λ c facts. keys-listed l g file placed counts reports witnesses finds c facts unused listed;
    reported = λ c. added ∙ ap (λ (ps : List Pack). old ++ ps) (reported ∙ sym (all-reported unused c));
    counts = counts;
    reports = reports;
    hits_are = hit ∙ hits-are l g placed counts witnesses finds;
  }
