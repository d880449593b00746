use Rattle.std.proofs.Common.{◌++◌, ◌∷◌, [], List, ap, ◌∙◌}
use Rattle.deny_base.specs.declared.label.Label.{Label}
use Rattle.deny_spec_report.specs.Sharing.{entry_labels, note_at, patched_note, renamed_entry_note}
use Rattle.deny_spec.specs.DiagParts.{secondary}
use Rattle.std.specs.Prelude.{option_map}
use Rattle.deny_diags_manifests.proofs.sharing.entry_labels.Goals as goal

pub returns : goal.returns
unfolding entry_labels
returns c place =
    let file = c.args.file in
    let entry = c.args.entry.now in
    let patched = note_at file patched_note entry.patched in
    let renamed = note_at file renamed_entry_note (option_map (λ r. r.span) entry.rename) in
    let label = c.in_ok-secondary.ensures ∙ ap (secondary file entry.key) (c.entry_message-message.ensures place) in
    c.in_ok-add_renamed_entry_note.ensures
    ∙ ap (λ (labels : List Label). labels ++ renamed)
    (c.in_ok-add_patched_note.ensures
    ∙ ap (λ (labels : List Label). labels ++ patched)
    (c.in_ok-push.ensures.ok
    ∙ (ap (λ (labels : List Label). labels ++ c.in_ok-secondary.field-0 ∷ []) c.new-labels.ensures
    ∙ ap (λ (l : Label). l ∷ []) label)))
