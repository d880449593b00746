use Rattle.std.proofs.Common.{◌++◌, ◌∷◌, [], ap, append-nil, cond, sym, ◌∙◌}
use Rattle.deny_base_lists.proofs.Filters.{any-filter_map}
use Rattle.deny_spans_manifest.specs.Ignored.{kind_word}
use Rattle.deny_spec.specs.Text.{same_text}
use Rattle.deny_toml.specs.Calls.{text_in}
use Rattle.deny_spans_manifest.proofs.ignored.push_unnamed.Goals as goal

pub returns-in_ok-push : goal.returns-in_ok-push
returns-in_ok-push c =
    let kind = c.args.kind in
    c.in_ok-push.ensures.ok
    ∙ ap (λ b. c.args.unnamed.now ++ cond b [] (kind ∷ []))
    (sym (any-filter_map (same_text (kind_word kind)) text_in c.args.listed.now
    ∙ (sym c.is_named.ensures ∙ c.if-not-is_named.true)))

pub returns-else-not-is_named : goal.returns-else-not-is_named
returns-else-not-is_named c =
    let kind = c.args.kind in
    sym (append-nil c.args.unnamed.now)
    ∙ ap (λ b. c.args.unnamed.now ++ cond b [] (kind ∷ []))
    (sym (any-filter_map (same_text (kind_word kind)) text_in c.args.listed.now
    ∙ (sym c.is_named.ensures ∙ c.if-not-is_named.false)))
