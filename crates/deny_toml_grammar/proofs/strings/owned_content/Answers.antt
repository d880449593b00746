use Rattle.std.proofs.Common.{sym, ◌∙◌, rules, arith, le_refl}
use Rattle.std.proofs.lemmas.Grind.{common_steps}
use Rattle.deny_base_lists.proofs.ReaderLemmas.{handed_on}
use Rattle.deny_toml_grammar.specs.declared.read_error.ReadError.TheVariants.{Memory}
use Rattle.deny_toml_grammar.proofs.StringsLaws.{fails_with, prepend-nil, turn_more, turn_done}
use Rattle.deny_toml_grammar.proofs.StringsLaws.{turn_none}
use Rattle.deny_toml_grammar.proofs.strings.owned_content.Goals as goal

pub pieces-init : goal.pieces-init
pieces-init c = (c.utf8.text, le_refl _, λ n h. (n, h, rw c.new-bytes.ensures.bytes (sym (prepend-nil _))))

pub returns-in_err-goes_on-clause-value : goal.returns-in_err-goes_on-clause-value
returns-in_err-goes_on-clause-value c n h =
    let l = c.pieces in
    handed_on Memory _ _ c.from_residual-in_err-goes_on.result c.in_err-goes_on.field-0.0
    c.from_residual-in_err-goes_on.ensures.1
    (fails_with c.in_err-goes_on.field-0.0 _ _ (turn_none c.args.delimiter c.args.multi n c.args.text.now _ l.rest.now
    c.split_run.result.0.now c.split_run.result.1.now (l.invariant.2 n h) c.split_run.ensures.parts)
    c.in_err-goes_on.ensures.value)

pub returns-then-not-goes_on-clause-value : goal.returns-then-not-goes_on-clause-value
returns-then-not-goes_on-clause-value c n h =
    let l = c.pieces in
    let (piece, read, flag, bytes) = c.in_ok-goes_on.ensures.value in
    let done = turn_done c.args.delimiter c.args.multi n c.args.text.now _ l.rest.now c.split_run.result.0.now
    c.split_run.result.1.now piece c.in_ok-goes_on.next.now (l.invariant.2 n h) c.split_run.ensures.parts read
    (sym c.if-not-goes_on.true ∙ flag) in
    done ∙ grind (arith, common_steps)

pub pieces-preserved : goal.pieces-preserved
pieces-preserved c =
    let l = c.pieces in
    let (piece, read, flag, bytes) = c.in_ok-goes_on.ensures.value in
    let lens = c.split_run.ensures.lens in
    let shorter = c.in_ok-goes_on.ensures.shorter in (
      search rules,
      omega (arith, l.invariant.1),
      λ n h.
          let (m, room, whole) = turn_more c.args.delimiter c.args.multi n c.args.text.now _ l.rest.now
          c.split_run.result.0.now c.split_run.result.1.now piece c.in_ok-goes_on.next.now (l.invariant.2 n h)
          c.split_run.ensures.parts read (sym c.if-not-goes_on.false ∙ flag) in
          (m, omega arith, whole ∙ grind (arith, common_steps)),
    )
