use Rattle.std.proofs.Common.{◌≡◌, ◌-◌, ◌<◌, ◌==◌, ◌||◌, true, false, suc, length, drop, le_refl, ◌∙◌, inr, rules}
use Rattle.std.proofs.Common.{arith}
use Rattle.std.proofs.lemmas.Grind.{common_steps}
use Rattle.deny_toml_grammar.specs.Lexical.{first, skip_spaces}
use Rattle.deny_toml_grammar.specs.private.Lexical.{skip_blank}
use Rattle.deny_toml_grammar.specs.private.Values.{value}
use Rattle.deny_base_lists.proofs.ReaderLemmas.{handed_on}
use Rattle.deny_toml_grammar.specs.declared.read_error.ReadError.TheVariants.{Memory}
use Rattle.deny_toml_grammar.proofs.StringsLaws.{fails_with, reads_same}
use Rattle.deny_toml_grammar.proofs.ValuesLaws as laws
use Rattle.deny_toml_grammar.proofs.values.+reading.Goals as goal

pub array-elements-init : goal.array-elements-init
array-elements-init t c = (search rules, le_refl _, λ n h. (n, h, rw c.new-found.ensures))

pub array-returns-then-first-eq93-clause-value : goal.array-returns-then-first-eq93-clause-value
array-returns-then-first-eq93-clause-value t c n h =
    let l = c.elements in
    let (m, room, loop) = l.invariant.2 n h in
    let closing : (first (skip_blank l.rest.now) == 93) ≡ true = grind (arith, common_steps) in
    loop ∙ laws.elements_end (value c.args.depth c.args.total) m _ l.rest.now (omega arith) closing
    ∙ rw (c.skip.ensures.rest, c.skip_blank-start.ensures.rest)

pub array-returns-in_err-element-clause-value : goal.array-returns-in_err-element-clause-value
array-returns-in_err-element-clause-value t c n h =
    let l = c.elements in
    let start_is = c.skip_blank-start.ensures.rest in
    let other : (first (skip_blank l.rest.now) == 93) ≡ false = grind (arith, common_steps) in
    let (m, room, loop) = l.invariant.2 n h in
    handed_on Memory _ _ c.from_residual.result c.in_err-element.field-0.0 c.from_residual.ensures.1
    (fails_with c.in_err-element.field-0.0 _ _ (λ none. loop
    ∙ laws.elements_bad (value c.args.depth c.args.total) m _ l.rest.now other (rw start_is at none))
    c.in_err-element.ensures.value)

pub array-returns-in_err-rest-clause-value : goal.array-returns-in_err-rest-clause-value
array-returns-in_err-rest-clause-value t c n h =
    let l = c.elements in
    let start_is = c.skip_blank-start.ensures.rest in
    let other : (first (skip_blank l.rest.now) == 93) ≡ false = grind (arith, common_steps) in
    let (m, room, loop) = l.invariant.2 n h in
    handed_on Memory _ _ c.from_residual-in_err-rest.result c.in_err-rest.field-0.0
    c.from_residual-in_err-rest.ensures.1
    (fails_with c.in_err-rest.field-0.0 _ _ (λ none. loop ∙ laws.elements_bad_end (value c.args.depth c.args.total) m _
    l.rest.now _ _ other (rw start_is at c.in_ok-element.ensures.value) none) c.in_err-rest.ensures.value)

pub array-elements-preserved : goal.array-elements-preserved
array-elements-preserved t c =
    let l = c.elements in
    let start_is = c.skip_blank-start.ensures.rest in
    let other : (first (skip_blank l.rest.now) == 93) ≡ false = grind (arith, common_steps) in
    let shorter = c.in_ok-element.ensures.shorter in
    let within = c.in_ok-rest.ensures.within in
    let before = c.skip_blank-start.ensures.within in (
      search rules,
      omega (arith, l.invariant.1),
      λ n h.
          let (m, room, loop) = l.invariant.2 n h in (
            m - 1,
            omega arith,
            loop ∙ laws.elements_more (value c.args.depth c.args.total) m _ l.rest.now _ _ _
                (omega arith) other (rw start_is at c.in_ok-element.ensures.value) c.in_ok-rest.ensures.value
                ∙ rw c.in_ok-push.ensures.ok,
          ),
    )

pub assignment-returns-in_err-path-clause-value : goal.assignment-returns-in_err-path-clause-value
assignment-returns-in_err-path-clause-value t c =
    handed_on Memory _ _ c.from_residual.result c.in_err-path.field-0.0 c.from_residual.ensures.1
    (fails_with c.in_err-path.field-0.0 _ _ (laws.assignment_no_key (value c.args.depth c.args.total) c.args.total
    c.args.text.now) c.in_err-path.ensures.value)

pub assignment-returns-then-first-ne61-clause-value : goal.assignment-returns-then-first-ne61-clause-value
assignment-returns-then-first-ne61-clause-value t c =
    let after = c.in_ok-path.after.now in
    let none : (first after == 61) ≡ false = grind (arith, common_steps) in
    inr (laws.assignment_is (value c.args.depth c.args.total) c.args.total c.args.text.now after c.in_ok-path.path
    c.in_ok-path.ensures.value
    ∙ laws.assigned_no_equals (value c.args.depth c.args.total) c.in_ok-path.path after none)

pub assignment-returns-in_err-value-clause-value : goal.assignment-returns-in_err-value-clause-value
assignment-returns-in_err-value-clause-value t c =
    let after = c.in_ok-path.after.now in
    let start_is : c.skip_spaces.result.now ≡ skip_spaces (drop 1 after) =
    rw (c.skip_spaces.ensures.rest, c.skip.ensures.rest) in
    let is = laws.assignment_is (value c.args.depth c.args.total) c.args.total c.args.text.now after c.in_ok-path.path
    c.in_ok-path.ensures.value in
    handed_on Memory _ _ c.from_residual-in_err-value.result c.in_err-value.field-0.0
    c.from_residual-in_err-value.ensures.1
    (fails_with c.in_err-value.field-0.0 _ _ (λ none. is ∙ laws.assigned_none (value c.args.depth c.args.total)
    c.in_ok-path.path after (rw start_is at none)) c.in_err-value.ensures.value)

pub assignment-returns-clause-value : goal.assignment-returns-clause-value
assignment-returns-clause-value t c =
    let after = c.in_ok-path.after.now in
    let equals : (first after == 61) ≡ true = grind (arith, common_steps) in
    let start_is : c.skip_spaces.result.now ≡ skip_spaces (drop 1 after) =
    rw (c.skip_spaces.ensures.rest, c.skip.ensures.rest) in
    laws.assignment_is (value c.args.depth c.args.total) c.args.total c.args.text.now after c.in_ok-path.path
    c.in_ok-path.ensures.value
    ∙ laws.assigned_some (value c.args.depth c.args.total) c.in_ok-path.path after _ _ equals
    (rw start_is at c.in_ok-value.ensures.value)

pub inline_table-returns-then-first-eq125-clause-value : goal.inline_table-returns-then-first-eq125-clause-value
inline_table-returns-then-first-eq125-clause-value t c =
    let text = c.args.text.now in
    let closing : (first (skip_spaces text) == 125) ≡ true = grind (arith, common_steps) in
    laws.inline_table_empty (value c.args.depth c.args.total) c.args.total text closing
    ∙ rw (c.new.ensures, c.skip.ensures.rest, c.skip_spaces-start.ensures.rest)

pub inline_table-returns-clause-value : goal.inline_table-returns-clause-value
inline_table-returns-clause-value t c =
    let text = c.args.text.now in
    let other : (first (skip_spaces text) == 125) ≡ false = grind (arith, common_steps) in
    let room : length c.skip_spaces-start.result.now < suc (length text) =
    omega (arith, c.skip_spaces-start.ensures.within) in
    reads_same c.members.result _ _ (laws.inline_table_is (value c.args.depth c.args.total) c.args.total text other)
    (rw c.skip_spaces-start.ensures.rest at (c.members.ensures.value (suc (length text)) room))

pub members-members-init : goal.members-members-init
members-members-init t c = (search rules, le_refl _, λ n h. (n, h, rw c.new-found.ensures))

pub members-returns-in_err-member-clause-value : goal.members-returns-in_err-member-clause-value
members-returns-in_err-member-clause-value t c n h =
    let l = c.members in
    let (m, room, loop) = l.invariant.2 n h in
    handed_on Memory _ _ c.from_residual.result c.in_err-member.field-0.0 c.from_residual.ensures.1
    (fails_with c.in_err-member.field-0.0 _ _ (λ none. loop ∙ laws.members_bad (value c.args.depth c.args.total) m
    c.args.total _ l.rest.now none) c.in_err-member.ensures.value)

pub members-returns-then-first-eq125-clause-value : goal.members-returns-then-first-eq125-clause-value
members-returns-then-first-eq125-clause-value t c n h =
    let l = c.members in
    let after = c.in_ok-member.after.now in
    let (m, room, loop) = l.invariant.2 n h in
    let last : (first (skip_spaces after) == 44) ≡ false = grind (arith, common_steps) in
    let closing : (first (skip_spaces after) == 125) ≡ true = grind (arith, common_steps) in
    loop ∙ laws.members_last (value c.args.depth c.args.total) m c.args.total l.found l.rest.now c.in_ok-member.member
    after (omega arith) c.in_ok-member.ensures.value last closing
    ∙ rw (c.in_ok-push.ensures.ok, c.skip.ensures.rest, c.skip_spaces-after.ensures.rest)

pub members-returns-then-first-ne44-clause-value : goal.members-returns-then-first-ne44-clause-value
members-returns-then-first-ne44-clause-value t c n h =
    let l = c.members in
    let after = c.in_ok-member.after.now in
    let (m, room, loop) = l.invariant.2 n h in
    let last : (first (skip_spaces after) == 44) ≡ false = grind (arith, common_steps) in
    let open_still : (first (skip_spaces after) == 125) ≡ false = grind (arith, common_steps) in
    inr (loop ∙ laws.members_bad_end (value c.args.depth c.args.total) m c.args.total l.found l.rest.now
    c.in_ok-member.member after c.in_ok-member.ensures.value last open_still)

pub members-members-preserved : goal.members-members-preserved
members-members-preserved t c =
    let l = c.members in
    let after = c.in_ok-member.after.now in
    let more : (first (skip_spaces after) == 44) ≡ true = grind (arith, common_steps) in
    let shorter = c.in_ok-member.ensures.shorter in
    let within = c.skip_spaces-after.ensures.within in
    let skipped = c.skip-in-members.ensures.shorter in
    let before = c.skip_spaces-rest.ensures.within in (
      search rules,
      omega (arith, l.invariant.1),
      λ n h.
          let (m, room, loop) = l.invariant.2 n h in (
            m - 1,
            omega arith,
            loop ∙ laws.members_more (value c.args.depth c.args.total) m c.args.total l.found l.rest.now
                c.in_ok-member.member after (omega arith) c.in_ok-member.ensures.value more
                ∙ rw (
                  c.in_ok-push.ensures.ok,
                  c.skip_spaces-rest.ensures.rest,
                  c.skip-in-members.ensures.rest,
                  c.skip_spaces-after.ensures.rest,
                ),
          ),
    )

pub value-returns-then-byte-ne123-clause-value : goal.value-returns-then-byte-ne123-clause-value
value-returns-then-byte-ne123-clause-value t c =
    let text = c.args.text.now in
    let a : (first text == 91) ≡ false = grind (arith, common_steps) in
    let b : (first text == 123) ≡ false = grind (arith, common_steps) in
    reads_same c.scalar.result _ _ (laws.value_scalar c.args.depth c.args.total text a b) c.scalar.ensures.value

pub value-returns-then-depth-eq0-clause-value : goal.value-returns-then-depth-eq0-clause-value
value-returns-then-depth-eq0-clause-value t c =
    let text = c.args.text.now in
    let bracket : ((first text == 91) || (first text == 123)) ≡ true = grind (arith, common_steps) in
    let zero : c.args.depth ≡ 0 = omega arith in
    inr (rw zero (laws.value_deep c.args.total text bracket))

pub value-returns-in_err-elements-clause-value : goal.value-returns-in_err-elements-clause-value
value-returns-in_err-elements-clause-value t c =
    let text = c.args.text.now in
    let some : 0 < c.args.depth = omega arith in
    let a : (first text == 91) ≡ true = grind (arith, common_steps) in
    let failed = rw c.skip.ensures.rest at (c.in_err-elements.ensures.value (length text) c.skip.ensures.shorter) in
    handed_on Memory _ _ c.from_residual.result c.in_err-elements.field-0.0 c.from_residual.ensures.1
    (fails_with c.in_err-elements.field-0.0 _ _ (λ none. laws.value_array c.args.depth c.args.total text some a
    ∙ rw none) failed)

pub value-returns-in_err-members-clause-value : goal.value-returns-in_err-members-clause-value
value-returns-in_err-members-clause-value t c =
    let text = c.args.text.now in
    let some : 0 < c.args.depth = omega arith in
    let a : (first text == 91) ≡ false = grind (arith, common_steps) in
    let b : (first text == 123) ≡ true = grind (arith, common_steps) in
    let failed = rw c.skip-else-byte-eq91.ensures.rest at c.in_err-members.ensures.value in
    handed_on Memory _ _ c.from_residual-in_err-members.result c.in_err-members.field-0.0
    c.from_residual-in_err-members.ensures.1
    (fails_with c.in_err-members.field-0.0 _ _ (λ none. laws.value_table c.args.depth c.args.total text some a b
    ∙ rw none) failed)

pub value-returns-in_ok-elements-clause-value : goal.value-returns-in_ok-elements-clause-value
value-returns-in_ok-elements-clause-value t c =
    let text = c.args.text.now in
    let some : 0 < c.args.depth = omega arith in
    let a : (first text == 91) ≡ true = grind (arith, common_steps) in
    let read = rw c.skip.ensures.rest at (c.in_ok-elements.ensures.value (length text) c.skip.ensures.shorter) in
    laws.value_array c.args.depth c.args.total text some a ∙ rw (read, c.whole.ensures)

pub value-returns-in_ok-members-clause-value : goal.value-returns-in_ok-members-clause-value
value-returns-in_ok-members-clause-value t c =
    let text = c.args.text.now in
    let some : 0 < c.args.depth = omega arith in
    let a : (first text == 91) ≡ false = grind (arith, common_steps) in
    let b : (first text == 123) ≡ true = grind (arith, common_steps) in
    let read = rw c.skip-else-byte-eq91.ensures.rest at c.in_ok-members.ensures.value in
    laws.value_table c.args.depth c.args.total text some a b ∙ rw (read, c.whole-else-byte-eq91.ensures)

pub array-returns-in_err-push-clause-value : goal.array-returns-in_err-push-clause-value
array-returns-in_err-push-clause-value t c = search rules

pub members-returns-in_err-push-clause-value : goal.members-returns-in_err-push-clause-value
members-returns-in_err-push-clause-value t c = search rules
