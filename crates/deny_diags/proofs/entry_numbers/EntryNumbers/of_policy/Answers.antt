use Rattle.std.proofs.Common.{refl, ◌∙◌}
use Rattle.deny_diags.specs.declared.entry_numbers.EntryList.TheVariants.{Deny, Allow, Skip, SkipTree, Features}
use Rattle.deny_diags.specs.private.EntryNumbers.{list_number, number_at}
use Rattle.deny_diags.proofs.NumberLemmas.{numbered}
use Rattle.deny_diags.proofs.entry_numbers.EntryNumbers.of_policy.Goals as goal

pub returns : goal.returns
unfolding list_number
returns c =
    let cfg = c.args.cfg.now in
    let none = c.none-numbers.result in
    let one = c.put_list.new.self in
    let two = c.put_list-2.new.self in
    let three = c.put_list-3.new.self in
    let four = c.put_list-4.new.self in
    let put_one = c.in_ok-put_list.ensures in
    let put_two = c.in_ok-put_list-2.ensures in
    let put_three = c.in_ok-put_list-3.ensures in
    let put_four = c.in_ok-put_list-4.ensures in
    let put_five = c.in_ok-put_list-5.ensures in
    let held_none = c.none-numbers.ensures in
    record {
      deny = λ r. put_five Deny r ∙ (put_four Deny r ∙ (put_three Deny r ∙ (put_two Deny r
          ∙ numbered (λ m. m.ban.now.spec.name.span) r c.args.bans.now c.args.bans.now (number_at one Deny r)
          (number_at none Deny r) (put_one Deny r) (held_none Deny r) refl)));
      allow = λ r. put_five Allow r ∙ (put_four Allow r ∙ (put_three Allow r
          ∙ numbered (λ e. e.spec.name.span) r c.as_slice.result.now cfg.allowed (number_at two Allow r)
          (number_at one Allow r) (put_two Allow r) (put_one Allow r ∙ held_none Allow r) c.as_slice.ensures));
      skip = λ r. put_five Skip r ∙ (put_four Skip r
          ∙ numbered (λ e. e.spec.name.span) r c.as_slice-2.result.now cfg.skipped (number_at three Skip r)
          (number_at two Skip r) (put_three Skip r) (put_two Skip r ∙ (put_one Skip r ∙ held_none Skip r))
          c.as_slice-2.ensures);
      skip_tree = λ r. put_five SkipTree r
          ∙ numbered (λ e. e.spec.name.span) r c.as_slice-3.result.now cfg.tree_skipped (number_at four SkipTree r)
          (number_at three SkipTree r) (put_four SkipTree r)
          (put_three SkipTree r ∙ (put_two SkipTree r ∙ (put_one SkipTree r ∙ held_none SkipTree r)))
          c.as_slice-3.ensures;
      features = λ r.
          numbered (λ e. e.spec.name.span) r c.as_slice-4.result.now cfg.features
          (number_at c.put_list-5.new.self Features r) (number_at four Features r) (put_five Features r)
          (put_four Features r ∙ (put_three Features r ∙ (put_two Features r ∙ (put_one Features r
          ∙ held_none Features r)))) c.as_slice-4.ensures;
    }
