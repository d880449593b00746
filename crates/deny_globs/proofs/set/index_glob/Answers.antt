use Rattle.std.proofs.Common.{arith, ap, drop, length, length-drop, sym, ◌∙◌, ◌-◌}
use Rattle.std.proofs.lemmas.Result.{on_ok_weaker}
use Rattle.deny_base_lists.proofs.Results.{on_err_always}
use Rattle.deny_globs.specs.Sets.{is_simple}
use Rattle.deny_globs.proofs.MarkedLemmas.{take_all}
use Rattle.deny_globs.proofs.StartLemmas.{starts_stay}
use Rattle.deny_globs.proofs.SetLemmas.{indexes_simple, indexes_other}
use Rattle.deny_globs.proofs.set.index_glob.Goals as goal

pub returns-then-is_simple-clause-ok : goal.returns-then-is_simple-clause-ok
returns-then-is_simple-clause-ok c =
    let same = c.characters-characters.ensures.value in
    on_ok_weaker c.add_extension.result
    (λ e. indexes_simple c.characters-characters.ensures.is_glob (ap is_simple (sym same)
    ∙ (sym c.is_simple.ensures ∙ c.if-is_simple.true)) (ap (drop 2) (sym same)
    ∙ sym (take_all (drop 2 c.characters-characters.result.now) (length c.characters-characters.result.now - 2)
    (omega (arith, length-drop 2 c.characters-characters.result.now)))) e)
    c.add_extension.ensures.ok

pub returns-clause-ok : goal.returns-clause-ok
returns-clause-ok c =
    on_ok_weaker c.add_states.result
    (λ a. indexes_other (ap is_simple (sym c.characters-characters.ensures.value)
    ∙ (sym c.is_simple.ensures ∙ c.if-is_simple.false)) a)
    c.add_states.ensures.ok

pub returns-then-is_simple-clause-starts : goal.returns-then-is_simple-clause-starts
returns-then-is_simple-clause-starts c = on_err_always c.add_extension.result (starts_stay c.requires.starts)
