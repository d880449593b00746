use Rattle.std.proofs.Common.{◌≡◌, List, ℕ, Option, sym, ap, subst, ◌∙◌}
use Rattle.std.specs.Prelude.{IfOk}
use Rattle.std.proofs.lemmas.Str.{is_utf8-from_IsUtf8}
use Rattle.deny_base_lists.proofs.Texts.{is_utf8-false}
use Rattle.deny_build_file.specs.Script.{interpreter_of_text}
use Rattle.deny_build_file.proofs.ScriptLemmas.{no_text, a_text}
use Rattle.deny_build_file.proofs.script.interpreter_of_line.Goals as goal

pub returns-in-Err : goal.returns-in-Err
returns-in-Err c = sym (no_text c.args.path.now c.args.line.now (is_utf8-false _ c.in-Err.ensures.cases.0))

pub returns-in-Ok : goal.returns-in-Ok
returns-in-Ok c = subst (λ (known : Option (List ℕ)). IfOk c.interpreter_of_text.result (λ name. name ≡ known))
    (ap (interpreter_of_text c.args.path.now) c.in-Ok.ensures.cases.0
    ∙ sym (a_text c.args.path.now c.args.line.now (is_utf8-from_IsUtf8 _ c.in-Ok.ensures.cases.1)))
    c.interpreter_of_text.ensures
