use Rattle.std.proofs.Common.{◌≡◌, ℕ, List, Some, None, take}
use Rattle.std.specs.Prelude.{cond}
use Rattle.std.specs.FinMap as finite
use Rattle.std.specs.List.{list_any}
use Rattle.std.specs.Option.{option_or}
use Rattle.deny_spec.specs.Text.{same_text}
use Rattle.deny_build.proofs.matched.note_globs.Given as goal

abbrev pub invariant-loop-glob : goal.invariant-loop-glob
invariant-loop-glob l = (text : List ℕ) → finite.get l.firsts text
    ≡ option_or (finite.get l.fn.firsts text)
    (cond (list_any (same_text text) (take l.glob-index l.globs)) (Some l.number) None)
