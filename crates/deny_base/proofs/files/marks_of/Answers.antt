use Rattle.std.proofs.Common.{List, ◌∷◌, [], ◌++◌, ◌∙◌, ap}
use Rattle.deny_base.proofs.LocationLemmas.{first_mark, first_location}
use Rattle.deny_base.specs.declared.files.Location.{Location}
use Rattle.deny_base.proofs.files.marks_of.Goals as goal

pub loop-mark-init : goal.loop-mark-init
loop-mark-init c =
    let push = λ (marks : List Location). marks ++ record { line = 0; column = 0 } ∷ [] in (
      first_location,
      first_mark c.args.text.now c.push.new.self.items (c.in_ok-push.ensures.items
          ∙ ap push c.new-marks.ensures.items),
    )
