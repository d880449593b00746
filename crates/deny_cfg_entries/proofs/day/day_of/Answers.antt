use Rattle.std.proofs.Common.{arith, refl, ap, ◌∙◌, Some, w8, w32}
use Rattle.std.specs.Int.{w16}
use Rattle.std.proofs.lemmas.Int.{to_z_pos, to_z-of_z}
use Rattle.deny_cfg_entries.proofs.DayLaws.{day_of_date, day_of_no_date}
use Rattle.deny_cfg_entries.proofs.day.day_of.Goals as goal

pub returns-in-Ok : goal.returns-in-Ok
returns-in-Ok c =
    let year = to_z_pos w16 c.args.year (omega (arith, c.requires.year)) in
    let month = to_z_pos w8 c.args.month (omega (arith, c.requires.month)) in
    let day = to_z_pos w8 c.args.day (omega (arith, c.requires.day)) in
    let is = simp (year, month, day) at (c.in-Ok.ensures.succeeds.0 refl) in
    let has = simp (year, month, day) at c.in-Ok.ensures.value in
    let number = c.to_unix_epoch_day.result in
    let whole = to_z-of_z w32 number (record { sfits = c.to_unix_epoch_day.type_inv }) in
    ap Some (whole ∙ c.to_unix_epoch_day.ensures.value)
    ∙ day_of_date c.args.year c.args.month c.args.day c.in-Ok.date is has

pub returns-in-Err : goal.returns-in-Err
returns-in-Err c =
    let year = to_z_pos w16 c.args.year (omega (arith, c.requires.year)) in
    let month = to_z_pos w8 c.args.month (omega (arith, c.requires.month)) in
    let day = to_z_pos w8 c.args.day (omega (arith, c.requires.day)) in
    let none = simp (year, month, day) at c.in-Err.ensures.succeeds in
    day_of_no_date c.args.year c.args.month c.args.day c.requires.year (λ is. cc (none.1 is))
