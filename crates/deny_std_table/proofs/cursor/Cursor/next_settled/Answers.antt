use Rattle.std.proofs.Common.{◌≡◌, arith}
use Rattle.deny_std_table.proofs.CursorSteps.{ended_answer}
use Rattle.deny_std_table.proofs.cursor.Cursor.next_settled.Goals as goal

pub returns-else-self-gt0-3 : goal.returns-else-self-gt0-3
returns-else-self-gt0-3 c =
    let none : c.args.self.now.stable ≡ 0 = omega arith in
    ended_answer c.args.self.now none (c.requires.settled none) (omega arith) (omega arith) c.requires.reads
