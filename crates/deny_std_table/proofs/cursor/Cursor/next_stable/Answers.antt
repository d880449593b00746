use Rattle.std.proofs.Common.{◌∙◌, sym}
use Rattle.deny_std_table.proofs.CursorSteps.{stable_ready, stable_answer}
use Rattle.deny_std_table.proofs.cursor.Cursor.next_stable.Goals as goal

pub unwrap-read-requires : goal.unwrap-read-requires
unwrap-read-requires c = stable_ready c.args.self.now _ c.requires.some c.requires.reads c.replacement.ensures

pub returns : goal.returns
returns c = stable_answer c.args.self.now c.unwrap-read.result c.requires.some c.requires.reads
    (sym c.replacement.ensures ∙ c.unwrap-read.ensures)
