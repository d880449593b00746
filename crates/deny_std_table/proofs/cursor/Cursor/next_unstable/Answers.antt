use Rattle.std.proofs.Common.{◌∙◌, sym}
use Rattle.deny_std_table.proofs.CursorSteps.{unstable_ready, unstable_answer}
use Rattle.deny_std_table.proofs.cursor.Cursor.next_unstable.Goals as goal

pub unwrap-read-requires : goal.unwrap-read-requires
unwrap-read-requires c = unstable_ready c.args.self.now _ c.requires.stable c.requires.groups c.requires.some
    c.requires.reads c.replacement.ensures

pub returns : goal.returns
returns c = unstable_answer c.args.self.now c.unwrap-read.result c.requires.stable c.requires.groups c.requires.some
    c.requires.reads (sym c.replacement.ensures ∙ c.unwrap-read.ensures)
