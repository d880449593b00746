use Rattle.std.proofs.Common.{◌∙◌, sym}
use Rattle.deny_std_table.proofs.CursorSteps.{unavailable_ready, unavailable_answer}
use Rattle.deny_std_table.proofs.cursor.Cursor.next_unavailable.Goals as goal

pub unwrap-read-requires : goal.unwrap-read-requires
unwrap-read-requires c = unavailable_ready c.args.self.now _ c.requires.stable c.requires.groups c.requires.unstable
    c.requires.some c.requires.reads c.api.ensures

pub returns : goal.returns
returns c = unavailable_answer c.args.self.now c.unwrap-read.result c.requires.stable c.requires.groups
    c.requires.unstable c.requires.some c.requires.reads (sym c.api.ensures ∙ c.unwrap-read.ensures)
