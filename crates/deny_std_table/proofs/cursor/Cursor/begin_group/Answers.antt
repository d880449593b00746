use Rattle.std.proofs.Common.{◌∙◌, sym}
use Rattle.deny_std_table.proofs.CursorSteps.{group_ready, group_answer}
use Rattle.deny_std_table.proofs.cursor.Cursor.begin_group.Goals as goal

pub unwrap-head-requires : goal.unwrap-head-requires
unwrap-head-requires c = group_ready c.args.self.now _ c.requires.stable c.requires.some c.requires.reads
    c.group_head.ensures

pub returns-clause-left : goal.returns-clause-left
returns-clause-left c =
    (group_answer c.args.self.now c.unwrap-head.result c.requires.stable c.requires.some c.requires.reads
    (sym c.group_head.ensures ∙ c.unwrap-head.ensures)).0

pub returns-clause-stable : goal.returns-clause-stable
returns-clause-stable c =
    (group_answer c.args.self.now c.unwrap-head.result c.requires.stable c.requires.some c.requires.reads
    (sym c.group_head.ensures ∙ c.unwrap-head.ensures)).1
