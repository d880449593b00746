use Rattle.std.proofs.Common.{sym}
use Rattle.deny_krates.proofs.LeadLemmas.{text_there}
use Rattle.deny_krates.proofs.leads.has.Goals as goal

pub returns-in-Some : goal.returns-in-Some
returns-in-Some c = text_there c.args.texts.now c.args.text.now c.in-Some.field-0 c.in-Some.ensures.found

pub returns-in-None : goal.returns-in-None
returns-in-None c = sym c.in-None.ensures.none
