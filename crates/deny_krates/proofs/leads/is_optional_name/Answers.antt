use Rattle.std.proofs.Common.{◌∙◌, None, Some, arith}
use Rattle.std.proofs.lemmas.Str.Pattern.{strip_suffix_char}
use Rattle.deny_krates.proofs.LeadLemmas.{marked, unmarked}
use Rattle.deny_krates.proofs.leads.is_optional_name.Goals as goal

pub returns-in-Some : goal.returns-in-Some
returns-in-Some c = c.eq.ensures
    ∙ marked c.args.text.now c.in-Some.rest.now c.args.name.now 63
    (strip_suffix_char 63 c.args.text.now (Some c.in-Some.rest) c.in-Some.ensures.cases (omega arith))

pub returns-in-None : goal.returns-in-None
returns-in-None c = unmarked c.args.text.now c.args.name.now 63
    (strip_suffix_char 63 c.args.text.now None c.in-None.ensures.cases (omega arith))
