use Rattle.deny_base.proofs.CodeEqual.{diagnostic_code_cmp-total, diagnostic_code_cmp-exact, code_cmp-exact}
use Rattle.deny_base.proofs.CodeEqual.{license_code_cmp-exact, same_word}
use Rattle.deny_base.proofs.code.code_order.Goals as goal

pub returns-clause-total : goal.returns-clause-total
returns-clause-total c = diagnostic_code_cmp-total

pub returns-clause-equal : goal.returns-clause-equal
returns-clause-equal c = diagnostic_code_cmp-exact

pub returns-clause-bans : goal.returns-clause-bans
returns-clause-bans c = code_cmp-exact

pub returns-clause-licenses : goal.returns-clause-licenses
returns-clause-licenses c = license_code_cmp-exact

pub returns-clause-words : goal.returns-clause-words
returns-clause-words c = same_word
