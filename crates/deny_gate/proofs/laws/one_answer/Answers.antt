use Rattle.deny_gate.proofs.AnswerLaws.{TextLaws, no_cause, one_cause}
use Rattle.deny_gate.proofs.laws.one_answer.Goals as goal

pub returns-clause-cause : goal.returns-clause-cause
returns-clause-cause c =
    let laws : TextLaws = record {
      faults = c.one_refusal.ensures.faults;
      clashes = c.one_refusal.ensures.clashes;
      faults_alone = c.one_refusal.ensures.faults_alone;
      no_policy_with_faults = c.one_refusal.ensures.no_policy_with_faults;
      no_policy_with_clashes = c.one_refusal.ensures.no_policy_with_clashes;
    } in
    λ texts a b m n h k. one_cause laws texts a b m n h k

pub returns-clause-valid : goal.returns-clause-valid
returns-clause-valid c =
    let laws : TextLaws = record {
      faults = c.one_refusal.ensures.faults;
      clashes = c.one_refusal.ensures.clashes;
      faults_alone = c.one_refusal.ensures.faults_alone;
      no_policy_with_faults = c.one_refusal.ensures.no_policy_with_faults;
      no_policy_with_clashes = c.one_refusal.ensures.no_policy_with_clashes;
    } in
    λ texts error m there graph table h. no_cause laws texts error m there graph table h
