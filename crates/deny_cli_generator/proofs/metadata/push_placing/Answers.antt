use Rattle.std.proofs.Common.{append_assoc, refl}
use Rattle.std.proofs.lemmas.Result.{on_ok_weaker}
use Rattle.deny_cli_generator.proofs.metadata.push_placing.Goals as goal

pub returns : goal.returns
unfolding Rattle.deny_cli_generator.specs.MetadataText.placing_text
returns c = on_ok_weaker c.push_str-4.result
    (λ last. rw last (rw c.in_ok-push_path.ensures (rw c.in_ok-push_str-3.ensures.ok
    (rw c.in_ok-push_str-2.ensures.ok (rw c.registry.ensures (rw c.in_ok-push_str.ensures.ok
    (simp append_assoc refl))))))) c.push_str-4.ensures.ok
