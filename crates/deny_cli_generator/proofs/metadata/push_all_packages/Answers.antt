use Rattle.std.proofs.Common.{append_assoc, refl}
use Rattle.std.proofs.lemmas.Result.{on_ok_weaker}
use Rattle.deny_cli_generator.proofs.metadata.push_all_packages.Goals as goal

pub returns : goal.returns
unfolding Rattle.deny_cli_generator.specs.MetadataText.packages_text
returns c = on_ok_weaker c.push_packages.result
    (λ last. rw last (rw c.in_ok-push_str-3.ensures.ok (rw c.in_ok-push_declarations.ensures
    (rw c.in_ok-push_str-2.ensures.ok (rw c.in_ok-push_str.ensures.ok (rw c.member_text.ensures
    (simp append_assoc refl))))))) c.push_packages.ensures
