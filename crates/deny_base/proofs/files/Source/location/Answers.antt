use Rattle.std.proofs.Common.{List, ℕ, take, refl, ap, ◌∙◌}
use Rattle.deny_base.specs.Files.{location_of}
use Rattle.deny_base.specs.private.Marks.{location_after}
use Rattle.deny_base.proofs.LocationLemmas.{located}
use Rattle.deny_base.proofs.files.Source.location.Goals as goal

pub returns : goal.returns
returns c =
    let text : List ℕ = c.as_str-text.result.now in
    let is = c.advance.ensures ∙ ap (λ (t : List ℕ). location_after (take c.args.offset t)) c.as_bytes.ensures.value in
    located text c.args.offset c.advance.result c.as_str-text.utf8 (c.if-not-is_char_boundary.ensures.test.0 refl) is
    ∙ ap (λ (t : List ℕ). location_of t c.args.offset) (c.as_str-text.ensures ∙ c.self.view_is)
