use Rattle.std.proofs.Common.{arith, sym, ◌∙◌}
use Rattle.deny_cfg_entries.proofs.SpecLaws.{verbatim_length}
use Rattle.deny_cfg_entries.proofs.spec.name_span.Goals as goal

pub prefix_span-requires : goal.prefix_span-requires
prefix_span-requires c =
    omega (
      arith,
      verbatim_length c.args.value.now c.args.text.now c.requires.string
          (sym c.is_verbatim.ensures ∙ c.if-is_verbatim.true),
    )
