use Rattle.std.proofs.Common.{◌≡◌, ◌++◌, ◌∷◌, ◌∙◌, ◌+◌, [], List, ap, append_assoc, map, rules, subst, sym, take}
use Rattle.deny_base.specs.declared.finding.Pack.{Pack}
use Rattle.deny_base.specs.declared.key.Key.{Key}
use Rattle.deny_base_lists.proofs.Indices.{map-take_next}
use Rattle.deny_spec_report.specs.Diags.{key_pack}
use Rattle.deny_diags.specs.Reporting.{CanHold}
use Rattle.deny_diags.specs.private.DiagWriter.{circumstances_from}
use Rattle.deny_diags.proofs.diag.add_packs.Goals as goal

pub add_pack-requires-clause-holds : goal.add_pack-requires-clause-holds
add_pack-requires-clause-holds c =
    subst (CanHold (circumstances_from c.args.writer.now)) (sym c.key-item.is)
    (c.requires.hold c.loop-key.key-index c.key-item.result c.loop-key-test.true)

pub loop-key-preserved : goal.loop-key-preserved
loop-key-preserved c = record {
  appended = c.in_ok-add_pack.ensures.ok
      ∙ ap (λ packs. packs ++ pack c.key-item.result ∷ []) c.loop-key.invariant.appended
      ∙ append_assoc c.args.sink.now packs-before (pack c.key-item.result ∷ [])
      ∙ ap (λ packs. c.args.sink.now ++ packs) (sym one-more);
  at_hand = search rules;
}
  where
    pack : Key → Pack
    pack = key_pack (circumstances_from c.args.writer.now)

    packs-before : List Pack
    packs-before = map pack (take c.loop-key.key-index c.args.keys.now)

    one-more : map pack (take (c.loop-key.key-index + 1) c.args.keys.now)
        ≡ packs-before ++ pack c.key-item.result ∷ []
    one-more =
        map-take_next pack c.args.keys.now c.loop-key.key-index c.key-item.result c.loop-key-test.true c.key-item.is
