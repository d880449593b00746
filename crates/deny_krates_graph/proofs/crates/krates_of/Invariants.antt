use Rattle.std.proofs.Common.{take}
use Rattle.std.specs.List.{AllZip}
use Rattle.deny_krates_graph.specs.private.Graph.{IsKrateOf}
use Rattle.deny_krates_graph.proofs.TakenLemmas.{AreLeft}
use Rattle.deny_krates_graph.proofs.crates.krates_of.Given as goal

abbrev pub invariant-loop-each : goal.invariant-loop-each
invariant-loop-each l = record {
  made : AllZip (IsKrateOf l.fn.packages l.nodes) (take l.each-index l.kept) l.krates;
  packages : AreLeft l.fn.packages l.kept l.each-index l.packages;
  versions : AreLeft l.fn.texts.versions l.kept l.each-index l.texts.versions;
  requirements : AreLeft l.fn.texts.requirements l.kept l.each-index l.texts.requirements;
  sources : AreLeft l.fn.texts.sources l.kept l.each-index l.texts.sources;
}
