use Rattle.std.proofs.Common.{◌≡◌, ◌^◌, ◌<◌, take}
use Rattle.deny_toml_tree.specs.Tree.{depth}
use Rattle.deny_toml_tree.proofs.lines.depth.Given as goal

abbrev pub invariant-loop-line : goal.invariant-loop-line
invariant-loop-line l = record {
  most : l.most ≡ depth (take l.line-index l.lines);
  small : l.most < 2 ^ 65;
}
