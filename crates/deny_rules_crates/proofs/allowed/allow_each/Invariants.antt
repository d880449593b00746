use Rattle.std.proofs.Common.{◌≡◌, ◌++◌, drop, map, take}
use Rattle.std.specs.List.{flat_map}
use Rattle.deny_cfg.specs.PolicyView.{allow_view}
use Rattle.deny_spec.specs.Bans.{allowed_keys_of}
use Rattle.deny_rules_crates.specs.private.Allowed.{allows}
use Rattle.deny_rules_crates.proofs.allowed.allow_each.Given as goal

abbrev pub invariant-loop-entry : goal.invariant-loop-entry
invariant-loop-entry l = record {
  reported : l.keys ++ flat_map (allowed_keys_of l.krates)
      (map allow_view (drop l.entry-index l.entries)) ≡ l.fn.keys ++ flat_map (allowed_keys_of l.krates)
      (map allow_view l.entries);
  marks : l.marks ≡ map (allows (map allow_view (take l.entry-index l.entries))) l.krates.crates;
}
