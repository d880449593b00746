use Rattle.std.proofs.Common.{◌≡◌, ◌||◌, ℕ, length, nat_le}
use Rattle.std.specs.List.{list_any}
use Rattle.deny_std_table.specs.Texts.{texts_left}
use Rattle.deny_std.specs.private.Said.{said_of}
use Rattle.deny_std.specs.private.StableSince.{is_reached}
use Rattle.deny_std.proofs.StableLemmas.{any_stable}
use Rattle.deny_std.proofs.stable_since.least_minor.Given as goal

abbrev pub invariant-loop-item : goal.invariant-loop-item
invariant-loop-item l = (minor : ℕ) → list_any (λ stable. nat_le stable.minor minor) (said_of l.replacement).stable
    ≡ (is_reached l.least minor || any_stable minor (texts_left l.items))

abbrev pub decreases-loop-item : goal.decreases-loop-item
decreases-loop-item l = length l.items.items
