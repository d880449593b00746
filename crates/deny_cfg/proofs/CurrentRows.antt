-- Worked rows of days: an entry that expires on 2026-01-31 counts on that day, and not on the next.
use Rattle.std.proofs.Common.{◌≡◌, ℤ, pos, true, false, Some, None, codes, refl}
use Rattle.deny_base.specs.declared.span.Spanned.{Spanned}
use Rattle.deny_cfg_entries.specs.declared.day.Day.{Day}
use Rattle.deny_cfg_entries.specs.declared.expiry.Expiry.{Expiry}
use Rattle.deny_cfg.specs.Current.{counts}
use Rattle.deny_spec.specs.Keys.{no_span}

day : ℤ → Day
day number = record { 0 = number }

last_day : Spanned Expiry
last_day = record {
  value = record { day = day (pos 20484); written = codes "2026-01-31" };
  span = no_span;
}

counts_on_it : counts (Some (day (pos 20484))) (Some last_day) ≡ true
unfolding day last_day
counts_on_it = refl

not_on_the_next : counts (Some (day (pos 20485))) (Some last_day) ≡ false
unfolding day last_day
not_on_the_next = refl

without_a_last_day : counts (Some (day (pos 20485))) None ≡ true
without_a_last_day = refl
