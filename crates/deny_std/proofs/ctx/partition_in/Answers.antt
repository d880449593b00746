use Rattle.std.proofs.Common.{◌≡◌, List, ℕ, ap, ◌∙◌, subst}
use Rattle.std.specs.List.{flat_map}
use Rattle.std.specs.Prelude.{IfOk}
use Rattle.deny_base.specs.declared.span.Span.{Span}
use Rattle.deny_cfg.specs.PackageSpecOrExtended.{PackageSpecOrExtended}
use Rattle.deny_cfg.specs.Waiver.{Waiver}
use Rattle.deny_base_lists.specs.First.{FindsFirst}
use Rattle.deny_std.specs.declared.partition.Partition.{Partition}
use Rattle.deny_std.specs.private.FirstWitnesses.{place_in, is_same_span}
use Rattle.deny_std.specs.private.Partition.{ignored_at, reported_at}
use Rattle.deny_std.proofs.ctx.partition_in.Goals as goal

pub returns-clause-reported : goal.returns-clause-reported
returns-clause-reported c =
    let g = c.args.krates.now in
    subst (λ (reported : List ℕ). IfOk c.partition_places.result (λ (partition : Partition). partition.reported
    ≡ reported))
    (ap (λ (es : List (PackageSpecOrExtended Waiver)). flat_map (reported_at es g) c.as_slice-2.result.now)
    (c.in_ok-ignored.ensures ∙ c.as_slice.ensures)
    ∙ ap (λ (places : List ℕ). flat_map (reported_at c.args.cfg.now.ignore g) places)
    (c.as_slice-2.ensures ∙ c.in_ok-replaced.ensures))
    c.partition_places.ensures.reported

pub returns-clause-witnesses : goal.returns-clause-witnesses
returns-clause-witnesses c =
    let g = c.args.krates.now in
    subst (λ (witnesses : List (Span × ℕ)). IfOk c.partition_places.result
    (λ (partition : Partition). FindsFirst is_same_span witnesses (place_in partition.witnesses)))
    (ap (λ (es : List (PackageSpecOrExtended Waiver)). flat_map (ignored_at es g) c.as_slice-2.result.now)
    (c.in_ok-ignored.ensures ∙ c.as_slice.ensures)
    ∙ ap (λ (places : List ℕ). flat_map (ignored_at c.args.cfg.now.ignore g) places)
    (c.as_slice-2.ensures ∙ c.in_ok-replaced.ensures))
    c.partition_places.ensures.witnesses
