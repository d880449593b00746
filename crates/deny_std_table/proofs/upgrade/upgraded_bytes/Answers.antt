use Rattle.std.proofs.Common.{◌≡◌, ◌∙◌, ◌<◌, ◌≤◌, ap, arith, subst, length, Err, refl}
use Rattle.std.specs.Prelude.{◌↔◌, IfOk, slice_index, ℕ}
use Rattle.std.proofs.lemmas.Bool.Decides.{nat_tests}
use Rattle.deny_std_table.specs.declared.error.UpgradeError.TheVariants.{Long}
use Rattle.deny_std_table.specs.Width.{width_of}
use Rattle.deny_std_table.specs.Spelling.{entry_text, entry_bytes}
use Rattle.deny_std_table.specs.private.Draft.{Writes}
use Rattle.deny_std_table.proofs.FitsLemmas.{if_ok-both, says-the-same}
use Rattle.deny_std_table.proofs.UpgradeLemmas.{copied-start, copied-more, copied-long, copied-all, read_texts}
use Rattle.deny_std_table.proofs.UpgradeLemmas.{texts-size, EntryRead, entry-read}
use Rattle.deny_std_table.proofs.upgrade.upgraded_bytes.Goals as goal
use Rattle.deny_std_table.proofs.upgrade.upgraded_bytes.Goals.{After-copy_entry}

pub loop-i-init : goal.loop-i-init
loop-i-init c = copied-start (read_texts (width_of c.args.width) c.args.bytes.now c.args.count) c.args.count _ _ _
    (texts-size (width_of c.args.width) c.args.bytes.now c.args.count c.requires) c.new-head.ensures c.put_head.ensures
    c.new-body.ensures

pub returns-then-is_long-clause-long : goal.returns-then-is_long-clause-long
returns-then-is_long-clause-long c =
    let many : 268435456 ≤ c.loop-i.body.size = grind (arith, nat_tests) in
    let long = copied-long (read_texts (width_of c.args.width) c.args.bytes.now c.args.count) c.loop-i.i c.loop-i.head
    c.loop-i.body c.loop-i.invariant many in
    (λ is. long, λ is. refl)

-- the entry that was copied
one : (c : After-copy_entry) → EntryRead (width_of c.args.width) c.args.bytes.now c.args.count c.loop-i.i
    (width_of c.region_of-region.result.width) c.region_of-region.result.bytes.now c.region_of-region.result.stop
    c.start_of.result
one c = entry-read (width_of c.args.width) _ c.args.bytes.now _ c.args.count c.loop-i.i _ _ c.requires (omega arith)
    (ap width_of c.region_of-region.ensures.width) c.region_of-region.ensures.bytes c.region_of-region.ensures.stop
    c.start_of.ensures

pub unwrap-requires : goal.unwrap-requires
unwrap-requires c =
    let e = one (goal.at.unwrap-requires c).After-copy_entry in (c.copy_entry.ensures e.e e.reads).0

pub loop-i-preserved : goal.loop-i-preserved
loop-i-preserved c =
    let e = one (goal.at.loop-i-preserved c).After-copy_entry in
    let short : c.loop-i.body.size < 268435456 = grind (arith, nat_tests) in
    let written = subst
    (λ bytes. Writes c.loop-i.body c.copy_entry.new.draft (entry_bytes (entry_text bytes e.e)))
    c.region_of-region.ensures.bytes (c.copy_entry.ensures e.e e.reads).1 in
    copied-more (read_texts (width_of c.args.width) c.args.bytes.now c.args.count) c.args.count c.loop-i.i
    (entry_text c.args.bytes.now e.e) _ _ _ _
    (texts-size (width_of c.args.width) c.args.bytes.now c.args.count c.requires) e.says short c.put_four.ensures
    written c.loop-i.invariant

pub returns-clause-bytes : goal.returns-clause-bytes
returns-clause-bytes c =
    let size = texts-size (width_of c.args.width) c.args.bytes.now c.args.count c.requires in
    let all = copied-all (read_texts (width_of c.args.width) c.args.bytes.now c.args.count) c.loop-i.i c.loop-i.head
    c.loop-i.body (omega arith) c.loop-i.invariant in
    subst (λ zs. IfOk c.joined.result (λ w. w.items ≡ zs)) all.whole (c.joined.ensures.bytes all.xs all.ys all.head
    all.body)

pub returns-clause-long : goal.returns-clause-long
returns-clause-long c =
    let size = texts-size (width_of c.args.width) c.args.bytes.now c.args.count c.requires in
    let all = copied-all (read_texts (width_of c.args.width) c.args.bytes.now c.args.count) c.loop-i.i c.loop-i.head
    c.loop-i.body (omega arith) c.loop-i.invariant in
    subst (λ zs. (c.joined.result ≡ Err Long) ↔ (268435456 ≤ length zs)) all.whole
    (c.joined.ensures.long all.xs all.ys all.head all.body)

pub returns-clause-same_items : goal.returns-clause-same_items
returns-clause-same_items c =
    let size = texts-size (width_of c.args.width) c.args.bytes.now c.args.count c.requires in
    let all = copied-all (read_texts (width_of c.args.width) c.args.bytes.now c.args.count) c.loop-i.i c.loop-i.head
    c.loop-i.body (omega arith) c.loop-i.invariant in
    let small : (k : ℕ) → slice_index c.args.bytes.now k < 256 = λ k. let fits = c.type_inv.bytes k in omega arith in
    if_ok-both c.joined.result _ _ _ (c.joined.ensures.bytes all.xs all.ys all.head all.body)
    (c.joined.ensures.short all.xs all.ys all.head all.body)
    (λ w is short. says-the-same (width_of c.args.width) c.args.bytes.now c.args.count small c.requires
    w.items (is ∙ all.whole) (omega arith))
