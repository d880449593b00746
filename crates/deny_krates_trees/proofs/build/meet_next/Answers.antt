use Rattle.std.proofs.Common.{◌≡◌, ◌∙◌, ◌+◌, ◌<◌, ◌++◌, ◌∷◌, [], List, None, OnOk, Result, Ok, Err, Bool, true, false}
use Rattle.std.proofs.Common.{not, get_or, length, ap, sym, refl, subst}
use Rattle.std.specs.BTreeSet.{contains}
use Rattle.std.specs.Bool.{OnFalse}
use Rattle.std.specs.Ordering.{nat_cmp}
use Rattle.std.specs.Prelude.{if◌then◌else◌}
use Rattle.std.proofs.lemmas.Option.{same_Some, slice_get-get_or}
use Rattle.deny_krates.specs.Nodes.{incoming_at}
use Rattle.deny_krates.specs.declared.nodes.InEdge.{InEdge}
use Rattle.deny_krates_trees.specs.Tree.{inner_of, node_with}
use Rattle.deny_krates_trees.specs.declared.build.Open.{Open}
use Rattle.deny_krates_trees.specs.private.Growing.{Advances, IsOpened}
use Rattle.deny_krates_trees.proofs.AdvanceLemmas.{HasMore, IsNext, advance-open, advance-repeat}
use Rattle.deny_krates_trees.proofs.build.meet_next.Goals as goal

-- the edge that is read is the next one
is_next : (top : Open) (read : List InEdge) (d : InEdge) → read ≡ top.parents → top.next < length top.parents
    → IsNext top (get_or read top.next d)
is_next top read d same within = record {
  within = within;
  is = ap (λ (es : List InEdge). get_or es top.next d) same ∙ same_Some (get_or top.parents top.next d)
      (get_or top.parents top.next (get_or read top.next d))
      (sym (slice_get-get_or top.parents top.next d within)
      ∙ slice_get-get_or top.parents top.next (get_or read top.next d) within);
}

unset : (b was : Bool) → b ≡ true → b ≡ not was → was ≡ false
unset b true set is = cc
unset b false set is = refl

was_set : (b was : Bool) → b ≡ false → b ≡ not was → was ≡ true
was_set b true unset is = refl
was_set b false unset is = cc

if_ok : {T E : Type 0} (P Q : Type 0) (r : Result T E) → OnOk r P → (P → Q) → OnOk r Q
if_ok P Q (Ok x) is more = more is
if_ok P Q (Err e) is more = tt

on_false : {P : Type 0} (b : Bool) → b ≡ false → OnFalse b P → P
on_false true unset is = cc
on_false false unset is = is

-- the result of a read past the end
none_read : InEdge
none_read = record { node = record { 0 = 0 }; kind = None }

pub returns-in_ok-push : goal.returns-in_ok-push
unfolding none_read
returns-in_ok-push c =
    let top = c.args.top in
    let nodes = c.args.growth.now.nodes in
    let numbers = c.args.growth.now.met.keys in
    let above = c.in_ok-above.above in
    let edge = get_or c.as_slice.result.now top.next none_read in
    let after : Open = record top { next = top.next + 1 } in
    let depth : c.len-depth.result ≡ length nodes.items = c.len-depth.ensures ∙ nodes.ok.0 in
    let opened = subst (λ n. IsOpened c.args.krates.now c.args.most (n + 1) edge above) depth c.in_ok-above.ensures in
    let has : HasMore numbers c.insert.new.self.keys edge.node.0 = record {
      new = unset c.in-Ok.is_new (contains nat_cmp c.args.growth.now.met edge.node.0) c.if-is_new.true
          c.in-Ok.ensures.added;
      updates = c.in-Ok.ensures.updates.0;
      are = c.in-Ok.ensures.keys;
      long = c.in-Ok.ensures.len ∙ ap (λ b. length numbers + (if b then 1 else 0)) c.if-is_new.true;
      ascend = c.in-Ok.ensures.ordered;
    } in
    rw (c.in_ok-push.ensures.items, c.push_reserved-then-is_new.ensures.items)
    (advance-open c.args.krates.now c.args.most numbers c.insert.new.self.keys nodes.items top after above edge
    c.requires.own c.requires.nodes (is_next top c.as_slice.result.now none_read c.as_slice.ensures c.requires.more) has
    refl refl refl refl opened)

pub returns-else-is_new : goal.returns-else-is_new
unfolding none_read
returns-else-is_new c =
    let top = c.args.top in
    let nodes = c.args.growth.now.nodes.items in
    let numbers = c.args.growth.now.met.keys in
    let edge = get_or c.as_slice.result.now top.next none_read in
    let after : Open = record top { next = top.next + 1; grown = c.add_repeat-repeat.new.grown } in
    let met = was_set c.in-Ok.is_new (contains nat_cmp c.args.growth.now.met edge.node.0) c.if-is_new.false
    c.in-Ok.ensures.added in
    let same = on_false c.in-Ok.is_new c.if-is_new.false c.in-Ok.ensures.unchanged in
    rw (c.push_reserved-else-is_new.ensures.items, same)
    (if_ok (c.add_repeat-repeat.new.grown ≡ top.grown ++ node_with (inner_of c.args.krates.now
    (incoming_at c.args.krates.now edge)) true [] ∷ [])
    (Advances c.args.krates.now c.args.most numbers (nodes ++ top ∷ []) numbers (nodes ++ after ∷ []))
    c.add_repeat-repeat.result c.add_repeat-repeat.ensures
    (λ more. advance-repeat c.args.krates.now c.args.most numbers nodes top after edge c.requires.nodes
    (is_next top c.as_slice.result.now none_read c.as_slice.ensures c.requires.more) met refl refl refl more))
