use Rattle.std.proofs.Common.{◌≡◌, ◌∙◌, ◌-◌, ◌<◌, ◌∷◌, Some, None, ap, arith, length, refl, rules, sym}
use Rattle.json.specs.Json as json
use Rattle.json.specs.Json.{after_end_array, parse_map, read_key, value}
use Rattle.json.specs.Reads.{token_of}
use Rattle.json.specs.Token.{Token}
use Rattle.json.specs.Value.{value_view}
use Rattle.json.specs.declared.value.Value.{String, Number, Bool, Null, the_lemmas}
use Rattle.json.proofs.Grammar.{read_key-shorter, value-begin_array, value-begin_object, value_is}
use Rattle.json.proofs.Trees.{view-Array, view-Object}
use Rattle.deny_krates_metadata.proofs.PrunedLemmas.{items_read, members_read, next_item, next_member}
use Rattle.deny_krates_metadata.proofs.pruned.+pruned.Goals as goal

pub read-returns-in-String-clause-value : goal.read-returns-in-String-clause-value
read-returns-in-String-clause-value t c =
    let first : c.args.reader.now ≡ token_of c.in_ok-token.token ∷ c.next.new.self = grind arith in
    let is : c.args.reader.now ≡ Token.string c.in-String.text.now ∷ c.next.new.self = grind (arith, first) in
    let seen : value_view (String c.in-String.text) ≡ json.string c.in-String.text.now = search (rules, the_lemmas) in
    (json.string c.in-String.text.now, ap (value c.args.depth) is ∙ value_is c.args.depth _, refl, seen)

pub read-returns-then-is_whole_number-clause-value : goal.read-returns-then-is_whole_number-clause-value
read-returns-then-is_whole_number-clause-value t c =
    let first : c.args.reader.now ≡ token_of c.in_ok-token.token ∷ c.next.new.self = grind arith in
    let is : c.args.reader.now ≡ Token.number c.in-Number.text.now ∷ c.next.new.self = grind (arith, first) in
    let seen : value_view (Number c.in-Number.text) ≡ json.number c.in-Number.text.now = search (rules, the_lemmas) in (
      json.number c.in-Number.text.now,
      ap (value c.args.depth) is ∙ value_is c.args.depth _,
      sym c.is_whole_number.ensures ∙ c.if-is_whole_number.true,
      seen,
    )

pub read-returns-in-Bool-clause-value : goal.read-returns-in-Bool-clause-value
read-returns-in-Bool-clause-value t c =
    let first : c.args.reader.now ≡ token_of c.in_ok-token.token ∷ c.next.new.self = grind arith in
    let is : c.args.reader.now ≡ Token.boolean c.in-Bool.flag ∷ c.next.new.self = grind (arith, first) in
    let seen : value_view (Bool c.in-Bool.flag) ≡ json.boolean c.in-Bool.flag = search (rules, the_lemmas) in
    (json.boolean c.in-Bool.flag, ap (value c.args.depth) is ∙ value_is c.args.depth _, refl, seen)

pub read-returns-in-Null-clause-value : goal.read-returns-in-Null-clause-value
read-returns-in-Null-clause-value t c =
    let first : c.args.reader.now ≡ token_of c.in_ok-token.token ∷ c.next.new.self = grind arith in
    let is : c.args.reader.now ≡ Token.null ∷ c.next.new.self = grind (arith, first) in
    let seen : value_view Null ≡ json.null = search (rules, the_lemmas) in
    (json.null, ap (value c.args.depth) is ∙ value_is c.args.depth _, refl, seen)

pub read-returns-in_ok-read_items-in-BeginArray-clause-value :
    goal.read-returns-in_ok-read_items-in-BeginArray-clause-value
read-returns-in_ok-read_items-in-BeginArray-clause-value t c =
    let first : c.args.reader.now ≡ token_of c.in_ok-token.token ∷ c.next.new.self = grind arith in
    let opened =
    ap (value c.args.depth) (first ∙ ap (λ k. token_of k ∷ c.next.new.self) c.in-BeginArray.is)
    ∙ value-begin_array c.args.depth c.next.new.self (omega arith) in
    let found = c.in_ok-read_items-in-BeginArray in
    let read = found.ensures.value in (
      json.array read.0,
      opened ∙ ap (parse_map json.array) read.1,
      read.2,
      view-Array found.field-0 ∙ ap json.array read.3,
    )

pub read-returns-in_ok-read_members-in-BeginObject-clause-value :
    goal.read-returns-in_ok-read_members-in-BeginObject-clause-value
read-returns-in_ok-read_members-in-BeginObject-clause-value t c =
    let first : c.args.reader.now ≡ token_of c.in_ok-token.token ∷ c.next.new.self = grind arith in
    let opened =
    ap (value c.args.depth) (first ∙ ap (λ k. token_of k ∷ c.next.new.self) c.in-BeginObject.is)
    ∙ value-begin_object c.args.depth c.next.new.self (omega arith) in
    let found = c.in_ok-read_members-in-BeginObject in
    let read = found.ensures.value in (
      json.object read.0,
      opened ∙ ap (parse_map json.object) read.1,
      read.2,
      view-Object found.field-0 ∙ ap json.object read.3,
    )

pub read_items-loop-alloc-preserved : goal.read_items-loop-alloc-preserved
read_items-loop-alloc-preserved t c =
    let l = c.loop-alloc in
    let n = l.invariant.0 in
    let going : (after_end_array l.reader ≡ None) × (c.take_end_array.new.self ≡ l.reader) = grind arith in
    let done = c.in_ok-item.ensures in
    let r = c.read.new.reader in
    let less : length r < length l.reader = rw (← going.1) done.shorter in (
      n - 1,
      omega (arith, l.invariant.1),
      omega (arith, l.invariant.2),
      next_item c.args.selection c.args.depth n c.args.reader.now l.reader r c.in_ok-item.item l.found.items
          c.push_unless.new.found.items (omega (arith, l.invariant.1)) going.0 (rw (← going.1) done.value)
          (grind arith) l.invariant.3,
    )

pub read_items-returns-clause-value : goal.read_items-returns-clause-value
read_items-returns-clause-value t c =
    let l = c.loop-alloc in
    items_read c.args.selection c.args.depth l.invariant.0 c.args.reader.now l.reader c.take_end_array.new.self
    l.found.items l.invariant.1 (grind arith) l.invariant.3

pub read_members-loop-found-preserved : goal.read_members-loop-found-preserved
read_members-loop-found-preserved t c =
    let l = c.loop-found in
    let n = l.invariant.0 in
    let k = c.in-Some.key.now in
    let s = c.next_key.new.self in
    let key : read_key l.reader ≡ Some (Some k, s) = grind arith in
    let done = c.in_ok-member.ensures in
    let r = c.read.new.reader in
    let less = read_key-shorter l.reader (Some k) s key in
    let lesser = done.shorter in (
      n - 1,
      omega (arith, l.invariant.1),
      omega (arith, l.invariant.2),
      next_member c.args.selection c.args.depth n c.args.reader.now l.reader s r c.in-Some.key c.in_ok-member.member
          l.found.items c.push_unless.new.found.items (omega (arith, l.invariant.1)) key (grind (arith, done.value))
          (grind arith) l.invariant.3,
    )

pub read_members-returns-clause-value : goal.read_members-returns-clause-value
read_members-returns-clause-value t c =
    let l = c.loop-found in
    members_read c.args.selection c.args.depth l.invariant.0 c.args.reader.now l.reader c.next_key.new.self
    l.found.items l.invariant.1 (grind arith) l.invariant.3
