use Rattle.std.proofs.Common.{◌≡◌, ◌<◌, ◌||◌, ℕ, List, Bool, length, false, replicate, sym, ap, ◌∙◌, subst, rules}
use Rattle.std.proofs.Common.{arith}
use Rattle.std.specs.Prelude.{All, slice_index_or}
use Rattle.std.proofs.lemmas.List.{get_or-replicate, length-replicate}
use Rattle.deny_krates.proofs.CratesLemmas.{length-crates_from}
use Rattle.deny_std.specs.private.Members.{is_among}
use Rattle.deny_std.proofs.members.member_marks.Goals as goal

pub mark_each-requires : goal.mark_each-requires
mark_each-requires c =
    let g = c.args.krates.now in
    let size = length c.krates.result.now in
    let long : length c.from_vec-marks.result ≡ length g.crates =
    ap length (c.from_vec-marks.ensures ∙ c.in_ok-vec.ensures.items_if_clones_equal (λ y is. search rules))
    ∙ (length-replicate size false
    ∙ (sym (length-crates_from 0 c.krates.result.now) ∙ ap length c.krates.ensures.crates)) in
    subst (λ (n : ℕ). All (λ (place : ℕ). place < n) c.workspace_members.result.now) (sym long)
    (subst (λ (places : List ℕ). All (λ (place : ℕ). place < length g.crates) places)
    (sym c.workspace_members.ensures.members) c.krates.ensures.orderly.members)

pub returns : goal.returns
returns c =
    let g = c.args.krates.now in
    let size = length c.krates.result.now in
    let unset : c.from_vec-marks.result ≡ replicate size false =
    c.from_vec-marks.ensures ∙ c.in_ok-vec.ensures.items_if_clones_equal (λ y is. search rules) in
    let same : size ≡ length g.crates =
    sym (length-crates_from 0 c.krates.result.now) ∙ ap length c.krates.ensures.crates in
    let long : length c.from_vec-marks.result ≡ length g.crates =
    ap length unset ∙ (length-replicate size false ∙ same) in
    record {
      long = c.mark_each.ensures.long ∙ long;
      each = λ place inside.
          c.mark_each.ensures.each place (omega (arith, inside, long))
          ∙ (ap (λ (marks : List Bool). slice_index_or marks place false
          || is_among c.workspace_members.result.now place)
          unset
          ∙ (ap (λ b. b || is_among c.workspace_members.result.now place)
          (get_or-replicate size place false false (omega (arith, inside, same)))
          ∙ ap (λ (places : List ℕ). is_among places place) c.workspace_members.ensures.members));
    }
