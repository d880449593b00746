-- A walk stays a walk where the files found are put in another order.
use Rattle.std.proofs.Common.{ℕ, Bool, List, Option, None, Some, arith}
use Rattle.std.specs.Prelude.{IfSome}
use Rattle.std.specs.List.Sorted.{IsPermutation}
use Rattle.std.proofs.lemmas.List.Sorted.{Contains-permutation, IsPermutation-sym, length_permutation}
use Rattle.deny_base_disk.specs.Disk.{Disk, Files}
use Rattle.deny_base.specs.declared.span.Kid.{Kid}
use Rattle.deny_base.specs.declared.unread.Unread.{Unread}
use Rattle.deny_build_walk.specs.private.Walking.{ToldWalk, Walking}

module _ (krate : Kid) (root : List ℕ) (by_git : Bool) (pending found moved : List (List ℕ)) (count : ℕ)
    (same : IsPermutation found moved)
  where
    told_moved : (told : Option Files) (own : List Unread)
        → IfSome told (λ files. ToldWalk krate root by_git files own pending found count)
        → IfSome told (λ files. ToldWalk krate root by_git files own pending moved count)
    told_moved None own told = tt
    told_moved (Some files) own told = record {
      listed = told.listed;
      apart = told.apart;
      below = told.below;
      once = told.once;
      folders = told.folders;
      root_known = told.root_known;
      all_known = told.all_known;
      sound = λ path there.
          told.sound path (Contains-permutation moved found path (IsPermutation-sym found moved same) there);
      whole = λ path is. Contains-permutation found moved path same (told.whole path is);
      counted = told.counted;
    }

    pub walking_moved : (start : Disk) (first : List Unread) (now : Disk) (unread : List Unread)
        → Walking krate root by_git start first now unread pending found count
        → Walking krate root by_git start first now unread pending moved count
    walking_moved start first now unread walk = record {
      own = walk.own;
      longer = walk.longer;
      later = walk.later;
      lists = walk.lists;
      ordered = walk.ordered;
      above = walk.above;
      caused = walk.caused;
      rose = walk.rose;
      once = walk.once;
      few = omega (arith, length_permutation found moved same, walk.few);
      inside = walk.inside;
      below = λ path there.
          walk.below path (Contains-permutation moved found path (IsPermutation-sym found moved same) there);
      told = told_moved start.files walk.own walk.told;
    }
