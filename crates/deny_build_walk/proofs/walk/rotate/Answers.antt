use Rattle.std.proofs.lemmas.List.Sorted.{IsPermutation-put_mid}
use Rattle.deny_build_walk.proofs.walk.rotate.Goals as goal

pub returns : goal.returns
returns c =
    IsPermutation-put_mid c.args.index _ c.args.files.now c.rotate_left.new.self c.rotate_left.ensures.permutation
