-- Worked cases of the folders that entries name.
use Rattle.std.proofs.Common.{◌≡◌, [], ◌∷◌, codes, refl}
use Rattle.std.specs.Path.{path_components, path_names}
use Rattle.deny_spans_workspace.specs.Paths.{above, folder_named, further, joined, resolved}

below_the_root : joined (codes "/w") (codes "a") ≡ codes "/w/a"
unfolding joined
below_the_root = refl

behind_a_slash : joined (codes "/") (codes "a") ≡ codes "/a"
unfolding joined
behind_a_slash = refl

from_the_root_of_all : joined (codes "/w") (codes "/a") ≡ codes "/a"
unfolding joined
from_the_root_of_all = refl

-- an empty root still gets a `/` behind it
behind_nothing : joined [] (codes "a") ≡ codes "/a"
unfolding joined
behind_nothing = refl

-- slashes and dots that lead nowhere do not matter
plain_folder : folder_named (codes "/w") (codes "./a//b/.") ≡ codes "/" ∷ codes "w" ∷ codes "a" ∷ codes "b" ∷ []
unfolding joined resolved further above path_components path_names
plain_folder = refl

beside_the_root : folder_named (codes "/w/ws") (codes "../a") ≡ codes "/" ∷ codes "w" ∷ codes "a" ∷ []
unfolding joined resolved further above path_components path_names
beside_the_root = refl

the_root_itself : folder_named (codes "/w") [] ≡ codes "/" ∷ codes "w" ∷ []
unfolding joined resolved further above path_components path_names
the_root_itself = refl

-- `..` at the root stays at the root
above_the_root : folder_named (codes "/w") (codes "../../../a") ≡ codes "/" ∷ codes "a" ∷ []
unfolding joined resolved further above path_components path_names
above_the_root = refl

-- each `..` that leads out of a relative root stays
above_a_relative_root : folder_named (codes "w") (codes "../../../a") ≡ codes ".." ∷ codes ".." ∷ codes "a" ∷ []
unfolding joined resolved further above path_components path_names
above_a_relative_root = refl

-- three dots are a name
three_dots : folder_named (codes "/w") (codes ".../a") ≡ codes "/" ∷ codes "w" ∷ codes "..." ∷ codes "a" ∷ []
unfolding joined resolved further above path_components path_names
three_dots = refl
