-- Worked cases of paths by their components.
use Rattle.std.proofs.Common.{◌≡◌, [], ◌∷◌, true, false, codes, refl}
use Rattle.std.specs.declared.cmp.Ordering.TheVariants.{Greater, Less}
use Rattle.deny_spec.specs.Paths.{components, path_cmp, same_path}

-- the names along a path; an empty part and `.` lead nowhere
names_alone : components (codes "/a//b/./c/") ≡ codes "a" ∷ codes "b" ∷ codes "c" ∷ []
unfolding components
names_alone = refl

-- `..` is a component, wherever it stands, and takes away no name before it
two_dots : components (codes "../a/../b/..") ≡ codes ".." ∷ codes "a" ∷ codes ".." ∷ codes "b" ∷ codes ".." ∷ []
unfolding components
two_dots = refl

-- a name may begin and end with dots, and have no other characters
dots_in_names : components (codes ".../.a/a.") ≡ codes "..." ∷ codes ".a" ∷ codes "a." ∷ []
unfolding components
dots_in_names = refl

no_components : (components [] ≡ []) × (components (codes "./.") ≡ [])
unfolding components
no_components = (refl, refl)

-- `.` and slashes that lead nowhere make no difference
same_without_dots : (same_path (codes "./a//b") (codes "a/b/.") ≡ true) × (same_path (codes "/a") (codes "a") ≡ true)
unfolding components same_path
same_without_dots = (refl, refl)

-- a path that leads out and back by `..` is another path, and so is one that leads above its beginning
other_by_two_dots : (same_path (codes "a/../b") (codes "b") ≡ false) × (same_path (codes "../b") (codes "b") ≡ false)
    × (same_path (codes "a/..") (codes ".") ≡ false)
unfolding components same_path
other_by_two_dots = (refl, refl, refl)

-- the components are equal byte by byte and as many
other_names : (same_path (codes "a/b") (codes "a") ≡ false) × (same_path (codes "a/b") (codes "a/B") ≡ false)
    × (same_path (codes "a/b") (codes "b/a") ≡ false)
unfolding components same_path
other_names = (refl, refl, refl)

-- a slash comes before all other bytes, so that what is below a folder stands together
in_order : (path_cmp (codes "a/b") (codes "a-b") ≡ Less) × (path_cmp (codes "a.b") (codes "a/c") ≡ Greater)
    × (path_cmp (codes "a") (codes "a/b") ≡ Less)
in_order = (refl, refl, refl)
