-- Worked cases: how paths are shown.
use Rattle.std.proofs.Common.{◌≡◌, ℕ, List, codes, None, Some, refl}
use Rattle.deny_spec.specs.Paths.{components}
use Rattle.deny_build_file.specs.Home.{home_path, lies_in, rest_below}

-- the crate's folder is `/w`, and there is no home
abbrev at_w : List ℕ → List ℕ
at_w path = home_path path (codes "/w") None

below : at_w (codes "/w/a") ≡ codes "$crate/a"
unfolding home_path rest_below lies_in components
below = refl

the_folder : at_w (codes "/w") ≡ codes "$crate/"
unfolding home_path rest_below lies_in components
the_folder = refl

the_folder_with_a_slash : at_w (codes "/w/") ≡ codes "$crate/"
unfolding home_path rest_below lies_in components
the_folder_with_a_slash = refl

two_slashes : at_w (codes "/w//a") ≡ codes "$crate/a"
unfolding home_path rest_below lies_in components
two_slashes = refl

a_longer_name : at_w (codes "/wx") ≡ codes "/wx"
unfolding home_path rest_below lies_in components
a_longer_name = refl

above_it : at_w (codes "/") ≡ codes "/"
unfolding home_path rest_below lies_in components
above_it = refl

-- a relative path does not lie in an absolute folder
not_from_the_root : at_w (codes "w/a") ≡ codes "w/a"
unfolding home_path rest_below lies_in components
not_from_the_root = refl

a_dot : at_w (codes "/w/.") ≡ codes "$crate/"
unfolding home_path rest_below lies_in components
a_dot = refl

-- `.` and empty parts before the rest are skipped, and within the rest they stay
a_dot_before_the_rest : at_w (codes "/./w/./a") ≡ codes "$crate/a"
unfolding home_path rest_below lies_in components
a_dot_before_the_rest = refl

a_dot_in_the_rest : at_w (codes "/w/a/./b//c/") ≡ codes "$crate/a/./b//c/"
unfolding home_path rest_below lies_in components
a_dot_in_the_rest = refl

-- `..` is a component like any other
up_in_the_rest : at_w (codes "/w/../a") ≡ codes "$crate/../a"
unfolding home_path rest_below lies_in components
up_in_the_rest = refl

up_to_the_folder : at_w (codes "/v/../w/a") ≡ codes "/v/../w/a"
unfolding home_path rest_below lies_in components
up_to_the_folder = refl

-- slashes and `.` in the folder are skipped, too
a_folder_with_a_slash : home_path (codes "/w/a") (codes "/./w//") None ≡ codes "$crate/a"
unfolding home_path rest_below lies_in components
a_folder_with_a_slash = refl

the_root : home_path (codes "/w/a") (codes "/") None ≡ codes "$crate/w/a"
unfolding home_path rest_below lies_in components
the_root = refl

here : home_path (codes "w/a") (codes ".") None ≡ codes "$crate/w/a"
unfolding home_path rest_below lies_in components
here = refl

in_the_home : home_path (codes "/h/r/x/a") (codes "/h/r/x") (Some (codes "/h")) ≡ codes "$CARGO_HOME/r/x/a"
unfolding home_path rest_below lies_in components
in_the_home = refl

the_home_inside : home_path (codes "/w/a") (codes "/w") (Some (codes "/w/h")) ≡ codes "$crate/a"
unfolding home_path rest_below lies_in components
the_home_inside = refl

below_the_home_inside : home_path (codes "/w/h/a") (codes "/w") (Some (codes "/w/h")) ≡ codes "$CARGO_HOME/a"
unfolding home_path rest_below lies_in components
below_the_home_inside = refl

-- an empty home contains every relative path
an_empty_home : home_path (codes "/w/a") (codes "/w") (Some (codes "")) ≡ codes "$crate/a"
unfolding home_path rest_below lies_in components
an_empty_home = refl

an_empty_home_of_other_paths : home_path (codes "w/a") (codes "w") (Some (codes "")) ≡ codes "$CARGO_HOME/w/a"
unfolding home_path rest_below lies_in components
an_empty_home_of_other_paths = refl
