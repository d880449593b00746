-- Paths of files, relative to the folder of their package.
use Rattle.std.specs.Prelude.{ℕ, List}
use Rattle.std.specs.Option.{option_map_or}
use Rattle.deny_base_disk.specs.Children.{prefix_of, text_behind}

-- the text after the folder and its slash; all of a path that does not begin with these
unfoldable pub below : List ℕ → List ℕ → List ℕ
below folder path = option_map_or (λ rest. rest) (text_behind (prefix_of folder) path) path
