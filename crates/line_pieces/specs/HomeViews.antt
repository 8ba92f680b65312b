-- The homes that those of the program are.
use Rattle.std.specs.Prelude.{List, map}
use Rattle.line_pieces.specs.declared.home.Home as code_home
use Rattle.line_pieces.specs.declared.home.Home.TheVariants as homes
use Rattle.line_pieces.specs.Homes.{Home, Nowhere, Word, Block, Link, Table, Passed}

abbrev pub home_seen : code_home.Home → Home
home_seen homes.Nowhere = Nowhere
home_seen (homes.Word w) = Word w
home_seen (homes.Block w head) = Block w head
home_seen (homes.Link n) = Link n
home_seen (homes.Table values) = Table values.value.items
home_seen (homes.Passed w) = Passed w

abbrev pub homes_seen : List code_home.Home → List Home
homes_seen hs = map home_seen hs
