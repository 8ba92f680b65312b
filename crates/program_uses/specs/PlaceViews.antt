-- The places that the program finds.
use Rattle.std.specs.Prelude.{Option, option_map}
use Rattle.occam_parser.specs.Views.{expression_of}
use Rattle.occam_parser.specs.Lines.{Place}
use Rattle.program_uses.specs.declared.places.PlaceRef.{PlaceRef}

abbrev pub place_at : PlaceRef → Place
place_at p = record { name = p.name.now; subscript = option_map (λ e. expression_of e.now) p.subscript }

abbrev pub any_place : Option PlaceRef → Option Place
any_place p = option_map place_at p
