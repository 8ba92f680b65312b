-- A place in memory, as the place that it is.
use Rattle.rulings.specs.declared.place.Place.{Place}
use Rattle.rulings.specs.Rulings.{Site}

abbrev pub site_of : Place → Site
site_of place = record { contents = place.module.now; at = place.at; length = place.len }
