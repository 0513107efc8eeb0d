-- What a `Spot` shows.
use Rattle.hack_hunt.specs.Hunts.{Spot}
use Rattle.hack_hunt.specs.declared.spots.Spot.{Spot as Declared}

abbrev pub spot_view : Declared → Spot
spot_view s = record { id = s.id.index; slot = s.slot; member = s.member }
