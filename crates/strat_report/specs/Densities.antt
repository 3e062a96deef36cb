-- Densities, as they are compared and printed.
use Rattle.std.specs.Prelude.{List, Option, option_map}
use Rattle.strat_base.specs.declared.descriptors.ArrayDesc.{ArrayDesc}
use Rattle.def_texts.specs.Texts.{sparsest}
use Rattle.strat_report.specs.declared.density.Density.{Density}

-- the density of an array, as its descriptor says
abbrev pub density_of : ArrayDesc → Density
density_of a = record { least = a.least; entries = a.entries }

-- the least density of some arrays, if there are any
abbrev pub least_density : List ArrayDesc → Option Density
least_density arrays = option_map density_of (sparsest arrays)
