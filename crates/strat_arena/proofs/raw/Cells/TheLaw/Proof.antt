-- A `&` to the cells reaches each byte.
use base.Fml.{Incl-refl}
use mathlib.Core.List.{[]}
use denote.RawPtr.{RawPtr}
use denote.Param.Shared.{copy_shared}
use denote.Struct.Laws.{field_copy}
use denote.Struct.Lending.{of_Lends}
use Rattle.std.specs.contracts.marker.PhantomData as marker
use Rattle.strat_arena.specs.contracts.raw.Cells as cells
use Rattle.strat_arena.proofs.raw.Cells.TheLaw.Statement.{statement}
use Rattle.strat_arena.proofs.LendLemmas.{cells_lent_laws, Lends-cells}

pub shares : statement
shares =
    of_Lends cells.struct (cells.the_codes (marker.the_row RawPtr).coded) cells.the_heap cells.the_lent (λ d p. cells_lent_laws d.at d.slots)
    (copy_shared (marker.the_field RawPtr) (field_copy (marker.the_type RawPtr) tt), tt) (λ M 𝓤 𝓛 d p. Lends-cells 𝓛 (cells.the_row).lives (Incl-refl []) d.at d.slots)
