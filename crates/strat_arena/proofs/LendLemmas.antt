-- A `&` to the cells of a block is made where one to each byte is.
use Prim.Native.Nat.{ℕ, ◌+◌}
use mathlib.Core.Path.{refl}
use Rattle.std.specs.Prelude.{List, [], ◌∷◌, Option, Some, None}
use seplogic.Ra.Ura.{Ura}
use base.Fml.{Lft, Incl, ftrue, ffalse}
use types.Logic.{Logic}
use denote.Builtin.{u8}
use denote.Param.Laws.{Laws, of_field}
use denote.Param.Shared.{copy_shared}
use denote.RawPtr.{Ptr, block_ptr, null_ptr}
use denote.Sharing.{ShrLaws, said}
use denote.SharingLaws.{beside_shr_laws, nothing_shr_laws, said_shr_laws}
use denote.Shares.{Shares-less}
use denote.Struct.Laws.{u8-laws, u8-copy}
use denote.Struct.Lending.{Lends, Lends-both, Lends-nothing, Lends-said, Lends-false}
use Rattle.strat_arena.specs.Ownership.{cell_own, row_own, cell_lent, row_lent, few, cells_own, cells_lent}
use denote.Struct.Field.{u8-field}

-- what holds of a byte in memory
abbrev byte_laws : Laws u8
byte_laws = of_field u8-field u8-laws refl (copy_shared u8-field u8-copy)

cell_lent_laws : (b o : ℕ) (c : Option ℕ) → ShrLaws (cell_lent b o c)
cell_lent_laws b o (Some x) = byte_laws.shr_laws x b o
cell_lent_laws b o None = nothing_shr_laws

row_lent_laws : (b o : ℕ) (cs : List (Option ℕ)) → ShrLaws (row_lent b o cs)
row_lent_laws b o [] = nothing_shr_laws
row_lent_laws b o (c ∷ cs) = beside_shr_laws (cell_lent b o c) (row_lent b (o + 1) cs) (cell_lent_laws b o c) (row_lent_laws b (o + 1) cs)

pub cells_lent_laws : (p : Ptr) (cs : List (Option ℕ)) → ShrLaws (cells_lent p cs)
cells_lent_laws (block_ptr b o) cs = beside_shr_laws (said (few cs)) (row_lent b o cs) (said_shr_laws (few cs) tt) (row_lent_laws b o cs)
cells_lent_laws null_ptr cs = said_shr_laws ffalse tt

module _ {M : Type 1} {𝓤 : Ura M} (𝓛 : Logic 𝓤) (l : Lft) (inc : Incl l u8.lives) where
  Lends-cell : (b o : ℕ) (c : Option ℕ) → Lends 𝓛 (cell_own b o c) (cell_lent b o c) l
  Lends-cell b o (Some x) = λ κ ts. Shares-less 𝓛 u8 u8.lives l inc (byte_laws.shares 𝓛) x κ ts b o
  Lends-cell b o None = Lends-nothing 𝓛 (cell_own b o None) l

  Lends-row : (b o : ℕ) (cs : List (Option ℕ)) → Lends 𝓛 (row_own b o cs) (row_lent b o cs) l
  Lends-row b o [] = Lends-nothing 𝓛 ftrue l
  Lends-row b o (c ∷ cs) = Lends-both 𝓛 (cell_own b o c) (row_own b (o + 1) cs) (cell_lent b o c) (row_lent b (o + 1) cs) l (Lends-cell b o c) (Lends-row b (o + 1) cs)

  pub Lends-cells : (p : Ptr) (cs : List (Option ℕ)) → Lends 𝓛 (cells_own p cs) (cells_lent p cs) l
  Lends-cells (block_ptr b o) cs = Lends-both 𝓛 (few cs) (row_own b o cs) (said (few cs)) (row_lent b o cs) l (Lends-said 𝓛 (few cs) tt l) (Lends-row b o cs)
  Lends-cells null_ptr cs = Lends-false 𝓛 (said ffalse) l
