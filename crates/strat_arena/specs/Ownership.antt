-- What the owner of a block of bytes owns and lends.
use Rattle.std.specs.Prelude.{ℕ, ◌+◌, ◌^◌, List, [], ◌∷◌, length, Option, Some, None}
use base.Fraction.{full_share}
use base.Fml.{Lft, Fml, ftrue, ffalse, fsep, flt, froom}
use mir.Syntax.{Ty, ty_array, ty_int, w8}
use denote.Builtin.{u8}
use denote.Memory.{part_at, shared_of}
use denote.RawPtr.{Ptr, block_ptr, null_ptr}
use denote.Sharing.{nothing, said, beside}

-- a cell, o bytes into the block b: its byte, or the room for one
abbrev pub cell_own : ℕ → ℕ → Option ℕ → Fml
cell_own b o (Some x) = part_at u8 full_share x b o
cell_own b o None = froom (ty_int w8) b o

-- cells side by side
abbrev pub row_own : ℕ → ℕ → List (Option ℕ) → Fml
row_own b o [] = ftrue
row_own b o (c ∷ cs) = fsep (cell_own b o c) (row_own b (o + 1) cs)

-- what a `&` to a cell holds
abbrev pub cell_lent : ℕ → ℕ → Option ℕ → Lft → Fml
cell_lent b o (Some x) = shared_of u8 x b o
cell_lent b o None = nothing

-- what a `&` to cells side by side holds
abbrev pub row_lent : ℕ → ℕ → List (Option ℕ) → Lft → Fml
row_lent b o [] = nothing
row_lent b o (c ∷ cs) = beside (cell_lent b o c) (row_lent b (o + 1) cs)

-- there are fewer than 2 ^ 63 cells
abbrev pub few : List (Option ℕ) → Fml
few cs = flt (length cs) (2 ^ 63)

-- the cells of a block that begins there
abbrev pub cells_own : Ptr → List (Option ℕ) → Fml
cells_own (block_ptr b o) cs = fsep (few cs) (row_own b o cs)
cells_own null_ptr cs = ffalse

-- what a `&` to them holds
abbrev pub cells_lent : Ptr → List (Option ℕ) → Lft → Fml
cells_lent (block_ptr b o) cs = beside (said (few cs)) (row_lent b o cs)
cells_lent null_ptr cs = said ffalse

-- the allocator's token for a block of n bytes
abbrev pub lease_owns : (Ty → Ptr → Fml) → Ptr → ℕ → Fml
lease_owns token p n = token (ty_array (ty_int w8) n) p
