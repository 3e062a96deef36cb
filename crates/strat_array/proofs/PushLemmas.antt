-- Entries that are pushed into an array.
use Rattle.std.proofs.Common.{◌≡◌, ◌<◌, ◌≤◌, ◌+◌, ◌*◌, ℕ, cond, Bool, true, false, leb, List, [], ◌∷◌, ◌++◌, length, Some, sym, ap, ◌∙◌, arith, true≢false, length-append}
use Rattle.std.specs.Bool.{OnTrue}
use Rattle.std.proofs.lemmas.Bool.{OnTrue_at, le-leb}
use Rattle.strat_base.specs.declared.descriptors.Extent.{Extent}
use Rattle.strat_base.specs.Entries.{Entry}
use Rattle.strat_base.specs.EntryBytes.{fits_fields, entry_bytes}
use Rattle.strat_base.proofs.EntryBytesLemmas.{length-entry_bytes}
use Rattle.def_crash.specs.Image.{Image, window, patch}
use Rattle.def_crash.specs.Moments.{DiskView, Exposes, Writes}
use Rattle.def_crash.specs.Blocks.{TearsBlocks}
use Rattle.def_crash.proofs.BlockLemmas.{exposed_once}
use Rattle.def_crash.proofs.ImageLemmas.{window_patch}
use Rattle.def_crash.proofs.MomentLemmas.{at_told}
use Rattle.strat_extent.specs.Blocks.{SpaceView, is_free}
use Rattle.def_bytes.specs.Block.{block_in, block_front}
use Rattle.def_bytes.specs.Arrays.{blocks_of, block_on, entries_on}
use Rattle.strat_block.proofs.BlockFacts.{length-front}
use Rattle.strat_array.specs.Taking.{AreUsed}
use Rattle.strat_array.specs.Pushed.{IsWritten, blocks_needed}
use Rattle.strat_array.proofs.TakesLemmas.{used_agree}
use Rattle.strat_array.proofs.EntriesOnLemmas.{entries_on-append, entries_on-one, entries_on-kept}

-- a block that was written stands behind the others
pub block_added : (s : SpaceView) (v w : DiskView) (f g : Image) (olds new : List ℕ) (b : ℕ) (bytes : List ℕ) (es fs : List Entry) → length bytes ≡ 4096 → block_in bytes ≡ Some fs
    → new ≡ olds ++ b ∷ [] → AreUsed s olds → Exposes v f → Exposes w g → Writes v w (4096 * b) bytes → TearsBlocks (is_free s) v w
    → entries_on f olds ≡ Some es → entries_on g new ≡ Some (es ++ fs)
block_added s v w f g olds new b bytes es fs long block is used told now wrote torn old =
    let image : g ≡ patch f (4096 * b) bytes = exposed_once w g (patch f (4096 * b) bytes) now (at_told v.content (λ h. w.content ≡ Some (patch h (4096 * b) bytes)) f told wrote) in
    let window_is : window g (4096 * b) 4096 ≡ bytes =
    ap (λ (c : Image). window c (4096 * b) 4096) image ∙ ap (window (patch f (4096 * b) bytes) (4096 * b)) (sym long) ∙ window_patch f (4096 * b) bytes in
    let here : block_on g b ≡ Some fs = ap block_in window_is ∙ block in
    let others : entries_on g olds ≡ entries_on f olds = entries_on-kept f g olds (used_agree s olds f g used (torn.content f g told now)) in
    ap (entries_on g) is ∙ entries_on-append g olds (b ∷ []) es fs (others ∙ old) (entries_on-one g b fs here)

-- an entry alone has room in a block
pub one_fits_block : (e : Entry) → fits_fields e ≡ true → leb (length (block_front ([] ++ e ∷ []))) 4096 ≡ true
one_fits_block e lawful =
    le-leb (length (block_front (e ∷ []))) 4096
    (omega (arith, length-front (e ∷ []), length-entry_bytes e [] lawful, length-append (entry_bytes e) []))

-- one that has none stands behind others
pub others_first : (entries : List Entry) (e : Entry) → fits_fields e ≡ true → false ≡ leb (length (block_front (entries ++ e ∷ []))) 4096 → 0 < length entries
others_first [] e lawful none = absurd (true≢false (sym (one_fits_block e lawful) ∙ sym none))
others_first (d ∷ entries) e lawful none = omega arith

-- an entry behind those that were written
pub pushed_anew : (f g : Image) (extents new : List Extent) (pending next entries : List Entry) (e : Entry) → next ≡ e ∷ []
    → ((es : List Entry) → entries_on f (blocks_of extents) ≡ Some es → entries_on g (blocks_of new) ≡ Some (es ++ pending))
    → IsWritten f extents pending entries → IsWritten g new next (entries ++ e ∷ [])
pushed_anew f g extents new pending next entries e is writes old = record {
  written = old.written ++ pending;
  read = writes old.written old.read;
  all = ap (λ (l : List Entry). l ++ e ∷ []) old.all ∙ ap (λ (l : List Entry). (old.written ++ pending) ++ l) (sym is);
}

-- an entry that is pushed into an empty block
pub pushed_alone : (before next : List Entry) (e : Entry) (r : Bool) → fits_fields e ≡ true → before ≡ [] → r ≡ leb (length (block_front (before ++ e ∷ []))) 4096 → OnTrue r (next ≡ before ++ e ∷ []) → next ≡ e ∷ []
pushed_alone before next e r lawful empty room ok =
    let yes' : r ≡ true = room ∙ ap (λ (l : List Entry). leb (length (block_front (l ++ e ∷ []))) 4096) empty ∙ one_fits_block e lawful in
    OnTrue_at yes' ok ∙ ap (λ (l : List Entry). l ++ e ∷ []) empty

-- a block is written where the entry has no room behind others, and the entry is in none
pub blocks_after : (old new : List Extent) (pending mid empty next : List Entry) (e : Entry) → fits_fields e ≡ true → false ≡ leb (length (block_front (pending ++ e ∷ []))) 4096
    → mid ≡ pending → empty ≡ [] → blocks_needed new empty ≡ blocks_needed old mid → next ≡ e ∷ []
    → (length (blocks_of new) ≡ length (blocks_of old) + cond (leb (length (block_front (pending ++ e ∷ []))) 4096) 0 1) × (blocks_needed new next ≤ blocks_needed old pending + 1)
blocks_after old new pending mid empty next e lawful none same none' count alone =
    let some : 0 < length pending = others_first pending e lawful none in (
      omega (arith, some, ap length same, ap length none', count, ap {B = ℕ} (λ (t : Bool). cond t 0 1) none),
      omega (arith, some, ap length same, ap length none', count, ap length alone),
    )
