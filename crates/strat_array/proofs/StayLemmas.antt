-- What stays between two calls of a writer.
use Rattle.std.proofs.Common.{◌≡◌, ℕ, Bool, true, false, leb, cond, List, [], ◌∷◌, ◌++◌, length, None, refl, sym, ap, ◌∙◌, append_assoc}
use Rattle.std.specs.List.{list_all}
use Rattle.std.specs.Ordering.{is_lt}
use Rattle.std.proofs.lemmas.Bool.{and_parts}
use Rattle.std.proofs.lemmas.List.{append-nil}
use Rattle.def_bytes.specs.Block.{block_front}
use Rattle.strat_base.specs.Order.{entry_cmp}
use Rattle.strat_base.specs.Entries.{Entry, is_ascending}
use Rattle.def_crash.specs.Blocks.{AgreeOn}
use Rattle.def_crash.specs.Image.{Image}
use Rattle.def_bytes.specs.Arrays.{blocks_of, entries_on}
use Rattle.strat_array.specs.Progress.{ArrayProgress}
use Rattle.strat_array.specs.Pushed.{IsEndOf, IsPushed, with_entry}
use Rattle.strat_array.proofs.EntriesOnLemmas.{entries_on-kept}

pub pushed_stay : (f g : Image) (w : ArrayProgress) (es : List Entry) → AgreeOn (blocks_of w.extents) f g → IsPushed f w es → IsPushed g w es
pushed_stay f g w es same pushed = record {
  stands = record { written = pushed.stands.written; read = entries_on-kept f g (blocks_of w.extents) same ∙ pushed.stands.read; all = pushed.stands.all };
  count = pushed.count;
  filter = pushed.filter;
}

pub none_pushed : (f : Image) (id : ℕ) → IsPushed f (record { id = id; count = 0; pending = []; extents = []; filter = None }) []
unfolding entries_on
none_pushed f id = record { stands = record { written = []; read = refl; all = refl }; count = refl; filter = tt }

behind_ascends : (xs ys : List Entry) → is_ascending (xs ++ ys) ≡ true → is_ascending ys ≡ true
behind_ascends [] ys up = up
behind_ascends (x ∷ xs) ys up =
    behind_ascends xs ys (and_parts (list_all (λ later. is_lt (entry_cmp x.key x.version later.key later.version)) (xs ++ ys)) (is_ascending (xs ++ ys)) up).1

pub pending_ascends : (f : Image) (w : ArrayProgress) (es : List Entry) → IsPushed f w es → is_ascending es ≡ true → is_ascending w.pending ≡ true
pending_ascends f w es pushed up = behind_ascends pushed.stands.written w.pending (ap is_ascending (sym pushed.stands.all) ∙ up)

-- what is in no block is the end of all
pub pushed_end : (f : Image) (w : ArrayProgress) (es : List Entry) → IsPushed f w es → IsEndOf w.pending es
pushed_end f w es pushed = record { front = pushed.stands.written; split = pushed.stands.all }

pub none_end : (all : List Entry) → IsEndOf [] all
none_end all = record { front = all; split = sym (append-nil all) }

pub more_end : (all pending : List Entry) (e : Entry) → IsEndOf pending all → IsEndOf (with_entry pending e) (all ++ e ∷ [])
more_end all pending e ends = go (leb (length (block_front (pending ++ e ∷ []))) 4096)
  where
    go : (b : Bool) → IsEndOf (cond b (pending ++ e ∷ []) (e ∷ [])) (all ++ e ∷ [])
    go true = record { front = ends.front; split = ap (λ (x : List Entry). x ++ e ∷ []) ends.split ∙ append_assoc ends.front pending (e ∷ []) }
    go false = record { front = all; split = refl }

pub end_ascends : (all pending : List Entry) (e : Entry) → IsEndOf pending all → is_ascending (all ++ e ∷ []) ≡ true → is_ascending (pending ++ e ∷ []) ≡ true
end_ascends all pending e ends up =
    behind_ascends ends.front (pending ++ e ∷ []) (ap is_ascending (sym (ap (λ (x : List Entry). x ++ e ∷ []) ends.split ∙ append_assoc ends.front pending (e ∷ []))) ∙ up)
