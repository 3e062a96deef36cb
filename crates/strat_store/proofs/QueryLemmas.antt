-- What a command that asks for no change leaves of the cursors of a store.
use Rattle.std.proofs.Common.{◌≡◌, Bool, true, false, Contains, List, Option, Some, None, sym, ap, subst, ◌∙◌}
use Rattle.std.specs.Prelude.{if◌then◌else◌}
use Rattle.std.proofs.lemmas.List.Elements.{Contains-append_right}
use Rattle.strat_array.specs.Kept.{Blocks}
use Rattle.strat_base.specs.Change.{Change}
use Rattle.strat_base.specs.declared.descriptors.ArrayDesc.{ArrayDesc}
use Rattle.strat_base.specs.declared.descriptors.LevelDesc.{LevelDesc}
use Rattle.strat_cursor.proofs.RetiredLemmas.{closed_from}
use Rattle.strat_cursor.specs.Cursors.{closed_at}
use Rattle.strat_cursor.specs.Looking.{arrays_there}
use Rattle.strat_model.specs.Answer.{Answer, accepts}
use Rattle.strat_model.specs.Pairs.{Pairs}
use Rattle.strat_model.specs.Request.{Request, OpenCursor, NextPairs, CloseCursor}
use Rattle.strat_model.specs.declared.replies.Reply.{Reply}
use Rattle.strat_model.specs.declared.replies.Reply.TheVariants as reply
use Rattle.strat_store.specs.Applying.{change_wanted}
use Rattle.strat_store.specs.Cursoring.{LeavesCursors, cursors_after, paged_at}
use Rattle.strat_memory.specs.Memory.{Memory, cursor_from, with_cursor}
use Rattle.strat_memory.specs.RecoveredFields.{held_of}
use Rattle.strat_memory.specs.declared.open_store.OpenStore.{OpenStore}

-- no array is kept that was not
kept_by : (m : Memory) (levels : List (Option LevelDesc)) (request : Request) (answer : Answer) (a : ArrayDesc) → Contains (cursors_after m levels request answer).retired a → Contains m.cursors.retired a
kept_by m levels (OpenCursor v lo hi) answer a of = by (accepts answer.reply) of
  where
    by : (b : Bool) → Contains (if b then with_cursor m.cursors (cursor_from m levels v lo hi) else m.cursors).retired a → Contains m.cursors.retired a
    by true there = there
    by false there = there
kept_by m levels (NextPairs n limit) answer a of = by answer.reply answer.pairs of
  where
    by : (told : Reply) (pairs : Pairs) → Contains (paged_at n told pairs m.cursors).retired a → Contains m.cursors.retired a
    by (reply.Pairs more) pairs there = there
    by _ pairs there = there
kept_by m levels (CloseCursor n) answer a of = by (accepts answer.reply) of
  where
    by : (b : Bool) → Contains (if b then closed_at n m.cursors else m.cursors).retired a → Contains m.cursors.retired a
    by true there = closed_from m.cursors n a there
    by false there = there
kept_by m levels _ answer a of = of

pub query_leaves : (r new : OpenStore) (cached later : Blocks) (request : Request) (answer : Answer) (b : Bool) → change_wanted request ≡ None
    → new ≡ record r { memory = record r.memory { cursors = cursors_after r.memory r.published.levels request answer } }
    → LeavesCursors (held_of r cached) request answer (record (held_of new later) { spent = b })
query_leaves r new cached later request answer b none is = record {
  looked = λ _. ap (λ (z : OpenStore). record (held_of z later) { spent = b }) is;
  changed = λ c wanted. absurd (let x : ◌≡◌ {A = Option Change} None (Some c) = sym none ∙ wanted in cc);
  retired = λ a of.
      Contains-append_right (arrays_there r.published.levels) r.memory.cursors.retired a
      (kept_by r.memory r.published.levels request answer a (subst (λ (z : OpenStore). Contains z.memory.cursors.retired a) is of));
}
