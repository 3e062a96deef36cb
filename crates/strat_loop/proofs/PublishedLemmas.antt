-- The arrays that a store holds were in manifests on the disk while a run went on.
use Rattle.std.proofs.Common.{◌≡◌, ◌≤◌, inl, inr, List, [], ap, subst, arith}
use Rattle.std.specs.Prelude.{Contains, IfSome, flat_map}
use Rattle.std.proofs.lemmas.List.Elements.{Contains-append_cases}
use Rattle.strat_base.specs.declared.descriptors.ArrayDesc.{ArrayDesc}
use Rattle.strat_base.specs.declared.descriptors.LevelDesc.{LevelDesc}
use Rattle.def_crash.specs.Moments.{DiskView, Images, Passes}
use Rattle.def_crash.proofs.MomentLemmas.{at_told}
use Rattle.strat_cursor.specs.Held.{HeldCursors, no_cursors}
use Rattle.strat_cursor.specs.Looking.{arrays_there}
use Rattle.def_publish.proofs.ListLemmas.{contained_among}
use Rattle.strat_memory.specs.Held.{Held, IsConsistent, IsOnDisk, arrays_held}
use Rattle.strat_loop.specs.Session.{WasPublished}

-- an array of the levels of a store whose manifest is on the disk
published_now : (before now : DiskView) (s : Held) → before.moment ≤ now.moment → IfSome now.content (Images now) → IsConsistent s → IsOnDisk now s
    → (a : ArrayDesc) → Contains (arrays_there s.levels) a → WasPublished before now a
published_now before now s later leaves whole on a among =
    let left : Images now on.content = at_told now.content (Images now) on.content on.exposed leaves in
    record {
      moment = now.moment;
      since = later;
      till = omega arith;
      image = on.content;
      was = left;
      slot = s.slot;
      sb = s.sb;
      newest = on.newest on.content left;
      chained = s.chained;
      chain = on.chain on.content left;
      named = subst (λ (l : List ArrayDesc). Contains l a) (ap (flat_map (λ (l : LevelDesc). l.arrays)) whole.placed.listed_are) among;
    }

-- what was on the disk once was there
pub published_still : (before mid now : DiskView) (a : ArrayDesc) → Passes mid now → WasPublished before mid a → WasPublished before now a
published_still before mid now a passes was = record {
  moment = was.moment;
  since = was.since;
  till = omega (arith, was.till, passes.later);
  image = was.image;
  was = passes.kept was.moment was.image was.till was.was;
  slot = was.slot;
  sb = was.sb;
  newest = was.newest;
  chained = was.chained;
  chain = was.chain;
  named = was.named;
}

-- a store that was opened keeps no arrays for cursors
pub held_at_first : (before now : DiskView) (s : Held) → before.moment ≤ now.moment → IfSome now.content (Images now) → s.memory.cursors ≡ no_cursors → IsConsistent s → IsOnDisk now s
    → (a : ArrayDesc) → Contains (arrays_held s.memory s.levels) a → WasPublished before now a
held_at_first before now s later leaves closed whole on a among = elim (Contains-append_cases (arrays_there s.levels) s.memory.cursors.retired a among) [
  | inl there ↦ published_now before now s later leaves whole on a there
  | inr kept ↦ absurd (contained_among [] a (subst (λ (c : HeldCursors). Contains c.retired a) closed kept))
]

-- and later it keeps such alone as it held before
pub held_then : (before mid now : DiskView) (old new : Held) → Passes mid now → before.moment ≤ now.moment → IfSome now.content (Images now) → IsConsistent new → IsOnDisk now new
    → ((a : ArrayDesc) → Contains new.memory.cursors.retired a → Contains (arrays_held old.memory old.levels) a)
    → ((a : ArrayDesc) → Contains (arrays_held old.memory old.levels) a → WasPublished before mid a)
    → (a : ArrayDesc) → Contains (arrays_held new.memory new.levels) a → WasPublished before now a
held_then before mid now old new passes later leaves whole on retired named a among = elim (Contains-append_cases (arrays_there new.levels) new.memory.cursors.retired a among) [
  | inl there ↦ published_now before now new later leaves whole on a there
  | inr kept ↦ published_still before mid now a passes (named a (retired a kept))
]
