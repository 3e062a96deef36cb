-- The next contents of a store, as far as a promotion made them.
use Rattle.std.proofs.Common.{◌≡◌, ◌≤◌, ℕ, length, List, Option, Result, Ok, Err, refl, sym, subst}
use Rattle.std.specs.Prelude.{IfOk}
use Rattle.strat_array.specs.Kept.{Blocks}
use Rattle.strat_base.specs.declared.descriptors.Extent.{Extent}
use Rattle.strat_base.specs.declared.descriptors.LevelDesc.{LevelDesc}
use Rattle.def_crash.specs.Image.{Image}
use Rattle.def_crash.specs.Moments.{DiskView}
use Rattle.strat_extent.specs.Blocks.{SpaceView}
use Rattle.strat_extent.specs.Change.{IsMarked}
use Rattle.def_bytes.specs.Arrays.{blocks_of}
use Rattle.strat_gate.specs.SuperView.{super_of}
use Rattle.strat_journal.specs.Log.{Log}
use Rattle.strat_manifest.specs.ManifestView.{manifest_of}
use Rattle.strat_promote.specs.Promotions.{FiltersStand, level_of, target_of}
use Rattle.strat_promote.specs.declared.obstacle.Obstacle.{Obstacle}
use Rattle.def_slice.specs.Opened.{OpenPromotion}
use Rattle.def_publish.specs.Contents.{Contents}
use Rattle.def_publish.specs.Next.{AreNewArrays, arrays_made}
use Rattle.strat_memory.specs.Filters.{AreFiltersOn, filters_after}
use Rattle.strat_memory.specs.Held.{Held, IsConsistent}
use Rattle.strat_memory.specs.RecoveredFields.{held_of}
use Rattle.strat_memory.specs.declared.open_store.OpenStore.{OpenStore}
use Rattle.strat_publish.proofs.KeptLemmas.{stand_apart}
use Rattle.strat_publish.proofs.SettlingLemmas.{readied}
use Rattle.strat_publish.specs.Promoting.{HasMade, IsMadeBeside, StandsEnded, StandsMade}
use Rattle.strat_publish.specs.Publishing.{IsComputedBy, MayCompute, manifest_after}
use Rattle.strat_publish.specs.Settling.{IsReadied, StandApart, super_after}
use Rattle.strat_publish.specs.declared.made.Made.{Made}
use Rattle.strat_publish.specs.declared.next_manifest.Computed.{Computed}

-- they are readied
pub made_readied : (r : Result Computed Obstacle) (v w : DiskView) (h : OpenStore) (made : Made) (space after : SpaceView) → ((cached : Blocks) → IsConsistent (held_of h cached)) → h.sb.mem ≤ length h.journal.list
    → IfOk r (λ k. (x : Contents) (log : Log) (others : List Extent) → MayCompute v space h.memory log x made.target made.level made.filters others → x.chained.manifest ≡ manifest_of h.published.manifest
    → IsComputedBy w after x h.memory log k.made.target k.made.level k.first k.length k.chain others k.made.filters)
    → IfOk r (λ k. manifest_of k.manifest ≡ manifest_after (manifest_of h.published.manifest) h.memory k.made.target k.made.level)
    → IfOk r (λ k. k.made ≡ made)
    → IfOk r (λ k. (x : Contents) (cached : Blocks) → StandsMade v (held_of h cached) x space made.target made.level made.filters
    → IsReadied w (held_of h cached) x (super_after (super_of h.sb) k.first k.length) (record { manifest = manifest_of k.manifest; blocks = blocks_of k.chain }) (filters_after h.filters k.made.target k.made.filters)
    × AreNewArrays h.published.manifest.next_array (arrays_made k.made.level))
made_readied (Err e) v w h made space after whole full computed found same = tt
made_readied (Ok k) v w h made space after whole full computed found same = λ x cached st.
    let is = sym same in
    readied v w (held_of h cached) x space after h.published.chain k.made.target k.made.level k.first k.length k.chain (manifest_of k.manifest) k.made.filters (whole cached)
    (subst (λ (m : Made). StandsMade v (held_of h cached) x space m.target m.level m.filters) is st) full refl
    (λ y log besides may. computed y log besides (subst (λ (m : Made). MayCompute v space h.memory log y m.target m.level m.filters besides) same may)) found

-- and no block stands twice
pub made_apart : (r : Result Computed Obstacle) (h : OpenStore) (made : Made) (space after : SpaceView) → ((cached : Blocks) → IsConsistent (held_of h cached) × HasMade (held_of h cached) space made.target made.level)
    → IfOk r (λ k. IsMarked space k.chain after)
    → IfOk r (λ k. manifest_of k.manifest ≡ manifest_after (manifest_of h.published.manifest) h.memory k.made.target k.made.level)
    → IfOk r (λ k. k.made ≡ made)
    → IfOk r (λ k. (cached : Blocks) → StandApart k.made.target (held_of h cached) (record { manifest = manifest_of k.manifest; blocks = blocks_of k.chain }))
made_apart (Err e) h made space after kept marked found same = tt
made_apart (Ok k) h made space after kept marked found same = λ cached.
    let is = sym same in
    stand_apart (held_of h cached) space after k.made.target k.made.level k.chain (manifest_of k.manifest) (kept cached).0
    (subst (λ (m : Made). HasMade (held_of h cached) space m.target m.level) is (kept cached).1) marked found

-- what a promotion made that has ended, as it was taken from it
pub ended_made : (v : DiskView) (s : Held) (x : Contents) (o : OpenPromotion) (made : Made) → made.target ≡ target_of o.promotion → made.level ≡ level_of o.promotion
    → ((g : Image) → FiltersStand g o.promotion → AreFiltersOn g (arrays_made made.level) made.filters) → StandsEnded v s x o → StandsMade v s x o.space made.target made.level made.filters
ended_made v s x o made target level filters st = record {
  stands = st.stands;
  beside = subst (λ (n : ℕ). IsMadeBeside v x o.space n made.level) (sym target) (subst (λ (l : Option LevelDesc). IsMadeBeside v x o.space (target_of o.promotion) l) (sym level) st.beside);
  filtered = λ g now. filters g (st.filtered g now);
}

pub made_taken_from : (s : Held) (o : OpenPromotion) (made : Made) → made.target ≡ target_of o.promotion → made.level ≡ level_of o.promotion → HasMade s o.space (target_of o.promotion) (level_of o.promotion)
    → HasMade s o.space made.target made.level
made_taken_from s o made target level is =
    subst (λ (n : ℕ). HasMade s o.space n made.level) (sym target) (subst (λ (l : Option LevelDesc). HasMade s o.space (target_of o.promotion) l) (sym level) is)
