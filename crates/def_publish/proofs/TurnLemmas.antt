-- A journal that turns at the end of a publication.
use Rattle.std.proofs.Common.{◌≡◌, ℕ, Bool, [], ◌∷◌, drop, sym, ap, ◌∙◌, subst}
use Rattle.def_crash.specs.Blocks.{TearsBlocks}
use Rattle.def_crash.specs.Moments.{DiskView, Passes, TearsOnly}
use Rattle.def_crash.specs.Trail.{Trail}
use Rattle.def_bytes.specs.Layout.{region_at, other_region}
use Rattle.strat_journal.specs.Log.{Log, IsRegionShut, region_turned}
use Rattle.def_meaning.specs.StateTable.{table_of}
use Rattle.def_publish.specs.Appending.{IsLogOf}
use Rattle.def_publish.specs.Contents.{Contents, contents_state}
use Rattle.def_publish.specs.Publication.{Succeeds, IsPrepared, LaysSuper, HasLaid}
use Rattle.def_publish.specs.Standing.{ShowsTable, AreFree, LeavesContent, ContentsStand}
use Rattle.def_publish.proofs.PublishLemmas.{published_stands, whole_trail}

pub turned_log : (x y : Contents) (log : Log) → Succeeds x y → IsLogOf x log → IsLogOf y (region_turned log)
turned_log x y log next is = record {
  mem = is.mem ∙ sym next.says.mem;
  active = ap other_region is.active ∙ sym next.region;
  list = (λ i. drop (is.mem i) (is.list i)) ∙ sym next.journal;
}

module _ (v1 v2 v3 : DiskView) (x y : Contents) (log : Log) (p : IsPrepared v1 x y) (lays : LaysSuper v1 v2 y.slot y.sb) (laid : HasLaid v1 v2 y.slot y.sb) (is : IsLogOf x log)
    (torn : TearsOnly v2 v3 (region_at log.mem log.active) 1) (time : Passes v2 v3) where
  place : region_at log.mem log.active ≡ region_at x.sb.mem x.sb.region
  place = λ i. region_at (is.mem i) (is.active i)

  torn_there : TearsOnly v2 v3 (region_at x.sb.mem x.sb.region) 1
  torn_there = subst (λ (n : ℕ). TearsOnly v2 v3 n 1) place torn

  pub turned_trail : (v0 : DiskView) (free : ℕ → Bool) → ContentsStand v0 x → AreFree free x → TearsBlocks free v0 v1 → Trail ShowsTable v3 v0.moment (table_of (contents_state x) ∷ []) 0
  turned_trail v0 free stands are wrote = whole_trail v0 v1 x y free stands are wrote p v2 lays laid v3 torn_there time

  pub turned_contents : LeavesContent v2 → LeavesContent v3 → IsRegionShut v3 log.mem log.active → ContentsStand v3 y
  turned_contents leaves2 leaves3 shut = published_stands v1 x y p v2 lays laid v3 torn_there time leaves2 leaves3 (λ c left up. shut c left (ap c place ∙ up))
