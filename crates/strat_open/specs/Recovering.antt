-- What recovery finds in an image.
use Rattle.std.specs.Prelude.{◌≡◌, Bool, length, Some, Ok, IsTrue, ◌↔◌}
use Rattle.def_crash.specs.Image.{Image}
use Rattle.def_bytes.specs.Chained.{manifest_at}
use Rattle.def_bytes.specs.SuperBlock.{newest_in}
use Rattle.strat_gate.specs.SuperView.{super_of}
use Rattle.strat_journal.specs.Log.{IsStale}
use Rattle.def_recovery.specs.Opening.{recover}
use Rattle.def_publish.specs.Contents.{Contents, contents_state}
use Rattle.def_publish.specs.Standing.{ReadsAs}
use Rattle.def_state.specs.Sound.{IsSound}
use Rattle.strat_memory.specs.declared.open_store.OpenStore.{OpenStore}
use Rattle.strat_memory.specs.Admitting.{chained_of}
use Rattle.strat_memory.specs.RecoveredFields.{head_recovered}

-- this store is what recovery finds in an image, and its journal knows whether the other region is to be shut
pub record IsRecoveredFrom (f : Image) (r : OpenStore) : Type 0 where
  pub newest : newest_in f ≡ Ok (Some (r.slot, super_of r.sb))
  pub chain : manifest_at r.sb.format f r.sb.manifest r.sb.length ≡ Ok (chained_of r.published)
  pub head : recover f ≡ Ok (Some (head_recovered r))
  pub stale : IsTrue r.journal.stale ↔ IsStale f r.sb.mem r.sb.region (length r.journal.list)

-- an image reads as sound contents, and this says whether the first gate of their other region is to be shut
pub record ReadsAsSound (f : Image) (stale : Bool) (x : Contents) : Type 0 where
  pub reads : ReadsAs f x
  pub sound : IsSound (contents_state x)
  pub stale_is : IsTrue stale ↔ IsStale f x.sb.mem x.sb.region (length x.journal)
