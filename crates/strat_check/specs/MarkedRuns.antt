-- A run over the entries of an array whose versions are below a number, marked with its place among others.
use Rattle.std.specs.Prelude.{◌≡◌, ℕ, ◌*◌, Some, drop, map, option_map}
use Rattle.strat_base.specs.declared.descriptors.ArrayDesc.{ArrayDesc}
use Rattle.def_crash.specs.Image.{Image}
use Rattle.def_crash.specs.Moments.{DiskView, Exposes}
use Rattle.strat_merge.specs.Runs.{RunView}
use Rattle.strat_promote.specs.LeadRuns.{leads_from}
use Rattle.strat_promote.specs.Leads.{misfit_in}
use Rattle.def_check.specs.Marked.{marked}
use Rattle.strat_check.specs.declared.marked_run.MarkedRun.{MarkedRun}
use Rattle.strat_check.specs.Below.{versions_below}

-- a run at a place, its entries marked
abbrev pub marked_view : ℕ → RunView → RunView
marked_view i run = record {
  blocks = run.blocks;
  versions = 16384 * run.versions;
  first = option_map (marked i) run.first;
  left = λ c. map (marked i) (run.left c);
  misfit = run.misfit;
}

-- the entries that a run has left, without its marks
abbrev pub unmarked_seen : MarkedRun → RunView
unmarked_seen r =
    leads_from (versions_below r.versions) r.versions (drop r.at r.blocks.entries) r.blocks.blocks

-- what a merge sees of it
abbrev pub marked_seen : MarkedRun → RunView
marked_seen r = marked_view r.place (unmarked_seen r)

-- what is bad for a run on the content that a disk exposes is bad in an array
abbrev pub AreMisfitsOf : DiskView → ArrayDesc → RunView → Type 0
AreMisfitsOf disk a run =
    (f : Image) (b : ℕ) → Exposes disk f → run.misfit f ≡ Some b → misfit_in f a ≡ Some b
