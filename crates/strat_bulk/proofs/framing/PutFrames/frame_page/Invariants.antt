use Rattle.std.proofs.Common.{◌≡◌, ◌≤◌, ◌*◌, ◌+◌, ◌%◌, ℕ, length, take}
use Rattle.std.specs.List.{flat_map}
use Rattle.strat_model.specs.Stream.{frame}
use Rattle.def_bulk.specs.Exporting.{put_bodies}
use Rattle.strat_bulk.specs.Runs.{AreLawful}
use Rattle.strat_bulk.proofs.framing.PutFrames.frame_page.Given as goal

abbrev pub invariant-loop-i : goal.invariant-loop-i
invariant-loop-i l = record {
  framed : (n : ℕ) → n % 4294967296 ≡ l.initial.self.tag → (l.self.bytes ≡ flat_map frame (put_bodies n (take l.i l.page))) × ((n + l.i) % 4294967296 ≡ l.self.tag);
  len : length l.self.bytes ≤ 1296 * l.i;
  lawful : AreLawful (take l.i l.page);
}
