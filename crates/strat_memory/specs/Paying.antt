-- What a store pays for its arrays: how many entries it stored and wrote.
use Rattle.std.specs.Prelude.{◌≡◌, ◌≤◌, ℕ, ◌*◌, Some}
use Rattle.def_crash.specs.Image.{Image}
use Rattle.def_crash.specs.Moments.{DiskView, Since}
use Rattle.def_recovery.specs.Opening.{reads_as}
use Rattle.def_state.specs.State.{State, IsPaid, stored, updates_of}

-- the state that an image reads as, if it reads as one, is paid for
abbrev pub IsPaidIn : Image → Type 0
IsPaidIn c = (s : State) → reads_as c ≡ Some s → IsPaid s

-- it stores at most two entries for each update
abbrev pub StoresTwoPerUpdate : Image → Type 0
StoresTwoPerUpdate c = (s : State) → reads_as c ≡ Some s → stored s ≤ 2 * updates_of s

-- what a crash may leave from a moment on is paid for
abbrev pub ArePaidSince : DiskView → ℕ → Type 0
ArePaidSince v start = (c : Image) → Since v start c → IsPaidIn c

-- and stores at most two entries for each update
abbrev pub StoreTwoSince : DiskView → ℕ → Type 0
StoreTwoSince v start = (c : Image) → Since v start c → StoresTwoPerUpdate c
