-- A trail of tables of a log.
use Rattle.std.proofs.Common.{◌≤◌, ℕ, zero, suc, List, [], ◌∷◌, arith}
use Rattle.std.specs.List.{AllByRecursion}
use Rattle.strat_base.specs.Change.{Change}
use Rattle.def_crash.specs.Image.{Image}
use Rattle.def_crash.specs.Moments.{DiskView, Images}
use Rattle.def_crash.specs.Trail.{At, Trail}
use Rattle.strat_model.specs.Table.{Table}
use Rattle.def_publish.specs.Standing.{ShowsTable}
use Rattle.def_follow.specs.Log.{IsOfLog}
use Rattle.def_follow.specs.OnDisk.{EachOfLog, ShowsOfLog}

-- what is at an index of a list all of whose elements have a property has it
at_all : {T : Type 0} (Q : T → Type 0) (P : T → Type 0) (xs : List T) (i : ℕ) → AllByRecursion Q xs → At xs i P → (x : T) × P x × Q x
at_all Q P [] i all at = absurd at
at_all Q P (x ∷ xs) zero all at = (x, at, all.0)
at_all Q P (x ∷ xs) (suc i) all at = at_all Q P xs i all.1 at

-- and both are said of it
at_both : {T : Type 0} (Q : T → Type 0) (P : T → Type 0) (xs : List T) (i : ℕ) → AllByRecursion Q xs → At xs i P → At xs i (λ x. P x × Q x)
at_both Q P [] i all at = absurd at
at_both Q P (x ∷ xs) zero all at = (at, all.0)
at_both Q P (x ∷ xs) (suc i) all at = at_both Q P xs i all.1 at

-- each image of a moment behind the start of a trail of a log's tables shows one of them
pub trail_of_log : (changes_max versions_max : ℕ) (log : List Change) (v : DiskView) (start : ℕ) (tables : List Table) (n : ℕ) → Trail ShowsTable v start tables n
    → AllByRecursion (IsOfLog changes_max versions_max log) tables → (m : ℕ) (c : Image) → start ≤ m → m ≤ v.moment → v.images_at m c → ShowsOfLog changes_max versions_max log c
trail_of_log changes_max versions_max log v start tables n trail all m c low high left =
    let shown = trail.each 0 m c (omega arith) (omega (arith, trail.first, low)) high left in
    let there = at_all (IsOfLog changes_max versions_max log) (ShowsTable c) tables shown.0 all shown.2 in
    record { table = there.0; shows = there.1; of_log = there.2 }

-- so it is at the end, where each shows one of those behind the last mark
pub end_of_log : (changes_max versions_max : ℕ) (log : List Change) (v : DiskView) (start : ℕ) (tables : List Table) (n : ℕ) → Trail ShowsTable v start tables n
    → AllByRecursion (IsOfLog changes_max versions_max log) tables
    → EachOfLog changes_max versions_max log v × ((c : Image) → Images v c → (i : ℕ) × (n ≤ i) × At tables i (λ (t : Table). ShowsTable c t × IsOfLog changes_max versions_max log t))
end_of_log changes_max versions_max log v start tables n trail all = (
  λ c left. let shown = trail.each n v.moment c (omega arith) trail.last (omega arith) left in
      let there = at_all (IsOfLog changes_max versions_max log) (ShowsTable c) tables shown.0 all shown.2 in
      record { table = there.0; shows = there.1; of_log = there.2 },
  λ c left. let shown = trail.each n v.moment c (omega arith) trail.last (omega arith) left in
      (shown.0, shown.1, at_both (IsOfLog changes_max versions_max log) (ShowsTable c) tables shown.0 all shown.2),
)
