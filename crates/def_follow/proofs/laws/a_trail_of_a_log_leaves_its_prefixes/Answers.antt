use Rattle.def_follow.proofs.DiskLemmas.{trail_of_log, end_of_log}
use Rattle.def_follow.proofs.laws.a_trail_of_a_log_leaves_its_prefixes.Goals as goal

pub returns : goal.returns
returns g c = record {
  ok = λ changes_max versions_max log d start tables n. trail_of_log changes_max versions_max log _ start tables n;
  end = λ changes_max versions_max log d start tables n. end_of_log changes_max versions_max log _ start tables n;
  each = λ changes_max versions_max log d c all left. let shown = all c left in (shown.table, shown.shows, shown.of_log);
}
