use Rattle.def_follow.proofs.FollowLemmas.{followed, broken_off}
use Rattle.def_follow.proofs.laws.a_follower_has_a_prefix_of_its_log.Goals as goal

pub returns : goal.returns
returns c = record {
  ok = λ changes_max versions_max mem log at after xs is run there of. followed changes_max versions_max log is mem at xs after run there of;
  err = λ changes_max versions_max mem log at done body r is broken there of. broken_off changes_max versions_max log is mem at body r done broken there of;
}
