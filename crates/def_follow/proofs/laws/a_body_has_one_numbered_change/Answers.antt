use Rattle.std.proofs.Common.{refl}
use Rattle.def_follow.proofs.FollowLemmas.{one_numbered}
use Rattle.def_follow.proofs.ReceiptLemmas.{no_ten}
use Rattle.def_follow.proofs.laws.a_body_has_one_numbered_change.Goals as goal

pub returns : goal.returns
returns c = record { one = one_numbered; behind = no_ten _ refl; empty = no_ten _ refl }
