-- Elements of lists, by place and by name.
use Rattle.std.proofs.Common.{suc, inl, inr, List, [], ◌∷◌, sym, arith}
use Rattle.std.specs.List.{Contains}
use Rattle.strat_base.proofs.ListFacts.{Among}
use Rattle.def_recovery.proofs.BadLemmas.{contained_at}

pub contained_among : {X : Type 0} (xs : List X) (x : X) → Contains xs x → Among x xs
contained_among xs x at = contained_at x xs at.0 at.1 at.2

pub among_contained : {X : Type 0} (xs : List X) (x : X) → Among x xs → Contains xs x
among_contained [] x among = absurd among
among_contained (y ∷ ys) x (inl here) = (0, omega arith, sym here)
among_contained (y ∷ ys) x (inr there) = let at = among_contained ys x there in (suc at.0, omega (arith, at.1), at.2)
