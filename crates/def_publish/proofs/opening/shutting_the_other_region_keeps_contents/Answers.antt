use Rattle.def_publish.proofs.GateLemmas.{gate_kept, gate_trail, gate_stands}
use Rattle.def_publish.proofs.opening.shutting_the_other_region_keeps_contents.Goals as goal

pub returns : goal.returns
returns g c = record {
  images = λ old new x few reads torn. gate_kept _ _ x few reads torn;
  trail = λ old new x few reads torn sound time. gate_trail _ _ x few reads torn sound time;
  stands = λ old new x few reads torn sound time. gate_stands _ _ x few reads torn sound time;
}
