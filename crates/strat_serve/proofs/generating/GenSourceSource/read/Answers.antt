use Rattle.std.proofs.Common.{◌≡◌, ◌-◌, List, ℕ, suc, length, drop, take, min, ap, ◌∙◌}
use Rattle.def_texts.specs.Workload.{changes_from}
use Rattle.strat_serve.specs.Generated.{frame_bytes_from}
use Rattle.strat_serve.proofs.GeneratedLemmas.{gives_front, none_follows, all_behind}
use Rattle.strat_serve.proofs.generating.GenSourceSource.read.Goals as goal

pub returns-clause-ok : goal.returns-clause-ok
returns-clause-ok c =
    let s = c.refill.new.self in
    let n = c.copy_front-n.result in
    let rest : List ℕ = frame_bytes_from (suc s.drawn) (changes_from (s.count - s.drawn) (suc s.drawn) s.state s.parents.items) in
    let front : take (length c.as_slice.result.now - s.given) (drop s.given c.as_slice.result.now) ≡ drop s.given s.frame.items =
    all_behind c.as_slice.result.now s.given ∙ ap (drop s.given) c.as_slice.ensures.value in
    gives_front c.args.self.now s.frame.items rest c.copy_front-n.new.into s.given n (length c.args.into.now)
    (c.refill.ensures.ok ∙ c.self.view_is) c.refill.ensures.kept.within (λ all. none_follows s.count s.drawn s.state s.parents.items (c.refill.ensures.end all))
    (c.copy_front-n.ensures.len ∙ ap (λ (x : List ℕ). min (length x) (length c.args.into.now)) front)
    (c.copy_front-n.ensures.ok ∙ ap (take n) front) c.copy_front-n.ensures.same
