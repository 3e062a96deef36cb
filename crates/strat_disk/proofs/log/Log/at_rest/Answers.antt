use Rattle.std.proofs.Common.{◌≡◌, ℕ, sym, ◌∙◌, ap, slice_index, List, length}
use Rattle.strat_disk.specs.Medium.{Medium, at_rest}
use Rattle.strat_disk.proofs.LogLemmas.{replays_none}
use Rattle.strat_disk.proofs.log.Log.at_rest.Goals as goal
use Rattle.strat_disk.proofs.log.Log.at_rest.Goals.{After-new}

copied : (c : After-new) → c.in_ok-from_slice.field-0.items ≡ c.args.bytes.items
copied c = c.in_ok-from_slice.ensures.items ∙ c.deref.ensures.value

pub invariant_of-result-clause-same_len : goal.invariant_of-result-clause-same_len
invariant_of-result-clause-same_len c = ap length (c.in_ok-first.ensures.found ∙ copied c ∙ sym c.in_ok-present.ensures.found)

pub invariant_of-result-clause-replays : goal.invariant_of-result-clause-replays
invariant_of-result-clause-replays c =
    replays_none _ _ _ c.new.ensures.items
    (c.in_ok-first.ensures.ok ∙ ap (λ (l : List ℕ). at_rest (slice_index l)) (copied c) ∙ sym c.in_ok-present.ensures.ok)

pub invariant_of-result-clause-quiet : goal.invariant_of-result-clause-quiet
invariant_of-result-clause-quiet c = λ _ i. ap (λ (m : Medium). m.pending i) c.in_ok-present.ensures.ok
