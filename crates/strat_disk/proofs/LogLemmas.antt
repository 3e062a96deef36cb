-- The events of a disk in memory, one after the other.
use Rattle.std.proofs.Common.{◌≡◌, List, [], ◌∷◌, ◌++◌, refl, sym, ◌∙◌, ap}
use Rattle.strat_disk.specs.Medium.{Medium}
use Rattle.strat_disk.specs.History.{after_event, replay}
use Rattle.strat_disk.specs.declared.event.Event.{Event}

pub replay_more : (m : Medium) (events : List Event) (event : Event) → replay m (events ++ event ∷ []) ≡ after_event event (replay m events)
unfolding replay
replay_more m [] event = refl
replay_more m (e ∷ events) event = replay_more (after_event e m) events event

-- one event more, from an equal start
pub replays_more : (old new : Medium) (events new_events : List Event) (event : Event) (before after : Medium) → new ≡ old
    → new_events ≡ events ++ event ∷ [] → replay old events ≡ before → after ≡ after_event event before → replay new new_events ≡ after
replays_more old new events new_events event before after same more replays is =
    ap (λ (m : Medium). replay m new_events) same ∙ ap (λ (l : List Event). replay old l) more ∙ replay_more old events event ∙ ap (λ (m : Medium). after_event event m) replays ∙ sym is

pub replays_same : (old new : Medium) (events new_events : List Event) (before after : Medium) → new ≡ old → new_events ≡ events
    → replay old events ≡ before → after ≡ before → replay new new_events ≡ after
replays_same old new events new_events before after same more replays is =
    ap (λ (m : Medium). replay m new_events) same ∙ ap (λ (l : List Event). replay old l) more ∙ replays ∙ sym is

pub replays_none : (first now : Medium) (events : List Event) → events ≡ [] → first ≡ now → replay first events ≡ now
unfolding replay
replays_none first now events none same = ap (λ (l : List Event). replay first l) none ∙ same
