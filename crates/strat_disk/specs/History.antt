-- The moments of a disk in memory: what was written and synced, one after the other.
use Rattle.std.specs.Prelude.{◌≡◌, ◌≤◌, ℕ, ◌+◌, List, [], ◌∷◌, length, take}
use Rattle.std.proofs.Common.{subst, sym, ◌∙◌, ap, arith}
use Rattle.std.proofs.lemmas.List.{take_all}
use Rattle.strat_disk.specs.Medium.{Medium, written, settled, Leaves, IsWhole}
use Rattle.strat_disk.specs.declared.event.Event.{Event}
use Rattle.strat_disk.specs.declared.event.Event.TheVariants.{Wrote, Synced}

-- after one event
unfoldable pub after_event : Event → Medium → Medium
after_event (Wrote at bytes) m = written at bytes.items m
after_event Synced m = settled m

-- after these events
unfoldable pub replay : Medium → List Event → Medium
replay m [] = m
replay m (event ∷ events) = replay (after_event event m) events

-- after the first n of them
abbrev pub at_moment : Medium → List Event → ℕ → Medium
at_moment first events n = replay first (take n events)

-- at most one event more, and the moments before it as they were
pub record Continues (old_first : Medium) (old : List Event) (new_first : Medium)
    (new : List Event) : Type 0 where
  pub later : length old ≤ length new
  pub one : length new ≤ length old + 1
  pub past : (n : ℕ) → n ≤ length old → at_moment new_first new n ≡ at_moment old_first old n

-- what a whole disk reads as may be left by a crash
pub content_left : (first : Medium) (events : List Event) (now : Medium) → replay first events ≡ now
    → IsWhole now → Leaves (at_moment first events (length events)) now.content
content_left first events now replays whole =
    let all = take_all (length events) events (omega arith) in
    let e : at_moment first events (length events) ≡ now =
    ap (λ (l : List Event). replay first l) all ∙ replays in
    subst (λ (m : Medium). Leaves m now.content) (sym e)
    (record { bytes = whole.content; durable = whole.same })
