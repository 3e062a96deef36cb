use Rattle.std.proofs.Common.{inl, inr, refl, ap}
use Rattle.strat_base.specs.Change as change
use Rattle.strat_memory.specs.Held.{Held}
use Rattle.strat_memory.specs.Memory.{Memory}
use Rattle.strat_store_pins.proofs.untouched.a_change_short_of_memory_leaves_what_is_held.Goals as goal

pub returns-clause-same : goal.returns-clause-same
returns-clause-same g c = λ d e old new v key value is.
    let same = (is.short (change.Put v key value) refl refl).1 in
    (ap (λ (s : Held). s.slot) same, ap (λ (s : Held). s.sb) same, ap (λ (s : Held). s.chained) same, ap (λ (s : Held). s.log) same, ap (λ (s : Held). s.levels) same, ap (λ (s : Held). s.cached) same, ap (λ (s : Held). s.promoting) same)

pub returns-clause-kept : goal.returns-clause-kept
returns-clause-kept g c = λ d e old new v key value is. elim (is.short (change.Put v key value) refl refl).0 [
  | inl same ↦ (ap (λ (m : Memory). m.parents) same, ap (λ (m : Memory). m.updates) same, ap (λ (m : Memory). m.changes) same, ap (λ (m : Memory). m.cursors.opened) same, ap (λ (m : Memory). m.cursors.retired) same)
  | inr same ↦ (ap (λ (m : Memory). m.parents) same.1, ap (λ (m : Memory). m.updates) same.1, ap (λ (m : Memory). m.changes) same.1, ap (λ (m : Memory). m.cursors.opened) same.1, ap (λ (m : Memory). m.cursors.retired) same.1)
]

pub returns-clause-found : goal.returns-clause-found
returns-clause-found g c = λ d e old new v key value is. elim (is.short (change.Put v key value) refl refl).0 [
  | inl same ↦ inl (ap (λ (m : Memory). m.entries) same, ap (λ (m : Memory). m.sealed) same, ap (λ (m : Memory). m.spare) same)
  | inr same ↦ inr (same.0, ap (λ (m : Memory). m.entries) same.1, ap (λ (m : Memory). m.sealed) same.1, ap (λ (m : Memory). m.spare) same.1)
]
